use Rattle.std.proofs.Common.{◌≡◌, ◌<◌, ℕ, List, [], length, map, drop, get_or, set, ap, sym, ◌∙◌}
use Rattle.std.proofs.lemmas.List.{map-set, get_or-map}
use Rattle.std.proofs.Math.Seq.{map-set_same}
use Rattle.mail_contract.specs.Carried.{Carried}
use Rattle.mail_contract.specs.Parcels.{GivesUp}
use Rattle.mail_contract.proofs.posts.parcel_of.Goals as goal

-- of several senders the one at a place gives up a parcel
gives_up : {T M : Type 0} (number : T → ℕ) (sent given : T → List M) (senders : List T) (place : ℕ) (before now : T) (parcel : Carried M)
    → place < length senders → before ≡ get_or senders place before
    → number now ≡ number before → sent now ≡ sent before → given now ≡ sent before
    → parcel ≡ record { sender = number before; begin = length (given before); messages = drop (length (given before)) (sent before) }
    → GivesUp number sent given place parcel senders (set senders place now)
gives_up number sent given senders place before now parcel low at same_number same_sent gave is =
    let its_number : number before ≡ get_or (map number senders) place 0 = ap number at ∙ sym (get_or-map number senders place before 0 low) in
    let its_sent : sent before ≡ get_or (map sent senders) place [] = ap sent at ∙ sym (get_or-map sent senders place before [] low) in
    let its_given : given before ≡ get_or (map given senders) place [] = ap given at ∙ sym (get_or-map given senders place before [] low) in
    record {
      numbers_stay = map-set_same number senders place now before (same_number ∙ ap number at);
      sent_stays = map-set_same sent senders place now before (same_sent ∙ ap sent at);
      gives = map-set given senders place now ∙ ap (set (map given senders) place) (gave ∙ its_sent);
      is = is ∙ (λ j. record { sender = its_number j; begin = length (its_given j); messages = drop (length (its_given j)) (its_sent j) });
    }

pub returns : goal.returns
returns g c =
    gives_up _ _ _ c.args.senders.now.items c.args.place c.index_mut-sender.result.now c.parcel.new.self c.parcel.result c.requires c.index_mut-sender.ensures.value c.parcel.ensures.number c.parcel.ensures.sent c.parcel.ensures.given c.parcel.ensures.parcel
