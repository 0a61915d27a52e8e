use Rattle.std.proofs.Common.{rules, ◌≡◌, ◌<◌, ◌≤◌, ◌-◌, ◌^◌, ℕ, List, length, map, take, ap, sym, subst, arith, length-set, refl}
use Rattle.std.proofs.lemmas.List.{length-map}
use Rattle.mail_contract.specs.Lanes.{Lane, about_of}
use Rattle.mail_contract.specs.Plain.{lane_of}
use Rattle.mail_contract.specs.declared.parcels.lane.PlainLane.{PlainLane}
use Rattle.mail_contract.proofs.BoxesLemmas.{still_counted, still_received}
use Rattle.mail_contract.proofs.MapsLemmas.{same_map}
use Rattle.mail_contract.proofs.PlainLemmas.{follows, followed, is_delivered, is_left, on_delivered, same_cause, still_taken}
use Rattle.mail_contract.proofs.parcels.Gathered+M+PlainLane+M.deliver.Goals as goal

abbrev lane_in : {M : Type 0} → PlainLane M → Lane M
lane_in lane = lane_of lane.given.items lane.taken lane.settled

abbrev key_in : {M : Type 0} → PlainLane M → List M
key_in lane = take lane.delivered lane.given.items

-- the parcel's sender has a lane
has_lane : {M : Type 0} (number sender : ℕ) (lanes : List (PlainLane M)) → number ≡ sender → 1 ≤ number → number ≤ length lanes → (number ≡ sender) × (1 ≤ sender) × (sender ≤ length (map key_in lanes))
has_lane number sender lanes same low high = (same, omega (arith, same), omega (arith, same, length-map lanes key_in))

pub invariant_of-self : goal.invariant_of-self
invariant_of-self g c =
    let self = c.args.self.now in
    let has = has_lane c.parcel.inside.sender c.args.parcel.sender self.lanes.items (search rules) (omega (arith, c.if-sender-eq0.false)) (omega (arith, c.if-sender-len.false)) in
    let taken = still_taken c.accept.result _ _ _ c.accept.ensures.lane in
    record {
      counted = still_counted lane_in key_in self.lanes.items c.args.parcel.sender c.parcel.inside.sender _ _ has.0 has.1 has.2 c.index_mut-lane.ensures.value taken _ self.counted;
      few = subst (λ n. n < 2 ^ 16) (sym (length-set _ _ _)) self.few;
    }

pub returns : goal.returns
returns g c =
    let self = c.args.self.now in
    let has = has_lane c.parcel.inside.sender c.args.parcel.sender self.lanes.items (search rules) (omega (arith, c.if-sender-eq0.false)) (omega (arith, c.if-sender-len.false)) in
    let old = c.index_mut-lane.result.now in
    let at = c.index_mut-lane.ensures.value in
    record {
      cause = same_cause _ _ (follows lane_in key_in self.lanes.items c.args.parcel c.parcel.inside.sender old old has.0 has.1 has.2 at old.given.items old.taken old.delivered old.settled refl refl old.some_delivered)
          (followed lane_in key_in self.lanes.items c.args.parcel c.parcel.inside.sender old old has.0 has.1 has.2 at old.given.items old.taken old.delivered old.settled refl refl old.some_delivered) c.args.parcel c.accept.result c.accept.ensures.cause;
      delivered = on_delivered c.accept.result _ _ _ _ (is_delivered lane_in key_in self.lanes.items c.args.parcel c.parcel.inside.sender _ _ has.0 has.1 has.2 at)
          (λ (stays : key_in c.accept.new.self ≡ key_in old). same_map key_in self.lanes.items (c.parcel.inside.sender - 1) _ _ at stays) c.accept.ensures.key;
      left = on_delivered c.accept.result _ _ _ _ (is_left lane_in key_in self.lanes.items c.args.parcel c.parcel.inside.sender _ _ has.0 has.1 has.2 at)
          (λ (stays : lane_in c.accept.new.self ≡ lane_in old). ap about_of (same_map lane_in self.lanes.items (c.parcel.inside.sender - 1) _ _ at stays)) c.accept.ensures.lane;
      received = still_received lane_in key_in self.lanes.items c.args.parcel.sender c.parcel.inside.sender _ _ has.0 has.1 has.2 at (still_taken c.accept.result _ _ _ c.accept.ensures.lane) self.order.items;
      answers = refl;
    }
