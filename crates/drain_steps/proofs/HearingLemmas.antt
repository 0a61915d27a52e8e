-- What a sealed worker keeps from one batch to the next.
use Rattle.std.specs.Prelude.{◌≡◌, ℕ, Bool, true, false, IsTrue, List, is_some, Option, None, Ok}
use Rattle.std.proofs.Common.{◌∙◌, refl, sym, ap, subst}
use Rattle.std.proofs.lemmas.Bool.{false≢true}
use Rattle.lattice_laws.specs.declared.lattice.NoMemory.{NoMemory}
use Rattle.mail_contract.specs.Boxes.{FindsNothingWeak, MayHandOut, WeakBox}
use Rattle.mail_contract.specs.Parts.{Parts}
use Rattle.mail_contract.specs.Standing.{AreMet}
use Rattle.mail_contract.specs.Takes.{Answers}
use Rattle.merge_world.specs.Effects.{cells_at}
use Rattle.merge_world.specs.declared.private_map.KeyCells.{KeyCells}
use Rattle.store_msg.specs.declared.request.Request.{Request}
use Rattle.worker_core.specs.Sealed.{HearsOne, HoldsSealed, PlainSealed}
use Rattle.worker_core.specs.State.{Entries}
use Rattle.worker_core.proofs.MapLemmas.{holds_heard}
use Rattle.party_turns.specs.Turning.{AreGotInRange}
use Rattle.drain_steps.specs.Hearing.{HasHeard}
use Rattle.party_turns.proofs.HandedOutLemmas.{KeepsWeak, hand_out_keeps, weak_still, weak_through}

-- What it heard before it still heard, of the same senders, and what is known of these stays; and it has cells of the same keys.
pub record HearsOn {Q G GK : Type 0} (key : G → GK) (senders : GK → ℕ) (box : G → WeakBox Entries) (complete : Bool) (before now : PlainSealed Q G) : Type 0 where
  pub me : now.me ≡ before.me
  pub kinds : now.kinds ≡ before.kinds
  pub requests : now.requests ≡ before.requests
  pub keys : (number : ℕ) → is_some (cells_at now.cells number) ≡ is_some (cells_at before.cells number)
  pub key_is : key now.gossip_in ≡ key before.gossip_in
  pub box_keeps : KeepsWeak complete (senders (key before.gossip_in)) (box before.gossip_in) (box now.gossip_in)

-- to hear leaves which keys it has cells of
keys_stay : (E : Type 0) (heard : Bool) (cells cells_now : List (Option KeyCells)) (kept kept_now : Option (ℕ × Entries)) (got got_now : ℕ → ℕ → Option Entries) (count count_now : Answers) (nothing : Type 0)
    → HearsOne {E = E} (Ok heard) cells cells_now kept kept_now got got_now count count_now nothing → (number : ℕ) → is_some (cells_at cells_now number) ≡ is_some (cells_at cells number)
keys_stay E true cells cells_now kept kept_now got got_now count count_now nothing hears number = ap (λ those. is_some (cells_at those number)) hears.3 ∙ holds_heard cells hears.1 number
keys_stay E false cells cells_now kept kept_now got got_now count count_now nothing hears number = ap (λ those. is_some (cells_at those number)) hears.0

-- and where there was nothing to hear none is kept, and its box told so
told_all : (E : Type 0) (heard : Bool) (cells cells_now : List (Option KeyCells)) (kept kept_now : Option (ℕ × Entries)) (got got_now : ℕ → ℕ → Option Entries) (count count_now : Answers) (nothing : Type 0)
    → HearsOne {E = E} (Ok heard) cells cells_now kept kept_now got got_now count count_now nothing → heard ≡ false → (kept_now ≡ None) × nothing
told_all E false cells cells_now kept kept_now got got_now count count_now nothing hears is = (hears.2, hears.5)
told_all E true cells cells_now kept kept_now got got_now count count_now nothing hears is = absurd (false≢true (sym is))

module _ {Q G GK : Type 0} (key : G → GK) (senders : GK → ℕ) (box : G → WeakBox Entries) (keeps : Parts) where
  abbrev Hears : PlainSealed Q G → PlainSealed Q G → Type 0
  Hears before now = HearsOn key senders box keeps.complete before now

  -- at first
  pub hears_on : (worker : PlainSealed Q G) → Hears worker worker
  hears_on worker = record { me = refl; kinds = refl; requests = refl; keys = λ number. refl; key_is = refl; box_keeps = weak_still (box worker.gossip_in) }

  module _ (start before now : PlainSealed Q G) (so_far : Hears start before) (fixed : now ≡ record before { cells = now.cells; kept = now.kept; gossip_in = now.gossip_in })
      (key_is : key now.gossip_in ≡ key before.gossip_in) (may : MayHandOut keeps (senders (key before.gossip_in)) (box before.gossip_in) (box now.gossip_in)) (heard : Bool)
      (hears : HearsOne {E = NoMemory} (Ok heard) before.cells now.cells before.kept now.kept (box before.gossip_in).got (box now.gossip_in).got
      (box before.gossip_in).answers (box now.gossip_in).answers (FindsNothingWeak keeps (box now.gossip_in))) where
    -- and by one call more
    pub hears_next : Hears start now
    hears_next = record {
      me = ap (λ (its : PlainSealed Q G). its.me) fixed ∙ so_far.me;
      kinds = ap (λ (its : PlainSealed Q G). its.kinds) fixed ∙ so_far.kinds;
      requests = ap (λ (its : PlainSealed Q G). its.requests) fixed ∙ so_far.requests;
      keys = λ number. keys_stay NoMemory heard _ _ _ _ _ _ _ _ _ hears number ∙ so_far.keys number;
      key_is = key_is ∙ so_far.key_is;
      box_keeps = weak_through so_far.box_keeps
          (subst (λ its. KeepsWeak keeps.complete (senders its) (box before.gossip_in) (box now.gossip_in)) so_far.key_is (hand_out_keeps keeps (senders (key before.gossip_in)) (box before.gossip_in) (box now.gossip_in) may));
    }

    -- once it finds nothing it has heard all that its settled senders told
    pub heard_out : (received : Q → List (ℕ × Request)) → HoldsSealed received (λ its. (box its).got) now → heard ≡ false
        → HasHeard received key senders (λ its. (box its).got) (λ its. (box its).about) keeps.complete start now
    heard_out received holds finds_nothing =
        let on = hears_next in
        let nothing = told_all NoMemory heard _ _ _ _ _ _ _ _ _ hears finds_nothing in
        record {
          me = on.me;
          kinds = on.kinds;
          requests = on.requests;
          keys = on.keys;
          holds = holds;
          none_kept = nothing.0;
          key_is = on.key_is;
          stand = on.box_keeps.stand;
          got_more = on.box_keeps.got_more;
          got_in_range = λ are. subst (λ its. AreGotInRange (senders its) (box now.gossip_in).got) (sym on.key_is) (on.box_keeps.got_in_range are);
          of_sent = on.box_keeps.of_sent;
          all = nothing.1.none;
        }

  -- of each sender it stays known how many messages are left
  pub still_met : (start now : PlainSealed Q G) → Hears start now → AreMet (senders (key start.gossip_in)) (box start.gossip_in).about → AreMet (senders (key now.gossip_in)) (box now.gossip_in).about
  still_met start now on met =
      subst (λ its. AreMet (senders its) (box now.gossip_in).about) (sym on.key_is) (λ sender low high. subst IsTrue (sym (on.box_keeps.stand sender).1) (met sender low high))
