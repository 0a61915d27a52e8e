use Rattle.std.proofs.Common.{◌≡◌, ◌≢◌, ◌∙◌, ◌+◌, ◌≤◌, ◌⊎◌, ℕ, IsTrue, List, ap, arith, inl, inr, is_some, length, option_map, slice_get, slice_index_or, slice_set, subst, sym, Option, Some, None}
use Rattle.std.proofs.lemmas.Bool.{false≢true}
use Rattle.std.proofs.lemmas.List.{length-map, map-set}
use Rattle.std.proofs.lemmas.Option.{same_Some, slice_get-get_or, slice_get-map}
use Rattle.mail_contract.proofs.PostsLemmas.{stays_elsewhere}
use Rattle.placement.specs.Config.{IsOneOf}
use Rattle.mail_contract.specs.Boxes.{FindsNothing, box_of}
use Rattle.worker_core.specs.Share.{Share}
use Rattle.worker_core.specs.State.{PlainWorker, dirty, kept_request, lists_of}
use Rattle.drain_turns.specs.Ready.{AreReady, FindPlaces, FreesPlaces, Hears, MatesMiss, left_to}
use Rattle.party_turns.specs.Mates.{HaveGoneOn, Knows, Steady, steadies, steady_of}
use Rattle.party_turns.specs.Turning.{IsDone, Owes, SomeBack}
use Rattle.party_turns.proofs.PlacesLemmas.{now_there}
use Rattle.party_turns.proofs.GoingOnLemmas.{all_through}
use Rattle.drain_turns.proofs.PassesGoingOn.{places_stay, ready_stays}
use Rattle.drain_turns.proofs.PassesHeldLemmas.{no_reply_held, none_to_take}
use Rattle.drain_turns.proofs.PassesTurnLemmas.{all_met, hears_mates, one_goes_on, some_missing}
use Rattle.drain_turns.proofs.passes.turn_at.Given.{Over}
use Rattle.drain_turns.proofs.passes.turn_at.Goals as goal
use Rattle.drain_turns.proofs.passes.turn_at.Goals.{After-index-workers-place, After-turn_out}

module _ (g : Over) where
  abbrev Worker : Type 0
  Worker = PlainWorker g.row.Q.Denot g.row.T.Denot g.row.O.Denot g.row.G.Denot

  abbrev ItsSteady : Type 0
  ItsSteady = Steady g.row.Q.Denot g.row.T.Denot g.row.O-Key.Denot g.row.G-Key.Denot

  abbrev steady : Worker → ItsSteady
  steady = steady_of g.O.Tx.key g.O.Tx.number g.O.Tx.sent g.G.GossipRx.key g.G.GossipRx.got

  abbrev all_steady : List Worker → List ItsSteady
  all_steady = steadies g.O.Tx.key g.O.Tx.number g.O.Tx.sent g.G.GossipRx.key g.G.GossipRx.got

  abbrev GoneOn : List Worker → List Worker → Type 0
  GoneOn = HaveGoneOn g.Q.Rx.key g.T.Tx.key g.T.Tx.number g.O.Tx.key g.O.Tx.number g.G.GossipRx.key g.Q.Rx.keeps.complete g.Q.Rx.senders g.Q.Rx.received g.Q.Rx.about g.T.Tx.sent
      g.G.GossipRx.keeps.complete g.G.GossipRx.senders g.G.GossipRx.got g.G.GossipRx.about

  -- a box that finds nothing where no reply is held
  finds_nothing : {A : Type 0} (held : Option A) (Finds : Type 0) → held ≡ None → IsTrue (is_some held) ⊎ Finds → Finds
  finds_nothing held Finds not_held nothing = elim nothing [
    | inl some ↦ absurd (false≢true (sym (ap is_some not_held) ∙ some))
    | inr finds ↦ finds
  ]

  module _ (c : After-index-workers-place g) where
    -- the worker, after it was shown
    abbrev shown : Worker
    shown = slice_index_or c.show_to_all.new.workers c.args.place c.index-workers-place.result

    shown_there : slice_get c.show_to_all.new.workers c.args.place ≡ Some shown
    shown_there = slice_get-get_or c.show_to_all.new.workers c.args.place c.index-workers-place.result (omega arith)

    ready_now : AreReady g.Q.Rx.keeps.complete (λ its. g.Q.Rx.senders (g.Q.Rx.key its)) g.Q.Rx.received g.Q.Rx.about g.O.Tx.key g.O.Tx.number g.G.GossipRx.key g.G.GossipRx.pairs g.G.GossipRx.senders
        g.G.GossipRx.about c.show_to_all.new.workers
    ready_now = ready_stays c.args.workers.now c.show_to_all.new.workers c.show_to_all.ensures.gone_on c.requires.ready

  module _ (c : After-turn_out g) where
    abbrev was : Worker
    was = slice_index_or c.show_to_all.new.workers c.args.place c.index-workers-place.result

    abbrev is : Worker
    is = c.turn_out.new.worker

    abbrev now : List Worker
    now = slice_set c.show_to_all.new.workers c.args.place is

    was_there : slice_get c.show_to_all.new.workers c.args.place ≡ Some was
    was_there = slice_get-get_or c.show_to_all.new.workers c.args.place c.index-workers-place.result (omega arith)

    is_there : slice_get now c.args.place ≡ Some is
    is_there = now_there c.show_to_all.new.workers c.args.place is (omega arith)

    -- all have gone on
    gone_on : GoneOn c.args.workers.now now
    gone_on =
        all_through c.args.workers.now c.show_to_all.new.workers now c.show_to_all.ensures.gone_on
        (one_goes_on c.show_to_all.new.workers c.args.place was is was_there c.turn_out.ensures.gone_on c.turn_out.ensures.gossip_stand)

    -- what stays of the others while one is shown stays when it is turned
    steady_now : all_steady now ≡ slice_set (all_steady c.args.workers.now) c.args.place (steady is)
    steady_now = map-set steady c.show_to_all.new.workers c.args.place is ∙ ap (λ those. slice_set those c.args.place (steady is)) c.show_to_all.ensures.steady

    steady_was : slice_get (all_steady c.args.workers.now) c.args.place ≡ Some (steady was)
    steady_was =
        ap (λ those. slice_get those c.args.place) (sym c.show_to_all.ensures.steady) ∙ slice_get-map steady c.show_to_all.new.workers c.args.place ∙ ap (option_map steady) was_there

    steady_is : slice_get (all_steady now) c.args.place ≡ Some (steady is)
    steady_is = slice_get-map steady now c.args.place ∙ ap (option_map steady) is_there

    -- it knows of each mate
    knows : (other : ℕ) (mate : ItsSteady) → other ≢ c.args.place → slice_get (all_steady c.args.workers.now) other ≡ Some mate
        → Knows g.O.Tx.clear g.O.Tx.unseen g.O.Tx.sent g.G.GossipRx.keeps g.G.GossipRx.about g.G.GossipRx.due c.args.place other was mate
    knows other mate apart its_there =
        c.show_to_all.ensures.knows other was mate apart was_there
        (subst (λ those. slice_get those other ≡ Some mate) {x = all_steady c.args.workers.now} {y = all_steady c.show_to_all.new.workers} (sym c.show_to_all.ensures.steady) its_there)

    others : (at : ℕ) → at ≢ c.args.place → slice_get (all_steady now) at ≡ slice_get (all_steady c.args.workers.now) at
    others at apart = ap (λ those. slice_get those at) steady_now ∙ stays_elsewhere (all_steady c.args.workers.now) c.args.place at (steady is) apart

    owes : (before after : ItsSteady) → slice_get (all_steady c.args.workers.now) c.args.place ≡ Some before → slice_get (all_steady now) c.args.place ≡ Some after
        → left_to (λ its. g.Q.Rx.senders (g.Q.Rx.key its)) g.Q.Rx.received g.Q.Rx.about before ≡ 0 → Owes before.told after.told (dirty before.state) (dirty after.state)
    owes before after before_there after_there =
        subst (λ (both : ItsSteady × ItsSteady). left_to (λ its. g.Q.Rx.senders (g.Q.Rx.key its)) g.Q.Rx.received g.Q.Rx.about both.0 ≡ 0
        → Owes both.0.told both.1.told (dirty both.0.state) (dirty both.1.state))
        (λ j. (same_Some (steady was) before (sym steady_was ∙ before_there) j, same_Some (steady is) after (sym steady_is ∙ after_there) j)) c.turn_out.ensures.owes

    abbrev Finds : Type 0
    Finds = FindPlaces g.G.GossipRx.keeps g.Q.Rx.about g.T.Tx.sent (λ its. g.Q.Rx.senders (g.Q.Rx.key its)) c.args.workers.now

    -- no reply is held
    none_held : Share (lists_of g.Q.Rx.received g.T.Tx.sent g.O.Tx.sent g.G.GossipRx.got is) → Finds → is.state.held ≡ None
    none_held share finds =
        let ready = ready_stays c.args.workers.now now gone_on c.requires.ready in
        let finds_now = places_stay c.args.workers.now now gone_on finds in
        let many = length-map is.ends.replies.items g.T.Tx.sent in
        no_reply_held (lists_of g.Q.Rx.received g.T.Tx.sent g.O.Tx.sent g.G.GossipRx.got is) (g.Q.Rx.about is.ends.requests) g.Q.Rx.keeps.complete (g.Q.Rx.senders (g.Q.Rx.key is.ends.requests)) share
        (ready.known c.args.place is is_there)
        (λ session one_of. finds_now.replied c.args.place is is_there session (subst (λ n. IsOneOf n session) many one_of))
        (λ session one_of. finds_now.senders_are c.args.place is is_there session (subst (λ n. IsOneOf n session) many one_of))

    -- so no request is left
    none_left : is.state.held ≡ None → is.state.kept ≡ None → IsTrue (is_some is.state.held) ⊎ FindsNothing g.Q.Rx.keeps (box_of g.Q.Rx.received g.Q.Rx.answers g.Q.Rx.about is.ends.requests)
        → left_to (λ its. g.Q.Rx.senders (g.Q.Rx.key its)) g.Q.Rx.received g.Q.Rx.about (steady is) ≡ 0
    none_left not_held not_kept nothing =
        let found = finds_nothing is.state.held (FindsNothing g.Q.Rx.keeps (box_of g.Q.Rx.received g.Q.Rx.answers g.Q.Rx.about is.ends.requests)) not_held nothing in
        let not_taken = none_to_take g.Q.Rx.keeps.complete (g.Q.Rx.senders (g.Q.Rx.key is.ends.requests)) (g.Q.Rx.received is.ends.requests) (g.Q.Rx.about is.ends.requests)
        ((ready_stays c.args.workers.now now gone_on c.requires.ready).known c.args.place is is_there) found.none in
        let none_kept = ap (λ kept. length (kept_request kept)) not_kept in
        omega (arith, not_taken, none_kept)

    mates : length was.ends.gossip_out.items + 1 ≡ length c.args.workers.now
    mates = (ready_stays c.args.workers.now c.show_to_all.new.workers c.show_to_all.ensures.gone_on c.requires.ready).are_mates.mates c.args.place was was_there ∙ c.show_to_all.ensures.gone_on.long

    -- where it was Blocked, fewer keys are left to tell, or some mate misses a batch
    busy : is.state.held ≡ None → FreesPlaces g.G.GossipRx.keeps
        → IsTrue (is_some is.state.held) ⊎ ((dirty is.state + 1 ≤ dirty was.state) ⊎ SomeBack g.O.Tx.clear g.O.Tx.roomy g.O.Tx.unseen was.ends.gossip_out.items)
        → (dirty is.state + 1 ≤ dirty was.state) ⊎ MatesMiss c.args.place (all_steady c.args.workers.now)
    busy not_held frees blocked =
        elim blocked [
          | inl held ↦ absurd (false≢true (sym (ap is_some not_held) ∙ held))
          | inr rest ↦
              elim rest [
                | inl fell ↦ inl fell
                | inr back ↦
                    inr (some_missing g.O.Tx.key g.O.Tx.number g.G.GossipRx.key g.G.GossipRx.got (all_steady c.args.workers.now) c.args.place was is frees steady_was
                    knows (length c.args.workers.now) (length-map c.args.workers.now steady) mates back)
              ]
        ]

pub turn_out-requires-clause-known : goal.turn_out-requires-clause-known
turn_out-requires-clause-known g c =
    let here = (goal.at.turn_out-requires-clause-known g c).After-index-workers-place in
    (ready_now g here).known c.args.place (shown g here) (shown_there g here)

pub turn_out-requires-clause-met : goal.turn_out-requires-clause-met
turn_out-requires-clause-met g c =
    let here = (goal.at.turn_out-requires-clause-met g c).After-index-workers-place in
    all_met c.show_to_all.new.workers (all_steady g c.show_to_all.new.workers) c.args.place (shown g here) (ready_now g here) (length-map c.show_to_all.new.workers (steady g)) (shown_there g here)
    (λ other mate apart its_there. c.show_to_all.ensures.knows other (shown g here) mate apart (shown_there g here) its_there)

pub returns-in_err-idle-clause-gone_on : goal.returns-in_err-idle-clause-gone_on
returns-in_err-idle-clause-gone_on g c = gone_on g (goal.at.returns-in_err-idle-clause-gone_on g c).After-turn_out

pub returns-in_err-idle-clause-others : goal.returns-in_err-idle-clause-others
returns-in_err-idle-clause-others g c = others g (goal.at.returns-in_err-idle-clause-others g c).After-turn_out

pub returns-in_err-idle-clause-owes : goal.returns-in_err-idle-clause-owes
returns-in_err-idle-clause-owes g c = owes g (goal.at.returns-in_err-idle-clause-owes g c).After-turn_out

pub returns-clause-gone_on : goal.returns-clause-gone_on
returns-clause-gone_on g c = gone_on g (goal.at.returns-clause-gone_on g c).After-turn_out

pub returns-clause-others : goal.returns-clause-others
returns-clause-others g c = others g (goal.at.returns-clause-others g c).After-turn_out

pub returns-clause-owes : goal.returns-clause-owes
returns-clause-owes g c = owes g (goal.at.returns-clause-owes g c).After-turn_out

pub returns-clause-idle : goal.returns-clause-idle
returns-clause-idle g c = λ idle now there.
    let here = (goal.at.returns-clause-idle g c).After-turn_out in
    let rests = c.in_ok-idle.ensures.idle idle in
    subst (IsDone g.Q.Rx.keeps (box_of g.Q.Rx.received g.Q.Rx.answers g.Q.Rx.about)) (same_Some (is g here) now (sym (is_there g here) ∙ there)) (record {
      none_left = rests.0;
      none_held = rests.1;
      none_kept = c.in_ok-idle.ensures.none_kept;
      no_request = finds_nothing g (is g here).state.held (FindsNothing g.Q.Rx.keeps (box_of g.Q.Rx.received g.Q.Rx.answers g.Q.Rx.about (is g here).ends.requests)) rests.1
          c.in_ok-idle.ensures.no_request;
    })

pub returns-clause-rests : goal.returns-clause-rests
returns-clause-rests g c = λ finds now there.
    let here = (goal.at.returns-clause-rests g c).After-turn_out in
    subst (λ its. left_to (λ its. g.Q.Rx.senders (g.Q.Rx.key its)) g.Q.Rx.received g.Q.Rx.about its ≡ 0) (same_Some (steady g (is g here)) now (sym (steady_is g here) ∙ there))
    (none_left g here (none_held g here c.attest.ensures.share finds) c.in_ok-idle.ensures.none_kept c.in_ok-idle.ensures.no_request)

pub returns-clause-hears : goal.returns-clause-hears
returns-clause-hears g c = λ frees other apart.
    let here = (goal.at.returns-clause-hears g c).After-turn_out in
    subst (Hears other c.args.place (all_steady g c.args.workers.now)) (sym (steady_now g here))
    (hears_mates g.O.Tx.key g.O.Tx.number g.G.GossipRx.key g.G.GossipRx.got (all_steady g c.args.workers.now) c.args.place (was g here) (is g here) frees (steady_was g here)
    (knows g here) (c.in_ok-idle.ensures.hears frees.advances) other apart)

pub returns-clause-busy : goal.returns-clause-busy
returns-clause-busy g c = λ finds busy_is before after before_there after_there none_left.
    let here = (goal.at.returns-clause-busy g c).After-turn_out in
    let before_is = same_Some (steady g (was g here)) before (sym (steady_was g here) ∙ before_there) in
    let after_is = same_Some (steady g (is g here)) after (sym (steady_is g here) ∙ after_there) in
    subst (λ (both : ItsSteady g × ItsSteady g). (dirty both.1.state + 1 ≤ dirty both.0.state) ⊎ MatesMiss c.args.place (all_steady g c.args.workers.now)) (λ j. (before_is j, after_is j))
    (busy g here (none_held g here c.attest.ensures.share finds) finds.frees
    (c.in_ok-idle.ensures.blocked busy_is (subst (λ its. left_to (λ its. g.Q.Rx.senders (g.Q.Rx.key its)) g.Q.Rx.received g.Q.Rx.about its ≡ 0) (sym before_is) none_left)))
