use Rattle.std.proofs.Common.{◌≡◌, ◌∙◌, ◌++◌, ℕ, List, OnOk, ap, drop, inl, inr, length, slice_get, subst, sym, take, Some}
use Rattle.mail_contract.specs.Boxes.{box_of}
use Rattle.worker_core.specs.State.{PlainWorker}
use Rattle.drain_turns.specs.OverWorkers.{HaveGoneOn}
use Rattle.drain_turns.specs.Ready.{FindPlaces}
use Rattle.party_turns.specs.Turning.{IsDone}
use Rattle.party_turns.proofs.PairListsLemmas.{whole}
use Rattle.drain_turns.proofs.passes.turn_all.Given.{Over}
use Rattle.drain_turns.proofs.passes.turn_all.Goals as goal
use Rattle.drain_turns.proofs.passes.turn_all.Goals.{After-turn_passes}

abbrev Worker : Over → Type 0
Worker g = PlainWorker g.row.Q.Denot g.row.T.Denot g.row.O.Denot g.row.G.Denot

module _ (g : Over) (c : After-turn_passes g) where
  -- and so it is of the workers that took their turns
  all_put_back : take c.args.workers.now.len (c.turn_passes.new.workers ++ drop (length c.turn_passes.new.workers) c.args.workers.now.items) ≡ c.turn_passes.new.workers
  all_put_back =
      whole c.args.workers.now.items c.turn_passes.new.workers c.args.workers.now.len c.args.workers.now.ok.0
      (c.turn_passes.ensures.gone_on.long ∙ ap length c.deref_mut.ensures.value)

pub turn_passes-requires-clause-room : goal.turn_passes-requires-clause-room
turn_passes-requires-clause-room g c = λ returns. elim (c.requires.room returns) [
  | inl full ↦ inl full
  | inr finds ↦ inr (subst (FindPlaces g.G.GossipRx.keeps g.Q.Rx.about g.T.Tx.sent (λ its. g.Q.Rx.senders (g.Q.Rx.key its))) (sym c.deref_mut.ensures.value) finds)
]

pub returns-clause-gone_on : goal.returns-clause-gone_on
returns-clause-gone_on g c =
    let here = (goal.at.returns-clause-gone_on g c).After-turn_passes in
    let goes = HaveGoneOn g.Q.Rx g.T.Tx g.O.Tx g.G.GossipRx in
    subst (goes c.args.workers.now.items) (sym (all_put_back g here))
    (subst (λ (those : List (Worker g)). goes those c.turn_passes.new.workers) c.deref_mut.ensures.value c.turn_passes.ensures.gone_on)

pub returns-clause-done : goal.returns-clause-done
returns-clause-done g c =
    let here = (goal.at.returns-clause-done g c).After-turn_passes in
    subst (λ (those : List (Worker g)). OnOk c.turn_passes.result
    ((place : ℕ) (now : Worker g) → slice_get those place ≡ Some now → IsDone g.Q.Rx.keeps (box_of g.Q.Rx.received g.Q.Rx.answers g.Q.Rx.about) now))
    (sym (all_put_back g here)) c.turn_passes.ensures.done
