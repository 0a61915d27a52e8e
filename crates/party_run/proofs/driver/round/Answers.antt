use Rattle.std.proofs.Common.{◌≡◌, ℕ, ◌+◌, ◌≤◌, ap, arith, false, inl, inr, length, map, subst, sum_by, sym}
use Rattle.std.specs.Prelude.{List}
use Rattle.std.proofs.lemmas.Result.{on_ok_weaker}
use Rattle.session_proxy.specs.State as sessions
use Rattle.worker_core.specs.State as workers
use Rattle.party_turns.specs.Ends.{Ends, mail_of, session_lists}
use Rattle.run_measure.specs.Steps.{done}
use Rattle.parties.specs.Session.{proxy_of}
use Rattle.party_turns.specs.Steps.{StepsOn}
use Rattle.parties.specs.Sweeping.{AllAwait, AllToAsks, EachMoves, HasBegun, WaitsForOther, rested_at}
use Rattle.party_turns.proofs.StepsLemmas.{steps_go_on, steps_long}
use Rattle.party_turns.proofs.StepsLemmas.{steps_through}
use Rattle.party_turns.proofs.TogetherLemmas.{done_no_less}
use Rattle.party_run.specs.Ready.{HasSwept, IsPolled}
use Rattle.party_run.proofs.RoundLemmas.{HaveMovedOn, all_move, await_still, by_steps, more_done, no_less_done, some_rested}
use Rattle.party_run.proofs.driver.round.Given.{Over}
use Rattle.party_run.proofs.driver.round.Goals as goal
use Rattle.party_run.proofs.driver.round.Goals.{In_ok-came}

module _ (g : Over) where
  -- what the ends tell
  abbrev mail : Ends g.row.P-ReqTx.Denot g.row.P-RepTx.Denot g.row.P-GosTx.Denot g.row.P-ReqRx.Denot g.row.P-GosRx.Denot g.row.P-RepRx.Denot
      g.row.P-ReqTx-Key.Denot g.row.P-RepTx-Key.Denot g.row.P-GosTx-Key.Denot g.row.P-ReqRx-Key.Denot g.row.P-GosRx-Key.Denot g.row.P-RepRx-Key.Denot
  mail = mail_of g.P.ReqTx.Tx g.P.RepTx.Tx g.P.GosTx.Tx g.P.ReqRx.Rx g.P.GosRx.GossipRx g.P.RepRx.Rx

  abbrev Workers : Type 0
  Workers = List (workers.PlainWorker g.row.P-ReqRx.Denot g.row.P-RepTx.Denot g.row.P-GosTx.Denot g.row.P-GosRx.Denot)

  abbrev Proxies : Type 0
  Proxies = List (sessions.PlainProxy g.row.P-ReqTx.Denot g.row.P-RepRx.Denot)

  abbrev Steps : Workers → Workers → Proxies → Proxies → Type 0
  Steps = StepsOn mail

  -- how far the sessions are
  abbrev told : Proxies → List sessions.Lists
  told = map (session_lists mail)

  module _ (c : In_ok-came g) where
    abbrev before : Proxies
    before = map proxy_of c.part_all.new.self.sessions.items

    abbrev then : Proxies
    then = map proxy_of c.run_epoch.new.parties.sessions.items

    -- the parties are apart, and take steps in the epoch,
    came : Steps c.args.parties.now.workers.items c.run_epoch.new.parties.workers.items (map proxy_of c.args.parties.now.sessions.items) then
    came = steps_through _ _ _ _ _ _ c.part_all.ensures.steps c.in_ok-came.ensures.steps

    -- and each session has moved on in it, by what came of its turns
    of_each : length (told before) ≡ length c.in_ok-came.came.items
    of_each = sym c.in_ok-came.ensures.each

    long : length (told then) ≡ length (told before)
    long = (steps_long _ _ _ _ c.in_ok-came.ensures.steps).1

    moved_on : HaveMovedOn c.in_ok-came.came.items (told before) (told then)
    moved_on = c.in_ok-came.ensures.moved (steps_go_on _ _ _ _ c.part_all.ensures.steps c.requires.running c.requires.none_kept).0

pub sweep-requires : goal.sweep-requires
sweep-requires g c =
    let here = (goal.at.sweep-requires g c).In_ok-came in
    let on = steps_go_on _ _ _ _ (came g here) c.requires.running c.requires.none_kept in
    let same = sym c.part_all.ensures.sessions in
    record {
      ready = record {
        free = c.requires.free;
        finite = c.requires.finite;
        running = on.0;
        none_kept = on.1;
        await_theirs =
            await_still c.in_ok-came.came.items (told g (before g here)) (told g (then g here)) (of_each g here) (long g here) (moved_on g here)
            (subst AllAwait same c.requires.await_theirs) (subst AllToAsks same c.requires.to_asks);
      };
    }

pub returns-clause-steps : goal.returns-clause-steps
returns-clause-steps g c =
    on_ok_weaker c.sweep.result (λ steps. steps_through _ _ _ _ _ _ (came g (goal.at.returns-clause-steps g c).In_ok-came) steps) c.sweep.ensures.steps

pub returns-clause-moved : goal.returns-clause-moved
returns-clause-moved g c =
    let here = (goal.at.returns-clause-moved g c).In_ok-came in
    let then_on = steps_go_on _ _ _ _ (came g here) c.requires.running c.requires.none_kept in
    let now = told g (map proxy_of c.sweep.new.run.sessions.items) in
    by_steps c.sweep.result _ (λ ended. HasSwept c.deref.result.now ended (told g (then g here)) now)
    (λ ended. EachMoves (HasBegun (told g (map proxy_of c.args.parties.now.sessions.items))) (told g (map proxy_of c.args.parties.now.sessions.items)) now)
    c.sweep.ensures.steps c.sweep.ensures.swept (λ steps ended swept.
    subst (λ those. EachMoves (HasBegun those) those now) c.part_all.ensures.sessions
    (all_move c.in_ok-came.came.items (told g (before g here)) (told g (then g here)) (of_each g here) (long g here) (moved_on g here) now
    (steps_go_on _ _ _ _ steps then_on.0 then_on.1).2.done_more
    (subst (λ those. EachMoves (IsPolled those (told g (then g here))) (told g (then g here)) now) c.deref.ensures.value swept.moved)))

pub returns-clause-waits : goal.returns-clause-waits
returns-clause-waits g c =
    let here = (goal.at.returns-clause-waits g c).In_ok-came in
    let now = told g (map proxy_of c.sweep.new.run.sessions.items) in
    by_steps c.sweep.result _ (λ ended. HasSwept c.deref.result.now ended (told g (then g here)) now) (λ ended. (at : ℕ) → WaitsForOther now at)
    c.sweep.ensures.steps c.sweep.ensures.swept (λ steps ended swept. swept.waits)

pub returns-clause-await_theirs : goal.returns-clause-await_theirs
returns-clause-await_theirs g c =
    let here = (goal.at.returns-clause-await_theirs g c).In_ok-came in
    let now = told g (map proxy_of c.sweep.new.run.sessions.items) in
    by_steps c.sweep.result _ (λ ended. HasSwept c.deref.result.now ended (told g (then g here)) now) (λ ended. AllAwait now)
    c.sweep.ensures.steps c.sweep.ensures.swept (λ steps ended swept. swept.await_theirs)

-- Where an ask of some session came to nothing in the epoch, more was done by its end; and where none did, by the end of the sweep.
pub returns-clause-done : goal.returns-clause-done
returns-clause-done g c =
    let here = (goal.at.returns-clause-done g c).In_ok-came in
    let then_on = steps_go_on _ _ _ _ (came g here) c.requires.running c.requires.none_kept in
    let first = told g (before g here) in
    let between = told g (then g here) in
    let now = told g (map proxy_of c.sweep.new.run.sessions.items) in
    let same = ap (sum_by done) c.part_all.ensures.sessions in
    by_steps c.sweep.result _ (λ ended. HasSwept c.deref.result.now ended between now)
    (λ ended. ended ≡ false → sum_by done (told g (map proxy_of c.args.parties.now.sessions.items)) + 1 ≤ sum_by done now)
    c.sweep.ensures.steps c.sweep.ensures.swept (λ steps ended swept goes_on. elim (some_rested c.in_ok-came.came.items) [
      | inl its ↦
          let more = more_done c.in_ok-came.came.items first between (of_each g here) (long g here) (moved_on g here) its.0 its.1 its.2 its.3 in
          let on = (steps_go_on _ _ _ _ steps then_on.0 then_on.1).2 in
          let rest = done_no_less between now on.sessions_long on.done_more in
          omega (arith, same, more, rest)
      | inr none ↦
          let until = no_less_done c.in_ok-came.came.items first between (of_each g here) (long g here) (moved_on g here) in
          let more = swept.done_more goes_on (subst (λ those. (at : ℕ) → rested_at those at ≡ false) (sym c.deref.ensures.value) none) in
          omega (arith, same, until, more)
    ])
