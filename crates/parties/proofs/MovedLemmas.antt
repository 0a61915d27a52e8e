-- How far polls bring a session, one after another.
use Rattle.std.specs.Prelude.{◌≡◌, ℕ, ◌+◌, ◌≤◌, Bool, true, false, if◌then◌else◌, IsTrue, All, length, Result, Ok}
use Rattle.std.proofs.Common.{arith, refl, subst, sym}
use Rattle.std.proofs.lemmas.Bool.{false≢true}
use Rattle.lattice_laws.specs.declared.lattice.NoMemory.{NoMemory}
use Rattle.session_proxy.specs.Lines.{AreReplicas, MayRun}
use Rattle.session_proxy.specs.Polls.{Counts, Polls}
use Rattle.session_proxy.specs.Share.{Share}
use Rattle.session_proxy.specs.State.{IsFixed, Lists}
use Rattle.session_proxy.specs.declared.progress.Progress.{Progress}
use Rattle.session_proxy.specs.declared.progress.Progress.TheVariants as progress
use Rattle.run_measure.specs.Laws.{HasMoved, IsPlaced}
use Rattle.run_measure.specs.Pace.{IsPaced, rests_by}
use Rattle.run_measure.specs.Steps.{HasDone, done}
use Rattle.run_measure.proofs.DoneLemmas.{done_rises, goes_still, goes_through}
use Rattle.run_measure.proofs.PaceLemmas.{paced, paced_through}
use Rattle.run_measure.proofs.PollingLemmas.{polled}
use Rattle.run_waiting.specs.Laws.{StaysAwaited}
use Rattle.run_waiting.specs.Waiting.{AreToAsks, AwaitsMissing}
use Rattle.parties.specs.Progress.{HasMovedOn}
use Rattle.parties.proofs.AwaitedLemmas.{AsksStay, stays_missing}

-- the requests of a session that goes on go to workers that are there, as before
placed_still : (before now : Lists) → HasDone before now → IsPlaced before → IsPlaced now
placed_still before now goes placed = record {
  replicas =
      subst (λ many. All (AreReplicas many) now.course.table) (sym goes.workers)
      (subst (λ table. All (AreReplicas (length before.sent)) table) (sym goes.table) placed.replicas);
  lines =
      subst (λ lines. All (MayRun now.course.table now.course.client.level) lines) (sym goes.lines)
      (subst (λ client. All (MayRun now.course.table client.level) before.course.lines) (sym goes.client)
      (subst (λ table. All (MayRun table before.course.client.level) before.course.lines) (sym goes.table) placed.lines));
}

-- A session has gone on, whether it has ended or not: where it moved it has done more, where not nothing has changed. It rests only where it moved, and
-- as it is paced.
abbrev pub MovesOn : Bool → Lists → Lists → Type 0
MovesOn moved before now =
    (ended rested : Bool) → (IsTrue rested → IsTrue moved) → IsPaced (if rested then 1 else 0) before.course now.course → HasMovedOn (record { ended = ended; moved = moved; rested = rested }) before now

-- at first it was not polled
pub moves_still : (lists : Lists) → MovesOn false lists lists
moves_still lists ended rested rests paced = record {
  goes_on = goes_still lists;
  moved = λ is. absurd (false≢true is);
  still = λ is. refl;
  rested = rests;
  paced = paced;
  awaits = λ missing to_asks. missing;
}

-- how far it is, while it does not rest
so_far : (moved : Bool) (before now : Lists) → IsPaced 0 before.course now.course → MovesOn moved before now
    → HasMovedOn (record { ended = false; moved = moved; rested = false }) before now
so_far moved before now paced moves = moves false false (λ is. absurd (false≢true is)) paced

-- a poll that does something moves it, whatever went before,
moves_more : (moved : Bool) (before between now : Lists) → IsPaced 0 before.course between.course → MovesOn moved before between → HasDone between now
    → done between + 1 ≤ done now → (AwaitsMissing before → AreToAsks before → AwaitsMissing now) → MovesOn true before now
moves_more moved before between now so_paced moves goes more awaits ended rested rests paced =
    let earlier = so_far moved before between so_paced moves in
    let rises = done_rises before between earlier.goes_on in
    record {
      goes_on = goes_through before between now earlier.goes_on goes;
      moved = λ is. omega (arith, rises, more);
      still = λ is. absurd (false≢true (sym is));
      rested = rests;
      paced = paced;
      awaits = awaits;
    }

-- whether a session has moved, by the answer of its last poll, and by whether it had before
abbrev pub moved_by : Progress → Bool → Bool
moved_by progress.Moved moved = true
moved_by progress.Rest moved = true
moved_by progress.NotYet moved = moved
moved_by progress.Ended moved = moved

-- what a poll comes to, by its answer, after those before
moves_by : (answer : Progress) (moved : Bool) (before between now : Lists) → IsPaced 0 before.course between.course → IsPlaced before → MovesOn moved before between
    → HasDone between now → HasMoved answer between now
    → (AwaitsMissing before → AreToAsks before → AwaitsMissing now) → MovesOn (moved_by answer moved) before now
moves_by progress.Moved moved before between now so_paced placed moves goes more awaits =
    moves_more moved before between now so_paced moves goes (more (placed_still before between (so_far moved before between so_paced moves).goes_on placed)) awaits
moves_by progress.Rest moved before between now so_paced placed moves goes more awaits = moves_more moved before between now so_paced moves goes more awaits
moves_by progress.NotYet moved before between now so_paced placed moves goes same awaits = subst (MovesOn moved before) (sym same) moves
moves_by progress.Ended moved before between now so_paced placed moves goes same awaits = subst (MovesOn moved before) (sym same) moves

-- then it was polled once more
module _ (answer : Progress) (result : Result Progress NoMemory) (moved : Bool) (before between now : Lists) (counts counts_now : Counts) (wants_room : ℕ → Type 0) (nothing : Type 0)
    (is : result ≡ Ok answer) (polls : Polls result between now counts counts_now wants_room nothing) (placed : IsPlaced before) (share : Share between)
    (so_paced : IsPaced 0 before.course between.course) (moves : MovesOn moved before between) (kept : AsksStay before between) where
  polls_so : Polls (Ok answer) between now counts counts_now wants_room nothing
  polls_so = subst (λ result. Polls result between now counts counts_now wants_room nothing) is polls

  -- what it waits for is missing still, and if it dropped nothing, what it took is to its asks
  pub stays_once : AwaitsMissing before → AreToAsks before → StaysAwaited answer between now
  stays_once missing to_asks =
      let earlier = so_far moved before between so_paced moves in
      stays_missing answer between now counts counts_now wants_room nothing polls_so share (placed_still before between earlier.goes_on placed)
      (earlier.awaits missing to_asks) (kept missing to_asks)

  -- and it has gone on
  pub moves_once : IsFixed between.course now.course → length now.sent ≡ length between.sent → MovesOn (moved_by answer moved) before now
  moves_once fixed as_many =
      let one = polled answer between now counts counts_now wants_room nothing polls_so share fixed as_many in
      moves_by answer moved before between now so_paced placed moves one.goes_on one.moved (λ missing to_asks. (stays_once missing to_asks).awaits)

  -- as it is paced
  pub paced_once : IsFixed between.course now.course → length now.sent ≡ length between.sent
      → IsPaced (rests_by answer) before.course now.course
  paced_once fixed as_many =
      let one = polled answer between now counts counts_now wants_room nothing polls_so share fixed as_many in
      paced_through (rests_by answer) before.course between.course now.course (so_far moved before between so_paced moves).goes_on.answered one.goes_on.answered
      so_paced (paced answer between now counts counts_now wants_room nothing polls_so share)
