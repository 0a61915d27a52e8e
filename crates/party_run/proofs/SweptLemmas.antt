-- What the polls of a sweep tell of the sessions, one after another.
use Rattle.std.specs.Prelude.{◌≡◌, ◌≢◌, ◌⊎◌, ℕ, ◌+◌, ◌<◌, ◌≤◌, Bool, true, false, IsTrue, List, length, slice_get, sum_by, Some}
use Rattle.std.proofs.Common.{◌∙◌, ap, arith, inl, inr, refl, subst, sym}
use Rattle.std.proofs.lemmas.Bool.{cases_Bool, cases_eq, false≢true}
use Rattle.std.proofs.lemmas.Option.{slice_get_within}
use Rattle.session_proxy.specs.State.{Lists}
use Rattle.worker_core.specs.State as workers
use Rattle.party_turns.proofs.ItemsLemmas.{all_there, at_its_place, there_is, there_too}
use Rattle.run_measure.specs.Steps.{HasDone, done}
use Rattle.parties.specs.Waiting.{AreSigned, AreToAsks, AwaitsMissing}
use Rattle.party_turns.proofs.TogetherLemmas.{done_more, done_no_less}
use Rattle.parties.specs.Progress.{HasMovedOn}
use Rattle.parties.specs.Sweeping.{AllAwait, AllServed, AllToAsks, AreServed, HasEnded, MovesOrEnds, rested_at}
use Rattle.parties.specs.declared.stepping.Polled.{Polled}
use Rattle.parties.specs.declared.run.Run.{Ghosts}
use Rattle.party_run.specs.Ready.{HasPolledAll, IsPassed, IsPolled, IsServed, SomeWaits}

-- The sessions up to a place were polled that had begun and of which no ask came to nothing, by whether all up to it have ended.
pub record SweptTo (came : List Polled) (place : ℕ) (all_ended : Bool) (before now : List Lists) : Type 0 where
  pub await_theirs : (at : ℕ) (its : Lists) → at < place → slice_get now at ≡ Some its → AwaitsMissing its
  pub moved : (at : ℕ) (was is : Lists) → at < place → IsPolled came before at → slice_get before at ≡ Some was → slice_get now at ≡ Some is → MovesOrEnds was is
  pub done_more : all_ended ≡ false → ((at : ℕ) → rested_at came at ≡ false) → (sum_by done before + 1 ≤ sum_by done now) ⊎ SomeWaits before

-- at first none,
pub none_swept : (came : List Polled) (before : List Lists) → SweptTo came 0 true before before
none_swept came before = record {
  await_theirs = λ at its below there. absurd (omega (arith, below));
  moved = λ at was is below polled there also. absurd (omega (arith, below));
  done_more = λ not_all none. absurd (false≢true (sym not_all));
}

-- and in the end all
pub all_polled : (came : List Polled) (place : ℕ) (all_ended : Bool) (before now : List Lists) → length now ≤ place → SweptTo came place all_ended before now
    → HasPolledAll came all_ended before now
all_polled came place all_ended before now low so_far = record {
  await_theirs = all_there AwaitsMissing now (λ at its there.
      let within = slice_get_within now at its there in
      so_far.await_theirs at its (omega (arith, within, low)) there);
  moved = λ at was is polled there also.
      let within = slice_get_within now at is also in
      so_far.moved at was is (omega (arith, within, low)) polled there also;
  done_more = so_far.done_more;
}

-- A worker has served a session that stays as it was, where it stays so too.
pub served_still : (all all_now : List workers.Lists) (those those_now : List Lists) (at : ℕ) → all_now ≡ all → slice_get those_now at ≡ slice_get those at
    → AllAwait those → AllServed all those → AreServed at all_now those_now
served_still all all_now those those_now at same stays await served its there =
    let at_first = sym stays ∙ there in (
      at_its_place AwaitsMissing those at its await at_first,
      λ place worker here. served place at worker its (ap (λ those. slice_get those place) (sym same) ∙ here) at_first,
    )

-- A session is passed over as it was, where it stays so.
pub passed_still : (came : List Polled) (before now : List Lists) (place : ℕ) → slice_get now place ≡ slice_get before place → IsPassed came now place → IsPassed came before place
passed_still came before now place same passed = elim passed [
  | inl rests ↦ inl rests
  | inr waits ↦ inr (waits.0, sym same ∙ waits.1, waits.2)
]

-- One that is passed over is left as it is.
pub one_left : (came : List Polled) (place : ℕ) (all_ended : Bool) (before now : List Lists) → AllAwait before → slice_get now place ≡ slice_get before place
    → IsPassed came before place → SweptTo came place all_ended before now → SweptTo came (place + 1) false before now
one_left came place all_ended before now await later passed so_far = record {
  await_theirs = λ at its below there. elim (cases_eq at place) [
    | inl here ↦ at_its_place AwaitsMissing before at its await (subst (λ n. slice_get before n ≡ Some its) (sym here) (sym later ∙ subst (λ n. slice_get now n ≡ Some its) here there))
    | inr apart ↦ so_far.await_theirs at its (omega (arith, below, apart)) there
  ];
  moved = λ at was is below polled there also. elim (cases_eq at place) [
    | inl here ↦ elim passed [
      | inl rests ↦ absurd (false≢true (sym polled.0 ∙ ap (rested_at came) here ∙ rests))
      | inr waits ↦ absurd (false≢true (sym waits.2 ∙ polled.1 waits.0 (subst (λ n. slice_get before n ≡ Some waits.0) (sym here) waits.1)))
    ]
    | inr apart ↦ so_far.moved at was is (omega (arith, below, apart)) polled there also
  ];
  done_more = λ not_all none. elim passed [
    | inl rests ↦ absurd (false≢true (sym (none place) ∙ rests))
    | inr waits ↦ inr (record { at = place; its = waits.0; there = waits.1; waits = waits.2 })
  ];
}

module _ (came : List Polled) (place : ℕ) (all_ended all_now : Bool) (before mid now : List Lists) (its : Polled) (await : AllAwait before) (to_asks : AllToAsks before)
    (later : slice_get mid place ≡ slice_get before place) (within : place < length mid) (long : length now ≡ length mid)
    (others : (other : ℕ) → other ≢ place → slice_get now other ≡ slice_get mid other) (first : sum_by done before ≤ sum_by done mid)
    (goes : (at : ℕ) (was is : Lists) → slice_get mid at ≡ Some was → slice_get now at ≡ Some is → HasDone was is)
    (moves : (was is : Lists) → slice_get mid place ≡ Some was → slice_get now place ≡ Some is → HasMovedOn its was is)
    (ended : IsTrue its.ended → HasEnded now place) (served : its.ended ≡ false → IsTrue its.moved)
    (both : all_now ≡ false → (all_ended ≡ false) ⊎ (its.ended ≡ false)) where
  -- One that is polled moves, or has ended.
  pub one_polled : SweptTo came place all_ended before mid → SweptTo came (place + 1) all_now before now
  one_polled so_far = record {
    await_theirs = λ at is below there. elim (cases_eq at place) [
      | inl here ↦
          let now_there = subst (λ n. slice_get now n ≡ Some is) here there in
          let was = there_too mid now place is long now_there in
          let at_first = sym later ∙ was.1 in
          (moves was.0 is was.1 now_there).awaits (at_its_place AwaitsMissing before place was.0 await at_first)
          (at_its_place (λ its. AreToAsks its × AreSigned its) before place was.0 to_asks at_first).0
      | inr apart ↦ so_far.await_theirs at is (omega (arith, below, apart)) (sym (others at apart) ∙ there)
    ];
    moved = λ at was is below polled there also. elim (cases_eq at place) [
      | inl here ↦
          let now_there = subst (λ n. slice_get now n ≡ Some is) here also in
          elim (cases_Bool its.ended) [
            | inl over ↦ inr (ended over is now_there)
            | inr on ↦ inl ((moves was is (later ∙ subst (λ n. slice_get before n ≡ Some was) here there) now_there).moved (served on))
          ]
      | inr apart ↦ so_far.moved at was is (omega (arith, below, apart)) polled there (sym (others at apart) ∙ also)
    ];
    done_more = λ not_all none. elim (both not_all) [
      | inl already ↦ elim (so_far.done_more already none) [
        | inl more ↦ let after = done_no_less mid now long goes in inl (omega (arith, more, after))
        | inr waits ↦ inr waits
      ]
      | inr on ↦
          let was = there_is mid place within in
          let is = there_is now place (omega (arith, within, long)) in
          let more = done_more mid now long goes place was.0 is.0 was.1 is.1 ((moves was.0 is.0 was.1 is.1).moved (served on)) in
          inl (omega (arith, more, first))
    ];
  }

-- What is known of a run whose sessions up to a place were polled: those from it on stay as they were, and so do those up to it of which an ask came to
-- nothing.
pub record PolledTo {R : Type 0} (run : Ghosts R) (came : List Polled) (place : ℕ) (all_ended : Bool) (before now : R) : Type 0 where
  pub workers : run.worker_lists now ≡ run.worker_lists before
  pub steps : run.step_on before now
  pub later : (at : ℕ) → place ≤ at → slice_get (run.session_lists now) at ≡ slice_get (run.session_lists before) at
  pub beside : (worker at : ℕ) → place ≤ at → run.are_beside worker at before → run.are_beside worker at now
  pub rested : (at : ℕ) → at < place → IsTrue (rested_at came at) → slice_get (run.session_lists now) at ≡ slice_get (run.session_lists before) at
  pub ended : IsTrue all_ended → (at : ℕ) → at < place → HasEnded (run.session_lists now) at
  pub swept : IsServed run before → SweptTo came place all_ended (run.session_lists before) (run.session_lists now)

module _ {R : Type 0} (run : Ghosts R) (came : List Polled) where
  -- at first none were,
  pub none_polled : (before : R) → run.step_on before before → PolledTo run came 0 true before before
  none_polled before still = record {
    workers = refl;
    steps = still;
    later = λ at low. refl;
    beside = λ worker at low beside. beside;
    rested = λ at below rests. absurd (omega (arith, below));
    ended = λ all at below. absurd (omega (arith, below));
    swept = λ served. none_swept came (run.session_lists before);
  }

  -- some are passed over,
  pub one_passed : (place : ℕ) (all_ended : Bool) (before now : R) → IsPassed came (run.session_lists before) place → PolledTo run came place all_ended before now
      → PolledTo run came (place + 1) false before now
  one_passed place all_ended before now passed so_far = record {
    workers = so_far.workers;
    steps = so_far.steps;
    later = λ at low. so_far.later at (omega (arith, low));
    beside = λ worker at low. so_far.beside worker at (omega (arith, low));
    rested = λ at below its. elim (cases_eq at place) [
      | inl here ↦ so_far.later at (omega (arith, here))
      | inr apart ↦ so_far.rested at (omega (arith, below, apart)) its
    ];
    ended = λ all. absurd (false≢true all);
    swept = λ served.
        one_left came place all_ended (run.session_lists before) (run.session_lists now) served.ready.await_theirs (so_far.later place (omega arith)) passed (so_far.swept served);
  }

  -- and another one is polled
  pub one_more : (place : ℕ) (all_ended all_now : Bool) (before mid now : R) (its : Polled) → rested_at came place ≡ false → run.worker_lists now ≡ run.worker_lists mid
      → ((other : ℕ) → other ≢ place → slice_get (run.session_lists now) other ≡ slice_get (run.session_lists mid) other)
      → ((worker other : ℕ) → other ≢ place → run.are_beside worker other mid → run.are_beside worker other now) → run.step_on before now
      → (IsTrue its.ended → HasEnded (run.session_lists now) place) → (IsTrue all_now → IsTrue all_ended × IsTrue its.ended)
      → (PolledTo run came place all_ended before mid → IsServed run before → SweptTo came (place + 1) all_now (run.session_lists before) (run.session_lists now))
      → PolledTo run came place all_ended before mid → PolledTo run came (place + 1) all_now before now
  one_more place all_ended all_now before mid now its awake workers others beside steps ended both swept so_far = record {
    workers = workers ∙ so_far.workers;
    steps = steps;
    later = λ at low. others at (λ same. omega (arith, low, same)) ∙ so_far.later at (omega (arith, low));
    beside = λ worker at low was. beside worker at (λ same. omega (arith, low, same)) (so_far.beside worker at (omega (arith, low)) was);
    rested = λ at below rests. elim (cases_eq at place) [
      | inl here ↦ absurd (false≢true (sym awake ∙ ap (rested_at came) (sym here) ∙ rests))
      | inr apart ↦ others at apart ∙ so_far.rested at (omega (arith, below, apart)) rests
    ];
    ended = λ all at below its_lists there. elim (cases_eq at place) [
      | inl here ↦ ended (both all).1 its_lists (subst (λ n. slice_get (run.session_lists now) n ≡ Some its_lists) here there)
      | inr apart ↦ so_far.ended (both all).0 at (omega (arith, below, apart)) its_lists (sym (others at apart) ∙ there)
    ];
    swept = swept so_far;
  }
