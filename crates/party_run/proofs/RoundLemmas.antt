-- What a round tells of the sessions, by what its epoch and its sweep tell.
use Rattle.std.specs.Prelude.{◌≡◌, ◌⊎◌, ℕ, zero, suc, ◌+◌, ◌≤◌, false, IsTrue, List, [], ◌∷◌, All, length, map, slice_get, sum_by, Some, ⊤, Result, Ok, Err, IfOk, OnOk}
use Rattle.std.proofs.Common.{◌∙◌, ap, arith, inl, inr, refl, subst, sym}
use Rattle.std.proofs.lemmas.Option.{same_Some}
use Rattle.std.proofs.lemmas.Bool.{both_ways, cases_Bool}
use Rattle.session_proxy.specs.State.{Lists, PlainProxy, has_begun}
use Rattle.party_turns.proofs.ItemsLemmas.{all_there, at_its_place, of_mapped, there_too}
use Rattle.party_turns.specs.Ends.{Ends, session_lists}
use Rattle.run_measure.proofs.DoneLemmas.{begun_still, done_rises}
use Rattle.run_measure.specs.Steps.{HasDone, done}
use Rattle.parties.specs.Waiting.{AreSigned, AreToAsks, AwaitsMissing}
use Rattle.party_turns.proofs.TogetherLemmas.{done_more, done_no_less}
use Rattle.parties.specs.Progress.{HasMovedOn}
use Rattle.parties.specs.declared.stepping.Polled.{Polled}
use Rattle.parties.specs.Sweeping.{AllAwait, AllToAsks, EachMoves, HasBegun, rested_at, rested_of}
use Rattle.party_run.specs.Ready.{IsPolled}

-- What holds of a value holds of it still, where it also says which steps were taken.
pub by_steps : {X E : Type 0} (result : Result X E) (Steps : Type 0) (P P_still : X → Type 0) → OnOk result Steps → IfOk result P → (Steps → (x : X) → P x → P_still x) → IfOk result P_still
by_steps (Ok x) Steps P P_still steps holds then = then steps x holds
by_steps (Err error) Steps P P_still steps holds then = tt

-- No ask of the first session came to nothing, and none of the others.
none_rested : (first : Polled) (came : List Polled) → first.rested ≡ false → ((at : ℕ) → rested_at came at ≡ false) → (at : ℕ) → rested_at (first ∷ came) at ≡ false
none_rested first came here others zero = here
none_rested first came here others (suc at) = others at

-- either one of some session came to nothing, or none of any
pub some_rested : (came : List Polled) → ((at : ℕ) × (its : Polled) × (slice_get came at ≡ Some its) × IsTrue its.rested) ⊎ ((at : ℕ) → rested_at came at ≡ false)
some_rested [] = inr (λ at. refl)
some_rested (first ∷ came) = elim (cases_Bool first.rested) [
  | inl here ↦ inl (0, first, refl, here)
  | inr not_here ↦ elim (some_rested came) [
    | inl there ↦ inl (suc there.0, there.1, there.2, there.3)
    | inr none ↦ inr (none_rested first came not_here none)
  ]
]

-- each session has moved on in an epoch, by what came of its turns
abbrev pub HaveMovedOn : List Polled → List Lists → List Lists → Type 0
HaveMovedOn came before now =
    (at : ℕ) (its : Polled) (was is : Lists) → slice_get came at ≡ Some its → slice_get before at ≡ Some was → slice_get now at ≡ Some is → HasMovedOn its was is

module _ (came : List Polled) (before then : List Lists) (of_each : length before ≡ length came) (long : length then ≡ length before) (each : HaveMovedOn came before then) where
  -- what each waited for before it and did not take, or waits for after it, it has not taken
  pub await_still : AllAwait before → AllToAsks before → AllAwait then
  await_still await to_asks = all_there AwaitsMissing then (λ at is here.
      let was = there_too before then at is long here in
      let its = there_too came before at was.0 of_each was.1 in
      (each at its.0 was.0 is its.1 was.1 here).awaits (at_its_place AwaitsMissing before at was.0 await was.1)
      (at_its_place (λ its. AreToAsks its × AreSigned its) before at was.0 to_asks was.1).0)

  -- each session has gone on in it,
  goes : (at : ℕ) (was is : Lists) → slice_get before at ≡ Some was → slice_get then at ≡ Some is → HasDone was is
  goes at was is there here =
      let its = there_too came before at was of_each there in
      (each at its.0 was is its.1 there here).goes_on

  -- so no less was done by its end,
  pub no_less_done : sum_by done before ≤ sum_by done then
  no_less_done = done_no_less before then long goes

  -- and more where an ask of one came to nothing
  pub more_done : (at : ℕ) (its : Polled) → slice_get came at ≡ Some its → IsTrue its.rested → sum_by done before + 1 ≤ sum_by done then
  more_done at its there rested =
      let was = there_too before came at its (sym of_each) there in
      let is = there_too then before at was.0 (sym long) was.1 in
      let moved = each at its was.0 is.0 there was.1 is.1 in
      done_more before then long goes at was.0 is.0 was.1 is.1 (moved.moved (moved.rested rested))

  -- and where those move or end after it that are polled then, each that had begun before it has moved since, or has ended
  pub all_move : (now : List Lists) → ((at : ℕ) (was is : Lists) → slice_get then at ≡ Some was → slice_get now at ≡ Some is → HasDone was is)
      → EachMoves (IsPolled came then) then now → EachMoves (HasBegun before) before now
  all_move now go_on moves at was is begun there here =
      let between = there_too then before at was (sym long) there in
      let its = there_too came before at was of_each there in
      let moved = each at its.0 was between.0 its.1 there between.1 in
      let first = done_rises was between.0 moved.goes_on in
      let rest = done_rises between.0 is (go_on at between.0 is between.1 here) in
      elim (cases_Bool its.0.rested) [
        | inl rested ↦ let more = moved.moved (moved.rested rested) in inl (omega (arith, more, rest))
        | inr not_rested ↦ elim (moves at between.0 is (ap rested_of its.1 ∙ not_rested, λ it is_there. subst (λ (it : Lists). IsTrue (has_begun it.course)) (same_Some between.0 it (sym between.1 ∙ is_there)) (begun_still was between.0 moved.goes_on (begun was there))) between.1 here) [
          | inl more ↦ inl (omega (arith, first, more))
          | inr ended ↦ inr ended
        ]
      ]

module _ {S T O Q G R SK TK OK QK GK RK : Type 0} (mail : Ends S T O Q G R SK TK OK QK GK RK) where
  -- sessions that await no reply have not taken what they wait for
  pub none_await : (proxies : List (PlainProxy S R)) → All (λ proxy. proxy.course.waits ≡ false) proxies → AllAwait (map (session_lists mail) proxies)
  none_await proxies none = all_there AwaitsMissing (map (session_lists mail) proxies) (λ at its there waits.
      let proxy = of_mapped (session_lists mail) proxies at its there in
      let not_waiting = at_its_place (λ (one : PlainProxy S R). one.course.waits ≡ false) proxies at proxy.0 none proxy.1 in
      absurd (both_ways proxy.0.course.waits not_waiting (ap (λ (lists : Lists). lists.course.waits) proxy.2 ∙ waits)))
