-- After the polls of a sweep those sessions begin that wait for one that has ended: so the sweep makes the run go on.
use Rattle.std.specs.Prelude.{◌≡◌, ◌⊎◌, ℕ, zero, suc, ◌+◌, ◌-◌, ◌<◌, ◌≤◌, Bool, false, IsTrue, List, [], ◌∷◌, length, slice_get, sum_by, Some}
use Rattle.std.proofs.Common.{◌∙◌, arith, inl, inr, refl, subst, sym}
use Rattle.std.proofs.lemmas.Bool.{cases_Bool, false≢true}
use Rattle.std.proofs.lemmas.Option.{none-some, same_Some, slice_get_within}
use Rattle.session_proxy.specs.State.{Knew, Lists, Origin, WaitsFor, begins, has_begun}
use Rattle.party_turns.proofs.ItemsLemmas.{there_is, there_too}
use Rattle.party_turns.proofs.TogetherLemmas.{done_more, done_no_less}
use Rattle.run_measure.proofs.DoneLemmas.{begun_still, done_begins, done_rises}
use Rattle.run_measure.specs.Steps.{HasDone, done}
use Rattle.parties.specs.Sweeping.{AllAwait, EachMoves, EachStays, HasBegun, MovesOrEnds, WaitsForEarlier, WaitsForOther, rested_at}
use Rattle.parties.specs.declared.stepping.Polled.{Polled}
use Rattle.party_run.specs.Ready.{HasPolledAll, HasSwept, IsPolled, SomeWaits}

-- The first session that waits: all before it have begun.
record FirstWaits (those : List Lists) : Type 0 where
  at : ℕ
  its : Lists
  there : slice_get those at ≡ Some its
  waits : has_begun its.course ≡ false
  before : (other : ℕ) → other < at → HasBegun those other

-- one more before it
later_waits : (first : Lists) (those : List Lists) → IsTrue (has_begun first.course) → FirstWaits those → FirstWaits (first ∷ those)
later_waits first those begun waits = record {
  at = suc waits.at;
  its = waits.its;
  there = waits.there;
  waits = waits.waits;
  before = all;
}
  where
    all : (other : ℕ) → other < suc waits.at → HasBegun (first ∷ those) other
    all zero low its there = subst (λ (it : Lists). IsTrue (has_begun it.course)) (same_Some first its there) begun
    all (suc other) low its there = waits.before other (omega (arith, low)) its there

all_more : (first : Lists) (those : List Lists) → IsTrue (has_begun first.course) → ((at : ℕ) → HasBegun those at) → (at : ℕ) → HasBegun (first ∷ those) at
all_more first those begun all zero its there = subst (λ (it : Lists). IsTrue (has_begun it.course)) (same_Some first its there) begun
all_more first those begun all (suc at) its there = all at its there

-- either one does, or all have begun
some_waits : (those : List Lists) → FirstWaits those ⊎ ((at : ℕ) → HasBegun those at)
some_waits [] = inr (λ at its there. absurd (none-some its there))
some_waits (first ∷ those) = elim (cases_Bool (has_begun first.course)) [
  | inl begun ↦ elim (some_waits those) [
    | inl waits ↦ inl (later_waits first those begun waits)
    | inr all ↦ inr (all_more first those begun all)
  ]
  | inr waits ↦ inl (record { at = 0; its = first; there = refl; waits = waits; before = λ other low. absurd (omega (arith, low)) })
]

-- one that has not begun waits for some session
waits_for : (origin : Origin) → begins origin ≡ false → (session : ℕ) × (origin ≡ WaitsFor session)
waits_for (Knew known) not_begun = absurd (false≢true (sym not_begun))
waits_for (WaitsFor session) not_begun = (session, refl)

module _ (came : List Polled) (ended : Bool) (before mid now : List Lists) (polled : HasPolledAll came ended before mid) (long : length now ≡ length before) (mid_long : length mid ≡ length before)
    (goes : (at : ℕ) (was is : Lists) → slice_get before at ≡ Some was → slice_get now at ≡ Some is → HasDone was is)
    (then_goes : (at : ℕ) (was is : Lists) → slice_get mid at ≡ Some was → slice_get now at ≡ Some is → HasDone was is)
    (await : AllAwait now) (waits : (at : ℕ) → WaitsForOther now at) (in_order : (at : ℕ) → WaitsForEarlier now at)
    (stays : EachStays (HasBegun mid) mid now) where
  -- each that was polled has moved or ended
  moves : EachMoves (IsPolled came before) before now
  moves at was is its there here =
      let between = there_too mid before at was (sym mid_long) there in
      elim (polled.moved at was between.0 its there between.1) [
        | inl more ↦ let rest = done_rises between.0 is (then_goes at between.0 is between.1 here) in inl (omega (arith, more, rest))
        | inr at_end ↦
            let begun : HasBegun mid at = λ it is_there. subst (λ (it : Lists). IsTrue (has_begun it.course)) (same_Some between.0 it (sym between.1 ∙ is_there)) at_end.0 in
            let same = same_Some between.0 is (sym between.1 ∙ sym (stays at begun) ∙ here) in
            inr (subst (λ (it : Lists). IsTrue (has_begun it.course) × (length it.course.answers ≡ length it.course.lines)) same at_end)
      ]

  module _ (none : (at : ℕ) → rested_at came at ≡ false) where
    -- where one at a place has done more, more was done by all
    more_by : (at : ℕ) (was is : Lists) → slice_get before at ≡ Some was → slice_get now at ≡ Some is → done was + 1 ≤ done is → sum_by done before + 1 ≤ sum_by done now
    more_by at was is there here more = done_more before now long goes at was is there here more

    -- so it is where one that waited has begun,
    by_begun : (at : ℕ) (was is : Lists) → slice_get before at ≡ Some was → slice_get now at ≡ Some is → has_begun was.course ≡ false → IsTrue (has_begun is.course) → sum_by done before + 1 ≤ sum_by done now
    by_begun at was is there here not_yet since = more_by at was is there here (done_begins was is (goes at was is there here) not_yet since)

    -- and where the first one that waits does so for one that has begun and has not ended
    by_first : FirstWaits now → sum_by done before + 1 ≤ sum_by done now
    by_first first =
        let whom = waits_for first.its.course.origin first.waits in
        let earlier = in_order first.at first.its whom.0 first.there whom.1 in
        let within = slice_get_within now first.at first.its first.there in
        let other = there_is now (whom.0 - 1) (omega (arith, earlier.0, earlier.1, within)) in
        let was = there_too before now (whom.0 - 1) other.0 long other.1 in
        elim (cases_Bool (has_begun was.0.course)) [
          | inl begun ↦
              let had : HasBegun before (whom.0 - 1) = λ it is_there. subst (λ (it : Lists). IsTrue (has_begun it.course)) (same_Some was.0 it (sym was.1 ∙ is_there)) begun in
              elim (moves (whom.0 - 1) was.0 other.0 (none (whom.0 - 1), had) was.1 other.1) [
                | inl more ↦ more_by (whom.0 - 1) was.0 other.0 was.1 other.1 more
                | inr at_end ↦ absurd (waits first.at first.its whom.0 first.there whom.1 other.0 other.1 at_end)
              ]
          | inr not_yet ↦
              by_begun (whom.0 - 1) was.0 other.0 was.1 other.1 not_yet (first.before (whom.0 - 1) (omega (arith, earlier.0, earlier.1)) other.0 other.1)
        ]

    goes_further : SomeWaits before → sum_by done before + 1 ≤ sum_by done now
    goes_further some = elim (some_waits now) [
      | inl first ↦ by_first first
      | inr all ↦
          let is = there_too now before some.at some.its (sym long) some.there in
          by_begun some.at some.its is.0 some.there is.1 some.waits (all some.at is.0 is.1)
    ]

  pub all_swept : HasSwept came ended before now
  all_swept = record {
    await_theirs = await;
    moved = moves;
    waits = waits;
    done_more = λ not_all none. elim (polled.done_more not_all none) [
      | inl more ↦ let rest = done_no_less mid now (long ∙ sym mid_long) then_goes in omega (arith, more, rest)
      | inr some ↦ goes_further none some
    ];
  }
