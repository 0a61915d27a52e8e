-- How many turns the parties take.
use Rattle.std.specs.Prelude.{◌≡◌, ℕ, zero, suc, ◌+◌, ◌-◌, ◌<◌, List, [], ◌∷◌, ◌++◌, length, map}
use Rattle.std.proofs.Common.{◌∙◌, ap, arith, inl, inr, sym}
use Rattle.std.proofs.Math.Seq.{get_or-append_seam}
use Rattle.std.proofs.lemmas.Bool.{cases_eq, cases_lt}
use Rattle.std.proofs.lemmas.List.{get_or-append-add, get_or_append_left, length-append}
use Rattle.parties.specs.Pace.{RoseAtMost}
use Rattle.party_epochs.specs.Pieces.{Pairwise}
use Rattle.party_epochs.specs.Turns.{AreCounted, TakesAtMost, turns_of}

-- none is counted
pub none_counted : (turns : List ℕ) (from : ℕ) → AreCounted turns from []
none_counted turns from place low = absurd (omega (arith, low))

-- one more party is
pub one_counted : (turns : List ℕ) (from : ℕ) (counts : List ℕ) (count : ℕ) → AreCounted turns from counts → count ≡ turns_of turns (from + length counts)
    → AreCounted turns from (counts ++ count ∷ [])
one_counted turns from counts count counted is place low =
    elim (cases_eq place (length counts)) [
      | inl last ↦ ap (turns_of (counts ++ count ∷ [])) last ∙ get_or-append_seam counts count [] 0 ∙ is ∙ ap (λ n. turns_of turns (from + n)) (sym last)
      | inr other ↦
          let long = length-append counts (count ∷ []) in
          let before : place < length counts = omega (arith, low, other, long) in
          get_or_append_left counts (count ∷ []) 0 place before ∙ counted place before
    ]

-- A party takes so many turns at most where what it becomes says so,
pub takes_each : {X : Type 0} (becomes : X → X → Type 0) (count : X → ℕ) (most : ℕ) → ((x y : X) → becomes x y → RoseAtMost most (count x) (count y))
    → (before now : List X) → Pairwise becomes before now → (place : ℕ) → RoseAtMost most (turns_of (map count before) place) (turns_of (map count now) place)
takes_each becomes count most tells [] [] are place = (omega arith, omega arith)
takes_each becomes count most tells [] (y ∷ ys) are place = absurd are
takes_each becomes count most tells (x ∷ xs) [] are place = absurd are
takes_each becomes count most tells (x ∷ xs) (y ∷ ys) are zero = tells x y are.0
takes_each becomes count most tells (x ∷ xs) (y ∷ ys) are (suc place) = takes_each becomes count most tells xs ys are.1 place

-- and so do all
pub all_take : (most : ℕ) (turns workers workers_now sessions sessions_now : List ℕ) → AreCounted turns 0 workers → AreCounted turns (length workers) sessions
    → length workers_now ≡ length workers → length sessions_now ≡ length sessions
    → ((place : ℕ) → RoseAtMost most (turns_of workers place) (turns_of workers_now place))
    → ((place : ℕ) → RoseAtMost most (turns_of sessions place) (turns_of sessions_now place)) → TakesAtMost most turns (workers_now ++ sessions_now)
all_take most turns workers workers_now sessions sessions_now counted others_counted as_many so_many each others party within =
    elim (cases_lt party (length workers)) [
      | inl low ↦
          let is = get_or_append_left workers_now sessions_now 0 party (omega (arith, low, as_many)) in
          let same : 0 + party ≡ party = omega arith in
          let was = counted party low ∙ ap (turns_of turns) same in
          let more = each party in
          (omega (arith, is, was, more.0), omega (arith, is, was, more.1))
      | inr high ↦
          let at = party - length workers_now in
          let here : party ≡ length workers_now + at = omega (arith, high, as_many) in
          let is = ap (turns_of (workers_now ++ sessions_now)) here ∙ get_or-append-add workers_now sessions_now at 0 in
          let more = others at in
          elim (cases_lt at (length sessions)) [
            | inl below ↦
                let was = others_counted at below ∙ ap (turns_of turns) (ap (λ n. n + at) (sym as_many) ∙ sym here) in
                (omega (arith, is, was, more.0), omega (arith, is, was, more.1))
            | inr past ↦ let long = length-append workers_now sessions_now in absurd (omega (arith, past, so_many, here, long, within))
          ]
    ]
