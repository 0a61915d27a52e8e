-- Sums of what was added and taken, dot by dot.
use Rattle.std.specs.Prelude.{◌≡◌, ℕ, ◌+◌, ◌*◌, ◌<◌, ◌≤◌, List, take, slice_get, get_or, is_some, unwrap_or, Option, Some, None}
use Rattle.std.specs.List.{sum_by}
use Rattle.std.specs.Option.{option_map}
use Rattle.std.proofs.Common.{refl, sym, ap, subst, ◌∙◌, arith}
use Rattle.lattice_laws.specs.Entries.{IsEntry}
use Rattle.dot_lattices.specs.Amounts.{AreAmounts}
use Rattle.dot_lattices.specs.Dot.{IsDot}
use Rattle.dot_lattices.specs.DotSums.{IsDotSums, sum_told}
use Rattle.dot_lattices.specs.declared.amounts.Amounts.{Amounts}
use Rattle.dot_lattices.specs.declared.dot.Dot.{Dot}
use Rattle.std.proofs.lemmas.Bool.{false≢true}
use Rattle.std.proofs.lemmas.List.Sums.{sum_by_more}
use Rattle.std.proofs.lemmas.Option.{slice_get_within, get_or_from_slice_get}

-- one more number, and the bound that it keeps
pub one_more : {X : Type 0} (f : X → ℕ) (xs : List X) (i : ℕ) (x : X) (sum number : ℕ) → slice_get xs i ≡ Some x → f x ≡ number → number < 4294967296 → (sum ≡ sum_by f (take i xs)) × (sum ≤ i * 4294967295)
    → (sum + number ≡ sum_by f (take (i + 1) xs)) × (sum + number ≤ (i + 1) * 4294967295)
one_more f xs i x sum number here is fits so =
    let within = slice_get_within xs i x here in
    let last : f (get_or xs i x) ≡ number = ap f (get_or_from_slice_get xs i x x here) ∙ is in
    ((λ j. so.0 j + sym last j) ∙ sym (sum_by_more f xs i x within), omega (arith, so.1, fits))

-- the entry at a place, of which the numbers are told
pub told_at : (sums : List (Dot × Amounts)) (i : ℕ) (told : ℕ × ℕ × ℕ × ℕ) → IsDotSums sums → Some told ≡ option_map sum_told (slice_get sums i) → (entry : Dot × Amounts) × (slice_get sums i ≡ Some entry) × (sum_told entry ≡ told) × AreAmounts entry.1
told_at sums i told are here = of_some (slice_get sums i) refl here
  where
    of_some : (found : Option (Dot × Amounts)) → slice_get sums i ≡ found → Some told ≡ option_map sum_told found → (entry : Dot × Amounts) × (slice_get sums i ≡ Some entry) × (sum_told entry ≡ told) × AreAmounts entry.1
    of_some None is tells = absurd (false≢true (sym (ap is_some tells)))
    of_some (Some entry) is tells =
        let fits = subst (IsEntry IsDot AreAmounts) (get_or_from_slice_get sums i entry entry is) (are.are_entries i entry (slice_get_within sums i entry is)) in
        (entry, is, sym (ap (λ found. unwrap_or found told) tells), fits.1)
