-- Counters: for each dot what was added and what was taken there, as entries in the order of the dots.
use Rattle.std.specs.Prelude.{ℕ, ℤ, pos, ◌-ℤ◌, Bool, List, [], ◌∷◌, unwrap_or}
use Rattle.std.specs.List.{sum_by}
use Rattle.std.specs.FinMap.{find}
use Rattle.lattice_laws.specs.Entries.{IsMap, joined_maps}
use Rattle.dot_lattices.specs.Amounts.{AreAmounts, joined_amounts, amounts_of}
use Rattle.dot_lattices.specs.Dot.{dot_cmp, IsDot}
use Rattle.dot_lattices.specs.declared.amounts.Amounts.{Amounts}
use Rattle.dot_lattices.specs.declared.dot.Dot.{Dot}

-- a counter that there can be: the dots strictly rise
abbrev pub IsDotSums : List (Dot × Amounts) → Type 0
IsDotSums sums = IsMap dot_cmp IsDot AreAmounts sums

-- the amounts at a dot, 0 where the counter does not have it
abbrev pub amounts_at : Dot → List (Dot × Amounts) → Amounts
amounts_at dot sums = unwrap_or (find dot_cmp dot sums) (record { added = 0; taken = 0 })

-- at each dot the greater of each amount
abbrev pub joined_sums : List (Dot × Amounts) → List (Dot × Amounts) → List (Dot × Amounts)
joined_sums a b = joined_maps dot_cmp joined_amounts a b

-- the counter of one put
abbrev pub one_sum : Dot → Bool → ℕ → List (Dot × Amounts)
one_sum dot plus amount = (dot, amounts_of plus amount) ∷ []

-- all that was added less all that was taken
abbrev pub total_of : List (Dot × Amounts) → ℤ
total_of sums = pos (sum_by (λ entry. entry.1.added) sums) -ℤ pos (sum_by (λ entry. entry.1.taken) sums)

-- an entry as its numbers are told
abbrev pub sum_told : Dot × Amounts → ℕ × ℕ × ℕ × ℕ
sum_told entry = (entry.0.session, entry.0.number, entry.1.added, entry.1.taken)
