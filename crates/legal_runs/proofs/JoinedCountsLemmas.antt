-- How many puts of a session a join of cells counts.
use Rattle.std.specs.Prelude.{◌≡◌, ℕ, ◌≤◌, max, List, [], ◌∷◌, All, Contains}
use Rattle.std.proofs.Common.{refl, subst, inl, inr, arith}
use Rattle.std.proofs.lemmas.List.Elements.{All-head, All-tail}
use Rattle.lattice_laws.proofs.MembersLemmas.{contains_cases, contains_none}
use Rattle.clock_lattice.specs.Clock.{count_of}
use Rattle.clock_lattice.specs.ClockLaws.{count-joined}
use Rattle.composed_value.specs.Cell.{PlainCell, joined_cells}
use Rattle.composed_value.specs.declared.kind.Kind.{Kind}
use Rattle.worker_core.specs.Share.{joined_with}
use Rattle.worker_core.proofs.OwnLemmas.{IsCellOfKind, joined_two}

module _ (kind : Kind) (session : ℕ) where
  -- how many a cell counts
  abbrev counts : PlainCell → ℕ
  counts cell = count_of session cell.clock

  count_of_two : (a b : PlainCell) → IsCellOfKind kind a → IsCellOfKind kind b → counts (joined_cells a b) ≡ max (counts a) (counts b)
  count_of_two a b is_a is_b = count-joined session a.clock b.clock is_a.is_cell.clock_is is_b.is_cell.clock_is

  -- as many at least as the first
  pub counts_first : (first : PlainCell) (rest : List PlainCell) → IsCellOfKind kind first → All (IsCellOfKind kind) rest → counts first ≤ counts (joined_with first rest)
  counts_first first [] is are = omega arith
  counts_first first (next ∷ rest) is are =
      let is_next : IsCellOfKind kind next = All-head (IsCellOfKind kind) next rest are in
      let later = counts_first (joined_cells first next) rest (joined_two kind first next is is_next) (All-tail (IsCellOfKind kind) next rest are) in
      omega (arith, later, count_of_two first next is is_next)

  -- and as each of the others
  pub counts_each : (first : PlainCell) (rest : List PlainCell) → IsCellOfKind kind first → All (IsCellOfKind kind) rest → (cell : PlainCell) → Contains rest cell
      → counts cell ≤ counts (joined_with first rest)
  counts_each first [] is are cell has_it = absurd (contains_none cell has_it)
  counts_each first (next ∷ rest) is are cell has_it =
      let is_next : IsCellOfKind kind next = All-head (IsCellOfKind kind) next rest are in
      let both : PlainCell = joined_cells first next in
      let is_both : IsCellOfKind kind both = joined_two kind first next is is_next in
      let are_rest = All-tail (IsCellOfKind kind) next rest are in
      elim (contains_cases next cell rest has_it) [
        | inl same ↦
            let later = counts_first both rest is_both are_rest in
            subst (λ c. counts c ≤ counts (joined_with both rest)) same (omega (arith, later, count_of_two first next is is_next))
        | inr there ↦ counts_each both rest is_both are_rest cell there
      ]

  -- it counts no more than the first where the others count none
  pub counts_no_more : (first : PlainCell) (rest : List PlainCell) → IsCellOfKind kind first → All (IsCellOfKind kind) rest → All (λ cell. counts cell ≡ 0) rest
      → counts (joined_with first rest) ≡ counts first
  counts_no_more first [] is are none = refl
  counts_no_more first (next ∷ rest) is are none =
      let is_next : IsCellOfKind kind next = All-head (IsCellOfKind kind) next rest are in
      let later = counts_no_more (joined_cells first next) rest (joined_two kind first next is is_next) (All-tail (IsCellOfKind kind) next rest are) (All-tail (λ c. counts c ≡ 0) next rest none) in
      omega (arith, later, count_of_two first next is is_next, All-head (λ c. counts c ≡ 0) next rest none)
