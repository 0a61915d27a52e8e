-- The cell of some of the accepted puts on a key is sound where, with a put, it has all that the put's session made before.
use Rattle.std.specs.Prelude.{◌≡◌, ℕ, ◌+◌, ◌<◌, ◌≤◌, ◌==◌, List, ◌++◌, length, map, slice_index_or, Contains}
use Rattle.std.proofs.Common.{◌∙◌, refl, sym, ap, subst, inl, inr, length-append, arith}
use Rattle.std.proofs.lemmas.Bool.{eq-eqb, eqb-true, leb-true, le-leb}
use Rattle.std.proofs.lemmas.List.{get_or_append_left}
use Rattle.std.proofs.lemmas.List.Elements.{All-contains, All-contains_itself, Contains-append_left}
use Rattle.lattice_laws.specs.Joins.{SameMembers}
use Rattle.lattice_laws.proofs.MembersLemmas.{contains_filter, contains_filtered, contains_map, contains_mapped}
use Rattle.clock_lattice.specs.Clock.{count_of}
use Rattle.composed_value.specs.Cell.{IsCell, cell_of}
use Rattle.composed_value.specs.PlainValue.{IsCellOf, IsPutOf, puts_of_session}
use Rattle.composed_value.specs.Sound.{AreAccepted, IsSoundCell, counted, is_counted}
use Rattle.composed_value.proofs.CellOfLemmas.{cell_of_is_cell, cell_of_members}
use Rattle.session_known.specs.Accepted.{AreNext}
use Rattle.session_known.proofs.NumberedLemmas.{number_at}
use Rattle.composed_value.specs.declared.kind.Kind.{Kind}
use Rattle.composed_value.specs.declared.put.Put.{Put}

-- some of the puts: with each all that its session made before
pub record AreFirst (puts part : List Put) : Type 0 where
  pub within : (put : Put) → Contains part put → Contains puts put
  pub before : (put later : Put) → Contains puts put → Contains part later → put.session ≡ later.session → put.number ≤ later.number → Contains part put

-- it is so where, of each session, the part has the front of what was accepted, numbered one by one
pub fronts_are_first : (puts part : List Put) → ((session : ℕ) → AreNext 0 (puts_of_session session puts))
    → ((session : ℕ) → (rest : List Put) × (puts_of_session session part ++ rest ≡ puts_of_session session puts)) → AreFirst puts part
fronts_are_first puts part next front = record {
  within = λ put has_it.
      let mine = in_session part put has_it in
      let there = subst (λ all. Contains all put) (front put.session).1 (Contains-append_left (puts_of_session put.session part) (front put.session).0 put mine) in
      (contains_filtered (λ p. put.session == p.session) puts put there).0;
  before = λ put later has_it has_later same low.
      let s : ℕ = later.session in
      let all : List Put = puts_of_session s puts in
      let some : List Put = puts_of_session s part in
      let mine : Contains all put = contains_filter (λ p. s == p.session) puts put has_it (eq-eqb s put.session (sym same)) in
      let last : Contains some later = in_session part later has_later in
      let is : some ++ (front s).0 ≡ all = (front s).1 in
      let long : length some ≤ length all = let whole = ap length is in omega (arith, whole, length-append some (front s).0) in
      let at : (place : ℕ) (d : Put) → place < length some → slice_index_or all place d ≡ slice_index_or some place d =
      λ place d within. sym (ap (λ l. slice_index_or l place d) is) ∙ get_or_append_left some (front s).0 d place within
      in
      let later_is : later.number ≡ last.0 + 1 =
      sym (ap (λ p. p.number) (at last.0 later last.1 ∙ last.2)) ∙ number_at 0 all (next s) last.0 later (omega (arith, long, last.1)) ∙ omega arith
      in
      let put_is : put.number ≡ mine.0 + 1 = sym (ap (λ p. p.number) mine.2) ∙ number_at 0 all (next s) mine.0 put mine.1 ∙ omega arith in
      let within : mine.0 < length some = omega (arith, low, later_is, put_is, last.1) in
      (contains_filtered (λ p. s == p.session) part put (mine.0, within, sym (at mine.0 put within) ∙ mine.2)).0;
}
  where
    in_session : (all : List Put) (put : Put) → Contains all put → Contains (puts_of_session put.session all) put
    in_session all put has_it = contains_filter (λ p. put.session == p.session) all put has_it (eq-eqb put.session put.session refl)

module _ (kind : Kind) (puts part : List Put) (are : AreAccepted kind puts) (first : AreFirst puts part) where
  -- the numbers of a session's puts on the key
  within_number : (session : ℕ) (put : Put) → Contains puts put → session ≡ put.session → (1 ≤ put.number) × (put.number ≤ length (puts_of_session session puts))
  within_number session put has_it same =
      All-contains (λ p. (1 ≤ p.number) × (p.number ≤ length (puts_of_session session puts))) (puts_of_session session puts) put (are.numbered session).within
      (contains_filter (λ p. session == p.session) puts put has_it (eq-eqb session put.session same))

  is_cell : IsCell (cell_of kind part) × IsCellOf kind part (cell_of kind part)
  is_cell = cell_of_is_cell kind part (λ k d low. All-contains (IsPutOf kind) puts _ are.of_kind (first.within _ (All-contains_itself part k d low)))

  abbrev clock : List (ℕ × ℕ)
  clock = (cell_of kind part).clock

  -- a put whose number is the greatest of its session's
  greatest_at : (session : ℕ) → Contains (map (λ p. p.number) (puts_of_session session part)) (count_of session clock) → (put : Put) × Contains part put × (session ≡ put.session) × (put.number ≡ count_of session clock)
  greatest_at session there =
      let from = contains_mapped (λ p. p.number) (puts_of_session session part) (count_of session clock) there in
      let of_session = contains_filtered (λ p. session == p.session) part from.0 from.1 in
      (from.0, of_session.0, eqb-true session from.0.session of_session.1, from.2)

  counts_them : (put : Put) → Contains part put → Contains (counted puts clock) put
  counts_them put has_it =
      contains_filter (is_counted clock) puts put (first.within put has_it)
      (le-leb put.number (count_of put.session clock)
      ((is_cell.1.clock put.session).0 put.number
      (contains_map (λ p. p.number) (puts_of_session put.session part) put
      (contains_filter (λ p. put.session == p.session) part put has_it (eq-eqb put.session put.session refl)))))

  counts_no_other : (put : Put) → Contains (counted puts clock) put → Contains part put
  counts_no_other put has_it =
      let from = contains_filtered (is_counted clock) puts put has_it in
      let low : put.number ≤ count_of put.session clock = leb-true put.number (count_of put.session clock) from.1 in
      elim (is_cell.1.clock put.session).1 [
        | inl there ↦
            let last = greatest_at put.session there in
            first.before put last.0 from.0 last.1 last.2 (omega (arith, low, last.3))
        | inr none ↦ absurd (omega (arith, low, none, (within_number put.session put from.0 refl).0))
      ]

  same : SameMembers part (counted puts clock)
  same put = (counts_them put, counts_no_other put)

  counts : (session : ℕ) → count_of session clock ≤ length (puts_of_session session puts)
  counts session = elim (is_cell.1.clock session).1 [
    | inl there ↦
        let last = greatest_at session there in
        omega (arith, last.3, (within_number session last.0 (first.within last.0 last.1) last.2).1)
    | inr none ↦ omega (arith, none)
  ]

  -- the cell of the part is sound for all
  pub sound_part : IsSoundCell kind puts (cell_of kind part)
  sound_part =
      let of = cell_of_members kind part (counted puts clock) (cell_of kind part) same is_cell.1 in
      record { shown = record { counts = counts; value_is = of.value; top_is = of.top }; needs = of.needs }
