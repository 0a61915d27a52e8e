-- Needs are a lattice, told by their clocks.
use Rattle.std.specs.Prelude.{◌≡◌, ℕ, ◌<◌, ◌^◌, List, [], ◌∷◌, length, ⊤}
use Rattle.std.proofs.Common.{arith}
use Rattle.std.proofs.lemmas.List.Elements.{All-head}
use Rattle.std.specs.Cmp.{nat_cmp_total}
use Rattle.std.specs.FinMap.{nat_cmp-IsAntisymmetric}
use Rattle.lattice_laws.specs.Lattice.{LatticeLaws, Associative}
use Rattle.lattice_laws.specs.Entries.{IsEntry}
use Rattle.lattice_laws.specs.EntriesLaws.{map_laws, map_associative}
use Rattle.clock_lattice.specs.Clock.{IsCount, IsClock, count_of, joined_clocks}
use Rattle.clock_lattice.specs.ClockLaws.{clock_laws, clock_associative, count-joined}
use Rattle.clock_lattice.specs.Needs.{IsSomeClock, IsNeeds, joined_needs}
use Rattle.clock_lattice.specs.SparseLaws.{first_value}

-- a clock that counts something of a session has an entry
some_entry : (clock : List (ℕ × ℕ)) (session : ℕ) → 0 < count_of session clock → 0 < length clock
some_entry [] session h = absurd (omega (arith, h))
some_entry (entry ∷ clock) session h = omega arith

-- a join counts something where the first clock does
some_joined : (a b : List (ℕ × ℕ)) → IsSomeClock a → IsClock b → 0 < length (joined_clocks a b)
some_joined [] b sa vb = absurd (omega (arith, sa.1))
some_joined (entry ∷ a) b sa vb =
    let of_session : count_of entry.0 (entry ∷ a) ≡ entry.1 = first_value nat_cmp_total nat_cmp-IsAntisymmetric 0 entry a in
    let some : 0 < entry.1 = (All-head (IsEntry (λ session. session < 2 ^ 16) IsCount) entry a sa.0.are_entries).1.0 in
    let joined = count-joined entry.0 (entry ∷ a) b sa.0 vb in
    some_entry (joined_clocks (entry ∷ a) b) entry.0 (omega (arith, of_session, some, joined))

-- clocks that count something keep the laws of clocks
pub some_clock_laws : LatticeLaws IsSomeClock (λ _ _. ⊤) joined_clocks
some_clock_laws = record {
  fits_itself = λ a va. tt;
  fits_back = λ a b va vb h. tt;
  fits_on = λ a b c va vb vc h i. tt;
  closed = λ a b va vb h. (((clock_laws.closed a b va.0 vb.0 tt).0, some_joined a b va vb.0), tt, tt);
  commutative = λ a b va vb h. clock_laws.commutative a b va.0 vb.0 tt;
  idempotent = λ a va. clock_laws.idempotent a va.0;
}

pub some_clock_associative : Associative IsSomeClock (λ _ _. ⊤) joined_clocks
some_clock_associative a b c va vb vc h i = clock_associative a b c va.0 vb.0 vc.0 tt tt

pub needs_laws : LatticeLaws IsNeeds (λ _ _. ⊤) joined_needs
needs_laws = map_laws nat_cmp_total nat_cmp-IsAntisymmetric (λ key. key < 2 ^ 16) some_clock_laws (λ _ _. tt)

pub needs_associative : Associative IsNeeds (λ _ _. ⊤) joined_needs
needs_associative = map_associative nat_cmp_total nat_cmp-IsAntisymmetric (λ key. key < 2 ^ 16) some_clock_laws (λ _ _. tt) some_clock_associative
