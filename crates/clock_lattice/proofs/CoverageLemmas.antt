-- All that coverage keeps to follows from the laws of the lattice, where it is its order turned round, as it is for clocks and needs.
use Rattle.std.specs.Prelude.{◌≡◌, ◌↔◌, ◌<◌, ◌≤◌, ◌^◌, leb, Bool, IsTrue}
use Rattle.std.proofs.Common.{refl, sym, ◌∙◌, arith}
use Rattle.std.specs.Cmp.{nat_cmp_total}
use Rattle.std.specs.FinMap.{nat_cmp-IsAntisymmetric}
use Rattle.std.proofs.lemmas.Bool.{leb-true, le-leb}
use Rattle.lattice_laws.specs.Lattice.{LatticeLaws, Associative}
use Rattle.lattice_laws.specs.GreatestLaws.{max_laws}
use Rattle.lattice_laws.proofs.JoinsLemmas.{above_left, above_right, above_through, above_both}
use Rattle.clock_lattice.specs.Clock.{IsCount, IsClock, joined_clocks, covers}
use Rattle.clock_lattice.specs.ClockLaws.{clock_laws, clock_associative, zero_is_bottom}
use Rattle.clock_lattice.specs.Coverage.{CoverageLaws}
use Rattle.clock_lattice.specs.Needs.{IsNeeds, joined_needs, covers_needs}
use Rattle.clock_lattice.specs.NeedsLaws.{some_clock_laws, needs_laws, needs_associative}
use Rattle.clock_lattice.proofs.NeedsLemmas.{empty_is_bottom}
use Rattle.clock_lattice.proofs.SparseLemmas.{each_changes_nothing}

module _ {P : Type 0} {is_value : P → Type 0} {fits : P → P → Type 0} {joined : P → P → P} (laws : LatticeLaws is_value fits joined) (associative : Associative is_value fits joined) (all_fit : (a b : P) → fits a b) where
  pub coverage_laws : (covers : P → P → Bool) → ((a b : P) → is_value a → is_value b → IsTrue (covers b a) ↔ (joined a b ≡ b)) → CoverageLaws is_value joined covers
  coverage_laws covers changes =
      let value : (a b : P) → is_value a → is_value b → is_value (joined a b) = λ a b va vb. (laws.closed a b va vb (all_fit a b)).0 in
      record {
        changes_nothing = changes;
        itself = λ a va. (changes a a va va).1 (laws.idempotent a va);
        through = λ a b c va vb vc ab bc. (changes c a vc va).1 (above_through laws associative c b a vc vb va (all_fit c b) (all_fit b a) ((changes c b vc vb).0 bc) ((changes b a vb va).0 ab));
        each_other = λ a b va vb ab ba. sym ((changes b a vb va).0 ab) ∙ laws.commutative b a vb va (all_fit b a) ∙ (changes a b va vb).0 ba;
        join_covers = λ a b va vb. (
          (changes a (joined a b) va (value a b va vb)).1 (above_left laws associative a b va vb (all_fit a b)),
          (changes b (joined a b) vb (value a b va vb)).1 (above_right laws associative a b va vb (all_fit a b)),
        );
        join_is_least = λ a b c va vb vc ca cb. (changes (joined a b) c (value a b va vb) vc).1 (above_both laws associative a b c va vb vc (all_fit a b) (all_fit b c) ((changes a c va vc).0 ca) ((changes b c vb vc).0 cb));
      }

-- covering is the order of clocks turned round
pub clock_coverage : CoverageLaws IsClock joined_clocks covers
clock_coverage = coverage_laws clock_laws clock_associative (λ _ _. tt) covers (λ a b va vb.
    each_changes_nothing nat_cmp_total nat_cmp-IsAntisymmetric (λ session. session < 2 ^ 16) (max_laws IsCount) (λ _ _. tt) zero_is_bottom leb (λ n. le-leb 0 n (omega arith))
    (λ m n vm vn. ((λ h. let below : m ≤ n = leb-true m n h in omega arith), (λ e. le-leb m n (omega arith))))
    (λ c d vc vd. (clock_laws.closed c d vc vd tt).0) a b va vb)

-- covering is the order of needs turned round
pub needs_coverage : CoverageLaws IsNeeds joined_needs covers_needs
needs_coverage = coverage_laws needs_laws needs_associative (λ _ _. tt) covers_needs (λ a b va vb.
    each_changes_nothing nat_cmp_total nat_cmp-IsAntisymmetric (λ key. key < 2 ^ 16) some_clock_laws (λ _ _. tt) empty_is_bottom (λ mine theirs. covers theirs mine) (λ clock. refl)
    clock_coverage.changes_nothing
    (λ c d vc vd. (needs_laws.closed c d vc vd tt).0) a b va vb)
