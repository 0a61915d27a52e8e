-- Cells of one kind are a lattice, as each of their four parts is.
use Rattle.std.specs.Prelude.{◌≡◌, ◌<◌, ◌^◌, max}
use Rattle.std.proofs.Common.{refl, sym, ◌∙◌}
use Rattle.lattice_laws.specs.Lattice.{LatticeLaws, Associative}
use Rattle.lattice_laws.specs.GreatestLaws.{max_laws, max_associative}
use Rattle.clock_lattice.specs.ClockLaws.{clock_laws, clock_associative}
use Rattle.clock_lattice.specs.NeedsLaws.{needs_laws, needs_associative}
use Rattle.composed_value.specs.Cell.{PlainCell, IsCell, AreOfOneKind, joined_cells}
use Rattle.composed_value.specs.ValueLaws.{value_laws, value_associative}

-- cells are equal where their parts are
pub same_parts : (a b : PlainCell) → a.clock ≡ b.clock → a.needs ≡ b.needs → a.top ≡ b.top → a.value ≡ b.value → a ≡ b
same_parts a b clock needs top value = λ i. record { clock = clock i; needs = needs i; top = top i; value = value i }

top_laws : LatticeLaws (λ top. top < 2 ^ 64) (λ _ _. Unit {0}) max
top_laws = max_laws (λ top. top < 2 ^ 64)

pub cell_laws : LatticeLaws IsCell AreOfOneKind joined_cells
cell_laws = record {
  fits_itself = λ a va. refl;
  fits_back = λ a b va vb h. sym h;
  fits_on = λ a b c va vb vc h i. h ∙ i;
  closed = λ a b va vb h.
      let value = value_laws.closed a.value b.value va.value_is vb.value_is h in (
        record {
          clock_is = (clock_laws.closed a.clock b.clock va.clock_is vb.clock_is tt).0;
          needs_are = (needs_laws.closed a.needs b.needs va.needs_are vb.needs_are tt).0;
          top_fits = (top_laws.closed a.top b.top va.top_fits vb.top_fits tt).0;
          value_is = value.0;
        },
        value.1,
        value.2,
      );
  commutative = λ a b va vb h. same_parts _ _
      (clock_laws.commutative a.clock b.clock va.clock_is vb.clock_is tt)
      (needs_laws.commutative a.needs b.needs va.needs_are vb.needs_are tt)
      (top_laws.commutative a.top b.top va.top_fits vb.top_fits tt)
      (value_laws.commutative a.value b.value va.value_is vb.value_is h);
  idempotent = λ a va. same_parts _ _ (clock_laws.idempotent a.clock va.clock_is) (needs_laws.idempotent a.needs va.needs_are) (top_laws.idempotent a.top va.top_fits) (value_laws.idempotent a.value va.value_is);
}

pub cell_associative : Associative IsCell AreOfOneKind joined_cells
cell_associative a b c va vb vc h i = same_parts _ _
    (clock_associative a.clock b.clock c.clock va.clock_is vb.clock_is vc.clock_is tt tt)
    (needs_associative a.needs b.needs c.needs va.needs_are vb.needs_are vc.needs_are tt tt)
    (max_associative (λ top. top < 2 ^ 64) a.top b.top c.top va.top_fits vb.top_fits vc.top_fits tt tt)
    (value_associative a.value b.value c.value va.value_is vb.value_is vc.value_is h i)
