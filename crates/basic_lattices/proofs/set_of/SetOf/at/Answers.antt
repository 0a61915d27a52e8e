use Rattle.std.specs.Prelude.{slice_get}
use Rattle.std.proofs.Common.{sym, ap, ◌∙◌}
use Rattle.lattice_laws.proofs.SetsLemmas.{member_at}
use Rattle.basic_lattices.proofs.set_of.SetOf.at.Goals as goal

pub returns : goal.returns
returns g c =
    sym (member_at c.self.inside.members c.args.i (c.in_ok-member.member.now, c.in_ok-member.field-0-1.now) (sym c.in_ok-member.ensures))
    ∙ ap (λ words. slice_get words c.args.i) c.self.view_is
