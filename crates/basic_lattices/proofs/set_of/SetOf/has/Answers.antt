use Rattle.std.specs.Prelude.{is_some}
use Rattle.std.specs.FinMap.{find}
use Rattle.std.proofs.Common.{sym, ap, ◌∙◌}
use Rattle.lattice_laws.proofs.SetsLemmas.{map_of_view, is_some-option_map}
use Rattle.basic_lattices.proofs.set_of.SetOf.has.Goals as goal

pub returns : goal.returns
returns g c =
    c.is_some.ensures
    ∙ sym (is_some-option_map (λ _. tt) c.get.result)
    ∙ ap is_some (c.get.ensures ∙ ap (find g.K.Ord.cmp c.args.member.now) (map_of_view _ c.args.self.now c.self.view_is))
