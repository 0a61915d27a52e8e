use Rattle.std.proofs.Common.{ap, ◌∙◌}
use Rattle.composed_value.specs.Kind.{kind_of_value}
use Rattle.composed_value.proofs.ValidValueLemmas.{empty_has_kind}
use Rattle.composed_value.proofs.cell.Cell.empty.Goals as goal

pub returns-clause-kind : goal.returns-clause-kind
returns-clause-kind c = ap kind_of_value c.empty.ensures ∙ empty_has_kind c.args.kind
