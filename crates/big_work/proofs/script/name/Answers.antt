use Rattle.std.proofs.Common.{sym, subst, ◌∙◌, lit≤, arith}
use Rattle.lattice_laws.specs.Spelling.{IsSpelled}
use Rattle.big_work.proofs.SpelledLemmas.{numbered_is_spelled, is_some_name}
use Rattle.big_work.proofs.script.name.Goals as goal

pub unreachable-requires : goal.unreachable-requires
unreachable-requires c =
    let spelled = numbered_is_spelled 32 c.args.number c.args.letter.now (lit≤ tt) (omega arith) c.requires in
    is_some_name c.as_bytes.result.now c.in_default.field-0 (subst (IsSpelled 32) (sym (c.as_bytes.ensures.value ∙ c.in_ok-text.ensures.ok)) spelled) c.in_default.ensures
