use Rattle.std.proofs.Common.{rules, [], map, sym, ap, subst, ◌∙◌}
use Rattle.std.proofs.lemmas.List.{take_all}
use Rattle.anna_check.specs.ByKey.{AreByKey}
use Rattle.anna_check.proofs.ByKeyLemmas.{no_puts, none_accepted}
use Rattle.anna_check.proofs.accepted.Accepted.new.Goals as goal

pub returns : goal.returns
returns c =
    let all = c.loop-kind.invariant ∙ ap (map no_puts) (take_all c.loop-kind.kind-index c.args.kinds.now (search rules)) in
    subst (AreByKey c.args.kinds.now []) (sym all) (none_accepted c.args.kinds.now)
