use Rattle.std.proofs.Common.{[], ◌∷◌, ◌++◌, OnOk, subst}
use Rattle.composed_value.specs.declared.put.Put.{Put}
use Rattle.anna_check.specs.ByKey.{AreByKey}
use Rattle.anna_check.proofs.answered.accept.Goals as goal

pub returns-clause-puts : goal.returns-clause-puts
returns-clause-puts c kinds puts before =
    subst (λ (put : Put). OnOk c.add.result (AreByKey kinds (puts ++ (c.args.key, put) ∷ []) c.add.new.self)) c.in_ok-put.ensures.put (c.add.ensures.puts kinds puts before)
