use Rattle.anna_run.proofs.run.outcome_of.Goals as goal

pub returns-in-Some-Run-clause-complete : goal.returns-in-Some-Run-clause-complete
returns-in-Some-Run-clause-complete g c = λ input script gossip command told is rose. c.run_script.ensures.complete input script told is rose
