use Rattle.std.specs.Prelude.{⊤}
use Rattle.run_measure.proofs.DoneLemmas.{done_rises}
use Rattle.run_measure.proofs.PollingLemmas.{polled}
use Rattle.run_measure.proofs.laws.sessions_go_on.Goals as goal

pub returns-clause-polls : goal.returns-clause-polls
returns-clause-polls c = λ answer before now counts counts_now. polled answer before now counts counts_now (λ place. ⊤) ⊤

pub returns-clause-done : goal.returns-clause-done
returns-clause-done c = done_rises
