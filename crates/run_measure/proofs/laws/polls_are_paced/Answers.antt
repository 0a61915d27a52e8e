use Rattle.std.specs.Prelude.{⊤}
use Rattle.run_measure.proofs.PaceLemmas.{paced, paced_through}
use Rattle.run_measure.proofs.laws.polls_are_paced.Goals as goal

pub returns-clause-polls : goal.returns-clause-polls
returns-clause-polls c = λ answer before now counts counts_now polls share. paced answer before now counts counts_now (λ place. ⊤) ⊤ polls share

pub returns-clause-goes_on : goal.returns-clause-goes_on
returns-clause-goes_on c = paced_through
