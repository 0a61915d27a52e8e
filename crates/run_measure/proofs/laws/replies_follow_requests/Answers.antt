use Rattle.std.specs.Prelude.{⊤}
use Rattle.run_measure.proofs.TurningLemmas.{turned}
use Rattle.run_measure.proofs.laws.replies_follow_requests.Goals as goal

pub returns-clause-turns : goal.returns-clause-turns
returns-clause-turns c = λ its before now count count_now. turned its before now count count_now (λ place tries. ⊤)
