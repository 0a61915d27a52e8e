use Rattle.std.specs.Prelude.{⊤}
use Rattle.version_antichain.specs.AntichainLaws.{maximal_of_maximal}
use Rattle.version_antichain.proofs.antichain.maximal_of_maximal_in_any_order.Goals as goal

pub returns : goal.returns
returns g c = λ cmp below total exact order. maximal_of_maximal total exact (λ _. ⊤) below order
