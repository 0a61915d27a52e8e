use Rattle.mail_contract.proofs.PlainLemmas.{given_told}
use Rattle.mail_contract.proofs.parcels.lane.PlainLaneLane.draw.Goals as goal

pub returns-clause-given : goal.returns-clause-given
returns-clause-given g c = given_told _ _ _ (omega Rattle.std.proofs.Common.arith)
