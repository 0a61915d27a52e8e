use Rattle.session_known.proofs.LegalLemmas.{finals_agree}
use Rattle.session_known.proofs.laws.final_cells_agree.Goals as goal

pub returns : goal.returns
returns c = finals_agree
