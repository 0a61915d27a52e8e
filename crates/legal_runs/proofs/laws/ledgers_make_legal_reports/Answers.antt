use Rattle.legal_runs.proofs.LegalLemmas.{legal_and_causal}
use Rattle.legal_runs.proofs.laws.ledgers_make_legal_reports.Goals as goal

pub returns : goal.returns
returns c = legal_and_causal
