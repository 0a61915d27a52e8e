use Rattle.session_known.proofs.LegalLemmas.{accepted_are_numbered}
use Rattle.session_known.proofs.laws.accepted_puts_are_numbered.Goals as goal

pub returns : goal.returns
returns c = accepted_are_numbered
