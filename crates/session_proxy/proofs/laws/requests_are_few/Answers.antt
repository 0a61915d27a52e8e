use Rattle.session_proxy.proofs.FewLemmas.{has_sent_few}
use Rattle.session_proxy.proofs.laws.requests_are_few.Goals as goal

pub returns : goal.returns
returns c = has_sent_few
