use Rattle.session_known.proofs.LegalLemmas.{reply_counts_accepted}
use Rattle.session_known.proofs.laws.replies_count_accepted_puts.Goals as goal

pub returns : goal.returns
returns c = reply_counts_accepted
