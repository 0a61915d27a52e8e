use Rattle.worked_laws.proofs.PutsLemmas.{worked_are_causal}
use Rattle.worked_laws.proofs.puts.worked_puts_are_causal.Goals as goal

pub returns : goal.returns
returns c = worked_are_causal
