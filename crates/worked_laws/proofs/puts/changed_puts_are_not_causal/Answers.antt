use Rattle.worked_laws.proofs.PutsLemmas.{need_of_a_put_not_there_is_refused, need_on_another_key_is_refused, need_at_the_same_lamport_is_refused, need_at_a_greater_lamport_is_refused, needs_of_each_other_are_refused, need_not_covered_is_refused}
use Rattle.worked_laws.proofs.puts.changed_puts_are_not_causal.Goals as goal

pub returns-clause-need_of_a_put_not_there : goal.returns-clause-need_of_a_put_not_there
returns-clause-need_of_a_put_not_there c = need_of_a_put_not_there_is_refused

pub returns-clause-need_on_another_key : goal.returns-clause-need_on_another_key
returns-clause-need_on_another_key c = need_on_another_key_is_refused

pub returns-clause-need_at_the_same_lamport : goal.returns-clause-need_at_the_same_lamport
returns-clause-need_at_the_same_lamport c = need_at_the_same_lamport_is_refused

pub returns-clause-need_at_a_greater_lamport : goal.returns-clause-need_at_a_greater_lamport
returns-clause-need_at_a_greater_lamport c = need_at_a_greater_lamport_is_refused

pub returns-clause-needs_of_each_other : goal.returns-clause-needs_of_each_other
returns-clause-needs_of_each_other c = needs_of_each_other_are_refused

pub returns-clause-need_not_covered : goal.returns-clause-need_not_covered
returns-clause-need_not_covered c = need_not_covered_is_refused
