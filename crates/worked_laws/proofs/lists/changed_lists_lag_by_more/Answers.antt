use Rattle.worked_laws.proofs.ListsLemmas.{batch_not_sent_lags, batch_to_another_mate_lags, batch_of_fewer_puts_lags, batch_of_another_session_lags, batch_of_another_key_lags, turned_before_lags, turned_by_another_mate_lags, one_request_more_lags}
use Rattle.worked_laws.proofs.lists.changed_lists_lag_by_more.Goals as goal

pub returns-clause-batch_not_sent : goal.returns-clause-batch_not_sent
returns-clause-batch_not_sent c = batch_not_sent_lags

pub returns-clause-batch_to_another_mate : goal.returns-clause-batch_to_another_mate
returns-clause-batch_to_another_mate c = batch_to_another_mate_lags

pub returns-clause-batch_of_fewer_puts : goal.returns-clause-batch_of_fewer_puts
returns-clause-batch_of_fewer_puts c = batch_of_fewer_puts_lags

pub returns-clause-batch_of_another_session : goal.returns-clause-batch_of_another_session
returns-clause-batch_of_another_session c = batch_of_another_session_lags

pub returns-clause-batch_of_another_key : goal.returns-clause-batch_of_another_key
returns-clause-batch_of_another_key c = batch_of_another_key_lags

pub returns-clause-turned_before : goal.returns-clause-turned_before
returns-clause-turned_before c = turned_before_lags

pub returns-clause-turned_by_another_mate : goal.returns-clause-turned_by_another_mate
returns-clause-turned_by_another_mate c = turned_by_another_mate_lags

pub returns-clause-one_request_more : goal.returns-clause-one_request_more
returns-clause-one_request_more c = one_request_more_lags
