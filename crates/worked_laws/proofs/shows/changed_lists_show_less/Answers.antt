use Rattle.worked_laws.proofs.ShowsLemmas.{earlier_cell_is_less, exchanged_batch_is_less, exchanged_reply_is_less, fewer_puts_are_less}
use Rattle.worked_laws.proofs.shows.changed_lists_show_less.Goals as goal

pub returns-clause-shows_fewer_puts : goal.returns-clause-shows_fewer_puts
returns-clause-shows_fewer_puts c = fewer_puts_are_less

pub returns-clause-reply_of_an_earlier_cell : goal.returns-clause-reply_of_an_earlier_cell
returns-clause-reply_of_an_earlier_cell c = earlier_cell_is_less

pub returns-clause-reply_exchanged : goal.returns-clause-reply_exchanged
returns-clause-reply_exchanged c = exchanged_reply_is_less

pub returns-clause-batch_exchanged : goal.returns-clause-batch_exchanged
returns-clause-batch_exchanged c = exchanged_batch_is_less
