use Rattle.worked_laws.proofs.ShowsLemmas.{shows_later}
use Rattle.worked_laws.proofs.shows.worked_lists_show_more.Goals as goal

pub returns : goal.returns
returns c = shows_later
