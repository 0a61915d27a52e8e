use Rattle.worked_reports.proofs.WornLemmas.{closed_after, held_is_refused_after, commit_is_refused_after, worn_commit_is_refused_after}
use Rattle.worked_reports.proofs.worn.worn_commits_close_their_transaction.Goals as goal

pub returns-clause-closed : goal.returns-clause-closed
returns-clause-closed c = closed_after

pub returns-clause-held : goal.returns-clause-held
returns-clause-held c = held_is_refused_after

pub returns-clause-commit : goal.returns-clause-commit
returns-clause-commit c = commit_is_refused_after

pub returns-clause-worn_commit : goal.returns-clause-worn_commit
returns-clause-worn_commit c = worn_commit_is_refused_after
