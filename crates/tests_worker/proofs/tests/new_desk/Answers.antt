use Rattle.std.proofs.Common.{[], length, ap, ◌∙◌}
use Rattle.mail_contract.proofs.MapsLemmas.{as_many, each_shows}
use Rattle.tests_worker.proofs.tests.new_desk.Goals as goal

pub new-requires-clause-replied : goal.new-requires-clause-replied
new-requires-clause-replied c = each_shows (λ tx. tx.history.items) c.in_ok-replies.replies.items c.args.answered [] c.in_ok-replies.ensures.sent

pub returns-clause-sessions : goal.returns-clause-sessions
returns-clause-sessions c =
    ap (λ worker. length worker.ends.replies.items) c.in_ok-worker.ensures.worker
    ∙ as_many (λ tx. tx.history.items) c.in_ok-replies.replies.items c.args.answered [] c.in_ok-replies.ensures.sent
