use Rattle.std.proofs.Common.{ap}
use Rattle.std.proofs.lemmas.Result.{IfOk-at_ok}
use Rattle.party_ends.proofs.FreshLemmas.{each_tells, if_made, is_fresh}
use Rattle.party_ends.proofs.queues.QueuePostMakesMailReply.make.Goals as goal

pub returns : goal.returns
returns g c =
    let queue = c.queue.ensures in
    if_made _ _ c.queue.result queue.about (λ ends made about.
    is_fresh _ _ _ _ _ _ _ _ c.args.senders ends.0.items ends.1
    (IfOk-at_ok _ made queue.numbers) (IfOk-at_ok _ made queue.sent) (each_tells _ ends.0.items c.args.senders _ (IfOk-at_ok _ made queue.pairs))
    (IfOk-at_ok _ made queue.senders) (IfOk-at_ok _ made queue.received) (λ sender within. ap (λ known. known.standing) (about sender)))
