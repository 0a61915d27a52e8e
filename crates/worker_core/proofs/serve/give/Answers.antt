use Rattle.worker_core.proofs.RoomLemmas.{sent_clear}
use Rattle.worker_core.proofs.serve.give.Goals as goal

pub returns-in-Ok-clause-stay_clear : goal.returns-in-Ok-clause-stay_clear
returns-in-Ok-clause-stay_clear g c =
    sent_clear g.T.Tx.clear g.T.Tx.sent _ c.args.reply c.args.replies.now.items c.post.new.senders.items c.in-Ok.ensures.others c.in-Ok.ensures.sent
