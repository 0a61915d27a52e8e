use Rattle.std.proofs.Common.{map}
use Rattle.std.proofs.lemmas.List.{length-map}
use Rattle.worker_core.specs.Local.{state_of}
use Rattle.worker_core.proofs.ServingLemmas.{worked_get, worked_put}
use Rattle.worker_core.proofs.serve.serve_request.Goals as goal

pub returns-in-Put-clause-ok : goal.returns-in-Put-clause-ok
returns-in-Put-clause-ok g c = rw c.in-Put.is (worked_put c.take_put.result c.args.session c.in-Put.key c.in-Put.put (state_of c.args.local.now) c.take_put.new.map c.take_put.new.changes.of_mates (map g.T.Tx.sent c.args.replies.now.items)
    c.requires.none_kept c.requires.none_held c.take_put.ensures.mates c.take_put.ensures.cells c.take_put.ensures.changed)

pub returns-in_ok-reply-in-Get-clause-ok : goal.returns-in_ok-reply-in-Get-clause-ok
returns-in_ok-reply-in-Get-clause-ok g c = rw c.in-Get.is (worked_get c.give.result c.args.session c.in-Get.ask c.in-Get.key c.in-Get.required (state_of c.args.local.now) c.in_ok-reply-in-Get.reply c.give.new.held (map g.T.Tx.sent c.args.replies.now.items) (map g.T.Tx.sent c.give.new.replies.items)
    c.requires.none_kept c.in_ok-reply-in-Get.ensures c.give.ensures.replies (rw length-map c.give.ensures.held))
