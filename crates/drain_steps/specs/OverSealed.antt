-- A sealed worker that hears, by all that the traits of its boxes let contracts see of them.
use Rattle.mail_contract.specs.OverWeakBoxes as batches_in
use Rattle.mail_contract.specs.Standing as standing
use Rattle.mail_contract.specs.declared.gossip.GossipRx as weak
use Rattle.mail_contract.specs.declared.rx.Rx as boxes
use Rattle.store_msg.specs.declared.request.Request.{Request}
use Rattle.worker_core.specs.Sealed.{PlainSealed}
use Rattle.worker_core.specs.State.{Entries}
use Rattle.drain_steps.specs.Hearing as hearing

-- of each mate it is known how many batches are left
abbrev pub AreMet : {Q G O GK OK : Type 0} → weak.Ghosts G Entries O GK OK → PlainSealed Q G → Type 0
AreMet gossip worker = standing.AreMet (batches_in.senders_of gossip worker.gossip_in) (gossip.about worker.gossip_in)

-- it heard until no gossip was found
abbrev pub HasHeard : {Q G S O QK GK SK OK : Type 0} → boxes.Ghosts Q Request S QK SK → weak.Ghosts G Entries O GK OK → PlainSealed Q G → PlainSealed Q G → Type 0
HasHeard requests gossip = hearing.HasHeard requests.received gossip.key gossip.senders gossip.got gossip.about gossip.keeps.complete
