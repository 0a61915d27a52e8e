-- A run that is drained, by all that the traits of its boxes let contracts see of them.
use Rattle.std.specs.Prelude.{List}
use Rattle.mail_contract.specs.declared.gossip.GossipRx as weak
use Rattle.mail_contract.specs.declared.rx.Rx as boxes
use Rattle.session_known.specs.declared.report.Report.{Report}
use Rattle.session_known.specs.declared.script.Script.{Script}
use Rattle.store_msg.specs.Reply.{PlainReply}
use Rattle.store_msg.specs.declared.request.Request.{Request}
use Rattle.worker_core.specs.Sealed.{PlainSealed}
use Rattle.worker_core.specs.State.{Entries, PlainWorker}
use Rattle.party_turns.specs.Places.{BothAtEach}
use Rattle.drain_ledger.specs.Drained as drained

-- over the boxes of workers
module _ {Q G S O QK GK SK OK : Type 0} (requests : boxes.Ghosts Q Request S QK SK) (gossip : weak.Ghosts G Entries O GK OK) where
  -- a sealed worker goes on from one that was handed over, and each from the one at its place
  abbrev pub GoesOn : {T : Type 0} → PlainWorker Q T O G → PlainSealed Q G → Type 0
  GoesOn = drained.GoesOn requests.received gossip.key gossip.got

  abbrev pub GoOn : {T : Type 0} → List (PlainWorker Q T O G) → List (PlainSealed Q G) → Type 0
  GoOn before now = BothAtEach before now GoesOn

  -- what a worker that was handed over may have had at some time is sound for the accepted puts
  abbrev pub AreFrontsSound : {T : Type 0} → Script → Report → PlainWorker Q T O G → Type 0
  AreFrontsSound script report worker = drained.AreFrontsSound script report (requests.received worker.ends.requests) (gossip.got worker.ends.gossip_in)

  -- its report came from what its workers and the boxes of its sessions have in hand; so it is legal, and its puts are causal
  abbrev pub IsDrained : {R T RK TK : Type 0} → boxes.Ghosts R PlainReply T RK TK → Script → Report → List (PlainSealed Q G) → List R → Type 0
  IsDrained replies script report workers boxes = drained.IsDrained script report (drained.ledger_in requests.received gossip.got replies.received workers boxes)
