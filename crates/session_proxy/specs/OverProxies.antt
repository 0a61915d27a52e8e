-- What a session's proxy is and does, by all that the traits of its ends let contracts see of them: the words of the other files over a proxy and its ends, and not over lists.
use Rattle.std.specs.Prelude.{Result}
use Rattle.lattice_laws.specs.declared.lattice.NoMemory.{NoMemory}
use Rattle.mail_contract.specs.OverBoxes as replies_in
use Rattle.mail_contract.specs.declared.rx.Rx as boxes
use Rattle.mail_contract.specs.declared.tx.Tx as senders
use Rattle.store_msg.specs.Reply.{PlainReply}
use Rattle.store_msg.specs.declared.ends.SessionEndsOver.{SessionEndsOver}
use Rattle.store_msg.specs.declared.request.Request.{Request}
use Rattle.session_proxy.specs.Local as locals
use Rattle.session_proxy.specs.Polls as calls
use Rattle.session_proxy.specs.Share as shares
use Rattle.session_proxy.specs.State.{Lists, PlainProxy}
use Rattle.session_proxy.specs.State as states
use Rattle.session_proxy.specs.declared.asks.Heard.{Heard}
use Rattle.session_proxy.specs.declared.local.Local.{Local}
use Rattle.session_proxy.specs.declared.progress.Progress.{Progress}

-- over its box of replies
module _ {R S RK SK : Type 0} (heard : boxes.Ghosts R PlainReply S RK SK) where
  -- where no reply was there the box tells so
  abbrev pub TellsNothing : {E : Type 0} → Result Heard E → R → R → Type 0
  TellsNothing result before now = locals.TellsNothing result (heard.answers before) (heard.answers now) (replies_in.FindsNothing heard now)

-- over all its ends
module _ {T R S TK RK SK : Type 0} (asks : senders.Ghosts T Request TK) (heard : boxes.Ghosts R PlainReply S RK SK) where
  -- what went through its ends, and how often they answered
  abbrev pub lists_of : PlainProxy T R → Lists
  lists_of = states.lists_of asks.sent heard.received

  abbrev pub counts_of : PlainProxy T R → calls.Counts
  counts_of = calls.counts_of asks.fulls heard.answers

  -- what it keeps from call to call
  abbrev pub Share : PlainProxy T R → Type 0
  Share proxy = shares.Share (lists_of proxy)

  -- the keys and numbers of its ends stay
  abbrev pub KeysStay : PlainProxy T R → PlainProxy T R → Type 0
  KeysStay = states.KeysStay asks.key asks.number heard.key

  -- a poll
  abbrev pub Polls : Result Progress NoMemory → PlainProxy T R → PlainProxy T R → Type 0
  Polls result before now =
      calls.Polls result (lists_of before) (lists_of now) (counts_of before) (counts_of now) (calls.WantsRoom asks.clear asks.roomy asks.unseen before.ends.requests.items)
      (replies_in.FindsNothing heard now.ends.replies)

  -- and so by what it keeps itself, and its ends
  abbrev pub PollsAt : Result Progress NoMemory → Local → SessionEndsOver T R → Local → SessionEndsOver T R → Type 0
  PollsAt result before ends now ends_now =
      calls.Polls result (locals.lists_at asks.sent heard.received before ends) (locals.lists_at asks.sent heard.received now ends_now)
      (calls.counts_at asks.fulls heard.answers ends) (calls.counts_at asks.fulls heard.answers ends_now)
      (calls.WantsRoom asks.clear asks.roomy asks.unseen ends.requests.items) (replies_in.FindsNothing heard ends_now.replies)
