-- What a call does to a weak box, by all that its trait lets contracts see of it.
use Rattle.std.specs.Prelude.{ℕ, List, Option, Result}
use Rattle.mail_contract.specs.Boxes as calls
use Rattle.mail_contract.specs.declared.gossip.GossipRx as gossip
use Rattle.mail_contract.specs.declared.tx.Tx as senders

module _ {G M O GK OK : Type 0} (its : gossip.Ghosts G M O GK OK) where
  -- what contracts see of it, beside its key
  abbrev pub seen : G → calls.WeakBox M
  seen = calls.weak_box_of its.got its.answers its.about its.due its.most

  -- how many senders it has
  abbrev pub senders_of : G → ℕ
  senders_of mailbox = its.senders (its.key mailbox)

  -- a message is handed out, by the answer
  abbrev pub HandsOut : {E : Type 0} → Result (Option (ℕ × M)) E → G → G → Type 0
  HandsOut answer before now = calls.HandsOut its.keeps (senders_of before) answer (seen before) (seen now)

  -- it is asked once, or not at all
  abbrev pub MayHandOut : G → G → Type 0
  MayHandOut before now = calls.MayHandOut its.keeps (senders_of before) (seen before) (seen now)

  -- what it tells where nothing is found in it
  abbrev pub FindsNothing : G → Type 0
  FindsNothing mailbox = calls.FindsNothingWeak its.keeps (seen mailbox)

  -- a sender of this number, which sent this, is held beside it
  abbrev pub Shows : ℕ → List M → G → G → Type 0
  Shows sender sent before now = calls.ShowsWeak its.keeps (senders_of before) sender sent (seen before) (seen now)

  -- a sender that has ended is taken in
  abbrev pub Settles : senders.Ghosts O M OK → O → G → G → Type 0
  Settles from ended before now = calls.SettlesWeak its.keeps (senders_of before) (from.number ended) (from.sent ended) (seen before) (seen now)
