-- What a sealed worker does, by all that the traits of its boxes let contracts see of them.
use Rattle.std.specs.Prelude.{ℕ, Bool, Result}
use Rattle.mail_contract.specs.OverWeakBoxes as batches_in
use Rattle.mail_contract.specs.declared.gossip.GossipRx as weak
use Rattle.gossip_rounds.specs.Batches.{Entries}
use Rattle.worker_core.specs.Sealed as seals
use Rattle.worker_core.specs.Sealed.{PlainSealed, batch_kept}
use Rattle.worker_core.specs.Turns as turns

module _ {Q O G GK OK : Type 0} (gossip : weak.Ghosts G Entries O GK OK) where
  -- it hears one batch, or none
  abbrev pub HearsOne : {E : Type 0} → Result Bool E → PlainSealed Q G → PlainSealed Q G → Type 0
  HearsOne result before now =
      seals.HearsOne result before.cells now.cells before.kept now.kept (gossip.got before.gossip_in) (gossip.got now.gossip_in)
      (gossip.answers before.gossip_in) (gossip.answers now.gossip_in) (batches_in.FindsNothing gossip now.gossip_in)

  -- a batch is taken out of its box and kept
  abbrev pub TakesBatch : {E : Type 0} → Result Bool E → PlainSealed Q G → PlainSealed Q G → Type 0
  TakesBatch result before now =
      seals.TakesBatch result now.kept (gossip.got before.gossip_in) (gossip.got now.gossip_in) (gossip.answers before.gossip_in) (gossip.answers now.gossip_in)
      (batches_in.FindsNothing gossip now.gossip_in)

  -- so many batches were joined: as many fewer may still come
  abbrev pub FewerMayCome : ℕ → PlainSealed Q G → PlainSealed Q G → Type 0
  FewerMayCome joined before now =
      turns.FewerMayCome gossip.keeps (batches_in.senders_of gossip before.gossip_in) (gossip.about before.gossip_in) joined
      (turns.may_come (gossip.most before.gossip_in) (batch_kept before.kept)) (turns.may_come (gossip.most now.gossip_in) (batch_kept now.kept))
