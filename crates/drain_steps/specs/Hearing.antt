-- What it changes of a sealed worker to hear until no gossip is found.
use Rattle.std.specs.Prelude.{◌≡◌, ℕ, Bool, List, is_some, Option, Some, None}
use Rattle.mail_contract.specs.Got.{AreAllOfSent, IsOfSent}
use Rattle.mail_contract.specs.Standing.{About, AllStand}
use Rattle.merge_world.specs.Effects.{cells_at}
use Rattle.store_msg.specs.declared.request.Request.{Request}
use Rattle.worker_core.specs.Sealed.{HoldsSealed, PlainSealed}
use Rattle.worker_core.specs.State.{Entries}
use Rattle.party_turns.specs.Turning.{AreGotInRange}

-- It holds what it received and heard, of the same keys; it heard nothing but what its settled senders told, and all of it.
pub record HasHeard {Q G GK : Type 0} (received : Q → List (ℕ × Request)) (key : G → GK) (senders : GK → ℕ) (got : G → ℕ → ℕ → Option Entries) (about : G → ℕ → About Entries) (complete : Bool)
    (before now : PlainSealed Q G) : Type 0 where
  pub me : now.me ≡ before.me
  pub kinds : now.kinds ≡ before.kinds
  pub requests : now.requests ≡ before.requests
  pub keys : (number : ℕ) → is_some (cells_at now.cells number) ≡ is_some (cells_at before.cells number)
  pub holds : HoldsSealed received got now
  pub none_kept : now.kept ≡ None
  pub key_is : key now.gossip_in ≡ key before.gossip_in
  pub stand : AllStand (about before.gossip_in) (about now.gossip_in)
  pub got_more : (sender place : ℕ) (batch : Entries) → got before.gossip_in sender place ≡ Some batch → got now.gossip_in sender place ≡ Some batch
  pub got_in_range : AreGotInRange (senders (key before.gossip_in)) (got before.gossip_in) → AreGotInRange (senders (key now.gossip_in)) (got now.gossip_in)
  pub of_sent : (sender : ℕ) → IsOfSent complete (got before.gossip_in) (about before.gossip_in) sender → IsOfSent complete (got now.gossip_in) (about now.gossip_in) sender
  pub all : AreAllOfSent complete (got now.gossip_in) (about now.gossip_in)
