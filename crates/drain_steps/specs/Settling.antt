-- Senders that have ended are taken in by those that they are for: several rows of senders, in each row one for each party, or for each but one.
use Rattle.std.specs.Prelude.{◌≡◌, ℕ, List}
use Rattle.mail_contract.specs.Boxes.{Box, Settles, SettlesWeak, WeakBox}
use Rattle.mail_contract.specs.Parts.{Parts}
use Rattle.store_msg.specs.Reply.{PlainReply}
use Rattle.store_msg.specs.declared.request.Request.{Request}
use Rattle.worker_core.specs.Sealed.{PlainSealed}
use Rattle.worker_core.specs.State.{Entries, PlainWorker}

-- A worker takes in a session's sender: nothing changes but its box of requests.
pub record TakesInRequests {Q T O G QK : Type 0} (key : Q → QK) (keeps : Parts) (box : Q → Box Request) (number : ℕ) (sent : List Request) (before now : PlainWorker Q T O G) : Type 0 where
  pub rest : now ≡ record before { ends = record before.ends { requests = now.ends.requests } }
  pub key_is : key now.ends.requests ≡ key before.ends.requests
  pub settles : Settles keeps number sent (box before.ends.requests) (box now.ends.requests)

-- So a sealed worker a mate's sender, and its cells stay the join of what was received.
pub record TakesInGossip {Q G GK : Type 0} (key : G → GK) (senders : GK → ℕ) (keeps : Parts) (box : G → WeakBox Entries) (number : ℕ) (sent : List Entries) (before now : PlainSealed Q G) : Type 0 where
  pub rest : now ≡ record before { gossip_in = now.gossip_in }
  pub key_is : key now.gossip_in ≡ key before.gossip_in
  pub settles : SettlesWeak keeps (senders (key before.gossip_in)) number sent (box before.gossip_in) (box now.gossip_in)

-- And so a box of replies a worker's sender.
pub record TakesInReplies {R RK : Type 0} (key : R → RK) (keeps : Parts) (box : R → Box PlainReply) (number : ℕ) (sent : List PlainReply) (before now : R) : Type 0 where
  pub key_is : key now ≡ key before
  pub settles : Settles keeps number sent (box before) (box now)
