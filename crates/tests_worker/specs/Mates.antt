-- Two workers, each the only mate of the other.
use Rattle.std.specs.Prelude.{◌≡◌, ℕ, List, [], ◌∷◌, map}
use Rattle.worker_core.specs.State.{PlainWorker}

-- they are workers 1 and 2, and the sender of gossip of each is of one making with the box of the other
pub record AreMates {Q T O G K : Type 0} (key : O → K) (number : O → ℕ) (keys : G → List K) (first second : PlainWorker Q T O G) : Type 0 where
  pub first_me : first.state.me ≡ 1
  pub second_me : second.state.me ≡ 2
  pub to_second : map key first.ends.gossip_out.items ≡ keys second.ends.gossip_in
  pub to_first : map key second.ends.gossip_out.items ≡ keys first.ends.gossip_in
  pub first_number : map number first.ends.gossip_out.items ≡ 1 ∷ []
  pub second_number : map number second.ends.gossip_out.items ≡ 1 ∷ []
