-- What workers that can be held beside each other tell of a pair of them.
use Rattle.std.specs.Prelude.{◌≡◌, ◌≢◌, ℕ, ◌+◌, ◌<◌, List, length, map, slice_get, slice_index_or, Some}
use Rattle.std.proofs.Common.{◌∙◌, ap, arith, sym}
use Rattle.std.proofs.lemmas.List.{length-map}
use Rattle.std.proofs.lemmas.List.Elements.{All-map}
use Rattle.std.proofs.lemmas.Option.{slice_get_within}
use Rattle.worker_core.specs.State.{PlainWorker, place_at}
use Rattle.party_turns.specs.Mates.{AreMates}
use Rattle.party_turns.proofs.PairPlacesLemmas.{place_within}

module _ {Q T O G OK GK : Type 0} {out_key : O → OK} {number : O → ℕ} {in_key : G → GK} {pairs : GK → OK → ℕ → Type 0} {workers : List (PlainWorker Q T O G)}
    (are_mates : AreMates out_key number in_key pairs workers)
    (place other : ℕ) (worker : PlainWorker Q T O G) (there : slice_get workers place ≡ Some worker) (within : other < length workers) (differs : other ≢ place) where
  -- a worker has a sender for its mate
  pub has_sender : place_at (place + 1) (other + 1) < length worker.ends.gossip_out.items
  has_sender =
      let here = slice_get_within workers place worker there in
      let mates = are_mates.mates place worker there in
      let low = place_within (length workers) place other here within differs in
      omega (arith, low, mates)

  -- and it has the worker's number
  pub number_there : slice_index_or (map number worker.ends.gossip_out.items) (place_at (place + 1) (other + 1)) 0 ≡ place + 1
  number_there =
      All-map (λ its. its ≡ place + 1) number worker.ends.gossip_out.items (are_mates.numbers place worker there) (place_at (place + 1) (other + 1)) 0
      (let long = length-map worker.ends.gossip_out.items number in let few = has_sender in omega (arith, long, few))

module _ {Q T O G OK GK : Type 0} {out_key : O → OK} {number : O → ℕ} {in_key : G → GK} {pairs : GK → OK → ℕ → Type 0} {workers : List (PlainWorker Q T O G)}
    (are_mates : AreMates out_key number in_key pairs workers)
    (place other : ℕ) (worker mate : PlainWorker Q T O G) (there : slice_get workers place ≡ Some worker) (its_there : slice_get workers other ≡ Some mate) (differs : other ≢ place) where
  -- a worker and its mate go by different numbers
  pub numbers_differ : worker.state.me ≡ mate.state.me → ⊥
  numbers_differ same =
      let me = are_mates.numbered place worker there in
      let its = are_mates.numbered other mate its_there in
      differs (omega (arith, me, its, same))

  -- the place of the mate by the numbers of both
  pub by_numbers : place_at worker.state.me mate.state.me ≡ place_at (place + 1) (other + 1)
  by_numbers = λ j. place_at (are_mates.numbered place worker there j) (are_mates.numbered other mate its_there j)

  pub has_sender_to : place_at worker.state.me mate.state.me < length worker.ends.gossip_out.items
  has_sender_to =
      let is = by_numbers in
      let low = has_sender are_mates place other worker there (slice_get_within workers other mate its_there) differs in
      omega (arith, is, low)

  pub is_paired : (sender : O) → slice_get worker.ends.gossip_out.items (place_at worker.state.me mate.state.me) ≡ Some sender → pairs (in_key mate.ends.gossip_in) (out_key sender) (number sender)
  is_paired sender is = are_mates.paired place other worker mate sender there its_there differs (ap (slice_get worker.ends.gossip_out.items) (sym by_numbers) ∙ is)
