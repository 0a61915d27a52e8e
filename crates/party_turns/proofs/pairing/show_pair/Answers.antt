use Rattle.std.proofs.Common.{◌≡◌, ◌≢◌, ◌++◌, ◌<◌, ℕ, arith, inl, inr, length, List, slice_get, slice_index_or, slice_set, sym, Some}
use Rattle.std.proofs.lemmas.Bool.{cases_lt}
use Rattle.worker_core.specs.State.{PlainWorker}
use Rattle.party_turns.specs.Mates.{AreShown, Sees, Steady, steady_of}
use Rattle.party_turns.proofs.PairLemmas.{is_steady, sees_mate, either_way, shown_both}
use Rattle.party_turns.proofs.PairListsLemmas.{back_read, both_change, front_read}
use Rattle.party_turns.proofs.MatesLemmas.{has_sender_to, is_paired, numbers_differ}
use Rattle.party_turns.proofs.pairing.show_pair.Given.{Over}
use Rattle.worker_core.specs.OverWorkers.{Learns}
use Rattle.party_turns.proofs.pairing.show_pair.Goals as goal
use Rattle.party_turns.proofs.pairing.show_pair.Goals.{After-beside_mate, After-index-back-0}

module _ (g : Over) where
  abbrev Worker : Type 0
  Worker = PlainWorker g.row.Q.Denot g.row.T.Denot g.row.O.Denot g.row.G.Denot

  abbrev steady : Worker → Steady g.row.Q.Denot g.row.T.Denot g.row.O-Key.Denot g.row.G-Key.Denot
  steady = steady_of g.O.Tx.key g.O.Tx.number g.O.Tx.sent g.G.GossipRx.key g.G.GossipRx.got

  abbrev SeesMate : ℕ → ℕ → Worker → Worker → Worker → Type 0
  SeesMate = Sees g.O.Tx.clear g.O.Tx.unseen g.O.Tx.sent g.G.GossipRx.keeps g.G.GossipRx.got g.G.GossipRx.about g.G.GossipRx.due

  abbrev Shown : ℕ → ℕ → List Worker → List Worker → Type 0
  Shown = AreShown g.O.Tx.key g.O.Tx.number g.O.Tx.sent g.O.Tx.clear g.O.Tx.unseen g.G.GossipRx.key g.G.GossipRx.keeps g.G.GossipRx.got g.G.GossipRx.about g.G.GossipRx.due

  -- the two before they are held beside each other
  module _ (c : After-index-back-0 g) where
    abbrev lower : Worker
    lower = slice_index_or c.split_at_mut-front.result.0.now c.min-low.result c.index-front-low.result

    abbrev higher : Worker
    higher = slice_index_or c.split_at_mut-front.result.1.now 0 c.index-back-0.result

    below : c.min-low.result < c.max-high.result
    below = omega (arith, c.min-low.ensures, c.max-high.ensures, c.requires.differ)

    within : c.max-high.result < length c.args.workers.now
    within = omega (arith, c.max-high.ensures, c.requires.within.0, c.requires.within.1)

    differs : c.max-high.result ≢ c.min-low.result
    differs = λ same. let low = below in omega (arith, same, low)

    lower_there : slice_get c.args.workers.now c.min-low.result ≡ Some lower
    lower_there =
        front_read c.args.workers.now c.split_at_mut-front.result.0.now c.split_at_mut-front.result.1.now (sym c.split_at_mut-front.ensures.value) c.min-low.result c.max-high.result
        c.split_at_mut-front.ensures.front_len below within c.index-front-low.result

    higher_there : slice_get c.args.workers.now c.max-high.result ≡ Some higher
    higher_there =
        back_read c.args.workers.now c.split_at_mut-front.result.0.now c.split_at_mut-front.result.1.now (sym c.split_at_mut-front.ensures.value) c.min-low.result c.max-high.result
        c.split_at_mut-front.ensures.front_len below within c.index-back-0.result

  -- and after it
  module _ (c : After-beside_mate g) where
    abbrev low : Worker
    low = slice_index_or c.split_at_mut-front.result.0.now c.min-low.result c.index-front-low.result

    abbrev high : Worker
    high = slice_index_or c.split_at_mut-front.result.1.now 0 c.index-back-0.result

    -- a worker is steady that learns of a mate
    stays : (was now mate : Worker) → Learns g.Q.Rx g.T.Tx g.O.Tx g.G.GossipRx was now mate → steady now ≡ steady was
    stays was now mate is =
        is_steady g.O.Tx.key g.O.Tx.number g.O.Tx.sent g.G.GossipRx.key g.G.GossipRx.got was now is.state is.requests_stay is.replies_stay is.keys is.numbers is.sent is.gossip_key is.shows.got

    -- each learned of the other
    module _ (below : c.min-low.result < c.max-high.result) (within : c.max-high.result < length c.args.workers.now) (low_there : slice_get c.args.workers.now c.min-low.result ≡ Some low)
        (high_there : slice_get c.args.workers.now c.max-high.result ≡ Some high) (differs : c.max-high.result ≢ c.min-low.result) where
      learns : (place other : ℕ) (was now mate : Worker) → slice_get c.args.workers.now place ≡ Some was → slice_get c.args.workers.now other ≡ Some mate → other ≢ place
          → Learns g.Q.Rx g.T.Tx g.O.Tx g.G.GossipRx was now mate → SeesMate place other was now mate
      learns place other was now mate there its_there differ is =
          sees_mate c.requires.mates place other was now mate there its_there differ is.shows.learned is.shows.told is.learns_room is.others is.shows.due is.shows.still_due

      shown : Shown c.min-low.result c.max-high.result c.args.workers.now
          (slice_set c.split_at_mut-front.result.0.now c.min-low.result c.beside_mate.new.self ++ slice_set c.split_at_mut-front.result.1.now 0 c.beside_mate.new.mate)
      shown =
          shown_both
          (both_change c.args.workers.now c.split_at_mut-front.result.0.now c.split_at_mut-front.result.1.now (sym c.split_at_mut-front.ensures.value) c.min-low.result c.max-high.result
          c.split_at_mut-front.ensures.front_len below within c.index-front-low.result c.index-back-0.result c.beside_mate.new.self c.beside_mate.new.mate)
          (stays low c.beside_mate.new.self high c.beside_mate.ensures.learns) (stays high c.beside_mate.new.mate low c.beside_mate.ensures.mate_learns)
          (learns c.min-low.result c.max-high.result low c.beside_mate.new.self high low_there high_there differs c.beside_mate.ensures.learns)
          (learns c.max-high.result c.min-low.result high c.beside_mate.new.mate low high_there low_there (λ same. differs (sym same)) c.beside_mate.ensures.mate_learns)

pub beside_mate-requires-clause-differ : goal.beside_mate-requires-clause-differ
beside_mate-requires-clause-differ g c =
    numbers_differ c.requires.mates c.min-low.result c.max-high.result (lower g c) (higher g c) (lower_there g c) (higher_there g c) (differs g c)

pub beside_mate-requires-clause-place : goal.beside_mate-requires-clause-place
beside_mate-requires-clause-place g c = has_sender_to c.requires.mates c.min-low.result c.max-high.result (lower g c) (higher g c) (lower_there g c) (higher_there g c) (differs g c)

pub beside_mate-requires-clause-mate_place : goal.beside_mate-requires-clause-mate_place
beside_mate-requires-clause-mate_place g c =
    has_sender_to c.requires.mates c.max-high.result c.min-low.result (higher g c) (lower g c) (higher_there g c) (lower_there g c) (λ same. differs g c (sym same))

pub beside_mate-requires-clause-pair : goal.beside_mate-requires-clause-pair
beside_mate-requires-clause-pair g c = is_paired c.requires.mates c.min-low.result c.max-high.result (lower g c) (higher g c) (lower_there g c) (higher_there g c) (differs g c)

pub beside_mate-requires-clause-mate_pair : goal.beside_mate-requires-clause-mate_pair
beside_mate-requires-clause-mate_pair g c =
    is_paired c.requires.mates c.max-high.result c.min-low.result (higher g c) (lower g c) (higher_there g c) (lower_there g c) (λ same. differs g c (sym same))

pub returns : goal.returns
returns g c =
    let here = (goal.at.returns g c).After-index-back-0 in
    let both = shown g (goal.at.returns g c).After-beside_mate (below g here) (within g here) (lower_there g here) (higher_there g here) (differs g here) in
    record {
      shown = either_way both c.args.place c.args.other (elim (cases_lt c.args.place c.args.other) [
        | inl before ↦ inl (omega (arith, c.min-low.ensures, before), omega (arith, c.max-high.ensures, before))
        | inr behind ↦ inr (omega (arith, c.min-low.ensures, behind), omega (arith, c.max-high.ensures, behind))
      ]);
    }
