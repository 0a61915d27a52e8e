use Rattle.std.proofs.Common.{◌≡◌, ◌++◌, ℕ, All, List, Some, ap, arith, drop, length, map, refl, slice_get, slice_index_or, subst, sym, take}
use Rattle.session_proxy.specs.State.{PlainProxy}
use Rattle.party_turns.proofs.ItemsLemmas.{all_there, there_too}
use Rattle.party_turns.proofs.PlacesLemmas.{all_done, one_done}
use Rattle.party_turns.proofs.PairListsLemmas.{whole}
use Rattle.parties.specs.Session.{proxy_of}
use Rattle.parties.proofs.ChangedLemmas.{done_to_none}
use Rattle.parties.proofs.LearnedLemmas.{none_beside}
use Rattle.parties.proofs.PartLemmas.{worker_parted}
use Rattle.parties.proofs.StayLemmas.{all_stay, session_stays, SessionStays}
use Rattle.parties.proofs.parting.part_workers.Given.{Over}
use Rattle.parties.proofs.parting.part_workers.Goals as goal
use Rattle.parties.proofs.parting.part_workers.Goals.{After-loop-worker}
use Rattle.parties.proofs.parting.part_workers.Invariants.{IsAlone, IsParted, Worker}
use Rattle.party_turns.specs.Ends.{Ends, mail_of}
use Rattle.parties.specs.Staying.{AllStay}

module _ (g : Over) where
  -- what the ends tell
  abbrev mail : Ends g.row.P-ReqTx.Denot g.row.P-RepTx.Denot g.row.P-GosTx.Denot g.row.P-ReqRx.Denot g.row.P-GosRx.Denot g.row.P-RepRx.Denot
      g.row.P-ReqTx-Key.Denot g.row.P-RepTx-Key.Denot g.row.P-GosTx-Key.Denot g.row.P-ReqRx-Key.Denot g.row.P-GosRx-Key.Denot g.row.P-RepRx-Key.Denot
  mail = mail_of g.P.ReqTx.Tx g.P.RepTx.Tx g.P.GosTx.Tx g.P.ReqRx.Rx g.P.GosRx.GossipRx g.P.RepRx.Rx

module _ (g : Over) (c : After-loop-worker g) where
  abbrev were : List (Worker g)
  were = c.args.parties.now.workers.items

  -- the workers, each parted, and all workers again
  abbrev parted : List (Worker g)
  parted = c.loop-worker.worker-items

  abbrev are : List (Worker g)
  are = take c.args.parties.now.workers.len (parted ++ drop (length parted) were)

  abbrev proxies : List (PlainProxy g.row.P-ReqTx.Denot g.row.P-RepRx.Denot)
  proxies = map proxy_of c.args.parties.now.sessions.items

  all_parted : parted ≡ are
  all_parted = sym (whole were parted c.args.parties.now.workers.len c.args.parties.now.workers.ok.0 c.loop-worker.invariant.long)

  each_parted : (place : ℕ) (was is : Worker g) → slice_get were place ≡ Some was → slice_get parted place ≡ Some is → IsParted g (length were) (length proxies) was is
  each_parted = all_done (IsParted g (length were) (length proxies)) were c.loop-worker.worker-index parted (omega arith) c.loop-worker.invariant

pub loop-worker-preserved : goal.loop-worker-preserved
loop-worker-preserved g c =
    let proxies = map proxy_of c.args.parties.now.sessions.items in
    let workers = c.args.parties.now.workers.items in
    let items = c.loop-worker.worker-items in
    let index = c.loop-worker.worker-index in
    let was = slice_index_or items index c.worker-item.result in
    let is = c.apart.new.self in
    let part = c.apart.ensures in
    one_done (IsParted g (length workers) (length proxies)) workers index items was is (omega arith) (ap (slice_index_or items index) c.worker-item.is) (record {
      stays = worker_parted (length workers) (length proxies) was is part.state part.replies part.gossip_out part.requests_key
          part.requests_received part.requests_about part.gossip_key part.gossip_got part.gossip_about;
      alone = (
        none_beside (g.P.ReqRx.Rx.about was.ends.requests) (g.P.ReqRx.Rx.about is.ends.requests) part.requests_about,
        none_beside (g.P.GosRx.GossipRx.about was.ends.gossip_in) (g.P.GosRx.GossipRx.about is.ends.gossip_in) part.gossip_about,
      );
    }) c.loop-worker.invariant

pub returns-clause-stay : goal.returns-clause-stay
returns-clause-stay g c =
    let after = (goal.at.returns-clause-stay g c).After-loop-worker in
    subst (λ those. AllStay (mail g) (were g after) those (proxies g after) (proxies g after)) (all_parted g after)
    (all_stay (were g after) (parted g after) (proxies g after) (proxies g after) c.loop-worker.invariant.long refl
    (λ place was is there also. (each_parted g after place was is there also).stays place)
    (done_to_none (λ at. SessionStays (mail g)) (λ at. session_stays) (proxies g after)))

pub returns-clause-apart : goal.returns-clause-apart
returns-clause-apart g c =
    let after = (goal.at.returns-clause-apart g c).After-loop-worker in
    subst (All (IsAlone g)) (all_parted g after) (all_there (IsAlone g) (parted g after) (λ place is there.
    let was = there_too (were g after) (parted g after) place is c.loop-worker.invariant.long there in
    (each_parted g after place was.0 is was.1 there).alone))
