use Rattle.std.proofs.Common.{◌≡◌, ◌∙◌, ◌++◌, ℕ, All, List, Some, ap, arith, drop, length, map, refl, slice_get, slice_index_or, subst, sym, take}
use Rattle.std.proofs.lemmas.List.{length-map}
use Rattle.parties.specs.Beside.{IsApart}
use Rattle.worker_core.specs.State.{PlainWorker}
use Rattle.party_turns.proofs.ItemsLemmas.{all_there, there_too}
use Rattle.party_turns.proofs.PlacesLemmas.{all_done, one_done}
use Rattle.party_turns.proofs.PairListsLemmas.{whole}
use Rattle.parties.specs.Session.{proxy_of}
use Rattle.parties.proofs.ChangedLemmas.{done_to_made, done_to_none}
use Rattle.parties.proofs.LearnedLemmas.{none_beside}
use Rattle.parties.proofs.PartLemmas.{session_parted}
use Rattle.parties.proofs.StayLemmas.{all_stay, worker_stays, WorkerStays}
use Rattle.parties.proofs.parting.part_sessions.Given.{Over}
use Rattle.parties.proofs.parting.part_sessions.Goals as goal
use Rattle.parties.proofs.parting.part_sessions.Goals.{After-loop-session}
use Rattle.parties.proofs.parting.part_sessions.Invariants.{IsParted, Proxy}
use Rattle.party_turns.specs.Ends.{Ends, mail_of}
use Rattle.parties.specs.Staying.{AllStay}

module _ (g : Over) where
  -- what the ends tell
  abbrev mail : Ends g.row.P-ReqTx.Denot g.row.P-RepTx.Denot g.row.P-GosTx.Denot g.row.P-ReqRx.Denot g.row.P-GosRx.Denot g.row.P-RepRx.Denot
      g.row.P-ReqTx-Key.Denot g.row.P-RepTx-Key.Denot g.row.P-GosTx-Key.Denot g.row.P-ReqRx-Key.Denot g.row.P-GosRx-Key.Denot g.row.P-RepRx-Key.Denot
  mail = mail_of g.P.ReqTx.Tx g.P.RepTx.Tx g.P.GosTx.Tx g.P.ReqRx.Rx g.P.GosRx.GossipRx g.P.RepRx.Rx

module _ (g : Over) (c : After-loop-session g) where
  abbrev workers : List (PlainWorker g.row.P-ReqRx.Denot g.row.P-RepTx.Denot g.row.P-GosTx.Denot g.row.P-GosRx.Denot)
  workers = c.args.parties.now.workers.items

  -- all sessions before, each of them parted, and all again
  abbrev were : List (Proxy g)
  were = map proxy_of c.args.parties.now.sessions.items

  abbrev parted : List (Proxy g)
  parted = map proxy_of c.loop-session.session-items

  abbrev are : List (Proxy g)
  are = map proxy_of (take c.args.parties.now.sessions.len (c.loop-session.session-items ++ drop (length c.loop-session.session-items) c.args.parties.now.sessions.items))

  all_parted : parted ≡ are
  all_parted =
      ap (map proxy_of) (sym (whole c.args.parties.now.sessions.items c.loop-session.session-items c.args.parties.now.sessions.len c.args.parties.now.sessions.ok.0
      c.loop-session.invariant.long))

  as_many : length parted ≡ length were
  as_many = length-map c.loop-session.session-items proxy_of ∙ c.loop-session.invariant.long ∙ sym (length-map c.args.parties.now.sessions.items proxy_of)

  each_parted : (place : ℕ) (was is : Proxy g) → slice_get were place ≡ Some was → slice_get parted place ≡ Some is → IsParted g was is
  each_parted =
      done_to_made (IsParted g) proxy_of c.args.parties.now.sessions.items c.loop-session.session-items
      (all_done (λ was is. IsParted g (proxy_of was) (proxy_of is)) c.args.parties.now.sessions.items c.loop-session.session-index c.loop-session.session-items
      (omega arith) c.loop-session.invariant)

pub loop-session-preserved : goal.loop-session-preserved
loop-session-preserved g c =
    let items = c.loop-session.session-items in
    let index = c.loop-session.session-index in
    let was = slice_index_or items index c.session-item.result in
    let part = c.apart.ensures in
    one_done (λ was is. IsParted g (proxy_of was) (proxy_of is)) c.args.parties.now.sessions.items index items was c.apart.new.self
    (omega arith) (ap (slice_index_or items index) c.session-item.is) (record {
      stays = session_parted (proxy_of was) (proxy_of c.apart.new.self) part.course part.requests part.key part.received part.about;
      alone = none_beside (g.P.RepRx.Rx.about (proxy_of was).ends.replies) (g.P.RepRx.Rx.about (proxy_of c.apart.new.self).ends.replies) part.about;
    }) c.loop-session.invariant

pub returns-clause-stay : goal.returns-clause-stay
returns-clause-stay g c =
    let after = (goal.at.returns-clause-stay g c).After-loop-session in
    let all = workers g after in
    subst (AllStay (mail g) all all (were g after)) (all_parted g after)
    (all_stay all all (were g after) (parted g after) refl (as_many g after)
    (done_to_none (WorkerStays (mail g) (length all) (length (were g after))) (worker_stays (length all) (length (were g after))) all)
    (λ place was is there also. (each_parted g after place was is there also).stays))

pub returns-clause-apart : goal.returns-clause-apart
returns-clause-apart g c =
    let after = (goal.at.returns-clause-apart g c).After-loop-session in
    let alone = λ (proxy : Proxy g). IsApart (g.P.RepRx.Rx.about proxy.ends.replies) in
    subst (All alone) (all_parted g after) (all_there alone (parted g after) (λ place is there.
    let was = there_too (were g after) (parted g after) place is (as_many g after) there in
    (each_parted g after place was.0 is was.1 there).alone))
