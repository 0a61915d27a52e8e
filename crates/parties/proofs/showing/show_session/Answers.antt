use Rattle.std.proofs.Common.{◌≡◌, ◌∙◌, ◌+◌, ◌<◌, ℕ, List, ap, arith, length, map, slice_get, slice_index_or, slice_set, subst, sym, Some}
use Rattle.std.proofs.lemmas.List.{length-set, map-set}
use Rattle.std.proofs.lemmas.Option.{get_or_from_slice_get, same_Some, slice_get_within}
use Rattle.placement.specs.Config.{IsOneOf}
use Rattle.session_proxy.specs.State.{PlainProxy}
use Rattle.worker_core.specs.State.{PlainWorker}
use Rattle.party_turns.proofs.ItemsLemmas.{long_alike, mapped}
use Rattle.party_turns.proofs.PlacesLemmas.{now_there}
use Rattle.parties.specs.Session.{proxy_of}
use Rattle.parties.proofs.ChangedLemmas.{done_to_one, read_there}
use Rattle.parties.proofs.BesideLemmas.{KnowStill, stay_beside, done_to_pairs, know_still}
use Rattle.parties.proofs.HeldLemmas.{AreHeld, held_beside, session_knows, worker_knows}
use Rattle.parties.proofs.MeetLemmas.{session_met, worker_met}
use Rattle.parties.proofs.MetLemmas.{are_paired, by_places, has_replies}
use Rattle.parties.proofs.StayLemmas.{all_stay, session_stays, worker_stays, SessionStays, WorkerStays}
use Rattle.parties.proofs.showing.show_session.Given.{Over}
use Rattle.parties.proofs.showing.show_session.Goals as goal
use Rattle.parties.proofs.showing.show_session.Goals.{After-beside_session, After-index_mut-session}
use Rattle.party_turns.specs.Ends.{Ends, mail_of}
use Rattle.parties.specs.Beside.{AreBeside, IsBeside}
use Rattle.parties.specs.Staying.{AllStay}

module _ (g : Over) where
  -- what the ends tell
  abbrev mail : Ends g.row.P-ReqTx.Denot g.row.P-RepTx.Denot g.row.P-GosTx.Denot g.row.P-ReqRx.Denot g.row.P-GosRx.Denot g.row.P-RepRx.Denot
      g.row.P-ReqTx-Key.Denot g.row.P-RepTx-Key.Denot g.row.P-GosTx-Key.Denot g.row.P-ReqRx-Key.Denot g.row.P-GosRx-Key.Denot g.row.P-RepRx-Key.Denot
  mail = mail_of g.P.ReqTx.Tx g.P.RepTx.Tx g.P.GosTx.Tx g.P.ReqRx.Rx g.P.GosRx.GossipRx g.P.RepRx.Rx

module _ (g : Over) where
  abbrev Worker : Type 0
  Worker = PlainWorker g.row.P-ReqRx.Denot g.row.P-RepTx.Denot g.row.P-GosTx.Denot g.row.P-GosRx.Denot

  abbrev Proxy : Type 0
  Proxy = PlainProxy g.row.P-ReqTx.Denot g.row.P-RepRx.Denot

  module _ (c : After-index_mut-session g) where
    -- the worker and the session before they are held beside each other
    abbrev worker : Worker
    worker = c.index_mut-worker.result.now

    abbrev proxy : Proxy
    proxy = proxy_of c.index_mut-session.result.now

    worker_there : slice_get c.args.parties.now.workers.items c.args.place ≡ Some worker
    worker_there = read_there c.args.parties.now.workers.items c.args.place worker c.requires.within.0 c.index_mut-worker.ensures.value

    proxy_there : slice_get (map proxy_of c.args.parties.now.sessions.items) c.args.at ≡ Some proxy
    proxy_there =
        mapped proxy_of c.args.parties.now.sessions.items c.args.at c.index_mut-session.result.now
        (read_there c.args.parties.now.sessions.items c.args.at c.index_mut-session.result.now c.requires.within.1 c.index_mut-session.ensures.value)

  module _ (c : After-beside_session g) where
    -- both, before and after
    abbrev was : Worker
    was = c.index_mut-worker.result.now

    abbrev is : Worker
    is = c.beside_session.new.self

    abbrev proxy_was : Proxy
    proxy_was = proxy_of c.index_mut-session.result.now

    abbrev proxy_is : Proxy
    proxy_is = proxy_of c.beside_session.new.side

    -- and all workers and all sessions
    abbrev workers_were : List Worker
    workers_were = c.args.parties.now.workers.items

    abbrev workers_are : List Worker
    workers_are = slice_set workers_were c.args.place is

    abbrev proxies_were : List Proxy
    proxies_were = map proxy_of c.args.parties.now.sessions.items

    abbrev proxies_are : List Proxy
    proxies_are = slice_set proxies_were c.args.at proxy_is

    there : slice_get workers_were c.args.place ≡ Some was
    there = read_there workers_were c.args.place was c.requires.within.0 c.index_mut-worker.ensures.value

    here : slice_get proxies_were c.args.at ≡ Some proxy_was
    here =
        mapped proxy_of c.args.parties.now.sessions.items c.args.at c.index_mut-session.result.now
        (read_there c.args.parties.now.sessions.items c.args.at c.index_mut-session.result.now c.requires.within.1 c.index_mut-session.ensures.value)

    -- what they were told
    abbrev Held : ℕ → ℕ → ℕ → ℕ → ℕ → Type 0
    Held me place number at session = AreHeld (mail g) me place number at session was is proxy_was proxy_is

    held : Held (c.args.place + 1) c.args.place (c.args.place + 1) c.args.at (c.args.at + 1)
    held =
        let met = c.beside_session.ensures in
        by_places c.requires.ends c.args.place c.args.at was proxy_was there here Held (record {
          shows = met.requests;
          freed = met.freed;
          other_workers = met.other_workers;
          learned = met.learned;
          told = met.told;
          room = met.room;
          other_sessions = met.other_sessions;
        })

    -- the worker stays, and so does the session
    worker_is : WorkerStays (mail g) (length workers_were) (length proxies_were) c.args.place was is
    worker_is =
        let met = c.beside_session.ensures in
        let one_of : IsOneOf (length proxies_were) (c.args.at + 1) = (omega arith, let within = slice_get_within proxies_were c.args.at proxy_was here in omega (arith, within)) in
        worker_met (length workers_were) (length proxies_were) c.args.place (c.args.at + 1) was is g.P.ReqRx.Rx.keeps g.P.ReqRx.Rx.answers _ one_of
        met.state met.gossip_in met.gossip_out met.requests_key held.shows met.replies_keys met.replies_numbers met.replies_sent

    session_is : SessionStays (mail g) proxy_was proxy_is
    session_is =
        let met = c.beside_session.ensures in
        session_met proxy_was proxy_is g.P.RepRx.Rx.keeps (c.args.place + 1) _
        (λ j. (met.key j).0) (λ j. (met.key j).1) (λ j. (met.rest j).0) (λ j. (met.rest j).1) (λ j. (met.rest j).2) (λ j. (met.rest j).3) held.learned

    session_within : c.args.at < length proxies_were
    session_within = slice_get_within proxies_were c.args.at proxy_was here

    session_read : proxy_was ≡ slice_index_or proxies_were c.args.at proxy_was
    session_read = sym (get_or_from_slice_get proxies_were c.args.at proxy_was proxy_was here)

    -- so all stay,
    stay : AllStay (mail g) workers_were workers_are proxies_were proxies_are
    stay =
        all_stay workers_were workers_are proxies_were proxies_are (length-set workers_were c.args.place is) (length-set proxies_were c.args.at proxy_is)
        (done_to_one (WorkerStays (mail g) (length workers_were) (length proxies_were)) (worker_stays (length workers_were) (length proxies_were))
        workers_were c.args.place was is c.requires.within.0 c.index_mut-worker.ensures.value worker_is)
        (done_to_one (λ at. SessionStays (mail g)) (λ at. session_stays) proxies_were c.args.at proxy_was proxy_is session_within session_read session_is)

    -- the two are beside each other,
    beside : AreBeside (mail g) c.args.place c.args.at workers_are proxies_are
    beside worker proxy worker_there proxy_there =
        let it : is ≡ worker = same_Some is worker (sym (now_there workers_were c.args.place is c.requires.within.0) ∙ worker_there) in
        let its : proxy_is ≡ proxy = same_Some proxy_is proxy (sym (now_there proxies_were c.args.at proxy_is session_within) ∙ proxy_there) in
        subst (λ (both : Worker × Proxy). IsBeside (mail g) c.args.place c.args.at both.0 both.1) (λ j. (it j, its j))
        (held_beside held (sym worker_is.lists) (sym session_is.lists) c.beside_session.ensures.share)

    -- and others that were beside each other still are
    others : (other other_at : ℕ) → (other ≡ c.args.place → other_at ≡ c.args.at → ⊥)
        → AreBeside (mail g) other other_at workers_were proxies_were
        → AreBeside (mail g) other other_at workers_are proxies_are
    others other other_at apart =
        let long = long_alike g.P.ReqTx.Tx.sent proxy_was.ends.requests.items proxy_is.ends.requests.items (ap (λ lists. lists.sent) session_is.lists) in
        stay_beside (mail g) workers_were workers_are proxies_were proxies_are stay other other_at
        (done_to_pairs (KnowStill (mail g)) workers_were proxies_were c.args.place c.args.at was is proxy_was proxy_is
        c.requires.within.0 c.index_mut-worker.ensures.value session_within session_read know_still (worker_knows held) (session_knows held long) other other_at apart)

    -- all sessions again
    proxies_set : proxies_are ≡ map proxy_of (slice_set c.args.parties.now.sessions.items c.args.at c.beside_session.new.side)
    proxies_set = sym (map-set proxy_of c.args.parties.now.sessions.items c.args.at c.beside_session.new.side)

pub beside_session-requires-clause-session : goal.beside_session-requires-clause-session
beside_session-requires-clause-session g c = (omega arith, has_replies c.requires.ends c.args.place c.args.at (worker g c) (proxy g c) (worker_there g c) (proxy_there g c))

pub beside_session-requires-clause-pairs : goal.beside_session-requires-clause-pairs
beside_session-requires-clause-pairs g c sender sender_is =
    are_paired c.requires.ends c.args.place c.args.at (worker g c) (proxy g c) (worker_there g c) (proxy_there g c) sender
    (subst (λ n. slice_get (worker g c).ends.replies.items n ≡ Some sender) (omega arith) sender_is)

pub returns-clause-stay : goal.returns-clause-stay
returns-clause-stay g c =
    let after = (goal.at.returns-clause-stay g c).After-beside_session in
    subst (AllStay (mail g) (workers_were g after) (workers_are g after) (proxies_were g after)) (proxies_set g after) (stay g after)

pub returns-clause-beside : goal.returns-clause-beside
returns-clause-beside g c =
    let after = (goal.at.returns-clause-beside g c).After-beside_session in
    subst (AreBeside (mail g) c.args.place c.args.at (workers_are g after)) (proxies_set g after) (beside g after)

pub returns-clause-others : goal.returns-clause-others
returns-clause-others g c other other_at apart were_beside =
    let after = (goal.at.returns-clause-others g c).After-beside_session in
    subst (AreBeside (mail g) other other_at (workers_are g after)) (proxies_set g after) (others g after other other_at apart were_beside)
