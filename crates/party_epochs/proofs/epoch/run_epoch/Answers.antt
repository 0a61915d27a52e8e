use Rattle.std.proofs.Common.{◌≡◌, ◌++◌, ◌∙◌, ℕ, ap, arith, length, List, map, None, slice_get, Some, subst, sym}
use Rattle.std.proofs.lemmas.List.{length-append, length-map}
use Rattle.std.proofs.lemmas.Simd.{map-map}
use Rattle.session_proxy.specs.State as sessions
use Rattle.worker_core.specs.State as workers
use Rattle.parties.specs.Laws.{IsPlaced}
use Rattle.parties.specs.Steps.{HasDone, HasServed}
use Rattle.session_proxy.specs.Share.{Share}
use Rattle.party_turns.proofs.ItemsLemmas.{of_mapped}
use Rattle.party_turns.specs.Ends.{Ends, mail_of, session_lists, worker_lists}
use Rattle.party_turns.proofs.GoesOnLemmas.{goes_on_through}
use Rattle.parties.specs.Session.{proxy_of}
use Rattle.parties.specs.Polling.{HasPolled}
use Rattle.parties.specs.Progress.{HasMovedOn}
use Rattle.parties.specs.Turning.{HasTurned}
use Rattle.parties.specs.declared.stepping.Polled.{Polled as Came}
use Rattle.parties.proofs.PlacedLemmas.{may_be_polled}
use Rattle.parties.proofs.PolledRunLemmas.{polled_goes_on}
use Rattle.party_turns.proofs.TogetherLemmas.{all_stepped}
use Rattle.parties.proofs.TurnedRunLemmas.{turned_goes_on}
use Rattle.party_epochs.specs.Turns.{AreCounted, TakesAtMost}
use Rattle.party_epochs.proofs.EpochLemmas.{as_many_pieces, each_kept, each_told}
use Rattle.party_epochs.proofs.TurnsLemmas.{all_take, takes_each}
use Rattle.party_epochs.proofs.epoch.run_epoch.Given.{Over}
use Rattle.party_epochs.proofs.epoch.run_epoch.Goals as goal
use Rattle.party_epochs.proofs.epoch.run_epoch.Goals.{After-drop-parties-2}

module _ (g : Over) where
  -- what the ends tell
  abbrev mail : Ends g.row.P-ReqTx.Denot g.row.P-RepTx.Denot g.row.P-GosTx.Denot g.row.P-ReqRx.Denot g.row.P-GosRx.Denot g.row.P-RepRx.Denot
      g.row.P-ReqTx-Key.Denot g.row.P-RepTx-Key.Denot g.row.P-GosTx-Key.Denot g.row.P-ReqRx-Key.Denot g.row.P-GosRx-Key.Denot g.row.P-RepRx-Key.Denot
  mail = mail_of g.P.ReqTx.Tx g.P.RepTx.Tx g.P.GosTx.Tx g.P.ReqRx.Rx g.P.GosRx.GossipRx g.P.RepRx.Rx

  abbrev Worker : Type 0
  Worker = workers.PlainWorker g.row.P-ReqRx.Denot g.row.P-RepTx.Denot g.row.P-GosTx.Denot g.row.P-GosRx.Denot

  abbrev Proxy : Type 0
  Proxy = sessions.PlainProxy g.row.P-ReqTx.Denot g.row.P-RepRx.Denot

  abbrev of_worker : Worker → workers.Lists
  of_worker = worker_lists mail

  abbrev of_session : Proxy → sessions.Lists
  of_session = session_lists mail

  module _ (c : After-drop-parties-2 g) where
    -- the workers before the epoch and after it, and the proxies of the sessions
    abbrev those : List Worker
    those = c.args.parties.now.workers.items

    abbrev those_now : List Worker
    those_now = c.in_ok-parties.field-0.items

    abbrev proxies : List Proxy
    proxies = map proxy_of c.args.parties.now.sessions.items

    abbrev proxies_now : List Proxy
    proxies_now = map proxy_of c.in_ok-parties-2.field-0.items

    begun : map (λ part. part.worker) c.in_ok-turned.turned.items ≡ those
    begun = c.in_ok-turned.ensures.workers ∙ ap (λ vec. vec.items) c.replace-workers.ensures.value

    ended : those_now ≡ map (λ part. part.worker) c.run_parts.new.turned.items
    ended = c.in_ok-parties.ensures

    sessions_begun : map (λ part. proxy_of part.session) c.in_ok-polled.polled.items ≡ proxies
    sessions_begun =
        sym (map-map proxy_of (λ part. part.session) c.in_ok-polled.polled.items) ∙ ap (map proxy_of) (c.in_ok-polled.ensures.sessions ∙ ap (λ vec. vec.items) c.replace-sessions.ensures.value)

    sessions_ended : proxies_now ≡ map (λ part. proxy_of part.session) c.run_parts.new.polled.items
    sessions_ended = ap (map proxy_of) c.in_ok-parties-2.ensures ∙ map-map proxy_of (λ part. part.session) c.run_parts.new.polled.items

    as_many : length those_now ≡ length those
    as_many =
        ap length ended ∙ length-map c.run_parts.new.turned.items (λ part. part.worker)
        ∙ as_many_pieces _ c.in_ok-turned.turned.items c.run_parts.new.turned.items c.in_ok-run_parts.ensures.turned
        ∙ sym (length-map c.in_ok-turned.turned.items (λ part. part.worker)) ∙ ap length begun

    so_many : length proxies_now ≡ length proxies
    so_many =
        ap length sessions_ended ∙ length-map c.run_parts.new.polled.items (λ part. proxy_of part.session)
        ∙ as_many_pieces _ c.in_ok-polled.polled.items c.run_parts.new.polled.items c.in_ok-run_parts.ensures.polled
        ∙ sym (length-map c.in_ok-polled.polled.items (λ part. proxy_of part.session)) ∙ ap length sessions_begun

    -- what came of the sessions' turns
    came : c.in_ok-came.came.items ≡ map (λ part. part.polled) c.run_parts.new.polled.items
    came = c.in_ok-came.ensures ∙ ap (map (λ part. part.polled)) c.deref-5.ensures.value

    -- each worker took its turns,
    turned : (place : ℕ) (was is : Worker) → slice_get those place ≡ Some was → slice_get those_now place ≡ Some is
        → HasTurned g.P.ReqRx.Rx g.P.RepTx.Tx g.P.GosTx.Tx g.P.GosRx.GossipRx was is × (was.state.kept ≡ None → HasServed (of_worker was) (of_worker is))
    turned place was is there also =
        each_kept _
        (λ was is. HasTurned g.P.ReqRx.Rx g.P.RepTx.Tx g.P.GosTx.Tx g.P.GosRx.GossipRx was is × (was.state.kept ≡ None → HasServed (of_worker was) (of_worker is)))
        (λ part. part.worker) (λ before now became. (became.0, became.1)) c.in_ok-turned.turned.items c.run_parts.new.turned.items c.in_ok-run_parts.ensures.turned place was is
        (ap (λ all. slice_get all place) begun ∙ there) (ap (λ all. slice_get all place) (sym ended) ∙ also)

    -- and each session was polled
    polled : (place : ℕ) (was is : Proxy) → slice_get proxies place ≡ Some was → slice_get proxies_now place ≡ Some is
        → HasPolled g.P.ReqTx.Tx g.P.RepRx.Rx was is
    polled place was is there also =
        each_kept _ (HasPolled g.P.ReqTx.Tx g.P.RepRx.Rx)
        (λ part. proxy_of part.session) (λ before now became. became.0) c.in_ok-polled.polled.items c.run_parts.new.polled.items c.in_ok-run_parts.ensures.polled place was is
        (ap (λ all. slice_get all place) sessions_begun ∙ there) (ap (λ all. slice_get all place) (sym sessions_ended) ∙ also)

    -- so each session of a run has gone on
    done_each : ((at : ℕ) (proxy : Proxy) → slice_get proxies at ≡ Some proxy → IsPlaced (of_session proxy) × Share (of_session proxy))
        → (place : ℕ) (was is : Proxy) → slice_get proxies place ≡ Some was → slice_get proxies_now place ≡ Some is → HasDone (of_session was) (of_session is)
    done_each may place was is there also =
        each_kept _ (λ was is. IsPlaced (of_session was) → Share (of_session was) → HasDone (of_session was) (of_session is))
        (λ part. proxy_of part.session) (λ before now became placed share. (became.2 placed share).goes_on) c.in_ok-polled.polled.items c.run_parts.new.polled.items
        c.in_ok-run_parts.ensures.polled place was is
        (ap (λ all. slice_get all place) sessions_begun ∙ there) (ap (λ all. slice_get all place) (sym sessions_ended) ∙ also) (may place was there).0 (may place was there).1

    -- and has moved on, as what came of it tells
    moved_on : ((at : ℕ) (proxy : Proxy) → slice_get proxies at ≡ Some proxy → IsPlaced (of_session proxy) × Share (of_session proxy))
        → (at : ℕ) (its : Came) (was is : Proxy) → slice_get c.in_ok-came.came.items at ≡ Some its → slice_get proxies at ≡ Some was → slice_get proxies_now at ≡ Some is
        → HasMovedOn its (of_session was) (of_session is)
    moved_on may at its was is told there also =
        each_told _ (λ its was is. IsPlaced (of_session was) → Share (of_session was) → HasMovedOn its (of_session was) (of_session is))
        (λ part. proxy_of part.session) (λ part. part.polled) (λ before now became. became.2) c.in_ok-polled.polled.items c.run_parts.new.polled.items
        c.in_ok-run_parts.ensures.polled at its was is (ap (λ all. slice_get all at) (sym came) ∙ told)
        (ap (λ all. slice_get all at) sessions_begun ∙ there) (ap (λ all. slice_get all at) (sym sessions_ended) ∙ also) (may at was there).0 (may at was there).1

pub returns-clause-steps : goal.returns-clause-steps
returns-clause-steps g c = record {
  goes_on =
      goes_on_through (those g c) (those_now g c) (those_now g c) (proxies g c) (proxies g c) (proxies_now g c)
      (turned_goes_on (those g c) (those_now g c) (proxies g c) (as_many g c) (λ place was is there also. (turned g c place was is there also).0))
      (polled_goes_on (those_now g c) (proxies g c) (proxies_now g c) (so_many g c) (polled g c));
  gone_on = λ script running.
      all_stepped (mail g) (those g c) (those_now g c) (proxies g c) (proxies_now g c) (as_many g c) (so_many g c)
      (λ place was there. (running.workers_are place was there).sessions ∙ sym running.as_many_sessions)
      (λ place was is there also. (turned g c place was is there also).1)
      (done_each g c (may_be_polled script (those g c) (proxies g c) running));
}

pub returns-clause-each : goal.returns-clause-each
returns-clause-each g c =
    ap length (came g c) ∙ length-map c.run_parts.new.polled.items (λ part. part.polled)
    ∙ as_many_pieces _ c.in_ok-polled.polled.items c.run_parts.new.polled.items c.in_ok-run_parts.ensures.polled
    ∙ sym (length-map c.in_ok-polled.polled.items (λ part. part.session)) ∙ ap length (c.in_ok-polled.ensures.sessions ∙ ap (λ vec. vec.items) c.replace-sessions.ensures.value)
    ∙ sym (length-map c.args.parties.now.sessions.items proxy_of) ∙ sym (length-map (map proxy_of c.args.parties.now.sessions.items) (session_lists (mail g)))

pub returns-clause-moved : goal.returns-clause-moved
returns-clause-moved g c running at its was is told there also =
    let from = of_mapped (of_session g) (proxies g c) at was there in
    let to = of_mapped (of_session g) (proxies_now g c) at is also in
    subst (λ was. HasMovedOn its was is) from.2
    (subst (HasMovedOn its (of_session g from.0)) to.2
    (moved_on g c (may_be_polled running.0 (those g c) (proxies g c) running.1) at its from.0 to.0 told from.1 to.1))

-- the counts of all parties, workers first
counts : (g : Over) (c : After-drop-parties-2 g)
    → c.in_ok-turns.field-0.items ≡ map (λ part. part.turns) c.run_parts.new.turned.items ++ map (λ part. part.turns) c.run_parts.new.polled.items
counts g c =
    c.in_ok-turns.ensures ∙ ap (λ those. map (λ part. part.turns) those ++ map (λ part. part.turns) c.deref-4.result.now) c.deref-3.ensures.value
    ∙ ap (λ those. map (λ part. part.turns) c.run_parts.new.turned.items ++ map (λ part. part.turns) those) c.deref-4.ensures.value

pub returns-clause-turns : goal.returns-clause-turns
returns-clause-turns g c =
    let before = c.args.turns.now.items in
    let turned = c.in_ok-turned.turned.items in
    let turned_now = c.run_parts.new.turned.items in
    let polled = c.in_ok-polled.polled.items in
    let polled_now = c.run_parts.new.polled.items in
    let first : c.len-many.result ≡ length (map (λ part. part.turns) turned) =
    c.len-many.ensures ∙ c.replace-workers.result.ok.0 ∙ ap length (sym c.in_ok-turned.ensures.workers) ∙ length-map turned (λ part. part.worker) ∙ sym (length-map turned (λ part. part.turns)) in
    let of_workers = subst (λ turns. AreCounted turns 0 (map (λ part. part.turns) turned)) c.deref.ensures.value c.in_ok-turned.ensures.counted in
    let of_sessions =
    subst (λ from. AreCounted before from (map (λ part. part.turns) polled)) first
    (subst (λ turns. AreCounted turns c.len-many.result (map (λ part. part.turns) polled)) c.deref-2.ensures.value c.in_ok-polled.ensures.counted)
    in
    let as_many = length-map turned_now (λ part. part.turns) ∙ as_many_pieces _ turned turned_now c.in_ok-run_parts.ensures.turned ∙ sym (length-map turned (λ part. part.turns)) in
    let so_many = length-map polled_now (λ part. part.turns) ∙ as_many_pieces _ polled polled_now c.in_ok-run_parts.ensures.polled ∙ sym (length-map polled (λ part. part.turns)) in
    subst (TakesAtMost 128 before) (sym (counts g (goal.at.returns-clause-turns g c).After-drop-parties-2))
    (all_take 128 before (map (λ part. part.turns) turned) (map (λ part. part.turns) turned_now) (map (λ part. part.turns) polled) (map (λ part. part.turns) polled_now)
    of_workers of_sessions as_many so_many
    (takes_each _ (λ part. part.turns) 128 (λ was is became. became.2) turned turned_now c.in_ok-run_parts.ensures.turned)
    (takes_each _ (λ part. part.turns) 128 (λ was is became. became.3) polled polled_now c.in_ok-run_parts.ensures.polled))

pub returns-clause-counts : goal.returns-clause-counts
returns-clause-counts g c =
    let after = (goal.at.returns-clause-counts g c).After-drop-parties-2 in
    let turned_now = c.run_parts.new.turned.items in
    let polled_now = c.run_parts.new.polled.items in
    let long = ap length (counts g after) ∙ length-append (map (λ part. part.turns) turned_now) (map (λ part. part.turns) polled_now) in
    let workers = length-map turned_now (λ part. part.turns) ∙ as_many_pieces _ c.in_ok-turned.turned.items turned_now c.in_ok-run_parts.ensures.turned
    ∙ sym (length-map c.in_ok-turned.turned.items (λ part. part.worker)) ∙ ap length (begun g after) ∙ sym (length-map c.args.parties.now.workers.items (worker_lists (mail g))) in
    let sessions = length-map polled_now (λ part. part.turns) ∙ as_many_pieces _ c.in_ok-polled.polled.items polled_now c.in_ok-run_parts.ensures.polled
    ∙ sym (length-map c.in_ok-polled.polled.items (λ part. part.session)) ∙ ap length (c.in_ok-polled.ensures.sessions ∙ ap (λ vec. vec.items) c.replace-sessions.ensures.value)
    ∙ sym (length-map c.args.parties.now.sessions.items proxy_of) ∙ sym (length-map (map proxy_of c.args.parties.now.sessions.items) (session_lists (mail g))) in
    omega (arith, long, workers, sessions)
