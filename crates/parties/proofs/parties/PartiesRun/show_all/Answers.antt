use Rattle.std.proofs.Common.{◌≡◌, ◌+◌, None, arith, map, subst, sym}
use Rattle.std.proofs.lemmas.List.{length-map}
use Rattle.std.proofs.lemmas.Option.{slice_get_within}
use Rattle.run_measure.specs.Laws.{IsOfWorkers}
use Rattle.run_waiting.proofs.ToldLemmas.{told_own}
use Rattle.run_waiting.specs.Laws.{IsWorkerOf}
use Rattle.run_waiting.specs.Waiting.{AreSigned, AreToAsks}
use Rattle.party_turns.proofs.ItemsLemmas.{all_there, at_its_place, of_mapped}
use Rattle.party_turns.specs.Ends.{mail_of, session_lists, worker_lists}
use Rattle.parties.specs.Session.{proxy_of}
use Rattle.parties.proofs.PlacedLemmas.{are_of_workers}
use Rattle.parties.proofs.StayStepsLemmas.{stay_steps}
use Rattle.party_turns.proofs.StepsLemmas.{steps_ready}
use Rattle.parties.proofs.parties.PartiesRun.show_all.Goals as goal

pub returns-clause-to_asks : goal.returns-clause-to_asks
returns-clause-to_asks g c =
    let mail = mail_of g.P.ReqTx.Tx g.P.RepTx.Tx g.P.GosTx.Tx g.P.ReqRx.Rx g.P.GosRx.GossipRx g.P.RepRx.Rx in
    let those = c.show_all.new.parties.workers.items in
    let proxies = map proxy_of c.show_all.new.parties.sessions.items in
    let script = c.requires.running.0 in
    let then = steps_ready script _ _ _ _ c.requires.running.1 c.requires.none_kept (stay_steps _ _ _ _ c.show_all.ensures.stay) in
    let told = c.show_all.ensures.told c.requires.free.0.complete c.requires.free.1.complete in
    all_there (λ its. AreToAsks its × AreSigned its) (map (session_lists mail) proxies) (λ at its here.
    let proxy = of_mapped (session_lists mail) proxies at its here in
    let of_workers = subst (λ many. IsOfWorkers many its) (sym (length-map those (worker_lists mail))) (are_of_workers script those proxies then.0 at its here) in
    told_own (map (worker_lists mail) those) (at + 1) its of_workers (λ place worker there.
    let one = of_mapped (worker_lists mail) those place worker there in
    let of_script = then.0.workers_are place one.0 one.1 in
    let many = length-map one.0.ends.replies.items g.P.RepTx.Tx.sent in
    let low = slice_get_within proxies at proxy.0 proxy.1 in (
      subst (IsWorkerOf (at + 1) (place + 1)) one.2 (record {
        share = (c.show_all.ensures.beside place at one.0 proxy.0 one.1 proxy.1).share;
        me = of_script.me;
        session_is = (omega arith, omega (arith, many, of_script.sessions, then.0.as_many_sessions, low));
        none_kept = at_its_place (λ worker. worker.state.kept ≡ None) those place one.0 then.1 one.1;
      }),
      told place at worker its there here,
    )))

pub returns-clause-steps : goal.returns-clause-steps
returns-clause-steps g c = stay_steps _ _ _ _ c.show_all.ensures.stay
