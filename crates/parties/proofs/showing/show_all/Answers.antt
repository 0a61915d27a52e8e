use Rattle.std.proofs.Common.{ℕ, arith, inl, inr, map, subst, sym}
use Rattle.std.proofs.lemmas.Bool.{cases_eq}
use Rattle.std.proofs.lemmas.List.{length-map}
use Rattle.std.proofs.lemmas.Option.{slice_get_within}
use Rattle.parties.specs.Session.{proxy_of}
use Rattle.parties.proofs.BesideLemmas.{all_told}
use Rattle.parties.proofs.StayLemmas.{stay_still, stay_through}
use Rattle.parties.proofs.showing.show_all.Given.{Over}
use Rattle.parties.proofs.showing.show_all.Goals as goal
use Rattle.parties.proofs.showing.show_all.Goals.{After-loop-place}
use Rattle.party_turns.specs.Ends.{Ends, mail_of}
use Rattle.parties.specs.Beside.{AreBeside}

module _ (g : Over) where
  -- what the ends tell
  abbrev mail : Ends g.row.P-ReqTx.Denot g.row.P-RepTx.Denot g.row.P-GosTx.Denot g.row.P-ReqRx.Denot g.row.P-GosRx.Denot g.row.P-RepRx.Denot
      g.row.P-ReqTx-Key.Denot g.row.P-RepTx-Key.Denot g.row.P-GosTx-Key.Denot g.row.P-ReqRx-Key.Denot g.row.P-GosRx-Key.Denot g.row.P-RepRx-Key.Denot
  mail = mail_of g.P.ReqTx.Tx g.P.RepTx.Tx g.P.GosTx.Tx g.P.ReqRx.Rx g.P.GosRx.GossipRx g.P.RepRx.Rx

-- after the loop all are beside each other
all_beside : (g : Over) (c : After-loop-place g) (place at : ℕ)
    → AreBeside (mail g) place at c.loop-place.parties.workers.items (map proxy_of c.loop-place.parties.sessions.items)
all_beside g c place at worker proxy there here =
    let within = slice_get_within c.loop-place.parties.workers.items place worker there in
    let long = c.loop-place.invariant.stay.goes_on.workers_long in
    c.loop-place.invariant.beside place at (omega (arith, within, long)) worker proxy there here

pub loop-place-init : goal.loop-place-init
loop-place-init g c = record {
  stay = stay_still c.args.parties.now.workers.items (map proxy_of c.args.parties.now.sessions.items);
  beside = λ place at below. absurd (omega (arith, below));
}

pub show_worker-requires-clause-within : goal.show_worker-requires-clause-within
show_worker-requires-clause-within g c = let long = c.loop-place.invariant.stay.goes_on.workers_long in omega (arith, long)

pub show_worker-requires-clause-few : goal.show_worker-requires-clause-few
show_worker-requires-clause-few g c =
    let long = c.loop-place.invariant.stay.goes_on.workers_long in
    let long_sessions = c.loop-place.invariant.stay.goes_on.sessions_long in
    let many = length-map c.args.parties.now.sessions.items proxy_of in
    let many_now = length-map c.loop-place.parties.sessions.items proxy_of in
    (omega (arith, long, c.requires.few.0), omega (arith, long_sessions, many, many_now, c.requires.few.1))

pub show_worker-requires-clause-ends : goal.show_worker-requires-clause-ends
show_worker-requires-clause-ends g c = c.loop-place.invariant.stay.goes_on.ends c.requires.ends

pub loop-place-preserved : goal.loop-place-preserved
loop-place-preserved g c =
    let so_far = c.loop-place.invariant in
    let shown = c.show_worker.ensures in
    let workers = c.show_worker.new.parties.workers.items in
    let proxies = map proxy_of c.show_worker.new.parties.sessions.items in
    record {
      stay = stay_through c.args.parties.now.workers.items c.loop-place.parties.workers.items workers
          (map proxy_of c.args.parties.now.sessions.items) (map proxy_of c.loop-place.parties.sessions.items) proxies so_far.stay shown.stay;
      beside = λ place at below. elim (cases_eq place c.loop-place.place) [
        | inl here ↦ subst (λ n. AreBeside (mail g) n at workers proxies) (sym here) (shown.beside at)
        | inr passed ↦ shown.others place at passed (so_far.beside place at (omega (arith, below, passed)))
      ];
    }

pub returns-clause-beside : goal.returns-clause-beside
returns-clause-beside g c = all_beside g (goal.at.returns-clause-beside g c).After-loop-place

pub returns-clause-told : goal.returns-clause-told
returns-clause-told g c =
    all_told (mail g) c.loop-place.parties.workers.items (map proxy_of c.loop-place.parties.sessions.items)
    (all_beside g (goal.at.returns-clause-told g c).After-loop-place)
