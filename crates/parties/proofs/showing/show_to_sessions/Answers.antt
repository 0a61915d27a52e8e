use Rattle.std.proofs.Common.{arith, inl, inr, map, subst, sym}
use Rattle.std.proofs.lemmas.Bool.{cases_eq}
use Rattle.std.proofs.lemmas.List.{length-map}
use Rattle.std.proofs.lemmas.Option.{slice_get_within}
use Rattle.parties.specs.Session.{proxy_of}
use Rattle.parties.proofs.StayLemmas.{stay_still, stay_through}
use Rattle.parties.proofs.showing.show_to_sessions.Goals as goal
use Rattle.party_turns.specs.Ends.{Ends, mail_of}
use Rattle.parties.proofs.showing.show_to_sessions.Given.{Over}
use Rattle.parties.specs.Beside.{AreBeside}

module _ (g : Over) where
  -- what the ends tell
  abbrev mail : Ends g.row.P-ReqTx.Denot g.row.P-RepTx.Denot g.row.P-GosTx.Denot g.row.P-ReqRx.Denot g.row.P-GosRx.Denot g.row.P-RepRx.Denot
      g.row.P-ReqTx-Key.Denot g.row.P-RepTx-Key.Denot g.row.P-GosTx-Key.Denot g.row.P-ReqRx-Key.Denot g.row.P-GosRx-Key.Denot g.row.P-RepRx-Key.Denot
  mail = mail_of g.P.ReqTx.Tx g.P.RepTx.Tx g.P.GosTx.Tx g.P.ReqRx.Rx g.P.GosRx.GossipRx g.P.RepRx.Rx

pub loop-at-init : goal.loop-at-init
loop-at-init g c = record {
  stay = stay_still c.args.parties.now.workers.items (map proxy_of c.args.parties.now.sessions.items);
  beside = λ at below. absurd (omega (arith, below));
  others = λ other at apart beside. beside;
}

pub show_session-requires-clause-within : goal.show_session-requires-clause-within
show_session-requires-clause-within g c =
    let long = c.loop-at.invariant.stay.goes_on.workers_long in
    let long_sessions = c.loop-at.invariant.stay.goes_on.sessions_long in
    let many = length-map c.args.parties.now.sessions.items proxy_of in
    let many_now = length-map c.loop-at.parties.sessions.items proxy_of in
    (omega (arith, long, c.requires.within), omega (arith, long_sessions, many, many_now))

pub show_session-requires-clause-few : goal.show_session-requires-clause-few
show_session-requires-clause-few g c =
    let long_sessions = c.loop-at.invariant.stay.goes_on.sessions_long in
    let many = length-map c.args.parties.now.sessions.items proxy_of in
    let many_now = length-map c.loop-at.parties.sessions.items proxy_of in
    omega (arith, long_sessions, many, many_now, c.requires.few)

pub show_session-requires-clause-ends : goal.show_session-requires-clause-ends
show_session-requires-clause-ends g c = c.loop-at.invariant.stay.goes_on.ends c.requires.ends

pub loop-at-preserved : goal.loop-at-preserved
loop-at-preserved g c =
    let so_far = c.loop-at.invariant in
    let shown = c.show_session.ensures in
    let workers = c.show_session.new.parties.workers.items in
    let proxies = map proxy_of c.show_session.new.parties.sessions.items in
    record {
      stay = stay_through c.args.parties.now.workers.items c.loop-at.parties.workers.items workers
          (map proxy_of c.args.parties.now.sessions.items) (map proxy_of c.loop-at.parties.sessions.items) proxies so_far.stay shown.stay;
      beside = λ at below. elim (cases_eq at c.loop-at.at) [
        | inl here ↦ subst (λ n. AreBeside (mail g) c.args.place n workers proxies) (sym here) shown.beside
        | inr passed ↦ shown.others c.args.place at (λ same. passed) (so_far.beside at (omega (arith, below, passed)))
      ];
      others = λ other at apart beside. shown.others other at (λ same other_at. apart same) (so_far.others other at apart beside);
    }

pub returns-clause-beside : goal.returns-clause-beside
returns-clause-beside g c at worker proxy there here =
    let within = slice_get_within (map proxy_of c.loop-at.parties.sessions.items) at proxy here in
    let long_sessions = c.loop-at.invariant.stay.goes_on.sessions_long in
    let many = length-map c.args.parties.now.sessions.items proxy_of in
    c.loop-at.invariant.beside at (omega (arith, within, long_sessions, many)) worker proxy there here
