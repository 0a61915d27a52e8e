use Rattle.std.proofs.Common.{◌+◌, arith, inl, inr, map, subst, sym}
use Rattle.std.proofs.lemmas.Bool.{cases_eq}
use Rattle.parties.specs.Session.{proxy_of}
use Rattle.parties.proofs.StayLemmas.{stay_still, stay_through}
use Rattle.parties.proofs.showing.show_to_mates.Goals as goal
use Rattle.parties.proofs.showing.show_to_mates.Goals.{else-other-place, then-other-place}
use Rattle.parties.proofs.showing.show_to_mates.Invariants.{HasMetMates}
use Rattle.party_turns.specs.Ends.{Ends, mail_of}
use Rattle.parties.proofs.showing.show_to_mates.Given.{Over}
use Rattle.parties.specs.Beside.{HasMet}

module _ (g : Over) where
  -- what the ends tell
  abbrev mail : Ends g.row.P-ReqTx.Denot g.row.P-RepTx.Denot g.row.P-GosTx.Denot g.row.P-ReqRx.Denot g.row.P-GosRx.Denot g.row.P-RepRx.Denot
      g.row.P-ReqTx-Key.Denot g.row.P-RepTx-Key.Denot g.row.P-GosTx-Key.Denot g.row.P-ReqRx-Key.Denot g.row.P-GosRx-Key.Denot g.row.P-RepRx-Key.Denot
  mail = mail_of g.P.ReqTx.Tx g.P.RepTx.Tx g.P.GosTx.Tx g.P.ReqRx.Rx g.P.GosRx.GossipRx g.P.RepRx.Rx

pub loop-other-init : goal.loop-other-init
loop-other-init g c = record {
  stay = stay_still c.args.parties.now.workers.items (map proxy_of c.args.parties.now.sessions.items);
  beside = λ other at beside. beside;
  met = λ other apart below. absurd (omega (arith, below));
}

pub show_mate-requires-clause-within : goal.show_mate-requires-clause-within
show_mate-requires-clause-within g c = let long = c.loop-other.invariant.stay.goes_on.workers_long in (omega (arith, long, c.requires.within), omega (arith, long))

pub show_mate-requires-clause-few : goal.show_mate-requires-clause-few
show_mate-requires-clause-few g c = let long = c.loop-other.invariant.stay.goes_on.workers_long in omega (arith, long, c.requires.few)

pub show_mate-requires-clause-ends : goal.show_mate-requires-clause-ends
show_mate-requires-clause-ends g c = c.loop-other.invariant.stay.goes_on.ends c.requires.ends

pub loop-other-preserved : goal.loop-other-preserved
loop-other-preserved g c =
    let so_far = c.loop-other.invariant in
    let workers = c.args.parties.now.workers.items in
    let proxies = map proxy_of c.args.parties.now.sessions.items in
    elim c.if-other-place.branch [
      | then-other-place w ↦
          let shown = w.show_mate.ensures in
          subst (λ parties. HasMetMates g c.args.place (c.loop-other.other + 1) workers parties.workers.items proxies (map proxy_of parties.sessions.items)) (sym w.parties-is) (record {
            stay = stay_through workers c.loop-other.parties.workers.items w.show_mate.new.parties.workers.items proxies (map proxy_of c.loop-other.parties.sessions.items)
                (map proxy_of w.show_mate.new.parties.sessions.items) so_far.stay shown.stay;
            beside = λ other at beside. shown.still_beside other at (so_far.beside other at beside);
            met = λ other apart below. elim (cases_eq other c.loop-other.other) [
              | inl here ↦ subst (λ n. HasMet (mail g) c.args.place n w.show_mate.new.parties.workers.items) (sym here) shown.met
              | inr passed ↦ shown.still_met c.args.place other (so_far.met other apart (omega (arith, below, passed)))
            ];
          })
      | else-other-place w ↦
          subst (λ parties. HasMetMates g c.args.place (c.loop-other.other + 1) workers parties.workers.items proxies (map proxy_of parties.sessions.items)) (sym w.parties-is) (record {
            stay = so_far.stay;
            beside = so_far.beside;
            met = λ other apart below. so_far.met other apart (omega (arith, below, apart, w.if-other-place.false));
          })
    ]
