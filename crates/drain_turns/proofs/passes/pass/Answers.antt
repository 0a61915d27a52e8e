use Rattle.std.proofs.Common.{◌≡◌, ◌∙◌, ◌+◌, ◌<◌, ◌&&◌, ℕ, [], List, Option, ap, arith, length, option_map, refl, subst, sym, unwrap_or}
use Rattle.std.proofs.lemmas.Bool.{and_from, and_parts}
use Rattle.std.proofs.lemmas.List.{length-map}
use Rattle.std.proofs.lemmas.Option.{slice_get_within}
use Rattle.mail_contract.specs.Boxes.{box_of}
use Rattle.party_turns.specs.Mates.{AreMates, steady_of}
use Rattle.drain_turns.specs.Ready.{told_by}
use Rattle.party_turns.proofs.ItemsLemmas.{mapped, there_is}
use Rattle.drain_turns.proofs.LeftLemmas.{farther_all, farther_more, farther_still}
use Rattle.party_turns.proofs.GoingOnLemmas.{all_stay, all_through}
use Rattle.drain_turns.proofs.PassesGoingOn.{places_stay, ready_stays}
use Rattle.drain_turns.proofs.PassesLemmas.{done_more, first_left, rested_more, unturned_less}
use Rattle.drain_turns.proofs.passes.pass.Given.{Over}
use Rattle.drain_turns.proofs.passes.pass.Goals as goal
use Rattle.drain_turns.proofs.passes.pass.Goals.{else-idle, then-idle}
use Rattle.drain_turns.proofs.passes.pass.Invariants.{AreTurned, ItsSteady, Worker, all_steady, its_left}

-- each worker told as many mates as there are others
told_to_mates : (g : Over) (workers : List (Worker g)) → AreMates g.O.Tx.key g.O.Tx.number g.G.GossipRx.key g.G.GossipRx.pairs workers
    → (at : ℕ) → at < length (all_steady g workers) → length (told_by (all_steady g workers) at) + 1 ≡ length (all_steady g workers)
told_to_mates g workers are_mates at within =
    let many = length-map workers (steady_of g.O.Tx.key g.O.Tx.number g.O.Tx.sent g.G.GossipRx.key g.G.GossipRx.got) in
    let its = there_is workers at (omega (arith, within, many)) in
    let there = mapped (steady_of g.O.Tx.key g.O.Tx.number g.O.Tx.sent g.G.GossipRx.key g.G.GossipRx.got) workers at its.0 its.1 in
    let told = ap (λ (one : Option (ItsSteady g)). length (unwrap_or (option_map (λ worker. worker.told) one) [])) there in
    let as_many = length-map its.0.ends.gossip_out.items g.O.Tx.sent in
    let mates = are_mates.mates at its.0 its.1 in
    omega (arith, told, as_many, mates, many)

pub loop-place-init : goal.loop-place-init
loop-place-init g c = record {
  gone_on = all_stay c.args.workers.now;
  unturned = λ at past. refl;
  done = λ idle at its below. absurd (omega (arith, below));
  rested = λ finds at its below. absurd (omega (arith, below));
  farther = λ finds none. farther_still (all_steady g c.args.workers.now);
  never_full = λ full. refl;
}

pub turn_at-requires-clause-ready : goal.turn_at-requires-clause-ready
turn_at-requires-clause-ready g c = ready_stays c.args.workers.now c.loop-place.workers c.loop-place.invariant.gone_on c.requires.ready

pub returns-in_err-its_idle-clause-gone_on : goal.returns-in_err-its_idle-clause-gone_on
returns-in_err-its_idle-clause-gone_on g c = all_through c.args.workers.now c.loop-place.workers c.turn_at.new.workers c.loop-place.invariant.gone_on c.turn_at.ensures.gone_on

pub loop-place-preserved : goal.loop-place-preserved
loop-place-preserved g c =
    let first = c.args.workers.now in
    let before = c.loop-place.workers in
    let now = c.turn_at.new.workers in
    let place = c.loop-place.place in
    let its = c.in_ok-its_idle.its_idle in
    let invariant = c.loop-place.invariant in
    let turned = c.in_ok-its_idle.ensures in
    let idle_is : c.if-idle.idle ≡ (c.loop-place.idle && its) =
    elim c.if-idle.branch [
      | then-idle w ↦ w.idle-is ∙ ap (λ t. t && its) (sym w.if-idle.true)
      | else-idle w ↦ w.idle-is ∙ w.if-idle.false ∙ ap (λ t. t && its) (sym w.if-idle.false)
    ]
    in
    let others = turned.others in
    let long = length-map before (steady_of g.O.Tx.key g.O.Tx.number g.O.Tx.sent g.G.GossipRx.key g.G.GossipRx.got) in
    let long_now = length-map now (steady_of g.O.Tx.key g.O.Tx.number g.O.Tx.sent g.G.GossipRx.key g.G.GossipRx.got) in
    let within : place < length (all_steady g before) = omega (arith, long) in
    let was = there_is (all_steady g before) place within in
    let is = there_is (all_steady g now) place (omega (arith, within, long, long_now, turned.gone_on.long)) in
    subst (λ idle. AreTurned g (place + 1) idle first now) (sym idle_is) (record {
      gone_on = all_through first before now invariant.gone_on turned.gone_on;
      unturned = unturned_less (all_steady g before) (all_steady g now) place others (all_steady g first) invariant.unturned;
      done = λ idle.
          let both = and_parts c.loop-place.idle its idle in
          done_more g.O.Tx.key g.O.Tx.number g.O.Tx.sent g.G.GossipRx.key g.G.GossipRx.got g.Q.Rx.keeps (box_of g.Q.Rx.received g.Q.Rx.answers g.Q.Rx.about) before now place
          turned.gone_on.long others (invariant.done both.0) (turned.idle both.1);
      rested = λ finds.
          rested_more (all_steady g before) (all_steady g now) place others (its_left g) (invariant.rested finds) (turned.rests (places_stay first before invariant.gone_on finds));
      farther = λ finds none.
          let find = places_stay first before invariant.gone_on finds in
          let none_left = first_left (all_steady g before) (all_steady g now) place others (all_steady g first) invariant.unturned (its_left g) was.0 none was.1 in
          farther_more (all_steady g before) (all_steady g now) place others (omega (arith, long, long_now, turned.gone_on.long)) was.0 is.0 was.1 is.1
          (turned.owes was.0 is.0 was.1 is.1 none_left) (turned.hears find.frees) (told_to_mates g before (ready_stays first before invariant.gone_on c.requires.ready).are_mates)
          c.loop-place.idle its (all_steady g first) (λ busy. turned.busy find busy was.0 is.0 was.1 is.1 none_left) (invariant.farther finds none);
      never_full = λ full. and_from c.loop-place.idle its (invariant.never_full full) (turned.never_full full);
    })

pub returns-clause-done : goal.returns-clause-done
returns-clause-done g c = λ idle place its there. c.loop-place.invariant.done idle place its (let within = slice_get_within c.loop-place.workers place its there in omega (arith, within)) there

pub returns-clause-rests : goal.returns-clause-rests
returns-clause-rests g c = λ finds place its there.
    let within = slice_get_within (all_steady g c.loop-place.workers) place its there in
    let many = length-map c.loop-place.workers (steady_of g.O.Tx.key g.O.Tx.number g.O.Tx.sent g.G.GossipRx.key g.G.GossipRx.got) in
    c.loop-place.invariant.rested finds place its (omega (arith, within, many)) there

pub returns-clause-fell : goal.returns-clause-fell
returns-clause-fell g c = λ finds none.
    let many = length-map c.loop-place.workers (steady_of g.O.Tx.key g.O.Tx.number g.O.Tx.sent g.G.GossipRx.key g.G.GossipRx.got) in
    farther_all c.loop-place.place c.loop-place.idle (all_steady g c.args.workers.now) (all_steady g c.loop-place.workers) (omega (arith, many)) (c.loop-place.invariant.farther finds none)
