use Rattle.std.proofs.Common.{◌∙◌, ◌+◌, ◌<◌, arith, length, refl, subst, sym}
use Rattle.std.proofs.lemmas.List.{length-map}
use Rattle.std.proofs.lemmas.Option.{slice_get_within}
use Rattle.party_turns.specs.Mates.{steady_of}
use Rattle.party_turns.proofs.GoingOnLemmas.{all_stay, all_through}
use Rattle.drain_turns.proofs.PassesGoingOn.{ready_stays}
use Rattle.party_turns.proofs.ShownLemmas.{knows_more, pair_goes_on}
use Rattle.drain_turns.proofs.passes.show_to_all.Goals as goal
use Rattle.drain_turns.proofs.passes.show_to_all.Goals.{else-other-place, then-other-place}
use Rattle.drain_turns.proofs.passes.show_to_all.Invariants.{IsShownTo}

pub loop-other-init : goal.loop-other-init
loop-other-init g c = record { gone_on = all_stay c.args.workers.now; steady = refl; knows = λ other now mate below. absurd (omega (arith, below)) }

pub show_pair-requires-clause-mates : goal.show_pair-requires-clause-mates
show_pair-requires-clause-mates g c = (ready_stays c.args.workers.now c.loop-other.workers c.loop-other.invariant.gone_on c.requires.ready).are_mates

pub loop-other-preserved : goal.loop-other-preserved
loop-other-preserved g c =
    let before = c.loop-other.workers in
    let invariant = c.loop-other.invariant in
    elim c.if-other-place.branch [
      | then-other-place w ↦
          let within : c.args.place < length before = omega arith in
          let its_within : c.loop-other.other < length before = omega arith in
          let shown = w.show_pair.ensures.shown in
          subst (IsShownTo g c.args.place (c.loop-other.other + 1) c.args.workers.now) (sym w.workers-is) (record {
            gone_on = all_through c.args.workers.now before w.show_pair.new.workers invariant.gone_on (pair_goes_on shown within its_within w.if-other-place.true);
            steady = shown.steady ∙ invariant.steady;
            knows = knows_more shown within its_within w.if-other-place.true invariant.knows;
          })
      | else-other-place w ↦
          subst (IsShownTo g c.args.place (c.loop-other.other + 1) c.args.workers.now) (sym w.workers-is) (record {
            gone_on = invariant.gone_on;
            steady = invariant.steady;
            knows = λ other is mate below apart there its_there.
                invariant.knows other is mate (let here = w.if-other-place.false in omega (arith, below, apart, here)) apart there its_there;
          })
    ]

pub returns-clause-knows : goal.returns-clause-knows
returns-clause-knows g c = λ other now mate apart there its_there.
    let within = slice_get_within _ other mate its_there in
    let many = length-map c.loop-other.workers (steady_of g.O.Tx.key g.O.Tx.number g.O.Tx.sent g.G.GossipRx.key g.G.GossipRx.got) in
    c.loop-other.invariant.knows other now mate (omega (arith, within, many)) apart there its_there
