use Rattle.std.proofs.Common.{rules, ◌≡◌, ◌-◌, [], ◌∷◌, ◌++◌, length, slice_index_or, slice_set, sym, ap, subst, ◌∙◌, arith}
use Rattle.std.proofs.lemmas.List.{get_or_default}
use Rattle.clock_lattice.specs.Needs.{IsNeeds, joined_needs, one_need}
use Rattle.placement.specs.Config.{IsOneOf}
use Rattle.anna_check.specs.ClocksSeen.{AreJoined}
use Rattle.anna_check.proofs.ClocksSeenLemmas.{joined_more}
use Rattle.anna_check.proofs.clocks_seen.ClocksSeen.note.Goals as goal

pub returns : goal.returns
returns c workers earlier line answer from before =
    let had = c.self.inside.by_worker.items in
    let one = one_need c.args.key c.args.clock.now in
    let index : c.from.result ≡ c.args.worker = search rules in
    let some : IsOneOf (length had) c.args.worker = subst (λ had. IsOneOf (length had) c.args.worker) (sym c.self.view_is) c.requires in
    let was : c.index_mut-had.result.now ≡ slice_index_or had (c.args.worker - 1) [] = c.index_mut-had.ensures.value ∙ ap (λ n. slice_index_or had (n - 1) c.index_mut-had.result.now) index ∙ get_or_default had (c.args.worker - 1) c.index_mut-had.result.now [] (omega (arith, some)) in
    let new : c.raise.new.self ≡ joined_needs (slice_index_or had (c.args.worker - 1) []) one = c.in_ok-raise.ensures.ok ∙ ap (λ old. joined_needs old one) was in
    subst (AreJoined workers (earlier ++ (line, answer) ∷ [])) (sym (ap (λ n. slice_set had (n - 1) c.raise.new.self) index ∙ ap (slice_set had (c.args.worker - 1)) new))
    (joined_more workers earlier line answer had c.args.key c.args.worker c.args.clock.now some c.ranges.key.fits c.attest.ensures (subst IsNeeds was c.attest-2.ensures) from (subst (AreJoined workers earlier) (sym c.self.view_is) before))
