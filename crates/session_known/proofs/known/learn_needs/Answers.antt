use Rattle.std.proofs.Common.{◌≡◌, sym, ap, ◌∙◌, ℕ, List, [], unwrap_or, Bor}
use Rattle.std.specs.Option.{option_map}
use Rattle.clock_lattice.specs.Needs.{IsNeeds, joined_needs, one_need}
use Rattle.clock_lattice.specs.NeedsLaws.{needs_laws, needs_associative}
use Rattle.clock_lattice.proofs.NeedsLemmas.{one_need_is_needs}
use Rattle.clock_lattice.specs.declared.needs.Needs.{Needs}
use Rattle.session_known.proofs.known.learn_needs.Goals as goal

-- which of two needs is joined first does not matter
joined_in_turn : (known needs one : List (ℕ × List (ℕ × ℕ))) → IsNeeds known → IsNeeds needs → IsNeeds one → joined_needs (joined_needs known needs) one ≡ joined_needs (joined_needs known one) needs
joined_in_turn known needs one known_are needs_are one_are =
    needs_associative known needs one known_are needs_are one_are tt tt
    ∙ ap (joined_needs known) (needs_laws.commutative needs one needs_are one_are tt)
    ∙ sym (needs_associative known one needs known_are one_are needs_are tt tt)

pub returns-clause-ok : goal.returns-clause-ok
returns-clause-ok c =
    let known = c.args.known.now in
    let needs = c.in-Some.learned.now in
    let one = one_need c.args.key c.args.clock.now in
    c.in_ok-raise.ensures.ok
    ∙ ap (λ joined. joined_needs joined one) c.in_ok-joined.ensures
    ∙ joined_in_turn known needs one c.attest.ensures c.attest-2.ensures (one_need_is_needs c.args.key c.args.clock.now c.ranges.key.fits c.attest-3.ensures)
    ∙ ap (λ learned. joined_needs (joined_needs known one) (unwrap_or (option_map (λ (needs : Bor Needs). needs.now) learned) [])) (sym c.in-Some.is)
