use Rattle.std.proofs.Common.{◌≡◌, sym, ap, ◌∙◌}
use Rattle.std.specs.List.{list_all}
use Rattle.dot_lattices.specs.DotSet.{joined_removals}
use Rattle.dot_lattices.proofs.DotSetLemmas.{adds_nothing, is_known}
use Rattle.dot_lattices.proofs.dot_set.DotSetLattice.at_most.Goals as goal

pub returns-then-at_most : goal.returns-then-at_most
returns-then-at_most c =
    let a = c.args.self.now in
    let b = c.args.other.now in
    let mine = ap (λ set. set.removals) c.self.view_is in
    let theirs = ap (λ set. set.removals) c.other.view_is in
    let removals : joined_removals a.removals b.removals ≡ b.removals = (λ j. joined_removals (sym mine j) (sym theirs j)) ∙ c.at_most.ensures.0 c.if-at_most.true ∙ theirs in
    let known = c.are_known.ensures ∙ ap (λ set. list_all (is_known b) set.inserts) c.self.view_is in
    let nothing = adds_nothing a b c.attest.ensures c.attest-2.ensures removals in
    (λ yes. nothing.0 (sym known ∙ yes), λ same. known ∙ nothing.1 same)
