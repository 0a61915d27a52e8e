use Rattle.std.proofs.Common.{◌≡◌, IsTrue, subst, ◌↔◌}
use Rattle.dot_lattices.specs.DotSums.{joined_sums}
use Rattle.lattice_laws.specs.Entries.{plain_entries}
use Rattle.dot_lattices.proofs.dot_sums.DotSumsLattice.at_most.Goals as goal

pub returns : goal.returns
returns c =
    let yes = c.at_most.result in
    subst (λ mine. IsTrue yes ↔ (joined_sums mine c.args.other.now ≡ c.args.other.now)) c.self.view_is
    (subst (λ theirs. IsTrue yes ↔ (joined_sums (plain_entries (λ amounts. amounts) c.self.inside.sums) theirs ≡ theirs)) c.other.view_is c.at_most.ensures)
