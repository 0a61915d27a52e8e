use Rattle.std.proofs.Common.{sym, ◌∙◌}
use Rattle.lattice_laws.proofs.EntriesLemmas.{plain_itself}
use Rattle.dot_lattices.proofs.dot_sums.DotSums.is_empty.Goals as goal

pub returns : goal.returns
returns c =
    let same = sym (plain_itself c.self.inside.sums) ∙ c.self.view_is in
    (λ yes. sym same ∙ c.is_empty.ensures.0 yes, λ none. c.is_empty.ensures.1 (same ∙ none))
