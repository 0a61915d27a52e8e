use Rattle.std.proofs.Common.{ap, ◌∙◌}
use Rattle.lattice_laws.specs.Entries.{plain_entries}
use Rattle.lattice_laws.proofs.EntriesLemmas.{join_of_covered}
use Rattle.lattice_laws.proofs.entries.join_shared.Goals as goal

pub returns-in_ok-all-clause-joined : goal.returns-in_ok-all-clause-joined
returns-in_ok-all-clause-joined g c =
    ap (plain_entries g.L.Lattice.plain) c.in_ok-all.ensures
    ∙ join_of_covered g.met.K.Ord.total g.met.K.MapKey.exact g.K.MapKey.is_key g.met.L.Lattice.laws g.met.L.AllFit.all_fit g.L.Lattice.plain
    c.args.mine.now c.args.theirs.now c.as_slice-of_mine.result.now c.as_slice-of_theirs.result.now c.as_slice-of_mine.ensures c.as_slice-of_theirs.ensures c.requires.mine c.requires.theirs
    c.attest_entries.ensures c.attest_entries-2.ensures (c.at_most_entries.ensures.0 c.if-at_most_entries.true)
