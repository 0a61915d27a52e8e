use Rattle.std.specs.Prelude.{All}
use Rattle.std.proofs.Common.{subst}
use Rattle.std.proofs.lemmas.List.{take_all}
use Rattle.std.proofs.lemmas.List.Elements.{All-more, All-map}
use Rattle.lattice_laws.specs.Entries.{IsEntry}
use Rattle.lattice_laws.proofs.entries.attest_entries.Goals as goal

pub loop-entry-preserved : goal.loop-entry-preserved
loop-entry-preserved g c =
    let good : g.row.K.Denot × g.row.L.Denot → Type 0 = λ entry. IsEntry g.K.MapKey.is_key g.L.Lattice.is_value (entry.0, g.L.Lattice.plain entry.1) in
    All-more good c.args.entries.now c.loop-entry.entry-index c.entry-item.result c.loop-entry-test.true c.loop-entry.invariant (subst good c.entry-item.is (c.attest.ensures, c.attest-in-loop-entry.ensures))

pub returns : goal.returns
returns g c =
    let good : g.row.K.Denot × g.row.L.Denot → Type 0 = λ entry. IsEntry g.K.MapKey.is_key g.L.Lattice.is_value (entry.0, g.L.Lattice.plain entry.1) in
    All-map (IsEntry g.K.MapKey.is_key g.L.Lattice.is_value) (λ entry. (entry.0, g.L.Lattice.plain entry.1)) c.args.entries.now
    (subst (All good) (take_all c.loop-entry.entry-index c.args.entries.now c.loop-entry-test.false) c.loop-entry.invariant)
