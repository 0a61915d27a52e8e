use Rattle.std.proofs.Common.{sym, ◌∙◌}
use Rattle.lattice_laws.proofs.Search.{find_at_place, find_in_gap, ascending_plain}
use Rattle.lattice_laws.proofs.entries.find_entry.Goals as goal

pub returns-in-Ok : goal.returns-in-Ok
returns-in-Ok g c = sym (find_at_place g.K.Ord.cmp g.L.Lattice.plain g.met.K.Ord.total c.args.key.now c.args.entries.now _ c.index-entries-at.result (sym (ascending_plain g.K.Ord.cmp g.L.Lattice.plain c.args.entries.now) ∙ c.requires) c.in-Ok.ensures.found)

pub returns-in-Err : goal.returns-in-Err
returns-in-Err g c = sym (find_in_gap g.K.Ord.cmp g.L.Lattice.plain c.args.key.now c.args.entries.now _ c.in-Err.ensures.absent)
