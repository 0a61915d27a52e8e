use Rattle.std.proofs.Common.{sym, ap, ◌∙◌}
use Rattle.std.specs.Ordering.{is_lt}
use Rattle.lattice_laws.proofs.Pushing.{last_decides}
use Rattle.lattice_laws.proofs.entries.comes_last.Goals as goal

-- the last key is compared with the key
pub returns-in-Some : goal.returns-in-Some
returns-in-Some g c value =
    c.is_lt.ensures ∙ ap is_lt c.cmp.ensures
    ∙ sym (last_decides g.K.Ord.cmp g.L.Lattice.plain g.met.K.Ord.total c.args.entries.now c.in-Some.last.now c.args.key.now value (sym c.in-Some.ensures.value) c.requires)
