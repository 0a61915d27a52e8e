use Rattle.std.proofs.Common.{rules, sym, ◌∙◌}
use Rattle.std.proofs.lemmas.Fn.{always_returns_same}
use Rattle.lattice_laws.proofs.Search.{found_place, found_gap, ascending_plain}
use Rattle.lattice_laws.proofs.entries.place_of.Goals as goal

-- the closure compares an entry's key with the key
pub returns-clause-found : goal.returns-clause-found
returns-clause-found g c =
    let facts = c.binary_search_by.ensures in
    let by_key = facts.position (λ entry. g.K.Ord.cmp entry.0 c.args.key.now) (always_returns_same _ _ _ (λ a r f called. search rules)) in
    found_place g.K.Ord.cmp g.met.K.Ord.total c.args.key.now c.args.entries.now _ facts.bound by_key

pub returns-clause-absent : goal.returns-clause-absent
returns-clause-absent g c =
    let facts = c.binary_search_by.ensures in
    let by_key = facts.position (λ entry. g.K.Ord.cmp entry.0 c.args.key.now) (always_returns_same _ _ _ (λ a r f called. search rules)) in
    let rises = sym (ascending_plain g.K.Ord.cmp g.L.Lattice.plain c.args.entries.now) ∙ c.requires in
    found_gap g.K.Ord.cmp g.met.K.Ord.total c.args.key.now c.args.entries.now _ rises facts.bound by_key
