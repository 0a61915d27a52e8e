use Rattle.std.proofs.Common.{Result, Ok, Err, OnOk, OnErr, sym, ap, subst, ◌∙◌}
use Rattle.std.specs.FinMap.{is_sorted}
use Rattle.std.proofs.lemmas.Result.{on_ok_weaker, on_err_weaker}
use Rattle.lattice_laws.specs.Ascending.{raised_ascending}
use Rattle.lattice_laws.specs.Entries.{plain_entries}
use Rattle.lattice_laws.specs.Places.{IsPlaceOf, IsGapFor}
use Rattle.lattice_laws.proofs.Search.{raised_at_place, raised_in_gap, plain_after_same, ascending_plain}
use Rattle.lattice_laws.proofs.entries.raise_entry.Goals as goal

-- what follows from what an answer says, whichever it is
in_either_case : {T E P Q G : Type 0} (r : Result T E) → OnOk r P → OnErr r Q → (P → G) → (Q → G) → G
in_either_case (Ok value) p q from_p from_q = from_p p
in_either_case (Err error) p q from_p from_q = from_q q

-- the key was there, and what stood there was joined
pub returns-in-Ok-clause-ok : goal.returns-in-Ok-clause-ok
returns-in-Ok-clause-ok g c =
    let plain = g.L.Lattice.plain in
    let items = c.args.entries.now.items in
    let rises = sym (ascending_plain g.K.Ord.cmp plain items) ∙ c.requires in
    let place = subst (λ es. IsPlaceOf g.K.Ord.cmp c.args.key es c.in-Ok.at) c.deref.ensures.value c.in-Ok.ensures.found in
    let stood = c.index_mut.ensures.value in
    on_ok_weaker c.join.result
    (λ is_join. raised_at_place g.K.Ord.cmp plain g.met.K.Ord.total g.L.Lattice.joined c.args.key (plain c.args.value) items c.in-Ok.at c.index_mut.result.now (c.index_mut.result.now.0, c.join.new.self) rises place
    (ap (λ x. x.0) stood) (is_join ∙ ap (λ x. g.L.Lattice.joined (plain x.1) (plain c.args.value)) stood))
    c.join.ensures.ok

pub returns-in-Ok-clause-err : goal.returns-in-Ok-clause-err
returns-in-Ok-clause-err g c =
    let plain = g.L.Lattice.plain in
    let place = subst (λ es. IsPlaceOf g.K.Ord.cmp c.args.key es c.in-Ok.at) c.deref.ensures.value c.in-Ok.ensures.found in
    let stood = c.index_mut.ensures.value in
    on_err_weaker c.join.result
    (λ same. plain_after_same g.K.Ord.cmp plain c.args.entries.now.items c.in-Ok.at c.index_mut.result.now (c.index_mut.result.now.0, c.join.new.self) place.in_range
    (ap (λ x. x.0) stood) (same ∙ ap (λ x. plain x.1) stood))
    c.join.ensures.err

pub returns-in-Ok-clause-ascending : goal.returns-in-Ok-clause-ascending
returns-in-Ok-clause-ascending g c =
    let plain = g.L.Lattice.plain in
    let before = plain_entries plain c.args.entries.now.items in
    let still = raised_ascending g.K.Ord.cmp g.met.K.Ord.total g.L.Lattice.joined c.args.key (plain c.args.value) before c.requires in
    in_either_case c.join.result (returns-in-Ok-clause-ok g c) (returns-in-Ok-clause-err g c)
    (λ is_raised. ap (is_sorted g.K.Ord.cmp) is_raised ∙ still) (λ same. ap (is_sorted g.K.Ord.cmp) same ∙ c.requires)

-- the key was put into its gap
pub returns-in_ok-insert-in-Err-clause-ok : goal.returns-in_ok-insert-in-Err-clause-ok
returns-in_ok-insert-in-Err-clause-ok g c =
    let plain = g.L.Lattice.plain in
    let gap = subst (λ es. IsGapFor g.K.Ord.cmp c.args.key es c.in-Err.at) c.deref.ensures.value c.in-Err.ensures.absent in
    ap (plain_entries plain) c.in_ok-insert-in-Err.ensures.items
    ∙ raised_in_gap g.K.Ord.cmp plain g.L.Lattice.joined c.args.key c.args.value c.args.entries.now.items c.in-Err.at gap

pub returns-in_ok-insert-in-Err-clause-ascending : goal.returns-in_ok-insert-in-Err-clause-ascending
returns-in_ok-insert-in-Err-clause-ascending g c =
    let before = plain_entries g.L.Lattice.plain c.args.entries.now.items in
    ap (is_sorted g.K.Ord.cmp) (returns-in_ok-insert-in-Err-clause-ok g c)
    ∙ raised_ascending g.K.Ord.cmp g.met.K.Ord.total g.L.Lattice.joined c.args.key (g.L.Lattice.plain c.args.value) before c.requires
