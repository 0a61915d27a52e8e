use Rattle.std.proofs.Common.{sym, ap, ◌∙◌, ◌≡◌, ◌||◌, true, false}
use Rattle.std.proofs.lemmas.Bool.{or_left, or_right}
use Rattle.lattice_laws.specs.Sets.{has}
use Rattle.dot_lattices.specs.DotSet.{is_seen}
use Rattle.dot_lattices.specs.Insert.{insert_cmp}
use Rattle.dot_lattices.proofs.DotSetLemmas.{is_known, all_yet, not_all}
use Rattle.dot_lattices.proofs.dot_set.are_known.Goals.{else-not-has-via-then-not-has+else-not-had_seen, else-not-has-via-else-not-has}
use Rattle.dot_lattices.proofs.dot_set.are_known.Goals as goal

pub returns-then-not-had_seen : goal.returns-then-not-had_seen
returns-then-not-had_seen c =
    let set = c.args.set.now in
    let insert = c.in-Some.insert.now in
    let not_has : has insert_cmp insert set.inserts ≡ false = ap (λ set. has insert_cmp insert set.inserts) (sym c.set.view_is) ∙ sym c.has.ensures ∙ c.if-not-has.true in
    let not_seen : is_seen set.removals insert ≡ false = ap (λ set. is_seen set.removals insert) (sym c.set.view_is) ∙ sym c.had_seen.ensures ∙ c.if-not-had_seen.true in
    not_all (is_known set) c.args.inserts.now c.loop-i.i insert c.in-Some.ensures (λ j. not_has j || not_seen j)

pub loop-i-preserved : goal.loop-i-preserved
loop-i-preserved c =
    let set = c.args.set.now in
    let insert = c.in-Some.insert.now in
    let known : is_known set insert ≡ true = elim c.else-not-has.branch [
      | else-not-has-via-then-not-has+else-not-had_seen w ↦ or_right (has insert_cmp insert set.inserts) (is_seen set.removals insert) (ap (λ set. is_seen set.removals insert) (sym c.set.view_is) ∙ sym w.had_seen.ensures ∙ w.if-not-had_seen.false)
      | else-not-has-via-else-not-has w ↦ or_left (has insert_cmp insert set.inserts) (is_seen set.removals insert) (ap (λ set. has insert_cmp insert set.inserts) (sym c.set.view_is) ∙ sym c.has.ensures ∙ w.if-not-has.false)
    ] in
    all_yet (is_known set) c.args.inserts.now c.loop-i.i insert c.in-Some.ensures c.loop-i.invariant known
