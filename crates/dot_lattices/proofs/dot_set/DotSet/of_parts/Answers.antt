use Rattle.std.proofs.Common.{sym, ◌∙◌, ◌≡◌, false}
use Rattle.std.proofs.lemmas.Bool.{not_from_false}
use Rattle.std.specs.Prelude.{not}
use Rattle.lattice_laws.specs.Entries.{plain_entries}
use Rattle.dot_lattices.specs.DotSet.{is_seen}
use Rattle.dot_lattices.proofs.DotSetLemmas.{all_yet}
use Rattle.dot_lattices.proofs.dot_set.DotSet.of_parts.Goals as goal

pub loop-i-preserved : goal.loop-i-preserved
loop-i-preserved c =
    let removals = plain_entries (λ clock. clock) c.args.removals in
    let unseen : is_seen removals c.in-Some.insert.now ≡ false = sym c.had_seen.ensures ∙ c.if-had_seen.false in
    all_yet (λ insert. not (is_seen removals insert)) c.args.inserts c.loop-i.i c.in-Some.insert.now c.in-Some.ensures c.loop-i.invariant (not_from_false (is_seen removals c.in-Some.insert.now) unseen)
