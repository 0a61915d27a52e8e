use Rattle.std.proofs.Common.{ℕ, List}
use Rattle.composed_value.specs.declared.kind.Kind.{Kind}
use Rattle.composed_value.specs.declared.put.Put.{Put}
use Rattle.anna_check.specs.AgainstPuts.{StandFor}
use Rattle.anna_check.proofs.TrueLemmas.{AreTrueSoFar}
use Rattle.anna_check.proofs.against_puts.first_untrue.Given as goal

abbrev pub invariant-loop-i : goal.invariant-loop-i
invariant-loop-i l = record {
  stand : (kinds : List Kind) (workers : ℕ) (puts : List (ℕ × Put)) → StandFor kinds workers puts l.accepted l.fn.cells → StandFor kinds workers puts l.accepted l.cells;
  true_of : (kinds : List Kind) (workers : ℕ) (puts : List (ℕ × Put)) → StandFor kinds workers puts l.accepted l.fn.cells → AreTrueSoFar kinds puts l.lines l.answers l.i;
}
