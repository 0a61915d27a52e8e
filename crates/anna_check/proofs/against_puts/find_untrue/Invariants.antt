use Rattle.std.proofs.Common.{ℕ, List}
use Rattle.composed_value.specs.declared.kind.Kind.{Kind}
use Rattle.composed_value.specs.declared.put.Put.{Put}
use Rattle.anna_check.specs.AgainstPuts.{StandFor}
use Rattle.anna_check.proofs.TrueLemmas.{AreSessionsTrueSoFar}
use Rattle.anna_check.proofs.against_puts.find_untrue.Given as goal

abbrev pub invariant-loop-i : goal.invariant-loop-i
invariant-loop-i l = record {
  stand : (kinds : List Kind) (workers : ℕ) (puts : List (ℕ × Put)) → StandFor kinds workers puts l.accepted l.fn.cells → StandFor kinds workers puts l.accepted l.cells;
  true_of : (kinds : List Kind) (workers : ℕ) (puts : List (ℕ × Put)) → StandFor kinds workers puts l.accepted l.fn.cells → AreSessionsTrueSoFar kinds puts l.sessions l.answers l.i;
}
