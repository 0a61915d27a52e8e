use Rattle.std.proofs.Common.{ℕ, List}
use Rattle.composed_value.specs.declared.kind.Kind.{Kind}
use Rattle.composed_value.specs.declared.put.Put.{Put}
use Rattle.anna_check.specs.AgainstPuts.{StandFor}
use Rattle.anna_check.proofs.TrueLemmas.{AreFinalsLawfulSoFar}
use Rattle.anna_check.proofs.against_puts.find_unlawful_final.Given as goal

abbrev pub invariant-loop-last : goal.invariant-loop-last
invariant-loop-last l = record {
  stand : (kinds : List Kind) (workers : ℕ) (puts : List (ℕ × Put)) → StandFor kinds workers puts l.accepted l.fn.cells → StandFor kinds workers puts l.accepted l.cells;
  lawful : (kinds : List Kind) (workers : ℕ) (puts : List (ℕ × Put)) → StandFor kinds workers puts l.accepted l.fn.cells → AreFinalsLawfulSoFar kinds puts l.finals l.last-index;
}
