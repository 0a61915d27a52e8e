use Rattle.std.proofs.Common.{sym, ap, subst, ◌∙◌, List, map, replicate, arith}
use Rattle.std.proofs.lemmas.List.{take_all}
use Rattle.composed_value.specs.Cell.{PlainCell, empty_cell}
use Rattle.composed_value.specs.declared.kind.Kind.{Kind}
use Rattle.anna_check.specs.Counted.{AreOfTheirPuts}
use Rattle.anna_check.proofs.ComputedCellsLemmas.{numbers_some, empty_of_their_puts}
use Rattle.anna_check.proofs.computed_cells.ComputedCells.new.Goals as goal

pub returns : goal.returns
returns c =
    let row : Kind → List PlainCell = λ kind. replicate c.args.workers (empty_cell kind) in
    let empty = c.loop-kind.invariant ∙ ap (map row) (take_all c.loop-kind.kind-index c.args.kinds.now (omega arith)) in
    record {
      empty = empty;
      of_their_puts = λ accepted numbered.
          subst (AreOfTheirPuts c.args.kinds.now c.args.workers accepted) (sym empty)
          (empty_of_their_puts c.args.kinds.now c.args.workers accepted (λ key. numbers_some accepted key (λ session. numbered session key)));
    }
