use Rattle.std.proofs.Common.{sym, ap, ◌∙◌}
use Rattle.std.proofs.lemmas.Result.{on_ok_weaker}
use Rattle.clock_lattice.specs.Clock.{covers}
use Rattle.composed_value.specs.Sound.{is_counted}
use Rattle.anna_check.specs.Counted.{is_newly_counted}
use Rattle.anna_check.proofs.CountedLemmas.{counted_on, counted_from_none, kind_of_passing}
use Rattle.anna_check.proofs.cells.count.Goals as goal

pub join-requires : goal.join-requires
join-requires c =
    kind_of_passing c.args.kind (is_counted c.args.cell.now.clock) c.args.puts.now c.args.cell.now c.requires.puts c.requires.cell
    ∙ sym (kind_of_passing c.args.kind (is_newly_counted c.clock-then-covers.result.now c.args.clock.now) c.args.puts.now c.in_ok-added.added c.requires.puts c.in_ok-added.ensures)

pub returns-in_ok-added-clause-ok : goal.returns-in_ok-added-clause-ok
returns-in_ok-added-clause-ok c =
    let is = ap (covers c.args.clock.now) (sym c.clock-2.ensures) ∙ sym c.covers.ensures ∙ c.if-covers.true in
    on_ok_weaker c.join.result
    (λ joined. joined ∙ counted_on c.args.kind c.args.puts.now c.args.clock.now c.clock-then-covers.result.now c.args.cell.now c.in_ok-added.added c.requires.puts c.requires.cell c.clock-then-covers.ensures is c.in_ok-added.ensures)
    c.join.ensures.ok

pub returns-in_ok-cell-clause-ok : goal.returns-in_ok-cell-clause-ok
returns-in_ok-cell-clause-ok c = counted_from_none c.args.kind c.args.puts.now c.args.clock.now c.new.result c.in_ok-cell.field-0 c.requires.puts c.new.ensures c.in_ok-cell.ensures
