use Rattle.std.proofs.Common.{sym, ◌∙◌}
use Rattle.std.proofs.lemmas.Bool.{false≢true}
use Rattle.composed_value.specs.Sound.{is_counted}
use Rattle.anna_check.proofs.CountedLemmas.{kind_of_passing}
use Rattle.anna_check.proofs.SoundLemmas.{final_counted, final_short}
use Rattle.anna_check.proofs.ComputedCellsLemmas.{read_back, counted_of_their_puts}
use Rattle.anna_check.proofs.computed_cells.ComputedCells.is_lawful_final.Goals as goal

pub returns-then-not-counts_all-clause-lawful : goal.returns-then-not-counts_all-clause-lawful
returns-then-not-counts_all-clause-lawful c kinds accepted kind_is puts_are numbered =
    (λ is. absurd (false≢true is), λ lawful. absurd (final_short kinds accepted c.args.last.now c.args.puts.now puts_are (sym c.counts_all.ensures ∙ c.if-not-counts_all.true) lawful))

pub is_cell_final-requires : goal.is_cell_final-requires
is_cell_final-requires c =
    let cell = read_back c.args.self.now c.count.new.self c.args.last.now.key c.args.last.now.worker _ c.cell.result.now c.requires.key c.requires.worker c.in_ok-count.ensures.ok c.cell.ensures in
    kind_of_passing c.args.kind (is_counted c.args.last.now.clock) c.args.puts.now c.cell.result.now c.requires.puts cell ∙ sym c.requires.value

pub returns-clause-lawful : goal.returns-clause-lawful
returns-clause-lawful c kinds accepted kind_is puts_are numbered =
    let cell = read_back c.args.self.now c.count.new.self c.args.last.now.key c.args.last.now.worker _ c.cell.result.now c.requires.key c.requires.worker c.in_ok-count.ensures.ok c.cell.ensures in
    let counts = sym c.counts_all.ensures ∙ c.if-not-counts_all.false in
    let lawful = final_counted kinds accepted c.args.last.now c.args.kind c.args.puts.now c.cell.result.now kind_is puts_are numbered c.requires.puts c.requires.clock counts cell in
    (λ is. lawful.0 (c.is_cell_final.ensures.0 is), λ is. c.is_cell_final.ensures.1 (lawful.1 is))

pub returns-clause-cells : goal.returns-clause-cells
returns-clause-cells c kinds workers accepted =
    counted_of_their_puts kinds workers accepted c.args.self.now c.count.new.self c.args.last.now.key c.args.last.now.worker c.args.kind c.args.puts.now c.args.last.now.clock c.requires.key c.requires.worker c.requires.puts c.in_ok-count.ensures.ok
