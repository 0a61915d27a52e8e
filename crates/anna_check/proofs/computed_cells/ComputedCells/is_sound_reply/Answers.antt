use Rattle.std.proofs.Common.{sym, ◌∙◌}
use Rattle.composed_value.specs.Sound.{is_counted}
use Rattle.anna_check.proofs.CountedLemmas.{kind_of_passing}
use Rattle.anna_check.proofs.SoundLemmas.{reply_counted}
use Rattle.anna_check.proofs.ComputedCellsLemmas.{read_back, counted_of_their_puts}
use Rattle.anna_check.proofs.computed_cells.ComputedCells.is_sound_reply.Goals as goal

pub is_cell_shown-requires : goal.is_cell_shown-requires
is_cell_shown-requires c =
    let cell = read_back c.args.self.now c.count.new.self c.args.key c.args.worker _ c.cell.result.now c.requires.key c.requires.worker c.in_ok-count.ensures.ok c.cell.ensures in
    kind_of_passing c.args.kind (is_counted c.args.shown.now.clock) c.args.puts.now c.cell.result.now c.requires.puts cell ∙ sym c.requires.value

pub returns-clause-sound : goal.returns-clause-sound
returns-clause-sound c kinds accepted kind_is puts_are numbered =
    let cell = read_back c.args.self.now c.count.new.self c.args.key c.args.worker _ c.cell.result.now c.requires.key c.requires.worker c.in_ok-count.ensures.ok c.cell.ensures in
    let shown = reply_counted kinds accepted c.args.key c.args.shown.now c.args.kind c.args.puts.now c.cell.result.now kind_is puts_are numbered c.requires.puts c.requires.clock c.requires.needs cell in
    (λ is. shown.0 (c.is_cell_shown.ensures.0 is), λ sound. c.is_cell_shown.ensures.1 (shown.1 sound))

pub returns-clause-cells : goal.returns-clause-cells
returns-clause-cells c kinds workers accepted =
    counted_of_their_puts kinds workers accepted c.args.self.now c.count.new.self c.args.key c.args.worker c.args.kind c.args.puts.now c.args.shown.now.clock c.requires.key c.requires.worker c.requires.puts c.in_ok-count.ensures.ok
