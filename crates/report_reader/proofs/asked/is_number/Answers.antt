use Rattle.std.proofs.Common.{◌<◌, ◌^◌}
use Rattle.std.specs.Fmt.{decimal}
use Rattle.std.proofs.lemmas.Fmt.{decimal_injective}
use Rattle.report_reader.proofs.ReadCellLines.{number_read}
use Rattle.report_reader.proofs.asked.is_number.Goals as goal

pub returns : goal.returns
returns c = number_read (λ n. n < 2 ^ 64) decimal c.args.word.now c.args.number c.read_number.result c.eq.result c.ranges.number.fits (λ m fits same. decimal_injective m c.args.number fits c.ranges.number.fits same) c.read_number.ensures c.eq.ensures
