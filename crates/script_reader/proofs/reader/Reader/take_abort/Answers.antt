use Rattle.std.proofs.Common.{true, [], refl}
use Rattle.std.proofs.lemmas.Result.{err_from_is_err_and}
use Rattle.session_known.specs.declared.script.Line.TheVariants as lines
use Rattle.script_reader.proofs.CommandLemmas.{aborts, bound_fault, bound_faultless, command_read, in_session}
use Rattle.script_reader.specs.Reader.{so_far}
use Rattle.script_reader.specs.declared.keyword.Keyword.TheVariants.{Abort}
use Rattle.script_reader.proofs.reader.Reader.take_abort.Goals as goal

pub returns-in_err-check_boundary : goal.returns-in_err-check_boundary
returns-in_err-check_boundary c =
    let returned = err_from_is_err_and c.from_residual.result c.from_residual.ensures.1 in
    rw (returned.1, returned.2) (bound_fault (so_far c.args.self.now) Abort true c.in_err-check_boundary.field-0.0 aborts c.requires.stands c.in_err-check_boundary.ensures)

pub returns : goal.returns
returns c =
    let faultless = bound_faultless (so_far c.args.self.now) Abort true aborts c.requires.stands c.in_ok-check_boundary.ensures in
    command_read c.args.self.now c.add.new.self c.add.result Abort [] lines.Abort c.requires.kept (in_session _ _ c.requires.stands.word)
    (record { factor = refl; round = refl; script = refl; said = refl; begun = refl; faultless = faultless }) c.add.ensures
