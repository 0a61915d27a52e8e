use Rattle.std.proofs.Common.{Ok, sym}
use Rattle.script_reader.proofs.WordLemmas.{spelling_tested, no_name}
use Rattle.script_reader.proofs.reader.declared.read_name.Goals as goal

pub returns-in-Ok : goal.returns-in-Ok
returns-in-Ok c = (c.in-Ok.ensures.0, sym (spelling_tested 32 c.args.word.now (Ok tt) c.in-Ok.ensures.1))

pub returns-in-Err : goal.returns-in-Err
returns-in-Err c = no_name c.args.word.now c.in-Err.field-0 c.in-Err.ensures
