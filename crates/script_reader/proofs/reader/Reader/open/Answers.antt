use Rattle.script_reader.proofs.DeclaredLemmas.{opened_first}
use Rattle.script_reader.proofs.reader.Reader.open.Goals as goal

pub returns-in_ok-build-in-None : goal.returns-in_ok-build-in-None
returns-in_ok-build-in-None c =
    opened_first c.args.self.now c.args.plan c.in_ok-build-in-None.field-0 c.new.result c.requires.kept c.requires.workers c.requires.empty c.in-None.is c.in_ok-build-in-None.ensures.placed c.new.ensures.items
