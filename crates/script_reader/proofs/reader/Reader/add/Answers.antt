use Rattle.script_reader.proofs.CommandLemmas.{has_added}
use Rattle.script_reader.proofs.reader.Reader.add.Goals as goal

pub returns : goal.returns
returns c = has_added c.args.self.now c.in-Some.sessions c.add.new.self c.args.line c.requires.kept c.in-Some.is c.in_ok-add.ensures
