use Rattle.script_reader.proofs.CommandLemmas.{header_read}
use Rattle.script_reader.proofs.reader.Reader.take_header.Goals as goal

pub returns : goal.returns
returns c = header_read c.args.self.now c.args.version.now c.version_of-self.result c.requires.kept c.requires.stands c.version_of-self.ensures
