use Rattle.std.proofs.Common.{ap, ◌∙◌}
use Rattle.script_reader.proofs.LineLemmas.{place_among}
use Rattle.script_reader.specs.Said.{place_of}
use Rattle.script_reader.proofs.names.Names.place_of.Goals as goal

pub returns : goal.returns
returns c = c.get_index_of.ensures.index ∙ place_among c.args.name.now _ ∙ ap (λ names. place_of names c.args.name.now) c.self.view_is
