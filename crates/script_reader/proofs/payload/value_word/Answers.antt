use Rattle.std.proofs.Common.{◌∙◌}
use Rattle.script_reader.proofs.WordLemmas.{word_told}
use Rattle.script_reader.proofs.payload.value_word.Goals as goal

pub returns : goal.returns
returns c = c.ok.ensures.value ∙ word_told c.args.bytes.now c.of.result c.of.ensures
