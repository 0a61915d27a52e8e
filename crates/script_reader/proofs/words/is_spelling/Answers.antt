use Rattle.std.proofs.Common.{◌∙◌}
use Rattle.script_reader.proofs.WordLemmas.{spelling_tested}
use Rattle.script_reader.proofs.words.is_spelling.Goals as goal

pub returns : goal.returns
returns c = c.is_ok.ensures.value ∙ spelling_tested c.args.most c.args.word.now c.test_spelling.result c.test_spelling.ensures
