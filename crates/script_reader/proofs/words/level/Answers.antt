use Rattle.std.proofs.Common.{codes, sym, ap, arith, rules}
use Rattle.std.proofs.lemmas.Slice.Eq.{text_from_reads}
use Rattle.script_reader.specs.Words.{level_said}
use Rattle.script_reader.proofs.words.level.Goals as goal

pub returns-in-eventual : goal.returns-in-eventual
returns-in-eventual c = sym (ap level_said (text_from_reads c.args.word.now (codes "eventual") (omega arith) (search rules)))

pub returns-in-committed : goal.returns-in-committed
returns-in-committed c = sym (ap level_said (text_from_reads c.args.word.now (codes "committed") (omega arith) (search rules)))

pub returns-in-causal : goal.returns-in-causal
returns-in-causal c = sym (ap level_said (text_from_reads c.args.word.now (codes "causal") (omega arith) (search rules)))
