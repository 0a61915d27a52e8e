use Rattle.std.proofs.Common.{codes, sym, ap, arith, rules}
use Rattle.std.proofs.lemmas.Slice.Eq.{text_from_reads}
use Rattle.script_reader.specs.Words.{kind_said}
use Rattle.script_reader.proofs.words.kind.Goals as goal

pub returns-in-versions : goal.returns-in-versions
returns-in-versions c = sym (ap kind_said (text_from_reads c.args.word.now (codes "versions") (omega arith) (search rules)))

pub returns-in-counter : goal.returns-in-counter
returns-in-counter c = sym (ap kind_said (text_from_reads c.args.word.now (codes "counter") (omega arith) (search rules)))
