use Rattle.std.proofs.Common.{codes, sym, ap, arith, rules}
use Rattle.std.proofs.lemmas.Slice.Eq.{text_from_reads}
use Rattle.script_reader.specs.Keywords.{keyword_of}
use Rattle.script_reader.proofs.keyword.Keyword.of.Goals as goal

pub returns-in-factor : goal.returns-in-factor
returns-in-factor c = sym (ap keyword_of (text_from_reads c.args.word.now (codes "factor") (omega arith) (search rules)))

pub returns-in-commit : goal.returns-in-commit
returns-in-commit c = sym (ap keyword_of (text_from_reads c.args.word.now (codes "commit") (omega arith) (search rules)))

pub returns-in-workers : goal.returns-in-workers
returns-in-workers c = sym (ap keyword_of (text_from_reads c.args.word.now (codes "workers") (omega arith) (search rules)))

pub returns-in-session : goal.returns-in-session
returns-in-session c = sym (ap keyword_of (text_from_reads c.args.word.now (codes "session") (omega arith) (search rules)))
