use Rattle.std.proofs.Common.{map}
use Rattle.script_reader.specs.Grammar.{sessions_named}
use Rattle.script_reader.proofs.GrammarLemmas.{HasReadLines}
use Rattle.script_reader.proofs.grammar.read_lines.Given as goal

abbrev pub invariant-loop-i : goal.invariant-loop-i
invariant-loop-i l = HasReadLines (sessions_named (map (λ line. line.now) l.lines)) (map (λ line. line.now) l.lines) l.i l.reader l.ended
