use Rattle.std.proofs.Common.{◌≡◌, false, map, take}
use Rattle.script_reader.specs.Lines.{statements_of, has_end}
use Rattle.script_reader.specs.Said.{named_in}
use Rattle.script_reader.proofs.grammar.session_names.Given as goal

abbrev pub invariant-loop-line : goal.invariant-loop-line
invariant-loop-line l = record {
  named : l.names ≡ named_in (statements_of (take l.line-index (map (λ line. line.now) l.lines)));
  no_end : has_end (take l.line-index (map (λ line. line.now) l.lines)) ≡ false;
}
