use Rattle.std.proofs.Common.{◌≡◌, ◌+◌, ◌≤◌, length}
use Rattle.script_reader.specs.Split.{split_place}
use Rattle.script_reader.proofs.split.split_input.Given as goal

-- the place in what is left, after what was passed, is the place in all
abbrev pub invariant-loop-line : goal.invariant-loop-line
invariant-loop-line l = record {
  within : length l.rest ≤ length l.bytes;
  place : length l.bytes + split_place l.rest ≡ length l.rest + split_place l.bytes;
}

abbrev pub decreases-loop-line : goal.decreases-loop-line
decreases-loop-line l = length l.rest
