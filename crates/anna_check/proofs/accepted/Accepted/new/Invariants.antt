use Rattle.std.proofs.Common.{◌≡◌, map, take}
use Rattle.anna_check.proofs.ByKeyLemmas.{no_puts}
use Rattle.anna_check.proofs.accepted.Accepted.new.Given as goal

abbrev pub invariant-loop-kind : goal.invariant-loop-kind
invariant-loop-kind l = l.by_key.items ≡ map no_puts (take l.kind-index l.kinds)
