use Rattle.std.proofs.Common.{◌-◌, sym, arith}
use Rattle.merge_world.proofs.AscendingLemmas.{ascending_all, not_ascending}
use Rattle.merge_world.proofs.world.is_ascending.Goals as goal

pub returns-then-keys-i : goal.returns-then-keys-i
returns-then-keys-i c = sym (not_ascending c.args.keys.now c.loop-i.i (c.loop-i.i - 1) (omega (arith, c.loop-i.auto.i)) c.loop-i-test.true c.if-keys-i.true)

pub returns : goal.returns
returns c = sym (ascending_all c.args.keys.now (λ k low. c.loop-i.invariant k (omega (arith, low, c.loop-i-test.false))))
