use Rattle.tests_worker.proofs.MatesLemmas.{fixed_through, keys_through}
use Rattle.tests_worker.proofs.thread_tests.rest.Goals as goal

pub returns-in-Ok-Idle-clause-fixed : goal.returns-in-Ok-Idle-clause-fixed
returns-in-Ok-Idle-clause-fixed g c = fixed_through c.loop.invariant.fixed c.turn.ensures.fixed

pub returns-in-Ok-Idle-clause-keys : goal.returns-in-Ok-Idle-clause-keys
returns-in-Ok-Idle-clause-keys g c = keys_through c.loop.invariant.keys c.turn.ensures.keys

pub returns-in-Ok-Blocked-clause-fixed : goal.returns-in-Ok-Blocked-clause-fixed
returns-in-Ok-Blocked-clause-fixed g c = fixed_through c.loop.invariant.fixed c.turn.ensures.fixed

pub returns-in-Ok-Blocked-clause-keys : goal.returns-in-Ok-Blocked-clause-keys
returns-in-Ok-Blocked-clause-keys g c = keys_through c.loop.invariant.keys c.turn.ensures.keys

pub returns-in-Err-clause-fixed : goal.returns-in-Err-clause-fixed
returns-in-Err-clause-fixed g c = fixed_through c.loop.invariant.fixed c.turn.ensures.fixed

pub returns-in-Err-clause-keys : goal.returns-in-Err-clause-keys
returns-in-Err-clause-keys g c = keys_through c.loop.invariant.keys c.turn.ensures.keys

pub loop-preserved : goal.loop-preserved
loop-preserved g c = record {
  fixed = fixed_through c.loop.invariant.fixed c.turn.ensures.fixed;
  keys = keys_through c.loop.invariant.keys c.turn.ensures.keys;
}
