use Rattle.anna_run.proofs.RunLemmas.{run_of}
use Rattle.anna_run.proofs.run.run_given.Goals as goal

pub returns-in-Ok : goal.returns-in-Ok
returns-in-Ok g c = rw c.in-Ok.is (run_of _ _ _ _ _ _ c.deref.ensures.value (record {
  ends = c.run.ensures.ends;
  bounded = c.run.ensures.bounded;
  untouched = c.run.ensures.untouched;
  complete = c.run.ensures.complete;
  works = c.run.ensures.works;
  judges = c.run.ensures.judges;
  counts = c.run.ensures.counts;
}))
