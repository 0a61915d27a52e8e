-- While a worker holds a reply for a session, the session took all that were sent before.
use Rattle.std.specs.Prelude.{◌-◌, [], slice_index_or}
use Rattle.std.proofs.Common.{arith}
use Rattle.mail_contract.specs.Takes.{from_sender}
use Rattle.run_ledger.proofs.GetsLemmas.{gets_in_front}
use Rattle.run_ledger.proofs.HeldLemmas.{held_is_asked}
use Rattle.run_ledger.proofs.UnheardLemmas.{few_open, few_unheard}
use Rattle.run_waiting.specs.Laws.{HeldRepliesFindPlaces}

-- Of the gets that the worker took, one more than it replied to, all but one at most were replied to by what the session took.
pub held_find_places : HeldRepliesFindPlaces
held_find_places session number its worker reply share signed within serves front held =
    let gets = gets_in_front (from_sender session worker.received) (slice_index_or its.sent (number - 1) []) front in
    let few = few_unheard its share number within signed 1 (few_open its share number) in
    let one_more = held_is_asked worker serves session reply held in
    omega (arith, gets, few, one_more)
