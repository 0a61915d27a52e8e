use Rattle.std.proofs.Common.{map}
use Rattle.mail_rings.specs.Rings.{rx_ring, tx_ring}
use Rattle.tests_worker.specs.Mates.{AreMates}
use Rattle.tests_worker.proofs.thread_tests.a_batch_that_finds_no_place_goes_out_later.Given as goal

abbrev pub invariant-loop-number : goal.invariant-loop-number
invariant-loop-number g l =
    AreMates (λ tx. tx_ring tx.ring) (λ tx. tx.number) (λ box. map (λ lane. rx_ring lane.ring) box.lanes.items) l.first l.second
