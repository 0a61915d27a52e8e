use Rattle.mail_rings.specs.Rings.{tx_ring}
use Rattle.tests_worker.proofs.MatesLemmas.{only_lane}
use Rattle.tests_worker.proofs.thread_tests.meet.Goals as goal

pub beside_mate-requires-clause-pair : goal.beside_mate-requires-clause-pair
beside_mate-requires-clause-pair c = λ sender at.
    only_lane (λ tx. tx_ring tx.ring) (λ tx. tx.number) c.args.first.now.ends.gossip_out.items _ _ sender
    c.requires.to_second c.requires.first_number at

pub beside_mate-requires-clause-mate_pair : goal.beside_mate-requires-clause-mate_pair
beside_mate-requires-clause-mate_pair c = λ sender at.
    only_lane (λ tx. tx_ring tx.ring) (λ tx. tx.number) c.args.second.now.ends.gossip_out.items _ _ sender
    c.requires.to_first c.requires.second_number at
