use Rattle.std.proofs.Common.{◌∙◌, ℕ, map, List}
use Rattle.mail_contract.specs.Lanes.{about_of}
use Rattle.mail_contract.specs.Standing.{About}
use Rattle.mail_rings.specs.Rings.{lane_of}
use Rattle.mail_rings.specs.declared.lane.RingLane.{RingLane}
use Rattle.tests_mail.specs.declared.note.Note.{Note}
use Rattle.mail_contract.proofs.StandsLemmas.{stands_through}
use Rattle.tests_mail.proofs.ring_tests.take_all.Goals as goal

abbrev about : List (RingLane Note) → ℕ → About Note
about lanes = about_of (map (λ lane. lane_of lane.ended lane.shown lane.ring) lanes)

pub returns-then-sender-gt2-clause-standing : goal.returns-then-sender-gt2-clause-standing
returns-then-sender-gt2-clause-standing c = stands_through (about c.args.rx.now.lanes.items) (about c.loop.rx.lanes.items) (about c.take.new.self.lanes.items) c.loop.invariant.standing c.take.ensures.standing

pub returns-in-Err-clause-standing : goal.returns-in-Err-clause-standing
returns-in-Err-clause-standing c = stands_through (about c.args.rx.now.lanes.items) (about c.loop.rx.lanes.items) (about c.take.new.self.lanes.items) c.loop.invariant.standing c.take.ensures.standing

pub loop-preserved : goal.loop-preserved
loop-preserved c = record {
  key = c.take.ensures.key ∙ c.loop.invariant.key;
  standing = stands_through (about c.args.rx.now.lanes.items) (about c.loop.rx.lanes.items) (about c.take.new.self.lanes.items) c.loop.invariant.standing c.take.ensures.standing;
}
