use Rattle.std.proofs.Common.{refl}
use Rattle.store_msg.specs.declared.ends.SessionEndsOver.{SessionEndsOver}
use Rattle.drain_steps.proofs.TurnedLemmas.{none_taken, one_more, one_taken}
use Rattle.drain_steps.proofs.parting.part_all.Goals as goal

pub loop-its_answers-init : goal.loop-its_answers-init
loop-its_answers-init g c = record {
  taken = none_taken c.args.sessions.items;
  answers = c.in_ok-answers.ensures.items;
  requests = c.in_ok-requests.ensures.items;
  replies = c.in_ok-boxes.ensures.items;
}

pub loop-its_answers-preserved : goal.loop-its_answers-preserved
loop-its_answers-preserved g c =
    let all = c.args.sessions.items in
    let taken = c.loop-its_answers.invariant.taken.taken in
    let last : g.row.A.Denot × SessionEndsOver g.row.S.Denot g.row.R.Denot = (c.in-Some.its_answers, c.in-Some.ends) in
    record {
      taken = one_taken all c.loop-its_answers.sessions.items c.pop.new.self.items last c.in-Some.ensures.items c.loop-its_answers.invariant.taken;
      answers = one_more all (λ its. its.0) taken last _ _ _ c.in_ok-push.ensures.items refl c.loop-its_answers.invariant.answers;
      requests = one_more all (λ its. its.1.requests) taken last _ _ _ c.in_ok-push-2.ensures.items refl c.loop-its_answers.invariant.requests;
      replies = one_more all (λ its. its.1.replies) taken last _ _ _ c.in_ok-push-3.ensures.items refl c.loop-its_answers.invariant.replies;
    }
