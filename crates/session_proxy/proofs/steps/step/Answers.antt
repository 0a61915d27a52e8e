use Rattle.std.proofs.Common.{Ok, inl, inr, map, refl, subst}
use Rattle.std.proofs.lemmas.Option.{slice_get_within}
use Rattle.session_proxy.proofs.SteppingLemmas.{answered_alone, answered_keeps, few_held, goes_keeps}
use Rattle.session_proxy.proofs.steps.step.Goals as goal
use Rattle.session_proxy.specs.Steps.{Nexts}
use Rattle.session_proxy.specs.declared.steps.Task.{Task}

pub next_task-requires-clause-few : goal.next_task-requires-clause-few
next_task-requires-clause-few g c = few_held _ c.args.local.now.session c.args.local.now.begun c.args.local.now.made c.requires.keeps

pub ask-requires-clause-keeps : goal.ask-requires-clause-keeps
ask-requires-clause-keeps g c =
    let goes = subst (λ (task : Task). Nexts (Ok task) c.args.local.now c.next_task.new.local) c.in-Ask.is c.in_ok-next_task.ensures in
    goes_keeps c.args.local.now c.next_task.new.local (map g.T.Tx.sent c.args.ends.now.requests.items) (g.R.Rx.received c.args.ends.now.replies) c.requires.keeps goes.1

pub returns-in-Answered-clause-keeps : goal.returns-in-Answered-clause-keeps
returns-in-Answered-clause-keeps g c =
    let opens = subst (λ (task : Task). Nexts (Ok task) c.args.local.now c.next_task.new.local) c.in-Answered.is c.in_ok-next_task.ensures in
    answered_keeps c.args.local.now c.next_task.new.local (map g.T.Tx.sent c.args.ends.now.requests.items) (g.R.Rx.received c.args.ends.now.replies) c.requires.keeps opens

pub returns-in-Answered-clause-polls : goal.returns-in-Answered-clause-polls
returns-in-Answered-clause-polls g c =
    let opens = subst (λ (task : Task). Nexts (Ok task) c.args.local.now c.next_task.new.local) c.in-Answered.is c.in_ok-next_task.ensures in
    inl (inr (answered_alone c.args.local.now c.next_task.new.local (map g.T.Tx.sent c.args.ends.now.requests.items) (g.R.Rx.received c.args.ends.now.replies) c.requires.keeps opens), refl)

pub returns-in-Answered-clause-ended : goal.returns-in-Answered-clause-ended
returns-in-Answered-clause-ended g c =
    let opens = subst (λ (task : Task). Nexts (Ok task) c.args.local.now c.next_task.new.local) c.in-Answered.is c.in_ok-next_task.ensures in
    slice_get_within c.args.local.now.lines _ opens.line opens.line_is
