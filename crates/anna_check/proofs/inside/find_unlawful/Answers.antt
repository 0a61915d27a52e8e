use Rattle.std.proofs.Common.{rules, ◌≡◌, ℕ, ◌+◌, ◌<◌, List, [], ◌∷◌, ◌++◌, length, map, get_or, Option, None, IfNone, sym, ap, subst, ◌∙◌, arith}
use Rattle.std.proofs.lemmas.List.{map-append}
use Rattle.composed_value.specs.declared.kind.Kind.{Kind}
use Rattle.session_known.specs.Accepted.{client_of, end_of, ends_from, origin_of, start_of}
use Rattle.session_known.specs.Session.{Client, Knowledge, Knows, State, start, puts_from, state_after}
use Rattle.session_known.specs.declared.report.Answer.{Answer}
use Rattle.session_known.specs.declared.script.Line.{Line}
use Rattle.anna_check.specs.ByKey.{AreByKey}
use Rattle.anna_check.specs.Judged.{CanBeJudged}
use Rattle.anna_check.proofs.SessionsLemmas.{AreSessionsJudging, answers_each, is_earlier, may_begin, same_lawful, can_be_judged, session_unlawful, session_lawful, sessions_judged}
use Rattle.anna_check.proofs.inside.find_unlawful.Goals as goal

pub bounds-answers-i : goal.bounds-answers-i
bounds-answers-i c =
    let each = answers_each c.args.script.now c.args.answers.now c.requires.form in
    let within : c.loop-i.i < length c.args.script.now.sessions = search rules in
    omega (arith, each, within)

pub first_unlawful-requires-clause-judged : goal.first_unlawful-requires-clause-judged
first_unlawful-requires-clause-judged c =
    let script = c.args.script.now in
    let plan = c.plan-item.result in
    let theirs = c.index-answers-i.result in
    let within : c.loop-i.i < length script.sessions = search rules in
    let plan_is : plan ≡ get_or script.sessions c.loop-i.i plan = c.plan-item.is ∙ ap (λ plans. get_or plans c.loop-i.i plan) c.as_slice-plan-items.ensures in
    let kinds = c.loop-i.invariant.kinds ∙ c.requires.kinds in
    subst (λ (at : List Kind × List Line × List Answer). CanBeJudged at.0 script.config.workers at.1 at.2) (λ j. (sym kinds j, sym c.as_slice-lines.ensures j, sym c.as_slice-theirs.ensures j))
    (can_be_judged script c.args.placement.now c.args.answers.now c.loop-i.i plan theirs c.requires.valid c.requires.form within plan_is c.index-answers-i.is)

pub returns-in-Some-clause-lawful : goal.returns-in-Some-clause-lawful
returns-in-Some-clause-lawful c =
    let script = c.args.script.now in
    let table = c.args.placement.now in
    let plan = c.plan-item.result in
    let theirs = c.index-answers-i.result in
    let known : List Knowledge = map (λ end. end.knows) c.loop-i.ends.items in
    let within : c.loop-i.i < length script.sessions = search rules in
    let plan_is : plan ≡ get_or script.sessions c.loop-i.i plan = c.plan-item.is ∙ ap (λ plans. get_or plans c.loop-i.i plan) c.as_slice-plan-items.ensures in
    let each = answers_each script c.args.answers.now c.requires.form in
    let earlier = is_earlier script table c.loop-i.i plan c.requires.valid within plan_is in
    let client_is : c.start-judged.result.client ≡ client_of (c.loop-i.i + 1) plan = c.start-judged.ensures.client ∙ c.in_ok-known.ensures.client in
    let state_is : c.start-judged.result.state ≡ start_of known plan = c.start-judged.ensures.state ∙ ap start (c.in_ok-known.ensures.knows ∙ ap (λ ends. origin_of (map (λ end. end.knows) ends) plan.after) c.deref.ensures.value) in
    let first = same_lawful table client_is state_is c.in-Some.is c.as_slice-lines.ensures c.as_slice-theirs.ensures c.in_ok-found.ensures.lawful in
    session_unlawful table (ends_from [] 1 script.sessions c.args.answers.now) script.sessions c.args.answers.now c.args.accepted.now c.loop-i.i known c.loop-i.accepted c.loop-i.invariant each plan theirs within plan_is c.index-answers-i.is earlier c.in-Some.command first

pub loop-i-preserved : goal.loop-i-preserved
loop-i-preserved c =
    let script = c.args.script.now in
    let table = c.args.placement.now in
    let plan = c.plan-item.result in
    let theirs = c.index-answers-i.result in
    let known : List Knowledge = map (λ end. end.knows) c.loop-i.ends.items in
    let within : c.loop-i.i < length script.sessions = search rules in
    let plan_is : plan ≡ get_or script.sessions c.loop-i.i plan = c.plan-item.is ∙ ap (λ plans. get_or plans c.loop-i.i plan) c.as_slice-plan-items.ensures in
    let each = answers_each script c.args.answers.now c.requires.form in
    let earlier = is_earlier script table c.loop-i.i plan c.requires.valid within plan_is in
    let client_is : c.start-judged.result.client ≡ client_of (c.loop-i.i + 1) plan = c.start-judged.ensures.client ∙ c.in_ok-known.ensures.client in
    let state_is : c.start-judged.result.state ≡ start_of known plan = c.start-judged.ensures.state ∙ ap start (c.in_ok-known.ensures.knows ∙ ap (λ ends. origin_of (map (λ end. end.knows) ends) plan.after) c.deref.ensures.value) in
    let none : c.in_ok-found.found ≡ None = search rules in
    let lawful = same_lawful table client_is state_is none c.as_slice-lines.ensures c.as_slice-theirs.ensures c.in_ok-found.ensures.lawful in
    let ended = subst (λ found. IfNone found (c.first_unlawful.new.judged.state ≡ state_after c.start-judged.result.client c.start-judged.result.state c.as_slice-lines.result.now c.as_slice-theirs.result.now)) none c.in_ok-found.ensures.end in
    let end_is : c.into_known.result.knows ≡ end_of known (c.loop-i.i + 1) plan theirs =
    ap (λ (known : Knows). known.knows) c.into_known.ensures ∙ ap (λ (state : State). state.knows) (ended ∙ (λ j. state_after (client_is j) (state_is j) (c.as_slice-lines.ensures j) (c.as_slice-theirs.ensures j))) in
    let ends_are : known ++ c.into_known.result.knows ∷ [] ≡ map (λ end. end.knows) c.push.new.self.items =
    sym (ap (map (λ end. end.knows)) c.in_ok-push.ensures.items ∙ map-append (λ (end : Knows). end.knows) c.loop-i.ends.items (c.into_known.result ∷ [])) in
    subst (λ known. AreSessionsJudging table (ends_from [] 1 script.sessions c.args.answers.now) script.sessions c.args.answers.now c.args.accepted.now (c.loop-i.i + 1) known c.first_unlawful.new.accepted) ends_are
    (session_lawful table (ends_from [] 1 script.sessions c.args.answers.now) script.sessions c.args.answers.now c.args.accepted.now c.loop-i.i known c.loop-i.accepted c.loop-i.invariant each plan theirs within plan_is c.index-answers-i.is earlier
    c.into_known.result.knows c.first_unlawful.new.accepted lawful end_is c.in_ok-found.ensures.kinds
    (λ kinds puts by_key.
    subst (λ (at : Client × State × Option ℕ × List Line × List Answer). IfNone at.2 (AreByKey kinds (puts ++ puts_from at.0 at.1 at.3 at.4) c.first_unlawful.new.accepted)) (λ j. (client_is j, state_is j, none j, c.as_slice-lines.ensures j, c.as_slice-theirs.ensures j))
    (c.in_ok-found.ensures.puts kinds puts by_key)))

pub returns-clause-lawful : goal.returns-clause-lawful
returns-clause-lawful c =
    let script = c.args.script.now in
    let each = answers_each script c.args.answers.now c.requires.form in
    (sessions_judged c.args.placement.now (ends_from [] 1 script.sessions c.args.answers.now) script.sessions c.args.answers.now c.args.accepted.now c.loop-i.i (map (λ end. end.knows) c.loop-i.ends.items) c.loop-i.accepted c.loop-i.invariant each (search rules)).0

pub returns-clause-puts : goal.returns-clause-puts
returns-clause-puts c =
    let script = c.args.script.now in
    let each = answers_each script c.args.answers.now c.requires.form in
    (sessions_judged c.args.placement.now (ends_from [] 1 script.sessions c.args.answers.now) script.sessions c.args.answers.now c.args.accepted.now c.loop-i.i (map (λ end. end.knows) c.loop-i.ends.items) c.loop-i.accepted c.loop-i.invariant each (search rules)).1

pub origin-requires : goal.origin-requires
origin-requires c =
    let script = c.args.script.now in
    let plan = c.plan-item.result in
    let within : c.loop-i.i < length script.sessions = search rules in
    let plan_is : plan ≡ get_or script.sessions c.loop-i.i plan = c.plan-item.is ∙ ap (λ plans. get_or plans c.loop-i.i plan) c.as_slice-plan-items.ensures in
    let long : length (map (λ end. end.knows) c.deref.result.now) ≡ c.loop-i.i = ap (λ ends. length (map (λ end. end.knows) ends)) c.deref.ensures.value ∙ c.loop-i.invariant.long in
    may_begin script c.args.placement.now c.loop-i.i plan c.deref.result.now c.requires.valid within plan_is long
