use Rattle.std.proofs.Common.{ap, ◌∙◌, rules}
use Rattle.std.specs.Str.{bytes_eq}
use Rattle.std.proofs.lemmas.Iterator.{YieldsList-from_slice}
use Rattle.std.proofs.lemmas.Iterator.Search.{any_from_yields_List}
use borrow.Author.Tests.{tests}
use Rattle.session_known.specs.declared.script.SessionPlan.{SessionPlan}
use Rattle.script_reader.proofs.DeclaredLemmas.{session_met, session_last, named_among}
use Rattle.script_reader.proofs.reader.Reader.has_session.Goals as goal

pub returns-then-any : goal.returns-then-any
returns-then-any c =
    session_met (λ (plan : SessionPlan). bytes_eq c.args.name.now plan.name) c.args.self.now.sessions c.in-Some.sessions c.any.result
    (any_from_yields_List (λ (plan : SessionPlan). bytes_eq c.args.name.now plan.name) _ _ _ c.any.ensures.ran (YieldsList-from_slice c.in-Some.sessions.done.items cc) (λ x b q k. search (rules, tests)))
    c.in-Some.is c.if-any.true
    ∙ named_among c.args.self.now.sessions c.args.name.now

pub returns-else-any : goal.returns-else-any
returns-else-any c =
    session_last (λ (plan : SessionPlan). bytes_eq c.args.name.now plan.name) c.args.self.now.sessions c.in-Some.sessions c.any.result c.eq.result
    (any_from_yields_List (λ (plan : SessionPlan). bytes_eq c.args.name.now plan.name) _ _ _ c.any.ensures.ran (YieldsList-from_slice c.in-Some.sessions.done.items cc) (λ x b q k. search (rules, tests)))
    c.in-Some.is c.if-any.false (c.eq.ensures ∙ ap (bytes_eq c.args.name.now) c.as_bytes.ensures.bytes)
    ∙ named_among c.args.self.now.sessions c.args.name.now
