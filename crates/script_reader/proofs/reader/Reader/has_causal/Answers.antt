use Rattle.std.proofs.Common.{◌&&◌, rules}
use Rattle.std.specs.Str.{bytes_eq}
use Rattle.std.proofs.lemmas.Iterator.{YieldsList-from_slice}
use Rattle.std.proofs.lemmas.Iterator.Search.{any_from_yields_List}
use borrow.Author.Tests.{tests}
use Rattle.session_known.specs.declared.script.SessionPlan.{SessionPlan}
use Rattle.script_reader.specs.Faults.{is_causal}
use Rattle.script_reader.proofs.DeclaredLemmas.{session_met, session_last}
use Rattle.script_reader.proofs.reader.Reader.has_causal.Goals as goal

pub returns-then-any : goal.returns-then-any
returns-then-any c =
    session_met (λ (plan : SessionPlan). bytes_eq c.args.name.now plan.name && is_causal plan.level) c.args.self.now.sessions c.in-Some.sessions c.any.result
    (any_from_yields_List (λ (plan : SessionPlan). bytes_eq c.args.name.now plan.name && is_causal plan.level) _ _ _ c.any.ensures.ran (YieldsList-from_slice c.in-Some.sessions.done.items cc) (λ x b q k. search (rules, tests)))
    c.in-Some.is c.if-any.true

pub returns-else-any : goal.returns-else-any
returns-else-any c =
    session_last (λ (plan : SessionPlan). bytes_eq c.args.name.now plan.name && is_causal plan.level) c.args.self.now.sessions c.in-Some.sessions c.any.result c.is_causal_of_name.result
    (any_from_yields_List (λ (plan : SessionPlan). bytes_eq c.args.name.now plan.name && is_causal plan.level) _ _ _ c.any.ensures.ran (YieldsList-from_slice c.in-Some.sessions.done.items cc) (λ x b q k. search (rules, tests)))
    c.in-Some.is c.if-any.false c.is_causal_of_name.ensures
