use Rattle.std.specs.Prelude.{◌≡◌, List, [], map}
use Rattle.std.proofs.Common.{◌∙◌, ap, subst, sym, None}
use Rattle.session_known.specs.Session.{Client, Knowledge}
use Rattle.session_known.specs.declared.report.Answer.{Answer}
use Rattle.session_proxy.proofs.OpeningLemmas.{opening_keeps}
use Rattle.session_proxy.proofs.proxy.ProxyOver.new_after.Goals as goal
use Rattle.session_proxy.specs.Kept.{Keeps}
use Rattle.session_proxy.specs.State.{Knew, opening}
use Rattle.session_proxy.specs.declared.local.Begun.TheVariants.{Nothing}

pub invariant_of-proxy : goal.invariant_of-proxy
invariant_of-proxy g c =
    let client : Client = record { session = c.args.me; level = g.C.Consistency.level } in
    let client_is : c.start.result.client ≡ client = c.start.ensures.client ∙ c.requires.client in
    let answers_are : c.reserve.new.self.items ≡ [] = c.reserve.ensures.items ∙ c.new-answers.ensures.items in
    let origin_is : c.in_ok-origin.origin.knows ≡ c.args.known.knows = ap (λ known. known.knows) c.in_ok-origin.ensures in
    let keeps = opening_keeps g.T.Tx.sent c.args.ends.requests.items client c.args.placement c.args.lines c.args.known.knows c.start.result client_is c.start.ensures.state c.requires.own c.requires.me c.requires.few_lines c.requires.lines
    c.requires.transactions c.requires.workers c.requires.replicas c.requires.sent (g.R.Rx.received c.args.ends.replies) c.requires.received
    in
    let of_course : Client × Knowledge × List Answer → Type 0 = λ of. Keeps (record {
      course = record (opening of.0 c.args.placement c.args.lines (Knew of.1)) { answers = of.2 };
      sent = map g.T.Tx.sent c.args.ends.requests.items;
      received = g.R.Rx.received c.args.ends.replies;
    }) c.start.result Nothing None in (
      subst of_course (λ j. (sym client_is j, sym origin_is j, sym answers_are j)) keeps,
      ap (λ (client : Client). client.level) client_is,
    )
