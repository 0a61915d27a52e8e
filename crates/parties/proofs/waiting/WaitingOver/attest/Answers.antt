use Rattle.std.proofs.Common.{◌∙◌, arith, subst, sym, []}
use Rattle.std.proofs.lemmas.List.{get_or-map, length-map}
use Rattle.session_known.specs.declared.script.Level.TheVariants.{Causal}
use Rattle.session_proxy.proofs.OpeningLemmas.{opening_share}
use Rattle.session_proxy.specs.Share.{Share}
use Rattle.session_proxy.specs.State.{WaitsFor, lists_of}
use Rattle.parties.specs.PlainWaiting.{waiting_proxy}
use Rattle.parties.proofs.waiting.WaitingOver.attest.Goals as goal

pub returns : goal.returns
returns g c =
    let inside = c.self.inside in
    let senders = inside.ends.requests.items in
    subst (λ waiting. Share (lists_of g.T.Tx.sent g.R.Rx.received (waiting_proxy waiting))) c.self.view_is
    (opening_share g.T.Tx.sent senders (record { session = inside.me; level = Causal }) inside.placement inside.lines (WaitsFor inside.after)
    (λ k d low. sym (get_or-map g.T.Tx.sent senders k d [] low) ∙ c.self.invariant.none_sent k [] (omega (arith, low, length-map senders g.T.Tx.sent)))
    (g.R.Rx.received inside.ends.replies) c.self.invariant.none_received)
