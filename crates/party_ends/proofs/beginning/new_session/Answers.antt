use Rattle.std.proofs.Common.{◌≡◌, ◌∙◌, ◌<◌, All, Some, length, slice_get, subst, sym, ap}
use Rattle.std.proofs.lemmas.Option.{slice_get-get_or}
use Rattle.parties.specs.Session.{proxy_of}
use Rattle.party_ends.proofs.PartiesLemmas.{plan_is_causal, session_is_new}
use Rattle.session_proxy.proofs.ReplicasLemmas.{table_has_replicas}
use Rattle.session_proxy.specs.Lines.{AreReplicas}
use Rattle.party_ends.proofs.beginning.new_session.Goals as goal

pub new-requires-clause-replicas : goal.new-requires-clause-replicas
new-requires-clause-replicas g c =
    subst (All (AreReplicas (length c.args.ends.requests.items))) (sym c.in_ok-copy.ensures)
    (subst (λ n. All (AreReplicas n) c.args.placement.now) (sym c.requires.unused.senders)
    (table_has_replicas c.args.script.now c.args.placement.now c.requires.valid))

pub new-requires-clause-causal : goal.new-requires-clause-causal
new-requires-clause-causal g c =
    let there : slice_get c.as_slice.result.now c.args.place ≡ Some c.index-as_slice-place.result =
    slice_get-get_or c.as_slice.result.now c.args.place c.index-as_slice-place.result (subst (λ plans. c.args.place < length plans) (sym c.as_slice.ensures) c.requires.within)
    ∙ ap Some (sym c.index-as_slice-place.is) in
    plan_is_causal c.args.script.now c.args.placement.now c.requires.valid c.args.place c.index-as_slice-place.result (ap (λ plans. slice_get plans c.args.place) (sym c.as_slice.ensures) ∙ there)

pub returns : goal.returns
returns g c =
    let there : slice_get c.as_slice.result.now c.args.place ≡ Some c.index-as_slice-place.result =
    slice_get-get_or c.as_slice.result.now c.args.place c.index-as_slice-place.result (subst (λ plans. c.args.place < length plans) (sym c.as_slice.ensures) c.requires.within)
    ∙ ap Some (sym c.index-as_slice-place.is) in
    session_is_new g.S.Tx.sent g.R.Rx.received proxy_of c.args.script.now c.args.placement.now c.args.place c.args.ends c.index-as_slice-place.result c.in_ok-lines.lines c.in_ok-copy.copy c.new.result
    (ap (λ plans. slice_get plans c.args.place) (sym c.as_slice.ensures) ∙ there) (c.in_ok-lines.ensures ∙ c.as_slice-2.ensures) c.in_ok-copy.ensures c.new.ensures.proxy c.new.ensures.share
