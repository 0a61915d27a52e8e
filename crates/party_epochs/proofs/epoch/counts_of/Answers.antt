use Rattle.std.proofs.Common.{◌∙◌, ◌++◌, ap, map}
use Rattle.std.proofs.lemmas.Slice.{pushed}
use Rattle.party_epochs.proofs.epoch.counts_of.Goals as goal

pub returns : goal.returns
returns g c =
    pushed c.deref.result.now c.in_ok-counts.ensures c.in_ok-extend_from_slice.was c.extend_from_slice.ensures.items
    ∙ ap (λ those. map (λ part. part.turns) c.args.turned.now ++ those) (c.deref.ensures.value ∙ c.in_ok-of_sessions.ensures)
