use Rattle.std.proofs.Common.{◌∙◌, inl, inr, sym}
use Rattle.party_turns.proofs.ItemsLemmas.{there_is}
use Rattle.party_run.proofs.sweeping.is_polled.Goals as goal

pub returns-then-rested_at-clause-passed : goal.returns-then-rested_at-clause-passed
returns-then-rested_at-clause-passed g c none = inl (sym c.rested_at.ensures ∙ c.if-rested_at.true)

pub returns-clause-polled : goal.returns-clause-polled
returns-clause-polled g c begun = (sym c.rested_at.ensures ∙ c.if-rested_at.false, λ its there. sym (c.has_begun.ensures its there) ∙ begun)

pub returns-clause-passed : goal.returns-clause-passed
returns-clause-passed g c not_begun =
    let its = there_is (g.R.Run.session_lists c.args.run.now) c.args.place c.requires in
    inr (its.0, its.1, sym (c.has_begun.ensures its.0 its.1) ∙ not_begun)
