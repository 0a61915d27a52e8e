use Rattle.std.proofs.Common.{◌∙◌, ◌-◌, sym, arith}
use Rattle.store_msg.proofs.meets.SessionEndsOverMeetsFrom.meet.Goals as goal

pub returns-clause-others : goal.returns-clause-others
returns-clause-others g c =
    λ other low differs was_clear tx is.
    was_clear tx (sym (c.meet_ends.ensures.others (other - 1) tx (λ same. differs (omega (arith, low, same, c.requires.0.0)))) ∙ is)

pub returns-clause-others_unseen : goal.returns-clause-others_unseen
returns-clause-others_unseen g c =
    λ other low differs. c.meet_ends.ensures.others_unseen (other - 1) (λ same. differs (omega (arith, low, same, c.requires.0.0)))
