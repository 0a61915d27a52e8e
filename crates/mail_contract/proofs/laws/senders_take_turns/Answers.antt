use Rattle.std.proofs.Common.{arith, inl, inr}
use Rattle.std.proofs.lemmas.Bool.{cases_lt}
use Rattle.mail_contract.proofs.laws.senders_take_turns.Goals as goal

pub returns : goal.returns
returns c = λ senders sender other about turns from to apart.
    turns other from to (elim (cases_lt sender other) [
      | inl later ↦ inr (omega arith, inl later)
      | inr earlier ↦ inr (omega arith, inr (omega (arith, earlier, apart)))
    ])
