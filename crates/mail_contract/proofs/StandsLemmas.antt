-- How a box stands to its senders through several calls.
use Rattle.std.proofs.Common.{◌≡◌, ℕ, ◌∙◌, subst}
use Rattle.mail_contract.specs.Standing.{About, AllStand, Apart, IsSettled, Standing}

module _ {M : Type 0} where
  pub stands_through : (before between now : ℕ → About M) → AllStand before between → AllStand between now → AllStand before now
  stands_through before between now first then sender = ((then sender).0 ∙ (first sender).0, (then sender).1 ∙ (first sender).1)

  -- of whom nothing is known is not taken in
  pub apart_is_not_settled : (standing : Standing M) → standing ≡ Apart → IsSettled standing → ⊥
  apart_is_not_settled standing is settled = subst IsSettled is settled
