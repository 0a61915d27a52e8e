-- Rings that were just made.
use Rattle.std.proofs.Common.{◌≡◌, ℕ, zero, suc, ◌≤◌, replicate, ap, arith}
use Rattle.std.proofs.lemmas.List.{get_or-replicate}
use Rattle.mail_contract.specs.Lanes.{Lane, about_lane, about_of, nothing}

module _ {M : Type 0} where
  pub about_same : (lane : Lane M) (n sender : ℕ) → 1 ≤ sender → sender ≤ n → about_of (replicate n lane) sender ≡ about_lane lane
  about_same lane n zero low high = absurd (omega arith)
  about_same lane n (suc k) low high = ap about_lane (get_or-replicate n k lane (nothing {M = M}) (omega arith))
