-- What a parcel carries.
use Rattle.std.specs.Prelude.{ℕ, List}

-- messages of a sender on their way to its box
pub record Carried (M : Type 0) : Type 0 where
  -- their sender's number
  pub sender : ℕ
  -- the place of the first in all that it sent, from 0
  pub begin : ℕ
  pub messages : List M
