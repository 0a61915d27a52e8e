-- Which senders are owed a message.
use Rattle.std.specs.Prelude.{ℕ, Bool, false, List, slice_index_or}
use Rattle.std.specs.List.{list_any}

-- this one is
abbrev pub is_owed : List Bool → ℕ → Bool
is_owed debts sender = slice_index_or debts sender false

-- some sender is
abbrev pub any_is_owed : List Bool → Bool
any_is_owed debts = list_any (λ owed. owed) debts
