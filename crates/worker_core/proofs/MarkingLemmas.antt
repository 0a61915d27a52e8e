-- A key is marked for one mate after the other.
use Rattle.std.proofs.Common.{◌≡◌, ℕ, ◌<◌, ◌≤◌, Bool, if◌then◌else◌, List, [], length, get_or}
use Rattle.gossip_rounds.specs.Changes.{with_key}

-- The key is there for each mate before a place that holds it, and all else is as it was.
pub record MarkedTo (lives : ℕ → Bool) (key place : ℕ) (before now : List (List ℕ)) : Type 0 where
  pub same_length : length now ≡ length before
  pub marked :
      (mate : ℕ) → mate < place → mate < length before
      → get_or now mate [] ≡ (if lives mate then with_key key (get_or before mate []) else get_or before mate [])
  pub rest : (mate : ℕ) → place ≤ mate → get_or now mate [] ≡ get_or before mate []
