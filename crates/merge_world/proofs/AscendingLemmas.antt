-- Keys of which each is below the next.
use Rattle.std.proofs.Common.{◌≡◌, ℕ, zero, suc, ◌+◌, ◌<◌, ◌≤◌, Bool, true, false, ap, List, [], ◌∷◌, length, get_or, refl, arith}
use Rattle.std.proofs.lemmas.Bool.{and_parts, leb-true, le-leb}
use Rattle.std.specs.Cmp.Derive.{both_true}
use Rattle.merge_world.specs.World.{is_ascending}

pub ascending_at : (keys : List ℕ) (i : ℕ) → suc i < length keys → is_ascending keys ≡ true → get_or keys i 0 < get_or keys (suc i) 0
ascending_at [] i low is = absurd (omega (arith, low))
ascending_at (key ∷ []) i low is = absurd (omega (arith, low))
ascending_at (key ∷ next ∷ keys) zero low is = omega (arith, leb-true (key + 1) next (and_parts _ _ is).0)
ascending_at (key ∷ next ∷ keys) (suc i) low is = ascending_at (next ∷ keys) i (omega (arith, low)) (and_parts _ _ is).1

pub ascending_all : (keys : List ℕ) → ((i : ℕ) → suc i < length keys → get_or keys i 0 < get_or keys (suc i) 0) → is_ascending keys ≡ true
ascending_all [] all = refl
ascending_all (key ∷ []) all = refl
ascending_all (key ∷ next ∷ keys) all = both_true (le-leb (key + 1) next (omega (arith, all 0 (omega arith)))) (ascending_all (next ∷ keys) (λ i low. all (suc i) (omega (arith, low))))

-- where one is not, they do not rise
pub not_ascending : (keys : List ℕ) (i place : ℕ) → i ≡ suc place → i < length keys → get_or keys i 0 ≤ get_or keys place 0 → is_ascending keys ≡ false
not_ascending keys i place is low down = by_test (is_ascending keys) refl
  where
    by_test : (t : Bool) → is_ascending keys ≡ t → t ≡ false
    by_test true rises = let up = ascending_at keys place (omega (arith, is, low)) rises in absurd (omega (arith, up, down, ap (λ n. get_or keys n 0) is))
    by_test false rises = refl
