-- Sets of words keep the laws of sets.
use Rattle.std.specs.Prelude.{◌≡◌, ℕ, ◌||◌, List, ⊤}
use Rattle.lattice_laws.specs.Lattice.{LatticeLaws, Associative}
use Rattle.lattice_laws.specs.SetsLaws as sets
use Rattle.basic_lattices.specs.Word.{IsWord}
use Rattle.lattice_laws.specs.SpellingLaws.{spelled_total, spelled_exact}
use Rattle.basic_lattices.specs.TextSet.{IsTextSet, has, united}

pub set_laws : LatticeLaws IsTextSet (λ _ _. ⊤) united
set_laws = sets.set_laws spelled_total spelled_exact IsWord

pub set_associative : Associative IsTextSet (λ _ _. ⊤) united
set_associative = sets.set_associative spelled_total spelled_exact IsWord

-- a word is in the union where it is in one of the sets
pub has-united : (a b : List (List ℕ)) (q : List ℕ) → IsTextSet a → IsTextSet b → has q (united a b) ≡ (has q a || has q b)
has-united a b q is_a is_b = sets.has-united spelled_total spelled_exact IsWord a b q is_a is_b
