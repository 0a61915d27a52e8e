-- The puts on a key.
use Rattle.std.specs.Prelude.{◌≡◌, ◌≢◌, ℕ, ◌==◌, cond, List, [], ◌∷◌, ◌++◌, map, filter}
use Rattle.std.proofs.Common.{ap, ◌∙◌}
use Rattle.std.proofs.lemmas.Bool.{ne_eqb, eq-eqb}
use Rattle.std.proofs.lemmas.List.{map-append}
use Rattle.std.proofs.lemmas.List.Elements.{filter-append}
use Rattle.composed_value.specs.Keyed.{puts_on}
use Rattle.composed_value.specs.declared.put.Put.{Put}

-- the puts on a key of two lists
pub puts_on-append : (key : ℕ) (puts more : List (ℕ × Put)) → puts_on key (puts ++ more) ≡ puts_on key puts ++ puts_on key more
puts_on-append key puts more =
    let on_key = λ (entry : ℕ × Put). entry.0 == key in
    ap (map (λ entry. entry.1)) (filter-append on_key puts more) ∙ map-append (λ entry. entry.1) (filter on_key puts) (filter on_key more)

-- a put is on its key
pub on_its_key : (its_key key : ℕ) (put : Put) → its_key ≡ key → puts_on key ((its_key, put) ∷ []) ≡ put ∷ []
on_its_key its_key key put same = ap (λ t. map (λ (entry : ℕ × Put). entry.1) (cond t ((its_key, put) ∷ []) [])) (eq-eqb its_key key same)

-- and on no other
pub on_no_other : (its_key key : ℕ) (put : Put) → its_key ≢ key → puts_on key ((its_key, put) ∷ []) ≡ []
on_no_other its_key key put apart = ap (λ t. map (λ (entry : ℕ × Put). entry.1) (cond t ((its_key, put) ∷ []) [])) (ne_eqb its_key key apart)
