-- A copy of vectors has the same lists of items.
use Rattle.std.proofs.Common.{◌≡◌, ℕ, ◌<◌, List, [], ◌∷◌, map, length, get_or, Vec, Global, vec_len, refl, sym, ap, ◌∙◌, arith}
use Rattle.std.specs.List.{All, AllZip}
use Rattle.std.proofs.lemmas.List.Elements.{same_from_all_zip}
use Rattle.std.proofs.lemmas.List.{length-map, get_or-map}

-- the items of a vector
abbrev items : Vec ℕ Global → List ℕ
items vector = vector.items

-- A clone of a vector has its items.
abbrev IsClone : Vec ℕ Global → Vec ℕ Global → Type 0
IsClone vector copy = AllZip (λ a b. b ≡ a) vector.items copy.items × (vec_len copy ≡ vec_len vector)

-- Clones of vectors have the same lists of items.
pub same_items : (vectors copies : List (Vec ℕ Global)) → AllZip IsClone vectors copies → map items copies ≡ map items vectors
same_items [] [] zip = refl
same_items (vector ∷ vectors) (copy ∷ copies) zip =
    let same = same_from_all_zip (λ a b. b ≡ a) vector.items copy.items zip.0.0 (λ a b is. is) in
    rw same (ap (λ (rest : List (List ℕ)). vector.items ∷ rest) (same_items vectors copies zip.1))
same_items [] (copy ∷ copies) zip = absurd zip
same_items (vector ∷ vectors) [] zip = absurd zip

-- There are as many copies as vectors.
pub same_length : (vectors copies : List (Vec ℕ Global)) → map items copies ≡ map items vectors → length copies ≡ length vectors
same_length vectors copies same = sym (length-map copies items) ∙ ap length same ∙ length-map vectors items

-- Where each vector has an item, so has each copy.
pub copies_have_some : (vectors copies : List (Vec ℕ Global)) → map items copies ≡ map items vectors → All (λ (vector : Vec ℕ Global). 0 < length (items vector)) vectors → All (λ (vector : Vec ℕ Global). 0 < length (items vector)) copies
copies_have_some vectors copies same all = λ k d within.
    let inside : k < length vectors = omega (arith, same_length vectors copies same) in
    let is : items (get_or copies k d) ≡ items (get_or vectors k d) = sym (get_or-map items copies k d [] within) ∙ ap (λ (lists : List (List ℕ)). get_or lists k []) same ∙ get_or-map items vectors k d [] inside in
    rw is (all k d inside)
