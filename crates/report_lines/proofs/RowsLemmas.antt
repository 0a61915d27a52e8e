-- Items between commas, and items in braces, are told from their text.
use Rattle.std.specs.Prelude.{◌≡◌, ℕ, Bool, true, List, [], ◌∷◌, ◌++◌, map, codes}
use Rattle.std.specs.List.{join_with_byte, list_all, AllByRecursion}
use Rattle.std.proofs.Common.{refl, sym, ap, ◌∙◌}
use Rattle.std.proofs.lemmas.Bool.{true≢false, false≢true, and_parts, and_from}
use Rattle.std.proofs.lemmas.List.{append_cancel_right}
use Rattle.std.proofs.lemmas.List.Folds.{list_all-append}
use Rattle.lattice_laws.specs.Spelling.{is_spelling_byte}
use Rattle.report_lines.proofs.NamesLemmas.{Spelled}
use Rattle.report_lines.proofs.RenderingLemmas.{Passes, Tells, made_of, both_pass, join_passes, join_tells}
use Rattle.report_lines.specs.Text.{row_or, braced}

-- what holds of each element holds of each image
pub all_map : {X Y : Type 0} (P : X → Type 0) (Q : Y → Type 0) (f : X → Y) → ((x : X) → P x → Q (f x)) → (xs : List X) → AllByRecursion P xs → AllByRecursion Q (map f xs)
all_map P Q f each [] all = tt
all_map P Q f each (x ∷ xs) all = (each x all.0, all_map P Q f each xs all.1)

-- what holds of each element of two lists holds of each of both together
pub both_all : {X : Type 0} (P : X → Type 0) (xs ys : List X) → AllByRecursion P xs → AllByRecursion P ys → AllByRecursion P (xs ++ ys)
both_all P [] ys all_xs all_ys = all_ys
both_all P (x ∷ xs) ys all_xs all_ys = (all_xs.0, both_all P xs ys all_xs.1 all_ys)

-- where a row passes, its first item does
row_first : (c : ℕ) (item : List ℕ) (items : List (List ℕ)) → Spelled (join_with_byte c (item ∷ items)) → Spelled item
row_first c item [] all = all
row_first c item (next ∷ items) all = (and_parts _ _ (sym (list_all-append is_spelling_byte item (c ∷ join_with_byte c (next ∷ items))) ∙ all)).0

-- no text of an item is spelled as a name
abbrev pub IsMarked : {X : Type 0} → (X → Type 0) → (X → List ℕ) → Type 0
IsMarked {X} IsItem text = (x : X) → IsItem x → Spelled (text x) → ⊥

-- a row of such items is none either
pub row_marked : {X : Type 0} (IsItem : X → Type 0) (c : ℕ) (text : X → List ℕ) → IsMarked IsItem text → (x : X) (xs : List X) → IsItem x → Spelled (join_with_byte c (map text (x ∷ xs))) → ⊥
row_marked IsItem c text marked x xs is all = marked x is (row_first c (text x) (map text xs) all)

-- the items of a row are told, where what stands for none is spelled as a name
pub row_tells : {X : Type 0} (IsItem : X → Type 0) (none : List ℕ) (c : ℕ) (text : X → List ℕ) → Spelled none → Tells IsItem c text → IsMarked IsItem text → (a b : List X) → AllByRecursion IsItem a → AllByRecursion IsItem b → row_or none c (map text a) ≡ row_or none c (map text b) → a ≡ b
row_tells IsItem none c text spelled tells marked [] [] all_a all_b same = refl
row_tells IsItem none c text spelled tells marked [] (y ∷ ys) all_a all_b same = absurd (row_marked IsItem c text marked y ys all_b.0 (sym (ap (list_all is_spelling_byte) same) ∙ spelled))
row_tells IsItem none c text spelled tells marked (x ∷ xs) [] all_a all_b same = absurd (row_marked IsItem c text marked x xs all_a.0 (ap (list_all is_spelling_byte) same ∙ spelled))
row_tells IsItem none c text spelled tells marked (x ∷ xs) (y ∷ ys) all_a all_b same = join_tells IsItem c text tells x xs y ys all_a all_b same

-- a row of which nothing stands for none
row_is_join : (c : ℕ) (items : List (List ℕ)) → row_or [] c items ≡ join_with_byte c items
row_is_join c [] = refl
row_is_join c (item ∷ items) = refl

pub joined_tells : {X : Type 0} (IsItem : X → Type 0) (c : ℕ) (text : X → List ℕ) → Tells IsItem c text → IsMarked IsItem text → (a b : List X) → AllByRecursion IsItem a → AllByRecursion IsItem b → join_with_byte c (map text a) ≡ join_with_byte c (map text b) → a ≡ b
joined_tells IsItem c text tells marked a b all_a all_b same = row_tells IsItem [] c text refl tells marked a b all_a all_b (row_is_join c (map text a) ∙ same ∙ sym (row_is_join c (map text b)))

-- the bytes of a row
pub row_passes : (test : ℕ → Bool) (none : List ℕ) (c : ℕ) → test c ≡ true → Passes test none → (items : List (List ℕ)) → AllByRecursion (Passes test) items → Passes test (row_or none c items)
row_passes test none c passes empty [] all = empty
row_passes test none c passes empty (item ∷ items) all = join_passes test c passes (item ∷ items) all

-- the items in braces are told
pub braced_tells : {X : Type 0} (IsItem : X → Type 0) (text : X → List ℕ) → Tells IsItem 44 text → (a b : List X) → AllByRecursion IsItem a → AllByRecursion IsItem b → braced (map text a) ≡ braced (map text b) → a ≡ b
braced_tells IsItem text tells [] [] all_a all_b same = refl
braced_tells IsItem text tells [] (y ∷ ys) all_a all_b same = absurd (true≢false (ap (list_all is_spelling_byte) same))
braced_tells IsItem text tells (x ∷ xs) [] all_a all_b same = absurd (false≢true (ap (list_all is_spelling_byte) same))
braced_tells IsItem text tells (x ∷ xs) (y ∷ ys) all_a all_b same =
    let inner : join_with_byte 44 (map text (x ∷ xs)) ++ codes "}" ≡ join_with_byte 44 (map text (y ∷ ys)) ++ codes "}" = cc in
    join_tells IsItem 44 text tells x xs y ys all_a all_b (append_cancel_right _ _ (codes "}") inner)

-- the bytes of items in braces
pub braced_passes : (marks : List ℕ) → made_of marks 44 ≡ true → made_of marks 123 ≡ true → made_of marks 125 ≡ true → (items : List (List ℕ)) → AllByRecursion (Passes (made_of marks)) items → Passes (made_of marks) (braced items)
braced_passes marks comma opens closes [] all = refl
braced_passes marks comma opens closes (item ∷ items) all =
    and_from (made_of marks 123) _ opens (both_pass (made_of marks) (join_with_byte 44 (item ∷ items)) (codes "}") (join_passes (made_of marks) 44 comma (item ∷ items) all) (and_from (made_of marks 125) true closes refl))
