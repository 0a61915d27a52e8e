-- What a text that is made of pieces tells of them: a byte that stands in no piece ends it, so the pieces can be cut apart.
use Rattle.std.specs.Prelude.{◌≡◌, ℕ, Bool, true, false, ◌||◌, ◌==◌, List, [], ◌∷◌, ◌++◌, map, codes, ⊤}
use Rattle.std.specs.List.{join_with_byte, flat_map, list_all, list_any, AllByRecursion}
use Rattle.std.proofs.Common.{refl, sym, ap, ◌∙◌}
use Rattle.std.proofs.lemmas.Bool.{both_ways, and_parts, and_from, or_left}
use Rattle.std.proofs.lemmas.List.{append-nil, append_assoc, map-id}
use Rattle.std.proofs.lemmas.List.Folds.{list_all-append}
use Rattle.lattice_laws.specs.Spelling.{is_spelling_byte}
use Rattle.report_lines.specs.Text.{bare_line, line_text, spaced}

-- each byte of the text passes the test
abbrev pub Passes : (ℕ → Bool) → List ℕ → Type 0
Passes test text = list_all test text ≡ true

-- the text is empty, or begins with the byte
abbrev pub Stops : ℕ → List ℕ → Type 0
Stops c [] = ⊤
Stops c (b ∷ bs) = b ≡ c

-- an item is told from its text and what stands after that, where that stops with the byte
abbrev pub Tells : {X : Type 0} → (X → Type 0) → ℕ → (X → List ℕ) → Type 0
Tells {X} IsItem c text = (a b : X) (us vs : List ℕ) → IsItem a → IsItem b → Stops c us → Stops c vs → text a ++ us ≡ text b ++ vs → (a ≡ b) × (us ≡ vs)

-- a byte that may stand in a name, or one of these
abbrev pub made_of : List ℕ → ℕ → Bool
made_of marks b = is_spelling_byte b || list_any (λ mark. mark == b) marks

-- the bytes that stand between names and numbers in words
abbrev pub word_marks : List ℕ
word_marks = codes ",:{}=/()|@+;"

-- the bytes of words
abbrev pub in_word : ℕ → Bool
in_word = made_of word_marks

-- the bytes of lines
abbrev pub in_line : ℕ → Bool
in_line b = in_word b || (b == 32)

-- a line has some words, and their bytes are those of words
abbrev pub IsLine : List (List ℕ) → Type 0
IsLine [] = ⊥
IsLine (word ∷ words) = AllByRecursion (Passes in_word) (word ∷ words)

-- a byte that passes is another than one that fails
another : (test : ℕ → Bool) (b c : ℕ) → test b ≡ true → test c ≡ false → b ≡ c → ⊥
another test b c passes fails same = both_ways (test b) (ap test same ∙ fails) passes

-- Two texts with something after each are cut at the first byte that fails the test.
pub cut_at : (test : ℕ → Bool) (c : ℕ) → test c ≡ false → (xs ys us vs : List ℕ) → Passes test xs → Passes test ys → Stops c us → Stops c vs → xs ++ us ≡ ys ++ vs → (xs ≡ ys) × (us ≡ vs)
cut_at test c fails [] [] us vs all_xs all_ys stops_us stops_vs same = (refl, same)
cut_at test c fails [] (y ∷ ys) [] vs all_xs all_ys stops_us stops_vs same = absurd cc
cut_at test c fails [] (y ∷ ys) (u ∷ us) vs all_xs all_ys stops_us stops_vs same =
    let first : y ≡ c = cc in
    absurd (another test y c (and_parts (test y) (list_all test ys) all_ys).0 fails first)
cut_at test c fails (x ∷ xs) [] us [] all_xs all_ys stops_us stops_vs same = absurd cc
cut_at test c fails (x ∷ xs) [] us (v ∷ vs) all_xs all_ys stops_us stops_vs same =
    let first : x ≡ c = cc in
    absurd (another test x c (and_parts (test x) (list_all test xs) all_xs).0 fails first)
cut_at test c fails (x ∷ xs) (y ∷ ys) us vs all_xs all_ys stops_us stops_vs same =
    let first : x ≡ y = cc in
    let later : xs ++ us ≡ ys ++ vs = cc in
    let rest = cut_at test c fails xs ys us vs (and_parts (test x) (list_all test xs) all_xs).1 (and_parts (test y) (list_all test ys) all_ys).1 stops_us stops_vs later in
    (λ i. first i ∷ rest.0 i, rest.1)

-- the same where the byte stands after both
pub cut_once : (test : ℕ → Bool) (c : ℕ) → test c ≡ false → (xs ys us vs : List ℕ) → Passes test xs → Passes test ys → xs ++ c ∷ us ≡ ys ++ c ∷ vs → (xs ≡ ys) × (us ≡ vs)
cut_once test c fails xs ys us vs all_xs all_ys same =
    let cut = cut_at test c fails xs ys (c ∷ us) (c ∷ vs) all_xs all_ys refl refl same in
    let later : us ≡ vs = cc in
    (cut.0, later)

-- the same where more stands after it
pub cut_piece : (test : ℕ → Bool) (c : ℕ) → test c ≡ false → (xs ys ds es us vs : List ℕ) → Passes test xs → Passes test ys → (xs ++ c ∷ ds) ++ us ≡ (ys ++ c ∷ es) ++ vs → (xs ≡ ys) × (ds ++ us ≡ es ++ vs)
cut_piece test c fails xs ys ds es us vs all_xs all_ys same =
    cut_once test c fails xs ys (ds ++ us) (es ++ vs) all_xs all_ys (sym (append_assoc xs (c ∷ ds) us) ∙ same ∙ append_assoc ys (c ∷ es) vs)

-- a text with a byte that fails does not pass
pub not_passes : (test : ℕ → Bool) (c : ℕ) → test c ≡ false → (xs ys : List ℕ) → Passes test (xs ++ c ∷ ys) → ⊥
not_passes test c fails [] ys all = both_ways (test c) fails (and_parts (test c) (list_all test ys) all).0
not_passes test c fails (x ∷ xs) ys all = not_passes test c fails xs ys (and_parts (test x) (list_all test (xs ++ c ∷ ys)) all).1

-- both of two texts pass as one text
pub both_pass : (test : ℕ → Bool) (xs ys : List ℕ) → Passes test xs → Passes test ys → Passes test (xs ++ ys)
both_pass test xs ys all_xs all_ys = list_all-append test xs ys ∙ and_from (list_all test xs) (list_all test ys) all_xs all_ys

-- a text passes a weaker test
pub passes_weaker : (test other : ℕ → Bool) → ((b : ℕ) → test b ≡ true → other b ≡ true) → (xs : List ℕ) → Passes test xs → Passes other xs
passes_weaker test other weaker [] all = refl
passes_weaker test other weaker (x ∷ xs) all =
    let both = and_parts (test x) (list_all test xs) all in
    and_from (other x) (list_all other xs) (weaker x both.0) (passes_weaker test other weaker xs both.1)

-- items pass with a byte between each two
pub join_passes : (test : ℕ → Bool) (c : ℕ) → test c ≡ true → (items : List (List ℕ)) → AllByRecursion (Passes test) items → Passes test (join_with_byte c items)
join_passes test c passes [] all = refl
join_passes test c passes (item ∷ []) all = all.0
join_passes test c passes (item ∷ next ∷ items) all =
    both_pass test item (c ∷ join_with_byte c (next ∷ items)) all.0 (and_from (test c) _ passes (join_passes test c passes (next ∷ items) all.1))

-- Items that are told one by one are told from their texts with a byte between each two.
pub join_tells : {X : Type 0} (IsItem : X → Type 0) (c : ℕ) (text : X → List ℕ) → Tells IsItem c text → (a : X) (more : List X) (b : X) (rest : List X) → AllByRecursion IsItem (a ∷ more) → AllByRecursion IsItem (b ∷ rest) → join_with_byte c (map text (a ∷ more)) ≡ join_with_byte c (map text (b ∷ rest)) → a ∷ more ≡ b ∷ rest
join_tells IsItem c text tells a [] b [] all_a all_b same =
    let cut = tells a b [] [] all_a.0 all_b.0 tt tt (append-nil (text a) ∙ same ∙ sym (append-nil (text b))) in
    ap (λ item. item ∷ []) cut.0
join_tells IsItem c text tells a [] b (next ∷ rest) all_a all_b same =
    let cut = tells a b [] (c ∷ join_with_byte c (map text (next ∷ rest))) all_a.0 all_b.0 tt refl (append-nil (text a) ∙ same) in
    absurd cc
join_tells IsItem c text tells a (next ∷ more) b [] all_a all_b same =
    let cut = tells a b (c ∷ join_with_byte c (map text (next ∷ more))) [] all_a.0 all_b.0 refl tt (same ∙ sym (append-nil (text b))) in
    absurd cc
join_tells IsItem c text tells a (next ∷ more) b (other ∷ rest) all_a all_b same =
    let cut = tells a b (c ∷ join_with_byte c (map text (next ∷ more))) (c ∷ join_with_byte c (map text (other ∷ rest))) all_a.0 all_b.0 refl refl same in
    let later : join_with_byte c (map text (next ∷ more)) ≡ join_with_byte c (map text (other ∷ rest)) = cc in
    let later_all = join_tells IsItem c text tells next more other rest all_a.1 all_b.1 later in
    λ i. cut.0 i ∷ later_all i

-- Texts in which a byte does not stand are told from the row of them with the byte between each two.
pub texts_tell : (test : ℕ → Bool) (c : ℕ) → test c ≡ false → (a : List ℕ) (more : List (List ℕ)) (b : List ℕ) (rest : List (List ℕ)) → AllByRecursion (Passes test) (a ∷ more) → AllByRecursion (Passes test) (b ∷ rest) → join_with_byte c (a ∷ more) ≡ join_with_byte c (b ∷ rest) → a ∷ more ≡ b ∷ rest
texts_tell test c fails a more b rest all_a all_b same =
    join_tells (Passes test) c (λ text. text) (λ x y us vs pass_x pass_y stops_us stops_vs later. cut_at test c fails x y us vs pass_x pass_y stops_us stops_vs later) a more b rest all_a all_b
    (ap (join_with_byte c) (map-id (a ∷ more)) ∙ same ∙ sym (ap (join_with_byte c) (map-id (b ∷ rest))))

-- words are told from their line
words_tell : (words others : List (List ℕ)) → IsLine words → IsLine others → join_with_byte 32 words ≡ join_with_byte 32 others → words ≡ others
words_tell [] others is_a is_b same = absurd is_a
words_tell (word ∷ words) [] is_a is_b same = absurd is_b
words_tell (word ∷ words) (other ∷ others) is_a is_b same = texts_tell in_word 32 refl word words other others is_a is_b same

-- the words of a line do not end it
in_line_all : (words : List (List ℕ)) → AllByRecursion (Passes in_word) words → AllByRecursion (Passes in_line) words
in_line_all [] all = tt
in_line_all (word ∷ words) all = (passes_weaker in_word in_line (λ b is. or_left (in_word b) (b == 32) is) word all.0, in_line_all words all.1)

-- nor does their row
pub row_passes : (words : List (List ℕ)) → IsLine words → Passes in_line (join_with_byte 32 words)
row_passes [] is = absurd is
row_passes (word ∷ words) is = join_passes in_line 32 refl (word ∷ words) (in_line_all (word ∷ words) is)

-- a line and what stands after it
pub line_after : (words : List (List ℕ)) (rest : List ℕ) → line_text words ++ rest ≡ join_with_byte 32 words ++ 10 ∷ rest
line_after words rest = append_assoc (join_with_byte 32 words) (10 ∷ []) rest

-- a line ends, so its text is not empty
line_some : (text rest : List ℕ) → [] ≡ text ++ 10 ∷ rest → ⊥
line_some [] rest same = absurd cc
line_some (b ∷ text) rest same = absurd cc

-- A line is told from its text and what stands after it, and so is that.
pub line_tells : (words others : List (List ℕ)) (us vs : List ℕ) → IsLine words → IsLine others → line_text words ++ us ≡ line_text others ++ vs → (words ≡ others) × (us ≡ vs)
line_tells words others us vs is_a is_b same =
    let cut = cut_once in_line 10 refl (join_with_byte 32 words) (join_with_byte 32 others) us vs (row_passes words is_a) (row_passes others is_b) (sym (line_after words us) ∙ same ∙ line_after others vs) in
    (words_tell words others is_a is_b cut.0, cut.1)

-- Lines are told from their text.
pub lines_tell : (lines others : List (List (List ℕ))) → AllByRecursion IsLine lines → AllByRecursion IsLine others → flat_map line_text lines ≡ flat_map line_text others → lines ≡ others
lines_tell [] [] all_a all_b same = refl
lines_tell [] (other ∷ others) all_a all_b same = absurd (line_some (join_with_byte 32 other) (flat_map line_text others) (same ∙ line_after other (flat_map line_text others)))
lines_tell (line ∷ lines) [] all_a all_b same = absurd (line_some (join_with_byte 32 line) (flat_map line_text lines) (sym same ∙ line_after line (flat_map line_text lines)))
lines_tell (line ∷ lines) (other ∷ others) all_a all_b same =
    let first = line_tells line other (flat_map line_text lines) (flat_map line_text others) all_a.0 all_b.0 same in
    let rest = lines_tell lines others all_a.1 all_b.1 first.1 in
    λ i. first.0 i ∷ rest i

-- ---- words after spaces

-- words after spaces, and then more words
pub spaced-append : (words others : List (List ℕ)) → spaced words ++ spaced others ≡ spaced (words ++ others)
unfolding spaced
spaced-append [] others = refl
spaced-append (word ∷ words) others = ap (λ text. 32 ∷ text) (append_assoc word (spaced words) (spaced others) ∙ ap (λ text. word ++ text) (spaced-append words others))

-- no words
pub spaced-nil : [] ≡ spaced []
unfolding spaced
spaced-nil = refl

-- one word
pub spaced-one : (word : List ℕ) → 32 ∷ word ≡ spaced (word ∷ [])
unfolding spaced
spaced-one word = ap (λ text. 32 ∷ text) (sym (append-nil word))

-- a line is its first word, and the others after spaces
pub bare_is : (word : List ℕ) (words : List (List ℕ)) → word ++ spaced words ≡ bare_line (word ∷ words)
unfolding spaced
bare_is word [] = append-nil word
bare_is word (next ∷ words) = ap (λ end. word ++ (32 ∷ end)) (bare_is next words)
