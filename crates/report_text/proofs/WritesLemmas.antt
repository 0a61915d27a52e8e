-- What is written in pieces, put together.
use Rattle.std.proofs.Common.{◌≡◌, ℕ, ◌+◌, ◌<◌, List, [], ◌∷◌, ◌++◌, map, take, length, Option, None, Some, sym, ap, refl, subst, ◌∙◌, codes, append_assoc, arith}
use Rattle.std.proofs.lemmas.List.{append-nil, length-map, length-take-le, map-append, take_more}
use Rattle.std.proofs.lemmas.Option.{same_Some, slice_get_within, get_or_from_slice_get}
use Rattle.std.specs.Fmt.{signed_decimal}
use Rattle.std.specs.Option.{option_map}
use Rattle.std.specs.Prelude.{Bool, false, IsTrue, ◌↔◌}
use Rattle.std.specs.List.{All, flat_map, join_with_byte, slice_get}
use Rattle.std.proofs.lemmas.Bool.{false≢true}
use Rattle.std.proofs.lemmas.List.Concat.{flat_map-append}
use Rattle.dot_lattices.specs.DotSums.{sum_told, total_of}
use Rattle.dot_lattices.specs.declared.amounts.Amounts.{Amounts}
use Rattle.dot_lattices.specs.declared.dot.Dot.{Dot}
use Rattle.outside.proofs.GatheringLemmas.{Adds-none, Adds-then, Adds-as, Adds-byte}
use Rattle.outside.specs.Gathering.{Adds}
use Rattle.outside.specs.declared.gathering.Out.{Out}
use Rattle.report_lines.proofs.RenderingLemmas.{spaced-append, bare_is}
use Rattle.report_lines.specs.Text.{row_or, braced, sums_text, counter_word, line_text, spaced}
use Rattle.report_text.specs.Writes.{between}
use Rattle.session_known.specs.declared.script.Script.{Script}

-- what holds of each item holds of the one at a place
pub All-at : {A : Type 0} (P : A → Type 0) (items : List A) (i : ℕ) (item : A) → slice_get items i ≡ Some item → All P items → P item
All-at P items i item got all = subst P (get_or_from_slice_get items i item item got) (all i item (slice_get_within items i item got))

-- ---- words and lines

-- a list that is told not to be empty has items
pub has_items : {A : Type 0} (items : List A) (empty : Bool) → (IsTrue empty ↔ (items ≡ [])) → empty ≡ false → 0 < length items
has_items [] empty tells is = absurd (false≢true (sym is ∙ tells.1 refl))
has_items (item ∷ items) empty tells is = omega arith

-- a row, where there is an item
pub row_some : {A : Type 0} (none : List ℕ) (c : ℕ) (text : A → List ℕ) (items : List A) → 0 < length items → row_or none c (map text items) ≡ join_with_byte c (map text items)
row_some none c text [] some = absurd (omega arith)
row_some none c text (item ∷ items) some = refl

-- words in braces, where there is one
pub braced_some : (items : List (List ℕ)) → 0 < length items → braced items ≡ codes "{" ++ (join_with_byte 44 items ++ codes "}")
braced_some [] some = absurd (omega arith)
braced_some (item ∷ items) some = refl

-- No words were written.
pub Adds-no_words : {K : Type 0} {written : K → Option (List ℕ)} {faults : K → ℕ} {a : Out K} → Adds written faults a a (spaced [])
unfolding spaced
Adds-no_words = Adds-none

-- Words were written and then others.
pub Adds-words : {K : Type 0} {written : K → Option (List ℕ)} {faults : K → ℕ} {a b c : Out K} (words others : List (List ℕ)) → Adds written faults a b (spaced words) → Adds written faults b c (spaced others) → Adds written faults a c (spaced (words ++ others))
Adds-words words others first second = Adds-as (spaced-append words others) (Adds-then first second)

-- A word was written and then others.
pub Adds-word : {K : Type 0} {written : K → Option (List ℕ)} {faults : K → ℕ} {a b c : Out K} (word : List ℕ) (words : List (List ℕ)) → Adds written faults a b (spaced (word ∷ [])) → Adds written faults b c (spaced words) → Adds written faults a c (spaced (word ∷ words))
Adds-word word words first second = Adds-words (word ∷ []) words first second

-- Two words were written and then others.
pub Adds-two_words : {K : Type 0} {written : K → Option (List ℕ)} {faults : K → ℕ} {a b c : Out K} (v w : List ℕ) (words : List (List ℕ)) → Adds written faults a b (spaced (v ∷ w ∷ [])) → Adds written faults b c (spaced words) → Adds written faults a c (spaced (v ∷ w ∷ words))
Adds-two_words v w words first second = Adds-words (v ∷ w ∷ []) words first second

-- A space was written and then a word.
pub Adds-spaced : {K : Type 0} {written : K → Option (List ℕ)} {faults : K → ℕ} {a b c : Out K} {word : List ℕ} → Adds written faults a b (32 ∷ []) → Adds written faults b c word → Adds written faults a c (spaced (word ∷ []))
unfolding spaced
Adds-spaced {word = word} space first = Adds-as (ap (λ text. 32 ∷ text) (sym (append-nil word))) (Adds-then space first)

-- a line is its first word, the others after spaces, and a line feed
line_is : (word : List ℕ) (words : List (List ℕ)) → word ++ (spaced words ++ 10 ∷ []) ≡ line_text (word ∷ words)
line_is word words = sym (append_assoc word (spaced words) (10 ∷ [])) ∙ ap (λ text. text ++ 10 ∷ []) (bare_is word words)

-- A word was written, others after it, and a line feed.
pub Adds-line : {K : Type 0} {written : K → Option (List ℕ)} {faults : K → ℕ} {a b c d : Out K} (word : List ℕ) (words : List (List ℕ)) → Adds written faults a b word → Adds written faults b c (spaced words) → Adds written faults c d (10 ∷ []) → Adds written faults a d (line_text (word ∷ words))
Adds-line word words first others end = Adds-as (line_is word words) (Adds-then first (Adds-then others end))

-- what puts words together
pub ruleset words = (Adds-spaced, Adds-word, Adds-two_words)

-- what puts together the parts of a word
pub ruleset parts = (Adds-then, Adds-byte, append_assoc)

-- ---- lists between separators

-- one more piece, after a separator unless it is the first
join_with_byte-push : (c : ℕ) (pieces : List (List ℕ)) (piece : List ℕ) → join_with_byte c (pieces ++ piece ∷ []) ≡ join_with_byte c pieces ++ (between c (length pieces) ++ piece)
join_with_byte-push c [] piece = refl
join_with_byte-push c (first ∷ []) piece = refl
join_with_byte-push c (first ∷ next ∷ pieces) piece =
    ap (λ joined. first ++ (c ∷ joined)) (join_with_byte-push c (next ∷ pieces) piece) ∙ sym (append_assoc first (c ∷ join_with_byte c (next ∷ pieces)) (c ∷ piece))

-- the first items and one more
pub take_one_more : {A : Type 0} (items : List A) (i : ℕ) (item : A) → slice_get items i ≡ Some item → take (i + 1) items ≡ take i items ++ item ∷ []
take_one_more items i item got = take_more items i item (slice_get_within items i item got) ∙ ap (λ last. take i items ++ last ∷ []) (get_or_from_slice_get items i item item got)

-- the texts of the first items and one more
join_one_more : {A : Type 0} (c : ℕ) (text : A → List ℕ) (items : List A) (i : ℕ) (item : A) → slice_get items i ≡ Some item → join_with_byte c (map text (take (i + 1) items)) ≡ join_with_byte c (map text (take i items)) ++ (between c i ++ text item)
join_one_more c text items i item got =
    let within = slice_get_within items i item got in
    let long : length (map text (take i items)) ≡ i = length-map (take i items) text ∙ length-take-le i items (omega arith) in
    ap (λ first. join_with_byte c (map text first)) (take_one_more items i item got)
    ∙ ap (join_with_byte c) (map-append text (take i items) (item ∷ []))
    ∙ join_with_byte-push c (map text (take i items)) (text item)
    ∙ ap (λ place. join_with_byte c (map text (take i items)) ++ (between c place ++ text item)) long

-- Of a list between separators the first items were written, and then one more.
pub Adds-item : {K A : Type 0} {written : K → Option (List ℕ)} {faults : K → ℕ} {a b d : Out K} (c : ℕ) (text : A → List ℕ) (items : List A) (i : ℕ) (item : A)
    → slice_get items i ≡ Some item → Adds written faults a b (join_with_byte c (map text (take i items))) → Adds written faults b d (between c i ++ text item)
    → Adds written faults a d (join_with_byte c (map text (take (i + 1) items)))
Adds-item c text items i item got before here = Adds-as (sym (join_one_more c text items i item got)) (Adds-then before here)

-- ---- one text after another

-- the texts of the first items and one more
flat_map_one_more : {A : Type 0} (text : A → List ℕ) (items : List A) (i : ℕ) (item : A) → slice_get items i ≡ Some item → flat_map text (take (i + 1) items) ≡ flat_map text (take i items) ++ text item
flat_map_one_more text items i item got =
    ap (flat_map text) (take_one_more items i item got) ∙ flat_map-append text (take i items) (item ∷ []) ∙ ap (λ last. flat_map text (take i items) ++ last) (append-nil (text item))

-- Of texts one after another those of the first items were written, and then one more.
pub Adds-next : {K A : Type 0} {written : K → Option (List ℕ)} {faults : K → ℕ} {a b d : Out K} (text : A → List ℕ) (items : List A) (i : ℕ) (item : A)
    → slice_get items i ≡ Some item → Adds written faults a b (flat_map text (take i items)) → Adds written faults b d (text item)
    → Adds written faults a d (flat_map text (take (i + 1) items))
Adds-next text items i item got before here = Adds-as (sym (flat_map_one_more text items i item got)) (Adds-then before here)

-- ---- counters

-- a counter that has dots
pub counter_some : (script : Script) (sums : List (Dot × Amounts)) → 0 < length sums → counter_word script sums ≡ signed_decimal (total_of sums) ++ (codes "{" ++ (sums_text script sums ++ codes "}"))
counter_some script [] some = absurd (omega arith)
counter_some script (entry ∷ sums) some = refl

-- the entry at a place of which the numbers are told
pub sum_at : (sums : List (Dot × Amounts)) (i session number added taken : ℕ) → Some (session, number, added, taken) ≡ option_map sum_told (slice_get sums i) → slice_get sums i ≡ Some (record { session = session; number = number }, record { added = added; taken = taken })
sum_at sums i session number added taken told = of_found (slice_get sums i) told
  where
    of_found : (found : Option (Dot × Amounts)) → Some (session, number, added, taken) ≡ option_map sum_told found → found ≡ Some (record { session = session; number = number }, record { added = added; taken = taken })
    of_found None told = absurd cc
    of_found (Some entry) told =
        let it : sum_told entry ≡ (session, number, added, taken) = sym (same_Some (session, number, added, taken) (sum_told entry) told) in
        λ j. Some (record { session = (it j).0; number = (it j).1 }, record { added = (it j).2; taken = (it j).3 })
