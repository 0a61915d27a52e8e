-- Values of one kind are told from their words.
use Rattle.std.specs.Prelude.{◌≡◌, ◌⊎◌, ℕ, ◌<◌, ◌^◌, true, false, List, [], ◌∷◌, ◌++◌, map, drop, length, codes, All}
use Rattle.std.specs.Char.{is_ascii_digit}
use Rattle.std.specs.Fmt.{decimal, signed_decimal}
use Rattle.std.specs.List.{list_all, AllByRecursion}
use Rattle.std.proofs.Common.{refl, sym, ap, ◌∙◌, inl, inr, arith}
use Rattle.std.proofs.lemmas.Bool.{true≢false, false≢true, and_from}
use Rattle.std.proofs.lemmas.Fmt.{decimal_injective}
use Rattle.std.proofs.lemmas.List.{append_cancel_right, map-id}
use Rattle.std.proofs.lemmas.List.Elements.{recursion_from_All}
use Rattle.basic_lattices.specs.Stamped.{IsStamped}
use Rattle.basic_lattices.specs.TextSet.{IsTextSet}
use Rattle.basic_lattices.specs.declared.stamped.Stamped.{Stamped}
use Rattle.composed_value.specs.Value.{IsFields}
use Rattle.composed_value.specs.declared.kind.Kind.{Kind}
use Rattle.composed_value.specs.declared.value.Value.{Value}
use Rattle.composed_value.specs.declared.value.Value.TheVariants.{Max, Or, Set, Map, Last, Versions, Counter, OrSet}
use Rattle.lattice_laws.specs.Spelling.{is_spelling_byte}
use Rattle.lattice_laws.specs.declared.maybe.Maybe.TheVariants.{Bottom, Is}
use Rattle.session_known.specs.Form.{NamesSessions, IsValueIn}
use Rattle.placement.specs.Config.{IsOneOf}
use Rattle.session_known.specs.Script.{session_name}
use Rattle.session_known.specs.declared.script.Script.{Script}
use Rattle.dot_lattices.specs.DotSet.{PlainDotSet, IsDotSet}
use Rattle.dot_lattices.specs.DotSums.{IsDotSums, total_of}
use Rattle.dot_lattices.specs.declared.amounts.Amounts.{Amounts}
use Rattle.dot_lattices.specs.declared.dot.Dot.{Dot}
use Rattle.dot_lattices.specs.declared.insert.Insert.{Insert}
use Rattle.version_antichain.specs.Versions.{IsVersions}
use Rattle.version_antichain.specs.declared.version.Version.{Version}
use Rattle.report_lines.specs.Parts.{IsClockedIn, IsSumIn, IsInsertIn}
use Rattle.report_lines.proofs.ClocksLemmas.{count_tells, count_passes, clocked_told, clocked_marked, clocked_passes}
use Rattle.report_lines.proofs.NamesLemmas.{Spelled, TellsNames, signed_spelled, spelled_made, word_spelled, decimal_digits, decimal_spelled, session_spelled, session_told}
use Rattle.report_lines.proofs.RenderingLemmas.{Passes, Tells, made_of, word_marks, in_word, cut_at, cut_once, cut_piece, not_passes, both_pass, join_passes, join_tells}
use Rattle.report_lines.proofs.RowsLemmas.{IsMarked, all_map, row_tells, row_passes, joined_tells, braced_tells, braced_passes}
use Rattle.report_lines.specs.Text.{count_text, field_text, stamped_text, version_text, versions_word, sum_text, counter_word, insert_text, inserts_text, removal_text, removals_text, or_set_word, braced, value_word}

-- ---- words and fields

-- a word of a set is told
word_tells : Tells Spelled 44 (λ (word : List ℕ). word)
word_tells a b us vs is_a is_b stops_us stops_vs same = cut_at is_spelling_byte 44 refl a b us vs is_a is_b stops_us stops_vs same

-- the words of a set are spelled
words_spelled : (words : List (List ℕ)) → IsTextSet words → AllByRecursion Spelled words
words_spelled words is = recursion_from_All Spelled words (λ k d lt. word_spelled _ (is.are_members k d lt))

-- so their bytes are those of words
words_pass : (words : List (List ℕ)) → AllByRecursion Spelled words → AllByRecursion (Passes in_word) words
words_pass [] all = tt
words_pass (word ∷ words) all = (spelled_made word_marks word all.0, words_pass words all.1)

-- the words of a set are told
set_told : (a b : List (List ℕ)) → IsTextSet a → IsTextSet b → braced a ≡ braced b → a ≡ b
set_told a b is_a is_b same = braced_tells Spelled (λ word. word) word_tells a b (words_spelled a is_a) (words_spelled b is_b) (ap braced (map-id a) ∙ same ∙ sym (ap braced (map-id b)))

-- a field is spelled, and its number has 64 bits
abbrev IsField : List ℕ × ℕ → Type 0
IsField field = Spelled field.0 × (field.1 < 2 ^ 64)

-- the fields of a map are such
fields_are : (fields : List (List ℕ × ℕ)) → IsFields fields → AllByRecursion IsField fields
fields_are fields is = recursion_from_All IsField fields (λ k d lt. let entry = is.are_entries k d lt in (word_spelled _ entry.0, entry.1))

-- a field with its number is told
field_tells : Tells IsField 44 field_text
field_tells a b us vs is_a is_b stops_us stops_vs same =
    let cut = cut_piece is_spelling_byte 61 refl a.0 b.0 (decimal a.1) (decimal b.1) us vs is_a.0 is_b.0 same in
    let later = cut_at is_spelling_byte 44 refl (decimal a.1) (decimal b.1) us vs (decimal_spelled a.1) (decimal_spelled b.1) stops_us stops_vs cut.1 in
    let number = decimal_injective a.1 b.1 is_a.1 is_b.1 later.0 in
    (λ i. (cut.0 i, number i), later.1)

-- the bytes of a field with its number
field_passes : (field : List ℕ × ℕ) → IsField field → Passes in_word (field_text field)
field_passes field is = both_pass in_word field.0 (codes "=" ++ decimal field.1) (spelled_made word_marks field.0 is.0) (spelled_made word_marks (decimal field.1) (decimal_spelled field.1))

-- ---- sets with removal

-- a set that has an insert or a removed word is in braces
pub or_set_braced : (script : Script) (inserts : List Insert) (removals : List (List ℕ × List (ℕ × ℕ))) → (0 < length inserts) ⊎ (0 < length removals) → or_set_word script inserts removals ≡ codes "{" ++ (inserts_text script inserts ++ (codes ";" ++ (removals_text script removals ++ codes "}")))
or_set_braced script [] [] some = absurd (omega (arith, some))
or_set_braced script [] (removal ∷ removals) some = refl
or_set_braced script (insert ∷ inserts) removals some = refl

module _ (script : Script) (names : TellsNames script) where
  -- ---- stamped words

  -- a stamped word is told
  stamped_told : (a b : Stamped) → IsStamped a → IsStamped b → IsOneOf (length script.sessions) a.session → IsOneOf (length script.sessions) b.session → stamped_text script a ≡ stamped_text script b → a ≡ b
  stamped_told a b is_a is_b in_a in_b same =
      let fits_a : a.place < 2 ^ 64 = omega (arith, is_a.place_fits) in
      let fits_b : b.place < 2 ^ 64 = omega (arith, is_b.place_fits) in
      let first = cut_once is_spelling_byte 47 refl a.word b.word _ _ (word_spelled a.word is_a.is_word) (word_spelled b.word is_b.is_word) same in
      let second = cut_once is_spelling_byte 47 refl (decimal a.number) (decimal b.number) _ _ (decimal_spelled a.number) (decimal_spelled b.number) first.1 in
      let third = cut_once is_spelling_byte 47 refl (session_name script a.session) (session_name script b.session) (decimal a.place) (decimal b.place) (session_spelled script names a.session) (session_spelled script names b.session) second.1 in
      let number = decimal_injective a.number b.number is_a.number_fits is_b.number_fits second.0 in
      let session = session_told script names a.session b.session in_a in_b third.0 in
      let place = decimal_injective a.place b.place fits_a fits_b third.1 in
      λ i. record { number = number i; session = session i; place = place i; word = first.0 i }

  -- it has a slash
  stamped_marked : (stamped : Stamped) → Spelled (stamped_text script stamped) → ⊥
  stamped_marked stamped spelled = not_passes is_spelling_byte 47 refl stamped.word _ spelled

  -- the bytes of a stamped word
  stamped_passes : (stamped : Stamped) → IsStamped stamped → Passes in_word (stamped_text script stamped)
  stamped_passes stamped is =
      let place = spelled_made word_marks (decimal stamped.place) (decimal_spelled stamped.place) in
      let session = both_pass in_word (session_name script stamped.session) (codes "/" ++ decimal stamped.place) (spelled_made word_marks (session_name script stamped.session) (session_spelled script names stamped.session)) place in
      let number = both_pass in_word (decimal stamped.number) (codes "/" ++ (session_name script stamped.session ++ (codes "/" ++ decimal stamped.place))) (spelled_made word_marks (decimal stamped.number) (decimal_spelled stamped.number)) session in
      both_pass in_word stamped.word _ (spelled_made word_marks stamped.word (word_spelled stamped.word is.is_word)) number

  -- ---- versions

  -- a version in form
  abbrev IsVersionIn : Version → Type 0
  IsVersionIn version = IsClockedIn script (version.word, version.clock)

  -- the versions of a value in form are such
  versions_are : (versions : List Version) → IsVersions versions → All (λ version. NamesSessions script version.clock) versions → AllByRecursion IsVersionIn versions
  versions_are versions are sessions =
      recursion_from_All IsVersionIn versions (λ k d lt. let version = are.is_set.are_members k d lt in (version.is_word, record { is_clock = version.is_clock; sessions = sessions k d lt }))

  -- a version is told, and so is what stands after it
  version_tells : Tells IsVersionIn 124 (version_text script)
  version_tells a b us vs is_a is_b stops_us stops_vs same =
      let told = clocked_told script names (a.word, a.clock) (b.word, b.clock) us vs is_a is_b same in
      (λ i. record { word = (told.0 i).0; clock = (told.0 i).1 }, told.1)

  -- it is marked
  version_marked : IsMarked IsVersionIn (version_text script)
  version_marked version is spelled = clocked_marked script names (version.word, version.clock) spelled

  -- the bytes of the word of versions
  versions_pass : (versions : List Version) → AllByRecursion IsVersionIn versions → Passes in_word (versions_word script versions)
  versions_pass versions all = row_passes in_word (codes "none") 124 refl refl (map (version_text script) versions) (all_map IsVersionIn (Passes in_word) (version_text script) (λ version is. clocked_passes script names word_marks refl refl refl refl (version.word, version.clock) is) versions all)

  -- ---- counters

  -- the dots of a value in form are such
  sums_are : (sums : List (Dot × Amounts)) → IsDotSums sums → All (λ entry. IsOneOf (length script.sessions) entry.0.session) sums → AllByRecursion (IsSumIn script) sums
  sums_are sums are sessions = recursion_from_All (IsSumIn script) sums (λ k d lt. let entry = are.are_entries k d lt in ((sessions k d lt, entry.0.number_fits), entry.1))

  -- a dot is told with its amounts, and so is what stands after them
  pub sum_tells : Tells (IsSumIn script) 44 (sum_text script)
  sum_tells a b us vs is_a is_b stops_us stops_vs same =
      let fits : (n : ℕ) → n < 2 ^ 32 → n < 2 ^ 64 = λ n fits. omega (arith, fits) in
      let dot_a : ℕ × ℕ = (a.0.session, a.0.number) in
      let dot_b : ℕ × ℕ = (b.0.session, b.0.number) in
      let colon = codes ":" in
      let first = cut_piece (made_of colon) 43 refl (count_text script dot_a) (count_text script dot_b) _ _ us vs (count_passes script names colon refl dot_a is_a.0) (count_passes script names colon refl dot_b is_b.0) same in
      let second = cut_piece is_ascii_digit 45 refl (decimal a.1.added) (decimal b.1.added) (decimal a.1.taken) (decimal b.1.taken) us vs (decimal_digits a.1.added) (decimal_digits b.1.added) first.1 in
      let third = cut_at is_spelling_byte 44 refl (decimal a.1.taken) (decimal b.1.taken) us vs (decimal_spelled a.1.taken) (decimal_spelled b.1.taken) stops_us stops_vs second.1 in
      let dot = (count_tells script names dot_a dot_b [] [] is_a.0 is_b.0 tt tt (ap (λ text. text ++ []) first.0)).0 in
      let added = decimal_injective a.1.added b.1.added (fits a.1.added is_a.1.added_fits) (fits b.1.added is_b.1.added_fits) second.0 in
      let taken = decimal_injective a.1.taken b.1.taken (fits a.1.taken is_a.1.taken_fits) (fits b.1.taken is_b.1.taken_fits) third.0 in
      (λ i. (record { session = (dot i).0; number = (dot i).1 }, record { added = added i; taken = taken i }), third.1)

  -- their bytes
  pub sum_passes : (marks : List ℕ) → made_of marks 58 ≡ true → made_of marks 43 ≡ true → (entry : Dot × Amounts) → IsSumIn script entry → Passes (made_of marks) (sum_text script entry)
  sum_passes marks colon plus entry is =
      let taken = spelled_made marks (decimal entry.1.taken) (decimal_spelled entry.1.taken) in
      let added = both_pass (made_of marks) (decimal entry.1.added) (codes "-" ++ decimal entry.1.taken) (spelled_made marks (decimal entry.1.added) (decimal_spelled entry.1.added)) taken in
      both_pass (made_of marks) (count_text script (entry.0.session, entry.0.number)) _ (count_passes script names marks colon (entry.0.session, entry.0.number) is.0) (and_from (made_of marks 43) _ plus added)

  -- a counter is told: the total ends at the brace
  counter_told : (a b : List (Dot × Amounts)) → AllByRecursion (IsSumIn script) a → AllByRecursion (IsSumIn script) b → counter_word script a ≡ counter_word script b → a ≡ b
  counter_told [] [] all_a all_b same = refl
  counter_told [] (y ∷ ys) all_a all_b same = absurd (not_passes is_spelling_byte 123 refl (signed_decimal (total_of (y ∷ ys))) _ (sym (ap (list_all is_spelling_byte) same)))
  counter_told (x ∷ xs) [] all_a all_b same = absurd (not_passes is_spelling_byte 123 refl (signed_decimal (total_of (x ∷ xs))) _ (ap (list_all is_spelling_byte) same))
  counter_told (x ∷ xs) (y ∷ ys) all_a all_b same =
      let cut = cut_once is_spelling_byte 123 refl (signed_decimal (total_of (x ∷ xs))) (signed_decimal (total_of (y ∷ ys))) _ _ (signed_spelled (total_of (x ∷ xs))) (signed_spelled (total_of (y ∷ ys))) same in
      join_tells (IsSumIn script) 44 (sum_text script) sum_tells x xs y ys all_a all_b (append_cancel_right _ _ (codes "}") cut.1)

  -- the bytes of a counter's word
  counter_passes : (sums : List (Dot × Amounts)) → AllByRecursion (IsSumIn script) sums → Passes in_word (counter_word script sums)
  counter_passes [] all = refl
  counter_passes (entry ∷ sums) all =
      both_pass in_word (signed_decimal (total_of (entry ∷ sums))) _ (spelled_made word_marks (signed_decimal (total_of (entry ∷ sums))) (signed_spelled (total_of (entry ∷ sums))))
      (braced_passes word_marks refl refl refl (map (sum_text script) (entry ∷ sums)) (all_map (IsSumIn script) (Passes in_word) (sum_text script) (sum_passes word_marks refl refl) (entry ∷ sums) all))

  -- ---- sets with removal

  -- the inserts of a value in form are such
  inserts_are : (set : PlainDotSet) → IsDotSet set → All (λ insert. IsOneOf (length script.sessions) insert.dot.session) set.inserts → AllByRecursion (IsInsertIn script) set.inserts
  inserts_are set is sessions = recursion_from_All (IsInsertIn script) set.inserts (λ k d lt. let insert = is.inserts.are_members k d lt in (insert.is_word, (sessions k d lt, insert.is_dot.number_fits)))

  -- and so are its removals
  removals_are : (set : PlainDotSet) → IsDotSet set → All (λ removal. NamesSessions script removal.1) set.removals → AllByRecursion (IsClockedIn script) set.removals
  removals_are set is sessions = recursion_from_All (IsClockedIn script) set.removals (λ k d lt. let entry = is.removals.are_entries k d lt in (entry.0, record { is_clock = entry.1.0; sessions = sessions k d lt }))

  -- an insert is told, and so is what stands after it
  pub insert_tells : Tells (IsInsertIn script) 44 (insert_text script)
  insert_tells a b us vs is_a is_b stops_us stops_vs same =
      let dot_a : ℕ × ℕ = (a.dot.session, a.dot.number) in
      let dot_b : ℕ × ℕ = (b.dot.session, b.dot.number) in
      let cut = cut_piece is_spelling_byte 64 refl a.word b.word (count_text script dot_a) (count_text script dot_b) us vs (word_spelled a.word is_a.0) (word_spelled b.word is_b.0) same in
      let dot = count_tells script names dot_a dot_b us vs is_a.1 is_b.1 stops_us stops_vs cut.1 in
      (λ i. record { word = cut.0 i; dot = record { session = (dot.0 i).0; number = (dot.0 i).1 } }, dot.1)

  -- it has an at sign
  insert_marked : IsMarked (IsInsertIn script) (insert_text script)
  insert_marked insert is spelled = not_passes is_spelling_byte 64 refl insert.word _ spelled

  -- its bytes
  pub insert_passes : (marks : List ℕ) → made_of marks 58 ≡ true → made_of marks 64 ≡ true → (insert : Insert) → IsInsertIn script insert → Passes (made_of marks) (insert_text script insert)
  insert_passes marks colon at insert is =
      both_pass (made_of marks) insert.word (codes "@" ++ count_text script (insert.dot.session, insert.dot.number)) (spelled_made marks insert.word (word_spelled insert.word is.0))
      (and_from (made_of marks 64) _ at (count_passes script names marks colon (insert.dot.session, insert.dot.number) is.1))

  -- the bytes of a row of inserts
  pub inserts_pass : (marks : List ℕ) → made_of marks 58 ≡ true → made_of marks 64 ≡ true → made_of marks 44 ≡ true → (inserts : List Insert) → AllByRecursion (IsInsertIn script) inserts → Passes (made_of marks) (inserts_text script inserts)
  inserts_pass marks colon at comma inserts all = join_passes (made_of marks) 44 comma (map (insert_text script) inserts) (all_map (IsInsertIn script) (Passes (made_of marks)) (insert_text script) (insert_passes marks colon at) inserts all)

  -- a removed word is told, and so is what stands after it
  removal_tells : Tells (IsClockedIn script) 44 (removal_text script)
  removal_tells a b us vs is_a is_b stops_us stops_vs same = clocked_told script names a b us vs is_a is_b same

  -- it is marked
  removal_marked : IsMarked (IsClockedIn script) (removal_text script)
  removal_marked removal is spelled = clocked_marked script names removal spelled

  -- inserts and removals in braces are told: a semicolon stands between them
  parts_told : (a b : PlainDotSet) → AllByRecursion (IsInsertIn script) a.inserts → AllByRecursion (IsInsertIn script) b.inserts → AllByRecursion (IsClockedIn script) a.removals → AllByRecursion (IsClockedIn script) b.removals
      → inserts_text script a.inserts ++ (codes ";" ++ (removals_text script a.removals ++ codes "}")) ≡ inserts_text script b.inserts ++ (codes ";" ++ (removals_text script b.removals ++ codes "}")) → a ≡ b
  parts_told a b in_a in_b out_a out_b same =
      let marks = codes ",:@" in
      let cut = cut_once (made_of marks) 59 refl (inserts_text script a.inserts) (inserts_text script b.inserts) _ _ (inserts_pass marks refl refl refl a.inserts in_a) (inserts_pass marks refl refl refl b.inserts in_b) same in
      let inserts = joined_tells (IsInsertIn script) 44 (insert_text script) insert_tells insert_marked a.inserts b.inserts in_a in_b cut.0 in
      let removals = joined_tells (IsClockedIn script) 44 (removal_text script) removal_tells removal_marked a.removals b.removals out_a out_b (append_cancel_right _ _ (codes "}") cut.1) in
      λ i. record { inserts = inserts i; removals = removals i }

  -- a set is none, or in braces
  abbrev InBraces : PlainDotSet → Type 0
  InBraces set = or_set_word script set.inserts set.removals ≡ codes "{" ++ (inserts_text script set.inserts ++ (codes ";" ++ (removals_text script set.removals ++ codes "}")))

  none_or_braced : (inserts : List Insert) (removals : List (List ℕ × List (ℕ × ℕ))) → ((inserts ≡ []) × (removals ≡ [])) ⊎ InBraces (record { inserts = inserts; removals = removals })
  none_or_braced [] [] = inl (refl, refl)
  none_or_braced [] (removal ∷ removals) = inr refl
  none_or_braced (insert ∷ inserts) removals = inr refl

  -- what is none is not in braces
  none_braced : (a b : PlainDotSet) → (a.inserts ≡ []) × (a.removals ≡ []) → InBraces b → or_set_word script a.inserts a.removals ≡ or_set_word script b.inserts b.removals → ⊥
  none_braced a b none braced same = true≢false (ap (list_all is_spelling_byte) ((λ i. or_set_word script (sym none.0 i) (sym none.1 i)) ∙ same ∙ braced))

  -- a set with removal is told
  or_set_told : (a b : PlainDotSet) → AllByRecursion (IsInsertIn script) a.inserts → AllByRecursion (IsInsertIn script) b.inserts → AllByRecursion (IsClockedIn script) a.removals → AllByRecursion (IsClockedIn script) b.removals → or_set_word script a.inserts a.removals ≡ or_set_word script b.inserts b.removals → a ≡ b
  or_set_told a b in_a in_b out_a out_b same = elim (none_or_braced a.inserts a.removals) [
    | inl none_a ↦ elim (none_or_braced b.inserts b.removals) [
      | inl none_b ↦ λ i. record { inserts = (none_a.0 ∙ sym none_b.0) i; removals = (none_a.1 ∙ sym none_b.1) i }
      | inr braced_b ↦ absurd (none_braced a b none_a braced_b same)
    ]
    | inr braced_a ↦ elim (none_or_braced b.inserts b.removals) [
      | inl none_b ↦ absurd (none_braced b a none_b braced_a (sym same))
      | inr braced_b ↦ parts_told a b in_a in_b out_a out_b (ap (drop 1) (sym braced_a ∙ same ∙ braced_b))
    ]
  ]

  -- the bytes of its word
  or_set_passes : (inserts : List Insert) (removals : List (List ℕ × List (ℕ × ℕ))) → AllByRecursion (IsInsertIn script) inserts → AllByRecursion (IsClockedIn script) removals → Passes in_word (or_set_word script inserts removals)
  or_set_passes inserts removals all_in all_out = elim (none_or_braced inserts removals) [
    | inl none ↦ ap (list_all in_word) (λ i. or_set_word script (none.0 i) (none.1 i))
    | inr braced ↦
        let removed = join_passes in_word 44 refl (map (removal_text script) removals) (all_map (IsClockedIn script) (Passes in_word) (removal_text script) (clocked_passes script names word_marks refl refl refl refl) removals all_out) in
        ap (list_all in_word) braced
        ∙ both_pass in_word (inserts_text script inserts) _ (inserts_pass word_marks refl refl refl inserts all_in) (both_pass in_word (removals_text script removals) (codes "}") removed refl)
  ]

  -- ---- values

  -- Two values of one kind are told from their words.
  pub value_told : (kind : Kind) (a b : Value) → IsValueIn script kind a → IsValueIn script kind b → value_word script a ≡ value_word script b → a ≡ b
  value_told kind (Max Bottom) (Max Bottom) is_a is_b same = refl
  value_told kind (Max Bottom) (Max (Is n)) is_a is_b same = absurd (false≢true (ap (list_all is_ascii_digit) same ∙ decimal_digits n))
  value_told kind (Max (Is m)) (Max Bottom) is_a is_b same = absurd (false≢true (ap (list_all is_ascii_digit) (sym same) ∙ decimal_digits m))
  value_told kind (Max (Is m)) (Max (Is n)) is_a is_b same = ap (λ k. Max (Is k)) (decimal_injective m n is_a.is_value is_b.is_value same)
  value_told kind (Or true) (Or true) is_a is_b same = refl
  value_told kind (Or true) (Or false) is_a is_b same = absurd (omega (arith, ap length same))
  value_told kind (Or false) (Or true) is_a is_b same = absurd (omega (arith, ap length same))
  value_told kind (Or false) (Or false) is_a is_b same = refl
  value_told kind (Set a) (Set b) is_a is_b same = ap Set (set_told a b is_a.is_value is_b.is_value same)
  value_told kind (Map a) (Map b) is_a is_b same = ap Map (braced_tells IsField field_text field_tells a b (fields_are a is_a.is_value) (fields_are b is_b.is_value) same)
  value_told kind (Last Bottom) (Last Bottom) is_a is_b same = refl
  value_told kind (Last Bottom) (Last (Is b)) is_a is_b same = absurd (stamped_marked b (sym (ap (list_all is_spelling_byte) same)))
  value_told kind (Last (Is a)) (Last Bottom) is_a is_b same = absurd (stamped_marked a (ap (list_all is_spelling_byte) same))
  value_told kind (Last (Is a)) (Last (Is b)) is_a is_b same = ap (λ stamped. Last (Is stamped)) (stamped_told a b is_a.is_value is_b.is_value is_a.sessions is_b.sessions same)
  value_told kind (Versions a) (Versions b) is_a is_b same = ap Versions (row_tells IsVersionIn (codes "none") 124 (version_text script) refl version_tells version_marked a b (versions_are a is_a.is_value is_a.sessions) (versions_are b is_b.is_value is_b.sessions) same)
  value_told kind (Counter a) (Counter b) is_a is_b same = ap Counter (counter_told a b (sums_are a is_a.is_value is_a.sessions) (sums_are b is_b.is_value is_b.sessions) same)
  value_told kind (OrSet a) (OrSet b) is_a is_b same =
      ap OrSet (or_set_told a b (inserts_are a is_a.is_value is_a.sessions.0) (inserts_are b is_b.is_value is_b.sessions.0) (removals_are a is_a.is_value is_a.sessions.1) (removals_are b is_b.is_value is_b.sessions.1) same)
  value_told kind a b is_a is_b same = absurd cc

  -- the bytes of a value's word
  pub value_passes : (kind : Kind) (value : Value) → IsValueIn script kind value → Passes in_word (value_word script value)
  value_passes kind (Max Bottom) is = refl
  value_passes kind (Max (Is n)) is = spelled_made word_marks (decimal n) (decimal_spelled n)
  value_passes kind (Or true) is = refl
  value_passes kind (Or false) is = refl
  value_passes kind (Set words) is = braced_passes word_marks refl refl refl words (words_pass words (words_spelled words is.is_value))
  value_passes kind (Map fields) is = braced_passes word_marks refl refl refl (map field_text fields) (all_map IsField (Passes in_word) field_text field_passes fields (fields_are fields is.is_value))
  value_passes kind (Last Bottom) is = refl
  value_passes kind (Last (Is stamped)) is = stamped_passes stamped is.is_value
  value_passes kind (Versions versions) is = versions_pass versions (versions_are versions is.is_value is.sessions)
  value_passes kind (Counter sums) is = counter_passes sums (sums_are sums is.is_value is.sessions)
  value_passes kind (OrSet set) is = or_set_passes set.inserts set.removals (inserts_are set is.is_value is.sessions.0) (removals_are set is.is_value is.sessions.1)
