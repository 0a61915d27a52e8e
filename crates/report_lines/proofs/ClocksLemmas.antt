-- Clocks and needs are told from their words.
use Rattle.std.specs.Prelude.{◌≡◌, ℕ, true, List, [], ◌++◌, map, length, codes}
use Rattle.std.specs.Fmt.{decimal}
use Rattle.std.specs.List.{AllByRecursion}
use Rattle.std.proofs.Common.{refl}
use Rattle.std.proofs.lemmas.Bool.{and_from}
use Rattle.std.proofs.lemmas.Fmt.{decimal_injective}
use Rattle.std.proofs.lemmas.List.Elements.{recursion_from_All}
use Rattle.lattice_laws.specs.Spelling.{is_spelling_byte}
use Rattle.session_known.specs.Form.{IsClockIn, AreNeedsIn}
use Rattle.placement.specs.Config.{IsOneOf}
use Rattle.session_known.specs.Script.{key_name, session_name}
use Rattle.session_known.specs.declared.script.Script.{Script}
use Rattle.report_lines.proofs.NamesLemmas.{Spelled, TellsNames, spelled_made, word_spelled, decimal_spelled, session_spelled, session_told, key_spelled, key_told}
use Rattle.report_lines.proofs.RenderingLemmas.{Passes, Tells, made_of, word_marks, in_word, cut_at, cut_piece, not_passes, both_pass}
use Rattle.report_lines.proofs.RowsLemmas.{IsMarked, all_map, row_tells, row_passes}
use Rattle.report_lines.specs.Parts.{IsCounted, IsClockedIn}
use Rattle.report_lines.specs.Text.{count_text, clock_word, clocked_text, need_text, needs_word}

-- an entry of needs in form
abbrev pub IsNeeded : Script → ℕ × List (ℕ × ℕ) → Type 0
IsNeeded script entry = IsOneOf (length script.config.keys) entry.0 × AllByRecursion (IsCounted script) entry.1

-- the entries of a clock in form
pub clock_counted : (script : Script) (clock : List (ℕ × ℕ)) → IsClockIn script clock → AllByRecursion (IsCounted script) clock
clock_counted script clock is = recursion_from_All (IsCounted script) clock (λ k d lt. (is.sessions k d lt, (is.is_clock.are_entries k d lt).1.1))

-- the entries of needs in form
pub needs_needed : (script : Script) (needs : List (ℕ × List (ℕ × ℕ))) → AreNeedsIn script needs → AllByRecursion (IsNeeded script) needs
needs_needed script needs are =
    recursion_from_All (IsNeeded script) needs (λ k d lt. (are.keys k d lt, clock_counted script _ (record { is_clock = (are.are_needs.are_entries k d lt).1.0; sessions = are.sessions k d lt })))

module _ (script : Script) (names : TellsNames script) where
  -- a session with a count is told
  pub count_tells : Tells (IsCounted script) 44 (count_text script)
  count_tells a b us vs is_a is_b stops_us stops_vs same =
      let cut = cut_piece is_spelling_byte 58 refl (session_name script a.0) (session_name script b.0) (decimal a.1) (decimal b.1) us vs (session_spelled script names a.0) (session_spelled script names b.0) same in
      let number = cut_at is_spelling_byte 44 refl (decimal a.1) (decimal b.1) us vs (decimal_spelled a.1) (decimal_spelled b.1) stops_us stops_vs cut.1 in
      let session = session_told script names a.0 b.0 is_a.0 is_b.0 cut.0 in
      let count = decimal_injective a.1 b.1 is_a.1 is_b.1 number.0 in
      (λ i. (session i, count i), number.1)

  -- it has a colon
  count_marked : IsMarked (IsCounted script) (count_text script)
  count_marked entry is spelled = not_passes is_spelling_byte 58 refl (session_name script entry.0) (decimal entry.1) spelled

  -- A clock is told from its word.
  pub clock_told : (a b : List (ℕ × ℕ)) → AllByRecursion (IsCounted script) a → AllByRecursion (IsCounted script) b → clock_word script a ≡ clock_word script b → a ≡ b
  clock_told a b all_a all_b same = row_tells (IsCounted script) (codes "-") 44 (count_text script) refl count_tells count_marked a b all_a all_b same

  -- the bytes of a session with a count
  pub count_passes : (marks : List ℕ) → made_of marks 58 ≡ true → (entry : ℕ × ℕ) → IsCounted script entry → Passes (made_of marks) (count_text script entry)
  count_passes marks colon entry is =
      both_pass (made_of marks) (session_name script entry.0) (codes ":" ++ decimal entry.1) (spelled_made marks (session_name script entry.0) (session_spelled script names entry.0))
      (and_from (made_of marks 58) _ colon (spelled_made marks (decimal entry.1) (decimal_spelled entry.1)))

  -- the bytes of a clock's word
  pub clock_passes : (marks : List ℕ) → made_of marks 58 ≡ true → made_of marks 44 ≡ true → (clock : List (ℕ × ℕ)) → AllByRecursion (IsCounted script) clock → Passes (made_of marks) (clock_word script clock)
  clock_passes marks colon comma clock all =
      row_passes (made_of marks) (codes "-") 44 comma refl (map (count_text script) clock) (all_map (IsCounted script) (Passes (made_of marks)) (count_text script) (count_passes marks colon) clock all)

  -- a word with a clock is told, and so is whatever stands after it
  pub clocked_told : (a b : List ℕ × List (ℕ × ℕ)) (us vs : List ℕ) → IsClockedIn script a → IsClockedIn script b → clocked_text script a.0 a.1 ++ us ≡ clocked_text script b.0 b.1 ++ vs → (a ≡ b) × (us ≡ vs)
  clocked_told a b us vs is_a is_b same =
      let all_a = clock_counted script a.1 is_a.1 in
      let all_b = clock_counted script b.1 is_b.1 in
      let cut = cut_piece is_spelling_byte 40 refl a.0 b.0 (clock_word script a.1 ++ codes ")") (clock_word script b.1 ++ codes ")") us vs (word_spelled a.0 is_a.0) (word_spelled b.0 is_b.0) same in
      let inner = cut_piece (made_of (codes ":,")) 41 refl (clock_word script a.1) (clock_word script b.1) [] [] us vs (clock_passes (codes ":,") refl refl a.1 all_a) (clock_passes (codes ":,") refl refl b.1 all_b) cut.1 in
      let clock = clock_told a.1 b.1 all_a all_b inner.0 in
      (λ i. (cut.0 i, clock i), inner.1)

  -- it has a parenthesis
  pub clocked_marked : (clocked : List ℕ × List (ℕ × ℕ)) → Spelled (clocked_text script clocked.0 clocked.1) → ⊥
  clocked_marked clocked spelled = not_passes is_spelling_byte 40 refl clocked.0 _ spelled

  -- its bytes
  pub clocked_passes : (marks : List ℕ) → made_of marks 40 ≡ true → made_of marks 41 ≡ true → made_of marks 58 ≡ true → made_of marks 44 ≡ true → (clocked : List ℕ × List (ℕ × ℕ)) → IsClockedIn script clocked → Passes (made_of marks) (clocked_text script clocked.0 clocked.1)
  clocked_passes marks opens closes colon comma clocked is =
      let clock = clock_passes marks colon comma clocked.1 (clock_counted script clocked.1 is.1) in
      both_pass (made_of marks) clocked.0 (codes "(" ++ (clock_word script clocked.1 ++ codes ")")) (spelled_made marks clocked.0 (word_spelled clocked.0 is.0))
      (and_from (made_of marks 40) _ opens (both_pass (made_of marks) (clock_word script clocked.1) (codes ")") clock (and_from (made_of marks 41) true closes refl)))

  -- a key with a clock is told, and so is whatever stands after it
  pub need_ends : (a b : ℕ × List (ℕ × ℕ)) (us vs : List ℕ) → IsNeeded script a → IsNeeded script b → need_text script a ++ us ≡ need_text script b ++ vs → (a ≡ b) × (us ≡ vs)
  need_ends a b us vs is_a is_b same =
      let cut = cut_piece is_spelling_byte 123 refl (key_name script a.0) (key_name script b.0) (clock_word script a.1 ++ codes "}") (clock_word script b.1 ++ codes "}") us vs (key_spelled script names a.0) (key_spelled script names b.0) same in
      let inner = cut_piece (made_of (codes ":,")) 125 refl (clock_word script a.1) (clock_word script b.1) [] [] us vs (clock_passes (codes ":,") refl refl a.1 is_a.1) (clock_passes (codes ":,") refl refl b.1 is_b.1) cut.1 in
      let key = key_told script names a.0 b.0 is_a.0 is_b.0 cut.0 in
      let clock = clock_told a.1 b.1 is_a.1 is_b.1 inner.0 in
      (λ i. (key i, clock i), inner.1)

  -- so it is where what stands after it begins with a comma
  need_tells : Tells (IsNeeded script) 44 (need_text script)
  need_tells a b us vs is_a is_b stops_us stops_vs same = need_ends a b us vs is_a is_b same

  -- it has a brace
  need_marked : IsMarked (IsNeeded script) (need_text script)
  need_marked entry is spelled = not_passes is_spelling_byte 123 refl (key_name script entry.0) (clock_word script entry.1 ++ codes "}") spelled

  -- Needs are told from their word.
  pub needs_told : (a b : List (ℕ × List (ℕ × ℕ))) → AllByRecursion (IsNeeded script) a → AllByRecursion (IsNeeded script) b → needs_word script a ≡ needs_word script b → a ≡ b
  needs_told a b all_a all_b same = row_tells (IsNeeded script) (codes "-") 44 (need_text script) refl need_tells need_marked a b all_a all_b same

  -- the bytes of a key with a clock
  need_passes : (entry : ℕ × List (ℕ × ℕ)) → IsNeeded script entry → Passes in_word (need_text script entry)
  need_passes entry is =
      both_pass in_word (key_name script entry.0) (codes "{" ++ (clock_word script entry.1 ++ codes "}")) (spelled_made word_marks (key_name script entry.0) (key_spelled script names entry.0))
      (both_pass in_word (clock_word script entry.1) (codes "}") (clock_passes word_marks refl refl entry.1 is.1) refl)

  -- the bytes of the word of needs
  pub needs_passes : (needs : List (ℕ × List (ℕ × ℕ))) → AllByRecursion (IsNeeded script) needs → Passes in_word (needs_word script needs)
  needs_passes needs all = row_passes in_word (codes "-") 44 refl refl (map (need_text script) needs) (all_map (IsNeeded script) (Passes in_word) (need_text script) need_passes needs all)
