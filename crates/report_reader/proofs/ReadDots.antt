-- Counters and sets with removal, read.
use Rattle.std.proofs.Common.{◌≡◌, ◌⊎◌, ℕ, ◌<◌, List, [], ◌∷◌, ◌++◌, length, codes, decimal, inl, inr, refl, sym, ap, ◌∙◌, arith}
use Rattle.std.specs.Char.{is_ascii_digit}
use Rattle.std.specs.List.{All, AllByRecursion}
use Rattle.std.specs.Fmt.{signed_decimal}
use Rattle.std.proofs.lemmas.List.{append_assoc}
use Rattle.std.proofs.lemmas.List.Elements.{All-from_recursion, All-weaker, recursion_from_All}
use Rattle.lattice_laws.specs.Spelling.{is_spelling_byte}
use Rattle.lattice_laws.proofs.ListLemmas.{All-front}
use Rattle.dot_lattices.specs.DotSet.{PlainDotSet}
use Rattle.dot_lattices.specs.DotSums.{total_of}
use Rattle.dot_lattices.specs.declared.amounts.Amounts.{Amounts}
use Rattle.dot_lattices.specs.declared.dot.Dot.{Dot}
use Rattle.dot_lattices.specs.declared.insert.Insert.{Insert}
use Rattle.placement.specs.Config.{IsOneOf}
use Rattle.session_known.specs.Form.{NamesSessions}
use Rattle.session_known.specs.declared.script.Script.{Script}
use Rattle.report_lines.specs.Parts.{IsClockedIn, IsSumIn, IsInsertIn}
use Rattle.report_lines.specs.Text.{count_text, sum_text, sums_text, counter_word, insert_text, inserts_text, removal_text, removals_text, or_set_word}
use Rattle.report_lines.proofs.ClocksLemmas.{clocked_marked, clocked_told, count_passes}
use Rattle.report_lines.proofs.NamesLemmas.{TellsNames, decimal_digits, signed_spelled}
use Rattle.report_lines.proofs.RenderingLemmas.{made_of, not_passes}
use Rattle.report_lines.proofs.RowsLemmas.{joined_tells}
use Rattle.report_lines.proofs.ValuesLemmas.{insert_passes, insert_tells, inserts_pass, or_set_braced, sum_passes, sum_tells}
use Rattle.report_reader.specs.Cuts.{with_brace, with_braces}
use Rattle.report_reader.specs.ReadClocks.{open_clocked}
use Rattle.report_reader.specs.ReadDots.{AreInsertsIn, AreRemovalsIn, AreSumsIn, IsRemovalIn, set_word}
use Rattle.report_reader.proofs.ReadClocks.{clocked_end, word_lacks}
use Rattle.report_reader.proofs.ReadRows.{ClosedLaws, IsCut, PieceLaws, RowLaws, lacks_failing, map_front, same_cut}
use Rattle.report_reader.proofs.ReadValueForms.{set_front}

-- the amounts at a dot are cut at the minus sign
pub amounts_cut : (added taken : ℕ) (text front rest : List ℕ) → IsCut 45 text front rest → text ≡ decimal added ++ 45 ∷ decimal taken → (front ≡ decimal added) × (rest ≡ decimal taken)
amounts_cut added taken text front rest cut same = same_cut 45 text front rest (decimal added) (decimal taken) cut (lacks_failing is_ascii_digit 45 refl (decimal added) (decimal_digits added)) same

-- an insert is cut at the at sign
pub insert_cut : (script : Script) (insert : Insert) (text word dot : List ℕ) → IsCut 64 text word dot → IsInsertIn script insert → text ≡ insert_text script insert → (word ≡ insert.word) × (dot ≡ count_text script (insert.dot.session, insert.dot.number))
insert_cut script insert text word dot cut is same = same_cut 64 text word dot insert.word _ cut (word_lacks 64 refl insert.word is.0) same

-- the sessions of dots that were read are the script's
pub sums_named : (script : Script) (sums : List (Dot × Amounts)) → AllByRecursion (IsSumIn script) sums → All (λ entry. IsOneOf (length script.sessions) entry.0.session) sums
sums_named script sums all = All-weaker (IsSumIn script) (λ entry. IsOneOf (length script.sessions) entry.0.session) (λ entry is. is.0.0) sums (All-from_recursion (IsSumIn script) sums all)

-- the sessions of inserts that were read are the script's
pub inserts_named : (script : Script) (inserts : List Insert) → AllByRecursion (IsInsertIn script) inserts → All (λ insert. IsOneOf (length script.sessions) insert.dot.session) inserts
inserts_named script inserts all = All-weaker (IsInsertIn script) (λ insert. IsOneOf (length script.sessions) insert.dot.session) (λ insert is. is.1.0) inserts (All-from_recursion (IsInsertIn script) inserts all)

-- removed words that were read are the script's
pub removals_named : (script : Script) (removals : List (List ℕ × List (ℕ × ℕ))) → AllByRecursion (IsRemovalIn script) removals → All (λ removal. NamesSessions script removal.1) removals
removals_named script removals all = All-weaker (IsRemovalIn script) (λ removal. NamesSessions script removal.1) (λ removal is. is.0.1.sessions) removals (All-from_recursion (IsRemovalIn script) removals all)

-- a counter with dots is its total, and its dots in braces
pub counter_parts : (script : Script) (sums : List (Dot × Amounts)) (text total later : List ℕ) → IsCut 123 text total later → (text ≡ codes "none" → ⊥) → text ≡ counter_word script sums → (0 < length sums) × (total ≡ signed_decimal (total_of sums)) × (later ≡ with_brace (sums_text script sums))
counter_parts script [] text total later cut some same = absurd (some same)
counter_parts script (entry ∷ sums) text total later cut some same =
    let it = total_of (entry ∷ sums) in
    let parts = same_cut 123 text total later (signed_decimal it) (with_brace (sums_text script (entry ∷ sums))) cut (lacks_failing is_spelling_byte 123 refl (signed_decimal it) (signed_spelled it)) same in
    (omega arith, parts.0, parts.1)

-- what stands between the braces of a set
abbrev pub inner_text : Script → List Insert → List (List ℕ × List (ℕ × ℕ)) → List ℕ
inner_text script inserts removals = inserts_text script inserts ++ 59 ∷ removals_text script removals

-- a set with inserts or removals is in braces
pub set_braced : (script : Script) (inserts : List Insert) (removals : List (List ℕ × List (ℕ × ℕ))) → (0 < length inserts) ⊎ (0 < length removals) → or_set_word script inserts removals ≡ with_braces (inner_text script inserts removals)
set_braced script inserts removals some = or_set_braced script inserts removals some ∙ ap (λ text. codes "{" ++ text) (sym (append_assoc (inserts_text script inserts) (59 ∷ removals_text script removals) (codes "}")))

-- and one that is not none has some
set_some : (script : Script) (inserts : List Insert) (removals : List (List ℕ × List (ℕ × ℕ))) (text : List ℕ) → (text ≡ codes "none" → ⊥) → text ≡ or_set_word script inserts removals → (0 < length inserts) ⊎ (0 < length removals)
set_some script [] [] text some same = absurd (some same)
set_some script [] (removal ∷ removals) text some same = inr (omega arith)
set_some script (insert ∷ inserts) removals text some same = inl (omega arith)

pub set_is_braced : (script : Script) (set : PlainDotSet) (text : List ℕ) → (text ≡ codes "none" → ⊥) → text ≡ set_word script set → text ≡ with_braces (inner_text script set.inserts set.removals)
set_is_braced script set text some same = same ∙ set_braced script set.inserts set.removals (set_some script set.inserts set.removals text some same)

-- a list that is not empty has an item
pub some_item : {X : Type 0} (xs : List X) → (xs ≡ [] → ⊥) → 0 < length xs
some_item [] some = absurd (some refl)
some_item (x ∷ xs) some = omega arith

module _ (script : Script) (names : TellsNames script) where
  -- a dot with its amounts is cut at the plus sign
  pub sum_cut : (entry : Dot × Amounts) (text dot amounts : List ℕ) → IsCut 43 text dot amounts → IsSumIn script entry → text ≡ sum_text script entry → (dot ≡ count_text script (entry.0.session, entry.0.number)) × (amounts ≡ decimal entry.1.added ++ 45 ∷ decimal entry.1.taken)
  sum_cut entry text dot amounts cut is same =
      let at : ℕ × ℕ = (entry.0.session, entry.0.number) in
      same_cut 43 text dot amounts (count_text script at) _ cut (lacks_failing (made_of (codes ":")) 43 refl (count_text script at) (count_passes script names (codes ":") refl at is.0)) same

  -- how the dots of a counter are read
  pub sums_row : PieceLaws (AreSumsIn script) (IsSumIn script) 44 (sum_text script)
  sums_row = record {
    items = λ sums are. recursion_from_All (IsSumIn script) sums (λ k d lt. let entry = are.0.are_entries k d lt in ((are.1 k d lt, entry.0.number_fits), entry.1));
    front = λ xs ys are. (map_front _ _ _ xs ys are.0, All-front (λ entry. IsOneOf (length script.sessions) entry.0.session) xs ys are.1);
    whole = λ entry is. lacks_failing (made_of (codes ":+")) 44 refl (sum_text script entry) (sum_passes script names (codes ":+") refl refl entry is);
    told = λ a b is_a is_b same. (sum_tells script names a b [] [] is_a is_b tt tt (ap (λ text. text ++ []) same)).0;
  }

  -- how the inserts of a set are read
  pub inserts_row : PieceLaws (AreInsertsIn script) (IsInsertIn script) 44 (insert_text script)
  inserts_row = record {
    items = λ inserts are. recursion_from_All (IsInsertIn script) inserts (λ k d lt. let insert = are.0.are_members k d lt in (insert.is_word, (are.1 k d lt, insert.is_dot.number_fits)));
    front = λ xs ys are. (set_front _ _ xs ys are.0, All-front (λ insert. IsOneOf (length script.sessions) insert.dot.session) xs ys are.1);
    whole = λ insert is. lacks_failing (made_of (codes ":@")) 44 refl (insert_text script insert) (insert_passes script names (codes ":@") refl refl insert is);
    told = λ a b is_a is_b same. (insert_tells script names a b [] [] is_a is_b tt tt (ap (λ text. text ++ []) same)).0;
  }

  -- how the removed words of a set are read
  pub removals_row : RowLaws (AreRemovalsIn script) (IsRemovalIn script) 44 (removal_text script)
  removals_row = record {
    items = λ removals are. recursion_from_All (IsRemovalIn script) removals (λ k d lt. let entry = are.0.are_entries k d lt in ((entry.0, record { is_clock = entry.1.0; sessions = are.1 k d lt }), entry.1.1));
    front = λ xs ys are. (map_front _ _ _ xs ys are.0, All-front (λ removal. NamesSessions script removal.1) xs ys are.1);
    tells = λ a b us vs is_a is_b stops_us stops_vs same. clocked_told script names a b us vs is_a.0 is_b.0 same;
  }

  pub removals_end : ClosedLaws (IsRemovalIn script) 41 (removal_text script) (open_clocked script)
  removals_end = record { closed = (clocked_end script names).closed; lacks = λ removal is. (clocked_end script names).lacks removal is.0 }

  -- a word with a clock is told from what stands before its parenthesis
  pub clocked_single : (a b : List ℕ × List (ℕ × ℕ)) → IsClockedIn script a → IsClockedIn script b → open_clocked script a ≡ open_clocked script b → a ≡ b
  clocked_single a b is_a is_b same =
      let ends = clocked_end script names in
      (clocked_told script names a b [] [] is_a is_b (ends.closed a [] ∙ ap (λ text. text ++ 41 ∷ []) same ∙ sym (ends.closed b []))).0

  -- the parts of a set in braces
  pub set_parts : (inserts : List Insert) (removals : List (List ℕ × List (ℕ × ℕ))) (inner front rest : List ℕ) → AreInsertsIn script inserts → IsCut 59 inner front rest → inner ≡ inner_text script inserts removals → (front ≡ inserts_text script inserts) × (rest ≡ removals_text script removals)
  set_parts inserts removals inner front rest are cut same =
      let passes = inserts_pass script names (codes ",:@") refl refl refl inserts (inserts_row.items inserts are) in
      same_cut 59 inner front rest (inserts_text script inserts) (removals_text script removals) cut (lacks_failing (made_of (codes ",:@")) 59 refl (inserts_text script inserts) passes) same

  -- the inserts of a set are told from their text
  pub inserts_single : (a b : List Insert) → AreInsertsIn script a → AreInsertsIn script b → inserts_text script a ≡ inserts_text script b → a ≡ b
  inserts_single a b is_a is_b same =
      joined_tells (IsInsertIn script) 44 (insert_text script) (insert_tells script names) (λ insert is spelled. not_passes is_spelling_byte 64 refl insert.word _ spelled) a b (inserts_row.items a is_a) (inserts_row.items b is_b) same

  -- and so are its removed words
  pub removals_single : (a b : List (List ℕ × List (ℕ × ℕ))) → AreRemovalsIn script a → AreRemovalsIn script b → removals_text script a ≡ removals_text script b → a ≡ b
  removals_single a b is_a is_b same =
      joined_tells (IsRemovalIn script) 44 (removal_text script) removals_row.tells (λ removal is spelled. clocked_marked script names removal spelled) a b (removals_row.items a is_a) (removals_row.items b is_b) same
