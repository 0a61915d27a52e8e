-- Clocks and needs, read.
use Rattle.std.proofs.Common.{◌≡◌, ℕ, Bool, true, false, List, [], ◌∷◌, ◌++◌, length, codes, sym, ap, refl, ◌∙◌, append_assoc}
use Rattle.std.specs.Fmt.{decimal}
use Rattle.std.specs.List.{AllByRecursion}
use Rattle.std.specs.Str.{bytes_eq}
use Rattle.std.proofs.lemmas.Bool.{and_from, both_ways}
use Rattle.std.proofs.lemmas.List.Elements.{All-from_recursion, All-weaker, recursion_from_All}
use Rattle.lattice_laws.specs.Spelling.{is_spelling_byte}
use Rattle.basic_lattices.specs.Word.{IsWord}
use Rattle.lattice_laws.proofs.ListLemmas.{All-front}
use Rattle.clock_lattice.specs.Clock.{IsClock}
use Rattle.clock_lattice.specs.Needs.{IsNeeds}
use Rattle.session_known.specs.Form.{AreNeedsIn, IsClockIn, NamesSessions}
use Rattle.placement.specs.Config.{IsOneOf}
use Rattle.session_known.specs.Script.{key_name, session_name}
use Rattle.session_known.specs.declared.script.Script.{Script}
use Rattle.report_lines.specs.Parts.{IsCounted, IsClockedIn}
use Rattle.report_lines.proofs.ClocksLemmas.{clock_counted, clock_passes, count_tells, count_passes, need_ends}
use Rattle.report_lines.proofs.NamesLemmas.{Spelled, TellsNames, word_spelled, key_spelled, session_spelled, spelled_made}
use Rattle.report_reader.specs.ReadClocks.{open_clocked, IsNeedIn, open_need}
use Rattle.report_lines.proofs.RenderingLemmas.{both_pass, made_of}
use Rattle.report_lines.specs.Text.{clock_word, clocked_text, count_text, need_text}
use Rattle.report_reader.proofs.ReadRows.{ClosedLaws, IsCut, Lacks, PieceLaws, RowLaws, lacks_failing, map_front, same_cut}

-- ---- clocks

-- a text that is not equal to a dash is none
pub not_dash : (text dash : List ℕ) (equal : Bool) → equal ≡ bytes_eq text dash → equal ≡ false → dash ≡ codes "-" → text ≡ codes "-" → ⊥
not_dash text dash equal is differs is_dash here =
    let same : bytes_eq text dash ≡ true = λ i. bytes_eq (here i) (is_dash i) in
    both_ways equal differs (is ∙ same)

-- a clock whose entries are of the script is in form
pub clock_formed : (script : Script) (clock : List (ℕ × ℕ)) → IsClock clock → AllByRecursion (IsCounted script) clock → IsClockIn script clock
clock_formed script clock is all = record {
  is_clock = is;
  sessions = All-weaker (IsCounted script) (λ entry. IsOneOf (length script.sessions) entry.0) (λ entry is_entry. is_entry.0) clock (All-from_recursion (IsCounted script) clock all);
}

module _ (script : Script) (names : TellsNames script) where
  -- a session with a count is cut at the colon
  pub count_cut : (entry : ℕ × ℕ) (text name digits : List ℕ) → IsCut 58 text name digits → text ≡ count_text script entry → (name ≡ session_name script entry.0) × (digits ≡ decimal entry.1)
  count_cut entry text name digits cut same =
      same_cut 58 text name digits (session_name script entry.0) (decimal entry.1) cut (lacks_failing is_spelling_byte 58 refl (session_name script entry.0) (session_spelled script names entry.0)) same

  -- how the entries of a clock are read
  pub clock_row : PieceLaws (IsClockIn script) (IsCounted script) 44 (count_text script)
  clock_row = record {
    items = clock_counted script;
    front = λ xs ys is. record { is_clock = map_front _ _ _ xs ys is.is_clock; sessions = All-front (λ entry. IsOneOf (length script.sessions) entry.0) xs ys is.sessions };
    whole = λ entry is. lacks_failing (made_of (codes ":")) 44 refl (count_text script entry) (count_passes script names (codes ":") refl entry is);
    told = λ a b is_a is_b same. (count_tells script names a b [] [] is_a is_b tt tt (ap (λ text. text ++ []) same)).0;
  }

-- ---- needs, and words with clocks

-- a byte that may not stand in a name does not stand in a word
pub word_lacks : (c : ℕ) → is_spelling_byte c ≡ false → (word : List ℕ) → IsWord word → Lacks c word
word_lacks c fails word is = lacks_failing is_spelling_byte c fails word (word_spelled word is)

-- what stands before a clock, the clock and what closes it
closed_text : (front clock later : List ℕ) (mark last : ℕ) → (front ++ mark ∷ (clock ++ last ∷ [])) ++ later ≡ (front ++ mark ∷ clock) ++ last ∷ later
closed_text front clock later mark last = ap (λ text. text ++ later) (sym (append_assoc front (mark ∷ clock) (last ∷ []))) ∙ append_assoc (front ++ mark ∷ clock) (last ∷ []) later

-- needs whose entries are of the script are in form
pub needs_formed : (script : Script) (needs : List (ℕ × List (ℕ × ℕ))) → IsNeeds needs → AllByRecursion (IsNeedIn script) needs → AreNeedsIn script needs
needs_formed script needs are all =
    let each = All-from_recursion (IsNeedIn script) needs all in
    record { are_needs = are; keys = λ k d lt. (each k d lt).0; sessions = λ k d lt. (each k d lt).1.sessions }

module _ (script : Script) (names : TellsNames script) where
  -- what stands before the byte that closes a clock lacks it
  open_lacks : (marks front : List ℕ) (clock : List (ℕ × ℕ)) (mark last : ℕ) → made_of marks 58 ≡ true → made_of marks 44 ≡ true → made_of marks mark ≡ true → made_of marks last ≡ false → Spelled front → AllByRecursion (IsCounted script) clock → Lacks last (front ++ mark ∷ clock_word script clock)
  open_lacks marks front clock mark last colon comma opens closes spelled all =
      lacks_failing (made_of marks) last closes _ (both_pass (made_of marks) front (mark ∷ clock_word script clock) (spelled_made marks front spelled) (and_from (made_of marks mark) _ opens (clock_passes script names marks colon comma clock all)))

  -- the entries of needs end with a brace
  pub needs_end : ClosedLaws (IsNeedIn script) 125 (need_text script) (open_need script)
  needs_end = record {
    closed = λ entry later. closed_text (key_name script entry.0) (clock_word script entry.1) later 123 125;
    lacks = λ entry is. open_lacks (codes ":,{") (key_name script entry.0) entry.1 123 125 refl refl refl refl (key_spelled script names entry.0) (clock_counted script entry.1 is.1);
  }

  -- words with clocks end with a parenthesis
  pub clocked_end : ClosedLaws (IsClockedIn script) 41 (λ clocked. clocked_text script clocked.0 clocked.1) (open_clocked script)
  clocked_end = record {
    closed = λ clocked later. closed_text clocked.0 (clock_word script clocked.1) later 40 41;
    lacks = λ clocked is. open_lacks (codes ":,(") clocked.0 clocked.1 40 41 refl refl refl refl (word_spelled clocked.0 is.0) (clock_counted script clocked.1 is.1);
  }

  -- how the entries of needs are read
  pub needs_row : RowLaws (AreNeedsIn script) (IsNeedIn script) 44 (need_text script)
  needs_row = record {
    items = λ needs are. recursion_from_All (IsNeedIn script) needs (λ k d lt. (are.keys k d lt, record { is_clock = (are.are_needs.are_entries k d lt).1.0; sessions = are.sessions k d lt }));
    front = λ needs others are. record {
      are_needs = map_front _ _ _ needs others are.are_needs;
      keys = All-front (λ entry. IsOneOf (length script.config.keys) entry.0) needs others are.keys;
      sessions = All-front (λ entry. NamesSessions script entry.1) needs others are.sessions;
    };
    tells = λ a b us vs is_a is_b stops_us stops_vs same. need_ends script names a b us vs (is_a.0, clock_counted script a.1 is_a.1) (is_b.0, clock_counted script b.1 is_b.1) same;
  }

  -- an entry of needs is cut at the brace that opens its clock
  pub open_cut : (entry : ℕ × List (ℕ × ℕ)) (text name word : List ℕ) → IsCut 123 text name word → text ≡ open_need script entry → (name ≡ key_name script entry.0) × (word ≡ clock_word script entry.1)
  open_cut entry text name word cut same =
      same_cut 123 text name word (key_name script entry.0) (clock_word script entry.1) cut (lacks_failing is_spelling_byte 123 refl (key_name script entry.0) (key_spelled script names entry.0)) same

-- a word is cut off at the parenthesis that opens its clock
pub clocked_cut : (script : Script) (clocked : List ℕ × List (ℕ × ℕ)) (text word clock : List ℕ) → IsCut 40 text word clock → IsClockedIn script clocked → text ≡ open_clocked script clocked → (word ≡ clocked.0) × (clock ≡ clock_word script clocked.1)
clocked_cut script clocked text word clock cut is same = same_cut 40 text word clock clocked.0 (clock_word script clocked.1) cut (word_lacks 40 refl clocked.0 is.0) same

-- a word with a clock is what stands before its parenthesis, and that
pub clocked_closed : (script : Script) (clocked : List ℕ × List (ℕ × ℕ)) → clocked_text script clocked.0 clocked.1 ≡ open_clocked script clocked ++ codes ")"
clocked_closed script clocked = sym (append_assoc clocked.0 (40 ∷ clock_word script clocked.1) (codes ")"))
