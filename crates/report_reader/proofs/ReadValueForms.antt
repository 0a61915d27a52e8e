-- The items of sets, maps and versions are read one by one: each is told from its text, and what comes first in form is in form.
use Rattle.std.proofs.Common.{◌≡◌, ℕ, Bool, false, List, [], ◌++◌, codes, decimal, refl, sym, ap, ◌∙◌}
use Rattle.std.specs.List.{AllByRecursion, list_any}
use Rattle.std.specs.FinMap.{is_sorted}
use Rattle.std.specs.declared.cmp.Ordering.{Ordering}
use Rattle.std.proofs.lemmas.Bool.{or_parts}
use Rattle.std.proofs.lemmas.Fmt.{decimal_injective}
use Rattle.std.proofs.lemmas.List.{map-append}
use Rattle.std.proofs.lemmas.List.Elements.{All-weaker, recursion_from_All}
use Rattle.std.proofs.lemmas.List.Folds.{list_any-append}
use Rattle.lattice_laws.specs.Sets.{as_map, IsSet}
use Rattle.lattice_laws.specs.Spelling.{is_spelling_byte}
use Rattle.lattice_laws.proofs.ListLemmas.{All-front}
use Rattle.basic_lattices.specs.TextSet.{IsTextSet}
use Rattle.basic_lattices.specs.Word.{IsWord}
use Rattle.composed_value.specs.Value.{IsFields}
use Rattle.session_known.specs.Form.{NamesSessions}
use Rattle.session_known.specs.declared.script.Script.{Script}
use Rattle.version_antichain.specs.Antichain.{IsAntichain}
use Rattle.version_antichain.specs.declared.version.Version.{Version}
use Rattle.report_lines.specs.Parts.{IsClockedIn}
use Rattle.report_lines.proofs.ClocksLemmas.{clocked_passes, clocked_told}
use Rattle.report_lines.proofs.NamesLemmas.{TellsNames, spelled_made, word_spelled, decimal_spelled}
use Rattle.report_reader.specs.ReadValues.{IsField, IsVersionIn, AreVersionsIn}
use Rattle.report_lines.proofs.RenderingLemmas.{Passes, made_of, both_pass, cut_once}
use Rattle.report_lines.specs.Text.{field_text, version_text}
use Rattle.report_reader.proofs.ReadClocks.{word_lacks}
use Rattle.report_reader.proofs.ReadRows.{PieceLaws, lacks_failing, map_front, sorted_front}

-- ---- what comes first

-- a set's first members are a set
pub set_front : {K : Type 0} (cmp : K → K → Ordering) (is_member : K → Type 0) (xs ys : List K) → IsSet cmp is_member (xs ++ ys) → IsSet cmp is_member xs
set_front {K} cmp is_member xs ys is = record {
  ascending = sorted_front cmp (as_map xs) (as_map ys) (ap (is_sorted cmp) (sym (map-append (λ (member : K). (member, tt)) xs ys)) ∙ is.ascending);
  are_members = All-front is_member xs ys is.are_members;
}

-- an antichain's first members are one
antichain_front : {E : Type 0} (cmp : E → E → Ordering) (is_member : E → Type 0) (below : E → E → Bool) (xs ys : List E) → IsAntichain cmp is_member below (xs ++ ys) → IsAntichain cmp is_member below xs
antichain_front cmp is_member below xs ys is = record {
  is_set = set_front cmp is_member xs ys is.is_set;
  none_below = All-weaker (λ x. list_any (below x) (xs ++ ys) ≡ false) (λ x. list_any (below x) xs ≡ false)
      (λ x none. (or_parts (list_any (below x) xs) (list_any (below x) ys) (sym (list_any-append (below x) xs ys) ∙ none)).0) xs (All-front (λ x. list_any (below x) (xs ++ ys) ≡ false) xs ys is.none_below);
}

-- ---- sets

-- how the words of a set are read
pub words_row : PieceLaws IsTextSet IsWord 44 (λ word. word)
words_row = record {
  items = λ words is. recursion_from_All IsWord words is.are_members;
  whole = word_lacks 44 refl;
  told = λ a b is_a is_b same. same;
  front = λ xs ys is. set_front _ _ xs ys is;
}

-- ---- maps

-- a field is told from its text
field_told : (a b : List ℕ × ℕ) → IsField a → IsField b → field_text a ≡ field_text b → a ≡ b
field_told a b is_a is_b same =
    let cut = cut_once is_spelling_byte 61 refl a.0 b.0 (decimal a.1) (decimal b.1) (word_spelled a.0 is_a.0) (word_spelled b.0 is_b.0) same in
    let number = decimal_injective a.1 b.1 is_a.1 is_b.1 cut.1 in
    λ i. (cut.0 i, number i)

-- its bytes
field_passes : (field : List ℕ × ℕ) → IsField field → Passes (made_of (codes "=")) (field_text field)
field_passes field is =
    both_pass (made_of (codes "=")) field.0 (codes "=" ++ decimal field.1) (spelled_made (codes "=") field.0 (word_spelled field.0 is.0)) (spelled_made (codes "=") (decimal field.1) (decimal_spelled field.1))

-- how the fields of a map are read
pub fields_row : PieceLaws IsFields IsField 44 field_text
fields_row = record {
  items = λ fields is. recursion_from_All IsField fields is.are_entries;
  whole = λ field is. lacks_failing (made_of (codes "=")) 44 refl (field_text field) (field_passes field is);
  told = field_told;
  front = λ es fs is. map_front _ _ _ es fs is;
}

-- ---- versions

-- a version is a word with a clock
pub version_clocked : (script : Script) (version : Version) → IsVersionIn script version → IsClockedIn script (version.word, version.clock)
version_clocked script version is = (is.0.is_word, record { is_clock = is.0.is_clock; sessions = is.1 })

module _ (script : Script) (names : TellsNames script) where
  -- a version is told from its text
  version_told : (a b : Version) → IsVersionIn script a → IsVersionIn script b → version_text script a ≡ version_text script b → a ≡ b
  version_told a b is_a is_b same =
      let told = (clocked_told script names (a.word, a.clock) (b.word, b.clock) [] [] (version_clocked script a is_a) (version_clocked script b is_b) (ap (λ text. text ++ []) same)).0 in
      λ i. record { word = (told i).0; clock = (told i).1 }

  -- each version in form is one
  versions_are : (versions : List Version) → AreVersionsIn script versions → AllByRecursion (IsVersionIn script) versions
  versions_are versions are = recursion_from_All (IsVersionIn script) versions (λ k d lt. (are.0.is_set.are_members k d lt, are.1 k d lt))

  -- how versions are read
  pub versions_row : PieceLaws (AreVersionsIn script) (IsVersionIn script) 124 (version_text script)
  versions_row = record {
    items = versions_are;
    whole = λ version is. lacks_failing (made_of (codes "(:,)")) 124 refl (version_text script version) (clocked_passes script names (codes "(:,)") refl refl refl refl (version.word, version.clock) (version_clocked script version is));
    told = version_told;
    front = λ xs ys are. (antichain_front _ _ _ xs ys are.0, All-front (λ version. NamesSessions script version.clock) xs ys are.1);
  }
