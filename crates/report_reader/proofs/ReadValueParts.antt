-- The parts of fields, stamped words and versions: a text cut at a byte has those of the one thing that it is the text of.
use Rattle.std.proofs.Common.{◌≡◌, ◌↔◌, ℕ, Bool, false, List, ◌∷◌, ◌++◌, codes, decimal, IsTrue, refl, sym, ap, subst, ◌∙◌}
use Rattle.std.specs.List.{list_all}
use Rattle.std.proofs.lemmas.Bool.{false≢true}
use Rattle.std.proofs.lemmas.List.{append_cancel_right}
use Rattle.lattice_laws.specs.Entries.{IsPushed, plain_entries}
use Rattle.lattice_laws.proofs.EntriesLemmas.{plain_itself}
use Rattle.lattice_laws.specs.Spelling.{is_spelling_byte}
use Rattle.basic_lattices.specs.declared.stamped.Stamped.{Stamped}
use Rattle.session_known.specs.declared.script.Script.{Script}
use Rattle.report_lines.proofs.NamesLemmas.{TellsNames, decimal_spelled, session_spelled}
use Rattle.report_reader.specs.ReadValues.{IsField, IsStampIn, stamp_text, IsStampedIn}
use Rattle.session_known.specs.Script.{session_name}
use Rattle.report_lines.specs.Text.{field_text, stamped_text}
use Rattle.report_reader.proofs.ReadRows.{IsCut, lacks_failing, same_cut}
use Rattle.report_reader.proofs.ReadClocks.{word_lacks}

-- what a test that fails says
pub not_said : (P : Type 0) (test : Bool) → (IsTrue test ↔ P) → test ≡ false → P → ⊥
not_said P test says fails is = false≢true (sym fails ∙ says.1 is)

-- ---- fields

-- a map's entries that were pushed, seen as plain values
pub plain_pushed : {K P : Type 0} (HasForm : List (K × P) → Type 0) (old : List (K × P)) (item : K × P) (new : List (K × P)) (pushed : Bool) → IsPushed HasForm (plain_entries (λ value. value) old) item (plain_entries (λ value. value) new) pushed → IsPushed HasForm old item new pushed
plain_pushed HasForm old item new pushed is =
    subst (λ entries. IsPushed HasForm old item entries pushed) (plain_itself new) (subst (λ entries. IsPushed HasForm entries item (plain_entries (λ value. value) new) pushed) (plain_itself old) is)

-- the parts of a field with its number
pub field_parts : (text front rest : List ℕ) (field : List ℕ × ℕ) → IsCut 61 text front rest → IsField field → text ≡ field_text field → (front ≡ field.0) × (rest ≡ decimal field.1)
field_parts text front rest field cut is same = same_cut 61 text front rest field.0 (decimal field.1) cut (word_lacks 61 refl field.0 is.0) same

-- ---- stamped words

-- the parts of a stamped word
pub stamped_parts : (script : Script) (text front rest : List ℕ) (stamped : Stamped) → IsCut 47 text front rest → IsStampedIn script stamped → text ≡ stamped_text script stamped → (front ≡ stamped.word) × (rest ≡ stamp_text script (stamped.number, stamped.session, stamped.place))
stamped_parts script text front rest stamped cut is same = same_cut 47 text front rest stamped.word _ cut (word_lacks 47 refl stamped.word is.0.is_word) same

-- where what is after the word is no stamp, the text is no stamped word
pub no_stamp : (script : Script) (text front rest : List ℕ) → IsCut 47 text front rest → ((stamp : ℕ × ℕ × ℕ) → IsStampIn script stamp → rest ≡ stamp_text script stamp → ⊥) → (stamped : Stamped) → IsStampedIn script stamped → text ≡ stamped_text script stamped → ⊥
no_stamp script text front rest cut none stamped is same =
    none (stamped.number, stamped.session, stamped.place) (is.0.number_fits, is.1, is.0.place_fits) (stamped_parts script text front rest stamped cut is same).1

-- the number of a stamp, and what is after it
pub stamp_parts : (script : Script) (text front rest : List ℕ) (stamp : ℕ × ℕ × ℕ) → IsCut 47 text front rest → text ≡ stamp_text script stamp → (front ≡ decimal stamp.0) × (rest ≡ session_name script stamp.1 ++ 47 ∷ decimal stamp.2)
stamp_parts script text front rest stamp cut same = same_cut 47 text front rest (decimal stamp.0) _ cut (lacks_failing _ 47 refl (decimal stamp.0) (decimal_spelled stamp.0)) same

-- its session and its place
pub stamp_ends : (script : Script) → TellsNames script → (text front rest session place : List ℕ) (stamp : ℕ × ℕ × ℕ) → IsCut 47 text front rest → IsCut 47 rest session place → text ≡ stamp_text script stamp → (session ≡ session_name script stamp.1) × (place ≡ decimal stamp.2)
stamp_ends script names text front rest session place stamp cut again same =
    same_cut 47 rest session place (session_name script stamp.1) (decimal stamp.2) again (lacks_failing _ 47 refl (session_name script stamp.1) (session_spelled script names stamp.1)) (stamp_parts script text front rest stamp cut same).1

-- ---- items in braces

-- what stands between braces tells what is in them
pub braced_both : (bytes inner between : List ℕ) → bytes ≡ codes "{" ++ (inner ++ codes "}") → (inner ≡ between) ↔ (bytes ≡ codes "{" ++ (between ++ codes "}"))
braced_both bytes inner between around = (
  λ same. around ∙ ap (λ between. codes "{" ++ (between ++ codes "}")) same,
  λ same. let closed : inner ++ codes "}" ≡ between ++ codes "}" = cc in append_cancel_right inner between (codes "}") closed,
)

-- and is not nothing
pub braced_some : (bytes inner : List ℕ) → bytes ≡ codes "{" ++ (inner ++ codes "}") → bytes ≡ codes "none" → ⊥
braced_some bytes inner around same = false≢true (ap (list_all is_spelling_byte) (sym around ∙ same))
