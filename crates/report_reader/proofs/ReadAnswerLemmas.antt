-- What is read of the parts of a line is read of the line.
use Rattle.std.proofs.Common.{◌≡◌, ℕ, ◌<◌, ◌≤◌, ◌^◌, Bool, true, false, List, [], ◌∷◌, drop, length, Option, Some, None, codes, refl, sym, ap, subst, ◌∙◌, arith}
use Rattle.std.specs.Fmt.{decimal}
use Rattle.std.specs.List.{list_all}
use Rattle.std.specs.Prelude.{◌==◌}
use Rattle.std.proofs.lemmas.Bool.{true≢false, both_ways, eq-eqb}
use Rattle.std.proofs.lemmas.Fmt.{decimal_injective}
use Rattle.lattice_laws.specs.Spelling.{is_spelling_byte}
use Rattle.session_known.specs.Form.{Fits}
use Rattle.placement.specs.Config.{IsOneOf}
use Rattle.session_known.specs.Script.{key_name}
use Rattle.session_known.specs.declared.report.Answer.{Answer}
use Rattle.session_known.specs.declared.report.Answer.TheVariants as answers
use Rattle.session_known.specs.declared.script.Level.{Level}
use Rattle.session_known.specs.declared.script.Line.{Line}
use Rattle.session_known.specs.declared.script.Line.TheVariants as lines
use Rattle.session_known.specs.declared.script.Script.{Script}
use Rattle.report_lines.proofs.AnswersLemmas.{word_at, committed_words}
use Rattle.report_reader.specs.Cuts.{LacksNamed}
use Rattle.report_reader.specs.ReadAnswers.{ReadsAnswer, ReadsGot, ReadsEnded}
use Rattle.report_lines.specs.Text.{worker_word, awaited_words, answer_words}

-- a worker is told from its word
pub worker_told : (workers : ℕ) → workers ≤ 8 → (a b : ℕ) → IsOneOf workers b → IsOneOf workers a → worker_word a ≡ worker_word b → a ≡ b
worker_told workers few a b is_b is_a same = decimal_injective a b (omega (arith, is_a.1)) (omega (arith, is_b.1)) (ap (drop 1) same)

-- a commit of some puts does not say 0
committed_some : (none : Bool) (p l : ℕ) (puts lamport : List ℕ) → (p == 0) ≡ none → p < 2 ^ 32 → puts ≡ decimal 0 → codes "commit" ∷ puts ∷ codes "at" ∷ lamport ∷ [] ≡ committed_words none p l → ⊥
committed_some true p l puts lamport is fits zero same = omega (arith, ap length same)
committed_some false p l puts lamport is fits zero same =
    let number : p ≡ 0 = decimal_injective p 0 (omega arith) (omega arith) (sym (ap (word_at 1) same) ∙ zero) in
    both_ways (p == 0) is (eq-eqb p 0 number)

module _ (script : Script) (level : Level) where
  -- what is read of a line is read of the same line
  pub answer_same : (line other : Line) (words others : List (List ℕ)) (result : Option Answer) → line ≡ other → words ≡ others → ReadsAnswer script level other others result → ReadsAnswer script level line words result
  answer_same line other words others result same_line same_words reads =
      let P : Line → Type 0 = λ line. ReadsAnswer script level line others result in
      let Q : List (List ℕ) → Type 0 = λ words. ReadsAnswer script level line words result in
      subst Q (sym same_words) (subst P (sym same_line) reads)

  -- ---- gets

  -- a get that shows a cell ends with it
  got_none : (key : ℕ) (named : Option ℕ) (words : List (List ℕ)) (x : Answer) → ReadsGot script level key words None → Fits script level (lines.Get key named) x → codes "get" ∷ key_name script key ∷ words ≡ answer_words script (lines.Get key named) x → ⊥
  got_none key named words (answers.Got worker shown) none fits same = none (answers.Got worker shown) fits (ap (drop 2) same)
  got_none key named words (answers.Again asks worker clock) none fits same = omega (arith, ap (λ words. length (word_at 0 words)) same)
  got_none key named words x none fits same = fits

  pub got_read : (key : ℕ) (named : Option ℕ) (words : List (List ℕ)) (result : Option Answer) → ReadsGot script level key words result → ReadsAnswer script level (lines.Get key named) (codes "get" ∷ key_name script key ∷ words) result
  got_read key named words None reads = λ x fits same. got_none key named words x reads fits same
  got_read key named words (Some (answers.Got worker shown)) reads = (reads.0, ap (λ rest. codes "get" ∷ key_name script key ∷ rest) reads.1)
  got_read key named words (Some other) reads = absurd reads.0

  -- one that is to ask again ends with where asking ended
  again_none : (key : ℕ) (named : Option ℕ) (words : List (List ℕ)) (x : Answer) → ReadsEnded script level words None → Fits script level (lines.Get key named) x → codes "again" ∷ key_name script key ∷ words ≡ answer_words script (lines.Get key named) x → ⊥
  again_none key named words (answers.Got worker shown) none fits same = omega (arith, ap (λ words. length (word_at 0 words)) same)
  again_none key named words (answers.Again asks worker clock) none fits same = none (answers.Again asks worker clock) fits (ap (drop 2) same)
  again_none key named words x none fits same = fits

  pub again_read : (key : ℕ) (named : Option ℕ) (words : List (List ℕ)) (result : Option Answer) → ReadsEnded script level words result → ReadsAnswer script level (lines.Get key named) (codes "again" ∷ key_name script key ∷ words) result
  again_read key named words None reads = λ x fits same. again_none key named words x reads fits same
  again_read key named words (Some (answers.Again asks worker clock)) reads = (reads.0, ap (λ rest. codes "again" ∷ key_name script key ∷ rest) reads.1)
  again_read key named words (Some other) reads = absurd reads.0

  -- ---- awaits

  -- what an await begins with
  abbrev pub await_words : ℕ → ℕ → ℕ → List (List ℕ) → List (List ℕ)
  await_words key session count words = codes "await" ∷ awaited_words script key session count words

  -- an await that shows a cell ends with it
  shown_none : (key session count : ℕ) (words : List (List ℕ)) (x : Answer) → LacksNamed (codes "gave") words → ReadsGot script level key words None → Fits script level (lines.Await key session count) x → await_words key session count words ≡ answer_words script (lines.Await key session count) x → ⊥
  shown_none key session count words (answers.Got worker shown) other none fits same = none (answers.Got worker shown) fits (ap (drop 4) same)
  shown_none key session count words (answers.Again asks worker clock) other none fits same = other _ _ (ap (drop 4) same)
  shown_none key session count words x other none fits same = fits

  pub shown_read : (key session count : ℕ) (words : List (List ℕ)) (result : Option Answer) → LacksNamed (codes "gave") words → ReadsGot script level key words result → ReadsAnswer script level (lines.Await key session count) (await_words key session count words) result
  shown_read key session count words None other reads = λ x fits same. shown_none key session count words x other reads fits same
  shown_read key session count words (Some (answers.Got worker shown)) other reads = (reads.0, ap (await_words key session count) reads.1)
  shown_read key session count words (Some other) not_gave reads = absurd reads.0

  -- one that gave up ends with where asking ended
  ended_none : (key session count : ℕ) (words : List (List ℕ)) (x : Answer) → ReadsEnded script level words None → Fits script level (lines.Await key session count) x → await_words key session count (codes "gave" ∷ codes "up" ∷ words) ≡ answer_words script (lines.Await key session count) x → ⊥
  ended_none key session count words (answers.Got worker shown) none fits same = true≢false (ap (λ words. list_all is_spelling_byte (word_at 4 words)) same)
  ended_none key session count words (answers.Again asks worker clock) none fits same = none (answers.Again asks worker clock) fits (ap (drop 6) same)
  ended_none key session count words x none fits same = fits

  pub ended_read : (key session count : ℕ) (words : List (List ℕ)) (result : Option Answer) → ReadsEnded script level words result → ReadsAnswer script level (lines.Await key session count) (await_words key session count (codes "gave" ∷ codes "up" ∷ words)) result
  ended_read key session count words None reads = λ x fits same. ended_none key session count words x reads fits same
  ended_read key session count words (Some (answers.Again asks worker clock)) reads = (reads.0, ap (λ rest. await_words key session count (codes "gave" ∷ codes "up" ∷ rest)) reads.1)
  ended_read key session count words (Some other) reads = absurd reads.0

  -- ---- commits

  -- a commit whose number of puts is 0 has no Lamport number
  pub none_committed : (x : Answer) (puts lamport : List ℕ) → puts ≡ decimal 0 → Fits script level lines.Commit x → codes "commit" ∷ puts ∷ codes "at" ∷ lamport ∷ [] ≡ answer_words script lines.Commit x → ⊥
  none_committed (answers.Committed p l) puts lamport zero fits same = committed_some (p == 0) p l puts lamport refl fits.0 zero same
  none_committed answers.Worn puts lamport zero fits same = omega (arith, ap length same)
  none_committed x puts lamport zero fits same = fits
