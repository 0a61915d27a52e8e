-- Answers to one line are told from their words.
use Rattle.std.specs.Prelude.{◌≡◌, ℕ, ◌<◌, ◌^◌, ◌==◌, Bool, true, false, if◌then◌else◌, List, [], ◌∷◌, drop, length, codes, slice_index_or, Option, Some, None}
use Rattle.std.specs.Fmt.{decimal}
use Rattle.std.specs.List.{list_all}
use Rattle.std.proofs.Common.{refl, sym, ap, ◌∙◌, arith}
use Rattle.std.proofs.lemmas.Bool.{true≢false, false≢true, eqb-true}
use Rattle.std.proofs.lemmas.Fmt.{decimal_injective}
use Rattle.lattice_laws.specs.Spelling.{is_spelling_byte}
use Rattle.session_known.specs.Form.{IsClockIn, NeedsFit, IsShownIn, IsAgainIn, Fits}
use Rattle.placement.specs.Config.{IsOneOf}
use Rattle.composed_value.specs.Keyed.{kind_at}
use Rattle.session_known.specs.declared.report.Answer.{Answer}
use Rattle.session_known.specs.declared.report.Answer.TheVariants as answers
use Rattle.session_known.specs.declared.report.Shown.{Shown}
use Rattle.session_known.specs.declared.script.Level.{Level}
use Rattle.session_known.specs.declared.script.Level.TheVariants.{Eventual, Committed, Causal}
use Rattle.session_known.specs.declared.script.Line.{Line}
use Rattle.session_known.specs.declared.script.Line.TheVariants as lines
use Rattle.session_known.specs.declared.script.Script.{Script}
use Rattle.report_lines.proofs.ClocksLemmas.{clock_counted, clock_told, needs_needed, needs_told}
use Rattle.report_lines.proofs.NamesLemmas.{TellsNames}
use Rattle.report_lines.specs.Text.{clock_word, worker_word, needs_words, shown_words, again_words, answer_words}
use Rattle.report_lines.proofs.ValuesLemmas.{value_told}

-- the word at a place of a line
abbrev pub word_at : ℕ → List (List ℕ) → List ℕ
word_at place words = slice_index_or words place []

-- the words of a commit, where it has no puts and else
abbrev pub committed_words : Bool → ℕ → ℕ → List (List ℕ)
committed_words none puts lamport = if none then codes "commit" ∷ codes "0" ∷ [] else codes "commit" ∷ decimal puts ∷ codes "at" ∷ decimal lamport ∷ []

-- what they say is told
committed_told : (s t : Bool) (p q l m : ℕ) → (p == 0) ≡ s → (q == 0) ≡ t → p < 2 ^ 32 → q < 2 ^ 32 → l < 2 ^ 64 → m < 2 ^ 64 → (p ≡ 0 → l ≡ 0) → (q ≡ 0 → m ≡ 0) → committed_words s p l ≡ committed_words t q m → (p ≡ q) × (l ≡ m)
committed_told true true p q l m is_s is_t fits_p fits_q fits_l fits_m none_p none_q same =
    let zero_p = eqb-true p 0 is_s in
    let zero_q = eqb-true q 0 is_t in
    (zero_p ∙ sym zero_q, none_p zero_p ∙ sym (none_q zero_q))
committed_told true false p q l m is_s is_t fits_p fits_q fits_l fits_m none_p none_q same = absurd (omega (arith, ap length same))
committed_told false true p q l m is_s is_t fits_p fits_q fits_l fits_m none_p none_q same = absurd (omega (arith, ap length same))
committed_told false false p q l m is_s is_t fits_p fits_q fits_l fits_m none_p none_q same =
    (decimal_injective p q (omega arith) (omega arith) (ap (word_at 1) same), decimal_injective l m fits_l fits_m (ap (word_at 3) same))

-- none of them says that the numbers are used up
not_worn : (t : Bool) (q m : ℕ) → committed_words t q m ≡ codes "commit" ∷ codes "worn" ∷ [] → ⊥
not_worn true q m same = omega (arith, ap (λ words. length (word_at 1 words)) same)
not_worn false q m same = omega (arith, ap length same)

module _ (script : Script) (names : TellsNames script) where
  -- a clock in form is told
  pub clock_in_told : (a b : List (ℕ × ℕ)) → IsClockIn script a → IsClockIn script b → clock_word script a ≡ clock_word script b → a ≡ b
  clock_in_told a b is_a is_b same = clock_told script names a b (clock_counted script a is_a) (clock_counted script b is_b) same

  -- a worker is told
  worker_told : (a b : ℕ) → IsOneOf script.config.workers a → IsOneOf script.config.workers b → worker_word a ≡ worker_word b → a ≡ b
  worker_told a b is_a is_b same = decimal_injective a b (omega (arith, is_a.1, names.few_workers)) (omega (arith, is_b.1, names.few_workers)) (ap (drop 1) same)

  -- needs are told, where they are there
  needs_shown_told : (level : Level) (a b : Option (List (ℕ × List (ℕ × ℕ)))) → NeedsFit script level a → NeedsFit script level b → needs_words script a ≡ needs_words script b → a ≡ b
  needs_shown_told level None None fit_a fit_b same = refl
  needs_shown_told Causal (Some a) (Some b) fit_a fit_b same = ap Some (needs_told script names a b (needs_needed script a fit_a) (needs_needed script b fit_b) (ap (word_at 1) same))
  needs_shown_told Eventual (Some a) b fit_a fit_b same = absurd fit_a
  needs_shown_told Committed (Some a) b fit_a fit_b same = absurd fit_a
  needs_shown_told Causal (Some a) None fit_a fit_b same = absurd fit_b
  needs_shown_told Eventual None (Some b) fit_a fit_b same = absurd fit_b
  needs_shown_told Committed None (Some b) fit_a fit_b same = absurd fit_b
  needs_shown_told Causal None (Some b) fit_a fit_b same = absurd fit_a

  -- what a worker showed is told
  shown_told : (level : Level) (key v w : ℕ) (a b : Shown) → IsShownIn script level key v a → IsShownIn script level key w b → shown_words script v a ≡ shown_words script w b → answers.Got v a ≡ answers.Got w b
  shown_told level key v w a b is_a is_b same =
      let worker = worker_told v w is_a.worker_is is_b.worker_is (ap (word_at 0) same) in
      let clock = clock_in_told a.clock b.clock is_a.clock_is is_b.clock_is (ap (word_at 2) same) in
      let top = decimal_injective a.top b.top is_a.top_fits is_b.top_fits (ap (word_at 4) same) in
      let value = value_told script names (kind_at script.kinds key) a.value b.value is_a.value_is is_b.value_is (ap (word_at 6) same) in
      let needs = needs_shown_told level a.needs b.needs is_a.needs_are is_b.needs_are (ap (drop 7) same) in
      λ i. answers.Got (worker i) (record { clock = clock i; top = top i; value = value i; needs = needs i })

  -- and so is where asking ended
  again_told : (level : Level) (x y v w : ℕ) (a b : List (ℕ × ℕ)) → IsAgainIn script level x v a → IsAgainIn script level y w b → again_words script x v a ≡ again_words script y w b → answers.Again x v a ≡ answers.Again y w b
  again_told level x y v w a b is_a is_b same =
      let asks = decimal_injective x y (omega (arith, is_a.asks_fit)) (omega (arith, is_b.asks_fit)) (ap (word_at 1) same) in
      let worker = worker_told v w is_a.worker_is is_b.worker_is (ap (word_at 2) same) in
      let clock = clock_in_told a b is_a.clock_is is_b.clock_is (ap (word_at 4) same) in
      λ i. answers.Again (asks i) (worker i) (clock i)

  -- Two answers to one line are told from its words.
  pub answer_told : (level : Level) (line : Line) (a b : Answer) → Fits script level line a → Fits script level line b → answer_words script line a ≡ answer_words script line b → a ≡ b
  answer_told level (lines.Put key payload) (answers.Put m l) (answers.Put n k) fit_a fit_b same =
      let number = decimal_injective m n fit_a.0 fit_b.0 (ap (word_at 2) same) in
      let lamport = decimal_injective l k fit_a.1 fit_b.1 (ap (word_at 4) same) in
      λ i. answers.Put (number i) (lamport i)
  answer_told level (lines.Put key payload) (answers.Put m l) answers.Held fit_a fit_b same = absurd (omega (arith, ap length same))
  answer_told level (lines.Put key payload) (answers.Put m l) answers.Worn fit_a fit_b same = absurd (omega (arith, ap length same))
  answer_told level (lines.Put key payload) answers.Held (answers.Put n k) fit_a fit_b same = absurd (omega (arith, ap length same))
  answer_told level (lines.Put key payload) answers.Held answers.Held fit_a fit_b same = refl
  answer_told level (lines.Put key payload) answers.Held answers.Worn fit_a fit_b same = absurd (omega (arith, ap (λ words. slice_index_or (word_at 2 words) 0 0) same))
  answer_told level (lines.Put key payload) answers.Worn (answers.Put n k) fit_a fit_b same = absurd (omega (arith, ap length same))
  answer_told level (lines.Put key payload) answers.Worn answers.Held fit_a fit_b same = absurd (omega (arith, ap (λ words. slice_index_or (word_at 2 words) 0 0) same))
  answer_told level (lines.Put key payload) answers.Worn answers.Worn fit_a fit_b same = refl
  answer_told level (lines.Get key named) (answers.Got v a) (answers.Got w b) fit_a fit_b same = shown_told level key v w a b fit_a fit_b (ap (drop 2) same)
  answer_told level (lines.Get key named) (answers.Got v a) (answers.Again y w b) fit_a fit_b same = absurd (omega (arith, ap (λ words. length (word_at 0 words)) same))
  answer_told level (lines.Get key named) (answers.Again x v a) (answers.Got w b) fit_a fit_b same = absurd (omega (arith, ap (λ words. length (word_at 0 words)) same))
  answer_told level (lines.Get key named) (answers.Again x v a) (answers.Again y w b) fit_a fit_b same = again_told level x y v w a b fit_a fit_b (ap (drop 2) same)
  answer_told level (lines.Await key session count) (answers.Got v a) (answers.Got w b) fit_a fit_b same = shown_told level key v w a b fit_a fit_b (ap (drop 4) same)
  answer_told level (lines.Await key session count) (answers.Got v a) (answers.Again y w b) fit_a fit_b same = absurd (false≢true (ap (λ words. list_all is_spelling_byte (word_at 4 words)) same))
  answer_told level (lines.Await key session count) (answers.Again x v a) (answers.Got w b) fit_a fit_b same = absurd (true≢false (ap (λ words. list_all is_spelling_byte (word_at 4 words)) same))
  answer_told level (lines.Await key session count) (answers.Again x v a) (answers.Again y w b) fit_a fit_b same = again_told level x y v w a b fit_a fit_b (ap (drop 6) same)
  answer_told level lines.Begin answers.Begun answers.Begun fit_a fit_b same = refl
  answer_told level lines.Commit (answers.Committed p l) (answers.Committed q m) fit_a fit_b same =
      let both = committed_told (p == 0) (q == 0) p q l m refl refl fit_a.0 fit_b.0 fit_a.1 fit_b.1 fit_a.2 fit_b.2 same in
      λ i. answers.Committed (both.0 i) (both.1 i)
  answer_told level lines.Commit (answers.Committed p l) answers.Worn fit_a fit_b same = absurd (not_worn (p == 0) p l same)
  answer_told level lines.Commit answers.Worn (answers.Committed q m) fit_a fit_b same = absurd (not_worn (q == 0) q m (sym same))
  answer_told level lines.Commit answers.Worn answers.Worn fit_a fit_b same = refl
  answer_told level lines.Abort (answers.Aborted p) (answers.Aborted q) fit_a fit_b same = ap answers.Aborted (decimal_injective p q (omega (arith, fit_a)) (omega (arith, fit_b)) (ap (word_at 1) same))
  answer_told level line a b fit_a fit_b same = absurd (omega arith)
