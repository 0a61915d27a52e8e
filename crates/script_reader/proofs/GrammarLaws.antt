-- Laws of the grammar of scripts: a text that is a script is not refused, it is one script at most, and it is refused in one way at most.
use Rattle.std.specs.Prelude.{◌≡◌, ℕ, ◌+◌, ◌⊎◌, List, [], ◌∷◌, ◌++◌, length, Some, None}
use Rattle.std.proofs.Common.{inl, inr, refl, sym, ap, ◌∙◌, arith}
use Rattle.session_known.specs.declared.script.Script.{Script}
use Rattle.script_reader.specs.Codes.{number_of_code}
use Rattle.script_reader.specs.Faults.{code_after}
use Rattle.script_reader.specs.Grammar.{sessions_named, AreInOrder, IsFirstFault, IsScript, IsRefused}
use Rattle.script_reader.specs.Lines.{script_lines}
use Rattle.script_reader.specs.declared.code.Code.{Code}

-- A line with a code is not in order.
not_in_order : (named before : List (List ℕ)) (line : List ℕ) (why : Code) → code_after named before line ≡ None → code_after named before line ≡ Some why → ⊥
not_in_order named before line why none some = cc

-- Where all lines are in order, none is the first at fault.
pub no_fault : (named lines : List (List ℕ)) (at code : ℕ) → AreInOrder named lines → IsFirstFault named lines at code → ⊥
no_fault named lines at code all first = not_in_order named first.before first.line first.why (all first.before first.after first.line first.place) first.fault

-- A text that is a script is not refused.
pub script_not_refused : (text : List ℕ) (script : Script) (at code : ℕ) → IsScript text script → IsRefused text at code → ⊥
script_not_refused text script at code is (inl long) = absurd (omega arith)
script_not_refused text script at code is (inr (short, inl first)) = no_fault (sessions_named (script_lines text)) (script_lines text) at code is.lines.in_order first
script_not_refused text script at code is (inr (short, inr missing)) = let ended = is.lines.ended in let no_end = missing.no_end in absurd cc

-- A text is one script at most.
pub one_script : (text : List ℕ) (a b : Script) → IsScript text a → IsScript text b → a ≡ b
one_script text a b is_a is_b = is_a.lines.says ∙ sym is_b.lines.says

-- Where a list is cut at an element and again at one, both stand at one place, or one before the other.
pub two_cuts : {A : Type 0} (xs : List A) (x : A) (xs' : List A) (ys : List A) (y : A) (ys' : List A) → xs ++ x ∷ xs' ≡ ys ++ y ∷ ys' → ((xs ≡ ys) × (x ≡ y)) ⊎ (((between : List A) × (ys ≡ xs ++ x ∷ between)) ⊎ ((between : List A) × (xs ≡ ys ++ y ∷ between)))
two_cuts [] x xs' [] y ys' e = inl (refl, cc)
two_cuts [] x xs' (z ∷ ys) y ys' e = let first : z ≡ x = cc in inr (inl (ys, ap (λ v. v ∷ ys) first))
two_cuts (w ∷ xs) x xs' [] y ys' e = let first : w ≡ y = cc in inr (inr (xs, ap (λ v. v ∷ xs) first))
two_cuts (w ∷ xs) x xs' (z ∷ ys) y ys' e =
    let first : w ≡ z = cc in
    let rest : xs ++ x ∷ xs' ≡ ys ++ y ∷ ys' = cc in
    elim (two_cuts xs x xs' ys y ys' rest) [
      | inl same ↦ inl (ap (λ v. v ∷ xs) first ∙ ap (λ vs. z ∷ vs) same.0, same.1)
      | inr (inl (between, later)) ↦ inr (inl (between, ap (λ v. v ∷ ys) (sym first) ∙ ap (λ vs. w ∷ vs) later))
      | inr (inr (between, sooner)) ↦ inr (inr (between, ap (λ v. v ∷ xs) first ∙ ap (λ vs. z ∷ vs) sooner))
    ]

-- A line has one code at most.
one_code : (named before before' : List (List ℕ)) (line line' : List ℕ) (why why' : Code) → before ≡ before' → line ≡ line' → code_after named before line ≡ Some why → code_after named before' line' ≡ Some why' → why ≡ why'
one_code named before before' line line' why why' same_before same_line has has' =
    let same : code_after named before line ≡ code_after named before' line' = λ i. code_after named (same_before i) (same_line i) in
    let codes : Some why ≡ Some why' = sym has ∙ same ∙ has' in
    cc

-- Lines have one first fault at most, with one code.
pub one_fault : (named lines : List (List ℕ)) (at code at' code' : ℕ) → IsFirstFault named lines at code → IsFirstFault named lines at' code' → (at ≡ at') × (code ≡ code')
one_fault named lines at code at' code' a b =
    elim (two_cuts a.before a.line a.after b.before b.line b.after (sym a.place ∙ b.place)) as (λ _. (at ≡ at') × (code ≡ code')) [
      | inl same ↦ (
          let counted : length a.before ≡ length b.before = ap (λ (ls : List (List ℕ)). length ls) same.0 in
          let why = one_code named a.before b.before a.line b.line a.why b.why same.0 same.1 a.fault b.fault in
          (a.counted ∙ ap (λ n. n + 1) counted ∙ sym b.counted, a.code_is ∙ ap number_of_code why ∙ sym b.code_is)
          )
      | inr (inl (between, later)) ↦ absurd (not_in_order named a.before a.line a.why (b.in_order a.before between a.line later) a.fault)
      | inr (inr (between, sooner)) ↦ absurd (not_in_order named b.before b.line b.why (a.in_order b.before between b.line sooner) b.fault)
    ]

-- A text is refused at one line and with one code at most.
pub one_refusal : (text : List ℕ) (at code at' code' : ℕ) → IsRefused text at code → IsRefused text at' code' → (at ≡ at') × (code ≡ code')
one_refusal text at code at' code' (inl long) (inl long') = (long.counted ∙ sym long'.counted, long.code_is ∙ sym long'.code_is)
one_refusal text at code at' code' (inl long) (inr other) = absurd (omega arith)
one_refusal text at code at' code' (inr other) (inl long) = absurd (omega arith)
one_refusal text at code at' code' (inr (short, inl a)) (inr (short', inl b)) = one_fault (sessions_named (script_lines text)) (script_lines text) at code at' code' a b
one_refusal text at code at' code' (inr (short, inl a)) (inr (short', inr missing)) = absurd (no_fault (sessions_named (script_lines text)) (script_lines text) at code missing.in_order a)
one_refusal text at code at' code' (inr (short, inr missing)) (inr (short', inl b)) = absurd (no_fault (sessions_named (script_lines text)) (script_lines text) at' code' missing.in_order b)
one_refusal text at code at' code' (inr (short, inr a)) (inr (short', inr b)) = (a.counted ∙ sym b.counted, a.code_is ∙ sym b.code_is)
