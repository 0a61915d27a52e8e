-- The pins of a key.
use Rattle.std.proofs.Common.{◌==◌, ◌≡◌, ℕ, ◌+◌, ◌<◌, Bool, true, false, not, eqb, ◌||◌, ◌&&◌, List, [], ◌∷◌, ◌++◌, map, length, take, drop, get_or, None, is_some, Bor, refl, sym, ap, ◌∙◌, arith}
use Rattle.std.specs.List.{list_any, list_all}
use Rattle.std.proofs.lemmas.List.{take_more, take-append-drop, length-map, get_or-map}
use Rattle.std.proofs.lemmas.List.Folds.{list_any-append, list_any_at}
use Rattle.script_reader.specs.Faults.{has_repeat}
use Rattle.script_reader.specs.Words.{number_said, is_number, has_non_number}

-- a word that writes no number is one that fails
pub number_lacks : (words : List (Bor (List ℕ))) (i : ℕ) (default : Bor (List ℕ)) → i < length words → number_said (get_or words i default).now ≡ None → has_non_number (map (λ word. word.now) words) ≡ true
number_lacks words i default within none =
    let now : Bor (List ℕ) → List ℕ = λ word. word.now in
    list_any_at (λ word. not (is_number word)) (map now words) i default.now (omega (arith, length-map words now))
    (ap (λ word. not (is_some (number_said word))) (get_or-map now words i default default.now within) ∙ ap (λ said. not (is_some said)) none)

de_morgan : (a b : Bool) → (a && not b) ≡ not (not a || b)
de_morgan true b = refl
de_morgan false b = refl

-- all pass where none fails
pub all_not_any : (test : ℕ → Bool) (numbers : List ℕ) → list_all test numbers ≡ not (list_any (λ n. not (test n)) numbers)
all_not_any test [] = refl
all_not_any test (n ∷ numbers) = ap (λ rest. test n && rest) (all_not_any test numbers) ∙ de_morgan (test n) (list_any (λ n. not (test n)) numbers)

repeats_as : (a b c d : Bool) → ((a || (b || false)) || (c || d)) ≡ ((b || c) || (a || d))
repeats_as true true c d = refl
repeats_as true false true d = refl
repeats_as true false false d = refl
repeats_as false true c d = refl
repeats_as false false true d = refl
repeats_as false false false d = refl

-- one of two tests holds where the first does
pub either_first : (a b : Bool) → a ≡ true → (a || b) ≡ true
either_first true b is = refl
either_first false b is = absurd cc

-- a number more stands twice, where it is among the numbers, or one of them stands twice
pub repeats_push : (numbers : List ℕ) (n : ℕ) → has_repeat (numbers ++ n ∷ []) ≡ (list_any (λ other. n == other) numbers || has_repeat numbers)
repeats_push [] n = refl
repeats_push (first ∷ numbers) n =
    (λ i. list_any-append (λ other. other == first) numbers (n ∷ []) i || repeats_push numbers n i)
    ∙ repeats_as (list_any (λ other. other == first) numbers) (n == first) (list_any (λ other. n == other) numbers) (has_repeat numbers)

or_both : (a b c d : Bool) → (a ≡ true → b ≡ true) → (c ≡ true → d ≡ true) → (a || c) ≡ true → (b || d) ≡ true
or_both true b c d first second is = rw (first refl) refl
or_both false true c d first second is = refl
or_both false false c d first second is = second is

any_stays : (test : ℕ → Bool) (front back : List ℕ) → list_any test front ≡ true → list_any test (front ++ back) ≡ true
any_stays test front back is = list_any-append test front back ∙ either_first _ (list_any test back) is

-- what stands twice in a front stands twice in the whole
pub repeats_stay : (front back : List ℕ) → has_repeat front ≡ true → has_repeat (front ++ back) ≡ true
repeats_stay [] back is = absurd cc
repeats_stay (n ∷ front) back is =
    or_both (list_any (λ other. other == n) front) (list_any (λ other. other == n) (front ++ back)) (has_repeat front) (has_repeat (front ++ back))
    (any_stays (λ other. other == n) front back) (repeats_stay front back) is

-- one more number, which the others do not have
pub repeats_more : (numbers : List ℕ) (i : ℕ) (met : List ℕ) → i < length numbers → met ≡ take i numbers → has_repeat (take i numbers) ≡ false → list_any (eqb (get_or numbers i 0)) met ≡ false → has_repeat (take (i + 1) numbers) ≡ false
repeats_more numbers i met within are once new =
    ap has_repeat (take_more numbers i 0 within) ∙ repeats_push (take i numbers) (get_or numbers i 0)
    ∙ (λ j. list_any (eqb (get_or numbers i 0)) (sym are j) || once j) ∙ ap (λ t. t || false) new

-- one more number, which the others have
pub repeats_found : (numbers : List ℕ) (i : ℕ) (met : List ℕ) → i < length numbers → met ≡ take i numbers → list_any (eqb (get_or numbers i 0)) met ≡ true → has_repeat numbers ≡ true
repeats_found numbers i met within are there =
    let front : has_repeat (take (i + 1) numbers) ≡ true =
    ap has_repeat (take_more numbers i 0 within) ∙ repeats_push (take i numbers) (get_or numbers i 0)
    ∙ either_first _ (has_repeat (take i numbers)) (ap (list_any (eqb (get_or numbers i 0))) (sym are) ∙ there) in
    ap has_repeat (sym (take-append-drop (i + 1) numbers)) ∙ repeats_stay (take (i + 1) numbers) (drop (i + 1) numbers) front
