-- One call that writes to a text after another.
use Rattle.std.proofs.Common.{◌≡◌, ℕ, ◌+◌, ◌≤◌, List, Result, Ok, Err, OnErr, [], ◌∷◌, ◌++◌, take, length, Option, Bool, true, false, sym, ap, refl, subst, ◌∙◌, append_assoc, arith}
use Rattle.std.proofs.lemmas.List.{append-nil, length-append, take-append-le}
use Rattle.std.proofs.Math.Seq.{take-append-add}
use Rattle.outside.proofs.OutsideLemmas.{Grew-more, Grew-none}
use Rattle.outside.specs.Gathering.{Passes, Adds, Begins, HasEnded, EndsAs, Wrote}
use Rattle.lattice_laws.specs.Counts.{Rose}
use Rattle.outside.specs.Outside.{Grew, GrewByFront, HasCause}
use Rattle.outside.specs.declared.Failed.{Failed}
use Rattle.outside.specs.declared.gathering.Out.{Out}

-- a front of what was held and then written is a front of that with more after it
front_more : (a b : Option (List ℕ)) (held t u : List ℕ) → GrewByFront a b (held ++ t) → GrewByFront a b (held ++ (t ++ u))
front_more a b held t u (n, within, grew) =
    rw (← append_assoc held t u) (n, omega (arith, length-append (held ++ t) u), rw (take-append-le n (held ++ t) u) grew)

-- what was given before, and then a front of what was held then and written
given_then_front : (a b c : Option (List ℕ)) (held holds given t u : List ℕ) → Grew a b given → given ++ holds ≡ held ++ t → GrewByFront b c (holds ++ u) → GrewByFront a c (held ++ (t ++ u))
given_then_front a b c held holds given t u grew same (n, within, more) =
    let whole : held ++ (t ++ u) ≡ given ++ (holds ++ u) = sym (append_assoc held t u) ∙ ap (λ xs. xs ++ u) (sym same) ∙ append_assoc given holds u in
    rw whole (length given + n, omega (arith, length-append given (holds ++ u)), rw (take-append-add given (holds ++ u) n) (Grew-more a b c given (take n (holds ++ u)) grew more))

-- what became of one text and then of another
Passes-then : {K : Type 0} (written : K → Option (List ℕ)) (faults : K → ℕ) (p q r : Bool) (a b c : K) (x y z t u : List ℕ)
    → faults a ≤ faults b → faults b ≤ faults c → Passes written faults p q a b x y t → Passes written faults q r b c y z u → Passes written faults p r a c x z (t ++ u)
Passes-then written faults false false false a b c x y z t u up more (given, grew, same) (given', grew', same') = (
  given ++ given',
  Grew-more (written a) (written b) (written c) given given' grew grew',
  append_assoc given given' z ∙ ap (λ xs. given ++ xs) same' ∙ sym (append_assoc given y u) ∙ ap (λ xs. xs ++ u) same ∙ append_assoc x t u,
)
Passes-then written faults false false true a b c x y z t u up more (given, grew, same) (front, rose) =
    (given_then_front (written a) (written b) (written c) x y given t u grew same front, omega arith)
Passes-then written faults false true true a b c x y z t u up more (front, rose) same =
    rw same (front_more (written a) (written b) x t u front, rose)
Passes-then written faults false true false a b c x y z t u up more h i = absurd i
Passes-then written faults true true true a b c x y z t u up more h i = i ∙ h
Passes-then written faults true true false a b c x y z t u up more h i = absurd i
Passes-then written faults true false r a b c x y z t u up more h i = absurd h

-- Nothing was written.
pub Adds-none : {K : Type 0} {written : K → Option (List ℕ)} {faults : K → ℕ} {a : Out K} → Adds written faults a a []
Adds-none {written = written} {faults = faults} {a = a} = record {
  same = refl;
  passes = elim a.failed as (λ failed. Passes written faults failed failed a.sink.now a.sink.now a.held a.held []) [
    | false ↦ ([], Grew-none (written a.sink.now), sym (append-nil a.held))
    | true ↦ refl
  ];
  count = omega arith;
}

-- One text was written and then another: both, one after the other.
pub Adds-then : {K : Type 0} {written : K → Option (List ℕ)} {faults : K → ℕ} {a b c : Out K} {t u : List ℕ} → Adds written faults a b t → Adds written faults b c u → Adds written faults a c (t ++ u)
Adds-then {written = written} {faults = faults} {a = a} {b = b} {c = c} {t = t} {u = u} first second = record {
  same = second.same ∙ first.same;
  passes = Passes-then written faults a.failed b.failed c.failed a.sink.now b.sink.now c.sink.now a.held b.held c.held t u first.count second.count first.passes second.passes;
  count = omega (arith, first.count, second.count);
}

-- The same text in another form.
pub Adds-as : {K : Type 0} {written : K → Option (List ℕ)} {faults : K → ℕ} {a b : Out K} {t u : List ℕ} → t ≡ u → Adds written faults a b t → Adds written faults a b u
Adds-as {written = written} {faults = faults} {a = a} {b = b} same first = subst (Adds written faults a b) same first

-- what was begun here, without what the block and the flag were called
begun : {K : Type 0} (written : K → Option (List ℕ)) (faults : K → ℕ) (sink before now : K) (p q : Bool) (x y text : List ℕ)
    → before ≡ sink → x ≡ [] → p ≡ false → Passes written faults p q before now x y text → Passes written faults false q sink now [] y text
begun written faults sink before now p q x y text same none fine passes =
    subst (λ sink. Passes written faults false q sink now [] y text) same
    (subst (λ x. Passes written faults false q before now x y text) none (subst (λ p. Passes written faults p q before now x y text) fine passes))

-- what the sink has of a text that was begun here and has ended, and why it failed
ended : {K : Type 0} (written : K → Option (List ℕ)) (faults : K → ℕ) (sink now : K) (q : Bool) (y text : List ℕ) (result : Result (Unit {0}) Failed)
    → EndsAs q y result → Passes written faults false q sink now [] y text → Wrote (written sink) (written now) text result × OnErr result (Rose (faults sink) (faults now))
ended written faults sink now false y text (Ok done) (fine, none) (given, grew, same) =
    (subst (Grew (written sink) (written now)) (sym (append-nil given) ∙ ap (λ y. given ++ y) (sym none) ∙ same) grew, tt)
ended written faults sink now true y text (Ok done) (fine, none) passes = absurd (cc)
ended written faults sink now true y text (Err failed) fails passes = passes
ended written faults sink now false y text (Err failed) fails passes = absurd (cc)

-- A text that was begun, written and ended: what the sink has of it in the end.
pub Adds-wrote : {K : Type 0} {written : K → Option (List ℕ)} {faults : K → ℕ} {sink now : K} {a b c : Out K} {text : List ℕ} (result : Result (Unit {0}) Failed)
    → c.sink.now ≡ now → Begins sink a → Adds written faults a b text → Adds written faults b c [] → HasEnded c result → Wrote (written sink) (written now) text result
Adds-wrote {written = written} {faults = faults} {sink = sink} {a = a} {b = b} {c = c} {text = text} result same begins first last ends =
    let whole : Adds written faults a c text = Adds-as (append-nil text) (Adds-then first last) in
    let passes = begun written faults sink a.sink.now c.sink.now a.failed c.failed a.held c.held text begins.0 begins.1 begins.2 whole.passes in
    subst (λ now. Wrote (written sink) (written now) text result) same (ended written faults sink c.sink.now c.failed c.held text result ends passes).0

-- It failed only where the sink's count of faults rose.
pub Adds-cause : {K : Type 0} {written : K → Option (List ℕ)} {faults : K → ℕ} {sink now : K} {a b c : Out K} {text : List ℕ} (result : Result (Unit {0}) Failed)
    → c.sink.now ≡ now → Begins sink a → Adds written faults a b text → Adds written faults b c [] → HasEnded c result → HasCause (faults sink) (faults now) result
Adds-cause {written = written} {faults = faults} {sink = sink} {a = a} {b = b} {c = c} {text = text} result same begins first last ends =
    let whole : Adds written faults a c (text ++ []) = Adds-then first last in
    let passes = begun written faults sink a.sink.now c.sink.now a.failed c.failed a.held c.held (text ++ []) begins.0 begins.1 begins.2 whole.passes in
    let count : faults sink ≤ faults c.sink.now = subst (λ sink. faults sink ≤ faults c.sink.now) begins.0 whole.count in
    subst (λ now. HasCause (faults sink) (faults now) result) same (count, (ended written faults sink c.sink.now c.failed c.held (text ++ []) result ends passes).1)

-- One byte was written and then a text.
pub Adds-byte : {K : Type 0} {written : K → Option (List ℕ)} {faults : K → ℕ} {a b c : Out K} {x : ℕ} {t : List ℕ} → Adds written faults a b (x ∷ []) → Adds written faults b c t → Adds written faults a c (x ∷ t)
Adds-byte first second = Adds-then first second
