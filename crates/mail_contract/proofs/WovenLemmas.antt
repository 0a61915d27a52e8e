-- Messages of several senders in the order in which they were taken, and what a list has of one sender.
use Rattle.std.proofs.Common.{◌≡◌, ◌≢◌, ℕ, ◌+◌, ◌<◌, ◌≤◌, Bool, true, false, ◌==◌, if◌then◌else◌, List, [], ◌∷◌, ◌++◌, map, length, take, drop, get_or, sym, ◌∙◌, ap, refl, append-nil, append_assoc, eq-eqb, arith, ⊎_elim, ◌⊎◌}
use Rattle.std.proofs.lemmas.Bool.{ne_eqb}
use Rattle.std.proofs.lemmas.List.{map-append}
use Rattle.mail_contract.specs.Lanes.{count, woven}
use Rattle.mail_contract.specs.Takes.{from_sender}

pub same_or_not : (a b : ℕ) → (a ≡ b) ⊎ (a ≢ b)
same_or_not a b = grind arith

nil : {M : Type 0} (xs : List M) → length xs ≡ 0 → xs ≡ []
nil [] e = refl
nil (x ∷ xs) e = absurd (omega arith)

take_front : {M : Type 0} (xs : List M) (x : M) → 0 < length xs → take 1 (xs ++ x ∷ []) ≡ take 1 xs
take_front [] x lt = absurd (omega arith)
take_front (y ∷ ys) x lt = refl

drop_front : {M : Type 0} (xs : List M) (x : M) → 0 < length xs → drop 1 (xs ++ x ∷ []) ≡ drop 1 xs ++ x ∷ []
drop_front [] x lt = absurd (omega arith)
drop_front (y ∷ ys) x lt = refl

split_front : {M : Type 0} (xs : List M) → take 1 xs ++ drop 1 xs ≡ xs
split_front [] = refl
split_front (y ∷ ys) = refl

length_rest : {M : Type 0} (xs : List M) (n : ℕ) → length xs ≡ n + 1 → length (drop 1 xs) ≡ n
length_rest [] n e = absurd (omega arith)
length_rest (y ∷ ys) n e = omega arith

abbrev drop_at : {M : Type 0} → ℕ → (ℕ → List M) → ℕ → List M
drop_at o f t = if t == o then drop 1 (f t) else f t

drop_same : {M : Type 0} (o t : ℕ) (f : ℕ → List M) → t ≡ o → drop_at o f t ≡ drop 1 (f t)
drop_same {M} o t f e = ap (λ (b : Bool). let r : List M = (if b then drop 1 (f t) else f t) in r) (eq-eqb t o e)

drop_other : {M : Type 0} (o t : ℕ) (f : ℕ → List M) → t ≢ o → drop_at o f t ≡ f t
drop_other {M} o t f e = ap (λ (b : Bool). let r : List M = (if b then drop 1 (f t) else f t) in r) (ne_eqb t o e)

count_same : (s o : ℕ) (os : List ℕ) → o ≡ s → count s (o ∷ os) ≡ count s os + 1
count_same s o os e = ap (λ (b : Bool). let r : ℕ = (if b then count s os + 1 else count s os) in r) (eq-eqb o s e)

count_other : (s o : ℕ) (os : List ℕ) → o ≢ s → count s (o ∷ os) ≡ count s os
count_other s o os e = ap (λ (b : Bool). let r : ℕ = (if b then count s os + 1 else count s os) in r) (ne_eqb o s e)

pub count_more_same : (s : ℕ) (os : List ℕ) (o : ℕ) → o ≡ s → count s (os ++ o ∷ []) ≡ count s os + 1
count_more_same s [] o e = count_same s o [] e
count_more_same s (p ∷ ps) o e = ⊎_elim
    (λ (x : p ≡ s). count_same s p (ps ++ o ∷ []) x ∙ ap (λ n. n + 1) (count_more_same s ps o e ∙ sym (count_same s p ps x)))
    (λ (x : p ≢ s). count_other s p (ps ++ o ∷ []) x ∙ count_more_same s ps o e ∙ ap (λ n. n + 1) (sym (count_other s p ps x)))
    (same_or_not p s)

pub count_more_other : (s : ℕ) (os : List ℕ) (o : ℕ) → o ≢ s → count s (os ++ o ∷ []) ≡ count s os
count_more_other s [] o e = count_other s o [] e
count_more_other s (p ∷ ps) o e = ⊎_elim
    (λ (x : p ≡ s). count_same s p (ps ++ o ∷ []) x ∙ ap (λ n. n + 1) (count_more_other s ps o e) ∙ sym (count_same s p ps x))
    (λ (x : p ≢ s). count_other s p (ps ++ o ∷ []) x ∙ count_more_other s ps o e ∙ sym (count_other s p ps x))
    (same_or_not p s)

-- one more is taken
pub woven_more : {M : Type 0} (os : List ℕ) (f g : ℕ → List M) (s : ℕ) (x : M) → length (f s) ≡ count s os → g s ≡ f s ++ x ∷ [] → ((t : ℕ) → t ≢ s → g t ≡ f t) → woven (os ++ s ∷ []) g ≡ woven os f ++ (s, x) ∷ []
woven_more [] f g s x len here there =
    let e : g s ≡ x ∷ [] = here ∙ ap (λ l. l ++ x ∷ []) (nil (f s) len) in
    ap (λ l. map (λ m. (s, m)) (take 1 l) ++ []) e
woven_more (o ∷ os) f g s x len here there = ⊎_elim
    (λ (y : o ≡ s).
    let more : length (f s) ≡ count s os + 1 = len ∙ count_same s o os y in
    let some : 0 < length (f s) = omega arith in
    let front : take 1 (g o) ≡ take 1 (f o) = ap (λ k. take 1 (g k)) y ∙ ap (take 1) here ∙ take_front (f s) x some ∙ ap (λ k. take 1 (f k)) (sym y) in
    let step = woven_more os (drop_at o f) (drop_at o g) s x
    (ap length (drop_same o s f (sym y)) ∙ length_rest (f s) (count s os) more)
    (drop_same o s g (sym y) ∙ ap (drop 1) here ∙ drop_front (f s) x some ∙ ap (λ l. l ++ x ∷ []) (sym (drop_same o s f (sym y))))
    (λ t n. let m : t ≢ o = (λ z. n (z ∙ y)) in drop_other o t g m ∙ there t n ∙ sym (drop_other o t f m)) in
    (λ i. map (λ m. (o, m)) (front i) ++ step i) ∙ sym (append_assoc (map (λ m. (o, m)) (take 1 (f o))) (woven os (drop_at o f)) ((s, x) ∷ [])))
    (λ (y : o ≢ s).
    let front : take 1 (g o) ≡ take 1 (f o) = ap (take 1) (there o y) in
    let back : s ≢ o = (λ z. y (sym z)) in
    let step = woven_more os (drop_at o f) (drop_at o g) s x
    (ap length (drop_other o s f back) ∙ len ∙ count_other s o os y)
    (drop_other o s g back ∙ here ∙ ap (λ l. l ++ x ∷ []) (sym (drop_other o s f back)))
    (λ t n. ⊎_elim
    (λ (z : t ≡ o). drop_same o t g z ∙ ap (drop 1) (there t n) ∙ sym (drop_same o t f z))
    (λ (z : t ≢ o). drop_other o t g z ∙ there t n ∙ sym (drop_other o t f z))
    (same_or_not t o)) in
    (λ i. map (λ m. (o, m)) (front i) ++ step i) ∙ sym (append_assoc (map (λ m. (o, m)) (take 1 (f o))) (woven os (drop_at o f)) ((s, x) ∷ [])))
    (same_or_not o s)

pub from_sender-append : {M : Type 0} (s : ℕ) (xs ys : List (ℕ × M)) → from_sender s (xs ++ ys) ≡ from_sender s xs ++ from_sender s ys
from_sender-append s [] ys = refl
from_sender-append s (x ∷ xs) ys =
    elim (x.0 == s) as (λ b. (if b then x.1 ∷ from_sender s (xs ++ ys) else from_sender s (xs ++ ys)) ≡ (if b then x.1 ∷ from_sender s xs else from_sender s xs) ++ from_sender s ys) [
      | true ↦ ap (λ l. x.1 ∷ l) (from_sender-append s xs ys)
      | false ↦ from_sender-append s xs ys
    ]

pub from_sender_here : {M : Type 0} (s : ℕ) (x : ℕ × M) (xs : List (ℕ × M)) → x.0 ≡ s → from_sender s (x ∷ xs) ≡ x.1 ∷ from_sender s xs
from_sender_here {M} s x xs e = ap (λ (b : Bool). let r : List M = (if b then x.1 ∷ from_sender s xs else from_sender s xs) in r) (eq-eqb x.0 s e)

pub from_sender_there : {M : Type 0} (s : ℕ) (x : ℕ × M) (xs : List (ℕ × M)) → x.0 ≢ s → from_sender s (x ∷ xs) ≡ from_sender s xs
from_sender_there {M} s x xs e = ap (λ (b : Bool). let r : List M = (if b then x.1 ∷ from_sender s xs else from_sender s xs) in r) (ne_eqb x.0 s e)

-- a message more at the end
pub from_sender_more : {M : Type 0} (s : ℕ) (messages : List (ℕ × M)) (message : ℕ × M) → message.0 ≡ s → from_sender s (messages ++ message ∷ []) ≡ from_sender s messages ++ message.1 ∷ []
from_sender_more s messages message is = from_sender-append s messages (message ∷ []) ∙ ap (λ l. from_sender s messages ++ l) (from_sender_here s message [] is)

pub from_sender_same : {M : Type 0} (s : ℕ) (messages : List (ℕ × M)) (message : ℕ × M) → message.0 ≢ s → from_sender s (messages ++ message ∷ []) ≡ from_sender s messages
from_sender_same s messages message other = from_sender-append s messages (message ∷ []) ∙ ap (λ l. from_sender s messages ++ l) (from_sender_there s message [] other) ∙ append-nil (from_sender s messages)

all_from_sender : {M : Type 0} (s o : ℕ) (xs : List M) → o ≡ s → from_sender s (map (λ m. (o, m)) xs) ≡ xs
all_from_sender s o [] e = refl
all_from_sender s o (x ∷ xs) e = from_sender_here s (o, x) (map (λ m. (o, m)) xs) e ∙ ap (λ l. x ∷ l) (all_from_sender s o xs e)

none_from_sender : {M : Type 0} (s o : ℕ) (xs : List M) → o ≢ s → from_sender s (map (λ m. (o, m)) xs) ≡ []
none_from_sender s o [] e = refl
none_from_sender s o (x ∷ xs) e = from_sender_there s (o, x) (map (λ m. (o, m)) xs) e ∙ none_from_sender s o xs e

one_sender : {M : Type 0} (o : ℕ) (xs : List M) → 1 ≤ length xs → map (λ (m : ℕ × M). m.0) (map (λ m. (o, m)) (take 1 xs)) ≡ o ∷ []
one_sender o [] some = absurd (omega arith)
one_sender o (x ∷ xs) some = refl

-- of one sender it is what was taken of it
pub from_sender_woven : {M : Type 0} (os : List ℕ) (f : ℕ → List M) (s : ℕ) → length (f s) ≡ count s os → from_sender s (woven os f) ≡ f s
from_sender_woven [] f s len = sym (nil (f s) len)
from_sender_woven (o ∷ os) f s len = ⊎_elim
    (λ (y : o ≡ s).
    let more : length (f s) ≡ count s os + 1 = len ∙ count_same s o os y in
    from_sender-append s (map (λ m. (o, m)) (take 1 (f o))) (woven os (drop_at o f))
    ∙ (λ i. all_from_sender s o (take 1 (f o)) y i ++ (from_sender_woven os (drop_at o f) s (ap length (drop_same o s f (sym y)) ∙ length_rest (f s) (count s os) more) ∙ drop_same o s f (sym y)) i)
    ∙ ap (λ k. take 1 (f k) ++ drop 1 (f s)) y ∙ split_front (f s))
    (λ (y : o ≢ s).
    let back : s ≢ o = (λ z. y (sym z)) in
    from_sender-append s (map (λ m. (o, m)) (take 1 (f o))) (woven os (drop_at o f))
    ∙ (λ i. none_from_sender s o (take 1 (f o)) y i ++ (from_sender_woven os (drop_at o f) s (ap length (drop_other o s f back) ∙ len ∙ count_other s o os y) ∙ drop_other o s f back) i))
    (same_or_not o s)

-- and of each message it has the sender in turn
pub senders_woven : {M : Type 0} (os : List ℕ) (f : ℕ → List M) → ((s : ℕ) → length (f s) ≡ count s os) → map (λ (m : ℕ × M). m.0) (woven os f) ≡ os
senders_woven [] f counted = refl
senders_woven {M} (o ∷ os) f counted =
    let some : length (f o) ≡ count o os + 1 = counted o ∙ count_same o o os refl in
    map-append (λ (m : ℕ × M). m.0) (map (λ m. (o, m)) (take 1 (f o))) (woven os (drop_at o f))
    ∙ (λ i. one_sender o (f o) (omega (arith, some)) i ++ senders_woven os (drop_at o f) (λ s. ⊎_elim
    (λ (x : s ≡ o). ap length (drop_same o s f x) ∙ length_rest (f s) (count s os) (counted s ∙ count_same s o os (sym x)))
    (λ (x : s ≢ o). ap length (drop_other o s f x) ∙ counted s ∙ count_other s o os (λ e. x (sym e)))
    (same_or_not s o)) i)

-- the last of some numbers is among them
pub count_last : (o : ℕ) (os : List ℕ) → 1 ≤ count (get_or (o ∷ os) (length os) 0) (o ∷ os)
count_last o [] = omega (arith, count_same o o [] refl)
count_last o (p ∷ ps) = let before = count_last p ps in let s = get_or (p ∷ ps) (length ps) 0 in ⊎_elim
    (λ (x : o ≡ s). omega (arith, count_same s o (p ∷ ps) x))
    (λ (x : o ≢ s). omega (arith, before, count_other s o (p ∷ ps) x))
    (same_or_not o s)
