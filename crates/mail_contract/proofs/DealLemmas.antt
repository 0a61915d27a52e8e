-- One of the messages that a scramble holds is handed out.
use Rattle.std.proofs.Common.{◌≡◌, ◌≢◌, ◌⊎◌, ℕ, zero, suc, ◌+◌, ◌-◌, ◌*◌, ◌%◌, ◌<◌, ◌≤◌, Bool, true, false, IsTrue, IsFalse, List, [], ◌∷◌, length, set, slice_get, if◌then◌else◌, Option, Some, None, inl, inr, sym, ◌∙◌, ap, refl, subst, arith, ⊎_elim}
use Rattle.std.specs.List.{remove}
use Rattle.std.proofs.lemmas.List.Sums.{sum_by-cons}
use Rattle.std.proofs.lemmas.Option.{get_or_from_slice_get, slice_get_past, slice_get_within}
use Rattle.mail_contract.specs.Got.{Added, AreAll, AreIn, missing}
use Rattle.mail_contract.specs.Got as weak
use Rattle.mail_contract.specs.Scrambled.{AreHeld, IsDealt, flat, got_of_held, is_hidden, times, times_of_all, veiled}
use Rattle.mail_contract.specs.Standing.{About, OfSent, OthersStay, Shown, Standing}
use Rattle.mail_contract.specs.Takes.{AreAllOfSent, IsFront, IsFrontOfSent, from_sender}
use Rattle.mail_contract.specs.declared.scramble.Held.{Held}
use Rattle.mail_contract.proofs.ScrambleLemmas.{Stand, all_stand, hidden_here, hidden_there, unstand, veiled_same}
use Rattle.mail_contract.proofs.WeakLemmas.{front_in, missing_more, of_sent}
use Rattle.mail_contract.proofs.WovenLemmas.{from_sender_here, from_sender_there, same_or_not}

module _ {M : Type 0} where
  nothing_there : (x : M) → None ≡ Some x → ⊥
  nothing_there x is = let within = slice_get_within {A = M} [] 0 x is in omega (arith, within)

  -- what is told is there
  told_there : (hidden : Bool) (x m : M) → flat (Some (if hidden then None else Some x)) ≡ Some m → Some x ≡ Some m
  told_there true x m is = absurd (nothing_there m is)
  told_there false x m is = is

  unveiled : (h : ℕ → Bool) (n s : ℕ) (xs : List (ℕ × M)) (i : ℕ) (m : M) → flat (slice_get (from_sender s (veiled h n xs)) i) ≡ Some m → slice_get (from_sender s xs) i ≡ Some m
  unveiled h n s [] i m is = is
  unveiled h n s (x ∷ xs) i m is = ⊎_elim
      (λ (e : x.0 ≡ s). ap (λ l. slice_get l i) (from_sender_here s x xs e)
      ∙ at (λ k. unveiled h (n + 1) s xs k m) i (ap (λ l. flat (slice_get l i)) (sym (from_sender_here s (x.0, if h n then None else Some x.1) (veiled h (n + 1) xs) e)) ∙ is))
      (λ (e : x.0 ≢ s). ap (λ l. slice_get l i) (from_sender_there s x xs e)
      ∙ unveiled h (n + 1) s xs i m (ap (λ l. flat (slice_get l i)) (sym (from_sender_there s (x.0, if h n then None else Some x.1) (veiled h (n + 1) xs) e)) ∙ is))
      (same_or_not x.0 s)
    where
      at : ((k : ℕ) → flat (slice_get (from_sender s (veiled h (n + 1) xs)) k) ≡ Some m → slice_get (from_sender s xs) k ≡ Some m)
          → (i : ℕ) → flat (slice_get ((if h n then None else Some x.1) ∷ from_sender s (veiled h (n + 1) xs)) i) ≡ Some m → slice_get (x.1 ∷ from_sender s xs) i ≡ Some m
      at rest zero is = told_there (h n) x.1 m is
      at rest (suc k) is = rest k is

  long_veiled : (h : ℕ → Bool) (n s : ℕ) (xs : List (ℕ × M)) → length (from_sender s (veiled h n xs)) ≡ length (from_sender s xs)
  long_veiled h n s [] = refl
  long_veiled h n s (x ∷ xs) = ⊎_elim
      (λ (e : x.0 ≡ s). ap length (from_sender_here s (x.0, if h n then None else Some x.1) (veiled h (n + 1) xs) e) ∙ ap suc (long_veiled h (n + 1) s xs) ∙ ap length (sym (from_sender_here s x xs e)))
      (λ (e : x.0 ≢ s). ap length (from_sender_there s (x.0, if h n then None else Some x.1) (veiled h (n + 1) xs) e) ∙ long_veiled h (n + 1) s xs ∙ ap length (sym (from_sender_there s x xs e)))
      (same_or_not x.0 s)

  module _ (held : List (Held M)) (received : List (ℕ × M)) where
    got_there : (s i : ℕ) (m : M) → got_of_held held received s i ≡ Some m → slice_get (from_sender s received) i ≡ Some m
    got_there s i m is = unveiled (is_hidden held) 0 s received i m is

    -- where what was taken is the front of what was sent, what was handed out is in it
    pub got_in : (s : ℕ) (sent : List M) → IsFront (from_sender s received) sent → AreIn (got_of_held held received s) sent
    got_in s sent front i m is = front_in (from_sender s received) sent front i m (got_there s i m is)

    pub got_of_sent : (complete : Bool) (about : ℕ → About M) (s : ℕ) → IsFrontOfSent complete received about s → weak.IsOfSent complete (got_of_held held received) about s
    got_of_sent complete about s = of_sent complete (about s).standing (IsFront (from_sender s received)) (AreIn (got_of_held held received s)) (got_in s)

    -- no more is left of a sender than was not handed out
    pub missing_held : (s : ℕ) (sent : List M) → length sent - length (from_sender s received) ≤ missing (got_of_held held received s) sent
    missing_held s sent = missing_more (got_of_held held received s) sent (length (from_sender s received))
        (λ i past. ap flat (slice_get_past (from_sender s (veiled (is_hidden held) 0 received)) i (omega (arith, past, long_veiled (is_hidden held) 0 s received))))

  -- where nothing is held, all that was taken was handed out
  bare : (n s : ℕ) (xs : List (ℕ × M)) (i : ℕ) → flat (slice_get (from_sender s (veiled (is_hidden {M = M} []) n xs)) i) ≡ slice_get (from_sender s xs) i
  bare n s [] i = refl
  bare n s (x ∷ xs) i = ⊎_elim
      (λ (e : x.0 ≡ s). ap (λ l. flat (slice_get l i)) (from_sender_here s (x.0, Some x.1) (veiled (is_hidden {M = M} []) (n + 1) xs) e) ∙ at (bare (n + 1) s xs) i ∙ ap (λ l. slice_get l i) (sym (from_sender_here s x xs e)))
      (λ (e : x.0 ≢ s). ap (λ l. flat (slice_get l i)) (from_sender_there s (x.0, Some x.1) (veiled (is_hidden {M = M} []) (n + 1) xs) e) ∙ bare (n + 1) s xs i ∙ ap (λ l. slice_get l i) (sym (from_sender_there s x xs e)))
      (same_or_not x.0 s)
    where
      at : ((k : ℕ) → flat (slice_get (from_sender s (veiled (is_hidden {M = M} []) (n + 1) xs)) k) ≡ slice_get (from_sender s xs) k)
          → (i : ℕ) → flat (slice_get (Some x.1 ∷ from_sender s (veiled (is_hidden {M = M} []) (n + 1) xs)) i) ≡ slice_get (x.1 ∷ from_sender s xs) i
      at rest zero = refl
      at rest (suc k) = rest k

  pub all_handed_out : (complete : Bool) (held : List (Held M)) (received : List (ℕ × M)) (about : ℕ → About M) → held ≡ [] → AreAllOfSent complete received about → weak.AreAllOfSent complete (got_of_held held received) about
  all_handed_out complete held received about none all s = of_sent complete (about s).standing (λ sent. from_sender s received ≡ sent) (AreAll (got_of_held held received s))
      (λ sent is i low. ap (λ l. got_of_held l received s i) none ∙ bare 0 s received i ∙ ap (λ l. slice_get l i) is) (all s)

  -- one message more is told of its sender, in its place
  record Shows (s : ℕ) (m : M) (before now : List (ℕ × Option M)) : Type 0 where
    place : ℕ
    here : slice_get (from_sender s now) place ≡ Some (Some m)
    free : (slice_get (from_sender s before) place ≡ Some None) ⊎ (slice_get (from_sender s before) place ≡ Some (Some m))
    others : (t i : ℕ) → ((t ≡ s) × (i ≡ place) → ⊥) → slice_get (from_sender t now) i ≡ slice_get (from_sender t before) i

  shows_cons : (s : ℕ) (m : M) (x : ℕ × Option M) (before now : List (ℕ × Option M)) → Shows s m before now → Shows s m (x ∷ before) (x ∷ now)
  shows_cons s m x before now is = ⊎_elim
      (λ (e : x.0 ≡ s). record {
        place = suc is.place;
        here = ap (λ l. slice_get l (suc is.place)) (from_sender_here s x now e) ∙ is.here;
        free = subst (λ l. (slice_get l (suc is.place) ≡ Some None) ⊎ (slice_get l (suc is.place) ≡ Some (Some m))) (sym (from_sender_here s x before e)) is.free;
        others = λ t i differ. others_here e t i differ;
      })
      (λ (e : x.0 ≢ s). record {
        place = is.place;
        here = ap (λ l. slice_get l is.place) (from_sender_there s x now e) ∙ is.here;
        free = subst (λ l. (slice_get l is.place ≡ Some None) ⊎ (slice_get l is.place ≡ Some (Some m))) (sym (from_sender_there s x before e)) is.free;
        others = λ t i differ. others_there e t i differ;
      })
      (same_or_not x.0 s)
    where
      shifted : (t i : ℕ) → x.0 ≡ t → ((k : ℕ) → i ≡ suc k → slice_get (from_sender t now) k ≡ slice_get (from_sender t before) k) → slice_get (from_sender t (x ∷ now)) i ≡ slice_get (from_sender t (x ∷ before)) i
      shifted t i e same = ap (λ l. slice_get l i) (from_sender_here t x now e) ∙ at i same ∙ ap (λ l. slice_get l i) (sym (from_sender_here t x before e))
        where
          at : (i : ℕ) → ((k : ℕ) → i ≡ suc k → slice_get (from_sender t now) k ≡ slice_get (from_sender t before) k) → slice_get (x.1 ∷ from_sender t now) i ≡ slice_get (x.1 ∷ from_sender t before) i
          at zero same = refl
          at (suc k) same = same k refl

      past : (t i : ℕ) → x.0 ≢ t → slice_get (from_sender t now) i ≡ slice_get (from_sender t before) i → slice_get (from_sender t (x ∷ now)) i ≡ slice_get (from_sender t (x ∷ before)) i
      past t i e same = ap (λ l. slice_get l i) (from_sender_there t x now e) ∙ same ∙ ap (λ l. slice_get l i) (sym (from_sender_there t x before e))

      others_here : x.0 ≡ s → (t i : ℕ) → ((t ≡ s) × (i ≡ suc is.place) → ⊥) → slice_get (from_sender t (x ∷ now)) i ≡ slice_get (from_sender t (x ∷ before)) i
      others_here e t i differ = ⊎_elim
          (λ (y : x.0 ≡ t). shifted t i y (λ k step. is.others t k (λ both. differ (both.0, step ∙ ap suc both.1))))
          (λ (y : x.0 ≢ t). past t i y (is.others t i (λ both. y (e ∙ sym both.0))))
          (same_or_not x.0 t)

      others_there : x.0 ≢ s → (t i : ℕ) → ((t ≡ s) × (i ≡ is.place) → ⊥) → slice_get (from_sender t (x ∷ now)) i ≡ slice_get (from_sender t (x ∷ before)) i
      others_there e t i differ = ⊎_elim
          (λ (y : x.0 ≡ t). shifted t i y (λ k step. is.others t k (λ both. e (y ∙ both.0))))
          (λ (y : x.0 ≢ t). past t i y (is.others t i differ))
          (same_or_not x.0 t)

  shows_first : (hidden : Bool) (s : ℕ) (m : M) (rest : List (ℕ × Option M)) → Shows s m ((s, if hidden then None else Some m) ∷ rest) ((s, Some m) ∷ rest)
  shows_first hidden s m rest = record {
    place = 0;
    here = ap (λ l. slice_get l 0) (from_sender_here s (s, Some m) rest refl);
    free = first hidden;
    others = λ t i differ. ⊎_elim
        (λ (e : s ≡ t). ap (λ l. slice_get l i) (from_sender_here t (s, Some m) rest e) ∙ tail t e i differ ∙ ap (λ l. slice_get l i) (sym (from_sender_here t (s, if hidden then None else Some m) rest e)))
        (λ (e : s ≢ t). ap (λ l. slice_get l i) (from_sender_there t (s, Some m) rest e ∙ sym (from_sender_there t (s, if hidden then None else Some m) rest e)))
        (same_or_not s t);
  }
    where
      first : (hidden : Bool) → (slice_get (from_sender s ((s, if hidden then None else Some m) ∷ rest)) 0 ≡ Some None) ⊎ (slice_get (from_sender s ((s, if hidden then None else Some m) ∷ rest)) 0 ≡ Some (Some m))
      first true = inl (ap (λ l. slice_get l 0) (from_sender_here s (s, None) rest refl))
      first false = inr (ap (λ l. slice_get l 0) (from_sender_here s (s, Some m) rest refl))

      tail : (t : ℕ) → s ≡ t → (i : ℕ) → ((t ≡ s) × (i ≡ 0) → ⊥) → slice_get (Some m ∷ from_sender t rest) i ≡ slice_get ((if hidden then None else Some m) ∷ from_sender t rest) i
      tail t e zero differ = absurd (differ (sym e, refl))
      tail t e (suc k) differ = refl

  shows : (h g : ℕ → Bool) (n j : ℕ) (xs : List (ℕ × M)) (s : ℕ) (m : M) → slice_get xs j ≡ Some (s, m) → g (n + j) ≡ false → ((k : ℕ) → k ≢ n + j → g k ≡ h k) → Shows s m (veiled h n xs) (veiled g n xs)
  shows h g n j [] s m is here there = let within = slice_get_within {A = ℕ × M} [] j (s, m) is in absurd (omega (arith, within))
  shows h g n zero (x ∷ xs) s m is here there =
      let x_is : x ≡ (s, m) = get_or_from_slice_get (x ∷ xs) 0 (s, m) x is in
      let at : g n ≡ false = ap g (omega arith) ∙ here in
      let rest : veiled g (n + 1) xs ≡ veiled h (n + 1) xs = veiled_same h g (n + 1) xs (λ k low high. let other : k ≢ n + 0 = (λ e. omega (arith, e, low)) in there k other) in
      subst (λ (y : ℕ × M). Shows s m ((y.0, if h n then None else Some y.1) ∷ veiled h (n + 1) xs) ((y.0, if g n then None else Some y.1) ∷ veiled g (n + 1) xs)) (sym x_is)
      (subst (λ (l : List (ℕ × Option M)). Shows s m ((s, if h n then None else Some m) ∷ veiled h (n + 1) xs) l) (λ i. (s, if sym at i then None else Some m) ∷ sym rest i)
      (shows_first (h n) s m (veiled h (n + 1) xs)))
  shows h g n (suc j) (x ∷ xs) s m is here there =
      let other : n ≢ n + suc j = (λ e. omega (arith, e)) in
      let step : n + 1 + j ≡ n + suc j = omega arith in
      let rest = shows h g (n + 1) j xs s m is (ap g step ∙ here) (λ k differs. there k (λ e. differs (e ∙ sym step))) in
      subst (λ (b : Bool). Shows s m (veiled h n (x ∷ xs)) ((x.0, if b then None else Some x.1) ∷ veiled g (n + 1) xs)) (sym (there n other))
      (shows_cons s m (x.0, if h n then None else Some x.1) (veiled h (n + 1) xs) (veiled g (n + 1) xs) rest)

  added : (held now : List (Held M)) (received : List (ℕ × M)) (j s : ℕ) (m : M) → slice_get received j ≡ Some (s, m) → is_hidden now j ≡ false → ((k : ℕ) → k ≢ j → is_hidden now k ≡ is_hidden held k) → Added s m (got_of_held held received) (got_of_held now received)
  added held now received j s m is here there =
      let start : 0 + j ≡ j = omega arith in
      let is_shown = shows (is_hidden held) (is_hidden now) 0 j received s m is (ap (is_hidden now) start ∙ here) (λ k differs. there k (λ e. differs (e ∙ sym start))) in
      record {
        place = is_shown.place;
        here = ap flat is_shown.here;
        free = ⊎_elim (λ none. inl (ap flat none)) (λ same. inr (ap flat same)) is_shown.free;
        others = λ t i differ. ap flat (is_shown.others t i differ);
      }

  -- what stands once one was dealt
  lower : (senders : ℕ) (received : List (ℕ × M)) (low high : ℕ) (items : List (Held M)) → low ≤ high → Stand senders received high items → Stand senders received low items
  lower senders received low high [] le is = tt
  lower senders received low high (item ∷ items) le is = let above = is.0 in (omega (arith, above, le), is.1, is.2, is.3, is.4)

  hidden_below : (senders : ℕ) (received : List (ℕ × M)) (low : ℕ) (items : List (Held M)) (k : ℕ) → k < low → Stand senders received low items → is_hidden items k ≡ false
  hidden_below senders received low [] k below is = refl
  hidden_below senders received low (item ∷ items) k below is =
      let above = is.0 in
      let other : item.index ≢ k = (λ e. omega (arith, e, above, below)) in
      hidden_there item items k other ∙ hidden_below senders received (item.index + 1) items k (omega (arith, above, below)) is.4

  -- the message at a place is no longer hidden, and all others are as they were
  record Unhides (senders : ℕ) (received : List (ℕ × M)) (low : ℕ) (held now : List (Held M)) (index : ℕ) : Type 0 where
    stands : Stand senders received low now
    here : is_hidden now index ≡ false
    there : (k : ℕ) → k ≢ index → is_hidden now k ≡ is_hidden held k

  unhides_cons : (senders : ℕ) (received : List (ℕ × M)) (low : ℕ) (item : Held M) (held now : List (Held M)) (index : ℕ) → item.index < index → Stand senders received low (item ∷ held) → Unhides senders received (item.index + 1) held now index → Unhides senders received low (item ∷ held) (item ∷ now) index
  unhides_cons senders received low item held now index below is rest =
      let other : item.index ≢ index = (λ e. omega (arith, e, below)) in
      record {
        stands = (is.0, is.1, is.2, is.3, rest.stands);
        here = hidden_there item now index other ∙ rest.here;
        there = λ k differs. ⊎_elim
            (λ (e : item.index ≡ k). hidden_here item now k e ∙ sym (hidden_here item held k e))
            (λ (e : item.index ≢ k). hidden_there item now k e ∙ rest.there k differs ∙ sym (hidden_there item held k e))
            (same_or_not item.index k);
      }

  stands_at : (senders : ℕ) (received : List (ℕ × M)) (low : ℕ) (held : List (Held M)) (i : ℕ) (item : Held M) → Stand senders received low held → slice_get held i ≡ Some item
      → (low ≤ item.index) × (1 ≤ item.sender) × (item.sender ≤ senders) × (slice_get received item.index ≡ Some (item.sender, item.message))
  stands_at senders received low [] i item is at = let within = slice_get_within {A = Held M} [] i item at in absurd (omega (arith, within))
  stands_at senders received low (x ∷ xs) zero item is at =
      let x_is : x ≡ item = get_or_from_slice_get (x ∷ xs) 0 item x at in
      subst (λ (y : Held M). (low ≤ y.index) × (1 ≤ y.sender) × (y.sender ≤ senders) × (slice_get received y.index ≡ Some (y.sender, y.message))) x_is (is.0, is.1, is.2, is.3)
  stands_at senders received low (x ∷ xs) (suc i) item is at = let rest = stands_at senders received (x.index + 1) xs i item is.4 at in let above = is.0 in let next = rest.0 in (omega (arith, above, next), rest.1, rest.2, rest.3)

  removed : (senders : ℕ) (received : List (ℕ × M)) (low : ℕ) (held : List (Held M)) (i : ℕ) (item : Held M) → Stand senders received low held → slice_get held i ≡ Some item → Unhides senders received low held (remove held i) item.index
  removed senders received low [] i item is at = let within = slice_get_within {A = Held M} [] i item at in absurd (omega (arith, within))
  removed senders received low (x ∷ xs) zero item is at =
      let x_is : x ≡ item = get_or_from_slice_get (x ∷ xs) 0 item x at in
      let above = is.0 in
      subst (λ (y : Held M). Unhides senders received low (x ∷ xs) xs y.index) x_is (record {
        stands = lower senders received low (x.index + 1) xs (omega (arith, above)) is.4;
        here = hidden_below senders received (x.index + 1) xs x.index (omega arith) is.4;
        there = λ k differs. sym (hidden_there x xs k (λ e. differs (sym e)));
      })
  removed senders received low (x ∷ xs) (suc i) item is at =
      let rest = stands_at senders received (x.index + 1) xs i item is.4 at in
      let next = rest.0 in
      unhides_cons senders received low x xs (remove xs i) item.index (omega (arith, next)) is (removed senders received (x.index + 1) xs i item is.4 at)

  marked : (senders : ℕ) (received : List (ℕ × M)) (low : ℕ) (held : List (Held M)) (i : ℕ) (item : Held M) → Stand senders received low held → slice_get held i ≡ Some item → Unhides senders received low held (set held i (record item { again = true })) item.index
  marked senders received low [] i item is at = let within = slice_get_within {A = Held M} [] i item at in absurd (omega (arith, within))
  marked senders received low (x ∷ xs) zero item is at =
      let x_is : x ≡ item = get_or_from_slice_get (x ∷ xs) 0 item x at in
      subst (λ (y : Held M). Unhides senders received low (x ∷ xs) (record y { again = true } ∷ xs) y.index) x_is (record {
        stands = is;
        here = hidden_here (record x { again = true }) xs x.index refl;
        there = λ k differs. let other : x.index ≢ k = (λ e. differs (sym e)) in hidden_there (record x { again = true }) xs k other ∙ sym (hidden_there x xs k other);
      })
  marked senders received low (x ∷ xs) (suc i) item is at =
      let rest = stands_at senders received (x.index + 1) xs i item is.4 at in
      let next = rest.0 in
      unhides_cons senders received low x xs (set xs i (record item { again = true })) item.index (omega (arith, next)) is (marked senders received (x.index + 1) xs i item is.4 at)

  unhides_dealt : (senders : ℕ) (received : List (ℕ × M)) (filled now : List (Held M)) (draw s : ℕ) (m : M) → AreHeld senders received filled → (dealt : IsDealt filled draw s m now) → Unhides senders received 0 filled now dealt.item.index
  unhides_dealt senders received filled now draw s m are dealt = ⊎_elim
      (λ gone. subst (λ l. Unhides senders received 0 filled l dealt.item.index) (sym gone) (removed senders received 0 filled (draw % length filled) dealt.item (all_stand are) dealt.at))
      (λ stays. subst (λ l. Unhides senders received 0 filled l dealt.item.index) (sym stays.2) (marked senders received 0 filled (draw % length filled) dealt.item (all_stand are) dealt.at))
      dealt.stays

  pub held_dealt : (senders : ℕ) (received : List (ℕ × M)) (filled now : List (Held M)) (draw s : ℕ) (m : M) → AreHeld senders received filled → IsDealt filled draw s m now → AreHeld senders received now
  held_dealt senders received filled now draw s m are dealt = unstand senders received 0 now (unhides_dealt senders received filled now draw s m are dealt).stands

  pub got_dealt : (senders : ℕ) (received : List (ℕ × M)) (filled now : List (Held M)) (draw s : ℕ) (m : M) → AreHeld senders received filled → IsDealt filled draw s m now → Added s m (got_of_held filled received) (got_of_held now received)
  got_dealt senders received filled now draw s m are dealt =
      let item = dealt.item in
      let is = (stands_at senders received 0 filled (draw % length filled) item (all_stand are) dealt.at).3 in
      let un = unhides_dealt senders received filled now draw s m are dealt in
      added filled now received item.index s m (is ∙ (λ j. Some (sym dealt.sender_is j, sym dealt.message_is j))) un.here un.there

  pub sender_dealt : (senders : ℕ) (received : List (ℕ × M)) (filled now : List (Held M)) (draw s : ℕ) (m : M) → AreHeld senders received filled → IsDealt filled draw s m now → (1 ≤ s) × (s ≤ senders)
  sender_dealt senders received filled now draw s m are dealt =
      let is = stands_at senders received 0 filled (draw % length filled) dealt.item (all_stand are) dealt.at in
      let low = is.1 in let high = is.2 in
      (omega (arith, low, dealt.sender_is), omega (arith, high, dealt.sender_is))

  -- it may be handed out once less
  times_some : (item : Held M) → 1 ≤ times item
  times_some item = some item.again
    where
      some : (again : Bool) → 1 ≤ (if again then 1 else 2)
      some true = omega arith
      some false = omega arith

  times_first : (item : Held M) → item.again ≡ false → times item ≡ 2
  times_first item is = ap (λ b. if b then 1 else 2) is

  pub record Fewer (held now : List (Held M)) : Type 0 where
    pub long : length now ≤ length held
    pub less : times_of_all now + 1 ≤ times_of_all held

  fewer_cons : (x : Held M) (held now : List (Held M)) → Fewer held now → Fewer (x ∷ held) (x ∷ now)
  fewer_cons x held now is = let long = is.long in let less = is.less in record {
    long = omega (arith, long);
    less = omega (arith, less, sum_by-cons times x held, sum_by-cons times x now);
  }

  fewer_gone : (held : List (Held M)) (i : ℕ) (item : Held M) → slice_get held i ≡ Some item → Fewer held (remove held i)
  fewer_gone [] i item at = let within = slice_get_within {A = Held M} [] i item at in absurd (omega (arith, within))
  fewer_gone (x ∷ xs) zero item at = record { long = omega arith; less = omega (arith, sum_by-cons times x xs, times_some x) }
  fewer_gone (x ∷ xs) (suc i) item at = fewer_cons x xs (remove xs i) (fewer_gone xs i item at)

  fewer_marked : (held : List (Held M)) (i : ℕ) (item : Held M) → slice_get held i ≡ Some item → item.again ≡ false → Fewer held (set held i (record item { again = true }))
  fewer_marked [] i item at first = let within = slice_get_within {A = Held M} [] i item at in absurd (omega (arith, within))
  fewer_marked (x ∷ xs) zero item at first =
      let x_is : x ≡ item = get_or_from_slice_get (x ∷ xs) 0 item x at in
      let two : times x ≡ 2 = ap times x_is ∙ times_first item first in
      record { long = omega arith; less = omega (arith, two, sum_by-cons times x xs, sum_by-cons times (record item { again = true }) xs) }
  fewer_marked (x ∷ xs) (suc i) item at first = fewer_cons x xs (set xs i (record item { again = true })) (fewer_marked xs i item at first)

  pub fewer_dealt : (filled now : List (Held M)) (draw s : ℕ) (m : M) → IsDealt filled draw s m now → Fewer filled now
  fewer_dealt filled now draw s m dealt = ⊎_elim
      (λ gone. subst (Fewer filled) (sym gone) (fewer_gone filled (draw % length filled) dealt.item dealt.at))
      (λ stays. subst (Fewer filled) (sym stays.2) (fewer_marked filled (draw % length filled) dealt.item dealt.at stays.1))
      dealt.stays

  -- each may be handed out twice at most
  pub times_at_most : (held : List (Held M)) → times_of_all held ≤ 2 * length held
  times_at_most [] = omega arith
  times_at_most (x ∷ xs) = omega (arith, sum_by-cons times x xs, twice x, times_at_most xs)
    where
      twice : (item : Held M) → times item ≤ 2
      twice item = by item.again
        where
          by : (again : Bool) → (if again then 1 else 2) ≤ 2
          by true = omega arith
          by false = omega arith

  -- what is told of each sender stays where one is held beside the box
  pub told_beside : (shows complete : Bool) (n : ℕ) (sent : List M) (received : List (ℕ × M)) (before now : ℕ → About M) → OthersStay n before now
      → (IsTrue shows → (now n).standing ≡ Shown sent) → (IsFalse shows → now ≡ before) → (IsTrue complete → IsFront (from_sender n received) sent)
      → ((s : ℕ) → IsFrontOfSent complete received before s) → (s : ℕ) → IsFrontOfSent complete received now s
  told_beside true complete n sent received before now others shown still told all s = ⊎_elim
      (λ (e : s ≡ n). subst (λ (standing : Standing M). OfSent complete standing (IsFront (from_sender s received))) (sym (ap (λ k. (now k).standing) e ∙ shown refl))
      (by (IsFront (from_sender s received)) complete (λ is. subst (λ k. IsFront (from_sender k received) sent) (sym e) (told is))))
      (λ (e : s ≢ n). subst (λ (about : About M). OfSent complete about.standing (IsFront (from_sender s received))) (sym (others s e)) (all s))
      (same_or_not s n)
    where
      by : (P : List M → Type 0) (complete : Bool) → (IsTrue complete → P sent) → OfSent complete (Shown sent) P
      by P true is = is refl
      by P false is = tt
  told_beside false complete n sent received before now others shown still told all s = subst (λ (about : ℕ → About M). IsFrontOfSent complete received about s) (sym (still refl)) (all s)

  pub none_held : (held : List (Held M)) → length held ≡ 0 → held ≡ []
  none_held [] is = refl
  none_held (x ∷ xs) is = absurd (omega arith)
