-- What a box that hands out in order tells, told as a weak one tells it.
use Rattle.std.proofs.Common.{◌≡◌, ◌≢◌, ◌⊎◌, ℕ, zero, suc, ◌+◌, ◌-◌, ◌<◌, ◌≤◌, Bool, IsTrue, List, [], ◌∷◌, ◌++◌, length, slice_get, sum_by, max, Option, Some, None, IfSome, if◌then◌else◌, take, Result, Ok, Err, inl, sym, ◌∙◌, ap, refl, subst, arith, ⊎_elim}
use Rattle.std.specs.List.{range_with_len}
use Rattle.std.proofs.lemmas.List.Sums.{sum_by-cons}
use Rattle.std.proofs.lemmas.Option.{get_or_from_slice_get, slice_get_past, slice_get_within}
use Rattle.mail_contract.specs.Got as weak
use Rattle.mail_contract.specs.Got.{Added, AreAll, AreIn, HandedOut, got_of, missing, missing_one}
use Rattle.mail_contract.specs.Standing.{About, AreMet, OfSent, OnShown, Standing, Apart, Shown, Settled, left_of_all, sent_of}
use Rattle.mail_contract.specs.Takes.{AreAllOfSent, IsFront, IsFrontOfSent, IsOfShown, LeftFalls, OnNone, OnSome, Took, from_sender}
use Rattle.mail_contract.proofs.WovenLemmas.{from_sender_more, from_sender_same, same_or_not}

below_or_not : (a b : ℕ) → (a < b) ⊎ (b ≤ a)
below_or_not a b = grind arith

sum_step : (f : ℕ → ℕ) (a n : ℕ) → sum_by f (range_with_len a (suc n)) ≡ f a + sum_by f (range_with_len (a + 1) n)
sum_step f a n = sum_by-cons f a (range_with_len (a + 1) n)

sum_same : (f g : ℕ → ℕ) (a n : ℕ) → ((s : ℕ) → a ≤ s → g s ≡ f s) → sum_by g (range_with_len a n) ≡ sum_by f (range_with_len a n)
sum_same f g a zero same = refl
sum_same f g a (suc n) same = omega (arith, sum_step f a n, sum_step g a n, same a (omega arith), sum_same f g (a + 1) n (λ s low. same s (omega arith)))

sum_less : (f g : ℕ → ℕ) (a n s : ℕ) → a ≤ s → s < a + n → g s + 1 ≡ f s → ((other : ℕ) → other ≢ s → g other ≡ f other) → sum_by g (range_with_len a n) + 1 ≡ sum_by f (range_with_len a n)
sum_less f g a zero s low high here there = absurd (omega arith)
sum_less f g a (suc n) s low high here there = ⊎_elim
    (λ (e : a ≡ s).
    let less : g a + 1 ≡ f a = subst (λ k. g k + 1 ≡ f k) (sym e) here in
    omega (arith, sum_step f a n, sum_step g a n, less, sum_same f g (a + 1) n (λ k above. let differs : k ≢ s = (λ x. omega (arith, x, e)) in there k differs)))
    (λ (e : a ≢ s). omega (arith, sum_step f a n, sum_step g a n, there a e, sum_less f g (a + 1) n s (omega (arith, e)) (omega arith) here there))
    (same_or_not a s)

module _ {M : Type 0} where
  at_end : (xs : List M) (x : M) → slice_get (xs ++ x ∷ []) (length xs) ≡ Some x
  at_end [] x = refl
  at_end (y ∷ ys) x = at_end ys x

  not_at_end : (xs : List M) (x : M) (i : ℕ) → i ≢ length xs → slice_get (xs ++ x ∷ []) i ≡ slice_get xs i
  not_at_end [] x zero other = absurd (other refl)
  not_at_end [] x (suc i) other = refl
  not_at_end (y ∷ ys) x zero other = refl
  not_at_end (y ∷ ys) x (suc i) other = not_at_end ys x i (λ e. other (omega (arith, e)))

  -- a front is what stands at its places
  in_take : (n : ℕ) (xs : List M) (i : ℕ) (x : M) → slice_get (take n xs) i ≡ Some x → slice_get xs i ≡ Some x
  in_take zero xs i x here = let within = slice_get_within {A = M} [] i x here in absurd (omega (arith, within))
  in_take (suc n) [] i x here = here
  in_take (suc n) (y ∷ ys) zero x here = here
  in_take (suc n) (y ∷ ys) (suc i) x here = in_take n ys i x here

  pub front_in : (front whole : List M) → IsFront front whole → AreIn (slice_get front) whole
  front_in front whole is i message here = in_take (length front) whole i message (ap (λ l. slice_get l i) is ∙ here)

  pub in_front : (front whole : List M) → AreIn (slice_get front) whole → IsFront front whole
  in_front [] whole all = refl
  in_front (x ∷ xs) [] all = let within = slice_get_within {A = M} [] 0 x (all 0 x refl) in absurd (omega (arith, within))
  in_front (x ∷ xs) (y ∷ ys) all = let rest = in_front xs ys (λ i. all (suc i)) in λ j. get_or_from_slice_get (y ∷ ys) 0 x x (all 0 x refl) j ∷ rest j

  -- no more is left than is missing
  missing_from : (got : ℕ → Option M) (n : ℕ) → ((i : ℕ) → n ≤ i → got i ≡ None) → (a k : ℕ) → a + k ≤ max a n + sum_by (λ i. missing_one (got i)) (range_with_len a k)
  missing_from got n none a zero = omega arith
  missing_from got n none a (suc k) = let rest = missing_from got n none (a + 1) k in ⊎_elim
      (λ (low : a < n). omega (arith, rest, sum_step (λ i. missing_one (got i)) a k, low))
      (λ (high : n ≤ a). omega (arith, rest, sum_step (λ i. missing_one (got i)) a k, high, ap missing_one (none a high)))
      (below_or_not a n)

  pub missing_more : (got : ℕ → Option M) (sent : List M) (n : ℕ) → ((i : ℕ) → n ≤ i → got i ≡ None) → length sent - n ≤ missing got sent
  missing_more got sent n none = omega (arith, missing_from got n none 0 (length sent))

  pub missing_received : (received : List (ℕ × M)) (s : ℕ) (sent : List M) → length sent - length (from_sender s received) ≤ missing (got_of received s) sent
  missing_received received s sent = missing_more (got_of received s) sent (length (from_sender s received)) (slice_get_past (from_sender s received))

  -- a message more
  one_more : (messages : List (ℕ × M)) (message : ℕ × M) → Added message.0 message.1 (got_of messages) (got_of (messages ++ message ∷ []))
  one_more messages message =
      let s = message.0 in
      let before = from_sender s messages in
      record {
        place = length before;
        here = ap (λ l. slice_get l (length before)) (from_sender_more s messages message refl) ∙ at_end before message.1;
        free = inl (slice_get_past before (length before) (omega arith));
        others = λ other i differ. ⊎_elim
            (λ (e : s ≡ other).
            let there : i ≢ length before = (λ x. differ (sym e, x)) in
            subst (λ k. got_of (messages ++ message ∷ []) k i ≡ got_of messages k i) e (ap (λ l. slice_get l i) (from_sender_more s messages message refl) ∙ not_at_end before message.1 i there))
            (λ (e : s ≢ other). ap (λ l. slice_get l i) (from_sender_same other messages message e))
            (same_or_not s other);
      }

  -- a message more that is handed out is one less that is left of all
  pub one_less : (senders sender : ℕ) (before now : ℕ → About M) → 1 ≤ sender → sender ≤ senders → AreMet senders before
      → (IsTrue (before sender).met → (now sender).left + 1 ≡ (before sender).left) → ((other : ℕ) → other ≢ sender → (now other).left ≡ (before other).left)
      → left_of_all senders now + 1 ≡ left_of_all senders before
  one_less senders sender before now low high met here there = sum_less (λ s. (before s).left) (λ s. (now s).left) 1 senders sender low (omega (arith, high)) (here (met sender low high)) there

  pub none_less : (senders : ℕ) (before now : ℕ → About M) → ((s : ℕ) → (now s).left ≡ (before s).left) → left_of_all senders now ≡ left_of_all senders before
  none_less senders before now same = sum_same (λ s. (before s).left) (λ s. (now s).left) 1 senders (λ s low. same s)

  module _ {E : Type 0} where
    pub handed_out : (result : Result (Option (ℕ × M)) E) (before now : List (ℕ × M)) → Took result before now → HandedOut result (got_of before) (got_of now)
    handed_out (Ok (Some message)) before now took = rw took (one_more before message)
    handed_out (Ok None) before now took = ap got_of took
    handed_out (Err error) before now took = ap got_of took

    pub bounded_out : (result : Result (Option (ℕ × M)) E) (received : List (ℕ × M)) (about : ℕ → About M) → OnSome result (λ s _. IsOfShown received about s) → OnSome result (λ s _. weak.IsOfShown (got_of received) about s)
    bounded_out (Ok (Some message)) received about front = shown_in (about message.0).standing (from_sender message.0 received) front
      where
        shown_in : (standing : Standing M) (front : List M) → OnShown standing (IsFront front) → OnShown standing (AreIn (slice_get front))
        shown_in Apart front is = tt
        shown_in (Shown sent) front is = front_in front sent is
        shown_in (Settled sent) front is = tt
    bounded_out (Ok None) received about front = tt
    bounded_out (Err error) received about front = tt

    pub on_none : (result : Result (Option (ℕ × M)) E) (P Q : Type 0) → (P → Q) → OnNone result P → OnNone result Q
    on_none (Ok (Some message)) P Q how is = tt
    on_none (Ok None) P Q how is = how is
    on_none (Err error) P Q how is = tt

    pub all_fall : (result : Result (Option (ℕ × M)) E) (senders : ℕ) (before now : ℕ → About M) → OnSome result (λ s _. (1 ≤ s) × (s ≤ senders)) → AreMet senders before → LeftFalls result before now → (left_of_all senders now ≤ left_of_all senders before) × OnSome result (λ _ _. left_of_all senders now + 1 ≤ left_of_all senders before)
    all_fall (Ok (Some message)) senders before now sender met falls = let less = one_less senders message.0 before now sender.0 sender.1 met falls.0 falls.1 in (omega (arith, less), omega (arith, less))
    all_fall (Ok None) senders before now sender met falls = let same = none_less senders before now falls in (omega (arith, same), tt)
    all_fall (Err error) senders before now sender met falls = let same = none_less senders before now falls in (omega (arith, same), tt)

    pub left_at_most : (result : Result (Option (ℕ × M)) E) (before now : ℕ → About M) (s : ℕ) → LeftFalls result before now → IsTrue (before s).met → (now s).left ≤ (before s).left
    left_at_most (Ok (Some message)) before now s falls met = ⊎_elim
        (λ (e : s ≡ message.0). let here = falls.0 (subst (λ k. IsTrue (before k).met) e met) in omega (arith, here, ap (λ k. (now k).left) e, ap (λ k. (before k).left) e))
        (λ (e : s ≢ message.0). omega (arith, falls.1 s e))
        (same_or_not s message.0)
    left_at_most (Ok None) before now s falls met = omega (arith, falls s)
    left_at_most (Err error) before now s falls met = omega (arith, falls s)

  -- what holds of one list that was sent holds of it in another way
  pub of_some : (sent : Option (List M)) (P Q : List M → Type 0) → ((l : List M) → P l → Q l) → IfSome sent P → IfSome sent Q
  of_some (Some sent) P Q how is = how sent is
  of_some None P Q how is = tt

  pub of_sent : (complete : Bool) (standing : Standing M) (P Q : List M → Type 0) → ((l : List M) → P l → Q l) → OfSent complete standing P → OfSent complete standing Q
  of_sent complete standing = of_some (sent_of complete standing)

  -- what is the whole list holds each of its places
  pub all_in : (got sent : List M) → got ≡ sent → AreAll (slice_get got) sent
  all_in got sent is i low = ap (λ l. slice_get l i) is

  pub all_of_sent : (complete : Bool) (received : List (ℕ × M)) (about : ℕ → About M) → AreAllOfSent complete received about → weak.AreAllOfSent complete (got_of received) about
  all_of_sent complete received about all s = of_sent complete (about s).standing _ _ (all_in (from_sender s received)) (all s)

  -- a shown sender is told of where the box is complete
  on_shown : (complete : Bool) (standing : Standing M) (P : List M → Type 0) → IsTrue complete → OfSent complete standing P → OnShown standing P
  on_shown complete Apart P is all = tt
  on_shown complete (Shown sent) P is all = subst (λ b. IfSome (if b then Some sent else None) P) is all
  on_shown complete (Settled sent) P is all = tt

  pub due_handed_out : (complete : Bool) (got : ℕ → ℕ → Option M) (about : ℕ → About M) (due : ℕ → Bool) → IsTrue complete → weak.AreAllOfSent complete got about → weak.AreDueHandedOut got about due
  due_handed_out complete got about due is all s here = on_shown complete (about s).standing (AreAll (got s)) is (all s)

  pub still_of_sent : (complete : Bool) (before now : List (ℕ × M)) (about about_now : ℕ → About M)
      → ((s : ℕ) → IsFrontOfSent complete before about s → IsFrontOfSent complete now about_now s)
      → (s : ℕ) → weak.IsOfSent complete (got_of before) about s → weak.IsOfSent complete (got_of now) about_now s
  still_of_sent complete before now about about_now told s is =
      of_sent complete (about_now s).standing (IsFront (from_sender s now)) (AreIn (got_of now s)) (front_in (from_sender s now))
      (told s (of_sent complete (about s).standing (AreIn (got_of before s)) (IsFront (from_sender s before)) (in_front (from_sender s before)) is))
