-- What a scramble holds, and what it has handed out.
use Rattle.std.proofs.Common.{◌≡◌, ◌≢◌, ◌⊎◌, ℕ, zero, suc, ◌+◌, ◌%◌, ◌<◌, ◌≤◌, Bool, true, false, List, [], ◌∷◌, ◌++◌, length, get_or, set, slice_get, not, if◌then◌else◌, Option, Some, None, IfSome, eq-eqb, append-nil, append_assoc, length-append, inl, inr, sym, ◌∙◌, ap, refl, subst, arith, ⊎_elim}
use Rattle.std.specs.Prelude.{⊤}
use Rattle.std.specs.List.{remove}
use Rattle.std.proofs.lemmas.Bool.{ne_eqb}
use Rattle.std.proofs.lemmas.Nat.{mod_below}
use Rattle.std.proofs.lemmas.Option.{get_or_from_slice_get, slice_get_read, slice_get_within}
use Rattle.std.proofs.lemmas.List.{set-get_or}
use Rattle.std.proofs.lemmas.List.Sums.{sum_by_push}
use Rattle.mail_contract.specs.Scrambled.{AreHeld, Fills, IsCopied, IsDealt, arriving, flat, got_of_held, is_hidden, times, times_of_all, veiled}
use Rattle.mail_contract.specs.Takes.{from_sender}
use Rattle.mail_contract.specs.declared.scramble.Held.{Held}
use Rattle.mail_contract.proofs.WovenLemmas.{from_sender-append, from_sender_here, from_sender_there}

same_or_not : (a b : ℕ) → (a ≡ b) ⊎ (a ≢ b)
same_or_not a b = grind arith

module _ {M : Type 0} where
  same_read : (held : List (Held M)) (i : ℕ) (x y : Held M) → i < length held → x ≡ get_or held i x → y ≡ get_or held i y → x ≡ y
  same_read held i x y low at_x at_y = at_x ∙ get_or_from_slice_get held i y x (slice_get_read held (length held) i y refl low at_y)

  module _ (held : List (Held M)) (draw n : ℕ) (some : 0 < length held) (long : n ≡ length held) (first item : Held M)
      (read : first ≡ get_or held (draw % n) first) (at : item ≡ get_or held (draw % n) item) where
    place : draw % n ≡ draw % length held
    place = ap (λ k. draw % k) long

    place_low : draw % n < length held
    place_low = subst (λ k. k < length held) (sym place) (mod_below draw (length held) some)

    item_here : slice_get held (draw % length held) ≡ Some item
    item_here = slice_get_read held (length held) (draw % length held) item refl (mod_below draw (length held) some) (subst (λ k. item ≡ get_or held k item) place at)

    sender : first.sender ≡ item.sender
    sender = ap (λ x. x.sender) (same_read held (draw % n) first item place_low read at)

    pub dealt_copied : (new : Held M) (copy : M) → copy ≡ item.message → IsCopied draw → item.again ≡ false → new ≡ record item { again = true } → IsDealt held draw first.sender copy (set held (draw % n) new)
    dealt_copied new copy is copied once marked = record {
      item = item;
      at = item_here;
      sender_is = sender;
      message_is = is;
      stays = inr (copied, once, λ j. set held (place j) (marked j));
    }

    pub dealt_away : (new gone : Held M) (now : List (Held M)) → new ≡ item → gone ≡ get_or (set held (draw % n) new) (draw % n) gone → now ≡ remove (set held (draw % n) new) (draw % n) → IsDealt held draw first.sender gone.message now
    dealt_away new gone now same at_gone is =
        let unchanged : set held (draw % n) new ≡ held = ap (set held (draw % n)) (same ∙ at) ∙ set-get_or held (draw % n) item in
        let is_item : gone ≡ item = same_read held (draw % n) gone item place_low (subst (λ l. gone ≡ get_or l (draw % n) gone) unchanged at_gone) at in
        record {
          item = item;
          at = item_here;
          sender_is = sender;
          message_is = ap (λ x. x.message) is_item;
          stays = inl (is ∙ (λ j. remove (unchanged j) (place j)));
        }

module _ {M : Type 0} where
  -- held messages one after another, from a place on
  abbrev pub Stand : ℕ → List (ℕ × M) → ℕ → List (Held M) → Type 0
  Stand senders received low [] = ⊤
  Stand senders received low (item ∷ items) =
      (low ≤ item.index) × (1 ≤ item.sender) × (item.sender ≤ senders) × (slice_get received item.index ≡ Some (item.sender, item.message)) × Stand senders received (item.index + 1) items

  next_low : (items : List (Held M)) (n : ℕ) → IfSome (slice_get items 0) (λ next. n < next.index) → IfSome (slice_get items 0) (λ next. n + 1 ≤ next.index)
  next_low [] n is = tt
  next_low (next ∷ items) n is = omega arith

  stand : (senders : ℕ) (received : List (ℕ × M)) (low : ℕ) (held : List (Held M)) → AreHeld senders received held → IfSome (slice_get held 0) (λ item. low ≤ item.index) → Stand senders received low held
  stand senders received low [] are first = tt
  stand senders received low (item ∷ items) are first = (
    first,
    are.from_one 0,
    are.to_last 0,
    are.is 0,
    stand senders received (item.index + 1) items (record {
      from_one = λ i. are.from_one (suc i);
      to_last = λ i. are.to_last (suc i);
      is = λ i. are.is (suc i);
      ascend = λ i. are.ascend (suc i);
    }) (next_low items item.index (are.ascend 0)),
  )

  from_next : (senders : ℕ) (received : List (ℕ × M)) (n : ℕ) (items : List (Held M)) → Stand senders received (n + 1) items → IfSome (slice_get items 0) (λ next. n < next.index)
  from_next senders received n [] is = tt
  from_next senders received n (next ∷ items) is = let low = is.0 in omega (arith, low)

  pub unstand : (senders : ℕ) (received : List (ℕ × M)) (low : ℕ) (held : List (Held M)) → Stand senders received low held → AreHeld senders received held
  unstand senders received low [] is = record { from_one = λ i. tt; to_last = λ i. tt; is = λ i. tt; ascend = λ i. tt }
  unstand senders received low (item ∷ items) is = let rest = unstand senders received (item.index + 1) items is.4 in record {
    from_one = at item items (λ item. 1 ≤ item.sender) is.1 rest.from_one;
    to_last = at item items (λ item. item.sender ≤ senders) is.2 rest.to_last;
    is = at item items (λ item. slice_get received item.index ≡ Some (item.sender, item.message)) is.3 rest.is;
    ascend = at_ascend item items (from_next senders received item.index items is.4) rest.ascend;
  }
    where
      at : (item : Held M) (items : List (Held M)) (P : Held M → Type 0) → P item → ((i : ℕ) → IfSome (slice_get items i) P) → (i : ℕ) → IfSome (slice_get (item ∷ items) i) P
      at item items P here there zero = here
      at item items P here there (suc i) = there i

      at_ascend : (item : Held M) (items : List (Held M)) → IfSome (slice_get items 0) (λ next. item.index < next.index) → ((i : ℕ) → IfSome (slice_get items i) (λ a. IfSome (slice_get items (suc i)) (λ b. a.index < b.index)))
          → (i : ℕ) → IfSome (slice_get (item ∷ items) i) (λ a. IfSome (slice_get (item ∷ items) (suc i)) (λ b. a.index < b.index))
      at_ascend item items here there zero = here
      at_ascend item items here there (suc i) = there i

  pub all_stand : {senders : ℕ} {received : List (ℕ × M)} {held : List (Held M)} → AreHeld senders received held → Stand senders received 0 held
  all_stand {senders} {received} {held} are = stand senders received 0 held are (any_low (slice_get held 0))
    where
      any_low : (item : Option (Held M)) → IfSome item (λ item. 0 ≤ item.index)
      any_low None = tt
      any_low (Some item) = omega arith

  abbrev pub new_held : ℕ → M → ℕ → Held M
  new_held sender message index = record { sender = sender; message = message; index = index; again = false }

  -- what was received stays at its place
  still_there : (received : List (ℕ × M)) (x y : ℕ × M) (i : ℕ) → slice_get received i ≡ Some y → slice_get (received ++ x ∷ []) i ≡ Some y
  still_there [] x y i here = let within = slice_get_within {A = ℕ × M} [] i y here in absurd (omega (arith, within))
  still_there (z ∷ zs) x y zero here = here
  still_there (z ∷ zs) x y (suc i) here = still_there zs x y i here

  last_there : (received : List (ℕ × M)) (x : ℕ × M) → slice_get (received ++ x ∷ []) (length received) ≡ Some x
  last_there [] x = refl
  last_there (z ∷ zs) x = last_there zs x

  arrives : (senders : ℕ) (received : List (ℕ × M)) (low : ℕ) (held : List (Held M)) (s : ℕ) (m : M) → low ≤ length received → 1 ≤ s → s ≤ senders → Stand senders received low held → Stand senders (received ++ (s, m) ∷ []) low (held ++ new_held s m (length received) ∷ [])
  arrives senders received low [] s m above one last is = (above, one, last, last_there received (s, m), tt)
  arrives senders received low (item ∷ items) s m above one last is =
      let within = slice_get_within received item.index (item.sender, item.message) is.3 in (
        is.0,
        is.1,
        is.2,
        still_there received (s, m) (item.sender, item.message) item.index is.3,
        arrives senders received (item.index + 1) items s m (omega (arith, within)) one last is.4,
      )

  pub held_more : (senders : ℕ) (received : List (ℕ × M)) (held : List (Held M)) (s : ℕ) (m : M) → 1 ≤ s → s ≤ senders → AreHeld senders received held → AreHeld senders (received ++ (s, m) ∷ []) (held ++ new_held s m (length received) ∷ [])
  held_more senders received held s m one last are = unstand senders (received ++ (s, m) ∷ []) 0 (held ++ new_held s m (length received) ∷ []) (arrives senders received 0 held s m (omega arith) one last (all_stand are))

  -- which messages are hidden
  pub hidden_here : (item : Held M) (items : List (Held M)) (k : ℕ) → item.index ≡ k → is_hidden (item ∷ items) k ≡ not item.again
  hidden_here item items k is = ap (λ (b : Bool). let r : Bool = (if b then not item.again else is_hidden items k) in r) (eq-eqb item.index k is)

  pub hidden_there : (item : Held M) (items : List (Held M)) (k : ℕ) → item.index ≢ k → is_hidden (item ∷ items) k ≡ is_hidden items k
  hidden_there item items k other = ap (λ (b : Bool). let r : Bool = (if b then not item.again else is_hidden items k) in r) (ne_eqb item.index k other)

  hidden_push : (held : List (Held M)) (new : Held M) (k : ℕ) → k ≢ new.index → is_hidden (held ++ new ∷ []) k ≡ is_hidden held k
  hidden_push [] new k other = hidden_there new [] k (λ e. other (sym e))
  hidden_push (item ∷ items) new k other = ⊎_elim
      (λ (e : item.index ≡ k). hidden_here item (items ++ new ∷ []) k e ∙ sym (hidden_here item items k e))
      (λ (e : item.index ≢ k). hidden_there item (items ++ new ∷ []) k e ∙ hidden_push items new k other ∙ sym (hidden_there item items k e))
      (same_or_not item.index k)

  hidden_new : (senders : ℕ) (received : List (ℕ × M)) (low : ℕ) (held : List (Held M)) (s : ℕ) (m : M) → Stand senders received low held → is_hidden (held ++ new_held s m (length received) ∷ []) (length received) ≡ true
  hidden_new senders received low [] s m is = hidden_here (new_held s m (length received)) [] (length received) refl
  hidden_new senders received low (item ∷ items) s m is =
      let within = slice_get_within received item.index (item.sender, item.message) is.3 in
      let other : item.index ≢ length received = (λ e. omega (arith, e, within)) in
      hidden_there item (items ++ new_held s m (length received) ∷ []) (length received) other ∙ hidden_new senders received (item.index + 1) items s m is.4

  -- what is told of messages from a place on
  pub veiled_same : (h g : ℕ → Bool) (n : ℕ) (xs : List (ℕ × M)) → ((k : ℕ) → n ≤ k → k < n + length xs → g k ≡ h k) → veiled g n xs ≡ veiled h n xs
  veiled_same h g n [] same = refl
  veiled_same h g n (x ∷ xs) same =
      let here = same n (omega arith) (omega arith) in
      let rest = veiled_same h g (n + 1) xs (λ k low high. same k (omega arith) (omega (arith, high))) in
      λ j. (x.0, if here j then None else Some x.1) ∷ rest j

  veiled_push : (h : ℕ → Bool) (n k : ℕ) (xs : List (ℕ × M)) (x : ℕ × M) → n + length xs ≡ k → h k ≡ true → veiled h n (xs ++ x ∷ []) ≡ veiled h n xs ++ (x.0, None) ∷ []
  veiled_push h n k [] x is hidden =
      let at : h n ≡ true = ap h (omega (arith, is)) ∙ hidden in
      λ j. (x.0, if at j then None else Some x.1) ∷ []
  veiled_push h n k (y ∷ ys) x is hidden = ap (λ l. (y.0, if h n then None else Some y.1) ∷ l) (veiled_push h (n + 1) k ys x (omega (arith, is)) hidden)

  flat_push : (xs : List (Option M)) (i : ℕ) → flat (slice_get (xs ++ None ∷ []) i) ≡ flat (slice_get xs i)
  flat_push [] zero = refl
  flat_push [] (suc i) = refl
  flat_push (x ∷ xs) zero = refl
  flat_push (x ∷ xs) (suc i) = flat_push xs i

  -- a message that arrives is hidden, so what was handed out stays
  pub got_same : (senders : ℕ) (received : List (ℕ × M)) (held : List (Held M)) (s : ℕ) (m : M) → AreHeld senders received held → got_of_held (held ++ new_held s m (length received) ∷ []) (received ++ (s, m) ∷ []) ≡ got_of_held held received
  got_same senders received held s m are = λ j t i. at t i j
    where
      new : Held M
      new = new_held s m (length received)

      veil : veiled (is_hidden (held ++ new ∷ [])) 0 (received ++ (s, m) ∷ []) ≡ veiled (is_hidden held) 0 received ++ (s, None) ∷ []
      veil = veiled_push (is_hidden (held ++ new ∷ [])) 0 (length received) received (s, m) (omega arith) (hidden_new senders received 0 held s m (all_stand are))
          ∙ ap (λ l. l ++ (s, None) ∷ []) (veiled_same (is_hidden held) (is_hidden (held ++ new ∷ [])) 0 received (λ k low high. hidden_push held new k (λ e. omega (arith, e, high))))

      at : (t i : ℕ) → got_of_held (held ++ new ∷ []) (received ++ (s, m) ∷ []) t i ≡ got_of_held held received t i
      at t i = ap (λ l. flat (slice_get (from_sender t l) i)) veil ∙ ap (λ l. flat (slice_get l i)) (from_sender-append t (veiled (is_hidden held) 0 received) ((s, None) ∷ []))
          ∙ ⊎_elim
          (λ (e : s ≡ t). ap (λ l. flat (slice_get (from_sender t (veiled (is_hidden held) 0 received) ++ l) i)) (from_sender_here t (s, None) [] e) ∙ flat_push (from_sender t (veiled (is_hidden held) 0 received)) i)
          (λ (e : s ≢ t). ap (λ l. flat (slice_get (from_sender t (veiled (is_hidden held) 0 received) ++ l) i)) (from_sender_there t (s, None) [] e) ∙ ap (λ l. flat (slice_get l i)) (append-nil (from_sender t (veiled (is_hidden held) 0 received))))
          (same_or_not s t)

  arriving_push : (n k : ℕ) (arrived : List (ℕ × M)) (s : ℕ) (m : M) → n + length arrived ≡ k → arriving n (arrived ++ (s, m) ∷ []) ≡ arriving n arrived ++ new_held s m k ∷ []
  arriving_push n k [] s m is = λ j. record { sender = s; message = m; index = here j; again = false } ∷ []
    where
      here : n ≡ k
      here = omega (arith, is)
  arriving_push n k (x ∷ xs) s m is = ap (λ l. record { sender = x.0; message = x.1; index = n; again = false } ∷ l) (arriving_push (n + 1) k xs s m (omega (arith, is)))

  pub fills_more : (before received : List (ℕ × M)) (held filled : List (Held M)) (s : ℕ) (m : M) → Fills before received held filled → Fills before (received ++ (s, m) ∷ []) held (filled ++ new_held s m (length received) ∷ [])
  fills_more before received held filled s m fills =
      let long : length before + length fills.arrived ≡ length received = sym (ap length fills.received ∙ length-append before fills.arrived) in
      record {
        arrived = fills.arrived ++ (s, m) ∷ [];
        received = ap (λ l. l ++ (s, m) ∷ []) fills.received ∙ append_assoc before fills.arrived ((s, m) ∷ []);
        filled_are = ap (λ l. l ++ new_held s m (length received) ∷ []) fills.filled_are ∙ append_assoc held (arriving (length before) fills.arrived) (new_held s m (length received) ∷ [])
            ∙ ap (λ l. held ++ l) (sym (arriving_push (length before) (length received) fills.arrived s m long));
      }

  pub times_push : (held : List (Held M)) (s : ℕ) (m : M) (index : ℕ) → times_of_all (held ++ new_held s m index ∷ []) ≡ times_of_all held + 2
  times_push held s m index = sum_by_push times held (new_held s m index)
