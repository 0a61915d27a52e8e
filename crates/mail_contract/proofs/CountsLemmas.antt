-- Messages counted, all of them and those of each sender.
use Rattle.std.specs.Prelude.{◌≡◌, ◌≢◌, ◌⊎◌, ℕ, zero, suc, ◌+◌, ◌<◌, ◌≤◌, List, [], ◌∷◌, All, length, slice_index_or, sum_by}
use Rattle.std.specs.List.{range_with_len}
use Rattle.std.proofs.Common.{◌∙◌, refl, ap, arith, inl, inr}
use Rattle.std.proofs.lemmas.Bool.Decides.{eqb_tells}
use Rattle.std.proofs.lemmas.List.Elements.{All-head, All-tail}
use Rattle.std.proofs.lemmas.List.Sums.{get_or-le-sum_by, sum_by-cons, sum_by-le-sum_by}
use Rattle.mail_contract.proofs.WovenLemmas.{from_sender_here, from_sender_there}
use Rattle.mail_contract.specs.Takes.{from_sender}

-- the items of lists, counted list by list
pub lists_counted : {X : Type 0} (lists : List (List X)) (a : ℕ) (count : ℕ → ℕ) → ((i : ℕ) → i < length lists → length (slice_index_or lists i []) ≡ count (a + i))
    → sum_by length lists ≡ sum_by count (range_with_len a (length lists))
lists_counted [] a count is = refl
lists_counted (first ∷ lists) a count is =
    let rest = lists_counted lists (a + 1) count (λ i low. let next : a + suc i ≡ a + 1 + i = omega arith in is (suc i) (omega (arith, low)) ∙ ap count next) in
    let none_more : a + 0 ≡ a = omega arith in
    let here = is 0 (omega arith) ∙ ap count none_more in
    let of_lists = sum_by-cons length first lists in
    let of_count = sum_by-cons count a (range_with_len (a + 1) (length lists)) in
    omega (arith, rest, here, of_lists, of_count)

-- of no messages there are none
none_from : (M : Type 0) (n a : ℕ) → sum_by (λ w. length (from_sender {M = M} w [])) (range_with_len a n) ≡ 0
none_from M zero a = refl
none_from M (suc n) a =
    let first = sum_by-cons (λ w. length (from_sender {M = M} w [])) a (range_with_len (a + 1) n) in
    let rest = none_from M n (a + 1) in
    omega (arith, first, rest)

module _ {M : Type 0} where
  -- how many messages there are of each of some senders
  abbrev pub from_some : List (ℕ × M) → ℕ → ℕ → ℕ
  from_some messages a n = sum_by (λ w. length (from_sender w messages)) (range_with_len a n)

  -- a message is of the sender, or of another
  of_sender_or_not : (w : ℕ) (message : ℕ × M) (messages : List (ℕ × M))
      → ((message.0 ≡ w) × (length (from_sender w (message ∷ messages)) ≡ length (from_sender w messages) + 1))
      ⊎ ((message.0 ≢ w) × (length (from_sender w (message ∷ messages)) ≡ length (from_sender w messages)))
  of_sender_or_not w message messages = elim (eqb_tells message.0 w) [
    | inl same ↦
        let more : length (from_sender w (message ∷ messages)) ≡ suc (length (from_sender w messages)) = ap length (from_sender_here w message messages same.1) in
        inl (same.1, omega (arith, more))
    | inr apart ↦ inr (apart.1, ap length (from_sender_there w message messages apart.1))
  ]

  -- one of a lower sender counts for none of them
  of_lower : (n a : ℕ) (message : ℕ × M) (messages : List (ℕ × M)) → message.0 < a → from_some (message ∷ messages) a n ≡ from_some messages a n
  of_lower zero a message messages low = refl
  of_lower (suc n) a message messages low =
      let rest = of_lower n (a + 1) message messages (omega (arith, low)) in
      let now = sum_by-cons (λ w. length (from_sender w (message ∷ messages))) a (range_with_len (a + 1) n) in
      let before = sum_by-cons (λ w. length (from_sender w messages)) a (range_with_len (a + 1) n) in
      elim (of_sender_or_not a message messages) [
        | inl here ↦ absurd (omega (arith, low, here.0))
        | inr there ↦ omega (arith, rest, now, before, there.1)
      ]

  -- and one of them for one
  of_one : (n a : ℕ) (message : ℕ × M) (messages : List (ℕ × M)) → a ≤ message.0 → message.0 < a + n → from_some (message ∷ messages) a n ≡ from_some messages a n + 1
  of_one zero a message messages from to = absurd (omega (arith, from, to))
  of_one (suc n) a message messages from to =
      let now = sum_by-cons (λ w. length (from_sender w (message ∷ messages))) a (range_with_len (a + 1) n) in
      let before = sum_by-cons (λ w. length (from_sender w messages)) a (range_with_len (a + 1) n) in
      elim (of_sender_or_not a message messages) [
        | inl here ↦ let rest = of_lower n (a + 1) message messages (omega (arith, here.0)) in omega (arith, rest, now, before, here.1)
        | inr there ↦
            let higher : a + 1 ≤ message.0 = omega (arith, from, there.0) in
            let rest = of_one n (a + 1) message messages higher (omega (arith, to)) in
            omega (arith, rest, now, before, there.1)
      ]

  -- and one at most
  one_at_most : (n a : ℕ) (message : ℕ × M) (messages : List (ℕ × M)) → from_some (message ∷ messages) a n ≤ from_some messages a n + 1
  one_at_most zero a message messages = omega arith
  one_at_most (suc n) a message messages =
      let now = sum_by-cons (λ w. length (from_sender w (message ∷ messages))) a (range_with_len (a + 1) n) in
      let before = sum_by-cons (λ w. length (from_sender w messages)) a (range_with_len (a + 1) n) in
      elim (of_sender_or_not a message messages) [
        | inl here ↦ let rest = of_lower n (a + 1) message messages (omega (arith, here.0)) in omega (arith, rest, now, before, here.1)
        | inr there ↦ let rest = one_at_most n (a + 1) message messages in omega (arith, rest, now, before, there.1)
      ]

  -- no more are of some senders than there are
  pub few_from : (n a : ℕ) (messages : List (ℕ × M)) → from_some messages a n ≤ length messages
  few_from n a [] = let none = none_from M n a in omega (arith, none)
  few_from n a (message ∷ messages) = let one = one_at_most n a message messages in let rest = few_from n a messages in omega (arith, one, rest)

  -- where all are of these senders, they count for all messages
  pub from_all : (n a : ℕ) (messages : List (ℕ × M)) → All (λ message. (a ≤ message.0) × (message.0 < a + n)) messages → from_some messages a n ≡ length messages
  from_all n a [] are = none_from M n a
  from_all n a (message ∷ messages) are =
      let here = All-head (λ (message : ℕ × M). (a ≤ message.0) × (message.0 < a + n)) message messages are in
      let one = of_one n a message messages here.0 here.1 in
      let rest = from_all n a messages (All-tail (λ (message : ℕ × M). (a ≤ message.0) × (message.0 < a + n)) message messages are) in
      omega (arith, one, rest)

  -- a list that has no fewer messages of each sender is no shorter
  pub no_fewer : (before now : List (ℕ × M)) → ((w : ℕ) → length (from_sender w before) ≤ length (from_sender w now)) → length before ≤ length now
  no_fewer before now each =
      let sender : ℕ × M → ℕ = λ message. message.0 in
      let most : ℕ = sum_by sender before + sum_by sender now + 1 in
      let of_before = from_all most 0 before (λ k d low. let at = get_or-le-sum_by sender before k d low in (omega arith, omega (arith, at))) in
      let of_now = from_all most 0 now (λ k d low. let at = get_or-le-sum_by sender now k d low in (omega arith, omega (arith, at))) in
      let sums = sum_by-le-sum_by (λ w. length (from_sender w before)) (λ w. length (from_sender w now)) (range_with_len 0 most) each in
      omega (arith, of_before, of_now, sums)
