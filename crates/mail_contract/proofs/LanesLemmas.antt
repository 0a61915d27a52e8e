-- Lanes of several senders, of which one changes.
use Rattle.std.proofs.Common.{Bool, IsTrue, subst₂, ◌≡◌, ◌≢◌, ℕ, zero, suc, ◌+◌, ◌<◌, ◌≤◌, List, [], ◌∷◌, ◌++◌, length, map, replicate, get_or, set, sym, ◌∙◌, ap, refl, subst, arith, ⊎_elim, ◌⊎◌, length-append, add-one}
use Rattle.std.proofs.lemmas.List.{get_or-set_same, get_or-set_other, get_or-replicate, get_or_past, length-map, length-replicate}
use Rattle.std.proofs.Math.ListN.{get_or-map}
use Rattle.mail_contract.specs.Lanes.{Lane, AreCounted, IsDry, about_lane, about_of, at_place, count, lane_apart, nothing, of_sender, received_of, told_apart, with_taken, woven}
use Rattle.mail_contract.specs.Parts.{Parts}
use Rattle.mail_contract.specs.Standing.{AllPart, Apart, IsSettled, OfSent, OnShown, Settled, Shown, Standing, parted}
use Rattle.mail_contract.specs.Takes.{AreAllOfSent, ComesBefore, IsFront, IsFrontOfSent, IsInTurn, IsOfShown, from_sender, last_sender}
use Rattle.mail_contract.proofs.WovenLemmas.{woven_more, from_sender_woven, senders_woven, count_more_same, count_more_other, count_last}

same_or_not : (a b : ℕ) → (a ≡ b) ⊎ (a ≢ b)
same_or_not a b = grind arith

last_or_not : (k i : ℕ) → k < i + 1 → (k < i) ⊎ (k ≡ i)
last_or_not k i high = grind arith

at_most_or_not : (a b : ℕ) → (a ≤ b) ⊎ (b < a)
at_most_or_not a b = grind arith

below_or_not : (a b : ℕ) → (a < b) ⊎ (b ≤ a)
below_or_not a b = grind arith

not_before_itself : (last n : ℕ) → ComesBefore last n n → ⊥
not_before_itself last n before = ⊎_elim
    (λ (x : (last < n) × (n < n)). let h = x.1 in omega arith)
    (λ (x : (n ≤ last) × ((last < n) ⊎ (n < n))). ⊎_elim (λ (y : last < n). let h = x.0 in omega arith) (λ (y : n < n). omega arith) x.1)
    before

module _ {M : Type 0} where
  pub of_sender_at : (lanes : List (Lane M)) (i : ℕ) → of_sender lanes (i + 1) ≡ at_place lanes i
  of_sender_at lanes i = rw add-one refl

  pub of_sender_here : (lanes : List (Lane M)) (n i : ℕ) (lane : Lane M) → n ≡ i + 1 → i < length lanes → of_sender (set lanes i lane) n ≡ lane
  of_sender_here lanes n i lane e low = ap (of_sender (set lanes i lane)) e ∙ of_sender_at (set lanes i lane) i ∙ get_or-set_same lanes i lane nothing low

  pub of_sender_there : (lanes : List (Lane M)) (n i s : ℕ) (lane : Lane M) → n ≡ i + 1 → s ≢ n → of_sender (set lanes i lane) s ≡ of_sender lanes s
  of_sender_there lanes n i zero lane e other = refl
  of_sender_there lanes n i (suc k) lane e other = let ne : k ≢ i = (λ x. other (omega (arith, e, x))) in get_or-set_other lanes i k lane nothing ne

  -- one lane changes, and what was taken of it stays
  module _ (lanes : List (Lane M)) (n i : ℕ) (lane : Lane M) (e : n ≡ i + 1) (low : i < length lanes) (same : lane.taken ≡ (of_sender lanes n).taken) where
    taken_same : (s : ℕ) → (of_sender (set lanes i lane) s).taken ≡ (of_sender lanes s).taken
    taken_same s = ⊎_elim
        (λ (x : s ≡ n). ap (λ l. l.taken) (of_sender_here lanes s i lane (x ∙ e) low) ∙ same ∙ ap (λ k. (of_sender lanes k).taken) (sym x))
        (λ (x : s ≢ n). ap (λ l. l.taken) (of_sender_there lanes n i s lane e x))
        (same_or_not s n)

    pub counted_same : (order : List ℕ) → AreCounted order lanes → AreCounted order (set lanes i lane)
    counted_same order counted s = ap length (taken_same s) ∙ counted s

    pub received_same : (order : List ℕ) → received_of order (set lanes i lane) ≡ received_of order lanes
    received_same order j = woven order (λ s. taken_same s j)

  -- what was received of a sender is what was taken of its lane
  pub from_sender_of : (order : List ℕ) (lanes : List (Lane M)) (s : ℕ) → length (of_sender lanes s).taken ≡ count s order → from_sender s (received_of order lanes) ≡ (of_sender lanes s).taken
  from_sender_of order lanes s counted = from_sender_woven order (λ s. (of_sender lanes s).taken) s counted

  -- a message is taken of one lane
  module _ (lanes : List (Lane M)) (i : ℕ) (message : M) (low : i < length lanes) where
    abbrev after : List (Lane M)
    after = set lanes i (with_taken message (at_place lanes i))

    taken_here : (of_sender after (i + 1)).taken ≡ (of_sender lanes (i + 1)).taken ++ message ∷ []
    taken_here = ap (λ l. l.taken) (of_sender_here lanes (i + 1) i (with_taken message (at_place lanes i)) refl low) ∙ ap (λ l. l.taken ++ message ∷ []) (sym (of_sender_at lanes i))

    taken_there : (s : ℕ) → s ≢ i + 1 → (of_sender after s).taken ≡ (of_sender lanes s).taken
    taken_there s other = ap (λ l. l.taken) (of_sender_there lanes (i + 1) i s (with_taken message (at_place lanes i)) refl other)

    pub counted_more : (order : List ℕ) → AreCounted order lanes → AreCounted (order ++ (i + 1) ∷ []) after
    counted_more order counted s = ⊎_elim
        (λ (e : s ≡ i + 1). ap (λ k. length (of_sender after k).taken) e ∙ ap length taken_here ∙ length-append (of_sender lanes (i + 1)).taken (message ∷ []) ∙ ap (λ n. n + 1) (counted (i + 1) ∙ ap (λ k. count k order) (sym e)) ∙ sym (count_more_same s order (i + 1) (sym e)))
        (λ (e : s ≢ i + 1). ap length (taken_there s e) ∙ counted s ∙ sym (count_more_other s order (i + 1) (λ x. e (sym x))))
        (same_or_not s (i + 1))

    pub received_more : (order : List ℕ) → AreCounted order lanes → received_of (order ++ (i + 1) ∷ []) after ≡ received_of order lanes ++ (i + 1, message) ∷ []
    received_more order counted = woven_more order (λ s. (of_sender lanes s).taken) (λ s. (of_sender after s).taken) (i + 1) message (counted (i + 1)) taken_here taken_there

  -- one more lane is dry
  pub dry_more : (keeps : Parts) (lanes : List (Lane M)) (from i : ℕ) → IsDry keeps (at_place lanes i) → ((k : ℕ) → from ≤ k → k < i → IsDry keeps (at_place lanes k)) → (k : ℕ) → from ≤ k → k < i + 1 → IsDry keeps (at_place lanes k)
  dry_more keeps lanes from i here before k low high = ⊎_elim
      (λ (x : k < i). before k low x)
      (λ (x : k ≡ i). subst (λ k. IsDry keeps (at_place lanes k)) (sym x) here)
      (last_or_not k i high)

  of_none : (lanes : List (Lane M)) (s : ℕ) → length lanes < s → of_sender lanes s ≡ nothing
  of_none lanes zero above = absurd (omega arith)
  of_none lanes (suc k) above = let le : length lanes ≤ k = omega arith in get_or_past lanes k nothing le

  -- the sender of the last message has a lane
  pub last_has_lane : (order : List ℕ) (lanes : List (Lane M)) → AreCounted order lanes → get_or (0 ∷ order) (length order) 0 ≤ length lanes
  last_has_lane [] lanes counted = omega arith
  last_has_lane (o ∷ os) lanes counted = ⊎_elim
      (λ (x : get_or (o ∷ os) (length os) 0 ≤ length lanes). x)
      (λ (x : length lanes < get_or (o ∷ os) (length os) 0). let s = get_or (o ∷ os) (length os) 0 in absurd (omega (arith, count_last o os, counted s, ap (λ (l : Lane M). length l.taken) (of_none lanes s x))))
      (at_most_or_not (get_or (o ∷ os) (length os) 0) (length lanes))

  pub last_received : (order : List ℕ) (lanes : List (Lane M)) → AreCounted order lanes → last_sender (received_of order lanes) ≡ get_or (0 ∷ order) (length order) 0
  last_received order lanes counted =
      let senders = senders_woven order (λ s. (of_sender lanes s).taken) counted in
      (λ i. get_or (0 ∷ senders i) (length (received_of order lanes)) 0)
      ∙ ap (λ n. get_or (0 ∷ order) n 0) (sym (length-map (received_of order lanes) (λ (m : ℕ × M). m.0)) ∙ ap length senders)

  -- a message is taken of one lane: what is told of all that was received
  module _ (lanes : List (Lane M)) (i : ℕ) (message : M) (low : i < length lanes) where
    abbrev given : List (Lane M)
    given = set lanes i (with_taken message (at_place lanes i))

    here : of_sender given (i + 1) ≡ with_taken message (at_place lanes i)
    here = of_sender_here lanes (i + 1) i (with_taken message (at_place lanes i)) refl low

    there : (s : ℕ) → s ≢ i + 1 → of_sender given s ≡ of_sender lanes s
    there s other = of_sender_there lanes (i + 1) i s (with_taken message (at_place lanes i)) refl other

    -- what is told of all that was received of a sender
    module _ (order : List ℕ) (counted : AreCounted order lanes) where
      abbrev now : List (ℕ × M)
      now = received_of (order ++ (i + 1) ∷ []) given

      from_here : from_sender (i + 1) now ≡ (at_place given i).taken
      from_here = from_sender_of (order ++ (i + 1) ∷ []) given (i + 1) (counted_more lanes i message low order counted (i + 1)) ∙ ap (λ l. l.taken) (of_sender_at given i)

      pub bounded_more : OnShown (at_place given i).standing (IsFront (at_place given i).taken) → IsOfShown now (about_of given) (i + 1)
      bounded_more front = rw (from_here, of_sender_at given i) front

      pub told_more : (complete : Bool) → OfSent complete (at_place given i).standing (IsFront (at_place given i).taken) → (s : ℕ) → IsFrontOfSent complete (received_of order lanes) (about_of lanes) s → IsFrontOfSent complete now (about_of given) s
      told_more complete front s before = ⊎_elim
          (λ (e : s ≡ i + 1). subst (λ k. IsFrontOfSent complete now (about_of given) k) (sym e) (rw (from_here, of_sender_at given i) front))
          (λ (e : s ≢ i + 1).
          let same : from_sender s now ≡ from_sender s (received_of order lanes) =
          from_sender_of (order ++ (i + 1) ∷ []) given s (counted_more lanes i message low order counted s) ∙ ap (λ l. l.taken) (there s e) ∙ sym (from_sender_of order lanes s (counted s)) in
          subst₂ (λ (taken : List M) (lane : Lane M). OfSent complete lane.standing (IsFront taken)) (sym same) (sym (there s e)) before)
          (same_or_not s (i + 1))

  -- nothing is found
  module _ (keeps : Parts) (lanes : List (Lane M)) (dry : (i : ℕ) → i < length lanes → IsDry keeps (at_place lanes i)) where
    dry_at : (s : ℕ) → IsDry keeps (of_sender lanes s)
    dry_at zero = record { all = tt; exact = λ exact. refl }
    dry_at (suc k) = ⊎_elim
        (λ (x : k < length lanes). dry k x)
        (λ (x : length lanes ≤ k). subst (IsDry keeps) (sym (get_or_past lanes k nothing x)) (record { all = tt; exact = λ exact. refl }))
        (below_or_not k (length lanes))

    pub all_received : (order : List ℕ) → AreCounted order lanes → AreAllOfSent keeps.complete (received_of order lanes) (about_of lanes)
    all_received order counted s = rw (from_sender_of order lanes s (counted s)) (dry_at s).all

  -- those whose turn came before have nothing left
  pub turn_passed : (keeps : Parts) → IsTrue keeps.exact → (lanes : List (Lane M)) (i : ℕ) (message : M) (order : List ℕ) → AreCounted order lanes
      → ((k : ℕ) → k < length lanes → ComesBefore (get_or (0 ∷ order) (length order) 0) (k + 1) (i + 1) → IsDry keeps (at_place lanes k))
      → (senders : ℕ) → senders ≡ length lanes → IsInTurn senders (last_sender (received_of order lanes)) (about_of (set lanes i (with_taken message (at_place lanes i)))) (i + 1)
  turn_passed keeps exact lanes i message order counted passed senders long zero pos low before = absurd (omega arith)
  turn_passed keeps exact lanes i message order counted passed senders long (suc k) pos low before =
      let differs : suc k ≢ i + 1 = (λ e. not_before_itself (last_sender (received_of order lanes)) (i + 1) (subst (λ n. ComesBefore (last_sender (received_of order lanes)) n (i + 1)) e before)) in
      let is : suc k ≡ k + 1 = omega arith in
      ap (λ l. l.left) (of_sender_there lanes (i + 1) i (suc k) (with_taken message (at_place lanes i)) refl differs)
      ∙ (passed k (omega (arith, low, long)) (subst₂ (λ last n. ComesBefore last n (i + 1)) (last_received order lanes counted) is before)).exact exact

  -- every lane is told apart
  part_taken : (standing : Standing M) (lane : Lane M) → (told_apart standing lane).taken ≡ lane.taken
  part_taken Apart lane = refl
  part_taken (Shown sent) lane = refl
  part_taken (Settled sent) lane = refl

  apart_at : (lanes : List (Lane M)) (s : ℕ) → of_sender (map lane_apart lanes) s ≡ lane_apart (of_sender lanes s)
  apart_at lanes zero = refl
  apart_at lanes (suc k) = get_or-map lane_apart lanes k nothing

  taken_apart : (lanes : List (Lane M)) (s : ℕ) → (of_sender (map lane_apart lanes) s).taken ≡ (of_sender lanes s).taken
  taken_apart lanes s = ap (λ l. l.taken) (apart_at lanes s) ∙ part_taken (of_sender lanes s).standing (of_sender lanes s)

  pub counted_apart : (order : List ℕ) (lanes : List (Lane M)) → AreCounted order lanes → AreCounted order (map lane_apart lanes)
  counted_apart order lanes counted s = ap length (taken_apart lanes s) ∙ counted s

  pub received_apart : (order : List ℕ) (lanes : List (Lane M)) → received_of order (map lane_apart lanes) ≡ received_of order lanes
  received_apart order lanes j = woven order (λ s. taken_apart lanes s j)

  part_one : (lane : Lane M) → ((lane_apart lane).standing ≡ parted lane.standing) × (IsSettled lane.standing → about_lane (lane_apart lane) ≡ about_lane lane)
  part_one lane = part_by lane.standing lane refl
    where
      part_by : (standing : Standing M) (lane : Lane M) → standing ≡ lane.standing → ((told_apart standing lane).standing ≡ parted standing) × (IsSettled standing → about_lane (told_apart standing lane) ≡ about_lane lane)
      part_by Apart lane is = (sym is, λ settled. refl)
      part_by (Shown sent) lane is = (refl, λ settled. absurd settled)
      part_by (Settled sent) lane is = (sym is, λ settled. refl)

  pub all_part : (lanes : List (Lane M)) → AllPart (about_of lanes) (about_of (map lane_apart lanes))
  all_part lanes s = rw (apart_at lanes s) (part_one (of_sender lanes s))

  -- of lanes to which nothing came
  pub of_nothing : (n s : ℕ) → of_sender (replicate n (nothing {M = M})) s ≡ nothing {M = M}
  of_nothing n zero = refl
  of_nothing n (suc k) = ⊎_elim
      (λ (x : k < n). get_or-replicate n k nothing nothing x)
      (λ (x : n ≤ k). get_or_past (replicate n nothing) k nothing (omega (arith, x, length-replicate n (nothing {M = M}))))
      (below_or_not k n)
