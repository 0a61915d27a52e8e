-- A message that comes late is one that was missing.
use Rattle.std.proofs.Common.{◌≡◌, ◌≢◌, ◌⊎◌, ℕ, zero, suc, ◌+◌, ◌-◌, ◌<◌, ◌≤◌, Bool, false, IsTrue, List, [], ◌∷◌, ◌++◌, length, slice_get, slice_set, sum_by, max, replicate, Option, Some, None, ◌∙◌, ap, arith, inl, inr, length-append, refl, subst, sym, ⊎_elim}
use Rattle.std.specs.List.{range_with_len}
use Rattle.std.proofs.lemmas.List.{get_or-replicate, get_or-set_other, get_or_past, length-replicate}
use Rattle.std.proofs.lemmas.List.Sums.{sum_by-cons}
use Rattle.late_gossip.specs.Debts.{is_owed}
use Rattle.mail_contract.specs.Got as weak
use Rattle.mail_contract.specs.Got.{FewerMissing, StayDue, got_of, missing, missing_one}
use Rattle.mail_contract.specs.Standing.{About, AllStand, IsSettled, OfSent, OnShown, Standing, Apart, Shown, Settled}
use Rattle.mail_contract.specs.Takes.{IsFront, IsFrontOfSent, IsOfShown, from_sender}
use Rattle.mail_contract.proofs.FrontLemmas.{front_short}
use Rattle.mail_contract.proofs.WeakLemmas.{missing_received, still_of_sent}
use Rattle.mail_contract.proofs.WovenLemmas.{from_sender_more, same_or_not}

below_or_not : (a b : ℕ) → (a < b) ⊎ (b ≤ a)
below_or_not a b = grind arith

-- nobody is owed a message where no debt was set
pub none_owed : (many sender : ℕ) → is_owed (replicate many false) sender ≡ false
none_owed many sender = ⊎_elim
    (λ (within : sender < many). get_or-replicate many sender false false within)
    (λ (past : many ≤ sender). get_or_past (replicate many false) sender false (omega (arith, past, length-replicate many false)))
    (below_or_not sender many)

module _ {M : Type 0} where
  -- what stands in a front is not missing,
  none_missing : (front : List M) (place : ℕ) → place < length front → missing_one (slice_get front place) ≡ 0
  none_missing [] place within = absurd (omega (arith, within))
  none_missing (message ∷ rest) zero within = refl
  none_missing (message ∷ rest) (suc place) within = none_missing rest place (omega (arith, within))

  one_at_most : (here : Option M) → missing_one here ≤ 1
  one_at_most None = omega arith
  one_at_most (Some message) = omega arith

  -- and no more is missing than stands behind it
  missing_from : (front : List M) (a many : ℕ) → sum_by (λ i. missing_one (slice_get front i)) (range_with_len a many) ≤ (a + many) - max a (length front)
  missing_from front a zero = omega arith
  missing_from front a (suc many) =
      let rest = missing_from front (a + 1) many in
      let step = sum_by-cons (λ i. missing_one (slice_get front i)) a (range_with_len (a + 1) many) in ⊎_elim
      (λ (low : a < length front). omega (arith, rest, step, none_missing front a low, low))
      (λ (high : length front ≤ a). omega (arith, rest, step, one_at_most (slice_get front a), high))
      (below_or_not a (length front))

  missing_at_most : (front sent : List M) → missing (slice_get front) sent ≤ length sent - length front
  missing_at_most front sent = omega (arith, missing_from front 0 (length sent))

  on_shown : (standing : Standing M) (P Q : List M → Type 0) → ((sent : List M) → P sent → Q sent) → OnShown standing P → OnShown standing Q
  on_shown Apart P Q how is = tt
  on_shown (Shown sent) P Q how is = how sent is
  on_shown (Settled sent) P Q how is = tt

  module _ (debts : List Bool) (before now : List (ℕ × M)) (about about_now : ℕ → About M) (sender : ℕ) (message : M)
      (took : now ≡ before ++ (sender, message) ∷ []) (stand : AllStand about about_now) (shown : IsOfShown now about_now sender) where
    -- of a shown sender one message less is missing
    fewer_missing : FewerMissing (got_of before sender) (got_of now sender) (about sender).standing
    fewer_missing = on_shown (about sender).standing (IsFront (from_sender sender now)) _
        (λ sent front.
        let more = ap (from_sender sender) took ∙ from_sender_more sender before (sender, message) refl in
        let long = ap length more ∙ length-append (from_sender sender before) (message ∷ []) in
        omega (arith, long, front_short _ sent front, missing_at_most (from_sender sender now) sent, missing_received before sender sent))
        (subst (λ standing. OnShown standing (IsFront (from_sender sender now))) (stand sender).0 shown)

    -- so a sender stays owed a message, or one comes that was missing
    pub stay_due : StayDue (got_of before) (got_of now) about (is_owed debts) (is_owed (slice_set debts sender false))
    stay_due other owed = ⊎_elim
        (λ (here : other ≡ sender). inr (subst (λ s. FewerMissing (got_of before s) (got_of now s) (about s).standing) (sym here) fewer_missing))
        (λ (there : other ≢ sender). inl (subst IsTrue (sym (get_or-set_other debts sender other false false there)) owed))
        (same_or_not other sender)

  -- of a settled sender a box that is complete tells no more than one that is not
  to_complete : (complete : Bool) (standing : Standing M) (P : List M → Type 0) → IsSettled standing → OfSent false standing P → OfSent complete standing P
  to_complete complete Apart P settled is = absurd settled
  to_complete complete (Shown sent) P settled is = absurd settled
  to_complete complete (Settled sent) P settled is = is

  of_complete : (complete : Bool) (standing : Standing M) (P : List M → Type 0) → (IsSettled standing → OfSent complete standing P) → OfSent false standing P
  of_complete complete Apart P is = tt
  of_complete complete (Shown sent) P is = tt
  of_complete complete (Settled sent) P is = is tt

  -- so what was handed out of it was still sent by it
  pub still_of_settled : (complete : Bool) (before now : List (ℕ × M)) (about about_now : ℕ → About M) → AllStand about about_now
      → ((s : ℕ) → IsFrontOfSent complete before about s → IsFrontOfSent complete now about_now s)
      → (s : ℕ) → weak.IsOfSent false (got_of before) about s → weak.IsOfSent false (got_of now) about_now s
  still_of_settled complete before now about about_now stand told s is = of_complete complete (about_now s).standing _
      (λ settled. still_of_sent complete before now about about_now told s (to_complete complete (about s).standing _ (subst IsSettled (stand s).0 settled) is))
