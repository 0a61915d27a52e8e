-- What the receiver's view tells of one sender.
use Rattle.std.proofs.Common.{◌≡◌, ◌≢◌, ℕ, ◌+◌, ◌≤◌, Bool, true, false, ◌==◌, if◌then◌else◌, List, [], ◌∷◌, ◌++◌, sym, refl, ap, ◌∙◌, subst, ⊎_elim, append-nil, eq-eqb, arith}
use Rattle.std.specs.Prelude.{All}
use Rattle.std.proofs.lemmas.Bool.{ne_eqb}
use Rattle.std.proofs.lemmas.List.Elements.{All-head, All-tail, All-weaker}
use Rattle.mail_contract.specs.Standing.{OfSent, Standing, Settled, parted}
use Rattle.mail_contract.specs.Takes.{IsFront, from_sender}
use Rattle.mail_contract.proofs.WovenLemmas.{same_or_not}
use Rattle.mailbox_rule.specs.Ends.{standing_in}
use Rattle.mailbox_rule.specs.Rule.{AreFronts, AreWhole, ended_in, received_in, receiver}
use Rattle.mailbox_rule.specs.declared.rule.View.{View}

-- a pass that knows how many senders were made is the receiver's
pub receives : (made senders : ℕ) → made ≡ senders + 1 → 1 ≤ made
receives made senders is = omega (arith, is)

module _ {M : Type 0} where
  standing_here : (list : ℕ × List M) (lists : List (ℕ × List M)) (s : ℕ) → list.0 ≡ s → standing_in (list ∷ lists) s ≡ Settled list.1
  standing_here list lists s is = ap (λ (b : Bool). let r : Standing M = (if b then Settled list.1 else standing_in lists s) in r) (eq-eqb list.0 s is)

  standing_there : (list : ℕ × List M) (lists : List (ℕ × List M)) (s : ℕ) → list.0 ≢ s → standing_in (list ∷ lists) s ≡ standing_in lists s
  standing_there list lists s differs = ap (λ (b : Bool). let r : Standing M = (if b then Settled list.1 else standing_in lists s) in r) (ne_eqb list.0 s differs)

  -- what is told of each list is told of the one of a settled sender
  of_settled : (P : ℕ → List M → Type 0) (lists : List (ℕ × List M)) (s : ℕ) → All (λ list. P list.0 list.1) lists → OfSent false (standing_in lists s) (P s)
  of_settled P [] s all = tt
  of_settled P (list ∷ lists) s all = ⊎_elim
      (λ (is : list.0 ≡ s). subst (λ (standing : Standing M). OfSent false standing (P s)) (sym (standing_here list lists s is)) (subst (λ n. P n list.1) is (All-head (λ l. P l.0 l.1) list lists all)))
      (λ (differs : list.0 ≢ s). subst (λ (standing : Standing M). OfSent false standing (P s)) (sym (standing_there list lists s differs)) (of_settled P lists s (All-tail (λ l. P l.0 l.1) list lists all)))
      (same_or_not list.0 s)

  pub fronts_told : (view : View M) (s : ℕ) → AreFronts view → OfSent false (standing_in (ended_in view) s) (λ sent. IsFront (from_sender s (received_in view)) sent)
  fronts_told view s fronts = of_settled (λ n sent. IsFront (from_sender n (received_in view)) sent) (ended_in view) s fronts

  pub whole_told : (view : View M) (s : ℕ) → AreWhole view [] → OfSent false (standing_in (ended_in view) s) (λ sent. from_sender s (received_in view) ≡ sent)
  whole_told view s whole = of_settled (λ n sent. from_sender n (received_in view) ≡ sent) (ended_in view) s
      (All-weaker (λ list. list.1 ≡ from_sender list.0 (received_in view ++ [])) (λ list. from_sender list.0 (received_in view) ≡ list.1)
      (λ list is. sym (is ∙ ap (from_sender list.0) (append-nil (received_in view)))) (ended_in view) whole)

  -- of the sender that was taken in last
  pub front_told : (view : View M) (made number : ℕ) (received : List (ℕ × M)) (sent : List M) (ended : List (ℕ × List M)) → view ≡ receiver made received ((number, sent) ∷ ended) → AreFronts view → IsFront (from_sender number received) sent
  front_told view made number received sent ended is fronts = All-head (λ list. IsFront (from_sender list.0 received) list.1) (number, sent) ended (subst AreFronts is fronts)

  pub settled_here : (lists : List (ℕ × List M)) (number : ℕ) (sent : List M) → standing_in ((number, sent) ∷ lists) number ≡ Settled sent
  settled_here lists number sent = standing_here (number, sent) lists number refl

  pub others_stay : (lists : List (ℕ × List M)) (number s : ℕ) (sent : List M) → s ≢ number → standing_in ((number, sent) ∷ lists) s ≡ standing_in lists s
  others_stay lists number s sent differs = standing_there (number, sent) lists s (λ is. differs (sym is))

  -- nobody is ever shown
  pub all_apart : (lists : List (ℕ × List M)) (s : ℕ) → standing_in lists s ≡ parted (standing_in lists s)
  all_apart [] s = refl
  all_apart (list ∷ lists) s = elim (list.0 == s) as (λ b. (if b then Settled list.1 else standing_in lists s) ≡ parted (if b then Settled list.1 else standing_in lists s)) [ true ↦ refl | false ↦ all_apart lists s ]
