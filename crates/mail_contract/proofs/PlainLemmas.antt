-- What is taken of a lane of plain mail is the front of what its sender sent.
use Rattle.std.proofs.Common.{◌≡◌, ℕ, ◌+◌, ◌-◌, ◌<◌, ◌≤◌, Bool, true, false, List, [], ◌++◌, length, map, get_or, set, take, drop, Result, Ok, Err, sym, ◌∙◌, ap, refl, subst, arith, add-one}
use Rattle.std.proofs.lemmas.List.{take-append-drop, take-append-le, take_all, length-take-le, map-set}
use Rattle.mail_contract.specs.Carried.{Carried}
use Rattle.mail_contract.specs.Lanes.{Lane, IsGiven, about_lane, about_of}
use Rattle.mail_contract.specs.Plain.{Follows, IsCause, IsLeft, OnDelivered, delivered, lane_of, plain_parts, with_more, with_parcel}
use Rattle.mail_contract.specs.declared.parcels.ParcelFault.{ParcelFault}
use Rattle.mail_contract.specs.declared.parcels.ParcelFault.TheVariants.{Strange, NoMemory}
use Rattle.mail_contract.specs.Standing.{IsSettled}
use Rattle.mail_contract.specs.Takes.{IsFront}
use Rattle.mail_contract.proofs.BoxesLemmas.{lane_before, lane_now, low, others_stay, place}
use Rattle.mail_contract.proofs.MapsLemmas.{at_map}

module _ {M : Type 0} where
  front_taken : (n : ℕ) (given : List M) → n ≤ length given → IsFront (take n given) given
  front_taken n given low = ap (λ k. take k given) (length-take-le n given low)

  pub given_told : (given : List M) (taken : ℕ) (settled : Bool) → taken < length given → IsGiven plain_parts (lane_of given taken settled) (lane_of given (taken + 1) settled)
  given_told given taken true low = record { told = front_taken (taken + 1) given (omega arith); bounded = λ bounded. tt; some = λ finite met. omega arith }
  given_told given taken false low = record { told = tt; bounded = λ bounded. tt; some = λ finite met. omega arith }

  pub not_settled : (given : List M) (taken : ℕ) (settled : Bool) → (IsSettled (lane_of given taken settled).standing → ⊥) → settled ≡ false
  not_settled given taken true once = absurd (once tt)
  not_settled given taken false once = refl

  unsettled : (given : List M) (taken : ℕ) (settled : Bool) → settled ≡ false → IsSettled (lane_of given taken settled).standing → ⊥
  unsettled given taken settled is ended = subst (λ b. IsSettled (lane_of given taken b).standing → ⊥) (sym is) (λ none. none) ended

  -- what was delivered of a sender that is taken in is what it gave up, so what was taken of it is the front of what it sent
  pub settled_told : (given sent : List M) (delivered taken given_up : ℕ) → delivered ≡ length given → taken ≤ length given → take given_up sent ≡ take delivered given → IsFront (take taken given) sent
  settled_told given sent delivered taken given_up all low pair =
      let is : take given_up sent ≡ given = pair ∙ take_all delivered given (omega (arith, all)) in
      ap (λ k. take k sent) (length-take-le taken given low)
      ∙ ap (take taken) (sym (take-append-drop given_up sent) ∙ ap (λ l. l ++ drop given_up sent) is)
      ∙ take-append-le taken given (drop given_up sent) low

  -- what holds by the answer of a delivery
  module _ {U : Type 0} where
    pub on_delivered : (result : Result U (ParcelFault M)) (P Q P' Q' : Type 0) → (P → P') → (Q → Q') → OnDelivered result P Q → OnDelivered result P' Q'
    on_delivered (Ok done) P Q P' Q' there other is = there is
    on_delivered (Err fault) P Q P' Q' there other is = other is

    -- what was taken of a lane stays
    pub still_taken : (result : Result U (ParcelFault M)) (more : ℕ) (before now : Lane M) → OnDelivered result (now ≡ with_more more before) (now ≡ before) → now.taken ≡ before.taken
    still_taken (Ok done) more before now is = ap (λ l. l.taken) is
    still_taken (Err fault) more before now is = ap (λ l. l.taken) is

    pub same_cause : (P Q : Type 0) → (P → Q) → (Q → P) → (parcel : Carried M) (result : Result U (ParcelFault M)) → IsCause P parcel result → IsCause Q parcel result
    same_cause P Q there back parcel (Ok done) is = there is
    same_cause P Q there back parcel (Err (Strange returned)) is = (is.0, λ q. is.1 (back q))
    same_cause P Q there back parcel (Err (NoMemory returned)) is = (is.0, there is.1)

  -- one sender's lane takes a parcel in
  module _ {A : Type 0} (lane : A → Lane M) (key : A → List M) (xs : List A) (parcel : Carried M) (number : ℕ) (old new : A)
      (same : number ≡ parcel.sender) (pos : 1 ≤ parcel.sender) (fits : parcel.sender ≤ length (map key xs)) (at : old ≡ get_or xs (number - 1) old) where
    delivered_before : delivered (map key xs) parcel.sender ≡ key old
    delivered_before =
        ap (delivered (map key xs)) (place lane key xs parcel.sender number old new same pos fits at)
        ∙ rw add-one refl ∙ at_map key xs (number - 1) old [] (low lane key xs parcel.sender number old new same pos fits at) at

    pub is_delivered : key new ≡ key old ++ parcel.messages → map key (set xs (number - 1) new) ≡ with_parcel parcel (map key xs)
    is_delivered more = map-set key xs (number - 1) new ∙ (λ j. set (map key xs) (same j - 1) ((more ∙ ap (λ l. l ++ parcel.messages) (sym delivered_before)) j))

    pub is_left : lane new ≡ with_more (length parcel.messages) (lane old) → IsLeft parcel (about_of (map lane xs)) (about_of (map lane (set xs (number - 1) new)))
    is_left more = record {
      here = ap about_lane (lane_now lane key xs parcel.sender number old new same pos fits at ∙ more ∙ ap (with_more (length parcel.messages)) (sym (lane_before lane key xs parcel.sender number old new same pos fits at)));
      others = others_stay lane key xs parcel.sender number old new same pos fits at;
    }

    -- it follows where it begins where this lane's parcels end
    module _ (given : List M) (taken count : ℕ) (settled : Bool) (is : lane old ≡ lane_of given taken settled) (all : key old ≡ take count given) (some : count ≤ length given) where
      standing : (about_of (map lane xs) parcel.sender).standing ≡ (lane_of given taken settled).standing
      standing = ap (λ l. l.standing) (lane_before lane key xs parcel.sender number old new same pos fits at ∙ is)

      long : length (delivered (map key xs) parcel.sender) ≡ count
      long = ap length (delivered_before ∙ all) ∙ length-take-le count given some

      pub follows : (settled ≡ false) × (parcel.begin ≡ count) → Follows (map key xs) (about_of (map lane xs)) parcel
      follows here = record {
        from_one = pos;
        to_last = fits;
        sends = λ ended. unsettled given taken settled here.0 (subst IsSettled standing ended);
        begins = here.1 ∙ sym long;
      }

      pub followed : Follows (map key xs) (about_of (map lane xs)) parcel → (settled ≡ false) × (parcel.begin ≡ count)
      followed here = (not_settled given taken settled (λ ended. here.sends (subst IsSettled (sym standing) ended)), here.begins ∙ long)
