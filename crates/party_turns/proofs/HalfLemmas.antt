-- The parties take in the senders of a row, from the last one on.
use Rattle.std.specs.Prelude.{◌≡◌, ◌≢◌, ◌&&◌, ◌==◌, ℕ, ◌+◌, ◌<◌, if◌then◌else◌, ltb, Bool, true, false, List, [], ◌∷◌, ◌++◌, length, slice_get, slice_set, slice_index_or, Some}
use Rattle.std.proofs.Common.{◌∙◌, refl, sym, ap, subst, inl, inr, append-nil, length-append, arith}
use Rattle.std.proofs.lemmas.Bool.{cases_Bool, cases_eq, cases_lt, le-ltb, lt-ltb}
use Rattle.std.proofs.lemmas.Bool.Decides.{nat_tests}
use Rattle.std.proofs.lemmas.List.{append_assoc, length-set}
use Rattle.std.proofs.lemmas.Option.{same_Some, slice_get-get_or, slice_get_past, slice_get_within}
use Rattle.party_turns.specs.Rows.{MayTakeAll, TakesAll, for_place, index_in, those}
use Rattle.mail_contract.proofs.PostsLemmas.{stays_elsewhere}
use Rattle.party_turns.proofs.PlacesLemmas.{now_there, there_after}

-- the sender for a party at one place is for that party alone
pub one_place : (skips : Bool) (row place other : ℕ) → (skips && row == place) ≡ false → (skips && row == other) ≡ false
    → index_in skips row place ≡ index_in skips row other → place ≡ other
one_place false row place other kept also same = same
one_place true row place other kept also same = grind (arith, nat_tests)

either_way : {X : Type 0} (test : Bool) (x : X) → (if test then x else x) ≡ x
either_way true x = refl
either_way false x = refl

-- a party's sender in a row, once those from an index on were taken in
abbrev pub taken_from : {S : Type 0} → Bool → ℕ → List S → ℕ → ℕ → List S
taken_from skips row senders index place = if ltb (index_in skips row place) index then [] else for_place skips row senders place

-- there is none for the party that is left out
left_out : {S : Type 0} (skips : Bool) (row : ℕ) (senders : List S) (index place : ℕ)
    → (skips && row == place) ≡ true → taken_from skips row senders index place ≡ []
left_out skips row senders index place out =
    ap (λ test. if ltb (index_in skips row place) index then [] else if test then [] else those (slice_get senders (index_in skips row place))) out
    ∙ either_way (ltb (index_in skips row place) index) []

-- what is not at an index is before the next one where it is before that one
same_test : (place index next : ℕ) → next ≡ index + 1 → place ≢ index → ltb place next ≡ ltb place index
same_test place index next is apart = elim (cases_lt place index) [
  | inl below ↦ lt-ltb place next (omega (arith, below, is)) ∙ sym (lt-ltb place index below)
  | inr past ↦ le-ltb place next (omega (arith, past, is, apart)) ∙ sym (le-ltb place index past)
]

module _ {S P : Type 0} (takes : S → P → P → Type 0) (skips : Bool) (row : ℕ) (senders : List S) (before : List P) where
  -- Those up to here are left to take in; the others were.
  pub record IsHalfDone (left : List S) (now : List P) : Type 0 where
    pub done : List S
    pub split : senders ≡ left ++ done
    pub long : length now ≡ length before
    pub each : (place : ℕ) (was is : P) → slice_get before place ≡ Some was → slice_get now place ≡ Some is
        → TakesAll takes (taken_from skips row senders (length left) place) was is

  -- at first all are left
  pub all_left : IsHalfDone senders before
  all_left = record {
    done = [];
    split = sym (append-nil senders);
    long = refl;
    each = λ place was is there here. subst (λ mine. TakesAll takes mine was is) (sym (none_of place)) (same_Some is was (sym here ∙ there));
  }
    where
      none_of : (place : ℕ) → taken_from skips row senders (length senders) place ≡ []
      none_of place = elim (cases_lt (index_in skips row place) (length senders)) [
        | inl below ↦ ap (λ test. if test then [] else for_place skips row senders place) (lt-ltb (index_in skips row place) (length senders) below)
        | inr past ↦
            ap (λ test. if test then [] else for_place skips row senders place) (le-ltb (index_in skips row place) (length senders) past)
            ∙ ap (λ mine. if skips && row == place then [] else those mine) (slice_get_past senders (index_in skips row place) past)
            ∙ either_way (skips && row == place) []
      ]

  module _ (left : List S) (s : S) (now : List P) (half : IsHalfDone (left ++ s ∷ []) now)
      (place : ℕ) (index : index_in skips row place ≡ length left) (kept : (skips && row == place) ≡ false) where
    more : length (left ++ s ∷ []) ≡ length left + 1
    more = length-append left (s ∷ [])

    -- the last of those left is the one for the party at its place
    its : for_place skips row senders place ≡ s ∷ []
    its =
        ap (λ test. if test then [] else those (slice_get senders (index_in skips row place))) kept
        ∙ ap (λ at. those (slice_get senders at)) index
        ∙ ap (λ all. those (slice_get all (length left))) (half.split ∙ append_assoc left (s ∷ []) half.done)
        ∙ ap those (there_after left s half.done)

    -- the party there is as it was
    as_it_was : (was is : P) → slice_get before place ≡ Some was → slice_get now place ≡ Some is → is ≡ was
    as_it_was was is there here = subst (λ mine. TakesAll takes mine was is)
        (ap (λ test. if test then [] else for_place skips row senders place) (lt-ltb (index_in skips row place) (length (left ++ s ∷ [])) (omega (arith, index, more))))
        (half.each place was is there here)

    here_was : (is : P) → slice_get now place ≡ Some is → slice_get before place ≡ Some is
    here_was is here =
        let within : place < length before = omega (arith, slice_get_within now place is here, half.long) in
        let there = slice_get-get_or before place is within in
        there ∙ ap Some (sym (as_it_was (slice_index_or before place is) is there here))

    -- so it may take it in
    pub may_take : (may : P → S → Type 0) → ((at : ℕ) (party : P) → slice_get before at ≡ Some party → MayTakeAll may takes (for_place skips row senders at) party)
        → (is : P) → slice_get now place ≡ Some is → may is s
    may_take may all is here = (subst (λ mine. MayTakeAll may takes mine is) its (all place is (here_was is here))).1 is refl

    -- and it is all that the party took in of the row
    taken_here : taken_from skips row senders (length left) place ≡ s ∷ []
    taken_here = ap (λ test. if test then [] else for_place skips row senders place) (le-ltb (index_in skips row place) (length left) (omega (arith, index))) ∙ its

    -- once it is taken in, the others are left
    pub one_less : (is after : P) → slice_get now place ≡ Some is → takes s is after → IsHalfDone left (slice_set now place after)
    one_less is after here takes_it = record {
      done = s ∷ half.done;
      split = half.split ∙ append_assoc left (s ∷ []) half.done;
      long = length-set now place after ∙ half.long;
      each = λ other was at_last there then_is. elim (cases_eq other place) [
        | inl same ↦
            subst (λ mine. TakesAll takes mine was at_last) (sym (ap (taken_from skips row senders (length left)) same ∙ taken_here)) (
              is,
              as_it_was was is (ap (slice_get before) (sym same) ∙ there) here,
              let there_now = now_there now place after (slice_get_within now place is here) in
                  subst (takes s is) (same_Some after at_last (sym there_now ∙ ap (slice_get (slice_set now place after)) (sym same) ∙ then_is)) takes_it,
            )
        | inr apart ↦
            subst (λ mine. TakesAll takes mine was at_last) (stays other apart)
            (half.each other was at_last there (sym (stays_elsewhere now place other after apart) ∙ then_is))
      ];
    }
      where
        stays : (other : ℕ) → other ≢ place → taken_from skips row senders (length (left ++ s ∷ [])) other ≡ taken_from skips row senders (length left) other
        stays other apart = elim (cases_Bool (skips && row == other)) [
          | inl out ↦ left_out skips row senders (length (left ++ s ∷ [])) other out ∙ sym (left_out skips row senders (length left) other out)
          | inr kept_too ↦
              ap (λ test. if test then [] else for_place skips row senders other)
              (same_test (index_in skips row other) (length left) (length (left ++ s ∷ [])) more (λ same. apart (one_place skips row other place kept_too kept (same ∙ sym index))))
        ]

  -- and at last all were taken in
  pub all_done : (now : List P) → IsHalfDone [] now
      → (place : ℕ) (was is : P) → slice_get before place ≡ Some was → slice_get now place ≡ Some is → TakesAll takes (for_place skips row senders place) was is
  all_done now half place was is there here =
      subst (λ mine. TakesAll takes mine was is) (ap (λ test. if test then [] else for_place skips row senders place) (le-ltb (index_in skips row place) 0 (omega arith)))
      (half.each place was is there here)
