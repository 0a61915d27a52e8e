-- A party takes in the senders that are for it, of two lists, of several rows.
use Rattle.std.specs.Prelude.{◌≡◌, ℕ, ◌+◌, ◌<◌, Bool, List, [], ◌∷◌, ◌++◌, length, slice_get, slice_index_or, Some}
use Rattle.std.proofs.Common.{◌∙◌, refl, sym, ap, subst, append-nil, length-append, arith}
use Rattle.std.proofs.lemmas.List.{append_assoc}
use Rattle.std.proofs.lemmas.Option.{same_Some, slice_get-get_or, slice_get_within}
use Rattle.party_turns.specs.Rows.{MayTakeAll, TakesAll, column, for_place}

module _ {S P : Type 0} (takes : S → P → P → Type 0) where
  -- to take in two lists is to take in the second one and then the first
  pub takes_both : (xs ys : List S) (before between now : P)
      → TakesAll takes ys before between → TakesAll takes xs between now → TakesAll takes (xs ++ ys) before now
  takes_both [] ys before between now second first = subst (TakesAll takes ys before) (sym first) second
  takes_both (x ∷ xs) ys before between now second (last, first, takes_it) =
      (last, takes_both xs ys before between last second first, takes_it)

  -- and the other way round
  pub taken_both : (xs ys : List S) (before now : P)
      → TakesAll takes (xs ++ ys) before now → (between : P) × TakesAll takes ys before between × TakesAll takes xs between now
  taken_both [] ys before now all = (now, all, refl)
  taken_both (x ∷ xs) ys before now (last, all, takes_it) =
      let both = taken_both xs ys before last all in
      (both.0, both.1, (last, both.2, takes_it))

  module _ (may : P → S → Type 0) where
    -- what may take in two lists may take in the second one
    pub may_second : (xs ys : List S) (party : P) → MayTakeAll may takes (xs ++ ys) party → MayTakeAll may takes ys party
    may_second [] ys party all = all
    may_second (x ∷ xs) ys party all = may_second xs ys party all.0

    -- and then the first
    pub may_first : (xs ys : List S) (party between : P)
        → MayTakeAll may takes (xs ++ ys) party → TakesAll takes ys party between → MayTakeAll may takes xs between
    may_first [] ys party between all second = tt
    may_first (x ∷ xs) ys party between all second =
        (may_first xs ys party between all.0 second, λ last first. all.1 last (takes_both xs ys party between last second first))

-- the column of two lists of rows
pub column_both : {S : Type 0} (skips : Bool) (row : ℕ) (rows more : List (List S)) (place : ℕ)
    → column skips row (rows ++ more) place ≡ column skips row rows place ++ column skips (row + length rows) more place
column_both skips row [] more place = ap (λ from. column skips from more place) (omega arith)
column_both skips row (senders ∷ rows) more place =
    ap (λ rest. for_place skips row senders place ++ rest)
    (column_both skips (row + 1) rows more place ∙ ap (λ from. column skips (row + 1) rows place ++ column skips from more place) (omega arith))
    ∙ sym (append_assoc (for_place skips row senders place) (column skips (row + 1) rows place) (column skips (row + length (senders ∷ rows)) more place))

module _ {S P : Type 0} (takes : S → P → P → Type 0) (skips : Bool) (rows : List (List S)) (before : List P) where
  -- The rows up to here are left to take in; of the others each party took in its own.
  pub record AreTaken (left : List (List S)) (now : List P) : Type 0 where
    pub done : List (List S)
    pub split : rows ≡ left ++ done
    pub long : length now ≡ length before
    pub each : (place : ℕ) (was is : P) → slice_get before place ≡ Some was → slice_get now place ≡ Some is
        → TakesAll takes (column skips (length left) done place) was is

  -- at first all are left
  pub none_taken : AreTaken rows before
  none_taken = record {
    done = [];
    split = sym (append-nil rows);
    long = refl;
    each = λ place was is there here. same_Some is was (sym here ∙ there);
  }

  module _ (left : List (List S)) (senders : List S) (now : List P) (taken : AreTaken (left ++ senders ∷ []) now) where
    next : length (left ++ senders ∷ []) ≡ length left + 1
    next = length-append left (senders ∷ [])

    all_of : rows ≡ left ++ (senders ∷ taken.done)
    all_of = taken.split ∙ append_assoc left (senders ∷ []) taken.done

    -- what a party took in so far
    so_far : (place : ℕ) (was is : P) → slice_get before place ≡ Some was → slice_get now place ≡ Some is
        → TakesAll takes (column skips (length left + 1) taken.done place) was is
    so_far place was is there here = subst (λ from. TakesAll takes (column skips from taken.done place) was is) next (taken.each place was is there here)

    -- so it may take in its sender of the last row left
    pub may_take_row : (may : P → S → Type 0)
        → ((place : ℕ) (party : P) → slice_get before place ≡ Some party → MayTakeAll may takes (column skips 0 rows place) party)
        → (place : ℕ) (is : P) → slice_get now place ≡ Some is → MayTakeAll may takes (for_place skips (length left) senders place) is
    may_take_row may all place is here =
        let within : place < length before = omega (arith, slice_get_within now place is here, taken.long) in
        let was = slice_index_or before place is in
        let there = slice_get-get_or before place is within in
        let split = ap (λ some. column skips 0 some place) all_of ∙ column_both skips 0 left (senders ∷ taken.done) place in
        let mine = subst (λ those. MayTakeAll may takes those was) split (all place was there) in
        let rest = may_second takes may (column skips 0 left place) (column skips (0 + length left) (senders ∷ taken.done) place) was mine in
        may_first takes may (for_place skips (length left) senders place) (column skips (length left + 1) taken.done place) was is
        (subst (λ from. MayTakeAll may takes (column skips from (senders ∷ taken.done) place) was) (omega arith) rest)
        (so_far place was is there here)

    -- and once it did, the others are left
    pub one_row_less : (after : List P) → length after ≡ length now
        → ((place : ℕ) (was is : P) → slice_get now place ≡ Some was → slice_get after place ≡ Some is
        → TakesAll takes (for_place skips (length left) senders place) was is)
        → AreTaken left after
    one_row_less after same row = record {
      done = senders ∷ taken.done;
      split = all_of;
      long = same ∙ taken.long;
      each = λ place was is there here.
          let within : place < length now = omega (arith, slice_get_within after place is here, same) in
          let between = slice_index_or now place is in
          let then_was = slice_get-get_or now place is within in
          takes_both takes (for_place skips (length left) senders place) (column skips (length left + 1) taken.done place) was between is
          (so_far place was between there then_was) (row place between is then_was here);
    }

  -- and at last all were taken in
  pub all_taken_in : (now : List P) → AreTaken [] now
      → (place : ℕ) (was is : P) → slice_get before place ≡ Some was → slice_get now place ≡ Some is → TakesAll takes (column skips 0 rows place) was is
  all_taken_in now taken place was is there here =
      subst (λ some. TakesAll takes (column skips 0 some place) was is) (sym taken.split) (taken.each place was is there here)
