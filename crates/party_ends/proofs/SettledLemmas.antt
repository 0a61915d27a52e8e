-- Weak boxes that were made take in the senders of their own numbers: the others are of one making, in rows that skip their own numbers.
use Rattle.std.specs.Prelude.{◌≡◌, ◌≢◌, ◌&&◌, ◌==◌, ℕ, ◌+◌, Bool, true, false, IsTrue, List, [], All, length, map, slice_get, Option, Some, None}
use Rattle.std.proofs.Common.{◌∙◌, refl, sym, ap, subst, inl, inr, arith}
use Rattle.std.proofs.lemmas.Bool.{cases_eq}
use Rattle.std.proofs.lemmas.Bool.Decides.{nat_tests}
use Rattle.std.proofs.lemmas.List.Edits.{length-remove}
use Rattle.std.proofs.lemmas.Option.{none-some, same_Some, slice_get_within}
use Rattle.mail_contract.specs.Boxes.{weak_box_of}
use Rattle.mail_contract.specs.Parts.{Parts}
use Rattle.mail_contract.specs.Standing.{About, Settled, IsSettled}
use Rattle.mail_contract.specs.Takes.{Answers}
use Rattle.party_turns.specs.Rows.{index_in}
use Rattle.party_turns.specs.Mates.{IsMate}
use Rattle.party_turns.proofs.ItemsLemmas.{same_made, all_there, at_its_place, there_is}
use Rattle.party_ends.specs.Dealt.{AreDoneBefore, AreNew, IsEmptyWeakBoxOf, MayTakeInOwn, TakesInOwn}
use Rattle.party_ends.proofs.OwnsLemmas.{left_hold, left_there}

-- a row that is not skipped at a place is not the one of that place
kept_apart : (row place : ℕ) → (true && row == place) ≡ false → row ≢ place
kept_apart row place kept = grind (arith, nat_tests)

module _ {S P M K SK : Type 0} (sender_key : S → SK) (number : S → ℕ) (sent : S → List M) (pairs : K → SK → ℕ → Type 0) (key : P → K) (senders : K → ℕ)
    (got : P → ℕ → ℕ → Option M) (answers : P → Answers) (about : P → ℕ → About M) (due : P → ℕ → Bool) (most : P → ℕ) (keeps : Parts)
    (many : ℕ) (rows : List (List S)) (before : List P) (new : AreNew sender_key number sent pairs key about false many many rows before) where
  -- the sender at the place of a box's own number has that number
  its_number : (place : ℕ) (row : List S) (own : S) → slice_get rows place ≡ Some row → slice_get row place ≡ Some own → number own ≡ place + 1
  its_number place row own there here = at_its_place (λ sender. number sender ≡ place + 1) row place own (new.making.numbers place row there) here

  -- each box may take in its own
  pub may_take_own : (place : ℕ) (row : List S) (box : P) → slice_get rows place ≡ Some row → slice_get before place ≡ Some box → MayTakeInOwn sender_key number pairs key about place row box
  may_take_own place row box there box_there =
      let within = slice_get_within before place box box_there in
      let long = at_its_place (λ its. length its + 0 ≡ length before) rows place row new.making.many there in
      let own = there_is row place (omega (arith, within, long)) in (
        own.0,
        own.1,
        (
          new.making.paired place place row own.0 box there box_there refl own.1,
          λ settled. new.making.not_taken_in place place box (slice_get_within rows place row there) box_there refl
              (subst (λ n. IsSettled (about box n).standing) (its_number place row own.0 there own.1) settled),
        ),
      )

  module _ (left : List (List S)) (now : List P)
      (done : AreDoneBefore (TakesInOwn number sent key senders keeps (weak_box_of got answers about due most)) rows before (length before) left now) where
    -- what became of a row, and of a box
    pub record Took (place : ℕ) (its : List S) (is : P) : Type 0 where
      pub row : List S
      pub was : P
      pub row_there : slice_get rows place ≡ Some row
      pub was_there : slice_get before place ≡ Some was
      pub takes : TakesInOwn number sent key senders keeps (weak_box_of got answers about due most) place row its was is

    took : (place : ℕ) (its : List S) (is : P) → slice_get left place ≡ Some its → slice_get now place ≡ Some is → Took place its is
    took place its is there here =
        let within = slice_get_within now place is here in
        let row = there_is rows place (omega (arith, within, done.ys_long, new.rows_are, new.boxes_are)) in
        let was = there_is before place (omega (arith, within, done.ys_long)) in
        record {
          row = row.0;
          was = was.0;
          row_there = row.1;
          was_there = was.1;
          takes = done.done place row.0 its was.0 is (omega (arith, within, done.ys_long)) row.1 there was.1 here;
        }

    of_row : (place : ℕ) (its : List S) → slice_get left place ≡ Some its → (is : P) × Took place its is
    of_row place its there =
        let is = there_is now place (let within = slice_get_within left place its there in omega (arith, within, done.xs_long, done.ys_long, new.rows_are, new.boxes_are)) in
        (is.0, took place its is.0 there is.1)

    of_box : (place : ℕ) (is : P) → slice_get now place ≡ Some is → (its : List S) × Took place its is
    of_box place is here =
        let its = there_is left place (let within = slice_get_within now place is here in omega (arith, within, done.xs_long, done.ys_long, new.rows_are, new.boxes_are)) in
        (its.0, took place its.0 is its.1 here)

    -- Each box has the key that it had.
    pub keys_stay : {V : Type 0} (tells : K → V) → map (λ box. tells (key box)) now ≡ map (λ box. tells (key box)) before
    keys_stay tells = same_made (λ box. tells (key box)) (λ box. tells (key box)) now before (sym done.ys_long) (λ place is was here there.
        let its_box = (of_box place is here).1 in
        ap tells its_box.takes.key_is ∙ ap (λ box. tells (key box)) (same_Some its_box.was was (sym its_box.was_there ∙ there)))

    -- The others are of one making.
    pub still_new : AreNew sender_key number sent pairs key about true many many left now
    still_new = record {
      rows_are = done.xs_long ∙ new.rows_are;
      boxes_are = done.ys_long ∙ new.boxes_are;
      making = record {
        many = all_there (λ its. length its + 1 ≡ length now) left (λ row its there.
            let taken = (of_row row its there).1 in
            let within = slice_get_within taken.row row taken.takes.own taken.takes.there in
            let long = at_its_place (λ all. length all + 0 ≡ length before) rows row taken.row new.making.many taken.row_there in
            ap (λ all. length all + 1) taken.takes.left_is ∙ length-remove taken.row row within ∙ omega (arith, long, done.ys_long));
        numbers = λ row its there.
            let taken = (of_row row its there).1 in
            subst (All (λ sender. number sender ≡ row + 1)) (sym taken.takes.left_is)
            (left_hold (λ sender. number sender ≡ row + 1) taken.row row (new.making.numbers row taken.row taken.row_there));
        paired = λ row place its sender box there box_there kept here.
            let taken = (of_row row its there).1 in
            let its_box = (of_box place box box_there).1 in
            let was_here = sym (left_there taken.row row place (kept_apart row place kept)) ∙ ap (λ all. slice_get all (index_in true row place)) (sym taken.takes.left_is) ∙ here in
            subst (λ k. pairs k (sender_key sender) (number sender)) (sym its_box.takes.key_is)
            (new.making.paired row place taken.row sender its_box.was taken.row_there its_box.was_there refl was_here);
        not_taken_in = λ row place box low box_there kept settled.
            let its_box = (of_box place box box_there).1 in
            let own = its_number place its_box.row its_box.takes.own its_box.row_there its_box.takes.there in
            let apart = kept_apart row place kept in
            let stays = its_box.takes.settles.others (row + 1) (λ same. apart (omega (arith, same, own))) in
            new.making.not_taken_in row place its_box.was (omega (arith, low, done.xs_long)) its_box.was_there refl (subst (λ about_it. IsSettled about_it.standing) stays settled);
      };
      nothing_sent = all_there (All (λ sender. sent sender ≡ [])) left (λ row its there.
          let taken = (of_row row its there).1 in
          subst (All (λ sender. sent sender ≡ [])) (sym taken.takes.left_is)
          (left_hold (λ sender. sent sender ≡ []) taken.row row (at_its_place (All (λ sender. sent sender ≡ [])) rows row taken.row new.nothing_sent taken.row_there)));
    }

    -- And each box has handed out nothing, and its own sender was taken in.
    pub empty_weak_boxes : All (λ box. (senders (key box) ≡ many) × ((sender place : ℕ) → got box sender place ≡ None)) before
        → (place : ℕ) (box : P) → slice_get now place ≡ Some box → IsEmptyWeakBoxOf (IsMate many (place + 1)) key senders got about box
    empty_weak_boxes empty place box there =
        let its_box = (of_box place box there).1 in
        let own = its_number place its_box.row its_box.takes.own its_box.row_there its_box.takes.there in
        let was = at_its_place (λ one. (senders (key one) ≡ many) × ((sender at : ℕ) → got one sender at ≡ None)) before place its_box.was empty its_box.was_there in
        let all_sent = at_its_place (All (λ sender. sent sender ≡ [])) rows place its_box.row new.nothing_sent its_box.row_there in
        let sent_none = at_its_place (λ sender. sent sender ≡ []) its_box.row place its_box.takes.own all_sent its_box.takes.there in
        let many_now : senders (key box) ≡ many = ap senders its_box.takes.key_is ∙ was.0 in
        let none : (sender at : ℕ) → got box sender at ≡ None = λ sender at. ap (λ those. those sender at) its_box.takes.settles.got ∙ was.1 sender at in (
          none,
          record {
            in_range = λ sender at message is. absurd (none-some message (sym (none sender at) ∙ is));
            others = λ sender one. elim (cases_eq sender (place + 1)) [
              | inl same ↦
                  let is_own : sender ≡ number its_box.takes.own = same ∙ sym own in
                  inr (
                    record {
                      nothing = ap (λ n. (about box n).standing) is_own ∙ its_box.takes.settles.settled ∙ ap Settled sent_none;
                      met = subst (λ n. IsTrue (about box n).met) (sym is_own) its_box.takes.settles.met;
                    },
                    none sender,
                  )
              | inr apart ↦ inl ((one.0, omega (arith, one.1, many_now)), apart)
            ];
          },
        )
