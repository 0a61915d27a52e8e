-- Items are given to rows, each to the one at its own place, and so list after list is dealt to the rows.
use Rattle.std.specs.Prelude.{◌≡◌, ◌⊎◌, ℕ, zero, suc, ◌+◌, ◌<◌, false, List, [], ◌∷◌, ◌++◌, length, map, replicate, slice_get, slice_index_or, Option, Some}
use Rattle.std.proofs.Common.{◌∙◌, refl, sym, ap, subst, inl, inr, arith, length-append}
use Rattle.std.proofs.lemmas.List.{get_or-replicate, length-map, length-replicate}
use Rattle.std.proofs.lemmas.Option.{get_or_from_slice_get, none-some, same_Some, slice_get_within}
use Rattle.party_turns.specs.Rows.{TakesAll, for_place, those}
use Rattle.party_turns.proofs.PlacesLemmas.{there_after}
use Rattle.party_turns.proofs.ItemsLemmas.{all_there, at_its_place, of_mapped, there_is}
use Rattle.party_ends.specs.Dealt.{AreDealt, AreGiven, AreMade}

-- an item of a list with one more at the end is one of the list, or the one more
pub of_one_more : {X : Type 0} (xs : List X) (x : X) (place : ℕ) (y : X) → slice_get (xs ++ x ∷ []) place ≡ Some y → (slice_get xs place ≡ Some y) ⊎ ((place ≡ length xs) × (y ≡ x))
of_one_more [] x zero y is = inr (refl, sym (same_Some x y is))
of_one_more [] x (suc place) y is = absurd (none-some y is)
of_one_more (first ∷ xs) x zero y is = inl is
of_one_more (first ∷ xs) x (suc place) y is = elim (of_one_more xs x place y is) [ inl there ↦ inl there | inr last ↦ inr (ap suc last.0, last.1) ]

-- and one of the list stands where it stood
pub still_there : {X : Type 0} (xs : List X) (x : X) (place : ℕ) → place < length xs → slice_get (xs ++ x ∷ []) place ≡ slice_get xs place
still_there [] x place within = absurd (omega (arith, within))
still_there (first ∷ xs) x zero within = refl
still_there (first ∷ xs) x (suc place) within = still_there xs x place (omega (arith, within))

-- What was given to each at its place was given to all.
pub are_given : {X V : Type 0} (show : V → List X) (items : List X) (before now : List V) → length now ≡ length before
    → ((place : ℕ) (was is : V) → slice_get before place ≡ Some was → slice_get now place ≡ Some is → TakesAll (λ item old new. show new ≡ show old ++ item ∷ []) (for_place false 0 items place) was is)
    → AreGiven items (map show before) (map show now)
are_given {X} {V} show items before now long takes = record {
  long = length-map now show ∙ long ∙ sym (length-map before show);
  each = λ place was is item there here its.
      let old = of_mapped show before place was there in
      let new = of_mapped show now place is here in
      let taken = subst (λ (one : Option X). TakesAll (λ item old new. show new ≡ show old ++ item ∷ []) (those one) old.0 new.0) its (takes place old.0 new.0 old.1 new.1) in
      sym new.2 ∙ taken.2 ∙ ap (λ all. all ++ item ∷ []) (ap show taken.1 ∙ old.2);
}

module _ {X : Type 0} (lists rows : List (List X)) (dealt : AreDealt lists rows) where
  -- one list more is dealt
  pub one_dealt : (list : List X) (now : List (List X)) → length list ≡ length rows → AreGiven list rows now → AreDealt (lists ++ list ∷ []) now
  one_dealt list now as_long given = record {
    long = all_there (λ row. length row ≡ length (lists ++ list ∷ [])) now (λ row its there.
        let was = row_was row its there in
        let item = item_of row its there in
        ap length (given.each row was.0 its item.0 was.1 there item.1) ∙ omega (arith, length-append was.0 (item.0 ∷ []), length-append lists (list ∷ []), long_was row was.0 was.1));
    items = λ row place its its_list there list_there.
        let was = row_was row its there in
        let item = item_of row its there in
        let is = given.each row was.0 its item.0 was.1 there item.1 in
        let long = long_was row was.0 was.1 in
        elim (of_one_more lists list place its_list list_there) [
          | inl earlier ↦
              let within = slice_get_within lists place its_list earlier in
              ap (λ all. slice_get all place) is ∙ still_there was.0 item.0 place (omega (arith, within, long)) ∙ dealt.items row place was.0 its_list was.1 earlier
          | inr last ↦
              ap (λ all. slice_get all place) is ∙ ap (slice_get (was.0 ++ item.0 ∷ [])) (last.0 ∙ sym long) ∙ there_after was.0 item.0 []
              ∙ sym item.1 ∙ ap (λ all. slice_get all row) (sym last.1)
        ];
  }
    where
      row_was : (row : ℕ) (its : List X) → slice_get now row ≡ Some its → (was : List X) × (slice_get rows row ≡ Some was)
      row_was row its there = there_is rows row (let within = slice_get_within now row its there in omega (arith, within, given.long))

      item_of : (row : ℕ) (its : List X) → slice_get now row ≡ Some its → (item : X) × (slice_get list row ≡ Some item)
      item_of row its there = there_is list row (let within = slice_get_within now row its there in omega (arith, within, given.long, as_long))

      long_was : (row : ℕ) (was : List X) → slice_get rows row ≡ Some was → length was ≡ length lists
      long_was row was there = at_its_place (λ its. length its ≡ length lists) rows row was dealt.long there

module _ {S P : Type 0} (Fresh : List S → P → Type 0) (many : ℕ) where
  -- at first no box is made
  pub none_made : (rows : List (List S)) → rows ≡ replicate many [] → AreMade Fresh 0 many rows []
  none_made rows empty = record {
    boxes_are = refl;
    rows_are = ap length empty ∙ length-replicate many [];
    senders = [];
    as_many = refl;
    fresh = λ place its box there. absurd (none-some its there);
    dealt = record {
      long = all_there (λ row. length row ≡ 0) rows (λ row its there.
          let within = slice_get_within rows row its there in
          let long = ap length empty ∙ length-replicate many [] in
          ap length (sym (get_or_from_slice_get rows row its [] there) ∙ ap (λ all. slice_index_or all row []) empty ∙ get_or-replicate many row [] [] (omega (arith, within, long))));
      items = λ row place its list there list_there. absurd (none-some list list_there);
    };
  }

  -- then one more
  pub one_made : (count : ℕ) (rows now : List (List S)) (boxes : List P) (its : List S) (box : P) (made : AreMade Fresh count many rows boxes) → Fresh its box → length its ≡ many
      → AreGiven its rows now → AreMade Fresh (count + 1) many now (boxes ++ box ∷ [])
  one_made count rows now boxes its box made fresh long given = record {
    boxes_are = length-append boxes (box ∷ []) ∙ ap (λ n. n + 1) made.boxes_are;
    rows_are = given.long ∙ made.rows_are;
    senders = made.senders ++ its ∷ [];
    as_many = length-append made.senders (its ∷ []) ∙ ap (λ n. n + 1) made.as_many ∙ sym (length-append boxes (box ∷ []));
    fresh = λ place some one there here. elim (of_one_more made.senders its place some there) [
      | inl earlier ↦ elim (of_one_more boxes box place one here) [
        | inl also ↦ made.fresh place some one earlier also
        | inr last ↦ let within = slice_get_within made.senders place some earlier in absurd (omega (arith, within, made.as_many, last.0))
      ]
      | inr last ↦ elim (of_one_more boxes box place one here) [
        | inl earlier ↦ let within = slice_get_within boxes place one earlier in absurd (omega (arith, within, made.as_many, last.0))
        | inr also ↦ subst (λ p. Fresh p one) (sym last.1) (subst (Fresh its) (sym also.1) fresh)
      ]
    ];
    dealt = one_dealt made.senders rows made.dealt its now (long ∙ sym made.rows_are) given;
  }
