use Rattle.std.proofs.Common.{◌≡◌, ◌∷◌, ◌++◌, ◌<◌, ◌∙◌, [], false, refl, arith, length, length-append, inl, inr, slice_get, subst, sym, ap, Some}
use Rattle.std.proofs.lemmas.Bool.{cases_lt, false≢true}
use Rattle.std.proofs.lemmas.List.{nil_from_length}
use Rattle.std.proofs.lemmas.Option.{slice_get-get_or}
use Rattle.party_turns.proofs.HalfLemmas.{IsHalfDone, all_done, all_left, one_less}
use Rattle.party_ends.proofs.DealLemmas.{are_given}
use Rattle.party_ends.proofs.making.deal.Given.{Over}
use Rattle.party_ends.proofs.making.deal.Goals as goal
use Rattle.party_ends.proofs.making.deal.Goals.{After-len-place}

pub loop-item-init : goal.loop-item-init
loop-item-init g c = all_left (λ item before now. now.items ≡ before.items ++ item ∷ []) false 0 c.args.items.items c.args.rows.now.items

pub loop-item-smaller : goal.loop-item-smaller
loop-item-smaller g c = let long = ap length c.in-Some.ensures.items in omega (arith, long, length-append c.pop.new.self.items (c.in-Some.item ∷ []))

module _ (g : Over) (c : After-len-place g) where
  -- before the last item left is given
  half : IsHalfDone (λ item before now. now.items ≡ before.items ++ item ∷ []) false 0 c.args.items.items c.args.rows.now.items (c.pop.new.self.items ++ c.in-Some.item ∷ []) c.loop-item.rows.items
  half = subst (λ left. IsHalfDone (λ item before now. now.items ≡ before.items ++ item ∷ []) false 0 c.args.items.items c.args.rows.now.items left c.loop-item.rows.items) c.in-Some.ensures.items c.loop-item.invariant

  -- its place is within
  within : c.len-place.result < length c.loop-item.rows.items
  within =
      let shorter = ap length half.split in
      let first = length-append (c.pop.new.self.items ++ c.in-Some.item ∷ []) half.done in
      let last = length-append c.pop.new.self.items (c.in-Some.item ∷ []) in
      omega (arith, c.len-place.ensures, c.requires, half.long, shorter, first, last)

pub index_mut-requires : goal.index_mut-requires
index_mut-requires g c = let below = within g ((goal.at.index_mut-requires g c).After-len-place) in omega (arith, below)

pub loop-item-preserved : goal.loop-item-preserved
loop-item-preserved g c =
    let here = (goal.at.loop-item-preserved g c).After-len-place in
    let there : slice_get c.loop-item.rows.items c.len-place.result ≡ Some c.index_mut.result.now =
    slice_get-get_or c.loop-item.rows.items c.len-place.result c.index_mut.result.now (within g here) ∙ ap Some (sym c.index_mut.ensures.value) in
    one_less (λ item before now. now.items ≡ before.items ++ item ∷ []) false 0 c.args.items.items c.args.rows.now.items c.pop.new.self.items c.in-Some.item c.loop-item.rows.items (half g here)
    c.len-place.result (omega (arith, c.len-place.ensures)) refl c.index_mut.result.now c.push.new.self there c.in_ok-push.ensures.items

pub returns : goal.returns
returns g c =
    let left = c.loop-item.items.items in
    let none : left ≡ [] = elim (cases_lt 0 (length left)) [
      | inl some ↦ absurd (false≢true (c.in_default.ensures.variant.1 (omega (arith, some))))
      | inr few ↦ nil_from_length left (omega (arith, few))
    ] in
    let half = subst (λ those. IsHalfDone (λ item before now. now.items ≡ before.items ++ item ∷ []) false 0 c.args.items.items c.args.rows.now.items those c.loop-item.rows.items) none c.loop-item.invariant in
    are_given (λ row. row.items) c.args.items.items c.args.rows.now.items c.loop-item.rows.items half.long
    (all_done (λ item before now. now.items ≡ before.items ++ item ∷ []) false 0 c.args.items.items c.args.rows.now.items c.loop-item.rows.items half)
