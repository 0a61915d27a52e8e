use Rattle.std.proofs.Common.{◌≡◌, ◌∷◌, ◌++◌, ◌<◌, ◌∙◌, [], arith, length, length-append, inl, inr, slice_get, subst, sym, ap, Some, slice_index_or}
use Rattle.std.proofs.lemmas.Bool.{cases_lt, false≢true}
use Rattle.std.proofs.lemmas.List.{nil_from_length}
use Rattle.std.proofs.lemmas.Option.{slice_get-get_or}
use Rattle.party_turns.specs.Rows.{index_in}
use Rattle.party_turns.proofs.HalfLemmas.{IsHalfDone, all_done, all_left, may_take, one_less}
use Rattle.drain_steps.proofs.settling.settle_row.Given.{Over}
use Rattle.drain_steps.proofs.settling.settle_row.Goals as goal
use Rattle.drain_steps.proofs.settling.settle_row.Goals.{After-place_of-place}

pub loop-sender-init : goal.loop-sender-init
loop-sender-init g c = all_left g.P.TakesIn.takes c.args.skips c.args.row c.args.senders.items c.args.parties.now.items

module _ (g : Over) (c : After-place_of-place g) where
  -- before the last sender left is taken in
  half : IsHalfDone g.P.TakesIn.takes c.args.skips c.args.row c.args.senders.items c.args.parties.now.items (c.pop.new.self.items ++ c.in-Some.sender ∷ []) c.loop-sender.parties.items
  half = subst (λ left. IsHalfDone g.P.TakesIn.takes c.args.skips c.args.row c.args.senders.items c.args.parties.now.items left c.loop-sender.parties.items) c.in-Some.ensures.items c.loop-sender.invariant

  within : c.place_of-place.result < length c.loop-sender.parties.items
  within =
      let shorter = ap length half.split in
      let first = length-append (c.pop.new.self.items ++ c.in-Some.sender ∷ []) half.done in
      let last = length-append c.pop.new.self.items (c.in-Some.sender ∷ []) in
      omega (arith, c.place_of-place.ensures.within, c.len-index.ensures, c.requires.many, half.long, shorter, first, last)

  its_index : index_in c.args.skips c.args.row c.place_of-place.result ≡ length c.pop.new.self.items
  its_index = c.place_of-place.ensures.index ∙ omega (arith, c.len-index.ensures)

  -- the party at its place
  there : (party : g.row.P.Denot) → party ≡ slice_index_or c.loop-sender.parties.items c.place_of-place.result party → slice_get c.loop-sender.parties.items c.place_of-place.result ≡ Some party
  there party is = slice_get-get_or c.loop-sender.parties.items c.place_of-place.result party within ∙ ap Some (sym is)

pub index_mut-requires : goal.index_mut-requires
index_mut-requires g c = let below = within g ((goal.at.index_mut-requires g c).After-place_of-place) in omega (arith, below)

pub take_in-requires : goal.take_in-requires
take_in-requires g c =
    let here = (goal.at.take_in-requires g c).After-place_of-place in
    may_take g.P.TakesIn.takes c.args.skips c.args.row c.args.senders.items c.args.parties.now.items c.pop.new.self.items c.in-Some.sender c.loop-sender.parties.items (half g here)
    c.place_of-place.result (its_index g here) c.place_of-place.ensures.kept g.P.TakesIn.may c.requires.may c.index_mut.result.now (there g here c.index_mut.result.now c.index_mut.ensures.value)

pub loop-sender-preserved : goal.loop-sender-preserved
loop-sender-preserved g c =
    let here = (goal.at.loop-sender-preserved g c).After-place_of-place in
    one_less g.P.TakesIn.takes c.args.skips c.args.row c.args.senders.items c.args.parties.now.items c.pop.new.self.items c.in-Some.sender c.loop-sender.parties.items (half g here)
    c.place_of-place.result (its_index g here) c.place_of-place.ensures.kept c.index_mut.result.now c.take_in.new.self (there g here c.index_mut.result.now c.index_mut.ensures.value) c.take_in.ensures

pub returns-clause-long : goal.returns-clause-long
returns-clause-long g c = c.loop-sender.invariant.long

pub returns-clause-takes : goal.returns-clause-takes
returns-clause-takes g c =
    let left = c.loop-sender.senders.items in
    let none : left ≡ [] = elim (cases_lt 0 (length left)) [
      | inl some ↦ absurd (false≢true (c.in_default.ensures.variant.1 (omega (arith, some))))
      | inr few ↦ nil_from_length left (omega (arith, few))
    ] in
    all_done g.P.TakesIn.takes c.args.skips c.args.row c.args.senders.items c.args.parties.now.items c.loop-sender.parties.items
    (subst (λ those. IsHalfDone g.P.TakesIn.takes c.args.skips c.args.row c.args.senders.items c.args.parties.now.items those c.loop-sender.parties.items) none c.loop-sender.invariant)
