use Rattle.std.proofs.Common.{◌≡◌, ◌∷◌, ◌++◌, ◌∙◌, ◌+◌, All, [], arith, if◌then◌else◌, length, map, ap, subst, sym}
use Rattle.std.proofs.lemmas.List.{length-map, map-append}
use Rattle.lattice_laws.proofs.ListLemmas.{All-front}
use Rattle.party_turns.specs.Rows.{MayTakeAll, TakesAll, for_place}
use Rattle.drain_steps.proofs.ColumnLemmas.{AreTaken, may_take_row, one_row_less}
use Rattle.drain_steps.proofs.settling.settle_all.Given.{Over}
use Rattle.drain_steps.proofs.settling.settle_all.Goals as goal
use Rattle.drain_steps.proofs.settling.settle_all.Goals.{After-len-row}

module _ (g : Over) (c : After-len-row g) where
  -- before the last row left is taken in
  taken : AreTaken g.P.TakesIn.takes c.args.skips (map (λ senders. senders.items) c.args.rows.items) c.args.parties.now.items
      (map (λ senders. senders.items) c.pop.new.self.items ++ c.in-Some.senders.items ∷ []) c.loop-senders.parties.items
  taken =
      subst (λ left. AreTaken g.P.TakesIn.takes c.args.skips (map (λ senders. senders.items) c.args.rows.items) c.args.parties.now.items left c.loop-senders.parties.items)
      (ap (map (λ senders. senders.items)) c.in-Some.ensures.items ∙ map-append (λ senders. senders.items) c.pop.new.self.items (c.in-Some.senders ∷ []))
      c.loop-senders.invariant.taken

  -- its number
  its_number : length (map (λ senders. senders.items) c.pop.new.self.items) ≡ c.len-row.result
  its_number = let same = length-map c.pop.new.self.items (λ senders. senders.items) in omega (arith, same, c.len-row.ensures)

pub settle_row-requires-clause-may : goal.settle_row-requires-clause-may
settle_row-requires-clause-may g c =
    let here = (goal.at.settle_row-requires-clause-may g c).After-len-row in
    λ place party there.
    subst (λ row. MayTakeAll g.P.TakesIn.may g.P.TakesIn.takes (for_place c.args.skips row c.in-Some.senders.items place) party) (its_number g here)
    (may_take_row g.P.TakesIn.takes c.args.skips (map (λ senders. senders.items) c.args.rows.items) c.args.parties.now.items
    (map (λ senders. senders.items) c.pop.new.self.items) c.in-Some.senders.items c.loop-senders.parties.items (taken g here) g.P.TakesIn.may c.requires.may place party there)

pub loop-senders-preserved : goal.loop-senders-preserved
loop-senders-preserved g c =
    let here = (goal.at.loop-senders-preserved g c).After-len-row in
    record {
      taken = one_row_less g.P.TakesIn.takes c.args.skips (map (λ senders. senders.items) c.args.rows.items) c.args.parties.now.items
          (map (λ senders. senders.items) c.pop.new.self.items) c.in-Some.senders.items c.loop-senders.parties.items (taken g here) c.settle_row.new.parties.items c.settle_row.ensures.long
          (λ place was is there now. subst (λ row. TakesAll g.P.TakesIn.takes (for_place c.args.skips row c.in-Some.senders.items place) was is) (sym (its_number g here)) (c.settle_row.ensures.takes place was is there now));
      many = All-front (λ senders. length senders.items + (if c.args.skips then 1 else 0) ≡ length c.args.parties.now.items) c.pop.new.self.items (c.in-Some.senders ∷ [])
          (subst (All (λ senders. length senders.items + (if c.args.skips then 1 else 0) ≡ length c.args.parties.now.items)) c.in-Some.ensures.items c.loop-senders.invariant.many);
    }
