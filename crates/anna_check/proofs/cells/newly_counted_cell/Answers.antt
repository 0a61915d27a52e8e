use Rattle.std.proofs.Common.{◌≡◌, rules, sym, ◌∙◌, take}
use Rattle.std.proofs.lemmas.List.Elements.{All-take}
use Rattle.composed_value.specs.Kind.{kind_of}
use Rattle.composed_value.specs.PlainValue.{IsPutOf}
use Rattle.anna_check.specs.Counted.{is_newly_counted}
use Rattle.anna_check.proofs.CountedLemmas.{kind_of_passing}
use Rattle.anna_check.proofs.cells.newly_counted_cell.Goals as goal

pub join-requires : goal.join-requires
join-requires c =
    let of_put : kind_of c.put-item.result.payload ≡ c.args.kind = search rules in
    kind_of_passing c.args.kind (is_newly_counted c.args.before.now c.args.clock.now) (take c.loop-put.put-index c.args.puts.now) c.loop-put.cell
    (All-take (IsPutOf c.args.kind) c.loop-put.put-index c.args.puts.now c.requires) c.loop-put.invariant
    ∙ sym (c.in_ok-of_put.ensures.kind ∙ of_put)
