use Rattle.std.proofs.Common.{None, Some, ◌++◌, ◌∙◌, append-nil, ap, arith, get_or, length, length-take, option_map, sym, take}
use Rattle.std.specs.Option.{option_to_list}
use Rattle.std.proofs.lemmas.List.{get_or_default}
use Rattle.merge_world.proofs.AtLemmas.{tells_more}
use Rattle.gossip_rounds.proofs.TellingLemmas.{few_told, own_told}
use Rattle.gossip_rounds.proofs.rounds.batch_of.Goals as goal
use Rattle.gossip_rounds.proofs.rounds.batch_of.Goals.{in-Some+in_ok-add_copy, in_default}

pub add_copy-requires : goal.add_copy-requires
add_copy-requires c =
    let keys = take c.loop-key.key-index c.args.keys.now in
    omega (arith, ap length c.loop-key.invariant, few_told keys c.args.map.now, length-take c.loop-key.key-index c.args.keys.now)

pub loop-key-preserved : goal.loop-key-preserved
loop-key-preserved c =
    let key = get_or c.args.keys.now c.loop-key.key-index 0 in
    let is_key = get_or_default c.args.keys.now c.loop-key.key-index 0 _ c.loop-key-test.true in
    let more = tells_more c.args.map.now c.args.keys.now c.loop-key.key-index key c.loop-key-test.true is_key in
    elim c.match-own.branch [
      | in-Some+in_ok-add_copy w ↦
          let own = own_told c.args.map.now key (Some w.in-Some.own.now) (ap (option_map (λ cell. cell.now)) (sym w.in-Some.is) ∙ c.own.ensures) in
          w.batch-is ∙ w.in_ok-add_copy.ensures ∙ (λ j. c.loop-key.invariant j ++ option_to_list (own j)) ∙ sym more
      | in_default w ↦
          let own = own_told c.args.map.now key None (ap (option_map (λ cell. cell.now)) (sym w.in_default.is) ∙ c.own.ensures) in
          w.batch-is ∙ sym (append-nil c.loop-key.batch) ∙ (λ j. c.loop-key.invariant j ++ option_to_list (own j)) ∙ sym more
    ]
