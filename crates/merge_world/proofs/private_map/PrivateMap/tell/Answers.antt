use Rattle.std.proofs.Common.{◌++◌, ◌∙◌, append-nil, ap, sym, get_or, take, take_all}
use Rattle.std.specs.Option.{option_to_list}
use Rattle.merge_world.specs.Effects.{tells}
use Rattle.merge_world.proofs.private_map.PrivateMap.tell.Goals as goal
use Rattle.merge_world.proofs.private_map.PrivateMap.tell.Goals.{in-Some+in_ok-push, in_default}
use Rattle.merge_world.proofs.AtLemmas.{tells_more}
use Rattle.std.proofs.lemmas.List.{get_or_default}

pub loop-key-init : goal.loop-key-init
loop-key-init c = c.new-entries.ensures.items

pub loop-key-preserved : goal.loop-key-preserved
loop-key-preserved c =
    let more = tells_more c.args.self.now c.args.keys.now c.loop-key.key-index (get_or c.args.keys.now c.loop-key.key-index 0) c.loop-key-test.true (get_or_default c.args.keys.now c.loop-key.key-index 0 _ c.loop-key-test.true) in
    elim c.match-branch-2.branch [
      | in-Some+in_ok-push w ↦ ap (λ v. v.items) w.entries-is ∙ w.in_ok-push.ensures.items
          ∙ (λ j. c.loop-key.invariant j ++ option_to_list ((sym w.in-Some.is ∙ c.in_ok-entry.ensures) j)) ∙ sym more
      | in_default w ↦ ap (λ v. v.items) w.entries-is ∙ c.loop-key.invariant
          ∙ sym (append-nil (tells (take c.loop-key.key-index c.args.keys.now) c.args.self.now))
          ∙ ap (λ entry. tells (take c.loop-key.key-index c.args.keys.now) c.args.self.now ++ option_to_list entry) (sym w.in_default.is ∙ c.in_ok-entry.ensures) ∙ sym more
    ]

pub returns : goal.returns
returns c = c.new.ensures ∙ c.loop-key.invariant ∙ ap (λ keys. tells keys c.args.self.now) (take_all c.loop-key.key-index c.args.keys.now c.loop-key-test.false)
