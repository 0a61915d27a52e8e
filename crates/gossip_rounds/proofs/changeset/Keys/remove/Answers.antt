-- Fewer keys are keys still, and the room for all stays.
use Rattle.std.proofs.Common.{◌≡◌, rules, sym, subst}
use Rattle.std.specs.List.{remove_range}
use Rattle.gossip_rounds.specs.Changes.{AreKeys}
use Rattle.gossip_rounds.proofs.KeysLemmas.{keys_without}
use Rattle.gossip_rounds.proofs.changeset.Keys.remove.Goals as goal

pub invariant_of-self : goal.invariant_of-self
invariant_of-self c =
    let left : c.drop-drain.new.self.0.items ≡ remove_range c.self.inside.keys.items c.args.from c.args.to = search rules in
    (subst (AreKeys c.self.inside.most) (sym left) (keys_without c.args.from c.args.to c.requires.0 c.self.invariant.0), search rules)
