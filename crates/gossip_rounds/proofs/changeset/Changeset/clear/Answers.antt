-- The mate's keys are fewer by those that are cleared, and all others stay.
use Rattle.std.proofs.Common.{◌<◌, ◌≤◌, length, length-set, ap, sym, subst, arith}
use Rattle.std.specs.List.{remove_range}
use Rattle.gossip_rounds.specs.Changes.{AreKeys}
use Rattle.gossip_rounds.proofs.KeysLemmas.{keys_at, keys_changed, keys_without, length-remove_range, mate_there, mates_changed, pairs_changed}
use Rattle.gossip_rounds.proofs.changeset.Changeset.clear.Goals as goal

module _ (c : goal.After-self-2-1) where
  there : c.args.mate < length c.self.inside.mates.items
  there = mate_there c.self.inside.mates.items c.args.mate (rw (← c.self.view_is) at c.requires.mate)

  within : c.args.to ≤ length c.index_mut-keys.result.now.keys
  within =
      subst (λ keys. c.args.to ≤ length keys)
      (keys_at c.self.inside.mates.items c.args.mate c.index_mut-keys.result.now there c.index_mut-keys.ensures.value)
      (rw (← c.self.view_is) at c.requires.places.1)

pub invariant_of-self : goal.invariant_of-self
invariant_of-self c =
    let mates = c.self.inside.mates.items in
    let mate = c.index_mut-keys.result.now in (
      mates_changed c.self.inside.most mates c.args.mate mate c.remove.new.self c.self.invariant.0 (there c)
          c.index_mut-keys.ensures.value c.remove.ensures.most
          (λ are. subst (AreKeys c.self.inside.most) (sym c.remove.ensures.keys) (keys_without c.args.from c.args.to c.requires.places.0 are)),
      omega (arith, length-set mates c.args.mate c.remove.new.self, c.self.invariant.1),
      omega (
        arith,
        c.self.invariant.2,
        pairs_changed mates c.args.mate mate c.remove.new.self (there c) c.index_mut-keys.ensures.value,
        ap length c.remove.ensures.keys,
        length-remove_range mate.keys c.args.from c.args.to c.requires.places.0 (within c),
      ),
    )

pub returns-clause-keys : goal.returns-clause-keys
returns-clause-keys c =
    rw (← c.self.view_is)
    (keys_changed c.self.inside.mates.items c.args.mate c.index_mut-keys.result.now c.remove.new.self
    (λ keys. remove_range keys c.args.from c.args.to) (there c) c.index_mut-keys.ensures.value c.remove.ensures.keys)
