-- A mate's keys are no more than there are.
use Rattle.std.proofs.Common.{◌<◌, length, subst, sym}
use Rattle.gossip_rounds.specs.Changes.{AreKeys, PlainKeys}
use Rattle.gossip_rounds.proofs.KeysLemmas.{few_keys, mate_there}
use Rattle.gossip_rounds.proofs.changeset.Changeset.keys.Goals as goal

there : (c : goal.After-as_slice) → c.args.mate < length c.self.inside.mates.items
there c = mate_there c.self.inside.mates.items c.args.mate (rw (← c.self.view_is) at c.requires)

pub returns-clause-few : goal.returns-clause-few
returns-clause-few c =
    let are : AreKeys c.self.inside.most c.index-keys.result.now.keys =
    subst (λ (m : PlainKeys). AreKeys c.self.inside.most m.keys) (sym c.index-keys.ensures)
    (c.self.invariant.0 c.args.mate c.index-keys.result.now (there c)).1 in
    rw (c.as_slice.ensures, ← c.self.view_is) (few_keys are)
