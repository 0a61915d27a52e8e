-- The key comes to the mate's keys, and the pairs are one more where it was not there.
use Rattle.std.proofs.Common.{◌≡◌, ◌+◌, ◌<◌, ◌≤◌, ◌^◌, ℕ, List, length, length-set, sum_by, slice_index_or, slice_set, sym, subst, arith}
use Rattle.gossip_rounds.specs.Changes.{AreKeys, PlainKeys, with_key}
use Rattle.gossip_rounds.proofs.KeysLemmas.{AreKeysOfMates, few_pairs, keys_changed, keys_of, keys_with_key, mate_there, mates_changed, pairs_changed}
use Rattle.gossip_rounds.proofs.changeset.Changeset.mark.Goals as goal

-- what a set keeps to
abbrev Keeps : ℕ → ℕ → List PlainKeys → Type 0
Keeps most pairs mates = AreKeysOfMates most mates × (length mates < 2 ^ 16) × (pairs ≡ sum_by length (keys_of mates))

-- holds with a key more
keeps : (most pairs more key place : ℕ) (mates : List PlainKeys) (mate now : PlainKeys)
    → Keeps most pairs mates → place < length mates → mate ≡ slice_index_or mates place mate → (1 ≤ key) × (key ≤ most)
    → now.most ≡ mate.most → now.keys ≡ with_key key mate.keys → length now.keys ≡ length mate.keys + more
    → Keeps most (pairs + more) (slice_set mates place now)
keeps most pairs more key place mates mate now kept there is within same comes long = (
  mates_changed most mates place mate now kept.0 there is same (λ are. subst (AreKeys most) (sym comes) (keys_with_key key within are)),
  omega (arith, length-set mates place now, kept.1),
  omega (arith, kept.2, pairs_changed mates place mate now there is, long),
)

pub overflow_add-self : goal.overflow_add-self
overflow_add-self c =
    omega (arith, c.self.invariant.2, few_pairs c.self.inside.most c.self.inside.mates.items c.self.invariant.0 c.self.invariant.1 (omega arith))

pub invariant_of-self : goal.invariant_of-self
invariant_of-self c =
    let set = c.self.inside in
    keeps set.most set.pairs 1 c.args.key c.args.mate set.mates.items c.index_mut-keys.result.now c.add.new.self c.self.invariant
    (mate_there set.mates.items c.args.mate (rw (← c.self.view_is) at c.requires.mate)) c.index_mut-keys.ensures.value
    (rw (← c.self.view_is) at c.requires.key) c.add.ensures.most c.add.ensures.keys c.if-add.ensures.more

pub invariant_of-self-else-add : goal.invariant_of-self-else-add
invariant_of-self-else-add c =
    let set = c.self.inside in
    let none : set.pairs + 0 ≡ set.pairs = omega arith in
    subst (λ pairs. Keeps set.most pairs (slice_set set.mates.items c.args.mate c.add.new.self)) none
    (keeps set.most set.pairs 0 c.args.key c.args.mate set.mates.items c.index_mut-keys.result.now c.add.new.self c.self.invariant
    (mate_there set.mates.items c.args.mate (rw (← c.self.view_is) at c.requires.mate)) c.index_mut-keys.ensures.value
    (rw (← c.self.view_is) at c.requires.key) c.add.ensures.most c.add.ensures.keys c.if-add.ensures.more)

pub returns-then-add-clause-keys : goal.returns-then-add-clause-keys
returns-then-add-clause-keys c =
    let mates = c.self.inside.mates.items in
    rw (← c.self.view_is)
    (keys_changed mates c.args.mate c.index_mut-keys.result.now c.add.new.self (with_key c.args.key)
    (mate_there mates c.args.mate (rw (← c.self.view_is) at c.requires.mate)) c.index_mut-keys.ensures.value c.add.ensures.keys)

pub returns-else-add-clause-keys : goal.returns-else-add-clause-keys
returns-else-add-clause-keys c =
    let mates = c.self.inside.mates.items in
    rw (← c.self.view_is)
    (keys_changed mates c.args.mate c.index_mut-keys.result.now c.add.new.self (with_key c.args.key)
    (mate_there mates c.args.mate (rw (← c.self.view_is) at c.requires.mate)) c.index_mut-keys.ensures.value c.add.ensures.keys)
