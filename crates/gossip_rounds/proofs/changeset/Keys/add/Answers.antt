-- Where the search finds no place the key is there already. Else there is room for it, since the keys with it are no more than there can be.
use Rattle.std.proofs.Common.{◌≡◌, ◌≤◌, ◌<◌, Bool, Err, Ok, List, ℕ, IsTrue, if◌then◌else◌, length, sym, subst, ap, ◌∙◌, arith}
use Rattle.std.specs.List.{insert}
use Rattle.std.specs.Vec.{vec_capacity, vec_len}
use Rattle.std.proofs.lemmas.List.Edits.{length-insert}
use Rattle.merge_world.specs.World.{is_ascending}
use Rattle.gossip_rounds.specs.Changes.{AreKeys, with_key}
use Rattle.gossip_rounds.proofs.KeysLemmas.{has_room, keys_with_key, with_key_searched}
use Rattle.gossip_rounds.proofs.changeset.Keys.add.Goals as goal

pub returns-in-Ok-clause-keys : goal.returns-in-Ok-clause-keys
returns-in-Ok-clause-keys c =
    let ascending : IsTrue (is_ascending c.deref.result.now) = rw c.deref.ensures.value c.self.invariant.0.ascending in
    let same : with_key c.args.key c.deref.result.now ≡ c.deref.result.now =
    with_key_searched c.args.key c.deref.result.now (Ok c.in-Ok.field-0) ascending c.in-Ok.ensures.position in
    rw (← c.self.view_is) (sym (rw c.deref.ensures.value at same))

module _ (c : goal.After-insert) where
  within : c.in-Err.place ≤ length c.self.inside.keys.items
  within = rw c.deref.ensures.value at c.in-Err.ensures.bound

  is_there : with_key c.args.key c.self.inside.keys.items ≡ insert c.self.inside.keys.items c.in-Err.place c.args.key
  is_there =
      let ascending : IsTrue (is_ascending c.deref.result.now) = rw c.deref.ensures.value c.self.invariant.0.ascending in
      let is : with_key c.args.key c.deref.result.now ≡ insert c.deref.result.now c.in-Err.place c.args.key =
      with_key_searched c.args.key c.deref.result.now (Err c.in-Err.place) ascending c.in-Err.ensures.position in
      rw c.deref.ensures.value at is

  there_is : c.args.key ≤ c.self.inside.most
  there_is = rw (← c.self.view_is) at c.requires.1

  room : vec_len c.self.inside.keys < vec_capacity c.self.inside.keys
  room =
      omega (
        arith,
        has_room c.args.key c.in-Err.place (c.requires.0, there_is) c.self.invariant.0 within is_there,
        c.self.invariant.1,
        c.self.inside.keys.ok,
      )

  inserted : c.insert.new.self.items ≡ with_key c.args.key c.self.inside.keys.items
  inserted =
      let keys : List ℕ = c.self.inside.keys.items in
      c.insert.ensures.items
      ∙ ap (λ (took : Bool). if took then insert keys c.in-Err.place c.args.key else keys) (c.insert.ensures.succeeds room)
      ∙ sym is_there

pub returns-in-Err-clause-keys : goal.returns-in-Err-clause-keys
returns-in-Err-clause-keys c = rw (← c.self.view_is) (inserted c)

pub invariant_of-self : goal.invariant_of-self
invariant_of-self c = (
  subst (AreKeys c.self.inside.most) (sym (inserted c)) (keys_with_key c.args.key (c.requires.0, there_is c) c.self.invariant.0),
  omega (arith, c.self.invariant.1, c.insert.ensures.capacity),
)

pub returns-in-Err-clause-more : goal.returns-in-Err-clause-more
returns-in-Err-clause-more c =
    rw (← c.self.view_is) (ap length (inserted c ∙ is_there c) ∙ length-insert c.self.inside.keys.items c.in-Err.place c.args.key (within c))
