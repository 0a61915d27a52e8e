-- No keys are keys, and there are none of all mates.
use Rattle.std.proofs.Common.{◌≡◌, ℕ, [], length, replicate, sum_by, sym, subst, ap, ◌∙◌, arith}
use Rattle.std.proofs.lemmas.List.{length-replicate}
use Rattle.std.proofs.lemmas.List.Folds.{sum_by-replicate}
use Rattle.gossip_rounds.specs.Changes.{PlainKeys}
use Rattle.gossip_rounds.proofs.KeysLemmas.{AreKeysOfMates, keys_of, no_keys, no_keys_of}
use Rattle.gossip_rounds.proofs.changeset.Changeset.new.Goals as goal

-- the mates that the loop made
made : (c : goal.After-loop) → c.loop.of_mates.items ≡ replicate c.args.mates (record { most = c.args.most; keys = [] })
made c =
    let all : c.loop.counter ≡ c.args.mates = omega arith in
    c.loop.invariant.0 ∙ ap (λ count. replicate count (record { most = c.args.most; keys = [] })) all

pub invariant_of-result : goal.invariant_of-result
invariant_of-result c =
    let none : PlainKeys = record { most = c.args.most; keys = [] } in (
      subst (AreKeysOfMates c.args.most) (sym (made c)) (no_keys c.args.most c.args.mates),
      omega (arith, ap length (made c), length-replicate c.args.mates none, c.requires),
      omega (
        arith,
        ap (λ mates. sum_by length (keys_of mates)) (made c),
        ap (sum_by length) (no_keys_of c.args.most c.args.mates),
        sum_by-replicate (length {A = ℕ}) c.args.mates [],
      ),
    )

pub returns : goal.returns
returns c = λ j. record { most = c.args.most; of_mates = (ap keys_of (made c) ∙ no_keys_of c.args.most c.args.mates) j }
