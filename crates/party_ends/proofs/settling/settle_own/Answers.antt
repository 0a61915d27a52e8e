use Rattle.std.proofs.Common.{◌≡◌, ◌∙◌, Some, ap, arith, subst, sym}
use Rattle.std.proofs.lemmas.Option.{get_or_from_slice_get, slice_get_within}
use Rattle.mail_contract.specs.Standing.{IsSettled}
use Rattle.party_ends.proofs.settling.settle_own.Given.{Over}
use Rattle.party_ends.proofs.settling.settle_own.Goals as goal
use Rattle.party_ends.proofs.settling.settle_own.Goals.{After-remove-own}

pub remove-own-requires : goal.remove-own-requires
remove-own-requires g c = let within = slice_get_within c.args.row.now.items c.args.place c.requires.0 c.requires.1 in omega (arith, within)

module _ (g : Over) (c : After-remove-own g) where
  -- the sender that was taken out is the one that may be taken in
  its_own : c.remove-own.result ≡ c.requires.0
  its_own = c.remove-own.ensures.value ∙ get_or_from_slice_get c.args.row.now.items c.args.place c.requires.0 c.remove-own.result c.requires.1

pub settle_weak-requires-clause-pair : goal.settle_weak-requires-clause-pair
settle_weak-requires-clause-pair g c =
    let here = (goal.at.settle_weak-requires-clause-pair g c).After-remove-own in
    subst (λ own. g.G.GossipRx.pairs (g.G.GossipRx.key c.args.inbox.now) (g.O.Tx.key own) (g.O.Tx.number own)) (sym (its_own g here)) c.requires.2.0

pub settle_weak-requires-clause-once : goal.settle_weak-requires-clause-once
settle_weak-requires-clause-once g c =
    let here = (goal.at.settle_weak-requires-clause-once g c).After-remove-own in
    λ settled. c.requires.2.1 (subst (λ own. IsSettled (g.G.GossipRx.about c.args.inbox.now (g.O.Tx.number own)).standing) (its_own g here) settled)

pub returns : goal.returns
returns g c =
    let here = (goal.at.returns g c).After-remove-own in
    record {
      own = c.remove-own.result;
      there = c.requires.1 ∙ ap Some (sym (its_own g here));
      left_is = c.remove-own.ensures.items;
      key_is = c.settle_weak.ensures.key;
      settles = c.settle_weak.ensures.settles;
    }
