use Rattle.std.proofs.Common.{◌≡◌, ◌∙◌, ◌-◌, ◌<◌, ℕ, List, [], ap, arith, length, refl, slice_index_or, subst, sym, Err}
use Rattle.std.proofs.lemmas.List.{get_or-set_same, length-map}
use Rattle.gossip_rounds.specs.Changes.{PlainChanges}
use Rattle.gossip_rounds.proofs.TellingLemmas.{IsNext, IsTellingMate, StandsAt, fewer_left, found_full, found_no_memory, mate_begins, mate_refused, mate_unmoved, mate_went, mates_of, stands_back, stands_first, stands_roomy, stands_went, telling_ends, telling_fails, where_full}
use Rattle.gossip_rounds.proofs.rounds.tell_mate.Given.{Over}
use Rattle.gossip_rounds.proofs.rounds.tell_mate.Goals as goal
use Rattle.gossip_rounds.proofs.rounds.tell_mate.Goals.{Joined-post, in-Err-Full, in-Ok}

-- the batch tells of the next keys
next : (g : Over) (c : Joined-post g)
    → IsNext c.args.cells.now c.loop-from.from c.min-to.result (slice_index_or c.loop-from.changes.of_mates c.args.mate []) c.in_ok-batch.batch
next g c =
    let is_next = λ (keys : List ℕ). IsNext c.args.cells.now c.loop-from.from c.min-to.result keys c.in_ok-batch.batch in
    subst is_next c.keys-keys.ensures.keys (record {
      some_left = omega (arith, c.loop-from-test.true, ap length c.keys.ensures.keys, ap length c.keys-keys.ensures.keys);
      to_is = c.min-to.ensures;
      batch_is = c.in_ok-batch.ensures;
    })

-- what is told of the mate once the batch was tried
after_post : (g : Over) (c : Joined-post g)
    → (c.match-post.changes.most ≡ c.args.changes.now.most)
    × IsTellingMate c.args.cells.now c.args.taken c.args.changes.now.most c.args.mate c.match-post.from c.match-post.sent
    (StandsAt g.O.Tx.clear g.O.Tx.roomy g.O.Tx.unseen c.args.senders.now.items c.post.new.senders.items c.args.mate)
    (mates_of g.O.Tx.sent g.O.Tx.fulls c.args.changes.now c.args.turned.now.items c.args.senders.now.items)
    (mates_of g.O.Tx.sent g.O.Tx.fulls c.match-post.changes c.match-post.turned.items c.post.new.senders.items)
after_post g c =
    let before = c.loop-from.invariant in
    elim c.match-post.branch [
      | in-Ok w ↦ (
        ap (λ changes. changes.most) w.changes-is ∙ w.clear.ensures.most ∙ before.most,
        mate_went before.mate (next g c) w.from-is w.sent-is c.requires.changed
            (omega (arith, c.requires.mate, length-map c.args.senders.now.items g.O.Tx.sent))
            (omega (arith, c.keys-keys.ensures.few, ap length c.keys-keys.ensures.keys, before.most))
            (omega (arith, w.clear.ensures.small, w.clear.ensures.most, before.most))
            (ap (λ changes. changes.of_mates) w.changes-is ∙ w.clear.ensures.keys)
            w.in-Ok.ensures.sent
            (ap (λ turned. turned.items) w.turned-is)
            w.in-Ok.ensures.fulls
            (λ tries stands.
            stands_went g.O.Tx.clear g.O.Tx.roomy g.O.Tx.unseen c.args.senders.now.items c.loop-from.senders.items c.args.mate tries stands
            c.post.new.senders.items w.in-Ok.ensures.unseen),
      )
      | in-Err-Full w ↦
          let refused = w.in-Err-Full in
          let sends = refused.ensures in
          let full = found_full (Unit {0}) refused.field-0 refused.field-0-0 _ _ _ _ _ _ refused.field-0-is sends.sent sends.fulls in
          let now = c.post.new.senders.items in
          let were = c.loop-from.senders.items in
          let same_length : length now ≡ length were =
          omega (arith, ap length sends.keys, length-map now g.O.Tx.key, length-map were g.O.Tx.key)
          in (
            ap (λ changes. changes.most) w.changes-is ∙ before.most,
            mate_refused before.mate (next g c) w.from-is w.sent-is c.requires.turned
                (ap (λ changes. changes.of_mates) w.changes-is)
                full.0
                (ap (λ turned. turned.items) w.turned-is)
                (length-map now g.O.Tx.fulls ∙ same_length ∙ sym (length-map were g.O.Tx.fulls))
                full.1 full.2 full.3
                (λ tries stands.
                stands_back g.O.Tx.clear g.O.Tx.roomy g.O.Tx.unseen c.args.senders.now.items were c.args.mate tries stands now
                (where_full (Unit {0}) refused.field-0 refused.field-0-0 refused.field-0-is sends.not_clear)
                (λ is_roomy. where_full (Unit {0}) refused.field-0 refused.field-0-0 refused.field-0-is (sends.no_room is_roomy))),
          )
    ]

pub loop-from-init : goal.loop-from-init
loop-from-init g c = record {
  keys = refl;
  numbers = refl;
  most = refl;
  others = λ other apart. refl;
  mate = mate_begins _ _ _ _ _ _ (stands_first g.O.Tx.clear g.O.Tx.roomy g.O.Tx.unseen c.args.senders.now.items c.args.mate);
}

pub returns-in_err-batch-clause-tells : goal.returns-in_err-batch-clause-tells
returns-in_err-batch-clause-tells g c = telling_fails c.loop-from.invariant.mate.telling c.from_residual.result c.from_residual.ensures.0
    (stands_roomy g.O.Tx.clear g.O.Tx.roomy g.O.Tx.unseen c.args.senders.now.items c.loop-from.senders.items c.args.mate)

pub returns-in-Err-NoMemory-clause-tells : goal.returns-in-Err-NoMemory-clause-tells
returns-in-Err-NoMemory-clause-tells g c =
    let refused = c.in-Err-NoMemory in
    let sends = refused.ensures in
    let lacks = found_no_memory (Unit {0}) refused.field-0 refused.field-0-0 _ _ _ _ _ _ refused.field-0-is sends.sent sends.fulls in
    telling_fails (mate_unmoved c.loop-from.invariant.mate refl lacks.0 refl lacks.1).telling (Err record {}) refl
    (stands_roomy g.O.Tx.clear g.O.Tx.roomy g.O.Tx.unseen c.args.senders.now.items c.loop-from.senders.items c.args.mate)

pub loop-from-preserved-after-post-2 : goal.loop-from-preserved-after-post-2
loop-from-preserved-after-post-2 g c =
    let after = after_post g (goal.at.loop-from-preserved-after-post-2 g c).Joined-post in
    record {
      keys = c.post.ensures.keys ∙ c.loop-from.invariant.keys;
      numbers = c.post.ensures.numbers ∙ c.loop-from.invariant.numbers;
      most = after.0;
      others = λ other apart. c.post.ensures.others other apart ∙ c.loop-from.invariant.others other apart;
      mate = after.1;
    }

pub loop-from-preserved : goal.loop-from-preserved
loop-from-preserved g c =
    let after = after_post g (goal.at.loop-from-preserved g c).Joined-post in
    record {
      keys = c.post.ensures.keys ∙ c.loop-from.invariant.keys;
      numbers = c.post.ensures.numbers ∙ c.loop-from.invariant.numbers;
      most = after.0;
      others = λ other apart. c.post.ensures.others other apart ∙ c.loop-from.invariant.others other apart;
      mate = after.1;
    }

pub loop-from-smaller : goal.loop-from-smaller
loop-from-smaller g c =
    let keys = slice_index_or c.loop-from.changes.of_mates c.args.mate [] in
    let fewer = fewer_left (next g (goal.at.loop-from-smaller g c).Joined-post) in
    let left_of : PlainChanges → ℕ → ℕ = λ changes from. length (slice_index_or changes.of_mates c.args.mate []) - from in
    let is_smaller : ℕ → Type 0 = λ left. left < length keys - c.loop-from.from in
    elim c.match-post.branch [
      | in-Ok w ↦
          let same_length = c.loop-from.invariant.mate.others.changed.same_length in
          let low : c.args.mate < length c.loop-from.changes.of_mates = omega (arith, c.requires.changed, same_length) in
          let cleared =
          ap (λ changed. slice_index_or changed c.args.mate []) w.clear.ensures.keys
          ∙ get_or-set_same c.loop-from.changes.of_mates c.args.mate _ [] low
          in
          let is_left = (λ j. left_of (w.changes-is j) (w.from-is j)) ∙ ap (λ keys. length keys - c.loop-from.from) cleared in
          subst is_smaller (sym is_left) fewer.0
      | in-Err-Full w ↦ subst is_smaller (sym (λ j. left_of (w.changes-is j) (w.from-is j))) fewer.1
    ]

pub returns-clause-tells : goal.returns-clause-tells
returns-clause-tells g c =
    telling_ends c.loop-from.invariant.mate.telling (omega (arith, ap length c.keys.ensures.keys, c.loop-from-test.false))
    (stands_roomy g.O.Tx.clear g.O.Tx.roomy g.O.Tx.unseen c.args.senders.now.items c.loop-from.senders.items c.args.mate)
