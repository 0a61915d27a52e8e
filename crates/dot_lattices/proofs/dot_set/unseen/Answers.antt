use Rattle.std.proofs.Common.{◌≡◌, [], ap, arith, sym, unwrap_or, ◌∙◌}
use Rattle.std.specs.FinMap.{find}
use Rattle.std.specs.Prelude.{not}
use Rattle.lattice_laws.specs.Entries.{plain_entries}
use Rattle.basic_lattices.specs.Word.{word_cmp}
use Rattle.dot_lattices.specs.Dot.{counts}
use Rattle.dot_lattices.specs.DotSet.{is_seen}
use Rattle.dot_lattices.proofs.DotSetLemmas.{left_out, lesser_later, next_unseen, plain_same}
use Rattle.dot_lattices.proofs.dot_set.unseen.Goals as goal

pub loop-i-preserved-then-is_counted : goal.loop-i-preserved-then-is_counted
loop-i-preserved-then-is_counted c =
    let removals = c.args.removals.now in
    let plain = plain_entries (λ clock. clock) removals in
    let insert = c.in-Some.insert.now in
    let seen_is : c.is_counted.result ≡ is_seen plain insert =
    c.is_counted.ensures ∙ ap (λ found. counts (unwrap_or found []) insert.dot) (c.seen_from-place.ensures.seen ∙ ap (find word_cmp insert.word) (sym (plain_same removals))) in (
      c.loop-i.invariant.0 ∙ left_out (λ insert. not (is_seen plain insert)) c.args.inserts.now c.loop-i.i insert c.in-Some.ensures (ap not (sym seen_is ∙ c.if-is_counted.true)),
      λ q other low there.
          lesser_later c.args.inserts.now removals c.loop-i.i q c.seen_from-place.result.1 insert other c.attest.ensures.ascending (omega (arith, low)) (sym c.in-Some.ensures) there c.seen_from-place.ensures.lesser,
    )

pub loop-i-preserved : goal.loop-i-preserved
loop-i-preserved c =
    let removals = c.args.removals.now in
    let plain = plain_entries (λ clock. clock) removals in
    let insert = c.in-Some.insert.now in
    let seen_is : c.is_counted.result ≡ is_seen plain insert =
    c.is_counted.ensures ∙ ap (λ found. counts (unwrap_or found []) insert.dot) (c.seen_from-place.ensures.seen ∙ ap (find word_cmp insert.word) (sym (plain_same removals))) in (
      next_unseen plain c.args.inserts.now c.loop-i.i insert c.in_ok-copy.field-0 c.loop-i.unseen c.push.new.self c.in_ok-push.field-0 c.attest.ensures c.in-Some.ensures (sym seen_is ∙ c.if-is_counted.false) c.loop-i.invariant.0 c.in_ok-copy.ensures c.in_ok-push.ensures.pushed,
      λ q other low there.
          lesser_later c.args.inserts.now removals c.loop-i.i q c.seen_from-place.result.1 insert other c.attest.ensures.ascending (omega (arith, low)) (sym c.in-Some.ensures) there c.seen_from-place.ensures.lesser,
    )
