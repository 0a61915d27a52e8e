use Rattle.std.proofs.Common.{◌≡◌, ◌+◌, ◌++◌, ◌∷◌, ◌==◌, ℕ, Bool, [], List, take, drop, get_or, ap, ◌∙◌, sym, arith}
use Rattle.std.specs.List.{list_any}
use Rattle.std.proofs.lemmas.List.{take_more, append_assoc, take-append-drop}
use Rattle.placement.specs.Ring.{workers_met}
use Rattle.placement.specs.declared.ring.Point.{Point}
use Rattle.placement.proofs.WorkersMet.{met_new, met_again, met_enough}
use Rattle.placement.proofs.ring.meet.Goals as goal
use Rattle.placement.proofs.ring.meet.Goals.{then-not-contains+in_ok-push, else-not-contains}

pub loop-point-preserved : goal.loop-point-preserved
loop-point-preserved c = λ before is.
    let points = c.args.points.now in
    let i = c.loop-point.point-index in
    let some : Point = record { hash = 0; worker = 0; index = 0 } in
    let point = get_or points i some in
    let same : ℕ → Bool = λ worker. worker == point.worker in
    let found : list_any same c.loop-point.workers.items ≡ c.contains.result = sym (ap (list_any same) c.deref.ensures.value) ∙ sym c.contains.ensures.value in
    let next : before ++ take (i + 1) points ≡ (before ++ take i points) ++ point ∷ [] = ap (λ (ps : List Point). before ++ ps) (take_more points i some c.loop-point-test.true) ∙ sym (append_assoc before (take i points) (point ∷ [])) in
    let has = c.loop-point.invariant before is in
    rw next (elim c.if-not-contains.branch [
      | then-not-contains+in_ok-push w ↦ rw (w.workers-is, w.in_ok-push.ensures.items) (met_new c.args.factor (before ++ take i points) point c.loop-point.workers.items has (omega arith) (found ∙ w.if-not-contains.true))
      | else-not-contains w ↦ rw w.workers-is (met_again c.args.factor (before ++ take i points) point c.loop-point.workers.items has (omega arith) (found ∙ w.if-not-contains.false))
    ])

pub returns-then-len-from : goal.returns-then-len-from
returns-then-len-from c = λ before is.
    let points = c.args.points.now in
    let i = c.loop-point.point-index in
    let has = c.loop-point.invariant before is in
    let later = met_enough c.args.factor (before ++ take i points) (drop i points) c.loop-point.workers.items has (omega arith) in
    later ∙ ap (λ (ps : List Point). take c.args.factor (workers_met ps)) (append_assoc before (take i points) (drop i points) ∙ ap (λ (ps : List Point). before ++ ps) (take-append-drop i points))
