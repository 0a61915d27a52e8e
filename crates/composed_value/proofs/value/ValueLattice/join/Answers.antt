use Rattle.std.specs.Prelude.{max}
use Rattle.std.proofs.Common.{ap}
use Rattle.std.specs.Ordering.{ord_max}
use Rattle.basic_lattices.specs.Stamped.{stamp_cmp}
use Rattle.composed_value.specs.ValueLaws.{plain_of_injective}
use Rattle.composed_value.specs.declared.value.Value.TheVariants.{Max, Or, Set, Map, Last, Versions, Counter, OrSet}
use Rattle.composed_value.proofs.Values.{found_joins, fields_join, same_entries, ok_of_parts, err_of_parts, more_on_ok, more_on_err}
use Rattle.composed_value.proofs.value.ValueLattice.join.Goals as goal
use Rattle.composed_value.proofs.value.ValueLattice.join.Goals.{in-Max-Max, in-Or-Or, in-Set-Set, in-Map-Map, in-Last-Last, in-Versions-Versions, in-Counter-Counter, in-OrSet-OrSet}

pub returns-clause-ok : goal.returns-clause-ok
returns-clause-ok c = elim c.match-self.branch [
  | in-Max-Max w ↦ ok_of_parts _ w.join.result _ _ _ _ _ _ w.result-is w.self-is w.in-Max-Max.is-0 w.in-Max-Max.is-1 (more_on_ok w.join.result (λ e. ap Max (found_joins max _ _ _ e)) w.join.ensures.ok)
  | in-Or-Or w ↦ ok_of_parts _ w.join-in-Or-Or.result _ _ _ _ _ _ w.result-is w.self-is w.in-Or-Or.is-0 w.in-Or-Or.is-1 (more_on_ok w.join-in-Or-Or.result (λ e. ap Or e) w.join-in-Or-Or.ensures.ok)
  | in-Set-Set w ↦ ok_of_parts _ w.join-in-Set-Set.result _ _ _ _ _ _ w.result-is w.self-is w.in-Set-Set.is-0 w.in-Set-Set.is-1 (more_on_ok w.join-in-Set-Set.result (λ e. ap Set e) w.join-in-Set-Set.ensures.ok)
  | in-Map-Map w ↦ ok_of_parts _ w.join-in-Map-Map.result _ _ _ _ _ _ w.result-is w.self-is w.in-Map-Map.is-0 w.in-Map-Map.is-1 (more_on_ok w.join-in-Map-Map.result (λ e. ap Map (fields_join _ w.in-Map-Map.mine w.in-Map-Map.theirs e)) w.join-in-Map-Map.ensures.ok)
  | in-Last-Last w ↦ ok_of_parts _ w.join-in-Last-Last.result _ _ _ _ _ _ w.result-is w.self-is w.in-Last-Last.is-0 w.in-Last-Last.is-1 (more_on_ok w.join-in-Last-Last.result (λ e. ap Last (found_joins (ord_max stamp_cmp) _ _ _ e)) w.join-in-Last-Last.ensures.ok)
  | in-Versions-Versions w ↦ ok_of_parts _ w.join-in-Versions-Versions.result _ _ _ _ _ _ w.result-is w.self-is w.in-Versions-Versions.is-0 w.in-Versions-Versions.is-1 (more_on_ok w.join-in-Versions-Versions.result (λ e. ap Versions e) w.join-in-Versions-Versions.ensures.ok)
  | in-Counter-Counter w ↦ ok_of_parts _ w.join-in-Counter-Counter.result _ _ _ _ _ _ w.result-is w.self-is w.in-Counter-Counter.is-0 w.in-Counter-Counter.is-1 (more_on_ok w.join-in-Counter-Counter.result (λ e. ap Counter e) w.join-in-Counter-Counter.ensures.ok)
  | in-OrSet-OrSet w ↦ ok_of_parts _ w.join-in-OrSet-OrSet.result _ _ _ _ _ _ w.result-is w.self-is w.in-OrSet-OrSet.is-0 w.in-OrSet-OrSet.is-1 (more_on_ok w.join-in-OrSet-OrSet.result (λ e. ap OrSet e) w.join-in-OrSet-OrSet.ensures.ok)
]

pub returns-clause-err : goal.returns-clause-err
returns-clause-err c = elim c.match-self.branch [
  | in-Max-Max w ↦ err_of_parts _ w.join.result _ _ _ _ w.result-is w.self-is w.in-Max-Max.is-0 (more_on_err w.join.result (λ e. ap Max (plain_of_injective _ _ e)) w.join.ensures.err)
  | in-Or-Or w ↦ err_of_parts _ w.join-in-Or-Or.result _ _ _ _ w.result-is w.self-is w.in-Or-Or.is-0 (more_on_err w.join-in-Or-Or.result (λ e. absurd e) w.join-in-Or-Or.ensures.err)
  | in-Set-Set w ↦ err_of_parts _ w.join-in-Set-Set.result _ _ _ _ w.result-is w.self-is w.in-Set-Set.is-0 (more_on_err w.join-in-Set-Set.result (λ e. ap Set e) w.join-in-Set-Set.ensures.err)
  | in-Map-Map w ↦ err_of_parts _ w.join-in-Map-Map.result _ _ _ _ w.result-is w.self-is w.in-Map-Map.is-0 (more_on_err w.join-in-Map-Map.result (λ e. ap Map (same_entries _ _ e)) w.join-in-Map-Map.ensures.err)
  | in-Last-Last w ↦ err_of_parts _ w.join-in-Last-Last.result _ _ _ _ w.result-is w.self-is w.in-Last-Last.is-0 (more_on_err w.join-in-Last-Last.result (λ e. ap Last (plain_of_injective _ _ e)) w.join-in-Last-Last.ensures.err)
  | in-Versions-Versions w ↦ err_of_parts _ w.join-in-Versions-Versions.result _ _ _ _ w.result-is w.self-is w.in-Versions-Versions.is-0 (more_on_err w.join-in-Versions-Versions.result (λ e. ap Versions e) w.join-in-Versions-Versions.ensures.err)
  | in-Counter-Counter w ↦ err_of_parts _ w.join-in-Counter-Counter.result _ _ _ _ w.result-is w.self-is w.in-Counter-Counter.is-0 (more_on_err w.join-in-Counter-Counter.result (λ e. ap Counter e) w.join-in-Counter-Counter.ensures.err)
  | in-OrSet-OrSet w ↦ err_of_parts _ w.join-in-OrSet-OrSet.result _ _ _ _ w.result-is w.self-is w.in-OrSet-OrSet.is-0 (more_on_err w.join-in-OrSet-OrSet.result (λ e. ap OrSet e) w.join-in-OrSet-OrSet.ensures.err)
]
