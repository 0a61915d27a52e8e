-- The small report is legal.
use Rattle.std.specs.Prelude.{◌≡◌, ◌≢◌, ℕ, ◌≤◌, ◌==◌, cond, true, false, [], ◌∷◌, length, unwrap_or, Some, None}
use Rattle.std.specs.Cmp.{unsigned_tied}
use Rattle.std.proofs.Common.{refl, sym, ap, subst, lit<, lit≤, arith}
use Rattle.std.proofs.lemmas.List.Elements.{All-cons, All-nil}
use Rattle.lattice_laws.specs.declared.maybe.Maybe.TheVariants.{Is}
use Rattle.clock_lattice.specs.Clock.{count_of}
use Rattle.clock_lattice.proofs.ClockLemmas.{one_count_is_clock}
use Rattle.clock_lattice.proofs.NeedsLemmas.{empty_are_needs}
use Rattle.composed_value.proofs.CellOfLemmas.{cell_of_is_cell}
use Rattle.composed_value.specs.Keyed.{puts_on}
use Rattle.composed_value.specs.PlainValue.{IsPutOf, puts_of_session}
use Rattle.composed_value.specs.Sound.{IsSound}
use Rattle.composed_value.specs.declared.kind.Kind.TheVariants as kinds
use Rattle.composed_value.specs.declared.payload.Payload.TheVariants as payloads
use Rattle.composed_value.specs.declared.put.Put.{Put}
use Rattle.composed_value.specs.declared.value.Value.TheVariants as values
use Rattle.placement.specs.Config.{IsOneOf, IsPlacement}
use Rattle.placement.proofs.ConfigLemmas.{is_placement}
use Rattle.session_known.specs.Accepted.{accepted, client_of}
use Rattle.session_known.specs.Form.{IsFinalIn}
use Rattle.session_known.specs.Lawful.{last_lamport}
use Rattle.session_known.specs.Legal.{IsLawfulFinal, IsLegal}
use Rattle.session_known.specs.Session.{nothing_known, put_made}
use Rattle.session_known.specs.declared.report.FinalCell.{FinalCell}
use Rattle.big_work.specs.Small.{small_cell, small_plan, small_report, small_script}

-- the one put
abbrev small_put : Put
small_put = put_made (client_of 1 small_plan) nothing_known 1 (payloads.Max 7) 1 1 0

small_put_is : IsPutOf kinds.Max small_put
small_put_is = record {
  is_put = record {
    session_fits = lit< tt;
    number_some = lit< tt;
    number_fits = lit< tt;
    lamport_fits = lit< tt;
    place_fits = lit< tt;
    seen_is = one_count_is_clock 1 1 (lit< tt) (lit< tt);
    needs_are = empty_are_needs;
    payload_is = lit< tt;
  };
  of_kind = refl;
}

-- the clock counts it
small_counts : (session : ℕ) → count_of session ((1, 1) ∷ []) ≤ length (puts_of_session session (small_put ∷ []))
small_counts session =
    let count : count_of session ((1, 1) ∷ []) ≡ unwrap_or (cond (session == 1) (Some 1) None) 0 = ap (λ ties. unwrap_or (cond ties (Some 1) None) 0) (unsigned_tied session 1) in
    let within : unwrap_or (cond (session == 1) (Some 1) None) 0 ≤ length (puts_of_session session (small_put ∷ [])) =
    elim (session == 1) as (λ ties. unwrap_or (cond ties (Some 1) None) 0 ≤ length (cond ties (small_put ∷ []) [])) [
      | true ↦ lit≤ tt
      | false ↦ lit≤ tt
    ] in
    subst (λ n. n ≤ length (puts_of_session session (small_put ∷ []))) (sym count) within

-- and the cell holds it
small_sound : IsSound kinds.Max (puts_on 1 (accepted small_script small_report)) ((1, 1) ∷ []) 1 (values.Max (Is 7))
small_sound =
    let holds = (cell_of_is_cell kinds.Max (small_put ∷ []) (All-cons (IsPutOf kinds.Max) small_put [] small_put_is (All-nil (IsPutOf kinds.Max)))).1 in
    record { counts = small_counts; value_is = holds.value; top_is = holds.top }

-- so a final cell is in form and lawful
small_final_in : (worker : ℕ) → IsFinalIn small_script (small_cell worker)
small_final_in worker = record {
  clock_is = record {
    is_clock = one_count_is_clock 1 1 (lit< tt) (lit< tt);
    sessions = All-cons (λ (entry : ℕ × ℕ). IsOneOf 1 entry.0) (1, 1) [] (lit≤ tt, lit≤ tt) (All-nil (λ (entry : ℕ × ℕ). IsOneOf 1 entry.0));
  };
  top_fits = lit< tt;
  value_is = record { is_value = lit< tt; of_kind = refl; sessions = tt; few = tt };
}

small_final : (worker : ℕ) → IsLawfulFinal small_script.kinds (accepted small_script small_report) (small_cell worker)
small_final worker = record {
  sound = small_sound;
  counts_all = All-cons (λ (put : Put). put.number ≤ count_of put.session ((1, 1) ∷ [])) small_put [] (lit≤ tt) (All-nil (λ (put : Put). put.number ≤ count_of put.session ((1, 1) ∷ [])));
}

-- no Lamport number is used up
not_worn : 0 ≢ last_lamport
not_worn same = omega arith

-- the key lives at its pins
small_placed : IsPlacement small_script.config ((2 ∷ 1 ∷ []) ∷ [])
small_placed =
    let placed = is_placement small_script.config in
    record { ring = placed.ring; is_ring = placed.is_ring; replicas = refl }

-- The report is legal.
pub small_is_legal : IsLegal small_script small_report
small_is_legal =
    let IsIn : FinalCell → Type 0 = IsFinalIn small_script in
    let Lawful : FinalCell → Type 0 = IsLawfulFinal small_script.kinds (accepted small_script small_report) in
    record {
      table = (2 ∷ 1 ∷ []) ∷ [];
      placed = small_placed;
      legal = record {
        form = record {
          answers = ((tt, (refl, ((lit< tt, lit< tt, λ none. cc), tt))), tt);
          places = refl;
          finals = All-cons IsIn (small_cell 1) (small_cell 2 ∷ []) (small_final_in 1) (All-cons IsIn (small_cell 2) [] (small_final_in 2) (All-nil IsIn));
        };
        answers = ((refl, (refl, (record { begun = refl; puts_are = refl; not_worn = not_worn; lamport_is = refl }, tt))), tt);
        true_of_puts = ((tt, (tt, (tt, tt))), tt);
        finals = All-cons Lawful (small_cell 1) (small_cell 2 ∷ []) (small_final 1) (All-cons Lawful (small_cell 2) [] (small_final 2) (All-nil Lawful));
      };
    }
