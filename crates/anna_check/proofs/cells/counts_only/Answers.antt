use Rattle.std.proofs.Common.{◌≡◌, ℕ, zero, suc, ◌<◌, ◌≤◌, List, [], ◌∷◌, length, get_or, Some, Bool, cond, unwrap_or, IsTrue, All, refl, sym, ap, subst, ◌∙◌, inl, inr, arith}
use Rattle.std.specs.Cmp.{nat_cmp_total, unsigned_tied}
use Rattle.std.specs.FinMap.{find, is_sorted, nat_cmp-IsAntisymmetric}
use Rattle.std.specs.Ordering.{nat_cmp, is_eq}
use Rattle.std.proofs.lemmas.Bool.{false≢true}
use Rattle.std.proofs.lemmas.Bool.Decides.{eqb_tells}
use Rattle.std.proofs.lemmas.List.Elements.{All-head, All-tail, AllWithin-more}
use Rattle.std.proofs.lemmas.Option.{get_or_from_slice_get}
use Rattle.composed_value.specs.PlainValue.{puts_of_session}
use Rattle.lattice_laws.specs.Ascending.{ascending_tail, first_below}
use Rattle.lattice_laws.proofs.AscendingLemmas.{below_at, Greater_from_Less}
use Rattle.clock_lattice.specs.Clock.{count_of}
use Rattle.clock_lattice.specs.SparseLaws.{first_value}
use Rattle.anna_check.proofs.cells.counts_only.Goals as goal

-- the count of the session at a place is that at the place
count_at : (clock : List (ℕ × ℕ)) (i : ℕ) (d : ℕ × ℕ) → IsTrue (is_sorted nat_cmp clock) → i < length clock → count_of (get_or clock i d).0 clock ≡ (get_or clock i d).1
count_at [] i d rises within = absurd (omega (arith, within))
count_at (entry ∷ clock) zero d rises within = first_value nat_cmp_total nat_cmp-IsAntisymmetric 0 entry clock
count_at (entry ∷ clock) (suc i) d rises within =
    let later : i < length clock = omega (arith, within) in
    let session : ℕ = (get_or clock i d).0 in
    let above = Greater_from_Less nat_cmp nat_cmp_total entry.0 session (below_at nat_cmp entry.0 clock i d later (first_below nat_cmp entry clock rises)) in
    ap (λ r. unwrap_or (cond (is_eq r) (Some entry.1) (find nat_cmp session clock)) 0) above ∙ count_at clock i d (ascending_tail nat_cmp entry clock rises) later

-- where the count at each place is within a limit of its session, so is that of each session
counts_within : (limit : ℕ → ℕ) (clock : List (ℕ × ℕ)) → All (λ (entry : ℕ × ℕ). entry.1 ≤ limit entry.0) clock → (session : ℕ) → count_of session clock ≤ limit session
counts_within limit [] all session = omega arith
counts_within limit (entry ∷ clock) all session =
    let Within : Bool → Type 0 = λ ties. unwrap_or (cond ties (Some entry.1) (find nat_cmp session clock)) 0 ≤ limit session in
    let Fits : ℕ × ℕ → Type 0 = λ entry. entry.1 ≤ limit entry.0 in
    subst Within (sym (unsigned_tied session entry.0)) (elim (eqb_tells session entry.0) [
      | inl same ↦ subst Within (sym same.0) (subst (λ of_entry. entry.1 ≤ limit of_entry) (sym same.1) (All-head Fits entry clock all))
      | inr other ↦ subst Within (sym other.0) (counts_within limit clock (All-tail Fits entry clock all) session)
    ])

pub returns-then-puts_made-count : goal.returns-then-puts_made-count
returns-then-puts_made-count c =
    let clock = c.args.clock.now in
    let at = get_or_from_slice_get clock c.loop-i.i (c.in-Some.session, c.in-Some.count) (0, 0) (sym c.at.ensures ∙ c.in-Some.is) in
    let counts = subst (λ (entry : ℕ × ℕ). count_of entry.0 clock ≡ entry.1) at (count_at clock c.loop-i.i (0, 0) c.attest.ensures.ascending (omega arith)) in
    (λ is. absurd (false≢true is), λ all. absurd (omega (arith, counts, all c.in-Some.session)))

pub loop-i-preserved : goal.loop-i-preserved
loop-i-preserved c =
    let Fits : ℕ × ℕ → Type 0 = λ entry. entry.1 ≤ length (puts_of_session entry.0 c.args.puts.now) in
    let entry : ℕ × ℕ = (c.in-Some.session, c.in-Some.count) in
    let fits : Fits entry = omega arith in
    AllWithin-more Fits c.args.clock.now 0 c.loop-i.i c.loop-i.invariant (λ d. subst Fits (sym (get_or_from_slice_get c.args.clock.now c.loop-i.i entry d (sym c.at.ensures ∙ c.in-Some.is))) fits)

pub returns : goal.returns
returns c = (λ _. counts_within (λ session. length (puts_of_session session c.args.puts.now)) c.args.clock.now (λ k d within. c.loop-i.invariant k d (omega arith) (omega arith)), λ _. refl)
