-- What a session knows at its start: nothing, or what a causal session before it knew at its end.
use Rattle.std.specs.Prelude.{◌≡◌, ℕ, zero, suc, ◌+◌, ◌-◌, ◌≤◌, List, [], length, map, take, slice_get, slice_index_or, MatchOption, Option, Some, None, ⊤}
use Rattle.std.proofs.Common.{◌∙◌, sym, ap, subst, arith}
use Rattle.std.proofs.lemmas.List.{get_or-map, get_or-take, length-map, length-take}
use Rattle.std.proofs.lemmas.Option.{get_or_from_slice_get, slice_get-get_or, slice_get_within}
use Rattle.session_known.specs.Accepted.{ends_of, origin_of}
use Rattle.session_known.specs.Script.{IsValidScript, MayComeAfter}
use Rattle.session_known.specs.Session.{Knowledge, handed, nothing_known, state_after}
use Rattle.session_known.specs.declared.report.Report.{Report}
use Rattle.session_known.specs.declared.script.Level.TheVariants.{Causal}
use Rattle.session_known.specs.declared.script.Script.{Script}
use Rattle.session_known.specs.declared.script.SessionPlan.{SessionPlan}
use Rattle.session_known.proofs.EndsLemmas.{end_at, ends_are}
use Rattle.legal_runs.proofs.SessionsLemmas.{IsSession, answers_at, client_at, lines_at, no_plan, origin_at, plan_at, start_at}

module _ (script : Script) (table : List (List ℕ)) (report : Report) (valid : IsValidScript script table) (as_many : length report.answers ≡ length script.sessions) where
  -- what it knows at its end
  abbrev pub known_at_end : ℕ → Knowledge
  known_at_end session = (state_after (client_at script session) (start_at script report session) (lines_at script session) (answers_at report session)).knows

  -- it is the end of its number
  pub end_is : (session : ℕ) → IsSession script session → slice_index_or (ends_of script report) (session - 1) nothing_known ≡ known_at_end session
  end_is session within =
      let same : 1 + (session - 1) ≡ session = omega (arith, within.0) in
      subst (λ n. slice_index_or (ends_of script report) (n - 1) nothing_known ≡ (state_after (record { session = n; level = (plan_at script session).level }) (start_at script report session) (lines_at script session) (answers_at report session)).knows) same
      (end_at (ends_of script report) 1 script.sessions report.answers (ends_are script table report valid) (session - 1) no_plan [] (omega (arith, within.0, within.1)) (omega (arith, within.0, within.1, as_many)))

  -- a session comes after a causal one of a smaller number, if it comes after one
  comes_after : (session : ℕ) → IsSession script session → MatchOption (plan_at script session).after ⊤ (λ after. IsSession script after × (after + 1 ≤ session) × ((plan_at script after).level ≡ Causal))
  comes_after session within =
      let plan : SessionPlan = plan_at script session in
      after_of plan.after (valid.orders (session - 1) plan (slice_get-get_or script.sessions (session - 1) no_plan (omega (arith, within.0, within.1))))
    where
      long : length (take (session - 1) script.sessions) ≤ session - 1
      long = omega (arith, length-take (session - 1) script.sessions)

      level_of : (after : ℕ) → after ≤ session - 1 → slice_get (map (λ plan. plan.level) (take (session - 1) script.sessions)) (after - 1) ≡ Some Causal → 1 ≤ after → (plan_at script after).level ≡ Causal
      level_of after low is some =
          let before : List SessionPlan = take (session - 1) script.sessions in
          let inside = slice_get_within (map (λ (plan : SessionPlan). plan.level) before) (after - 1) Causal is in
          let as_many = length-map before (λ (plan : SessionPlan). plan.level) in
          ap (λ (plan : SessionPlan). plan.level) (sym (get_or-take (session - 1) script.sessions (after - 1) no_plan (omega (arith, low, some))))
          ∙ sym (get_or-map (λ (plan : SessionPlan). plan.level) before (after - 1) no_plan Causal (omega (arith, inside, as_many)))
          ∙ get_or_from_slice_get (map (λ (plan : SessionPlan). plan.level) before) (after - 1) Causal Causal is

      after_of : (after : Option ℕ) → MatchOption after ⊤ (MayComeAfter script.version (take (session - 1) script.sessions) (plan_at script session).level)
          → MatchOption after ⊤ (λ after. IsSession script after × (after + 1 ≤ session) × ((plan_at script after).level ≡ Causal))
      after_of None may = tt
      after_of (Some after) may =
          let few = long in (
            (may.is_earlier.0, omega (arith, may.is_earlier.1, few, within.1)),
            omega (arith, may.is_earlier.0, may.is_earlier.1, few, within.0),
            level_of after (omega (arith, may.is_earlier.1, few)) may.earlier_causal may.is_earlier.0,
          )

  module _ (Q : Knowledge → Type 0) (nothing : Q nothing_known) (hands : (knows : Knowledge) → Q knows → Q (handed knows))
      (goes : (session : ℕ) → IsSession script session → (plan_at script session).level ≡ Causal → Q (origin_at script report session) → Q (known_at_end session)) where
    up_to : (bound session : ℕ) → session ≤ bound → IsSession script session → Q (origin_at script report session)
    up_to zero session low within = absurd (omega (arith, low, within.0))
    up_to (suc bound) session low within = of_after (up_to bound) (plan_at script session).after (comes_after session within)
      where
        of_after : ((other : ℕ) → other ≤ bound → IsSession script other → Q (origin_at script report other)) → (after : Option ℕ)
            → MatchOption after ⊤ (λ after. IsSession script after × (after + 1 ≤ session) × ((plan_at script after).level ≡ Causal)) → Q (origin_of (ends_of script report) after)
        of_after earlier None is = nothing
        of_after earlier (Some after) is = hands _ (subst Q (sym (end_is after is.0)) (goes after is.0 is.2 (earlier after (omega (arith, is.1, low)) is.0)))

    -- What holds of knowing nothing, holds of what is handed over where it holds of an end, and holds of the end of a causal session
    -- where it holds of what that knows at its start, holds of what each session knows at its start.
    pub of_origins : (session : ℕ) → IsSession script session → Q (origin_at script report session)
    of_origins session within = up_to session session (omega arith) within
