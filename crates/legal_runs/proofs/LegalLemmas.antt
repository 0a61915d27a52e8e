-- A report that came so from a ledger whose gossip has settled is legal, and causal.
use Rattle.std.specs.Prelude.{◌≡◌, ℕ, suc, ◌+◌, ◌-◌, ◌<◌, List, [], ◌∷◌, All, length, slice_index_or}
use Rattle.std.specs.List.{AllZip}
use Rattle.std.proofs.Common.{subst, arith}
use Rattle.std.proofs.lemmas.List.Elements.{All-weaker}
use Rattle.composed_value.specs.Put.{IsPut}
use Rattle.placement.specs.Config.{IsOneOf}
use Rattle.session_known.proofs.AcceptedLemmas.{few_accepted}
use Rattle.session_known.specs.Accepted.{accepted, client_of, ends_of, start_of}
use Rattle.session_known.specs.Form.{Fits, IsFinalIn}
use Rattle.session_known.specs.Lawful.{AreLawful, IsTrueOf}
use Rattle.session_known.specs.Legal.{AreLawfulFrom}
use Rattle.session_known.specs.Script.{IsValidScript}
use Rattle.session_known.specs.Session.{Knowledge}
use Rattle.session_known.specs.declared.report.Answer.{Answer}
use Rattle.session_known.specs.declared.report.Report.{Report}
use Rattle.session_known.specs.declared.script.Level.{Level}
use Rattle.session_known.specs.declared.script.Line.{Line}
use Rattle.session_known.specs.declared.script.Script.{Script}
use Rattle.session_known.specs.declared.script.SessionPlan.{SessionPlan}
use Rattle.run_ledger.specs.Came.{Came, IsSettled}
use Rattle.run_ledger.specs.Causality.{AreCausal}
use Rattle.session_known.proofs.DenseLemmas.{are_dense, none_worn}
use Rattle.session_known.specs.Legal.{IsLegalAt}
use Rattle.legal_runs.specs.Laws.{IsLegalAndCausal}
use Rattle.run_ledger.specs.Ledger.{Ledger}
use Rattle.legal_runs.proofs.AcceptedLemmas.{IsPutIn, are, are_accepted, puts_are_in}
use Rattle.legal_runs.proofs.CausalityLemmas.{are_causal}
use Rattle.legal_runs.proofs.FinalsLemmas.{finals_lawful, finals_of_sound}
use Rattle.legal_runs.proofs.CellsInFormLemmas.{AreFewOfKinds}
use Rattle.legal_runs.proofs.FormLemmas.{answers_fit, final_fits}
use Rattle.legal_runs.proofs.LawfulLemmas.{session_lawful, session_shows, session_true}
use Rattle.legal_runs.proofs.SessionsLemmas.{AreSessions, IsSession, answers_at, as_many_answers, client_at, lines_at, no_plan, plan_at, start_at}
use Rattle.legal_runs.proofs.ShownLemmas.{AllShowSound}

-- what holds place by place
zip_places : {A B : Type 0} (R : A → B → Type 0) (xs : List A) (ys : List B) (d : A) (e : B) → length ys ≡ length xs
    → ((place : ℕ) → place < length xs → R (slice_index_or xs place d) (slice_index_or ys place e)) → AllZip R xs ys
zip_places R [] [] d e as_many each = tt
zip_places R (x ∷ xs) (y ∷ ys) d e as_many each =
    (each 0 (omega arith), zip_places R xs ys d e (omega (arith, as_many)) (λ place within. each (suc place) (omega (arith, within))))
zip_places R [] (y ∷ ys) d e as_many each = absurd (omega (arith, as_many))
zip_places R (x ∷ xs) [] d e as_many each = absurd (omega (arith, as_many))

-- where each session is lawful, all are
lawful_places : (table : List (List ℕ)) (ends : List Knowledge) (number : ℕ) (plans : List SessionPlan) (answers : List (List Answer)) → length answers ≡ length plans
    → ((place : ℕ) → place < length plans
    → AreLawful table (client_of (number + place) (slice_index_or plans place no_plan)) (start_of ends (slice_index_or plans place no_plan)) [] (slice_index_or plans place no_plan).lines (slice_index_or answers place []))
    → AreLawfulFrom table ends number plans answers
lawful_places table ends number [] [] as_many each = tt
lawful_places table ends number (plan ∷ plans) (answers ∷ others) as_many each =
    let first : number + 0 ≡ number = omega arith in (
      subst (λ n. AreLawful table (client_of n plan) (start_of ends plan) [] plan.lines answers) first (each 0 (omega arith)),
      lawful_places table ends (number + 1) plans others (omega (arith, as_many)) (λ place within.
          let its : SessionPlan = slice_index_or plans place no_plan in
          let later : number + suc place ≡ number + 1 + place = omega arith in
          subst (λ n. AreLawful table (client_of n its) (start_of ends its) [] its.lines (slice_index_or others place [])) later (each (suc place) (omega (arith, within)))),
    )
lawful_places table ends number [] (answers ∷ others) as_many each = absurd (omega (arith, as_many))
lawful_places table ends number (plan ∷ plans) [] as_many each = absurd (omega (arith, as_many))

module _ (script : Script) (table : List (List ℕ)) (report : Report) (ledger : Ledger) (valid : IsValidScript script table) (came : Came script table report ledger) where
  -- a place among the sessions is that of the next number
  of_place : (Of : ℕ → Type 0) → ((session : ℕ) → IsSession script session → Of session) → (place : ℕ) → place < length script.sessions → Of (1 + place)
  of_place Of each place within = each (1 + place) (omega arith, omega (arith, within))

  as_many : length report.answers ≡ length script.sessions
  as_many = as_many_answers table ledger (ends_of script report) 1 script.sessions report.answers ledger.heard came.sessions

  -- what holds of each session, line by line
  each_session : (Holds : Level → Line → Answer → Type 0) → ((session : ℕ) → IsSession script session → AllZip (Holds (plan_at script session).level) (lines_at script session) (answers_at report session))
      → AllZip (λ plan answers. AllZip (Holds plan.level) plan.lines answers) script.sessions report.answers
  each_session Holds each = zip_places (λ plan answers. AllZip (Holds plan.level) plan.lines answers) script.sessions report.answers no_plan [] as_many (λ place within.
      let same : 1 + place - 1 ≡ place = omega arith in
      subst (λ at. AllZip (Holds (slice_index_or script.sessions at no_plan).level) (slice_index_or script.sessions at no_plan).lines (slice_index_or report.answers at [])) same
      (of_place (λ session. AllZip (Holds (plan_at script session).level) (lines_at script session) (answers_at report session)) each place within))

  all_lawful : AreLawfulFrom table (ends_of script report) 1 script.sessions report.answers
  all_lawful = lawful_places table (ends_of script report) 1 script.sessions report.answers as_many (λ place within.
      let same : 1 + place - 1 ≡ place = omega arith in
      subst (λ at. AreLawful table (client_of (1 + place) (slice_index_or script.sessions at no_plan)) (start_of (ends_of script report) (slice_index_or script.sessions at no_plan)) [] (slice_index_or script.sessions at no_plan).lines (slice_index_or report.answers at [])) same
      (of_place (λ session. AreLawful table (client_at script session) (start_at script report session) [] (lines_at script session) (answers_at report session))
      (λ session within. session_lawful script table report ledger valid came session within) place within))

  sessions : AreSessions script table report
  sessions = are script table report ledger valid came

  shows : AllShowSound script report
  shows session within = session_shows script table report ledger valid came session within

  puts_in : All (IsPutIn script) (accepted script report)
  puts_in = puts_are_in script table report ledger valid came

  of_kinds : AreFewOfKinds script (accepted script report)
  of_kinds = record { of_kinds = λ key. (are_accepted script table report ledger valid came key).of_kind; few = few_accepted script table report valid }

  causal : AreCausal (accepted script report)
  causal = are_causal script table report valid sessions shows
      (All-weaker (IsPutIn script) (λ entry. IsOneOf (length script.config.keys) entry.0 × IsPut entry.1) (λ entry is. (is.0, is.1.is_put)) (accepted script report) puts_in)

  lawful : IsSettled table ledger → IsLegalAt table script report
  lawful settled = record {
    form = record {
      answers = each_session (λ level. Fits script level) (λ session within.
          answers_fit script table report valid sessions shows puts_in of_kinds causal session within (session_lawful script table report ledger valid came session within));
      places = came.places;
      finals = finals_of_sound script table report ledger valid came (IsFinalIn script) (final_fits script table report valid sessions puts_in of_kinds shows causal);
    };
    answers = all_lawful;
    true_of_puts = each_session (λ level. IsTrueOf script.kinds (accepted script report)) (λ session within. session_true script table report ledger valid came session within);
    finals = finals_lawful script table report ledger valid came settled;
  }

  -- The law.
  pub legal_and_causal : IsSettled table ledger → IsLegalAndCausal script table report
  legal_and_causal settled =
      let legal = lawful settled in
      record { legal = legal; causal = causal; dense = are_dense script table report valid legal; never_worn = none_worn script table report valid legal }
