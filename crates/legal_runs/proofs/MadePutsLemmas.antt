-- The accepted puts are those that the sessions made: each is of a session of the script, and what a session made was accepted.
use Rattle.std.specs.Prelude.{ℕ, ◌≤◌, ◌==◌, List, [], ◌∷◌, All, Contains, filter, length}
use Rattle.std.proofs.Common.{sym, subst, arith}
use Rattle.std.proofs.lemmas.Bool.{eqb-true}
use Rattle.std.proofs.lemmas.List.Elements.{All-contains, All-contains_itself, All-weaker}
use Rattle.lattice_laws.proofs.MembersLemmas.{contains_filtered, contains_first, contains_mapped}
use Rattle.placement.specs.Config.{IsOneOf}
use Rattle.composed_value.specs.Keyed.{puts_on}
use Rattle.composed_value.specs.declared.put.Put.{Put}
use Rattle.session_known.specs.Accepted.{accepted, made_on}
use Rattle.session_known.specs.declared.report.Report.{Report}
use Rattle.session_known.specs.declared.script.Script.{Script}
use Rattle.session_known.proofs.NumberedLemmas.{IsOwn, lines_own}
use Rattle.legal_runs.proofs.OnKeyLemmas.{on_key}
use Rattle.legal_runs.proofs.SessionsLemmas.{AreSessions, IsSession, answers_at, client_at, lines_at, made_by, start_at}

-- a list that is not empty has a member
pub some_of : {X : Type 0} (xs : List X) → 1 ≤ length xs → (x : X) × Contains xs x
some_of [] some = absurd (omega (arith, some))
some_of (x ∷ xs) some = (x, contains_first x xs)

-- what stands among the puts on a key is there with that key
pub of_key : (key : ℕ) (puts : List (ℕ × Put)) (put : Put) → Contains (puts_on key puts) put → Contains puts (key, put)
of_key key puts put has_it =
    let from = contains_mapped (λ (entry : ℕ × Put). entry.1) (filter (λ entry. entry.0 == key) puts) put has_it in
    let both = contains_filtered (λ (entry : ℕ × Put). entry.0 == key) puts from.0 from.1 in
    subst (Contains puts) (λ i. (eqb-true from.0.0 key both.1 i, from.2 i)) both.0

-- a key and a session of the script
abbrev pub AreOfScript : Script → ℕ → ℕ → Type 0
AreOfScript script key session = IsOneOf (length script.config.keys) key × IsSession script session

-- puts on keys of the script, of its sessions
abbrev pub AreOfSessions : Script → List (ℕ × Put) → Type 0
AreOfSessions script puts = All (λ entry. AreOfScript script entry.0 entry.1.session) puts

-- where a session made one of such puts on a key, both are the script's
pub some_made : (script : Script) (puts : List (ℕ × Put)) → AreOfSessions script puts → (key session : ℕ) → 1 ≤ length (made_on session key puts)
    → AreOfScript script key session
some_made script puts are key session some =
    let one = some_of (made_on session key puts) some in
    let both = contains_filtered (λ (put : Put). session == put.session) (puts_on key puts) one.0 one.1 in
    let known = All-contains (λ entry. AreOfScript script entry.0 entry.1.session) puts (key, one.0) are (of_key key puts one.0 both.0) in
    (known.0, subst (IsSession script) (sym (eqb-true session one.0.session both.1)) known.1)

module _ (script : Script) (table : List (List ℕ)) (report : Report) (are : AreSessions script table report) where
  -- what a session made was accepted
  made_is_accepted : (session : ℕ) → IsSession script session → (entry : ℕ × Put) → Contains (made_by script report session) entry
      → Contains (accepted script report) entry
  made_is_accepted session within entry has_it =
      let all : List (ℕ × Put) = accepted script report in
      let mine : Contains (made_on session entry.0 all) entry.1 =
      subst (λ made. Contains made entry.1) (sym (are.made session entry.0 within)) (on_key (made_by script report session) entry has_it)
      in
      of_key entry.0 all entry.1 (contains_filtered (λ (put : Put). session == put.session) (puts_on entry.0 all) entry.1 mine).0

  -- so what holds of each accepted put holds of those that a session made
  pub All-made_by : (P : ℕ × Put → Type 0) → All P (accepted script report) → (session : ℕ) → IsSession script session
      → All P (made_by script report session)
  All-made_by P all session within =
      let made : List (ℕ × Put) = made_by script report session in
      All-weaker (Contains made) P (λ entry has_it. All-contains P (accepted script report) entry all (made_is_accepted session within entry has_it)) made
      (All-contains_itself made)

  -- and what holds of those of each session holds of each accepted put
  pub All-accepted : (P : ℕ × Put → Type 0) → ((session : ℕ) → IsSession script session → All P (made_by script report session))
      → All P (accepted script report)
  All-accepted P each =
      All-weaker (λ entry. (session : ℕ) × IsSession script session × Contains (made_by script report session) entry) P
      (λ entry from. All-contains P (made_by script report from.0) entry (each from.0 from.1) from.2) (accepted script report) are.of_one

  -- each accepted put is of a session of the script
  pub accepted_of_sessions : All (λ entry. IsSession script entry.1.session) (accepted script report)
  accepted_of_sessions =
      let in_script : ℕ × Put → Type 0 = λ entry. IsSession script entry.1.session in
      All-accepted in_script (λ session within.
      All-weaker (IsOwn (client_at script session)) in_script (λ entry own. subst (IsSession script) (sym own) within) (made_by script report session)
      (lines_own (client_at script session) (start_at script report session) (lines_at script session) (answers_at report session)))
