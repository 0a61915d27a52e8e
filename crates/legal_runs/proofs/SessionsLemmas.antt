-- The sessions of a report by their numbers, and the accepted puts session by session.
use Rattle.std.specs.Prelude.{◌≡◌, ℕ, zero, suc, ◌+◌, ◌-◌, ◌<◌, List, [], ◌∷◌, All, Contains, length, slice_index_or, None}
use Rattle.std.proofs.Common.{◌∙◌, refl, sym, ap, subst, arith}
use Rattle.std.proofs.lemmas.List.Elements.{All-append, All-contains_itself, All-nil, All-weaker}
use Rattle.placement.specs.Config.{IsOneOf}
use Rattle.composed_value.specs.Keyed.{puts_on}
use Rattle.composed_value.specs.declared.put.Put.{Put}
use Rattle.session_known.specs.Accepted.{AreNext, accepted, accepted_from, client_of, ends_of, made_on, origin_of, start_of}
use Rattle.session_known.specs.Session.{Client, Knowledge, State, puts_from, start}
use Rattle.session_known.specs.declared.report.Answer.{Answer}
use Rattle.session_known.specs.declared.report.Report.{Report}
use Rattle.session_known.specs.declared.script.Level.TheVariants.{Eventual}
use Rattle.session_known.specs.declared.script.Line.{Line}
use Rattle.session_known.specs.declared.script.Script.{Script}
use Rattle.session_known.specs.declared.script.SessionPlan.{SessionPlan}
use Rattle.session_known.proofs.NumberedLemmas.{AreNumberedFrom, IsOwn, accepted_of_first, accepted_of_later, all_made, lines_own, numbered_are_next}
use Rattle.session_proxy.specs.Run.{AreAnswered}
use Rattle.store_msg.specs.Reply.{PlainReply}
use Rattle.run_ledger.specs.Came.{CameOfSession, CameOfSessions}
use Rattle.run_ledger.specs.Ledger.{Ledger, heard_by}
use Rattle.run_ledger.proofs.ByNumberLemmas.{from_first}
use Rattle.legal_runs.proofs.AnsweredLemmas.{numbered}

-- a session without lines
abbrev pub no_plan : SessionPlan
no_plan = record { name = []; level = Eventual; after = None; lines = [] }

-- the session of a number, from 1, and its answers
abbrev pub plan_at : Script → ℕ → SessionPlan
plan_at script session = slice_index_or script.sessions (session - 1) no_plan

abbrev pub client_at : Script → ℕ → Client
client_at script session = client_of session (plan_at script session)

abbrev pub lines_at : Script → ℕ → List Line
lines_at script session = (plan_at script session).lines

abbrev pub answers_at : Report → ℕ → List Answer
answers_at report session = slice_index_or report.answers (session - 1) []

-- what it knows at its start, and its state there
abbrev pub origin_at : Script → Report → ℕ → Knowledge
origin_at script report session = origin_of (ends_of script report) (plan_at script session).after

abbrev pub start_at : Script → Report → ℕ → State
start_at script report session = start (origin_at script report session)

-- one of the script's sessions
abbrev pub IsSession : Script → ℕ → Type 0
IsSession script session = IsOneOf (length script.sessions) session

-- the puts that its answers accept
abbrev pub made_by : Script → Report → ℕ → List (ℕ × Put)
made_by script report session = puts_from (client_at script session) (start_at script report session) (lines_at script session) (answers_at report session)

-- Each session has all its lines answered by replies, and of the accepted puts it made those that its answers accept, its first, its second
-- and so on on each key.
pub record AreSessions (script : Script) (table : List (List ℕ)) (report : Report) : Type 0 where
  pub answered : (session : ℕ) → IsSession script session
      → (replies : List (List PlainReply)) × AreAnswered table (client_at script session) (start_at script report session) 1 (lines_at script session) (answers_at report session) replies
  pub as_many : length report.answers ≡ length script.sessions
  pub whole : (session : ℕ) → IsSession script session → length (answers_at report session) ≡ length (lines_at script session)
  pub made : (session key : ℕ) → IsSession script session → made_on session key (accepted script report) ≡ puts_on key (made_by script report session)
  pub next : (session key : ℕ) → AreNext 0 (made_on session key (accepted script report))
  pub of_one : All (λ entry. (session : ℕ) × IsSession script session × Contains (made_by script report session) entry) (accepted script report)

-- a session's puts are its own, so those that it made on a key are all on the key
pub own_made : (client : Client) (state : State) (session key : ℕ) (lines : List Line) (answers : List Answer) → client.session ≡ session
    → made_on session key (puts_from client state lines answers) ≡ puts_on key (puts_from client state lines answers)
own_made client state session key lines answers named =
    let made : List (ℕ × Put) = puts_from client state lines answers in
    all_made session key made (All-weaker (IsOwn client) (λ entry. entry.1.session ≡ session) (λ entry own. own ∙ named) made (lines_own client state lines answers))

-- the puts of the session at a place, of those from a number on
abbrev pub made_from : List Knowledge → ℕ → List SessionPlan → List (List Answer) → ℕ → List (ℕ × Put)
made_from ends number plans answers place =
    let plan : SessionPlan = slice_index_or plans place no_plan in
    puts_from (client_of (number + place) plan) (start_of ends plan) plan.lines (slice_index_or answers place [])

-- a put was made by the session at some place
abbrev IsMadeFrom : List Knowledge → ℕ → List SessionPlan → List (List Answer) → ℕ × Put → Type 0
IsMadeFrom ends number plans answers entry = (place : ℕ) × (place < length plans) × Contains (made_from ends number plans answers place) entry

-- of the sessions after the first, the places are one more
made_from_later : (ends : List Knowledge) (number : ℕ) (plan : SessionPlan) (plans : List SessionPlan) (answers : List Answer) (others : List (List Answer)) (place : ℕ)
    → made_from ends (number + 1) plans others place ≡ made_from ends number (plan ∷ plans) (answers ∷ others) (suc place)
made_from_later ends number plan plans answers others place =
    let its : SessionPlan = slice_index_or plans place no_plan in
    let same : number + 1 + place ≡ number + suc place = omega arith in
    ap (λ n. puts_from (client_of n its) (start_of ends its) its.lines (slice_index_or others place [])) same

-- each accepted put was made by some session
of_places : (ends : List Knowledge) (number : ℕ) (plans : List SessionPlan) (answers : List (List Answer)) → All (IsMadeFrom ends number plans answers) (accepted_from ends number plans answers)
of_places ends number (plan ∷ plans) (answers ∷ others) =
    let made : List (ℕ × Put) = puts_from (client_of number plan) (start_of ends plan) plan.lines answers in
    let all = IsMadeFrom ends number (plan ∷ plans) (answers ∷ others) in
    let first : number ≡ number + 0 = omega arith in
    All-append all made (accepted_from ends (number + 1) plans others)
    (All-weaker (Contains made) all (λ entry has_it. (0, omega arith, subst (λ n. Contains (puts_from (client_of n plan) (start_of ends plan) plan.lines answers) entry) first has_it)) made (All-contains_itself made))
    (All-weaker (IsMadeFrom ends (number + 1) plans others) all (λ entry is. (suc is.0, omega (arith, is.1), subst (λ made. Contains made entry) (made_from_later ends number plan plans answers others is.0) is.2))
    (accepted_from ends (number + 1) plans others) (of_places ends (number + 1) plans others))
of_places ends number [] answers = All-nil (IsMadeFrom ends number [] answers)
of_places ends number (plan ∷ plans) [] = All-nil (IsMadeFrom ends number (plan ∷ plans) [])

-- of the accepted puts, the session at a place made its own
made_at : (ends : List Knowledge) (number : ℕ) (plans : List SessionPlan) (answers : List (List Answer)) (place key : ℕ) → place < length plans → place < length answers
    → made_on (number + place) key (accepted_from ends number plans answers) ≡ puts_on key (made_from ends number plans answers place)
made_at ends number (plan ∷ plans) (answers ∷ others) zero key within within_answers =
    let first : number + 0 ≡ number = omega arith in
    let made : ℕ → List (ℕ × Put) = λ n. puts_from (client_of n plan) (start_of ends plan) plan.lines answers in
    accepted_of_first (number + 0) key ends number plan plans answers others first
    ∙ own_made (client_of number plan) (start_of ends plan) (number + 0) key plan.lines answers (sym first)
    ∙ ap (λ n. puts_on key (made n)) (sym first)
made_at ends number (plan ∷ plans) (answers ∷ others) (suc place) key within within_answers =
    let session : ℕ = number + suc place in
    let later : number + 1 + place ≡ session = omega arith in
    accepted_of_later session key ends number plan plans answers others (λ same. omega (arith, same))
    ∙ subst (λ s. made_on s key (accepted_from ends (number + 1) plans others) ≡ puts_on key (made_from ends (number + 1) plans others place)) later
    (made_at ends (number + 1) plans others place key (omega (arith, within)) (omega (arith, within_answers)))
    ∙ ap (puts_on key) (made_from_later ends number plan plans answers others place)
made_at ends number [] answers place key within within_answers = absurd (omega (arith, within))
made_at ends number plans [] place key within within_answers = absurd (omega (arith, within_answers))

module _ (table : List (List ℕ)) (ledger : Ledger) (ends : List Knowledge) where
  -- the session at a place, of those from a number on
  abbrev CameAt : ℕ → List SessionPlan → List (List Answer) → List (List (ℕ × PlainReply)) → ℕ → Type 0
  CameAt number plans answers heard place =
      let plan : SessionPlan = slice_index_or plans place no_plan in
      CameOfSession table ledger (client_of (number + place) plan) (origin_of ends plan.after) plan.lines (slice_index_or answers place []) (slice_index_or heard place [])

  came_at : (number : ℕ) (plans : List SessionPlan) (answers : List (List Answer)) (heard : List (List (ℕ × PlainReply))) → CameOfSessions table ledger ends number plans answers heard
      → (place : ℕ) → place < length plans → CameAt number plans answers heard place
  came_at number (plan ∷ plans) (answers ∷ others) (heard ∷ more) came zero within =
      let first : number ≡ number + 0 = omega arith in
      subst (λ n. CameOfSession table ledger (client_of n plan) (origin_of ends plan.after) plan.lines answers heard) first came.0
  came_at number (plan ∷ plans) (answers ∷ others) (heard ∷ more) came (suc place) within =
      let its : SessionPlan = slice_index_or plans place no_plan in
      let later : number + 1 + place ≡ number + suc place = omega arith in
      subst (λ n. CameOfSession table ledger (client_of n its) (origin_of ends its.after) its.lines (slice_index_or others place []) (slice_index_or more place [])) later
      (came_at (number + 1) plans others more came.1 place (omega (arith, within)))
  came_at number [] answers heard came place within = absurd (omega (arith, within))
  came_at number (plan ∷ plans) [] heard came place within = absurd came
  came_at number (plan ∷ plans) (answers ∷ others) [] came place within = absurd came

  -- each session has its answers
  pub as_many_answers : (number : ℕ) (plans : List SessionPlan) (answers : List (List Answer)) (heard : List (List (ℕ × PlainReply))) → CameOfSessions table ledger ends number plans answers heard
      → length answers ≡ length plans
  as_many_answers number [] [] [] came = refl
  as_many_answers number (plan ∷ plans) (answers ∷ others) (heard ∷ more) came = let rest = as_many_answers (number + 1) plans others more came.1 in omega (arith, rest)
  as_many_answers number [] [] (heard ∷ more) came = absurd came
  as_many_answers number [] (answers ∷ others) heard came = absurd came
  as_many_answers number (plan ∷ plans) [] heard came = absurd came
  as_many_answers number (plan ∷ plans) (answers ∷ others) [] came = absurd came

  -- and the puts of each are numbered one by one
  numbered_all : (number : ℕ) (plans : List SessionPlan) (answers : List (List Answer)) (heard : List (List (ℕ × PlainReply))) → CameOfSessions table ledger ends number plans answers heard
      → AreNumberedFrom ends number plans answers
  numbered_all number (plan ∷ plans) (answers ∷ others) (heard ∷ more) came =
      (numbered (client_of number plan) table (start_of ends plan) 1 plan.lines answers came.0.replies came.0.answered, numbered_all (number + 1) plans others more came.1)
  numbered_all number [] answers heard came = tt
  numbered_all number (plan ∷ plans) [] heard came = tt
  numbered_all number (plan ∷ plans) (answers ∷ others) [] came = absurd came

module _ (script : Script) (table : List (List ℕ)) (report : Report) (ledger : Ledger) (came : CameOfSessions table ledger (ends_of script report) 1 script.sessions report.answers ledger.heard) where
  -- what came of each session of the script, by its number
  pub of_session : (session : ℕ) → IsSession script session → CameOfSession table ledger (client_at script session) (origin_at script report session) (lines_at script session) (answers_at report session) (heard_by ledger session)
  of_session session within =
      let same : 1 + (session - 1) ≡ session = omega (arith, within.0) in
      subst (CameOfSession table ledger (client_at script session) (origin_at script report session) (lines_at script session) (answers_at report session)) (sym (from_first [] ledger.heard session within.0))
      (subst (λ n. CameOfSession table ledger (client_of n (plan_at script session)) (origin_at script report session) (lines_at script session) (answers_at report session) (slice_index_or ledger.heard (session - 1) [])) same
      (came_at table ledger (ends_of script report) 1 script.sessions report.answers ledger.heard came (session - 1) (omega (arith, within.0, within.1))))

  made_of : (session key : ℕ) → IsSession script session → made_on session key (accepted script report) ≡ puts_on key (made_by script report session)
  made_of session key within =
      let same : 1 + (session - 1) ≡ session = omega (arith, within.0) in
      subst (λ n. made_on n key (accepted script report) ≡ puts_on key (puts_from (client_of n (plan_at script session)) (start_at script report session) (lines_at script session) (answers_at report session))) same
      (made_at (ends_of script report) 1 script.sessions report.answers (session - 1) key (omega (arith, within.0, within.1))
      (omega (arith, within.0, within.1, as_many_answers table ledger (ends_of script report) 1 script.sessions report.answers ledger.heard came)))

  made_by_some : (entry : ℕ × Put) → IsMadeFrom (ends_of script report) 1 script.sessions report.answers entry → (session : ℕ) × IsSession script session × Contains (made_by script report session) entry
  made_by_some entry is =
      let same : is.0 ≡ 1 + is.0 - 1 = omega arith in (
        1 + is.0,
        (omega arith, omega (arith, is.1)),
        subst (λ place.
            let plan : SessionPlan = slice_index_or script.sessions place no_plan in
            Contains (puts_from (client_of (1 + is.0) plan) (start_of (ends_of script report) plan) plan.lines (slice_index_or report.answers place [])) entry) same is.2,
      )

  -- So are the sessions of a report that came so.
  pub are_sessions : AreSessions script table report
  are_sessions = record {
    answered = λ session within. ((of_session session within).replies, (of_session session within).answered);
    as_many = as_many_answers table ledger (ends_of script report) 1 script.sessions report.answers ledger.heard came;
    whole = λ session within. (of_session session within).whole;
    made = made_of;
    next = λ session key. numbered_are_next session key (ends_of script report) 1 script.sessions report.answers (numbered_all table ledger (ends_of script report) 1 script.sessions report.answers ledger.heard came);
    of_one = All-weaker (IsMadeFrom (ends_of script report) 1 script.sessions report.answers) (λ entry. (session : ℕ) × IsSession script session × Contains (made_by script report session) entry) made_by_some
        (accepted script report) (of_places (ends_of script report) 1 script.sessions report.answers);
  }
