-- What the parties of a drained run have in hand, party by party: it makes a ledger from which their report came.
use Rattle.std.specs.Prelude.{◌≡◌, ℕ, suc, ◌+◌, ◌-◌, ◌<◌, List, [], ◌∷◌, All, AllPairs, length, map, slice_index_or}
use Rattle.std.specs.List.{AllZip}
use Rattle.std.proofs.Common.{◌∙◌, refl, sym, ap, subst, arith}
use Rattle.std.proofs.lemmas.List.Elements.{All-weaker}
use Rattle.mail_contract.specs.Takes.{from_sender}
use Rattle.placement.specs.Config.{IsOneOf}
use Rattle.session_known.specs.Session.{Knowledge}
use Rattle.session_known.specs.Accepted.{client_of, ends_of, origin_of}
use Rattle.session_known.specs.Requests.{requests_of}
use Rattle.session_known.specs.Script.{IsValidScript}
use Rattle.session_known.specs.declared.report.Report.{Report}
use Rattle.session_known.specs.declared.script.Script.{Script}
use Rattle.session_known.specs.declared.script.SessionPlan.{SessionPlan}
use Rattle.session_proxy.specs.Share.{to_worker}
use Rattle.session_proxy.specs.State as sessions
use Rattle.store_msg.specs.Reply.{PlainReply}
use Rattle.worker_core.specs.Share.{CoversEarlier, IsReplyBy, gets_after}
use Rattle.worker_core.specs.State.{lives_at}
use Rattle.run_ledger.specs.Came.{Came, CameFrom, CameOfSession, CameOfSessions, CameToWorker}
use Rattle.legal_runs.specs.Laws.{CameSettled}
use Rattle.run_ledger.specs.Ledger.{Ledger, WorkerEnd, heard_by}
use Rattle.run_ledger.specs.Parties.{AreDrained, HasEnded, HaveEnded, IsSealed, Parties, SealedWorker, end_of, ledger_of, no_session, sealed_at, session_at}
use Rattle.legal_runs.proofs.EndedGossipLemmas.{gossip_came, settled}
use Rattle.legal_runs.proofs.EndedRepliesLemmas.{all_heard, came_to, heard_of, of_workers, replies_to}
use Rattle.legal_runs.proofs.EndedSessionsLemmas.{answered, whole}
use Rattle.legal_runs.proofs.PartiesLemmas.{each_end, ended, heard_at, in_ledger, me_is, of_worker, sealed}
use Rattle.legal_runs.proofs.SealedLemmas.{replied, replied_to, rising}
use Rattle.legal_runs.proofs.SessionsLemmas.{IsSession, client_at, lines_at, no_plan, origin_at, plan_at}
use Rattle.run_ledger.proofs.WorkersLemmas.{IsWorker}

-- the numbers that are in hand are those of the workers
numbers_are : (workers : List SealedWorker) → map (λ (end : WorkerEnd). end.me) (map end_of workers) ≡ map (λ worker. worker.lists.state.me) workers
numbers_are [] = refl
numbers_are (worker ∷ workers) = ap (λ rest. worker.lists.state.me ∷ rest) (numbers_are workers)

module _ (table : List (List ℕ)) (ledger : Ledger) (ends : List Knowledge) where
  -- the session at a place came so, of those from a number on
  abbrev CameAt : ℕ → List SessionPlan → List sessions.Lists → ℕ → Type 0
  CameAt number plans those place =
      let plan : SessionPlan = slice_index_or plans place no_plan in
      let session : sessions.Lists = slice_index_or those place no_session in
      CameOfSession table ledger (client_of (number + place) plan) (origin_of ends plan.after) plan.lines session.course.answers session.received

  -- and so all
  sessions_came : (workers number : ℕ) (plans : List SessionPlan) (those : List sessions.Lists) → HaveEnded table workers ends number plans those
      → ((place : ℕ) → place < length plans → CameAt number plans those place)
      → CameOfSessions table ledger ends number plans (map (λ session. session.course.answers) those) (map (λ session. session.received) those)
  sessions_came workers number [] [] have each = tt
  sessions_came workers number (plan ∷ plans) (session ∷ others) have each =
      let first : number + 0 ≡ number = omega arith in (
        subst (λ n. CameOfSession table ledger (client_of n plan) (origin_of ends plan.after) plan.lines session.course.answers session.received) first (each 0 (omega arith)),
        sessions_came workers (number + 1) plans others have.1 (λ place within.
            let its : SessionPlan = slice_index_or plans place no_plan in
            let of_it : sessions.Lists = slice_index_or others place no_session in
            let later : number + suc place ≡ number + 1 + place = omega arith in
            subst (λ n. CameOfSession table ledger (client_of n its) (origin_of ends its.after) its.lines of_it.course.answers of_it.received) later (each (suc place) (omega (arith, within)))),
      )
  sessions_came workers number [] (session ∷ others) have each = absurd have
  sessions_came workers number (plan ∷ plans) [] have each = absurd have

module _ (script : Script) (table : List (List ℕ)) (report : Report) (parties : Parties) (drained : AreDrained script table report parties) where
  module _ (worker : ℕ) (is : IsWorker script worker) where
    abbrev it : SealedWorker
    it = sealed_at parties worker

    abbrev is_sealed : IsSealed script table it
    is_sealed = sealed script table report parties drained worker is

    -- what each session heard of a worker are the replies that the worker sent it
    heard_there : (session : ℕ) → IsSession script session → replied_to it session ≡ from_sender it.lists.state.me (heard_by (ledger_of parties) session)
    heard_there session within =
        sym (ap (λ me. from_sender me (heard_by (ledger_of parties) session)) (me_is script table report parties drained worker is) ∙ ap (from_sender worker) (heard_at parties session)
        ∙ heard_of script table report parties drained session within worker is)

    -- what is in hand of a worker came to it so
    came_to_worker : CameToWorker script table (ledger_of parties) (end_of it)
    came_to_worker = record {
      keys = λ key. is_sealed.keys key ∙ is_sealed.share.holds key ∙ ap (λ placement. lives_at placement it.lists.state.me key) is_sealed.placement_is;
      holds = is_sealed.holds;
      of_sessions = of_worker script table report parties drained (λ its. All (λ message. IsOneOf (length script.sessions) message.0) its.lists.received) drained.of_sessions worker is;
      requests = is_sealed.requests;
      replies = λ session within. subst (AllZip (IsReplyBy it.lists.state.me table script.kinds is_sealed.holds.joined) (gets_after session [] it.lists.received)) (heard_there session within)
          (replied script table it is_sealed session within);
      rising = λ session within. subst (AllPairs CoversEarlier) (heard_there session within) (rising script table it is_sealed session within);
      gossip = λ sender place batch got. subst (λ me. CameFrom script (ledger_of parties) me sender batch) (sym (me_is script table report parties drained worker is))
          (gossip_came script table report parties drained worker is sender place batch got);
    }

  module _ (session : ℕ) (within : IsSession script session) where
    abbrev of_it : sessions.Lists
    of_it = session_at parties session

    abbrev has_ended : HasEnded table script.config.workers (client_at script session) (origin_at script report session) (plan_at script session) of_it
    has_ended = ended script table report parties drained session within

    abbrev its_replies : List (List PlainReply)
    its_replies = replies_to script table report parties drained session within

    -- and of a session
    came_of_session : CameOfSession table (ledger_of parties) (client_at script session) (origin_at script report session) (lines_at script session) of_it.course.answers of_it.received
    came_of_session = record {
      whole = whole table script.config.workers (client_at script session) (origin_at script report session) (plan_at script session) of_it has_ended;
      replies = its_replies;
      answered = answered table script.config.workers (client_at script session) (origin_at script report session) (plan_at script session) of_it has_ended;
      heard_are = sym (all_heard script table report parties drained session within);
      of_workers = All-weaker (λ message. IsWorker script message.0) (λ message. IsOneOf (length (ledger_of parties).workers) message.0)
          (λ message. in_ledger script table report parties drained message.0) of_it.received (of_workers script table report parties drained session within);
      requests =
          let sends = requests_of table (client_at script session) (origin_at script report session) (map length its_replies) (lines_at script session) of_it.course.answers in
          each_end script table report parties drained (λ end. from_sender session end.received ≡ to_worker end.me sends)
          (λ worker is. came_to script table report parties drained session within worker is ∙ ap (λ me. to_worker me sends) (sym (me_is script table report parties drained worker is)));
    }

  -- the session at a place from 0 is that of the number from 1
  came_at_place : (place : ℕ) → place < length script.sessions → CameAt table (ledger_of parties) (ends_of script report) 1 script.sessions parties.sessions place
  came_at_place place within =
      let of_it : sessions.Lists = slice_index_or parties.sessions place no_session in
      let its : ℕ → SessionPlan = λ i. slice_index_or script.sessions i no_plan in
      let first : suc place ≡ 1 + place = omega arith in
      let same : suc place - 1 ≡ place = omega arith in
      subst (λ n. CameOfSession table (ledger_of parties) (client_of n (its place)) (origin_of (ends_of script report) (its place).after) (its place).lines of_it.course.answers of_it.received) first
      (subst (λ i. CameOfSession table (ledger_of parties) (client_of (suc place) (its i)) (origin_of (ends_of script report) (its i).after) (its i).lines of_it.course.answers of_it.received) same
      (came_of_session (suc place) (omega arith, omega (arith, within))))

  -- so the report came from what is in hand
  came : Came script table report (ledger_of parties)
  came = record {
    numbered = numbers_are parties.workers ∙ drained.numbered;
    sessions = subst (λ answers. CameOfSessions table (ledger_of parties) (ends_of script report) 1 script.sessions answers (ledger_of parties).heard) (sym drained.answers)
        (sessions_came table (ledger_of parties) (ends_of script report) script.config.workers 1 script.sessions parties.sessions drained.sessions came_at_place);
    workers = each_end script table report parties drained (CameToWorker script table (ledger_of parties)) came_to_worker;
    places = drained.places;
    finals = drained.finals;
  }

-- The report of the parties of a drained run came from the ledger of what they have in hand, and their gossip has settled.
pub drained_came : (script : Script) (table : List (List ℕ)) (report : Report) (parties : Parties) → IsValidScript script table → AreDrained script table report parties
    → CameSettled script table report (ledger_of parties)
drained_came script table report parties valid drained = record {
  came = came script table report parties drained;
  settled = settled script table report parties drained valid;
}
