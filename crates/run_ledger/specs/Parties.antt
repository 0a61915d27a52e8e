-- What the parties of a run leave behind when it is drained: of each its own share, and of two what settling a box tells.
use Rattle.std.specs.Prelude.{◌≡◌, ◌≢◌, ℕ, ◌+◌, ◌-◌, List, [], ◌∷◌, All, is_some, length, map, slice_index_or, Option, Some, None, ⊤}
use Rattle.std.specs.List.{range_with_len}
use Rattle.mail_contract.specs.Got.{AreAll, AreIn}
use Rattle.mail_contract.specs.Takes.{IsFront, from_sender}
use Rattle.merge_world.specs.Effects.{cells_at}
use Rattle.merge_world.specs.declared.private_map.KeyCells.{KeyCells}
use Rattle.placement.specs.Config.{IsOneOf}
use Rattle.session_known.specs.Accepted.{client_of, ends_of, origin_of}
use Rattle.session_known.specs.Form.{final_places}
use Rattle.session_known.specs.Session.{Client, Knowledge}
use Rattle.session_known.specs.declared.report.Report.{Report}
use Rattle.session_known.specs.declared.script.Level.TheVariants.{Eventual}
use Rattle.session_known.specs.declared.script.Script.{Script}
use Rattle.session_known.specs.declared.script.SessionPlan.{SessionPlan}
use Rattle.session_proxy.specs.Share as proxies
use Rattle.session_proxy.specs.State as sessions
use Rattle.worker_core.specs.Kept.{IsRequest}
use Rattle.worker_core.specs.Share.{HoldsReceived, Share, told_to}
use Rattle.worker_core.specs.State.{Entries, Lists, dirty, kept_request, opening_state, place_at}
use Rattle.run_ledger.specs.Came.{IsWhole}
use Rattle.run_ledger.specs.Ledger.{Ledger, WorkerEnd}

-- A worker that was sealed: its lists then; and its cells, and the batches that its box has handed out, once it has heard all gossip.
pub record SealedWorker : Type 0 where
  pub lists : Lists
  pub cells : List (Option KeyCells)
  pub got : ℕ → ℕ → Option Entries

-- none
abbrev pub no_sealed : SealedWorker
no_sealed = record {
  lists = record { state = opening_state 0 0 [] [] 0; received = []; got = λ sender place. None; replied = []; told = [] };
  cells = [];
  got = λ sender place. None;
}

abbrev pub no_session : sessions.Lists
no_session = record { course = sessions.opening (record { session = 0; level = Eventual }) [] [] (sessions.WaitsFor 0); sent = []; received = [] }

-- the workers, ascending, and the sessions of a run
pub record Parties : Type 0 where
  pub workers : List SealedWorker
  pub sessions : List sessions.Lists

-- a worker and a session by their numbers, from 1
abbrev pub sealed_at : Parties → ℕ → SealedWorker
sealed_at parties worker = slice_index_or (no_sealed ∷ parties.workers) worker no_sealed

abbrev pub session_at : Parties → ℕ → sessions.Lists
session_at parties session = slice_index_or (no_session ∷ parties.sessions) session no_session

-- what is in hand of a worker, and of all
abbrev pub end_of : SealedWorker → WorkerEnd
end_of worker = record { me = worker.lists.state.me; cells = worker.cells; received = worker.lists.received; got = worker.got }

abbrev pub ledger_of : Parties → Ledger
ledger_of parties = record { workers = map end_of parties.workers; heard = map (λ session. session.received) parties.sessions }

-- A worker of the script kept its share, and was sealed with nothing kept, held or left to tell; and once it has heard all gossip, its cells
-- are the join of what it received.
pub record IsSealed (script : Script) (table : List (List ℕ)) (worker : SealedWorker) : Type 0 where
  pub placement_is : worker.lists.state.placement ≡ table
  pub kinds_are : worker.lists.state.kinds ≡ script.kinds
  pub mates : length worker.lists.told + 1 ≡ script.config.workers
  pub sessions : length worker.lists.replied ≡ length script.sessions
  pub share : Share worker.lists
  pub requests : All (λ message. IsRequest message.1) worker.lists.received
  pub none_kept : kept_request worker.lists.state.kept ≡ []
  pub none_held : worker.lists.state.held ≡ None
  pub none_left : dirty worker.lists.state ≡ 0
  pub keys : (key : ℕ) → is_some (cells_at worker.cells key) ≡ is_some (cells_at worker.lists.state.cells key)
  pub holds : HoldsReceived script.kinds worker.cells worker.lists.received [] worker.got []
  pub grown : (sender place : ℕ) (batch : Entries) → worker.lists.got sender place ≡ Some batch → worker.got sender place ≡ Some batch

-- A session of the script, which knew `origin` at its start, kept its share, and all its lines are answered.
pub record HasEnded (table : List (List ℕ)) (workers : ℕ) (client : Client) (origin : Knowledge) (plan : SessionPlan) (session : sessions.Lists) : Type 0 where
  pub client_is : session.course.client ≡ client
  pub table_is : session.course.table ≡ table
  pub lines_are : session.course.lines ≡ plan.lines
  pub origin_is : session.course.origin ≡ sessions.Knew origin
  pub whole : length session.course.answers ≡ length session.course.lines
  pub asked : length session.sent ≡ workers
  pub share : proxies.Share session

-- what each knows then
abbrev pub known_then : List sessions.Lists → List Knowledge
known_then those = map (λ session. (sessions.state_now session.course).knows) those

-- and so all sessions, from a number on, where `ends` is what each knows then
abbrev pub HaveEnded : List (List ℕ) → ℕ → List Knowledge → ℕ → List SessionPlan → List sessions.Lists → Type 0
HaveEnded table workers ends number [] [] = ⊤
HaveEnded table workers ends number (plan ∷ plans) (session ∷ others) = HasEnded table workers (client_of number plan) (origin_of ends plan.after) plan session × HaveEnded table workers ends (number + 1) plans others
HaveEnded table workers ends number plans sessions = ⊥

-- What settling the boxes of a worker and a session told: the worker received all that the session sent it, and the session the first of
-- what the worker replied.
pub record ArePaired (worker session : ℕ) (of_worker : SealedWorker) (of_session : sessions.Lists) : Type 0 where
  pub requests : from_sender session of_worker.lists.received ≡ slice_index_or of_session.sent (worker - 1) []
  pub replies : IsFront (from_sender worker of_session.received) (slice_index_or of_worker.lists.replied (session - 1) [])

-- And those of two workers: one heard from the other what that one told it, and all of it.
pub record AreMates (worker other : ℕ) (hears tells : SealedWorker) : Type 0 where
  pub sent : AreIn (hears.got other) (told_to tells.lists (place_at other worker))
  pub all : AreAll (hears.got other) (told_to tells.lists (place_at other worker))

-- The parties of a run of a script, drained, and the report that is made of them.
pub record AreDrained (script : Script) (table : List (List ℕ)) (report : Report) (parties : Parties) : Type 0 where
  pub numbered : map (λ worker. worker.lists.state.me) parties.workers ≡ range_with_len 1 script.config.workers
  pub workers : All (IsSealed script table) parties.workers
  pub sessions : HaveEnded table script.config.workers (ends_of script report) 1 script.sessions parties.sessions
  -- boxes have messages of the parties alone
  pub of_sessions : All (λ worker. All (λ message. IsOneOf (length script.sessions) message.0) worker.lists.received) parties.workers
  pub of_workers : All (λ session. All (λ message. IsOneOf script.config.workers message.0) session.received) parties.sessions
  pub of_mates : All (λ worker. (sender place : ℕ) (batch : Entries) → worker.got sender place ≡ Some batch → IsOneOf script.config.workers sender × (sender ≢ worker.lists.state.me)) parties.workers
  -- what settling them told
  pub paired : (worker session : ℕ) → IsOneOf script.config.workers worker → IsOneOf (length script.sessions) session
      → ArePaired worker session (sealed_at parties worker) (session_at parties session)
  pub mates : (worker other : ℕ) → IsOneOf script.config.workers worker → IsOneOf script.config.workers other → other ≢ worker
      → AreMates worker other (sealed_at parties worker) (sealed_at parties other)
  -- and what is written down of them
  pub answers : report.answers ≡ map (λ session. session.course.answers) parties.sessions
  pub places : map (λ cell. (cell.key, cell.worker)) report.finals ≡ final_places script table
  pub finals : All (IsWhole (ledger_of parties)) report.finals
