-- A session that waits for the end of another.
use Rattle.std.specs.Prelude.{◌≡◌, ℕ, ◌<◌, ◌≤◌, ◌^◌, false, List, [], All, length}
use Rattle.session_known.specs.Script.{AreEnded}
use Rattle.session_known.specs.declared.script.Level.TheVariants.{Causal}
use Rattle.session_known.specs.declared.script.Line.{Line}
use Rattle.session_proxy.specs.Lines.{AreReplicas, MayRun}
use Rattle.session_proxy.specs.State.{PlainProxy, WaitsFor, opening}
use Rattle.store_msg.specs.Reply.{PlainReply}
use Rattle.store_msg.specs.declared.ends.SessionEndsOver.{SessionEndsOver}
use Rattle.store_msg.specs.declared.request.Request.{Request}

-- What contracts see of it: its number and that of the other, its lines, where the keys live, and its ends.
pub record PlainWaiting (T R : Type 0) : Type 0 where
  pub me : ℕ
  pub after : ℕ
  pub lines : List Line
  pub table : List (List ℕ)
  pub ends : SessionEndsOver T R

-- its proxy before its first line
abbrev pub waiting_proxy : {T R : Type 0} → PlainWaiting T R → PlainProxy T R
waiting_proxy waiting = record { course = opening (record { session = waiting.me; level = Causal }) waiting.table waiting.lines (WaitsFor waiting.after); ends = waiting.ends }

-- What a proxy asks for, by what went through its ends.
pub record CanBegin (session : ℕ) (lines : List Line) (table : List (List ℕ)) (sent : List (List Request)) (received : List (ℕ × PlainReply)) : Type 0 where
  pub some : 1 ≤ session
  pub few_lines : length lines ≤ 4096
  pub may_run : All (MayRun table Causal) lines
  pub transactions : AreEnded false lines
  pub workers : length sent < 2 ^ 16
  pub replicas : All (AreReplicas (length sent)) table
  pub none_sent : All (λ requests. requests ≡ []) sent
  pub none_received : received ≡ []
