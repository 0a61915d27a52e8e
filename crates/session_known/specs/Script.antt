-- Which scripts are valid, and what they say of keys and sessions.
use Rattle.std.specs.Prelude.{◌≡◌, ◌≢◌, ℕ, ◌-◌, ◌≤◌, Bool, true, false, IsTrue, IsFalse, List, [], ◌∷◌, length, map, sum_by, take, slice_get, slice_index_or, MatchOption, Option, Some, None, All, AllPairs, Contains, ⊤}
use Rattle.placement.specs.Name.{IsName}
use Rattle.placement.specs.Asked.{replicas_of}
use Rattle.placement.specs.Config.{IsOneOf, IsValidConfig, IsPlacement}
use Rattle.composed_value.specs.Keyed.{kind_at}
use Rattle.composed_value.specs.Kind.{kind_of}
use Rattle.composed_value.specs.Put.{IsPayload}
use Rattle.session_known.specs.declared.script.Level.{Level}
use Rattle.session_known.specs.declared.script.Level.TheVariants.{Committed, Causal}
use Rattle.session_known.specs.declared.script.Line.{Line}
use Rattle.session_known.specs.declared.script.Line.TheVariants.{Put, Get, Await, Begin, Commit, Abort}
use Rattle.session_known.specs.declared.script.Script.{Script}
use Rattle.session_known.specs.declared.script.SessionPlan.{SessionPlan}

-- the name of a key, by its number
abbrev pub key_name : Script → ℕ → List ℕ
key_name script key = slice_index_or (map (λ place. place.name) script.config.keys) (key - 1) []

-- the name of a session, by its number
abbrev pub session_name : Script → ℕ → List ℕ
session_name script session = slice_index_or (map (λ plan. plan.name) script.sessions) (session - 1) []

-- what a get may name: nothing, or a replica of the key in a session that is not causal
abbrev pub MayName : Level → List ℕ → Option ℕ → Type 0
MayName level replicas None = ⊤
MayName Causal replicas (Some worker) = ⊥
MayName level replicas (Some worker) = Contains replicas worker

-- A line that a session of the level may have: its key and the session that it names are there, its payload is of the key's kind,
-- only a causal session awaits, and only a committed one begins, commits and aborts.
abbrev pub MayStand : Script → List (List ℕ) → Level → Line → Type 0
MayStand script table level (Put key payload) = IsOneOf (length script.config.keys) key × IsPayload payload × (kind_of payload ≡ kind_at script.kinds key)
MayStand script table level (Get key worker) = IsOneOf (length script.config.keys) key × MayName level (replicas_of table key) worker
MayStand script table level (Await key session count) = IsOneOf (length script.config.keys) key × IsOneOf (length script.sessions) session × (level ≡ Causal)
MayStand script table level Begin = level ≡ Committed
MayStand script table level Commit = level ≡ Committed
MayStand script table level Abort = level ≡ Committed

-- transactions stand one after another, and each is ended; `begun` says whether one is begun before the first line
abbrev pub AreEnded : Bool → List Line → Type 0
AreEnded begun [] = IsFalse begun
AreEnded begun (Begin ∷ lines) = IsFalse begun × AreEnded true lines
AreEnded begun (Commit ∷ lines) = IsTrue begun × AreEnded false lines
AreEnded begun (Abort ∷ lines) = IsTrue begun × AreEnded false lines
AreEnded begun (line ∷ lines) = AreEnded begun lines

-- A session comes after another from version 2 on, where both are causal and the other is declared before it.
pub record MayComeAfter (version : ℕ) (earlier : List SessionPlan) (level : Level) (after : ℕ) : Type 0 where
  pub version_is : version ≡ 2
  pub causal : level ≡ Causal
  pub is_earlier : IsOneOf (length earlier) after
  pub earlier_causal : slice_get (map (λ plan. plan.level) earlier) (after - 1) ≡ Some Causal

-- the lines of a session are lawful for its level, the keys and the placement
pub record IsValidSession (script : Script) (table : List (List ℕ)) (plan : SessionPlan) : Type 0 where
  pub lines : All (MayStand script table plan.level) plan.lines
  pub transactions : AreEnded false plan.lines

-- A valid script, where the keys live as the table says.
pub record IsValidScript (script : Script) (table : List (List ℕ)) : Type 0 where
  pub version : IsOneOf 2 script.version
  pub config : IsValidConfig script.config
  pub placed : IsPlacement script.config table
  pub round : IsOneOf 64 script.round
  pub kinds : length script.kinds ≡ length script.config.keys
  pub keys_named : All (λ key. IsName key.name) script.config.keys
  pub key_names : AllPairs (λ key other. key.name ≢ other.name) script.config.keys
  pub sessions_named : All (λ plan. IsName plan.name) script.sessions
  pub session_names : AllPairs (λ plan other. plan.name ≢ other.name) script.sessions
  pub few_sessions : length script.sessions ≤ 16
  pub few_lines : sum_by (λ plan. length plan.lines) script.sessions ≤ 4096
  pub sessions : All (IsValidSession script table) script.sessions
  pub orders : (place : ℕ) (plan : SessionPlan) → slice_get script.sessions place ≡ Some plan → MatchOption plan.after ⊤ (MayComeAfter script.version (take place script.sessions) plan.level)

-- A valid script, wherever a placement of its config says that its keys live.
abbrev pub IsValid : Script → Type 0
IsValid script = (table : List (List ℕ)) × IsValidScript script table
