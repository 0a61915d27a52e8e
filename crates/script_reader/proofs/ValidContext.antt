-- What every context after faultless lines has.
use Rattle.std.specs.Prelude.{◌≡◌, ◌≢◌, ℕ, ◌≤◌, Bool, true, false, IsTrue, IsFalse, List, [], ◌∷◌, ◌++◌, map, length, sum_by, Option, MatchOption, All, AllPairs, ⊤}
use Rattle.composed_value.specs.Kind.{kind_of}
use Rattle.composed_value.specs.Put.{IsPayload}
use Rattle.composed_value.specs.declared.kind.Kind.{Kind}
use Rattle.placement.specs.Config.{IsOneOf, ArePins, IsOwnFactor, placed}
use Rattle.placement.specs.Name.{IsName}
use Rattle.placement.specs.declared.config.Config.{Config}
use Rattle.script_reader.specs.Faults.{Context, has_causal}
use Rattle.script_reader.specs.Said.{session_number}
use Rattle.composed_value.specs.Keyed.{kind_at}
use Rattle.session_known.specs.Script.{MayName}
use Rattle.placement.specs.Asked.{replicas_of}
use Rattle.session_known.specs.declared.script.Level.{Level}
use Rattle.session_known.specs.declared.script.Level.TheVariants.{Committed, Causal}
use Rattle.session_known.specs.declared.script.Line.{Line}
use Rattle.session_known.specs.declared.script.Line.TheVariants.{Put, Get, Await, Begin, Commit, Abort}
use Rattle.session_known.specs.declared.script.SessionPlan.{SessionPlan}

-- A line that a session of the level may have, where there are this many keys, of these kinds, and an await may name this many sessions.
abbrev pub Stands : ℕ → List Kind → ℕ → List (List ℕ) → Level → Line → Type 0
Stands keys of_keys named table level (Put key payload) = IsOneOf keys key × IsPayload payload × (kind_of payload ≡ kind_at of_keys key)
Stands keys of_keys named table level (Get key worker) = IsOneOf keys key × MayName level (replicas_of table key) worker
Stands keys of_keys named table level (Await key session count) = IsOneOf keys key × IsOneOf named session × (level ≡ Causal)
Stands keys of_keys named table level Begin = level ≡ Committed
Stands keys of_keys named table level Commit = level ≡ Committed
Stands keys of_keys named table level Abort = level ≡ Committed

-- The lines begin and end transactions in turn; `begun` says whether one is begun before the first line, and `after` after the last.
abbrev pub Leads : Bool → List Line → Bool → Type 0
Leads begun [] after = begun ≡ after
Leads begun (Begin ∷ lines) after = IsFalse begun × Leads true lines after
Leads begun (Commit ∷ lines) after = IsTrue begun × Leads false lines after
Leads begun (Abort ∷ lines) after = IsTrue begun × Leads false lines after
Leads begun (line ∷ lines) after = Leads begun lines after

-- each session but the last has ended its transactions, and `begun` says whether the last has one begun
abbrev pub AreLed : List SessionPlan → Bool → Type 0
AreLed [] begun = IsFalse begun
AreLed (plan ∷ []) begun = Leads false plan.lines begun
AreLed (plan ∷ other ∷ plans) begun = Leads false plan.lines false × AreLed (other ∷ plans) begun

-- the names are names, and pairwise different
pub record AreApart (names : List (List ℕ)) : Type 0 where
  pub named : All IsName names
  pub different : AllPairs (λ name other. name ≢ other) names

-- the keys of a config are few, pinned to its workers or placed at as many as there are, each of a kind, and have different names
pub record AreKeys (config : Config) (of_keys : List Kind) : Type 0 where
  pub few : length config.keys ≤ 128
  pub pins : All (λ key. ArePins config.workers key.pins) config.keys
  pub factors : All (IsOwnFactor config.workers) config.keys
  pub kinds : length of_keys ≡ length config.keys
  pub names : AreApart (map (λ key. key.name) config.keys)

-- The sessions are few, have few lines and different names, each of their lines may stand, and only the last may have a transaction begun.
pub record AreSessions (keys : ℕ) (of_keys : List Kind) (named : ℕ) (table : List (List ℕ)) (begun : Bool) (sessions : List SessionPlan) : Type 0 where
  pub names : AreApart (map (λ plan. plan.name) sessions)
  pub few : length sessions ≤ 16
  pub few_lines : sum_by (λ plan. length plan.lines) sessions ≤ 4096
  pub stand : All (λ plan. All (Stands keys of_keys named table plan.level) plan.lines) sessions
  pub led : AreLed sessions begun

-- A session comes after the causal one before it that has a name.
pub record Follows (version : ℕ) (named : List (List ℕ)) (earlier : List SessionPlan) (level : Level) (after : ℕ) : Type 0 where
  pub version_is : version ≡ 2
  pub causal : level ≡ Causal
  pub other : List ℕ
  pub number_is : after ≡ session_number named other
  pub is_there : has_causal earlier other ≡ true

-- a session comes after none, or after such a one
abbrev pub MayFollow : ℕ → List (List ℕ) → List SessionPlan → Level → Option ℕ → Type 0
MayFollow version named earlier level after = MatchOption after ⊤ (Follows version named earlier level)

-- so does each of these sessions, which come after earlier ones
abbrev pub AreInTurn : ℕ → List (List ℕ) → List SessionPlan → List SessionPlan → Type 0
AreInTurn version named earlier [] = ⊤
AreInTurn version named earlier (plan ∷ plans) = MayFollow version named earlier plan.level plan.after × AreInTurn version named (earlier ++ plan ∷ []) plans

-- The context is one that faultless lines leave.
pub record IsValidContext (context : Context) : Type 0 where
  pub version : IsOneOf 2 context.script.version
  pub header : IsTrue context.has_workers → IsTrue context.has_header
  pub workers : IsTrue context.has_workers → IsOneOf 8 context.script.config.workers × IsOneOf context.script.config.workers context.script.config.factor
  pub bare : IsFalse context.has_workers → (length context.script.config.keys ≤ 0) × (length context.script.sessions ≤ 0) × (context.script.config.factor ≡ 1)
  pub round : IsOneOf 64 context.script.round
  pub keys : AreKeys context.script.config context.script.kinds
  pub sessions : AreSessions (length context.script.config.keys) context.script.kinds (length context.named) (placed context.script.config) context.begun context.script.sessions
  pub in_turn : AreInTurn context.script.version context.named [] context.script.sessions
