-- Whom a line of a valid script asks: replicas of its key, in a causal session any of them, else the named one or the home.
use Rattle.std.specs.List.{list_any}
use Rattle.std.specs.Prelude.{◌≡◌, ℕ, true, ◌-◌, ◌%◌, ◌≤◌, ◌==◌, not, List, [], ◌∷◌, All, Contains, length, slice_index_or, Option, Some, None}
use Rattle.std.proofs.Common.{◌∙◌, refl, ap, arith}
use Rattle.std.proofs.Math.Nat.{mod-lt}
use Rattle.std.proofs.lemmas.Bool.{eq-eqb}
use Rattle.std.proofs.lemmas.List.Elements.{All-cons, All-contains_itself, All-filter, All-get_or, All-nil, Contains-get_or}
use Rattle.std.proofs.lemmas.List.Folds.{list_any_at}
use Rattle.placement.specs.Asked.{ask_order, home_at, others, replicas_of}
use Rattle.placement.specs.Config.{IsOneOf}
use Rattle.session_known.specs.Lawful.{MayReply}
use Rattle.session_known.specs.Requests.{asked_by}
use Rattle.session_known.specs.Script.{IsValidScript, MayName, MayStand}
use Rattle.session_known.specs.Session.{Client}
use Rattle.session_known.specs.declared.script.Level.{Level}
use Rattle.session_known.specs.declared.script.Level.TheVariants.{Causal}
use Rattle.session_known.specs.declared.script.Line.{Line}
use Rattle.session_known.specs.declared.script.Line.TheVariants as lines
use Rattle.session_known.specs.declared.script.Script.{Script}
use Rattle.session_proxy.specs.Local.{key_asked, worker_asked}
use Rattle.session_proxy.specs.Share.{IsAsked}
use Rattle.worker_core.specs.State.{lives_at}
use Rattle.session_proxy.proofs.ReplicasLemmas.{key_has_replicas}
use Rattle.run_ledger.proofs.ByNumberLemmas.{from_first}

-- a replica of a key holds it
pub holds_key : (table : List (List ℕ)) (key worker : ℕ) → 1 ≤ key → Contains (replicas_of table key) worker → lives_at table worker key ≡ true
holds_key table key worker some has_it =
    ap (list_any (λ replica. replica == worker)) (from_first [] table key some)
    ∙ list_any_at (λ replica. replica == worker) (replicas_of table key) has_it.0 worker has_it.1 (eq-eqb _ worker has_it.2)

-- some workers, each of which meets a condition
record AreSome (Is : ℕ → Type 0) (workers : List ℕ) : Type 0 where
  some : 1 ≤ length workers
  each : All Is workers

-- the one whose turn it is meets it
in_turn : (Is : ℕ → Type 0) (workers : List ℕ) (place : ℕ) → AreSome Is workers → Is (slice_index_or workers (place % length workers) 0)
in_turn Is workers place are = All-get_or Is workers (place % length workers) 0 (mod-lt place are.some) are.each

-- one worker alone
one_alone : (Is : ℕ → Type 0) (worker : ℕ) → Is worker → AreSome Is (worker ∷ [])
one_alone Is worker is = record { some = omega arith; each = All-cons Is worker [] is (All-nil Is) }

module _ (script : Script) (table : List (List ℕ)) (valid : IsValidScript script table) where
  -- a key's home is one of its replicas
  pub home_is_replica : (session key : ℕ) → IsOneOf (length script.config.keys) key → Contains (replicas_of table key) (home_at table session key)
  home_is_replica session key known =
      let replicas : List ℕ = replicas_of table key in
      Contains-get_or replicas ((session - 1) % length replicas) 0 (mod-lt (session - 1) (key_has_replicas script table key valid known).some)

  module _ (session key : ℕ) (known : IsOneOf (length script.config.keys) key) where
    -- a replica of the key
    abbrev IsReplica : ℕ → Type 0
    IsReplica worker = Contains (replicas_of table key) worker

    in_order : AreSome IsReplica (ask_order table session key)
    in_order = record {
      some = omega arith;
      each = All-cons IsReplica (home_at table session key) (others (home_at table session key) (replicas_of table key)) (home_is_replica session key known)
          (All-filter (λ replica. not (replica == home_at table session key)) IsReplica (replicas_of table key) (All-contains_itself (replicas_of table key)));
    }

    by_get : (level : Level) (named : Option ℕ) → MayName level (replicas_of table key) named → AreSome IsReplica (asked_by level table session key named)
    by_get Causal named may = in_order
    by_get level (Some worker) may = one_alone IsReplica worker may
    by_get level None may = one_alone IsReplica (home_at table session key) (home_is_replica session key known)

    -- whom a get asks may reply to it
    pub may_reply : (level : Level) (named : Option ℕ) (place : ℕ) → MayName level (replicas_of table key) named
        → MayReply level table session key named (let order = asked_by level table session key named in slice_index_or order (place % length order) 0)
    may_reply Causal named place may = in_turn IsReplica (ask_order table session key) place in_order
    may_reply level (Some worker) place may = in_turn (λ asked. asked ≡ worker) (worker ∷ []) place (one_alone (λ asked. asked ≡ worker) worker refl)
    may_reply level None place may = in_turn (λ asked. asked ≡ home_at table session key) (home_at table session key ∷ []) place (one_alone (λ asked. asked ≡ home_at table session key) (home_at table session key) refl)

  -- a line that asks has a key of the script, and asks its replicas alone
  pub key_known : (level : Level) (line : Line) → MayStand script table level line → IsAsked line → IsOneOf (length script.config.keys) (key_asked line)
  key_known level (lines.Get key named) may asked = may.0
  key_known level (lines.Await key session count) may asked = may.0
  key_known level line may asked = absurd asked

  pub asked_is_replica : (client : Client) (line : Line) (place : ℕ) → MayStand script table client.level line → IsAsked line
      → Contains (replicas_of table (key_asked line)) (worker_asked table client line place)
  asked_is_replica client (lines.Get key named) place may asked =
      in_turn (λ worker. Contains (replicas_of table key) worker) (asked_by client.level table client.session key named) place (by_get client.session key may.0 client.level named may.1)
  asked_is_replica client (lines.Await key session count) place may asked =
      in_turn (λ worker. Contains (replicas_of table key) worker) (ask_order table client.session key) place (in_order client.session key may.0)
  asked_is_replica client line place may asked = absurd asked
