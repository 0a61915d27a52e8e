-- Whoever replies to a line of a valid script is a worker of the script, and a key is asked for few times.
use Rattle.std.specs.Prelude.{ℕ, ◌-◌, ◌*◌, ◌≤◌, ◌==◌, not, List, ◌∷◌, Contains, length, Option, Some, None}
use Rattle.std.proofs.Common.{sym, subst, arith}
use Rattle.std.proofs.lemmas.List.Elements.{All-cons, All-contains, All-filter, All-get_or}
use Rattle.placement.specs.Asked.{home_at, last_asked, others, replicas_of}
use Rattle.placement.specs.Config.{IsOneOf}
use Rattle.session_known.specs.Lawful.{MayReply}
use Rattle.session_known.specs.Script.{IsValidScript, MayName}
use Rattle.session_known.specs.declared.script.Level.{Level}
use Rattle.session_known.specs.declared.script.Level.TheVariants.{Causal}
use Rattle.session_known.specs.declared.script.Script.{Script}
use Rattle.session_proxy.proofs.AskLemmas.{home_is_worker}
use Rattle.session_proxy.proofs.PigeonholeLemmas.{few_replicas}
use Rattle.session_proxy.proofs.ReplicasLemmas.{key_has_replicas, key_in_table, table_has_replicas}

module _ (script : Script) (table : List (List ℕ)) (valid : IsValidScript script table) where
  -- a replica of a key is a worker
  pub replica_is_worker : (key worker : ℕ) → IsOneOf (length script.config.keys) key → Contains (replicas_of table key) worker
      → IsOneOf script.config.workers worker
  replica_is_worker key worker known has_it =
      All-contains (IsOneOf script.config.workers) (replicas_of table key) worker (key_has_replicas script table key valid known).are_workers has_it

  -- so is a session's home of the key
  pub home_in_script : (session key : ℕ) → IsOneOf (length script.config.keys) key → 1 ≤ session → IsOneOf script.config.workers (home_at table session key)
  home_in_script session key known some =
      home_is_worker script.config.workers table session key (table_has_replicas script table valid) (key_in_table script table key valid known) some

  -- so is whoever may reply to a get
  pub replier_is_worker : (level : Level) (session key : ℕ) (named : Option ℕ) (worker : ℕ) → IsOneOf (length script.config.keys) key → 1 ≤ session
      → MayName level (replicas_of table key) named → MayReply level table session key named worker → IsOneOf script.config.workers worker
  replier_is_worker Causal session key named worker known some may replies = replica_is_worker key worker known replies
  replier_is_worker level session key (Some its) worker known some may replies =
      subst (IsOneOf script.config.workers) (sym replies) (replica_is_worker key its known may)
  replier_is_worker level session key None worker known some may replies =
      subst (IsOneOf script.config.workers) (sym replies) (home_in_script session key known some)

  -- and so is the last that is asked
  pub last_is_worker : (session key : ℕ) → IsOneOf (length script.config.keys) key → 1 ≤ session → IsOneOf script.config.workers (last_asked table session key)
  last_is_worker session key known some =
      let home : ℕ = home_at table session key in
      let rest : List ℕ = others home (replicas_of table key) in
      let is_worker : ℕ → Type 0 = IsOneOf script.config.workers in
      All-get_or is_worker (home ∷ rest) (length (home ∷ rest) - 1) 0 (omega arith)
      (All-cons is_worker home rest (home_in_script session key known some)
      (All-filter (λ replica. not (replica == home)) is_worker (replicas_of table key) (key_has_replicas script table key valid known).are_workers))

  -- 8 asks of each replica of a key are at most 64
  pub few_asks : (key : ℕ) → IsOneOf (length script.config.keys) key → 8 * length (replicas_of table key) ≤ 64
  few_asks key known =
      let are = key_has_replicas script table key valid known in
      let few = few_replicas script.config.workers (replicas_of table key) are.are_workers are.different in
      omega (arith, few, valid.config.workers_most)
