-- The replicas of each key of a valid script are workers of the script.
use Rattle.std.specs.Prelude.{ℕ, List, [], ◌∷◌, All, length, map}
use Rattle.std.proofs.Common.{◌∙◌, refl, sym, ap, subst, arith}
use Rattle.std.proofs.lemmas.List.{take_all}
use Rattle.std.proofs.lemmas.List.Elements.{All-cons, All-nil}
use Rattle.placement.specs.Asked.{replicas_of}
use Rattle.placement.specs.Config.{EachHasReplicas, IsOneOf, replicas_on}
use Rattle.placement.specs.declared.config.Config.{Config}
use Rattle.placement.specs.declared.config.KeyPlace.{KeyPlace}
use Rattle.placement.proofs.ReplicaLemmas.{table_of_all}
use Rattle.session_known.specs.Script.{IsValidScript}
use Rattle.session_known.specs.declared.script.Script.{Script}
use Rattle.session_known.proofs.FormLemmas.{placed_keys}
use Rattle.session_proxy.specs.Lines.{AreReplicas}
use Rattle.session_proxy.proofs.AskLemmas.{replicas_there}

-- where each key has its replicas, each list of the table is one of replicas
all_replicas : (config : Config) (keys : List KeyPlace) (table : List (List ℕ)) → EachHasReplicas config keys table → All (AreReplicas config.workers) table
all_replicas config [] [] each = All-nil (AreReplicas config.workers)
all_replicas config (key ∷ keys) (replicas ∷ table) each =
    All-cons (AreReplicas config.workers) replicas table (record { some = each.0.some; are_workers = each.0.are_workers; different = each.0.different })
    (all_replicas config keys table each.1)
all_replicas config [] (replicas ∷ table) each = absurd each
all_replicas config (key ∷ keys) [] each = absurd each

-- so it is in a valid script
pub table_has_replicas : (script : Script) (table : List (List ℕ)) → IsValidScript script table → All (AreReplicas script.config.workers) table
table_has_replicas script table valid =
    let keys : List KeyPlace = script.config.keys in
    all_replicas script.config keys table
    (table_of_all script.config valid.placed.ring keys (length keys) table valid.config valid.placed.is_ring refl (omega arith)
    (valid.placed.replicas ∙ ap (map (replicas_on valid.placed.ring script.config)) (sym (take_all (length keys) keys (omega arith)))))

-- a key of the script is one of the table
pub key_in_table : (script : Script) (table : List (List ℕ)) (key : ℕ) → IsValidScript script table → IsOneOf (length script.config.keys) key → IsOneOf (length table) key
key_in_table script table key valid known = subst (λ keys. IsOneOf keys key) (sym (placed_keys script table valid)) known

-- its replicas are workers of the script
pub key_has_replicas : (script : Script) (table : List (List ℕ)) (key : ℕ) → IsValidScript script table → IsOneOf (length script.config.keys) key → AreReplicas script.config.workers (replicas_of table key)
key_has_replicas script table key valid known =
    replicas_there script.config.workers table key (table_has_replicas script table valid) (key_in_table script table key valid known)
