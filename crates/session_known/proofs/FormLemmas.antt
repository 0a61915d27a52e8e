-- What a report in form names is there.
use Rattle.std.specs.Prelude.{◌≡◌, ℕ, ◌<◌, List, [], ◌∷◌, All, length, map}
use Rattle.std.specs.List.{flat_map, range_with_len}
use Rattle.std.proofs.Common.{sym, ap, subst, ◌∙◌, arith}
use Rattle.std.proofs.lemmas.List.{get_or-map, length-map}
use Rattle.std.proofs.lemmas.List.Elements.{All-nil, All-append, All-head, All-tail, All-map, All-filter, All-from_get_or}
use Rattle.std.proofs.lemmas.List.FromFn.{length-range_with_len, get_or-range_with_len}
use Rattle.session_known.specs.Form.{HasForm, final_places, replicas_ascending}
use Rattle.placement.specs.Config.{IsOneOf}
use Rattle.session_known.specs.Script.{IsValidScript}
use Rattle.session_known.specs.declared.report.Report.{Report}
use Rattle.session_known.specs.declared.script.Script.{Script}

-- what holds of each part holds of the parts joined
All-flat_map : {A B : Type 0} (Q : A → Type 0) (P : B → Type 0) (parts : A → List B) (items : List A) → ((item : A) → Q item → All P (parts item)) → All Q items → All P (flat_map parts items)
All-flat_map Q P parts [] each all = All-nil P
All-flat_map Q P parts (item ∷ items) each all = All-append P (parts item) (flat_map parts items) (each item (All-head Q item items all)) (All-flat_map Q P parts items each (All-tail Q item items all))

-- the numbers from 1 to n
All-one_of : (n : ℕ) → All (IsOneOf n) (range_with_len 1 n)
All-one_of n = All-from_get_or (IsOneOf n) (range_with_len 1 n) 0 (λ i within. let within' : i < n = omega (arith, length-range_with_len 1 n) in rw (get_or-range_with_len 1 n i 0 within') (omega arith, omega arith))

-- what holds of what is made of each item
All-from_map : {A B : Type 0} (P : B → Type 0) (f : A → B) (items : List A) → All P (map f items) → All (λ item. P (f item)) items
All-from_map P f items all k d within = subst P (get_or-map f items k d (f d) within) (all k (f d) (omega (arith, length-map items f)))

-- a key of the script at one of its workers
abbrev pub IsPlace : Script → ℕ × ℕ → Type 0
IsPlace script place = IsOneOf (length script.config.keys) place.0 × IsOneOf script.config.workers place.1

-- The places of final cells are keys of the script at its workers.
pub places_known : (script : Script) (table : List (List ℕ)) → All (IsPlace script) (final_places script table)
places_known script table =
    All-flat_map (IsOneOf (length script.config.keys)) (IsPlace script) (λ key. map (λ worker. (key, worker)) (replicas_ascending script table key)) (range_with_len 1 (length script.config.keys))
    (λ key is_key. All-map (IsPlace script) (λ worker. (key, worker)) (replicas_ascending script table key)
    (All-filter _ (λ worker. IsPlace script (key, worker)) (range_with_len 1 script.config.workers) (λ k d within. (is_key, All-one_of script.config.workers k d within))))
    (All-one_of (length script.config.keys))

-- So are those of the final cells of a report in form.
pub finals_known : (script : Script) (table : List (List ℕ)) (report : Report) → HasForm script table report → All (λ cell. IsPlace script (cell.key, cell.worker)) report.finals
finals_known script table report form = All-from_map (IsPlace script) (λ cell. (cell.key, cell.worker)) report.finals (subst (All (IsPlace script)) (sym form.places) (places_known script table))

-- A placement of a valid script has each of its keys.
pub placed_keys : (script : Script) (table : List (List ℕ)) → IsValidScript script table → length table ≡ length script.config.keys
placed_keys script table valid = ap length valid.placed.replicas ∙ length-map script.config.keys _
