-- Lists of lines and names after references.
use Rattle.std.proofs.Common.{◌≡◌, ℕ, Bool, true, false, not, cond, nat_lt, List, [], ◌∷◌, ◌++◌, map, length, Some, None, Bor, position, refl, ap, sym, ◌∙◌, ◌+◌, ◌||◌, if◌then◌else◌, ◌-◌, slice_get, ◌≢◌, option_map, take, zero, suc, arith}
use Rattle.std.specs.List.{position_or_len, list_any, take-map}
use Rattle.std.specs.Str.{bytes_eq}
use Rattle.std.proofs.lemmas.List.{length-map, map-append}
use Rattle.std.proofs.lemmas.Option.{slice_get-map, slice_get_within}
use Rattle.script_reader.specs.Lines.{without_empty_last}
use Rattle.script_reader.specs.Said.{place_of, with_name}

place_of_references : (name : List ℕ) (names : List (Bor (List ℕ))) → position_or_len (λ other. bytes_eq name other.now) names ≡ position_or_len (bytes_eq name) (map (λ other. other.now) names)
place_of_references name [] = refl
place_of_references name (other ∷ names) = ap (λ n. cond (not (bytes_eq name other.now)) (1 + n) 0) (place_of_references name names)

-- a name is found where its bytes are
pub place_among : (name : List ℕ) (names : List (Bor (List ℕ))) → position (λ other. bytes_eq name other.now) names ≡ place_of (map (λ other. other.now) names) name
place_among name names =
    let places : position_or_len (λ other. bytes_eq name other.now) names ≡ position_or_len (bytes_eq name) (map (λ other. other.now) names) = place_of_references name names in
    let lengths : length names ≡ length (map (λ other. other.now) names) = sym (length-map names (λ other. other.now)) in
    λ i. cond (nat_lt (places i) (lengths i)) (Some (places i)) None

any_of_references : (name : List ℕ) (names : List (Bor (List ℕ))) → list_any (λ other. bytes_eq name other.now) names ≡ list_any (bytes_eq name) (map (λ other. other.now) names)
any_of_references name [] = refl
any_of_references name (other ∷ names) = ap (λ t. bytes_eq name other.now || t) (any_of_references name names)

name_added_as : (name : Bor (List ℕ)) (names : List (Bor (List ℕ))) (there : Bool) → map (λ other. other.now) (cond there names (names ++ name ∷ [])) ≡ cond there (map (λ other. other.now) names) (map (λ other. other.now) names ++ name.now ∷ [])
name_added_as name names true = refl
name_added_as name names false = map-append (λ (other : Bor (List ℕ)). other.now) names (name ∷ [])

-- a name that is added
pub name_added : (name : Bor (List ℕ)) (names : List (Bor (List ℕ))) → map (λ other. other.now) (if list_any (λ other. bytes_eq name.now other.now) names then names else names ++ name ∷ []) ≡ with_name (map (λ other. other.now) names) name.now
name_added name names =
    name_added_as name names (list_any (λ other. bytes_eq name.now other.now) names)
    ∙ ap (λ there. cond there (map (λ other. other.now) names) (map (λ other. other.now) names ++ name.now ∷ [])) (any_of_references name.now names)

-- an empty last line is dropped
pub last_dropped : (lines : List (List ℕ)) (n : ℕ) → length lines ≡ suc n → slice_get lines n ≡ Some [] → without_empty_last lines ≡ take n lines
last_dropped [] n counted last = absurd (omega arith)
last_dropped ([] ∷ []) zero counted last = refl
last_dropped ([] ∷ []) (suc n) counted last = absurd (omega arith)
last_dropped ((b ∷ line) ∷ []) zero counted last = absurd (cc)
last_dropped ((b ∷ line) ∷ []) (suc n) counted last = absurd (omega arith)
last_dropped (line ∷ next ∷ lines) zero counted last = absurd (omega arith)
last_dropped (line ∷ next ∷ lines) (suc n) counted last = ap (λ more. line ∷ more) (last_dropped (next ∷ lines) n (omega arith) last)

-- and another is kept
pub last_kept : (lines : List (List ℕ)) → ((n : ℕ) → length lines ≡ suc n → slice_get lines n ≡ Some [] → ⊥) → without_empty_last lines ≡ lines
last_kept [] last = refl
last_kept ([] ∷ []) last = absurd (last 0 refl refl)
last_kept ((b ∷ line) ∷ []) last = refl
last_kept (line ∷ next ∷ lines) last = ap (λ more. line ∷ more) (last_kept (next ∷ lines) (λ n counted is. last (suc n) (omega arith) is))

empty_list : (line : List ℕ) → length line ≡ 0 → line ≡ []
empty_list [] none = refl
empty_list (b ∷ line) none = absurd (omega arith)

last_of_references : (lines : List (Bor (List ℕ))) (last : Bor (List ℕ)) → slice_get lines (length lines - 1) ≡ Some last → (n : ℕ) → length (map (λ line. line.now) lines) ≡ suc n → slice_get (map (λ line. line.now) lines) n ≡ Some last.now
last_of_references lines last at n counted =
    let place : length lines - 1 ≡ n = omega (arith, length-map lines (λ (line : Bor (List ℕ)). line.now)) in
    slice_get-map (λ (line : Bor (List ℕ)). line.now) lines n ∙ ap (λ i. option_map (λ (line : Bor (List ℕ)). line.now) (slice_get lines i)) (sym place) ∙ ap (option_map (λ line. line.now)) at

-- an empty last line of lines by reference
pub dropped_of_references : (lines : List (Bor (List ℕ))) (last : Bor (List ℕ)) → slice_get lines (length lines - 1) ≡ Some last → length last.now ≡ 0 → map (λ line. line.now) (take (length lines - 1) lines) ≡ without_empty_last (map (λ line. line.now) lines)
dropped_of_references lines last at empty =
    let some = slice_get_within lines (length lines - 1) last at in
    let counted : length (map (λ line. line.now) lines) ≡ suc (length lines - 1) = omega (arith, length-map lines (λ (line : Bor (List ℕ)). line.now)) in
    sym (take-map (λ (line : Bor (List ℕ)). line.now) (length lines - 1) lines)
    ∙ sym (last_dropped (map (λ line. line.now) lines) (length lines - 1) counted (last_of_references lines last at (length lines - 1) counted ∙ ap Some (empty_list last.now empty)))

-- and another
pub kept_of_references : (lines : List (Bor (List ℕ))) (last : Bor (List ℕ)) → slice_get lines (length lines - 1) ≡ Some last → length last.now ≢ 0 → map (λ line. line.now) lines ≡ without_empty_last (map (λ line. line.now) lines)
kept_of_references lines last at some = sym (last_kept (map (λ line. line.now) lines) (λ n counted is. let same : last.now ≡ [] = cc (last_of_references lines last at n counted) in some (ap length same)))
