-- Whether entries still rise with one more after them.
use Rattle.std.proofs.Common.{◌≡◌, ◌-◌, ◌<◌, IsTrue, List, [], ◌∷◌, ◌++◌, length, Some, ap, ◌∙◌, arith}
use Rattle.std.specs.List.{slice_get}
use Rattle.std.specs.Option.{option_map}
use Rattle.std.proofs.lemmas.List.{length-map}
use Rattle.std.proofs.lemmas.Option.{slice_get-map, slice_get_within}
use Rattle.std.specs.declared.cmp.Ordering.{Ordering}
use Rattle.std.specs.Ordering.{is_lt}
use Rattle.std.specs.Cmp.{IsTotalOrder}
use Rattle.std.specs.FinMap.{is_sorted}
use Rattle.lattice_laws.specs.Entries.{plain_entries}
use Rattle.lattice_laws.proofs.AscendingLemmas.{is_sorted-pushed}

-- the key of the last entry decides
pub last_decides : {K L P : Type 0} (cmp : K → K → Ordering) (plain : L → P) → IsTotalOrder cmp → (es : List (K × L)) (last : K × L) (key : K) (value : P) → slice_get es (length es - 1) ≡ Some last → IsTrue (is_sorted cmp (plain_entries plain es)) → is_sorted cmp (plain_entries plain es ++ (key, value) ∷ []) ≡ is_lt (cmp last.0 key)
last_decides {K} {L} {P} cmp plain total es last key value here rises =
    let see : K × L → K × P = λ entry. (entry.0, plain entry.1) in
    let within : length es - 1 < length es = slice_get_within es (length es - 1) last here in
    is_sorted-pushed cmp total (plain_entries plain es) (length es - 1) (see last) (key, value) (omega (arith, length-map es see))
    (slice_get-map see es (length es - 1) ∙ ap (option_map see) here) rises
