-- The accepted puts, key by key.
use Rattle.std.specs.Prelude.{◌≡◌, ℕ, ◌-◌, List, [], ◌++◌, length, map, slice_index_or, Option, Result, OnOk, IfOk, IfNone}
use Rattle.lattice_laws.specs.declared.lattice.NoMemory.{NoMemory}
use Rattle.composed_value.specs.Kind.{kind_of}
use Rattle.composed_value.specs.Put.{IsPayload}
use Rattle.composed_value.specs.declared.kind.Kind.{Kind}
use Rattle.composed_value.specs.declared.kind.Kind.TheVariants.{Max}
use Rattle.composed_value.specs.declared.payload.Payload.{Payload}
use Rattle.composed_value.specs.declared.put.Put.{Put}
use Rattle.composed_value.specs.Keyed.{puts_on, kind_at}
use Rattle.placement.specs.Config.{IsOneOf}

-- puts on a key of a kind
pub record OfKey : Type 0 where
  pub kind : Kind
  pub puts : List Put

-- those of a key, by its number
abbrev pub of_key : List OfKey → ℕ → OfKey
of_key by_key key = slice_index_or by_key (key - 1) (record { kind = Max; puts = [] })

-- the kinds of the keys
abbrev pub kinds_of : List OfKey → List Kind
kinds_of by_key = map (λ on. on.kind) by_key

-- the lists are, for keys of these kinds, the accepted puts on each key in their order
pub record AreByKey (kinds : List Kind) (accepted : List (ℕ × Put)) (by_key : List OfKey) : Type 0 where
  pub kinds_are : kinds_of by_key ≡ kinds
  pub puts_are : (key : ℕ) → IsOneOf (length kinds) key → (of_key by_key key).puts ≡ puts_on key accepted

-- a payload that may be put to the key
pub record MayBePut (kinds : List Kind) (key : ℕ) (payload : Payload) : Type 0 where
  pub key_is : IsOneOf (length kinds) key
  pub payload_is : IsPayload payload
  pub of_kind : kind_of payload ≡ kind_at kinds key

-- where the answer is Ok, the lists of some accepted puts are those of these after them
abbrev pub HasAdded : {T : Type 0} → Result T NoMemory → List OfKey → List (ℕ × Put) → List OfKey → Type 0
HasAdded result by_key more after =
    (kinds : List Kind) (puts : List (ℕ × Put)) → AreByKey kinds puts by_key → OnOk result (AreByKey kinds (puts ++ more) after)

-- so where it has found nothing
abbrev pub HasAddedAll : {T : Type 0} → Result (Option T) NoMemory → List OfKey → List (ℕ × Put) → List OfKey → Type 0
HasAddedAll result by_key more after =
    (kinds : List Kind) (puts : List (ℕ × Put)) → AreByKey kinds puts by_key
    → IfOk result (λ found. IfNone found (AreByKey kinds (puts ++ more) after))
