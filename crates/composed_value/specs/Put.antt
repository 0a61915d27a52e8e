-- Puts, and what each brings to a value.
use Rattle.std.specs.Prelude.{ℕ, ◌<◌, ◌^◌, true, List, [], ◌∷◌, ⊤}
use Rattle.lattice_laws.specs.declared.maybe.Maybe.TheVariants.{Is}
use Rattle.basic_lattices.specs.Word.{IsWord}
use Rattle.basic_lattices.specs.declared.stamped.Stamped.{Stamped}
use Rattle.clock_lattice.specs.Clock.{IsClock}
use Rattle.clock_lattice.specs.Needs.{IsNeeds}
use Rattle.dot_lattices.specs.DotSet.{one_insert, one_remove}
use Rattle.dot_lattices.specs.DotSums.{one_sum}
use Rattle.dot_lattices.specs.declared.dot.Dot.{Dot}
use Rattle.composed_value.specs.declared.payload.Payload.{Payload}
use Rattle.composed_value.specs.declared.payload.Payload.TheVariants as payloads
use Rattle.composed_value.specs.declared.put.Put.{Put}
use Rattle.composed_value.specs.declared.value.Value.{Value}
use Rattle.composed_value.specs.declared.value.Value.TheVariants as values

-- a payload that there can be
abbrev pub IsPayload : Payload → Type 0
IsPayload (payloads.Max number) = number < 2 ^ 64
IsPayload payloads.On = ⊤
IsPayload (payloads.Add word) = IsWord word
IsPayload (payloads.Field field number) = IsWord field × (number < 2 ^ 64)
IsPayload (payloads.Last word) = IsWord word
IsPayload (payloads.Version word) = IsWord word
IsPayload (payloads.Amount plus amount) = amount < 2 ^ 32
IsPayload (payloads.Insert word) = IsWord word
IsPayload (payloads.Remove word) = IsWord word

-- a put that there can be
pub record IsPut (put : Put) : Type 0 where
  pub session_fits : put.session < 2 ^ 16
  pub number_some : 0 < put.number
  pub number_fits : put.number < 2 ^ 64
  pub lamport_fits : put.lamport < 2 ^ 64
  pub place_fits : put.place < 2 ^ 32
  pub seen_is : IsClock put.seen
  pub needs_are : IsNeeds put.needs
  pub payload_is : IsPayload put.payload

-- the word of a put under its stamp
abbrev pub stamp_of : Put → List ℕ → Stamped
stamp_of put word = record { number = put.lamport; session = put.session; place = put.place; word = word }

-- the dot of a put
abbrev pub dot_of : Put → Dot
dot_of put = record { session = put.session; number = put.number }

-- the value of a put with this payload
abbrev pub brought_by : Put → Payload → Value
brought_by put (payloads.Max number) = values.Max (Is number)
brought_by put payloads.On = values.Or true
brought_by put (payloads.Add word) = values.Set (word ∷ [])
brought_by put (payloads.Field field number) = values.Map ((field, number) ∷ [])
brought_by put (payloads.Last word) = values.Last (Is (stamp_of put word))
brought_by put (payloads.Version word) = values.Versions (record { clock = put.seen; word = word } ∷ [])
brought_by put (payloads.Amount plus amount) = values.Counter (one_sum (dot_of put) plus amount)
brought_by put (payloads.Insert word) = values.OrSet (one_insert word (dot_of put))
brought_by put (payloads.Remove word) = values.OrSet (one_remove word put.seen)

-- the value of one put
abbrev pub value_of_put : Put → Value
value_of_put put = brought_by put put.payload
