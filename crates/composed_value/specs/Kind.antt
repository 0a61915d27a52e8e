-- Which payloads and values are of which kind.
use Rattle.composed_value.specs.declared.kind.Kind.{Kind}
use Rattle.composed_value.specs.declared.kind.Kind.TheVariants as kinds
use Rattle.composed_value.specs.declared.payload.Payload.{Payload}
use Rattle.composed_value.specs.declared.payload.Payload.TheVariants as payloads
use Rattle.composed_value.specs.declared.value.Value.{Value}
use Rattle.composed_value.specs.declared.value.Value.TheVariants as values

-- the kind of the keys that take the payload
abbrev pub kind_of : Payload → Kind
kind_of (payloads.Max number) = kinds.Max
kind_of payloads.On = kinds.Or
kind_of (payloads.Add word) = kinds.Set
kind_of (payloads.Field field number) = kinds.Map
kind_of (payloads.Last word) = kinds.Last
kind_of (payloads.Version word) = kinds.Versions
kind_of (payloads.Amount plus amount) = kinds.Counter
kind_of (payloads.Insert word) = kinds.OrSet
kind_of (payloads.Remove word) = kinds.OrSet

-- the kind of the keys that have the value
abbrev pub kind_of_value : Value → Kind
kind_of_value (values.Max greatest) = kinds.Max
kind_of_value (values.Or flag) = kinds.Or
kind_of_value (values.Set words) = kinds.Set
kind_of_value (values.Map fields) = kinds.Map
kind_of_value (values.Last last) = kinds.Last
kind_of_value (values.Versions versions) = kinds.Versions
kind_of_value (values.Counter sums) = kinds.Counter
kind_of_value (values.OrSet set) = kinds.OrSet
