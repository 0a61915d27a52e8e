-- The values of no put and of one are values that there can be, of their kind.
use Rattle.std.specs.Prelude.{◌≡◌, ◌<◌, ◌^◌, [], ◌∷◌, refl, false, ◌||◌}
use Rattle.std.specs.List.{list_any}
use Rattle.std.proofs.Common.{ap}
use Rattle.std.proofs.lemmas.List.Elements.{All-nil, All-cons}
use Rattle.lattice_laws.specs.Entries.{IsEntry}
use Rattle.basic_lattices.specs.Word.{IsWord}
use Rattle.version_antichain.specs.Version.{IsVersion, is_below}
use Rattle.version_antichain.specs.VersionLaws.{below_order}
use Rattle.version_antichain.specs.declared.version.Version.{Version}
use Rattle.composed_value.specs.Kind.{kind_of, kind_of_value}
use Rattle.dot_lattices.specs.Amounts.{amounts_of}
use Rattle.composed_value.proofs.DotValueLemmas.{amounts_fit, counter_of_none, counter_of_one, orset_of_none, orset_of_insert, orset_of_remove}
use Rattle.composed_value.specs.Put.{IsPayload, IsPut, brought_by, dot_of, value_of_put}
use Rattle.composed_value.specs.Value.{IsValue, empty_value}
use Rattle.composed_value.specs.declared.kind.Kind.{Kind}
use Rattle.composed_value.specs.declared.kind.Kind.TheVariants as kinds
use Rattle.composed_value.specs.declared.payload.Payload.{Payload}
use Rattle.composed_value.specs.declared.payload.Payload.TheVariants.{Max, On, Add, Field, Last, Version as VersionOf, Amount, Insert, Remove}
use Rattle.composed_value.specs.declared.put.Put.{Put}

pub empty_is_value : (kind : Kind) → IsValue (empty_value kind)
empty_is_value kinds.Max = tt
empty_is_value kinds.Or = tt
empty_is_value kinds.Set = record { ascending = refl; are_members = All-nil IsWord }
empty_is_value kinds.Map = record { ascending = refl; are_entries = All-nil (IsEntry IsWord (λ number. number < 2 ^ 64)) }
empty_is_value kinds.Last = tt
empty_is_value kinds.Counter = counter_of_none.0
empty_is_value kinds.OrSet = orset_of_none.is_set
empty_is_value kinds.Versions = record { is_set = record { ascending = refl; are_members = All-nil IsVersion }; none_below = All-nil (λ version. list_any (is_below version) [] ≡ false) }

-- the value that a put brings
brought_is_value : (put : Put) (payload : Payload) → IsPut put → IsPayload payload → IsValue (brought_by put payload)
brought_is_value put (Max number) is of_payload = of_payload
brought_is_value put On is of_payload = tt
brought_is_value put (Add word) is of_payload = record { ascending = refl; are_members = All-cons IsWord word [] of_payload (All-nil IsWord) }
brought_is_value put (Field field number) is of_payload = record { ascending = refl; are_entries = All-cons (IsEntry IsWord (λ number. number < 2 ^ 64)) (field, number) [] of_payload (All-nil (IsEntry IsWord (λ number. number < 2 ^ 64))) }
brought_is_value put (Last word) is of_payload = record { number_fits = is.lamport_fits; session_fits = is.session_fits; place_fits = is.place_fits; is_word = of_payload }
brought_is_value put (VersionOf word) is of_payload =
    let version : Version = record { clock = put.seen; word = word } in
    record {
      is_set = record { ascending = refl; are_members = All-cons IsVersion version [] (record { is_clock = is.seen_is; is_word = of_payload }) (All-nil IsVersion) };
      none_below = All-cons (λ x. list_any (is_below x) (version ∷ []) ≡ false) version [] (ap (λ t. t || false) (below_order.not_itself version)) (All-nil (λ x. list_any (is_below x) (version ∷ []) ≡ false));
    }
brought_is_value put (Amount plus amount) is of_payload = (counter_of_one (dot_of put) (amounts_of plus amount) (record { session_fits = is.session_fits; number_fits = is.number_fits }) (amounts_fit plus amount of_payload)).0
brought_is_value put (Insert word) is of_payload = (orset_of_insert (record { word = word; dot = dot_of put }) (record { is_word = of_payload; is_dot = record { session_fits = is.session_fits; number_fits = is.number_fits } }) is.number_some).is_set
brought_is_value put (Remove word) is of_payload = (orset_of_remove word put.seen of_payload is.seen_is).is_set

-- the value of no put is of its kind
pub empty_has_kind : (kind : Kind) → kind_of_value (empty_value kind) ≡ kind
empty_has_kind kinds.Max = refl
empty_has_kind kinds.Or = refl
empty_has_kind kinds.Set = refl
empty_has_kind kinds.Map = refl
empty_has_kind kinds.Last = refl
empty_has_kind kinds.Versions = refl
empty_has_kind kinds.Counter = refl
empty_has_kind kinds.OrSet = refl

-- and that of one put is of its payload's
brought_has_kind : (put : Put) (payload : Payload) → kind_of_value (brought_by put payload) ≡ kind_of payload
brought_has_kind put (Max number) = refl
brought_has_kind put On = refl
brought_has_kind put (Add word) = refl
brought_has_kind put (Field field number) = refl
brought_has_kind put (Last word) = refl
brought_has_kind put (VersionOf word) = refl
brought_has_kind put (Amount plus amount) = refl
brought_has_kind put (Insert word) = refl
brought_has_kind put (Remove word) = refl

pub put_has_kind : (put : Put) → kind_of_value (value_of_put put) ≡ kind_of put.payload
put_has_kind put = brought_has_kind put put.payload

pub value_of_put_is_value : (put : Put) → IsPut put → IsValue (value_of_put put)
value_of_put_is_value put is = brought_is_value put put.payload is is.payload_is
