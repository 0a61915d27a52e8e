-- What the tests of lines say of lists, of names and of payloads.
use Rattle.std.specs.Prelude.{◌≡◌, ◌≢◌, ℕ, ◌+◌, ◌-◌, ◌<◌, ◌≤◌, Bool, true, false, ◌==◌, not, nat_le, List, [], ◌∷◌, ◌++◌, length, codes, cond, slice_index_or, Option, Some, None, is_some, unwrap_or, IfSome, All, Contains, ◌^◌, ◌&&◌, ◌||◌, nat_lt}
use Rattle.std.specs.List.{list_any, slice_get, position_or_len}
use Rattle.std.specs.Option.{option_map, option_map_or, option_and_then}
use Rattle.std.specs.Str.{bytes_eq}
use Rattle.std.specs.Str.Parse.{digits_value}
use Rattle.std.proofs.Common.{zero, suc, refl, sym, ap, subst, ◌∙◌, arith}
use Rattle.std.proofs.lemmas.Bool.{ltb-false, ltb-true, true≢false, false≢true, both_ways, not-false, leb-true, eqb-true, eqb-false, and_parts, or_parts}
use Rattle.std.proofs.lemmas.List.{get_or_default}
use Rattle.std.proofs.lemmas.List.Elements.{All-push}
use Rattle.std.proofs.lemmas.List.Folds.{Any-from_list_any, list_any_none}
use Rattle.std.proofs.lemmas.List.Quantifiers.{all_pairs_push, position-Some}
use Rattle.std.proofs.lemmas.List.Sums.{fails_before_first, AllPass-from_list_all}
use Rattle.std.proofs.lemmas.Option.{get_or_from_slice_get, same_Some, cond_some}
use Rattle.std.proofs.lemmas.Slice.Eq.{bytes_eq-Decides}
use Rattle.lattice_laws.specs.Spelling.{is_spelling_byte, IsSpelled}
use Rattle.basic_lattices.specs.Word.{IsWord}
use Rattle.lattice_laws.proofs.ListLemmas.{none_passes}
use Rattle.composed_value.specs.Kind.{kind_of}
use Rattle.composed_value.specs.Put.{IsPayload}
use Rattle.composed_value.specs.declared.kind.Kind.{Kind}
use Rattle.composed_value.specs.declared.kind.Kind.TheVariants as kinds
use Rattle.composed_value.specs.declared.payload.Payload.{Payload}
use Rattle.composed_value.specs.declared.payload.Payload.TheVariants as payloads
use Rattle.placement.specs.Config.{AreDifferent, IsOneOf}
use Rattle.placement.specs.Name.{IsName}
use Rattle.script_reader.specs.Faults.{has_repeat, is_version, is_within}
use Rattle.script_reader.specs.Said.{place_of, number_in, session_number, payload_for, pins_by, factor_by}
use Rattle.script_reader.proofs.ValidContext.{AreApart}
use Rattle.script_reader.specs.Words.{is_spelled, is_value_word, is_numeral, number_of, number_said, word_said, sign_said, amount_said, payload_said}
use Rattle.composed_value.specs.Keyed.{kind_at}
use Rattle.placement.specs.Asked.{replicas_of}

-- a number within bounds is one of them
pub within_is : (least greatest n : ℕ) → is_within least greatest n ≡ true → (least ≤ n) × (n ≤ greatest)
within_is least greatest n is =
    let both = and_parts (nat_le least n) (nat_le n greatest) is in
    (leb-true least n both.0, leb-true n greatest both.1)

-- a replication factor of a key's own is at most the number of workers, and stands beside no pins
pub own_factor : (workers : ℕ) (by_factor : Bool) (numbers : List ℕ) → option_map_or (λ factor. not (is_within 1 workers factor)) (factor_by by_factor numbers) false ≡ false → IfSome (factor_by by_factor numbers) (λ factor. IsOneOf workers factor × (pins_by by_factor numbers ≡ []))
own_factor workers false numbers fine = tt
own_factor workers true [] fine = tt
own_factor workers true (number ∷ numbers) fine = (within_is 1 workers number (not-false _ fine), refl)

-- the version of a header is one or two
version_first : (word : List ℕ) (one two : Bool) → bytes_eq word (codes "1") ≡ one → bytes_eq word (codes "2") ≡ two → (one || two) ≡ true → IsOneOf 2 (number_of word)
version_first word true two is other either = subst (λ word. IsOneOf 2 (number_of word)) (sym ((bytes_eq-Decides word (codes "1")).0 is)) (omega arith, omega arith)
version_first word false true other is either = subst (λ word. IsOneOf 2 (number_of word)) (sym ((bytes_eq-Decides word (codes "2")).0 is)) (omega arith, omega arith)
version_first word false false is other either = absurd (false≢true either)

pub version_within : (word : List ℕ) → is_version word ≡ true → IsOneOf 2 (number_of word)
version_within word is = version_first word (bytes_eq word (codes "1")) (bytes_eq word (codes "2")) refl refl is

-- each of the numbers is a worker, where none is out of the bounds
pub are_workers : (workers : ℕ) (pins : List ℕ) → list_any (λ pin. not (is_within 1 workers pin)) pins ≡ false → All (IsOneOf workers) pins
are_workers workers pins none =
    let each = none_passes (λ pin. not (is_within 1 workers pin)) pins none in
    λ k d lt. within_is 1 workers (slice_index_or pins k d) (not-false _ (each k d lt))

-- a first number that is none of the others, which are different, leaves all different
different_cons : (n : ℕ) (numbers : List ℕ) → All (λ other. other ≢ n) numbers → AreDifferent numbers → AreDifferent (n ∷ numbers)
different_cons n numbers others rest zero zero d i<j j< = absurd (omega arith)
different_cons n numbers others rest zero (suc j) d i<j j< = λ e. others j d (omega arith) (sym e)
different_cons n numbers others rest (suc i) zero d i<j j< = absurd (omega arith)
different_cons n numbers others rest (suc i) (suc j) d i<j j< = rest i j d (omega arith) (omega arith)

-- numbers without a repeat are different
pub no_repeat : (numbers : List ℕ) → has_repeat numbers ≡ false → AreDifferent numbers
no_repeat [] none = λ i j d i<j j<. absurd (omega arith)
no_repeat (n ∷ numbers) none =
    let both = or_parts (list_any (λ other. other == n) numbers) (has_repeat numbers) none in
    let others = none_passes (λ other. other == n) numbers both.0 in
    different_cons n numbers (λ k d lt. eqb-false (slice_index_or numbers k d) n (others k d lt)) (no_repeat numbers both.1)

-- what passes the test of its bytes is spelled of them
pub is_spelling : (most : ℕ) (word : List ℕ) → is_spelled most word ≡ true → IsSpelled most word
is_spelling most word is =
    let some = and_parts (nat_le 1 (length word)) _ is in
    let short = and_parts (nat_le (length word) most) _ some.1 in
    record { some = leb-true _ _ some.0; short = leb-true _ _ short.0; allowed = AllPass-from_list_all is_spelling_byte word short.1 }

-- names that are apart stay so with a new one
pub apart_push : (names : List (List ℕ)) (name : List ℕ) → AreApart names → IsName name → list_any (bytes_eq name) names ≡ false → AreApart (names ++ name ∷ [])
apart_push names name apart is new =
    let others = none_passes (bytes_eq name) names new in
    record {
      named = All-push IsName names name apart.named is;
      different = all_pairs_push (λ a b. a ≢ b) names name apart.different (λ k d lt same. both_ways _ (others k d lt) ((bytes_eq-Decides name (slice_index_or names k d)).1 (sym same)));
    }

-- what a place among names says of the number of the name
placed_within : (count : ℕ) (place : Option ℕ) → ((p : ℕ) → place ≡ Some p → p < count) → is_some place ≡ true → IsOneOf count (unwrap_or place 0 + 1)
placed_within count None below some = absurd (false≢true some)
placed_within count (Some p) below some = let lt = below p refl in (omega arith, omega arith)

-- a place among names is below their number
place_below : (names : List (List ℕ)) (name : List ℕ) (p : ℕ) → place_of names name ≡ Some p → p < length names
place_below names name p is = (position-Some (bytes_eq name) names p [] is).0

-- a name that has a place has a number
pub number_within : (names : List (List ℕ)) (name : List ℕ) → is_some (place_of names name) ≡ true → IsOneOf (length names) (number_in names name)
number_within names name some = placed_within (length names) (place_of names name) (place_below names name) some

-- and so does its number as a session's
pub session_within : (names : List (List ℕ)) (name : List ℕ) → is_some (place_of names name) ≡ true → IsOneOf (length names) (session_number names name)
session_within names name some =
    let within = number_within names name some in
    (omega (arith, within.0), omega (arith, within.1))

-- a test that gives nothing fails
gives_none : (test : Bool) (n : ℕ) → is_some (cond test (Some n) None) ≡ false → test ≡ false
gives_none true n none = absurd (true≢false none)
gives_none false n none = refl

-- a name that has no place is new
pub name_new : (names : List (List ℕ)) (name : List ℕ) → is_some (place_of names name) ≡ false → list_any (bytes_eq name) names ≡ false
name_new names name none =
    let past = ltb-false (position_or_len (bytes_eq name) names) (length names) (gives_none _ (position_or_len (bytes_eq name) names) none) in
    list_any_none (bytes_eq name) names (λ k d lt. fails_before_first (bytes_eq name) names k d (omega arith))

-- a payload made of what a word says is of the kind that all payloads made so are
made_kind : {A : Type 0} (make : A → Payload) (kind : Kind) (said : Option A) (payload : Payload) → ((a : A) → kind_of (make a) ≡ kind) → option_map make said ≡ Some payload → kind_of payload ≡ kind
made_kind make kind None payload each is = absurd cc
made_kind make kind (Some a) payload each is = sym (ap kind_of (same_Some (make a) payload is)) ∙ each a

-- the same of a payload made of what two words say
pair_kind : {A B : Type 0} (make : A → B → Payload) (kind : Kind) (first : Option A) (second : Option B) (payload : Payload) → ((a : A) (b : B) → kind_of (make a b) ≡ kind) → option_and_then (λ a. option_map (make a) second) first ≡ Some payload → kind_of payload ≡ kind
pair_kind make kind None second payload each is = absurd cc
pair_kind make kind (Some a) second payload each is = made_kind (make a) kind second payload (each a) is

-- and of an insert or a remove of the word that is said
change_kind : (inserts removes : Bool) (word : Option (List ℕ)) (payload : Payload) → cond inserts (option_map payloads.Insert word) (cond removes (option_map payloads.Remove word) None) ≡ Some payload → kind_of payload ≡ kinds.OrSet
change_kind true removes word payload is = made_kind payloads.Insert kinds.OrSet word payload (λ a. refl) is
change_kind false true word payload is = made_kind payloads.Remove kinds.OrSet word payload (λ a. refl) is
change_kind false false word payload is = absurd cc

-- a payload that words say for a kind is of that kind
pub said_kind : (kind : Kind) (words : List (List ℕ)) (payload : Payload) → payload_said kind words ≡ Some payload → kind_of payload ≡ kind
said_kind kinds.Max [] payload is = absurd cc
said_kind kinds.Max (value ∷ []) payload is = made_kind payloads.Max kinds.Max (number_said value) payload (λ a. refl) is
said_kind kinds.Max (value ∷ other ∷ words) payload is = absurd cc
said_kind kinds.Or [] payload is = absurd cc
said_kind kinds.Or (value ∷ []) payload is = sym (ap kind_of (cond_some (bytes_eq value (codes "on")) payloads.On payload is).1)
said_kind kinds.Or (value ∷ other ∷ words) payload is = absurd cc
said_kind kinds.Set [] payload is = absurd cc
said_kind kinds.Set (value ∷ []) payload is = made_kind payloads.Add kinds.Set (word_said value) payload (λ a. refl) is
said_kind kinds.Set (value ∷ other ∷ words) payload is = absurd cc
said_kind kinds.Map [] payload is = absurd cc
said_kind kinds.Map (field ∷ []) payload is = absurd cc
said_kind kinds.Map (field ∷ value ∷ []) payload is = pair_kind payloads.Field kinds.Map (word_said field) (number_said value) payload (λ a b. refl) is
said_kind kinds.Map (field ∷ value ∷ other ∷ words) payload is = absurd cc
said_kind kinds.Last [] payload is = absurd cc
said_kind kinds.Last (value ∷ []) payload is = made_kind payloads.Last kinds.Last (word_said value) payload (λ a. refl) is
said_kind kinds.Last (value ∷ other ∷ words) payload is = absurd cc
said_kind kinds.Versions [] payload is = absurd cc
said_kind kinds.Versions (value ∷ []) payload is = made_kind payloads.Version kinds.Versions (word_said value) payload (λ a. refl) is
said_kind kinds.Versions (value ∷ other ∷ words) payload is = absurd cc
said_kind kinds.Counter [] payload is = absurd cc
said_kind kinds.Counter (sign ∷ []) payload is = absurd cc
said_kind kinds.Counter (sign ∷ amount ∷ []) payload is = pair_kind payloads.Amount kinds.Counter (sign_said sign) (amount_said amount) payload (λ a b. refl) is
said_kind kinds.Counter (sign ∷ amount ∷ other ∷ words) payload is = absurd cc
said_kind kinds.OrSet [] payload is = absurd cc
said_kind kinds.OrSet (change ∷ []) payload is = absurd cc
said_kind kinds.OrSet (change ∷ value ∷ []) payload is = change_kind (bytes_eq change (codes "insert")) (bytes_eq change (codes "remove")) (word_said value) payload is
said_kind kinds.OrSet (change ∷ value ∷ other ∷ words) payload is = absurd cc

-- where words say a payload, it is of the kind
fits_kind : (kind : Kind) (words : List (List ℕ)) (said : Option Payload) → payload_said kind words ≡ said → is_some said ≡ true → kind_of (unwrap_or said payloads.On) ≡ kind
fits_kind kind words None is some = absurd (false≢true some)
fits_kind kind words (Some payload) is some = said_kind kind words payload is

-- the kind at the place of a key is that of its payload
placed_kind : (of_keys : List Kind) (words : List (List ℕ)) (p : ℕ) (kind : Option Kind) → slice_get of_keys p ≡ kind → is_some (option_and_then (λ kind. payload_said kind words) kind) ≡ true → kind_of (unwrap_or (option_and_then (λ kind. payload_said kind words) kind) payloads.On) ≡ kind_at of_keys (p + 1)
placed_kind of_keys words p None is some = absurd (false≢true some)
placed_kind of_keys words p (Some kind) is some =
    let back : p + 1 - 1 ≡ p = omega arith in
    fits_kind kind words (payload_said kind words) refl some ∙ sym (ap (λ i. slice_index_or of_keys i kinds.Max) back ∙ get_or_from_slice_get of_keys p kind kinds.Max is)

-- the same of the number of a key
put_kind : (of_keys : List Kind) (words : List (List ℕ)) (place : Option ℕ) → is_some (option_and_then (λ kind. payload_said kind words) (option_and_then (λ p. slice_get of_keys p) place)) ≡ true → kind_of (unwrap_or (option_and_then (λ kind. payload_said kind words) (option_and_then (λ p. slice_get of_keys p) place)) payloads.On) ≡ kind_at of_keys (unwrap_or place 0 + 1)
put_kind of_keys words None some = absurd (false≢true some)
put_kind of_keys words (Some p) some = placed_kind of_keys words p (slice_get of_keys p) refl some

-- the payload that words say for a key is of the key's kind
pub payload_kind : (names : List (List ℕ)) (of_keys : List Kind) (key : List ℕ) (words : List (List ℕ)) → is_some (payload_for names of_keys key words) ≡ true → kind_of (unwrap_or (payload_for names of_keys key words) payloads.On) ≡ kind_at of_keys (number_in names key)
payload_kind names of_keys key words some = put_kind of_keys words (place_of names key) some

-- a payload made of what a word says is one, where each made so is
made_payload : {A : Type 0} (make : A → Payload) (said : Option A) (payload : Payload) → ((a : A) → said ≡ Some a → IsPayload (make a)) → option_map make said ≡ Some payload → IsPayload payload
made_payload make None payload each is = absurd cc
made_payload make (Some a) payload each is = subst IsPayload (same_Some (make a) payload is) (each a refl)

-- a number that a word says has 64 bits
said_number : (word : List ℕ) (n : ℕ) → number_said word ≡ Some n → n < 2 ^ 64
said_number word n is =
    let some = cond_some (is_numeral word && nat_lt (digits_value 10 word) (2 ^ 64)) (digits_value 10 word) n is in
    subst (λ number. number < 2 ^ 64) some.1 (ltb-true _ _ (and_parts (is_numeral word) _ some.0).1)

-- a word that is said is one
said_word : (word said : List ℕ) → word_said word ≡ Some said → IsWord said
said_word word said is =
    let some = cond_some (is_value_word word) word said is in
    subst IsWord some.1 (is_spelling 64 word some.0)

-- an amount that a word says has 32 bits
said_amount : (word : List ℕ) (n : ℕ) → amount_said word ≡ Some n → n < 2 ^ 32
said_amount word n is = of_number (number_said word) is
  where
    of_number : (number : Option ℕ) → option_and_then (λ number. cond (nat_lt number (2 ^ 32)) (Some number) None) number ≡ Some n → n < 2 ^ 32
    of_number None is = absurd cc
    of_number (Some number) is =
        let some = cond_some (nat_lt number (2 ^ 32)) number n is in
        subst (λ number. number < 2 ^ 32) some.1 (ltb-true _ _ some.0)

-- the payload that two words say
pair_payload : {A B : Type 0} (make : A → B → Payload) (first : Option A) (second : Option B) (payload : Payload) → ((a : A) (b : B) → first ≡ Some a → second ≡ Some b → IsPayload (make a b)) → option_and_then (λ a. option_map (make a) second) first ≡ Some payload → IsPayload payload
pair_payload make None second payload each is = absurd cc
pair_payload make (Some a) second payload each is = made_payload (make a) second payload (λ b said. each a b refl said) is

-- an insert or a remove of the word that is said
change_payload : (inserts removes : Bool) (word : Option (List ℕ)) (payload : Payload) → ((said : List ℕ) → word ≡ Some said → IsWord said) → cond inserts (option_map payloads.Insert word) (cond removes (option_map payloads.Remove word) None) ≡ Some payload → IsPayload payload
change_payload true removes word payload is_word is = made_payload payloads.Insert word payload is_word is
change_payload false true word payload is_word is = made_payload payloads.Remove word payload is_word is
change_payload false false word payload is_word is = absurd cc

-- a payload that words say is one
pub said_payload : (kind : Kind) (words : List (List ℕ)) (payload : Payload) → payload_said kind words ≡ Some payload → IsPayload payload
said_payload kinds.Max (value ∷ []) payload is = made_payload payloads.Max (number_said value) payload (said_number value) is
said_payload kinds.Or (value ∷ []) payload is = subst IsPayload (cond_some (bytes_eq value (codes "on")) payloads.On payload is).1 tt
said_payload kinds.Set (value ∷ []) payload is = made_payload payloads.Add (word_said value) payload (said_word value) is
said_payload kinds.Map (field ∷ value ∷ []) payload is = pair_payload payloads.Field (word_said field) (number_said value) payload (λ name number says writes. (said_word field name says, said_number value number writes)) is
said_payload kinds.Last (value ∷ []) payload is = made_payload payloads.Last (word_said value) payload (said_word value) is
said_payload kinds.Versions (value ∷ []) payload is = made_payload payloads.Version (word_said value) payload (said_word value) is
said_payload kinds.Counter (sign ∷ amount ∷ []) payload is = pair_payload payloads.Amount (sign_said sign) (amount_said amount) payload (λ plus number says writes. said_amount amount number writes) is
said_payload kinds.OrSet (change ∷ value ∷ []) payload is = change_payload (bytes_eq change (codes "insert")) (bytes_eq change (codes "remove")) (word_said value) payload (said_word value) is
said_payload kind words payload is = absurd cc

-- where words say a payload, it is one
fits_payload : (kind : Kind) (words : List (List ℕ)) (said : Option Payload) → payload_said kind words ≡ said → is_some said ≡ true → IsPayload (unwrap_or said payloads.On)
fits_payload kind words None is some = absurd (false≢true some)
fits_payload kind words (Some payload) is some = said_payload kind words payload is

-- the same of a key's kind, where it has one
placed_payload : (words : List (List ℕ)) (kind : Option Kind) → is_some (option_and_then (λ kind. payload_said kind words) kind) ≡ true → IsPayload (unwrap_or (option_and_then (λ kind. payload_said kind words) kind) payloads.On)
placed_payload words None some = absurd (false≢true some)
placed_payload words (Some kind) some = fits_payload kind words (payload_said kind words) refl some

-- the payload that words say for a key is one
pub payload_is : (names : List (List ℕ)) (of_keys : List Kind) (key : List ℕ) (words : List (List ℕ)) → is_some (payload_for names of_keys key words) ≡ true → IsPayload (unwrap_or (payload_for names of_keys key words) payloads.On)
payload_is names of_keys key words some = placed_payload words (option_and_then (λ place. slice_get of_keys place) (place_of names key)) some

-- a number that a list has is contained in it
pub has_contains : (numbers : List ℕ) (n : ℕ) → list_any (λ other. other == n) numbers ≡ true → Contains numbers n
has_contains numbers n has =
    let at = Any-from_list_any (λ other. other == n) numbers has in
    let same : at.1 ≡ n = eqb-true at.1 n at.4 in
    (at.0, at.2, get_or_default numbers at.0 n at.1 at.2 ∙ at.3 ∙ same)

-- the replicas at the place of a key are those at its number
replica_at : (table : List (List ℕ)) (worker : ℕ) (place : Option ℕ) → list_any (λ replica. replica == worker) (option_map_or (λ p. slice_index_or table p []) place []) ≡ true → Contains (replicas_of table (unwrap_or place 0 + 1)) worker
replica_at table worker None has = absurd (false≢true has)
replica_at table worker (Some p) has =
    let back : p ≡ p + 1 - 1 = omega arith in
    subst (λ i. Contains (slice_index_or table i []) worker) back (has_contains (slice_index_or table p []) worker has)

-- a replica of a key is among those that the table has at its number
pub replica_contained : (names : List (List ℕ)) (key : List ℕ) (table : List (List ℕ)) (worker : ℕ) → list_any (λ replica. replica == worker) (option_map_or (λ p. slice_index_or table p []) (place_of names key) []) ≡ true → Contains (replicas_of table (number_in names key)) worker
replica_contained names key table worker has = replica_at table worker (place_of names key) has
