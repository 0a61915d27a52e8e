-- What a word of a line can be: a name, a number, a word of a value, a kind, a level.
use Rattle.std.specs.Prelude.{◌≡◌, ℕ, ◌^◌, Bool, true, false, ◌&&◌, not, nat_lt, nat_le, if◌then◌else◌, List, [], ◌∷◌, map, length, codes, Option, Some, None, is_some, unwrap_or}
use Rattle.std.specs.List.{list_all, list_any}
use denote.Ref.{Bor}
use Rattle.std.specs.Option.{option_map, option_map_or, option_and_then}
use Rattle.std.specs.Str.{bytes_eq, all_ascii_digits}
use Rattle.std.specs.Str.Parse.{digits_value}
use Rattle.lattice_laws.specs.Spelling.{is_spelling_byte}
use Rattle.composed_value.specs.declared.kind.Kind.{Kind}
use Rattle.composed_value.specs.declared.kind.Kind.TheVariants as kinds
use Rattle.composed_value.specs.declared.payload.Payload.{Payload}
use Rattle.composed_value.specs.declared.payload.Payload.TheVariants as payloads
use Rattle.session_known.specs.declared.script.Level.{Level}
use Rattle.session_known.specs.declared.script.Level.TheVariants.{Eventual, Committed, Causal}

-- the bytes of words that are lent
abbrev pub texts : List (Bor (List ℕ)) → List (List ℕ)
texts words = map (λ word. word.now) words

-- the bytes of a word that is lent, where there is one
abbrev pub lent : Option (Bor (List ℕ)) → Option (List ℕ)
lent word = option_map (λ word. word.now) word

-- 1 to `most` bytes of A-Z a-z 0-9 _ . -
abbrev pub is_spelled : ℕ → List ℕ → Bool
is_spelled most word = nat_le 1 (length word) && (nat_le (length word) most && list_all is_spelling_byte word)

abbrev pub is_name : List ℕ → Bool
is_name word = is_spelled 32 word

abbrev pub is_value_word : List ℕ → Bool
is_value_word word = is_spelled 64 word

-- one decimal digit or more, and nothing else
abbrev pub is_numeral : List ℕ → Bool
is_numeral word = nat_lt 0 (length word) && all_ascii_digits word

-- the number that a word writes: digits alone, leading zeros among them, that say at most 18446744073709551615
abbrev pub number_said : List ℕ → Option ℕ
number_said word = if is_numeral word && nat_lt (digits_value 10 word) (2 ^ 64) then Some (digits_value 10 word) else None

abbrev pub is_number : List ℕ → Bool
is_number word = is_some (number_said word)

-- the number that a word writes, of a word that is one
abbrev pub number_of : List ℕ → ℕ
number_of word = unwrap_or (number_said word) 0

-- one of the words writes no number
abbrev pub has_non_number : List (List ℕ) → Bool
has_non_number words = list_any (λ word. not (is_number word)) words

-- each of the words writes a number, and these are the numbers
pub record AreNumbers (words : List (List ℕ)) (numbers : List ℕ) : Type 0 where
  pub each : has_non_number words ≡ false
  pub numbers_are : numbers ≡ map number_of words

-- digits alone that say more than a number may
abbrev pub is_too_great : List ℕ → Bool
is_too_great word = is_numeral word && not (is_number word)

abbrev pub kind_said : List ℕ → Option Kind
kind_said word =
    if bytes_eq word (codes "max") then Some kinds.Max else
    (if bytes_eq word (codes "or") then Some kinds.Or else
    (if bytes_eq word (codes "set") then Some kinds.Set else
    (if bytes_eq word (codes "map") then Some kinds.Map else
    (if bytes_eq word (codes "last") then Some kinds.Last else
    (if bytes_eq word (codes "versions") then Some kinds.Versions else
    (if bytes_eq word (codes "counter") then Some kinds.Counter else
    (if bytes_eq word (codes "orset") then Some kinds.OrSet else None)))))))

-- the kinds that there are from version 2 on
abbrev pub is_later_kind : Kind → Bool
is_later_kind kinds.Counter = true
is_later_kind kinds.OrSet = true
is_later_kind kind = false

abbrev pub says_later_kind : List ℕ → Bool
says_later_kind word = option_map_or is_later_kind (kind_said word) false

abbrev pub level_said : List ℕ → Option Level
level_said word =
    if bytes_eq word (codes "eventual") then Some Eventual else
    (if bytes_eq word (codes "committed") then Some Committed else
    (if bytes_eq word (codes "causal") then Some Causal else None))

-- the word of a value
abbrev pub word_said : List ℕ → Option (List ℕ)
word_said word = if is_value_word word then Some word else None

-- whether a word adds an amount or takes it
abbrev pub sign_said : List ℕ → Option Bool
sign_said word = if bytes_eq word (codes "add") then Some true else (if bytes_eq word (codes "sub") then Some false else None)

-- the amount that a word writes: a number of at most 4294967295
abbrev pub amount_said : List ℕ → Option ℕ
amount_said word = option_and_then (λ number. if nat_lt number (2 ^ 32) then Some number else None) (number_said word)

-- whether a word puts another into a set or takes it out, and what is put then
abbrev pub change_said : List ℕ → List ℕ → Option Payload
change_said change value =
    if bytes_eq change (codes "insert") then option_map payloads.Insert (word_said value) else
    (if bytes_eq change (codes "remove") then option_map payloads.Remove (word_said value) else None)

-- the payload that the words after `put KEY` say, where they fit the key's kind
abbrev pub payload_said : Kind → List (List ℕ) → Option Payload
payload_said kinds.Max (value ∷ []) = option_map payloads.Max (number_said value)
payload_said kinds.Or (value ∷ []) = if bytes_eq value (codes "on") then Some payloads.On else None
payload_said kinds.Set (value ∷ []) = option_map payloads.Add (word_said value)
payload_said kinds.Map (field ∷ value ∷ []) = option_and_then (λ name. option_map (payloads.Field name) (number_said value)) (word_said field)
payload_said kinds.Last (value ∷ []) = option_map payloads.Last (word_said value)
payload_said kinds.Versions (value ∷ []) = option_map payloads.Version (word_said value)
payload_said kinds.Counter (sign ∷ amount ∷ []) = option_and_then (λ plus. option_map (payloads.Amount plus) (amount_said amount)) (sign_said sign)
payload_said kinds.OrSet (change ∷ value ∷ []) = change_said change value
payload_said kind words = None

-- the number of the payload says more than a number may
abbrev pub is_payload_too_great : Kind → List (List ℕ) → Bool
is_payload_too_great kinds.Max (value ∷ []) = is_too_great value
is_payload_too_great kinds.Map (field ∷ value ∷ []) = is_too_great value
is_payload_too_great kinds.Counter (sign ∷ amount ∷ []) = is_some (sign_said sign) && is_too_great amount
is_payload_too_great kind words = false

-- the amount that is added or taken is a number, and says more than an amount may
abbrev pub is_amount_too_great : Kind → List (List ℕ) → Bool
is_amount_too_great kinds.Counter (sign ∷ amount ∷ []) = is_some (sign_said sign) && option_map_or (λ number. nat_le (2 ^ 32) number) (number_said amount) false
is_amount_too_great kind words = false
