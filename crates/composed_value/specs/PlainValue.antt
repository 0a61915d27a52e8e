-- The plain value of a list of puts, kind by kind, said of the whole list.
use Rattle.std.specs.Prelude.{◌≡◌, ◌↔◌, ℕ, ◌≤◌, false, cond, ◌==◌, IsTrue, List, length, ◌<◌, Option, Some, None, map, filter, filter_map, Contains}
use Rattle.std.specs.FinMap.{find}
use Rattle.std.specs.Ordering.{is_le, eq_by_cmp}
use Rattle.lattice_laws.specs.Greatest.{IsGreatest, IsGreatestOrZero}
use Rattle.lattice_laws.specs.Maybe.{plain_of}
use Rattle.lattice_laws.specs.Sets as sets
use Rattle.basic_lattices.specs.Stamped.{stamp_cmp}
use Rattle.basic_lattices.specs.TextSet.{IsTextSet, has}
use Rattle.basic_lattices.specs.Word.{word_cmp}
use Rattle.basic_lattices.specs.declared.stamped.Stamped.{Stamped}
use Rattle.clock_lattice.specs.Clock.{count_of}
use Rattle.clock_lattice.specs.Needs.{clock_at}
use Rattle.std.specs.Option.{option_map}
use Rattle.dot_lattices.specs.Amounts.{amounts_of}
use Rattle.dot_lattices.specs.Dot.{dot_cmp, counts}
use Rattle.dot_lattices.specs.DotSet.{PlainDotSet, IsDotSet, seen_at}
use Rattle.dot_lattices.specs.DotSums.{IsDotSums}
use Rattle.dot_lattices.specs.Insert.{insert_cmp}
use Rattle.dot_lattices.specs.declared.amounts.Amounts.{Amounts}
use Rattle.dot_lattices.specs.declared.dot.Dot.{Dot}
use Rattle.dot_lattices.specs.declared.insert.Insert.{Insert}
use Rattle.version_antichain.specs.Version.{version_cmp, is_below}
use Rattle.version_antichain.specs.Versions.{IsVersions}
use Rattle.version_antichain.specs.declared.version.Version.{Version}
use Rattle.composed_value.specs.Cell.{PlainCell}
use Rattle.composed_value.specs.Kind.{kind_of}
use Rattle.composed_value.specs.Put.{IsPut, dot_of, stamp_of}
use Rattle.composed_value.specs.Value.{IsFields}
use Rattle.composed_value.specs.declared.kind.Kind.{Kind}
use Rattle.composed_value.specs.declared.kind.Kind.TheVariants as kinds
use Rattle.composed_value.specs.declared.payload.Payload.{Payload}
use Rattle.composed_value.specs.declared.payload.Payload.TheVariants as payloads
use Rattle.composed_value.specs.declared.put.Put.{Put}
use Rattle.composed_value.specs.declared.value.Value.{Value}
use Rattle.composed_value.specs.declared.value.Value.TheVariants as values

-- a put that there can be, of the kind
pub record IsPutOf (kind : Kind) (put : Put) : Type 0 where
  pub is_put : IsPut put
  pub of_kind : kind_of put.payload ≡ kind

-- the number of a payload of kind max
abbrev pub number_of : Payload → Option ℕ
number_of (payloads.Max number) = Some number
number_of _ = None

-- the word that a payload adds to a set
abbrev pub word_of : Payload → Option (List ℕ)
word_of (payloads.Add word) = Some word
word_of _ = None

-- the number that a payload has at a field
abbrev pub number_at : List ℕ → Payload → Option ℕ
number_at field (payloads.Field its_field number) = cond (eq_by_cmp word_cmp field its_field) (Some number) None
number_at field _ = None

-- the word of a put of kind last, under its stamp
abbrev pub stamped_of : Put → Payload → Option Stamped
stamped_of put (payloads.Last word) = Some (stamp_of put word)
stamped_of put _ = None

-- the word of a put of kind versions, with the clock that its session had seen
abbrev pub version_of : Put → Payload → Option Version
version_of put (payloads.Version word) = Some (record { clock = put.seen; word = word })
version_of put _ = None

-- the numbers, words, numbers at a field, stamped words and versions of a list of puts
abbrev pub numbers : List Put → List ℕ
numbers puts = filter_map (λ put. number_of put.payload) puts

abbrev pub words : List Put → List (List ℕ)
words puts = filter_map (λ put. word_of put.payload) puts

abbrev pub numbers_at : List ℕ → List Put → List ℕ
numbers_at field puts = filter_map (λ put. number_at field put.payload) puts

abbrev pub stamped : List Put → List Stamped
stamped puts = filter_map (λ put. stamped_of put put.payload) puts

abbrev pub versions : List Put → List Version
versions puts = filter_map (λ put. version_of put put.payload) puts

-- what a put adds and takes
abbrev pub change_of : Payload → Amounts
change_of (payloads.Amount plus amount) = amounts_of plus amount
change_of _ = record { added = 0; taken = 0 }

-- the same, where it is the one at the dot
abbrev pub change_at : Dot → Put → Payload → Option Amounts
change_at dot put (payloads.Amount plus amount) = cond (eq_by_cmp dot_cmp dot (dot_of put)) (Some (amounts_of plus amount)) None
change_at dot put _ = None

-- the word that a put inserts, with its dot
abbrev pub insert_of : Put → Payload → Option Insert
insert_of put (payloads.Insert word) = Some (record { word = word; dot = dot_of put })
insert_of put _ = None

-- what had been seen where a put removes the word
abbrev pub seen_of : List ℕ → Put → Payload → Option (List (ℕ × ℕ))
seen_of word put (payloads.Remove its_word) = cond (eq_by_cmp word_cmp word its_word) (Some put.seen) None
seen_of word put _ = None

-- the changes at a dot, the inserts, and what the removes of a word had seen, of a list of puts
abbrev pub changes_at : List Put → Dot → List Amounts
changes_at puts dot = filter_map (λ put. change_at dot put put.payload) puts

abbrev pub inserts : List Put → List Insert
inserts puts = filter_map (λ put. insert_of put put.payload) puts

abbrev pub seen_by_removes : List Put → List ℕ → List (List (ℕ × ℕ))
seen_by_removes puts word = filter_map (λ put. seen_of word put put.payload) puts

-- the greatest that is added and the greatest that is taken, where there is any change
pub record AreGreatestOf (changes : List Amounts) (found : Option Amounts) : Type 0 where
  pub added : IsGreatest ◌≤◌ (map (λ amounts. amounts.added) changes) (option_map (λ (amounts : Amounts). amounts.added) found)
  pub taken : IsGreatest ◌≤◌ (map (λ amounts. amounts.taken) changes) (option_map (λ (amounts : Amounts). amounts.taken) found)

-- the counter has exactly the dots at which there are changes, each with the greatest of both
abbrev pub IsCounterOf : (Dot → List Amounts) → List (Dot × Amounts) → Type 0
IsCounterOf changes sums = IsDotSums sums × ((dot : Dot) → AreGreatestOf (changes dot) (find dot_cmp dot sums))

-- The set has exactly the inserts that no remove of their word had seen, and for each word and session the greatest count that its removes had seen.
pub record IsOrSetOf (all : List Insert) (seen : List ℕ → List (List (ℕ × ℕ))) (set : PlainDotSet) : Type 0 where
  pub is_set : IsDotSet set
  pub inserts : (insert : Insert) → IsTrue (sets.has insert_cmp insert set.inserts) ↔ (Contains all insert × ((clock : List (ℕ × ℕ)) → Contains (seen insert.word) clock → counts clock insert.dot ≡ false))
  pub removals : (word : List ℕ) (session : ℕ) → IsGreatestOrZero (map (count_of session) (seen word)) (count_of session (seen_at word set.removals))

-- a version of the list whose clock is strictly below that of no other
abbrev pub IsMaximal : List Version → Version → Type 0
IsMaximal all version = Contains all version × ((other : Version) → Contains all other → is_below version other ≡ false)

-- The value is that of the puts, whose kind this is:
-- the greatest number; on, where there is any put; exactly the words; of exactly the fields that occur the greatest number;
-- the greatest by Lamport number, session, place and word; exactly the versions whose clock is strictly below no other's;
-- at each dot the greatest that is added and the greatest that is taken; exactly the inserts that no remove had seen, and what the removes had seen.
abbrev pub IsValueOf : Kind → List Put → Value → Type 0
IsValueOf kinds.Max puts (values.Max greatest) = IsGreatest ◌≤◌ (numbers puts) (plain_of (λ number. number) greatest)
IsValueOf kinds.Or puts (values.Or on) = IsTrue on ↔ (0 < length puts)
IsValueOf kinds.Set puts (values.Set set) = IsTextSet set × ((word : List ℕ) → IsTrue (has word set) ↔ Contains (words puts) word)
IsValueOf kinds.Map puts (values.Map fields) = IsFields fields × ((field : List ℕ) → IsGreatest ◌≤◌ (numbers_at field puts) (find word_cmp field fields))
IsValueOf kinds.Last puts (values.Last last) = IsGreatest (λ a b. IsTrue (is_le (stamp_cmp a b))) (stamped puts) (plain_of (λ word. word) last)
IsValueOf kinds.Versions puts (values.Versions kept) = IsVersions kept × ((version : Version) → IsTrue (sets.has version_cmp version kept) ↔ IsMaximal (versions puts) version)
IsValueOf kinds.Counter puts (values.Counter sums) = IsCounterOf (changes_at puts) sums
IsValueOf kinds.OrSet puts (values.OrSet set) = IsOrSetOf (inserts puts) (seen_by_removes puts) set
IsValueOf _ puts _ = ⊥

-- the puts of a session
abbrev pub puts_of_session : ℕ → List Put → List Put
puts_of_session session puts = filter (λ put. session == put.session) puts

-- The cell is that of the puts: its clock has for each session the greatest number, its top is the greatest Lamport number,
-- its value is the plain value, and its needs have for each key and session the greatest count in those of the puts; each 0 for none.
pub record IsCellOf (kind : Kind) (puts : List Put) (cell : PlainCell) : Type 0 where
  pub clock : (session : ℕ) → IsGreatestOrZero (map (λ put. put.number) (puts_of_session session puts)) (count_of session cell.clock)
  pub top : IsGreatestOrZero (map (λ put. put.lamport) puts) cell.top
  pub value : IsValueOf kind puts cell.value
  pub needs : (key session : ℕ) → IsGreatestOrZero (map (λ put. count_of session (clock_at key put.needs)) puts) (count_of session (clock_at key cell.needs))
