-- Which words an entry was read from.
use Rattle.std.specs.Prelude.{◌≡◌, ℕ, Bool, true, false, List, [], ◌∷◌, drop, slice_index_or, Option, Some, MatchOption}
use Rattle.composed_value.specs.declared.kind.Kind.{Kind}
use Rattle.session_known.specs.declared.script.Level.{Level}
use Rattle.script_reader.specs.Words.{kind_said, level_said, texts, lent}
use Rattle.script_reader.specs.Faults.{may_have, may_place}
use Rattle.script_reader.specs.Said.{says_factor, is_by_factor, predecessor_in}
use Rattle.script_reader.specs.declared.entry.Bare.TheVariants as bares
use Rattle.script_reader.specs.declared.entry.Entry.{Entry}
use Rattle.script_reader.specs.declared.entry.Entry.TheVariants as entries
use Rattle.script_reader.specs.declared.keyword.Keyword.{Keyword}
use Rattle.script_reader.specs.declared.keyword.Keyword.TheVariants as keywords

-- the words of a key after its kind: numbers where there are any, pins or a replication factor
pub record ArePlaced (placed : List (List ℕ)) (by_factor : Bool) (numbers : List (List ℕ)) : Type 0 where
  pub may_stand : may_place placed ≡ true
  pub by_is : says_factor placed ≡ by_factor
  pub numbers_are : drop 1 placed ≡ numbers

-- the words after `key`: a name, a kind, and numbers where there are any, pins or a replication factor
pub record AreKeyWords (words : List (List ℕ)) (name : List ℕ) (kind : Kind) (by_factor : Bool) (numbers : List (List ℕ)) : Type 0 where
  pub may_stand : may_have keywords.Key words ≡ true
  pub name_is : slice_index_or words 0 [] ≡ name
  pub kind_is : kind_said (slice_index_or words 1 []) ≡ Some kind
  pub by_is : is_by_factor words ≡ by_factor
  pub numbers_are : drop 3 words ≡ numbers

-- the words after `session`: a name, a level, and the name of the session that it comes after where one is named
pub record AreSessionWords (words : List (List ℕ)) (name : List ℕ) (level : Level) (after : Option (List ℕ)) : Type 0 where
  pub may_stand : may_have keywords.Session words ≡ true
  pub name_is : slice_index_or words 0 [] ≡ name
  pub level_is : level_said (slice_index_or words 1 []) ≡ Some level
  pub after_is : predecessor_in words ≡ after

-- The entry says what stands after the first word, and there may stand as much.
abbrev pub Shows : Entry → Keyword → List (List ℕ) → Type 0
Shows (entries.Header version) keyword words = (keyword ≡ keywords.Anna) × (words ≡ version.now ∷ [])
Shows (entries.Workers number) keyword words = (keyword ≡ keywords.Workers) × (words ≡ number.now ∷ [])
Shows (entries.Factor number) keyword words = (keyword ≡ keywords.Factor) × (words ≡ number.now ∷ [])
Shows (entries.Round number) keyword words = (keyword ≡ keywords.Round) × (words ≡ number.now ∷ [])
Shows (entries.Key name kind by_factor numbers) keyword words = (keyword ≡ keywords.Key) × AreKeyWords words name.now kind by_factor (texts numbers.now)
Shows (entries.Session name level after) keyword words = (keyword ≡ keywords.Session) × AreSessionWords words name.now level (lent after)
Shows (entries.Put key payload) keyword words = (keyword ≡ keywords.Put) × (may_have keywords.Put words ≡ true) × (words ≡ key.now ∷ texts payload.now)
Shows (entries.Get key) keyword words = (keyword ≡ keywords.Get) × (words ≡ key.now ∷ [])
Shows (entries.GetFrom key worker) keyword words = (keyword ≡ keywords.Get) × (words ≡ key.now ∷ worker.now ∷ [])
Shows (entries.Await key session count) keyword words = (keyword ≡ keywords.Await) × (words ≡ key.now ∷ session.now ∷ count.now ∷ [])
Shows (entries.Bare bares.Begin) keyword words = (keyword ≡ keywords.Begin) × (words ≡ [])
Shows (entries.Bare bares.Commit) keyword words = (keyword ≡ keywords.Commit) × (words ≡ [])
Shows (entries.Bare bares.Abort) keyword words = (keyword ≡ keywords.Abort) × (words ≡ [])
Shows (entries.Bare bares.End) keyword words = (keyword ≡ keywords.End) × (words ≡ [])

-- The line was told apart, where there may stand as much after the first word.
abbrev pub TellsApart : Keyword → List (List ℕ) → Option Entry → Type 0
TellsApart keyword words result = MatchOption result (may_have keyword words ≡ false) (λ entry. Shows entry keyword words)
