-- Sets that observed removes take from: the inserts that no remove of their word had seen, and for each removed word what the removes had seen.
use Rattle.std.specs.Prelude.{◌≡◌, ℕ, ◌<◌, Some, slice_get, not, false, Bool, List, [], ◌∷◌, All, unwrap_or}
use denote.Ref.{Bor}
use Rattle.std.specs.List.{filter, list_any}
use Rattle.std.specs.FinMap.{find}
use Rattle.std.specs.Ordering.{eq_by_cmp}
use Rattle.std.specs.declared.cmp.Ordering.TheVariants.{Less}
use Rattle.lattice_laws.specs.Entries.{IsMap, plain_entries, joined_maps}
use Rattle.lattice_laws.specs.Sets as sets
use Rattle.basic_lattices.specs.Word.{IsWord, word_cmp}
use Rattle.clock_lattice.specs.Clock.{joined_clocks}
use Rattle.clock_lattice.specs.Needs.{IsSomeClock}
use Rattle.dot_lattices.specs.Dot.{counts}
use Rattle.dot_lattices.specs.Insert.{insert_cmp, IsInsert}
use Rattle.dot_lattices.specs.declared.dot.Dot.{Dot}
use Rattle.dot_lattices.specs.declared.insert.Insert.{Insert}

pub record PlainDotSet : Type 0 where
  pub inserts : List Insert
  pub removals : List (List ℕ × List (ℕ × ℕ))

-- removed words in order, each with a clock that counts something
abbrev pub AreRemovals : List (List ℕ × List (ℕ × ℕ)) → Type 0
AreRemovals removals = IsMap word_cmp IsWord IsSomeClock removals

-- what the removes of a word had seen
abbrev pub seen_at : List ℕ → List (List ℕ × List (ℕ × ℕ)) → List (ℕ × ℕ)
seen_at word removals = unwrap_or (find word_cmp word removals) []

-- the removes of its word had seen the insert
abbrev pub is_seen : List (List ℕ × List (ℕ × ℕ)) → Insert → Bool
is_seen removals insert = counts (seen_at insert.word removals) insert.dot

-- the inserts that they had not seen
abbrev pub unseen_by : List (List ℕ × List (ℕ × ℕ)) → List Insert → List Insert
unseen_by removals inserts = filter (λ insert. not (is_seen removals insert)) inserts

-- no insert had been seen
abbrev pub AreUnseen : PlainDotSet → Type 0
AreUnseen set = All (λ insert. is_seen set.removals insert ≡ false) set.inserts

-- a set that there can be
pub record IsDotSet (set : PlainDotSet) : Type 0 where
  pub inserts : sets.IsSet insert_cmp IsInsert set.inserts
  pub removals : AreRemovals set.removals
  pub unseen : AreUnseen set

-- word by word the clocks of two sets joined
abbrev pub joined_removals : List (List ℕ × List (ℕ × ℕ)) → List (List ℕ × List (ℕ × ℕ)) → List (List ℕ × List (ℕ × ℕ))
joined_removals a b = joined_maps word_cmp joined_clocks a b

-- the clocks joined, and the inserts of both that these do not count
abbrev pub joined_dot_sets : PlainDotSet → PlainDotSet → PlainDotSet
joined_dot_sets a b = record {
  inserts = unseen_by (joined_removals a.removals b.removals) (sets.united insert_cmp a.inserts b.inserts);
  removals = joined_removals a.removals b.removals;
}

-- the set of no put
abbrev pub no_inserts : PlainDotSet
no_inserts = record { inserts = []; removals = [] }

-- that of one insert
abbrev pub one_insert : List ℕ → Dot → PlainDotSet
one_insert word dot = record { inserts = record { word = word; dot = dot } ∷ []; removals = [] }

-- and that of one remove, where something had been seen
abbrev pub removal_of : List ℕ → List (ℕ × ℕ) → List (List ℕ × List (ℕ × ℕ))
removal_of word [] = []
removal_of word (entry ∷ seen) = (word, entry ∷ seen) ∷ []

abbrev pub one_remove : List ℕ → List (ℕ × ℕ) → PlainDotSet
one_remove word seen = record { inserts = []; removals = removal_of word seen }

-- that of these inserts and removals
abbrev pub parts_of : List Insert → List (List ℕ × List (ℕ × ℕ)) → PlainDotSet
parts_of inserts removals = record { inserts = inserts; removals = plain_entries (λ clock. clock) removals }

-- whether an insert of the word is there, and whether this insert is
abbrev pub has : List ℕ → PlainDotSet → Bool
has word set = list_any (λ insert. eq_by_cmp word_cmp word insert.word) set.inserts

abbrev pub has_insert : Insert → PlainDotSet → Bool
has_insert insert set = sets.has insert_cmp insert set.inserts

-- an insert and a removal of which the word, and the clock, are lent
abbrev pub insert_lent : Bor (List ℕ) × ℕ × ℕ → Insert
insert_lent lent = record { word = lent.0.now; dot = record { session = lent.1; number = lent.2 } }

abbrev pub removal_lent : Bor (List ℕ) × Bor (List (ℕ × ℕ)) → List ℕ × List (ℕ × ℕ)
removal_lent lent = (lent.0.now, lent.1.now)

-- the removals before a place are of lesser words
abbrev pub AreLesser : List ℕ → ℕ → List (List ℕ × List (ℕ × ℕ)) → Type 0
AreLesser word place removals = (k : ℕ) (removal : List ℕ × List (ℕ × ℕ)) → k < place → slice_get removals k ≡ Some removal → word_cmp removal.0 word ≡ Less
