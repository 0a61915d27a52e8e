-- Words put into a set, each with the dot of its put.
use Rattle.std.specs.Ordering.{ordering_then}
use Rattle.std.specs.declared.cmp.Ordering.{Ordering}
use Rattle.basic_lattices.specs.Word.{IsWord, word_cmp}
use Rattle.dot_lattices.specs.Dot.{dot_cmp, IsDot}
use Rattle.dot_lattices.specs.declared.insert.Insert.{Insert}

-- by word, then dot
abbrev pub insert_cmp : Insert → Insert → Ordering
insert_cmp a b = ordering_then (word_cmp a.word b.word) (dot_cmp a.dot b.dot)

-- an insert that there can be
pub record IsInsert (insert : Insert) : Type 0 where
  pub is_word : IsWord insert.word
  pub is_dot : IsDot insert.dot
