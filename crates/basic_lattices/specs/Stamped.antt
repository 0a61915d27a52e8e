-- Words with a stamp, ordered by the stamp and then by the word.
use Rattle.std.specs.Prelude.{◌<◌, ◌^◌}
use Rattle.std.specs.Ordering.{ordering_then, nat_cmp}
use Rattle.std.specs.declared.cmp.Ordering.{Ordering}
use Rattle.basic_lattices.specs.Word.{IsWord, word_cmp}
use Rattle.basic_lattices.specs.declared.stamped.Stamped.{Stamped}

-- by number, then session, then place, then word
abbrev pub stamp_cmp : Stamped → Stamped → Ordering
stamp_cmp a b = ordering_then (nat_cmp a.number b.number) (ordering_then (nat_cmp a.session b.session) (ordering_then (nat_cmp a.place b.place) (word_cmp a.word b.word)))

-- a stamped word that there can be
pub record IsStamped (stamped : Stamped) : Type 0 where
  pub number_fits : stamped.number < 2 ^ 64
  pub session_fits : stamped.session < 2 ^ 16
  pub place_fits : stamped.place < 2 ^ 32
  pub is_word : IsWord stamped.word
