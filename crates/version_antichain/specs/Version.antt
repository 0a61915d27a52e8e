-- Versions: words with the clocks under which they were written, and the order in which they are listed.
use Rattle.std.specs.Prelude.{ℕ, Bool, List}
use denote.Ref.{Bor}
use Rattle.std.specs.Ordering.{ordering_then}
use Rattle.std.specs.declared.cmp.Ordering.{Ordering}
use Rattle.basic_lattices.specs.Word.{IsWord, word_cmp}
use Rattle.clock_lattice.specs.Clock as clocks
use Rattle.clock_lattice.specs.ClockOrder.{clock_cmp}
use Rattle.version_antichain.specs.declared.version.Version.{Version}

-- a version that there can be
pub record IsVersion (version : Version) : Type 0 where
  pub is_clock : clocks.IsClock version.clock
  pub is_word : IsWord version.word

-- the version of which the clock and the word are lent
abbrev pub version_of : Bor (List (ℕ × ℕ)) × Bor (List ℕ) → Version
version_of lent = record { clock = lent.0.now; word = lent.1.now }

-- by the clock's list of (session, count), then by the word
abbrev pub version_cmp : Version → Version → Ordering
version_cmp a b = ordering_then (clock_cmp a.clock b.clock) (word_cmp a.word b.word)

-- the other version was written by somebody who had seen this one
abbrev pub is_below : Version → Version → Bool
is_below a b = clocks.is_below a.clock b.clock
