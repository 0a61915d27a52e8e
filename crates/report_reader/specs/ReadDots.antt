-- The parts of counters and of sets with removal that are read: what is in form.
use Rattle.std.specs.Prelude.{ℕ, ◌<◌, ◌≤◌, List, length, All}
use Rattle.lattice_laws.specs.Sets.{IsSet}
use Rattle.dot_lattices.specs.DotSet.{PlainDotSet, IsDotSet, AreRemovals}
use Rattle.dot_lattices.specs.DotSums.{IsDotSums}
use Rattle.dot_lattices.specs.Insert.{insert_cmp, IsInsert}
use Rattle.dot_lattices.specs.declared.amounts.Amounts.{Amounts}
use Rattle.dot_lattices.specs.declared.dot.Dot.{Dot}
use Rattle.dot_lattices.specs.declared.insert.Insert.{Insert}
use Rattle.placement.specs.Config.{IsOneOf}
use Rattle.report_lines.specs.Parts.{IsClockedIn}
use Rattle.report_lines.specs.Text.{or_set_word}
use Rattle.session_known.specs.Form.{NamesSessions}
use Rattle.session_known.specs.declared.script.Script.{Script}

-- ---- counters

-- dots of sessions of the script, in order
abbrev pub AreSumsIn : Script → List (Dot × Amounts) → Type 0
AreSumsIn script sums = IsDotSums sums × All (λ entry. IsOneOf (length script.sessions) entry.0.session) sums

-- a counter in form
abbrev pub IsCounterIn : Script → List (Dot × Amounts) → Type 0
IsCounterIn script sums = AreSumsIn script sums × (length sums ≤ 4096)

-- ---- sets with removal

-- inserts of sessions of the script, in order
abbrev pub AreInsertsIn : Script → List Insert → Type 0
AreInsertsIn script inserts = IsSet insert_cmp IsInsert inserts × All (λ insert. IsOneOf (length script.sessions) insert.dot.session) inserts

-- a removed word with a clock of the script that counts something
abbrev pub IsRemovalIn : Script → List ℕ × List (ℕ × ℕ) → Type 0
IsRemovalIn script removal = IsClockedIn script removal × (0 < length removal.1)

-- such removed words in order
abbrev pub AreRemovalsIn : Script → List (List ℕ × List (ℕ × ℕ)) → Type 0
AreRemovalsIn script removals = AreRemovals removals × All (λ removal. NamesSessions script removal.1) removals

-- a set in form
abbrev pub IsOrSetIn : Script → PlainDotSet → Type 0
IsOrSetIn script set = IsDotSet set × All (λ insert. IsOneOf (length script.sessions) insert.dot.session) set.inserts × All (λ removal. NamesSessions script removal.1) set.removals

abbrev pub set_word : Script → PlainDotSet → List ℕ
set_word script set = or_set_word script set.inserts set.removals
