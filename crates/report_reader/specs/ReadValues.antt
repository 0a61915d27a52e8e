-- The parts of values that are read: what is in form, and how it is written.
use Rattle.std.specs.Prelude.{ℕ, ◌<◌, ◌^◌, Bool, if◌then◌else◌, List, ◌++◌, length, codes, All}
use Rattle.std.specs.Fmt.{decimal}
use Rattle.lattice_laws.specs.Entries.{IsEntry}
use Rattle.lattice_laws.specs.declared.maybe.Maybe.{Maybe}
use Rattle.lattice_laws.specs.declared.maybe.Maybe.TheVariants.{Bottom, Is}
use Rattle.basic_lattices.specs.Stamped.{IsStamped}
use Rattle.basic_lattices.specs.Word.{IsWord}
use Rattle.basic_lattices.specs.declared.stamped.Stamped.{Stamped}
use Rattle.session_known.specs.Form.{NamesSessions}
use Rattle.placement.specs.Config.{IsOneOf}
use Rattle.session_known.specs.Script.{session_name}
use Rattle.session_known.specs.declared.script.Script.{Script}
use Rattle.version_antichain.specs.Version.{IsVersion}
use Rattle.version_antichain.specs.Versions.{IsVersions}
use Rattle.version_antichain.specs.declared.version.Version.{Version}
use Rattle.report_lines.specs.Text.{stamped_text}

-- ---- numbers and flags

abbrev pub greatest_word : Maybe ℕ → List ℕ
greatest_word Bottom = codes "none"
greatest_word (Is number) = decimal number

abbrev pub flag_word : Bool → List ℕ
flag_word on = if on then codes "on" else codes "none"

-- ---- fields

-- a field with its number
abbrev pub IsField : List ℕ × ℕ → Type 0
IsField field = IsEntry IsWord (λ number. number < 2 ^ 64) field

-- ---- stamped words

-- a number, a session of the script and a place
abbrev pub IsStampIn : Script → ℕ × ℕ × ℕ → Type 0
IsStampIn script stamp = (stamp.0 < 2 ^ 64) × IsOneOf (length script.sessions) stamp.1 × (stamp.2 < 2 ^ 32)

-- a stamp: `NUMBER/SESSION/PLACE`
abbrev pub stamp_text : Script → ℕ × ℕ × ℕ → List ℕ
stamp_text script stamp = decimal stamp.0 ++ (codes "/" ++ (session_name script stamp.1 ++ (codes "/" ++ decimal stamp.2)))

-- a stamped word of a session of the script
abbrev pub IsStampedIn : Script → Stamped → Type 0
IsStampedIn script stamped = IsStamped stamped × IsOneOf (length script.sessions) stamped.session

abbrev pub last_word : Script → Maybe Stamped → List ℕ
last_word script Bottom = codes "none"
last_word script (Is stamped) = stamped_text script stamped

-- ---- versions

-- a version under a clock of the script
abbrev pub IsVersionIn : Script → Version → Type 0
IsVersionIn script version = IsVersion version × NamesSessions script version.clock

-- versions in form
abbrev pub AreVersionsIn : Script → List Version → Type 0
AreVersionsIn script versions = IsVersions versions × All (λ version. NamesSessions script version.clock) versions
