-- Sessions begin as their plans say still, where those that have ended stay as they are.
use Rattle.std.specs.Prelude.{◌≡◌, ℕ, ◌-◌, IsTrue, List, length, slice_get, Option, Some, None}
use Rattle.std.proofs.Common.{◌∙◌, ap, sym}
use Rattle.session_proxy.specs.State.{Course, Knew, Origin, WaitsFor, has_begun}
use Rattle.party_turns.proofs.ItemsLemmas.{there_too}
use Rattle.party_turns.specs.Running.{BeginsAs}

-- how far a session is stays where it has ended
abbrev pub StaysEnded : Course → Course → Type 0
StaysEnded was is = IsTrue (has_begun was) → length was.answers ≡ length was.lines → is ≡ was

pub begins_still : (before now : List Course) → length now ≡ length before
    → ((place : ℕ) (was is : Course) → slice_get before place ≡ Some was → slice_get now place ≡ Some is → StaysEnded was is)
    → (after : Option ℕ) (origin : Origin) → BeginsAs before after origin → BeginsAs now after origin
begins_still before now long each None origin begins = begins
begins_still before now long each (Some after) (Knew known) begins =
    let is = there_too now before (after - 1) begins.course (sym long) begins.there in
    record {
      course = begins.course;
      there = is.1 ∙ ap Some (each (after - 1) begins.course is.0 begins.there is.1 begins.begun begins.answered);
      begun = begins.begun;
      answered = begins.answered;
      known_is = begins.known_is;
    }
begins_still before now long each (Some after) (WaitsFor session) begins = begins
