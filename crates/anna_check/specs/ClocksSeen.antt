-- The clocks that a session had from the workers.
use Rattle.std.specs.Prelude.{◌≡◌, ◌↔◌, ℕ, ◌-◌, ◌==◌, ◌&&◌, cond, Bool, IsTrue, List, [], ◌∷◌, ◌++◌, length, slice_index_or, All, Option, Some, None, Result, OnOk}
use Rattle.lattice_laws.specs.declared.lattice.NoMemory.{NoMemory}
use Rattle.clock_lattice.specs.Clock.{IsClock, covers}
use Rattle.clock_lattice.specs.Needs.{clock_at}
use Rattle.session_known.specs.Lawful.{had_from, earlier_from, IsClockFrom, IsLawfulReply, IsLawfulAgain, IsLawful}
use Rattle.placement.specs.Config.{IsOneOf}
use Rattle.session_known.specs.Session.{Knows, InState}
use Rattle.session_known.specs.declared.report.Answer.{Answer}
use Rattle.session_known.specs.declared.script.Line.{Line}

-- of clocks by worker and key that of this key from this worker
abbrev pub clock_from : List (List (ℕ × List (ℕ × ℕ))) → ℕ → ℕ → List (ℕ × ℕ)
clock_from had key worker = clock_at key (slice_index_or had (worker - 1) [])

-- for each key and each of so many workers there is the join of the clocks that the earlier answers had: a clock covers it exactly where
-- it covers each of them
pub record AreJoined (workers : ℕ) (earlier : List (Line × Answer)) (had : List (List (ℕ × List (ℕ × ℕ)))) : Type 0 where
  pub workers_are : length had ≡ workers
  pub join : (key worker : ℕ) (clock : List (ℕ × ℕ)) → IsOneOf workers worker → IsClock clock → IsTrue (covers clock (clock_from had key worker)) ↔ All (λ before. IsTrue (covers clock before)) (earlier_from key worker earlier)

-- the line's answer had no clock, of no key from no worker
abbrev pub HasNoClock : Line → Answer → Type 0
HasNoClock line answer = (key worker : ℕ) → had_from key worker (line, answer) ≡ None

-- the clock of the key from the worker is that of the line's answer, and it had no other
abbrev pub IsClockOf : Line → Answer → ℕ → ℕ → List (ℕ × ℕ) → Type 0
IsClockOf line answer key worker clock = (its_key by : ℕ) → had_from its_key by (line, answer) ≡ cond ((key == its_key) && (worker == by)) (Some clock) None

-- where the answer is Ok, the clocks are joined with that
abbrev pub HasNoted : {T : Type 0} → Result T NoMemory → List (List (ℕ × List (ℕ × ℕ))) → ℕ → ℕ → List (ℕ × ℕ) → List (List (ℕ × List (ℕ × ℕ))) → Type 0
HasNoted result seen key worker clock after =
    (workers : ℕ) (earlier : List (Line × Answer)) (line : Line) (answer : Answer) → IsClockOf line answer key worker clock
    → AreJoined workers earlier seen → OnOk result (AreJoined workers (earlier ++ (line, answer) ∷ []) after)

-- and with what the line's answer had, if it had a clock
abbrev pub HasTakenIn : {T : Type 0} → Result T NoMemory → List (List (ℕ × List (ℕ × ℕ))) → Line → Answer → List (List (ℕ × List (ℕ × ℕ))) → Type 0
HasTakenIn result seen line answer after =
    (workers : ℕ) (earlier : List (Line × Answer)) → AreJoined workers earlier seen → OnOk result (AreJoined workers (earlier ++ (line, answer) ∷ []) after)

-- ---- what a test tells

-- it passes exactly where the fact holds of the earlier answers
abbrev Tells : List (List (ℕ × List (ℕ × ℕ))) → Bool → (List (Line × Answer) → Type 0) → Type 0
Tells seen passes holds = (workers : ℕ) (earlier : List (Line × Answer)) → AreJoined workers earlier seen → IsTrue passes ↔ holds earlier

-- whether the worker may show this clock of the key
abbrev pub TellsClock : List (List (ℕ × List (ℕ × ℕ))) → List (List ℕ) → Knows → ℕ → ℕ → List (ℕ × ℕ) → Bool → Type 0
TellsClock seen table of key worker clock passes = Tells seen passes (λ earlier. IsClockFrom table of.client of.knows earlier key worker clock)

-- whether it may reply to the line with this clock
abbrev pub TellsReply : List (List (ℕ × List (ℕ × ℕ))) → List (List ℕ) → Knows → Line → ℕ → Option ℕ → ℕ → List (ℕ × ℕ) → Bool → Type 0
TellsReply seen table of line key named worker clock passes = Tells seen passes (λ earlier. IsLawfulReply table of.client of.knows earlier line key named worker clock)

-- whether the session may be told to ask again
abbrev pub TellsAgain : List (List (ℕ × List (ℕ × ℕ))) → List (List ℕ) → Knows → Line → ℕ → ℕ → ℕ → List (ℕ × ℕ) → Bool → Type 0
TellsAgain seen table of line key asks worker clock passes = Tells seen passes (λ earlier. IsLawfulAgain table of.client of.knows earlier line key asks worker clock)

-- and whether the line may get the answer
abbrev pub TellsLawful : List (List (ℕ × List (ℕ × ℕ))) → List (List ℕ) → InState → Line → Answer → Bool → Type 0
TellsLawful seen table session line answer passes = Tells seen passes (λ earlier. IsLawful table session.client session.state earlier line answer)
