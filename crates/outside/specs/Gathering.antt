-- A text on its way to a sink: what is gathered in a block, and what was given.
use Rattle.std.specs.Prelude.{◌≡◌, ℕ, ◌≤◌, List, [], ◌++◌, Option, Bool, true, false, Result, Ok, Err}
use Rattle.lattice_laws.specs.Counts.{Rose}
use Rattle.outside.specs.Outside.{Grew, GrewByFront}
use Rattle.outside.specs.declared.Failed.{Failed}
use Rattle.outside.specs.declared.gathering.Out.{Out}

-- Nothing is gathered on the way to this sink, and it has not failed.
abbrev pub Begins : {K : Type 0} → K → Out K → Type 0
Begins sink out = (out.sink.now ≡ sink) × (out.held ≡ []) × (out.failed ≡ false)

-- What became of a text, by whether the sink had failed before and has failed now. `held` was gathered before, and `holds` is now.
-- While the sink does not fail, what was given and what is held are the text in order. Where it fails, a front of it was written,
-- and its count of faults rose. After that nothing is done to the sink.
abbrev pub Passes : {K : Type 0} → (K → Option (List ℕ)) → (K → ℕ) → Bool → Bool → K → K → List ℕ → List ℕ → List ℕ → Type 0
Passes written faults false false before now held holds text =
    (given : List ℕ) × Grew (written before) (written now) given × (given ++ holds ≡ held ++ text)
Passes written faults false true before now held holds text =
    GrewByFront (written before) (written now) (held ++ text) × Rose (faults before) (faults now)
Passes written faults true true before now held holds text = now ≡ before
Passes written faults true false before now held holds text = ⊥

-- The text was written to `old`, which became `new`: one call or many.
pub record Adds {K : Type 0} (written : K → Option (List ℕ)) (faults : K → ℕ) (old new : Out K) (text : List ℕ) : Type 0 where
  pub same : new.sink.ghost_name ≡ old.sink.ghost_name
  pub passes : Passes written faults old.failed new.failed old.sink.now new.sink.now old.held new.held text
  pub count : faults old.sink.now ≤ faults new.sink.now

-- How a text ends, by whether the sink has failed and what is held: with nothing left to give where it has not.
abbrev pub EndsAs : Bool → List ℕ → Result (Unit {0}) Failed → Type 0
EndsAs failed held (Ok done) = (failed ≡ false) × (held ≡ [])
EndsAs failed held (Err fault) = failed ≡ true

abbrev pub HasEnded : {K : Type 0} → Out K → Result (Unit {0}) Failed → Type 0
HasEnded out result = EndsAs out.failed out.held result

-- The text was written whole, or a front of it where the sink failed.
abbrev pub Wrote : Option (List ℕ) → Option (List ℕ) → List ℕ → Result (Unit {0}) Failed → Type 0
Wrote before now text (Ok done) = Grew before now text
Wrote before now text (Err failed) = GrewByFront before now text
