-- The lanes of a box, each at its place from 0, by what their trait lets contracts see of them.
use Rattle.std.specs.Prelude.{ℕ, ◌+◌, ◌<◌, ◌≤◌, List, length, map, Option, Result}
use Rattle.mail_contract.specs.Lanes.{Lane, IsDry, IsGiven, at_place}
use Rattle.mail_contract.specs.Takes.{ComesBefore, OnSome}
use Rattle.mail_contract.specs.declared.lane.Lane as ends

module _ {L M S LK SK : Type 0} (its : ends.Ghosts L M S LK SK) where
  -- what contracts see of the one at a place
  abbrev pub lane_at : List L → ℕ → Lane M
  lane_at lanes place = at_place (map its.lane lanes) place

  -- the one at the answer's place gives the message
  abbrev pub Gives : {E : Type 0} → Result (Option (ℕ × M)) E → List L → List L → Type 0
  Gives answer before now = OnSome answer (λ place message. IsGiven its.keeps (lane_at before place) (lane_at now place))

  -- nothing is found in the one at a place
  abbrev pub IsDryAt : List L → ℕ → Type 0
  IsDryAt lanes place = IsDry its.keeps (lane_at lanes place)

  -- nor in any from a place on, before another
  abbrev pub AreDryFrom : List L → ℕ → ℕ → Type 0
  AreDryFrom lanes from to = (place : ℕ) → from ≤ place → place < to → IsDryAt lanes place

  -- nor in any whose turn comes before that of a place, after the turn of the last
  abbrev pub AreDryBefore : List L → ℕ → ℕ → Type 0
  AreDryBefore lanes last to = (place : ℕ) → place < length lanes → ComesBefore last (place + 1) (to + 1) → IsDryAt lanes place

  -- nor in any of them
  abbrev pub AreAllDry : List L → Type 0
  AreAllDry lanes = (place : ℕ) → place < length lanes → IsDryAt lanes place
