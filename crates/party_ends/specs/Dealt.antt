-- Boxes are made one after another, and the senders of each are dealt to rows.
use Rattle.std.specs.Prelude.{◌≡◌, ℕ, ◌<◌, ◌≤◌, Bool, List, [], ◌∷◌, ◌++◌, All, length, map, slice_get, Option, Some, None, Vec}
use Rattle.std.specs.Global.{Global}
use Rattle.std.specs.List.{remove, zip}
use Rattle.mail_contract.specs.Boxes.{SettlesWeak, WeakBox}
use Rattle.mail_contract.specs.Parts.{Parts}
use Rattle.mail_contract.specs.Standing.{About}
use Rattle.store_msg.specs.declared.ends.SessionEndsOver.{SessionEndsOver}
use Rattle.store_msg.specs.declared.ends.WorkerEndsOver.{WorkerEndsOver}
use Rattle.party_turns.specs.Rows.{MayTakeIn}
use Rattle.party_turns.specs.Making.{AreOfOneMaking, IsBoxOf, IsWeakBoxOf}

-- Each row gets an item more at its end: the one at its own place.
pub record AreGiven {X : Type 0} (items : List X) (before now : List (List X)) : Type 0 where
  pub long : length now ≡ length before
  pub each : (place : ℕ) (was is : List X) (item : X) → slice_get before place ≡ Some was → slice_get now place ≡ Some is → slice_get items place ≡ Some item → is ≡ was ++ item ∷ []

-- Lists were dealt to rows: in a row stand, in order, the items that stand in the lists at its own place.
pub record AreDealt {X : Type 0} (lists rows : List (List X)) : Type 0 where
  pub long : All (λ row. length row ≡ length lists) rows
  pub items : (row place : ℕ) (its list : List X) → slice_get rows row ≡ Some its → slice_get lists place ≡ Some list → slice_get its place ≡ slice_get list row

-- So many boxes, each fresh with its senders, which were dealt to so many rows.
pub record AreMade {S P : Type 0} (Fresh : List S → P → Type 0) (many_boxes many_rows : ℕ) (rows : List (List S)) (boxes : List P) : Type 0 where
  pub boxes_are : length boxes ≡ many_boxes
  pub rows_are : length rows ≡ many_rows
  -- the senders of each box
  pub senders : List (List S)
  pub as_many : length senders ≡ length boxes
  pub fresh : (place : ℕ) (its : List S) (box : P) → slice_get senders place ≡ Some its → slice_get boxes place ≡ Some box → Fresh its box
  pub dealt : AreDealt senders rows

-- So many rows of senders, which have sent nothing, and so many boxes are of one making.
pub record AreNew {S P M K SK : Type 0} (sender_key : S → SK) (number : S → ℕ) (sent : S → List M) (pairs : K → SK → ℕ → Type 0) (key : P → K) (about : P → ℕ → About M)
    (skips : Bool) (many_rows many_boxes : ℕ) (rows : List (List S)) (boxes : List P) : Type 0 where
  pub rows_are : length rows ≡ many_rows
  pub boxes_are : length boxes ≡ many_boxes
  pub making : AreOfOneMaking sender_key number pairs key about skips rows boxes
  pub nothing_sent : All (All (λ sender. sent sender ≡ [])) rows

-- the ends of sessions, and of workers, from those of each kind in the order of their owners
abbrev pub session_ends : {S R : Type 0} → List (Vec S Global) → List R → List (SessionEndsOver S R)
session_ends requests replies = map (λ its. record { requests = its.0; replies = its.1 }) (zip requests replies)

abbrev pub worker_ends : {Q T O G : Type 0} → List Q → List (Vec T Global) → List (Vec O Global) → List G → List (WorkerEndsOver Q T O G)
worker_ends requests replies gossip_out gossip_in =
    map (λ its. record { requests = its.0.0; replies = its.0.1; gossip_out = its.1.0; gossip_in = its.1.1 }) (zip (zip requests replies) (zip gossip_out gossip_in))

-- A box has received nothing, and none of its senders but those of the run is left to take in.
abbrev pub IsEmptyBoxOf : {P M K : Type 0} → (ℕ → Type 0) → (P → K) → (K → ℕ) → (P → List (ℕ × M)) → (P → ℕ → About M) → P → Type 0
IsEmptyBoxOf OfRun key senders received about box = (received box ≡ []) × IsBoxOf OfRun (senders (key box)) (received box) (about box)

-- and so a weak box
abbrev pub IsEmptyWeakBoxOf : {P M K : Type 0} → (ℕ → Type 0) → (P → K) → (K → ℕ) → (P → ℕ → ℕ → Option M) → (P → ℕ → About M) → P → Type 0
IsEmptyWeakBoxOf OfRun key senders got about box = ((sender place : ℕ) → got box sender place ≡ None) × IsWeakBoxOf OfRun (senders (key box)) (got box) (about box)

-- a box may take in the sender at a place of a row
abbrev pub MayTakeInOwn : {S P M K SK : Type 0} → (S → SK) → (S → ℕ) → (K → SK → ℕ → Type 0) → (P → K) → (P → ℕ → About M) → ℕ → List S → P → Type 0
MayTakeInOwn {S} sender_key number pairs key about place row box =
    (own : S) × (slice_get row place ≡ Some own) × MayTakeIn pairs (key box) (about box) (sender_key own) (number own)

-- A weak box takes in the sender at a place of a row, and the others are left in the row.
pub record TakesInOwn {S P M K : Type 0} (number : S → ℕ) (sent : S → List M) (key : P → K) (senders : K → ℕ) (keeps : Parts) (box : P → WeakBox M)
    (place : ℕ) (row left : List S) (before now : P) : Type 0 where
  pub own : S
  pub there : slice_get row place ≡ Some own
  pub left_is : left ≡ remove row place
  pub key_is : key now ≡ key before
  pub settles : SettlesWeak keeps (senders (key before)) (number own) (sent own) (box before) (box now)

-- At each place before a given one something was done to the items of two lists there; the others are as they were.
pub record AreDoneBefore {X Y : Type 0} (Does : ℕ → X → X → Y → Y → Type 0) (xs : List X) (ys : List Y) (place : ℕ) (xs_now : List X) (ys_now : List Y) : Type 0 where
  pub xs_long : length xs_now ≡ length xs
  pub ys_long : length ys_now ≡ length ys
  pub done : (at : ℕ) (x x_now : X) (y y_now : Y) → at < place → slice_get xs at ≡ Some x → slice_get xs_now at ≡ Some x_now → slice_get ys at ≡ Some y → slice_get ys_now at ≡ Some y_now
      → Does at x x_now y y_now
  pub xs_left : (at : ℕ) → place ≤ at → slice_get xs_now at ≡ slice_get xs at
  pub ys_left : (at : ℕ) → place ≤ at → slice_get ys_now at ≡ slice_get ys at
