-- Boxes that are made and their senders, by all that their traits let contracts see of them.
use Rattle.std.specs.Prelude.{◌≡◌, ℕ, ◌+◌, false, true, List, map, slice_get, Some, Vec}
use Rattle.mail_contract.specs.OverWeakBoxes as batches_in
use Rattle.mail_contract.specs.declared.gossip.GossipRx as weak
use Rattle.mail_contract.specs.declared.rx.Rx as boxes
use Rattle.mail_contract.specs.declared.tx.Tx as senders
use Rattle.party_turns.specs.Mates.{IsMate}
use Rattle.party_turns.specs.Rows.{rows_in}
use Rattle.party_ends.specs.Dealt as dealt
use Rattle.party_ends.specs.Fresh as fresh
use Rattle.party_ends.specs.Numbers as numbers

-- boxes, and their senders
module _ {S Q M SK QK : Type 0} (from : senders.Ghosts S M SK) (its : boxes.Ghosts Q M S QK SK) where
  -- nothing was taken of the box, and its senders, so many, have sent nothing
  abbrev pub IsFresh : ℕ → List S → Q → Type 0
  IsFresh = fresh.IsFresh from.number from.sent from.key its.key its.pairs its.senders its.received its.about

  -- so many rows of senders, which have sent nothing, and so many boxes are of one making
  abbrev pub AreNew : {A : Type 0} → ℕ → ℕ → List (Vec S A) → List Q → Type 0
  AreNew many_rows many_boxes rows boxes = dealt.AreNew from.key from.number from.sent its.pairs its.key its.about false many_rows many_boxes (rows_in rows) boxes

  -- so many boxes, each fresh with so many senders, which were dealt to rows
  abbrev pub AreMade : {A : Type 0} → ℕ → ℕ → List (Vec S A) → List Q → Type 0
  AreMade many_boxes many_senders rows boxes = dealt.AreMade (IsFresh many_senders) many_boxes many_senders (rows_in rows) boxes

  -- a box has received nothing, and none of its senders but those of the run is left to take in
  abbrev pub IsEmptyOf : (ℕ → Type 0) → Q → Type 0
  IsEmptyOf of_run = dealt.IsEmptyBoxOf of_run its.key its.senders its.received its.about

-- weak boxes, and their senders
module _ {O G M OK GK : Type 0} (from : senders.Ghosts O M OK) (its : weak.Ghosts G M O GK OK) where
  -- nothing was handed out of the box, and its senders, so many, have sent nothing
  abbrev pub IsFreshWeak : ℕ → List O → G → Type 0
  IsFreshWeak = fresh.IsFreshWeak from.number from.sent from.key its.key its.pairs its.senders its.got its.about

  -- so many rows of senders, which have sent nothing, and so many boxes are of one making: each row has a sender to each box but its own
  abbrev pub AreFresh : {A : Type 0} → ℕ → List (Vec O A) → List G → Type 0
  AreFresh mates rows boxes = dealt.AreNew from.key from.number from.sent its.pairs its.key its.about true mates mates (rows_in rows) boxes

  -- so many boxes, each fresh with so many senders, which were dealt to rows
  abbrev pub AreMadeWeak : {A : Type 0} → ℕ → ℕ → List (Vec O A) → List G → Type 0
  AreMadeWeak many_boxes many_senders rows boxes = dealt.AreMade (IsFreshWeak many_senders) many_boxes many_senders (rows_in rows) boxes

  -- each box has handed out nothing, and none of its senders but those of its mates is left to take in
  abbrev pub AreEmptyOfMates : ℕ → List G → Type 0
  AreEmptyOfMates mates made =
      (place : ℕ) (mailbox : G) → slice_get made place ≡ Some mailbox → dealt.IsEmptyWeakBoxOf (IsMate mates (place + 1)) its.key its.senders its.got its.about mailbox

  -- each box may take in the sender at its own place of the row there, and does
  abbrev pub MayTakeInOwn : ℕ → List O → G → Type 0
  MayTakeInOwn = dealt.MayTakeInOwn from.key from.number its.pairs its.key its.about

  abbrev pub TakesInOwn : ℕ → List O → List O → G → G → Type 0
  TakesInOwn = dealt.TakesInOwn from.number from.sent its.key its.senders its.keeps (batches_in.seen its)

  abbrev pub MayTakeInOwns : List (List O) → List G → Type 0
  MayTakeInOwns rows boxes = (place : ℕ) (row : List O) (mailbox : G) → slice_get rows place ≡ Some row → slice_get boxes place ≡ Some mailbox → MayTakeInOwn place row mailbox

-- Boxes, one in each of some items, were made with the numbers of their owners, from the owner with the number 1.
abbrev pub AreNumbered : {G M O X GK OK : Type 0} → weak.Ghosts G M O GK OK → (ℕ → List ℕ) → (X → G) → List X → Type 0
AreNumbered its owned mailbox items = numbers.AreNumbered owned (map (λ item. its.made_with (its.key (mailbox item))) items)
