-- Plain mail: what a lane of it holds, and what a parcel adds to its box.
use Rattle.std.specs.Prelude.{◌≡◌, ℕ, ◌+◌, ◌-◌, ◌≤◌, Bool, true, false, if◌then◌else◌, List, [], ◌∷◌, ◌++◌, length, take, slice_index_or, slice_set, Result, Ok, Err}
use Rattle.mail_contract.specs.Carried.{Carried}
use Rattle.mail_contract.specs.Lanes.{Lane, about_lane, nothing}
use Rattle.mail_contract.specs.Parts.{Parts}
use Rattle.mail_contract.specs.declared.parcels.ParcelFault.{ParcelFault}
use Rattle.mail_contract.specs.declared.parcels.ParcelFault.TheVariants.{Strange, NoMemory}
use Rattle.mail_contract.specs.Standing.{About, Apart, Settled, IsSettled, OthersStay}

-- what plain mail keeps
abbrev pub plain_parts : Parts
plain_parts = record {
  shows = false;
  bounded = false;
  roomy = false;
  finite = true;
  advances = false;
  freed = true;
  complete = false;
  exact = true;
  turns = true;
  sure = false;
}

-- a lane that was given messages and has handed out so many of them; once its sender is taken in, these are all that it sent
abbrev pub lane_of : {M : Type 0} → List M → ℕ → Bool → Lane M
lane_of given taken settled = record {
  taken = take taken given;
  standing = if settled then Settled given else Apart;
  met = true;
  left = length given - taken;
}

-- once so many more messages are left
abbrev pub with_more : {M : Type 0} → ℕ → Lane M → Lane M
with_more more lane = record lane { left = lane.left + more }

module _ {M U : Type 0} where
  -- a parcel is taken in only where it follows what came before; else it is strange
  abbrev pub IsCause : Type 0 → Carried M → Result U (ParcelFault M) → Type 0
  IsCause follows parcel (Ok done) = follows
  IsCause follows parcel (Err (Strange back)) = (back ≡ parcel) × (follows → ⊥)
  IsCause follows parcel (Err (NoMemory back)) = (back ≡ parcel) × follows

  -- by the answer
  abbrev pub OnDelivered : Result U (ParcelFault M) → Type 0 → Type 0 → Type 0
  OnDelivered (Ok done) holds otherwise = holds
  OnDelivered (Err fault) holds otherwise = otherwise

-- what is seen changes so where a parcel is taken in, and stays where it comes back
abbrev pub Becomes : {A B M U : Type 0} → Result U (ParcelFault M) → (A → B) → (B → B) → A → A → Type 0
Becomes result seen change before now = OnDelivered result (seen now ≡ change (seen before)) (seen now ≡ seen before)

-- what was delivered of a sender, from 1
abbrev pub delivered : {M : Type 0} → List (List M) → ℕ → List M
delivered lanes sender = slice_index_or ([] ∷ lanes) sender []

-- a parcel begins where the last one of its sender ended: the sender is one of the box's, and not taken in
pub record Follows {M : Type 0} (lanes : List (List M)) (about : ℕ → About M) (parcel : Carried M) : Type 0 where
  pub from_one : 1 ≤ parcel.sender
  pub to_last : parcel.sender ≤ length lanes
  pub sends : IsSettled (about parcel.sender).standing → ⊥
  pub begins : parcel.begin ≡ length (delivered lanes parcel.sender)

-- what it carries comes after what was delivered of its sender
abbrev pub with_parcel : {M : Type 0} → Carried M → List (List M) → List (List M)
with_parcel parcel lanes = slice_set lanes (parcel.sender - 1) (delivered lanes parcel.sender ++ parcel.messages)

-- and is left to take
pub record IsLeft {M : Type 0} (parcel : Carried M) (before now : ℕ → About M) : Type 0 where
  pub here : now parcel.sender ≡ record (before parcel.sender) { left = (before parcel.sender).left + length parcel.messages }
  pub others : OthersStay parcel.sender before now

-- by the answer
abbrev pub LeavesParcel : {Q M U : Type 0} → Result U (ParcelFault M) → Carried M → (Q → ℕ → About M) → Q → Q → Type 0
LeavesParcel result parcel about before now = OnDelivered result (IsLeft parcel (about before) (about now)) (about now ≡ about before)

-- a sender that has sent nothing
abbrev pub nothing_sent : {M : Type 0} → About M
nothing_sent = about_lane nothing
