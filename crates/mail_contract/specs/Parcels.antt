-- What plain mail's parcels do to a box, and to several senders.
use Rattle.std.specs.Prelude.{◌≡◌, ℕ, List, [], drop, length, map, slice_index_or, slice_set, Result}
use Rattle.mail_contract.specs.Carried.{Carried}
use Rattle.mail_contract.specs.Plain.{Becomes, Follows, IsCause, LeavesParcel, with_parcel}
use Rattle.mail_contract.specs.Standing.{About}
use Rattle.mail_contract.specs.Takes.{Answers}
use Rattle.mail_contract.specs.declared.parcels.ParcelFault.{ParcelFault}

-- A parcel is delivered to a box, or comes back, and nothing has changed. What was handed out stays in any case.
pub record Delivers {Q M R U : Type 0} (key : Q → List (List M)) (handed_out : Q → R) (answers : Q → Answers) (about : Q → ℕ → About M) (parcel : Carried M) (result : Result U (ParcelFault M)) (before now : Q) : Type 0 where
  pub cause : IsCause (Follows (key before) (about before) parcel) parcel result
  pub delivered : Becomes result key (with_parcel parcel) before now
  pub left : LeavesParcel result parcel about before now
  pub handed_out_stays : handed_out now ≡ handed_out before
  pub answers_stay : answers now ≡ answers before

-- The sender at a place, from 0, gives up what it sent since its last parcel; what the others gave up stays.
pub record GivesUp {T M : Type 0} (number : T → ℕ) (sent given : T → List M) (place : ℕ) (parcel : Carried M) (before now : List T) : Type 0 where
  pub numbers_stay : map number now ≡ map number before
  pub sent_stays : map sent now ≡ map sent before
  pub gives : map given now ≡ slice_set (map given before) place (slice_index_or (map sent before) place [])
  pub is : parcel ≡ record {
    sender = slice_index_or (map number before) place 0;
    begin = length (slice_index_or (map given before) place []);
    messages = drop (length (slice_index_or (map given before) place [])) (slice_index_or (map sent before) place []);
  }
