-- A box of several senders, of which the lane of one changes.
use Rattle.std.proofs.Common.{◌≡◌, ◌≢◌, ℕ, ◌+◌, ◌-◌, ◌<◌, ◌≤◌, List, length, map, get_or, set, sym, ◌∙◌, ap, arith}
use Rattle.std.proofs.lemmas.List.{length-map, map-set}
use Rattle.mail_contract.specs.Lanes.{Lane, AreCounted, about_lane, about_of, nothing, of_sender, received_of}
use Rattle.mail_contract.specs.Takes.{from_sender}
use Rattle.mail_contract.proofs.LanesLemmas.{counted_same, from_sender_of, of_sender_at, of_sender_here, of_sender_there, received_same}
use Rattle.mail_contract.proofs.MapsLemmas.{at_map}

module _ {A K M : Type 0} (lane : A → Lane M) (key : A → K) (xs : List A) (n number : ℕ) (old new : A)
    (is : number ≡ n) (pos : 1 ≤ n) (fits : n ≤ length (map key xs)) (at : old ≡ get_or xs (number - 1) old) where
  pub place : n ≡ number - 1 + 1
  place = omega (arith, is)

  pub low : number - 1 < length xs
  low = omega (arith, is, length-map xs key)

  low_map : number - 1 < length (map lane xs)
  low_map = rw length-map low

  pub lane_now : of_sender (map lane (set xs (number - 1) new)) n ≡ lane new
  lane_now = ap (λ l. of_sender l n) (map-set lane xs (number - 1) new) ∙ of_sender_here (map lane xs) n (number - 1) (lane new) place low_map

  pub lane_before : of_sender (map lane xs) n ≡ lane old
  lane_before = ap (of_sender (map lane xs)) place ∙ of_sender_at (map lane xs) (number - 1) ∙ at_map lane xs (number - 1) old nothing low at

  pub others_stay : (other : ℕ) → other ≢ n → about_of (map lane (set xs (number - 1) new)) other ≡ about_of (map lane xs) other
  others_stay other differs = ap (λ l. about_of l other) (map-set lane xs (number - 1) new) ∙ ap about_lane (of_sender_there (map lane xs) n (number - 1) other (lane new) place differs)

  -- what was taken of the lane stays
  module _ (same : (lane new).taken ≡ (lane old).taken) (order : List ℕ) where
    taken : (lane new).taken ≡ (of_sender (map lane xs) n).taken
    taken = same ∙ ap (λ l. l.taken) (sym lane_before)

    pub still_counted : AreCounted order (map lane xs) → AreCounted order (map lane (set xs (number - 1) new))
    still_counted counted = rw map-set (counted_same (map lane xs) n (number - 1) (lane new) place low_map taken order counted)

    pub still_received : received_of order (map lane (set xs (number - 1) new)) ≡ received_of order (map lane xs)
    still_received = ap (received_of order) (map-set lane xs (number - 1) new) ∙ received_same (map lane xs) n (number - 1) (lane new) place low_map taken order

  -- and it is all that was received of its sender
  pub received_before : (order : List ℕ) → AreCounted order (map lane xs) → from_sender n (received_of order (map lane xs)) ≡ (lane old).taken
  received_before order counted = from_sender_of order (map lane xs) n (counted n) ∙ ap (λ l. l.taken) lane_before
