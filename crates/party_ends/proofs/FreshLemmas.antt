-- Boxes and their senders are fresh when they are made: what they tell, one by one.
use Rattle.std.specs.Prelude.{◌≡◌, ℕ, ◌+◌, ◌-◌, List, [], length, map, replicate, slice_get, slice_index_or, IfOk, Option, Result, Ok, Err, None, Some}
use Rattle.std.specs.List.{range_with_len}
use Rattle.std.proofs.Common.{◌∙◌, sym, ap, arith, refl}
use Rattle.std.proofs.lemmas.List.{length-map}
use Rattle.std.proofs.lemmas.List.FromFn.{get_or-range_with_len, length-range_with_len}
use Rattle.std.proofs.lemmas.Option.{slice_get_within}
use Rattle.mail_contract.proofs.MapsLemmas.{each_shows}
use Rattle.mail_contract.proofs.StandsLemmas.{apart_is_not_settled}
use Rattle.mail_contract.specs.Got.{got_of}
use Rattle.mail_contract.specs.Lanes.{IsLaneOf}
use Rattle.mail_contract.specs.Standing.{About, Apart}
use Rattle.placement.specs.Config.{IsOneOf}
use Rattle.party_turns.proofs.ItemsLemmas.{mapped_or, at_its_place}
use Rattle.party_ends.specs.Fresh.{IsFresh, IsFreshWeak}

module _ {S : Type 0} (number : S → ℕ) (senders : List S) (many : ℕ) (numbers : map number senders ≡ range_with_len 1 many) where
  -- there are as many senders as numbers
  as_many : length senders ≡ many
  as_many = sym (length-map senders number) ∙ ap length numbers ∙ length-range_with_len 1 many

  -- and each has the number after its place
  numbered : (place : ℕ) (sender : S) → slice_get senders place ≡ Some sender → number sender ≡ place + 1
  numbered place sender there =
      let within = slice_get_within senders place sender there in
      let is = get_or-range_with_len 1 many place 0 (omega (arith, within, as_many)) in
      sym (mapped_or number senders place sender 0 there) ∙ ap (λ all. slice_index_or all place 0) numbers ∙ is ∙ omega arith

  -- Where the senders' keys are those of the lanes, in one order, each is of one making with its lane.
  pair_up : {K : Type 0} (key : S → K) (lanes : List K) → map key senders ≡ lanes
      → (place : ℕ) (sender : S) → slice_get senders place ≡ Some sender → IsLaneOf (λ lane its. its ≡ lane) lanes (key sender) (number sender)
  pair_up key lanes same place sender there =
      let within = slice_get_within senders place sender there in
      let is = numbered place sender there in
      let long : length lanes ≡ length senders = sym (ap length same) ∙ length-map senders key in (
        omega (arith, is),
        omega (arith, is, within, long),
        λ lane at.
            let here : place ≡ number sender - 1 = omega (arith, is) in
            sym (mapped_or key senders place sender lane there) ∙ ap (λ all. slice_index_or all place lane) same ∙ ap (λ n. slice_index_or lanes n lane) here ∙ at,
      )

-- Where all senders have one key, the sender at each place has it.
pub each_tells : {S K : Type 0} (key : S → K) (senders : List S) (many : ℕ) (one : K) → map key senders ≡ replicate many one
    → (place : ℕ) (sender : S) → slice_get senders place ≡ Some sender → key sender ≡ one
each_tells key senders many one same place sender = at_its_place (λ its. key its ≡ one) senders place sender (each_shows key senders many one same)

module _ {S P M K SK : Type 0} (number : S → ℕ) (sent : S → List M) (sender_key : S → SK) (key : P → K) (pairs : K → SK → ℕ → Type 0) (box_senders : K → ℕ)
    (received : P → List (ℕ × M)) (about : P → ℕ → About M) (many : ℕ) (senders : List S) (box : P)
    (numbers : map number senders ≡ range_with_len 1 many) (none_sent : map sent senders ≡ replicate many [])
    (paired : (place : ℕ) (sender : S) → slice_get senders place ≡ Some sender → pairs (key box) (sender_key sender) (number sender))
    (senders_are : box_senders (key box) ≡ many) (none_received : received box ≡ []) (apart : (sender : ℕ) → IsOneOf many sender → (about box sender).standing ≡ Apart) where
  -- A box and its senders are fresh where it has received nothing, and knows of no sender;
  pub is_fresh : IsFresh number sent sender_key key pairs box_senders received about many senders box
  is_fresh = record {
    long = as_many number senders many numbers;
    numbered = numbered number senders many numbers;
    nothing_sent = each_shows sent senders many [] none_sent;
    paired = paired;
    senders_are = senders_are;
    received_is = none_received;
    not_taken_in = λ sender within. apart_is_not_settled (about box sender).standing (apart sender within);
  }

  -- and so are a weak box and its senders.
  pub is_fresh_weak : IsFreshWeak number sent sender_key key pairs box_senders (λ its. got_of (received its)) about many senders box
  is_fresh_weak = record {
    long = is_fresh.long;
    numbered = is_fresh.numbered;
    nothing_sent = is_fresh.nothing_sent;
    paired = paired;
    senders_are = senders_are;
    none_got = λ sender place. ap (λ messages. got_of messages sender place) none_received;
    not_taken_in = is_fresh.not_taken_in;
  }

module _ {S P M K : Type 0} (number : S → ℕ) (sent : S → List M) (sender_key : S → K) (key : P → List K)
    (received : P → List (ℕ × M)) (about : P → ℕ → About M) (many : ℕ) (senders : List S) (box : P)
    (numbers : map number senders ≡ range_with_len 1 many) (none_sent : map sent senders ≡ replicate many []) (same : map sender_key senders ≡ key box)
    (none_received : received box ≡ []) (apart : (sender : ℕ) → IsOneOf many sender → (about box sender).standing ≡ Apart) where
  -- there is a lane for each sender
  as_many_lanes : length (key box) ≡ many
  as_many_lanes = sym (ap length same) ∙ length-map senders sender_key ∙ as_many number senders many numbers

  -- So a box of lanes and its senders are fresh,
  pub lanes_are_fresh : IsFresh number sent sender_key key (IsLaneOf (λ lane its. its ≡ lane)) length received about many senders box
  lanes_are_fresh =
      is_fresh number sent sender_key key (IsLaneOf (λ lane its. its ≡ lane)) length received about many senders box numbers none_sent
      (pair_up number senders many numbers sender_key (key box) same) as_many_lanes none_received apart

  -- and so are a weak box of lanes and its senders.
  pub lanes_are_fresh_weak : IsFreshWeak number sent sender_key key (IsLaneOf (λ lane its. its ≡ lane)) length (λ its. got_of (received its)) about many senders box
  lanes_are_fresh_weak =
      is_fresh_weak number sent sender_key key (IsLaneOf (λ lane its. its ≡ lane)) length received about many senders box numbers none_sent
      (pair_up number senders many numbers sender_key (key box) same) as_many_lanes none_received apart

module _ {S P M K KP : Type 0} (number : S → ℕ) (sent : S → List M) (sender_key : S → K) (key : P → KP) (lanes : KP → List K)
    (got : P → ℕ → ℕ → Option M) (about : P → ℕ → About M) (many : ℕ) (senders : List S) (box : P)
    (numbers : map number senders ≡ range_with_len 1 many) (none_sent : map sent senders ≡ replicate many []) (same : map sender_key senders ≡ lanes (key box))
    (none_got : (sender place : ℕ) → got box sender place ≡ None) (apart : (sender : ℕ) → IsOneOf many sender → (about box sender).standing ≡ Apart) where
  -- A weak box that keeps its own account of what it handed out, over a box of lanes, is fresh with its senders where it has handed out nothing.
  pub over_lanes_is_fresh : IsFreshWeak number sent sender_key key (λ its. IsLaneOf (λ lane its. its ≡ lane) (lanes its)) (λ its. length (lanes its)) got about many senders box
  over_lanes_is_fresh = record {
    long = as_many number senders many numbers;
    numbered = numbered number senders many numbers;
    nothing_sent = each_shows sent senders many [] none_sent;
    paired = pair_up number senders many numbers sender_key (lanes (key box)) same;
    senders_are = sym (ap length same) ∙ length-map senders sender_key ∙ as_many number senders many numbers;
    none_got = none_got;
    not_taken_in = λ sender within. apart_is_not_settled (about box sender).standing (apart sender within);
  }

-- What a clause of a result tells of each value that the result has holds of the result.
pub if_made : {X E : Type 0} (Clause Holds : X → Type 0) (result : Result X E) → IfOk result Clause → ((made : X) → result ≡ Ok made → Clause made → Holds made) → IfOk result Holds
if_made Clause Holds (Ok made) clause tells = tells made refl clause
if_made Clause Holds (Err error) clause tells = tt
