-- What a turn of a worker is to the sessions: replies follow requests.
use Rattle.std.specs.Prelude.{◌≡◌, ℕ, ◌+◌, ◌≤◌, Bool, if◌then◌else◌, List, [], ◌∷◌, ◌++◌, length, None, Ok}
use Rattle.std.proofs.Common.{refl, sym, ap, ◌∙◌, inl, inr, length-append, append-nil, arith}
use Rattle.std.proofs.lemmas.Bool.Decides.{eqb_tells}
use Rattle.std.proofs.lemmas.Option.{none-some}
use Rattle.lattice_laws.specs.declared.lattice.NoMemory.{NoMemory}
use Rattle.mail_contract.proofs.FrontLemmas.{front_more, front_same}
use Rattle.mail_contract.proofs.WovenLemmas.{from_sender_more, from_sender_same}
use Rattle.mail_contract.specs.Takes.{IsFront, from_sender}
use Rattle.placement.specs.Config.{IsOneOf}
use Rattle.store_msg.specs.declared.request.Request.{Request}
use Rattle.store_msg.specs.declared.request.Request.TheVariants as requests
use Rattle.worker_core.proofs.RepliesLemmas.{handed_over}
use Rattle.worker_core.specs.Share.{IsHeldFor, replies_to}
use Rattle.worker_core.specs.State.{Lists, State}
use Rattle.worker_core.specs.Turns.{Counts, HandsOver, Serves, Turns, reply_to}
use Rattle.worker_core.specs.declared.did.Did.{Did}
use Rattle.worker_core.specs.declared.did.Did.TheVariants as did
use Rattle.run_measure.specs.Laws.{HasTurned}
use Rattle.run_measure.specs.Measure.{replied, taken, taken_of}
use Rattle.run_measure.specs.Steps.{RepliesAsTaken}

-- a worker that took the same requests, and replied the same, has gone on
still : (sessions : ℕ) (before now : Lists) → now.received ≡ before.received → ((to : ℕ) → IsOneOf sessions to → replies_to now to ≡ replies_to before to)
    → RepliesAsTaken sessions before now
still sessions before now same replies = record {
  taken_more = λ to of. front_same (ap (from_sender to) same);
  replied_more = λ to of. front_same (replies to of);
  as_taken = λ to of. let its = as_taken to in let theirs = as_replied to of in omega (arith, its, theirs);
}
  where
    as_taken : (to : ℕ) → taken to now ≡ taken to before
    as_taken to = ap (λ received. taken to (record before { received = received })) same

    as_replied : (to : ℕ) → IsOneOf sessions to → replied to now ≡ replied to before
    as_replied to of = ap length (replies to of)

-- a request is replied to once at most
one_reply : (state : State) (request : Request) → length (reply_to state request) ≤ 1
one_reply state (requests.Put key put) = omega arith
one_reply state (requests.Get ask key required) = omega arith

-- a request that was taken in this turn
module _ (session : ℕ) (request : Request) (before now : Lists) (serves : Serves session request before now)
    (received : now.received ≡ before.received ++ (session, request) ∷ []) where
  taken_here : taken session now ≡ taken session before + 1
  taken_here =
      ap (λ received. taken session (record before { received = received })) received
      ∙ ap length (from_sender_more session before.received (session, request) refl) ∙ length-append _ _

  -- of its session one more was taken, and of another as many, and so they were replied to
  of_each : (to : ℕ) → IsOneOf (length before.replied) to
      → (more : ℕ) × (taken to now ≡ taken to before + more) × IsFront (replies_to before to) (replies_to now to) × (replied to now ≤ replied to before + more)
      × IsFront (taken_of to before) (taken_of to now)
  of_each to of = elim (eqb_tells session to) [
    | inl same ↦
        let replies : replies_to now to ≡ replies_to before to ++ reply_to before.state request =
        serves.replies to of ∙ ap (λ (own : Bool). replies_to before to ++ (if own then reply_to before.state request else [])) same.0
        in
        let count : replied to now ≡ replied to before + length (reply_to before.state request) = ap length replies ∙ length-append _ _ in
        let one = one_reply before.state request in
        let took : taken to now ≡ taken to before + 1 =
        ap (λ received. taken to (record before { received = received })) received
        ∙ ap length (from_sender_more to before.received (session, request) same.1) ∙ length-append _ _
        in
        let front = front_more _ (ap (from_sender to) received ∙ from_sender_more to before.received (session, request) same.1) in
        (1, took, front_more _ replies, omega (arith, count, one), front)
    | inr apart ↦
        let replies : replies_to now to ≡ replies_to before to =
        serves.replies to of ∙ ap (λ (own : Bool). replies_to before to ++ (if own then reply_to before.state request else [])) apart.0 ∙ append-nil _
        in
        let count : replied to now ≡ replied to before = ap length replies in
        let took : taken to now ≡ taken to before =
        ap (λ received. taken to (record before { received = received })) received ∙ ap length (from_sender_same to before.received (session, request) apart.1)
        in
        let front = front_same (ap (from_sender to) received ∙ from_sender_same to before.received (session, request) apart.1) in
        (0, omega (arith, took), front_same replies, omega (arith, count), front)
  ]

  taken_turned : HasTurned did.Request before now
  taken_turned = record {
    replies = record {
      taken_more = λ to of. (of_each to of).4;
      replied_more = λ to of. (of_each to of).2;
      as_taken = λ to of. let its = of_each to of in omega (arith, its.1, its.3);
    };
    kept = serves.kept;
    takes = λ is none. record { session = session; request = request; received = received; taken_one = taken_here };
  }

-- a request is worked on, and none was kept
serves_turned : (session : ℕ) (request : Request) (before now : Lists) → Serves session request before now → before.state.kept ≡ None → HasTurned did.Request before now
serves_turned session request before now serves none_kept = elim serves.taken [
  | inl was ↦ absurd (none-some _ (sym none_kept ∙ was.0))
  | inr popped ↦ taken_turned session request before now serves popped.1
]

-- a reply that was held goes out
hands_turned : (before now : Lists) → HandsOver before now → before.state.kept ≡ None → IsHeldFor (length before.replied) before.state.held → HasTurned did.Request before now
hands_turned before now hands none_kept held = record {
  replies = still (length before.replied) before now (ap (λ (lists : Lists). lists.received) hands.sent) (handed_over hands held);
  kept = ap (λ (lists : Lists). lists.state.kept) hands.sent ∙ none_kept;
  takes = λ is none. absurd (none-some _ (sym none ∙ hands.was_held));
}

-- a turn that does no request
unasked : (its : Did) (before now : Lists) → (its ≡ did.Request → ⊥) → now.received ≡ before.received
    → ((to : ℕ) → IsOneOf (length before.replied) to → replies_to now to ≡ replies_to before to) → now.state.kept ≡ None → HasTurned its before now
unasked its before now no_request same replies kept = record {
  replies = still (length before.replied) before now same replies;
  kept = kept;
  takes = λ is none. absurd (no_request is);
}

-- What a turn says of the sessions does not depend on what it says of room.
pub turned : (its : Did) (before now : Lists) (count count_now : Counts) (room : ℕ → List Bool → Type 0) → Turns {E = NoMemory} (Ok its) before now count count_now room
    → before.state.kept ≡ None → IsHeldFor (length before.replied) before.state.held → HasTurned its before now
turned did.Request before now count count_now room turns none_kept held = elim turns [
  | inl serves ↦ serves_turned serves.0 serves.1 before now serves.2 none_kept
  | inr hands ↦ hands_turned before now hands none_kept held
]
turned did.Gossip before now count count_now room turns none_kept held =
    unasked did.Gossip before now (λ is. cc) (ap (λ (lists : Lists). lists.received) turns.2.rest) (λ to of. ap (λ (lists : Lists). replies_to lists to) turns.2.rest)
    (ap (λ (lists : Lists). lists.state.kept) turns.2.rest)
turned did.Round before now count count_now room turns none_kept held =
    unasked did.Round before now (λ is. cc) (ap (λ (lists : Lists). lists.received) turns.0.rest) (λ to of. ap (λ (lists : Lists). replies_to lists to) turns.0.rest)
    (ap (λ (lists : Lists). lists.state.kept) turns.0.rest ∙ none_kept)
turned did.Blocked before now count count_now room turns none_kept held =
    unasked did.Blocked before now (λ is. cc) (ap (λ (lists : Lists). lists.received) turns.unmoved) (λ to of. ap (λ (lists : Lists). replies_to lists to) turns.unmoved)
    turns.none_kept
turned did.Idle before now count count_now room turns none_kept held =
    unasked did.Idle before now (λ is. cc) (ap (λ (lists : Lists). lists.received) turns.unmoved) (λ to of. ap (λ (lists : Lists). replies_to lists to) turns.unmoved)
    turns.none_kept
