-- What one turn leaves to a worker, and what room its senders of gossip have then.
use Rattle.std.specs.Prelude.{◌≡◌, ◌⊎◌, ℕ, suc, ◌+◌, ◌≤◌, Bool, is_some, List, [], ◌∷◌, ◌++◌, length, map, slice_index_or, sum_by, Option, Some, None, Result, Ok, Err}
use Rattle.std.proofs.Common.{zero, refl, sym, ap, subst, ◌∙◌, inl, inr, arith}
use Rattle.std.proofs.lemmas.List.{length-map}
use Rattle.mail_contract.specs.Boxes.{Box, MayTake, box_of}
use Rattle.mail_contract.specs.Parts.{Parts}
use Rattle.mail_contract.specs.Standing.{About}
use Rattle.mail_contract.specs.Takes.{Answers}
use Rattle.store_msg.specs.Reply.{PlainReply}
use Rattle.store_msg.specs.declared.request.Request.{Request}
use Rattle.worker_core.specs.Batches.{RoomAt}
use Rattle.worker_core.specs.State.{Entries, Lists, PlainWorker, State, dirty, kept_request, lists_of}
use Rattle.worker_core.specs.Turns.{AreFirstBack, Counts, IsTaken, KeepsBatch, KeepsRequest, OnNoneSent, SomeRose, StayOrCameBack, Turns, counts_of, joined_in}
use Rattle.worker_core.specs.declared.did.Did.{Did}
use Rattle.worker_core.specs.declared.did.Did.TheVariants as did
use Rattle.worker_core.proofs.ToldLemmas.{some_dirty}
use Rattle.party_turns.specs.Stretch.{KeepsRoom, OnBatch, OnBlocked, OnRequest, RoomAfter, held_replies, left_to_serve}
use Rattle.party_turns.specs.Turning.{AreKnown, Owes, SomeBack, not_taken, requests_left}
use Rattle.party_turns.proofs.TurningBoxesLemmas.{Keeps, known_stays, none_taken, one_taken, sender_of_more, take_keeps}
use Rattle.party_turns.proofs.TurningKeysLemmas.{gossip_owes, gossip_tells_some, owes_still}

-- one reply is held at most
one_held : (held : Option (ℕ × PlainReply)) → held_replies held ≤ 1
one_held None = omega arith
one_held (Some held) = omega arith

-- no sender ever wanted for a place, so none did more often
module _ {S : Type 0} (fulls : S → ℕ) (never : (sender : S) → fulls sender ≡ 0) where
  none_at : (senders : List S) (place : ℕ) → slice_index_or (map fulls senders) place 0 ≡ 0
  none_at [] place = refl
  none_at (sender ∷ senders) zero = never sender
  none_at (sender ∷ senders) (suc place) = none_at senders place

  none_rose : (before now : List S) → SomeRose (map fulls before) (map fulls now) → ⊥
  none_rose before now (place, low, rose) = omega (arith, rose, none_at before place, none_at now place)

-- where keys are left to tell, and to each mate that is left to tell the first batch came back, it did to some
came_back : {O : Type 0} (clear : O → Type 0) (roomy : Bool) (unseen : O → ℕ) (senders : List O) (mates : ℕ) (state : State)
    → 1 ≤ dirty state → length state.changed ≡ length senders → mates ≡ length senders → AreFirstBack mates state (RoomAt clear roomy unseen senders)
    → SomeBack clear roomy unseen senders
came_back clear roomy unseen senders mates state some as_many mates_are back =
    let found = some_dirty state some in
    let first = back found.0 (omega (arith, found.1, as_many, mates_are)) found.2 in
    (found.0, first.0, omega (arith, found.1, as_many), first.1)

module _ {Q T O G : Type 0} (keeps : Parts) (senders : Q → ℕ) (received : Q → List (ℕ × Request)) (answers : Q → Answers) (about : Q → ℕ → About Request)
    (sent : T → List PlainReply) (told : O → List Entries) (got : G → ℕ → ℕ → Option Entries) (before now : PlainWorker Q T O G) where
  abbrev at_first : Lists
  at_first = lists_of received sent told got before

  abbrev at_last : Lists
  at_last = lists_of received sent told got now

  abbrev left : PlainWorker Q T O G → ℕ
  left = requests_left senders received about

  abbrev to_serve : PlainWorker Q T O G → ℕ
  to_serve = left_to_serve senders received about

  abbrev not_handed_out : PlainWorker Q T O G → ℕ
  not_handed_out worker = not_taken (senders worker.ends.requests) (received worker.ends.requests) (about worker.ends.requests)

  -- what is known of the box of requests before a turn and after it
  pub record Boxes : Type 0 where
    pub same_senders : senders now.ends.requests ≡ senders before.ends.requests
    pub takes : MayTake keeps (senders before.ends.requests) (box_of received answers about before.ends.requests) (box_of received answers about now.ends.requests)
    pub known : AreKnown keeps.complete (senders before.ends.requests) (received before.ends.requests) (about before.ends.requests)

  abbrev box : PlainWorker Q T O G → Box Request
  box worker = box_of received answers about worker.ends.requests

  module _ (boxes : Boxes) where
    -- what stays of the box
    of_box : Keeps keeps.complete (senders before.ends.requests) (box before) (box now)
    of_box = take_keeps keeps (senders before.ends.requests) (box before) (box now) boxes.takes

    -- where nothing more was received as many requests are left in the box
    as_many : received now.ends.requests ≡ received before.ends.requests → not_handed_out now ≡ not_handed_out before
    as_many same =
        ap (λ (senders : ℕ). not_taken senders (received now.ends.requests) (about now.ends.requests)) boxes.same_senders
        ∙ none_taken (senders before.ends.requests) (received before.ends.requests) (received now.ends.requests) (about before.ends.requests) (about now.ends.requests) same
        of_box.stand

    -- and where one message more was, one fewer
    one_fewer : (message : ℕ × Request) → received now.ends.requests ≡ received before.ends.requests ++ message ∷ [] → not_handed_out now + 1 ≡ not_handed_out before
    one_fewer message more =
        ap (λ (senders : ℕ). not_taken senders (received now.ends.requests) (about now.ends.requests) + 1) boxes.same_senders
        ∙ one_taken keeps.complete (senders before.ends.requests) message (received before.ends.requests) (received now.ends.requests) (about before.ends.requests)
        (about now.ends.requests) (sender_of_more message boxes.takes more) more of_box.stand
        (known_stays keeps.complete (senders before.ends.requests) (received before.ends.requests) (received now.ends.requests) (about before.ends.requests) (about now.ends.requests)
        of_box.stand of_box.fronts boxes.known)

    -- a request that is worked on is one fewer that is left
    serves_one : (session : ℕ) (request : Request) → IsTaken session request at_first at_last → now.state.kept ≡ None → left now + 1 ≡ left before
    serves_one session request (inl (was, same)) none =
        omega (arith, as_many same, ap (λ kept. length (kept_request kept)) none, ap (λ kept. length (kept_request kept)) was)
    serves_one session request (inr (was, more)) none =
        omega (arith, one_fewer (session, request) more, ap (λ kept. length (kept_request kept)) none, ap (λ kept. length (kept_request kept)) was)

    -- no more is left, nor to be served
    abbrev LeavesNoMore : Type 0
    LeavesNoMore = (left now ≤ left before) × (to_serve now ≤ to_serve before)

    -- where nothing more was received and nothing more is kept or held
    abbrev HasNoMore : Lists → Type 0
    HasNoMore lists =
        (lists.received ≡ received before.ends.requests) × (length (kept_request lists.state.kept) ≤ length (kept_request before.state.kept))
        × (held_replies lists.state.held ≤ held_replies before.state.held)

    no_more : HasNoMore at_last → LeavesNoMore
    no_more (same, kept, held) = let taken = as_many same in (omega (arith, taken, kept), omega (arith, taken, kept, held))

    no_more_as : (lists : Lists) → at_last ≡ lists → HasNoMore lists → LeavesNoMore
    no_more_as lists is has = no_more (subst HasNoMore (sym is) has)

    -- so in a turn
    pub turn_leaves : {E : Type 0} (result : Result Did E) (count count_now : Counts) (room : ℕ → List Bool → Type 0)
        → Turns result at_first at_last count count_now room → LeavesNoMore
    turn_leaves (Ok did.Request) count count_now room (inl (session, request, serves)) =
        let fewer = serves_one session request serves.taken serves.kept in
        (omega (arith, fewer), omega (arith, fewer, one_held now.state.held))
    turn_leaves (Ok did.Request) count count_now room (inr hands) = no_more_as _ hands.sent (refl, omega arith, omega arith)
    turn_leaves (Ok did.Gossip) count count_now room (sender, batch, hears, was) = no_more_as _ hears.rest (refl, omega arith, omega arith)
    turn_leaves (Ok did.Round) count count_now room (gossips, some, have, tried, full, anew) = no_more_as _ gossips.rest (refl, omega arith, omega arith)
    turn_leaves (Ok did.Blocked) count count_now room blocked = no_more_as _ blocked.unmoved (refl, omega arith, omega arith)
    turn_leaves (Ok did.Idle) count count_now room idle = no_more_as _ idle.unmoved (refl, omega arith, omega arith)
    turn_leaves (Err error) count count_now room lacks = by_kept lacks.kept
      where
        told_has : HasNoMore lacks.told
        told_has = subst HasNoMore (sym lacks.gossips.rest) (refl, omega arith, omega arith)

        by_kept : (at_last ≡ lacks.told) ⊎ (KeepsRequest lacks.told at_last ⊎ KeepsBatch lacks.told at_last) → LeavesNoMore
        by_kept (inl same) = no_more_as lacks.told same told_has
        by_kept (inr (inl (session, request, none, is))) =
            let fewer = one_fewer (session, request) (ap (λ (lists : Lists). lists.received) is ∙ ap (λ those. those ++ (session, request) ∷ []) told_has.0) in
            let kept = ap (λ (lists : Lists). length (kept_request lists.state.kept)) is in
            let held = ap (λ (lists : Lists). held_replies lists.state.held) is in
            (omega (arith, fewer, kept), omega (arith, fewer, kept, held, told_has.2))
        by_kept (inr (inr (sender, batch, none, added, is))) = no_more_as _ is (told_has.0, omega arith, told_has.2)

    -- and fewer are to be served where a request was worked on
    pub turn_serves : {E : Type 0} (result : Result Did E) (count count_now : Counts) (room : ℕ → List Bool → Type 0)
        → Turns result at_first at_last count count_now room → OnRequest result (to_serve now + 1 ≤ to_serve before)
    turn_serves (Ok did.Request) count count_now room (inl (session, request, serves)) =
        omega (arith, serves_one session request serves.taken serves.kept, one_held now.state.held)
    turn_serves (Ok did.Request) count count_now room (inr hands) =
        let taken = as_many (ap (λ (lists : Lists). lists.received) hands.sent) in
        let kept = ap (λ (lists : Lists). length (kept_request lists.state.kept)) hands.sent in
        omega (arith, taken, kept, ap (λ (lists : Lists). held_replies lists.state.held) hands.sent, ap held_replies hands.was_held)
    turn_serves (Ok did.Gossip) count count_now room turns = tt
    turn_serves (Ok did.Round) count count_now room turns = tt
    turn_serves (Ok did.Blocked) count count_now room turns = tt
    turn_serves (Ok did.Idle) count count_now room turns = tt
    turn_serves (Err error) count count_now room turns = tt

  -- as many lists of changed keys as mates, before a turn and after it
  pub record Mates : Type 0 where
    pub before_are : length before.state.changed ≡ length before.ends.gossip_out.items
    pub now_are : length now.state.changed ≡ length now.ends.gossip_out.items
    pub stay : length now.ends.gossip_out.items ≡ length before.ends.gossip_out.items

  module _ (mates : Mates) where
    told_are : length before.state.changed ≡ length at_first.told
    told_are = mates.before_are ∙ sym (length-map before.ends.gossip_out.items told)

    changed_stay : length now.state.changed ≡ length before.state.changed
    changed_stay = mates.now_are ∙ mates.stay ∙ sym mates.before_are

    -- where a batch was joined or went out fewer may come or are left to tell
    pub turn_joins : {E : Type 0} (result : Result Did E) (count count_now : Counts) (room : ℕ → List Bool → Type 0) (come come_now : ℕ)
        → Turns result at_first at_last count count_now room → come_now + joined_in result ≤ come
        → OnBatch result (come_now + dirty now.state + 1 ≤ come + dirty before.state)
    turn_joins (Ok did.Request) count count_now room come come_now turns fewer = tt
    turn_joins (Ok did.Gossip) count count_now room come come_now (sender, batch, hears, was) fewer =
        omega (arith, fewer, ap (λ (lists : Lists). dirty lists.state) hears.rest)
    turn_joins (Ok did.Round) count count_now room come come_now (gossips, some, have, tried, full, anew) fewer =
        omega (arith, fewer, gossip_tells_some at_first at_last gossips told_are changed_stay some)
    turn_joins (Ok did.Blocked) count count_now room come come_now turns fewer = tt
    turn_joins (Ok did.Idle) count count_now room come come_now turns fewer = tt
    turn_joins (Err error) count count_now room come come_now turns fewer = tt

    told_stay : length at_last.told ≡ length at_first.told
    told_stay = length-map now.ends.gossip_out.items told ∙ mates.stay ∙ sym (length-map before.ends.gossip_out.items told)

    abbrev OwesNoMore : Type 0
    OwesNoMore = Owes at_first.told at_last.told (dirty before.state) (dirty now.state)

    -- where neither what was told nor what is left to tell changes
    owes_as : (lists : Lists) → at_last ≡ lists → lists.told ≡ at_first.told → dirty lists.state ≡ dirty before.state → OwesNoMore
    owes_as lists is same as_many =
        owes_still at_first.told at_last.told (dirty before.state) (dirty now.state) (ap (λ (lists : Lists). lists.told) is ∙ same) (ap (λ (lists : Lists). dirty lists.state) is ∙ as_many)

    -- While no request is left no key becomes changed, and each batch that goes out leaves one less.
    pub turn_owes : {E : Type 0} (result : Result Did E) (count count_now : Counts) (room : ℕ → List Bool → Type 0) → Boxes
        → Turns result at_first at_last count count_now room → left before ≡ 0 → OwesNoMore
    turn_owes (Ok did.Request) count count_now room boxes (inl (session, request, serves)) none =
        absurd (omega (arith, none, serves_one boxes session request serves.taken serves.kept))
    turn_owes (Ok did.Request) count count_now room boxes (inr hands) none = owes_as _ hands.sent refl refl
    turn_owes (Ok did.Gossip) count count_now room boxes (sender, batch, hears, was) none = owes_as _ hears.rest refl refl
    turn_owes (Ok did.Round) count count_now room boxes (gossips, some, have, tried, full, anew) none = gossip_owes at_first at_last gossips told_are changed_stay told_stay
    turn_owes (Ok did.Blocked) count count_now room boxes blocked none = owes_as _ blocked.unmoved refl refl
    turn_owes (Ok did.Idle) count count_now room boxes idle none = owes_as _ idle.unmoved refl refl
    turn_owes (Err error) count count_now room boxes lacks none = by_kept lacks.kept
      where
        told_so : (told_is : at_last.told ≡ lacks.told.told) → now.state.changed ≡ lacks.told.state.changed → OwesNoMore
        told_so told_is changed_is =
            let as_many : dirty now.state ≡ dirty lacks.told.state = ap (sum_by length) changed_is in
            let owes = gossip_owes at_first lacks.told lacks.gossips told_are (ap length (sym changed_is) ∙ changed_stay) (ap length (sym told_is) ∙ told_stay) in
            subst (λ (both : List (List Entries) × ℕ). Owes at_first.told both.0 (dirty before.state) both.1) (λ j. (sym told_is j, sym as_many j)) owes

        by_kept : (at_last ≡ lacks.told) ⊎ (KeepsRequest lacks.told at_last ⊎ KeepsBatch lacks.told at_last) → OwesNoMore
        by_kept (inl same) = told_so (ap (λ (lists : Lists). lists.told) same) (ap (λ (lists : Lists). lists.state.changed) same)
        by_kept (inr (inl (session, request, empty, is))) = told_so (ap (λ (lists : Lists). lists.told) is) (ap (λ (lists : Lists). lists.state.changed) is)
        by_kept (inr (inr (sender, batch, empty, added, is))) = told_so (ap (λ (lists : Lists). lists.told) is) (ap (λ (lists : Lists). lists.state.changed) is)

    module _ (clear : O → Type 0) (roomy : Bool) (unseen : O → ℕ) where
      -- to some mate the first batch came back, by the state before the turn or after it
      back_to_some : (state : State) → length state.changed ≡ length before.state.changed → 1 ≤ dirty state
          → AreFirstBack (length at_first.told) state (RoomAt clear roomy unseen before.ends.gossip_out.items) → SomeBack clear roomy unseen before.ends.gossip_out.items
      back_to_some state as_many some back =
          came_back clear roomy unseen before.ends.gossip_out.items (length at_first.told) state some (as_many ∙ mates.before_are)
          (length-map before.ends.gossip_out.items told) back

      -- neither keys nor senders changed, or a round was tried
      room_kept : dirty now.state ≡ dirty before.state
          → StayOrCameBack before.ends.gossip_out now.ends.gossip_out at_first (RoomAt clear roomy unseen before.ends.gossip_out.items)
          → KeepsRoom clear roomy unseen before now
      room_kept same (inl stay) = inr (inr (same, stay))
      room_kept same (inr (some, back)) = inr (inl (back_to_some before.state refl some back))

      -- While no request is left, a turn tells what room there is.
      pub turn_rooms : {E : Type 0} (result : Result Did E) (count count_now : Counts) → Boxes
          → Turns result at_first at_last count count_now (RoomAt clear roomy unseen before.ends.gossip_out.items)
          → OnNoneSent result (StayOrCameBack before.ends.gossip_out now.ends.gossip_out at_first (RoomAt clear roomy unseen before.ends.gossip_out.items))
          → left before ≡ 0 → RoomAfter clear roomy unseen result before now
      turn_rooms (Ok did.Request) count count_now boxes (inl (session, request, serves)) senders none =
          absurd (omega (arith, none, serves_one boxes session request serves.taken serves.kept))
      turn_rooms (Ok did.Request) count count_now boxes (inr hands) senders none = room_kept (ap (λ (lists : Lists). dirty lists.state) hands.sent) senders
      turn_rooms (Ok did.Gossip) count count_now boxes (sender, batch, hears, was) senders none = room_kept (ap (λ (lists : Lists). dirty lists.state) hears.rest) senders
      turn_rooms (Ok did.Round) count count_now boxes (gossips, some, have, tried, full, anew) senders none =
          inl (gossip_tells_some at_first at_last gossips told_are changed_stay some)
      turn_rooms (Ok did.Blocked) count count_now boxes blocked senders none = elim blocked.left [
        | inl some ↦ inr (inr (back_to_some now.state changed_stay some blocked.no_room))
        | inr held ↦ inl (ap is_some held.1)
      ]
      turn_rooms (Ok did.Idle) count count_now boxes idle senders none = tt
      turn_rooms (Err error) count count_now boxes lacks senders none = tt

  -- where no sender ever wants for a place a turn does something, or there is nothing to do
  pub turn_never_blocked : {E : Type 0} (result : Result Did E) (fulls : T → ℕ) (gossip_fulls : O → ℕ) (gossip_answers : G → Answers) (room : ℕ → List Bool → Type 0)
      → Turns result at_first at_last (counts_of answers fulls gossip_fulls gossip_answers before) (counts_of answers fulls gossip_fulls gossip_answers now) room
      → ((sender : T) → fulls sender ≡ 0) → ((sender : O) → gossip_fulls sender ≡ 0) → OnBlocked result ⊥
  turn_never_blocked (Ok did.Request) fulls gossip_fulls gossip_answers room turns none no_gossip = tt
  turn_never_blocked (Ok did.Gossip) fulls gossip_fulls gossip_answers room turns none no_gossip = tt
  turn_never_blocked (Ok did.Round) fulls gossip_fulls gossip_answers room turns none no_gossip = tt
  turn_never_blocked (Ok did.Blocked) fulls gossip_fulls gossip_answers room blocked none no_gossip = elim blocked.full [
    | inl rose ↦ none_rose fulls none before.ends.replies.items now.ends.replies.items rose
    | inr rose ↦ none_rose gossip_fulls no_gossip before.ends.gossip_out.items now.ends.gossip_out.items rose
  ]
  turn_never_blocked (Ok did.Idle) fulls gossip_fulls gossip_answers room turns none no_gossip = tt
  turn_never_blocked (Err error) fulls gossip_fulls gossip_answers room turns none no_gossip = tt
