-- What a turn does in which a message is worked on: one that was kept, or that is popped now.
use Rattle.std.specs.Prelude.{◌≡◌, ◌≢◌, ◌⊎◌, ℕ, ◌-◌, ◌<◌, ◌≤◌, ◌==◌, ◌||◌, ltb, if◌then◌else◌, Bool, true, false, IsTrue, List, [], ◌∷◌, ◌++◌, Vec, filter, is_some, length, map, slice_index_or, Option, Some, None, Result, Ok, Err}
use Rattle.std.specs.Global.{Global}
use Rattle.std.specs.Result.{is_ok}
use Rattle.std.proofs.Common.{refl, sym, ap, subst, ◌∙◌, inl, inr, arith}
use Rattle.std.proofs.lemmas.Bool.{cases_lt, false≢true, lt-ltb, true≢false}
use Rattle.lattice_laws.specs.Counts.{Rose}
use Rattle.lattice_laws.specs.declared.lattice.NoMemory.{NoMemory}
use Rattle.merge_world.specs.Effects.{hears}
use Rattle.mail_contract.specs.Got.{Added}
use Rattle.mail_contract.specs.Takes.{Answers}
use Rattle.store_msg.specs.Reply.{PlainReply}
use Rattle.store_msg.specs.declared.request.Request.{Request}
use Rattle.gossip_rounds.specs.Batches.{Entries, batches}
use Rattle.worker_core.specs.Serving.{Resent, RoundsIf, Served, TakesGossip, TakesRequest, Worked, WorksOn, did_of, rests_as}
use Rattle.worker_core.specs.Share.{owed_to}
use Rattle.worker_core.specs.State.{Lists, PlainWorker, State, changed_of, dirty, lists_of}
use Rattle.worker_core.specs.Turns.{AreFirstBack, Counts, Gossips, Hears, IsBlocked, IsGot, IsIdle, IsTaken, IsUnmoved, KeepsBatch, KeepsRequest, OnNoneSent, Rounds, Serves, SomeRose, Turns, joined_in, marked_at, reply_from, served}
use Rattle.worker_core.specs.declared.did.Did.{Did}
use Rattle.worker_core.specs.declared.did.Did.TheVariants as did
use Rattle.worker_core.specs.declared.popped.Popped.{Popped}
use Rattle.worker_core.specs.declared.popped.Popped.TheVariants as popped
use Rattle.worker_core.proofs.ToldLemmas.{blocked_full, clean_at_each, gossips_nothing, nothing_sent}
use Rattle.gossip_rounds.proofs.BatchesLemmas.{none_to_each}
use Rattle.worker_core.proofs.LawfulLemmas.{none_held}

-- a request that was taken is worked on, where what is worked on is as before
request_serves : (session : ℕ) (request : Request) (before middle now : Lists) → IsTaken session request before now
    → Worked session request middle.state now.state middle.replied now.replied
    → middle.state.me ≡ before.state.me → middle.state.placement ≡ before.state.placement → middle.state.cells ≡ before.state.cells
    → middle.state.changed ≡ before.state.changed → middle.state.held ≡ before.state.held → middle.replied ≡ before.replied
    → now.got ≡ before.got → now.told ≡ before.told → length before.state.changed ≡ length before.told → Serves session request before now
request_serves session request before middle now taken works me placement cells changed held replied got told as_many = record {
  taken = taken;
  cells = works.cells ∙ ap (served request) cells;
  changed = λ place low.
      works.changed place (omega (arith, low, as_many, ap length changed))
      ∙ (λ j. marked_at (placement j) (me j) (cells j) request (changed j) place);
  replies = λ to is.
      works.replies to is.0 (omega (arith, is.1, ap length replied))
      ∙ (λ j. owed_to (replied j) (held j) to ++ (if session == to then reply_from (me j) (cells j) request else []));
  kept = ap (λ (state : State). state.kept) works.rest;
  got = got;
  told = told;
}

-- a batch that was got is joined, where what is worked on is as before but for what was turned back
batch_hears : (sender : ℕ) (batch : Entries) (before start now : Lists) → IsGot sender batch before now
    → start ≡ record before { state = record before.state { turned = start.state.turned; since = start.state.since } }
    → now.state ≡ record start.state { cells = hears batch start.state.cells; kept = None } → now.received ≡ start.received
    → now.replied ≡ start.replied → now.told ≡ start.told → Hears sender batch before now
batch_hears sender batch before start now taken unmoved is received replied told =
    let all : now.state ≡ record before.state {
      cells = hears batch before.state.cells;
      kept = None;
      turned = start.state.turned;
      since = start.state.since;
    } = is ∙ ap (λ (lists : Lists). record lists.state { cells = hears batch lists.state.cells; kept = None }) unmoved in
    let same_received = received ∙ ap (λ (lists : Lists). lists.received) unmoved in
    let same_replied = replied ∙ ap (λ (lists : Lists). lists.replied) unmoved in
    let same_told = told ∙ ap (λ (lists : Lists). lists.told) unmoved in
    record {
      taken = taken;
      rest = λ j. record {
        state = record (all j) { turned = now.state.turned; since = now.state.since };
        received = same_received j;
        got = now.got;
        replied = same_replied j;
        told = same_told j;
      };
    }

-- A message was kept before the turn, and is worked on.
pub kept_turns : {E : Type 0} (result : Result Did E) (before now : Lists) (count count_now : Counts) (room : ℕ → List Bool → Type 0) → WorksOn result before now
    → length before.state.changed ≡ length before.told → Turns result before now count count_now room
kept_turns (Err error) before now count count_now room works as_many = record { told = before; gossips = gossips_nothing before; kept = inl works.still }
kept_turns {E} (Ok did) before now count count_now room works as_many =
    subst (λ (did : Did). Turns {E = E} (Ok did) before now count count_now room) (sym works.did) (by_kept before.state.kept refl works.serves)
  where
    by_kept : (kept : Option Popped) → before.state.kept ≡ kept → Served kept before.state now.state before.replied now.replied
        → Turns {E = E} (Ok (did_of kept)) before now count count_now room
    by_kept None is none = absurd none
    by_kept (Some (popped.Request session request)) is worked =
        inl (
          session,
          request,
          request_serves session request before before now (inl (is, works.received)) worked refl refl refl refl refl refl
              works.got works.told as_many,
        )
    by_kept (Some (popped.Batch sender batch)) is joined =
        (sender, batch, batch_hears sender batch before before now (inl (is, works.got)) refl joined.0 works.received joined.1 works.told, inl is)

-- A batch is popped in the turn, before which nothing moved but what was turned back, and is worked on.
pub heard_turns : {E : Type 0} (result : Result Did E) (before start middle now : Lists) (count count_now : Counts) (room : ℕ → List Bool → Type 0) → Gossips before start
    → IsUnmoved before start → KeepsBatch start middle → WorksOn result middle now → Rose count.gossip.somes count_now.gossip.somes
    → Turns result before now count count_now room
heard_turns (Err error) before start middle now count count_now room gossips unmoved keeps works rose = record {
  told = start;
  gossips = gossips;
  kept = inr (inr (subst (KeepsBatch start) (sym works.still) keeps));
}
heard_turns {E} (Ok did) before start middle now count count_now room gossips unmoved keeps works rose =
    let sender = keeps.0 in
    let batch = keeps.1 in
    let kept_is : middle.state.kept ≡ Some (popped.Batch sender batch) = ap (λ (lists : Lists). lists.state.kept) keeps.4 in
    let worked = subst (λ kept. Served kept middle.state now.state middle.replied now.replied) kept_is works.serves in
    let is_now : now.state ≡ record start.state { cells = hears batch start.state.cells; kept = None } =
    worked.0 ∙ ap (λ (lists : Lists). record lists.state { cells = hears batch lists.state.cells; kept = None }) keeps.4 in
    let none_kept : before.state.kept ≡ None = sym (ap (λ (lists : Lists). lists.state.kept) unmoved) ∙ keeps.2 in
    let same_got = ap (λ (lists : Lists). lists.got) unmoved in
    let added : Added sender batch before.got now.got =
    subst (λ got. Added sender batch got now.got) same_got (subst (Added sender batch start.got) (sym works.got) keeps.3) in
    subst (λ (did : Did). Turns {E = E} (Ok did) before now count count_now room) (sym (works.did ∙ ap did_of kept_is)) (
      sender,
      batch,
      batch_hears sender batch before start now (inr (none_kept, added)) unmoved is_now
          (works.received ∙ ap (λ (lists : Lists). lists.received) keeps.4) (worked.1 ∙ ap (λ (lists : Lists). lists.replied) keeps.4)
          (works.told ∙ ap (λ (lists : Lists). lists.told) keeps.4),
      inr rose,
    )

-- A request is popped in the turn, before which nothing moved but what was turned back, and is worked on.
pub served_turns : {E : Type 0} (result : Result Did E) (before start middle now : Lists) (count count_now : Counts) (room : ℕ → List Bool → Type 0) → Gossips before start
    → IsUnmoved before start → KeepsRequest start middle → WorksOn result middle now → length before.state.changed ≡ length before.told
    → Turns result before now count count_now room
served_turns (Err error) before start middle now count count_now room gossips unmoved keeps works as_many = record {
  told = start;
  gossips = gossips;
  kept = inr (inl (subst (KeepsRequest start) (sym works.still) keeps));
}
served_turns {E} (Ok did) before start middle now count count_now room gossips unmoved keeps works as_many =
    let session = keeps.0 in
    let request = keeps.1 in
    let is : middle ≡ record before {
      state = record before.state { kept = Some (popped.Request session request); turned = start.state.turned; since = middle.state.since };
      received = before.received ++ (session, request) ∷ [];
    } = keeps.3 ∙ ap (λ (lists : Lists). record lists {
      state = record lists.state { kept = Some (popped.Request session request); since = middle.state.since };
      received = lists.received ++ (session, request) ∷ [];
    }) unmoved in
    let kept_is : middle.state.kept ≡ Some (popped.Request session request) = ap (λ (lists : Lists). lists.state.kept) is in
    let worked = subst (λ kept. Served kept middle.state now.state middle.replied now.replied) kept_is works.serves in
    let none_kept : before.state.kept ≡ None = sym (ap (λ (lists : Lists). lists.state.kept) unmoved) ∙ keeps.2 in
    subst (λ (did : Did). Turns {E = E} (Ok did) before now count count_now room) (sym (works.did ∙ ap did_of kept_is))
    (inl (
      session,
      request,
      request_serves session request before middle now
          (inr (none_kept, works.received ∙ ap (λ (lists : Lists). lists.received) is)) worked
          (ap (λ (lists : Lists). lists.state.me) is) (ap (λ (lists : Lists). lists.state.placement) is) (ap (λ (lists : Lists). lists.state.cells) is)
          (ap (λ (lists : Lists). lists.state.changed) is) (ap (λ (lists : Lists). lists.state.held) is) (ap (λ (lists : Lists). lists.replied) is)
          (works.got ∙ ap (λ (lists : Lists). lists.got) is) (works.told ∙ ap (λ (lists : Lists). lists.told) is) as_many,
    ))

-- memory was wanting
pub lacks : {P : NoMemory → Type 0} (result : Result Did NoMemory) (before start now : Lists) (count count_now : Counts) (room : ℕ → List Bool → Type 0)
    → (error : NoMemory) × (result ≡ Err error) × P error
    → Gossips before start → now ≡ start → Turns result before now count count_now room
lacks result before start now count count_now room is gossips same =
    subst (λ result. Turns result before now count count_now room) (sym is.1) (record { told = start; gossips = gossips; kept = inl same })

-- a count that rose, between counts that are equal
pub rose_between : {was before then' now : ℕ} → was ≡ before → now ≡ then' → Rose before then' → Rose was now
rose_between was_is now_is rose = rw (was_is, now_is) rose

abbrev the_ok : ℕ → Result ℕ NoMemory
the_ok = Ok

-- what an answer is that is Ok
abbrev ok_value : Result ℕ NoMemory → ℕ
ok_value (Ok value) = value
ok_value (Err error) = 0

ok_same : (one other : ℕ) → the_ok one ≡ the_ok other → one ≡ other
ok_same one other same = ap ok_value same

ok_is_no_err : (value : ℕ) (error : NoMemory) → the_ok value ≡ Err error → ⊥
ok_is_no_err value error same = true≢false (ap is_ok same)

-- by cases
pub either : {A B C D : Type 0} → A ⊎ B → (A → C) → (B → D) → C ⊎ D
either (inl one) left right = inl (left one)
either (inr other) left right = inr (right other)

abbrev pub items_of : {X : Type 0} → Vec X Global → List X
items_of vector = vector.items

-- every batch of a round came back: keys were left to tell, the count of a sender rose, and to each mate that is left to tell the first came back
pub record CameBack (before : Lists) (fulls fulls_now : List ℕ) (room : ℕ → List Bool → Type 0) : Type 0 where
  pub some : 1 ≤ dirty before.state
  pub full : SomeRose fulls fulls_now
  pub no_room : AreFirstBack (length before.told) before.state room

-- a round was made in which nothing went out, or none
pub record Started (before start : Lists) (made : Bool) (count count_start : Counts) (room : ℕ → List Bool → Type 0) : Type 0 where
  pub gossips : Gossips before start
  pub unmoved : IsUnmoved before start
  pub back : (made ≡ false) ⊎ CameBack before count.gossip_fulls count_start.gossip_fulls room

-- a round in which nothing went out leaves all as it was but for what came back
round_starts : (sent : ℕ) (before start : Lists) (count count_start : Counts) (room : ℕ → List Bool → Type 0) → (0 < sent → ⊥)
    → Rounds {E = NoMemory} (Ok sent) before start count count_start room → 1 ≤ dirty before.state
    → length before.state.changed ≡ length before.told → length start.told ≡ length before.told → length start.state.changed ≡ length start.told
    → length count.gossip_fulls ≡ length before.told → Started before start true count count_start room
round_starts sent before start count count_start room none (gossips, back, have, tried, sent_is, since) some as_many long as_many_now fulls =
    let none_sent : batches gossips.tries ≡ 0 = omega (arith, sent_is, none_below none) in
    let same = nothing_sent before start gossips none_sent long (as_many_now ∙ long ∙ sym as_many) as_many in
    let blocked = blocked_full before start gossips tried none_sent some as_many in
    record {
      gossips = gossips;
      unmoved = gossips.rest ∙ (λ j. record before {
        state = record before.state { changed = same.1 j; turned = start.state.turned; since = start.state.since };
        told = same.0 j;
      });
      back = inr (record {
        some = some;
        full = (blocked.0, omega (arith, blocked.1, fulls), back blocked.0 blocked.1 blocked.2);
        no_room = λ place low left.
            first_back place (slice_index_or gossips.tries place []) (none_to_each gossips.tries none_sent place)
            (omega (arith, tried place low, some_keys (changed_of before.state place) left)) (have place low);
      });
    }
  where
    some_keys : (keys : List ℕ) → keys ≢ [] → 1 ≤ length keys
    some_keys [] some = absurd (some refl)
    some_keys (key ∷ keys) some = omega arith

    first_back : (place : ℕ) (tries : List Bool) → length (filter (λ went. went) tries) ≡ 0 → 1 ≤ length tries → room place tries → (rest : List Bool) × room place (false ∷ rest)
    first_back place [] none some has = absurd (omega (arith, some))
    first_back place (true ∷ rest) none some has = absurd (omega (arith, none))
    first_back place (false ∷ rest) none some has = (rest, has)

    none_below : (0 < sent → ⊥) → sent ≡ 0
    none_below none = elim (cases_lt 0 sent) [ inl some ↦ absurd (none some) | inr none ↦ omega (arith, none) ]

pub starts : (made : Bool) (result : Result ℕ NoMemory) (sent : ℕ) (before start : Lists) (count count_start : Counts) (room : ℕ → List Bool → Type 0) → result ≡ Ok sent → (0 < sent → ⊥)
    → RoundsIf made result before start count count_start room → (IsTrue made → 1 ≤ dirty before.state)
    → length before.state.changed ≡ length before.told → length start.told ≡ length before.told → length start.state.changed ≡ length start.told
    → length count.gossip_fulls ≡ length before.told → Started before start made count count_start room
starts true result sent before start count count_start room is none round some as_many long as_many_now fulls =
    round_starts sent before start count count_start room none (subst (λ result. Rounds result before start count count_start room) is round) (some refl) as_many long as_many_now fulls
starts false result sent before start count count_start room is none same some as_many long as_many_now fulls = record {
  gossips = subst (Gossips before) (sym same.1) (gossips_nothing before);
  unmoved = subst (IsUnmoved before) (sym same.1) refl;
  back = inl refl;
}

-- none was made
pub not_started : (made : Bool) (result : Result ℕ NoMemory) (before start : Lists) (count count_start : Counts) (room : ℕ → List Bool → Type 0) → RoundsIf made result before start count count_start room → made ≡ false → start ≡ before
not_started true result before start count count_start room round is = absurd (true≢false is)
not_started false result before start count count_start room same is = same.1

pub not_counted : (made : Bool) (result : Result ℕ NoMemory) (before start : Lists) (count count_start : Counts) (room : ℕ → List Bool → Type 0) → RoundsIf made result before start count count_start room → made ≡ false → count_start ≡ count
not_counted true result before start count count_start room round is = absurd (true≢false is)
not_counted false result before start count count_start room same is = same.2

-- a round that was made where none was due, by the room that the senders had at first
pub rounds_at_first : (due left : Bool) (result : Result ℕ NoMemory) (before now : Lists) (count count_now : Counts) (room room_first : ℕ → List Bool → Type 0)
    → (IsTrue left → due ≡ false) → (due ≡ false → room ≡ room_first) → RoundsIf left result before now count count_now room → RoundsIf left result before now count count_now room_first
rounds_at_first due true result before now count count_now room room_first tried same round = subst (RoundsIf true result before now count count_now) (same (tried refl)) round
rounds_at_first due false result before now count count_now room room_first tried same round = round

-- a round in which a batch went out
pub round_turns : (made : Bool) (result : Result ℕ NoMemory) (sent : ℕ) (before now : Lists) (count count_first count_now : Counts) (room : ℕ → List Bool → Type 0) → result ≡ Ok sent → 0 < sent
    → count_first.gossip_fulls ≡ count.gossip_fulls → RoundsIf made result before now count count_now room → Turns {E = NoMemory} (Ok did.Round) before now count_first count_now room
round_turns true result sent before now count count_first count_now room is some same round = by_sent (subst (λ result. Rounds result before now count count_now room) is round)
  where
    by_sent : Rounds {E = NoMemory} (Ok sent) before now count count_now room → Turns {E = NoMemory} (Ok did.Round) before now count_first count_now room
    by_sent (gossips, back, have, tried, sent_is, since) = (
      gossips,
      omega (arith, sent_is, some),
      have,
      tried,
      λ place low any.
          subst (λ fulls. Rose (slice_index_or fulls place 0) (slice_index_or count_now.gossip_fulls place 0)) (sym same) (back place low any),
      since,
    )
round_turns false result sent before now count count_first count_now room is some same nothing = absurd (omega (arith, ok_same sent 0 (sym is ∙ nothing.0), some))

-- a round that met want of memory
pub round_lacks : (made : Bool) (result : Result ℕ NoMemory) (error : NoMemory) (before now : Lists) (count count_now : Counts) (room : ℕ → List Bool → Type 0) → result ≡ Err error
    → RoundsIf made result before now count count_now room → Gossips before now
round_lacks true result error before now count count_now room is round = by_error (subst (λ result. Rounds result before now count count_now room) is round)
  where
    by_error : Rounds {E = NoMemory} (Err error) before now count count_now room → Gossips before now
    by_error (gossips, back, have, since) = gossips
round_lacks false result error before now count count_now room is same = absurd (ok_is_no_err 0 error (sym same.0 ∙ is))

-- a round was made where a batch went out, or memory was wanting
pub was_made : (made : Bool) (result : Result ℕ NoMemory) (before now : Lists) (count count_now : Counts) (room : ℕ → List Bool → Type 0) → RoundsIf made result before now count count_now room → (result ≡ Ok 0 → ⊥) → made ≡ true
was_made true result before now count count_now room round some = refl
was_made false result before now count count_now room same some = absurd (some same.0)

pub some_sent : (sent : ℕ) → 0 < sent → the_ok sent ≡ the_ok 0 → ⊥
some_sent sent some is = absurd (omega (arith, ok_same sent 0 is, some))

pub no_ok : (error : NoMemory) → Err error ≡ the_ok 0 → ⊥
no_ok error is = ok_is_no_err 0 error (sym is)

-- by whether a batch of gossip was taken, and whether a request was
pub batch_taken : (taken : Bool) (before now : Lists) (count count_now : Answers) (nothing : Type 0) → taken ≡ true
    → TakesGossip {E = NoMemory} (Ok taken) before now count count_now nothing → KeepsBatch before now × Rose count.somes count_now.somes
batch_taken true before now count count_now nothing is takes = takes
batch_taken false before now count count_now nothing is takes = absurd (false≢true is)

pub no_batch : (taken : Bool) (before now : Lists) (count count_now : Answers) (nothing : Type 0) → taken ≡ false
    → TakesGossip {E = NoMemory} (Ok taken) before now count count_now nothing → (now ≡ before) × Rose count.nones count_now.nones
no_batch true before now count count_now nothing is takes = absurd (true≢false is)
no_batch false before now count count_now nothing is takes = (takes.0, takes.1)

pub request_taken : (taken : Bool) (before now : Lists) (count count_now : Answers) (nothing : Type 0) → taken ≡ true
    → TakesRequest {E = NoMemory} (Ok taken) before now count count_now nothing → KeepsRequest before now
request_taken true before now count count_now nothing is takes = takes
request_taken false before now count count_now nothing is takes = absurd (false≢true is)

pub no_request : (taken : Bool) (before now : Lists) (count count_now : Answers) (nothing : Type 0) → taken ≡ false
    → TakesRequest {E = NoMemory} (Ok taken) before now count count_now nothing → (now ≡ before) × (IsTrue (is_some before.state.held) ⊎ Rose count.nones count_now.nones)
no_request true before now count count_now nothing is takes = absurd (true≢false is)
no_request false before now count count_now nothing is (same, inl held) = (same, inl held)
no_request false before now count count_now nothing is (same, inr found) = (same, inr found.0)

-- nothing moved in the one nor in the other
pub unmoved_through : (before between now : Lists) → IsUnmoved before between → IsUnmoved between now → IsUnmoved before now
unmoved_through before between now first then' =
    then' ∙ (λ j. record (first j) { state = record ((first j).state) { turned = now.state.turned; since = now.state.since } })

-- No round was made, or every batch of one came back: of the one that was due, or of the last one.
pub rounds_back : (due left : Bool) (first told now : Lists) (count count_told count_asked count_now : Counts) (room : ℕ → List Bool → Type 0) (result : Result ℕ NoMemory)
    → Started first told due count count_told room → Started told now left count_asked count_now room → RoundsIf left result told now count_asked count_now room
    → (IsTrue left → due ≡ false) → count_asked.gossip_fulls ≡ count_told.gossip_fulls → (due ≡ false → count_told.gossip_fulls ≡ count.gossip_fulls)
    → ((due ≡ false) × (left ≡ false)) ⊎ CameBack first count.gossip_fulls count_now.gossip_fulls room
rounds_back due false first told now count count_told count_asked count_now room result begun ended round tried same not_due =
    either begun.back (λ none. (none, refl)) (λ back.
    subst (λ fulls. CameBack first count.gossip_fulls fulls room) (sym same ∙ sym (ap (λ (count : Counts). count.gossip_fulls) round.2)) back)
rounds_back due true first told now count count_told count_asked count_now room result begun ended round tried same not_due =
    inr (elim ended.back [
      | inl none ↦ absurd (true≢false none)
      | inr back ↦ record {
        some = subst (λ (lists : Lists). 1 ≤ dirty lists.state) begun.unmoved back.some;
        full = subst (λ fulls. SomeRose fulls count_now.gossip_fulls) (same ∙ not_due (tried refl)) back.full;
        no_room = subst (λ (lists : Lists). AreFirstBack (length lists.told) lists.state room) begun.unmoved back.no_room;
      }
    ])

-- keys are left to tell, so one was made
pub left_back : {Back : Type 0} (due left : Bool) (told now : Lists) → ((due ≡ false) × (left ≡ false)) ⊎ Back → (left ≡ false → due ≡ false → dirty told.state ≡ 0)
    → IsUnmoved told now → 1 ≤ dirty now.state → Back
left_back due left told now (inl none) clean unmoved some = absurd (omega (arith, some, clean none.1 none.0, ap (λ (lists : Lists). dirty lists.state) unmoved))
left_back due left told now (inr back) clean unmoved some = back

-- of an answer where no batch went out
pub on_none_sent : {E : Type 0} (result : Result Did E) (holds : Type 0) → holds → OnNoneSent result holds
on_none_sent (Ok did.Request) holds it = it
on_none_sent (Ok did.Gossip) holds it = it
on_none_sent (Ok did.Idle) holds it = it
on_none_sent result holds it = tt

-- the reply that is held came back
pub held_full : (before now : Option (ℕ × PlainReply)) (replied replied_now : List (List PlainReply)) (fulls fulls_now : List ℕ) (sent : Bool) → sent ≡ false
    → Resent {E = NoMemory} (Ok sent) before now replied replied_now fulls fulls_now → IsTrue (is_some now) → SomeRose fulls fulls_now
held_full before now replied replied_now fulls fulls_now true is resent some = absurd (true≢false is)
held_full before now replied replied_now fulls fulls_now false is (same, still, inl none) some = absurd (false≢true (sym (ap is_some (same ∙ none)) ∙ some))
held_full before now replied replied_now fulls fulls_now false is (same, still, inr (session, reply, was, low, rose)) some = (session - 1, low, rose)

-- nothing was found to do
pub rests_turns : (before now : Lists) (count count_now : Counts) (room : ℕ → List Bool → Type 0) → IsUnmoved before now → now.state.kept ≡ None
    → Rose count.gossip.nones count_now.gossip.nones
    → IsTrue (is_some now.state.held) ⊎ Rose count.requests.nones count_now.requests.nones
    → (1 ≤ dirty now.state → CameBack before count.gossip_fulls count_now.gossip_fulls room)
    → (IsTrue (is_some now.state.held) → SomeRose count.reply_fulls count_now.reply_fulls)
    → Turns {E = NoMemory} (Ok (rests_as now.state)) before now count count_now room
rests_turns before now count count_now room unmoved none_kept no_gossip no_request back held_back = by_dirty (cases_lt 0 (dirty now.state))
  where
    -- a mate that is left to tell makes the changeset dirty
    dirty_at : (place : ℕ) → changed_of now.state place ≢ [] → 1 ≤ dirty now.state
    dirty_at place some = elim (cases_lt 0 (dirty now.state)) [
      | inl dirties ↦ omega (arith, dirties)
      | inr none ↦ absurd (some (clean_at_each now.state (omega (arith, none)) place))
    ]

    someone : (held : Option (ℕ × PlainReply)) → IsTrue (is_some held) → (value : ℕ × PlainReply) × (held ≡ Some value)
    someone None is = absurd (false≢true is)
    someone (Some value) is = (value, refl)

    no_request_of : IsTrue (is_some now.state.held) ⊎ Rose count.requests.nones count_now.requests.nones
        → Rose count.requests.nones count_now.requests.nones ⊎ ((held : ℕ × PlainReply) × (now.state.held ≡ Some held))
    no_request_of (inl held) = inr (someone now.state.held held)
    no_request_of (inr rose) = inl rose

    blocked : (1 ≤ dirty now.state) ⊎ ((held : ℕ × PlainReply) × (now.state.held ≡ Some held)) → SomeRose count.reply_fulls count_now.reply_fulls ⊎ SomeRose count.gossip_fulls count_now.gossip_fulls
        → IsBlocked before now count count_now room
    blocked left full = record {
      unmoved = unmoved;
      left = left;
      no_gossip = no_gossip;
      no_request = no_request_of no_request;
      none_kept = none_kept;
      full = full;
      no_room = λ place low some.
          subst (λ (lists : Lists). AreFirstBack (length before.told) lists.state room) (sym unmoved) (back (dirty_at place some)).no_room place low some;
    }

    as_blocked : rests_as now.state ≡ did.Blocked → IsBlocked before now count count_now room → Turns {E = NoMemory} (Ok (rests_as now.state)) before now count count_now room
    as_blocked is blocks = subst (λ did. Turns {E = NoMemory} (Ok did) before now count count_now room) (sym is) blocks

    by_held : dirty now.state ≡ 0 → (is : Bool) → is_some now.state.held ≡ is → Turns {E = NoMemory} (Ok (rests_as now.state)) before now count count_now room
    by_held clean true is =
        as_blocked ((λ j. if ltb 0 (clean j) || is j then did.Blocked else did.Idle)) (blocked (inr (someone now.state.held is)) (inl (held_back is)))
    by_held clean false is =
        subst (λ did. Turns {E = NoMemory} (Ok did) before now count count_now room) (sym idle) idles
      where
        idle : rests_as now.state ≡ did.Idle
        idle = λ j. if ltb 0 (clean j) || is j then did.Blocked else did.Idle

        rose_of : IsTrue (is_some now.state.held) ⊎ Rose count.requests.nones count_now.requests.nones → Rose count.requests.nones count_now.requests.nones
        rose_of (inl held) = absurd (true≢false (sym held ∙ is))
        rose_of (inr rose) = rose

        idles : IsIdle before now count count_now
        idles = record { unmoved = unmoved; no_gossip = no_gossip; no_request = rose_of no_request; clean = clean; none_held = none_held now.state.held is; none_kept = none_kept }

    by_dirty : (0 < dirty now.state) ⊎ (dirty now.state ≤ 0) → Turns {E = NoMemory} (Ok (rests_as now.state)) before now count count_now room
    by_dirty (inl some) = as_blocked (λ j. if is_dirty j || is_some now.state.held then did.Blocked else did.Idle) (blocked (inl (omega (arith, some))) (inr (back (omega (arith, some))).full))
      where
        is_dirty : ltb 0 (dirty now.state) ≡ true
        is_dirty = lt-ltb 0 (dirty now.state) some
    by_dirty (inr none) = by_held (omega (arith, none)) (is_some now.state.held) refl

-- and no batch was joined
pub rests_joined : (state : State) → joined_in {E = NoMemory} (Ok (rests_as state)) ≡ 0
rests_joined state =
    elim (ltb 0 (dirty state) || is_some state.held) as (λ t. joined_in {E = NoMemory} (Ok (if t then did.Blocked else did.Idle)) ≡ 0) [ true ↦ refl | false ↦ refl ]

module _ {Q T O G : Type 0} (received : Q → List (ℕ × Request)) (replied : T → List PlainReply) (told : O → List Entries) (got : G → ℕ → ℕ → Option Entries) where
  -- nothing changed that the lists tell of
  same_lists : (before now : PlainWorker Q T O G) → now.state ≡ before.state → now.ends.requests ≡ before.ends.requests
      → map replied now.ends.replies.items ≡ map replied before.ends.replies.items → now.ends.gossip_out ≡ before.ends.gossip_out → now.ends.gossip_in ≡ before.ends.gossip_in
      → lists_of received replied told got now ≡ lists_of received replied told got before
  same_lists before now state requests replies out in' = λ j. record {
    state = state j;
    received = received (requests j);
    got = got (in' j);
    replied = replies j;
    told = map told (ap (λ (ends : Vec O Global). ends.items) out j);
  }

  -- the reply that is held came back, or there is none
  pub resent_still : (fulls : T → ℕ) (before now : PlainWorker Q T O G) (sent : Bool) → sent ≡ false → now.state ≡ record before.state { held = now.state.held }
      → Resent {E = NoMemory} (Ok sent) before.state.held now.state.held (map replied before.ends.replies.items) (map replied now.ends.replies.items) (map fulls before.ends.replies.items) (map fulls now.ends.replies.items)
      → now.ends.requests ≡ before.ends.requests → now.ends.gossip_out ≡ before.ends.gossip_out → now.ends.gossip_in ≡ before.ends.gossip_in
      → lists_of received replied told got now ≡ lists_of received replied told got before
  resent_still fulls before now true is state resent requests out in' = absurd (true≢false is)
  resent_still fulls before now false is state resent requests out in' = same_lists before now (state ∙ (λ j. record before.state { held = resent.0 j })) requests resent.1 out in'

  -- the reply that is held met want of memory
  pub resent_lacks : (fulls : T → ℕ) (before now : PlainWorker Q T O G) (error : NoMemory) → now.state ≡ record before.state { held = now.state.held }
      → Resent {E = NoMemory} (Err error) before.state.held now.state.held (map replied before.ends.replies.items) (map replied now.ends.replies.items) (map fulls before.ends.replies.items) (map fulls now.ends.replies.items)
      → now.ends.requests ≡ before.ends.requests → now.ends.gossip_out ≡ before.ends.gossip_out → now.ends.gossip_in ≡ before.ends.gossip_in
      → lists_of received replied told got now ≡ lists_of received replied told got before
  resent_lacks fulls before now error state resent requests out in' = same_lists before now (state ∙ (λ j. record before.state { held = resent.0 j })) requests resent.1 out in'
