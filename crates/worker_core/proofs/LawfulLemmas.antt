-- What a worker keeps from call to call, after each step.
use Rattle.std.proofs.Common.{◌≡◌, ℕ, ◌+◌, Bool, true, false, List, [], ◌∷◌, ◌++◌, is_some, length, map, min, sym, subst, ◌∙◌, ap, refl, arith, ◌⊎◌, inl, inr, Option, Some, None, Result, Ok, Err, OnOk, OnErr}
use Rattle.std.proofs.lemmas.Bool.{cases_lt, true≢false}
use Rattle.std.proofs.lemmas.List.{length-append, length-map}
use Rattle.lattice_laws.specs.Counts.{one_more}
use Rattle.mail_contract.specs.Got.{Added}
use Rattle.store_msg.specs.Reply.{PlainReply}
use Rattle.store_msg.specs.declared.request.Request.{Request}
use Rattle.gossip_rounds.specs.Batches.{Entries}
use Rattle.worker_core.specs.Kept.{AreEntries, IsKept, IsLawful, IsRequest}
use Rattle.worker_core.specs.Serving.{Resent, Served, since_after}
use Rattle.worker_core.specs.State.{Lists, State, dirty}
use Rattle.gossip_rounds.specs.Telling.{TellsAll}
use Rattle.worker_core.specs.Turns.{Counts, MayAsk, Rounds, counted}
use Rattle.worker_core.specs.declared.popped.Popped.{Popped}
use Rattle.worker_core.specs.declared.popped.Popped.TheVariants as popped
use Rattle.worker_core.proofs.KeptLemmas.{gossips_of, keeps_batch, keeps_gossip, keeps_request, keeps_resent, keeps_round, keeps_served}

-- lists of which one thing is the same are as long
pub as_long : {X A B : Type 0} (one : X → A) (other : X → B) (xs ys : List X) → map one xs ≡ map one ys → length (map other xs) ≡ length (map other ys)
as_long {A} one other xs ys same = omega (arith, length-map xs one, length-map ys one, length-map xs other, length-map ys other, ap (length {A = A}) same)

-- nothing is held where none is some
pub none_held : {A : Type 0} (held : Option A) → is_some held ≡ false → held ≡ None
none_held None is = refl
none_held (Some value) is = absurd (true≢false is)

-- where keys live stays
placed : (kept : Option Popped) (before now : State) (replied replied_now : List (List PlainReply)) → Served kept before now replied replied_now → now.placement ≡ before.placement
placed None before now replied replied_now none = absurd none
placed (Some (popped.Request session request)) before now replied replied_now works = ap (λ (state : State). state.placement) works.rest
placed (Some (popped.Batch sender batch)) before now replied replied_now works = ap (λ (state : State). state.placement) works.0

module _ (before : Lists) (taken most : ℕ) (lawful : IsLawful before taken most) where
  -- lists that are equal
  pub still_lawful : (now : Lists) → now ≡ before → IsLawful now taken most
  still_lawful now same = subst (λ (lists : Lists). IsLawful lists taken most) (sym same) lawful

  -- the reply that was held went out, or is held still
  pub resent_lawful : {E : Type 0} (result : Result Bool E) (held : Option (ℕ × PlainReply)) (replied : List (List PlainReply)) (fulls fulls_now : List ℕ)
      → Resent result before.state.held held before.replied replied fulls fulls_now → IsLawful (record before { state = record before.state { held = held }; replied = replied }) taken most
  resent_lawful (Ok true) held replied fulls fulls_now (session, reply, was, none, sent) = record {
    keeps = subst (λ (lists : Lists). IsKept lists) (λ j. record before { state = record before.state { held = sym none j }; replied = sym sent j }) (keeps_resent before lawful.keeps session reply was);
    taken_is = lawful.taken_is;
    most_is = lawful.most_is;
  }
  resent_lawful (Ok false) held replied fulls fulls_now same = still_lawful _ (λ j. record before { state = record before.state { held = same.0 j }; replied = same.1 j })
  resent_lawful (Err error) held replied fulls fulls_now same = still_lawful _ (λ j. record before { state = record before.state { held = same.0 j }; replied = same.1 j })

  -- a batch was taken out of its box, and is kept
  pub batch_lawful : (sender : ℕ) (batch : Entries) (got : ℕ → ℕ → Option Entries) → before.state.kept ≡ None → AreEntries batch → Added sender batch before.got got
      → IsLawful (record before { state = record before.state { kept = Some (popped.Batch sender batch) }; got = got }) taken most
  batch_lawful sender batch got none are added = record { keeps = keeps_batch before lawful.keeps sender batch got none are added; taken_is = lawful.taken_is; most_is = lawful.most_is }

  -- a request was taken out of its box, and is kept
  pub request_lawful : (session : ℕ) (request : Request) (received : List (ℕ × Request)) → before.state.kept ≡ None → before.state.held ≡ None → MayAsk before.state → IsRequest request
      → received ≡ before.received ++ (session, request) ∷ []
      → IsLawful (record before { state = record before.state { kept = Some (popped.Request session request); since = min (before.state.since + 1) before.state.round }; received = received }) (one_more taken) most
  request_lawful session request received none free asks is taken_now = rw taken_now (record {
    keeps = keeps_request before lawful.keeps session request (min (before.state.since + 1) before.state.round) none free is (omega arith) (counts asks);
    taken_is = omega (arith, lawful.taken_is, length-append before.received ((session, request) ∷ []));
    most_is = lawful.most_is;
  })
    where
      counts : MayAsk before.state → (min (before.state.since + 1) before.state.round ≡ before.state.since + 1) ⊎ ((min (before.state.since + 1) before.state.round ≡ before.state.since) × (dirty before.state ≡ 0))
      counts (inl fewer) = inl (omega (arith, fewer))
      counts (inr clean) = elim (cases_lt before.state.since before.state.round) [
        | inl fewer ↦ inl (omega (arith, fewer))
        | inr not_fewer ↦ inr (omega (arith, not_fewer, lawful.keeps.since), clean)
      ]

  -- the message that was kept was worked on, or memory was wanting and nothing changed
  pub served_lawful : {U E : Type 0} (result : Result U E) (state : State) (replied : List (List PlainReply)) → length replied ≡ length before.replied
      → OnOk result (Served before.state.kept before.state state before.replied replied) → OnErr result ((state ≡ before.state) × (replied ≡ before.replied))
      → IsLawful (record before { state = state; replied = replied }) taken most
  served_lawful (Ok did) state replied long serves still = record {
    keeps = keeps_served before lawful.keeps state replied long serves;
    taken_is = lawful.taken_is;
    most_is = lawful.most_is ∙ ap (length {A = List ℕ}) (sym (placed before.state.kept before.state state before.replied replied serves));
  }
  served_lawful (Err error) state replied long serves still = still_lawful _ (λ j. record before { state = still.0 j; replied = still.1 j })

  -- each mate was told, or some of them where memory was wanting: the tries of each, by how many requests were taken
  told_counted : {E : Type 0} (result : Result ℕ E) (changed : List (List ℕ)) (told : List (List Entries)) (turned fulls fulls_now : List ℕ) {room : ℕ → List Bool → Type 0}
      → TellsAll result before.state.cells taken before.state.changed changed before.told told before.state.turned turned fulls fulls_now room
      → TellsAll result before.state.cells (counted (length before.received)) before.state.changed changed before.told told before.state.turned turned fulls fulls_now room
  told_counted result changed told turned fulls fulls_now {room} tells =
      subst (λ taken. TellsAll result before.state.cells taken before.state.changed changed before.told told before.state.turned turned fulls fulls_now room) lawful.taken_is tells

  -- and what it keeps then
  pub round_lawful : {E : Type 0} (result : Result ℕ E) (changed : List (List ℕ)) (told : List (List Entries)) (turned fulls fulls_now : List ℕ) {room : ℕ → List Bool → Type 0}
      → TellsAll result before.state.cells taken before.state.changed changed before.told told before.state.turned turned fulls fulls_now room
      → IsLawful (record before { state = record before.state { changed = changed; turned = turned; since = since_after before.state.since result }; told = told }) taken most
  round_lawful (Ok sent) changed told turned fulls fulls_now tells = record {
    keeps = keeps_round sent before changed told turned fulls fulls_now (told_counted (Ok sent) changed told turned fulls fulls_now tells) lawful.keeps;
    taken_is = lawful.taken_is;
    most_is = lawful.most_is;
  }
  round_lawful (Err error) changed told turned fulls fulls_now tells = record {
    keeps = keeps_gossip (Err error) before changed told turned fulls fulls_now (told_counted (Err error) changed told turned fulls fulls_now tells) lawful.keeps before.state.since refl;
    taken_is = lawful.taken_is;
    most_is = lawful.most_is;
  }

  -- what a round answers
  pub rounds : {E : Type 0} (result : Result ℕ E) (changed : List (List ℕ)) (told : List (List Entries)) (turned : List ℕ) (count count_now : Counts) {room : ℕ → List Bool → Type 0}
      → TellsAll result before.state.cells taken before.state.changed changed before.told told before.state.turned turned count.gossip_fulls count_now.gossip_fulls room
      → Rounds result before (record before { state = record before.state { changed = changed; turned = turned; since = since_after before.state.since result }; told = told }) count count_now room
  rounds (Ok sent) changed told turned count count_now tells =
      let fulls = count.gossip_fulls in
      let fulls_now = count_now.gossip_fulls in
      let by_count = told_counted (Ok sent) changed told turned fulls fulls_now tells in
      (gossips_of (Ok sent) before changed told turned fulls fulls_now by_count 0, by_count.full, by_count.have_room, by_count.all, by_count.sent, refl)
  rounds (Err error) changed told turned count count_now tells =
      let fulls = count.gossip_fulls in
      let fulls_now = count_now.gossip_fulls in
      let by_count = told_counted (Err error) changed told turned fulls fulls_now tells in
      (gossips_of (Err error) before changed told turned fulls fulls_now by_count before.state.since, by_count.full, by_count.have_room, refl)
