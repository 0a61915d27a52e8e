-- What a worker keeps from call to call stays kept in each of its steps, and holds before the first.
use Rattle.std.specs.Prelude.{◌≡◌, ◌⊎◌, ℕ, zero, suc, ◌+◌, ◌-◌, ◌<◌, ◌≤◌, ◌^◌, Bool, IsTrue, List, [], ◌∷◌, ◌++◌, All, AllPairs, Contains, is_some, length, replicate, slice_index_or, slice_set, Option, Some, None, Result, Ok}
use Rattle.std.specs.List.{AllZip}
use Rattle.std.proofs.Common.{refl, sym, ap, subst, ◌∙◌, inl, inr, append-nil, arith}
use Rattle.std.proofs.lemmas.Bool.{cases_eq, cases_lt, false≢true}
use Rattle.std.proofs.lemmas.List.{get_or-replicate, get_or_past, length-replicate}
use Rattle.std.proofs.lemmas.List.Concat.{flat_map-append}
use Rattle.std.proofs.lemmas.List.Elements.{All-append, All-cons, All-contains, All-nil, All-push, All-weaker, Contains-append_left, Contains-push, Contains-push_cases}
use Rattle.std.proofs.lemmas.Option.{none-some, same_Some}
use Rattle.lattice_laws.proofs.ListLemmas.{All-back, All-front}
use Rattle.lattice_laws.proofs.MembersLemmas.{contains_none}
use Rattle.clock_lattice.specs.Clock.{covers}
use Rattle.composed_value.specs.Cell.{IsCell, PlainCell}
use Rattle.composed_value.specs.Keyed.{kind_at}
use Rattle.composed_value.specs.declared.kind.Kind.{Kind}
use Rattle.merge_world.specs.Effects.{cells_at, hears}
use Rattle.merge_world.specs.World.{is_ascending}
use Rattle.merge_world.specs.declared.private_map.KeyCells.{KeyCells}
use Rattle.mail_contract.specs.Got.{Added}
use Rattle.store_msg.specs.Reply.{PlainReply}
use Rattle.store_msg.specs.declared.request.Request.{Request}
use Rattle.gossip_rounds.specs.Batches.{Entries}
use Rattle.worker_core.specs.Kept.{AreEntries, IsBelow, IsFree, IsKept, IsRequest}
use Rattle.worker_core.specs.Lag.{LagsBy}
use Rattle.worker_core.specs.Serving.{AddsReplies, Served}
use Rattle.worker_core.specs.Share.{AreThoseOf, CoversEarlier, IsAnswerCell, IsAtMost, IsHeldFor, IsReplyTo, IsSession, IsTold, WasOwn, entries_in, own_cell, replies_to, shown_of, told_to}
use Rattle.worker_core.specs.State.{changed_of, dirty, IsFixed, kept_batch, kept_request, Lists, lives_at, opening_state, State}
use Rattle.gossip_rounds.specs.Telling.{TellsAll}
use Rattle.worker_core.specs.Turns.{Gossips, HandsOver, Serves, counted, marked, reply_to, served}
use Rattle.worker_core.specs.declared.popped.Popped.{Popped}
use Rattle.worker_core.specs.declared.popped.Popped.TheVariants as popped
use Rattle.worker_core.proofs.LagLemmas.{all_told, lag_gossips, lag_on, lag_popped, lag_round}
use Rattle.worker_core.proofs.MapLemmas.{held_before_heard, held_before_taken, holds_heard, holds_taken, opening_holds, opening_own, opening_whole, own_heard, own_heard_same, own_same, own_some, own_taken, shown_heard, shown_taken, whole_heard, whole_made, whole_taken}
use Rattle.worker_core.proofs.OwnLemmas.{AreRequests, own_counts, own_grows}
use Rattle.worker_core.proofs.RepliesLemmas.{answered_on, answered_still, answers_worked, below_on, below_worked, handed_answered, handed_long, handed_over}
use Rattle.worker_core.proofs.ToldLemmas.{AreAllChanged, Counts, HeldBefore, HeldStill, Mono, SameOwn, cells_only_changed, cells_only_clean, gossips_fixed, gossips_keep, serves_changed, serves_clean, told_later}

-- a request that there can be, with its session
abbrev IsMessage : ℕ × Request → Type 0
IsMessage message = IsRequest message.1

-- an entry that there can be
abbrev IsEntry : ℕ × PlainCell → Type 0
IsEntry entry = IsCell entry.1

-- a place is one of a sender's, or another
same_place : (from at sender place : ℕ) → ((from ≡ sender) × (at ≡ place)) ⊎ ((from ≡ sender) × (at ≡ place) → ⊥)
same_place from at sender place = elim (cases_eq from sender) [
  | inr apart ↦ inr (λ both. apart both.0)
  | inl same ↦ elim (cases_eq at place) [
    | inr apart ↦ inr (λ both. apart both.1)
    | inl here ↦ inl (same, here)
  ]
]

-- a batch that is added to those that were handed out is one of them then
pub added_are : (sender : ℕ) (batch : Entries) (before now : ℕ → ℕ → Option Entries) (batches : List (ℕ × Entries)) → Added sender batch before now
    → AreThoseOf before batches → AreThoseOf now (batches ++ (sender, batch) ∷ [])
added_are sender batch before now batches added are = record {
  all = λ from at other is. elim (same_place from at sender added.place) [
    | inl here ↦
        let same : batch ≡ other = same_Some batch other (sym added.here ∙ (λ j. now (sym here.0 j) (sym here.1 j)) ∙ is) in
        subst (Contains (batches ++ (sender, batch) ∷ [])) (λ j. (sym here.0 j, same j)) (Contains-push batches (sender, batch))
    | inr apart ↦ Contains-append_left batches ((sender, batch) ∷ []) (from, other) (are.all from at other (sym (added.others from at apart) ∙ is))
  ];
  no_others = λ from other has_it. elim (Contains-push_cases batches (sender, batch) (from, other) has_it) [
    | inr last ↦ (
      added.place,
      (λ j. now (sym (ap (λ (message : ℕ × Entries). message.0) last) j) added.place)
          ∙ added.here ∙ ap (λ (message : ℕ × Entries). Some message.1) last,
    )
    | inl earlier ↦ still_there from other (are.no_others from other earlier)
  ];
}
  where
    was_free : (other : Entries) → before sender added.place ≡ Some other → batch ≡ other
    was_free other is = elim added.free [
      | inl none ↦ absurd (none-some other (sym none ∙ is))
      | inr same ↦ same_Some batch other (sym same ∙ is)
    ]

    still_there : (from : ℕ) (other : Entries) → ((at : ℕ) × (before from at ≡ Some other)) → (at : ℕ) × (now from at ≡ Some other)
    still_there from other found = elim (same_place from found.0 sender added.place) [
      | inr apart ↦ (found.0, added.others from found.0 apart ∙ found.1)
      | inl here ↦ (
        found.0,
        (λ j. now (here.0 j) (here.1 j)) ∙ added.here
            ∙ ap Some (was_free other ((λ j. before (sym here.0 j) (sym here.1 j)) ∙ found.1)),
      )
    ]

-- what is held before and after is, where there is as much
there_too : (before now : Option KeyCells) → is_some now ≡ is_some before → (at : KeyCells) → before ≡ Some at
    → (now_at : KeyCells) × (now ≡ Some now_at)
there_too before None same at is = absurd (false≢true (same ∙ ap is_some is))
there_too before (Some now_at) same at is = (now_at, refl)

-- where no message is kept no reply need be held
free_none : (kept : Option Popped) → IsFree kept None
free_none None = tt
free_none (Some (popped.Request session request)) = refl
free_none (Some (popped.Batch sender batch)) = tt

-- the entries of each batch among some are ones that there can be
each_batch : (batches : List (ℕ × Entries)) → AreEntries (entries_in batches) → All (λ batch. AreEntries batch.1) batches
each_batch [] all = All-nil (λ (batch : ℕ × Entries). AreEntries batch.1)
each_batch (batch ∷ batches) all =
    All-cons (λ (batch : ℕ × Entries). AreEntries batch.1) batch batches (All-front IsEntry batch.1 (entries_in batches) all)
    (each_batch batches (All-back IsEntry batch.1 (entries_in batches) all))

-- Some steps of a worker.
module _ (before : Lists) (keeps : IsKept before) where
  abbrev worked : List (ℕ × Request)
  worked = keeps.share.cells.worked

  abbrev joined : List (ℕ × Entries)
  joined = keeps.share.cells.joined

  -- the requests that were worked on are ones that there can be
  worked_are : AreRequests worked
  worked_are = All-front IsMessage worked (kept_request before.state.kept) (subst (All IsMessage) keeps.share.cells.received_is keeps.requests)

  -- own cells only grow
  grows : Mono before.state.kinds worked
  grows key front back split =
      let kind = kind_at before.state.kinds key in
      subst (λ all. IsAtMost (own_cell kind key front) (own_cell kind key all)) (sym split)
      (own_grows kind key front back (subst AreRequests split worked_are))

  -- and count the puts that were worked on
  counts : Counts before.state.kinds worked
  counts key session put has_it numbered is = own_counts (kind_at before.state.kinds key) key worked session put worked_are has_it numbered is

  -- what was received and handed out, by what is kept
  received_by : (kept : Option Popped) → before.state.kept ≡ kept → before.received ≡ worked ++ kept_request kept
  received_by kept is = keeps.share.cells.received_is ∙ ap (λ kept. worked ++ kept_request kept) is

  got_by : (kept : Option Popped) → before.state.kept ≡ kept → AreThoseOf before.got (joined ++ kept_batch kept)
  got_by kept is = subst (λ kept. AreThoseOf before.got (joined ++ kept_batch kept)) is keeps.share.cells.got_are

  -- a request that is kept is one that there can be,
  pub request_is : (session : ℕ) (request : Request) → before.state.kept ≡ Some (popped.Request session request) → IsRequest request
  request_is session request was_kept =
      All-contains IsMessage before.received (session, request) keeps.requests
      (subst (λ all. Contains all (session, request)) (sym (received_by (Some (popped.Request session request)) was_kept))
      (Contains-push worked (session, request)))

  -- and so are the entries of a batch that is kept,
  pub entries_are : (sender : ℕ) (batch : Entries) → before.state.kept ≡ Some (popped.Batch sender batch) → AreEntries batch
  entries_are sender batch was_kept =
      subst AreEntries (append-nil batch) (subst (λ kept. AreEntries (entries_in (kept_batch kept))) was_kept keeps.kept)

  -- and of one that was joined
  pub entries_joined : (sender place : ℕ) (batch : Entries) → before.state.kept ≡ None → before.got sender place ≡ Some batch → AreEntries batch
  entries_joined sender place batch none_kept is =
      All-contains (λ (batch : ℕ × Entries). AreEntries batch.1) joined (sender, batch) (each_batch joined keeps.joined)
      (subst (λ batches. Contains batches (sender, batch)) (append-nil joined) ((got_by None none_kept).all sender place batch is))

  -- what is shown of a key after a request covers what was shown before,
  pub shows_taken : (request : Request) → IsRequest request → (key : ℕ)
      → IsTrue (covers (shown_of (cells_at (served request before.state.cells) key)).clock (shown_of (cells_at before.state.cells key)).clock)
  shows_taken =
      shown_taken before.state.kinds before.state.cells worked keeps.share.cells.own joined keeps.share.cells.whole worked_are keeps.joined

  -- and so after a batch
  pub shows_heard : (batch : Entries) → AreEntries batch → (key : ℕ)
      → IsTrue (covers (shown_of (cells_at (hears batch before.state.cells) key)).clock (shown_of (cells_at before.state.cells key)).clock)
  shows_heard =
      shown_heard before.state.kinds before.state.cells worked keeps.share.cells.own joined keeps.share.cells.whole worked_are keeps.joined

  -- the cell that a get of a key is answered from
  shown_made : (key : ℕ)
      → IsAnswerCell (lives_at before.state.placement before.state.me key) (kind_at before.state.kinds key) key worked (entries_in joined)
      (shown_of (cells_at before.state.cells key))
  shown_made key =
      subst (λ held. IsAnswerCell held kind key worked (entries_in joined) (shown_of (cells_at before.state.cells key))) (keeps.share.holds key)
      (by_cells (cells_at before.state.cells key) refl)
    where
      kind : Kind
      kind = kind_at before.state.kinds key

      by_cells : (found : Option KeyCells) → cells_at before.state.cells key ≡ found
          → IsAnswerCell (is_some found) kind key worked (entries_in joined) (shown_of found)
      by_cells None is = refl
      by_cells (Some at) is = whole_made before.state.kinds before.state.cells worked keeps.share.cells.own joined keeps.share.cells.whole key at is

  -- what was told, what is left to tell and how far gossip lags stay as they should be in a step that does not touch them
  told_still : (now : State) → IsFixed before.state now → (place : ℕ) → place < length before.told → IsTold now worked place (told_to before place)
  told_still now fixed place low =
      subst (λ all. IsTold now all place (told_to before place)) (append-nil worked)
      (told_later before.state now worked [] place (told_to before place) (keeps.share.told place low) fixed)

  changed_still : (now : Lists) → IsFixed before.state now.state → now.told ≡ before.told → now.state.changed ≡ before.state.changed
      → now.state.cells ≡ before.state.cells → AreAllChanged now
  changed_still now fixed same_told same_changed same_cells =
      cells_only_changed before now fixed same_told same_changed
      (λ key at now_at is is_now.
      ap (λ (at : KeyCells). at.own) (same_Some now_at at (sym is_now ∙ ap (λ cells. cells_at cells key) same_cells ∙ is)))
      keeps.changed (λ key at is. (at, ap (λ cells. cells_at cells key) same_cells ∙ is))

  lags_still : (now : Lists) → now.received ≡ before.received → IsFixed before.state now.state → now.told ≡ before.told
      → now.state.turned ≡ before.state.turned → LagsBy before.state.since now
  lags_still now same_received fixed same_told same_turned =
      lag_on before.state.since before now keeps.lags same_received fixed (ap length same_told)
      (λ mate low. ([], ap (λ told. slice_index_or told mate []) same_told ∙ sym (append-nil (told_to before mate))))
      (λ mate low. inl (ap (λ turned. slice_index_or turned mate 0) same_turned))

  -- a request is popped and kept
  pub keeps_request : (session : ℕ) (request : Request) (since : ℕ) → before.state.kept ≡ None → before.state.held ≡ None → IsRequest request
      → since ≤ before.state.round → (since ≡ before.state.since + 1) ⊎ ((since ≡ before.state.since) × (dirty before.state ≡ 0))
      → IsKept (record before {
        state = record before.state { kept = Some (popped.Request session request); since = since };
        received = before.received ++ (session, request) ∷ [];
      })
  keeps_request session request since none_kept none_held is within counted_or_clean =
      let now : Lists = record before {
        state = record before.state { kept = Some (popped.Request session request); since = since };
        received = before.received ++ (session, request) ∷ [];
      } in
      let fixed : IsFixed before.state now.state = record { me = refl; round = refl; placement = refl; kinds = refl } in
      let all_worked : before.received ≡ worked = received_by None none_kept ∙ append-nil worked in
      record {
        share = record {
          holds = keeps.share.holds;
          cells = record {
            worked = worked;
            received_is = ap (λ all. all ++ (session, request) ∷ []) all_worked;
            own = keeps.share.cells.own;
            joined = joined;
            got_are = got_by None none_kept;
            whole = keeps.share.cells.whole;
          };
          replies = answered_still before now keeps.share.replies (λ to is. refl) refl refl fixed;
          told = told_still now.state fixed;
          clean = keeps.share.clean;
        };
        lags = lag_popped before now (session, request) keeps.lags refl refl refl fixed (elim counted_or_clean [
          | inl counted_now ↦ inl counted_now
          | inr clean ↦ inr (
            clean.0,
            (λ place key put mate low.
                all_told before worked [] (all_worked ∙ sym (append-nil worked)) keeps.share.cells.own keeps.share.holds counts clean.1
                keeps.share.clean place key put mate (omega (arith, low, ap length all_worked))),
          )
        ]);
        since = within;
        round = keeps.round;
        free = none_held;
        kinds = keeps.kinds;
        changed_mates = keeps.changed_mates;
        turned_mates = keeps.turned_mates;
        few_mates = keeps.few_mates;
        changed = changed_still now fixed refl refl refl;
        requests = All-push IsMessage before.received (session, request) keeps.requests is;
        joined = keeps.joined;
        kept = All-nil IsEntry;
        below = keeps.below;
      }

  -- a batch is popped and kept
  pub keeps_batch : (sender : ℕ) (batch : Entries) (got : ℕ → ℕ → Option Entries) → before.state.kept ≡ None → AreEntries batch
      → Added sender batch before.got got
      → IsKept (record before { state = record before.state { kept = Some (popped.Batch sender batch) }; got = got })
  keeps_batch sender batch got none_kept are added =
      let now : Lists = record before { state = record before.state { kept = Some (popped.Batch sender batch) }; got = got } in
      let fixed : IsFixed before.state now.state = record { me = refl; round = refl; placement = refl; kinds = refl } in
      record {
        share = record {
          holds = keeps.share.holds;
          cells = record {
            worked = worked;
            received_is = received_by None none_kept;
            own = keeps.share.cells.own;
            joined = joined;
            got_are = added_are sender batch before.got got joined added
                (subst (AreThoseOf before.got) (append-nil joined) (got_by None none_kept));
            whole = keeps.share.cells.whole;
          };
          replies = answered_still before now keeps.share.replies (λ to is. refl) refl refl fixed;
          told = told_still now.state fixed;
          clean = keeps.share.clean;
        };
        lags = lags_still now refl fixed refl refl;
        since = keeps.since;
        round = keeps.round;
        free = tt;
        kinds = keeps.kinds;
        changed_mates = keeps.changed_mates;
        turned_mates = keeps.turned_mates;
        few_mates = keeps.few_mates;
        changed = changed_still now fixed refl refl refl;
        requests = keeps.requests;
        joined = keeps.joined;
        kept = subst AreEntries (sym (append-nil batch)) are;
        below = keeps.below;
      }

  -- a reply that was held goes out
  pub keeps_resent : (session : ℕ) (reply : PlainReply) → before.state.held ≡ Some (session, reply)
      → IsKept (record before {
        state = record before.state { held = None };
        replied = slice_set before.replied (session - 1) (slice_index_or before.replied (session - 1) [] ++ reply ∷ []);
      })
  keeps_resent session reply was_held =
      let now : Lists = record before {
        state = record before.state { held = None };
        replied = slice_set before.replied (session - 1) (slice_index_or before.replied (session - 1) [] ++ reply ∷ []);
      } in
      let fixed : IsFixed before.state now.state = record { me = refl; round = refl; placement = refl; kinds = refl } in
      let hands : HandsOver before now = record { session = session; reply = reply; was_held = was_held; sent = refl } in
      let long : length now.replied ≡ length before.replied = handed_long hands in
      record {
        share = record {
          holds = keeps.share.holds;
          cells = record {
            worked = worked;
            received_is = keeps.share.cells.received_is;
            own = keeps.share.cells.own;
            joined = joined;
            got_are = keeps.share.cells.got_are;
            whole = keeps.share.cells.whole;
          };
          replies = handed_answered hands keeps.share.replies;
          told = told_still now.state fixed;
          clean = keeps.share.clean;
        };
        lags = lags_still now refl fixed refl refl;
        since = keeps.since;
        round = keeps.round;
        free = free_none before.state.kept;
        kinds = keeps.kinds;
        changed_mates = keeps.changed_mates;
        turned_mates = keeps.turned_mates;
        few_mates = keeps.few_mates;
        changed = changed_still now fixed refl refl refl;
        requests = keeps.requests;
        joined = keeps.joined;
        kept = keeps.kept;
        below = λ to is.
            let was : IsSession before to = (is.0, omega (arith, is.1, long)) in
            subst (All (IsBelow before.state)) (sym (handed_over hands keeps.share.replies.held to was)) (keeps.below to was);
      }

  -- a request that was kept is worked on
  served_request : (session : ℕ) (request : Request) (changed : List (List ℕ)) (held : Option (ℕ × PlainReply)) (replied : List (List PlainReply))
      → before.state.kept ≡ Some (popped.Request session request) → length replied ≡ length before.replied
      → ((place : ℕ) → place < length before.state.changed → slice_index_or changed place [] ≡ marked before.state request place)
      → length changed ≡ length before.state.changed
      → AddsReplies session (reply_to before.state request) before.replied before.state.held replied held → IsHeldFor (length before.replied) held
      → IsKept (record before {
        state = record before.state { cells = served request before.state.cells; changed = changed; kept = None; held = held };
        replied = replied;
      })
  served_request session request changed held replied was_kept long are_marked mates adds for_session =
      let now : Lists = record before {
        state = record before.state { cells = served request before.state.cells; changed = changed; kept = None; held = held };
        replied = replied;
      } in
      let fixed : IsFixed before.state now.state = record { me = refl; round = refl; placement = refl; kinds = refl } in
      let cells = before.state.cells in
      let own = keeps.share.cells.own in
      let whole = keeps.share.cells.whole in
      let received = received_by (Some (popped.Request session request)) was_kept in
      let is = request_is session request was_kept in
      let serves : Serves session request before now = record {
        taken = inl (was_kept, refl);
        cells = refl;
        changed = λ place low. are_marked place (omega (arith, low, keeps.changed_mates));
        replies = λ to is. adds to is.0 is.1;
        kept = refl;
        got = refl;
        told = refl;
      } in
      record {
        share = record {
          holds = λ key. holds_taken cells request key ∙ keeps.share.holds key;
          cells = record {
            worked = worked ++ (session, request) ∷ [];
            received_is = received ∙ sym (append-nil (worked ++ (session, request) ∷ []));
            own = own_taken before.state.kinds cells worked own session request worked_are;
            joined = joined;
            got_are = got_by (Some (popped.Request session request)) was_kept;
            whole = whole_taken before.state.kinds cells worked own joined whole worked_are keeps.joined request is;
          };
          replies = answers_worked keeps.share.replies serves fixed long
              (subst (λ sessions. IsHeldFor sessions held) (sym long) for_session) keeps.below
              (λ ask key required is. shown_made key);
          told = λ place low.
              told_later before.state now.state worked ((session, request) ∷ []) place (told_to before place) (keeps.share.told place low) fixed;
          clean = serves_clean session request before now serves fixed keeps.share.clean (λ key at now_at. own_same cells request key at now_at)
              (λ key now_at. held_before_taken cells request key now_at);
        };
        lags = lags_still now refl fixed refl refl;
        since = keeps.since;
        round = keeps.round;
        free = tt;
        kinds = keeps.kinds;
        changed_mates = mates ∙ keeps.changed_mates;
        turned_mates = keeps.turned_mates;
        few_mates = keeps.few_mates;
        changed = serves_changed session request before now serves fixed keeps.changed
            (λ key at now_at. own_some before.state.kinds cells worked own request worked_are is key at now_at)
            (λ key at. there_too (cells_at cells key) (cells_at now.state.cells key) (holds_taken cells request key) at);
        requests = keeps.requests;
        joined = keeps.joined;
        kept = All-nil IsEntry;
        below = λ to is_session.
            below_worked keeps.below serves (shows_taken request is) to (is_session.0, omega (arith, is_session.1, long));
      }

  -- a batch that was kept is worked on
  served_batch : (sender : ℕ) (batch : Entries) → before.state.kept ≡ Some (popped.Batch sender batch)
      → IsKept (record before { state = record before.state { cells = hears batch before.state.cells; kept = None } })
  served_batch sender batch was_kept =
      let now : Lists = record before { state = record before.state { cells = hears batch before.state.cells; kept = None } } in
      let fixed : IsFixed before.state now.state = record { me = refl; round = refl; placement = refl; kinds = refl } in
      let cells = before.state.cells in
      let own = keeps.share.cells.own in
      let whole = keeps.share.cells.whole in
      let message : List (ℕ × Entries) = (sender, batch) ∷ [] in
      let are_entries : AreEntries (entries_in message) = subst (λ kept. AreEntries (entries_in (kept_batch kept))) was_kept keeps.kept in
      let are = entries_are sender batch was_kept in
      let back : HeldBefore before now = λ key now_at. held_before_heard cells batch key now_at in
      let forth : HeldStill before now = λ key at. there_too (cells_at cells key) (cells_at now.state.cells key) (holds_heard cells batch key) at in
      let same_own : SameOwn before now = λ key at now_at. own_heard_same cells batch key at now_at in
      record {
        share = record {
          holds = λ key. holds_heard cells batch key ∙ keeps.share.holds key;
          cells = record {
            worked = worked;
            received_is = received_by (Some (popped.Batch sender batch)) was_kept;
            own = own_heard before.state.kinds cells worked own batch;
            joined = joined ++ message;
            got_are = subst (AreThoseOf before.got) (sym (append-nil (joined ++ message))) (got_by (Some (popped.Batch sender batch)) was_kept);
            whole = whole_heard before.state.kinds cells worked own joined whole worked_are keeps.joined sender batch are;
          };
          replies = answered_on before now message keeps.share.replies (λ to is. refl) refl refl fixed;
          told = told_still now.state fixed;
          clean = cells_only_clean before now fixed refl refl same_own keeps.share.clean back;
        };
        lags = lags_still now refl fixed refl refl;
        since = keeps.since;
        round = keeps.round;
        free = tt;
        kinds = keeps.kinds;
        changed_mates = keeps.changed_mates;
        turned_mates = keeps.turned_mates;
        few_mates = keeps.few_mates;
        changed = cells_only_changed before now fixed refl refl same_own keeps.changed forth;
        requests = keeps.requests;
        joined = subst AreEntries (sym (flat_map-append (λ (b : ℕ × Entries). b.1) joined message))
            (All-append IsEntry (entries_in joined) (entries_in message) keeps.joined are_entries);
        kept = All-nil IsEntry;
        below = λ to is.
            All-weaker (IsBelow before.state) (IsBelow now.state) (λ reply. below_on before.state now.state reply (shows_heard batch are))
            (replies_to before to) (keeps.below to is);
      }

  -- the message that was kept is worked on
  pub keeps_served : (state : State) (replied : List (List PlainReply)) → length replied ≡ length before.replied
      → Served before.state.kept before.state state before.replied replied
      → IsKept (record before { state = state; replied = replied })
  keeps_served state replied long is = by_kept before.state.kept refl is
    where
      by_kept : (kept : Option Popped) → before.state.kept ≡ kept → Served kept before.state state before.replied replied
          → IsKept (record before { state = state; replied = replied })
      by_kept None was_kept none = absurd none
      by_kept (Some (popped.Request session request)) was_kept worked_on =
          let now_is : state ≡ record before.state {
            cells = served request before.state.cells;
            changed = state.changed;
            kept = None;
            held = state.held;
          } = worked_on.rest ∙ (λ j. record before.state { cells = worked_on.cells j; changed = state.changed; kept = None; held = state.held }) in
          subst (λ (now : State). IsKept (record before { state = now; replied = replied })) (sym now_is)
          (served_request session request state.changed state.held replied was_kept long worked_on.changed worked_on.mates
          worked_on.replies worked_on.held)
      by_kept (Some (popped.Batch sender batch)) was_kept joined_now =
          subst (λ (now : Lists). IsKept now) (λ j. record before { state = sym joined_now.0 j; replied = sym joined_now.1 j })
          (served_batch sender batch was_kept)

-- Mates are told, each or some of them.
module _ {E : Type 0} (result : Result ℕ E) (before : Lists) (changed : List (List ℕ)) (told : List (List Entries)) (turned fulls fulls_now : List ℕ)
    {room : ℕ → List Bool → Type 0}
    (tells : TellsAll result before.state.cells (counted (length before.received)) before.state.changed changed before.told told before.state.turned
    turned fulls fulls_now room) where
  -- what they are told is gossip
  abbrev pub gossips_of : (since : ℕ)
      → Gossips before (record before { state = record before.state { changed = changed; turned = turned; since = since }; told = told })
  gossips_of since = record { tries = tells.tries; mates = tells.mates; each = tells.each; rest = refl }

  module _ (keeps : IsKept before) where
    -- the worker keeps what it keeps, by how far gossip lags then
    told_keeps : (since : ℕ) → since ≤ before.state.round
        → LagsBy since (record before { state = record before.state { changed = changed; turned = turned; since = since }; told = told })
        → IsKept (record before { state = record before.state { changed = changed; turned = turned; since = since }; told = told })
    told_keeps since within lags =
        let now : Lists = record before { state = record before.state { changed = changed; turned = turned; since = since }; told = told } in
        let all = keeps.share.cells.worked in
        let kept = gossips_keep before now (gossips_of since) tells.same_told all keeps.share.told keeps.share.clean keeps.changed
        keeps.share.cells.own (grows before keeps)
        in
        record {
          share = record {
            holds = keeps.share.holds;
            cells = record {
              worked = all;
              received_is = keeps.share.cells.received_is;
              own = keeps.share.cells.own;
              joined = keeps.share.cells.joined;
              got_are = keeps.share.cells.got_are;
              whole = keeps.share.cells.whole;
            };
            replies = answered_still before now keeps.share.replies (λ to is. refl) refl refl (gossips_fixed (gossips_of since));
            told = kept.0;
            clean = kept.1;
          };
          lags = lags;
          since = within;
          round = keeps.round;
          free = keeps.free;
          kinds = keeps.kinds;
          changed_mates = tells.same_changed ∙ keeps.changed_mates ∙ sym tells.same_told;
          turned_mates = tells.same_turned ∙ keeps.turned_mates ∙ sym tells.same_told;
          few_mates = omega (arith, keeps.few_mates, tells.same_told);
          changed = kept.2;
          requests = keeps.requests;
          joined = keeps.joined;
          kept = keeps.kept;
          below = keeps.below;
        }

    -- and so where no round ends
    pub keeps_gossip : (since : ℕ) → since ≡ before.state.since
        → IsKept (record before { state = record before.state { changed = changed; turned = turned; since = since }; told = told })
    keeps_gossip since same =
        let now : Lists = record before { state = record before.state { changed = changed; turned = turned; since = since }; told = told } in
        told_keeps since (omega (arith, same, keeps.since))
        (subst (λ since. LagsBy since now) (sym same) (lag_gossips before.state.since before now keeps.lags (gossips_of since) tells.same_told))

-- A round is made, in which each changed key is tried.
pub keeps_round : {E : Type 0} (sent : ℕ) (before : Lists) (changed : List (List ℕ)) (told : List (List Entries)) (turned fulls fulls_now : List ℕ)
    {room : ℕ → List Bool → Type 0}
    (tells : TellsAll {E = E} (Ok sent) before.state.cells (counted (length before.received)) before.state.changed changed before.told told
    before.state.turned turned fulls fulls_now room)
    → IsKept before → IsKept (record before { state = record before.state { changed = changed; turned = turned; since = 0 }; told = told })
keeps_round {E} sent before changed told turned fulls fulls_now tells keeps =
    let now : Lists = record before { state = record before.state { changed = changed; turned = turned; since = 0 }; told = told } in
    let share = keeps.share in
    let result : Result ℕ E = Ok sent in
    told_keeps result before changed told turned fulls fulls_now tells keeps 0 (omega arith)
    (lag_round before share.cells.worked (kept_request before.state.kept) share.cells.received_is share.cells.own share.holds (counts before keeps)
    now (gossips_of result before changed told turned fulls fulls_now tells 0) tells.all tells.same_told (one_request before.state.kept)
    share.clean)
  where
    one_request : (kept : Option Popped) → length (kept_request kept) ≤ 1
    one_request None = omega arith
    one_request (Some (popped.Request session request)) = omega arith
    one_request (Some (popped.Batch sender batch)) = omega arith

-- empty lists have nothing at any place
nothing_at : {X : Type 0} (lists : List (List X)) → All (λ list. list ≡ []) lists → (place : ℕ) → slice_index_or lists place [] ≡ []
nothing_at lists none place = elim (cases_lt place (length lists)) [
  | inl low ↦ none place [] low
  | inr past ↦ get_or_past lists place [] past
]

-- no two of none are apart
no_pairs : {X : Type 0} (R : X → X → Type 0) → AllPairs R []
no_pairs R i j d below low = absurd (omega (arith, low))

-- before anything is received a worker keeps what it is to keep
pub opens : (lists : Lists) (me round mates : ℕ) (placement : List (List ℕ)) (kinds : List Kind)
    → lists.state ≡ opening_state me round placement kinds mates → lists.received ≡ [] → ((sender place : ℕ) → lists.got sender place ≡ None)
    → All (λ replies. replies ≡ []) lists.replied → All (λ batches. batches ≡ []) lists.told → length lists.told ≡ mates → mates + 1 < 2 ^ 16
    → 1 ≤ round → length kinds ≡ length placement → IsKept lists
opens lists me round mates placement kinds state_is received_is none_got none_replied none_told as_many few rounds long =
    subst (λ (now : Lists). IsKept now) (λ j. record lists { state = sym state_is j; received = sym received_is j }) opened
  where
    opening : State
    opening = opening_state me round placement kinds mates

    now : Lists
    now = record lists { state = opening; received = [] }

    no_reply : (session : ℕ) → replies_to now session ≡ []
    no_reply session = append-nil (slice_index_or ([] ∷ lists.replied) session []) ∙ of_session session
      where
        of_session : (session : ℕ) → slice_index_or ([] ∷ lists.replied) session [] ≡ []
        of_session zero = refl
        of_session (suc place) = nothing_at lists.replied none_replied place

    no_key : (place : ℕ) → changed_of opening place ≡ []
    no_key place = elim (cases_lt place mates) [
      | inl low ↦ get_or-replicate mates place [] [] low
      | inr past ↦ get_or_past (replicate mates []) place [] (omega (arith, past, length-replicate {A = List ℕ} mates []))
    ]

    opened : IsKept now
    opened = record {
      share = record {
        holds = opening_holds placement kinds me long;
        cells = record {
          worked = [];
          received_is = refl;
          own = opening_own placement kinds me;
          joined = [];
          got_are = record {
            all = λ sender place batch is. absurd (none-some batch (sym (none_got sender place) ∙ is));
            no_others = λ sender batch has_it. absurd (contains_none (sender, batch) has_it);
          };
          whole = opening_whole placement kinds me;
        };
        replies = record {
          held = tt;
          each = λ session is. subst (AllZip (IsReplyTo opening []) []) (sym (no_reply session)) tt;
          rising = λ session is. subst (AllPairs CoversEarlier) (sym (no_reply session)) (no_pairs CoversEarlier);
        };
        told = λ place low. subst (IsTold opening [] place) (sym (nothing_at lists.told none_told place)) (record {
          some = All-nil (λ (batch : Entries). 1 ≤ length batch);
          lives = λ key some. absurd (some refl);
          were_own = λ key. All-nil (WasOwn (kind_at kinds key) key []);
          rising = λ key. no_pairs IsAtMost;
        });
        clean = λ place key at low lives is left. inl (ap (λ (cell : PlainCell). cell.clock) (opening_own placement kinds me key at is));
      };
      lags = λ place key put mate far. absurd (omega (arith, far));
      since = omega arith;
      round = rounds;
      free = tt;
      kinds = long;
      changed_mates = length-replicate {A = List ℕ} mates [] ∙ sym as_many;
      turned_mates = length-replicate {A = ℕ} mates 0 ∙ sym as_many;
      few_mates = omega (arith, as_many, few);
      changed = λ place low. record {
        ascending = subst (λ keys. IsTrue (is_ascending keys)) (sym (no_key place)) refl;
        lives = λ key has_it. absurd (contains_none key (subst (λ keys. Contains keys key) (no_key place) has_it));
        some = λ key has_it. absurd (contains_none key (subst (λ keys. Contains keys key) (no_key place) has_it));
      };
      requests = All-nil IsMessage;
      joined = All-nil IsEntry;
      kept = All-nil IsEntry;
      below = λ session is. subst (All (IsBelow opening)) (sym (no_reply session)) (All-nil (IsBelow opening));
    }
