-- What a worker shows and tells goes on, turn by turn.
use Rattle.std.specs.Prelude.{◌≡◌, ◌==◌, ◌⊎◌, ℕ, zero, suc, ◌≤◌, Bool, true, false, IsTrue, if◌then◌else◌, List, [], ◌∷◌, ◌++◌, All, Contains, length, slice_index_or, Option, Some, None, Result, Ok, Err}
use Rattle.std.proofs.Common.{refl, sym, ap, subst, ◌∙◌, inl, inr, append-nil, append_assoc, arith}
use Rattle.std.proofs.lemmas.Bool.{cases_lt}
use Rattle.std.proofs.lemmas.Bool.Decides.{eqb_tells}
use Rattle.std.proofs.lemmas.List.{get_or_past}
use Rattle.std.proofs.lemmas.List.Elements.{All-append, All-contains, All-cons, All-nil, All-weaker, Contains-push}
use Rattle.clock_lattice.specs.Clock.{count_of, covers}
use Rattle.clock_lattice.specs.ClockLaws.{counts_from_covers}
use Rattle.composed_value.specs.Cell.{PlainCell}
use Rattle.mail_contract.proofs.FrontLemmas.{front_more, front_same, front_through, front_whole}
use Rattle.mail_contract.specs.Takes.{IsFront}
use Rattle.merge_world.specs.Effects.{cells_at}
use Rattle.store_msg.specs.Reply.{PlainReply, reply_of}
use Rattle.store_msg.specs.declared.request.Request.{Request}
use Rattle.store_msg.specs.declared.request.Request.TheVariants as requests
use Rattle.gossip_rounds.specs.Batches.{Entries}
use Rattle.worker_core.proofs.KeptLemmas.{entries_are, entries_joined, request_is, shows_heard, shows_taken}
use Rattle.worker_core.proofs.RepliesLemmas.{handed_over, shown_by_answer}
use Rattle.worker_core.specs.Kept.{AreEntries, IsKept, IsRequest}
use Rattle.worker_core.specs.Share.{IsHeldFor, IsSession, held_for, replies_to, shown_of, told_to}
use Rattle.worker_core.specs.Showing.{CountsShown, ShowsMore, shown_count}
use Rattle.worker_core.specs.State.{Lists}
use Rattle.worker_core.specs.Turns.{Counts, Gossips, HandsOver, Hears, IsUnmoved, Lacks, Serves, Turns, reply_to}
use Rattle.worker_core.specs.declared.did.Did.{Did}
use Rattle.worker_core.specs.declared.did.Did.TheVariants as did
use Rattle.worker_core.specs.declared.popped.Popped.{Popped}

-- the replies to a session since
abbrev Since : Lists → Lists → ℕ → Type 0
Since before now to = (more : List PlainReply) × (replies_to now to ≡ replies_to before to ++ more) × All (CountsShown before.state) more

-- none where it has the same
none_since : (before now : Lists) (to : ℕ) → replies_to now to ≡ replies_to before to → Since before now to
none_since before now to same = ([], same ∙ sym (append-nil (replies_to before to)), All-nil (CountsShown before.state))

-- a worker that has the same cells shows the same
shown_still : (before now : Lists) → now.state.cells ≡ before.state.cells → (key session : ℕ) → shown_count before.state key session ≤ shown_count now.state key session
shown_still before now same key session =
    let equal = ap (λ cells. count_of session (shown_of (cells_at cells key)).clock) same in omega (arith, equal)

-- one that covers what was shown shows no less
shown_more : (before now : Lists) → ((key : ℕ) → IsTrue (covers (shown_of (cells_at now.state.cells key)).clock (shown_of (cells_at before.state.cells key)).clock))
    → (key session : ℕ) → shown_count before.state key session ≤ shown_count now.state key session
shown_more before now grows key =
    counts_from_covers (shown_of (cells_at now.state.cells key)).clock (shown_of (cells_at before.state.cells key)).clock (grows key)

-- a worker that tells alone
shows_told : (before now : Lists) → ((place : ℕ) → IsFront (told_to before place) (told_to now place)) → now.state.cells ≡ before.state.cells
    → ((to : ℕ) → replies_to now to ≡ replies_to before to) → ShowsMore before now
shows_told before now told same replies = record {
  told = told;
  shown = shown_still before now same;
  replies = λ to. none_since before now to (replies to);
}

-- a worker that stays as it is,
pub shows_still : (lists : Lists) → ShowsMore lists lists
shows_still lists = shows_told lists lists (λ place. front_whole (told_to lists place)) refl (λ to. refl)

-- and one that goes on twice
pub shows_through : (before between now : Lists) → ShowsMore before between → ShowsMore between now → ShowsMore before now
shows_through before between now first next = record {
  told = λ place. front_through (told_to before place) (told_to between place) (told_to now place) (first.told place) (next.told place);
  shown = λ key session. omega (arith, first.shown key session, next.shown key session);
  replies = λ to.
      let early = first.replies to in
      let late = next.replies to in
      let lower : (reply : PlainReply) → CountsShown between.state reply → CountsShown before.state reply =
      λ reply counts session. omega (arith, counts session, first.shown reply.key session)
      in (
        early.0 ++ late.0,
        late.1 ∙ ap (λ those. those ++ late.0) early.1 ∙ append_assoc (replies_to before to) early.0 late.0,
        All-append (CountsShown before.state) early.0 late.0 early.2 (All-weaker (CountsShown between.state) (CountsShown before.state) lower late.0 late.2),
      );
}

-- a number is one of a worker's sessions, or it is not
session_or_none : (lists : Lists) (to : ℕ) → IsSession lists to ⊎ (IsSession lists to → ⊥)
session_or_none lists to = elim (cases_lt to 1) [
  | inl none ↦ inr (λ is. omega (arith, none, is.0))
  | inr some ↦ elim (cases_lt (length lists.replied) to) [
    | inl past ↦ inr (λ is. omega (arith, past, is.1))
    | inr within ↦ inl (omega (arith, some), omega (arith, within))
  ]
]

-- to no other number it replies
no_replies : (lists : Lists) (to : ℕ) → IsHeldFor (length lists.replied) lists.state.held → (IsSession lists to → ⊥) → replies_to lists to ≡ []
no_replies lists to held none = (λ j. none_sent to none j ++ none_held lists.state.held held j)
  where
    none_sent : (to : ℕ) → (IsSession lists to → ⊥) → slice_index_or ([] ∷ lists.replied) to [] ≡ []
    none_sent zero none = refl
    none_sent (suc place) none = elim (cases_lt place (length lists.replied)) [
      | inl low ↦ absurd (none (omega arith, omega (arith, low)))
      | inr past ↦ get_or_past lists.replied place [] past
    ]

    none_held : (held : Option (ℕ × PlainReply)) → IsHeldFor (length lists.replied) held → held_for to held ≡ []
    none_held None for_session = refl
    none_held (Some its) for_session = elim (eqb_tells its.0 to) [
      | inl same ↦ absurd (none (subst (λ n. (1 ≤ n) × (n ≤ length lists.replied)) same.1 for_session))
      | inr apart ↦ ap (λ (own : Bool). if own then its.1 ∷ [] else []) apart.0
    ]

-- the other mates are told as before, and those that are told are told more
told_more : (before now : Lists) → Gossips before now → (place : ℕ) → IsFront (told_to before place) (told_to now place)
told_more before now gossips place = elim (cases_lt place (length before.told)) [
  | inl low ↦ front_more _ (gossips.each place low).told
  | inr past ↦ subst (λ those. IsFront those (told_to now place)) (sym (get_or_past before.told place [] past)) refl
]

-- gossip goes out
shows_gossip : (before now : Lists) → Gossips before now → ShowsMore before now
shows_gossip before now gossips =
    shows_told before now (told_more before now gossips) (ap (λ (lists : Lists). lists.state.cells) gossips.rest) (λ to. ap (λ (lists : Lists). replies_to lists to) gossips.rest)

-- nothing is done
shows_unmoved : (before now : Lists) → IsUnmoved before now → ShowsMore before now
shows_unmoved before now same =
    shows_told before now (λ place. front_same (ap (λ (lists : Lists). told_to lists place) same)) (ap (λ (lists : Lists). lists.state.cells) same)
    (λ to. ap (λ (lists : Lists). replies_to lists to) same)

-- memory was wanting
shows_lacking : (before now : Lists) → Lacks before now → ShowsMore before now
shows_lacking before now lacks = shows_through before lacks.told now (shows_gossip before lacks.told lacks.gossips) (elim lacks.kept [
  | inl same ↦ subst (ShowsMore lacks.told) (sym same) (shows_still lacks.told)
  | inr kept ↦ elim kept [
    | inl request ↦ still request.3
    | inr batch ↦ still batch.4
  ]
])
  where
    still : {kept : Option Popped} {since : ℕ} {received : List (ℕ × Request)} {got : ℕ → ℕ → Option Entries}
        → now ≡ record lacks.told { state = record lacks.told.state { kept = kept; since = since }; received = received; got = got } → ShowsMore lacks.told now
    still same =
        shows_told lacks.told now (λ place. front_same (ap (λ (lists : Lists). told_to lists place) same)) (ap (λ (lists : Lists). lists.state.cells) same)
        (λ to. ap (λ (lists : Lists). replies_to lists to) same)

module _ (before now : Lists) (keeps : IsKept before) (keeps_now : IsKept now) (long : length now.replied ≡ length before.replied) where
  -- what is replied since to each session is all that is
  since_each : ((to : ℕ) → IsSession before to → Since before now to) → (to : ℕ) → Since before now to
  since_each since to = elim (session_or_none before to) [
    | inl is ↦ since to is
    | inr none ↦
        none_since before now to
        (no_replies now to keeps_now.share.replies.held (λ is. none (is.0, omega (arith, is.1, long)))
        ∙ sym (no_replies before to keeps.share.replies.held none))
  ]

  -- a reply to a request counts what is shown of its key
  own_reply : (request : Request) → All (CountsShown before.state) (reply_to before.state request)
  own_reply (requests.Put key put) = All-nil (CountsShown before.state)
  own_reply (requests.Get ask key required) =
      let cell : PlainCell = shown_of (cells_at before.state.cells key) in
      All-cons (CountsShown before.state) (reply_of ask before.state.me key required cell) []
      (λ session. let same = ap (count_of session) (shown_by_answer cell required) in omega (arith, same)) (All-nil (CountsShown before.state))

  -- a request is worked on
  shows_served : (session : ℕ) (request : Request) → Serves session request before now → ShowsMore before now
  shows_served session request serves = record {
    told = λ place. front_same (ap (λ told. slice_index_or told place []) serves.told);
    shown = shown_more before now (λ key.
        subst (λ cells. IsTrue (covers (shown_of (cells_at cells key)).clock (shown_of (cells_at before.state.cells key)).clock)) (sym serves.cells)
        (shows_taken before keeps request is key));
    replies = since_each (λ to of. (
      if session == to then reply_to before.state request else [],
      serves.replies to of,
      elim (session == to) as (λ own. All (CountsShown before.state) (if own then reply_to before.state request else [])) [
        | true ↦ own_reply request
        | false ↦ All-nil (CountsShown before.state)
      ],
    ));
  }
    where
      is : IsRequest request
      is = elim serves.taken [
        | inl was ↦ request_is before keeps session request was.0
        | inr popped ↦
            All-contains (λ message. IsRequest message.1) now.received (session, request) keeps_now.requests
            (subst (λ all. Contains all (session, request)) (sym popped.1) (Contains-push before.received (session, request)))
      ]

  -- a reply that was held goes out
  shows_handed : HandsOver before now → ShowsMore before now
  shows_handed hands = record {
    told = λ place. front_same (ap (λ (lists : Lists). told_to lists place) hands.sent);
    shown = shown_still before now (ap (λ (lists : Lists). lists.state.cells) hands.sent);
    replies = since_each (λ to of. none_since before now to (handed_over hands keeps.share.replies.held to of));
  }

  -- a batch is joined
  shows_joined : (sender : ℕ) (batch : Entries) → Hears sender batch before now → ShowsMore before now
  shows_joined sender batch heard = record {
    told = λ place. front_same (ap (λ (lists : Lists). told_to lists place) heard.rest);
    shown = shown_more before now (λ key.
        subst (λ cells. IsTrue (covers (shown_of (cells_at cells key)).clock (shown_of (cells_at before.state.cells key)).clock))
        (sym (ap (λ (lists : Lists). lists.state.cells) heard.rest)) (shows_heard before keeps batch are key));
    replies = λ to. none_since before now to (ap (λ (lists : Lists). replies_to lists to) heard.rest);
  }
    where
      are : AreEntries batch
      are = elim heard.taken [
        | inl was ↦ entries_are before keeps sender batch was.0
        | inr popped ↦ entries_joined now keeps_now sender popped.1.place batch (ap (λ (lists : Lists). lists.state.kept) heard.rest) popped.1.here
      ]

  -- a turn, whatever it does
  pub shows_more : {E : Type 0} (result : Result Did E) (count count_now : Counts) (room : ℕ → List Bool → Type 0) → Turns result before now count count_now room
      → ShowsMore before now
  shows_more (Ok did.Request) count count_now room turns = elim turns [
    | inl serves ↦ shows_served serves.0 serves.1 serves.2
    | inr hands ↦ shows_handed hands
  ]
  shows_more (Ok did.Gossip) count count_now room turns = shows_joined turns.0 turns.1 turns.2
  shows_more (Ok did.Round) count count_now room turns = shows_gossip before now turns.0
  shows_more (Ok did.Blocked) count count_now room turns = shows_unmoved before now turns.unmoved
  shows_more (Ok did.Idle) count count_now room turns = shows_unmoved before now turns.unmoved
  shows_more (Err error) count count_now room turns = shows_lacking before now turns
