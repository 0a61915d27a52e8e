-- A worker's replies: they answer its gets one by one, and what a later one shows covers what an earlier one on the key shows.
use Rattle.std.specs.Prelude.{◌≡◌, ◌==◌, ◌&&◌, ℕ, zero, suc, ◌-◌, ◌≤◌, Bool, true, false, IsTrue, if◌then◌else◌, List, [], ◌∷◌, ◌++◌, All, AllPairs, Contains, length, map, slice_index_or, slice_set, Some, None}
use Rattle.std.specs.List.{AllZip}
use Rattle.std.proofs.Common.{refl, sym, ap, subst, ◌∙◌, inl, inr, append-nil, append_assoc, arith}
use Rattle.std.proofs.lemmas.Bool.{cases_eq, eq-eqb, ne_eqb}
use Rattle.std.proofs.lemmas.Grind.{flat_map-append}
use Rattle.std.proofs.lemmas.List.{get_or-set_other, get_or-set_same, length-set, map-append}
use Rattle.std.proofs.lemmas.List.Elements.{All-append, All-cons, All-nil, All-weaker, Contains-append_left, filter-append}
use Rattle.std.proofs.lemmas.List.Quantifiers.{all_pairs_push}
use Rattle.clock_lattice.specs.Clock.{covers}
use Rattle.clock_lattice.specs.ClockLaws.{covers_through}
use Rattle.composed_value.specs.Cell.{PlainCell}
use Rattle.composed_value.specs.Keyed.{kind_at}
use Rattle.composed_value.specs.Kind.{kind_of_value}
use Rattle.composed_value.specs.declared.kind.Kind.{Kind}
use Rattle.merge_world.specs.Effects.{cells_at, is_kind}
use Rattle.store_msg.specs.Reply.{PlainReply, answer_of, reply_of, shown_clock}
use Rattle.store_msg.specs.declared.reply.Answered.TheVariants.{Found, Again}
use Rattle.store_msg.specs.declared.request.Request.{Request}
use Rattle.store_msg.specs.declared.request.Request.TheVariants as requests
use Rattle.gossip_rounds.specs.Batches.{Entries}
use Rattle.worker_core.specs.Kept.{IsBelow}
use Rattle.worker_core.specs.Share.{AreAnswered, Asked, CoversEarlier, IsAnswerCell, IsHeldFor, IsMadeFrom, IsReplyTo, IsSession, asked_by, cells_on, entries_in, gets_after, held_for, replies_to, shown_of}
use Rattle.worker_core.specs.State.{IsFixed, Lists, State, lives_at}
use Rattle.worker_core.specs.Turns.{HandsOver, Serves, reply_to}

-- the gets among two lists of requests
pub gets_after-append : (session : ℕ) (before worked more : List (ℕ × Request))
    → gets_after session before (worked ++ more) ≡ gets_after session before worked ++ gets_after session (before ++ worked) more
gets_after-append session before [] more = ap (λ so_far. gets_after session so_far more) (sym (append-nil before))
gets_after-append session before (first ∷ worked) more =
    let of_first : List Asked = if first.0 == session then asked_by before first.1 else [] in
    let after : List Asked = gets_after session (before ++ first ∷ []) worked in
    ap (λ gets. of_first ++ gets)
    (gets_after-append session (before ++ first ∷ []) worked more ∙ ap (λ so_far. after ++ gets_after session so_far more) (append_assoc before (first ∷ []) worked))
    ∙ sym (append_assoc of_first after (gets_after session (before ++ first ∷ worked) more))

-- so one more request adds its get, if it is one of the session
pub gets_more : (session : ℕ) (before worked : List (ℕ × Request)) (message : ℕ × Request)
    → gets_after session before (worked ++ message ∷ [])
    ≡ gets_after session before worked ++ (if message.0 == session then asked_by (before ++ worked) message.1 else [])
gets_more session before worked message =
    gets_after-append session before worked (message ∷ [])
    ∙ ap (λ gets. gets_after session before worked ++ gets) (append-nil (if message.0 == session then asked_by (before ++ worked) message.1 else []))

-- what is made from some entries is made from these and more
pub made_with_more : (kind : Kind) (key : ℕ) (before : List (ℕ × Request)) (entries more : Entries) (cell : PlainCell)
    → IsMadeFrom kind key before entries cell → IsMadeFrom kind key before (entries ++ more) cell
made_with_more kind key before entries more cell made = record {
  heard = made.heard;
  are_heard = All-weaker (Contains (cells_on kind key entries)) (Contains (cells_on kind key (entries ++ more)))
      (λ heard there. subst (λ cells. Contains cells heard) (sym appended)
      (Contains-append_left (cells_on kind key entries) (cells_on kind key more) heard there))
      made.heard made.are_heard;
  is = made.is;
}
  where
    appended : cells_on kind key (entries ++ more) ≡ cells_on kind key entries ++ cells_on kind key more
    appended =
        ap (map (λ (entry : ℕ × PlainCell). entry.1))
        (filter-append (λ entry. entry.0 == key && is_kind (kind_of_value entry.1.value) kind) entries more)
        ∙ map-append (λ (entry : ℕ × PlainCell). entry.1) _ _

-- so is a cell that a get is answered from
answer_with_more : (held : Bool) (kind : Kind) (key : ℕ) (before : List (ℕ × Request)) (entries more : Entries) (cell : PlainCell)
    → IsAnswerCell held kind key before entries cell → IsAnswerCell held kind key before (entries ++ more) cell
answer_with_more true kind key before entries more cell made = made_with_more kind key before entries more cell made
answer_with_more false kind key before entries more cell made = made

-- a reply answers a get as long as the worker's number, the placement and the kinds stay
pub reply_stays : {before now : State} {joined : List (ℕ × Entries)} {get : Asked} {reply : PlainReply} → IsReplyTo before joined get reply
    → IsFixed before now → IsReplyTo now joined get reply
reply_stays {before} {now} {joined} {get} {reply} answers fixed = record {
  cell = answers.cell;
  is = answers.is ∙ ap (λ me. reply_of get.ask me get.key get.required answers.cell) (sym fixed.me);
  made = rw (fixed.placement, fixed.me, fixed.kinds) answers.made;
}

-- and where more was joined
pub reply_with_more : {before now : State} {joined : List (ℕ × Entries)} (more : List (ℕ × Entries)) {get : Asked} {reply : PlainReply}
    → IsReplyTo before joined get reply → IsFixed before now → IsReplyTo now (joined ++ more) get reply
reply_with_more {before} {now} {joined} more {get} {reply} answers fixed =
    let stays = reply_stays answers fixed in
    record {
      cell = stays.cell;
      is = stays.is;
      made = subst (λ entries. IsAnswerCell (lives_at now.placement now.me get.key) (kind_at now.kinds get.key) get.key get.before entries stays.cell)
          (sym (flat_map-append (λ (batch : ℕ × Entries). batch.1) joined more))
          (answer_with_more (lives_at now.placement now.me get.key) (kind_at now.kinds get.key) get.key get.before
          (entries_in joined) (entries_in more) stays.cell stays.made);
    }

module _ {A B : Type 0} where
  -- what is weaker holds place by place too
  all_zip_weaker : (P Q : A → B → Type 0) → ((x : A) (y : B) → P x y → Q x y) → (xs : List A) (ys : List B) → AllZip P xs ys → AllZip Q xs ys
  all_zip_weaker P Q weaker [] [] all = all
  all_zip_weaker P Q weaker [] (y ∷ ys) all = all
  all_zip_weaker P Q weaker (x ∷ xs) [] all = all
  all_zip_weaker P Q weaker (x ∷ xs) (y ∷ ys) all = (weaker x y all.0, all_zip_weaker P Q weaker xs ys all.1)

  -- what holds place by place of two pairs of lists holds of each pair end to end
  all_zip_append : (P : A → B → Type 0) (xs : List A) (ys : List B) (us : List A) (vs : List B) → AllZip P xs ys → AllZip P us vs
      → AllZip P (xs ++ us) (ys ++ vs)
  all_zip_append P [] [] us vs all more = more
  all_zip_append P [] (y ∷ ys) us vs all more = absurd all
  all_zip_append P (x ∷ xs) [] us vs all more = absurd all
  all_zip_append P (x ∷ xs) (y ∷ ys) us vs all more = (all.0, all_zip_append P xs ys us vs all.1 more)

-- there are as many sessions as there are lists of replies
session_on : (before now : Lists) (session : ℕ) → length now.replied ≡ length before.replied → IsSession before session → IsSession now session
session_on before now session long is = (is.0, omega (arith, is.1, long))

-- where the replies are the same, and what is held is held for a session, the gets stay answered
answered_by_same : (before now : Lists) {worked : List (ℕ × Request)} {joined : List (ℕ × Entries)} → AreAnswered before worked joined
    → ((session : ℕ) → IsSession before session → replies_to now session ≡ replies_to before session)
    → length now.replied ≡ length before.replied → IsHeldFor (length now.replied) now.state.held → IsFixed before.state now.state → AreAnswered now worked joined
answered_by_same before now {worked} {joined} answered same long held fixed = record {
  held = held;
  each = λ session is.
      let was = session_on now before session (sym long) is in
      subst (AllZip (IsReplyTo now.state joined) (gets_after session [] worked)) (sym (same session was))
      (all_zip_weaker (IsReplyTo before.state joined) (IsReplyTo now.state joined) (λ get reply answers. reply_stays answers fixed)
      (gets_after session [] worked) (replies_to before session) (answered.each session was));
  rising = λ session is.
      let was = session_on now before session (sym long) is in
      subst (AllPairs CoversEarlier) (sym (same session was)) (answered.rising session was);
}

-- a step that changes no reply leaves the gets answered
pub answered_still : (before now : Lists) {worked : List (ℕ × Request)} {joined : List (ℕ × Entries)} → AreAnswered before worked joined
    → ((session : ℕ) → IsSession before session → replies_to now session ≡ replies_to before session)
    → length now.replied ≡ length before.replied → now.state.held ≡ before.state.held → IsFixed before.state now.state → AreAnswered now worked joined
answered_still before now answered same long held fixed =
    answered_by_same before now answered same long
    (rw (long, held) answered.held) fixed

-- and so it does where more was joined
pub answered_on : (before now : Lists) {worked : List (ℕ × Request)} {joined : List (ℕ × Entries)} (more : List (ℕ × Entries))
    → AreAnswered before worked joined
    → ((session : ℕ) → IsSession before session → replies_to now session ≡ replies_to before session)
    → length now.replied ≡ length before.replied → now.state.held ≡ before.state.held → IsFixed before.state now.state
    → AreAnswered now worked (joined ++ more)
answered_on before now {worked} {joined} more answered same long held fixed =
    let still = answered_still before now answered same long held fixed in
    record {
      held = still.held;
      each = λ session is.
          all_zip_weaker (IsReplyTo now.state joined) (IsReplyTo now.state (joined ++ more))
          (λ get reply answers. reply_with_more {before = now.state} {now = now.state} more answers (record { me = refl; round = refl; placement = refl; kinds = refl }))
          (gets_after session [] worked) (replies_to now session) (still.each session is);
      rising = still.rising;
    }

-- the cell that a get of the key would be answered from, if it came after these requests
abbrev pub IsShownMade : State → List (ℕ × Request) → List (ℕ × Entries) → ℕ → Type 0
IsShownMade state worked joined key =
    IsAnswerCell (lives_at state.placement state.me key) (kind_at state.kinds key) key worked (entries_in joined) (shown_of (cells_at state.cells key))

-- what is replied to a request answers the get that it is, if it is one
pub get_replied : (state : State) (worked : List (ℕ × Request)) (joined : List (ℕ × Entries)) (request : Request)
    → ((ask key : ℕ) (required : List (ℕ × ℕ)) → request ≡ requests.Get ask key required → IsShownMade state worked joined key)
    → AllZip (IsReplyTo state joined) (asked_by worked request) (reply_to state request)
get_replied state worked joined (requests.Put key put) made = tt
get_replied state worked joined (requests.Get ask key required) made =
    (record { cell = shown_of (cells_at state.cells key); is = refl; made = made ask key required refl }, tt)

-- the clock that is shown is that of the cell, whether it is found or not
pub shown_by_answer : (cell : PlainCell) (required : List (ℕ × ℕ)) → shown_clock (answer_of cell required) ≡ cell.clock
shown_by_answer cell required =
    elim (covers cell.clock required) as (λ found. shown_clock (if found then Found cell else Again cell.clock) ≡ cell.clock) [
      | true ↦ refl
      | false ↦ refl
    ]

-- the reply to a request shows at least what earlier replies showed, where these are below what is shown now
reply_rises : (state : State) (request : Request) (replies : List PlainReply) → All (IsBelow state) replies → AllPairs CoversEarlier replies
    → AllPairs CoversEarlier (replies ++ reply_to state request)
reply_rises state (requests.Put key put) replies below rising = subst (AllPairs CoversEarlier) (sym (append-nil replies)) rising
reply_rises state (requests.Get ask key required) replies below rising =
    let cell : PlainCell = shown_of (cells_at state.cells key) in
    let reply : PlainReply = reply_of ask state.me key required cell in
    all_pairs_push CoversEarlier replies reply rising (λ k d low same.
    let earlier : PlainReply = slice_index_or replies k d in
    subst (λ clock. IsTrue (covers clock (shown_clock earlier.answered))) (sym (shown_by_answer cell required))
    (subst (λ of_key. IsTrue (covers (shown_of (cells_at state.cells of_key)).clock (shown_clock earlier.answered))) (sym same) (below k d low)))

-- a request that is worked on leaves the gets answered, with its own reply
pub answers_worked : {session : ℕ} {request : Request} {before now : Lists} {worked : List (ℕ × Request)} {joined : List (ℕ × Entries)}
    → AreAnswered before worked joined → Serves session request before now → IsFixed before.state now.state
    → length now.replied ≡ length before.replied → IsHeldFor (length now.replied) now.state.held
    → ((to : ℕ) → IsSession before to → All (IsBelow before.state) (replies_to before to))
    → ((ask key : ℕ) (required : List (ℕ × ℕ)) → request ≡ requests.Get ask key required → IsShownMade before.state worked joined key)
    → AreAnswered now (worked ++ (session, request) ∷ []) joined
answers_worked {session} {request} {before} {now} {worked} {joined} answered serves fixed long held below made = record {
  held = held;
  each = λ to is.
      let was = session_on now before to (sym long) is in
      subst (λ gets. AllZip (IsReplyTo now.state joined) gets (replies_to now to)) (sym (gets_more to [] worked (session, request)))
      (subst (AllZip (IsReplyTo now.state joined) (gets_after to [] worked ++ (if session == to then asked_by worked request else [])))
      (sym (serves.replies to was))
      (all_zip_weaker (IsReplyTo before.state joined) (IsReplyTo now.state joined) (λ get reply answers. reply_stays answers fixed) _ _
      (all_zip_append (IsReplyTo before.state joined) (gets_after to [] worked) (replies_to before to) _ _ (answered.each to was)
      (elim (session == to) as (λ own.
      AllZip (IsReplyTo before.state joined) (if own then asked_by worked request else []) (if own then reply_to before.state request else [])) [
        | true ↦ get_replied before.state worked joined request made
        | false ↦ tt
      ]))));
  rising = λ to is.
      let was = session_on now before to (sym long) is in
      subst (AllPairs CoversEarlier) (sym (serves.replies to was))
      (elim (session == to) as (λ own. AllPairs CoversEarlier (replies_to before to ++ (if own then reply_to before.state request else []))) [
        | true ↦ reply_rises before.state request (replies_to before to) (below to was) (answered.rising to was)
        | false ↦ subst (AllPairs CoversEarlier) (sym (append-nil (replies_to before to))) (answered.rising to was)
      ]);
}

-- what replies are below stays so while what is shown of each key grows
pub below_on : (before now : State) (reply : PlainReply)
    → ((key : ℕ) → IsTrue (covers (shown_of (cells_at now.cells key)).clock (shown_of (cells_at before.cells key)).clock))
    → IsBelow before reply → IsBelow now reply
below_on before now reply grows below =
    covers_through (shown_of (cells_at now.cells reply.key)).clock (shown_of (cells_at before.cells reply.key)).clock (shown_clock reply.answered)
    (grows reply.key) below

-- and so it does where a request is worked on
pub below_worked : {session : ℕ} {request : Request} {before now : Lists}
    → ((to : ℕ) → IsSession before to → All (IsBelow before.state) (replies_to before to)) → Serves session request before now
    → ((key : ℕ) → IsTrue (covers (shown_of (cells_at now.state.cells key)).clock (shown_of (cells_at before.state.cells key)).clock))
    → (to : ℕ) → IsSession before to → All (IsBelow now.state) (replies_to now to)
below_worked {session} {request} {before} {now} below serves grows to was =
    subst (All (IsBelow now.state)) (sym (serves.replies to was))
    (All-append (IsBelow now.state) (replies_to before to) _
    (All-weaker (IsBelow before.state) (IsBelow now.state) (λ reply is. below_on before.state now.state reply grows is)
    (replies_to before to) (below to was))
    (elim (session == to) as (λ own. All (IsBelow now.state) (if own then reply_to before.state request else [])) [
      | true ↦ own_reply request
      | false ↦ All-nil (IsBelow now.state)
    ]))
  where
    own_reply : (request : Request) → All (IsBelow now.state) (reply_to before.state request)
    own_reply (requests.Put key put) = All-nil (IsBelow now.state)
    own_reply (requests.Get ask key required) =
        let cell : PlainCell = shown_of (cells_at before.state.cells key) in
        All-cons (IsBelow now.state) (reply_of ask before.state.me key required cell) []
        (subst (λ clock. IsTrue (covers (shown_of (cells_at now.state.cells key)).clock clock)) (sym (shown_by_answer cell required)) (grows key))
        (All-nil (IsBelow now.state))

-- the lists of replies are as many where one that was held goes out
pub handed_long : {before now : Lists} → HandsOver before now → length now.replied ≡ length before.replied
handed_long {before} {now} hands = ap (λ (lists : Lists). length lists.replied) hands.sent ∙ length-set before.replied (hands.session - 1) _

-- to no session it changes what is sent or held
pub handed_over : {before now : Lists} → HandsOver before now → IsHeldFor (length before.replied) before.state.held → (to : ℕ) → IsSession before to
    → replies_to now to ≡ replies_to before to
handed_over {before} {now} hands for_session to is =
    let session_is : IsSession before hands.session = subst (IsHeldFor (length before.replied)) hands.was_held for_session in
    ap (λ (lists : Lists). replies_to lists to) hands.sent
    ∙ moved before.replied hands.session hands.reply to session_is.0 session_is.1 is.0
    ∙ ap (λ held. slice_index_or ([] ∷ before.replied) to [] ++ held_for to held) (sym hands.was_held)
  where
    moved : (replied : List (List PlainReply)) (session : ℕ) (reply : PlainReply) (to : ℕ) → 1 ≤ session → session ≤ length replied → 1 ≤ to
        → slice_index_or ([] ∷ slice_set replied (session - 1) (slice_index_or replied (session - 1) [] ++ reply ∷ [])) to [] ++ []
        ≡ slice_index_or ([] ∷ replied) to [] ++ held_for to (Some (session, reply))
    moved replied zero reply to from upto is = absurd (omega (arith, from))
    moved replied (suc place) reply zero from upto is = absurd (omega (arith, is))
    moved replied (suc place) reply (suc at) from upto is =
        let there : suc place - 1 ≡ place = omega arith in
        let own_of : Bool → List PlainReply = λ own. slice_index_or replied at [] ++ (if own then reply ∷ [] else []) in
        rw there (elim (cases_eq at place) [
          | inl same ↦
              append-nil _
              ∙ ap (λ at. slice_index_or (slice_set replied place (slice_index_or replied place [] ++ reply ∷ [])) at []) same
              ∙ get_or-set_same replied place (slice_index_or replied place [] ++ reply ∷ []) [] (omega (arith, upto))
              ∙ ap (λ at. slice_index_or replied at [] ++ reply ∷ []) (sym same)
              ∙ ap own_of (sym (eq-eqb (suc place) (suc at) (ap suc (sym same))))
          | inr apart ↦
              append-nil _
              ∙ get_or-set_other replied place at (slice_index_or replied place [] ++ reply ∷ []) [] apart
              ∙ sym (append-nil _)
              ∙ ap own_of (sym (ne_eqb (suc place) (suc at) (λ same. apart (omega (arith, same)))))
        ])

-- and it leaves the gets answered
pub handed_answered : {before now : Lists} {worked : List (ℕ × Request)} {joined : List (ℕ × Entries)} → HandsOver before now
    → AreAnswered before worked joined → AreAnswered now worked joined
handed_answered {before} {now} {worked} {joined} hands answered =
    let none : None ≡ now.state.held = sym (ap (λ (lists : Lists). lists.state.held) hands.sent) in
    answered_by_same before now answered (handed_over hands answered.held) (handed_long hands) (subst (IsHeldFor (length now.replied)) none tt)
    (record {
      me = ap (λ (lists : Lists). lists.state.me) hands.sent;
      round = ap (λ (lists : Lists). lists.state.round) hands.sent;
      placement = ap (λ (lists : Lists). lists.state.placement) hands.sent;
      kinds = ap (λ (lists : Lists). lists.state.kinds) hands.sent;
    })
