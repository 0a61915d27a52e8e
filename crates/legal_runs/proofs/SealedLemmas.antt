-- A worker that was sealed: it worked on all that it received, its replies answer all gets, and what it told were own cells, the present ones
-- last.
use Rattle.std.specs.Prelude.{◌≡◌, ◌⊎◌, ◌==◌, ◌&&◌, Bool, true, false, ℕ, ◌-◌, ◌<◌, ◌≤◌, IsTrue, is_some, List, [], ◌∷◌, All, AllPairs, Contains, filter, flat_map, length, slice_index_or, Some}
use Rattle.std.specs.List.{AllZip}
use Rattle.std.proofs.Common.{◌∙◌, refl, sym, ap, subst, inl, inr, append-nil, arith}
use Rattle.std.proofs.lemmas.Bool.{cases_lt, eq-eqb, eqb-true}
use Rattle.std.proofs.lemmas.List.{get_or_past, nil_from_length}
use Rattle.std.proofs.lemmas.List.Elements.{All-contains, All-contains_itself, All-weaker, Contains-append_cases, Contains-append_left, Contains-push}
use Rattle.std.proofs.lemmas.List.Sums.{get_or-le-sum_by}
use Rattle.lattice_laws.proofs.MembersLemmas.{contains_filter, contains_filtered, contains_first, contains_later, contains_map, contains_mapped, contains_none}
use Rattle.composed_value.specs.Cell.{PlainCell}
use Rattle.composed_value.specs.Keyed.{kind_at}
use Rattle.composed_value.specs.Kind.{kind_of_value}
use Rattle.composed_value.specs.declared.kind.Kind.{Kind}
use Rattle.merge_world.specs.Effects.{cells_at, is_kind}
use Rattle.merge_world.specs.declared.private_map.KeyCells.{KeyCells}
use Rattle.session_known.specs.declared.script.Script.{Script}
use Rattle.store_msg.specs.Reply.{PlainReply}
use Rattle.store_msg.specs.declared.request.Request.{Request}
use Rattle.worker_core.specs.Batches.{told_on}
use Rattle.worker_core.specs.Share.{Asked, CoversEarlier, IsAnswerCell, IsLast, IsReplyBy, WasOwn, cells_on, entries_in, gets_after, own_cell, told_to}
use Rattle.worker_core.specs.State.{Entries, changed_of, kept_batch, lives_at, mate_at}
use Rattle.run_ledger.specs.Parties.{IsSealed, SealedWorker}
use Rattle.legal_runs.proofs.FinalsLemmas.{in_piece, is_there}
use Rattle.run_ledger.proofs.HeldLemmas.{all_worked, answering, replies_sent}
use Rattle.legal_runs.proofs.SessionsLemmas.{IsSession}

-- a weaker relation holds place by place too
zip_weaker : {A B : Type 0} (R S : A → B → Type 0) → ((x : A) (y : B) → R x y → S x y) → (xs : List A) (ys : List B) → AllZip R xs ys → AllZip S xs ys
zip_weaker R S weaker [] [] all = all
zip_weaker R S weaker (x ∷ xs) (y ∷ ys) all = (weaker x y all.0, zip_weaker R S weaker xs ys all.1)
zip_weaker R S weaker [] (y ∷ ys) all = absurd all
zip_weaker R S weaker (x ∷ xs) [] all = absurd all

-- a member of all pieces is of some piece
of_piece : {X Y : Type 0} (pieces : X → List Y) (xs : List X) (y : Y) → Contains (flat_map pieces xs) y → (x : X) × Contains xs x × Contains (pieces x) y
of_piece pieces [] y has_it = absurd (contains_none y has_it)
of_piece pieces (x ∷ xs) y has_it = elim (Contains-append_cases (pieces x) (flat_map pieces xs) y has_it) [
  | inl here ↦ (x, contains_first x xs, here)
  | inr there ↦ let it = of_piece pieces xs y there in (it.0, contains_later x it.0 xs it.1, it.2)
]

-- entries that are all among others
abbrev AreAmong : Entries → Entries → Type 0
AreAmong entries others = (entry : ℕ × PlainCell) → Contains entries entry → Contains others entry

-- the entries of batches are among those of other batches where the batches are
among_batches : (batches others : List (ℕ × Entries)) → ((sender : ℕ) (batch : Entries) → Contains batches (sender, batch) → Contains others (sender, batch)) → AreAmong (entries_in batches) (entries_in others)
among_batches batches others are entry has_it =
    let it = of_piece (λ (batch : ℕ × Entries). batch.1) batches entry has_it in
    in_piece (λ (batch : ℕ × Entries). batch.1) others it.0 entry (are it.0.0 it.0.1 it.1) it.2

-- so are the cells of a key
among_cells : (kind : Kind) (key : ℕ) (entries others : Entries) → AreAmong entries others → (cell : PlainCell) → Contains (cells_on kind key entries) cell → Contains (cells_on kind key others) cell
among_cells kind key entries others are cell has_it =
    let test = λ (entry : ℕ × PlainCell). entry.0 == key && is_kind (kind_of_value entry.1.value) kind in
    let from = contains_mapped (λ (entry : ℕ × PlainCell). entry.1) (filter test entries) cell has_it in
    let entry = contains_filtered test entries from.0 from.1 in
    subst (Contains (cells_on kind key others)) from.2
    (contains_map (λ (entry : ℕ × PlainCell). entry.1) (filter test others) from.0 (contains_filter test others from.0 (are from.0 entry.0) entry.1))

-- what was made from some entries was made from others among which they are
answer_among : (held : Bool) (kind : Kind) (key : ℕ) (before : List (ℕ × Request)) (entries others : Entries) (cell : PlainCell) → AreAmong entries others
    → IsAnswerCell held kind key before entries cell → IsAnswerCell held kind key before others cell
answer_among true kind key before entries others cell are made = record {
  heard = made.heard;
  are_heard = All-weaker (Contains (cells_on kind key entries)) (Contains (cells_on kind key others)) (among_cells kind key entries others are) made.heard made.are_heard;
  is = made.is;
}
answer_among false kind key before entries others cell are made = made

-- the replies that a worker sent to a session
abbrev pub replied_to : SealedWorker → ℕ → List PlainReply
replied_to worker session = slice_index_or worker.lists.replied (session - 1) []

-- a cell is empty, or stands in a batch that the worker told its mate at a place
abbrev pub IsEmptyOrTold : SealedWorker → ℕ → ℕ → PlainCell → Type 0
IsEmptyOrTold worker place key cell = (cell.clock ≡ []) ⊎ ((batch : Entries) × Contains (told_to worker.lists place) batch × Contains batch (key, cell))

-- so does a cell that was the last one told
told_last : (worker : SealedWorker) (place key : ℕ) (cell : PlainCell) → IsLast cell (told_on key (told_to worker.lists place)) → IsEmptyOrTold worker place key cell
told_last worker place key cell last =
    let batches : List Entries = told_to worker.lists place in
    let test = λ (its : ℕ × PlainCell). its.0 == key in
    let told : Contains (told_on key batches) cell = subst (λ cells. Contains cells cell) (sym last.is) (Contains-push last.front cell) in
    let from = contains_mapped (λ (its : ℕ × PlainCell). its.1) (filter test (flat_map (λ batch. batch) batches)) cell told in
    let entry = contains_filtered test (flat_map (λ batch. batch) batches) from.0 from.1 in
    let batch = of_piece (λ (batch : Entries). batch) batches from.0 entry.0 in
    inr (batch.0, batch.1, subst (Contains batch.0) (λ j. (eqb-true from.0.0 key entry.1 j, from.2 j)) batch.2)

module _ (script : Script) (table : List (List ℕ)) (worker : SealedWorker) (sealed : IsSealed script table worker) where
  -- it worked on all that it received
  worked_is : sealed.share.cells.worked ≡ worker.lists.received
  worked_is = all_worked sealed.share.cells sealed.none_kept

  -- and so once it has heard all gossip
  worked_then : sealed.holds.worked ≡ worker.lists.received
  worked_then = all_worked sealed.holds refl

  -- each batch that it had joined it has joined in the end
  joined_then : (sender : ℕ) (batch : Entries) → Contains sealed.share.cells.joined (sender, batch) → Contains sealed.holds.joined (sender, batch)
  joined_then sender batch has_it =
      let came = sealed.share.cells.got_are.no_others sender batch (Contains-append_left sealed.share.cells.joined (kept_batch worker.lists.state.kept) (sender, batch) has_it) in
      subst (λ batches. Contains batches (sender, batch)) (append-nil sealed.holds.joined) (sealed.holds.got_are.all sender came.0 batch (sealed.grown sender came.0 batch came.1))

  -- there is a sender of replies to each session
  pub replying : (session : ℕ) → IsSession script session → (1 ≤ session) × (session ≤ length worker.lists.replied)
  replying session within = (within.0, let many = sealed.sessions in omega (arith, within.1, many))

  -- a reply by what it had joined is one by what it has joined in the end
  reply_then : (get : Asked) (reply : PlainReply) → IsReplyBy worker.lists.state.me worker.lists.state.placement worker.lists.state.kinds sealed.share.cells.joined get reply
      → IsReplyBy worker.lists.state.me table script.kinds sealed.holds.joined get reply
  reply_then get reply replies = record {
    cell = replies.cell;
    is = replies.is;
    made =
        let lives : Bool = lives_at table worker.lists.state.me get.key in
        answer_among lives (kind_at script.kinds get.key) get.key get.before (entries_in sealed.share.cells.joined) (entries_in sealed.holds.joined) replies.cell
        (among_batches sealed.share.cells.joined sealed.holds.joined joined_then)
        (subst (λ kinds. IsAnswerCell lives (kind_at kinds get.key) get.key get.before (entries_in sealed.share.cells.joined) replies.cell) sealed.kinds_are
        (subst (λ placement. IsAnswerCell (lives_at placement worker.lists.state.me get.key) (kind_at worker.lists.state.kinds get.key) get.key get.before (entries_in sealed.share.cells.joined) replies.cell)
        sealed.placement_is replies.made));
  }

  -- they answer the gets of the session one by one
  pub replied : (session : ℕ) → IsSession script session
      → AllZip (IsReplyBy worker.lists.state.me table script.kinds sealed.holds.joined) (gets_after session [] worker.lists.received) (replied_to worker session)
  replied session within =
      zip_weaker (IsReplyBy worker.lists.state.me worker.lists.state.placement worker.lists.state.kinds sealed.share.cells.joined) (IsReplyBy worker.lists.state.me table script.kinds sealed.holds.joined) reply_then
      (gets_after session [] worker.lists.received) (replied_to worker session)
      (answering worker.lists sealed.share session (replying session within) sealed.none_kept sealed.none_held)

  -- and on one key their clocks never go down
  pub rising : (session : ℕ) → IsSession script session → AllPairs CoversEarlier (replied_to worker session)
  rising session within =
      subst (AllPairs CoversEarlier) (replies_sent worker.lists sealed.share session (replying session within) sealed.none_held) (sealed.share.replies.rising session (replying session within))

  -- each entry of a batch that it told is an own cell after some front of what it received
  pub were_own : (place : ℕ) → place < length worker.lists.told → (batch : Entries) → Contains (told_to worker.lists place) batch
      → All (λ entry. WasOwn (kind_at script.kinds entry.0) entry.0 worker.lists.received entry.1) batch
  were_own place few batch has_batch k d low =
      let entry : ℕ × PlainCell = slice_index_or batch k d in
      let batches : List Entries = told_to worker.lists place in
      let test = λ (its : ℕ × PlainCell). its.0 == entry.0 in
      let among : Contains (flat_map (λ batch. batch) batches) entry = in_piece (λ (batch : Entries). batch) batches batch entry has_batch (All-contains_itself batch k d low) in
      let told : Contains (told_on entry.0 batches) entry.1 =
      contains_map (λ (its : ℕ × PlainCell). its.1) (filter test (flat_map (λ batch. batch) batches)) entry
      (contains_filter test (flat_map (λ batch. batch) batches) entry among (eq-eqb entry.0 entry.0 refl))
      in
      subst (λ received. WasOwn (kind_at script.kinds entry.0) entry.0 received entry.1) worked_is
      (subst (λ kinds. WasOwn (kind_at kinds entry.0) entry.0 sealed.share.cells.worked entry.1) sealed.kinds_are
      (All-contains (WasOwn (kind_at worker.lists.state.kinds entry.0) entry.0 sealed.share.cells.worked) (told_on entry.0 batches) entry.1 ((sealed.share.told place few).were_own entry.0) told))

  -- no key is left to tell
  none_changed : (place : ℕ) → changed_of worker.lists.state place ≡ []
  none_changed place = elim (cases_lt place (length worker.lists.state.changed)) [
    | inl low ↦
        let few = get_or-le-sum_by length worker.lists.state.changed place [] low in
        let zero = sealed.none_left in
        nil_from_length (changed_of worker.lists.state place) (omega (arith, few, zero))
    | inr past ↦ get_or_past worker.lists.state.changed place [] past
  ]

  -- the own cell of a key that a mate holds is empty in the end, or the mate was told it
  pub own_told : (place key : ℕ) (at : KeyCells) → place < length worker.lists.told → IsTrue (lives_at table (mate_at worker.lists.state.me place) key) → cells_at worker.cells key ≡ Some at
      → IsEmptyOrTold worker place key at.own
  own_told place key at few lives is =
      let found = is_there (cells_at worker.lists.state.cells key) (sym (sealed.keys key) ∙ ap is_some is) in
      let same : found.0.own ≡ at.own =
      sealed.share.cells.own key found.0 found.1 ∙ ap (λ kinds. own_cell (kind_at kinds key) key sealed.share.cells.worked) sealed.kinds_are
      ∙ ap (own_cell (kind_at script.kinds key) key) (worked_is ∙ sym worked_then) ∙ sym (sealed.holds.own key at is)
      in
      subst (IsEmptyOrTold worker place key) same
      (elim (sealed.share.clean place key found.0 few (subst (λ placement. IsTrue (lives_at placement (mate_at worker.lists.state.me place) key)) (sym sealed.placement_is) lives) found.1
      (λ left. contains_none key (subst (λ keys. Contains keys key) (none_changed place) left))) [
        | inl none ↦ inl none
        | inr last ↦ told_last worker place key found.0.own last
      ])
