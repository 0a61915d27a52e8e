-- In what order a turn does what it does.
use Rattle.std.specs.Prelude.{◌≡◌, ◌⊎◌, ℕ, ◌||◌, ltb, Bool, true, false, IsTrue, List, is_some, if◌then◌else◌, Option, Some, None, Result, Ok, Err, IfOk, OnOk}
use Rattle.std.proofs.Common.{◌∙◌, ap, refl, sym, subst, inl, inr}
use Rattle.std.proofs.lemmas.Bool.{false≢true, true≢false}
use Rattle.lattice_laws.specs.Counts.{Rose}
use Rattle.lattice_laws.specs.declared.lattice.NoMemory.{NoMemory}
use Rattle.store_msg.specs.Reply.{PlainReply}
use Rattle.worker_core.specs.Order.{AsksGossip, InOrder, IsDue, IsDueInVain, Rests}
use Rattle.worker_core.specs.Serving.{HoldsBack, Resent, did_of, rests_as}
use Rattle.worker_core.specs.State.{Lists, State, dirty}
use Rattle.worker_core.specs.Turns.{Counts, IsHeldBack, KeepsBatch, KeepsRequest, MayAsk}
use Rattle.worker_core.specs.declared.did.Did.{Did}
use Rattle.worker_core.specs.declared.did.Did.TheVariants as did
use Rattle.worker_core.specs.declared.popped.Popped.{Popped}
use Rattle.worker_core.specs.declared.popped.Popped.TheVariants as popped
use Rattle.worker_core.proofs.TurnLemmas.{CameBack}

-- the reply that is held came back, or there was none
pub held_back : (held held_now : Option (ℕ × PlainReply)) (replied replied_now : List (List PlainReply)) (fulls fulls_now : List ℕ) (sent : Bool) → sent ≡ false
    → Resent {E = NoMemory} (Ok sent) held held_now replied replied_now fulls fulls_now → IsHeldBack held fulls fulls_now
held_back held held_now replied replied_now fulls fulls_now true is resent = absurd (true≢false is)
held_back held held_now replied replied_now fulls fulls_now false is (same, still, back) = back

-- a reply is held, so it is there
pub someone : (held : Option (ℕ × PlainReply)) → IsTrue (is_some held) → (value : ℕ × PlainReply) × (held ≡ Some value)
someone None is = absurd (false≢true is)
someone (Some value) is = (value, refl)

-- none is due, or the one that was came back
pub none_due : (due : Bool) (before : Lists) (fulls fulls_now : List ℕ) (room : ℕ → List Bool → Type 0)
    → (IsTrue due → IsDue before.state) → (due ≡ false → MayAsk before.state)
    → (due ≡ false) ⊎ CameBack before fulls fulls_now room → MayAsk before.state ⊎ IsDueInVain before fulls fulls_now room
none_due false before fulls fulls_now room is may came = inl (may refl)
none_due true before fulls fulls_now room is may (inl none) = absurd (true≢false none)
none_due true before fulls fulls_now room is may (inr back) = inr (record { due = is refl; full = back.full; no_room = back.no_room })

-- and so it is told still
still_none_due : (before : Lists) (fulls : List ℕ) {fulls_then fulls_now : List ℕ} → fulls_then ≡ fulls_now → (room : ℕ → List Bool → Type 0)
    → MayAsk before.state ⊎ IsDueInVain before fulls fulls_then room → MayAsk before.state ⊎ IsDueInVain before fulls fulls_now room
still_none_due before fulls same room (inl may) = inl may
still_none_due before fulls same room (inr vain) = inr (subst (λ fulls_now. IsDueInVain before fulls fulls_now room) same vain)

-- a message is kept, so it is there
pub kept_there : (kept : Option Popped) → IsTrue (is_some kept) → (message : Popped) × (kept ≡ Some message)
kept_there None is = absurd (false≢true is)
kept_there (Some message) is = (message, refl)

-- A message was kept before the turn, and is worked on.
pub kept_in_order : (result : Result Did NoMemory) (before now : Lists) (count count_now : Counts) (room : ℕ → List Bool → Type 0) (message : Popped)
    → before.state.kept ≡ Some message → IfOk result (λ did. did ≡ did_of before.state.kept)
    → OnOk result (HoldsBack before.state.kept now.state.held count.reply_fulls count_now.reply_fulls) → InOrder result before now count count_now room
kept_in_order (Err error) before now count count_now room message is its holds = tt
kept_in_order (Ok done) before now count count_now room message is its holds =
    subst (λ did. InOrder {E = NoMemory} (Ok did) before now count count_now room) (sym (its ∙ ap did_of is))
    (by_message message is (subst (λ kept. HoldsBack kept now.state.held count.reply_fulls count_now.reply_fulls) is holds))
  where
    by_message : (message : Popped) → before.state.kept ≡ Some message → HoldsBack (Some message) now.state.held count.reply_fulls count_now.reply_fulls
        → InOrder {E = NoMemory} (Ok (did_of (Some message))) before now count count_now room
    by_message (popped.Request session request) is holds = record { in_time = inl (popped.Request session request, is); held_back = holds }
    by_message (popped.Batch sender batch) is holds = inl (popped.Batch sender batch, is)

-- A batch is popped in the turn, and is worked on.
pub heard_in_order : (result : Result Did NoMemory) (before start middle now : Lists) (count count_middle count_now : Counts) (room : ℕ → List Bool → Type 0) → KeepsBatch start middle
    → IfOk result (λ did. did ≡ did_of middle.state.kept)
    → OnOk result (HoldsBack middle.state.kept now.state.held count_middle.reply_fulls count_now.reply_fulls) → count_now.gossip_fulls ≡ count_middle.gossip_fulls
    → AsksGossip before count count_middle room → InOrder result before now count count_now room
heard_in_order (Err error) before start middle now count count_middle count_now room keeps its holds same asks = tt
heard_in_order (Ok done) before start middle now count count_middle count_now room keeps its holds same asks =
    let kept_is = ap (λ (lists : Lists). lists.state.kept) keeps.4 in
    let same_replies : count_now.reply_fulls ≡ count_middle.reply_fulls =
    subst (λ kept. HoldsBack kept now.state.held count_middle.reply_fulls count_now.reply_fulls) kept_is holds in
    subst (λ did. InOrder {E = NoMemory} (Ok did) before now count count_now room) (sym (its ∙ ap did_of kept_is)) (inr (record {
      none_kept = asks.none_kept;
      held_back = subst (IsHeldBack before.state.held count.reply_fulls) (sym same_replies) asks.held_back;
      none_due = still_none_due before count.gossip_fulls (sym same) room asks.none_due;
    }))

-- A request is popped in the turn, and is worked on.
pub served_in_order : (result : Result Did NoMemory) (before start middle now : Lists) (count count_middle count_now : Counts) (room : ℕ → List Bool → Type 0) → KeepsRequest start middle
    → IfOk result (λ did. did ≡ did_of middle.state.kept)
    → OnOk result (HoldsBack middle.state.kept now.state.held count_middle.reply_fulls count_now.reply_fulls) → count_middle.reply_fulls ≡ count.reply_fulls
    → count_now.gossip_fulls ≡ count_middle.gossip_fulls → AsksGossip before count count_middle room → Rose count.gossip.nones count_now.gossip.nones
    → before.state.held ≡ None → InOrder result before now count count_now room
served_in_order (Err error) before start middle now count count_middle count_now room keeps its holds same same_gossip asks found held = tt
served_in_order (Ok done) before start middle now count count_middle count_now room keeps its holds same same_gossip asks found held =
    let kept_is = ap (λ (lists : Lists). lists.state.kept) keeps.3 in
    let first : AsksGossip before count count_now room = record {
      none_kept = asks.none_kept;
      held_back = inl held;
      none_due = still_none_due before count.gossip_fulls (sym same_gossip) room asks.none_due;
    } in
    subst (λ did. InOrder {E = NoMemory} (Ok did) before now count count_now room) (sym (its ∙ ap did_of kept_is)) (record {
      in_time = inr (inr (record { first = first; no_gossip = found; none_held = held }));
      held_back =
          subst (λ fulls. IsHeldBack now.state.held fulls count_now.reply_fulls) same
          (subst (λ kept. HoldsBack kept now.state.held count_middle.reply_fulls count_now.reply_fulls) kept_is holds);
    })

-- A turn that found nothing to do.
pub rests_in_order : (state : State) (before now : Lists) (count count_now : Counts) (room : ℕ → List Bool → Type 0) → Rests before count count_now
    → InOrder {E = NoMemory} (Ok (rests_as state)) before now count count_now room
rests_in_order state before now count count_now room rests = by (ltb 0 (dirty state) || is_some state.held)
  where
    by : (some : Bool) → InOrder {E = NoMemory} (Ok (if some then did.Blocked else did.Idle)) before now count count_now room
    by true = rests
    by false = rests
