-- A worker's replies to a session: those that it sent, then the one that it holds.
use Rattle.std.specs.Prelude.{◌≡◌, ℕ, ◌+◌, ◌-◌, ◌≤◌, Bool, if◌then◌else◌, List, [], ◌∷◌, ◌++◌, All, Contains, length, slice_index_or, Option, Some, None}
use Rattle.std.specs.List.{AllZip}
use Rattle.std.proofs.Common.{◌∙◌, refl, sym, ap, subst, append-nil, length-append, arith}
use Rattle.std.proofs.lemmas.Bool.{eq-eqb}
use Rattle.std.proofs.lemmas.List.Elements.{All-weaker, Contains-append_left}
use Rattle.std.proofs.lemmas.Slice.Zip.{AllZip-long}
use Rattle.lattice_laws.proofs.ListLemmas.{All-front}
use Rattle.mail_contract.proofs.FrontLemmas.{front_all}
use Rattle.mail_contract.specs.Takes.{IsFront, from_sender}
use Rattle.mail_contract.proofs.WovenLemmas.{from_sender-append}
use Rattle.composed_value.specs.declared.kind.Kind.{Kind}
use Rattle.merge_world.specs.declared.private_map.KeyCells.{KeyCells}
use Rattle.store_msg.specs.Reply.{PlainReply}
use Rattle.store_msg.specs.declared.request.Request.{Request}
use Rattle.store_msg.specs.declared.request.Request.TheVariants as requests
use Rattle.worker_core.specs.Share.{HoldsReceived, IsHeldFor, IsReplyTo, IsSession, Share, gets_after, held_for, replies_to}
use Rattle.worker_core.specs.State.{Entries, Lists, kept_request}
use Rattle.run_ledger.proofs.ByNumberLemmas.{from_first}
use Rattle.run_ledger.proofs.GetsLemmas.{as_many_gets, get_of, gets_came, gets_in, gets_of_both, zip_over}

-- a worker that keeps no request worked on all that it received
pub all_worked : {kinds : List Kind} {cells : List (Option KeyCells)} {received kept : List (ℕ × Request)} {got : ℕ → ℕ → Option Entries} {kept_batch : List (ℕ × Entries)}
    (holds : HoldsReceived kinds cells received kept got kept_batch) → kept ≡ [] → holds.worked ≡ received
all_worked holds none = sym (holds.received_is ∙ ap (λ kept. holds.worked ++ kept) none ∙ append-nil holds.worked)

-- a reply has this number and is to one of these requests
abbrev pub IsToOne : List Request → ℕ → PlainReply → Type 0
IsToOne those number reply = Contains those (requests.Get reply.ask reply.key reply.required) × (reply.worker ≡ number)

module _ (lists : Lists) (share : Share lists) (session : ℕ) (within : IsSession lists session) where
  -- what it sent to the session
  abbrev sent : List PlainReply
  sent = slice_index_or lists.replied (session - 1) []

  -- what it replied is this, then what it holds
  replies_are : replies_to lists session ≡ sent ++ held_for session lists.state.held
  replies_are = ap (λ those. those ++ held_for session lists.state.held) (from_first [] lists.replied session within.0)

  -- where none is held, that is all
  pub replies_sent : lists.state.held ≡ None → replies_to lists session ≡ sent
  replies_sent none = replies_are ∙ ap (λ held. sent ++ held_for session held) none ∙ append-nil sent

  -- so where no request is kept either, what it sent answers the session's gets among all that it received
  pub answering : kept_request lists.state.kept ≡ [] → lists.state.held ≡ None
      → AllZip (IsReplyTo lists.state share.cells.joined) (gets_after session [] lists.received) sent
  answering none_kept none_held =
      subst (AllZip (IsReplyTo lists.state share.cells.joined) (gets_after session [] lists.received)) (replies_sent none_held)
      (subst (λ worked. AllZip (IsReplyTo lists.state share.cells.joined) (gets_after session [] worked) (replies_to lists session)) (all_worked share.cells none_kept)
      (share.replies.each session within))

  -- what came of the session was worked on, or is kept
  came_is : from_sender session lists.received ≡ from_sender session share.cells.worked ++ from_sender session (kept_request lists.state.kept)
  came_is = ap (from_sender session) share.cells.received_is ∙ from_sender-append session share.cells.worked (kept_request lists.state.kept)

  -- each reply that it sent has its number and is to a get that came
  pub sent_to_gets : All (IsToOne (from_sender session lists.received) lists.state.me) sent
  sent_to_gets =
      let came : List Request = from_sender session lists.received in
      let worked : List Request = from_sender session share.cells.worked in
      All-front (IsToOne came lists.state.me) sent (held_for session lists.state.held)
      (subst (All (IsToOne came lists.state.me)) replies_are
      (zip_over (IsReplyTo lists.state share.cells.joined) (λ get. Contains worked (get_of get)) (IsToOne came lists.state.me)
      (λ get reply replies has. subst (IsToOne came lists.state.me) (sym replies.is)
      (subst (λ those. Contains those (get_of get)) (sym came_is) (Contains-append_left worked (from_sender session (kept_request lists.state.kept)) (get_of get) has), refl))
      (gets_after session [] share.cells.worked) (replies_to lists session) (share.replies.each session within) (gets_came session [] share.cells.worked)))

  -- so what was taken of a worker, a front of what it sent, has its number
  pub own_taken : (number : ℕ) → lists.state.me ≡ number → (taken : List PlainReply) → IsFront taken sent → All (λ reply. reply.worker ≡ number) taken
  own_taken number me taken front =
      let came : List Request = from_sender session lists.received in
      All-weaker (IsToOne came lists.state.me) (λ reply. reply.worker ≡ number) (λ reply is. is.1 ∙ me) taken
      (front_all taken sent front (IsToOne came lists.state.me) sent_to_gets)

-- A worker that holds a reply for a session took a get of it for each reply that it sent it, and one more.
pub held_is_asked : (lists : Lists) → Share lists → (session : ℕ) (reply : PlainReply) → lists.state.held ≡ Some (session, reply)
    → length (slice_index_or lists.replied (session - 1) []) + 1 ≤ length (gets_in (from_sender session lists.received))
held_is_asked lists share session reply held =
    let worked : List (ℕ × Request) = share.cells.worked in
    let sent : List PlainReply = slice_index_or lists.replied (session - 1) [] in
    let within : IsSession lists session = subst (IsHeldFor (length lists.replied)) held share.replies.held in
    let replies : replies_to lists session ≡ sent ++ reply ∷ [] =
    replies_are lists share session within ∙ ap (λ held. sent ++ held_for session held) held
    ∙ ap (λ (own : Bool). sent ++ (if own then reply ∷ [] else [])) (eq-eqb session session refl)
    in
    let one_more = ap length replies ∙ length-append sent (reply ∷ []) in
    let as_many =
    AllZip-long (IsReplyTo lists.state share.cells.joined) (gets_after session [] worked) (replies_to lists session) (share.replies.each session within)
    ∙ as_many_gets session [] worked
    in
    let taken =
    ap (λ those. length (gets_in those)) (came_is lists share session within)
    ∙ gets_of_both (from_sender session worked) (from_sender session (kept_request lists.state.kept))
    in
    omega (arith, one_more, as_many, taken)
