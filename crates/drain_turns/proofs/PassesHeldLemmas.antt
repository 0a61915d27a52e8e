-- Where as many replies were sent as were asked for, none is held; and where none is held, no request is left.
use Rattle.std.specs.Prelude.{◌≡◌, ℕ, ◌-◌, ◌<◌, ◌≤◌, Bool, List, [], length, slice_index_or, Option, Some, None}
use Rattle.std.specs.List.{range_with_len}
use Rattle.std.proofs.Common.{refl, ap, arith, subst}
use Rattle.std.proofs.lemmas.List.FromFn.{get_or-range_with_len, length-range_with_len}
use Rattle.std.proofs.lemmas.List.Sums.{sum_by-le}
use Rattle.mail_contract.specs.Standing.{About}
use Rattle.mail_contract.specs.Takes.{AreAllOfSent, IsFront, from_sender}
use Rattle.placement.specs.Config.{IsOneOf}
use Rattle.store_msg.specs.Reply.{PlainReply}
use Rattle.store_msg.specs.declared.request.Request.{Request}
use Rattle.worker_core.specs.Share.{IsHeldFor, Share}
use Rattle.worker_core.specs.State.{Lists}
use Rattle.run_ledger.proofs.GetsLemmas.{gets_in, gets_in_front}
use Rattle.run_ledger.proofs.HeldLemmas.{held_is_asked}
use Rattle.party_turns.proofs.TurningBoxesLemmas.{of_known}
use Rattle.party_turns.specs.Turning.{AreKnown, known_sent, not_taken}

module _ (lists : Lists) (about : ℕ → About Request) (complete : Bool) (senders : ℕ) (share : Share lists) (known : AreKnown complete senders lists.received about)
    (replied : (session : ℕ) → IsOneOf (length lists.replied) session → length (gets_in (known_sent (about session).standing)) ≤ length (slice_index_or lists.replied (session - 1) []))
    (are_senders : (session : ℕ) → IsOneOf (length lists.replied) session → IsOneOf senders session) where
  -- a held reply would be one more than were asked for
  too_many : (session : ℕ) (reply : PlainReply) → lists.state.held ≡ Some (session, reply) → ⊥
  too_many session reply is =
      let one_of : IsOneOf (length lists.replied) session = subst (IsHeldFor (length lists.replied)) is share.replies.held in
      let of_it = known session (are_senders session one_of) in
      let few =
      gets_in_front (from_sender session lists.received) (known_sent (about session).standing)
      (of_known complete (about session).standing (IsFront (from_sender session lists.received)) of_it.0 of_it.1)
      in
      omega (arith, held_is_asked lists share session reply is, few, replied session one_of)

  of_held : (held : Option (ℕ × PlainReply)) → lists.state.held ≡ held → lists.state.held ≡ None
  of_held None is = is
  of_held (Some (session, reply)) is = absurd (too_many session reply is)

  pub no_reply_held : lists.state.held ≡ None
  no_reply_held = of_held lists.state.held refl

-- where all was taken that is told to be sent, nothing that is known is left
pub none_to_take : {M : Type 0} (complete : Bool) (senders : ℕ) (received : List (ℕ × M)) (about : ℕ → About M) → AreKnown complete senders received about
    → AreAllOfSent complete received about → not_taken senders received about ≡ 0
none_to_take {M} complete senders received about known all =
    let left = sum_by-le (λ sender. length (known_sent (about sender).standing) - length (from_sender sender received)) 0 (range_with_len 1 senders)
    (λ place any within. none_at (slice_index_or (range_with_len 1 senders) place any) (in_range place any within)) in
    omega (arith, left)
  where
    in_range : (place any : ℕ) → place < length (range_with_len 1 senders) → IsOneOf senders (slice_index_or (range_with_len 1 senders) place any)
    in_range place any within =
        let long = length-range_with_len 1 senders in
        let is = get_or-range_with_len 1 senders place any (omega (arith, within, long)) in
        (omega (arith, is), omega (arith, is, within, long))

    none_at : (sender : ℕ) → IsOneOf senders sender → length (known_sent (about sender).standing) - length (from_sender sender received) ≤ 0
    none_at sender one_of =
        let same = ap length (of_known complete (about sender).standing (λ sent. from_sender sender received ≡ sent) (known sender one_of).0 (all sender)) in
        omega (arith, same)
