-- A worker and a session of a run can be held beside each other: their ends are of one making, and their numbers are those after their places.
use Rattle.std.specs.Prelude.{◌≡◌, ℕ, ◌+◌, ◌-◌, ◌<◌, ◌≤◌, false, List, length, map, slice_get, slice_index_or, Some}
use Rattle.std.proofs.Common.{◌∙◌, ap, arith, refl, subst, sym}
use Rattle.std.proofs.lemmas.List.{length-map}
use Rattle.std.proofs.lemmas.List.Elements.{All-map}
use Rattle.std.proofs.lemmas.Option.{slice_get_within}
use Rattle.mail_contract.specs.Lanes.{IsLaneOf}
use Rattle.mail_contract.specs.Standing.{About}
use Rattle.session_proxy.specs.State.{PlainProxy}
use Rattle.worker_core.specs.State.{PlainWorker}
use Rattle.party_turns.proofs.ItemsLemmas.{at_its_place, mapped, there_is, mapped_or}
use Rattle.party_turns.specs.Making.{AreOfOneMaking}
use Rattle.party_turns.specs.Running.{HaveEnds}
use Rattle.party_turns.specs.Ends.{Ends}

module _ {S P M K SK : Type 0} {sender_key : S → SK} {number : S → ℕ} {pairs : K → SK → ℕ → Type 0} {key : P → K} {about : P → ℕ → About M}
    {rows : List (List S)} {boxes : List P} (making : AreOfOneMaking sender_key number pairs key about false rows boxes)
    (row place : ℕ) (senders : List S) (box : P) (row_is : slice_get rows row ≡ Some senders) (box_is : slice_get boxes place ≡ Some box) where
  -- a row has a sender for each box
  row_long : length senders ≡ length boxes
  row_long = let long = at_its_place (λ senders. length senders + 0 ≡ length boxes) rows row senders making.many row_is in omega (arith, long)

  row_within : place < length senders
  row_within = let within = slice_get_within boxes place box box_is in omega (arith, within, row_long)

  -- of the row's number
  number_is : slice_index_or (map number senders) place 0 ≡ row + 1
  number_is =
      All-map (λ n. n ≡ row + 1) number senders (making.numbers row senders row_is) place 0 (let long = length-map senders number in omega (arith, long, row_within))

  -- and it is of one making with the box
  lane_is : (n : ℕ) → n ≡ row + 1 → IsLaneOf (λ lane its. pairs its lane n) (map sender_key senders) (key box) (place + 1)
  lane_is n is =
      let sender = there_is senders place row_within in
      let numbered = at_its_place (λ one. number one ≡ row + 1) senders place sender.0 (making.numbers row senders row_is) sender.1 in
      let paired = making.paired row place senders sender.0 box row_is box_is refl sender.1 in (
        omega arith,
        let long = length-map senders sender_key in omega (arith, long, row_within),
        λ lane there.
            let lane_there : sender_key sender.0 ≡ lane =
            sym (mapped_or sender_key senders place sender.0 lane sender.1)
            ∙ subst (λ at. slice_index_or (map sender_key senders) at lane ≡ lane) (omega arith) there
            in
            subst (λ (both : SK × ℕ). pairs (key box) both.0 both.1) (λ j. (lane_there j, (numbered ∙ sym is) j)) paired,
      )

module _ {S T O Q G R SK TK OK QK GK RK : Type 0} {mail : Ends S T O Q G R SK TK OK QK GK RK}
    {workers : List (PlainWorker Q T O G)} {sessions : List (PlainProxy S R)}
    (have : HaveEnds mail workers sessions)
    (place at : ℕ) (worker : PlainWorker Q T O G) (proxy : PlainProxy S R) (there : slice_get workers place ≡ Some worker) (here : slice_get sessions at ≡ Some proxy) where
  -- the session's senders of requests, and the worker's of replies, stand among those of all
  asks_there : slice_get (map (λ (its : PlainProxy S R). its.ends.requests.items) sessions) at ≡ Some proxy.ends.requests.items
  asks_there = mapped (λ (its : PlainProxy S R). its.ends.requests.items) sessions at proxy here

  replies_there : slice_get (map (λ (its : PlainWorker Q T O G). its.ends.replies.items) workers) place ≡ Some worker.ends.replies.items
  replies_there = mapped (λ (its : PlainWorker Q T O G). its.ends.replies.items) workers place worker there

  box_there : slice_get (map (λ (its : PlainProxy S R). its.ends.replies) sessions) at ≡ Some proxy.ends.replies
  box_there = mapped (λ (its : PlainProxy S R). its.ends.replies) sessions at proxy here

  -- the worker has a sender of replies for the session
  pub has_replies : at + 1 ≤ length worker.ends.replies.items
  has_replies = let within = row_within have.replies place at worker.ends.replies.items proxy.ends.replies replies_there box_there in omega (arith, within)

  -- the worker's place by its number, and the number of the session at its box
  me_less : worker.state.me - 1 ≡ place
  me_less = let me = have.numbered place worker there in omega (arith, me)

  session_number : slice_index_or (map mail.request_tx.number proxy.ends.requests.items) (worker.state.me - 1) 0 ≡ at + 1
  session_number =
      ap (λ n. slice_index_or (map mail.request_tx.number proxy.ends.requests.items) n 0) me_less
      ∙ number_is have.requests at place proxy.ends.requests.items worker asks_there there

  -- what holds by the numbers of both, and by the places that these give, holds by their places
  pub by_places : (Holds : ℕ → ℕ → ℕ → ℕ → ℕ → Type 0)
      → Holds worker.state.me (worker.state.me - 1) (slice_index_or (map mail.reply_tx.number worker.ends.replies.items) (at + 1 - 1) 0) (at + 1 - 1)
      (slice_index_or (map mail.request_tx.number proxy.ends.requests.items) (worker.state.me - 1) 0)
      → Holds (place + 1) place (place + 1) at (at + 1)
  by_places Holds =
      let at_it : at + 1 - 1 ≡ at = omega arith in
      let number : slice_index_or (map mail.reply_tx.number worker.ends.replies.items) (at + 1 - 1) 0 ≡ place + 1 =
      ap (λ n. slice_index_or (map mail.reply_tx.number worker.ends.replies.items) n 0) at_it
      ∙ number_is have.replies place at worker.ends.replies.items proxy.ends.replies replies_there box_there in
      subst (λ (n : ℕ × ℕ × ℕ × ℕ × ℕ). Holds n.0 n.1 n.2 n.3 n.4) (λ j. (have.numbered place worker there j, me_less j, number j, at_it j, session_number j))

  -- the ends of both are of one making
  pub are_paired : (sender : T) → slice_get worker.ends.replies.items at ≡ Some sender
      → IsLaneOf (λ lane its. mail.request_rx.pairs its lane (slice_index_or (map mail.request_tx.number proxy.ends.requests.items) (worker.state.me - 1) 0))
      (map mail.request_tx.key proxy.ends.requests.items) (mail.request_rx.key worker.ends.requests) worker.state.me
      × mail.reply_rx.pairs (mail.reply_rx.key proxy.ends.replies) (mail.reply_tx.key sender) (mail.reply_tx.number sender) × (mail.reply_tx.number sender ≡ worker.state.me)
  are_paired sender sender_is =
      let me = have.numbered place worker there in (
        subst (IsLaneOf (λ lane its. mail.request_rx.pairs its lane (slice_index_or (map mail.request_tx.number proxy.ends.requests.items) (worker.state.me - 1) 0))
            (map mail.request_tx.key proxy.ends.requests.items) (mail.request_rx.key worker.ends.requests)) (sym me)
            (lane_is have.requests at place proxy.ends.requests.items worker asks_there there
            (slice_index_or (map mail.request_tx.number proxy.ends.requests.items) (worker.state.me - 1) 0) session_number),
        have.replies.paired place at worker.ends.replies.items sender proxy.ends.replies replies_there box_there refl sender_is,
        at_its_place (λ one. mail.reply_tx.number one ≡ place + 1) worker.ends.replies.items at sender (have.replies.numbers place worker.ends.replies.items replies_there) sender_is ∙ sym me,
      )
