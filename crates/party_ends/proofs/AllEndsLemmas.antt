-- Boxes and rows of senders are put together, and so are all ends of one making.
use Rattle.std.specs.Prelude.{◌≡◌, ℕ, ◌+◌, Bool, false, true, if◌then◌else◌, List, [], All, length, map, slice_get, Some, None}
use Rattle.std.specs.List.{zip}
use Rattle.std.proofs.Common.{◌∙◌, sym, ap, subst, Global, Vec}
use Rattle.std.proofs.lemmas.List.{length-map}
use Rattle.std.proofs.lemmas.Slice.Zip.{firsts-zip, seconds-zip}
use Rattle.mail_contract.specs.Standing.{About}
use Rattle.placement.specs.Config.{IsOneOf}
use Rattle.store_msg.specs.declared.ends.SessionEndsOver.{SessionEndsOver}
use Rattle.store_msg.specs.declared.ends.WorkerEndsOver.{WorkerEndsOver}
use Rattle.party_turns.specs.Mates.{IsMate}
use Rattle.party_turns.specs.Making.{AreOfOneMaking, IsBoxOf}
use Rattle.party_turns.proofs.ItemsLemmas.{all_there, at_its_place, made_of_made, mapped}
use Rattle.party_ends.specs.AllEnds.{AreAllEnds}
use Rattle.party_ends.specs.Dealt.{AreNew, IsEmptyBoxOf, IsEmptyWeakBoxOf}
use Rattle.party_turns.specs.Ends.{Ends}

-- what holds of all that is made of items holds of what is made of each
all_over : {X Y : Type 0} (f : X → Y) (Holds : Y → Type 0) (xs : List X) → All Holds (map f xs) → All (λ x. Holds (f x)) xs
all_over f Holds xs all = all_there (λ x. Holds (f x)) xs (λ place x there. at_its_place Holds (map f xs) place (f x) all (mapped f xs place x there))

-- what holds of all of a list holds of what is made of each, where that list is made of them
all_made : {X Y : Type 0} (f : X → Y) (Holds : Y → Type 0) (xs : List X) (ys : List Y) → map f xs ≡ ys → All Holds ys → All (λ x. Holds (f x)) xs
all_made f Holds xs ys is all = all_over f Holds xs (subst (All Holds) (sym is) all)

-- rows and boxes are of one making where the boxes stand in other things
pub making_over : {S P X M K SK : Type 0} {sender_key : S → SK} {number : S → ℕ} {pairs : K → SK → ℕ → Type 0} {key : P → K} {about : P → ℕ → About M} {skips : Bool} {rows : List (List S)}
    (f : X → P) (xs : List X) (boxes : List P) → map f xs ≡ boxes → AreOfOneMaking sender_key number pairs key about skips rows boxes
    → AreOfOneMaking sender_key number pairs (λ x. key (f x)) (λ x. about (f x)) skips rows xs
making_over {skips = skips} {rows = rows} f xs boxes is making = record {
  many = subst (λ n. All (λ senders. length senders + (if skips then 1 else 0) ≡ n) rows) (sym (ap length is) ∙ length-map xs f) making.many;
  numbers = making.numbers;
  paired = λ row place senders sender x there x_there kept at. making.paired row place senders sender (f x) there (sym (ap (λ all. slice_get all place) is) ∙ mapped f xs place x x_there) kept at;
  not_taken_in = λ row place x low x_there kept. making.not_taken_in row place (f x) low (sym (ap (λ all. slice_get all place) is) ∙ mapped f xs place x x_there) kept;
}

module _ {S R : Type 0} (requests : List (Vec S Global)) (replies : List R) (as_many : length replies ≡ length requests) (sessions : List (SessionEndsOver S R))
    (are : sessions ≡ map (λ its. record { requests = its.0; replies = its.1 }) (zip requests replies)) where
  -- the parts of the sessions' ends
  pub their_requests : map (λ its. its.requests) sessions ≡ requests
  their_requests = ap (map (λ (its : SessionEndsOver S R). its.requests)) are
      ∙ made_of_made (λ its. record { requests = its.0; replies = its.1 }) (λ (its : SessionEndsOver S R). its.requests) (zip requests replies) ∙ firsts-zip requests replies as_many

  pub their_replies : map (λ its. its.replies) sessions ≡ replies
  their_replies = ap (map (λ (its : SessionEndsOver S R). its.replies)) are
      ∙ made_of_made (λ its. record { requests = its.0; replies = its.1 }) (λ (its : SessionEndsOver S R). its.replies) (zip requests replies) ∙ seconds-zip requests replies as_many

-- zipped lists are as long as the first one
length-zip : {X Y : Type 0} (xs : List X) (ys : List Y) → length ys ≡ length xs → length (zip xs ys) ≡ length xs
length-zip {X} {Y} xs ys long = sym (length-map (zip xs ys) (λ (pair : X × Y). pair.0)) ∙ ap length (firsts-zip xs ys long)

abbrev worker_of : {Q T O G : Type 0} → (Q × Vec T Global) × (Vec O Global × G) → WorkerEndsOver Q T O G
worker_of its = record { requests = its.0.0; replies = its.0.1; gossip_out = its.1.0; gossip_in = its.1.1 }

module _ {Q T O G : Type 0} (requests : List Q) (replies : List (Vec T Global)) (gossip_out : List (Vec O Global)) (gossip_in : List G)
    (replies_long : length replies ≡ length requests) (out_long : length gossip_out ≡ length requests) (in_long : length gossip_in ≡ length requests)
    (workers : List (WorkerEndsOver Q T O G)) (are : workers ≡ map worker_of (zip (zip requests replies) (zip gossip_out gossip_in))) where
  pairs_long : length (zip gossip_out gossip_in) ≡ length (zip requests replies)
  pairs_long = length-zip gossip_out gossip_in (in_long ∙ sym out_long) ∙ out_long ∙ sym (length-zip requests replies replies_long)

  -- what is told of the first pair of each, and of the second
  first_parts : {V : Type 0} (f : Q × Vec T Global → V) → map (λ its. f (its.0)) (zip (zip requests replies) (zip gossip_out gossip_in)) ≡ map f (zip requests replies)
  first_parts f = sym (made_of_made (λ (its : (Q × Vec T Global) × (Vec O Global × G)). its.0) f (zip (zip requests replies) (zip gossip_out gossip_in)))
      ∙ ap (map f) (firsts-zip (zip requests replies) (zip gossip_out gossip_in) pairs_long)

  second_parts : {V : Type 0} (f : Vec O Global × G → V) → map (λ its. f (its.1)) (zip (zip requests replies) (zip gossip_out gossip_in)) ≡ map f (zip gossip_out gossip_in)
  second_parts f = sym (made_of_made (λ (its : (Q × Vec T Global) × (Vec O Global × G)). its.1) f (zip (zip requests replies) (zip gossip_out gossip_in)))
      ∙ ap (map f) (seconds-zip (zip requests replies) (zip gossip_out gossip_in) pairs_long)

  -- the parts of the workers' ends
  pub worker_requests : map (λ its. its.requests) workers ≡ requests
  worker_requests = ap (map (λ (its : WorkerEndsOver Q T O G). its.requests)) are
      ∙ made_of_made worker_of (λ (its : WorkerEndsOver Q T O G). its.requests) (zip (zip requests replies) (zip gossip_out gossip_in))
      ∙ first_parts (λ pair. pair.0) ∙ firsts-zip requests replies replies_long

  pub worker_replies : map (λ its. its.replies) workers ≡ replies
  worker_replies = ap (map (λ (its : WorkerEndsOver Q T O G). its.replies)) are
      ∙ made_of_made worker_of (λ (its : WorkerEndsOver Q T O G). its.replies) (zip (zip requests replies) (zip gossip_out gossip_in))
      ∙ first_parts (λ pair. pair.1) ∙ seconds-zip requests replies replies_long

  pub worker_gossip_out : map (λ its. its.gossip_out) workers ≡ gossip_out
  worker_gossip_out = ap (map (λ (its : WorkerEndsOver Q T O G). its.gossip_out)) are
      ∙ made_of_made worker_of (λ (its : WorkerEndsOver Q T O G). its.gossip_out) (zip (zip requests replies) (zip gossip_out gossip_in))
      ∙ second_parts (λ pair. pair.0) ∙ firsts-zip gossip_out gossip_in (in_long ∙ sym out_long)

  pub worker_gossip_in : map (λ its. its.gossip_in) workers ≡ gossip_in
  worker_gossip_in = ap (map (λ (its : WorkerEndsOver Q T O G). its.gossip_in)) are
      ∙ made_of_made worker_of (λ (its : WorkerEndsOver Q T O G). its.gossip_in) (zip (zip requests replies) (zip gossip_out gossip_in))
      ∙ second_parts (λ pair. pair.1) ∙ seconds-zip gossip_out gossip_in (in_long ∙ sym out_long)

  -- what is told of their boxes of gossip
  pub told_of_gossip_in : {V : Type 0} (tells : G → V) → map (λ its. tells its.gossip_in) workers ≡ map tells gossip_in
  told_of_gossip_in tells = sym (made_of_made (λ (its : WorkerEndsOver Q T O G). its.gossip_in) tells workers) ∙ ap (map tells) worker_gossip_in

-- the items of the vectors that are a part of each
items_of : {X E : Type 0} (part : E → Vec X Global) (ends : List E) (rows : List (Vec X Global)) → map part ends ≡ rows → map (λ its. (part its).items) ends ≡ map (λ row. row.items) rows
items_of part ends rows is = sym (made_of_made part (λ row. row.items) ends) ∙ ap (map (λ row. row.items)) is

module _ {S T O Q G R SK TK OK QK GK RK : Type 0}
    (mail : Ends S T O Q G R SK TK OK QK GK RK)
    (many_workers many_sessions : ℕ) (asks : List (Vec S Global)) (requests : List Q) (answers : List (Vec T Global)) (replies : List R) (tells : List (Vec O Global)) (gossip : List G)
    (requests_new : AreNew mail.request_tx.key mail.request_tx.number mail.request_tx.sent mail.request_rx.pairs mail.request_rx.key mail.request_rx.about false many_sessions many_workers (map (λ row. row.items) asks) requests)
    (requests_empty : All (IsEmptyBoxOf (IsOneOf many_sessions) mail.request_rx.key mail.request_rx.senders mail.request_rx.received mail.request_rx.about) requests)
    (replies_new : AreNew mail.reply_tx.key mail.reply_tx.number mail.reply_tx.sent mail.reply_rx.pairs mail.reply_rx.key mail.reply_rx.about false many_workers many_sessions (map (λ row. row.items) answers) replies)
    (replies_empty : All (λ box. (mail.reply_rx.senders (mail.reply_rx.key box) ≡ many_workers) × (mail.reply_rx.received box ≡ [])) replies)
    (gossip_new : AreNew mail.gossip_tx.key mail.gossip_tx.number mail.gossip_tx.sent mail.gossip_rx.pairs mail.gossip_rx.key mail.gossip_rx.about true many_workers many_workers (map (λ row. row.items) tells) gossip)
    (gossip_empty : (place : ℕ) (box : G) → slice_get gossip place ≡ Some box → IsEmptyWeakBoxOf (IsMate many_workers (place + 1)) mail.gossip_rx.key mail.gossip_rx.senders mail.gossip_rx.got mail.gossip_rx.about box)
    (workers : List (WorkerEndsOver Q T O G)) (sessions : List (SessionEndsOver S R))
    (workers_are : workers ≡ map worker_of (zip (zip requests answers) (zip tells gossip)))
    (sessions_are : sessions ≡ map (λ its. record { requests = its.0; replies = its.1 }) (zip asks replies)) where
  answers_long : length answers ≡ length requests
  answers_long = sym (length-map answers (λ row. row.items)) ∙ replies_new.rows_are ∙ sym requests_new.boxes_are

  tells_long : length tells ≡ length requests
  tells_long = sym (length-map tells (λ row. row.items)) ∙ gossip_new.rows_are ∙ sym requests_new.boxes_are

  gossip_long : length gossip ≡ length requests
  gossip_long = gossip_new.boxes_are ∙ sym requests_new.boxes_are

  asks_long : length replies ≡ length asks
  asks_long = replies_new.boxes_are ∙ sym requests_new.rows_are ∙ length-map asks (λ row. row.items)

  requests_in : map (λ its. its.requests) workers ≡ requests
  requests_in = worker_requests requests answers tells gossip answers_long tells_long gossip_long workers workers_are

  gossip_in_in : map (λ its. its.gossip_in) workers ≡ gossip
  gossip_in_in = worker_gossip_in requests answers tells gossip answers_long tells_long gossip_long workers workers_are

  replies_in : map (λ its. its.replies) sessions ≡ replies
  replies_in = their_replies asks replies asks_long sessions sessions_are

  -- the rows of senders
  asks_in : map (λ its. its.requests.items) sessions ≡ map (λ row. row.items) asks
  asks_in = items_of (λ (its : SessionEndsOver S R). its.requests) sessions asks (their_requests asks replies asks_long sessions sessions_are)

  answers_in : map (λ its. its.replies.items) workers ≡ map (λ row. row.items) answers
  answers_in = items_of (λ (its : WorkerEndsOver Q T O G). its.replies) workers answers (worker_replies requests answers tells gossip answers_long tells_long gossip_long workers workers_are)

  tells_in : map (λ its. its.gossip_out.items) workers ≡ map (λ row. row.items) tells
  tells_in = items_of (λ (its : WorkerEndsOver Q T O G). its.gossip_out) workers tells (worker_gossip_out requests answers tells gossip answers_long tells_long gossip_long workers workers_are)

  -- the box of gossip of a worker
  its_gossip : (place : ℕ) (its : WorkerEndsOver Q T O G) → slice_get workers place ≡ Some its → slice_get gossip place ≡ Some its.gossip_in
  its_gossip place its there = sym (ap (λ all. slice_get all place) gossip_in_in) ∙ mapped (λ (one : WorkerEndsOver Q T O G). one.gossip_in) workers place its there

  pub are_all_ends : AreAllEnds mail many_workers many_sessions workers sessions
  are_all_ends = record {
    workers_are = sym (length-map workers (λ its. its.requests)) ∙ ap length requests_in ∙ requests_new.boxes_are;
    sessions_are = sym (length-map sessions (λ its. its.replies)) ∙ ap length replies_in ∙ replies_new.boxes_are;
    none_asked = all_made (λ (its : SessionEndsOver S R). its.requests.items) (All (λ sender. mail.request_tx.sent sender ≡ [])) sessions (map (λ row. row.items) asks) asks_in requests_new.nothing_sent;
    none_replied = all_made (λ (its : WorkerEndsOver Q T O G). its.replies.items) (All (λ sender. mail.reply_tx.sent sender ≡ [])) workers (map (λ row. row.items) answers) answers_in replies_new.nothing_sent;
    none_told = all_made (λ (its : WorkerEndsOver Q T O G). its.gossip_out.items) (All (λ sender. mail.gossip_tx.sent sender ≡ [])) workers (map (λ row. row.items) tells) tells_in gossip_new.nothing_sent;
    none_received = all_made (λ (its : WorkerEndsOver Q T O G). its.requests) (λ box. mail.request_rx.received box ≡ []) workers requests requests_in
        (all_there (λ box. mail.request_rx.received box ≡ []) requests (λ place box there.
        (at_its_place (IsEmptyBoxOf (IsOneOf many_sessions) mail.request_rx.key mail.request_rx.senders mail.request_rx.received mail.request_rx.about) requests place box requests_empty there).0));
    none_heard = all_made (λ (its : SessionEndsOver S R). its.replies) (λ box. mail.reply_rx.received box ≡ []) sessions replies replies_in
        (all_there (λ box. mail.reply_rx.received box ≡ []) replies (λ place box there.
        (at_its_place (λ one. (mail.reply_rx.senders (mail.reply_rx.key one) ≡ many_workers) × (mail.reply_rx.received one ≡ [])) replies place box replies_empty there).1));
    none_got = all_there (λ its. (sender place : ℕ) → mail.gossip_rx.got its.gossip_in sender place ≡ None) workers (λ place its there. (gossip_empty place its.gossip_in (its_gossip place its there)).0);
    requests = subst (λ rows. AreOfOneMaking mail.request_tx.key mail.request_tx.number mail.request_rx.pairs (λ (its : WorkerEndsOver Q T O G). mail.request_rx.key its.requests) (λ its. mail.request_rx.about its.requests) false rows workers) (sym asks_in)
        (making_over (λ (its : WorkerEndsOver Q T O G). its.requests) workers requests requests_in requests_new.making);
    replies = subst (λ boxes. AreOfOneMaking mail.reply_tx.key mail.reply_tx.number mail.reply_rx.pairs mail.reply_rx.key mail.reply_rx.about false (map (λ (its : WorkerEndsOver Q T O G). its.replies.items) workers) boxes) (sym replies_in)
        (subst (λ rows. AreOfOneMaking mail.reply_tx.key mail.reply_tx.number mail.reply_rx.pairs mail.reply_rx.key mail.reply_rx.about false rows replies) (sym answers_in) replies_new.making);
    gossip = subst (λ rows. AreOfOneMaking mail.gossip_tx.key mail.gossip_tx.number mail.gossip_rx.pairs (λ (its : WorkerEndsOver Q T O G). mail.gossip_rx.key its.gossip_in) (λ its. mail.gossip_rx.about its.gossip_in) true rows workers) (sym tells_in)
        (making_over (λ (its : WorkerEndsOver Q T O G). its.gossip_in) workers gossip gossip_in_in gossip_new.making);
    request_boxes = all_made (λ (its : WorkerEndsOver Q T O G). its.requests)
        (λ box. IsBoxOf (IsOneOf many_sessions) (mail.request_rx.senders (mail.request_rx.key box)) (mail.request_rx.received box) (mail.request_rx.about box)) workers requests requests_in
        (all_there (λ box. IsBoxOf (IsOneOf many_sessions) (mail.request_rx.senders (mail.request_rx.key box)) (mail.request_rx.received box) (mail.request_rx.about box)) requests (λ place box there.
        (at_its_place (IsEmptyBoxOf (IsOneOf many_sessions) mail.request_rx.key mail.request_rx.senders mail.request_rx.received mail.request_rx.about) requests place box requests_empty there).1));
    gossip_boxes = λ place its there. (gossip_empty place its.gossip_in (its_gossip place its there)).1;
    reply_boxes = all_made (λ (its : SessionEndsOver S R). its.replies) (λ box. mail.reply_rx.senders (mail.reply_rx.key box) ≡ many_workers) sessions replies replies_in
        (all_there (λ box. mail.reply_rx.senders (mail.reply_rx.key box) ≡ many_workers) replies (λ place box there.
        (at_its_place (λ one. (mail.reply_rx.senders (mail.reply_rx.key one) ≡ many_workers) × (mail.reply_rx.received one ≡ [])) replies place box replies_empty there).0));
  }
