-- Replies by their workers.
use Rattle.std.specs.Prelude.{◌≡◌, ℕ, ◌≤◌, ◌==◌, true, false, if◌then◌else◌, List, [], ◌∷◌, ◌++◌, All, flat_map, length, map}
use Rattle.std.proofs.Common.{◌∙◌, refl, sym, ap, arith}
use Rattle.std.proofs.lemmas.List.{map-append}
use Rattle.std.proofs.lemmas.List.Elements.{All-head, All-tail}
use Rattle.mail_contract.specs.Takes.{from_sender}
use Rattle.mail_contract.proofs.WovenLemmas.{from_sender-append}
use Rattle.session_proxy.specs.Run.{IsPartOf, none, with_it, without}
use Rattle.store_msg.specs.Reply.{PlainReply}

-- replies, each with its worker
abbrev pub by_worker : List PlainReply → List (ℕ × PlainReply)
by_worker replies = map (λ reply. (reply.worker, reply)) replies

-- those of one worker
abbrev pub from_worker : ℕ → List PlainReply → List PlainReply
from_worker worker replies = from_sender worker (by_worker replies)

pub from_worker-append : (worker : ℕ) (xs ys : List PlainReply) → from_worker worker (xs ++ ys) ≡ from_worker worker xs ++ from_worker worker ys
from_worker-append worker xs ys = ap (from_sender worker) (map-append (λ (reply : PlainReply). (reply.worker, reply)) xs ys) ∙ from_sender-append worker (by_worker xs) (by_worker ys)

-- messages whose senders are their replies' workers
pub all_by_worker : (heard : List (ℕ × PlainReply)) → All (λ message. message.1.worker ≡ message.0) heard → heard ≡ by_worker (map (λ message. message.1) heard)
all_by_worker [] are = refl
all_by_worker (message ∷ heard) are =
    let is = All-head (λ (m : ℕ × PlainReply). m.1.worker ≡ m.0) message heard are in
    let rest = all_by_worker heard (All-tail (λ (m : ℕ × PlainReply). m.1.worker ≡ m.0) message heard are) in
    λ j. (sym is j, message.1) ∷ rest j

-- a part of replies has of each worker no more than the whole
pub part_few : {part whole : List PlainReply} → IsPartOf part whole → (worker : ℕ) → length (from_worker worker part) ≤ length (from_worker worker whole)
part_few none worker = omega arith
part_few (without x {part = part} {whole = whole} is) worker =
    let few = part_few is worker in
    elim (x.worker == worker) as (λ own. length (from_worker worker part) ≤ length (if own then x ∷ from_worker worker whole else from_worker worker whole)) [
      | true ↦ omega (arith, few)
      | false ↦ few
    ]
part_few (with_it x {part = part} {whole = whole} is) worker =
    let few = part_few is worker in
    elim (x.worker == worker) as
    (λ own. length (if own then x ∷ from_worker worker part else from_worker worker part) ≤ length (if own then x ∷ from_worker worker whole else from_worker worker whole)) [
      | true ↦ omega (arith, few)
      | false ↦ few
    ]

-- the replies of lists, one after another
abbrev pub in_all : List (List PlainReply) → List PlainReply
in_all replies = flat_map (λ answering. answering) replies
