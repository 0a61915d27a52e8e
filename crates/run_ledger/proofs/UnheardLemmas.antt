-- What a session has not heard of a worker: of its gets there all were replied to by what it took, but one at most, which its open line sent.
use Rattle.std.specs.Prelude.{◌≡◌, ℕ, ◌+◌, ◌-◌, ◌≤◌, Bool, true, false, List, [], ◌++◌, All, drop, length, map, slice_index_or, take}
use Rattle.std.proofs.Common.{◌∙◌, sym, ap, inl, inr, length-append, arith}
use Rattle.std.proofs.lemmas.List.{drop-take, length-take, take-append-drop, take-take}
use Rattle.std.proofs.lemmas.List.Elements.{All-take}
use Rattle.std.proofs.lemmas.List.Sums.{count_by-le-length}
use Rattle.mail_contract.specs.Takes.{from_sender}
use Rattle.placement.specs.Config.{IsOneOf}
use Rattle.session_known.specs.Requests.{Sent, sent_from}
use Rattle.session_proxy.specs.Polls.{is_ask}
use Rattle.session_proxy.specs.Share.{Share, lacks, open_most, open_sent}
use Rattle.session_proxy.specs.State.{Course, Lists, starting}
use Rattle.run_ledger.proofs.ByWorkerLemmas.{all_by_worker, from_worker, from_worker-append, part_few}
use Rattle.run_ledger.proofs.GetsLemmas.{as_many_replied, few_gets, gets_in, gets_to, gets_to-append, lines_as_many, none_of_puts}
use Rattle.run_ledger.proofs.OpenAsksLemmas.{asks_or_puts, out_is}

-- one reply is wanting at most
lacks_few : (waits : Bool) → lacks waits ≤ 1
lacks_few true = omega arith
lacks_few false = omega arith

-- of so many more requests no more than so many gets go to a worker
few_more : (worker : ℕ) (sent : List (ℕ × Sent)) (first more : ℕ) → gets_to worker (take (first + more) sent) ≤ gets_to worker (take first sent) + more
few_more worker sent first more =
    let others : List (ℕ × Sent) = take more (drop first sent) in
    let split : take (first + more) sent ≡ take first sent ++ others =
    sym (take-append-drop first (take (first + more) sent)) ∙ (λ j. take-take first (first + more) sent (omega arith) j ++ drop-take first more sent j)
    in
    let both = ap (gets_to worker) split ∙ gets_to-append worker (take first sent) others in
    omega (arith, both, few_gets worker others, count_by-le-length (λ (one : ℕ × Sent). is_ask one.1) others, length-take more (drop first sent))

module _ (its : Lists) (share : Share its) (worker : ℕ) where
  -- of the asks of the open line that went to the worker all were replied to, but one at most
  pub few_open : gets_to worker (open_sent its.course) ≤ length (from_worker worker share.lacking) + 1
  few_open = elim (asks_or_puts its.course) [
    | inl asks ↦
        let first : ℕ = length share.lacking in
        let few = few_more worker (open_most its.course) first (lacks its.course.waits) in
        let out = ap (λ out. gets_to worker (take out (open_most its.course))) (out_is its share asks) in
        let as_many = as_many_replied worker (take first (open_most its.course)) share.lacking share.lacking_are.asked in
        omega (arith, few, out, as_many, lacks_few its.course.waits)
    | inr puts ↦
        let none = none_of_puts worker (open_sent its.course) (All-take (λ (one : ℕ × Sent). is_ask one.1 ≡ false) its.course.out (open_most its.course) puts) in
        omega (arith, none)
  ]

  -- A session, all of whose messages are replies of their senders, took of the worker as many as it asked it for, but those that its open line lacks.
  pub few_unheard : IsOneOf (length its.sent) worker → All (λ message. message.1.worker ≡ message.0) its.received
      → (more : ℕ) → gets_to worker (open_sent its.course) ≤ length (from_worker worker share.lacking) + more
      → length (gets_in (slice_index_or its.sent (worker - 1) [])) ≤ length (from_sender worker its.received) + more
  few_unheard within own more few =
      let course : Course = its.course in
      let answered : List (ℕ × Sent) = sent_from course.table course.client (starting course) 1 (map length share.replies) course.lines course.answers in
      let asked : length (gets_in (slice_index_or its.sent (worker - 1) [])) ≡ gets_to worker answered + gets_to worker (open_sent course) =
      ap (λ those. length (gets_in those)) (share.sent worker within) ∙ gets_to-append worker answered (open_sent course)
      in
      let lines = lines_as_many worker course.table course.client (starting course) 1 course.lines course.answers share.replies share.answered in
      let part = simp (from_worker-append, length-append) at (part_few share.received worker) in
      let heard = ap (λ those. length (from_sender worker those)) (all_by_worker its.received own) in
      omega (arith, asked, lines, part, heard, few)
