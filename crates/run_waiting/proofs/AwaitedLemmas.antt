-- The ask whose reply is awaited: the last request that was sent to its worker.
use Rattle.std.specs.Prelude.{◌≡◌, ℕ, ◌+◌, ◌-◌, ◌≤◌, true, List, [], ◌∷◌, ◌++◌, length, map, slice_get, slice_index_or, take, Some}
use Rattle.std.proofs.Common.{◌∙◌, refl, sym, ap, append_assoc, arith}
use Rattle.std.proofs.lemmas.List.{map-append}
use Rattle.mail_contract.proofs.WovenLemmas.{from_sender_more}
use Rattle.mail_contract.specs.Takes.{from_sender}
use Rattle.placement.specs.Config.{IsOneOf}
use Rattle.session_known.specs.Requests.{Sent, SentAsk, sent_from}
use Rattle.store_msg.specs.declared.request.Request.{Request}
use Rattle.store_msg.specs.declared.request.Request.TheVariants as requests
use Rattle.session_proxy.proofs.SentLemmas.{take_one_more}
use Rattle.session_proxy.specs.Share.{Share, awaited, lacks, open_most, open_sent, request_of, to_worker}
use Rattle.session_proxy.specs.State.{Course, Lists, starting}
use Rattle.run_ledger.proofs.OpenAsksLemmas.{asks_it, awaited_at, out_is}
use Rattle.run_measure.proofs.PlacedLemmas.{goes_to_worker}
use Rattle.run_measure.specs.Laws.{IsPlaced}

module _ (its : Lists) (share : Share its) (placed : IsPlaced its) (worker ask key : ℕ) (required : List (ℕ × ℕ)) (is : awaited its.course ≡ Some (worker, SentAsk ask key required)) where
  abbrev last : ℕ
  last = its.course.out - 1

  abbrev item : ℕ × Sent
  item = (worker, SentAsk ask key required)

  -- the awaited ask is the last that its line sent,
  at_last : (its.course.waits ≡ true) × (slice_get (open_most its.course) last ≡ Some item)
  at_last = awaited_at its.course.waits (slice_get (open_most its.course) last) item is

  -- so the line has sent one at least,
  some_out : 1 ≤ its.course.out
  some_out =
      let out = out_is its share (asks_it its.course last worker ask key required at_last.1) in
      let one = ap lacks at_last.0 in
      omega (arith, out, one)

  -- and it went to a worker,
  pub asked_worker : IsOneOf (length its.sent) worker
  asked_worker = goes_to_worker its placed last worker (SentAsk ask key required) at_last.1

  -- as the last of all that went there
  pub sent_last : (front : List Request) × (slice_index_or its.sent (worker - 1) [] ≡ front ++ requests.Get ask key required ∷ [])
  sent_last =
      let course : Course = its.course in
      let answered : List (ℕ × Sent) = sent_from course.table course.client (starting course) 1 (map length share.replies) course.lines course.answers in
      let front : List (ℕ × Sent) = answered ++ take last (open_most course) in
      let next : course.out ≡ last + 1 = omega (arith, some_out) in
      let all : answered ++ open_sent course ≡ front ++ item ∷ [] =
      ap (λ out. answered ++ take out (open_most course)) next ∙ ap (λ its. answered ++ its) (take_one_more (open_most course) last item at_last.1)
      ∙ sym (append_assoc answered (take last (open_most course)) (item ∷ []))
      in (
        to_worker worker front,
        share.sent worker asked_worker ∙ ap (to_worker worker) all ∙ ap (map request_of) (from_sender_more worker front item refl)
            ∙ map-append request_of (from_sender worker front) (SentAsk ask key required ∷ []),
      )
