-- What is sent to each worker, one request more, and places of lists.
use Rattle.std.specs.Prelude.{◌≡◌, ◌≢◌, ℕ, suc, ◌+◌, ◌-◌, ◌<◌, ◌≤◌, IsTrue, Bool, List, [], ◌∷◌, ◌++◌, drop, length, map, slice_get, slice_index_or, slice_set, take, Some, None, IfSome, Err}
use Rattle.std.proofs.Common.{◌∙◌, refl, sym, ap, subst, arith, append_assoc, append-nil, inl, inr}
use Rattle.std.proofs.Math.Seq.{drop-cons}
use Rattle.std.proofs.lemmas.Bool.Decides.{eqb_tells}
use Rattle.std.proofs.lemmas.List.{get_or-set_same, get_or-set_other, length-set, map-append, take_more}
use Rattle.std.proofs.lemmas.Option.{get_or_from_slice_get, slice_get_within}
use Rattle.mail_contract.proofs.WovenLemmas.{from_sender-append, from_sender_here, from_sender_there}
use Rattle.lattice_laws.specs.Counts.{Rose}
use Rattle.mail_contract.specs.Sends.{FullsAfter, OnFull}
use Rattle.mail_contract.specs.Takes.{from_sender}
use Rattle.mail_contract.specs.declared.Refused.{Refused}
use Rattle.mail_contract.specs.declared.Refused.TheVariants.{Full}
use Rattle.placement.specs.Config.{IsOneOf}
use Rattle.session_known.specs.Requests.{Sent, sent_from}
use Rattle.store_msg.specs.Reply.{is_found}
use Rattle.store_msg.specs.declared.request.Request.{Request}
use Rattle.session_proxy.specs.Share.{IsAsked, IsAwaited, Share, lacks, open_most, open_sent, request_of, to_worker}
use Rattle.session_proxy.specs.State.{Lists, open_line, starting}

-- the first items of a list, one more
pub take_one_more : {X : Type 0} (items : List X) (i : ℕ) (item : X) → slice_get items i ≡ Some item → take (i + 1) items ≡ take i items ++ item ∷ []
take_one_more items i item at = take_more items i item (slice_get_within items i item at) ∙ ap (λ last. take i items ++ last ∷ []) (get_or_from_slice_get items i item item at)

-- and the others
pub drop_one_more : {X : Type 0} (items : List X) (i : ℕ) (item : X) → slice_get items i ≡ Some item → drop i items ≡ item ∷ drop (i + 1) items
drop_one_more items i item at =
    let next : suc i ≡ i + 1 = omega arith in
    drop-cons items i item (slice_get_within items i item at) ∙ ap (λ first. first ∷ drop (suc i) items) (get_or_from_slice_get items i item item at) ∙ ap (λ n. item ∷ drop n items) next

-- what goes to a worker of two lists of requests
pub to_worker-append : (worker : ℕ) (front back : List (ℕ × Sent)) → to_worker worker (front ++ back) ≡ to_worker worker front ++ to_worker worker back
to_worker-append worker front back = ap (map request_of) (from_sender-append worker front back) ∙ map-append request_of (from_sender worker front) (from_sender worker back)

-- a request goes to its worker
goes_here : (worker : ℕ) (item : Sent) → to_worker worker ((worker, item) ∷ []) ≡ request_of item ∷ []
goes_here worker item = ap (map request_of) (from_sender_here worker (worker, item) [] refl)

goes_elsewhere : (worker its : ℕ) (item : Sent) → its ≢ worker → to_worker worker ((its, item) ∷ []) ≡ []
goes_elsewhere worker its item apart = ap (map request_of) (from_sender_there worker (its, item) [] apart)

-- places of different workers are different
places_apart : (one other : ℕ) → 1 ≤ one → 1 ≤ other → one ≢ other → one - 1 ≢ other - 1
places_apart one other some others apart same = apart (omega (arith, some, others, same))

module _ (sent sent_now : List (List Request)) (all : List (ℕ × Sent)) (worker : ℕ) (item : Sent) (here : IsOneOf (length sent) worker)
    (posted : sent_now ≡ slice_set sent (worker - 1) (slice_index_or sent (worker - 1) [] ++ request_of item ∷ [])) where
  -- there are as many workers as before
  pub as_many_sent : length sent_now ≡ length sent
  as_many_sent = ap length posted ∙ length-set sent (worker - 1) (slice_index_or sent (worker - 1) [] ++ request_of item ∷ [])

  -- what was sent to each
  pub sent_one_more : ((w : ℕ) → IsOneOf (length sent) w → slice_index_or sent (w - 1) [] ≡ to_worker w all)
      → (w : ℕ) → IsOneOf (length sent_now) w → slice_index_or sent_now (w - 1) [] ≡ to_worker w (all ++ (worker, item) ∷ [])
  sent_one_more was w of_now =
      let of : IsOneOf (length sent) w = subst (λ n. IsOneOf n w) as_many_sent of_now in
      let low : worker - 1 < length sent = omega (arith, here.0, here.1) in
      let more : List Request = slice_index_or sent (worker - 1) [] ++ request_of item ∷ [] in
      ap (λ list. slice_index_or list (w - 1) []) posted ∙ (
      elim (eqb_tells w worker) [
        | inl same ↦
            let is : w ≡ worker = same.1 in
            ap (λ w. slice_index_or (slice_set sent (worker - 1) more) (w - 1) []) is ∙ get_or-set_same sent (worker - 1) more [] low
            ∙ ap (λ front. front ++ request_of item ∷ []) (was worker here) ∙ ap (λ back. to_worker worker all ++ back) (sym (goes_here worker item))
            ∙ sym (to_worker-append worker all ((worker, item) ∷ [])) ∙ ap (λ w. to_worker w (all ++ (worker, item) ∷ [])) (sym is)
        | inr differs ↦
            let other : w ≢ worker = differs.1 in
            get_or-set_other sent (worker - 1) (w - 1) more [] (places_apart w worker of.0 here.0 other)
            ∙ was w of ∙ sym (append-nil (to_worker w all)) ∙ ap (λ back. to_worker w all ++ back) (sym (goes_elsewhere w worker item (λ same. other (sym same)))) ∙ sym (to_worker-append w all ((worker, item) ∷ []))
      ])

module _ (lists : Lists) (share : Share lists) (worker : ℕ) (item : Sent) (goes : IsOneOf (length lists.sent) worker)
    (next : slice_get (open_most lists.course) lists.course.out ≡ Some (worker, item)) (sent_now : List (List Request))
    (posted : sent_now ≡ slice_set lists.sent (worker - 1) (slice_index_or lists.sent (worker - 1) [] ++ request_of item ∷ [])) where
  -- what the answered lines sent
  abbrev so_far : List (ℕ × Sent)
  so_far = sent_from lists.course.table lists.course.client (starting lists.course) 1 (map length share.replies) lists.course.lines lists.course.answers

  -- there are as many workers, once the open line's next request is sent
  pub as_many_then : length sent_now ≡ length lists.sent
  as_many_then = as_many_sent lists.sent sent_now (so_far ++ open_sent lists.course) worker item goes posted

  -- what was sent to each
  pub sent_then : (w : ℕ) → IsOneOf (length sent_now) w → slice_index_or sent_now (w - 1) [] ≡ to_worker w (so_far ++ take (lists.course.out + 1) (open_most lists.course))
  sent_then w of =
      sent_one_more lists.sent sent_now (so_far ++ open_sent lists.course) worker item goes posted share.sent w of
      ∙ ap (to_worker w) (append_assoc so_far (open_sent lists.course) ((worker, item) ∷ []) ∙ ap (λ its. so_far ++ its) (sym (take_one_more (open_most lists.course) lists.course.out (worker, item) next)))

  -- the session's share, where the line stays open
  pub share_then : (waits : Bool) → lists.course.kept ≡ None → IfSome (open_line lists.course) (λ line. IsAsked line → length share.lacking + lacks waits ≡ lists.course.out + 1)
      → Share (record { course = record lists.course { out = lists.course.out + 1; waits = waits }; sent = sent_now; received = lists.received })
  share_then waits none out =
      let within = slice_get_within (open_most lists.course) lists.course.out (worker, item) next in
      record {
        replies = share.replies;
        lacking = share.lacking;
        few = share.few;
        answered = share.answered;
        asks = share.asks;
        lacking_are = record { asked = share.lacking_are.asked; lack = share.lacking_are.lack; out = out; none = share.lacking_are.none };
        out = omega (arith, within);
        kept = subst (λ kept. IfSome kept (λ reply. IsAwaited (record lists.course { out = lists.course.out + 1; waits = waits }) reply × IsTrue (is_found reply.answered))) (sym none) tt;
        sent = sent_then;
        received = share.received;
      }

-- how often senders refused, where the one at a place handed a request back
pub rose_there : (refused : Refused Request) (back : Request) (place : ℕ) (fulls fulls_now : List ℕ) → refused ≡ Full back → FullsAfter {M = Request} {U = Unit {0}} (Err refused) place fulls fulls_now
    → Rose (slice_index_or fulls place 0) (slice_index_or fulls_now place 0)
rose_there refused back place fulls fulls_now is after =
    let counts = subst (λ refused. FullsAfter {M = Request} {U = Unit {0}} (Err refused) place fulls fulls_now) is after in
    omega (arith, counts.1)

-- the sender says what it knows of its room
pub room_there : {P : Type 0} (refused : Refused Request) (back : Request) → refused ≡ Full back → OnFull {M = Request} {U = Unit {0}} (Err refused) P → P
room_there {P} refused back is told = subst (λ refused. OnFull {M = Request} {U = Unit {0}} (Err refused) P) is told
