-- A session that has ended: no line is open, so it sent what its lines send, and of what it took the replies to its lines are a part.
use Rattle.std.specs.Prelude.{◌≡◌, ℕ, ◌+◌, ◌-◌, Bool, if◌then◌else◌, List, [], ◌∷◌, ◌++◌, length, map, option_map, slice_get, slice_index_or, take, unwrap_or, Option, Some, None, IfSome}
use Rattle.std.specs.List.{AllZip}
use Rattle.std.proofs.Common.{◌∙◌, refl, sym, ap, subst, append-nil, arith}
use Rattle.std.proofs.lemmas.List.{append_assoc, take_all}
use Rattle.std.proofs.lemmas.Option.{none-some, slice_get_past}
use Rattle.placement.specs.Config.{IsOneOf}
use Rattle.session_known.specs.Requests.{Sent, requests_of}
use Rattle.session_known.specs.Session.{Client, Knowledge, start}
use Rattle.session_known.specs.declared.script.Line.{Line}
use Rattle.session_known.specs.declared.script.SessionPlan.{SessionPlan}
use Rattle.session_proxy.specs.Lines.{most_sent}
use Rattle.session_proxy.specs.Run.{AreAnswered, IsPartOf, IsReplyTo}
use Rattle.session_proxy.specs.Share.{kept_reply, open_most, open_sent, to_worker}
use Rattle.session_proxy.specs.State.{Knew, Lists, Origin, known_at_start, state_now}
use Rattle.store_msg.specs.Reply.{PlainReply}
use Rattle.run_ledger.specs.Parties.{HasEnded}
use Rattle.run_ledger.proofs.ByWorkerLemmas.{in_all}
use Rattle.run_ledger.proofs.OpenAsksLemmas.{awaited_at}

-- to no items nothing fits
fits_none : {A B : Type 0} (R : A → B → Type 0) (xs : List A) (ys : List B) → xs ≡ [] → AllZip R xs ys → ys ≡ []
fits_none R xs [] none all = refl
fits_none R [] (y ∷ ys) none all = absurd all
fits_none R (x ∷ xs) (y ∷ ys) none all = let long = ap length none in absurd (omega (arith, long))

-- where nothing may be kept, nothing is
none_kept : (IsKept : PlainReply → Type 0) → ((reply : PlainReply) → IsKept reply → ⊥) → (kept : Option PlainReply) → IfSome kept IsKept → kept_reply kept ≡ []
none_kept IsKept never None is = refl
none_kept IsKept never (Some reply) is = absurd (never reply is)

-- the ask that is awaited is one of those that the open line sends
none_awaited : (waits : Bool) (asks : List (ℕ × Sent)) (place : ℕ) (ask : ℕ × Sent) → asks ≡ [] → (if waits then slice_get asks place else None) ≡ Some ask → ⊥
none_awaited waits asks place ask none is =
    none-some ask (sym (slice_get_past [] place (omega arith)) ∙ ap (λ those. slice_get those place) (sym none) ∙ (awaited_at waits (slice_get asks place) ask is).1)

module _ (table : List (List ℕ)) (workers : ℕ) (client : Client) (origin : Knowledge) (plan : SessionPlan) (session : Lists) (ended : HasEnded table workers client origin plan session) where
  -- no line is open, so there are no requests of one
  none_open : open_most session.course ≡ []
  none_open =
      let whole = ended.whole in
      ap (λ line. unwrap_or (option_map (most_sent session.course.table session.course.client (state_now session.course) (session.course.asks + 1)) line) [])
      (slice_get_past session.course.lines (length session.course.answers) (omega (arith, whole)))

  -- so none of them was sent
  pub none_sent : open_sent session.course ≡ []
  none_sent = ap (take session.course.out) none_open ∙ take_all session.course.out [] (omega arith)

  -- the replies to its lines
  abbrev pub its_replies : List (List PlainReply)
  its_replies = ended.share.replies

  -- they answer its lines, by a table, a client, what it knew at its start, and lines
  abbrev Answered : List (List ℕ) → Client → Origin → List Line → Type 0
  Answered placed of_client known lines = AreAnswered placed of_client (start (known_at_start known)) 1 lines session.course.answers its_replies

  -- and what its lines send by these
  abbrev sends : List (List ℕ) → Client → Origin → List Line → List (ℕ × Sent)
  sends placed of_client known lines = requests_of placed of_client (known_at_start known) (map length its_replies) lines session.course.answers

  -- so by those of the script
  pub answered : AreAnswered table client (start origin) 1 plan.lines session.course.answers its_replies
  answered =
      subst (λ placed. Answered placed client (Knew origin) plan.lines) ended.table_is
      (subst (λ of_client. Answered session.course.table of_client (Knew origin) plan.lines) ended.client_is
      (subst (λ known. Answered session.course.table session.course.client known plan.lines) ended.origin_is
      (subst (Answered session.course.table session.course.client session.course.origin) ended.lines_are ended.share.answered)))

  sends_are : sends session.course.table session.course.client session.course.origin session.course.lines ≡ sends table client (Knew origin) plan.lines
  sends_are = λ j. sends (ended.table_is j) (ended.client_is j) (ended.origin_is j) (ended.lines_are j)

  -- all its lines are answered
  pub whole : length session.course.answers ≡ length plan.lines
  whole = ended.whole ∙ ap length ended.lines_are

  -- what it sent to each worker is what its lines send there
  pub sent_to : (worker : ℕ) → IsOneOf workers worker
      → slice_index_or session.sent (worker - 1) [] ≡ to_worker worker (requests_of table client origin (map length its_replies) plan.lines session.course.answers)
  sent_to worker within =
      let asked = ended.asked in
      ended.share.sent worker (within.0, omega (arith, within.1, asked))
      ∙ ap (to_worker worker) (ap (λ more. sends session.course.table session.course.client session.course.origin session.course.lines ++ more) none_sent
      ∙ append-nil (sends session.course.table session.course.client session.course.origin session.course.lines) ∙ sends_are)

  -- it took no reply to an ask of an open line, and keeps none
  no_more : ended.share.lacking ++ kept_reply session.course.kept ≡ []
  no_more =
      let lacking : ended.share.lacking ≡ [] =
      fits_none IsReplyTo (take (length ended.share.lacking) (open_most session.course)) ended.share.lacking
      (ap (take (length ended.share.lacking)) none_open ∙ take_all (length ended.share.lacking) [] (omega arith)) ended.share.lacking_are.asked
      in
      let kept : kept_reply session.course.kept ≡ [] =
      none_kept _ (λ reply is. none_awaited session.course.waits (open_most session.course) (session.course.out - 1) is.0.0 none_open is.0.1) session.course.kept ended.share.kept
      in
      λ j. lacking j ++ kept j

  -- of what it took the replies to its lines are a part
  pub part_taken : IsPartOf (in_all its_replies) (map (λ message. message.1) session.received)
  part_taken =
      subst (λ part. IsPartOf part (map (λ message. message.1) session.received))
      (append_assoc (in_all its_replies) ended.share.lacking (kept_reply session.course.kept) ∙ ap (λ more. in_all its_replies ++ more) no_more ∙ append-nil (in_all its_replies))
      ended.share.received
