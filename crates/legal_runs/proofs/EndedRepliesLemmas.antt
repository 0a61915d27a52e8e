-- What an ended session heard of each worker are all the replies that the worker sent it, and all of them are replies to its lines.
use Rattle.std.specs.Prelude.{◌≡◌, ℕ, ◌≤◌, ◌==◌, true, false, if◌then◌else◌, List, [], ◌∷◌, All, length, map}
use Rattle.std.proofs.Common.{◌∙◌, refl, sym, ap, subst, arith}
use Rattle.std.proofs.lemmas.List.{take_all}
use Rattle.std.proofs.lemmas.List.Elements.{All-head, All-map, All-tail}
use Rattle.std.proofs.lemmas.Slice.Zip.{AllZip-long}
use Rattle.mail_contract.proofs.FrontLemmas.{front_short}
use Rattle.mail_contract.specs.Takes.{IsFront, from_sender}
use Rattle.mail_contract.proofs.WovenLemmas.{from_sender_here}
use Rattle.session_known.specs.Requests.{requests_of}
use Rattle.session_known.specs.declared.report.Report.{Report}
use Rattle.session_known.specs.declared.script.Script.{Script}
use Rattle.session_proxy.specs.Run.{IsPartOf, none, with_it, without}
use Rattle.session_proxy.specs.Share.{to_worker}
use Rattle.session_proxy.specs.State as sessions
use Rattle.store_msg.specs.Reply.{PlainReply}
use Rattle.worker_core.specs.Share.{IsReplyBy, gets_after}
use Rattle.run_ledger.proofs.MessagesLemmas.{each_from}
use Rattle.run_ledger.specs.Parties.{AreDrained, HasEnded, IsSealed, Parties, SealedWorker, sealed_at, session_at}
use Rattle.legal_runs.proofs.EndedSessionsLemmas.{answered, its_replies, part_taken, sent_to}
use Rattle.run_ledger.proofs.ByWorkerLemmas.{all_by_worker, by_worker, from_worker, in_all, part_few}
use Rattle.run_ledger.proofs.GetsLemmas.{as_many_gets, gets_in, lines_as_many}
use Rattle.run_ledger.proofs.HeldLemmas.{own_taken}
use Rattle.legal_runs.proofs.PartiesLemmas.{ended, me_is, of_session, sealed}
use Rattle.legal_runs.proofs.SealedLemmas.{replied, replied_to, replying}
use Rattle.legal_runs.proofs.SessionsLemmas.{IsSession, client_at, lines_at, origin_at, plan_at, start_at}
use Rattle.run_ledger.proofs.WorkersLemmas.{IsWorker}

-- and where it has of each no less, it is the whole
part_is_whole : (InRange : ℕ → Type 0) {part whole : List PlainReply} → IsPartOf part whole → All (λ reply. InRange reply.worker) whole
    → ((worker : ℕ) → InRange worker → length (from_worker worker whole) ≤ length (from_worker worker part)) → part ≡ whole
part_is_whole InRange none range few = refl
part_is_whole InRange (without x {part = part} {whole = whole} is) range few =
    let all = few x.worker (All-head (λ (reply : PlainReply). InRange reply.worker) x whole range) in
    let one_more = ap length (from_sender_here x.worker (x.worker, x) (by_worker whole) refl) in
    let less = part_few is x.worker in
    absurd (omega (arith, all, one_more, less))
part_is_whole InRange (with_it x {part = part} {whole = whole} is) range few =
    ap (λ rest. x ∷ rest)
    (part_is_whole InRange is (All-tail (λ (reply : PlainReply). InRange reply.worker) x whole range) (λ worker within.
    elim (x.worker == worker) as
    (λ own. length (if own then x ∷ from_worker worker whole else from_worker worker whole) ≤ length (if own then x ∷ from_worker worker part else from_worker worker part)
    → length (from_worker worker whole) ≤ length (from_worker worker part)) [
      | true ↦ λ both. omega (arith, both)
      | false ↦ λ both. both
    ] (few worker within)))

module _ (script : Script) (table : List (List ℕ)) (report : Report) (parties : Parties) (drained : AreDrained script table report parties) (session : ℕ) (within : IsSession script session) where
  abbrev of_it : sessions.Lists
  of_it = session_at parties session

  abbrev has_ended : HasEnded table script.config.workers (client_at script session) (origin_at script report session) (plan_at script session) of_it
  has_ended = ended script table report parties drained session within

  -- the replies to its lines, line by line
  abbrev pub replies_to : List (List PlainReply)
  replies_to = its_replies table script.config.workers (client_at script session) (origin_at script report session) (plan_at script session) of_it has_ended

  module _ (worker : ℕ) (is : IsWorker script worker) where
    abbrev of_worker : SealedWorker
    of_worker = sealed_at parties worker

    abbrev is_sealed : IsSealed script table of_worker
    is_sealed = sealed script table report parties drained worker is

    -- what came of it to a worker is what its lines send there
    pub came_to : from_sender session of_worker.lists.received
        ≡ to_worker worker (requests_of table (client_at script session) (origin_at script report session) (map length replies_to) (lines_at script session) of_it.course.answers)
    came_to = (drained.paired worker session is within).requests ∙ sent_to table script.config.workers (client_at script session) (origin_at script report session) (plan_at script session) of_it has_ended worker is

    -- the worker sent as many replies as there are to asks that went to it
    as_many_sent : length (replied_to of_worker session) ≡ length (from_worker worker (in_all replies_to))
    as_many_sent =
        AllZip-long (IsReplyBy of_worker.lists.state.me table script.kinds is_sealed.holds.joined) (gets_after session [] of_worker.lists.received) (replied_to of_worker session)
        (replied script table of_worker is_sealed session within)
        ∙ as_many_gets session [] of_worker.lists.received
        ∙ ap (λ those. length (gets_in those)) came_to
        ∙ lines_as_many worker table (client_at script session) (start_at script report session) 1 (lines_at script session) of_it.course.answers replies_to
        (answered table script.config.workers (client_at script session) (origin_at script report session) (plan_at script session) of_it has_ended)

    -- what was heard of it is a front of these
    front : IsFront (from_sender worker of_it.received) (replied_to of_worker session)
    front = (drained.paired worker session is within).replies

    -- so no more was heard of it than the replies to such asks
    few_heard : length (from_sender worker of_it.received) ≤ length (from_worker worker (in_all replies_to))
    few_heard = omega (arith, front_short (from_sender worker of_it.received) (replied_to of_worker session) front, as_many_sent)

    -- and they are of its number
    of_its_worker : All (λ reply. reply.worker ≡ worker) (from_sender worker of_it.received)
    of_its_worker =
        own_taken of_worker.lists is_sealed.share session (replying script table of_worker is_sealed session within) worker (me_is script table report parties drained worker is)
        (from_sender worker of_it.received) front

  -- it heard workers alone
  pub of_workers : All (λ message. IsWorker script message.0) of_it.received
  of_workers = of_session script table report parties drained (λ those. All (λ message. IsWorker script message.0) those.received) drained.of_workers session within

  -- each of whom sent replies of its own
  own : All (λ message. message.1.worker ≡ message.0) of_it.received
  own = each_from (λ worker (reply : PlainReply). reply.worker ≡ worker) (IsWorker script) of_it.received of_its_worker of_workers

  -- each message is its worker's reply
  heard_is : of_it.received ≡ by_worker (map (λ message. message.1) of_it.received)
  heard_is = all_by_worker of_it.received own

  -- all that was heard are replies to the session's lines
  pub all_heard : in_all replies_to ≡ map (λ message. message.1) of_it.received
  all_heard =
      part_is_whole (IsWorker script) (part_taken table script.config.workers (client_at script session) (origin_at script report session) (plan_at script session) of_it has_ended)
      (All-map (λ (reply : PlainReply). IsWorker script reply.worker) (λ (message : ℕ × PlainReply). message.1) of_it.received
      (λ k d low. subst (IsWorker script) (sym (own k d low)) (of_workers k d low)))
      (λ worker is. subst (λ those. length (from_sender worker those) ≤ length (from_worker worker (in_all replies_to))) heard_is (few_heard worker is))

  -- so all that a worker sent was heard
  pub heard_of : (worker : ℕ) → IsWorker script worker → from_sender worker of_it.received ≡ replied_to (sealed_at parties worker) session
  heard_of worker is =
      let as_many : length (replied_to (sealed_at parties worker) session) ≡ length (from_sender worker of_it.received) =
      as_many_sent worker is ∙ ap (λ replies. length (from_worker worker replies)) all_heard ∙ ap (λ those. length (from_sender worker those)) (sym heard_is)
      in
      sym (front worker is) ∙ take_all (length (from_sender worker of_it.received)) (replied_to (sealed_at parties worker) session) (omega (arith, as_many))
