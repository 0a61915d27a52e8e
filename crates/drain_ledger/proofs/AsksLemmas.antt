-- No reply is wanting: each worker sent each ended session as many replies as the session asked it for.
use Rattle.std.specs.Prelude.{◌≡◌, ℕ, zero, suc, ◌+◌, ◌-◌, ◌<◌, ◌≤◌, List, [], ◌∷◌, All, length, map, slice_get, slice_index_or, Option, Some}
use Rattle.std.proofs.Common.{◌∙◌, refl, sym, ap, subst, arith}
use Rattle.std.proofs.lemmas.List.{length-map}
use Rattle.std.proofs.lemmas.Option.{get_or_from_slice_get, slice_get_within}
use Rattle.mail_contract.proofs.FrontLemmas.{front_short}
use Rattle.mail_contract.specs.Parts.{Parts}
use Rattle.mail_contract.specs.Standing.{About, Settled}
use Rattle.mail_contract.specs.Takes.{IsFront, from_sender}
use Rattle.placement.specs.Config.{IsOneOf}
use Rattle.session_known.specs.Accepted.{client_of, origin_of}
use Rattle.session_known.specs.Session.{Client, Knowledge}
use Rattle.session_known.specs.declared.report.Answer.{Answer}
use Rattle.session_known.specs.declared.script.Script.{Script}
use Rattle.session_known.specs.declared.script.SessionPlan.{SessionPlan}
use Rattle.session_proxy.specs.Share.{open_sent}
use Rattle.session_proxy.specs.State as sessions
use Rattle.store_msg.specs.Reply.{PlainReply}
use Rattle.store_msg.specs.declared.ends.SessionEndsOver.{SessionEndsOver}
use Rattle.store_msg.specs.declared.request.Request.{Request}
use Rattle.worker_core.specs.Share.{Share}
use Rattle.worker_core.specs.State.{Entries, PlainWorker, lists_of}
use Rattle.run_ledger.proofs.MessagesLemmas.{each_from}
use Rattle.run_ledger.specs.Parties.{HasEnded, HaveEnded, known_then}
use Rattle.legal_runs.proofs.EndedSessionsLemmas.{none_sent}
use Rattle.run_ledger.proofs.GetsLemmas.{gets_in, gets_to}
use Rattle.run_ledger.proofs.HeldLemmas.{own_taken}
use Rattle.run_ledger.proofs.ByNumberLemmas.{by_number}
use Rattle.run_ledger.proofs.UnheardLemmas.{few_unheard}
use Rattle.drain_turns.specs.Ready.{AreReplied, FindPlaces, FreesPlaces}
use Rattle.party_turns.specs.Turning.{known_sent}
use Rattle.drain_ledger.specs.Handed.{AreFrontsOfSent, AreOfOneRun, lists_left}
use Rattle.party_turns.proofs.ItemsLemmas.{mapped, there_is}

-- what a worker replied to the session at a place
abbrev replied_to : {Q T O G : Type 0} → (T → List PlainReply) → PlainWorker Q T O G → ℕ → List PlainReply
replied_to replied worker session = slice_index_or (map replied worker.ends.replies.items) session []

-- how far a session came, and what went through the ends that it left
abbrev lists_of_it : {A S R : Type 0} → (S → List Request) → (R → List (ℕ × PlainReply)) → sessions.Course → A × SessionEndsOver S R → sessions.Lists
lists_of_it asked received course its = record { course = course; sent = map asked its.1.requests.items; received = received its.1.replies }

module _ (table : List (List ℕ)) (workers : ℕ) (client : Client) (origin : Knowledge) (plan : SessionPlan) (session : sessions.Lists) (ended : HasEnded table workers client origin plan session) where
  -- An ended session, all of whose messages are replies of their senders, received of each worker at least as many as it asked it for.
  few_asked : All (λ message. message.1.worker ≡ message.0) session.received → (worker : ℕ) → IsOneOf workers worker
      → length (gets_in (slice_index_or session.sent (worker - 1) [])) ≤ length (from_sender worker session.received)
  few_asked own worker within =
      let asked = ended.asked in
      let none : gets_to worker (open_sent session.course) ≡ 0 = ap (gets_to worker) (none_sent table workers client origin plan session ended) in
      let few = few_unheard session ended.share worker (within.0, omega (arith, within.1, asked)) own 0 (omega (arith, none)) in
      omega (arith, few)

module _ {A S R : Type 0} (asked : S → List Request) (received : R → List (ℕ × PlainReply)) (table : List (List ℕ)) (workers : ℕ) where
  -- The session at a place, by what it left, has ended.
  record HasLeft (left : List (A × SessionEndsOver S R)) (place : ℕ) : Type 0 where
    client : Client
    origin : Knowledge
    plan : SessionPlan
    course : sessions.Course
    its : A × SessionEndsOver S R
    its_is : slice_get left place ≡ Some its
    ended : HasEnded table workers client origin plan (lists_of_it asked received course its)

  -- where all have ended, each has
  has_left : (ends : List Knowledge) (number : ℕ) (plans : List SessionPlan) (courses : List sessions.Course) (left : List (A × SessionEndsOver S R))
      → HaveEnded table workers ends number plans (lists_left asked received courses left) → (place : ℕ) → place < length plans → HasLeft left place
  has_left ends number (plan ∷ plans) (course ∷ courses) (its ∷ left) have zero within =
      record { client = client_of number plan; origin = origin_of ends plan.after; plan = plan; course = course; its = its; its_is = refl; ended = have.0 }
  has_left ends number (plan ∷ plans) (course ∷ courses) (its ∷ left) have (suc place) within =
      let later = has_left ends (number + 1) plans courses left have.1 place (omega (arith, within)) in
      record { client = later.client; origin = later.origin; plan = later.plan; course = later.course; its = later.its; its_is = later.its_is; ended = later.ended }
  has_left ends number [] courses left have place within = absurd (omega (arith, within))
  has_left ends number (plan ∷ plans) [] left have place within = absurd have
  has_left ends number (plan ∷ plans) (course ∷ courses) [] have place within = absurd have

module _ {S T O Q G R SK TK OK QK GK RK : Type 0}
    {request_key : S → SK} {request_number : S → ℕ} {asked : S → List Request}
    {reply_key : T → TK} {reply_number : T → ℕ}
    {gossip_key : O → OK} {gossip_number : O → ℕ}
    {requests_key : Q → QK} {requests_pairs : QK → SK → ℕ → Type 0} {requests_senders : QK → ℕ}
    {requests_received : Q → List (ℕ × Request)} {requests_about : Q → ℕ → About Request}
    {in_key : G → GK} {in_pairs : GK → OK → ℕ → Type 0} {in_senders : GK → ℕ}
    {got : G → ℕ → ℕ → Option Entries} {in_about : G → ℕ → About Entries}
    {replies_key : R → RK} {replies_pairs : RK → TK → ℕ → Type 0} {replies_received : R → List (ℕ × PlainReply)} {replies_about : R → ℕ → About PlainReply}
    {script : Script} {workers : List (PlainWorker Q T O G)} {left : List (List Answer × SessionEndsOver S R)}
    (run : AreOfOneRun request_key request_number asked reply_key reply_number gossip_key gossip_number
    requests_key requests_pairs requests_senders requests_received requests_about in_key in_pairs in_senders got in_about
    replies_key replies_pairs replies_received replies_about script workers left) where
  -- Each session has ended.
  each_left : (session : ℕ) → session < length script.sessions → HasLeft asked replies_received run.table script.config.workers left session
  each_left = has_left asked replies_received run.table script.config.workers (known_then (lists_left asked replies_received run.courses left)) 1 script.sessions run.courses left run.ended

  module _ {replied : T → List PlainReply} {told : O → List Entries}
      (shares : (place : ℕ) (worker : PlainWorker Q T O G) → slice_get workers place ≡ Some worker → Share (lists_of requests_received replied told got worker))
      (fronts : AreFrontsOfSent replied replies_received workers left) where
    module _ (session : ℕ) (its : List Answer × SessionEndsOver S R) (its_is : slice_get left session ≡ Some its) (within : session < length script.sessions) where
      -- what the session received of a worker are that one's replies
      of_its_worker : (place : ℕ) (worker : PlainWorker Q T O G) → slice_get workers place ≡ Some worker
          → All (λ reply. reply.worker ≡ place + 1) (from_sender (place + 1) (replies_received its.1.replies))
      of_its_worker place worker is =
          let of_script = run.workers_are place worker is in
          let long : length (map replied worker.ends.replies.items) ≡ length script.sessions = length-map worker.ends.replies.items replied ∙ of_script.sessions in
          let at : session ≡ session + 1 - 1 = omega arith in
          let heard : List PlainReply = from_sender (place + 1) (replies_received its.1.replies) in
          own_taken (lists_of requests_received replied told got worker) (shares place worker is) (session + 1) (omega arith, omega (arith, long, within))
          (place + 1) of_script.me heard (subst (λ at. IsFront heard (slice_index_or (map replied worker.ends.replies.items) at [])) at (fronts place session worker its is its_is))

      -- so of each
      of_each_worker : (number : ℕ) → IsOneOf script.config.workers number
          → All (λ reply. reply.worker ≡ number) (from_sender number (replies_received its.1.replies))
      of_each_worker number inside =
          let as_many = run.as_many in
          (by_number (λ n worker. All (λ (reply : PlainReply). reply.worker ≡ n) (from_sender n (replies_received its.1.replies))) workers of_its_worker
          number (inside.0, omega (arith, inside.1, as_many))).1

      -- so each message is a reply of its sender
      own : All (λ message. message.1.worker ≡ message.0) (replies_received its.1.replies)
      own = each_from (λ worker (reply : PlainReply). reply.worker ≡ worker) (IsOneOf script.config.workers) (replies_received its.1.replies)
          of_each_worker (run.reply_boxes session its its_is)

    -- What a session left, and its sender to a worker, which replied to it at least as often as it was asked to.
    record IsReplied (place session : ℕ) (worker : PlainWorker Q T O G) : Type 0 where
      its : List Answer × SessionEndsOver S R
      its_is : slice_get left session ≡ Some its
      sender : S
      sender_is : slice_get its.1.requests.items place ≡ Some sender
      enough : length (gets_in (asked sender)) ≤ length (replied_to replied worker session)

    -- each worker did so
    is_replied : (place session : ℕ) (worker : PlainWorker Q T O G) → slice_get workers place ≡ Some worker
        → session < length script.sessions → IsReplied place session worker
    is_replied place session worker is within =
        let it = each_left session within in
        let senders : List S = it.its.1.requests.items in
        let inside = slice_get_within workers place worker is in
        let as_many = run.as_many in
        let many = it.ended.asked in
        let there = there_is senders place (omega (arith, inside, as_many, many, length-map senders asked)) in
        let same : place + 1 - 1 ≡ place = omega arith in
        let sent : slice_index_or (map asked senders) (place + 1 - 1) [] ≡ asked there.0 =
        ap (λ i. slice_index_or (map asked senders) i []) same
        ∙ get_or_from_slice_get (map asked senders) place (asked there.0) [] (mapped asked senders place there.0 there.1)
        in
        let heard =
        few_asked run.table script.config.workers it.client it.origin it.plan (lists_of_it asked replies_received it.course it.its) it.ended
        (own session it.its it.its_is within) (place + 1) (omega arith, omega (arith, inside, as_many))
        in
        let few =
        front_short (from_sender (place + 1) (replies_received it.its.1.replies)) (replied_to replied worker session) (fronts place session worker it.its is it.its_is)
        in
        record {
          its = it.its;
          its_is = it.its_is;
          sender = there.0;
          sender_is = there.1;
          enough = omega (arith, ap (λ those. length (gets_in those)) sent, heard, few);
        }

    module _ (settled : List (PlainWorker Q T O G))
        (only_requests : (place : ℕ) (before now : PlainWorker Q T O G) → slice_get workers place ≡ Some before → slice_get settled place ≡ Some now
        → now ≡ record before { ends = record before.ends { requests = now.ends.requests } })
        (long : length settled ≡ length workers)
        (sent_is : (place session : ℕ) (now : PlainWorker Q T O G) (its : List Answer × SessionEndsOver S R) (sender : S)
        → slice_get settled place ≡ Some now → slice_get left session ≡ Some its → slice_get its.1.requests.items place ≡ Some sender
        → (requests_about now.ends.requests (session + 1)).standing ≡ Settled (asked sender))
        (same_key : (place : ℕ) (before now : PlainWorker Q T O G) → slice_get workers place ≡ Some before → slice_get settled place ≡ Some now
        → requests_key now.ends.requests ≡ requests_key before.ends.requests) where
      -- the worker that stood there before
      stood : (place : ℕ) (now : PlainWorker Q T O G) → slice_get settled place ≡ Some now
          → (before : PlainWorker Q T O G) × (slice_get workers place ≡ Some before)
      stood place now is = let inside = slice_get_within settled place now is in there_is workers place (omega (arith, inside, long))

      module _ (place : ℕ) (now : PlainWorker Q T O G) (is : slice_get settled place ≡ Some now) where
        -- its senders of replies are as they were, one for each session
        same_replies : now.ends.replies ≡ (stood place now is).0.ends.replies
        same_replies =
            let before = stood place now is in
            ap (λ (worker : PlainWorker Q T O G). worker.ends.replies) (only_requests place before.0 now before.1 is)

        as_many_sessions : length now.ends.replies.items ≡ length script.sessions
        as_many_sessions =
            let before = stood place now is in
            ap (λ replies. length replies.items) same_replies ∙ (run.workers_are place before.0 before.1).sessions

        -- so no reply is wanting
        all_replied : AreReplied requests_about replied now
        all_replied session within =
            let before = stood place now is in
            let many = as_many_sessions in
            let its = is_replied place (session - 1) before.0 before.1 (omega (arith, within.0, within.1, many)) in
            let same : session - 1 + 1 ≡ session = omega (arith, within.0) in
            let standing : (requests_about now.ends.requests session).standing ≡ Settled (asked its.sender) =
            subst (λ n. (requests_about now.ends.requests n).standing ≡ Settled (asked its.sender)) same
            (sent_is place (session - 1) now its.its its.sender is its.its_is its.sender_is)
            in
            let enough = its.enough in
            omega (
              arith,
              enough,
              ap (λ those. length (gets_in (known_sent those))) standing,
              ap (λ replies. length (slice_index_or (map replied replies.items) (session - 1) [])) same_replies,
            )

      -- Once the boxes of requests took in what the sessions sent, no reply is wanting, and senders find places where the mail frees them.
      pub find_places : {keeps : Parts} → FreesPlaces keeps → FindPlaces keeps requests_about replied (λ its. requests_senders (requests_key its)) settled
      find_places frees = record {
        frees = frees;
        replied = all_replied;
        senders_are = λ place now is session within.
            let before = stood place now is in
            let many = as_many_sessions place now is in
            subst (λ key. IsOneOf (requests_senders key) session) (sym (same_key place before.0 now before.1 is))
            ((run.request_boxes place before.0 before.1).there session (within.0, omega (arith, within.1, many)));
      }
