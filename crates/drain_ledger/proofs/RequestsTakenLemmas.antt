-- What the workers' boxes of requests know once they took in the senders of the ended sessions, and what they received once nothing is left to do.
use Rattle.std.specs.Prelude.{◌≡◌, ℕ, zero, suc, ◌+◌, ◌<◌, ◌^◌, false, IsTrue, Bool, List, [], ◌∷◌, All, length, map, slice_get, Option, Some}
use Rattle.std.proofs.Common.{◌∙◌, refl, sym, ap, subst, inl, inr, arith}
use Rattle.std.proofs.lemmas.Bool.{cases_lt}
use Rattle.std.proofs.lemmas.List.Elements.{All-nil}
use Rattle.std.proofs.lemmas.List.{length-map}
use Rattle.std.proofs.lemmas.Option.{slice_get_within}
use Rattle.mail_contract.specs.Boxes.{box_of}
use Rattle.mail_contract.specs.Parts.{Parts}
use Rattle.mail_contract.specs.Standing.{About, IsSettled, OfSent, Settled, Standing}
use Rattle.mail_contract.specs.Takes.{Answers, IsFront, IsFrontOfSent, from_sender}
use Rattle.placement.specs.Config.{IsOneOf}
use Rattle.session_known.specs.Session.{Knowledge}
use Rattle.session_known.specs.declared.report.Answer.{Answer}
use Rattle.session_known.specs.declared.script.Script.{Script}
use Rattle.session_known.specs.declared.script.SessionPlan.{SessionPlan}
use Rattle.session_proxy.specs.State as sessions
use Rattle.store_msg.specs.Reply.{PlainReply}
use Rattle.store_msg.specs.declared.ends.SessionEndsOver.{SessionEndsOver}
use Rattle.store_msg.specs.declared.request.Request.{Request}
use Rattle.worker_core.specs.State.{Entries, PlainWorker}
use Rattle.run_ledger.specs.Parties.{HaveEnded, known_then}
use Rattle.run_ledger.proofs.MessagesLemmas.{each_from}
use Rattle.party_turns.specs.Rows.{MayTakeAll, MayTakeIn, TakesAll, column}
use Rattle.drain_steps.specs.Settling.{TakesInRequests}
use Rattle.drain_steps.proofs.ChainLemmas.{Does, IsNumbered, IsSettledAs, TakenInAll, all_taken, may_all, others_stay}
use Rattle.drain_turns.specs.Ready.{AreReady}
use Rattle.party_turns.specs.Turning.{AreInRange, AreKnown, HasGoneOn, IsDone, IsKnown}
use Rattle.party_turns.proofs.GoingOnLemmas.{mates_stay}
use Rattle.drain_ledger.specs.Handed.{AreOfOneRun, lists_left}
use Rattle.party_turns.specs.Making.{IsOfScript, IsUnused}
use Rattle.party_turns.proofs.MakingLemmas.{made_mates}
use Rattle.party_turns.proofs.ItemsLemmas.{at_its_place, long_alike, mapped, there_is, there_too}

-- as many sessions left their ends as there are plans
as_many_left : {A S R : Type 0} (table : List (List ℕ)) (workers : ℕ) (ends : List Knowledge) (number : ℕ) (asked : S → List Request) (received : R → List (ℕ × PlainReply))
    (plans : List SessionPlan) (courses : List sessions.Course) (left : List (A × SessionEndsOver S R))
    → length courses ≡ length left → HaveEnded table workers ends number plans (lists_left asked received courses left) → length left ≡ length plans
as_many_left table workers ends number asked received [] [] [] same have = refl
as_many_left table workers ends number asked received (plan ∷ plans) [] left same have = absurd have
as_many_left table workers ends number asked received [] [] (its ∷ left) same have = absurd (omega (arith, same))
as_many_left table workers ends number asked received plans (course ∷ courses) [] same have = absurd (omega (arith, same))
as_many_left table workers ends number asked received [] (course ∷ courses) (its ∷ left) same have = absurd have
as_many_left table workers ends number asked received (plan ∷ plans) (course ∷ courses) (its ∷ left) same have =
    let rest = as_many_left table workers ends (number + 1) asked received plans courses left (omega (arith, same)) have.1 in
    omega (arith, rest)

-- what a sender that is settled sent is known, and what was received is a front of it, in the words for any sender
known_as : {M : Type 0} (complete : Bool) (standing : Standing M) (sent front : List M) → standing ≡ Settled sent → IsFront front sent
    → IsKnown complete standing × OfSent complete standing (λ all. IsFront front all)
known_as complete standing sent front is told = subst (λ its. IsKnown complete its × OfSent complete its (λ all. IsFront front all)) (sym is) (tt, told)

module _ {S T O Q G R SK TK OK QK GK RK : Type 0}
    {request_key : S → SK} {request_number : S → ℕ} {asked : S → List Request}
    {reply_key : T → TK} {reply_number : T → ℕ}
    {gossip_key : O → OK} {gossip_number : O → ℕ}
    {requests_key : Q → QK} {requests_pairs : QK → SK → ℕ → Type 0} {requests_senders : QK → ℕ} {requests_received : Q → List (ℕ × Request)}
    {requests_about : Q → ℕ → About Request}
    {in_key : G → GK} {in_pairs : GK → OK → ℕ → Type 0} {in_senders : GK → ℕ} {got : G → ℕ → ℕ → Option Entries} {in_about : G → ℕ → About Entries}
    {replies_key : R → RK} {replies_pairs : RK → TK → ℕ → Type 0} {replies_received : R → List (ℕ × PlainReply)} {replies_about : R → ℕ → About PlainReply}
    {script : Script} {workers : List (PlainWorker Q T O G)} {left : List (List Answer × SessionEndsOver S R)}
    (run : AreOfOneRun request_key request_number asked reply_key reply_number gossip_key gossip_number
    requests_key requests_pairs requests_senders requests_received requests_about
    in_key in_pairs in_senders got in_about replies_key replies_pairs replies_received replies_about script workers left) where
  -- as many sessions left their ends as the script has
  pub sessions_long : length left ≡ length script.sessions
  sessions_long = as_many_left run.table script.config.workers (known_then (lists_left asked replies_received run.courses left)) 1 asked replies_received script.sessions run.courses left
      (sym (length-map run.courses (λ course. course.answers)) ∙ ap length run.courses_are ∙ length-map left (λ its. its.0)) run.ended

  -- of which making the box of a worker is, and what it knows of its senders
  abbrev key_of : PlainWorker Q T O G → QK
  key_of worker = requests_key worker.ends.requests

  abbrev about_of : PlainWorker Q T O G → ℕ → About Request
  about_of worker = requests_about worker.ends.requests

  -- the senders of a session, and of each
  abbrev senders_of : List Answer × SessionEndsOver S R → List S
  senders_of its = its.1.requests.items

  abbrev rows : List (List S)
  rows = map senders_of left

  rows_long : length rows ≡ length left
  rows_long = length-map left (λ its. its.1.requests.items)

  -- of one number, the one after the session's place
  pub rows_numbered : IsNumbered request_number rows
  rows_numbered = run.requests.numbers

  -- each session has a sender for each worker
  pub sender_there : (place session : ℕ) (worker : PlainWorker Q T O G) (its : List Answer × SessionEndsOver S R)
      → slice_get workers place ≡ Some worker → slice_get left session ≡ Some its
      → (sender : S) × (slice_get its.1.requests.items place ≡ Some sender)
  sender_there place session worker its here there =
      let within = slice_get_within workers place worker here in
      let long = at_its_place (λ senders. length senders + 0 ≡ length workers) rows session its.1.requests.items run.requests.many
      (mapped senders_of left session its there) in
      there_is its.1.requests.items place (omega (arith, within, long))

  -- the session of a number left its ends
  pub entry_of : (n : ℕ) → IsOneOf (length script.sessions) n
      → (session : ℕ) × (n ≡ session + 1) × (its : List Answer × SessionEndsOver S R) × (slice_get left session ≡ Some its)
  entry_of zero within = absurd (omega (arith, within.0))
  entry_of (suc session) within = let there = there_is left session (omega (arith, within.1, sessions_long)) in (session, omega arith, there.0, there.1)

  module _ (keeps : Parts) (answers : Q → Answers) where
    -- a worker takes in a sender
    abbrev takes : S → PlainWorker Q T O G → PlainWorker Q T O G → Type 0
    takes sender before now =
        TakesInRequests requests_key keeps (box_of requests_received answers requests_about) (request_number sender) (asked sender) before now

    -- what was received is a front of what was sent
    abbrev Told : ℕ → List Request → PlainWorker Q T O G → Type 0
    Told n messages worker = IsFront (from_sender n (requests_received worker.ends.requests)) messages

    -- all but what the box of requests knows of its senders stays
    abbrev Rest : PlainWorker Q T O G → PlainWorker Q T O G → Type 0
    Rest before now =
        (now ≡ record before { ends = record before.ends { requests = now.ends.requests } })
        × (requests_received now.ends.requests ≡ requests_received before.ends.requests)
        × (answers now.ends.requests ≡ answers before.ends.requests)

    does : Does request_number asked key_of about_of takes Told Rest
    does = record {
      one = λ s before now does. record {
        key_is = does.key_is;
        others = does.settles.others;
        its = record { settled = does.settles.settled; met = does.settles.met; told = does.settles.told };
      };
      told_before = λ n messages s before now does told. subst (λ all. IsFront (from_sender n all) messages) does.settles.received told;
      stays = λ party. (refl, refl, refl);
      onward = λ before between now first second. (
        second.0 ∙ ap {A = PlainWorker Q T O G} (λ w. record w { ends = record w.ends { requests = now.ends.requests } }) first.0,
        second.1 ∙ first.1,
        second.2 ∙ first.2,
      );
      rest = λ s before now does. (does.rest, does.settles.received, does.settles.answers);
    }

    -- a worker may take in the senders of all sessions
    pub may_take_requests : (place : ℕ) (worker : PlainWorker Q T O G) → slice_get workers place ≡ Some worker
        → MayTakeAll (λ one sender. MayTakeIn requests_pairs (key_of one) (about_of one) (request_key sender) (request_number sender))
        takes (column false 0 rows place) worker
    may_take_requests place worker here =
        may_all request_number asked key_of about_of takes Told Rest does
        request_key requests_pairs false rows place rows_numbered worker
        (λ row senders s row_is kept sender_is. (
          run.requests.paired row place senders s worker row_is here kept sender_is,
          λ settled. run.requests.not_taken_in row place worker (slice_get_within rows row senders row_is) here kept
              (subst (λ n. IsSettled (requests_about worker.ends.requests n).standing)
              (at_its_place (λ one. request_number one ≡ row + 1) senders place s (rows_numbered row senders row_is) sender_is) settled),
        ))

    module _ (taken : List (PlainWorker Q T O G)) (long : length taken ≡ length workers)
        (took : (place : ℕ) (before now : PlainWorker Q T O G) → slice_get workers place ≡ Some before → slice_get taken place ≡ Some now
        → TakesAll takes (column false 0 rows place) before now) where
      taken_in : (place : ℕ) (before now : PlainWorker Q T O G) → slice_get workers place ≡ Some before → slice_get taken place ≡ Some now
          → TakenInAll request_number asked key_of about_of takes Told Rest false rows place before now
      taken_in place before now was is =
          all_taken request_number asked key_of about_of takes Told Rest does
          false rows place rows_numbered before now (took place before now was is)

      -- nothing changed but the boxes of requests
      pub only_requests : (place : ℕ) (before now : PlainWorker Q T O G) → slice_get workers place ≡ Some before → slice_get taken place ≡ Some now
          → now ≡ record before { ends = record before.ends { requests = now.ends.requests } }
      only_requests place before now was is = (taken_in place before now was is).rest.0

      -- these received what they had
      pub same_received : (place : ℕ) (before now : PlainWorker Q T O G) → slice_get workers place ≡ Some before → slice_get taken place ≡ Some now
          → requests_received now.ends.requests ≡ requests_received before.ends.requests
      same_received place before now was is = (taken_in place before now was is).rest.1

      -- and are of the same making
      pub same_key : (place : ℕ) (before now : PlainWorker Q T O G) → slice_get workers place ≡ Some before → slice_get taken place ≡ Some now
          → requests_key now.ends.requests ≡ requests_key before.ends.requests
      same_key place before now was is = (taken_in place before now was is).key_is

      -- what it keeps itself, and its other ends, are as they were
      same_state : (place : ℕ) (before now : PlainWorker Q T O G) → slice_get workers place ≡ Some before → slice_get taken place ≡ Some now
          → now.state ≡ before.state
      same_state place before now was is = ap (λ (one : PlainWorker Q T O G). one.state) (only_requests place before now was is)

      same_replies : (place : ℕ) (before now : PlainWorker Q T O G) → slice_get workers place ≡ Some before → slice_get taken place ≡ Some now
          → now.ends.replies ≡ before.ends.replies
      same_replies place before now was is = ap (λ (one : PlainWorker Q T O G). one.ends.replies) (only_requests place before now was is)

      same_gossip_out : (place : ℕ) (before now : PlainWorker Q T O G) → slice_get workers place ≡ Some before → slice_get taken place ≡ Some now
          → now.ends.gossip_out ≡ before.ends.gossip_out
      same_gossip_out place before now was is = ap (λ (one : PlainWorker Q T O G). one.ends.gossip_out) (only_requests place before now was is)

      same_gossip_in : (place : ℕ) (before now : PlainWorker Q T O G) → slice_get workers place ≡ Some before → slice_get taken place ≡ Some now
          → now.ends.gossip_in ≡ before.ends.gossip_in
      same_gossip_in place before now was is = ap (λ (one : PlainWorker Q T O G). one.ends.gossip_in) (only_requests place before now was is)

      -- the worker before it took in anything
      as_it_was : (place : ℕ) (now : PlainWorker Q T O G) → slice_get taken place ≡ Some now
          → (before : PlainWorker Q T O G) × (slice_get workers place ≡ Some before)
      as_it_was place now is = there_too workers taken place now long is

      settled_is : (place session : ℕ) (before now : PlainWorker Q T O G) (its : List Answer × SessionEndsOver S R) (sender : S)
          → slice_get workers place ≡ Some before → slice_get taken place ≡ Some now → slice_get left session ≡ Some its
          → slice_get its.1.requests.items place ≡ Some sender
          → IsSettledAs about_of Told (session + 1) (asked sender) before now
      settled_is place session before now its sender was is there its_sender =
          (taken_in place before now was is).each session its.1.requests.items sender (mapped senders_of left session its there) refl its_sender

      -- the sender of each session is settled as what it asked
      pub sent_is : (place session : ℕ) (now : PlainWorker Q T O G) (its : List Answer × SessionEndsOver S R) (sender : S)
          → slice_get taken place ≡ Some now → slice_get left session ≡ Some its → slice_get its.1.requests.items place ≡ Some sender
          → (requests_about now.ends.requests (session + 1)).standing ≡ Settled (asked sender)
      sent_is place session now its sender is there its_sender =
          let was = as_it_was place now is in (settled_is place session was.0 now its sender was.1 is there its_sender).settled

      -- and what was received of it is a front of that
      pub front_is : (place session : ℕ) (now : PlainWorker Q T O G) (its : List Answer × SessionEndsOver S R) (sender : S)
          → slice_get taken place ≡ Some now → slice_get left session ≡ Some its → slice_get its.1.requests.items place ≡ Some sender
          → IsFront (from_sender (session + 1) (requests_received now.ends.requests)) (asked sender)
      front_is place session now its sender is there its_sender =
          let was = as_it_was place now is in
          subst (λ all. IsFront (from_sender (session + 1) all) (asked sender)) (sym (same_received place was.0 now was.1 is))
          (settled_is place session was.0 now its sender was.1 is there its_sender).told

      -- of a sender that is none of a session nothing changed
      stays_unused : (place n : ℕ) (before now : PlainWorker Q T O G) → slice_get workers place ≡ Some before → slice_get taken place ≡ Some now
          → length script.sessions < n → IsOneOf (requests_senders (requests_key now.ends.requests)) n
          → IsUnused (requests_about now.ends.requests n) × (from_sender n (requests_received now.ends.requests) ≡ [])
      stays_unused place n before now was is past within =
          let stays : requests_about now.ends.requests n ≡ requests_about before.ends.requests n =
          others_stay request_number asked key_of about_of takes Told Rest does
          false rows place rows_numbered before now (took place before now was is) n
          (λ row senders s row_is kept sender_is same.
          let low = slice_get_within rows row senders row_is in omega (arith, low, same, past, rows_long, sessions_long))
          in
          elim ((run.request_boxes place before was).others n (subst (λ key. IsOneOf (requests_senders key) n) (same_key place before now was is) within)) [
            | inl session ↦ absurd (omega (arith, session.1, past))
            | inr unused ↦ (
              subst IsUnused (sym stays) unused.0,
              ap (from_sender n) (same_received place before now was is) ∙ unused.1,
            )
          ]

      -- it is known what a sender sent, and what was received of it is a front of that
      abbrev IsKnownFor : Bool → PlainWorker Q T O G → ℕ → Type 0
      IsKnownFor complete now n = IsKnown complete (about_of now n).standing × IsFrontOfSent complete (requests_received now.ends.requests) (about_of now) n

      of_session : (complete : Bool) (place n : ℕ) (now : PlainWorker Q T O G) → slice_get taken place ≡ Some now → IsOneOf (length script.sessions) n
          → IsKnownFor complete now n
      of_session complete place n now is within =
          let was = as_it_was place now is in
          let entry = entry_of n within in
          let sender = sender_there place entry.0 was.0 entry.2 was.1 entry.3 in
          subst (IsKnownFor complete now) (sym entry.1)
          (known_as complete (about_of now (entry.0 + 1)).standing (asked sender.0) (from_sender (entry.0 + 1) (requests_received now.ends.requests))
          (sent_is place entry.0 now entry.2 sender.0 is entry.3 sender.1) (front_is place entry.0 now entry.2 sender.0 is entry.3 sender.1))

      -- so of all senders of a box
      pub all_known : (complete : Bool) (place : ℕ) (now : PlainWorker Q T O G) → slice_get taken place ≡ Some now
          → AreKnown complete (requests_senders (requests_key now.ends.requests)) (requests_received now.ends.requests) (requests_about now.ends.requests)
      all_known complete place now is n within = elim (cases_lt (length script.sessions) n) [
        | inl past ↦
            let was = as_it_was place now is in
            let unused = stays_unused place n was.0 now was.1 is past within in
            known_as complete (requests_about now.ends.requests n).standing [] (from_sender n (requests_received now.ends.requests)) unused.0.nothing
            (subst (λ front. IsFront front []) (sym unused.1) refl)
        | inr low ↦ of_session complete place n now is (within.0, omega (arith, low))
      ]

      -- the workers are ready for their turns
      pub are_ready : (complete : Bool)
          → AreReady complete (λ its. requests_senders (requests_key its)) requests_received requests_about gossip_key gossip_number
          in_key in_pairs in_senders in_about taken
      are_ready complete = record {
        are_mates =
            let few : length workers + 1 < 2 ^ 16 = let most = run.valid.config.workers_most in omega (arith, most, run.as_many) in
            mates_stay workers taken long (λ place before now was is. record {
              me = ap (λ state. state.me) (same_state place before now was is);
              keys = ap (λ senders. map gossip_key senders.items) (same_gossip_out place before now was is);
              numbers = ap (λ senders. map gossip_number senders.items) (same_gossip_out place before now was is);
              box_key = ap in_key (same_gossip_in place before now was is);
            }) (made_mates in_about workers few (λ place worker there. (run.workers_are place worker there).me) run.gossip);
        known = λ place now is. all_known complete place now is;
        met = λ place now is sender within.
            let was = as_it_was place now is in
            let same = same_gossip_in place was.0 now was.1 is in
            elim ((run.gossip_boxes place was.0 was.1).others sender (subst (λ box. IsOneOf (in_senders (in_key box)) sender) same within)) [
              | inl mate ↦ inl ((mate.0.0, omega (arith, mate.0.1, run.as_many, long)), mate.1)
              | inr unused ↦ inr (subst (λ box. IsTrue (in_about box sender).met) (sym same) unused.0.met)
            ];
      }

      module _ {complete all_told : Bool} {replied : T → List PlainReply} (turned : List (PlainWorker Q T O G)) (as_long : length turned ≡ length taken)
          (gone : (place : ℕ) (before now : PlainWorker Q T O G) → slice_get taken place ≡ Some before → slice_get turned place ≡ Some now
          → HasGoneOn requests_key reply_key reply_number gossip_key gossip_number in_key complete requests_senders requests_received requests_about replied
          all_told in_senders got in_about before now) where
        -- the worker before its turns
        taken_before : (place : ℕ) (now : PlainWorker Q T O G) → slice_get turned place ≡ Some now
            → (before : PlainWorker Q T O G) × (slice_get taken place ≡ Some before)
        taken_before place now is = there_too taken turned place now as_long is

        -- through its turns a worker stays the one of the script
        pub stays_of_script : (place : ℕ) (now : PlainWorker Q T O G) → slice_get turned place ≡ Some now → IsOfScript script run.table place now
        stays_of_script place now is =
            let between = taken_before place now is in
            let was = as_it_was place between.0 between.1 in
            let first = run.workers_are place was.0 was.1 in
            let state = same_state place was.0 between.0 was.1 between.1 in
            let went = gone place between.0 now between.1 is in
            let sessions_stay : length now.ends.replies.items ≡ length was.0.ends.replies.items =
            long_alike reply_key between.0.ends.replies.items now.ends.replies.items went.keys.replies_keys
            ∙ ap (λ senders. length senders.items) (same_replies place was.0 between.0 was.1 between.1)
            in
            let mates_stay : length now.ends.gossip_out.items ≡ length was.0.ends.gossip_out.items =
            long_alike gossip_key between.0.ends.gossip_out.items now.ends.gossip_out.items went.keys.gossip_out_keys
            ∙ ap (λ senders. length senders.items) (same_gossip_out place was.0 between.0 was.1 between.1)
            in
            let mates = first.mates in
            record {
              me = went.fixed.me ∙ ap (λ its. its.me) state ∙ first.me;
              round = went.fixed.round ∙ ap (λ its. its.round) state ∙ first.round;
              placement = went.fixed.placement ∙ ap (λ its. its.placement) state ∙ first.placement;
              kinds = went.fixed.kinds ∙ ap (λ its. its.kinds) state ∙ first.kinds;
              sessions = sessions_stay ∙ first.sessions;
              mates = omega (arith, mates_stay, mates);
            }

        module _ (done : (place : ℕ) (now : PlainWorker Q T O G) → slice_get turned place ≡ Some now
            → IsDone keeps (box_of requests_received answers requests_about) now) where
          all_of_settled : (place n : ℕ) (now before : PlainWorker Q T O G) (sent : List Request) → slice_get turned place ≡ Some now
              → slice_get taken place ≡ Some before
              → (requests_about before.ends.requests n).standing ≡ Settled sent → from_sender n (requests_received now.ends.requests) ≡ sent
          all_of_settled place n now before sent is was settled =
              subst (λ standing. OfSent keeps.complete standing (λ all. from_sender n (requests_received now.ends.requests) ≡ all))
              (((gone place before now was is).stand n).0 ∙ settled) ((done place now is).no_request.none n)

          -- all that a session sent came
          pub all_came : (place session : ℕ) (now : PlainWorker Q T O G) (its : List Answer × SessionEndsOver S R) (sender : S)
              → slice_get turned place ≡ Some now → slice_get left session ≡ Some its → slice_get its.1.requests.items place ≡ Some sender
              → from_sender (session + 1) (requests_received now.ends.requests) ≡ asked sender
          all_came place session now its sender is there its_sender =
              let before = taken_before place now is in
              all_of_settled place (session + 1) now before.0 (asked sender) is before.1 (sent_is place session before.0 its sender before.1 there its_sender)

          -- and all that came was sent by sessions
          pub of_sessions : (place : ℕ) (now : PlainWorker Q T O G) → slice_get turned place ≡ Some now
              → All (λ message. IsOneOf (length script.sessions) message.0) (requests_received now.ends.requests)
          of_sessions place now is =
              let between = taken_before place now is in
              let was = as_it_was place between.0 between.1 in
              let went = gone place between.0 now between.1 is in
              let boxes = run.request_boxes place was.0 was.1 in
              let key = same_key place was.0 between.0 was.1 between.1 in
              let received = same_received place was.0 between.0 was.1 between.1 in
              let in_range : AreInRange (requests_senders (requests_key between.0.ends.requests)) (requests_received between.0.ends.requests) =
              subst (λ its. AreInRange (requests_senders its) (requests_received between.0.ends.requests)) (sym key)
              (subst (AreInRange (requests_senders (requests_key was.0.ends.requests))) (sym received) boxes.in_range)
              in
              each_from (λ n message. IsOneOf (length script.sessions) n) (IsOneOf (requests_senders (requests_key now.ends.requests)))
              (requests_received now.ends.requests)
              (λ n within. elim (cases_lt (length script.sessions) n) [
                | inl past ↦
                    let unused =
                    stays_unused place n was.0 between.0 was.1 between.1 past (subst (λ its. IsOneOf (requests_senders its) n) went.keys.requests_key within)
                    in
                    subst (All (λ message. IsOneOf (length script.sessions) n)) (sym (all_of_settled place n now between.0 [] is between.1 unused.0.nothing))
                    (All-nil (λ message. IsOneOf (length script.sessions) n))
                | inr low ↦ λ at none here. (within.0, omega (arith, low))
              ]) (went.in_range in_range)
