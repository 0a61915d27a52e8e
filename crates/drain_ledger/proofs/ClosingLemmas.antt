-- What the steps of a drain left makes a drained run: its report came from what is in hand, and is legal and causal.
use Rattle.std.specs.Prelude.{◌≡◌, ◌≢◌, ◌==◌, ℕ, zero, suc, ◌+◌, ◌-◌, ◌<◌, is_some, List, [], ◌∷◌, All, length, map, slice_get, slice_index_or, Option, Some, None}
use Rattle.std.specs.List.{list_any, range_with_len}
use Rattle.std.proofs.Common.{◌∙◌, refl, sym, ap, subst, arith}
use Rattle.std.proofs.lemmas.List.{length-map}
use Rattle.std.proofs.lemmas.Option.{slice_get_within}
use Rattle.mail_contract.specs.Got.{AreAll, AreIn}
use Rattle.mail_contract.specs.Standing.{About}
use Rattle.mail_contract.specs.Takes.{IsFront, from_sender}
use Rattle.merge_world.specs.Effects.{cells_at}
use Rattle.merge_world.specs.declared.private_map.KeyCells.{KeyCells}
use Rattle.placement.specs.Asked.{replicas_of}
use Rattle.placement.specs.Config.{IsOneOf}
use Rattle.session_known.specs.Form.{final_places}
use Rattle.session_known.specs.declared.report.Answer.{Answer}
use Rattle.session_known.specs.declared.report.FinalCell.{FinalCell}
use Rattle.session_known.specs.declared.report.Report.{Report}
use Rattle.session_known.specs.declared.script.Script.{Script}
use Rattle.session_proxy.specs.State as sessions
use Rattle.store_msg.specs.Reply.{PlainReply}
use Rattle.store_msg.specs.declared.ends.SessionEndsOver.{SessionEndsOver}
use Rattle.store_msg.specs.declared.request.Request.{Request}
use Rattle.worker_core.specs.Kept.{IsRequest}
use Rattle.worker_core.specs.Sealed.{PlainSealed, batch_kept}
use Rattle.worker_core.specs.Share.{HoldsReceived, Share, told_to}
use Rattle.worker_core.specs.State.{Entries, Lists, PlainWorker, dirty, kept_request, lists_of, lives_at, place_at}
use Rattle.run_ledger.specs.Came.{Came, IsSettled, IsWhole}
use Rattle.run_ledger.specs.Ledger.{Ledger, WorkerEnd, no_worker, worker_at}
use Rattle.run_ledger.proofs.EndedLemmas.{answered, known_are_ends}
use Rattle.run_ledger.specs.Parties.{AreDrained, ArePaired, AreMates, HaveEnded, IsSealed, Parties, SealedWorker, end_of, ledger_of, no_sealed, no_session, sealed_at, session_at}
use Rattle.legal_runs.proofs.DrainedLemmas.{drained_came}
use Rattle.legal_runs.proofs.LegalLemmas.{legal_and_causal}
use Rattle.legal_runs.proofs.PartiesLemmas.{at_mapped}
use Rattle.run_ledger.proofs.ByNumberLemmas.{from_first}
use Rattle.party_turns.specs.Mates.{IsMate}
use Rattle.drain_ledger.specs.Drained.{IsDrained, end_in, ledger_in}
use Rattle.drain_ledger.specs.Finals.{cells_of, finals_of}
use Rattle.drain_ledger.specs.Handed.{AreOfOneRun, left_of, lists_left, paired}
use Rattle.party_turns.specs.Making.{IsOfScript}
use Rattle.drain_ledger.proofs.FinalPlacesLemmas.{finals_whole, places_are}
use Rattle.drain_ledger.proofs.ListsLemmas.{all_paired, are_counted, first_of_paired, pair_at, second_of_paired}
use Rattle.party_turns.proofs.ItemsLemmas.{mapped_or, same_made, at_its_place, mapped, of_mapped, there_is}
use Rattle.drain_ledger.proofs.MatesLemmas.{IsHeardOut}
use Rattle.drain_ledger.proofs.RequestsTakenLemmas.{sessions_long}

-- the cells in hand are those of the workers
ends_cells : {Q G : Type 0} (received : Q → List (ℕ × Request)) (got : G → ℕ → ℕ → Option Entries) (those : List (PlainSealed Q G))
    → map (λ (end : WorkerEnd). end.cells) (map (end_in received got) those) ≡ map (λ (now : PlainSealed Q G). now.cells) those
ends_cells received got [] = refl
ends_cells received got (now ∷ those) = ap (λ rest. now.cells ∷ rest) (ends_cells received got those)

module _ {S T O Q G R SK TK OK QK GK RK : Type 0}
    {request_key : S → SK} {request_number : S → ℕ} {asked : S → List Request}
    {reply_key : T → TK} {reply_number : T → ℕ}
    {gossip_key : O → OK} {gossip_number : O → ℕ}
    {requests_key : Q → QK} {requests_pairs : QK → SK → ℕ → Type 0} {requests_senders : QK → ℕ} {requests_received : Q → List (ℕ × Request)} {requests_about : Q → ℕ → About Request}
    {in_key : G → GK} {in_pairs : GK → OK → ℕ → Type 0} {in_senders : GK → ℕ} {got : G → ℕ → ℕ → Option Entries} {in_about : G → ℕ → About Entries}
    {replies_key : R → RK} {replies_pairs : RK → TK → ℕ → Type 0} {replies_received : R → List (ℕ × PlainReply)} {replies_about : R → ℕ → About PlainReply}
    {script : Script} {workers : List (PlainWorker Q T O G)} {left : List (List Answer × SessionEndsOver S R)}
    (run : AreOfOneRun request_key request_number asked reply_key reply_number gossip_key gossip_number requests_key requests_pairs requests_senders requests_received requests_about
    in_key in_pairs in_senders got in_about replies_key replies_pairs replies_received replies_about script workers left)
    (replied : T → List PlainReply) (told : O → List Entries) (turned : List (PlainWorker Q T O G)) (heard : List (PlainSealed Q G)) (boxes : List R) (report : Report)
    (as_many_turned : length turned ≡ length workers) (as_many_heard : length heard ≡ length turned) (as_many_boxes : length boxes ≡ length left) where
  abbrev its_lists : PlainWorker Q T O G → Lists
  its_lists = lists_of requests_received replied told got

  module _ (of_script : (place : ℕ) (worker : PlainWorker Q T O G) → slice_get turned place ≡ Some worker → IsOfScript script run.table place worker)
      (shares : (place : ℕ) (worker : PlainWorker Q T O G) → slice_get turned place ≡ Some worker → Share (its_lists worker))
      (requests_are : (place : ℕ) (worker : PlainWorker Q T O G) → slice_get turned place ≡ Some worker → All (λ message. IsRequest message.1) (requests_received worker.ends.requests))
      (none_left : (place : ℕ) (worker : PlainWorker Q T O G) → slice_get turned place ≡ Some worker → dirty worker.state ≡ 0)
      (none_held : (place : ℕ) (worker : PlainWorker Q T O G) → slice_get turned place ≡ Some worker → worker.state.held ≡ None)
      (none_kept : (place : ℕ) (worker : PlainWorker Q T O G) → slice_get turned place ≡ Some worker → worker.state.kept ≡ None)
      (heard_out : (place : ℕ) (worker : PlainWorker Q T O G) (now : PlainSealed Q G) → slice_get turned place ≡ Some worker → slice_get heard place ≡ Some now → IsHeardOut requests_received got worker now)
      (of_sessions : (place : ℕ) (worker : PlainWorker Q T O G) → slice_get turned place ≡ Some worker → All (λ message. IsOneOf (length script.sessions) message.0) (requests_received worker.ends.requests))
      (of_mates : (place : ℕ) (now : PlainSealed Q G) → slice_get heard place ≡ Some now → (sender at : ℕ) (batch : Entries) → got now.gossip_in sender at ≡ Some batch → IsMate script.config.workers (place + 1) sender)
      (all_came : (place session : ℕ) (worker : PlainWorker Q T O G) (its : List Answer × SessionEndsOver S R) (sender : S) → slice_get turned place ≡ Some worker → slice_get left session ≡ Some its
      → slice_get its.1.requests.items place ≡ Some sender → from_sender (session + 1) (requests_received worker.ends.requests) ≡ asked sender)
      (fronts : (place session : ℕ) (worker : PlainWorker Q T O G) (its : List Answer × SessionEndsOver S R) → slice_get turned place ≡ Some worker → slice_get left session ≡ Some its
      → IsFront (from_sender (place + 1) (replies_received its.1.replies)) (slice_index_or (map replied worker.ends.replies.items) session []))
      (told_all : (place other : ℕ) (now : PlainSealed Q G) (teller : PlainWorker Q T O G) → slice_get heard place ≡ Some now → slice_get turned other ≡ Some teller → other ≢ place
      → AreIn (got now.gossip_in (other + 1)) (told_to (its_lists teller) (place_at (other + 1) (place + 1))) × AreAll (got now.gossip_in (other + 1)) (told_to (its_lists teller) (place_at (other + 1) (place + 1))))
      (boxes_are : (session : ℕ) (its : List Answer × SessionEndsOver S R) (box : R) → slice_get left session ≡ Some its → slice_get boxes session ≡ Some box → replies_received box ≡ replies_received its.1.replies)
      (answers_are : report.answers ≡ map (λ (its : List Answer × SessionEndsOver S R). its.0) left)
      (finals_are : report.finals ≡ finals_of (length script.config.keys) (map (λ (now : PlainSealed Q G). now.cells) heard)) where
    -- what is in hand of each worker, and of all
    abbrev sealed_from : PlainWorker Q T O G → PlainSealed Q G → SealedWorker
    sealed_from worker now = record { lists = its_lists worker; cells = now.cells; got = got now.gossip_in }

    abbrev parties : Parties
    parties = record { workers = paired sealed_from turned heard; sessions = lists_left asked replies_received run.courses left }

    -- each was sealed
    is_sealed : (place : ℕ) (worker : PlainWorker Q T O G) (now : PlainSealed Q G) → slice_get turned place ≡ Some worker → slice_get heard place ≡ Some now → IsSealed script run.table (sealed_from worker now)
    is_sealed place worker now there also =
        let its = of_script place worker there in
        let out = heard_out place worker now there also in
        record {
          placement_is = its.placement;
          kinds_are = its.kinds;
          mates = ap (λ n. n + 1) (length-map worker.ends.gossip_out.items told) ∙ its.mates;
          sessions = length-map worker.ends.replies.items replied ∙ its.sessions;
          share = shares place worker there;
          requests = requests_are place worker there;
          none_kept = ap kept_request (none_kept place worker there);
          none_held = none_held place worker there;
          none_left = none_left place worker there;
          keys = out.keys;
          holds = subst (λ kinds. HoldsReceived kinds now.cells (requests_received worker.ends.requests) [] (got now.gossip_in) []) (out.kinds ∙ its.kinds)
              (subst (λ requests. HoldsReceived now.kinds now.cells (requests_received requests) [] (got now.gossip_in) []) out.requests
              (subst (λ kept. HoldsReceived now.kinds now.cells (requests_received now.requests) [] (got now.gossip_in) (batch_kept kept)) out.none_kept out.holds));
          grown = out.got_more;
        }

    -- the worker of a place, from 0
    worker_there : (place : ℕ) → place < script.config.workers → (worker : PlainWorker Q T O G) × (slice_get turned place ≡ Some worker)
    worker_there place low = there_is turned place (let same = run.as_many in omega (arith, low, same, as_many_turned))

    now_there : (place : ℕ) → place < script.config.workers → (now : PlainSealed Q G) × (slice_get heard place ≡ Some now)
    now_there place low = there_is heard place (let same = run.as_many in omega (arith, low, same, as_many_turned, as_many_heard))

    sealed_there : (place : ℕ) (worker : PlainWorker Q T O G) (now : PlainSealed Q G) → slice_get turned place ≡ Some worker → slice_get heard place ≡ Some now → sealed_at parties (suc place) ≡ sealed_from worker now
    sealed_there place worker now there also = pair_at sealed_from turned heard no_sealed place worker now there also

    -- there are as many courses as sessions
    as_many_courses : length run.courses ≡ length left
    as_many_courses =
        sym (length-map run.courses (λ (course : sessions.Course). course.answers)) ∙ ap length run.courses_are ∙ length-map left (λ (its : List Answer × SessionEndsOver S R). its.0)

    -- what the session of a place left
    left_there : (place : ℕ) → place < length script.sessions → (its : List Answer × SessionEndsOver S R) × (slice_get left place ≡ Some its)
    left_there place low = there_is left place (omega (arith, low, sessions_long run))

    session_there : (place : ℕ) (its : List Answer × SessionEndsOver S R) → slice_get left place ≡ Some its
        → (course : sessions.Course) × (session_at parties (suc place) ≡ left_of asked replies_received course its)
    session_there place its there =
        let course = there_is run.courses place (let within = slice_get_within left place its there in omega (arith, within, as_many_courses)) in
        (course.0, pair_at (left_of asked replies_received) run.courses left no_session place course.0 its course.1 there)

    -- the numbers of the workers
    numbered : map (λ (worker : SealedWorker). worker.lists.state.me) parties.workers ≡ range_with_len 1 script.config.workers
    numbered =
        let numbers : List ℕ = map (λ (worker : PlainWorker Q T O G). worker.state.me) turned in
        let long : length numbers ≡ script.config.workers = length-map turned (λ (worker : PlainWorker Q T O G). worker.state.me) ∙ as_many_turned ∙ run.as_many in
        first_of_paired sealed_from (λ (worker : SealedWorker). worker.lists.state.me) (λ (worker : PlainWorker Q T O G). worker.state.me) turned heard as_many_heard (λ place worker now there also. refl)
        ∙ are_counted 1 numbers (λ place number is.
        let worker = of_mapped (λ (worker : PlainWorker Q T O G). worker.state.me) turned place number is in
        let me = (of_script place worker.0 worker.1).me in
        sym worker.2 ∙ (omega (arith, me)))
        ∙ ap (range_with_len 1) long

    -- what settling told of a worker and a session
    are_paired : (place session : ℕ) → place < script.config.workers → session < length script.sessions → ArePaired (suc place) (suc session) (sealed_at parties (suc place)) (session_at parties (suc session))
    are_paired place session low few =
        let worker = worker_there place low in
        let now = now_there place low in
        let its = left_there session few in
        let of_it = session_there session its.0 its.1 in
        let sender = there_is its.0.1.requests.items place (its_senders session its.0 its.1 place low) in
        let next : place + 1 ≡ suc place = omega arith in
        let next_session : session + 1 ≡ suc session = omega arith in
        let back : suc place - 1 ≡ place = omega arith in
        let back_session : suc session - 1 ≡ session = omega arith in
        subst (λ of_worker. ArePaired (suc place) (suc session) of_worker (session_at parties (suc session))) (sym (sealed_there place worker.0 now.0 worker.1 now.1))
        (subst (ArePaired (suc place) (suc session) (sealed_from worker.0 now.0)) (sym of_it.1) (record {
          requests = ap (λ n. from_sender n (requests_received worker.0.ends.requests)) (sym next_session) ∙ all_came place session worker.0 its.0 sender.0 worker.1 its.1 sender.1
              ∙ sym (mapped_or asked its.0.1.requests.items place sender.0 [] sender.1) ∙ ap (λ at. slice_index_or (map asked its.0.1.requests.items) at []) (sym back);
          replies = subst (λ n. IsFront (from_sender n (replies_received its.0.1.replies)) (slice_index_or (map replied worker.0.ends.replies.items) (suc session - 1) [])) next
              (subst (λ at. IsFront (from_sender (place + 1) (replies_received its.0.1.replies)) (slice_index_or (map replied worker.0.ends.replies.items) at [])) (sym back_session)
              (fronts place session worker.0 its.0 worker.1 its.1));
        }))
      where
        its_senders : (session : ℕ) (its : List Answer × SessionEndsOver S R) → slice_get left session ≡ Some its → (place : ℕ) → place < script.config.workers → place < length its.1.requests.items
        its_senders session its there place low =
            let all = at_its_place (λ senders. length senders + 0 ≡ length workers) (map (λ (its : List Answer × SessionEndsOver S R). its.1.requests.items) left) session its.1.requests.items run.requests.many
            (mapped (λ (its : List Answer × SessionEndsOver S R). its.1.requests.items) left session its there) in
            let same = run.as_many in
            omega (arith, all, same, low)

    -- and of two workers
    are_mates : (place other : ℕ) → place < script.config.workers → other < script.config.workers → other ≢ place → AreMates (suc place) (suc other) (sealed_at parties (suc place)) (sealed_at parties (suc other))
    are_mates place other low also apart =
        let worker = worker_there place low in
        let now = now_there place low in
        let teller = worker_there other also in
        let its_now = now_there other also in
        let next : place + 1 ≡ suc place = omega arith in
        let next_other : other + 1 ≡ suc other = omega arith in
        let tells = told_all place other now.0 teller.0 now.1 teller.1 apart in
        subst (λ hears. AreMates (suc place) (suc other) hears (sealed_at parties (suc other))) (sym (sealed_there place worker.0 now.0 worker.1 now.1))
        (subst (AreMates (suc place) (suc other) (sealed_from worker.0 now.0)) (sym (sealed_there other teller.0 its_now.0 teller.1 its_now.1)) (record {
          sent = subst (λ n. AreIn (got now.0.gossip_in n) (told_to (its_lists teller.0) (place_at n (suc place)))) next_other
              (subst (λ n. AreIn (got now.0.gossip_in (other + 1)) (told_to (its_lists teller.0) (place_at (other + 1) n))) next tells.0);
          all = subst (λ n. AreAll (got now.0.gossip_in n) (told_to (its_lists teller.0) (place_at n (suc place)))) next_other
              (subst (λ n. AreAll (got now.0.gossip_in (other + 1)) (told_to (its_lists teller.0) (place_at (other + 1) n))) next tells.1);
        }))

    -- the parties' own ledger is what is in hand
    abbrev in_hand : Ledger
    in_hand = ledger_in requests_received got replies_received heard boxes

    same_ledger : ledger_of parties ≡ in_hand
    same_ledger =
        let workers_are : map end_of parties.workers ≡ map (end_in requests_received got) heard =
        second_of_paired sealed_from end_of (end_in requests_received got) turned heard as_many_heard (λ place worker now there also.
        let out = heard_out place worker now there also in
        λ j. record { me = sym out.me j; cells = now.cells; received = requests_received (sym out.requests j); got = got now.gossip_in })
        in
        let heard_are : map (λ (lists : sessions.Lists). lists.received) parties.sessions ≡ map replies_received boxes =
        second_of_paired (left_of asked replies_received) (λ (lists : sessions.Lists). lists.received) (λ (its : List Answer × SessionEndsOver S R). replies_received its.1.replies) run.courses left (sym as_many_courses)
        (λ place x y is also. refl)
        ∙ same_made (λ (its : List Answer × SessionEndsOver S R). replies_received its.1.replies) replies_received left boxes as_many_boxes (λ place its box is also. sym (boxes_are place its box is also))
        in
        λ j. record { workers = workers_are j; heard = heard_are j }

    -- the cells of the sealed workers
    abbrev maps : List (List (Option KeyCells))
    maps = map (λ (now : PlainSealed Q G). now.cells) heard

    maps_long : length maps ≡ script.config.workers
    maps_long = length-map heard (λ (now : PlainSealed Q G). now.cells) ∙ as_many_heard ∙ as_many_turned ∙ run.as_many

    are_theirs : (worker : ℕ) → (worker_at in_hand worker).cells ≡ cells_of maps worker
    are_theirs worker =
        sym (at_mapped (λ (end : WorkerEnd). end.cells) no_worker (no_worker ∷ in_hand.workers) worker)
        ∙ ap (λ those. slice_index_or ([] ∷ those) worker []) (ends_cells requests_received got heard)

    -- each worker has cells of the keys that live there
    held : (key worker : ℕ) → IsOneOf (length script.config.keys) key → IsOneOf script.config.workers worker
        → is_some (cells_at (cells_of maps worker) key) ≡ list_any (λ replica. replica == worker) (replicas_of run.table key)
    held key zero is within = absurd (omega (arith, within.0))
    held key (suc place) is within =
        let low : place < script.config.workers = omega (arith, within.1) in
        let worker = worker_there place low in
        let now = now_there place low in
        let next : place + 1 ≡ suc place = omega arith in
        let its = of_script place worker.0 worker.1 in
        ap (λ cells. is_some (cells_at cells key)) (mapped_or (λ (now : PlainSealed Q G). now.cells) heard place now.0 [] now.1)
        ∙ (heard_out place worker.0 now.0 worker.1 now.1).keys key
        ∙ (shares place worker.0 worker.1).holds key
        ∙ (λ j. lives_at (its.placement j) ((its.me ∙ next) j) key)
        ∙ ap (list_any (λ replica. replica == suc place)) (from_first [] run.table key is.0)

    places : map (λ (cell : FinalCell). (cell.key, cell.worker)) report.finals ≡ final_places script run.table
    places = ap (map (λ (cell : FinalCell). (cell.key, cell.worker))) finals_are ∙ places_are script run.table maps maps_long held

    finals : All (IsWhole in_hand) report.finals
    finals = subst (All (IsWhole in_hand)) (sym finals_are) (finals_whole in_hand maps are_theirs (length script.config.keys))

    answers_in_hand : report.answers ≡ answered parties.sessions
    answers_in_hand = answers_are ∙ sym run.courses_are
        ∙ sym (first_of_paired (left_of asked replies_received) (λ (lists : sessions.Lists). lists.course.answers) (λ (course : sessions.Course). course.answers) run.courses left (sym as_many_courses)
        (λ place course its there also. refl))

    -- so the parties are drained
    are_drained : AreDrained script run.table report parties
    are_drained = record {
      numbered = numbered;
      workers = all_paired sealed_from (IsSealed script run.table) turned heard is_sealed;
      sessions = subst (λ ends. HaveEnded run.table script.config.workers ends 1 script.sessions parties.sessions) (known_are_ends script run.table report script.config.workers parties.sessions run.valid run.ended answers_in_hand) run.ended;
      of_sessions = all_paired sealed_from (λ worker. All (λ message. IsOneOf (length script.sessions) message.0) worker.lists.received) turned heard
          (λ place worker now there also. of_sessions place worker there);
      of_workers = all_paired (left_of asked replies_received) (λ lists. All (λ message. IsOneOf script.config.workers message.0) lists.received) run.courses left
          (λ place course its there also. run.reply_boxes place its also);
      of_mates = all_paired sealed_from (λ worker. (sender at : ℕ) (batch : Entries) → worker.got sender at ≡ Some batch → IsOneOf script.config.workers sender × (sender ≢ worker.lists.state.me)) turned heard
          (λ place worker now there also sender at batch is.
          let mate = of_mates place now also sender at batch is in
          (mate.0, λ same. mate.1 (same ∙ (of_script place worker there).me)));
      paired = pairs_are;
      mates = mates_are;
      answers = answers_in_hand;
      places = places;
      finals = subst (λ ledger. All (IsWhole ledger) report.finals) (sym same_ledger) finals;
    }
      where
        pairs_are : (worker session : ℕ) → IsOneOf script.config.workers worker → IsOneOf (length script.sessions) session → ArePaired worker session (sealed_at parties worker) (session_at parties session)
        pairs_are zero session is also = absurd (omega (arith, is.0))
        pairs_are (suc place) zero is also = absurd (omega (arith, also.0))
        pairs_are (suc place) (suc session) is also = are_paired place session (omega (arith, is.1)) (omega (arith, also.1))

        mates_are : (worker other : ℕ) → IsOneOf script.config.workers worker → IsOneOf script.config.workers other → other ≢ worker → AreMates worker other (sealed_at parties worker) (sealed_at parties other)
        mates_are zero other is also apart = absurd (omega (arith, is.0))
        mates_are (suc place) zero is also apart = absurd (omega (arith, also.0))
        mates_are (suc place) (suc other) is also apart = are_mates place other (omega (arith, is.1)) (omega (arith, also.1)) (λ same. apart (ap suc same))

    -- and so is the run
    pub is_drained : IsDrained script report in_hand
    is_drained =
        let settled = drained_came script run.table report parties run.valid are_drained in
        let came = subst (Came script run.table report) same_ledger settled.came in
        let gossip = subst (IsSettled run.table) same_ledger settled.settled in
        record {
          table = run.table;
          valid = run.valid;
          came = came;
          settled = gossip;
          is = legal_and_causal script run.table report in_hand run.valid came gossip;
        }
