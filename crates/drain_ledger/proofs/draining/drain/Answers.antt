use Rattle.std.specs.Prelude.{◌≡◌, ℕ, ◌+◌, false, true, List, All, Vec, length, map, slice_get, Some}
use Rattle.std.specs.Global.{Global}
use Rattle.std.proofs.Common.{◌∙◌, sym, ap, arith, subst, inl, inr}
use Rattle.std.proofs.lemmas.List.{length-map}
use Rattle.std.proofs.lemmas.Option.{slice_get_within}
use Rattle.mail_contract.specs.Boxes.{box_of, weak_box_of}
use Rattle.session_known.specs.declared.report.Answer.{Answer}
use Rattle.store_msg.specs.declared.ends.SessionEndsOver.{SessionEndsOver}
use Rattle.worker_core.specs.Sealed.{PlainSealed, sealed_of}
use Rattle.worker_core.specs.Kept.{IsRequest}
use Rattle.worker_core.specs.Share.{Share}
use Rattle.worker_core.specs.State.{PlainWorker, kept_request, lists_of}
use Rattle.party_turns.specs.Rows.{MayTakeAll, MayTakeIn, TakesAll, column}
use Rattle.drain_steps.specs.Settling.{TakesInGossip, TakesInReplies, TakesInRequests}
use Rattle.drain_ledger.specs.Finals.{finals_of}
use Rattle.drain_ledger.proofs.AsksLemmas.{find_places}
use Rattle.drain_ledger.proofs.ClosingLemmas.{is_drained}
use Rattle.drain_ledger.proofs.FrontsSoundLemmas.{were_sound}
use Rattle.drain_ledger.proofs.MatesLemmas.{all_met, goes_on, heard_out, many_gossip, may_take_gossip, of_mates, told_all}
use Rattle.party_turns.proofs.ItemsLemmas.{all_there, at_its_place, made_of_made, mapped, of_mapped, there_too}
use Rattle.drain_ledger.proofs.RepliesTakenLemmas.{boxes_are, fronts, may_take_replies, replies_making}
use Rattle.drain_ledger.proofs.RequestsTakenLemmas.{all_came, are_ready, may_take_requests, of_sessions, only_requests, same_key, same_received, sent_is, stays_of_script}
use Rattle.drain_ledger.proofs.draining.drain.Given.{Over}
use Rattle.drain_ledger.proofs.draining.drain.Goals as goal

-- rows of vectors as rows of lists
rows_of : {X S : Type 0} (f : X → Vec S Global) (vectors : List (Vec S Global)) (xs : List X) → vectors ≡ map f xs → map (λ (those : Vec S Global). those.items) vectors ≡ map (λ x. (f x).items) xs
rows_of f vectors xs are = ap (map (λ those. those.items)) are ∙ made_of_made f (λ those. those.items) xs

many_of : {S : Type 0} (more n : ℕ) (vectors : List (Vec S Global)) (rows : List (List S)) → map (λ (those : Vec S Global). those.items) vectors ≡ rows → All (λ senders. length senders + more ≡ n) rows
    → All (λ (those : Vec S Global). length those.items + more ≡ n) vectors
many_of more n vectors rows are many = all_there (λ those. length those.items + more ≡ n) vectors (λ place those is.
    at_its_place (λ senders. length senders + more ≡ n) rows place those.items many (ap (λ all. slice_get all place) (sym are) ∙ mapped (λ those. those.items) vectors place those is))

module _ (g : Over) where
  abbrev Worker : Type 0
  Worker = PlainWorker g.row.Q.Denot g.row.T.Denot g.row.O.Denot g.row.G.Denot

  abbrev Sealed : Type 0
  Sealed = PlainSealed g.row.Q.Denot g.row.G.Denot

  abbrev Left : Type 0
  Left = List Answer × SessionEndsOver g.row.S.Denot g.row.R.Denot

  -- what it is to take in a sender, for a worker, a sealed worker and a box of replies
  abbrev TakesRequests : g.row.S.Denot → Worker → Worker → Type 0
  TakesRequests sender before now =
      TakesInRequests g.Q.Rx.key g.Q.Rx.keeps (box_of g.Q.Rx.received g.Q.Rx.answers g.Q.Rx.about) (g.S.Tx.number sender) (g.S.Tx.sent sender) before now

  abbrev MayTakeRequests : Worker → g.row.S.Denot → Type 0
  MayTakeRequests its sender = MayTakeIn g.Q.Rx.pairs (g.Q.Rx.key its.ends.requests) (g.Q.Rx.about its.ends.requests) (g.S.Tx.key sender) (g.S.Tx.number sender)

  abbrev TakesGossip : g.row.O.Denot → Sealed → Sealed → Type 0
  TakesGossip sender before now =
      TakesInGossip g.G.GossipRx.key g.G.GossipRx.senders g.G.GossipRx.keeps (weak_box_of g.G.GossipRx.got g.G.GossipRx.answers g.G.GossipRx.about g.G.GossipRx.due g.G.GossipRx.most)
      (g.O.Tx.number sender) (g.O.Tx.sent sender) before now

  abbrev MayTakeGossip : Sealed → g.row.O.Denot → Type 0
  MayTakeGossip its sender = MayTakeIn g.G.GossipRx.pairs (g.G.GossipRx.key its.gossip_in) (g.G.GossipRx.about its.gossip_in) (g.O.Tx.key sender) (g.O.Tx.number sender)

  abbrev TakesReplies : g.row.T.Denot → g.row.R.Denot → g.row.R.Denot → Type 0
  TakesReplies sender before now = TakesInReplies g.R.Rx.key g.R.Rx.keeps (box_of g.R.Rx.received g.R.Rx.answers g.R.Rx.about) (g.T.Tx.number sender) (g.T.Tx.sent sender) before now

  abbrev MayTakeReplies : g.row.R.Denot → g.row.T.Denot → Type 0
  MayTakeReplies its sender = MayTakeIn g.R.Rx.pairs (g.R.Rx.key its) (g.R.Rx.about its) (g.T.Tx.key sender) (g.T.Tx.number sender)

  -- the senders of a session, and those of a worker of gossip and of replies
  abbrev asks_of : Left → List g.row.S.Denot
  asks_of its = its.1.requests.items

  abbrev mates_of : Worker → List g.row.O.Denot
  mates_of worker = worker.ends.gossip_out.items

  abbrev replies_of : Worker → List g.row.T.Denot
  replies_of worker = worker.ends.replies.items

  -- what settling told of the workers, in rows of lists
  took : (vectors : List (Vec g.row.S.Denot Global)) (left : List Left) → vectors ≡ map (λ (its : Left). its.1.requests) left → (workers settled : List Worker)
      → ((place : ℕ) (before now : Worker) → slice_get workers place ≡ Some before → slice_get settled place ≡ Some now
      → TakesAll TakesRequests (column false 0 (map (λ (those : Vec g.row.S.Denot Global). those.items) vectors) place) before now)
      → (place : ℕ) (before now : Worker) → slice_get workers place ≡ Some before → slice_get settled place ≡ Some now → TakesAll TakesRequests (column false 0 (map asks_of left) place) before now
  took vectors left are workers settled takes place before now was is =
      subst (λ rows. TakesAll TakesRequests (column false 0 rows place) before now) (rows_of (λ (its : Left). its.1.requests) vectors left are) (takes place before now was is)

  -- of the sealed workers
  took_gossip : (vectors : List (Vec g.row.O.Denot Global)) (turned : List Worker) → vectors ≡ map (λ (worker : Worker). worker.ends.gossip_out) turned → (sealed gathered : List Sealed) → sealed ≡ map sealed_of turned
      → ((place : ℕ) (before now : Sealed) → slice_get sealed place ≡ Some before → slice_get gathered place ≡ Some now
      → TakesAll TakesGossip (column true 0 (map (λ (those : Vec g.row.O.Denot Global). those.items) vectors) place) before now)
      → (place : ℕ) (before : Worker) (now : Sealed) → slice_get turned place ≡ Some before → slice_get gathered place ≡ Some now
      → TakesAll TakesGossip (column true 0 (map mates_of turned) place) (sealed_of before) now
  took_gossip vectors turned are sealed gathered sealed_are takes place before now was is =
      subst (λ rows. TakesAll TakesGossip (column true 0 rows place) (sealed_of before) now) (rows_of (λ (worker : Worker). worker.ends.gossip_out) vectors turned are)
      (takes place (sealed_of before) now (ap (λ all. slice_get all place) sealed_are ∙ mapped sealed_of turned place before was) is)

  -- and of the boxes of replies
  took_replies : (vectors : List (Vec g.row.T.Denot Global)) (turned : List Worker) → vectors ≡ map (λ (worker : Worker). worker.ends.replies) turned → (boxes : List g.row.R.Denot) (left : List Left)
      → boxes ≡ map (λ (its : Left). its.1.replies) left → (taken : List g.row.R.Denot)
      → ((session : ℕ) (before now : g.row.R.Denot) → slice_get boxes session ≡ Some before → slice_get taken session ≡ Some now
      → TakesAll TakesReplies (column false 0 (map (λ (those : Vec g.row.T.Denot Global). those.items) vectors) session) before now)
      → (session : ℕ) (before now : g.row.R.Denot) → slice_get (map (λ (its : Left). its.1.replies) left) session ≡ Some before → slice_get taken session ≡ Some now
      → TakesAll TakesReplies (column false 0 (map replies_of turned) session) before now
  took_replies vectors turned are boxes left boxes_are taken takes session before now was is =
      subst (λ rows. TakesAll TakesReplies (column false 0 rows session) before now) (rows_of (λ (worker : Worker). worker.ends.replies) vectors turned are)
      (takes session before now (ap (λ all. slice_get all session) boxes_are ∙ was) is)

  -- what holds of each worker of a list holds of each of the same list
  shares_of : (workers those : List Worker) → workers ≡ those → ((place : ℕ) (worker : Worker) → slice_get workers place ≡ Some worker → Share (lists_of g.Q.Rx.received g.T.Tx.sent g.O.Tx.sent g.G.GossipRx.got worker))
      → (place : ℕ) (worker : Worker) → slice_get those place ≡ Some worker → Share (lists_of g.Q.Rx.received g.T.Tx.sent g.O.Tx.sent g.G.GossipRx.got worker)
  shares_of workers those same shares = subst (λ all. (place : ℕ) (worker : Worker) → slice_get all place ≡ Some worker → Share (lists_of g.Q.Rx.received g.T.Tx.sent g.O.Tx.sent g.G.GossipRx.got worker)) same shares

  requests_of : (workers those : List Worker) → workers ≡ those → ((place : ℕ) (worker : Worker) → slice_get workers place ≡ Some worker → All (λ message. IsRequest message.1) (g.Q.Rx.received worker.ends.requests))
      → (place : ℕ) (worker : Worker) → slice_get those place ≡ Some worker → All (λ message. IsRequest message.1) (g.Q.Rx.received worker.ends.requests)
  requests_of workers those same are = subst (λ all. (place : ℕ) (worker : Worker) → slice_get all place ≡ Some worker → All (λ message. IsRequest message.1) (g.Q.Rx.received worker.ends.requests)) same are

  sealed_long : (turned : List Worker) (sealed : List Sealed) → sealed ≡ map sealed_of turned → length sealed ≡ length turned
  sealed_long turned sealed are = ap length are ∙ length-map turned sealed_of

pub settle_all-requires-clause-many : goal.settle_all-requires-clause-many
settle_all-requires-clause-many g c =
    many_of 0 (length c.args.workers.items) c.in_ok-answers.requests.items (map (asks_of g) c.args.sessions.items)
    (rows_of (λ (its : Left g). its.1.requests) c.in_ok-answers.requests.items c.args.sessions.items c.in_ok-answers.ensures.requests) c.requires.run.requests.many

pub settle_all-requires-clause-may : goal.settle_all-requires-clause-may
settle_all-requires-clause-may g c = λ place party there.
    subst (λ rows. MayTakeAll (MayTakeRequests g) (TakesRequests g) (column false 0 rows place) party)
    (sym (rows_of (λ (its : Left g). its.1.requests) c.in_ok-answers.requests.items c.args.sessions.items c.in_ok-answers.ensures.requests))
    (may_take_requests c.requires.run g.Q.Rx.keeps g.Q.Rx.answers place party there)

pub turn_all-requires-clause-ready : goal.turn_all-requires-clause-ready
turn_all-requires-clause-ready g c =
    let takes = took g c.in_ok-answers.requests.items c.args.sessions.items c.in_ok-answers.ensures.requests c.args.workers.items c.settle_all.new.parties.items c.settle_all.ensures.takes in
    are_ready c.requires.run g.Q.Rx.keeps g.Q.Rx.answers c.settle_all.new.parties.items c.settle_all.ensures.long takes g.Q.Rx.keeps.complete

pub turn_all-requires-clause-room : goal.turn_all-requires-clause-room
turn_all-requires-clause-room g c = λ returns.
    let takes = took g c.in_ok-answers.requests.items c.args.sessions.items c.in_ok-answers.ensures.requests c.args.workers.items c.settle_all.new.parties.items c.settle_all.ensures.takes in
    elim (c.requires.room returns) [
      | inl never ↦ inl never
      | inr both ↦ inr (find_places c.requires.run {replied = g.T.Tx.sent} {told = g.O.Tx.sent} (shares_of g c.deref.result.now c.args.workers.items c.deref.ensures.value c.attest_all.ensures.share) both.1 c.settle_all.new.parties.items
          (only_requests c.requires.run g.Q.Rx.keeps g.Q.Rx.answers c.settle_all.new.parties.items c.settle_all.ensures.long takes) c.settle_all.ensures.long
          (sent_is c.requires.run g.Q.Rx.keeps g.Q.Rx.answers c.settle_all.new.parties.items c.settle_all.ensures.long takes)
          (same_key c.requires.run g.Q.Rx.keeps g.Q.Rx.answers c.settle_all.new.parties.items c.settle_all.ensures.long takes) both.0)
    ]

pub seal_all-requires-clause-clean : goal.seal_all-requires-clause-clean
seal_all-requires-clause-clean g c = all_there _ c.turn_all.new.workers.items (λ place worker there. (c.in_ok-turn_all.ensures.done place worker there).none_left)

pub seal_all-requires-clause-none_held : goal.seal_all-requires-clause-none_held
seal_all-requires-clause-none_held g c = all_there _ c.turn_all.new.workers.items (λ place worker there. (c.in_ok-turn_all.ensures.done place worker there).none_held)

pub seal_all-requires-clause-none_kept : goal.seal_all-requires-clause-none_kept
seal_all-requires-clause-none_kept g c = all_there _ c.turn_all.new.workers.items (λ place worker there. ap kept_request (c.in_ok-turn_all.ensures.done place worker there).none_kept)

pub settle_all-requires-2-clause-many : goal.settle_all-requires-2-clause-many
settle_all-requires-2-clause-many g c =
    let turned = c.turn_all.new.workers.items in
    let takes = took g c.in_ok-answers.requests.items c.args.sessions.items c.in_ok-answers.ensures.requests c.args.workers.items c.settle_all.new.parties.items c.settle_all.ensures.takes in
    let only = only_requests c.requires.run g.Q.Rx.keeps g.Q.Rx.answers c.settle_all.new.parties.items c.settle_all.ensures.long takes in
    many_of 1 (length c.in_ok-sealed.sealed.items) c.in_ok-sealed.gossip.items (map (mates_of g) turned)
    (rows_of (λ (worker : Worker g). worker.ends.gossip_out) c.in_ok-sealed.gossip.items turned c.in_ok-sealed.ensures.gossip)
    (subst (λ n. All (λ senders. length senders + 1 ≡ n) (map (mates_of g) turned)) (sym (sealed_long g turned c.in_ok-sealed.sealed.items c.in_ok-sealed.ensures.sealed))
    (many_gossip c.requires.run c.settle_all.new.parties.items turned c.settle_all.ensures.long c.turn_all.ensures.gone_on.long only c.turn_all.ensures.gone_on.gone_on c.turn_all.ensures.gone_on.gossip_stands))

pub settle_all-requires-2-clause-may : goal.settle_all-requires-2-clause-may
settle_all-requires-2-clause-may g c = λ place party there.
    let turned = c.turn_all.new.workers.items in
    let takes = took g c.in_ok-answers.requests.items c.args.sessions.items c.in_ok-answers.ensures.requests c.args.workers.items c.settle_all.new.parties.items c.settle_all.ensures.takes in
    let only = only_requests c.requires.run g.Q.Rx.keeps g.Q.Rx.answers c.settle_all.new.parties.items c.settle_all.ensures.long takes in
    let worker = of_mapped sealed_of turned place party (ap (λ all. slice_get all place) (sym c.in_ok-sealed.ensures.sealed) ∙ there) in
    subst (λ rows. MayTakeAll (MayTakeGossip g) (TakesGossip g) (column true 0 rows place) party)
    (sym (rows_of (λ (its : Worker g). its.ends.gossip_out) c.in_ok-sealed.gossip.items turned c.in_ok-sealed.ensures.gossip))
    (subst (MayTakeAll (MayTakeGossip g) (TakesGossip g) (column true 0 (map (mates_of g) turned) place)) worker.2
    (may_take_gossip c.requires.run c.settle_all.new.parties.items turned c.settle_all.ensures.long c.turn_all.ensures.gone_on.long only c.turn_all.ensures.gone_on.gone_on c.turn_all.ensures.gone_on.gossip_stands
    g.O.Tx.sent g.G.GossipRx.keeps g.G.GossipRx.answers g.G.GossipRx.due g.G.GossipRx.most place worker.0 worker.1))

pub hear_all-requires-clause-met : goal.hear_all-requires-clause-met
hear_all-requires-clause-met g c =
    let turned = c.turn_all.new.workers.items in
    let takes = took g c.in_ok-answers.requests.items c.args.sessions.items c.in_ok-answers.ensures.requests c.args.workers.items c.settle_all.new.parties.items c.settle_all.ensures.takes in
    let only = only_requests c.requires.run g.Q.Rx.keeps g.Q.Rx.answers c.settle_all.new.parties.items c.settle_all.ensures.long takes in
    all_met c.requires.run c.settle_all.new.parties.items turned c.settle_all.ensures.long c.turn_all.ensures.gone_on.long only c.turn_all.ensures.gone_on.gone_on c.turn_all.ensures.gone_on.gossip_stands
    g.O.Tx.sent g.G.GossipRx.keeps g.G.GossipRx.answers g.G.GossipRx.due g.G.GossipRx.most c.settle_all-2.new.parties.items
    (c.settle_all-2.ensures.long ∙ sealed_long g turned c.in_ok-sealed.sealed.items c.in_ok-sealed.ensures.sealed)
    (took_gossip g c.in_ok-sealed.gossip.items turned c.in_ok-sealed.ensures.gossip c.in_ok-sealed.sealed.items c.settle_all-2.new.parties.items c.in_ok-sealed.ensures.sealed c.settle_all-2.ensures.takes)

pub settle_all-requires-3-clause-many : goal.settle_all-requires-3-clause-many
settle_all-requires-3-clause-many g c =
    let turned = c.turn_all.new.workers.items in
    let takes = took g c.in_ok-answers.requests.items c.args.sessions.items c.in_ok-answers.ensures.requests c.args.workers.items c.settle_all.new.parties.items c.settle_all.ensures.takes in
    let only = only_requests c.requires.run g.Q.Rx.keeps g.Q.Rx.answers c.settle_all.new.parties.items c.settle_all.ensures.long takes in
    many_of 0 (length c.in_ok-answers.boxes.items) c.in_ok-sealed.replies.items (map (replies_of g) turned)
    (rows_of (λ (worker : Worker g). worker.ends.replies) c.in_ok-sealed.replies.items turned c.in_ok-sealed.ensures.replies)
    (subst (λ boxes. All (λ senders. length senders + 0 ≡ length boxes) (map (replies_of g) turned)) (sym c.in_ok-answers.ensures.replies)
    (replies_making c.requires.run c.settle_all.new.parties.items turned c.settle_all.ensures.long c.turn_all.ensures.gone_on.long only c.turn_all.ensures.gone_on.gone_on).many)

pub settle_all-requires-3-clause-may : goal.settle_all-requires-3-clause-may
settle_all-requires-3-clause-may g c = λ session box there.
    let turned = c.turn_all.new.workers.items in
    let takes = took g c.in_ok-answers.requests.items c.args.sessions.items c.in_ok-answers.ensures.requests c.args.workers.items c.settle_all.new.parties.items c.settle_all.ensures.takes in
    let only = only_requests c.requires.run g.Q.Rx.keeps g.Q.Rx.answers c.settle_all.new.parties.items c.settle_all.ensures.long takes in
    subst (λ rows. MayTakeAll (MayTakeReplies g) (TakesReplies g) (column false 0 rows session) box)
    (sym (rows_of (λ (its : Worker g). its.ends.replies) c.in_ok-sealed.replies.items turned c.in_ok-sealed.ensures.replies))
    (may_take_replies c.requires.run c.settle_all.new.parties.items turned c.settle_all.ensures.long c.turn_all.ensures.gone_on.long only c.turn_all.ensures.gone_on.gone_on g.R.Rx.answers g.R.Rx.keeps session box
    (ap (λ all. slice_get all session) (sym c.in_ok-answers.ensures.replies) ∙ there))

pub returns-clause-drained : goal.returns-clause-drained
returns-clause-drained g c =
    let run = c.requires.run in
    let settled = c.settle_all.new.parties.items in
    let turned = c.turn_all.new.workers.items in
    let gathered = c.settle_all-2.new.parties.items in
    let finished = c.hear_all.new.workers.items in
    let boxes = c.settle_all-3.new.parties.items in
    let long = c.settle_all.ensures.long in
    let as_long = c.turn_all.ensures.gone_on.long in
    let gone = c.turn_all.ensures.gone_on.gone_on in
    let takes = took g c.in_ok-answers.requests.items c.args.sessions.items c.in_ok-answers.ensures.requests c.args.workers.items settled c.settle_all.ensures.takes in
    let only = only_requests run g.Q.Rx.keeps g.Q.Rx.answers settled long takes in
    let gathered_long = c.settle_all-2.ensures.long ∙ sealed_long g turned c.in_ok-sealed.sealed.items c.in_ok-sealed.ensures.sealed in
    let gossip_takes = took_gossip g c.in_ok-sealed.gossip.items turned c.in_ok-sealed.ensures.gossip c.in_ok-sealed.sealed.items gathered c.in_ok-sealed.ensures.sealed c.settle_all-2.ensures.takes in
    let replies_take = took_replies g c.in_ok-sealed.replies.items turned c.in_ok-sealed.ensures.replies c.in_ok-answers.boxes.items c.args.sessions.items c.in_ok-answers.ensures.replies boxes c.settle_all-3.ensures.takes in
    let boxes_long = c.settle_all-3.ensures.long ∙ ap length c.in_ok-answers.ensures.replies in
    let stands = c.turn_all.ensures.gone_on.gossip_stands in
    let done = c.in_ok-turn_all.ensures.done in
    let heard = c.in_ok-hear_all.ensures.heard in
    let heard_long = c.hear_all.ensures.long in
    is_drained run g.T.Tx.sent g.O.Tx.sent turned finished boxes (record { answers = c.new.result; finals = c.new-2.result }) (as_long ∙ long) (heard_long ∙ gathered_long)
    (boxes_long ∙ length-map c.args.sessions.items (λ (its : Left g). its.1.replies))
    (stays_of_script run g.Q.Rx.keeps g.Q.Rx.answers settled long takes turned as_long gone)
    (shares_of g c.deref-2.result.now turned c.deref-2.ensures.value c.attest_all-2.ensures.share)
    (requests_of g c.deref-2.result.now turned c.deref-2.ensures.value c.attest_all-2.ensures.requests)
    (λ place worker there. (done place worker there).none_left) (λ place worker there. (done place worker there).none_held) (λ place worker there. (done place worker there).none_kept)
    (heard_out run settled turned long as_long only gone stands g.O.Tx.sent g.G.GossipRx.keeps g.G.GossipRx.answers g.G.GossipRx.due g.G.GossipRx.most gathered gathered_long gossip_takes finished heard_long heard)
    (of_sessions run g.Q.Rx.keeps g.Q.Rx.answers settled long takes turned as_long gone done)
    (of_mates run settled turned long as_long only gone stands g.O.Tx.sent g.G.GossipRx.keeps g.G.GossipRx.answers g.G.GossipRx.due g.G.GossipRx.most gathered gathered_long gossip_takes finished heard_long heard)
    (all_came run g.Q.Rx.keeps g.Q.Rx.answers settled long takes turned as_long gone done)
    (fronts run settled turned long as_long only gone g.R.Rx.answers g.R.Rx.keeps boxes boxes_long replies_take)
    (told_all run settled turned long as_long only gone stands g.O.Tx.sent g.G.GossipRx.keeps g.G.GossipRx.answers g.G.GossipRx.due g.G.GossipRx.most gathered gathered_long gossip_takes finished heard_long heard)
    (boxes_are run settled turned long as_long only gone g.R.Rx.answers g.R.Rx.keeps boxes boxes_long replies_take)
    (c.new.ensures ∙ c.in_ok-answers.ensures.answers)
    (c.new-2.ensures ∙ c.in_ok-finals.ensures ∙ (λ j. finals_of (length (c.as_slice.ensures j)) (map (λ (now : Sealed g). now.cells) (c.deref-3.ensures.value j))))

pub returns-clause-goes_on : goal.returns-clause-goes_on
returns-clause-goes_on g c =
    let run = c.requires.run in
    let settled = c.settle_all.new.parties.items in
    let turned = c.turn_all.new.workers.items in
    let gathered = c.settle_all-2.new.parties.items in
    let finished = c.hear_all.new.workers.items in
    let long = c.settle_all.ensures.long in
    let as_long = c.turn_all.ensures.gone_on.long in
    let takes = took g c.in_ok-answers.requests.items c.args.sessions.items c.in_ok-answers.ensures.requests c.args.workers.items settled c.settle_all.ensures.takes in
    let gossip_takes = took_gossip g c.in_ok-sealed.gossip.items turned c.in_ok-sealed.ensures.gossip c.in_ok-sealed.sealed.items gathered c.in_ok-sealed.ensures.sealed c.settle_all-2.ensures.takes in
    goes_on run settled turned long as_long (only_requests run g.Q.Rx.keeps g.Q.Rx.answers settled long takes) c.turn_all.ensures.gone_on.gone_on c.turn_all.ensures.gone_on.gossip_stands
    g.O.Tx.sent g.G.GossipRx.keeps g.G.GossipRx.answers g.G.GossipRx.due g.G.GossipRx.most gathered (c.settle_all-2.ensures.long ∙ sealed_long g turned c.in_ok-sealed.sealed.items c.in_ok-sealed.ensures.sealed) gossip_takes
    finished c.hear_all.ensures.long c.in_ok-hear_all.ensures.heard (same_received run g.Q.Rx.keeps g.Q.Rx.answers settled long takes)

pub returns-clause-sound : goal.returns-clause-sound
returns-clause-sound g c = λ place worker there.
    let long = c.settle_all.ensures.long in
    let as_long = c.turn_all.ensures.gone_on.long in
    let gathered_long = c.settle_all-2.ensures.long ∙ sealed_long g c.turn_all.new.workers.items c.in_ok-sealed.sealed.items c.in_ok-sealed.ensures.sealed in
    let now = there_too c.hear_all.new.workers.items c.args.workers.items place worker (sym (c.hear_all.ensures.long ∙ gathered_long ∙ as_long ∙ long)) there in
    let within = slice_get_within c.args.workers.items place worker there in
    were_sound c.args.script.now (record { answers = c.new.result; finals = c.new-2.result }) g.Q.Rx.received g.G.GossipRx.got g.R.Rx.received c.hear_all.new.workers.items c.settle_all-3.new.parties.items
    (returns-clause-drained g c) g.G.GossipRx.key place worker now.0 (omega (arith, within, c.requires.run.as_many)) now.1 (returns-clause-goes_on g c place worker now.0 there now.1)
