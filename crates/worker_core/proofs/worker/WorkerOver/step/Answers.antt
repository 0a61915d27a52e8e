use Rattle.std.proofs.Common.{◌≡◌, ◌∙◌, ℕ, ◌≤◌, ◌⊎◌, Bool, false, List, Result, IsTrue, None, Vec, is_some, ap, arith, inl, inr, length, map, sym, subst, refl, Ok, OnOk}
use Rattle.std.specs.Global.{Global}
use Rattle.std.proofs.lemmas.List.{length-map}
use Rattle.std.proofs.lemmas.Result.{err_from_is_err_and, on_ok_weaker}
use Rattle.lattice_laws.specs.Counts.{Rose}
use Rattle.lattice_laws.specs.declared.lattice.NoMemory.{NoMemory}
use Rattle.mail_contract.specs.Standing.{AreMet}
use Rattle.gossip_rounds.specs.Batches.{RoomAt}
use Rattle.worker_core.specs.Order.{AsksGossip, IsDue}
use Rattle.worker_core.specs.Room.{StayClear}
use Rattle.worker_core.specs.Serving.{RoundsIf}
use Rattle.worker_core.specs.State.{Lists, PlainWorker, dirty, kept_batch, lists_of}
use Rattle.worker_core.specs.Turns.{Counts, Gossips, IsHeldBack, KeepsRequest, MayAsk, SomeRose, StayOrCameBack, Turns, counts_of, joined_in}
use Rattle.worker_core.specs.declared.did.Did.{Did}
use Rattle.worker_core.specs.declared.did.Did.TheVariants as did
use Rattle.worker_core.proofs.LawfulLemmas.{as_long, none_held}
use Rattle.worker_core.proofs.OrderLemmas.{heard_in_order, held_back, kept_in_order, kept_there, none_due, rests_in_order, served_in_order, someone}
use Rattle.worker_core.proofs.RoomLemmas.{clear_through}
use Rattle.worker_core.proofs.ToldLemmas.{gossips_nothing}
use Rattle.worker_core.proofs.TurnLemmas.{CameBack, Started, batch_taken, either, heard_turns, held_full, items_of, kept_turns, lacks, left_back, no_batch, no_ok, no_request, not_counted, not_started, on_none_sent, request_taken, rests_joined, rests_turns, resent_lacks, resent_still, rose_between, round_lacks, round_turns, rounds_at_first, rounds_back, served_turns, some_sent, starts, unmoved_through, was_made}
use Rattle.worker_core.proofs.worker.WorkerOver.step.Given.{Over}
use Rattle.worker_core.proofs.worker.WorkerOver.step.Goals as goal
use Rattle.worker_core.proofs.worker.WorkerOver.step.Goals.{After-tell_if, After-take_gossip, After-take_request, After-tell_if-2, After-rests}

module _ (g : Over) where
  abbrev Worker : Type 0
  Worker = PlainWorker g.row.Q.Denot g.row.T.Denot g.row.O.Denot g.row.G.Denot

  -- what went through the ends, how often they answered, and what room senders of gossip have
  abbrev lists : Worker → Lists
  lists = lists_of g.Q.Rx.received g.T.Tx.sent g.O.Tx.sent g.G.GossipRx.got

  abbrev counts : Worker → Counts
  counts = counts_of g.Q.Rx.answers g.T.Tx.fulls g.O.Tx.fulls g.G.GossipRx.answers

  abbrev room : Vec g.row.O.Denot Global → ℕ → List Bool → Type 0
  room senders = RoomAt g.O.Tx.clear g.O.Tx.roomy g.O.Tx.unseen senders.items

  -- what a round did, if one was made, by the room that the senders had at first
  abbrev Round : Bool → Result ℕ NoMemory → Worker → Worker → Worker → Type 0
  Round made result first before now = RoundsIf made result (lists before) (lists now) (counts before) (counts now) (room first.ends.gossip_out)

  -- it was made in vain, or none was made
  abbrev Begun : Bool → Worker → Lists → Worker → Worker → Type 0
  Begun made first start before now = Started start (lists now) made (counts before) (counts now) (room first.ends.gossip_out)

  -- there are as many lists of changed keys as there are mates
  mates : (worker : Worker) → length worker.state.changed ≡ length worker.ends.gossip_out.items → length worker.state.changed ≡ length (lists worker).told
  mates worker as_many = as_many ∙ sym (length-map worker.ends.gossip_out.items g.O.Tx.sent)

  mates_stay : (before now : Worker) → map g.O.Tx.number now.ends.gossip_out.items ≡ map g.O.Tx.number before.ends.gossip_out.items
      → length (lists now).told ≡ length (lists before).told
  mates_stay before now = as_long g.O.Tx.number g.O.Tx.sent now.ends.gossip_out.items before.ends.gossip_out.items

  -- nothing went out in a round, or none was made
  begins : (made : Bool) (result : Result ℕ NoMemory) (sent : ℕ) (first before now : Worker) (start : Lists) → lists before ≡ start
      → length start.state.changed ≡ length start.told → result ≡ Ok sent → sent ≤ 0 → Round made result first before now → (IsTrue made → 1 ≤ dirty before.state)
      → map g.O.Tx.number now.ends.gossip_out.items ≡ map g.O.Tx.number before.ends.gossip_out.items → length now.state.changed ≡ length now.ends.gossip_out.items
      → Begun made first start before now
  begins made result sent first before now start same as_many is none round some numbers as_many_now =
      let at_first = room first.ends.gossip_out in
      let as_many_before = subst (λ (lists : Lists). length lists.state.changed ≡ length lists.told) (sym same) as_many in
      let senders = before.ends.gossip_out.items in
      let as_many_counts = length-map senders g.O.Tx.fulls ∙ sym (length-map senders g.O.Tx.sent) in
      let now_lists = lists now in
      subst (λ start. Started start now_lists made (counts before) (counts now) at_first) same
      (starts made result sent (lists before) (lists now) (counts before) (counts now) at_first is (λ sends. omega (arith, sends, none)) round some
      as_many_before (mates_stay before now numbers) (mates now as_many_now) as_many_counts)

  -- the reply that is held came back, or there is none
  still : (c : After-tell_if g) → lists c.resend.new.self ≡ lists c.args.self.now
  still c =
      resent_still g.Q.Rx.received g.T.Tx.sent g.O.Tx.sent g.G.GossipRx.got g.T.Tx.fulls c.args.self.now c.resend.new.self c.in_ok-resend.field-0 c.if-branch.false
      c.resend.ensures.state c.in_ok-resend.ensures.resent c.resend.ensures.requests c.resend.ensures.gossip_out c.resend.ensures.gossip_in

  -- a sender of replies that found a place for the next one still does, or has sent one since
  abbrev Clear : Worker → Worker → Type 0
  Clear before now = StayClear g.T.Tx.clear g.T.Tx.sent before.ends.replies.items now.ends.replies.items

  -- and so once a message is worked on, where no reply went out again before
  works_clear : (c : After-tell_if g) (result : Result Did NoMemory) (kept now : Worker) → kept.ends.replies ≡ c.resend.new.self.ends.replies
      → OnOk result (Clear kept now) → OnOk result (Clear c.args.self.now now)
  works_clear c result kept now same =
      on_ok_weaker result (λ clear. clear_through g.T.Tx.clear g.T.Tx.sent c.args.self.now.ends.replies.items c.resend.new.self.ends.replies.items now.ends.replies.items
      (ap (λ (lists : Lists). lists.replied) (still c)) c.in_ok-resend.ensures.stay_clear
      (subst (λ replies. StayClear g.T.Tx.clear g.T.Tx.sent (items_of replies) now.ends.replies.items) same clear))

  -- the round that was due
  round_due : (c : After-tell_if g) → Round c.is_due-due.result c.tell_if.result c.args.self.now c.resend.new.self c.tell_if.new.self
  round_due c =
      subst (RoundsIf c.is_due-due.result c.tell_if.result (lists c.resend.new.self) (lists c.tell_if.new.self) (counts c.resend.new.self) (counts c.tell_if.new.self))
      (ap room c.resend.ensures.gossip_out) c.tell_if.ensures.rounds

  -- nothing went out in it
  begun : (c : After-take_gossip g) → lists c.resend.new.self ≡ lists c.args.self.now
      → Round c.is_due-due.result c.tell_if.result c.args.self.now c.resend.new.self c.tell_if.new.self
      → Begun c.is_due-due.result c.args.self.now (lists c.args.self.now) c.resend.new.self c.tell_if.new.self
  begun c same round =
      begins c.is_due-due.result c.tell_if.result c.in_ok-tell_if.field-0 c.args.self.now c.resend.new.self c.tell_if.new.self (lists c.args.self.now) same
      (mates c.args.self.now c.has_kept.ensures.mates) c.in_ok-tell_if.was c.if-branch-gt0.false round (λ made. (c.is_due-due.ensures.due made).1) c.tell_if.ensures.keys.gossip_out_numbers
      c.tell_if.ensures.mates

  -- no gossip was found
  no_gossip : (c : After-take_request g) → (lists c.take_gossip.new.self ≡ lists c.tell_if.new.self)
      × Rose (counts c.tell_if.new.self).gossip.nones (counts c.take_gossip.new.self).gossip.nones
  no_gossip c = no_batch c.in_ok-take_gossip.field-0 _ _ _ _ _ c.if-branch-2.false c.in_ok-take_gossip.ensures.kept

  -- and no request, or none was looked for
  none_asked : (c : After-tell_if-2 g) → (lists c.take_request.new.self ≡ lists c.take_gossip.new.self)
      × (IsTrue (is_some c.take_gossip.new.self.state.held) ⊎ Rose (counts c.take_gossip.new.self).requests.nones (counts c.take_request.new.self).requests.nones)
  none_asked c = no_request c.in_ok-take_request.field-0 _ _ _ _ _ c.if-branch-3.false c.in_ok-take_request.ensures.kept

  -- the last round
  round_left : (c : After-tell_if-2 g) → Round c.is_left-left.result c.tell_if-2.result c.args.self.now c.take_request.new.self c.tell_if-2.new.self
  round_left c =
      rounds_at_first c.is_due-due.result c.is_left-left.result c.tell_if-2.result (lists c.take_request.new.self) (lists c.tell_if-2.new.self)
      (counts c.take_request.new.self) (counts c.tell_if-2.new.self) (room c.take_request.new.self.ends.gossip_out) (room c.args.self.now.ends.gossip_out)
      (λ left. (c.is_left-left.ensures.left left).0)
      (λ not_due. ap room (c.take_request.ensures.gossip_out ∙ c.take_gossip.ensures.gossip_out ∙ c.tell_if.ensures.gossip_out not_due ∙ c.resend.ensures.gossip_out))
      c.tell_if-2.ensures.rounds

  -- it was made, so none was due, and nothing had changed before it
  as_at_first : (c : After-tell_if-2 g) → lists c.resend.new.self ≡ lists c.args.self.now
      → Round c.is_due-due.result c.tell_if.result c.args.self.now c.resend.new.self c.tell_if.new.self → lists c.take_gossip.new.self ≡ lists c.tell_if.new.self
      → (c.tell_if-2.result ≡ Ok 0 → ⊥) → lists c.take_request.new.self ≡ lists c.args.self.now
  as_at_first c same round none_taken some =
      let made = was_made c.is_left-left.result c.tell_if-2.result _ _ _ _ _ (round_left c) some in
      (none_asked c).0 ∙ none_taken ∙ not_started c.is_due-due.result c.tell_if.result _ _ _ _ _ round (c.is_left-left.ensures.left made).0 ∙ same

  -- and the senders of gossip neither
  senders_at_first : (c : After-tell_if-2 g) → (c.tell_if-2.result ≡ Ok 0 → ⊥) → c.take_request.new.self.ends.gossip_out ≡ c.args.self.now.ends.gossip_out
  senders_at_first c some =
      let made = was_made c.is_left-left.result c.tell_if-2.result _ _ _ _ _ (round_left c) some in
      c.take_request.ensures.gossip_out ∙ c.take_gossip.ensures.gossip_out ∙ c.tell_if.ensures.gossip_out (c.is_left-left.ensures.left made).0
      ∙ c.resend.ensures.gossip_out

  -- nothing went out in it, or none was made
  ended : (c : After-rests g) → lists c.take_request.new.self ≡ lists c.tell_if.new.self
      → Round c.is_left-left.result c.tell_if-2.result c.args.self.now c.take_request.new.self c.tell_if-2.new.self
      → Begun c.is_left-left.result c.args.self.now (lists c.tell_if.new.self) c.take_request.new.self c.tell_if-2.new.self
  ended c same round =
      begins c.is_left-left.result c.tell_if-2.result c.in_ok-tell_if-2.field-0 c.args.self.now c.take_request.new.self c.tell_if-2.new.self (lists c.tell_if.new.self) same
      (mates c.tell_if.new.self c.tell_if.ensures.mates) c.in_ok-tell_if-2.was c.if-branch-gt0-2.false round (λ made. (c.is_left-left.ensures.left made).1)
      c.tell_if-2.ensures.keys.gossip_out_numbers c.tell_if-2.ensures.mates

  -- no round was made, or every batch of one came back
  came_back : (c : After-rests g)
      → Begun c.is_due-due.result c.args.self.now (lists c.args.self.now) c.resend.new.self c.tell_if.new.self
      → Begun c.is_left-left.result c.args.self.now (lists c.tell_if.new.self) c.take_request.new.self c.tell_if-2.new.self
      → Round c.is_due-due.result c.tell_if.result c.args.self.now c.resend.new.self c.tell_if.new.self
      → Round c.is_left-left.result c.tell_if-2.result c.args.self.now c.take_request.new.self c.tell_if-2.new.self → lists c.take_request.new.self ≡ lists c.tell_if.new.self
      → ((c.is_due-due.result ≡ false) × (c.is_left-left.result ≡ false))
      ⊎ CameBack (lists c.args.self.now) (counts c.args.self.now).gossip_fulls (counts c.tell_if-2.new.self).gossip_fulls (room c.args.self.now.ends.gossip_out)
  came_back c start end round last as_told =
      let due = c.is_due-due.result in
      let left = c.is_left-left.result in
      let worker = c.args.self.now in
      let now = c.tell_if-2.new.self in
      let first = room worker.ends.gossip_out in
      either (rounds_back due left (lists worker) (lists c.tell_if.new.self) (lists now) (counts c.resend.new.self) (counts c.tell_if.new.self) (counts c.take_request.new.self)
      (counts now) first c.tell_if-2.result start end
      (subst (λ told. RoundsIf left c.tell_if-2.result told (lists now) (counts c.take_request.new.self) (counts now) first) as_told last)
      (λ made. (c.is_left-left.ensures.left made).0)
      (ap (λ out. map g.O.Tx.fulls (items_of out)) (c.take_request.ensures.gossip_out ∙ c.take_gossip.ensures.gossip_out))
      (λ not_due. ap (λ (count : Counts). count.gossip_fulls) (not_counted due c.tell_if.result _ _ _ _ _ round not_due))) (λ none. none)
      (λ back. subst (λ fulls. CameBack (lists worker) fulls (counts now).gossip_fulls first) (ap (λ out. map g.O.Tx.fulls (items_of out)) c.resend.ensures.gossip_out) back)

  -- after the round that was due the senders are as they were, or its batches came back
  senders_due : (c : After-take_gossip g)
      → Begun c.is_due-due.result c.args.self.now (lists c.args.self.now) c.resend.new.self c.tell_if.new.self
      → StayOrCameBack c.args.self.now.ends.gossip_out c.take_gossip.new.self.ends.gossip_out (lists c.args.self.now) (room c.args.self.now.ends.gossip_out)
  senders_due c start =
      either start.back (λ not_due. c.take_gossip.ensures.gossip_out ∙ c.tell_if.ensures.gossip_out not_due ∙ c.resend.ensures.gossip_out) (λ back. (back.some, back.no_room))

  -- no message was kept
  none_kept : (c : After-tell_if g) → c.args.self.now.state.kept ≡ None
  none_kept c = none_held c.args.self.now.state.kept (sym c.has_kept.ensures.kept ∙ c.if-has_kept.false)

  -- the reply that is held was sent again in vain, as is still told by the senders of replies
  back : (c : After-tell_if g) (now : Worker) → now.ends.replies ≡ c.resend.new.self.ends.replies
      → IsHeldBack c.args.self.now.state.held (counts c.args.self.now).reply_fulls (counts now).reply_fulls
  back c now same =
      subst (λ replies. IsHeldBack c.args.self.now.state.held (counts c.args.self.now).reply_fulls (map g.T.Tx.fulls (items_of replies))) (sym same)
      (held_back c.args.self.now.state.held c.resend.new.self.state.held _ _ _ _ c.in_ok-resend.field-0 c.if-branch.false c.in_ok-resend.ensures.resent)

  -- where no reply was held none was sent again
  fulls_stay : (c : After-tell_if g) (now : Worker) → now.ends.replies ≡ c.resend.new.self.ends.replies → c.args.self.now.state.held ≡ None
      → (counts now).reply_fulls ≡ (counts c.args.self.now).reply_fulls
  fulls_stay c now same none =
      ap (λ replies. map g.T.Tx.fulls (items_of replies)) (same ∙ c.resend.ensures.none_held none)

  -- whether a round is due, by what was kept before the turn
  may_ask : (c : After-tell_if g) → c.is_due-due.result ≡ false → MayAsk c.args.self.now.state
  may_ask c not_due = subst MayAsk c.resend.ensures.state (c.is_due-due.ensures.not_due not_due)

  is_due : (c : After-tell_if g) → IsTrue c.is_due-due.result → IsDue c.args.self.now.state
  is_due c due = subst IsDue c.resend.ensures.state (c.is_due-due.ensures.due due)

  -- what came before a box was asked
  asks : (c : After-take_gossip g) (now : Worker)
      → Begun c.is_due-due.result c.args.self.now (lists c.args.self.now) c.resend.new.self c.tell_if.new.self
      → now.ends.gossip_out ≡ c.tell_if.new.self.ends.gossip_out
      → (c.args.self.now.state.kept ≡ None)
      → IsHeldBack c.args.self.now.state.held (counts c.args.self.now).reply_fulls (counts now).reply_fulls
      → (c.is_due-due.result ≡ false → MayAsk c.args.self.now.state) → (IsTrue c.is_due-due.result → IsDue c.args.self.now.state)
      → AsksGossip (lists c.args.self.now) (counts c.args.self.now) (counts now) (room c.args.self.now.ends.gossip_out)
  asks c now start same none held not_due due =
      let worker = c.args.self.now in
      let fulls_of = λ (out : Vec g.row.O.Denot Global). map g.O.Tx.fulls (items_of out) in
      let first = room worker.ends.gossip_out in
      let came = either start.back (λ none. none)
      (λ came. subst (λ fulls. CameBack (lists worker) fulls (counts now).gossip_fulls first) (ap fulls_of c.resend.ensures.gossip_out)
      (subst (λ fulls. CameBack (lists worker) (counts c.resend.new.self).gossip_fulls fulls first) (ap fulls_of (sym same)) came)) in
      record {
        none_kept = none;
        held_back = held;
        none_due = none_due c.is_due-due.result (lists worker) (counts worker).gossip_fulls (counts now).gossip_fulls first due not_due came;
      }

pub returns-then-has_kept-clause-did : goal.returns-then-has_kept-clause-did
returns-then-has_kept-clause-did g c =
    kept_turns c.work.result (lists g c.args.self.now) (lists g c.work.new.self) (counts g c.args.self.now) (counts g c.work.new.self) (room g c.args.self.now.ends.gossip_out)
    c.work.ensures.works (mates g c.args.self.now c.has_kept.ensures.mates)

pub returns-in_err-resend-clause-did : goal.returns-in_err-resend-clause-did
returns-in_err-resend-clause-did g c =
    let before = lists g c.args.self.now in
    lacks _ before before _ _ _ _ (err_from_is_err_and c.from_residual.result c.from_residual.ensures.1) (gossips_nothing before)
    (resent_lacks g.Q.Rx.received g.T.Tx.sent g.O.Tx.sent g.G.GossipRx.got g.T.Tx.fulls c.args.self.now c.resend.new.self _ c.resend.ensures.state c.in_err-resend.ensures.resent
    c.resend.ensures.requests c.resend.ensures.gossip_out c.resend.ensures.gossip_in)

pub returns-in_err-tell_if-clause-did : goal.returns-in_err-tell_if-clause-did
returns-in_err-tell_if-clause-did g c =
    let at = (goal.at.returns-in_err-tell_if-clause-did g c).After-tell_if in
    let told = lists g c.tell_if.new.self in
    let gossips : Gossips (lists g c.args.self.now) told = subst (λ lists. Gossips lists told) (still g at)
    (round_lacks c.is_due-due.result c.tell_if.result c.in_err-tell_if.field-0.0 _ _ _ _ _ c.in_err-tell_if.was (round_due g at)) in
    lacks _ _ told told _ _ _ (err_from_is_err_and c.from_residual-in_err-tell_if.result c.from_residual-in_err-tell_if.ensures.1) gossips refl

pub returns-then-branch-gt0-clause-did : goal.returns-then-branch-gt0-clause-did
returns-then-branch-gt0-clause-did g c =
    let at = (goal.at.returns-then-branch-gt0-clause-did g c).After-tell_if in
    let told = lists g c.tell_if.new.self in
    subst (λ lists. Turns {E = NoMemory} (Ok did.Round) lists told (counts g c.args.self.now) (counts g c.tell_if.new.self) (room g c.args.self.now.ends.gossip_out)) (still g at)
    (round_turns c.is_due-due.result c.tell_if.result c.in_ok-tell_if.field-0 _ _ _ (counts g c.args.self.now) _ _ c.in_ok-tell_if.was c.if-branch-gt0.true
    (ap (λ out. map g.O.Tx.fulls (items_of out)) (sym c.resend.ensures.gossip_out)) (round_due g at))

pub returns-in_err-take_gossip-clause-did : goal.returns-in_err-take_gossip-clause-did
returns-in_err-take_gossip-clause-did g c =
    let at = goal.at.returns-in_err-take_gossip-clause-did g c in
    let start = begun g at.After-take_gossip (still g at.After-tell_if) (round_due g at.After-tell_if) in
    lacks _ _ _ _ _ _ _ (err_from_is_err_and c.from_residual-in_err-take_gossip.result c.from_residual-in_err-take_gossip.ensures.1) start.gossips c.in_err-take_gossip.ensures.kept

pub returns-then-branch-2-clause-did : goal.returns-then-branch-2-clause-did
returns-then-branch-2-clause-did g c =
    let at = goal.at.returns-then-branch-2-clause-did g c in
    let start = begun g at.After-take_gossip (still g at.After-tell_if) (round_due g at.After-tell_if) in
    let now = c.work-then-branch-2.new.self in
    let taken = batch_taken c.in_ok-take_gossip.field-0 _ _ _ _ _ c.if-branch-2.true c.in_ok-take_gossip.ensures.kept in
    let rose : Rose (counts g c.args.self.now).gossip.somes (counts g now).gossip.somes =
    rose_between (ap (λ box. (g.G.GossipRx.answers box).somes) (sym (c.tell_if.ensures.gossip_in ∙ c.resend.ensures.gossip_in)))
    (ap (λ box. (g.G.GossipRx.answers box).somes) c.work-then-branch-2.ensures.gossip_in) taken.1 in
    heard_turns c.work-then-branch-2.result _ _ (lists g c.take_gossip.new.self) (lists g now) (counts g c.args.self.now) (counts g now) _ start.gossips start.unmoved taken.0
    c.work-then-branch-2.ensures.works rose

pub returns-in_err-take_request-clause-did : goal.returns-in_err-take_request-clause-did
returns-in_err-take_request-clause-did g c =
    let at = goal.at.returns-in_err-take_request-clause-did g c in
    let start = begun g at.After-take_gossip (still g at.After-tell_if) (round_due g at.After-tell_if) in
    lacks _ _ _ _ _ _ _ (err_from_is_err_and c.from_residual-in_err-take_request.result c.from_residual-in_err-take_request.ensures.1) start.gossips
    (c.in_err-take_request.ensures.kept ∙ (no_gossip g at.After-take_request).0)

pub returns-then-branch-3-clause-did : goal.returns-then-branch-3-clause-did
returns-then-branch-3-clause-did g c =
    let at = goal.at.returns-then-branch-3-clause-did g c in
    let start = begun g at.After-take_gossip (still g at.After-tell_if) (round_due g at.After-tell_if) in
    let now = c.work-then-branch-3.new.self in
    let taken = request_taken c.in_ok-take_request.field-0 _ _ _ _ _ c.if-branch-3.true c.in_ok-take_request.ensures.kept in
    served_turns c.work-then-branch-3.result _ _ (lists g c.take_request.new.self) (lists g now) (counts g c.args.self.now) (counts g now) _ start.gossips start.unmoved
    (subst (λ told. KeepsRequest told (lists g c.take_request.new.self)) (no_gossip g at.After-take_request).0 taken) c.work-then-branch-3.ensures.works
    (mates g c.args.self.now c.has_kept.ensures.mates)

pub returns-in_err-tell_if-2-clause-did : goal.returns-in_err-tell_if-2-clause-did
returns-in_err-tell_if-2-clause-did g c =
    let at = goal.at.returns-in_err-tell_if-2-clause-did g c in
    let last = at.After-tell_if-2 in
    let error = c.in_err-tell_if-2.field-0.0 in
    let first = as_at_first g last (still g at.After-tell_if) (round_due g at.After-tell_if) (no_gossip g at.After-take_request).0 (λ is. no_ok error (sym c.in_err-tell_if-2.was ∙ is)) in
    let now = lists g c.tell_if-2.new.self in
    let gossips : Gossips (lists g c.args.self.now) now = subst (λ lists. Gossips lists now) first
    (round_lacks c.is_left-left.result c.tell_if-2.result error _ _ _ _ _ c.in_err-tell_if-2.was (round_left g last)) in
    lacks _ _ now now _ _ _ (err_from_is_err_and c.from_residual-in_err-tell_if-2.result c.from_residual-in_err-tell_if-2.ensures.1) gossips refl

pub returns-then-branch-gt0-2-clause-did : goal.returns-then-branch-gt0-2-clause-did
returns-then-branch-gt0-2-clause-did g c =
    let at = goal.at.returns-then-branch-gt0-2-clause-did g c in
    let last = at.After-tell_if-2 in
    let sent = c.in_ok-tell_if-2.field-0 in
    let first = as_at_first g last (still g at.After-tell_if) (round_due g at.After-tell_if) (no_gossip g at.After-take_request).0
    (λ is. some_sent sent c.if-branch-gt0-2.true (sym c.in_ok-tell_if-2.was ∙ is)) in
    let now = lists g c.tell_if-2.new.self in
    subst (λ lists. Turns {E = NoMemory} (Ok did.Round) lists now (counts g c.args.self.now) (counts g c.tell_if-2.new.self) (room g c.args.self.now.ends.gossip_out)) first
    (round_turns c.is_left-left.result c.tell_if-2.result sent _ _ _ (counts g c.args.self.now) _ _ c.in_ok-tell_if-2.was c.if-branch-gt0-2.true
    (ap (λ out. map g.O.Tx.fulls (items_of out)) (sym (senders_at_first g last (λ is. some_sent sent c.if-branch-gt0-2.true (sym c.in_ok-tell_if-2.was ∙ is))))) (round_left g last))

pub returns-clause-did : goal.returns-clause-did
returns-clause-did g c =
    let at = goal.at.returns-clause-did g c in
    let due = c.is_due-due.result in
    let left = c.is_left-left.result in
    let worker = c.args.self.now in
    let resent = c.resend.new.self in
    let told = c.tell_if.new.self in
    let asked = c.take_request.new.self in
    let now = c.tell_if-2.new.self in
    let first = room g worker.ends.gossip_out in
    let as_resent = still g at.After-tell_if in
    let round = round_due g at.After-tell_if in
    let start = begun g at.After-take_gossip as_resent round in
    let none_found = no_gossip g at.After-take_request in
    let none = none_asked g at.After-tell_if-2 in
    let as_told : lists g asked ≡ lists g told = none.0 ∙ none_found.0 in
    let last = round_left g at.After-tell_if-2 in
    let end = ended g c as_told last in
    let unmoved = unmoved_through (lists g worker) (lists g told) (lists g now) start.unmoved end.unmoved in
    let none_kept = ap (λ (lists : Lists). lists.state.kept) unmoved ∙ none_held worker.state.kept (sym c.has_kept.ensures.kept ∙ c.if-has_kept.false) in
    let found_none : Rose (counts g worker).gossip.nones (counts g now).gossip.nones =
    rose_between (ap (λ box. (g.G.GossipRx.answers box).nones) (sym (c.tell_if.ensures.gossip_in ∙ c.resend.ensures.gossip_in)))
    (ap (λ box. (g.G.GossipRx.answers box).nones) (c.tell_if-2.ensures.gossip_in ∙ c.take_request.ensures.gossip_in)) none_found.1 in
    let held_told : now.state.held ≡ told.state.held = ap (λ (lists : Lists). lists.state.held) end.unmoved in
    let held_taken : now.state.held ≡ c.take_gossip.new.self.state.held = held_told ∙ sym (ap (λ (lists : Lists). lists.state.held) none_found.0) in
    let held_resent : now.state.held ≡ resent.state.held = held_told ∙ ap (λ (lists : Lists). lists.state.held) start.unmoved ∙ sym (ap (λ (lists : Lists). lists.state.held) as_resent) in
    let found_no_request : IsTrue (is_some now.state.held) ⊎ Rose (counts g worker).requests.nones (counts g now).requests.nones =
    either none.1 (λ held. ap is_some held_taken ∙ held)
    (λ found. rose_between (ap (λ box. (g.Q.Rx.answers box).nones) (sym (c.take_gossip.ensures.requests ∙ c.tell_if.ensures.requests ∙ c.resend.ensures.requests)))
    (ap (λ box. (g.Q.Rx.answers box).nones) c.tell_if-2.ensures.requests) found) in
    let back = left_back due left (lists g told) (lists g now) (came_back g c start end round last as_told)
    (λ none not_due. ap (λ (lists : Lists). dirty lists.state) (sym as_told) ∙ c.is_left-left.ensures.none none not_due) end.unmoved in
    let held_back : IsTrue (is_some now.state.held) → SomeRose (counts g worker).reply_fulls (counts g now).reply_fulls = λ held.
    subst (SomeRose (counts g worker).reply_fulls)
    (ap (λ replies. map g.T.Tx.fulls (items_of replies)) (sym (c.tell_if-2.ensures.replies ∙ c.take_request.ensures.replies ∙ c.take_gossip.ensures.replies ∙ c.tell_if.ensures.replies)))
    (held_full worker.state.held resent.state.held _ _ _ _ c.in_ok-resend.field-0 c.if-branch.false c.in_ok-resend.ensures.resent (ap is_some (sym held_resent) ∙ held)) in
    rw c.rests.ensures (rests_turns (lists g worker) (lists g now) (counts g worker) (counts g now) first unmoved none_kept found_none found_no_request back held_back)

pub returns-then-branch-2-clause-stay_clear : goal.returns-then-branch-2-clause-stay_clear
returns-then-branch-2-clause-stay_clear g c =
    works_clear g (goal.at.returns-then-branch-2-clause-stay_clear g c).After-tell_if c.work-then-branch-2.result c.take_gossip.new.self c.work-then-branch-2.new.self
    (c.take_gossip.ensures.replies ∙ c.tell_if.ensures.replies) c.work-then-branch-2.ensures.stay_clear

pub returns-then-branch-3-clause-stay_clear : goal.returns-then-branch-3-clause-stay_clear
returns-then-branch-3-clause-stay_clear g c =
    works_clear g (goal.at.returns-then-branch-3-clause-stay_clear g c).After-tell_if c.work-then-branch-3.result c.take_request.new.self c.work-then-branch-3.new.self
    (c.take_request.ensures.replies ∙ c.take_gossip.ensures.replies ∙ c.tell_if.ensures.replies) c.work-then-branch-3.ensures.stay_clear

pub returns-then-branch-2-clause-senders : goal.returns-then-branch-2-clause-senders
returns-then-branch-2-clause-senders g c =
    let at = goal.at.returns-then-branch-2-clause-senders g c in
    let start = begun g at.After-take_gossip (still g at.After-tell_if) (round_due g at.After-tell_if) in
    on_none_sent c.work-then-branch-2.result _
    (subst (λ out. StayOrCameBack c.args.self.now.ends.gossip_out out (lists g c.args.self.now) (room g c.args.self.now.ends.gossip_out))
    (sym c.work-then-branch-2.ensures.gossip_out) (senders_due g at.After-take_gossip start))

pub returns-then-branch-3-clause-senders : goal.returns-then-branch-3-clause-senders
returns-then-branch-3-clause-senders g c =
    let at = goal.at.returns-then-branch-3-clause-senders g c in
    let start = begun g at.After-take_gossip (still g at.After-tell_if) (round_due g at.After-tell_if) in
    on_none_sent c.work-then-branch-3.result _
    (subst (λ out. StayOrCameBack c.args.self.now.ends.gossip_out out (lists g c.args.self.now) (room g c.args.self.now.ends.gossip_out))
    (sym (c.work-then-branch-3.ensures.gossip_out ∙ c.take_request.ensures.gossip_out)) (senders_due g at.After-take_gossip start))

pub returns-clause-senders : goal.returns-clause-senders
returns-clause-senders g c =
    let at = goal.at.returns-clause-senders g c in
    let round = round_due g at.After-tell_if in
    let start = begun g at.After-take_gossip (still g at.After-tell_if) round in
    let as_told = (none_asked g at.After-tell_if-2).0 ∙ (no_gossip g at.After-take_request).0 in
    let last = round_left g at.After-tell_if-2 in
    let asked : c.take_request.new.self.ends.gossip_out ≡ c.tell_if.new.self.ends.gossip_out = c.take_request.ensures.gossip_out ∙ c.take_gossip.ensures.gossip_out in
    on_none_sent {E = NoMemory} (Ok c.rests.result) _
    (either (came_back g c start (ended g c as_told last) round last as_told)
    (λ none. c.tell_if-2.ensures.gossip_out none.1 ∙ asked ∙ c.tell_if.ensures.gossip_out none.0 ∙ c.resend.ensures.gossip_out) (λ back. (back.some, back.no_room)))

pub returns-clause-fewer : goal.returns-clause-fewer
returns-clause-fewer g c finite met =
    let at = goal.at.returns-clause-fewer g c in
    let round = round_due g at.After-tell_if in
    let start = begun g at.After-take_gossip (still g at.After-tell_if) round in
    let none_found = no_gossip g at.After-take_request in
    let as_told = (none_asked g at.After-tell_if-2).0 ∙ none_found.0 in
    let end = ended g c as_told (round_left g at.After-tell_if-2) in
    let as_first : c.tell_if.new.self.ends.gossip_in ≡ c.args.self.now.ends.gossip_in = c.tell_if.ensures.gossip_in ∙ c.resend.ensures.gossip_in in
    let found = c.take_gossip.ensures.fewer finite (subst (λ box. AreMet (g.G.GossipRx.senders (g.G.GossipRx.key box)) (g.G.GossipRx.about box)) (sym as_first) met) in
    omega (
      arith,
      found,
      ap g.G.GossipRx.most as_first,
      ap g.G.GossipRx.most (c.tell_if-2.ensures.gossip_in ∙ c.take_request.ensures.gossip_in),
      ap (λ (lists : Lists). length (kept_batch lists.state.kept)) none_found.0,
      ap (λ (lists : Lists). length (kept_batch lists.state.kept)) start.unmoved,
      ap (λ (lists : Lists). length (kept_batch lists.state.kept)) end.unmoved,
      ap (λ did. joined_in {E = NoMemory} (Ok did)) c.rests.ensures,
      rests_joined c.tell_if-2.new.self.state,
    )

pub returns-then-has_kept-clause-in_order : goal.returns-then-has_kept-clause-in_order
returns-then-has_kept-clause-in_order g c =
    let its = kept_there c.args.self.now.state.kept (sym c.has_kept.ensures.kept ∙ c.if-has_kept.true) in
    kept_in_order c.work.result (lists g c.args.self.now) (lists g c.work.new.self) (counts g c.args.self.now) (counts g c.work.new.self) (room g c.args.self.now.ends.gossip_out)
    its.0 its.1 c.work.ensures.works.did c.work.ensures.held_back

pub returns-then-branch-gt0-clause-in_order : goal.returns-then-branch-gt0-clause-in_order
returns-then-branch-gt0-clause-in_order g c =
    let at = (goal.at.returns-then-branch-gt0-clause-in_order g c).After-tell_if in
    record {
      none_kept = none_kept g at;
      held_back = back g at c.tell_if.new.self c.tell_if.ensures.replies;
      in_time = inl (is_due g at (was_made c.is_due-due.result c.tell_if.result _ _ _ _ _ (round_due g at)
          (λ is. some_sent c.in_ok-tell_if.field-0 c.if-branch-gt0.true (sym c.in_ok-tell_if.was ∙ is))));
    }

pub returns-then-branch-2-clause-in_order : goal.returns-then-branch-2-clause-in_order
returns-then-branch-2-clause-in_order g c =
    let at = goal.at.returns-then-branch-2-clause-in_order g c in
    let start = begun g at.After-take_gossip (still g at.After-tell_if) (round_due g at.After-tell_if) in
    let now = c.work-then-branch-2.new.self in
    let taken = batch_taken c.in_ok-take_gossip.field-0 _ _ _ _ _ c.if-branch-2.true c.in_ok-take_gossip.ensures.kept in
    heard_in_order c.work-then-branch-2.result _ _ (lists g c.take_gossip.new.self) (lists g now) (counts g c.args.self.now) (counts g c.take_gossip.new.self) (counts g now) _ taken.0
    c.work-then-branch-2.ensures.works.did c.work-then-branch-2.ensures.held_back
    (ap (λ out. map g.O.Tx.fulls (items_of out)) c.work-then-branch-2.ensures.gossip_out)
    (asks g at.After-take_gossip c.take_gossip.new.self start c.take_gossip.ensures.gossip_out (none_kept g at.After-tell_if)
    (back g at.After-tell_if c.take_gossip.new.self (c.take_gossip.ensures.replies ∙ c.tell_if.ensures.replies)) (may_ask g at.After-tell_if) (is_due g at.After-tell_if))

pub returns-then-branch-3-clause-in_order : goal.returns-then-branch-3-clause-in_order
returns-then-branch-3-clause-in_order g c =
    let at = goal.at.returns-then-branch-3-clause-in_order g c in
    let start = begun g at.After-take_gossip (still g at.After-tell_if) (round_due g at.After-tell_if) in
    let worker = c.args.self.now in
    let asked = c.take_request.new.self in
    let now = c.work-then-branch-3.new.self in
    let taken = request_taken c.in_ok-take_request.field-0 _ _ _ _ _ c.if-branch-3.true c.in_ok-take_request.ensures.kept in
    let held : c.take_gossip.new.self.state.held ≡ None = c.in_ok-take_request.ensures.none_held c.if-branch-3.true in
    let same_held : c.take_gossip.new.self.state.held ≡ worker.state.held =
    ap (λ (lists : Lists). lists.state.held) ((no_gossip g at.After-take_request).0 ∙ start.unmoved) in
    let same_replies = c.take_request.ensures.replies ∙ c.take_gossip.ensures.replies ∙ c.tell_if.ensures.replies in
    let found : Rose (counts g worker).gossip.nones (counts g now).gossip.nones =
    rose_between (ap (λ box. (g.G.GossipRx.answers box).nones) (sym (c.tell_if.ensures.gossip_in ∙ c.resend.ensures.gossip_in)))
    (ap (λ box. (g.G.GossipRx.answers box).nones) (c.work-then-branch-3.ensures.gossip_in ∙ c.take_request.ensures.gossip_in)) (no_gossip g at.After-take_request).1 in
    served_in_order c.work-then-branch-3.result (lists g worker) (lists g c.take_gossip.new.self) (lists g asked) (lists g now) (counts g worker) (counts g asked) (counts g now) _ taken
    c.work-then-branch-3.ensures.works.did c.work-then-branch-3.ensures.held_back (fulls_stay g at.After-tell_if asked same_replies (sym same_held ∙ held))
    (ap (λ out. map g.O.Tx.fulls (items_of out)) c.work-then-branch-3.ensures.gossip_out)
    (asks g at.After-take_gossip asked start (c.take_request.ensures.gossip_out ∙ c.take_gossip.ensures.gossip_out) (none_kept g at.After-tell_if)
    (back g at.After-tell_if asked same_replies) (may_ask g at.After-tell_if) (is_due g at.After-tell_if)) found (sym same_held ∙ held)

pub returns-then-branch-gt0-2-clause-in_order : goal.returns-then-branch-gt0-2-clause-in_order
returns-then-branch-gt0-2-clause-in_order g c =
    let at = goal.at.returns-then-branch-gt0-2-clause-in_order g c in
    let worker = c.args.self.now in
    let now = c.tell_if-2.new.self in
    let sent = c.in_ok-tell_if-2.field-0 in
    let made = was_made c.is_left-left.result c.tell_if-2.result _ _ _ _ _ (round_left g at.After-tell_if-2) (λ is. some_sent sent c.if-branch-gt0-2.true (sym c.in_ok-tell_if-2.was ∙ is)) in
    let not_due = (c.is_left-left.ensures.left made).0 in
    let none_found = no_gossip g at.After-take_request in
    let same_held : c.take_gossip.new.self.state.held ≡ worker.state.held =
    ap (λ (lists : Lists). lists.state.held) (none_found.0 ∙ not_started c.is_due-due.result c.tell_if.result _ _ _ _ _ (round_due g at.After-tell_if) not_due ∙ still g at.After-tell_if) in
    record {
      none_kept = none_kept g at.After-tell_if;
      held_back =
          back g at.After-tell_if now
          (c.tell_if-2.ensures.replies ∙ c.take_request.ensures.replies ∙ c.take_gossip.ensures.replies ∙ c.tell_if.ensures.replies);
      in_time = inr (
        may_ask g at.After-tell_if not_due,
        record {
          no_gossip =
              rose_between (ap (λ box. (g.G.GossipRx.answers box).nones) (sym (c.tell_if.ensures.gossip_in ∙ c.resend.ensures.gossip_in)))
              (ap (λ box. (g.G.GossipRx.answers box).nones) (c.tell_if-2.ensures.gossip_in ∙ c.take_request.ensures.gossip_in)) none_found.1;
          no_request = elim ((none_asked g at.After-tell_if-2).1) [
            | inl held ↦ inr (someone worker.state.held (ap is_some (sym same_held) ∙ held))
            | inr found ↦ inl
                (rose_between (ap (λ box. (g.Q.Rx.answers box).nones) (sym (c.take_gossip.ensures.requests ∙ c.tell_if.ensures.requests ∙ c.resend.ensures.requests)))
                (ap (λ box. (g.Q.Rx.answers box).nones) c.tell_if-2.ensures.requests) found)
          ];
        },
      );
    }

pub returns-clause-in_order : goal.returns-clause-in_order
returns-clause-in_order g c =
    let at = (goal.at.returns-clause-in_order g c).After-tell_if in
    let now = c.tell_if-2.new.self in
    rw c.rests.ensures (rests_in_order now.state _ (lists g now) _ (counts g now) (room g c.args.self.now.ends.gossip_out) (record {
      none_kept = none_kept g at;
      held_back =
          back g at now
          (c.tell_if-2.ensures.replies ∙ c.take_request.ensures.replies ∙ c.take_gossip.ensures.replies ∙ c.tell_if.ensures.replies);
    }))
