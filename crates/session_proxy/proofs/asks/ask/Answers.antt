use Rattle.std.proofs.Common.{◌<◌, ◌-◌, ◌∙◌, Some, ap, arith, inl, map, sym}
use Rattle.std.proofs.lemmas.List.{length-map}
use Rattle.session_proxy.proofs.AskingLemmas.{as_asks, ask_goes, ask_sends, few_next, its_ask, may_ask, next_ask, of_asks, out_left, sends_ask}
use Rattle.session_proxy.proofs.PreparingLemmas.{back_full}
use Rattle.session_proxy.proofs.SentLemmas.{room_there, rose_there}
use Rattle.session_proxy.proofs.asks.ask.Goals as goal
use Rattle.session_proxy.specs.Local.{course_of}

pub next_ask-requires-clause-few : goal.next_ask-requires-clause-few
next_ask-requires-clause-few g c = (few_next (as_asks c.requires.keeps c.requires.asks)).0

pub asked_at-worker-requires-clause-line : goal.asked_at-worker-requires-clause-line
asked_at-worker-requires-clause-line g c =
    let keeps = as_asks c.requires.keeps c.requires.asks in
    may_ask keeps (λ most. c.args.local.now.out < most) (out_left keeps c.requires.waits)

pub asked_at-worker-requires-clause-few : goal.asked_at-worker-requires-clause-few
asked_at-worker-requires-clause-few g c = (few_next (as_asks c.requires.keeps c.requires.asks)).1

pub overflow_sub-from : goal.overflow_sub-from
overflow_sub-from g c =
    let keeps = as_asks c.requires.keeps c.requires.asks in
    omega (arith, c.from.ensures, c.asked_at-worker.ensures keeps.stands.1 keeps.stands.2, (ask_goes keeps).0)

pub post-requires : goal.post-requires
post-requires g c =
    let keeps = as_asks c.requires.keeps c.requires.asks in
    omega (arith, c.from.ensures, c.asked_at-worker.ensures keeps.stands.1 keeps.stands.2, (ask_goes keeps).0, (ask_goes keeps).1, length-map c.args.ends.now.requests.items g.T.Tx.sent)

pub overflow_add-local : goal.overflow_add-local
overflow_add-local g c = omega (arith, (few_next (as_asks c.requires.keeps c.requires.asks)).1)

pub returns-in-Ok-clause-keeps : goal.returns-in-Ok-clause-keeps
returns-in-Ok-clause-keeps g c =
    let keeps = as_asks c.requires.keeps c.requires.asks in
    of_asks c.requires.asks (
    sends_ask keeps c.requires.waits (map g.T.Tx.sent c.post.new.senders.items) c.from.result c.in_ok-request.request
    (rw c.from.ensures (c.asked_at-worker.ensures keeps.stands.1 keeps.stands.2)) (c.in_ok-request.ensures keeps.stands.1 keeps.stands.2) c.in-Ok.ensures.sent)

pub returns-in-Ok-clause-polls : goal.returns-in-Ok-clause-polls
returns-in-Ok-clause-polls g c =
    let keeps = as_asks c.requires.keeps c.requires.asks in
    inl (
      inl (ask_sends keeps c.requires.waits (map g.T.Tx.sent c.post.new.senders.items) c.from.result c.in_ok-request.request
          (rw c.from.ensures (c.asked_at-worker.ensures keeps.stands.1 keeps.stands.2)) (c.in_ok-request.ensures keeps.stands.1 keeps.stands.2) c.in-Ok.ensures.sent),
      ap (λ fulls. record { fulls = fulls; answers = g.R.Rx.answers c.args.ends.now.replies }) c.in-Ok.ensures.fulls,
    )

pub returns-in-Err-Full-clause-polls : goal.returns-in-Err-Full-clause-polls
returns-in-Err-Full-clause-polls g c =
    let keeps = as_asks c.requires.keeps c.requires.asks in
    let refused = c.in-Err-Full in
    let back = back_full refused.field-0 refused.field-0-0 c.in_ok-request.request _ _ _ refused.field-0-is refused.ensures.sent in
    let worker_is = c.from.ensures ∙ c.asked_at-worker.ensures keeps.stands.1 keeps.stands.2 in (
      ap (λ sent. record { course = course_of c.args.local.now; sent = sent; received = g.R.Rx.received c.args.ends.now.replies }) back.1,
      inl (record {
        worker = c.from.result;
        item = its_ask keeps;
        next = next_ask keeps c.requires.waits ∙ ap (λ worker. Some (worker, its_ask keeps)) (sym worker_is);
        rose = rose_there refused.field-0 refused.field-0-0 (c.from.result - 1) _ _ refused.field-0-is refused.ensures.fulls;
        no_room = (
          room_there refused.field-0 refused.field-0-0 refused.field-0-is refused.ensures.not_clear,
          λ roomy. room_there refused.field-0 refused.field-0-0 refused.field-0-is (refused.ensures.no_room roomy),
        );
      }),
    )
