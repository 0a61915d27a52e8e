use Rattle.std.specs.Prelude.{◌≡◌, ◌-◌, map, slice_index_or}
use Rattle.std.proofs.Common.{◌∙◌, ap, subst, arith, inl}
use Rattle.std.proofs.lemmas.List.{length-map}
use Rattle.composed_value.specs.declared.payload.Payload.TheVariants as payloads
use Rattle.placement.specs.Asked.{home_at}
use Rattle.session_proxy.proofs.PreparingLemmas.{back_full, back_no_memory, keeps_back, next_there, posted_to, prepared, sent_fixed, sent_keeps, sent_sends}
use Rattle.session_proxy.proofs.SendingLemmas.{few_puts, put_known, put_goes}
use Rattle.session_proxy.proofs.SentLemmas.{room_there, rose_there}
use Rattle.session_proxy.proofs.puts.put.Goals as goal
use Rattle.session_proxy.specs.Local.{SendsOf, course_of, put_at, puts_begun}
use Rattle.session_proxy.specs.Polls.{Sends}
use Rattle.session_proxy.specs.State.{Course, IsFixed}
use Rattle.session_proxy.specs.declared.local.Begun.{Begun}
use Rattle.session_proxy.specs.declared.local.Local.{Local}

pub next_home-home-requires-clause-key : goal.next_home-home-requires-clause-key
next_home-home-requires-clause-key g c =
    let is = prepared c.in_ok-prepare.field-0 c.args.local.now c.prepare.new.local (map g.T.Tx.sent c.args.ends.now.requests.items) (g.R.Rx.received c.args.ends.now.replies) c.requires.keeps c.in_ok-prepare.ensures.makes in
    let known = put_known _ is.keeps.stands.1 is.keeps.stands.2 c.prepare.new.local.session is.puts _ is.keeps is.keeps.stands.3 in
    rw is.begun_is known

pub overflow_sub-from : goal.overflow_sub-from
overflow_sub-from g c =
    let is = prepared c.in_ok-prepare.field-0 c.args.local.now c.prepare.new.local (map g.T.Tx.sent c.args.ends.now.requests.items) (g.R.Rx.received c.args.ends.now.replies) c.requires.keeps c.in_ok-prepare.ensures.makes in
    let goes = put_goes _ is.keeps.stands.1 is.keeps.stands.2 c.prepare.new.local.session is.puts _ is.keeps is.keeps.stands.3 in
    let home = home_at c.prepare.new.local.placement c.prepare.new.local.session.client.session (put_at is.puts c.prepare.new.local.out).0 in
    let home_is : c.next_home-home.result ≡ home = c.next_home-home.ensures
    ∙ ap (λ (begun : Begun). home_at c.prepare.new.local.placement c.prepare.new.local.session.client.session (slice_index_or (puts_begun begun) c.prepare.new.local.out (0, payloads.On)).0) is.begun_is in
    omega (arith, goes.0, home_is, c.from.ensures)

pub post-requires : goal.post-requires
post-requires g c =
    let is = prepared c.in_ok-prepare.field-0 c.args.local.now c.prepare.new.local (map g.T.Tx.sent c.args.ends.now.requests.items) (g.R.Rx.received c.args.ends.now.replies) c.requires.keeps c.in_ok-prepare.ensures.makes in
    let goes = put_goes _ is.keeps.stands.1 is.keeps.stands.2 c.prepare.new.local.session is.puts _ is.keeps is.keeps.stands.3 in
    let home = home_at c.prepare.new.local.placement c.prepare.new.local.session.client.session (put_at is.puts c.prepare.new.local.out).0 in
    let home_is : c.next_home-home.result ≡ home = c.next_home-home.ensures
    ∙ ap (λ (begun : Begun). home_at c.prepare.new.local.placement c.prepare.new.local.session.client.session (slice_index_or (puts_begun begun) c.prepare.new.local.out (0, payloads.On)).0) is.begun_is in
    let workers = length-map c.args.ends.now.requests.items g.T.Tx.sent in
    omega (arith, goes.0, goes.1, home_is, c.from.ensures, workers)

pub sent_put-requires-clause-few : goal.sent_put-requires-clause-few
sent_put-requires-clause-few g c =
    let is = prepared c.in_ok-prepare.field-0 c.args.local.now c.prepare.new.local (map g.T.Tx.sent c.args.ends.now.requests.items) (g.R.Rx.received c.args.ends.now.replies) c.requires.keeps c.in_ok-prepare.ensures.makes in
    rw is.begun_is (few_puts _ is.keeps.stands.1 c.prepare.new.local.session is.puts _ is.keeps is.keeps.stands.3)

pub returns-in-Ok-clause-keeps : goal.returns-in-Ok-clause-keeps
returns-in-Ok-clause-keeps g c =
    let is = prepared c.in_ok-prepare.field-0 c.args.local.now c.prepare.new.local (map g.T.Tx.sent c.args.ends.now.requests.items) (g.R.Rx.received c.args.ends.now.replies) c.requires.keeps c.in_ok-prepare.ensures.makes in
    let home = home_at c.prepare.new.local.placement c.prepare.new.local.session.client.session (put_at is.puts c.prepare.new.local.out).0 in
    let home_is : c.next_home-home.result ≡ home = c.next_home-home.ensures
    ∙ ap (λ (begun : Begun). home_at c.prepare.new.local.placement c.prepare.new.local.session.client.session (slice_index_or (puts_begun begun) c.prepare.new.local.out (0, payloads.On)).0) is.begun_is in
    let old : Local = record c.prepare.new.local { made = c.take_made-request.new.made } in
    let sends = subst (λ begun. SendsOf is.keeps.stands.1 begun old c.sent_put.new.local) is.begun_is (c.sent_put.ensures is.keeps.stands.1 is.keeps.stands.2) in
    let posted = posted_to (map g.T.Tx.sent c.args.ends.now.requests.items) (map g.T.Tx.sent c.post.new.senders.items) c.next_home-home.result home c.from.result c.prepare.new.local.made c.take_made-request.result is.request
    home_is c.from.ensures c.take_made-request.ensures.request is.made_is c.in-Ok.ensures.sent in
    sent_keeps old c.sent_put.new.local is.puts is.request _ (g.R.Rx.received c.args.ends.now.replies) is.keeps is.begun_is sends _ posted

pub returns-in-Ok-clause-fixed : goal.returns-in-Ok-clause-fixed
returns-in-Ok-clause-fixed g c =
    let is = prepared c.in_ok-prepare.field-0 c.args.local.now c.prepare.new.local (map g.T.Tx.sent c.args.ends.now.requests.items) (g.R.Rx.received c.args.ends.now.replies) c.requires.keeps c.in_ok-prepare.ensures.makes in
    let old : Local = record c.prepare.new.local { made = c.take_made-request.new.made } in
    let sends = subst (λ begun. SendsOf is.keeps.stands.1 begun old c.sent_put.new.local) is.begun_is (c.sent_put.ensures is.keeps.stands.1 is.keeps.stands.2) in
    subst (λ course. IsFixed course (course_of c.sent_put.new.local)) is.course_is (sent_fixed old c.sent_put.new.local is.puts is.request _ (g.R.Rx.received c.args.ends.now.replies) is.keeps is.begun_is sends)

pub returns-in-Ok-clause-polls : goal.returns-in-Ok-clause-polls
returns-in-Ok-clause-polls g c =
    let is = prepared c.in_ok-prepare.field-0 c.args.local.now c.prepare.new.local (map g.T.Tx.sent c.args.ends.now.requests.items) (g.R.Rx.received c.args.ends.now.replies) c.requires.keeps c.in_ok-prepare.ensures.makes in
    let home = home_at c.prepare.new.local.placement c.prepare.new.local.session.client.session (put_at is.puts c.prepare.new.local.out).0 in
    let home_is : c.next_home-home.result ≡ home = c.next_home-home.ensures
    ∙ ap (λ (begun : Begun). home_at c.prepare.new.local.placement c.prepare.new.local.session.client.session (slice_index_or (puts_begun begun) c.prepare.new.local.out (0, payloads.On)).0) is.begun_is in
    let old : Local = record c.prepare.new.local { made = c.take_made-request.new.made } in
    let sends = subst (λ begun. SendsOf is.keeps.stands.1 begun old c.sent_put.new.local) is.begun_is (c.sent_put.ensures is.keeps.stands.1 is.keeps.stands.2) in
    let posted = posted_to (map g.T.Tx.sent c.args.ends.now.requests.items) (map g.T.Tx.sent c.post.new.senders.items) c.next_home-home.result home c.from.result c.prepare.new.local.made c.take_made-request.result is.request
    home_is c.from.ensures c.take_made-request.ensures.request is.made_is c.in-Ok.ensures.sent in
    inl (
      inl (subst (λ (course : Course). Sends (record { course = course; sent = map g.T.Tx.sent c.args.ends.now.requests.items; received = g.R.Rx.received c.args.ends.now.replies }) (record {
        course = course_of c.sent_put.new.local;
        sent = map g.T.Tx.sent c.post.new.senders.items;
        received = g.R.Rx.received c.args.ends.now.replies;
      })) is.course_is (sent_sends old c.sent_put.new.local is.puts is.request _ (g.R.Rx.received c.args.ends.now.replies) is.keeps is.begun_is sends _ posted)),
      ap (λ fulls. record { fulls = fulls; answers = g.R.Rx.answers c.args.ends.now.replies }) c.in-Ok.ensures.fulls,
    )

pub returns-in-Err-Full-clause-keeps : goal.returns-in-Err-Full-clause-keeps
returns-in-Err-Full-clause-keeps g c =
    let is = prepared c.in_ok-prepare.field-0 c.args.local.now c.prepare.new.local (map g.T.Tx.sent c.args.ends.now.requests.items) (g.R.Rx.received c.args.ends.now.replies) c.requires.keeps c.in_ok-prepare.ensures.makes in
    keeps_back c.args.local.now c.prepare.new.local _ _ _ c.in-Err-Full.back c.take_made-request.result is c.take_made-request.ensures.request
    (back_full c.in-Err-Full.field-0 c.in-Err-Full.back c.take_made-request.result _ _ _ c.in-Err-Full.field-0-is c.in-Err-Full.ensures.sent)

pub returns-in-Err-NoMemory-clause-keeps : goal.returns-in-Err-NoMemory-clause-keeps
returns-in-Err-NoMemory-clause-keeps g c =
    let is = prepared c.in_ok-prepare.field-0 c.args.local.now c.prepare.new.local (map g.T.Tx.sent c.args.ends.now.requests.items) (g.R.Rx.received c.args.ends.now.replies) c.requires.keeps c.in_ok-prepare.ensures.makes in
    keeps_back c.args.local.now c.prepare.new.local _ _ _ c.in-Err-NoMemory.back c.take_made-request.result is c.take_made-request.ensures.request
    (back_no_memory c.in-Err-NoMemory.field-0 c.in-Err-NoMemory.back c.take_made-request.result _ _ _ c.in-Err-NoMemory.field-0-is c.in-Err-NoMemory.ensures.sent)

pub returns-in-Err-Full-clause-polls : goal.returns-in-Err-Full-clause-polls
returns-in-Err-Full-clause-polls g c =
    let is = prepared c.in_ok-prepare.field-0 c.args.local.now c.prepare.new.local (map g.T.Tx.sent c.args.ends.now.requests.items) (g.R.Rx.received c.args.ends.now.replies) c.requires.keeps c.in_ok-prepare.ensures.makes in
    let home = home_at c.prepare.new.local.placement c.prepare.new.local.session.client.session (put_at is.puts c.prepare.new.local.out).0 in
    let home_is : c.next_home-home.result ≡ home = c.next_home-home.ensures
    ∙ ap (λ (begun : Begun). home_at c.prepare.new.local.placement c.prepare.new.local.session.client.session (slice_index_or (puts_begun begun) c.prepare.new.local.out (0, payloads.On)).0) is.begun_is in
    let refused = c.in-Err-Full in
    let back = back_full refused.field-0 refused.back c.take_made-request.result _ _ _ refused.field-0-is refused.ensures.sent in
    let next = next_there c.args.local.now c.prepare.new.local _ _ c.from.result is (c.from.ensures ∙ home_is) in (
      λ i. record { course = is.course_is i; sent = back.1 i; received = g.R.Rx.received c.args.ends.now.replies },
      inl (record {
        worker = c.from.result;
        item = next.0;
        next = next.1;
        rose = rose_there refused.field-0 refused.back (c.from.result - 1) _ _ refused.field-0-is refused.ensures.fulls;
        no_room = (room_there refused.field-0 refused.back refused.field-0-is refused.ensures.not_clear, λ roomy. room_there refused.field-0 refused.back refused.field-0-is (refused.ensures.no_room roomy));
      }),
    )
