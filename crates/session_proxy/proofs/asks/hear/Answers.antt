use Rattle.std.proofs.Common.{◌≡◌, ap, arith, inr, length, map, subst, Ok, refl}
use Rattle.lattice_laws.specs.declared.lattice.NoMemory.{NoMemory}
use Rattle.mail_contract.specs.Boxes.{FindsNothing, box_of}
use Rattle.session_proxy.specs.Local.{TellsNothing}
use Rattle.session_proxy.specs.Polls.{WantsRoom, counts_at}
use Rattle.session_proxy.proofs.HearingLemmas.{can_hear, hears_nothing, hears_other, hears_want, its_work, works_at}
use Rattle.session_proxy.proofs.asks.hear.Goals as goal

pub take_reply-requires : goal.take_reply-requires
take_reply-requires g c =
    can_hear c.args.local.now c.reserve_one.new.answers c.reserve_one.ensures.items
    (map g.T.Tx.sent c.args.ends.now.requests.items) (g.R.Rx.received c.args.ends.now.replies) c.requires.keeps c.requires.asks c.requires.waits

pub returns-in_err-take_reply-clause-keeps : goal.returns-in_err-take_reply-clause-keeps
returns-in_err-take_reply-clause-keeps g c =
    hears_want c.args.local.now c.reserve_one.new.answers c.reserve_one.ensures.items
    (map g.T.Tx.sent c.args.ends.now.requests.items) (g.R.Rx.received c.args.ends.now.replies) c.requires.keeps c.requires.asks c.requires.waits
    c.take_reply.new.local (g.R.Rx.received c.take_reply.new.replies) c.in_err-take_reply.field-0.0 c.in_err-take_reply.ensures.hears

pub work-requires-clause-can : goal.work-requires-clause-can
work-requires-clause-can g c =
    (its_work c.args.local.now c.reserve_one.new.answers c.reserve_one.ensures.items
    (map g.T.Tx.sent c.args.ends.now.requests.items) (g.R.Rx.received c.args.ends.now.replies) c.requires.keeps c.requires.asks c.requires.waits
    c.take_reply.new.local (g.R.Rx.received c.take_reply.new.replies) c.in_ok-take_reply.field-0 c.in-Awaited.reply c.in-Awaited.is c.in_ok-take_reply.ensures.hears).0

pub work-requires-clause-room : goal.work-requires-clause-room
work-requires-clause-room g c =
    let items : c.take_reply.new.local.answers.items ≡ c.reserve_one.new.answers.items =
    (its_work c.args.local.now c.reserve_one.new.answers c.reserve_one.ensures.items
    (map g.T.Tx.sent c.args.ends.now.requests.items) (g.R.Rx.received c.args.ends.now.replies) c.requires.keeps c.requires.asks c.requires.waits
    c.take_reply.new.local (g.R.Rx.received c.take_reply.new.replies) c.in_ok-take_reply.field-0 c.in-Awaited.reply c.in-Awaited.is c.in_ok-take_reply.ensures.hears).1 in
    let as_many = ap length items in
    omega (arith, as_many, c.take_reply.ensures.room, c.in_ok-reserve_one.ensures.room)

pub returns-in-Nothing-clause-keeps : goal.returns-in-Nothing-clause-keeps
returns-in-Nothing-clause-keeps g c =
    (hears_nothing c.args.local.now c.reserve_one.new.answers c.reserve_one.ensures.items
    (map g.T.Tx.sent c.args.ends.now.requests.items) (g.R.Rx.received c.args.ends.now.replies) c.requires.keeps c.requires.asks c.requires.waits
    c.take_reply.new.local (g.R.Rx.received c.take_reply.new.replies) c.in_ok-take_reply.field-0 c.in-Nothing.is c.in_ok-take_reply.ensures.hears).0

pub returns-in-Nothing-clause-fixed : goal.returns-in-Nothing-clause-fixed
returns-in-Nothing-clause-fixed g c =
    (hears_nothing c.args.local.now c.reserve_one.new.answers c.reserve_one.ensures.items
    (map g.T.Tx.sent c.args.ends.now.requests.items) (g.R.Rx.received c.args.ends.now.replies) c.requires.keeps c.requires.asks c.requires.waits
    c.take_reply.new.local (g.R.Rx.received c.take_reply.new.replies) c.in_ok-take_reply.field-0 c.in-Nothing.is c.in_ok-take_reply.ensures.hears).1

pub returns-in-Nothing-clause-polls : goal.returns-in-Nothing-clause-polls
returns-in-Nothing-clause-polls g c =
    let is = hears_nothing c.args.local.now c.reserve_one.new.answers c.reserve_one.ensures.items
    (map g.T.Tx.sent c.args.ends.now.requests.items) (g.R.Rx.received c.args.ends.now.replies) c.requires.keeps c.requires.asks c.requires.waits
    c.take_reply.new.local (g.R.Rx.received c.take_reply.new.replies) c.in_ok-take_reply.field-0 c.in-Nothing.is c.in_ok-take_reply.ensures.hears in
    let told = subst (λ was. TellsNothing {E = NoMemory} (Ok was) (g.R.Rx.answers c.args.ends.now.replies) (g.R.Rx.answers c.take_reply.new.replies)
    (FindsNothing g.R.Rx.keeps (box_of g.R.Rx.received g.R.Rx.answers g.R.Rx.about c.take_reply.new.replies))) c.in-Nothing.is c.in_ok-take_reply.ensures.nothing in
    (is.2, inr (record { waits = c.requires.waits; none_kept = is.3; rose = told.0; told = told.1 }))

pub returns-in-Other-clause-keeps : goal.returns-in-Other-clause-keeps
returns-in-Other-clause-keeps g c =
    (hears_other c.args.local.now c.reserve_one.new.answers c.reserve_one.ensures.items
    (map g.T.Tx.sent c.args.ends.now.requests.items) (g.R.Rx.received c.args.ends.now.replies) c.requires.keeps c.requires.asks c.requires.waits
    c.take_reply.new.local (g.R.Rx.received c.take_reply.new.replies) c.in_ok-take_reply.field-0 c.in-Other.is c.in_ok-take_reply.ensures.hears).0

pub returns-in-Other-clause-fixed : goal.returns-in-Other-clause-fixed
returns-in-Other-clause-fixed g c =
    (hears_other c.args.local.now c.reserve_one.new.answers c.reserve_one.ensures.items
    (map g.T.Tx.sent c.args.ends.now.requests.items) (g.R.Rx.received c.args.ends.now.replies) c.requires.keeps c.requires.asks c.requires.waits
    c.take_reply.new.local (g.R.Rx.received c.take_reply.new.replies) c.in_ok-take_reply.field-0 c.in-Other.is c.in_ok-take_reply.ensures.hears).1

pub returns-in-Other-clause-polls : goal.returns-in-Other-clause-polls
returns-in-Other-clause-polls g c =
    inr (
      inr (hears_other c.args.local.now c.reserve_one.new.answers c.reserve_one.ensures.items
          (map g.T.Tx.sent c.args.ends.now.requests.items) (g.R.Rx.received c.args.ends.now.replies) c.requires.keeps c.requires.asks c.requires.waits
          c.take_reply.new.local (g.R.Rx.received c.take_reply.new.replies) c.in_ok-take_reply.field-0 c.in-Other.is c.in_ok-take_reply.ensures.hears).2,
      refl,
    )

pub returns-in-Awaited-clause-keeps : goal.returns-in-Awaited-clause-keeps
returns-in-Awaited-clause-keeps g c =
    (works_at c.args.local.now c.reserve_one.new.answers c.reserve_one.ensures.items
    (map g.T.Tx.sent c.args.ends.now.requests.items) (g.R.Rx.received c.args.ends.now.replies) c.requires.keeps c.requires.asks c.requires.waits
    c.take_reply.new.local (g.R.Rx.received c.take_reply.new.replies) c.in_ok-take_reply.field-0 c.in-Awaited.reply c.in-Awaited.is c.in_ok-take_reply.ensures.hears
    c.work.new.local c.work.ensures.fits (counts_at g.T.Tx.fulls g.R.Rx.answers c.args.ends.now)
    (counts_at g.T.Tx.fulls g.R.Rx.answers (record { requests = c.args.ends.now.requests; replies = c.take_reply.new.replies }))
    (WantsRoom g.T.Tx.clear g.T.Tx.roomy g.T.Tx.unseen c.args.ends.now.requests.items)
    (FindsNothing g.R.Rx.keeps (box_of g.R.Rx.received g.R.Rx.answers g.R.Rx.about c.take_reply.new.replies)) refl c.work.result c.work.ensures.works).0

pub returns-in-Awaited-clause-fixed : goal.returns-in-Awaited-clause-fixed
returns-in-Awaited-clause-fixed g c =
    (works_at c.args.local.now c.reserve_one.new.answers c.reserve_one.ensures.items
    (map g.T.Tx.sent c.args.ends.now.requests.items) (g.R.Rx.received c.args.ends.now.replies) c.requires.keeps c.requires.asks c.requires.waits
    c.take_reply.new.local (g.R.Rx.received c.take_reply.new.replies) c.in_ok-take_reply.field-0 c.in-Awaited.reply c.in-Awaited.is c.in_ok-take_reply.ensures.hears
    c.work.new.local c.work.ensures.fits (counts_at g.T.Tx.fulls g.R.Rx.answers c.args.ends.now)
    (counts_at g.T.Tx.fulls g.R.Rx.answers (record { requests = c.args.ends.now.requests; replies = c.take_reply.new.replies }))
    (WantsRoom g.T.Tx.clear g.T.Tx.roomy g.T.Tx.unseen c.args.ends.now.requests.items)
    (FindsNothing g.R.Rx.keeps (box_of g.R.Rx.received g.R.Rx.answers g.R.Rx.about c.take_reply.new.replies)) refl c.work.result c.work.ensures.works).1

pub returns-in-Awaited-clause-polls : goal.returns-in-Awaited-clause-polls
returns-in-Awaited-clause-polls g c =
    (works_at c.args.local.now c.reserve_one.new.answers c.reserve_one.ensures.items
    (map g.T.Tx.sent c.args.ends.now.requests.items) (g.R.Rx.received c.args.ends.now.replies) c.requires.keeps c.requires.asks c.requires.waits
    c.take_reply.new.local (g.R.Rx.received c.take_reply.new.replies) c.in_ok-take_reply.field-0 c.in-Awaited.reply c.in-Awaited.is c.in_ok-take_reply.ensures.hears
    c.work.new.local c.work.ensures.fits (counts_at g.T.Tx.fulls g.R.Rx.answers c.args.ends.now)
    (counts_at g.T.Tx.fulls g.R.Rx.answers (record { requests = c.args.ends.now.requests; replies = c.take_reply.new.replies }))
    (WantsRoom g.T.Tx.clear g.T.Tx.roomy g.T.Tx.unseen c.args.ends.now.requests.items)
    (FindsNothing g.R.Rx.keeps (box_of g.R.Rx.received g.R.Rx.answers g.R.Rx.about c.take_reply.new.replies)) refl c.work.result c.work.ensures.works).2
