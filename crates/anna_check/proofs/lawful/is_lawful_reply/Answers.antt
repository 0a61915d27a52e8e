use Rattle.std.proofs.Common.{rules, ◌≡◌, leb}
use Rattle.clock_lattice.specs.Clock.{count_of}
use Rattle.session_known.specs.Session.{own_count}
use Rattle.anna_check.proofs.LawfulLemmas.{reply_tested}
use Rattle.anna_check.proofs.lawful.is_lawful_reply.Goals as goal

pub returns : goal.returns
returns c workers earlier joined =
    let client = c.args.known.now.client in
    let knows = c.args.known.now.knows in
    let fewer : leb c.count.result c.own.result ≡ leb (count_of client.session c.args.clock.now) (own_count knows c.args.key) = search rules in
    reply_tested c.args.placement.now client knows earlier c.args.line.now c.args.key c.args.worker c.args.clock.now c.args.named c.may_reply-may_reply.result c.is_clock_from-is_clock.result (leb c.count.result c.own.result) c.covers_required-is_covering.result
    c.may_reply-may_reply.ensures (c.is_clock_from-is_clock.ensures workers earlier joined) fewer c.covers_required-is_covering.ensures
