use Rattle.std.proofs.Common.{◌≡◌, length, arith}
use Rattle.session_proxy.specs.Local.{course_of}
use Rattle.session_proxy.proofs.AskLemmas.{read_is_open}
use Rattle.session_proxy.proofs.asks.asked_at.Goals as goal

pub worker_asked-requires-clause-line : goal.worker_asked-requires-clause-line
worker_asked-requires-clause-line c =
    let place : c.len.result ≡ length c.args.local.now.answers.items = omega arith in
    rw c.known.ensures (c.requires.line _ (read_is_open (course_of c.args.local.now) _ _ _ c.as_slice.ensures place c.requires.open c.index-as_slice-len.is)).0

pub worker_asked-requires-clause-asked : goal.worker_asked-requires-clause-asked
worker_asked-requires-clause-asked c =
    let place : c.len.result ≡ length c.args.local.now.answers.items = omega arith in
    (c.requires.line _ (read_is_open (course_of c.args.local.now) _ _ _ c.as_slice.ensures place c.requires.open c.index-as_slice-len.is)).1

pub worker_asked-requires-clause-once : goal.worker_asked-requires-clause-once
worker_asked-requires-clause-once c =
    let place : c.len.result ≡ length c.args.local.now.answers.items = omega arith in
    rw c.known.ensures (c.requires.line _ (read_is_open (course_of c.args.local.now) _ _ _ c.as_slice.ensures place c.requires.open c.index-as_slice-len.is)).2

pub returns : goal.returns
returns c =
    let place : c.len.result ≡ length c.args.local.now.answers.items = omega arith in
    let read = read_is_open (course_of c.args.local.now) _ _ _ c.as_slice.ensures place c.requires.open c.index-as_slice-len.is in
    λ line is. let same : c.index-as_slice-len.result ≡ line = cc in rw (← same) (rw c.known.ensures at c.worker_asked.ensures)
