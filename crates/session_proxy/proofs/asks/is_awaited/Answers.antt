use Rattle.std.proofs.Common.{◌≡◌, length, arith}
use Rattle.std.proofs.lemmas.Map.Views.{tells_apart}
use Rattle.clock_lattice.specs.ClockOrder.{clock_equivalence, clock_exact}
use Rattle.session_proxy.specs.Local.{course_of}
use Rattle.session_proxy.proofs.AskLemmas.{read_is_open}
use Rattle.session_proxy.proofs.asks.is_awaited.Goals as goal

pub returns-then-key-key_asked : goal.returns-then-key-key_asked
returns-then-key-key_asked c =
    let place : c.len.result ≡ length c.args.local.now.answers.items = omega arith in
    let read = read_is_open (course_of c.args.local.now) _ _ _ c.as_slice.ensures place c.requires.left c.index-as_slice-len.is in
    λ line is. let same : c.index-as_slice-len.result ≡ line = cc in (
      λ yes. grind (arith, tells_apart clock_exact),
      λ fits. rw (c.eq.ensures, c.required.ensures, fits.3, c.in-Asks.is) (clock_equivalence.refl c.in-Asks.required),
    )

pub returns-else-key-key_asked : goal.returns-else-key-key_asked
returns-else-key-key_asked c =
    let place : c.len.result ≡ length c.args.local.now.answers.items = omega arith in
    let read = read_is_open (course_of c.args.local.now) _ _ _ c.as_slice.ensures place c.requires.left c.index-as_slice-len.is in
    λ line is. let same : c.index-as_slice-len.result ≡ line = cc in grind arith
