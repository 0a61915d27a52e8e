-- A session that goes on has done no less.
use Rattle.std.specs.Prelude.{◌≡◌, ℕ, zero, suc, ◌+◌, ◌<◌, ◌≤◌, Bool, false, IsTrue, cond, length, sum_by}
use Rattle.std.specs.List.{range_with_len}
use Rattle.std.proofs.Common.{◌∙◌, refl, sym, ap, subst, arith}
use Rattle.std.proofs.lemmas.Bool.{false≢true}
use Rattle.std.proofs.lemmas.List.Sums.{sum_by-cons}
use Rattle.mail_contract.proofs.CountsLemmas.{no_fewer}
use Rattle.placement.specs.Config.{IsOneOf}
use Rattle.mail_contract.proofs.FrontLemmas.{front_short, front_through, front_whole}
use Rattle.session_proxy.specs.State.{Knew, Lists, Origin, WaitsFor, begins, has_begun}
use Rattle.run_measure.proofs.MeasureLemmas.{asked_all, asked_of, begun_rises}
use Rattle.run_measure.specs.Laws.{DoneRises, SessionsGoOnTwice, SessionsStay}
use Rattle.run_measure.specs.Measure.{asked, asked_to, begun, heard_from}
use Rattle.run_measure.specs.Steps.{HasDone, done}

-- a session that stays as it is has gone on,
pub goes_still : SessionsStay
goes_still lists = record {
  client = refl;
  table = refl;
  lines = refl;
  origin = λ known is. is;
  workers = refl;
  answered = front_whole lists.course.answers;
  asked_more = λ worker of. front_whole (asked_to worker lists);
  heard_more = λ worker. front_whole (heard_from worker lists);
}

-- and so has one that goes on twice
pub goes_through : SessionsGoOnTwice
goes_through before between now first then = record {
  client = then.client ∙ first.client;
  table = then.table ∙ first.table;
  lines = then.lines ∙ first.lines;
  origin = λ known is. then.origin known (first.origin known is);
  workers = then.workers ∙ first.workers;
  answered = front_through before.course.answers between.course.answers now.course.answers first.answered then.answered;
  asked_more = λ worker of.
      front_through (asked_to worker before) (asked_to worker between) (asked_to worker now) (first.asked_more worker of)
      (then.asked_more worker (subst (λ many. IsOneOf many worker) (sym first.workers) of));
  heard_more = λ worker.
      front_through (heard_from worker before) (heard_from worker between) (heard_from worker now) (first.heard_more worker) (then.heard_more worker);
}

-- a sum over some numbers is at most another where each term is
sums_le : (f g : ℕ → ℕ) (n a : ℕ) → ((w : ℕ) → a ≤ w → w < a + n → f w ≤ g w) → sum_by f (range_with_len a n) ≤ sum_by g (range_with_len a n)
sums_le f g zero a each = omega arith
sums_le f g (suc n) a each =
    let rest = sums_le f g n (a + 1) (λ w from to. each w (omega (arith, from)) (omega (arith, to))) in
    let here = each a (omega arith) (omega arith) in
    let of_f = sum_by-cons f a (range_with_len (a + 1) n) in
    let of_g = sum_by-cons g a (range_with_len (a + 1) n) in
    omega (arith, rest, here, of_f, of_g)

-- a session that goes on has sent no fewer requests
pub sent_more : (before now : Lists) → HasDone before now → sum_by length before.sent ≤ sum_by length now.sent
sent_more before now goes =
    let before_all = asked_all before in
    let now_all = subst (λ n. asked_of now 1 n ≡ sum_by length now.sent) goes.workers (asked_all now) in
    let sums = sums_le (λ worker. asked worker before) (λ worker. asked worker now) (length before.sent) 1
    (λ worker from to. front_short (asked_to worker before) (asked_to worker now) (goes.asked_more worker (from, omega (arith, to)))) in
    omega (arith, before_all, now_all, sums)

-- nor taken fewer replies
pub took_more : (before now : Lists) → HasDone before now → length before.received ≤ length now.received
took_more before now goes =
    no_fewer before.received now.received (λ worker. front_short (heard_from worker before) (heard_from worker now) (goes.heard_more worker))

-- and has done no less
pub done_rises : DoneRises
done_rises before now goes =
    omega (arith, begun_rises before now goes, front_short before.course.answers now.course.answers goes.answered, sent_more before now goes, took_more before now goes)

-- one that had begun has still
begins_still : (before now : Origin) → ((known : _) → before ≡ Knew known → now ≡ Knew known) → IsTrue (begins before) → IsTrue (begins now)
begins_still (Knew known) now goes is = ap begins (goes known refl)
begins_still (WaitsFor session) now goes is = absurd (false≢true is)

pub begun_still : (before now : Lists) → HasDone before now → IsTrue (has_begun before.course) → IsTrue (has_begun now.course)
begun_still before now goes is = begins_still before.course.origin now.course.origin goes.origin is

-- and one that has begun since has done more
pub done_begins : (before now : Lists) → HasDone before now → has_begun before.course ≡ false → IsTrue (has_begun now.course) → done before + 1 ≤ done now
done_begins before now goes not_yet since =
    let none : begun before ≡ 0 = ap (λ (is : Bool). cond is 1 0) not_yet in
    let one : begun now ≡ 1 = ap (λ (is : Bool). cond is 1 0) since in
    omega (arith, none, one, front_short before.course.answers now.course.answers goes.answered, sent_more before now goes, took_more before now goes)
