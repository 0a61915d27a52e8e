use Rattle.std.proofs.Common.{◌≡◌, ◌∙◌, IsTrue, Ok, ap, arith, false, inl, inr, refl, subst, sym}
use Rattle.session_proxy.specs.State.{begins, lists_of, Lists}
use Rattle.std.proofs.lemmas.Bool.{false≢true}
use Rattle.parties.specs.Session.{proxy_of}
use Rattle.run_measure.proofs.PaceLemmas.{still_paced}
use Rattle.run_measure.specs.Laws.{IsPlaced}
use Rattle.run_measure.specs.Pace.{IsPaced, rests_by}
use Rattle.run_waiting.specs.Waiting.{HasDropped}
use Rattle.session_proxy.specs.Share.{Share}
use Rattle.session_proxy.specs.declared.progress.Progress.{Progress}
use Rattle.session_proxy.specs.declared.progress.Progress.TheVariants as progress
use Rattle.parties.specs.Polling.{HasPolled, HasWaited}
use Rattle.parties.proofs.AwaitedLemmas.{AsksStay}
use Rattle.parties.proofs.OneChangedLemmas.{as_many_made}
use Rattle.parties.proofs.MovedLemmas.{MovesOn, moved_by, moves_once, moves_still, paced_once, stays_once}
use Rattle.parties.proofs.PolledLemmas.{polled_once, polled_still, polled_through}
use Rattle.parties.proofs.WaitedLemmas.{waits_once}
use Rattle.parties.proofs.stepping.poll_often.Given.{Over}
use Rattle.parties.proofs.stepping.poll_often.Goals as goal
use Rattle.parties.proofs.stepping.poll_often.Goals.{After-poll, else-waited-via-else-waited, else-waited-via-then-waited+else-waits, in-Moved+else-waited, in-NotYet+else-not-tries_again}

module _ (g : Over) (c : After-poll g) where
  -- what the session sent, took and answered before any poll, before the last one and after it
  abbrev before : Lists
  before = lists_of g.S.Tx.sent g.R.Rx.received (proxy_of c.args.session.now)

  abbrev between : Lists
  between = lists_of g.S.Tx.sent g.R.Rx.received (proxy_of c.loop.session)

  abbrev now : Lists
  now = lists_of g.S.Tx.sent g.R.Rx.received (proxy_of c.poll.new.self)

  -- the session after one more poll
  polled : HasPolled g.S.Tx g.R.Rx (proxy_of c.args.session.now) (proxy_of c.poll.new.self)
  polled =
      polled_through c.loop.invariant.polled
      (polled_once (proxy_of c.loop.session) (proxy_of c.poll.new.self) c.poll.result _ _ _ _ c.poll.ensures.polls c.poll.ensures.ended c.poll.ensures.fixed c.poll.ensures.keys c.poll.ensures.share
      c.poll.ensures.takes)

  -- how far it is, by the answer
  moved : (answer : Progress) → c.poll.result ≡ Ok answer → IsPlaced before → Share before → MovesOn (moved_by answer c.loop.moved) before now
  moved answer is placed share =
      moves_once answer c.poll.result c.loop.moved before between now _ _ _ _ is c.poll.ensures.polls placed (c.loop.invariant.polled.share share)
      (c.loop.invariant.paced placed share) (c.loop.invariant.moved placed share) (c.loop.invariant.asks placed share) c.poll.ensures.fixed
      (as_many_made g.S.Tx.key g.S.Tx.sent (proxy_of c.loop.session).ends.requests.items (proxy_of c.poll.new.self).ends.requests.items c.poll.ensures.keys.requests_keys)

  -- what it took is to its asks, where it dropped nothing
  asks : (answer : Progress) → c.poll.result ≡ Ok answer → (HasDropped answer between now → ⊥) → IsPlaced before → Share before → AsksStay before now
  asks answer is none_dropped placed share missing to_asks =
      (stays_once answer c.poll.result c.loop.moved before between now _ _ _ _ is c.poll.ensures.polls placed (c.loop.invariant.polled.share share)
      (c.loop.invariant.paced placed share) (c.loop.invariant.moved placed share) (c.loop.invariant.asks placed share) missing to_asks).to_asks none_dropped

  -- and no ask came to nothing but where the poll says so
  paced : (answer : Progress) → c.poll.result ≡ Ok answer → IsPlaced before → Share before → IsPaced (rests_by answer) before.course now.course
  paced answer is placed share =
      paced_once answer c.poll.result c.loop.moved before between now _ _ _ _ is c.poll.ensures.polls placed (c.loop.invariant.polled.share share)
      (c.loop.invariant.paced placed share) (c.loop.invariant.moved placed share) (c.loop.invariant.asks placed share) c.poll.ensures.fixed
      (as_many_made g.S.Tx.key g.S.Tx.sent (proxy_of c.loop.session).ends.requests.items (proxy_of c.poll.new.self).ends.requests.items c.poll.ensures.keys.requests_keys)

  -- and what it waits for was told, where it has not moved
  waited : c.poll.result ≡ Ok progress.NotYet → c.loop.moved ≡ false
      → HasWaited g.S.Tx g.R.Rx (proxy_of c.args.session.now)
  waited is =
      waits_once g.S.Tx g.R.Rx c.poll.result c.loop.counter _ c.loop.moved
      (proxy_of c.args.session.now) (proxy_of c.loop.session) (proxy_of c.poll.new.self) _ _ is c.poll.ensures.polls c.poll.ensures.takes c.loop.invariant.waited

pub poll-requires : goal.poll-requires
poll-requires g c = subst (λ origin. IsTrue (begins origin)) (sym c.loop.invariant.polled.fixed.origin) c.requires

pub loop-init : goal.loop-init
loop-init g c =
    let lists = lists_of g.S.Tx.sent g.R.Rx.received (proxy_of c.args.session.now) in
    record {
      counted = (omega arith, omega arith);
      polled = polled_still (proxy_of c.args.session.now);
      moved = λ placed share. moves_still lists;
      paced = λ placed share. still_paced lists.course lists.course refl;
      asks = λ placed share missing to_asks. to_asks;
      waited = inl (refl, refl);
    }

pub loop-preserved : goal.loop-preserved
loop-preserved g c =
    let after = (goal.at.loop-preserved g c).After-poll in
    elim c.match-branch-2.branch [
      | in-Moved+else-waited w ↦
          let is = c.in_ok-poll.was ∙ ap Ok w.in-Moved.is in
          record {
            counted =
                let is = ap g.A.Pace.steps w.pace-is in
                (omega (arith, is, c.begin.ensures.0, c.loop.invariant.counted.0), omega (arith, is, c.begin.ensures.1, c.loop.invariant.counted.1));
            polled = polled g after;
            moved = λ placed share. subst (λ moved. MovesOn moved (before g after) (now g after)) (sym w.moved-is) (moved g after progress.Moved is placed share);
            paced = paced g after progress.Moved is;
            asks = asks g after progress.Moved is (λ dropped. elim w.else-waited.branch [
              | else-waited-via-then-waited+else-waits last ↦ false≢true (sym last.if-waits.false ∙ last.waits.ensures ∙ dropped.1)
              | else-waited-via-else-waited first ↦ false≢true (sym first.if-waited.false ∙ c.waits-waited.ensures ∙ dropped.0)
            ]);
            waited = inr (λ still. absurd (false≢true (sym still ∙ w.moved-is)));
          }
      | in-NotYet+else-not-tries_again w ↦
          let is = c.in_ok-poll.was ∙ ap Ok w.in-NotYet.is in
          record {
            counted =
                let is = ap g.A.Pace.steps w.pace-is in
                (omega (arith, is, w.tries_again.ensures, c.begin.ensures.0, c.loop.invariant.counted.0), omega (arith, is, w.tries_again.ensures, c.begin.ensures.1, c.loop.invariant.counted.1));
            polled = polled g after;
            moved = λ placed share. subst (λ moved. MovesOn moved (before g after) (now g after)) (sym w.moved-is) (moved g after progress.NotYet is placed share);
            paced = paced g after progress.NotYet is;
            asks = asks g after progress.NotYet is (λ dropped. dropped);
            waited = inr (λ still. waited g after is (sym w.moved-is ∙ still));
          }
    ]

pub returns-in_err-poll-clause-polled : goal.returns-in_err-poll-clause-polled
returns-in_err-poll-clause-polled g c = polled g (goal.at.returns-in_err-poll-clause-polled g c).After-poll

pub returns-in-Ended-clause-polled : goal.returns-in-Ended-clause-polled
returns-in-Ended-clause-polled g c = polled g (goal.at.returns-in-Ended-clause-polled g c).After-poll

pub returns-in-Ended-clause-moved : goal.returns-in-Ended-clause-moved
returns-in-Ended-clause-moved g c placed share =
    let after = (goal.at.returns-in-Ended-clause-moved g c).After-poll in
    let is = c.in_ok-poll.was ∙ ap Ok c.in-Ended.is in
    moved g after progress.Ended is placed share _ _ (λ is. absurd (false≢true is)) (paced g after progress.Ended is placed share)

pub returns-then-waits-clause-polled : goal.returns-then-waits-clause-polled
returns-then-waits-clause-polled g c = polled g (goal.at.returns-then-waits-clause-polled g c).After-poll

pub returns-then-waits-clause-moved : goal.returns-then-waits-clause-moved
returns-then-waits-clause-moved g c placed share =
    let after = (goal.at.returns-then-waits-clause-moved g c).After-poll in
    let is = c.in_ok-poll.was ∙ ap Ok c.in-Moved.is in
    moved g after progress.Moved is placed share _ _ (λ is. absurd (false≢true is)) (paced g after progress.Moved is placed share)

pub returns-then-not-tries_again-clause-polled : goal.returns-then-not-tries_again-clause-polled
returns-then-not-tries_again-clause-polled g c = polled g (goal.at.returns-then-not-tries_again-clause-polled g c).After-poll

pub returns-then-not-tries_again-clause-moved : goal.returns-then-not-tries_again-clause-moved
returns-then-not-tries_again-clause-moved g c placed share =
    let after = (goal.at.returns-then-not-tries_again-clause-moved g c).After-poll in
    let is = c.in_ok-poll.was ∙ ap Ok c.in-NotYet.is in
    moved g after progress.NotYet is placed share _ _ (λ is. absurd (false≢true is)) (paced g after progress.NotYet is placed share)

pub returns-then-not-tries_again-clause-waited : goal.returns-then-not-tries_again-clause-waited
returns-then-not-tries_again-clause-waited g c still going some =
    waited g (goal.at.returns-then-not-tries_again-clause-waited g c).After-poll (c.in_ok-poll.was ∙ ap Ok c.in-NotYet.is) still

pub returns-in-Rest-clause-polled : goal.returns-in-Rest-clause-polled
returns-in-Rest-clause-polled g c = polled g (goal.at.returns-in-Rest-clause-polled g c).After-poll

pub returns-in-Rest-clause-moved : goal.returns-in-Rest-clause-moved
returns-in-Rest-clause-moved g c placed share =
    let after = (goal.at.returns-in-Rest-clause-moved g c).After-poll in
    let is = c.in_ok-poll.was ∙ ap Ok c.in-Rest.is in
    moved g after progress.Rest is placed share _ _ (λ is. refl) (paced g after progress.Rest is placed share)

pub returns-after-loop-clause-moved : goal.returns-after-loop-clause-moved
returns-after-loop-clause-moved g c placed share =
    c.loop.invariant.moved placed share _ _ (λ is. absurd (false≢true is)) (c.loop.invariant.paced placed share)

pub returns-after-loop-clause-waited : goal.returns-after-loop-clause-waited
returns-after-loop-clause-waited g c still going some = elim c.loop.invariant.waited [
  | inl none ↦ absurd (omega (arith, none.0))
  | inr waited ↦ waited still
]
