-- A session that is polled once, or several times one after another.
use Rattle.std.specs.Prelude.{◌≡◌, ℕ, length, Result, Ok, Err}
use Rattle.std.proofs.Common.{◌∙◌, ap, arith, refl, subst, sym}
use Rattle.lattice_laws.specs.declared.lattice.NoMemory.{NoMemory}
use Rattle.mail_contract.specs.declared.rx.Rx as boxes
use Rattle.mail_contract.specs.declared.tx.Tx as senders
use Rattle.mail_contract.specs.Boxes.{MayTake, box_of}
use Rattle.session_proxy.specs.Polls.{Counts, EndsWhereAnswered, Polls}
use Rattle.session_proxy.specs.Share.{Share}
use Rattle.session_proxy.specs.State.{Course, IsFixed, KeysStay, Lists, PlainProxy, lists_of}
use Rattle.session_proxy.specs.declared.progress.Progress.{Progress}
use Rattle.session_proxy.specs.declared.progress.Progress.TheVariants as progress
use Rattle.party_turns.specs.Turning.{AreInRange}
use Rattle.mail_contract.proofs.StandsLemmas.{stands_through}
use Rattle.party_turns.proofs.TurningBoxesLemmas.{take_keeps}
use Rattle.parties.specs.Polling.{HasPolled}
use Rattle.store_msg.specs.declared.request.Request.{Request}
use Rattle.store_msg.specs.Reply.{PlainReply}

-- where every line was answered a poll changes nothing
ended_stays : (result : Result Progress NoMemory) (before now : Lists) (counts counts_now : Counts) (wants_room : ℕ → Type 0) (nothing : Type 0)
    → Polls result before now counts counts_now wants_room nothing → EndsWhereAnswered result before.course
    → length before.course.answers ≡ length before.course.lines → now.course ≡ before.course
ended_stays (Ok progress.Ended) before now counts counts_now wants_room nothing polls ends answered = ap (λ (lists : Lists). lists.course) polls.0
ended_stays (Ok progress.Moved) before now counts counts_now wants_room nothing polls ends answered = absurd (omega (arith, ends, answered))
ended_stays (Ok progress.NotYet) before now counts counts_now wants_room nothing polls ends answered = absurd (omega (arith, ends, answered))
ended_stays (Ok progress.Rest) before now counts counts_now wants_room nothing polls ends answered = absurd (omega (arith, ends, answered))
ended_stays (Err want) before now counts counts_now wants_room nothing polls ends answered = absurd (omega (arith, ends, answered))

module _ {S T R SK TK RK : Type 0} {asks : senders.Ghosts S Request SK} {heard : boxes.Ghosts R PlainReply T RK TK} where
  -- at first it was not polled
  pub polled_still : (proxy : PlainProxy S R) → HasPolled asks heard proxy proxy
  polled_still proxy = record {
    fixed = record { client = refl; table = refl; lines = refl; origin = refl };
    keys = record { requests_keys = refl; requests_numbers = refl; replies_key = refl };
    share = λ share. share;
    in_range = λ are. are;
    stand = λ sender. (refl, refl);
    ended = λ answered. refl;
  }

  -- then once more
  pub polled_through : {before between now : PlainProxy S R} → HasPolled asks heard before between
      → HasPolled asks heard between now
      → HasPolled asks heard before now
  polled_through {before} {between} {now} first then = record {
    fixed = record { client = then.fixed.client ∙ first.fixed.client; table = then.fixed.table ∙ first.fixed.table; lines = then.fixed.lines ∙ first.fixed.lines; origin = then.fixed.origin ∙ first.fixed.origin };
    keys = record {
      requests_keys = then.keys.requests_keys ∙ first.keys.requests_keys;
      requests_numbers = then.keys.requests_numbers ∙ first.keys.requests_numbers;
      replies_key = then.keys.replies_key ∙ first.keys.replies_key;
    };
    share = λ share. then.share (first.share share);
    in_range = λ are. then.in_range (first.in_range are);
    stand = stands_through (heard.about before.ends.replies) (heard.about between.ends.replies) (heard.about now.ends.replies) first.stand then.stand;
    ended = λ answered. then.ended (subst (λ (course : Course). length course.answers ≡ length course.lines) (sym (first.ended answered)) answered) ∙ first.ended answered;
  }

  -- and what one poll tells is enough
  pub polled_once : (was is : PlainProxy S R) (result : Result Progress NoMemory) (counts counts_now : Counts) (wants_room : ℕ → Type 0) (nothing : Type 0)
      → Polls result (lists_of asks.sent heard.received was) (lists_of asks.sent heard.received is) counts counts_now wants_room nothing → EndsWhereAnswered result was.course → IsFixed was.course is.course
      → KeysStay asks.key asks.number heard.key was is → Share (lists_of asks.sent heard.received is)
      → MayTake heard.keeps (heard.senders (heard.key was.ends.replies)) (box_of heard.received heard.answers heard.about was.ends.replies) (box_of heard.received heard.answers heard.about is.ends.replies)
      → HasPolled asks heard was is
  polled_once was is result counts counts_now wants_room nothing polls ends fixed keys share takes =
      let took = take_keeps heard.keeps (heard.senders (heard.key was.ends.replies)) (box_of heard.received heard.answers heard.about was.ends.replies) (box_of heard.received heard.answers heard.about is.ends.replies) takes in
      record {
        fixed = fixed;
        keys = keys;
        share = λ earlier. share;
        in_range = λ are. subst (λ key. AreInRange (heard.senders key) (heard.received is.ends.replies)) (sym keys.replies_key) (took.in_range are);
        stand = took.stand;
        ended = ended_stays result (lists_of asks.sent heard.received was) (lists_of asks.sent heard.received is) counts counts_now wants_room nothing polls ends;
      }
