-- A worker and a session that were held beside each other stay what they were: only what their boxes know changed, each of one sender of the run.
use Rattle.std.specs.Prelude.{◌≡◌, ℕ, ◌+◌, List, map}
use Rattle.std.proofs.Common.{ap, subst, sym}
use Rattle.mail_contract.specs.Boxes.{Shows, box_of}
use Rattle.mail_contract.specs.Parts.{Parts}
use Rattle.mail_contract.specs.Standing.{Learned}
use Rattle.mail_contract.specs.Takes.{Answers}
use Rattle.placement.specs.Config.{IsOneOf}
use Rattle.session_proxy.specs.State.{PlainProxy}
use Rattle.store_msg.specs.Reply.{PlainReply}
use Rattle.store_msg.specs.declared.request.Request.{Request}
use Rattle.worker_core.specs.State.{PlainWorker}
use Rattle.party_turns.specs.Mates.{IsMate}
use Rattle.party_turns.specs.Making.{IsWeakBoxOf}
use Rattle.parties.proofs.KeptLemmas.{NoneTakenIn}
use Rattle.parties.proofs.LearnedLemmas.{box_learned, none_learned}
use Rattle.parties.proofs.StayLemmas.{SessionStays, WorkerStays}
use Rattle.party_turns.specs.Ends.{Ends}

-- a worker that was held beside a session, of which its box learned
pub worker_met : {S T O Q G R SK TK OK QK GK RK : Type 0} {mail : Ends S T O Q G R SK TK OK QK GK RK}
    (many many_sessions place n : ℕ) (was is : PlainWorker Q T O G) (keeps : Parts) (answers : Q → Answers) (sent : List Request) → IsOneOf many_sessions n
    → is.state ≡ was.state → is.ends.gossip_in ≡ was.ends.gossip_in → is.ends.gossip_out ≡ was.ends.gossip_out → mail.request_rx.key is.ends.requests ≡ mail.request_rx.key was.ends.requests
    → Shows keeps n sent (box_of mail.request_rx.received answers mail.request_rx.about was.ends.requests) (box_of mail.request_rx.received answers mail.request_rx.about is.ends.requests)
    → map mail.reply_tx.key is.ends.replies.items ≡ map mail.reply_tx.key was.ends.replies.items → map mail.reply_tx.number is.ends.replies.items ≡ map mail.reply_tx.number was.ends.replies.items
    → map mail.reply_tx.sent is.ends.replies.items ≡ map mail.reply_tx.sent was.ends.replies.items
    → WorkerStays mail
    many many_sessions place was is
worker_met {mail = mail}
    many many_sessions place n was is keeps answers sent one_of state gossip_in gossip_out key shows keys numbers replies = record {
      lists = λ j. record {
        state = state j;
        received = shows.received j;
        got = mail.gossip_rx.got (gossip_in j);
        replied = replies j;
        told = map mail.gossip_tx.sent (gossip_out j).items;
      };
      ends = record {
        me = ap (λ its. its.me) state;
        keys = record {
          requests_key = key;
          replies_keys = keys;
          replies_numbers = numbers;
          gossip_out_keys = ap (λ its. map mail.gossip_tx.key its.items) gossip_out;
          gossip_out_numbers = ap (λ its. map mail.gossip_tx.number its.items) gossip_out;
          gossip_in_key = ap mail.gossip_rx.key gossip_in;
        };
        no_session = none_learned keeps n sent (mail.request_rx.about was.ends.requests) (mail.request_rx.about is.ends.requests) shows.learned;
        no_mate = subst (λ box. NoneTakenIn (mail.gossip_rx.about was.ends.gossip_in) (mail.gossip_rx.about box)) (sym gossip_in) (λ sender not. not);
        request_box =
            box_learned (IsOneOf many_sessions) (mail.request_rx.senders (mail.request_rx.key was.ends.requests)) (mail.request_rx.senders (mail.request_rx.key is.ends.requests))
            (mail.request_rx.received was.ends.requests) (mail.request_rx.received is.ends.requests) (mail.request_rx.about was.ends.requests) (mail.request_rx.about is.ends.requests)
            (ap mail.request_rx.senders key) shows.received keeps n sent one_of shows.learned;
        gossip_box = λ of_mates.
            subst (λ box. IsWeakBoxOf (IsMate many (place + 1)) (mail.gossip_rx.senders (mail.gossip_rx.key box)) (mail.gossip_rx.got box) (mail.gossip_rx.about box)) (sym gossip_in) of_mates;
      };
    }

-- a session that was held beside a worker, of whose sender its box learned
pub session_met : {S T O Q G R SK TK OK QK GK RK : Type 0} {mail : Ends S T O Q G R SK TK OK QK GK RK}
    (was is : PlainProxy S R) (keeps : Parts) (n : ℕ) (sent : List PlainReply)
    → map mail.request_tx.key is.ends.requests.items ≡ map mail.request_tx.key was.ends.requests.items → mail.reply_rx.key is.ends.replies ≡ mail.reply_rx.key was.ends.replies
    → is.course ≡ was.course → map mail.request_tx.number is.ends.requests.items ≡ map mail.request_tx.number was.ends.requests.items
    → map mail.request_tx.sent is.ends.requests.items ≡ map mail.request_tx.sent was.ends.requests.items → mail.reply_rx.received is.ends.replies ≡ mail.reply_rx.received was.ends.replies
    → Learned keeps n sent (mail.reply_rx.about was.ends.replies) (mail.reply_rx.about is.ends.replies)
    → SessionStays mail was is
session_met {mail = mail} was is keeps n sent keys key course numbers asks received learned = record {
  lists = λ j. record { course = course j; sent = asks j; received = received j };
  ends = record {
    keys = record { requests_keys = keys; requests_numbers = numbers; replies_key = key };
    no_worker = none_learned keeps n sent (mail.reply_rx.about was.ends.replies) (mail.reply_rx.about is.ends.replies) learned;
  };
}
