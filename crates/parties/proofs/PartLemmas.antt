-- A worker and a session beside whose boxes nobody is any longer stay what they were.
use Rattle.std.specs.Prelude.{◌≡◌, ℕ, ◌+◌, map}
use Rattle.std.proofs.Common.{ap}
use Rattle.mail_contract.specs.Standing.{AllPart}
use Rattle.placement.specs.Config.{IsOneOf}
use Rattle.session_proxy.specs.State.{PlainProxy}
use Rattle.worker_core.specs.State.{PlainWorker}
use Rattle.party_turns.specs.Mates.{IsMate}
use Rattle.parties.proofs.LearnedLemmas.{box_parted, none_parted, weak_box_parted}
use Rattle.parties.proofs.StayLemmas.{SessionStays, WorkerStays}
use Rattle.party_turns.specs.Ends.{Ends}

-- a worker, at any place
pub worker_parted : {S T O Q G R SK TK OK QK GK RK : Type 0} {mail : Ends S T O Q G R SK TK OK QK GK RK}
    (many many_sessions : ℕ) (was is : PlainWorker Q T O G)
    → is.state ≡ was.state → is.ends.replies ≡ was.ends.replies → is.ends.gossip_out ≡ was.ends.gossip_out
    → mail.request_rx.key is.ends.requests ≡ mail.request_rx.key was.ends.requests → mail.request_rx.received is.ends.requests ≡ mail.request_rx.received was.ends.requests
    → AllPart (mail.request_rx.about was.ends.requests) (mail.request_rx.about is.ends.requests)
    → mail.gossip_rx.key is.ends.gossip_in ≡ mail.gossip_rx.key was.ends.gossip_in → mail.gossip_rx.got is.ends.gossip_in ≡ mail.gossip_rx.got was.ends.gossip_in → AllPart (mail.gossip_rx.about was.ends.gossip_in) (mail.gossip_rx.about is.ends.gossip_in)
    → (place : ℕ)
    → WorkerStays mail
    many many_sessions place was is
worker_parted {mail = mail}
    many many_sessions was is state replies gossip_out key received part mates_key gots mates_part place = record {
      lists = λ j. record {
        state = state j;
        received = received j;
        got = gots j;
        replied = map mail.reply_tx.sent (replies j).items;
        told = map mail.gossip_tx.sent (gossip_out j).items;
      };
      ends = record {
        me = ap (λ its. its.me) state;
        keys = record {
          requests_key = key;
          replies_keys = ap (λ its. map mail.reply_tx.key its.items) replies;
          replies_numbers = ap (λ its. map mail.reply_tx.number its.items) replies;
          gossip_out_keys = ap (λ its. map mail.gossip_tx.key its.items) gossip_out;
          gossip_out_numbers = ap (λ its. map mail.gossip_tx.number its.items) gossip_out;
          gossip_in_key = mates_key;
        };
        no_session = none_parted (mail.request_rx.about was.ends.requests) (mail.request_rx.about is.ends.requests) part;
        no_mate = none_parted (mail.gossip_rx.about was.ends.gossip_in) (mail.gossip_rx.about is.ends.gossip_in) mates_part;
        request_box =
            box_parted (IsOneOf many_sessions) (mail.request_rx.senders (mail.request_rx.key was.ends.requests)) (mail.request_rx.senders (mail.request_rx.key is.ends.requests))
            (mail.request_rx.received was.ends.requests) (mail.request_rx.received is.ends.requests) (mail.request_rx.about was.ends.requests) (mail.request_rx.about is.ends.requests)
            (ap mail.request_rx.senders key) received part;
        gossip_box =
            weak_box_parted (IsMate many (place + 1)) (mail.gossip_rx.senders (mail.gossip_rx.key was.ends.gossip_in)) (mail.gossip_rx.senders (mail.gossip_rx.key is.ends.gossip_in))
            (mail.gossip_rx.got was.ends.gossip_in) (mail.gossip_rx.got is.ends.gossip_in) (mail.gossip_rx.about was.ends.gossip_in) (mail.gossip_rx.about is.ends.gossip_in) (ap mail.gossip_rx.senders mates_key) gots mates_part;
      };
    }

-- and a session
pub session_parted : {S T O Q G R SK TK OK QK GK RK : Type 0} {mail : Ends S T O Q G R SK TK OK QK GK RK} (was is : PlainProxy S R)
    → is.course ≡ was.course → is.ends.requests ≡ was.ends.requests → mail.reply_rx.key is.ends.replies ≡ mail.reply_rx.key was.ends.replies
    → mail.reply_rx.received is.ends.replies ≡ mail.reply_rx.received was.ends.replies → AllPart (mail.reply_rx.about was.ends.replies) (mail.reply_rx.about is.ends.replies)
    → SessionStays mail was is
session_parted {mail = mail} was is course requests key received part = record {
  lists = λ j. record { course = course j; sent = map mail.request_tx.sent (requests j).items; received = received j };
  ends = record {
    keys = record {
      requests_keys = ap (λ its. map mail.request_tx.key its.items) requests;
      requests_numbers = ap (λ its. map mail.request_tx.number its.items) requests;
      replies_key = key;
    };
    no_worker = none_parted (mail.reply_rx.about was.ends.replies) (mail.reply_rx.about is.ends.replies) part;
  };
}
