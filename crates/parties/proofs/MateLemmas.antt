-- Two workers that were held beside each other stay what they were, and so do the others; and they have met.
use Rattle.std.specs.Prelude.{◌≡◌, ◌≢◌, ℕ, ◌+◌, ◌<◌, false, IsTrue, List, length, map, slice_get, Some}
use Rattle.std.proofs.Common.{◌∙◌, ap, inl, inr, refl, subst, sym}
use Rattle.std.proofs.lemmas.Bool.{cases_eq}
use Rattle.std.proofs.lemmas.Option.{same_Some}
use Rattle.mail_contract.specs.Standing.{IsSettled}
use Rattle.placement.specs.Config.{IsOneOf}
use Rattle.session_proxy.specs.State.{PlainProxy}
use Rattle.worker_core.specs.State.{PlainWorker}
use Rattle.party_turns.proofs.ItemsLemmas.{there_is}
use Rattle.party_turns.specs.Mates.{AreShown, HaveGoneOn, IsMate, steady_of}
use Rattle.party_turns.proofs.PairListsLemmas.{still_at}
use Rattle.party_turns.proofs.ShownLemmas.{pair_goes_on}
use Rattle.party_turns.specs.Making.{IsBoxOf}
use Rattle.parties.proofs.KeptLemmas.{NoneTakenIn}
use Rattle.parties.proofs.BesideLemmas.{KnowStill, StaysClearAt}
use Rattle.parties.proofs.LearnedLemmas.{met_learned, weak_box_stays}
use Rattle.parties.proofs.StayLemmas.{WorkerStays}
use Rattle.party_turns.specs.Ends.{Ends}

module _ {S T O Q G R SK TK OK QK GK RK : Type 0} {mail : Ends S T O Q G R SK TK OK QK GK RK} {place other : ℕ} {before now : List (PlainWorker Q T O G)}
    (shown : AreShown mail.gossip_tx.key mail.gossip_tx.number mail.gossip_tx.sent mail.gossip_tx.clear mail.gossip_tx.unseen mail.gossip_rx.key mail.gossip_rx.keeps mail.gossip_rx.got mail.gossip_rx.about mail.gossip_rx.due place other before now)
    (within : place < length before) (its_within : other < length before) (differs : other ≢ place) where
  -- each worker stays
  pub pair_stays : (many_sessions at : ℕ) (was is : PlainWorker Q T O G) → slice_get before at ≡ Some was → slice_get now at ≡ Some is
      → WorkerStays mail
      (length before) many_sessions at was is
  pair_stays many_sessions at was is there also =
      let steady = still_at (steady_of mail.gossip_tx.key mail.gossip_tx.number mail.gossip_tx.sent mail.gossip_rx.key mail.gossip_rx.got) before now at was is (ap (λ those. slice_get those at) shown.steady) there also in
      let all : HaveGoneOn mail.request_rx.key mail.reply_tx.key mail.reply_tx.number mail.gossip_tx.key mail.gossip_tx.number mail.gossip_rx.key false mail.request_rx.senders mail.request_rx.received mail.request_rx.about mail.reply_tx.sent
      mail.gossip_rx.keeps.complete mail.gossip_rx.senders mail.gossip_rx.got mail.gossip_rx.about before now = pair_goes_on shown within its_within differs
      in
      let goes = all.gone_on at was is there also in
      let stands = all.gossip_stands at was is there also in
      let requests : is.ends.requests ≡ was.ends.requests = ap (λ its. its.requests) steady in
      record {
        lists = λ j. record {
          state = (steady j).state;
          received = mail.request_rx.received (steady j).requests;
          got = (steady j).got;
          replied = map mail.reply_tx.sent (steady j).replies;
          told = (steady j).told;
        };
        ends = record {
          me = ap (λ its. its.state.me) steady;
          keys = goes.keys;
          no_session = subst (λ box. NoneTakenIn (mail.request_rx.about was.ends.requests) (mail.request_rx.about box)) (sym requests) (λ sender not. not);
          no_mate = λ sender not settled. elim (stands sender) [
            | inl same ↦ not (subst (λ its. IsSettled its) same.0 settled)
            | inr mate ↦ mate.1 settled
          ];
          request_box = λ of_run.
              subst (λ box. IsBoxOf (IsOneOf many_sessions) (mail.request_rx.senders (mail.request_rx.key box)) (mail.request_rx.received box) (mail.request_rx.about box)) (sym requests) of_run;
          gossip_box =
              weak_box_stays (IsMate (length before) (at + 1)) (mail.gossip_rx.senders (mail.gossip_rx.key was.ends.gossip_in)) (mail.gossip_rx.senders (mail.gossip_rx.key is.ends.gossip_in))
              (mail.gossip_rx.got was.ends.gossip_in) (mail.gossip_rx.got is.ends.gossip_in) (mail.gossip_rx.about was.ends.gossip_in) (mail.gossip_rx.about is.ends.gossip_in)
              (ap mail.gossip_rx.senders goes.keys.gossip_in_key) (ap (λ its. its.got) steady)
              (λ sender unused. elim (stands sender) [
                | inl same ↦ inr (record { nothing = same.0 ∙ unused.nothing; met = subst IsTrue (sym same.1) unused.met })
                | inr mate ↦ inl mate.0
              ]);
        };
      }

module _ {S T O Q G R SK TK OK QK GK RK : Type 0} {mail : Ends S T O Q G R SK TK OK QK GK RK} {place other : ℕ} {before now : List (PlainWorker Q T O G)}
    (shown : AreShown mail.gossip_tx.key mail.gossip_tx.number mail.gossip_tx.sent mail.gossip_tx.clear mail.gossip_tx.unseen mail.gossip_rx.key mail.gossip_rx.keeps mail.gossip_rx.got mail.gossip_rx.about mail.gossip_rx.due place other before now) where
  -- each knows of all sessions what it knew
  pub pair_knows : (sessions : List (PlainProxy S R))
      (at session : ℕ) (was is : PlainWorker Q T O G) (proxy_was proxy_is : PlainProxy S R) → slice_get before at ≡ Some was → slice_get now at ≡ Some is
      → slice_get sessions session ≡ Some proxy_was → slice_get sessions session ≡ Some proxy_is
      → KnowStill mail at session was is proxy_was proxy_is
  pair_knows sessions at session was is proxy_was proxy_is there also here also_here =
      let steady = still_at (steady_of mail.gossip_tx.key mail.gossip_tx.number mail.gossip_tx.sent mail.gossip_rx.key mail.gossip_rx.got) before now at was is (ap (λ those. slice_get those at) shown.steady) there also in
      subst (KnowStill mail at session was is proxy_was) (same_Some proxy_was proxy_is (sym here ∙ also_here)) (record {
        requests = ap (λ its. (mail.request_rx.about its.requests (session + 1)).standing) steady;
        asks = λ clear. clear;
        replies = refl;
        reply_senders = subst (λ those. StaysClearAt mail.reply_tx.clear was.ends.replies.items those session) (sym (ap (λ its. its.replies) steady)) (λ clear. clear);
      })

module _ {S T O Q G R SK TK OK QK GK RK : Type 0} (mail : Ends S T O Q G R SK TK OK QK GK RK) {place other : ℕ} {before now : List (PlainWorker Q T O G)}
    (shown : AreShown mail.gossip_tx.key mail.gossip_tx.number mail.gossip_tx.sent mail.gossip_tx.clear mail.gossip_tx.unseen mail.gossip_rx.key mail.gossip_rx.keeps mail.gossip_rx.got mail.gossip_rx.about mail.gossip_rx.due place other before now) where
  -- the one has met the other,
  pub pair_met : place < length before → other < length before → (worker : PlainWorker Q T O G) → slice_get now place ≡ Some worker → IsTrue (mail.gossip_rx.about worker.ends.gossip_in (other + 1)).met
  pair_met within its_within worker there =
      let was = there_is before place within in
      let mate = there_is before other its_within in
      (shown.sees was.0 worker mate.0 was.1 there mate.1).learned.met

  -- and who had met a worker has met it still
  pub pair_met_still : place < length before → other < length before → (at mate : ℕ) → ((worker : PlainWorker Q T O G) → slice_get before at ≡ Some worker → IsTrue (mail.gossip_rx.about worker.ends.gossip_in (mate + 1)).met)
      → (worker : PlainWorker Q T O G) → slice_get now at ≡ Some worker → IsTrue (mail.gossip_rx.about worker.ends.gossip_in (mate + 1)).met
  pair_met_still within its_within at mate met worker there =
      let one = there_is before place within in
      let its = there_is before other its_within in
      elim (cases_eq at place) [
        | inl here ↦
            let sees = shown.sees one.0 worker its.0 one.1 (ap (slice_get now) (sym here) ∙ there) its.1 in
            met_learned mail.gossip_rx.keeps (other + 1) _ (mail.gossip_rx.about one.0.ends.gossip_in) (mail.gossip_rx.about worker.ends.gossip_in) sees.learned (mate + 1)
            (met one.0 (ap (slice_get before) here ∙ one.1))
        | inr apart ↦
            elim (cases_eq at other) [
              | inl here ↦
                  let seen = shown.seen its.0 worker one.0 its.1 (ap (slice_get now) (sym here) ∙ there) one.1 in
                  met_learned mail.gossip_rx.keeps (place + 1) _ (mail.gossip_rx.about its.0.ends.gossip_in) (mail.gossip_rx.about worker.ends.gossip_in) seen.learned (mate + 1)
                  (met its.0 (ap (slice_get before) here ∙ its.1))
              | inr apart_too ↦ met worker (sym (shown.elsewhere at apart apart_too) ∙ there)
            ]
      ]
