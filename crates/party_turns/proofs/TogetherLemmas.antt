-- All parties of a run go on, whichever took steps.
use Rattle.std.specs.Prelude.{◌≡◌, ℕ, zero, suc, ◌+◌, ◌≤◌, List, [], ◌∷◌, length, map, slice_get, sum_by, Some, None}
use Rattle.std.proofs.Common.{◌∙◌, arith, refl, sym, subst}
use Rattle.std.proofs.lemmas.List.Sums.{sum_by-cons}
use Rattle.std.proofs.lemmas.List.{length-map}
use Rattle.std.proofs.lemmas.Option.{none-some, same_Some}
use Rattle.session_proxy.specs.State as sessions
use Rattle.worker_core.proofs.ShowingLemmas.{shows_still, shows_through}
use Rattle.worker_core.specs.Showing.{ShowsMore}
use Rattle.worker_core.specs.State as workers
use Rattle.party_turns.proofs.ItemsLemmas.{all_there, at_its_place, of_mapped, there_too}
use Rattle.run_measure.proofs.DoneLemmas.{done_rises, goes_still, goes_through}
use Rattle.run_measure.specs.Steps.{HasDone, HasServed, HaveAllGoneOn, HaveAllShown, RepliesAsTaken, done}
use Rattle.party_turns.specs.Steps.{NoneKept}
use Rattle.run_measure.proofs.ServedLemmas.{takes_still, takes_through}
use Rattle.party_turns.specs.Ends.{Ends, session_lists, worker_lists}

-- all parties that stay as they are have gone on,
pub all_still : (all : List workers.Lists) (those : List sessions.Lists) → HaveAllGoneOn all all those those
all_still all those = record {
  workers_long = refl;
  sessions_long = refl;
  served = λ place before now there also. subst (RepliesAsTaken (length those) before) (same_Some before now (sym there ∙ also)) (takes_still (length those) before);
  done_more = λ at before now there also. subst (HasDone before) (same_Some before now (sym there ∙ also)) (goes_still before);
}

-- and so have those that go on twice
pub all_through : (all all_then all_now : List workers.Lists) (those those_then those_now : List sessions.Lists)
    → HaveAllGoneOn all all_then those those_then → HaveAllGoneOn all_then all_now those_then those_now → HaveAllGoneOn all all_now those those_now
all_through all all_then all_now those those_then those_now first then = record {
  workers_long = then.workers_long ∙ first.workers_long;
  sessions_long = then.sessions_long ∙ first.sessions_long;
  served = λ place before now there also.
      let between = there_too all_then all_now place now then.workers_long also in
      takes_through (length those) before between.0 now (first.served place before between.0 there between.1)
      (subst (λ many. RepliesAsTaken many between.0 now) first.sessions_long (then.served place between.0 now between.1 also));
  done_more = λ at before now there also.
      let between = there_too those_then those_now at now then.sessions_long also in
      goes_through before between.0 now (first.done_more at before between.0 there between.1) (then.done_more at between.0 now between.1 also);
}

-- workers that stay as they are show as much,
pub shown_still : (all : List workers.Lists) → HaveAllShown all all
shown_still all place before now there also = subst (ShowsMore before) (same_Some before now (sym there ∙ also)) (shows_still before)

-- and those that go on twice show no less
pub shown_through : (all all_then all_now : List workers.Lists) → length all_now ≡ length all_then → HaveAllShown all all_then → HaveAllShown all_then all_now
    → HaveAllShown all all_now
shown_through all all_then all_now long first then place before now there also =
    let between = there_too all_then all_now place now long also in
    shows_through before between.0 now (first place before between.0 there between.1) (then place between.0 now between.1 also)

-- Sessions that each go on have together done no less,
pub done_no_less : (those those_now : List sessions.Lists) → length those_now ≡ length those
    → ((at : ℕ) (before now : sessions.Lists) → slice_get those at ≡ Some before → slice_get those_now at ≡ Some now → HasDone before now) → sum_by done those ≤ sum_by done those_now
done_no_less [] [] long each = omega arith
done_no_less [] (now ∷ those_now) long each = absurd (omega (arith, long))
done_no_less (before ∷ those) [] long each = absurd (omega (arith, long))
done_no_less (before ∷ those) (now ∷ those_now) long each =
    let rest = done_no_less those those_now (omega (arith, long)) (λ at. each (suc at)) in
    let here = done_rises before now (each 0 before now refl refl) in
    omega (arith, rest, here, sum_by-cons done before those, sum_by-cons done now those_now)

-- and more where one of them has
pub done_more : (those those_now : List sessions.Lists) → length those_now ≡ length those
    → ((at : ℕ) (before now : sessions.Lists) → slice_get those at ≡ Some before → slice_get those_now at ≡ Some now → HasDone before now)
    → (place : ℕ) (was is : sessions.Lists) → slice_get those place ≡ Some was → slice_get those_now place ≡ Some is → done was + 1 ≤ done is
    → sum_by done those + 1 ≤ sum_by done those_now
done_more [] those_now long each place was is there also more = absurd (none-some was there)
done_more (before ∷ those) [] long each place was is there also more = absurd (none-some is also)
done_more (before ∷ those) (now ∷ those_now) long each zero was is there also more =
    let rest = done_no_less those those_now (omega (arith, long)) (λ at. each (suc at)) in
    let here = subst (λ it. done it + 1 ≤ done now) (sym (same_Some before was there)) (subst (λ it. done was + 1 ≤ done it) (sym (same_Some now is also)) more) in
    omega (arith, rest, here, sum_by-cons done before those, sum_by-cons done now those_now)
done_more (before ∷ those) (now ∷ those_now) long each (suc place) was is there also more =
    let rest = done_more those those_now (omega (arith, long)) (λ at. each (suc at)) place was is there also more in
    let here = done_rises before now (each 0 before now refl refl) in
    omega (arith, rest, here, sum_by-cons done before those, sum_by-cons done now those_now)

module _ {S T O Q G R SK TK OK QK GK RK : Type 0} (mail : Ends S T O Q G R SK TK OK QK GK RK) where
  -- what each session has done by itself is said of what went through its ends
  pub each_goes : (proxies proxies_now : List (sessions.PlainProxy S R))
      → ((at : ℕ) (was is : sessions.PlainProxy S R) → slice_get proxies at ≡ Some was → slice_get proxies_now at ≡ Some is
      → HasDone (session_lists mail was) (session_lists mail is))
      → (at : ℕ) (before now : sessions.Lists) → slice_get (map (session_lists mail) proxies) at ≡ Some before
      → slice_get (map (session_lists mail) proxies_now) at ≡ Some now → HasDone before now
  each_goes proxies proxies_now goes at before now there also =
      let was = of_mapped (session_lists mail) proxies at before there in
      let is = of_mapped (session_lists mail) proxies_now at now also in
      subst (λ before. HasDone before now) was.2 (subst (λ now. HasDone ((session_lists mail) was.0) now) is.2 (goes at was.0 is.0 was.1 is.1))

  -- What each party did by itself, said of all: each worker served, each session went on, and each worker has a sender for each session.
  pub all_stepped : (those those_now : List (workers.PlainWorker Q T O G)) (proxies proxies_now : List (sessions.PlainProxy S R))
      → length those_now ≡ length those → length proxies_now ≡ length proxies
      → ((place : ℕ) (was : workers.PlainWorker Q T O G) → slice_get those place ≡ Some was → length was.ends.replies.items ≡ length proxies)
      → ((place : ℕ) (was is : workers.PlainWorker Q T O G) → slice_get those place ≡ Some was → slice_get those_now place ≡ Some is → was.state.kept ≡ None
      → HasServed (worker_lists mail was) (worker_lists mail is))
      → ((at : ℕ) (was is : sessions.PlainProxy S R) → slice_get proxies at ≡ Some was → slice_get proxies_now at ≡ Some is
      → HasDone (session_lists mail was) (session_lists mail is))
      → NoneKept those → NoneKept those_now × HaveAllGoneOn
      (map (worker_lists mail) those) (map (worker_lists mail) those_now)
      (map (session_lists mail) proxies) (map (session_lists mail) proxies_now)
      × HaveAllShown (map (worker_lists mail) those) (map (worker_lists mail) those_now)
  all_stepped those those_now proxies proxies_now long as_long replies serves goes none = (
    all_there (λ worker. worker.state.kept ≡ None) those_now (λ place is there.
        let was = there_too those those_now place is long there in (one place was.0 is was.1 there).kept),
    record {
      workers_long = length-map those_now (worker_lists mail) ∙ long ∙ sym (length-map those (worker_lists mail));
      sessions_long = length-map proxies_now (session_lists mail) ∙ as_long ∙ sym (length-map proxies (session_lists mail));
      served = λ place before now there also.
          let was = of_mapped (worker_lists mail) those place before there in
          let is = of_mapped (worker_lists mail) those_now place now also in
          let as_many = length-map was.0.ends.replies.items mail.reply_tx.sent ∙ replies place was.0 was.1 ∙ sym (length-map proxies (session_lists mail)) in
          let took = subst (λ many. RepliesAsTaken many ((worker_lists mail) was.0) ((worker_lists mail) is.0)) as_many (one place was.0 is.0 was.1 is.1).replies in
          subst (λ before. RepliesAsTaken (length (map (session_lists mail) proxies)) before now) was.2
          (subst (λ now. RepliesAsTaken (length (map (session_lists mail) proxies)) ((worker_lists mail) was.0) now) is.2 took);
      done_more = each_goes proxies proxies_now goes;
    },
    λ place before now there also.
        let was = of_mapped (worker_lists mail) those place before there in
        let is = of_mapped (worker_lists mail) those_now place now also in
        subst (λ before. ShowsMore before now) was.2 (subst (ShowsMore ((worker_lists mail) was.0)) is.2 (one place was.0 is.0 was.1 is.1).shows),
  )
    where
      one : (place : ℕ) (was is : workers.PlainWorker Q T O G) → slice_get those place ≡ Some was → slice_get those_now place ≡ Some is
          → HasServed ((worker_lists mail) was) ((worker_lists mail) is)
      one place was is there also =
          serves place was is there also (at_its_place (λ (worker : workers.PlainWorker Q T O G). worker.state.kept ≡ None) those place was none there)
