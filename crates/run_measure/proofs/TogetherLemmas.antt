-- The measure where all parties of a run have gone on.
use Rattle.std.specs.Prelude.{◌≡◌, ℕ, suc, ◌+◌, ◌*◌, ◌≤◌, List, [], ◌∷◌, length, slice_get, sum_by, Some}
use Rattle.std.specs.List.{range_with_len}
use Rattle.std.proofs.Common.{refl, ap, subst, arith}
use Rattle.std.proofs.lemmas.List.Sums.{sum_by-cons}
use Rattle.std.proofs.lemmas.Option.{slice_get_within}
use Rattle.mail_contract.proofs.FrontLemmas.{front_short}
use Rattle.session_proxy.proofs.FewLemmas.{has_sent_few}
use Rattle.session_proxy.specs.Lines.{most_of_line}
use Rattle.session_proxy.specs.Share.{most_in_all}
use Rattle.session_proxy.specs.State as sessions
use Rattle.worker_core.specs.State as workers
use Rattle.run_measure.specs.Laws.{IsOfWorkers, TogetherLowerTheMeasure}
use Rattle.run_measure.specs.Measure.{asked, asked_to, between_all, heard, heard_from, measure, measure_of_all, replied, taken, taken_of}
use Rattle.run_measure.specs.Steps.{HasDone, done}
use Rattle.run_measure.proofs.MeasureLemmas.{asked_all, asked_of, begun_one, begun_rises, heard_all, heard_of}

module _ (session : ℕ) (before now : sessions.Lists) where
  -- a session and a worker go on, and no more is taken between them than was sent, before and after
  record GoesWith (number : ℕ) (worker worker_now : workers.Lists) : Type 0 where
    asked_more : asked number before ≤ asked number now
    heard_more : heard number before ≤ heard number now
    taken_more : taken session worker ≤ taken session worker_now
    as_taken : replied session worker_now + taken session worker ≤ replied session worker + taken session worker_now
    taken_few : taken session worker ≤ asked number before
    heard_few : heard number before ≤ replied session worker
    taken_few_now : taken session worker_now ≤ asked number now
    heard_few_now : heard number now ≤ replied session worker_now

  -- what is on its way rises at most by twice what was sent, and falls by what was taken
  abbrev RisesAtMost : List workers.Lists → List workers.Lists → ℕ → ℕ → Type 0
  RisesAtMost all all_now first many =
      between_all session now first all_now + 2 * asked_of before first many + heard_of now first many
      ≤ between_all session before first all + 2 * asked_of now first many + heard_of before first many

  goes_with : (all all_now : List workers.Lists) (first : ℕ) → length all_now ≡ length all
      → ((place : ℕ) (worker worker_now : workers.Lists) → slice_get all place ≡ Some worker → slice_get all_now place ≡ Some worker_now → GoesWith (place + first) worker worker_now)
      → RisesAtMost all all_now first (length all)
  goes_with [] [] first long each = omega arith
  goes_with [] (worker_now ∷ all_now) first long each = absurd (omega (arith, long))
  goes_with (worker ∷ all) [] first long each = absurd (omega (arith, long))
  goes_with (worker ∷ all) (worker_now ∷ all_now) first long each =
      let each_next : (place : ℕ) (other other_now : workers.Lists) → slice_get all place ≡ Some other → slice_get all_now place ≡ Some other_now → GoesWith (place + (first + 1)) other other_now =
      λ place other other_now there also.
      let next : suc place + first ≡ place + (first + 1) = omega arith in
      subst (λ number. GoesWith number other other_now) next (each (suc place) other other_now there also)
      in
      let rest = goes_with all all_now (first + 1) (omega (arith, long)) each_next in
      let none_more : 0 + first ≡ first = omega arith in
      let here = subst (λ number. GoesWith number worker worker_now) none_more (each 0 worker worker_now refl refl) in
      let asked_before = sum_by-cons (λ worker. asked worker before) first (range_with_len (first + 1) (length all)) in
      let asked_now = sum_by-cons (λ worker. asked worker now) first (range_with_len (first + 1) (length all)) in
      let heard_before = sum_by-cons (λ worker. heard worker before) first (range_with_len (first + 1) (length all)) in
      let heard_now = sum_by-cons (λ worker. heard worker now) first (range_with_len (first + 1) (length all)) in
      omega (
        arith,
        rest,
        here.asked_more,
        here.heard_more,
        here.taken_more,
        here.as_taken,
        here.taken_few,
        here.heard_few,
        here.taken_few_now,
        here.heard_few_now,
        asked_before,
        asked_now,
        heard_before,
        heard_now,
      )

  -- so the measure of the session falls by what it has done
  one_lower : (all all_now : List workers.Lists) → length all_now ≡ length all → HasDone before now → IsOfWorkers (length all) before → IsOfWorkers (length all) now
      → ((place : ℕ) (worker worker_now : workers.Lists) → slice_get all place ≡ Some worker → slice_get all_now place ≡ Some worker_now → GoesWith (place + 1) worker worker_now)
      → measure all_now session now + done now ≤ measure all session before + done before
  one_lower all all_now long goes its its_now each =
      let rises = goes_with all all_now 1 long each in
      let asked_before : asked_of before 1 (length all) ≡ sum_by length before.sent = subst (λ n. asked_of before 1 n ≡ sum_by length before.sent) its.senders (asked_all before) in
      let asked_now : asked_of now 1 (length all) ≡ sum_by length now.sent = subst (λ n. asked_of now 1 n ≡ sum_by length now.sent) its_now.senders (asked_all now) in
      let heard_before = heard_all before (length all) its.hears in
      let heard_now = heard_all now (length all) its_now.hears in
      let most : most_in_all now.course ≡ most_in_all before.course = λ i. sum_by (most_of_line (goes.table i) (goes.client i).level) (goes.lines i) in
      let few = has_sent_few before its.share in
      let few_now = has_sent_few now its_now.share in
      let lines = ap length goes.lines in
      omega (
        arith,
        rises,
        asked_before,
        asked_now,
        heard_before,
        heard_now,
        most,
        few,
        few_now,
        lines,
        its.share.few,
        its_now.share.few,
        front_short before.course.answers now.course.answers goes.answered,
        begun_rises before now goes,
        begun_one before,
        begun_one now,
      )

-- and so of all sessions
all_lower : (all all_now : List workers.Lists) (session : ℕ) (those those_now : List sessions.Lists) → length those_now ≡ length those
    → ((at : ℕ) (before now : sessions.Lists) → slice_get those at ≡ Some before → slice_get those_now at ≡ Some now
    → measure all_now (at + session) now + done now ≤ measure all (at + session) before + done before)
    → measure_of_all all_now session those_now + sum_by done those_now ≤ measure_of_all all session those + sum_by done those
all_lower all all_now session [] [] long each = omega arith
all_lower all all_now session [] (now ∷ those_now) long each = absurd (omega (arith, long))
all_lower all all_now session (before ∷ those) [] long each = absurd (omega (arith, long))
all_lower all all_now session (before ∷ those) (now ∷ those_now) long each =
    let rest = all_lower all all_now (session + 1) those those_now (omega (arith, long)) (λ at was is there also.
    let next : suc at + session ≡ at + (session + 1) = omega arith in
    subst (λ number. measure all_now number is + done is ≤ measure all number was + done was) next (each (suc at) was is there also)) in
    let none_more : 0 + session ≡ session = omega arith in
    let here = subst (λ number. measure all_now number now + done now ≤ measure all number before + done before) none_more (each 0 before now refl refl) in
    let of_before = sum_by-cons done before those in
    let of_now = sum_by-cons done now those_now in
    omega (arith, rest, here, of_before, of_now)

pub together_lower : TogetherLowerTheMeasure
together_lower all all_now those those_now gone_on of_workers of_workers_now counted counted_now =
    all_lower all all_now 1 those those_now gone_on.sessions_long (λ at before now there also.
    let goes = gone_on.done_more at before now there also in
    let its = of_workers at before there in
    let its_now = of_workers_now at now also in
    let inside = slice_get_within those at before there in
    one_lower (at + 1) before now all all_now gone_on.workers_long goes its its_now (λ place worker worker_now is is_now.
    let served = gone_on.served place worker worker_now is is_now in
    let within = slice_get_within all place worker is in
    let senders = its.senders in
    let first = counted place at worker before is there in
    let then = counted_now place at worker_now now is_now also in
    record {
      asked_more = front_short (asked_to (place + 1) before) (asked_to (place + 1) now) (goes.asked_more (place + 1) (omega arith, omega (arith, within, senders)));
      heard_more = front_short (heard_from (place + 1) before) (heard_from (place + 1) now) (goes.heard_more (place + 1));
      taken_more = front_short (taken_of (at + 1) worker) (taken_of (at + 1) worker_now) (served.taken_more (at + 1) (omega arith, omega (arith, inside)));
      as_taken = served.as_taken (at + 1) (omega arith, omega (arith, inside));
      taken_few = first.requests;
      heard_few = first.replies;
      taken_few_now = then.requests;
      heard_few_now = then.replies;
    }))
