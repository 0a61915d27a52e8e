-- What the measure of a session is once a worker or the session has gone on.
use Rattle.std.specs.Prelude.{◌≡◌, ℕ, zero, suc, ◌+◌, ◌-◌, ◌*◌, ◌≤◌, List, [], ◌∷◌, length, if◌then◌else◌, slice_get, slice_set, sum_by, Some}
use Rattle.std.specs.List.{range_with_len}
use Rattle.std.proofs.Common.{refl, sym, ap, subst, arith}
use Rattle.std.proofs.lemmas.List.Sums.{sum_by-cons}
use Rattle.std.proofs.lemmas.Option.{none-some, same_Some, slice_get_within}
use Rattle.mail_contract.proofs.FrontLemmas.{front_short}
use Rattle.session_known.specs.Session.{Knowledge}
use Rattle.session_proxy.proofs.FewLemmas.{has_sent_few}
use Rattle.session_proxy.specs.Lines.{most_of_line}
use Rattle.session_proxy.specs.Share.{most_in_all}
use Rattle.session_proxy.specs.State as sessions
use Rattle.worker_core.specs.State as workers
use Rattle.mail_contract.proofs.CountsLemmas.{from_all, lists_counted}
use Rattle.run_measure.specs.Laws.{HearsWorkers, PollsLowerTheMeasure, TurnsLowerTheMeasure}
use Rattle.worker_core.specs.Share.{replies_to}
use Rattle.run_measure.specs.Steps.{HasDone}
use Rattle.run_measure.specs.Measure.{asked, asked_to, begun, between, between_all, heard, heard_from, replied, taken, taken_of}

-- where one worker is another, what is on its way between a session and all workers changes by what is between it and that one
one_set : (all : List workers.Lists) (first place : ℕ) (before now : workers.Lists) (session : ℕ) (its : sessions.Lists) → slice_get all place ≡ Some before
    → between_all session its first (slice_set all place now) + between session its (place + first) before
    ≡ between_all session its first all + between session its (place + first) now
one_set [] first place before now session its there = absurd (none-some before there)
one_set (worker ∷ all) first zero before now session its there =
    let none_more : 0 + first ≡ first = omega arith in
    let same = ap (λ worker. between session its first worker) (same_Some worker before there) in
    let of_before = ap (λ number. between session its number before) none_more in
    let of_now = ap (λ number. between session its number now) none_more in
    omega (arith, same, of_before, of_now)
one_set (worker ∷ all) first (suc place) before now session its there =
    let next : suc place + first ≡ place + (first + 1) = omega arith in
    let rest = one_set all (first + 1) place before now session its there in
    let of_before = ap (λ number. between session its number before) next in
    let of_now = ap (λ number. between session its number now) next in
    omega (arith, rest, of_before, of_now)

-- a worker that goes on raises no session's measure
pub turns_lower : TurnsLowerTheMeasure
turns_lower all place before now many session its there goes of heard_few taken_few =
    let set = one_set all 1 place before now session its there in
    let taken_more = front_short (taken_of session before) (taken_of session now) (goes.taken_more session of) in
    let replied_more = front_short (replies_to before session) (replies_to now session) (goes.replied_more session of) in
    let as_taken = goes.as_taken session of in
    omega (arith, set, taken_more, replied_more, as_taken, heard_few, taken_few)

-- what a session sent to so many workers, from a number on, and what it took of them
abbrev pub asked_of : sessions.Lists → ℕ → ℕ → ℕ
asked_of its first many = sum_by (λ worker. asked worker its) (range_with_len first many)

abbrev pub heard_of : sessions.Lists → ℕ → ℕ → ℕ
heard_of its first many = sum_by (λ worker. heard worker its) (range_with_len first many)

-- of all workers that is all that it sent
pub asked_all : (its : sessions.Lists) → asked_of its 1 (length its.sent) ≡ sum_by length its.sent
asked_all its = sym (lists_counted its.sent 1 (λ worker. asked worker its) (λ place low. let number : 1 + place - 1 ≡ place = omega arith in rw number refl))

-- and all that it took
pub heard_all : (its : sessions.Lists) (many : ℕ) → HearsWorkers many its → heard_of its 1 many ≡ length its.received
heard_all its many hears = from_all many 1 its.received (λ k d low. let of = hears k d low in (of.0, omega (arith, of.1)))

module _ (session : ℕ) (before now : sessions.Lists) where
  -- a session goes on, and no more is taken between it and a worker than was sent before, and than is replied
  record GoesBetween (number : ℕ) (worker : workers.Lists) : Type 0 where
    taken_few : taken session worker ≤ asked number before
    asked_more : asked number before ≤ asked number now
    heard_more : heard number before ≤ heard number now
    heard_few : heard number now ≤ replied session worker

  -- what is on its way changes by twice what was sent and by what was taken
  abbrev Changes : List workers.Lists → ℕ → ℕ → Type 0
  Changes all first many =
      between_all session now first all + 2 * asked_of before first many + heard_of now first many
      ≡ between_all session before first all + 2 * asked_of now first many + heard_of before first many

  goes_between : (all : List workers.Lists) (first : ℕ) → ((place : ℕ) (worker : workers.Lists) → slice_get all place ≡ Some worker → GoesBetween (place + first) worker)
      → Changes all first (length all)
  goes_between [] first each = refl
  goes_between (worker ∷ all) first each =
      let each_next : (place : ℕ) (other : workers.Lists) → slice_get all place ≡ Some other → GoesBetween (place + (first + 1)) other = λ place other there.
      let next : suc place + first ≡ place + (first + 1) = omega arith in
      subst (λ number. GoesBetween number other) next (each (suc place) other there)
      in
      let rest = goes_between all (first + 1) each_next in
      let none_more : 0 + first ≡ first = omega arith in
      let here = subst (λ number. GoesBetween number worker) none_more (each 0 worker refl) in
      let asked_before = sum_by-cons (λ worker. asked worker before) first (range_with_len (first + 1) (length all)) in
      let asked_now = sum_by-cons (λ worker. asked worker now) first (range_with_len (first + 1) (length all)) in
      let heard_before = sum_by-cons (λ worker. heard worker before) first (range_with_len (first + 1) (length all)) in
      let heard_now = sum_by-cons (λ worker. heard worker now) first (range_with_len (first + 1) (length all)) in
      omega (arith, rest, here, asked_before, asked_now, heard_before, heard_now)

-- a session that goes on has begun if it had
begun_origin : (before now : sessions.Origin) → ((known : Knowledge) → before ≡ sessions.Knew known → now ≡ sessions.Knew known) → (if sessions.begins before then 1 else 0) ≤ (if sessions.begins now then 1 else 0)
begun_origin (sessions.WaitsFor session) now goes = omega arith
begun_origin (sessions.Knew known) now goes = subst (λ now. 1 ≤ (if sessions.begins now then 1 else 0)) (sym (goes known refl)) (omega arith)

pub begun_rises : (before now : sessions.Lists) → HasDone before now → begun before ≤ begun now
begun_rises before now goes = begun_origin before.course.origin now.course.origin goes.origin

-- it counts once
begun_once : (origin : sessions.Origin) → (if sessions.begins origin then 1 else 0) ≤ 1
begun_once (sessions.WaitsFor session) = omega arith
begun_once (sessions.Knew known) = omega arith

pub begun_one : (its : sessions.Lists) → begun its ≤ 1
begun_one its = begun_once its.course.origin

-- a session that goes on lowers its measure by what it has done
pub polls_lower : PollsLowerTheMeasure
polls_lower all session before now goes share share_now hears hears_now as_many counted =
    let n : ℕ = length before.sent in
    let each : (place : ℕ) (worker : workers.Lists) → slice_get all place ≡ Some worker → GoesBetween session before now (place + 1) worker = λ place worker there. record {
      taken_few = (counted place worker there).0;
      asked_more =
          let low = slice_get_within all place worker there in
          front_short (asked_to (place + 1) before) (asked_to (place + 1) now) (goes.asked_more (place + 1) (omega arith, omega (arith, low, as_many)));
      heard_more = front_short (heard_from (place + 1) before) (heard_from (place + 1) now) (goes.heard_more (place + 1));
      heard_few = (counted place worker there).1;
    }
    in
    let between : Changes session before now all 1 n = subst (Changes session before now all 1) as_many (goes_between session before now all 1 each) in
    let asked_before = asked_all before in
    let asked_now = subst (λ n. asked_of now 1 n ≡ sum_by length now.sent) goes.workers (asked_all now) in
    let heard_before = heard_all before n hears in
    let heard_now = heard_all now n hears_now in
    let most : most_in_all now.course ≡ most_in_all before.course = λ i. sum_by (most_of_line (goes.table i) (goes.client i).level) (goes.lines i) in
    let few = has_sent_few before share in
    let few_now = has_sent_few now share_now in
    let lines = ap length goes.lines in
    omega (
      arith,
      between,
      asked_before,
      asked_now,
      heard_before,
      heard_now,
      most,
      few,
      few_now,
      lines,
      share.few,
      share_now.few,
      front_short before.course.answers now.course.answers goes.answered,
      begun_rises before now goes,
      begun_one before,
      begun_one now,
    )
