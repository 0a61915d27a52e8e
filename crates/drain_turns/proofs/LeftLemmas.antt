-- One worker takes its turns in a pass: how much of the telling of all workers is left.
use Rattle.std.specs.Prelude.{◌≡◌, ◌≢◌, ◌⊎◌, ◌&&◌, ℕ, ◌+◌, ◌-◌, ◌<◌, ◌≤◌, Bool, true, false, if◌then◌else◌, List, [], length, option_map, slice_get, slice_index_or, sum_by, unwrap_or, Option, Some, None}
use Rattle.std.specs.List.{range_with_len}
use Rattle.std.proofs.Common.{◌∙◌, ap, arith, inl, inr, refl, subst, sym}
use Rattle.std.proofs.lemmas.Bool.{cases_eq, cases_lt}
use Rattle.std.proofs.lemmas.Option.{slice_get_past, slice_get_within}
use Rattle.mail_contract.specs.Got.{missing}
use Rattle.worker_core.specs.State.{Entries, dirty, mate_at, place_at}
use Rattle.drain_turns.specs.Ready.{Hears, MatesMiss, heard_of, keys_of, left_to_all, left_to_tell, missing_at, missing_to, told_by}
use Rattle.party_turns.specs.Mates.{Steady, told_at}
use Rattle.party_turns.specs.Turning.{Owes}
use Rattle.party_turns.proofs.PairPlacesLemmas.{hearer_at, place_within, same_place}
use Rattle.drain_turns.proofs.PassesTurnLemmas.{none_missing_of}
use Rattle.party_turns.proofs.SumsLemmas.{at_most, by_places, less, missing_longer, missing_no_less, two_sums}
use Rattle.party_turns.proofs.TurningKeysLemmas.{no_more_keys}

-- the mate at a place misses as much as it does by its own place
at_is_to : {Q T OK GK : Type 0} (workers : List (Steady Q T OK GK)) (teller at : ℕ) → missing_at workers teller at ≡ missing_to workers teller (mate_at (teller + 1) at - 1)
at_is_to workers teller at =
    ap (λ n. missing (heard_of workers (mate_at (teller + 1) at - 1) teller) (slice_index_or (told_by workers teller) n [])) (sym (hearer_at teller at).1)

-- Less is left than at first, or a mate whose turn comes misses a batch of one that had its turn.
abbrev IsBusy : {Q T OK GK : Type 0} → ℕ → List (Steady Q T OK GK) → List (Steady Q T OK GK) → Type 0
IsBusy turned first now = (left_to_all now + 1 ≤ left_to_all first)
    ⊎ ((teller : ℕ) × (hearer : ℕ) × (teller < turned) × (turned ≤ hearer) × (hearer < length now) × (1 ≤ missing_to now teller hearer))

-- How far a pass has come, once so many workers took their turns: no more is left than at first, and it is busy where one was not Idle. Those that had
-- their turn miss nothing of those whose turn comes, or less is left.
pub record Farther {Q T OK GK : Type 0} (turned : ℕ) (idle : Bool) (first now : List (Steady Q T OK GK)) : Type 0 where
  pub no_more : left_to_all now ≤ left_to_all first
  pub heard : (teller hearer : ℕ) → hearer < turned → turned ≤ teller → (missing_to now teller hearer ≡ 0) ⊎ (left_to_all now + 1 ≤ left_to_all first)
  pub busy : idle ≡ false → IsBusy turned first now

-- before the first turn
pub farther_still : {Q T OK GK : Type 0} (workers : List (Steady Q T OK GK)) → Farther 0 true workers workers
farther_still workers = record {
  no_more = omega arith;
  heard = λ teller hearer below. absurd (omega (arith, below));
  busy = λ busy. let wrong : true ≡ false = busy in cc;
}

-- and after the last
pub farther_all : {Q T OK GK : Type 0} (turned : ℕ) (idle : Bool) (first now : List (Steady Q T OK GK)) → length now ≤ turned → Farther turned idle first now
    → left_to_all now + (if idle then 0 else 1) ≤ left_to_all first
farther_all turned true first now all farther = let no_more = farther.no_more in omega (arith, no_more)
farther_all turned false first now all farther = elim (farther.busy refl) [
  | inl fewer ↦ fewer
  | inr (teller, hearer, low, high, within, some) ↦ absurd (omega (arith, high, within, all))
]

module _ {Q T OK GK : Type 0} (before now : List (Steady Q T OK GK)) (place : ℕ) (others : (at : ℕ) → at ≢ place → slice_get now at ≡ slice_get before at) (long : length now ≡ length before)
    (was is : Steady Q T OK GK) (was_there : slice_get before place ≡ Some was) (is_there : slice_get now place ≡ Some is) where
  -- another worker told what it had told, and heard what it had heard
  told_same : (teller : ℕ) → teller ≢ place → told_by now teller ≡ told_by before teller
  told_same teller apart = ap (λ (one : Option (Steady Q T OK GK)). unwrap_or (option_map (λ worker. worker.told) one) []) (others teller apart)

  keys_same : (teller : ℕ) → teller ≢ place → keys_of now teller ≡ keys_of before teller
  keys_same teller apart = ap (λ (one : Option (Steady Q T OK GK)). unwrap_or (option_map (λ worker. dirty worker.state) one) 0) (others teller apart)

  heard_same : (hearer teller : ℕ) → hearer ≢ place → heard_of now hearer teller ≡ heard_of before hearer teller
  heard_same hearer teller apart = ap (λ (one : Option (Steady Q T OK GK)). unwrap_or (option_map (λ worker. worker.got (teller + 1)) one) (λ place. None)) (others hearer apart)

  misses_still : (teller hearer : ℕ) → teller ≢ place → hearer ≢ place → missing_to now teller hearer ≡ missing_to before teller hearer
  misses_still teller hearer apart its_apart = λ j. missing (heard_same hearer teller its_apart j) (told_at (told_same teller apart j) teller hearer)

  -- what it told itself
  told_was : told_by before place ≡ was.told
  told_was = ap (λ (one : Option (Steady Q T OK GK)). unwrap_or (option_map (λ worker. worker.told) one) []) was_there

  told_is : told_by now place ≡ is.told
  told_is = ap (λ (one : Option (Steady Q T OK GK)). unwrap_or (option_map (λ worker. worker.told) one) []) is_there

  keys_was : keys_of before place ≡ dirty was.state
  keys_was = ap (λ (one : Option (Steady Q T OK GK)). unwrap_or (option_map (λ worker. dirty worker.state) one) 0) was_there

  keys_are : keys_of now place ≡ dirty is.state
  keys_are = ap (λ (one : Option (Steady Q T OK GK)). unwrap_or (option_map (λ worker. dirty worker.state) one) 0) is_there

  module _ (owes : Owes was.told is.told (dirty was.state) (dirty is.state)) where
    -- it told each mate no less
    told_more : (at : ℕ) → length (slice_index_or (told_by before place) at []) ≤ length (slice_index_or (told_by now place) at [])
    told_more at =
        let more = owes.more at in
        let first = ap (λ (those : List (List Entries)). length (slice_index_or those at [])) told_was in
        let last = ap (λ (those : List (List Entries)). length (slice_index_or those at [])) told_is in
        omega (arith, more, first, last)

    -- so a mate misses no less of it
    misses_more : (hearer : ℕ) → hearer ≢ place → missing_to before place hearer ≤ missing_to now place hearer
    misses_more hearer apart =
        let more = missing_no_less (heard_of before hearer place) (told_at (told_by before place) place hearer) (told_at (told_by now place) place hearer) (told_more (place_at (place + 1) (hearer + 1))) in
        let same = ap (λ got. missing got (told_at (told_by now place) place hearer)) (heard_same hearer place apart) in
        omega (arith, more, same)

    -- and what its mates miss of it and what it has to tell are no more together
    each_more : (at : ℕ) → missing_at now place at + length (slice_index_or (told_by before place) at []) ≤ missing_at before place at + length (slice_index_or (told_by now place) at [])
    each_more at =
        let hearer = mate_at (place + 1) at - 1 in
        let longer = missing_longer (heard_of before hearer place) (slice_index_or (told_by before place) at []) (slice_index_or (told_by now place) at []) (told_more at) in
        let same = ap (λ got. missing got (slice_index_or (told_by now place) at [])) (heard_same hearer place (hearer_at place at).0) in
        let more = told_more at in
        omega (arith, longer, same, more)

    own_left : left_to_tell now place + (keys_of before place - keys_of now place) ≤ left_to_tell before place
    own_left =
        let many = length (told_by before place) in
        let as_many : length (told_by now place) ≡ many = let same = owes.long in let first = ap length told_was in let last = ap length told_is in omega (arith, same, first, last) in
        let each = at_most (λ at. missing_at now place at + length (slice_index_or (told_by before place) at [])) (λ at. missing_at before place at + length (slice_index_or (told_by now place) at [])) many
        (λ at within. each_more at)
        in
        let sum_now = two_sums (missing_at now place) (λ at. length (slice_index_or (told_by before place) at [])) many in
        let sum_before = two_sums (missing_at before place) (λ at. length (slice_index_or (told_by now place) at [])) many in
        let told_before = by_places length [] (told_by before place) in
        let told_now = by_places length [] (told_by now place) in
        let told_now_is = ap (λ n. sum_by (λ at. length (slice_index_or (told_by now place) at [])) (range_with_len 0 n)) as_many in
        let left_now = ap (λ n. sum_by (missing_at now place) (range_with_len 0 n)) as_many in
        let no_more = owes.at_most in
        let fewer = no_more_keys owes in
        let told_first = ap (sum_by length) told_was in
        let told_last = ap (sum_by length) told_is in
        omega (arith, each, sum_now, sum_before, told_before, told_now, told_now_is, left_now, no_more, fewer, told_first, told_last, keys_was, keys_are)

    module _ (hears : (other : ℕ) → other ≢ place → Hears other place before now) where
      -- it hears others, so it misses no more of them
      its_left_at : (teller at : ℕ) → teller ≢ place → missing_at now teller at ≤ missing_at before teller at
      its_left_at teller at apart =
          let hearer = mate_at (teller + 1) at - 1 in
          let is = at_is_to now teller at in
          let was = at_is_to before teller at in
          elim (cases_eq hearer place) [
            | inl here ↦
                let here_is = ap (missing_to now teller) here in
                let here_was = ap (missing_to before teller) here in
                elim (hears teller apart) [ inl none ↦ omega (arith, none, is, was, here_is, here_was) | inr fewer ↦ omega (arith, fewer, is, was, here_is, here_was) ]
            | inr elsewhere ↦ let same = misses_still teller hearer apart elsewhere in omega (arith, same, is, was)
          ]

      others_left : (teller : ℕ) → teller ≢ place → left_to_tell now teller ≤ left_to_tell before teller
      others_left teller apart =
          let many = length (told_by before teller) in
          let as_many = ap length (told_same teller apart) in
          let each = at_most (missing_at now teller) (missing_at before teller) many (λ at within. its_left_at teller at apart) in
          let left_now = ap (λ n. sum_by (missing_at now teller) (range_with_len 0 n)) as_many in
          let keys = keys_same teller apart in
          omega (arith, each, left_now, keys)

      each_left : (teller : ℕ) → teller < length before → left_to_tell now teller ≤ left_to_tell before teller
      each_left teller within = elim (cases_eq teller place) [
        | inl here ↦ subst (λ n. left_to_tell now n ≤ left_to_tell before n) (sym here) (let own = own_left in omega (arith, own))
        | inr apart ↦ others_left teller apart
      ]

      of_all : (by at : ℕ) → at < length before → left_to_tell now at + by ≤ left_to_tell before at → left_to_all now + by ≤ left_to_all before
      of_all by at within fewer =
          let all = less (left_to_tell now) (left_to_tell before) by (length before) at each_left within fewer in
          let as_many = ap (λ n. sum_by (left_to_tell now) (range_with_len 0 n)) long in
          omega (arith, all, as_many)

      no_more_left : left_to_all now ≤ left_to_all before
      no_more_left = let all = of_all 0 place (slice_get_within before place was was_there) (let own = own_left in omega (arith, own)) in omega (arith, all)

      -- less is left where it has fewer keys to tell,
      fewer_keys : dirty is.state + 1 ≤ dirty was.state → left_to_all now + 1 ≤ left_to_all before
      fewer_keys fewer = of_all 1 place (slice_get_within before place was was_there) (let own = own_left in let first = keys_was in let last = keys_are in omega (arith, own, first, last, fewer))

      module _ (mates : (at : ℕ) → at < length before → length (told_by before at) + 1 ≡ length before) where
        -- and where it missed a batch of another one
        fewer_missing : (teller : ℕ) → teller ≢ place → 1 ≤ missing_to before teller place → left_to_all now + 1 ≤ left_to_all before
        fewer_missing teller apart some = elim (cases_lt teller (length before)) [
          | inr past ↦ let none = none_missing_of before teller place (slice_get_past before teller past) in absurd (omega (arith, none, some))
          | inl within ↦
              let at = place_at (teller + 1) (place + 1) in
              let its = hearer_at teller at in
              let here : mate_at (teller + 1) at - 1 ≡ place = same_place teller (mate_at (teller + 1) at - 1) place its.0 (λ same. apart (sym same)) its.1 in
              let low = place_within (length before) teller place within (slice_get_within before place was was_there) (λ same. apart (sym same)) in
              let many = mates teller within in
              let is = at_is_to now teller at ∙ ap (missing_to now teller) here in
              let was = at_is_to before teller at ∙ ap (missing_to before teller) here in
              let fewer = less (missing_at now teller) (missing_at before teller) 1 (length (told_by before teller)) at (λ one within. its_left_at teller one apart) (omega (arith, low, many))
              (elim (hears teller apart) [ inl none ↦ omega (arith, none, is, was, some) | inr fewer ↦ omega (arith, fewer, is, was) ])
              in
              let left_now = ap (λ n. sum_by (missing_at now teller) (range_with_len 0 n)) (ap length (told_same teller apart)) in
              let keys = keys_same teller apart in
              of_all 1 teller within (omega (arith, fewer, left_now, keys))
        ]

        -- So a pass comes farther by its turns.
        pub farther_more : (idle its_idle : Bool) (first : List (Steady Q T OK GK)) → (its_idle ≡ false → (dirty is.state + 1 ≤ dirty was.state) ⊎ MatesMiss place before)
            → Farther place idle first before → Farther (place + 1) (idle && its_idle) first now
        farther_more idle its_idle first busy so_far = record {
          no_more = let all = no_more_left in let far = so_far.no_more in omega (arith, all, far);
          heard = λ teller hearer below past. elim (cases_eq hearer place) [
            | inl here ↦
                let apart : teller ≢ place = λ same. omega (arith, same, past) in
                let is = ap (missing_to now teller) here in
                elim (hears teller apart) [
                  | inl none ↦ inl (is ∙ none)
                  | inr fewer ↦ inr (less_now (fewer_missing teller apart (omega (arith, fewer))))
                ]
            | inr apart ↦
                elim (so_far.heard teller hearer (omega (arith, below, apart)) (omega (arith, past))) [
                  | inl none ↦ inl (misses_still teller hearer (λ same. omega (arith, same, past)) apart ∙ none)
                  | inr fewer ↦ inr (less_still fewer)
                ]
          ];
          busy = by_both idle its_idle so_far.busy busy;
        }
          where
            -- what is less than at first before the turns is so after them
            less_still : left_to_all before + 1 ≤ left_to_all first → left_to_all now + 1 ≤ left_to_all first
            less_still fewer = let all = no_more_left in omega (arith, all, fewer)

            less_now : left_to_all now + 1 ≤ left_to_all before → left_to_all now + 1 ≤ left_to_all first
            less_now fewer = let far = so_far.no_more in omega (arith, far, fewer)

            so_far_busy : IsBusy place first before → IsBusy (place + 1) first now
            so_far_busy (inl fewer) = inl (less_still fewer)
            so_far_busy (inr (teller, hearer, low, high, within, some)) = elim (cases_eq hearer place) [
              | inl here ↦
                  let is = ap (missing_to before teller) here in
                  inl (less_now (fewer_missing teller (λ same. omega (arith, same, low)) (omega (arith, is, some))))
              | inr apart ↦
                  let same = misses_still teller hearer (λ same. omega (arith, same, low)) apart in
                  inr (teller, hearer, omega (arith, low), omega (arith, high, apart), omega (arith, within, long), omega (arith, same, some))
            ]

            its_busy : (dirty is.state + 1 ≤ dirty was.state) ⊎ MatesMiss place before → IsBusy (place + 1) first now
            its_busy (inl fewer) = inl (less_now (fewer_keys fewer))
            its_busy (inr (other, within, apart, some)) = elim (cases_lt other place) [
              | inl low ↦
                  elim (so_far.heard place other low (omega arith)) [
                    | inl none ↦ absurd (omega (arith, none, some))
                    | inr fewer ↦ inl (less_still fewer)
                  ]
              | inr high ↦
                  let more = misses_more other apart in
                  inr (place, other, omega arith, omega (arith, high, apart), omega (arith, within, long), omega (arith, more, some))
            ]

            by_both : (idle its_idle : Bool) → (idle ≡ false → IsBusy place first before) → (its_idle ≡ false → (dirty is.state + 1 ≤ dirty was.state) ⊎ MatesMiss place before)
                → (idle && its_idle) ≡ false → IsBusy (place + 1) first now
            by_both false its_idle its_first its_then is = so_far_busy (its_first refl)
            by_both true false its_first its_then is = its_busy (its_then refl)
            by_both true true its_first its_then is = let wrong : true ≡ false = is in cc
