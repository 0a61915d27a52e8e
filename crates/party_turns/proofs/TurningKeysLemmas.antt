-- How many keys are left to tell after gossip, and how many batches went out.
use Rattle.std.specs.Prelude.{◌≡◌, ℕ, suc, ◌+◌, ◌*◌, ◌<◌, ◌≤◌, Bool, true, false, List, [], ◌∷◌, ◌++◌, drop, filter, length, map, slice_index_or, sum_by, take}
use Rattle.std.proofs.Common.{zero, ◌∙◌, refl, ap, arith, inl, inr, sym}
use Rattle.std.proofs.lemmas.Bool.{cases_lt}
use Rattle.std.proofs.lemmas.List.{get_or_past, length-append, length-drop, length-map, length-take}
use Rattle.std.proofs.lemmas.List.Sums.{sum_by-cons}
use Rattle.worker_core.specs.State.{Entries, Lists, changed_of, dirty}
use Rattle.worker_core.specs.Batches.{batches, left_over, went_out}
use Rattle.worker_core.specs.Turns.{Gossips}
use Rattle.party_turns.specs.Turning.{Owes}

-- no more keys are left over than there were,
left_at_most : (tries : List Bool) (keys : List ℕ) → length (left_over tries keys) ≤ length keys
left_at_most [] keys = omega arith
left_at_most (true ∷ tries) keys = omega (arith, left_at_most tries (drop 16 keys), length-drop 16 keys)
left_at_most (false ∷ tries) keys =
    omega (arith, left_at_most tries (drop 16 keys), length-drop 16 keys, length-take 16 keys, length-append (take 16 keys) (left_over tries (drop 16 keys)))

-- and fewer where a batch went out
left_fewer : (tries : List Bool) (keys : List ℕ) → 16 * length tries < length keys + 16 → 1 ≤ length (filter (λ went. went) tries)
    → length (left_over tries keys) + 1 ≤ length keys
left_fewer [] keys few went = absurd (omega (arith, went))
left_fewer (true ∷ tries) keys few went = omega (arith, few, left_at_most tries (drop 16 keys), length-drop 16 keys)
left_fewer (false ∷ tries) keys few went =
    let dropped = length-drop 16 keys in
    omega (
      arith,
      few,
      left_fewer tries (drop 16 keys) (omega (arith, few, dropped, some_tries tries went)) went,
      dropped,
      length-take 16 keys,
      length-append (take 16 keys) (left_over tries (drop 16 keys)),
    )
  where
    some_tries : (tries : List Bool) → 1 ≤ length (filter (λ went. went) tries) → 1 ≤ length tries
    some_tries [] went = went
    some_tries (went ∷ tries) some = omega arith

-- a sum of numbers that are no greater is no greater,
sum_at_most : {X : Type 0} (before now : List (List X)) → length now ≡ length before
    → ((place : ℕ) → place < length before → length (slice_index_or now place []) ≤ length (slice_index_or before place []))
    → sum_by length now ≤ sum_by length before
sum_at_most [] [] as_many each = omega arith
sum_at_most [] (keys ∷ now) as_many each = absurd (omega (arith, as_many))
sum_at_most (keys ∷ before) [] as_many each = absurd (omega (arith, as_many))
sum_at_most (keys ∷ before) (keys_now ∷ now) as_many each =
    omega (
      arith,
      each 0 (omega arith),
      sum_by-cons length keys before,
      sum_by-cons length keys_now now,
      sum_at_most before now (omega (arith, as_many)) (λ place low. each (suc place) (omega (arith, low))),
    )

-- and less where one is less
sum_less : (before now : List (List ℕ)) (place : ℕ) → length now ≡ length before
    → ((place : ℕ) → place < length before → length (slice_index_or now place []) ≤ length (slice_index_or before place []))
    → place < length before → length (slice_index_or now place []) + 1 ≤ length (slice_index_or before place [])
    → sum_by length now + 1 ≤ sum_by length before
sum_less [] now place as_many each low less = absurd (omega (arith, low))
sum_less (keys ∷ before) [] place as_many each low less = absurd (omega (arith, as_many))
sum_less (keys ∷ before) (keys_now ∷ now) zero as_many each low less =
    omega (
      arith,
      less,
      sum_by-cons length keys before,
      sum_by-cons length keys_now now,
      sum_at_most before now (omega (arith, as_many)) (λ place low. each (suc place) (omega (arith, low))),
    )
sum_less (keys ∷ before) (keys_now ∷ now) (suc place) as_many each low less =
    omega (
      arith,
      each 0 (omega arith),
      sum_by-cons length keys before,
      sum_by-cons length keys_now now,
      sum_less before now place (omega (arith, as_many)) (λ place low. each (suc place) (omega (arith, low))) (omega (arith, low)) less,
    )

-- each batch leaves a key less at least
out_at_most : (tries : List Bool) (keys : List ℕ) → 16 * length tries < length keys + 16 → length (went_out tries keys) + length (left_over tries keys) ≤ length keys
out_at_most [] keys few = omega arith
out_at_most (true ∷ tries) keys few =
    let dropped = length-drop 16 keys in
    omega (arith, few, dropped, out_at_most tries (drop 16 keys) (omega (arith, few, dropped)))
out_at_most (false ∷ tries) keys few =
    let dropped = length-drop 16 keys in
    omega (
      arith,
      few,
      dropped,
      out_at_most tries (drop 16 keys) (omega (arith, few, dropped)),
      length-take 16 keys,
      length-append (take 16 keys) (left_over tries (drop 16 keys)),
    )

-- a batch more is told for each that goes out
as_long : {X : Type 0} (told told_now : List X) (make : List ℕ → X) (keys : List (List ℕ)) → told_now ≡ told ++ map make keys → length told_now ≡ length told + length keys
as_long told told_now make keys is = let long = length-map keys make in let both = length-append told (map make keys) in let same = ap length is in omega (arith, same, both, long)

-- two sums of numbers each two of which are no greater together
sums_at_most : {X Y : Type 0} (keys keys_now : List (List X)) (told told_now : List (List Y)) → length keys_now ≡ length keys → length told ≡ length keys → length told_now ≡ length told
    → ((place : ℕ) → place < length keys
    → length (slice_index_or keys_now place []) + length (slice_index_or told_now place []) ≤ length (slice_index_or keys place []) + length (slice_index_or told place []))
    → sum_by length keys_now + sum_by length told_now ≤ sum_by length keys + sum_by length told
sums_at_most [] [] [] [] as_many of_both as_long each = omega arith
sums_at_most [] [] [] (those_now ∷ told_now) as_many of_both as_long each = absurd (omega (arith, as_long))
sums_at_most [] [] (those ∷ told) told_now as_many of_both as_long each = absurd (omega (arith, of_both))
sums_at_most [] (its_now ∷ keys_now) told told_now as_many of_both as_long each = absurd (omega (arith, as_many))
sums_at_most (its ∷ keys) [] told told_now as_many of_both as_long each = absurd (omega (arith, as_many))
sums_at_most (its ∷ keys) (its_now ∷ keys_now) [] told_now as_many of_both as_long each = absurd (omega (arith, of_both))
sums_at_most (its ∷ keys) (its_now ∷ keys_now) (those ∷ told) [] as_many of_both as_long each = absurd (omega (arith, as_long))
sums_at_most (its ∷ keys) (its_now ∷ keys_now) (those ∷ told) (those_now ∷ told_now) as_many of_both as_long each =
    omega (
      arith,
      each 0 (omega arith),
      sum_by-cons length its keys,
      sum_by-cons length its_now keys_now,
      sum_by-cons length those told,
      sum_by-cons length those_now told_now,
      sums_at_most keys keys_now told told_now (omega (arith, as_many)) (omega (arith, of_both)) (omega (arith, as_long)) (λ place low. each (suc place) (omega (arith, low))),
    )

-- where batches went out, some did to a mate
abbrev SomeWent : List (List Bool) → Type 0
SomeWent tries = (place : ℕ) × (place < length tries) × (1 ≤ length (filter (λ went. went) (slice_index_or tries place [])))

went_to_some : (tries : List (List Bool)) → 1 ≤ batches tries → SomeWent tries
went_to_some [] some = absurd (omega (arith, some))
went_to_some (of_mate ∷ tries) some = first (filter (λ went. went) of_mate) refl (went_to_some tries)
  where
    first : (went : List Bool) → filter (λ went. went) of_mate ≡ went → (1 ≤ batches tries → SomeWent tries) → SomeWent (of_mate ∷ tries)
    first (went ∷ others) is later = (0, omega arith, omega (arith, ap length is))
    first [] is later =
        let found = later (omega (arith, some, ap length is, sum_by-cons (λ (of_mate : List Bool). length (filter (λ went. went) of_mate)) of_mate tries)) in
        (suc found.0, omega (arith, found.1), found.2)

module _ (before now : Lists) (gossips : Gossips before now) (as_many : length before.state.changed ≡ length before.told)
    (as_many_now : length now.state.changed ≡ length before.state.changed) where
  each_at_most : (place : ℕ) → place < length before.state.changed
      → length (slice_index_or now.state.changed place []) ≤ length (slice_index_or before.state.changed place [])
  each_at_most place low =
      let within : place < length before.told = omega (arith, low, as_many) in
      omega (arith, ap length (gossips.each place within).changed, left_at_most (slice_index_or gossips.tries place []) (changed_of before.state place))

  -- what was told of each mate and what is left to tell, together, is no more than it was
  each_owes : (place : ℕ) → place < length before.state.changed
      → length (slice_index_or now.state.changed place []) + length (slice_index_or now.told place []) ≤ length (slice_index_or before.state.changed place []) + length (slice_index_or before.told place [])
  each_owes place low =
      let of_mate = gossips.each place (omega (arith, low, as_many)) in
      let tries = slice_index_or gossips.tries place [] in
      let keys = changed_of before.state place in
      omega (arith, ap length of_mate.changed, as_long _ _ _ _ of_mate.told, out_at_most tries keys of_mate.no_empty)

  told_more : length now.told ≡ length before.told → (place : ℕ) → length (slice_index_or before.told place []) ≤ length (slice_index_or now.told place [])
  told_more long place = elim (cases_lt place (length before.told)) [
    | inl within ↦
        let of_mate = gossips.each place within in
        omega (arith, as_long _ _ _ _ of_mate.told)
    | inr past ↦ let none = ap length (get_or_past before.told place [] past) in omega (arith, none)
  ]

  -- gossip makes no key changed, and each batch that goes out leaves one less
  pub gossip_owes : length now.told ≡ length before.told → Owes before.told now.told (dirty before.state) (dirty now.state)
  gossip_owes long = record {
    long = long;
    more = told_more long;
    at_most = sums_at_most before.state.changed now.state.changed before.told now.told as_many_now (sym as_many) long each_owes;
  }

  -- and where a batch went out fewer keys are left to tell
  pub gossip_tells_some : 1 ≤ batches gossips.tries → dirty now.state + 1 ≤ dirty before.state
  gossip_tells_some some =
      let found = went_to_some gossips.tries some in
      let within : found.0 < length before.told = omega (arith, found.1, gossips.mates) in
      let of_mate = gossips.each found.0 within in
      sum_less before.state.changed now.state.changed found.0 as_many_now each_at_most (omega (arith, within, as_many))
      (omega (
        arith,
        ap length of_mate.changed,
        left_fewer (slice_index_or gossips.tries found.0 []) (changed_of before.state found.0) of_mate.no_empty found.2,
      ))

-- what nothing changed owes as much
pub owes_still : (told told_now : List (List Entries)) (keys keys_now : ℕ) → told_now ≡ told → keys_now ≡ keys → Owes told told_now keys keys_now
owes_still told told_now keys keys_now same as_many = record {
  long = ap length same;
  more = λ place. let is = ap (λ (told : List (List Entries)). length (slice_index_or told place [])) same in omega (arith, is);
  at_most = let is = ap (λ (told : List (List Entries)). sum_by length told) same in omega (arith, is, as_many);
}

-- what owed no more and then no more owes no more
pub owes_through : {first second third : List (List Entries)} {keys keys_then keys_now : ℕ} → Owes first second keys keys_then → Owes second third keys_then keys_now → Owes first third keys keys_now
owes_through before after = record {
  long = after.long ∙ before.long;
  more = λ place. let was = before.more place in let is = after.more place in omega (arith, was, is);
  at_most = let was = before.at_most in let is = after.at_most in omega (arith, was, is);
}

-- and has no more keys to tell
pub no_more_keys : {told told_now : List (List Entries)} {keys keys_now : ℕ} → Owes told told_now keys keys_now → keys_now ≤ keys
no_more_keys {told} {told_now} owes =
    let more = sum_at_most told_now told (sym owes.long) (λ place within. owes.more place) in
    let at_most = owes.at_most in
    omega (arith, more, at_most)
