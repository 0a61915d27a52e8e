-- How far gossip lags: after gossip, after a round, and when a request is popped.
use Rattle.std.specs.Prelude.{◌≡◌, ◌⊎◌, ◌+◌, ◌<◌, ◌≤◌, ◌^◌, ℕ, zero, suc, Bool, true, false, IsTrue, if◌then◌else◌, not, List, [], ◌∷◌, ◌++◌, Contains, is_some, length, slice_get, slice_index_or, Option, Some, None}
use Rattle.std.proofs.Common.{refl, sym, ap, subst, ◌∙◌, inl, inr, arith}
use Rattle.std.specs.List.{list_any}
use Rattle.std.proofs.lemmas.Bool.{cases_Bool, false≢true}
use Rattle.std.proofs.lemmas.List.{length-append}
use Rattle.std.proofs.lemmas.List.Elements.{Contains-append_left, Contains-append_right, Contains-push}
use Rattle.std.proofs.lemmas.Option.{get_or_from_slice_get}
use Rattle.lattice_laws.proofs.MembersLemmas.{contains_none}
use Rattle.clock_lattice.specs.Clock.{count_of}
use Rattle.composed_value.specs.Cell.{PlainCell}
use Rattle.composed_value.specs.Keyed.{kind_at}
use Rattle.composed_value.specs.declared.put.Put.{Put}
use Rattle.merge_world.specs.Effects.{cells_at}
use Rattle.merge_world.specs.declared.private_map.KeyCells.{KeyCells}
use Rattle.store_msg.specs.declared.request.Request.{Request}
use Rattle.store_msg.specs.declared.request.Request.TheVariants as requests
use Rattle.gossip_rounds.specs.Batches.{Entries, told_on}
use Rattle.worker_core.specs.Lag.{IsCounted, IsPutAt, LagsBy}
use Rattle.worker_core.specs.Share.{AreClean, AreOwn, IsLast, mate_lives_at, told_to}
use Rattle.worker_core.specs.State.{IsFixed, Lists, State, changed_of, dirty, lives_at}
use Rattle.worker_core.specs.Turns.{AllTried, Gossips, counted}
use Rattle.gossip_rounds.proofs.BatchesLemmas.{all_went, among_or_not, sent_batches, sent_has, told_on-append}
use Rattle.worker_core.proofs.ToldLemmas.{Counts, clean_at_each, gossips_fixed, lives_fixed}

-- a worker has cells of the keys that it holds, and of no others
abbrev pub Holds : State → Type 0
Holds state = (key : ℕ) → is_some (cells_at state.cells key) ≡ lives_at state.placement state.me key

-- each put among the first so many requests was told to each mate that holds its key
abbrev pub AreAllTold : Lists → ℕ → Type 0
AreAllTold lists taken =
    (place key : ℕ) (put : Put) (mate : ℕ) → place < taken → IsPutAt lists place key put → mate < length lists.told
    → IsTrue (mate_lives_at lists.state mate key) → IsCounted put (told_on key (told_to lists mate))

-- gossip that lags by fewer requests lags by no more than more
pub lag_less : (fewer more : ℕ) (lists : Lists) → fewer ≤ more → LagsBy fewer lists → LagsBy more lists
lag_less fewer more lists less lags place key put mate far = lags place key put mate (omega (arith, less, far))

-- a put is where it was
put_fixed : {before now : Lists} {place key : ℕ} {put : Put} → slice_get now.received place ≡ slice_get before.received place
    → IsFixed before.state now.state → IsPutAt now place key put → IsPutAt before place key put
put_fixed {key = key} same fixed is = record {
  session = is.session;
  there = sym same ∙ is.there;
  numbered = is.numbered;
  held = (λ j. lives_at (sym fixed.placement j) (sym fixed.me j) key) ∙ is.held;
  of_kind = is.of_kind ∙ ap (λ kinds. kind_at kinds key) fixed.kinds;
}

-- a put that was counted still is when more is told
counted_more : (key : ℕ) (put : Put) (front back : List Entries) → IsCounted put (told_on key front) → IsCounted put (told_on key (front ++ back))
counted_more key put front back is = record {
  cell = is.cell;
  has = subst (λ cells. Contains cells is.cell) (sym (told_on-append key front back))
      (Contains-append_left (told_on key front) (told_on key back) is.cell is.has);
  counts = is.counts;
}

-- as many requests as were taken, or as a `u64` counts
below_counted : (place taken : ℕ) → place < taken → place + 1 < 2 ^ 64 → place + 1 ≤ counted taken
below_counted place taken low fits = omega (arith, low, fits)

-- what came back from a mate last is the same, or a batch came back now
abbrev pub TurnsOn : Lists → Lists → ℕ → Type 0
TurnsOn before now mate =
    (slice_index_or now.state.turned mate 0 ≡ slice_index_or before.state.turned mate 0)
    ⊎ (slice_index_or now.state.turned mate 0 ≡ counted (length before.received))

-- gossip lags no more after more was told and batches came back
pub lag_on : (requests : ℕ) (before now : Lists) → LagsBy requests before → now.received ≡ before.received → IsFixed before.state now.state
    → length now.told ≡ length before.told
    → ((mate : ℕ) → mate < length before.told → (batches : List Entries) × (told_to now mate ≡ told_to before mate ++ batches))
    → ((mate : ℕ) → mate < length before.told → TurnsOn before now mate) → LagsBy requests now
lag_on requests before now lags same_received fixed long more turned place key put mate far fits is low lives =
    let within : mate < length before.told = omega (arith, low, long) in
    let far_before : place + 1 + requests < length before.received = omega (arith, far, ap length same_received) in
    let was : IsPutAt before place key put = put_fixed (ap (λ received. slice_get received place) same_received) fixed is in
    elim (lags place key put mate far_before fits was within (sym (lives_fixed fixed mate key) ∙ lives)) [
      | inl told ↦
          let batches = more mate within in
          inl (subst (λ batches. IsCounted put (told_on key batches)) (sym batches.1) (counted_more key put (told_to before mate) batches.0 told))
      | inr back ↦ inr (elim (turned mate within) [
        | inl same ↦ omega (arith, same, back)
        | inr now_back ↦ omega (arith, now_back, below_counted place (length before.received) (omega (arith, far_before)) fits)
      ])
    ]

-- gossip lags no more after gossip
pub lag_gossips : (requests : ℕ) (before now : Lists) → LagsBy requests before → Gossips before now → length now.told ≡ length before.told
    → LagsBy requests now
lag_gossips requests before now lags gossips long =
    lag_on requests before now lags (ap (λ (lists : Lists). lists.received) gossips.rest) (gossips_fixed gossips) long
    (λ mate low.
    let tries = slice_index_or gossips.tries mate [] in
    (sent_batches before.state.cells tries (changed_of before.state mate), (gossips.each mate low).told))
    (λ mate low. by_test mate (list_any not (slice_index_or gossips.tries mate [])) (gossips.each mate low).turned)
  where
    by_test : (mate : ℕ) (back : Bool)
        → slice_index_or now.state.turned mate 0 ≡ (if back then counted (length before.received) else slice_index_or before.state.turned mate 0)
        → TurnsOn before now mate
    by_test mate true is = inr is
    by_test mate false is = inl is

-- a place in the front of a list
front_at : {X : Type 0} (front back : List X) (place : ℕ) → place < length front → slice_get (front ++ back) place ≡ slice_get front place
front_at [] back place low = absurd (omega (arith, low))
front_at (x ∷ front) back zero low = refl
front_at (x ∷ front) back (suc place) low = front_at front back place (omega (arith, low))

-- what is there can be named
held_where : (found : Option KeyCells) → is_some found ≡ true → (at : KeyCells) × (found ≡ Some at)
held_where None none = absurd (false≢true none)
held_where (Some at) is = (at, refl)

-- a cell that counts a put and is not empty was told where it was the last one told
counted_last : (put : Put) (cell : PlainCell) (cells : List PlainCell) → 1 ≤ put.number → put.number ≤ count_of put.session cell.clock
    → (cell.clock ≡ []) ⊎ IsLast cell cells → IsCounted put cells
counted_last put cell cells numbered counts (inl empty) = absurd (omega (arith, numbered, counts, ap (count_of put.session) empty))
counted_last put cell cells numbered counts (inr last) = record {
  cell = cell;
  has = subst (λ all. Contains all cell) (sym last.is) (Contains-push last.front cell);
  counts = counts;
}

module _ (before : Lists) (worked rest : List (ℕ × Request)) (received : before.received ≡ worked ++ rest)
    (own : AreOwn before.state.kinds before.state.cells worked) (holds : Holds before.state) (counts : Counts before.state.kinds worked) where
  -- the own cell of its key counts each put that was worked on
  own_counts : (place key : ℕ) (put : Put) → place < length worked → IsPutAt before place key put
      → (at : KeyCells) × (cells_at before.state.cells key ≡ Some at) × (put.number ≤ count_of put.session at.own.clock)
  own_counts place key put low is =
      let held = held_where (cells_at before.state.cells key) (holds key ∙ is.held) in
      let there = sym (front_at worked rest place low) ∙ ap (λ all. slice_get all place) (sym received) ∙ is.there in
      let message : ℕ × Request = (is.session, requests.Put key put) in
      let counted_own = counts key is.session put (place, low, get_or_from_slice_get worked place message message there) is.numbered is.of_kind in
      (held.0, held.1, omega (arith, counted_own, ap (λ (cell : PlainCell). count_of put.session cell.clock) (own key held.0 held.1)))

  -- where the changeset is empty, each put that was worked on was told
  pub all_told : dirty before.state ≡ 0 → AreClean before → AreAllTold before (length worked)
  all_told none clean place key put mate low is of_mate lives =
      let at = own_counts place key put low is in
      counted_last put at.0.own (told_on key (told_to before mate)) is.numbered at.2
      (clean mate key at.0 of_mate lives at.1
      (λ has_it. contains_none key (subst (λ keys. Contains keys key) (clean_at_each before.state none mate) has_it)))

  -- after a round in which each batch was tried gossip does not lag, where one request at most was not worked on yet
  pub lag_round : (now : Lists) (gossips : Gossips before now) → AllTried before gossips.tries → length now.told ≡ length before.told
      → length rest ≤ 1 → AreClean before → LagsBy 0 now
  lag_round now gossips tried long few clean place key put mate far fits is low lives =
      let fixed = gossips_fixed gossips in
      let tries = slice_index_or gossips.tries mate [] in
      let keys = changed_of before.state mate in
      let sent = sent_batches before.state.cells tries keys in
      let same_received = ap (λ (lists : Lists). lists.received) gossips.rest in
      let within : mate < length before.told = omega (arith, low, long) in
      let was : IsPutAt before place key put = put_fixed (ap (λ received. slice_get received place) same_received) fixed is in
      let all : length now.received ≡ length worked + length rest = ap length (same_received ∙ received) ∙ length-append worked rest in
      let told = gossips.each mate within in
      let told_now : told_on key (told_to now mate) ≡ told_on key (told_to before mate ++ sent) = ap (told_on key) told.told in
      let at = own_counts place key put (omega (arith, far, all, few)) was in
      elim (cases_Bool (list_any not tries)) [
        | inl back ↦
            let taken = counted (length before.received) in
            let turned = told.turned ∙ ap (λ (t : Bool). if t then taken else slice_index_or before.state.turned mate 0) back in
            inr (omega (arith, turned, below_counted place (length before.received) (omega (arith, far, ap length same_received)) fits))
        | inr none_back ↦ inl (subst (IsCounted put) (sym told_now) (elim (among_or_not keys key) [
          | inl was_left ↦ record {
            cell = at.0.own;
            has = subst (λ cells. Contains cells at.0.own) (sym (told_on-append key (told_to before mate) sent))
                (Contains-append_right (told_on key (told_to before mate)) (told_on key sent) at.0.own
                (sent_has before.state.cells tries keys key at.0 was_left at.1
                (λ left. contains_none key (subst (λ all. Contains all key) (all_went tries keys none_back (tried mate within)) left))));
            counts = at.2;
          }
          | inr was_clean ↦ counted_more key put (told_to before mate) sent
              (counted_last put at.0.own (told_on key (told_to before mate)) is.numbered at.2
              (clean mate key at.0 within (sym (lives_fixed fixed mate key) ∙ lives) at.1 was_clean))
        ]))
      ]

-- when a request is popped gossip lags by what was counted since the last round, where the request is counted or each put before it was told
pub lag_popped : (before now : Lists) (message : ℕ × Request) → LagsBy before.state.since before → now.received ≡ before.received ++ message ∷ []
    → now.told ≡ before.told → now.state.turned ≡ before.state.turned → IsFixed before.state now.state
    → (now.state.since ≡ before.state.since + 1) ⊎ ((now.state.since ≡ before.state.since) × AreAllTold before (length before.received))
    → LagsBy now.state.since now
lag_popped before now message lags more same_told same_turned fixed since place key put mate far fits is low lives =
    let all : length now.received ≡ length before.received + 1 = ap length more ∙ length-append before.received (message ∷ []) in
    let earlier : place < length before.received = omega (arith, far, all) in
    let same_there = ap (λ received. slice_get received place) more ∙ front_at before.received (message ∷ []) place earlier in
    let was : IsPutAt before place key put = put_fixed same_there fixed is in
    let within : mate < length before.told = omega (arith, low, ap length same_told) in
    let lived : IsTrue (mate_lives_at before.state mate key) = sym (lives_fixed fixed mate key) ∙ lives in
    let told_still : IsCounted put (told_on key (told_to before mate)) → IsCounted put (told_on key (told_to now mate)) =
    subst (λ told. IsCounted put (told_on key (slice_index_or told mate []))) (sym same_told) in
    elim since [
      | inl counted_since ↦ elim (lags place key put mate (omega (arith, far, all, counted_since)) fits was within lived) [
        | inl told ↦ inl (told_still told)
        | inr back ↦ inr (omega (arith, back, ap (λ turned. slice_index_or turned mate 0) same_turned))
      ]
      | inr all_told ↦ inl (told_still (all_told.1 place key put mate earlier was within lived))
    ]
