-- How far gossip lags in the worked lists, place by place, and in the changed ones.
use Rattle.std.specs.Prelude.{◌≡◌, ℕ, zero, suc, ◌+◌, ◌<◌, ◌≤◌, true, false, IsTrue, [], ◌∷◌, Option, Some, None, length, slice_get, ⊤}
use Rattle.std.proofs.Common.{refl, sym, subst, inl, inr, arith, lit<, lit≤}
use Rattle.lattice_laws.proofs.MembersLemmas.{contains_none, contains_cases}
use Rattle.clock_lattice.specs.Clock.{count_of}
use Rattle.composed_value.specs.Cell.{PlainCell}
use Rattle.composed_value.specs.Keyed.{kind_at}
use Rattle.composed_value.specs.Kind.{kind_of}
use Rattle.composed_value.specs.declared.kind.Kind.TheVariants as kinds
use Rattle.composed_value.specs.declared.put.Put.{Put}
use Rattle.store_msg.specs.declared.request.Request.{Request}
use Rattle.store_msg.specs.declared.request.Request.TheVariants as requests
use Rattle.worker_core.specs.Lag.{IsCounted, IsToldOrTurned, Lags}
use Rattle.worker_core.specs.Share.{mate_lives_at}
use Rattle.worker_core.specs.State.{Lists, lives_at}
use Rattle.worked_laws.specs.Lists.{LagsMore, worked_lists, cell_of_first, first, second, turned, third, batch_not_sent, batch_to_another_mate, batch_of_fewer_puts, batch_of_another_session, batch_of_another_key, turned_before, turned_by_another_mate, one_request_more}

-- what the lag asks of the request at a place
abbrev IsKept : Lists → ℕ → Option (ℕ × Request) → Type 0
IsKept lists place None = ⊤
IsKept lists place (Some (session, requests.Get ask key required)) = ⊤
IsKept lists place (Some (session, requests.Put key put)) =
    (mate : ℕ) → place + 1 + lists.state.round < length lists.received → 1 ≤ put.number → IsTrue (lives_at lists.state.placement lists.state.me key)
    → kind_of put.payload ≡ kind_at lists.state.kinds key → mate < length lists.told → IsTrue (mate_lives_at lists.state mate key) → IsToldOrTurned lists key put mate (place + 1)

lags_by_place : (lists : Lists) → ((place : ℕ) → IsKept lists place (slice_get lists.received place)) → Lags lists
lags_by_place lists each place key put mate far fits at below lives =
    let kept : IsKept lists place (Some (at.session, requests.Put key put)) = subst (IsKept lists place) at.there (each place) in
    kept mate far at.numbered at.held at.of_kind below lives

-- worker 2 was told of the first two puts on key 1
told_first : (mate : ℕ) → mate < 2 → IsTrue (mate_lives_at worked_lists.state mate 1) → IsToldOrTurned worked_lists 1 first mate 1
told_first zero below lives = inl (record { cell = cell_of_first 2; has = (0, lit< tt, refl); counts = lit≤ tt })
told_first (suc zero) below lives = let wrong : false ≡ true = lives in absurd (cc)
told_first (suc (suc n)) below lives = absurd (omega (arith, below))

told_second : (mate : ℕ) → mate < 2 → IsTrue (mate_lives_at worked_lists.state mate 1) → IsToldOrTurned worked_lists 1 second mate 2
told_second zero below lives = inl (record { cell = cell_of_first 2; has = (0, lit< tt, refl); counts = lit≤ tt })
told_second (suc zero) below lives = let wrong : false ≡ true = lives in absurd (cc)
told_second (suc (suc n)) below lives = absurd (omega (arith, below))

-- a batch to worker 3 came back since the put on key 2
turned_since : (mate : ℕ) → mate < 2 → IsTrue (mate_lives_at worked_lists.state mate 2) → IsToldOrTurned worked_lists 2 turned mate 3
turned_since zero below lives = let wrong : false ≡ true = lives in absurd (cc)
turned_since (suc zero) below lives = inr (lit≤ tt)
turned_since (suc (suc n)) below lives = absurd (omega (arith, below))

kept_at : (place : ℕ) → IsKept worked_lists place (slice_get worked_lists.received place)
kept_at zero = λ mate far numbered held kind below lives. told_first mate below lives
kept_at (suc zero) = λ mate far numbered held kind below lives. told_second mate below lives
kept_at (suc (suc zero)) = λ mate far numbered held kind below lives. turned_since mate below lives
kept_at (suc (suc (suc zero))) = λ mate far numbered held kind below lives. let wrong : 1 ≤ 0 = numbered in absurd (omega (arith, wrong))
kept_at (suc (suc (suc (suc zero)))) = λ mate far numbered held kind below lives. let wrong : false ≡ true = held in absurd (cc)
kept_at (suc (suc (suc (suc (suc zero))))) = λ mate far numbered held kind below lives. let wrong : kinds.Set ≡ kinds.Max = kind in absurd (cc)
kept_at (suc (suc (suc (suc (suc (suc zero)))))) = λ mate far numbered held kind below lives. let wrong : 9 < 9 = far in absurd (omega (arith, wrong))
kept_at (suc (suc (suc (suc (suc (suc (suc zero))))))) = tt
kept_at (suc (suc (suc (suc (suc (suc (suc (suc zero)))))))) = tt
kept_at (suc (suc (suc (suc (suc (suc (suc (suc (suc n))))))))) = tt

pub worked_lag : Lags worked_lists
worked_lag = lags_by_place worked_lists kept_at

-- no cell that was told counts the put
nothing_told : (put : Put) → IsCounted put [] → ⊥
nothing_told put counted = contains_none counted.cell counted.has

one_told : (put : Put) (cell : PlainCell) → IsCounted put (cell ∷ []) → put.number ≤ count_of put.session cell.clock
one_told put cell counted =
    elim (contains_cases cell counted.cell [] counted.has) [
      | inl same ↦ subst (λ (c : PlainCell). put.number ≤ count_of put.session c.clock) (sym same) counted.counts
      | inr none ↦ absurd (contains_none counted.cell none)
    ]

-- the first put is at place 0, the second at place 1, that on key 2 at place 2 and the third at place 6
pub batch_not_sent_lags : LagsMore batch_not_sent
batch_not_sent_lags lags =
    elim (lags 0 1 first 0 (lit< tt) (lit< tt) (record { session = 1; there = refl; numbered = lit≤ tt; held = refl; of_kind = refl }) (lit< tt) refl) [
      | inl told ↦ nothing_told first told
      | inr back ↦ let wrong : 1 ≤ 0 = back in omega (arith, wrong)
    ]

pub batch_to_another_mate_lags : LagsMore batch_to_another_mate
batch_to_another_mate_lags lags =
    elim (lags 0 1 first 0 (lit< tt) (lit< tt) (record { session = 1; there = refl; numbered = lit≤ tt; held = refl; of_kind = refl }) (lit< tt) refl) [
      | inl told ↦ nothing_told first told
      | inr back ↦ let wrong : 1 ≤ 0 = back in omega (arith, wrong)
    ]

pub batch_of_fewer_puts_lags : LagsMore batch_of_fewer_puts
batch_of_fewer_puts_lags lags =
    elim (lags 1 1 second 0 (lit< tt) (lit< tt) (record { session = 1; there = refl; numbered = lit≤ tt; held = refl; of_kind = refl }) (lit< tt) refl) [
      | inl told ↦ let wrong : 2 ≤ 1 = one_told second (cell_of_first 1) told in omega (arith, wrong)
      | inr back ↦ let wrong : 2 ≤ 0 = back in omega (arith, wrong)
    ]

pub batch_of_another_session_lags : LagsMore batch_of_another_session
batch_of_another_session_lags lags =
    elim (lags 0 1 first 0 (lit< tt) (lit< tt) (record { session = 1; there = refl; numbered = lit≤ tt; held = refl; of_kind = refl }) (lit< tt) refl) [
      | inl told ↦ let wrong : 1 ≤ 0 = one_told first (record (cell_of_first 2) { clock = (2, 2) ∷ [] }) told in omega (arith, wrong)
      | inr back ↦ let wrong : 1 ≤ 0 = back in omega (arith, wrong)
    ]

pub batch_of_another_key_lags : LagsMore batch_of_another_key
batch_of_another_key_lags lags =
    elim (lags 0 1 first 0 (lit< tt) (lit< tt) (record { session = 1; there = refl; numbered = lit≤ tt; held = refl; of_kind = refl }) (lit< tt) refl) [
      | inl told ↦ nothing_told first told
      | inr back ↦ let wrong : 1 ≤ 0 = back in omega (arith, wrong)
    ]

pub turned_before_lags : LagsMore turned_before
turned_before_lags lags =
    elim (lags 2 2 turned 1 (lit< tt) (lit< tt) (record { session = 2; there = refl; numbered = lit≤ tt; held = refl; of_kind = refl }) (lit< tt) refl) [
      | inl told ↦ nothing_told turned told
      | inr back ↦ let wrong : 3 ≤ 2 = back in omega (arith, wrong)
    ]

pub turned_by_another_mate_lags : LagsMore turned_by_another_mate
turned_by_another_mate_lags lags =
    elim (lags 2 2 turned 1 (lit< tt) (lit< tt) (record { session = 2; there = refl; numbered = lit≤ tt; held = refl; of_kind = refl }) (lit< tt) refl) [
      | inl told ↦ nothing_told turned told
      | inr back ↦ let wrong : 3 ≤ 0 = back in omega (arith, wrong)
    ]

pub one_request_more_lags : LagsMore one_request_more
one_request_more_lags lags =
    elim (lags 6 1 third 0 (lit< tt) (lit< tt) (record { session = 1; there = refl; numbered = lit≤ tt; held = refl; of_kind = refl }) (lit< tt) refl) [
      | inl told ↦ let wrong : 3 ≤ 2 = one_told third (cell_of_first 2) told in omega (arith, wrong)
      | inr back ↦ let wrong : 7 ≤ 0 = back in omega (arith, wrong)
    ]
