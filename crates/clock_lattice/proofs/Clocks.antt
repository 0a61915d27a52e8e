-- What calls leave is a clock, or needs, whether they found memory or not; and how code tests what covers what.
use Rattle.std.specs.Prelude.{◌≡◌, ◌↔◌, ℕ, ◌<◌, ◌^◌, max, Bool, true, false, IsTrue, List, Result, Ok, Err, OnOk, OnErr}
use Rattle.std.proofs.Common.{refl, sym, ap, subst, ◌∙◌}
use mathlib.Core.Bool.{false≢true}
use Rattle.std.specs.Ordering.{nat_cmp}
use Rattle.std.specs.declared.cmp.Ordering.{Ordering}
use Rattle.lattice_laws.specs.Entries.{plain_entries, raised}
use Rattle.lattice_laws.proofs.EntriesLemmas.{plain_itself}
use Rattle.clock_lattice.specs.Clock.{IsClock, joined_clocks, one_count, covers}
use Rattle.clock_lattice.specs.ClockLaws.{clock_laws}
use Rattle.clock_lattice.proofs.ClockLemmas.{one_count_is_clock, one_count_entry}
use Rattle.clock_lattice.specs.ClockOrder.{clock_cmp}
use Rattle.clock_lattice.specs.Coverage.{CoverageLaws}
use Rattle.clock_lattice.specs.Needs.{IsSomeClock, IsNeeds, joined_needs}
use Rattle.clock_lattice.specs.NeedsLaws.{needs_laws}
use Rattle.clock_lattice.proofs.NeedsLemmas.{one_need_is_needs, one_need_entry}

-- what a call leaves, whether it ends well or not
pub either_way : {T E P : Type 0} (Q : P → Type 0) (result : Result T E) (new done before : P) → OnOk result (new ≡ done) → OnErr result (new ≡ before) → Q done → Q before → Q new
either_way Q (Ok x) new done before ok err q_done q_before = subst Q (sym ok) q_done
either_way Q (Err e) new done before ok err q_done q_before = subst Q (sym err) q_before

-- a clock with a count raised is a clock
pub raised_is_clock : (session n : ℕ) (clock : List (ℕ × ℕ)) → session < 2 ^ 16 → n < 2 ^ 64 → 0 < n → IsClock clock → IsClock (raised nat_cmp max session n clock)
raised_is_clock session n clock s_fits n_fits some is = subst (λ one. IsClock (joined_clocks clock one)) (one_count_entry session n some) (clock_laws.closed clock (one_count session n) is (one_count_is_clock session n s_fits n_fits) tt).0

-- needs with a clock raised are needs
pub raised_is_needs : (key : ℕ) (clock : List (ℕ × ℕ)) (needs : List (ℕ × List (ℕ × ℕ))) → key < 2 ^ 16 → IsSomeClock clock → IsNeeds needs → IsNeeds (raised nat_cmp joined_clocks key clock needs)
raised_is_needs key clock needs k_fits some is = subst (λ one. IsNeeds (joined_needs needs one)) (one_need_entry key clock some.1) (needs_laws.closed needs _ is (one_need_is_needs key clock k_fits some.0) tt).0

-- two tests that pass together answer alike
pub same_test : {P : Type 0} (a b : Bool) → IsTrue a ↔ P → IsTrue b ↔ P → a ≡ b
same_test true true to_a to_b = refl
same_test true false to_a to_b = absurd (false≢true (to_b.1 (to_a.0 refl)))
same_test false true to_a to_b = absurd (false≢true (to_a.1 (to_b.0 refl)))
same_test false false to_a to_b = refl

-- a test of the slices of two lists is one of what the lists are seen as
pub covers_slices : {A P : Type 0} (plain : List A → P) (is_value : P → Type 0) (joined : P → P → P) (covers : P → P → Bool) → CoverageLaws is_value joined covers → (result : Bool) (mine theirs mine_items theirs_items : List A) (self other : P) → mine ≡ mine_items → theirs ≡ theirs_items → plain mine_items ≡ self → plain theirs_items ≡ other → IsTrue result ↔ (joined (plain theirs) (plain mine) ≡ plain mine) → is_value (plain mine_items) → is_value (plain theirs_items) → result ≡ covers self other
covers_slices plain is_value joined covers laws result mine theirs mine_items theirs_items self other m t s o test vm vt =
    let mine_is = ap plain m in
    let theirs_is = ap plain t in
    let same : result ≡ covers (plain mine) (plain theirs) = same_test _ _ test (laws.changes_nothing (plain theirs) (plain mine) (subst is_value (sym theirs_is) vt) (subst is_value (sym mine_is) vm)) in
    same ∙ ap (λ x. covers x (plain theirs)) (mine_is ∙ s) ∙ ap (covers self) (theirs_is ∙ o)

-- the order of the slices of two lists is that of the clocks
pub compared_slices : (result : Ordering) (mine theirs mine_items theirs_items self other : List (ℕ × ℕ)) → mine ≡ mine_items → theirs ≡ theirs_items → plain_entries (λ n. n) mine_items ≡ self → plain_entries (λ n. n) theirs_items ≡ other → result ≡ clock_cmp mine theirs → result ≡ clock_cmp self other
compared_slices result mine theirs mine_items theirs_items self other m t s o e =
    e ∙ ap (λ x. clock_cmp x theirs) (m ∙ sym (plain_itself mine_items) ∙ s) ∙ ap (clock_cmp self) (t ∙ sym (plain_itself theirs_items) ∙ o)
