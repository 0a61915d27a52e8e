-- The order of versions is total, and only equal ones tie; "strictly below" is a strict partial order.
use Rattle.std.specs.Prelude.{◌≡◌, ◌&&◌, Bool, true, false, not, refl}
use Rattle.std.proofs.Common.{sym, ◌∙◌}
use Rattle.std.proofs.lemmas.Bool.{false≢true, not-true, not_from_false, and_parts, and_from, false_from_ne_true}
use Rattle.std.proofs.lemmas.Cmp.{on_total, then_total}
use Rattle.std.specs.Cmp.{IsTotalOrder}
use Rattle.std.specs.declared.cmp.Ordering.TheVariants.{Equal}
use Rattle.lattice_laws.specs.Ties.{both_tie}
use Rattle.lattice_laws.specs.SpellingLaws.{spelled_total, spelled_exact}
use Rattle.clock_lattice.specs.Clock.{covers}
use Rattle.clock_lattice.specs.ClockLaws.{covers_through}
use Rattle.clock_lattice.specs.ClockOrder.{clock_cmp, clock_total, clock_exact}
use Rattle.version_antichain.specs.Antichain.{IsStrictOrder}
use Rattle.version_antichain.specs.Version.{version_cmp, is_below}
use Rattle.version_antichain.specs.declared.version.Version.{Version}

pub version_total : IsTotalOrder version_cmp
version_total = then_total (on_total (λ v. v.clock) clock_total) (on_total (λ v. v.word) spelled_total)

-- versions that tie are one
pub version_exact : (a b : Version) → version_cmp a b ≡ Equal → a ≡ b
version_exact a b e =
    let ties = both_tie (clock_cmp a.clock b.clock) _ e in
    let clock = clock_exact a.clock b.clock ties.0 in
    let word = spelled_exact a.word b.word ties.1 in
    λ i. record { clock = clock i; word = word i }

-- no test and its negation pass
never_both : (b : Bool) → (b && not b) ≡ false
never_both true = refl
never_both false = refl

pub below_order : IsStrictOrder is_below
below_order = record {
  not_itself = λ a. never_both (covers a.clock a.clock);
  through = λ a b c ab bc.
      let first = and_parts (covers b.clock a.clock) (not (covers a.clock b.clock)) ab in
      let second = and_parts (covers c.clock b.clock) (not (covers b.clock c.clock)) bc in
      and_from (covers c.clock a.clock) (not (covers a.clock c.clock))
      (covers_through c.clock b.clock a.clock second.0 first.0)
      (not_from_false (covers a.clock c.clock) (false_from_ne_true (covers a.clock c.clock) (λ back. false≢true (sym (not-true (covers a.clock b.clock) first.1) ∙ covers_through a.clock c.clock b.clock back second.0))));
}
