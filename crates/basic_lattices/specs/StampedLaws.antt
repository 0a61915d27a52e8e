-- The order of stamped words is total, and only equal ones tie; so the greater of two is a lattice.
use Rattle.std.specs.Prelude.{◌≡◌, ⊤}
use Rattle.std.specs.Cmp.{IsTotalOrder, nat_cmp_total}
use Rattle.std.proofs.lemmas.Cmp.{on_total, then_total}
use Rattle.std.specs.Ordering.{ord_max, nat_cmp}
use Rattle.std.specs.FinMap.{nat_cmp-IsAntisymmetric}
use Rattle.std.specs.declared.cmp.Ordering.TheVariants.{Equal}
use Rattle.lattice_laws.specs.Lattice.{LatticeLaws, Associative}
use Rattle.lattice_laws.specs.Ties.{both_tie}
use Rattle.basic_lattices.specs.GreaterLaws.{greater_laws, greater_associative}
use Rattle.basic_lattices.specs.Stamped.{stamp_cmp, IsStamped}
use Rattle.lattice_laws.specs.SpellingLaws.{spelled_total, spelled_exact}
use Rattle.basic_lattices.specs.declared.stamped.Stamped.{Stamped}

pub stamp_total : IsTotalOrder stamp_cmp
stamp_total = then_total (on_total (λ s. s.number) nat_cmp_total) (then_total (on_total (λ s. s.session) nat_cmp_total) (then_total (on_total (λ s. s.place) nat_cmp_total) (on_total (λ s. s.word) spelled_total)))

-- stamped words that tie are one
pub stamp_exact : (a b : Stamped) → stamp_cmp a b ≡ Equal → a ≡ b
stamp_exact a b e =
    let by_number = both_tie (nat_cmp a.number b.number) _ e in
    let by_session = both_tie (nat_cmp a.session b.session) _ by_number.1 in
    let by_place = both_tie (nat_cmp a.place b.place) _ by_session.1 in
    let number = nat_cmp-IsAntisymmetric a.number b.number by_number.0 in
    let session = nat_cmp-IsAntisymmetric a.session b.session by_session.0 in
    let place = nat_cmp-IsAntisymmetric a.place b.place by_place.0 in
    let word = spelled_exact a.word b.word by_place.1 in
    λ i. record { number = number i; session = session i; place = place i; word = word i }

pub stamp_laws : LatticeLaws IsStamped (λ _ _. ⊤) (ord_max stamp_cmp)
stamp_laws = greater_laws stamp_cmp stamp_total stamp_exact IsStamped

pub stamp_associative : Associative IsStamped (λ _ _. ⊤) (ord_max stamp_cmp)
stamp_associative = greater_associative stamp_cmp stamp_total stamp_exact IsStamped
