-- The order of inserts is total, and only equal inserts tie.
use Rattle.std.specs.Prelude.{◌≡◌}
use Rattle.std.specs.Cmp.{IsTotalOrder}
use Rattle.std.proofs.lemmas.Cmp.{on_total, then_total}
use Rattle.std.specs.declared.cmp.Ordering.TheVariants.{Equal}
use Rattle.lattice_laws.specs.Ties.{both_tie}
use Rattle.lattice_laws.specs.SpellingLaws.{spelled_total, spelled_exact}
use Rattle.basic_lattices.specs.Word.{word_cmp}
use Rattle.dot_lattices.specs.DotLaws.{dot_total, dot_exact}
use Rattle.dot_lattices.specs.Insert.{insert_cmp}
use Rattle.dot_lattices.specs.declared.insert.Insert.{Insert}

pub insert_total : IsTotalOrder insert_cmp
insert_total = then_total (on_total (λ i. i.word) spelled_total) (on_total (λ i. i.dot) dot_total)

pub insert_exact : (a b : Insert) → insert_cmp a b ≡ Equal → a ≡ b
insert_exact a b e =
    let ties = both_tie (word_cmp a.word b.word) _ e in
    let word = spelled_exact a.word b.word ties.0 in
    let dot = dot_exact a.dot b.dot ties.1 in
    λ i. record { word = word i; dot = dot i }
