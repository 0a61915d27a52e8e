-- Puts each with its key, and those on one key.
use Rattle.std.specs.Prelude.{ℕ, ◌==◌, List, All, Contains, filter}
use Rattle.std.proofs.Common.{refl, subst}
use Rattle.std.proofs.lemmas.Bool.{eq-eqb}
use Rattle.std.proofs.lemmas.List.Elements.{All-contains}
use Rattle.lattice_laws.proofs.MembersLemmas.{contains_filter, contains_filtered, contains_map, contains_mapped}
use Rattle.composed_value.specs.Keyed.{puts_on}
use Rattle.composed_value.specs.declared.put.Put.{Put}

-- a put stands among those on its key
pub on_key : (puts : List (ℕ × Put)) (entry : ℕ × Put) → Contains puts entry → Contains (puts_on entry.0 puts) entry.1
on_key puts entry has_it =
    contains_map (λ e. e.1) (filter (λ e. e.0 == entry.0) puts) entry (contains_filter (λ e. e.0 == entry.0) puts entry has_it (eq-eqb entry.0 entry.0 refl))

-- what holds of each put holds of those on a key
pub held_on_key : (Holds : Put → Type 0) (key : ℕ) (puts : List (ℕ × Put)) → All (λ entry. Holds entry.1) puts → (put : Put) → Contains (puts_on key puts) put → Holds put
held_on_key Holds key puts each put has_it =
    let from = contains_mapped (λ entry. entry.1) (filter (λ (entry : ℕ × Put). entry.0 == key) puts) put has_it in
    subst Holds from.2 (All-contains (λ entry. Holds entry.1) puts from.0 each (contains_filtered (λ entry. entry.0 == key) puts from.0 from.1).0)
