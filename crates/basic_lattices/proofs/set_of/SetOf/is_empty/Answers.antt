use Rattle.std.specs.Prelude.{length}
use Rattle.std.proofs.Common.{sym, ap, ◌∙◌}
use Rattle.std.proofs.lemmas.List.{length-map, nil_from_length}
use Rattle.lattice_laws.specs.Sets.{keys_of}
use Rattle.lattice_laws.specs.Entries.{plain_entries}
use Rattle.basic_lattices.proofs.set_of.SetOf.is_empty.Goals as goal

pub returns : goal.returns
returns g c = (
  λ yes. sym c.self.view_is ∙ ap (λ entries. keys_of (plain_entries (λ _. tt) entries)) (c.is_empty.ensures.0 yes),
  λ none. c.is_empty.ensures.1 (nil_from_length _ (sym (length-map c.self.inside.members _) ∙ sym (length-map (plain_entries (λ _. tt) c.self.inside.members) _) ∙ ap length (c.self.view_is ∙ none))),
)
