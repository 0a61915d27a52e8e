use Rattle.std.proofs.Common.{map, ap, ◌∙◌}
use Rattle.script_reader.proofs.LineLemmas.{name_added}
use Rattle.script_reader.specs.Said.{with_name}
use Rattle.script_reader.proofs.names.Names.add.Goals as goal
use Rattle.script_reader.proofs.names.Names.add.Goals.{in-Ok, in-Err}

pub returns : goal.returns
returns c =
    elim c.match-insert.branch [
      | in-Ok w ↦ rw w.result-is (ap (map (λ name. name.now)) w.in-Ok.ensures.keys ∙ name_added c.args.name _ ∙ ap (λ names. with_name names c.args.name.now) c.self.view_is)
      | in-Err w ↦ rw w.result-is tt
    ]
