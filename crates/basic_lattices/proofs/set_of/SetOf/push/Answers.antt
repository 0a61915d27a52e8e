use Rattle.std.specs.Prelude.{IfOk}
use Rattle.std.proofs.Common.{subst}
use Rattle.lattice_laws.specs.Entries.{IsPushed, plain_entries}
use Rattle.lattice_laws.specs.Sets.{IsSet, keys_of}
use Rattle.lattice_laws.proofs.SetsLemmas.{pushed_to_set}
use Rattle.basic_lattices.proofs.set_of.SetOf.push.Goals as goal

pub returns-clause-pushed : goal.returns-clause-pushed
returns-clause-pushed g c =
    subst (λ old. IfOk c.push.result (IsPushed (IsSet g.K.Ord.cmp g.K.MapKey.is_key) old c.args.member (keys_of (plain_entries (λ _. tt) c.push.new.self)))) c.self.view_is
    (pushed_to_set g.K.Ord.cmp g.K.MapKey.is_key c.push.result _ c.args.member _ c.push.ensures.pushed)
