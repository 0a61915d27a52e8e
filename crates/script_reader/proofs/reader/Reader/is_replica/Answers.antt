use Rattle.std.proofs.Common.{Some, length, ap, subst, arith}
use Rattle.script_reader.proofs.CommandLemmas.{placed_keys}
use Rattle.script_reader.specs.Reader.{AreKept}
use Rattle.script_reader.proofs.reader.Reader.is_replica.Goals as goal

pub replicas-replicas-requires-clause-known : goal.replicas-replicas-requires-clause-known
replicas-replicas-requires-clause-known c =
    let kept : AreKept c.args.self.now.config (Some c.in-Some.sessions) = subst (AreKept c.args.self.now.config) c.in-Some.is c.requires.kept.sessions in
    omega (arith, ap length kept.0, placed_keys c.args.self.now.config)
