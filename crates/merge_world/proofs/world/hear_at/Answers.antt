use Rattle.std.proofs.Common.{arith}
use Rattle.merge_world.specs.Effects.{hears}
use Rattle.merge_world.proofs.AtLemmas.{nothing_at, ok_at}
use Rattle.merge_world.proofs.WorkersLemmas.{long_heard, still_long}
use Rattle.merge_world.proofs.world.hear_at.Goals as goal

pub returns-in-Some-clause-ok : goal.returns-in-Some-clause-ok
returns-in-Some-clause-ok c = ok_at c.hear.result c.args.worker c.in-Some.place (hears c.args.entries.now) c.args.maps.now.items c.index_mut-map.result.now c.hear.new.self
    (omega (arith, c.in-Some.ensures.some.0)) (omega (arith, c.in-Some.ensures.some.1, c.len.ensures)) c.index_mut-map.ensures.value c.hear.ensures.ok

pub returns-in-Some-clause-long : goal.returns-in-Some-clause-long
returns-in-Some-clause-long c = λ keys long. still_long c.args.maps.now.items keys c.in-Some.place c.index_mut-map.result.now c.hear.new.self long (omega (arith, c.in-Some.ensures.some.1, c.len.ensures)) c.index_mut-map.ensures.value
    (long_heard c.hear.result c.args.entries.now c.index_mut-map.result.now c.hear.new.self c.hear.ensures.ok c.hear.ensures.err)

pub returns-in-None-clause-ok : goal.returns-in-None-clause-ok
returns-in-None-clause-ok c = nothing_at c.args.worker c.len.result (hears c.args.entries.now) c.args.maps.now.items (omega (arith, c.len.ensures)) c.in-None.ensures.none
