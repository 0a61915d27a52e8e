use Rattle.std.proofs.Common.{All, map, subst, sym}
use Rattle.parties.specs.Beside.{IsApart}
use Rattle.parties.specs.Session.{proxy_of}
use Rattle.parties.proofs.StayLemmas.{stay_through}
use Rattle.parties.proofs.parting.part_all.Goals as goal

pub returns-clause-stay : goal.returns-clause-stay
returns-clause-stay g c =
    stay_through c.args.parties.now.workers.items c.part_workers.new.parties.workers.items c.part_sessions.new.parties.workers.items
    (map proxy_of c.args.parties.now.sessions.items) (map proxy_of c.part_workers.new.parties.sessions.items) (map proxy_of c.part_sessions.new.parties.sessions.items)
    c.part_workers.ensures.stay c.part_sessions.ensures.stay

pub returns-clause-apart : goal.returns-clause-apart
returns-clause-apart g c = (
  subst (λ those. All (λ worker. IsApart (g.P.ReqRx.Rx.about worker.ends.requests) × IsApart (g.P.GosRx.GossipRx.about worker.ends.gossip_in)) those.items)
      (sym c.part_sessions.ensures.workers) assumption,
  c.part_sessions.ensures.apart,
)
