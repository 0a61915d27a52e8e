use Rattle.std.proofs.Common.{arith, map}
use Rattle.parties.specs.Session.{proxy_of}
use Rattle.parties.proofs.StayLemmas.{stay_through}
use Rattle.parties.proofs.showing.show_worker.Goals as goal

pub show_to_mates-requires-clause-within : goal.show_to_mates-requires-clause-within
show_to_mates-requires-clause-within g c = let long = c.show_to_sessions.ensures.stay.goes_on.workers_long in omega (arith, long, c.requires.within)

pub show_to_mates-requires-clause-few : goal.show_to_mates-requires-clause-few
show_to_mates-requires-clause-few g c = let long = c.show_to_sessions.ensures.stay.goes_on.workers_long in omega (arith, long, c.requires.few.0)

pub show_to_mates-requires-clause-ends : goal.show_to_mates-requires-clause-ends
show_to_mates-requires-clause-ends g c = c.show_to_sessions.ensures.stay.goes_on.ends c.requires.ends

pub returns-clause-stay : goal.returns-clause-stay
returns-clause-stay g c =
    stay_through c.args.parties.now.workers.items c.show_to_sessions.new.parties.workers.items c.show_to_mates.new.parties.workers.items
    (map proxy_of c.args.parties.now.sessions.items) (map proxy_of c.show_to_sessions.new.parties.sessions.items) (map proxy_of c.show_to_mates.new.parties.sessions.items)
    c.show_to_sessions.ensures.stay c.show_to_mates.ensures.stay

pub returns-clause-beside : goal.returns-clause-beside
returns-clause-beside g c at = c.show_to_mates.ensures.still_beside c.args.place at (c.show_to_sessions.ensures.beside at)

pub returns-clause-others : goal.returns-clause-others
returns-clause-others g c other at apart beside = c.show_to_mates.ensures.still_beside other at (c.show_to_sessions.ensures.others other at apart beside)
