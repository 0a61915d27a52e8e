-- What the proxy of the session's level learns, the session does.
use Rattle.parties.proofs.session.SessionOverMeetsFrom.meet.Goals as goal

pub returns-in-Eventual-clause-number : goal.returns-in-Eventual-clause-number
returns-in-Eventual-clause-number g c = rw c.in-Eventual.is c.meet.ensures.number

pub returns-in-Eventual-clause-asked : goal.returns-in-Eventual-clause-asked
returns-in-Eventual-clause-asked g c = rw c.in-Eventual.is c.meet.ensures.asked

pub returns-in-Eventual-clause-heard : goal.returns-in-Eventual-clause-heard
returns-in-Eventual-clause-heard g c = rw c.in-Eventual.is c.meet.ensures.heard

pub returns-in-Committed-clause-number : goal.returns-in-Committed-clause-number
returns-in-Committed-clause-number g c = rw c.in-Committed.is c.meet-in-Committed.ensures.number

pub returns-in-Committed-clause-asked : goal.returns-in-Committed-clause-asked
returns-in-Committed-clause-asked g c = rw c.in-Committed.is c.meet-in-Committed.ensures.asked

pub returns-in-Committed-clause-heard : goal.returns-in-Committed-clause-heard
returns-in-Committed-clause-heard g c = rw c.in-Committed.is c.meet-in-Committed.ensures.heard

pub returns-in-Causal-clause-number : goal.returns-in-Causal-clause-number
returns-in-Causal-clause-number g c = rw c.in-Causal.is c.meet-in-Causal.ensures.number

pub returns-in-Causal-clause-asked : goal.returns-in-Causal-clause-asked
returns-in-Causal-clause-asked g c = rw c.in-Causal.is c.meet-in-Causal.ensures.asked

pub returns-in-Causal-clause-heard : goal.returns-in-Causal-clause-heard
returns-in-Causal-clause-heard g c = rw c.in-Causal.is c.meet-in-Causal.ensures.heard
