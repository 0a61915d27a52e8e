use Rattle.std.proofs.Common.{◌∙◌, ℕ, List, ap, length, map, subst, sym}
use Rattle.placement.specs.Config.{IsPlacement, placed}
use Rattle.placement.proofs.ConfigLemmas.{placement_is}
use Rattle.session_known.specs.Script.{IsValidScript}
use Rattle.session_known.specs.declared.script.Script.{Script}
use Rattle.parties.specs.Session.{proxy_of}
use Rattle.party_ends.specs.Numbers.{AreNumbered}
use Rattle.party_ends.proofs.PartiesLemmas.{are_running, none_kept, none_waits, of_sessions, of_workers, told_of_ends}
use Rattle.party_ends.proofs.beginning.new_parties.Goals as goal

-- the script is valid where its keys live as the placement says
valid_there : (script : Script) (placement : List (List ℕ)) → IsPlacement script.config placement → IsValidScript script (placed script.config) → IsValidScript script placement
valid_there script placement is valid = subst (IsValidScript script) (sym (placement_is script.config placement is)) valid

pub new_workers-requires-clause-valid : goal.new_workers-requires-clause-valid
new_workers-requires-clause-valid g c = valid_there c.args.script.now c.in_ok-placement.placement c.in_ok-placement.ensures.placed c.requires

pub new_workers-requires-clause-unused : goal.new_workers-requires-clause-unused
new_workers-requires-clause-unused g c = of_workers c.in_ok-workers.ensures.ends

pub new_sessions-requires-clause-valid : goal.new_sessions-requires-clause-valid
new_sessions-requires-clause-valid g c = valid_there c.args.script.now c.in_ok-placement.placement c.in_ok-placement.ensures.placed c.requires

pub new_sessions-requires-clause-unused : goal.new_sessions-requires-clause-unused
new_sessions-requires-clause-unused g c = of_sessions c.in_ok-workers.ensures.ends

pub returns-clause-running : goal.returns-clause-running
returns-clause-running g c =
    are_running c.args.script.now c.in_ok-placement.placement c.in_ok-workers.workers.items c.in_ok-workers.sessions.items c.in_ok-workers-2.workers.items (map proxy_of c.in_ok-sessions.sessions.items)
    (length c.as_slice.result.now) (ap length c.as_slice.ensures) (valid_there c.args.script.now c.in_ok-placement.placement c.in_ok-placement.ensures.placed c.requires)
    c.in_ok-workers.ensures.ends c.in_ok-workers-2.ensures c.in_ok-sessions.ensures

pub returns-clause-none_kept : goal.returns-clause-none_kept
returns-clause-none_kept g c =
    none_kept c.args.script.now c.in_ok-placement.placement c.in_ok-workers.workers.items c.in_ok-workers-2.workers.items c.in_ok-workers-2.ensures

pub returns-clause-none_waits : goal.returns-clause-none_waits
returns-clause-none_waits g c =
    none_waits g.P.ReqTx.Tx.sent g.P.RepRx.Rx.received c.args.script.now c.in_ok-placement.placement c.in_ok-workers.sessions.items (map proxy_of c.in_ok-sessions.sessions.items)
    (c.in_ok-workers.ensures.ends.sessions_are ∙ ap length c.as_slice.ensures) c.in_ok-sessions.ensures

pub returns-clause-made_with : goal.returns-clause-made_with
returns-clause-made_with g c =
    subst (AreNumbered (g.P.MakesGossip.numbers c.args.post.now))
    (told_of_ends (λ its. g.P.GosRx.GossipRx.made_with (g.P.GosRx.GossipRx.key its.gossip_in)) c.args.script.now c.in_ok-placement.placement c.in_ok-workers.workers.items c.in_ok-workers-2.workers.items
    c.in_ok-workers-2.ensures)
    c.in_ok-workers.ensures.made_with
