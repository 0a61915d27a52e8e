use Rattle.std.proofs.Common.{◌≡◌, ◌∙◌, [], ap, arith, length, replicate, None}
use Rattle.std.proofs.lemmas.List.{length-map}
use Rattle.std.proofs.lemmas.List.Elements.{All-map}
use Rattle.merge_world.specs.Effects.{opening_map}
use Rattle.worker_core.specs.Local.{state_of}
use Rattle.worker_core.specs.State.{State, lists_of, opening_state}
use Rattle.worker_core.proofs.KeptLemmas.{opens}
use Rattle.worker_core.proofs.worker.WorkerOver.new.Goals as goal

pub invariant_of-worker : goal.invariant_of-worker
invariant_of-worker g c =
    let ends = c.args.ends in
    let mates = length ends.gossip_out.items in
    let state : State = state_of (record {
      me = c.args.me;
      round = c.args.round;
      placement = c.args.placement;
      kinds = c.args.kinds;
      map = c.in_ok-map.map;
      changes = c.in_ok-changes.changes;
      turned = c.in_ok-turned.turned;
      since = 0;
      taken = 0;
      kept = None;
      held = None;
    }) in
    let lists = lists_of g.Q.Rx.received g.T.Tx.sent g.O.Tx.sent g.G.GossipRx.got (record { state = state; ends = ends }) in
    let as_many : c.len-mates.result ≡ mates = c.len-mates.ensures ∙ ends.gossip_out.ok.0 in
    let cells = c.in_ok-map.ensures ∙ ap (λ kinds. opening_map c.args.placement kinds c.args.me) c.as_slice.ensures in
    let changed = ap (λ set. set.of_mates) c.in_ok-changes.ensures ∙ ap (λ count. replicate count []) as_many in
    let turned : c.in_ok-turned.turned.items ≡ replicate mates 0 = c.in_ok-turned.ensures.items_if_clones_equal (λ y is. is) ∙ ap (λ count. replicate count 0) as_many in
    let opened : state ≡ opening_state c.args.me c.args.round c.args.placement c.args.kinds mates = λ j. record state { cells = cells j; changed = changed j; turned = turned j } in
    record {
      keeps = opens lists c.args.me c.args.round mates c.args.placement c.args.kinds opened c.requires.received c.requires.got
          (All-map (λ replies. replies ≡ []) g.T.Tx.sent ends.replies.items c.requires.replied) (All-map (λ batches. batches ≡ []) g.O.Tx.sent ends.gossip_out.items c.requires.told)
          (length-map ends.gossip_out.items g.O.Tx.sent) c.requires.mates c.requires.round.0 c.requires.kinds;
      taken_is = omega (arith, ap (length {A = _}) c.requires.received);
      most_is = ap (λ set. set.most) c.in_ok-changes.ensures ∙ c.keys.ensures.keys;
    }
