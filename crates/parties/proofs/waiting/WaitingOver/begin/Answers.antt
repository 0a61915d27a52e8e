use Rattle.std.proofs.Common.{◌∙◌, arith, sym, []}
use Rattle.std.proofs.lemmas.List.{get_or-map, length-map}
use Rattle.parties.proofs.waiting.WaitingOver.begin.Goals as goal

pub new_after-requires-clause-sent : goal.new_after-requires-clause-sent
new_after-requires-clause-sent g c k d low =
    let senders = c.self.inside.ends.requests.items in
    sym (get_or-map g.T.Tx.sent senders k d [] low) ∙ c.self.invariant.none_sent k [] (omega (arith, low, length-map senders g.T.Tx.sent))
