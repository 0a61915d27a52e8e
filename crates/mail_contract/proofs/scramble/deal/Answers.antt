use Rattle.std.proofs.Common.{rules, ◌≡◌, length}
use Rattle.mail_contract.proofs.ScrambleLemmas.{dealt_away, dealt_copied}
use Rattle.mail_contract.proofs.scramble.deal.Goals as goal

pub returns-in-None-clause-dealt : goal.returns-in-None-clause-dealt
returns-in-None-clause-dealt g c =
    let long : c.len.result ≡ length c.args.held.now.items = search rules in
    dealt_away c.args.held.now.items _ _ c.requires long _ _ c.index.ensures c.index_mut.ensures.value _ _ _ c.in-None.ensures c.remove-item.ensures.value c.remove-item.ensures.items

pub returns-in-Some-clause-dealt : goal.returns-in-Some-clause-dealt
returns-in-Some-clause-dealt g c =
    let long : c.len.result ≡ length c.args.held.now.items = search rules in
    let e = c.in-Some.ensures in
    dealt_copied c.args.held.now.items _ _ c.requires long _ _ c.index.ensures c.index_mut.ensures.value _ _ e.0 e.1 e.2 e.3
