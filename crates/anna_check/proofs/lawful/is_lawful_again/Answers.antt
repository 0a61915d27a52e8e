use Rattle.std.proofs.Common.{rules, ◌≡◌, ◌↔◌, ◌*◌, IsTrue, length, nat_eq}
use Rattle.placement.specs.Asked.{replicas_of, last_asked}
use Rattle.session_known.specs.declared.script.Level.TheVariants.{Causal}
use Rattle.anna_check.proofs.LawfulLemmas.{again_tested}
use Rattle.anna_check.proofs.lawful.is_lawful_again.Goals as goal

pub returns : goal.returns
returns c workers earlier joined =
    let table = c.args.placement.now in
    let client = c.args.known.now.client in
    let knows = c.args.known.now.knows in
    let causal : IsTrue c.eq-is_causal.result ↔ (client.level ≡ Causal) = search rules in
    let asked : IsTrue c.is_asks_of-is_asked.result ↔ (c.args.asks ≡ 8 * length (replicas_of table c.args.key)) = search rules in
    let last : IsTrue (nat_eq c.args.worker c.last_asked.result) ↔ (c.args.worker ≡ last_asked table client.session c.args.key) = search rules in
    again_tested table client knows earlier c.args.line.now c.args.key c.args.worker c.args.clock.now c.args.asks c.eq-is_causal.result c.is_asks_of-is_asked.result (nat_eq c.args.worker c.last_asked.result) c.is_clock_from-is_clock.result c.covers_required-is_lacking.result
    causal asked last (c.is_clock_from-is_clock.ensures workers earlier joined) c.covers_required-is_lacking.ensures
