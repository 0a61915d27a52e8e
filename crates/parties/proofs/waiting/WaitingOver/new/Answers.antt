use Rattle.std.proofs.Common.{◌≡◌, ◌∙◌, All, arith, map, subst, sym, []}
use Rattle.std.proofs.lemmas.List.{length-map}
use Rattle.party_turns.proofs.ItemsLemmas.{all_there, at_its_place, of_mapped}
use Rattle.session_proxy.specs.Lines.{AreReplicas}
use Rattle.parties.proofs.waiting.WaitingOver.new.Goals as goal

pub invariant_of-result : goal.invariant_of-result
invariant_of-result g c =
    let senders = c.args.ends.requests.items in
    let long = length-map senders g.T.Tx.sent in
    record {
      some = c.requires.me;
      few_lines = c.requires.few_lines;
      may_run = c.requires.lines;
      transactions = c.requires.transactions;
      workers = omega (arith, c.requires.workers, long);
      replicas = subst (λ many. All (AreReplicas many) c.args.placement) (sym long) c.requires.replicas;
      none_sent = all_there (λ requests. requests ≡ []) (map g.T.Tx.sent senders) (λ place requests there.
          let sender = of_mapped g.T.Tx.sent senders place requests there in
          sym sender.2 ∙ at_its_place (λ sender. g.T.Tx.sent sender ≡ []) senders place sender.0 c.requires.sent sender.1);
      none_received = c.requires.received;
    }
