use Rattle.std.proofs.Common.{◌≡◌, [], ◌++◌, map, replicate, ap, ◌∙◌}
use Rattle.std.proofs.lemmas.List.{map-append}
use Rattle.mail_contract.proofs.MapsLemmas.{as_many, each_shows}
use Rattle.tests_session.proofs.tests.two_workers.Goals as goal

-- neither sender sent anything
none_sent : (c : goal.After-drop-more-2) → map (λ tx. tx.history.items) c.append.new.self.items ≡ replicate 2 []
none_sent c =
    ap (map (λ tx. tx.history.items)) c.in_ok-append.ensures.items
    ∙ map-append (λ tx. tx.history.items) c.in_ok-senders.senders.items c.in_ok-more.more.items
    ∙ (λ j. c.in_ok-senders.ensures.sent j ++ c.in_ok-more.ensures.sent j)

pub returns-clause-two : goal.returns-clause-two
returns-clause-two c = as_many (λ tx. tx.history.items) c.append.new.self.items 2 [] (none_sent c)

pub returns-clause-unused : goal.returns-clause-unused
returns-clause-unused c = each_shows (λ tx. tx.history.items) c.append.new.self.items 2 [] (none_sent c)
