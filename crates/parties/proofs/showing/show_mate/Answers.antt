use Rattle.std.proofs.Common.{◌≡◌, ◌++◌, List, drop, length, map, refl, subst, sym, take}
use Rattle.session_proxy.specs.State.{PlainProxy}
use Rattle.worker_core.specs.State.{PlainWorker}
use Rattle.party_turns.specs.Mates.{AreMates, AreShown, steady_of}
use Rattle.party_turns.proofs.PairListsLemmas.{whole}
use Rattle.party_turns.proofs.ItemsLemmas.{long_alike}
use Rattle.party_turns.proofs.MakingLemmas.{made_mates}
use Rattle.parties.specs.Session.{proxy_of}
use Rattle.parties.proofs.ChangedLemmas.{done_to_none}
use Rattle.parties.proofs.BesideLemmas.{stay_beside}
use Rattle.parties.proofs.MateLemmas.{pair_knows, pair_met, pair_met_still, pair_stays}
use Rattle.parties.proofs.StayLemmas.{all_stay, session_stays, SessionStays}
use Rattle.parties.proofs.showing.show_mate.Given.{Over}
use Rattle.parties.proofs.showing.show_mate.Goals as goal
use Rattle.parties.proofs.showing.show_mate.Goals.{After-show_pair}
use Rattle.party_turns.specs.Ends.{Ends, mail_of}
use Rattle.parties.specs.Beside.{AreBeside, HasMet}
use Rattle.parties.specs.Staying.{AllStay}

module _ (g : Over) where
  -- what the ends tell
  abbrev mail : Ends g.row.P-ReqTx.Denot g.row.P-RepTx.Denot g.row.P-GosTx.Denot g.row.P-ReqRx.Denot g.row.P-GosRx.Denot g.row.P-RepRx.Denot
      g.row.P-ReqTx-Key.Denot g.row.P-RepTx-Key.Denot g.row.P-GosTx-Key.Denot g.row.P-ReqRx-Key.Denot g.row.P-GosRx-Key.Denot g.row.P-RepRx-Key.Denot
  mail = mail_of g.P.ReqTx.Tx g.P.RepTx.Tx g.P.GosTx.Tx g.P.ReqRx.Rx g.P.GosRx.GossipRx g.P.RepRx.Rx

module _ (g : Over) (c : After-show_pair g) where
  abbrev workers : List (PlainWorker g.row.P-ReqRx.Denot g.row.P-RepTx.Denot g.row.P-GosTx.Denot g.row.P-GosRx.Denot)
  workers = c.args.parties.now.workers.items

  -- the workers of which two were shown, and all workers again
  abbrev shown : List (PlainWorker g.row.P-ReqRx.Denot g.row.P-RepTx.Denot g.row.P-GosTx.Denot g.row.P-GosRx.Denot)
  shown = c.show_pair.new.workers

  abbrev workers_are : List (PlainWorker g.row.P-ReqRx.Denot g.row.P-RepTx.Denot g.row.P-GosTx.Denot g.row.P-GosRx.Denot)
  workers_are = take c.args.parties.now.workers.len (shown ++ drop (length shown) workers)

  abbrev proxies : List (PlainProxy g.row.P-ReqTx.Denot g.row.P-RepRx.Denot)
  proxies = map proxy_of c.args.parties.now.sessions.items

  are_shown : AreShown g.P.GosTx.Tx.key g.P.GosTx.Tx.number g.P.GosTx.Tx.sent g.P.GosTx.Tx.clear g.P.GosTx.Tx.unseen g.P.GosRx.GossipRx.key g.P.GosRx.GossipRx.keeps g.P.GosRx.GossipRx.got g.P.GosRx.GossipRx.about g.P.GosRx.GossipRx.due
      c.args.place c.args.other workers shown
  are_shown =
      subst (λ those. AreShown g.P.GosTx.Tx.key g.P.GosTx.Tx.number g.P.GosTx.Tx.sent g.P.GosTx.Tx.clear g.P.GosTx.Tx.unseen g.P.GosRx.GossipRx.key g.P.GosRx.GossipRx.keeps g.P.GosRx.GossipRx.got g.P.GosRx.GossipRx.about g.P.GosRx.GossipRx.due
      c.args.place c.args.other those shown) c.deref_mut.ensures.value c.show_pair.ensures.shown

  long : length shown ≡ length workers
  long = long_alike (steady_of g.P.GosTx.Tx.key g.P.GosTx.Tx.number g.P.GosTx.Tx.sent g.P.GosRx.GossipRx.key g.P.GosRx.GossipRx.got) workers shown are_shown.steady

  all_shown : shown ≡ workers_are
  all_shown = sym (whole workers shown c.args.parties.now.workers.len c.args.parties.now.workers.ok.0 long)

  stay : AllStay (mail g) workers shown proxies proxies
  stay =
      all_stay workers shown proxies proxies long refl (pair_stays are_shown c.requires.within.0 c.requires.within.1 c.requires.differ (length proxies))
      (done_to_none (λ at. SessionStays (mail g)) (λ at. session_stays) proxies)

pub show_pair-requires-clause-mates : goal.show_pair-requires-clause-mates
show_pair-requires-clause-mates g c =
    subst (AreMates g.P.GosTx.Tx.key g.P.GosTx.Tx.number g.P.GosRx.GossipRx.key g.P.GosRx.GossipRx.pairs) (sym c.deref_mut.ensures.value)
    (made_mates g.P.GosRx.GossipRx.about c.args.parties.now.workers.items c.requires.few c.requires.ends.numbered c.requires.ends.gossip)

pub returns-clause-stay : goal.returns-clause-stay
returns-clause-stay g c =
    let after = (goal.at.returns-clause-stay g c).After-show_pair in
    subst (λ those. AllStay (mail g) (workers g after) those (proxies g after) (proxies g after)) (all_shown g after) (stay g after)

pub returns-clause-still_beside : goal.returns-clause-still_beside
returns-clause-still_beside g c one session beside =
    let after = (goal.at.returns-clause-still_beside g c).After-show_pair in
    subst (λ those. AreBeside (mail g) one session those (proxies g after)) (all_shown g after)
    (stay_beside (mail g) (workers g after) (shown g after) (proxies g after) (proxies g after) (stay g after) one session
    (pair_knows (are_shown g after) (proxies g after) one session) beside)

pub returns-clause-met : goal.returns-clause-met
returns-clause-met g c =
    let after = (goal.at.returns-clause-met g c).After-show_pair in
    subst (HasMet (mail g) c.args.place c.args.other) (all_shown g after) (pair_met (mail g) (are_shown g after) c.requires.within.0 c.requires.within.1)

pub returns-clause-still_met : goal.returns-clause-still_met
returns-clause-still_met g c one mate met =
    let after = (goal.at.returns-clause-still_met g c).After-show_pair in
    subst (HasMet (mail g) one mate) (all_shown g after) (pair_met_still (mail g) (are_shown g after) c.requires.within.0 c.requires.within.1 one mate met)
