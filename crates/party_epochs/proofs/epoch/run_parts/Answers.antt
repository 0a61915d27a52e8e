use Rattle.party_epochs.proofs.EpochLemmas.{written}
use Rattle.party_epochs.proofs.epoch.run_parts.Goals as goal

pub returns-clause-turned : goal.returns-clause-turned
returns-clause-turned g c =
    written _ c.run_both.result c.args.turned.now.items c.deref_mut.result.now c.run_both.new.ones c.args.turned.now.len c.deref_mut.ensures.value c.args.turned.now.ok.0
    c.run_both.ensures.ones

pub returns-clause-polled : goal.returns-clause-polled
returns-clause-polled g c =
    written _ c.run_both.result c.args.polled.now.items c.deref_mut-2.result.now c.run_both.new.others c.args.polled.now.len c.deref_mut-2.ensures.value c.args.polled.now.ok.0
    c.run_both.ensures.others
