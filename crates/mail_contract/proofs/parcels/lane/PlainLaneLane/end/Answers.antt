use Rattle.mail_contract.proofs.PlainLemmas.{not_settled, settled_told}
use Rattle.mail_contract.proofs.parcels.lane.PlainLaneLane.end.Goals as goal

pub returns-clause-told : goal.returns-clause-told
returns-clause-told g c = let self = c.args.self.now in settled_told _ _ _ _ _ (self.all_delivered (not_settled self.given.items self.taken self.settled c.requires.once)) self.some_taken c.requires.pair
