use Rattle.std.proofs.Common.{◌∙◌, ap}
use Rattle.mail_contract.specs.Lanes.{about_lane, of_sender}
use Rattle.mail_contract.proofs.LanesLemmas.{of_nothing}
use Rattle.mail_contract.proofs.parcels.plain.Goals as goal

pub returns-clause-about : goal.returns-clause-about
returns-clause-about g c = λ sender. ap (λ about. about sender) c.new.ensures.about ∙ ap (λ lanes. about_lane (of_sender lanes sender)) c.in_ok-lanes.ensures.lanes ∙ ap about_lane (of_nothing c.args.senders sender)
