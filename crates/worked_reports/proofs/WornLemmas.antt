-- After a worn commit the transaction is closed.
use Rattle.std.specs.Prelude.{◌≡◌, ℕ, true, false}
use Rattle.std.proofs.Common.{refl}
use Rattle.composed_value.specs.declared.payload.Payload.{Payload}
use Rattle.session_known.specs.Session.{Client, State}
use Rattle.session_known.specs.declared.report.Answer.TheVariants as answers
use Rattle.session_known.specs.declared.script.Line.TheVariants as lines
use Rattle.worked_reports.specs.Worn.{IsClosedAfter, IsRefusedAfter}

pub closed_after : (client : Client) (state : State) → IsClosedAfter client state
closed_after client state = record { none_begun = refl; as_known = refl }

pub held_is_refused_after : (key : ℕ) (payload : Payload) → IsRefusedAfter (lines.Put key payload) answers.Held
held_is_refused_after key payload table client state earlier lawful = let wrong : false ≡ true = lawful in (cc)

pub commit_is_refused_after : (puts lamport : ℕ) → IsRefusedAfter lines.Commit (answers.Committed puts lamport)
commit_is_refused_after puts lamport table client state earlier lawful = let wrong : false ≡ true = lawful.begun in (cc)

pub worn_commit_is_refused_after : IsRefusedAfter lines.Commit answers.Worn
worn_commit_is_refused_after table client state earlier lawful = let wrong : false ≡ true = lawful.0 in (cc)
