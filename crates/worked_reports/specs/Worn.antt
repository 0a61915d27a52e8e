-- What holds after a worn commit. A session's Lamport numbers are used up in no small report, so this is said of every state.
use Rattle.std.specs.Prelude.{◌≡◌, ℕ, List, None}
use Rattle.session_known.specs.Lawful.{IsLawful}
use Rattle.session_known.specs.Session.{Client, State, after}
use Rattle.session_known.specs.declared.report.Answer.{Answer}
use Rattle.session_known.specs.declared.report.Answer.TheVariants as answers
use Rattle.session_known.specs.declared.script.Line.{Line}
use Rattle.session_known.specs.declared.script.Line.TheVariants as lines

-- a state once a commit was answered as worn
abbrev pub after_worn_commit : Client → State → State
after_worn_commit client state = after client state lines.Commit answers.Worn

-- there no transaction is begun, and as much is known as before
pub record IsClosedAfter (client : Client) (state : State) : Type 0 where
  pub none_begun : (after_worn_commit client state).held ≡ None
  pub as_known : (after_worn_commit client state).knows ≡ state.knows

-- there the line may not have the answer, whatever was known and held before the commit
abbrev pub IsRefusedAfter : Line → Answer → Type 0
IsRefusedAfter line answer = (table : List (List ℕ)) (client : Client) (state : State) (earlier : List (Line × Answer)) → IsLawful table client (after_worn_commit client state) earlier line answer → ⊥
