-- Beginning a line.
use Rattle.std.specs.Prelude.{◌≡◌, ◌⊎◌, ◌+◌, ◌<◌, Bool, true, false, List, [], ◌∷◌, ◌++◌, length, None, Result, Ok, Err}
use Rattle.lattice_laws.specs.declared.lattice.NoMemory.{NoMemory}
use Rattle.session_known.specs.Lawful.{required}
use Rattle.session_known.specs.Session.{InState, after}
use Rattle.session_known.specs.declared.report.Answer.{Answer}
use Rattle.session_known.specs.declared.script.Line.{Line}
use Rattle.session_proxy.specs.Lines.{answer_at, puts_due}
use Rattle.session_proxy.specs.Share.{IsAsked}
use Rattle.session_proxy.specs.declared.local.Begun.{Begun}
use Rattle.session_proxy.specs.declared.local.Begun.TheVariants as ways

-- the line is answered at once: it is no get and no await, and makes no put
pub record AnswersAtOnce (line : Line) (session session_now : InState) (answers answers_now : List Answer) : Type 0 where
  pub no_ask : IsAsked line → ⊥
  pub no_puts : puts_due session.state line ≡ []
  pub answers_are : answers_now ≡ answers ++ answer_at session.state line ∷ []
  pub client_is : session_now.client ≡ session.client
  pub state_is : session_now.state ≡ after session.client session.state line (answer_at session.state line)

-- its puts are to be made
pub record OpensPuts (line : Line) (session session_now : InState) (begun : Begun) : Type 0 where
  pub no_ask : IsAsked line → ⊥
  pub some : 0 < length (puts_due session.state line)
  pub begun_is : begun ≡ ways.Puts (record { puts = puts_due session.state line; lamport = session.state.knows.lamport + 1 })
  pub client_is : session_now.client ≡ session.client
  pub state_is : session_now.state ≡ record { knows = session.state.knows; held = None }

-- it is to be asked for
pub record OpensAsks (line : Line) (session session_now : InState) (begun : Begun) : Type 0 where
  pub asked : IsAsked line
  pub begun_is : begun ≡ ways.Asks (required session.client session.state.knows line)
  pub session_is : session_now ≡ session

-- what beginning a line does, and whether it is answered then
abbrev pub Begins : Line → Result Bool NoMemory → InState → InState → List Answer → List Answer → Begun → Begun → Type 0
Begins line (Ok true) session session_now answers answers_now begun begun_now = AnswersAtOnce line session session_now answers answers_now × (begun_now ≡ begun)
Begins line (Ok false) session session_now answers answers_now begun begun_now =
    (OpensPuts line session session_now begun_now ⊎ OpensAsks line session session_now begun_now) × (answers_now ≡ answers)
Begins line (Err want) session session_now answers answers_now begun begun_now = (session_now ≡ session) × (answers_now ≡ answers) × (begun_now ≡ begun)
