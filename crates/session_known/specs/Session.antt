-- What a session knows, and how its lines and their answers change it.
use Rattle.std.specs.Prelude.{◌≡◌, ℕ, ◌+◌, max, List, [], ◌∷◌, ◌++◌, Option, Some, None, unwrap_or}
use Rattle.clock_lattice.specs.Clock.{count_of, joined_clocks, one_count}
use Rattle.clock_lattice.specs.Needs.{clock_at, joined_needs, one_need}
use Rattle.composed_value.specs.Cell.{PlainCell}
use Rattle.composed_value.specs.declared.payload.Payload.{Payload}
use Rattle.composed_value.specs.declared.put.Put as puts
use Rattle.session_known.specs.declared.report.Answer.{Answer}
use Rattle.session_known.specs.declared.report.Answer.TheVariants as answers
use Rattle.session_known.specs.declared.report.Shown.{Shown}
use Rattle.session_known.specs.declared.script.Level.{Level}
use Rattle.session_known.specs.declared.script.Level.TheVariants.{Causal}
use Rattle.session_known.specs.declared.script.Line.{Line}
use Rattle.session_known.specs.declared.script.Line.TheVariants as lines

-- a session of a run: its number and its level
pub record Client : Type 0 where
  pub session : ℕ
  pub level : Level

-- what a session knows: of each key a clock (of puts that replies have shown, that it made, or that a shown put depends on), the greatest
-- Lamport number seen or used, and how many puts it has made on each key
pub record Knowledge : Type 0 where
  pub clocks : List (ℕ × List (ℕ × ℕ))
  pub lamport : ℕ
  pub own : List (ℕ × ℕ)

-- a session and what it knows
pub record Knows : Type 0 where
  pub client : Client
  pub knows : Knowledge

-- what a session knows, and the puts that are held in order, each with its key, where a transaction is begun
pub record State : Type 0 where
  pub knows : Knowledge
  pub held : Option (List (ℕ × Payload))

-- a session and its state
pub record InState : Type 0 where
  pub client : Client
  pub state : State

-- a session in a state, with what it knows there
abbrev pub known_of : InState → Knows
known_of session = record { client = session.client; knows = session.state.knows }

-- nothing is known
abbrev pub nothing_known : Knowledge
nothing_known = record { clocks = []; lamport = 0; own = [] }

-- at the start no transaction is begun
abbrev pub start : Knowledge → State
start knows = record { knows = knows; held = None }

-- what a session hands over to one that comes after it: its clocks and its Lamport number, and no counts of puts
abbrev pub handed : Knowledge → Knowledge
handed knows = record { clocks = knows.clocks; lamport = knows.lamport; own = [] }

-- how many puts the session has made on the key
abbrev pub own_count : Knowledge → ℕ → ℕ
own_count knows key = count_of key knows.own

-- the clock known at the key, raised at the session to a number
abbrev pub known_raised : Knowledge → ℕ → ℕ → ℕ → List (ℕ × ℕ)
known_raised knows key session number = joined_clocks (clock_at key knows.clocks) (one_count session number)

-- the causal dependencies of a put: in a causal session all that is known before it, else none
abbrev pub needs_by : Level → Knowledge → List (ℕ × List (ℕ × ℕ))
needs_by Causal knows = knows.clocks
needs_by level knows = []

-- the put that a session makes, at a Lamport number and place
abbrev pub put_made : Client → Knowledge → ℕ → Payload → ℕ → ℕ → ℕ → puts.Put
put_made client knows key payload number lamport place = record {
  session = client.session;
  number = number;
  lamport = lamport;
  place = place;
  seen = known_raised knows key client.session number;
  needs = needs_by client.level knows;
  payload = payload;
}

-- the session's next put on a key, at a Lamport number and place
abbrev pub next_put : Knows → ℕ → Payload → ℕ → ℕ → puts.Put
next_put of key payload lamport place = put_made of.client of.knows key payload (own_count of.knows key + 1) lamport place

-- the put is that
abbrev pub IsNextPut : Knows → ℕ → Payload → ℕ → ℕ → puts.Put → Type 0
IsNextPut of key payload lamport place put = put ≡ next_put of key payload lamport place

-- what is known once the put is made
abbrev pub knows_put : Client → Knowledge → ℕ → ℕ → ℕ → Knowledge
knows_put client knows key number lamport = record {
  clocks = joined_needs knows.clocks (one_need key (one_count client.session number));
  lamport = lamport;
  own = joined_clocks knows.own (one_count key number);
}

-- what is known once the session has made its next put on a key; the Lamport number that is known never falls
abbrev pub knows_next : Knows → ℕ → ℕ → Knowledge
knows_next of key lamport = knows_put of.client of.knows key (own_count of.knows key + 1) (max of.knows.lamport lamport)

-- the held puts in order, each the session's next on its key, at one Lamport number, in places from the given one on
abbrev pub puts_committed : Client → Knowledge → ℕ → ℕ → List (ℕ × Payload) → List (ℕ × puts.Put)
puts_committed client knows lamport place [] = []
puts_committed client knows lamport place (held ∷ others) =
    let number = own_count knows held.0 + 1 in
    (held.0, put_made client knows held.0 held.1 number lamport place) ∷ puts_committed client (knows_put client knows held.0 number lamport) lamport (place + 1) others

-- what is known once they are made
abbrev pub knows_committed : Client → Knowledge → ℕ → List (ℕ × Payload) → Knowledge
knows_committed client knows lamport [] = knows
knows_committed client knows lamport (held ∷ others) = knows_committed client (knows_put client knows held.0 (own_count knows held.0 + 1) lamport) lamport others

-- what a session learns of the needs that a reply shows: all of them in a causal session, and else nothing
abbrev pub needs_learned : Level → Option (List (ℕ × List (ℕ × ℕ))) → List (ℕ × List (ℕ × ℕ))
needs_learned Causal (Some needs) = needs
needs_learned level shown = []

-- what is known once a clock of the key, a Lamport number, and needs where there are any are learned
abbrev pub knows_learned : Knowledge → ℕ → List (ℕ × ℕ) → ℕ → Option (List (ℕ × List (ℕ × ℕ))) → Knowledge
knows_learned knows key clock top learned = record {
  clocks = joined_needs (joined_needs knows.clocks (one_need key clock)) (unwrap_or learned []);
  lamport = max knows.lamport top;
  own = knows.own;
}

-- all that a cell has to show, its needs too
abbrev pub shown_of : PlainCell → Shown
shown_of cell = record { clock = cell.clock; top = cell.top; value = cell.value; needs = Some cell.needs }

-- what a session of a level is shown of a cell: its needs too where it is causal
abbrev pub shown_to : Level → PlainCell → Shown
shown_to Causal cell = shown_of cell
shown_to level cell = record { clock = cell.clock; top = cell.top; value = cell.value; needs = None }

-- what is known once a reply has shown a cell of the key
abbrev pub knows_shown : Client → Knowledge → ℕ → Shown → Knowledge
knows_shown client knows key shown = record {
  clocks = joined_needs (joined_needs knows.clocks (one_need key shown.clock)) (needs_learned client.level shown.needs);
  lamport = max knows.lamport shown.top;
  own = knows.own;
}

-- so for a session with what it knows
abbrev pub knows_reply : Knows → ℕ → Shown → Knowledge
knows_reply of key shown = knows_shown of.client of.knows key shown

-- the puts that are held, none where no transaction is begun
abbrev pub held_puts : State → List (ℕ × Payload)
held_puts state = unwrap_or state.held []

-- the state once the session has made its next put on a key
abbrev pub state_put : InState → ℕ → ℕ → State
state_put session key lamport = record { knows = knows_next (known_of session) key lamport; held = session.state.held }

-- once it holds a put on a key
abbrev pub state_held : InState → ℕ → Payload → State
state_held session key payload = record { knows = session.state.knows; held = Some (held_puts session.state ++ (key, payload) ∷ []) }

-- and once a reply has shown it a cell of a key
abbrev pub state_shown : InState → ℕ → Shown → State
state_shown session key shown = record { knows = knows_reply (known_of session) key shown; held = session.state.held }

-- the state once the line has its answer
abbrev pub after : Client → State → Line → Answer → State
after client state (lines.Put key payload) (answers.Put number lamport) = record { knows = knows_put client state.knows key number lamport; held = state.held }
after client state (lines.Put key payload) answers.Held = record { knows = state.knows; held = Some (held_puts state ++ (key, payload) ∷ []) }
after client state lines.Begin answers.Begun = record { knows = state.knows; held = Some [] }
after client state lines.Commit (answers.Committed puts lamport) = record { knows = knows_committed client state.knows lamport (held_puts state); held = None }
after client state lines.Commit answers.Worn = record { knows = state.knows; held = None }
after client state lines.Abort (answers.Aborted puts) = record { knows = state.knows; held = None }
after client state (lines.Get key named) (answers.Got worker shown) = record { knows = knows_shown client state.knows key shown; held = state.held }
after client state (lines.Await key session count) (answers.Got worker shown) = record { knows = knows_shown client state.knows key shown; held = state.held }
after client state line answer = state

-- the puts that the line's answer accepts, each with its key
abbrev pub puts_by : Client → State → Line → Answer → List (ℕ × puts.Put)
puts_by client state (lines.Put key payload) (answers.Put number lamport) = (key, put_made client state.knows key payload number lamport 0) ∷ []
puts_by client state lines.Commit (answers.Committed puts lamport) = puts_committed client state.knows lamport 0 (held_puts state)
puts_by client state line answer = []

-- the puts that a session's answers accept, in the order of its lines, from a state on
abbrev pub puts_from : Client → State → List Line → List Answer → List (ℕ × puts.Put)
puts_from client state (line ∷ lines) (answer ∷ answers) = puts_by client state line answer ++ puts_from client (after client state line answer) lines answers
puts_from client state lines answers = []

-- the state after all its lines
abbrev pub state_after : Client → State → List Line → List Answer → State
state_after client state (line ∷ lines) (answer ∷ answers) = state_after client (after client state line answer) lines answers
state_after client state lines answers = state
