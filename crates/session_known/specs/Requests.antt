-- The requests that a session sends to the workers.
use Rattle.std.specs.Prelude.{ℕ, ◌+◌, ◌*◌, ◌%◌, ◌≤◌, List, [], ◌∷◌, ◌++◌, length, map, slice_index_or, Option, unwrap_or, ⊤}
use Rattle.std.specs.List.{range_with_len}
use Rattle.composed_value.specs.declared.put.Put as puts
use Rattle.placement.specs.Asked.{replicas_of, home_at, ask_order}
use Rattle.session_known.specs.Lawful.{required}
use Rattle.session_known.specs.Session.{Client, Knowledge, State, start, after, puts_by}
use Rattle.session_known.specs.declared.report.Answer.{Answer}
use Rattle.session_known.specs.declared.report.Answer.TheVariants as answers
use Rattle.session_known.specs.declared.script.Level.{Level}
use Rattle.session_known.specs.declared.script.Level.TheVariants.{Causal}
use Rattle.session_known.specs.declared.script.Line.{Line}
use Rattle.session_known.specs.declared.script.Line.TheVariants as lines

-- a request: a put on a key, or an ask for a key, numbered by the session, with what the reply must cover
pub data Sent : Type 0 where
  SentPut : (key : ℕ) → (put : puts.Put) → Sent
  SentAsk : (ask key : ℕ) → (required : List (ℕ × ℕ)) → Sent

-- each put goes to the session's home of its key
abbrev pub puts_sent : List (List ℕ) → Client → List (ℕ × puts.Put) → List (ℕ × Sent)
puts_sent table client made = map (λ entry. (home_at table client.session entry.0, SentPut entry.0 entry.1)) made

-- so many asks for a key, from a number on, to the replicas in their order, round and round
abbrev pub asks_sent : List ℕ → ℕ → ℕ → List (ℕ × ℕ) → ℕ → List (ℕ × Sent)
asks_sent order first key required asks = map (λ i. (slice_index_or order (i % length order) 0, SentAsk (first + i) key required)) (range_with_len 0 asks)

-- whom a get asks: in a causal session the replicas in the order of asking, else the named worker or the home alone
abbrev pub asked_by : Level → List (List ℕ) → ℕ → ℕ → Option ℕ → List ℕ
asked_by Causal table session key named = ask_order table session key
asked_by level table session key named = unwrap_or named (home_at table session key) ∷ []

-- how many asks a get or await that was answered Got has sent: in a causal session as many as is said, else one
abbrev pub asks_of : Level → ℕ → ℕ
asks_of Causal said = said
asks_of level said = 1

-- what the line sends: the puts that its answer accepts, or its asks from a number on; `said` is the number of asks of a Got in a causal session, from 1 to 8 for each replica
abbrev pub sent_by : List (List ℕ) → Client → State → ℕ → ℕ → Line → Answer → List (ℕ × Sent)
sent_by table client state first said (lines.Get key named) (answers.Got worker shown) = asks_sent (asked_by client.level table client.session key named) first key (required client state.knows (lines.Get key named)) (asks_of client.level said)
sent_by table client state first said (lines.Await key session count) (answers.Got worker shown) = asks_sent (ask_order table client.session key) first key (required client state.knows (lines.Await key session count)) said
sent_by table client state first said (lines.Get key named) (answers.Again asks worker clock) = asks_sent (ask_order table client.session key) first key (required client state.knows (lines.Get key named)) asks
sent_by table client state first said (lines.Await key session count) (answers.Again asks worker clock) = asks_sent (ask_order table client.session key) first key (required client state.knows (lines.Await key session count)) asks
sent_by table client state first said line answer = puts_sent table client (puts_by client state line answer)

-- how many asks the line sends
abbrev pub asks_by : Client → ℕ → Line → Answer → ℕ
asks_by client said (lines.Get key named) (answers.Got worker shown) = asks_of client.level said
asks_by client said (lines.Await key session count) (answers.Got worker shown) = said
asks_by client said (lines.Get key named) (answers.Again asks worker clock) = asks
asks_by client said (lines.Await key session count) (answers.Again asks worker clock) = asks
asks_by client said line answer = 0

-- The requests that a session sends, each with its worker, in order: from a state on, its asks numbered from `first` on; `said` has a
-- number for each line.
abbrev pub sent_from : List (List ℕ) → Client → State → ℕ → List ℕ → List Line → List Answer → List (ℕ × Sent)
sent_from table client state first (said ∷ asks) (line ∷ lines) (answer ∷ answers) =
    sent_by table client state first said line answer ++ sent_from table client (after client state line answer) (first + asks_by client said line answer) asks lines answers
sent_from table client state first asks lines answers = []

-- a causal get or await that was answered Got has sent from 1 to 8 asks for each replica
abbrev pub MayHaveAsked : List (List ℕ) → Level → ℕ → Line → Answer → Type 0
MayHaveAsked table Causal said (lines.Get key named) (answers.Got worker shown) = (1 ≤ said) × (said ≤ 8 * length (replicas_of table key))
MayHaveAsked table Causal said (lines.Await key session count) (answers.Got worker shown) = (1 ≤ said) × (said ≤ 8 * length (replicas_of table key))
MayHaveAsked table level said line answer = ⊤

-- there is a number of asks for each line
abbrev pub MayHaveSent : List (List ℕ) → Level → List ℕ → List Line → List Answer → Type 0
MayHaveSent table level [] [] [] = ⊤
MayHaveSent table level (said ∷ asks) (line ∷ lines) (answer ∷ answers) = MayHaveAsked table level said line answer × MayHaveSent table level asks lines answers
MayHaveSent table level asks lines answers = ⊥

-- The requests that a session sends from its start on, where it knows `origin`; its asks are numbered from 1.
abbrev pub requests_of : List (List ℕ) → Client → Knowledge → List ℕ → List Line → List Answer → List (ℕ × Sent)
requests_of table client origin asks lines answers = sent_from table client (start origin) 1 asks lines answers
