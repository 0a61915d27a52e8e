-- Of a session whose lines are answered: how its puts are numbered, and that their Lamport numbers rise.
use Rattle.std.specs.Prelude.{◌≡◌, ℕ, ◌+◌, ◌<◌, ◌≤◌, List, [], ◌∷◌, All, length}
use Rattle.std.proofs.Common.{◌∙◌, refl, ap, arith}
use Rattle.std.proofs.lemmas.List.Elements.{All-append, All-cons, All-nil, All-weaker}
use Rattle.composed_value.specs.declared.payload.Payload.{Payload}
use Rattle.composed_value.specs.declared.put.Put.{Put}
use Rattle.session_known.specs.Lawful.{lamport_of_commit}
use Rattle.session_known.specs.Session.{Client, Knowledge, State, after, held_puts, knows_committed, knows_put, own_count, put_made, puts_by, puts_committed, puts_from}
use Rattle.session_known.specs.declared.report.Answer.{Answer}
use Rattle.session_known.specs.declared.report.Answer.TheVariants as answers
use Rattle.session_known.specs.declared.script.Line.{Line}
use Rattle.session_known.specs.declared.script.Line.TheVariants as lines
use Rattle.session_known.proofs.NumberedLemmas.{AreNumberedLines, IsNumbered}
use Rattle.session_proxy.specs.Run.{AreAnswered, IsAnswered}
use Rattle.store_msg.specs.Reply.{PlainReply}

-- a put with a number
abbrev pub HasNumber : ℕ × Put → Type 0
HasNumber entry = 1 ≤ entry.1.number

-- a put above a Lamport number
abbrev pub IsAbove : ℕ → ℕ × Put → Type 0
IsAbove lamport entry = lamport < entry.1.lamport

module _ (client : Client) where
  committed_have : (knows : Knowledge) (lamport place : ℕ) (held : List (ℕ × Payload)) → All HasNumber (puts_committed client knows lamport place held)
  committed_have knows lamport place [] = All-nil HasNumber
  committed_have knows lamport place (held ∷ others) =
      let number : ℕ = own_count knows held.0 + 1 in
      All-cons HasNumber (held.0, put_made client knows held.0 held.1 number lamport place)
      (puts_committed client (knows_put client knows held.0 number lamport) lamport (place + 1) others) (omega arith)
      (committed_have (knows_put client knows held.0 number lamport) lamport (place + 1) others)

  line_has : (state : State) (line : Line) (answer : Answer) → IsNumbered state line answer → All HasNumber (puts_by client state line answer)
  line_has state (lines.Put key payload) (answers.Put number lamport) is =
      All-cons HasNumber (key, put_made client state.knows key payload number lamport 0) [] (omega (arith, is)) (All-nil HasNumber)
  line_has state lines.Commit (answers.Committed puts lamport) is = committed_have state.knows lamport 0 (held_puts state)
  line_has state line answer is = All-nil HasNumber

  -- each put of lines that are numbered so has a number
  pub lines_have : (state : State) (lines : List Line) (answers : List Answer) → AreNumberedLines client state lines answers → All HasNumber (puts_from client state lines answers)
  lines_have state (line ∷ lines) (answer ∷ answers) are =
      let reached : State = after client state line answer in
      All-append HasNumber (puts_by client state line answer) (puts_from client reached lines answers) (line_has state line answer are.0) (lines_have reached lines answers are.1)
  lines_have state lines answers are = All-nil HasNumber

  -- the puts of a commit have its Lamport number
  committed_at : (knows : Knowledge) (lamport place : ℕ) (held : List (ℕ × Payload)) → All (λ entry. entry.1.lamport ≡ lamport) (puts_committed client knows lamport place held)
  committed_at knows lamport place [] = All-nil (λ (entry : ℕ × Put). entry.1.lamport ≡ lamport)
  committed_at knows lamport place (held ∷ others) =
      let number : ℕ = own_count knows held.0 + 1 in
      All-cons (λ (entry : ℕ × Put). entry.1.lamport ≡ lamport) (held.0, put_made client knows held.0 held.1 number lamport place)
      (puts_committed client (knows_put client knows held.0 number lamport) lamport (place + 1) others) refl
      (committed_at (knows_put client knows held.0 number lamport) lamport (place + 1) others)

  -- and it is known once they are made
  committed_known : (knows : Knowledge) (lamport : ℕ) (first : ℕ × Payload) (others : List (ℕ × Payload)) → (knows_committed client knows lamport (first ∷ others)).lamport ≡ lamport
  committed_known knows lamport first [] = refl
  committed_known knows lamport first (next ∷ others) = committed_known (knows_put client knows first.0 (own_count knows first.0 + 1) lamport) lamport next others

  -- What a line does to a session's Lamport number: it never falls, and the puts of the line are above what it was.
  pub record Rises (before after : Knowledge) (made : List (ℕ × Put)) : Type 0 where
    pub rises : before.lamport ≤ after.lamport
    pub above : All (IsAbove before.lamport) made

  -- no puts, and the number as it was
  stays : (knows : Knowledge) → Rises knows knows []
  stays knows = record { rises = omega arith; above = All-nil (IsAbove knows.lamport) }

  commit_rises : (knows : Knowledge) (puts lamport : ℕ) (held : List (ℕ × Payload)) → puts ≡ length held → lamport ≡ lamport_of_commit knows puts
      → Rises knows (knows_committed client knows lamport held) (puts_committed client knows lamport 0 held)
  commit_rises knows puts lamport [] puts_are lamport_is = stays knows
  commit_rises knows puts lamport (first ∷ others) puts_are lamport_is =
      let next : lamport ≡ knows.lamport + 1 = lamport_is ∙ ap (lamport_of_commit knows) puts_are in
      record {
        rises = omega (arith, next, committed_known knows lamport first others);
        above = All-weaker (λ (entry : ℕ × Put). entry.1.lamport ≡ lamport) (IsAbove knows.lamport) (λ entry is. omega (arith, is, next))
            (puts_committed client knows lamport 0 (first ∷ others)) (committed_at knows lamport 0 (first ∷ others));
      }

  module _ (table : List (List ℕ)) where
    line_numbered : (state : State) (first : ℕ) (line : Line) (answer : Answer) (its : List PlainReply) → IsAnswered table client state first line answer its → IsNumbered state line answer
    line_numbered state first (lines.Put key payload) (answers.Put number lamport) its is = is.0.number_is
    line_numbered state first line answer its is = tt

    -- answered lines are numbered so
    pub numbered : (state : State) (first : ℕ) (lines : List Line) (given : List Answer) (replies : List (List PlainReply)) → AreAnswered table client state first lines given replies
        → AreNumberedLines client state lines given
    numbered state first (line ∷ lines) (answer ∷ given) (its ∷ replies) are =
        (line_numbered state first line answer its are.0, numbered (after client state line answer) (first + length its) lines given replies are.1)
    numbered state first (line ∷ lines) (answer ∷ given) [] are = absurd are
    numbered state first [] given replies are = tt
    numbered state first (line ∷ lines) [] replies are = tt

    -- each has its list of replies
    pub as_many : (state : State) (first : ℕ) (lines : List Line) (given : List Answer) (replies : List (List PlainReply)) → AreAnswered table client state first lines given replies
        → length replies ≡ length given
    as_many state first lines [] [] are = refl
    as_many state first (line ∷ lines) (answer ∷ given) (its ∷ replies) are =
        let rest = as_many (after client state line answer) (first + length its) lines given replies are.1 in
        omega (arith, rest)
    as_many state first [] [] (its ∷ replies) are = absurd are
    as_many state first (line ∷ lines) [] (its ∷ replies) are = absurd are
    as_many state first [] (answer ∷ given) replies are = absurd are
    as_many state first (line ∷ lines) (answer ∷ given) [] are = absurd are

    -- so of each line that is answered
    pub line_rises : (state : State) (first : ℕ) (line : Line) (answer : Answer) (its : List PlainReply) → IsAnswered table client state first line answer its
        → Rises state.knows (after client state line answer).knows (puts_by client state line answer)
    line_rises state first (lines.Put key payload) (answers.Put number lamport) its is =
        let next = is.0.lamport_is in
        record {
          rises = omega (arith, next);
          above = All-cons (IsAbove state.knows.lamport) (key, put_made client state.knows key payload number lamport 0) [] (omega (arith, next)) (All-nil (IsAbove state.knows.lamport));
        }
    line_rises state first lines.Commit (answers.Committed puts lamport) its is = commit_rises state.knows puts lamport (held_puts state) is.0.puts_are is.0.lamport_is
    line_rises state first (lines.Get key named) (answers.Got worker shown) its is = record { rises = omega arith; above = All-nil (IsAbove state.knows.lamport) }
    line_rises state first (lines.Await key session count) (answers.Got worker shown) its is = record { rises = omega arith; above = All-nil (IsAbove state.knows.lamport) }
    line_rises state first (lines.Put key payload) answers.Held its is = stays state.knows
    line_rises state first lines.Begin answers.Begun its is = stays state.knows
    line_rises state first lines.Commit answers.Worn its is = stays state.knows
    line_rises state first lines.Abort (answers.Aborted puts) its is = stays state.knows
    line_rises state first line answer its is = stays state.knows

    -- the puts of answered lines are above the Lamport number before
    pub lines_above : (state : State) (first : ℕ) (lines : List Line) (given : List Answer) (replies : List (List PlainReply)) → AreAnswered table client state first lines given replies
        → All (IsAbove state.knows.lamport) (puts_from client state lines given)
    lines_above state first (line ∷ lines) (answer ∷ given) (its ∷ replies) are =
        let reached : State = after client state line answer in
        let here = line_rises state first line answer its are.0 in
        All-append (IsAbove state.knows.lamport) (puts_by client state line answer) (puts_from client reached lines given) here.above
        (All-weaker (IsAbove reached.knows.lamport) (IsAbove state.knows.lamport) (λ entry above. omega (arith, above, here.rises)) (puts_from client reached lines given)
        (lines_above reached (first + length its) lines given replies are.1))
    lines_above state first (line ∷ lines) (answer ∷ given) [] are = absurd are
    lines_above state first [] given replies are = All-nil (IsAbove state.knows.lamport)
    lines_above state first (line ∷ lines) [] replies are = All-nil (IsAbove state.knows.lamport)
