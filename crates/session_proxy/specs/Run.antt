-- How the replies to a session's asks make its answers.
use Rattle.std.specs.Prelude.{◌≡◌, ◌⊎◌, ℕ, ◌+◌, ◌≤◌, false, IsTrue, List, [], ◌∷◌, ◌++◌, All, length, ⊤}
use Rattle.std.specs.List.{AllZip}
use Rattle.placement.specs.Asked.{ask_order}
use Rattle.session_known.specs.Lawful.{IsLawful, required}
use Rattle.session_known.specs.Requests.{Sent, SentAsk, SentPut, asked_by, asks_sent}
use Rattle.session_known.specs.Session.{Client, State, after, shown_to}
use Rattle.session_known.specs.declared.report.Answer.{Answer}
use Rattle.session_known.specs.declared.report.Answer.TheVariants as answers
use Rattle.session_known.specs.declared.script.Level.{Level}
use Rattle.session_known.specs.declared.script.Line.{Line}
use Rattle.session_known.specs.declared.script.Line.TheVariants as lines
use Rattle.store_msg.specs.Reply.{IsAnswer, PlainReply, is_found}
use Rattle.store_msg.specs.declared.reply.Answered.{Answered}
use Rattle.store_msg.specs.declared.reply.Answered.TheVariants.{Again, Found}
use Rattle.session_proxy.specs.Lines.{most_asks}

-- the reply to a request that went to a worker: to an ask, from that worker, with its number, its key and what it required
abbrev pub IsReplyTo : ℕ × Sent → PlainReply → Type 0
IsReplyTo (worker, SentAsk ask key required) reply = (reply.ask ≡ ask) × (reply.worker ≡ worker) × (reply.key ≡ key) × (reply.required ≡ required)
IsReplyTo (worker, SentPut key put) reply = ⊥

-- it lacks something of what was required
abbrev pub Lacks : PlainReply → Type 0
Lacks reply = is_found reply.answered ≡ false

-- the answer of a line by the reply to its last ask: the cell, as a session of the level is shown it, or the end of so many asks
abbrev pub answer_shown : Level → ℕ → ℕ → Answered → Answer
answer_shown level asks worker (Found cell) = answers.Got worker (shown_to level cell)
answer_shown level asks worker (Again clock) = answers.Again asks worker clock

abbrev pub answer_by : Level → ℕ → PlainReply → Answer
answer_by level asks reply = answer_shown level asks reply.worker reply.answered

-- A get or an await is answered by the replies to its asks, which go to workers in this order, round and round: all but the last lacked
-- something, and the last shows the answer, or is the last that may be asked for.
pub record IsReplied (client : Client) (order : List ℕ) (first key : ℕ) (required : List (ℕ × ℕ)) (most : ℕ) (answer : Answer) (replies : List PlainReply) : Type 0 where
  pub lacking : List PlainReply
  pub last : PlainReply
  pub replies_are : replies ≡ lacking ++ last ∷ []
  pub asked : AllZip IsReplyTo (asks_sent order first key required (length replies)) replies
  pub lack : All Lacks lacking
  pub fits : IsAnswer required last.answered
  pub few : length replies ≤ most
  pub ends : IsTrue (is_found last.answered) ⊎ (length replies ≡ most)
  pub answer_is : answer ≡ answer_by client.level (length replies) last

-- A line is answered by the replies to its asks; `first` is the number of its first.
abbrev pub IsAnswered : List (List ℕ) → Client → State → ℕ → Line → Answer → List PlainReply → Type 0
IsAnswered table client state first (lines.Get key named) answer replies =
    IsReplied client (asked_by client.level table client.session key named) first key (required client state.knows (lines.Get key named)) (most_asks table client.level key) answer replies
IsAnswered table client state first (lines.Await key session count) answer replies =
    IsReplied client (ask_order table client.session key) first key (required client state.knows (lines.Await key session count)) (most_asks table client.level key) answer replies
IsAnswered table client state first line answer replies = IsLawful table client state [] line answer × (replies ≡ [])

-- the first lines of a session are answered, line by line
abbrev pub AreAnswered : List (List ℕ) → Client → State → ℕ → List Line → List Answer → List (List PlainReply) → Type 0
AreAnswered table client state first lines [] [] = ⊤
AreAnswered table client state first (line ∷ lines) (answer ∷ answers) (replies ∷ others) =
    IsAnswered table client state first line answer replies × AreAnswered table client (after client state line answer) (first + length replies) lines answers others
AreAnswered table client state first lines answers replies = ⊥

-- some of a list's items, in their order
pub data IsPartOf {X : Type 0} : List X → List X → Type 0 where
  none : IsPartOf [] []
  without : (x : X) {part whole : List X} → IsPartOf part whole → IsPartOf part (x ∷ whole)
  with_it : (x : X) {part whole : List X} → IsPartOf part whole → IsPartOf (x ∷ part) (x ∷ whole)
