-- What a line's answer makes of a session: its puts, its counts, and what the next line finds.
use Rattle.std.specs.Prelude.{◌≡◌, ◌≢◌, ℕ, zero, suc, ◌+◌, ◌-◌, ◌*◌, ◌%◌, ◌<◌, ◌≤◌, true, false, IsFalse, is_some, List, [], ◌∷◌, length, slice_index_or, Option, Some, None, All, Contains}
use Rattle.std.proofs.Common.{refl, sym, ap, subst, ◌∙◌, inl, inr, length-append, arith}
use Rattle.std.proofs.lemmas.Bool.{false≢true, ne_eqb}
use Rattle.std.proofs.lemmas.Bool.Decides.{eqb_tells}
use Rattle.std.proofs.lemmas.List.Elements.{All-head, All-tail, Contains-get_or}
use Rattle.std.proofs.lemmas.Map.Made.{Contains-tail}
use Rattle.std.proofs.lemmas.Nat.{mod-mul-add, mod_below}
use Rattle.lattice_laws.proofs.MembersLemmas.{contains_none}
use Rattle.clock_lattice.specs.Clock.{count_of, joined_clocks, one_count}
use Rattle.composed_value.specs.declared.payload.Payload.{Payload}
use Rattle.placement.specs.Asked.{ask_order, home_at, last_asked, others, replicas_of}
use Rattle.placement.specs.Config.{AreDifferent}
use Rattle.session_known.specs.Lawful.{IsLawful, lamport_of_commit, last_lamport}
use Rattle.session_known.specs.Requests.{asked_by}
use Rattle.session_known.specs.Script.{AreEnded}
use Rattle.session_known.specs.Session.{Client, InState, Knowledge, State, after, held_puts, knows_committed, knows_put, own_count, puts_by, puts_committed}
use Rattle.session_known.specs.declared.report.Answer.{Answer}
use Rattle.session_known.specs.declared.report.Answer.TheVariants as answers
use Rattle.session_known.specs.declared.script.Level.{Level}
use Rattle.session_known.specs.declared.script.Level.TheVariants.{Causal}
use Rattle.session_known.specs.declared.script.Line.{Line}
use Rattle.session_known.specs.declared.script.Line.TheVariants as lines
use Rattle.session_known.proofs.NumberedLemmas.{count_put, count_put_elsewhere}
use Rattle.store_msg.specs.declared.reply.Answered.{Answered}
use Rattle.store_msg.specs.declared.reply.Answered.TheVariants.{Again, Found}
use Rattle.session_proxy.specs.Lines.{AreReplicas, MayRun, answer_at, puts_due}
use Rattle.session_proxy.specs.Local.{answer_sent, key_asked, order_asked, worker_asked}
use Rattle.session_proxy.specs.Run.{answer_shown}
use Rattle.session_proxy.specs.Share.{IsAsked}
use Rattle.session_proxy.specs.declared.local.Puts.{Puts}

-- what a line that asks nothing may do: its answer, and the puts that it makes
data Outcome (state : State) : Line → Answer → List (ℕ × Payload) → Type 0 where
  is_held : (key : ℕ) (payload : Payload) (puts : List (ℕ × Payload)) → state.held ≡ Some puts → Outcome state (lines.Put key payload) answers.Held []
  is_worn_put : (key : ℕ) (payload : Payload) → state.held ≡ None → state.knows.lamport ≡ last_lamport → Outcome state (lines.Put key payload) answers.Worn []
  is_put : (key : ℕ) (payload : Payload) → state.held ≡ None → state.knows.lamport ≢ last_lamport
      → Outcome state (lines.Put key payload) (answers.Put (own_count state.knows key + 1) (state.knows.lamport + 1)) ((key, payload) ∷ [])
  is_begun : Outcome state lines.Begin answers.Begun []
  is_worn_commit : state.knows.lamport ≡ last_lamport → Outcome state lines.Commit answers.Worn []
  is_committed : state.knows.lamport ≢ last_lamport
      → Outcome state lines.Commit (answers.Committed (length (held_puts state)) (lamport_of_commit state.knows (length (held_puts state)))) (held_puts state)
  is_aborted : Outcome state lines.Abort (answers.Aborted (length (held_puts state))) []

-- a put does one of these
outcome_of_put : (state : State) (key : ℕ) (payload : Payload) (held : Option (List (ℕ × Payload))) → state.held ≡ held
    → Outcome state (lines.Put key payload) (answer_at state (lines.Put key payload)) (puts_due state (lines.Put key payload))
outcome_of_put state key payload (Some puts) is = let begun : is_some state.held ≡ true = ap is_some is in rw begun (is_held key payload puts is)
outcome_of_put state key payload None is =
    let free : is_some state.held ≡ false = ap is_some is in
    elim (eqb_tells state.knows.lamport last_lamport) [
      | inl worn ↦ rw (free, worn.0) (is_worn_put key payload is worn.1)
      | inr fresh ↦ rw (free, fresh.0) (is_put key payload is fresh.1)
    ]

-- and so does each line that asks nothing
outcome_at : (state : State) (line : Line) → (IsAsked line → ⊥) → Outcome state line (answer_at state line) (puts_due state line)
outcome_at state (lines.Put key payload) not_asked = outcome_of_put state key payload state.held refl
outcome_at state (lines.Get key named) not_asked = absurd (not_asked tt)
outcome_at state (lines.Await key session count) not_asked = absurd (not_asked tt)
outcome_at state lines.Begin not_asked = is_begun
outcome_at state lines.Commit not_asked = elim (eqb_tells state.knows.lamport last_lamport) [
  | inl worn ↦ rw worn.0 (is_worn_commit worn.1)
  | inr fresh ↦ rw fresh.0 (is_committed fresh.1)
]
outcome_at state lines.Abort not_asked = is_aborted

-- where no transaction is begun, nothing is held
none_held : (held : Option (List (ℕ × Payload))) → IsFalse (is_some held) → held ≡ None
none_held None free = refl
none_held (Some puts) free = absurd (false≢true (sym free))

-- each outcome is lawful
lawful_outcome : (table : List (List ℕ)) (client : Client) (lines : List Line) {state : State} {line : Line} {answer : Answer} {due : List (ℕ × Payload)} → Outcome state line answer due
    → AreEnded (is_some state.held) (line ∷ lines) → IsLawful table client state [] line answer
lawful_outcome table client rest (is_held key payload puts is) ended = ap is_some is
lawful_outcome table client rest (is_worn_put key payload is worn) ended = (is, worn)
lawful_outcome table client rest (is_put key payload is fresh) ended = record { not_begun = is; number_is = refl; not_worn = fresh; lamport_is = refl }
lawful_outcome table client rest {state = state} is_begun ended = none_held state.held ended.0
lawful_outcome table client rest (is_worn_commit worn) ended = (ended.0, worn)
lawful_outcome table client rest (is_committed fresh) ended = record { begun = ended.0; puts_are = refl; not_worn = fresh; lamport_is = refl }
lawful_outcome table client rest is_aborted ended = (ended.0, refl)

-- a line that asks nothing has a lawful answer
pub at_is_lawful : (table : List (List ℕ)) (client : Client) (state : State) (line : Line) (lines : List Line) → (IsAsked line → ⊥)
    → AreEnded (is_some state.held) (line ∷ lines) → IsLawful table client state [] line (answer_at state line)
at_is_lawful table client state line rest not_asked ended = lawful_outcome table client rest (outcome_at state line not_asked) ended

-- each outcome leaves transactions that stand one after another in the lines that are left
ended_outcome : (client : Client) (lines : List Line) {state : State} {line : Line} {answer : Answer} {due : List (ℕ × Payload)} → Outcome state line answer due
    → AreEnded (is_some state.held) (line ∷ lines) → AreEnded (is_some (after client state line answer).held) lines
ended_outcome client rest (is_held key payload puts is) ended = subst (λ begun. AreEnded begun rest) (ap is_some is) ended
ended_outcome client rest (is_worn_put key payload is worn) ended = ended
ended_outcome client rest (is_put key payload is fresh) ended = ended
ended_outcome client rest is_begun ended = ended.1
ended_outcome client rest (is_worn_commit worn) ended = ended.1
ended_outcome client rest (is_committed fresh) ended = ended.1
ended_outcome client rest is_aborted ended = ended.1

-- so does a line that asks nothing
pub ended_at : (client : Client) (state : State) (line : Line) (lines : List Line) → (IsAsked line → ⊥)
    → AreEnded (is_some state.held) (line ∷ lines) → AreEnded (is_some (after client state line (answer_at state line)).held) lines
ended_at client state line rest not_asked ended = ended_outcome client rest (outcome_at state line not_asked) ended

-- and one that asks
pub ended_shown : (client : Client) (state : State) (line : Line) (lines : List Line) (level : Level) (asks worker : ℕ) (answered : Answered) → IsAsked line
    → AreEnded (is_some state.held) (line ∷ lines) → AreEnded (is_some (after client state line (answer_shown level asks worker answered)).held) lines
ended_shown client state (lines.Get key named) rest level asks worker (Found cell) asked ended = ended
ended_shown client state (lines.Get key named) rest level asks worker (Again clock) asked ended = ended
ended_shown client state (lines.Await key session count) rest level asks worker (Found cell) asked ended = ended
ended_shown client state (lines.Await key session count) rest level asks worker (Again clock) asked ended = ended
ended_shown client state line rest level asks worker answered asked ended = absurd asked

-- a put raises the count of a key by one at most
pub count_next : (knows : Knowledge) (client : Client) (key its_key lamport : ℕ)
    → own_count (knows_put client knows its_key (own_count knows its_key + 1) lamport) key ≤ own_count knows key + 1
count_next knows client key its_key lamport = elim (eqb_tells its_key key) [
  | inl same ↦
      subst (λ k. count_of key (joined_clocks knows.own (one_count k (own_count knows k + 1))) ≤ own_count knows key + 1) (sym same.1)
      (omega (arith, count_put knows.own key (own_count knows key + 1) refl))
  | inr other ↦ omega (arith, count_put_elsewhere knows.own its_key key (own_count knows its_key + 1) other.1)
]

-- the puts of a commit raise it by as many as they are at most
count_committed : (client : Client) (knows : Knowledge) (lamport : ℕ) (puts : List (ℕ × Payload)) (key : ℕ)
    → own_count (knows_committed client knows lamport puts) key ≤ own_count knows key + length puts
count_committed client knows lamport [] key = omega arith
count_committed client knows lamport (put ∷ puts) key =
    let reached : Knowledge = knows_put client knows put.0 (own_count knows put.0 + 1) lamport in
    omega (arith, count_next knows client key put.0 lamport, count_committed client reached lamport puts key)

-- how many puts on a key a session has made, and how many puts it holds
abbrev made_and_held : State → ℕ → ℕ
made_and_held state key = own_count state.knows key + length (held_puts state)

-- each outcome makes or holds one put more at most, beside those that were held
counts_outcome : (client : Client) (key : ℕ) {state : State} {line : Line} {answer : Answer} {due : List (ℕ × Payload)} → Outcome state line answer due
    → made_and_held (after client state line answer) key ≤ made_and_held state key + 1
counts_outcome client key {state = state} (is_held its_key payload puts is) = omega (arith, length-append (held_puts state) ((its_key, payload) ∷ []))
counts_outcome client key (is_worn_put its_key payload is worn) = omega arith
counts_outcome client key {state = state} (is_put its_key payload is fresh) = omega (arith, count_next state.knows client key its_key (state.knows.lamport + 1))
counts_outcome client key is_begun = omega arith
counts_outcome client key (is_worn_commit worn) = omega arith
counts_outcome client key {state = state} (is_committed fresh) =
    omega (arith, count_committed client state.knows (lamport_of_commit state.knows (length (held_puts state))) (held_puts state) key)
counts_outcome client key is_aborted = omega arith

-- so does a line that asks nothing
pub counts_at : (client : Client) (state : State) (line : Line) (key : ℕ) → (IsAsked line → ⊥)
    → own_count (after client state line (answer_at state line)).knows key + length (held_puts (after client state line (answer_at state line)))
    ≤ own_count state.knows key + length (held_puts state) + 1
counts_at client state line key not_asked = counts_outcome client key (outcome_at state line not_asked)

-- one that asks makes and holds no more
pub counts_shown : (client : Client) (state : State) (line : Line) (key : ℕ) (level : Level) (asks worker : ℕ) (answered : Answered) → IsAsked line
    → own_count (after client state line (answer_shown level asks worker answered)).knows key + length (held_puts (after client state line (answer_shown level asks worker answered)))
    ≤ own_count state.knows key + length (held_puts state)
counts_shown client state (lines.Get its_key named) key level asks worker (Found cell) asked = omega arith
counts_shown client state (lines.Get its_key named) key level asks worker (Again clock) asked = omega arith
counts_shown client state (lines.Await its_key session count) key level asks worker (Found cell) asked = omega arith
counts_shown client state (lines.Await its_key session count) key level asks worker (Again clock) asked = omega arith
counts_shown client state line key level asks worker answered asked = absurd asked

-- the puts of a commit have the session's next Lamport number
puts_at_commit : (client : Client) (knows : Knowledge) (puts : List (ℕ × Payload))
    → puts_committed client knows (lamport_of_commit knows (length puts)) 0 puts ≡ puts_committed client knows (knows.lamport + 1) 0 puts
puts_at_commit client knows [] = refl
puts_at_commit client knows (put ∷ puts) = refl

-- the puts that an outcome's answer accepts are those that are due
puts_by_outcome : (client : Client) {state : State} {line : Line} {answer : Answer} {due : List (ℕ × Payload)} → Outcome state line answer due
    → puts_by client state line answer ≡ puts_committed client state.knows (state.knows.lamport + 1) 0 due
puts_by_outcome client {state = state} (is_committed fresh) = puts_at_commit client state.knows (held_puts state)
puts_by_outcome client outcome = refl

-- so are those that a line's answer accepts
pub puts_by_due : (client : Client) (state : State) (line : Line) → (IsAsked line → ⊥)
    → puts_by client state line (answer_at state line) ≡ puts_committed client state.knows (state.knows.lamport + 1) 0 (puts_due state line)
puts_by_due client state line not_asked = puts_by_outcome client (outcome_at state line not_asked)

-- the Lamport number of a commit of some puts is the session's next
lamport_of_some : (knows : Knowledge) (puts : ℕ) → 0 < puts → lamport_of_commit knows puts ≡ knows.lamport + 1
lamport_of_some knows zero some = absurd (omega (arith, some))
lamport_of_some knows (suc puts) some = refl

-- an outcome that makes puts leaves what is known once they are made, and nothing held
after_outcome : (client : Client) {state : State} {line : Line} {answer : Answer} {due : List (ℕ × Payload)} → Outcome state line answer due → 0 < length due
    → after client state line answer ≡ record { knows = knows_committed client state.knows (state.knows.lamport + 1) due; held = None }
after_outcome client {state = state} (is_put key payload is fresh) some =
    ap (λ held. record { knows = knows_put client state.knows key (own_count state.knows key + 1) (state.knows.lamport + 1); held = held }) is
after_outcome client {state = state} (is_committed fresh) some =
    ap (λ lamport. record { knows = knows_committed client state.knows lamport (held_puts state); held = None }) (lamport_of_some state.knows (length (held_puts state)) some)
after_outcome client outcome some = absurd (omega (arith, some))

-- so does a line that makes puts
pub after_due : (client : Client) (state : State) (line : Line) → (IsAsked line → ⊥) → 0 < length (puts_due state line)
    → after client state line (answer_at state line) ≡ record { knows = knows_committed client state.knows (state.knows.lamport + 1) (puts_due state line); held = None }
after_due client state line not_asked some = after_outcome client (outcome_at state line not_asked) some

-- once the puts that are due are made, what is sent as the answer is the outcome's
sent_outcome : (client : Client) (session : InState) (puts : Puts) {state : State} {line : Line} {answer : Answer} {due : List (ℕ × Payload)} → Outcome state line answer due
    → puts.puts ≡ due → 0 < length puts.puts → puts.lamport ≡ state.knows.lamport + 1 → session.state.knows ≡ knows_committed client state.knows puts.lamport puts.puts
    → answer_sent line session puts ≡ answer
sent_outcome client session puts {state = state} (is_put key payload is fresh) are some lamport knows =
    let made : session.state.knows ≡ knows_put client state.knows key (own_count state.knows key + 1) puts.lamport = knows ∙ ap (knows_committed client state.knows puts.lamport) are in
    let count : own_count session.state.knows key ≡ own_count state.knows key + 1 = ap (λ now. own_count now key) made ∙ count_put state.knows.own key (own_count state.knows key + 1) refl in
    λ i. answers.Put (count i) (lamport i)
sent_outcome client session puts {state = state} (is_committed fresh) are some lamport knows =
    let any : 0 < length (held_puts state) = subst (λ made. 0 < length made) are some in
    let of_commit = lamport ∙ sym (lamport_of_some state.knows (length (held_puts state)) any) in
    λ i. answers.Committed (length (are i)) (of_commit i)
sent_outcome client session puts outcome are some lamport knows = absurd (omega (arith, some, ap length are))

-- so it is that of a line that makes puts
pub answer_sent_is : (client : Client) (state : State) (line : Line) (session : InState) (puts : Puts) → (IsAsked line → ⊥) → puts.puts ≡ puts_due state line → 0 < length puts.puts
    → puts.lamport ≡ state.knows.lamport + 1 → session.state.knows ≡ knows_committed client state.knows puts.lamport puts.puts → answer_sent line session puts ≡ answer_at state line
answer_sent_is client state line session puts not_asked are some lamport knows = sent_outcome client session puts (outcome_at state line not_asked) are some lamport knows

-- all replicas are others, where none is the home
others_all : (home : ℕ) (replicas : List ℕ) → All (λ replica. home ≢ replica) replicas → length (others home replicas) ≡ length replicas
others_all home [] apart = refl
others_all home (replica ∷ replicas) apart =
    let later = others_all home replicas (All-tail (λ other. home ≢ other) replica replicas apart) in
    rw (ne_eqb replica home (λ same. All-head (λ other. home ≢ other) replica replicas apart (sym same))) (ap (λ n. suc n) later)

-- and all but one, where the home is one of different replicas
others_but_home : (home : ℕ) (replicas : List ℕ) → Contains replicas home → AreDifferent replicas → length (others home replicas) + 1 ≡ length replicas
others_but_home home [] has different = absurd (contains_none home has)
others_but_home home (replica ∷ replicas) has different = elim (eqb_tells replica home) [
  | inl same ↦ rw same.0 (omega (arith, others_all home replicas (λ k d within is. different 0 (suc k) d (omega arith) (omega (arith, within)) (same.1 ∙ is))))
  | inr apart ↦
      let later : AreDifferent replicas = λ i j d before within. different (suc i) (suc j) d (omega (arith, before)) (omega (arith, within)) in
      rw apart.0 (omega (arith, others_but_home home replicas (Contains-tail replica replicas home apart.1 has) later))
]

-- the order of asking has as many workers as there are replicas
order_length : (workers : ℕ) (table : List (List ℕ)) (session key : ℕ) → AreReplicas workers (replicas_of table key)
    → length (ask_order table session key) ≡ length (replicas_of table key)
order_length workers table session key are =
    let replicas : List ℕ = replicas_of table key in
    let home : ℕ = home_at table session key in
    let has : Contains replicas home = Contains-get_or replicas ((session - 1) % length replicas) 0 (mod_below (session - 1) (length replicas) are.some) in
    omega (arith, others_but_home home replicas has are.different)

-- a causal session asks all replicas in their order
order_is : (table : List (List ℕ)) (client : Client) (line : Line) → client.level ≡ Causal → IsAsked line → order_asked table client line ≡ ask_order table client.session (key_asked line)
order_is table client (lines.Get key named) causal asked = ap (λ level. asked_by level table client.session key named) causal
order_is table client (lines.Await key session count) causal asked = refl
order_is table client line causal asked = absurd asked

-- the last of 8 rounds of asks is at the last place
last_of_rounds : (n : ℕ) → 1 ≤ n → (8 * n - 1) % n ≡ n - 1
last_of_rounds n some = let places : 8 * n - 1 ≡ 7 * n + (n - 1) = omega (arith, some) in ap (λ k. k % n) places ∙ mod-mul-add 7 n (n - 1) (omega (arith, some))

-- the last ask that a causal session may make for a line goes to the last worker in the order of asking
pub last_is : (workers : ℕ) (table : List (List ℕ)) (client : Client) (line : Line) → AreReplicas workers (replicas_of table (key_asked line)) → client.level ≡ Causal → IsAsked line
    → MayRun table client.level line → 1 ≤ client.session
    → worker_asked table client line (8 * length (replicas_of table (key_asked line)) - 1) ≡ last_asked table client.session (key_asked line)
last_is workers table client line are causal asked may session =
    let n : ℕ = length (replicas_of table (key_asked line)) in
    let order : List ℕ = ask_order table client.session (key_asked line) in
    let long : length order ≡ n = order_length workers table client.session (key_asked line) are in
    let place : (8 * n - 1) % length order ≡ length order - 1 = ap (λ m. (8 * n - 1) % m) long ∙ last_of_rounds n are.some ∙ ap (λ m. m - 1) (sym long) in
    ap (λ asks. slice_index_or asks ((8 * n - 1) % length asks) 0) (order_is table client line causal asked) ∙ ap (λ k. slice_index_or order k 0) place
