-- The asks of a line: how many there are, which stands at which place, and that each goes to a worker.
use Rattle.std.specs.Prelude.{◌≡◌, ℕ, ◌+◌, ◌-◌, ◌%◌, ◌<◌, ◌≤◌, IsTrue, List, [], ◌∷◌, All, length, slice_get, slice_index_or, take, Option, Some, None}
use Rattle.std.proofs.Common.{refl, ap, ◌∙◌, arith}
use Rattle.std.proofs.Math.Nat.{mod-lt}
use Rattle.std.proofs.lemmas.List.Elements.{All-cons, All-contains, All-filter, All-get_or, All-nil}
use Rattle.std.proofs.lemmas.List.FromFn.{get_or-map-range_with_len, length-map-range_with_len, take-map-range_with_len}
use Rattle.std.proofs.lemmas.Option.{slice_get-get_or, slice_get_read}
use Rattle.placement.specs.Asked.{ask_order, home_at, others, replicas_of}
use Rattle.placement.specs.Config.{IsOneOf}
use Rattle.session_known.specs.Lawful.{required}
use Rattle.session_known.specs.Requests.{Sent, SentAsk, asked_by, asks_sent}
use Rattle.session_known.specs.Script.{MayName}
use Rattle.session_known.specs.Session.{Client, State}
use Rattle.session_known.specs.declared.script.Level.{Level}
use Rattle.session_known.specs.declared.script.Level.TheVariants.{Causal}
use Rattle.session_known.specs.declared.script.Line.{Line}
use Rattle.session_known.specs.declared.script.Line.TheVariants as lines
use Rattle.session_proxy.specs.Lines.{AreReplicas, MayRun, most_asks, most_sent}
use Rattle.session_proxy.specs.Local.{key_asked, order_asked, worker_asked}
use Rattle.session_proxy.specs.Share.{IsAsked, awaited, open_most}
use Rattle.session_proxy.specs.State.{Course, open_line, state_now}

-- the line that is read where as many are answered is the open one
pub read_is_open : (course : Course) (read : List Line) (place : ℕ) (line : Line) → read ≡ course.lines → place ≡ length course.answers
    → length course.answers < length course.lines → line ≡ slice_index_or read place line → open_line course ≡ Some line
read_is_open course read place line is at left there =
    slice_get_read course.lines (length course.lines) (length course.answers) line refl left (cc)

-- so many asks are a list of that length
pub asks_length : (order : List ℕ) (first key : ℕ) (required : List (ℕ × ℕ)) (most : ℕ) → length (asks_sent order first key required most) ≡ most
asks_length order first key required most = length-map-range_with_len _ 0 most

-- the first of them are what fewer asks are
pub asks_front : (order : List ℕ) (first key : ℕ) (required : List (ℕ × ℕ)) (n most : ℕ) → n ≤ most
    → take n (asks_sent order first key required most) ≡ asks_sent order first key required n
asks_front order first key required n most few = take-map-range_with_len _ 0 most n few

-- at each place stands the ask with the next number, to the worker whose turn it is
pub ask_there : (order : List ℕ) (first key : ℕ) (required : List (ℕ × ℕ)) (i most : ℕ) → i < most
    → slice_get (asks_sent order first key required most) i ≡ Some (slice_index_or order (i % length order) 0, SentAsk (first + i) key required)
ask_there order first key required i most low =
    let none : ℕ × Sent = (0, SentAsk 0 0 []) in
    slice_get-get_or (asks_sent order first key required most) i none (rw asks_length low) ∙ ap Some (get_or-map-range_with_len _ 0 most i i none low (omega arith))

-- a get or an await sends its asks
pub most_of_asked : (table : List (List ℕ)) (client : Client) (state : State) (first : ℕ) (line : Line) → IsAsked line
    → most_sent table client state first line
    ≡ asks_sent (order_asked table client line) first (key_asked line) (required client state.knows line) (most_asks table client.level (key_asked line))
most_of_asked table client state first (lines.Get key named) asked = refl
most_of_asked table client state first (lines.Await key session count) asked = refl
most_of_asked table client state first line asked = absurd asked

-- so does the line that is open
pub open_asks : (course : Course) (line : Line) → open_line course ≡ Some line → IsAsked line
    → open_most course
    ≡ asks_sent (order_asked course.table course.client line) (course.asks + 1) (key_asked line) (required course.client (state_now course).knows line)
    (most_asks course.table course.client.level (key_asked line))
open_asks course line is asked = rw is (most_of_asked course.table course.client (state_now course) (course.asks + 1) line asked)

-- there are as many as it may send
pub most_is : (course : Course) (line : Line) → open_line course ≡ Some line → IsAsked line
    → length (open_most course) ≡ most_asks course.table course.client.level (key_asked line)
most_is course line is asked = ap length (open_asks course line is asked) ∙ asks_length _ _ _ _ _

-- the next ask that it sends
pub next_is : (course : Course) (line : Line) → open_line course ≡ Some line → IsAsked line
    → course.out < most_asks course.table course.client.level (key_asked line)
    → slice_get (open_most course) course.out ≡ Some (
      worker_asked course.table course.client line course.out,
      SentAsk (course.asks + 1 + course.out) (key_asked line) (required course.client (state_now course).knows line),
    )
next_is course line is asked left = ap (λ most. slice_get most course.out) (open_asks course line is asked) ∙ ask_there _ _ _ _ course.out _ left

-- and the one whose reply is awaited
pub awaited_is : (course : Course) (line : Line) → open_line course ≡ Some line → IsAsked line → IsTrue course.waits
    → 1 ≤ course.out → course.out ≤ most_asks course.table course.client.level (key_asked line)
    → awaited course ≡ Some (
      worker_asked course.table course.client line (course.out - 1),
      SentAsk (course.asks + course.out) (key_asked line) (required course.client (state_now course).knows line),
    )
awaited_is course line is asked waits some few =
    let number : course.asks + 1 + (course.out - 1) ≡ course.asks + course.out = omega arith in
    rw (waits, ← number) (ap (λ most. slice_get most (course.out - 1)) (open_asks course line is asked) ∙ ask_there _ _ _ _ (course.out - 1) _ (omega arith))

-- the replicas of a key of the table are workers
pub replicas_there : (workers : ℕ) (table : List (List ℕ)) (key : ℕ) → All (AreReplicas workers) table → IsOneOf (length table) key
    → AreReplicas workers (replicas_of table key)
replicas_there workers table key placed known = All-get_or (AreReplicas workers) table (key - 1) [] (omega (arith, known.0, known.1)) placed

-- so is a session's home of the key
pub home_is_worker : (workers : ℕ) (table : List (List ℕ)) (session key : ℕ) → All (AreReplicas workers) table → IsOneOf (length table) key → 1 ≤ session
    → IsOneOf workers (home_at table session key)
home_is_worker workers table session key placed known me =
    let replicas = replicas_there workers table key placed known in
    All-get_or (IsOneOf workers) (replicas_of table key) _ 0 (mod-lt (session - 1) replicas.some) replicas.are_workers

-- and so is the one whose turn it is among workers
in_turn : (workers first : ℕ) (rest : List ℕ) (place : ℕ) → IsOneOf workers first → All (IsOneOf workers) rest
    → IsOneOf workers (slice_index_or (first ∷ rest) (place % length (first ∷ rest)) 0)
in_turn workers first rest place is are =
    All-get_or (IsOneOf workers) (first ∷ rest) _ 0 (mod-lt place (omega arith)) (All-cons (IsOneOf workers) first rest is are)

-- among all replicas of the key
in_order : (workers : ℕ) (table : List (List ℕ)) (session key place : ℕ) → All (AreReplicas workers) table → IsOneOf (length table) key → 1 ≤ session
    → IsOneOf workers (let order = ask_order table session key in slice_index_or order (place % length order) 0)
in_order workers table session key place placed known me =
    in_turn workers (home_at table session key) (others (home_at table session key) (replicas_of table key)) place
    (home_is_worker workers table session key placed known me)
    (All-filter _ (IsOneOf workers) (replicas_of table key) (replicas_there workers table key placed known).are_workers)

-- and among those that a get asks
get_asks_worker : (workers : ℕ) (table : List (List ℕ)) (level : Level) (session key : ℕ) (named : Option ℕ) (place : ℕ)
    → All (AreReplicas workers) table → IsOneOf (length table) key → MayName level (replicas_of table key) named → 1 ≤ session
    → IsOneOf workers (let order = asked_by level table session key named in slice_index_or order (place % length order) 0)
get_asks_worker workers table Causal session key named place placed known may me = in_order workers table session key place placed known me
get_asks_worker workers table level session key None place placed known may me =
    in_turn workers (home_at table session key) [] place (home_is_worker workers table session key placed known me) (All-nil (IsOneOf workers))
get_asks_worker workers table level session key (Some worker) place placed known may me =
    in_turn workers worker [] place
    (All-contains (IsOneOf workers) (replicas_of table key) worker (replicas_there workers table key placed known).are_workers may)
    (All-nil (IsOneOf workers))

-- every ask of a line goes to a worker
pub asked_is_worker : (workers : ℕ) (table : List (List ℕ)) (client : Client) (line : Line) (place : ℕ) → All (AreReplicas workers) table
    → MayRun table client.level line → IsAsked line → 1 ≤ client.session → IsOneOf workers (worker_asked table client line place)
asked_is_worker workers table client (lines.Get key named) place placed may asked me =
    get_asks_worker workers table client.level client.session key named place placed may.0 may.1 me
asked_is_worker workers table client (lines.Await key session count) place placed may asked me =
    in_order workers table client.session key place placed may.0 me
asked_is_worker workers table client line place placed may asked me = absurd asked
