-- A session line by line: what it was answered, sent, made and heard before a line, at it and after it.
use Rattle.std.specs.Prelude.{◌≡◌, ℕ, ◌+◌, List, [], ◌∷◌, ◌++◌, All, length, map, slice_get, sum_by, Some, ⊤}
use Rattle.std.specs.List.{AllZip}
use Rattle.std.proofs.Common.{◌∙◌, refl, sym, ap, subst, append-nil, length-append, arith}
use Rattle.std.proofs.lemmas.List.{append_assoc}
use Rattle.std.proofs.lemmas.Option.{none-some, same_Some}
use Rattle.std.proofs.lemmas.List.Concat.{flat_map-append}
use Rattle.std.proofs.lemmas.List.Sums.{sum_by-append}
use Rattle.composed_value.specs.declared.put.Put.{Put}
use Rattle.session_known.specs.Lawful.{AreLawful, IsLawful}
use Rattle.session_known.specs.Requests.{Sent, requests_of, sent_by, sent_from}
use Rattle.session_known.specs.Session.{Client, Knowledge, State, after, puts_by, puts_from, start, state_after}
use Rattle.session_known.specs.declared.report.Answer.{Answer}
use Rattle.session_known.specs.declared.script.Line.{Line}
use Rattle.session_proxy.specs.Run.{AreAnswered, IsAnswered}
use Rattle.session_proxy.proofs.RunLemmas.{answered-push, asks_by_replies, none_answered, sent-push, state_after-none, state_after-push}
use Rattle.store_msg.specs.Reply.{PlainReply}
use Rattle.run_ledger.proofs.ByWorkerLemmas.{in_all}
use Rattle.legal_runs.proofs.AnsweredLemmas.{IsAbove, lines_above}

-- lines, each with its answer
abbrev pub pairs : List Line → List Answer → List (Line × Answer)
pairs (line ∷ lines) (answer ∷ answers) = (line, answer) ∷ pairs lines answers
pairs lines answers = []

-- What holds of each line with its answer, by the answers before it and the state there.
abbrev pub AllLines : Client → (List (Line × Answer) → State → Line → Answer → Type 0) → State → List (Line × Answer) → List Line → List Answer → Type 0
AllLines client Holds state earlier [] [] = ⊤
AllLines client Holds state earlier (line ∷ lines) (answer ∷ answers) =
    Holds earlier state line answer × AllLines client Holds (after client state line answer) (earlier ++ (line, answer) ∷ []) lines answers
AllLines client Holds state earlier lines answers = ⊥

-- where each line's answer is lawful, the session is
pub lawful_lines : (table : List (List ℕ)) (client : Client) (Holds : List (Line × Answer) → State → Line → Answer → Type 0)
    → ((earlier : List (Line × Answer)) (state : State) (line : Line) (answer : Answer) → Holds earlier state line answer → IsLawful table client state earlier line answer)
    → (state : State) (earlier : List (Line × Answer)) (lines : List Line) (given : List Answer) → AllLines client Holds state earlier lines given → AreLawful table client state earlier lines given
lawful_lines table client Holds each state earlier [] [] all = tt
lawful_lines table client Holds each state earlier (line ∷ lines) (answer ∷ given) all =
    (each earlier state line answer all.0, lawful_lines table client Holds each (after client state line answer) (earlier ++ (line, answer) ∷ []) lines given all.1)
lawful_lines table client Holds each state earlier [] (answer ∷ given) all = absurd all
lawful_lines table client Holds each state earlier (line ∷ lines) [] all = absurd all

-- and what holds of each line with its answer holds line by line
pub zipped_lines : (client : Client) (Holds : List (Line × Answer) → State → Line → Answer → Type 0) (IsSo : Line → Answer → Type 0)
    → ((earlier : List (Line × Answer)) (state : State) (line : Line) (answer : Answer) → Holds earlier state line answer → IsSo line answer)
    → (state : State) (earlier : List (Line × Answer)) (lines : List Line) (given : List Answer) → AllLines client Holds state earlier lines given → AllZip IsSo lines given
zipped_lines client Holds IsSo each state earlier [] [] all = tt
zipped_lines client Holds IsSo each state earlier (line ∷ lines) (answer ∷ given) all =
    (each earlier state line answer all.0, zipped_lines client Holds IsSo each (after client state line answer) (earlier ++ (line, answer) ∷ []) lines given all.1)
zipped_lines client Holds IsSo each state earlier [] (answer ∷ given) all = absurd all
zipped_lines client Holds IsSo each state earlier (line ∷ lines) [] all = absurd all

-- the item after a front
after_front : {X : Type 0} (front : List X) (x : X) (back : List X) → slice_get (front ++ x ∷ back) (length front) ≡ Some x
after_front [] x back = refl
after_front (first ∷ front) x back = after_front front x back

-- no answers make no pairs
pairs-none : (lines : List Line) → pairs lines [] ≡ []
pairs-none [] = refl
pairs-none (line ∷ lines) = refl

-- one more line with its answer
pairs-push : (done : List Line) (line : Line) (lines : List Line) (given : List Answer) (answer : Answer) → length done ≡ length given
    → pairs (done ++ line ∷ lines) (given ++ answer ∷ []) ≡ pairs (done ++ line ∷ lines) given ++ (line, answer) ∷ []
pairs-push [] line lines [] answer as_many = ap (λ rest. (line, answer) ∷ rest) (pairs-none lines)
pairs-push (first ∷ done) line lines (its ∷ given) answer as_many = ap (λ rest. (first, its) ∷ rest) (pairs-push done line lines given answer (omega (arith, as_many)))
pairs-push [] line lines (its ∷ given) answer as_many = absurd (omega (arith, as_many))
pairs-push (first ∷ done) line lines [] answer as_many = absurd (omega (arith, as_many))

-- no answers accept no puts
made-none : (client : Client) (state : State) (lines : List Line) → puts_from client state lines [] ≡ []
made-none client state [] = refl
made-none client state (line ∷ lines) = refl

-- one more answer accepts its puts
made-push : (client : Client) (state : State) (lines : List Line) (given : List Answer) (line : Line) (answer : Answer) → slice_get lines (length given) ≡ Some line
    → puts_from client state lines (given ++ answer ∷ []) ≡ puts_from client state lines given ++ puts_by client (state_after client state lines given) line answer
made-push client state [] [] line answer at = absurd (none-some line at)
made-push client state [] (first ∷ given) line answer at = absurd (none-some line at)
made-push client state (its ∷ lines) [] line answer at =
    ap (λ rest. puts_by client state its answer ++ rest) (made-none client (after client state its answer) lines) ∙ append-nil (puts_by client state its answer)
    ∙ ap (λ line. puts_by client state line answer) (same_Some _ _ at)
made-push client state (its ∷ lines) (first ∷ given) line answer at =
    let reached : State = after client state its first in
    ap (λ rest. puts_by client state its first ++ rest) (made-push client reached lines given line answer at)
    ∙ sym (append_assoc (puts_by client state its first) (puts_from client reached lines given) (puts_by client (state_after client reached lines given) line answer))

module _ (table : List (List ℕ)) (client : Client) (origin : Knowledge) (all_lines : List Line) (all_answers : List Answer) (all_replies : List (List PlainReply)) where
  -- what is sent for the lines with these answers
  abbrev pub sent_for : List Answer → List (List PlainReply) → List (ℕ × Sent)
  sent_for given replied = sent_from table client (start origin) 1 (map length replied) all_lines given

  -- the puts that these answers accept
  abbrev pub made_for : List Answer → List (ℕ × Put)
  made_for given = puts_from client (start origin) all_lines given

  -- the state after them, and the number of the next ask
  abbrev pub state_for : List Answer → State
  state_for given = state_after client (start origin) all_lines given

  abbrev pub first_for : List (List PlainReply) → ℕ
  first_for replied = 1 + sum_by length replied

  -- So far these lines are done, with these answers and replies, and those are left.
  record IsSoFar (done : List Line) (given : List Answer) (replied : List (List PlainReply)) (lines : List Line) (answers : List Answer) (replies : List (List PlainReply)) (state : State) (first : ℕ) : Type 0 where
    lines_are : all_lines ≡ done ++ lines
    as_many : length done ≡ length given
    before : AreAnswered table client (start origin) 1 all_lines given replied
    state_is : state_for given ≡ state
    first_is : first_for replied ≡ first
    left : AreAnswered table client state first lines answers replies
    sent_is : requests_of table client origin (map length all_replies) all_lines all_answers ≡ sent_for given replied ++ sent_from table client state first (map length replies) lines answers
    heard_is : in_all all_replies ≡ in_all replied ++ in_all replies
    made_is : made_for all_answers ≡ made_for given ++ puts_from client state lines answers

  -- A line with its answer: what the session was answered, sent, heard and made before it, and sends, hears and makes after it.
  pub record Moment (earlier : List (Line × Answer)) (state : State) (line : Line) (answer : Answer) : Type 0 where
    pub given : List Answer
    pub replied : List (List PlainReply)
    pub first : ℕ
    pub its : List PlainReply
    pub at : slice_get all_lines (length given) ≡ Some line
    pub before : AreAnswered table client (start origin) 1 all_lines given replied
    pub earlier_is : pairs all_lines given ≡ earlier
    pub state_is : state_for given ≡ state
    pub first_is : first_for replied ≡ first
    pub is : IsAnswered table client state first line answer its
    pub later_sent : List (ℕ × Sent)
    pub sent_is : requests_of table client origin (map length all_replies) all_lines all_answers
        ≡ sent_for given replied ++ sent_by table client state first (length its) line answer ++ later_sent
    pub later_heard : List PlainReply
    pub heard_is : in_all all_replies ≡ in_all replied ++ its ++ later_heard
    pub later_made : List (ℕ × Put)
    pub made_is : made_for all_answers ≡ made_for given ++ puts_by client state line answer ++ later_made
    pub later_above : All (IsAbove (after client state line answer).knows.lamport) later_made

  module _ (done : List Line) (given : List Answer) (replied : List (List PlainReply)) (line : Line) (lines : List Line) (answer : Answer) (answers : List Answer)
      (its : List PlainReply) (replies : List (List PlainReply)) (state : State) (first : ℕ) (so_far : IsSoFar done given replied (line ∷ lines) (answer ∷ answers) (its ∷ replies) state first) where
    abbrev reached : State
    reached = after client state line answer

    abbrev next : ℕ
    next = first + length its

    is : IsAnswered table client (state_for given) (first_for replied) line answer its
    is = subst (λ state. IsAnswered table client state (first_for replied) line answer its) (sym so_far.state_is)
        (subst (λ first. IsAnswered table client state first line answer its) (sym so_far.first_is) so_far.left.0)

    at : slice_get all_lines (length given) ≡ Some line
    at = ap (slice_get all_lines) (sym so_far.as_many) ∙ ap (λ all. slice_get all (length done)) so_far.lines_are ∙ after_front done line lines

    -- what it sends, and what the lines after it send
    abbrev now_sent : List (ℕ × Sent)
    now_sent = sent_by table client state first (length its) line answer

    abbrev then_sent : List (ℕ × Sent)
    then_sent = sent_from table client reached next (map length replies) lines answers

    sends : requests_of table client origin (map length all_replies) all_lines all_answers ≡ sent_for given replied ++ now_sent ++ then_sent
    sends = so_far.sent_is
        ∙ ap (λ n. sent_for given replied ++ (now_sent ++ sent_from table client reached (first + n) (map length replies) lines answers)) (asks_by_replies table client state first line answer its so_far.left.0)
        ∙ sym (append_assoc (sent_for given replied) now_sent then_sent)

    hears : in_all all_replies ≡ in_all replied ++ its ++ in_all replies
    hears = so_far.heard_is ∙ sym (append_assoc (in_all replied) its (in_all replies))

    makes : made_for all_answers ≡ made_for given ++ puts_by client state line answer ++ puts_from client reached lines answers
    makes = so_far.made_is ∙ sym (append_assoc (made_for given) (puts_by client state line answer) (puts_from client reached lines answers))

    moment : Moment (pairs all_lines given) state line answer
    moment = record {
      given = given;
      replied = replied;
      first = first;
      its = its;
      at = at;
      before = so_far.before;
      earlier_is = refl;
      state_is = so_far.state_is;
      first_is = so_far.first_is;
      is = so_far.left.0;
      later_sent = then_sent;
      sent_is = sends;
      later_heard = in_all replies;
      heard_is = hears;
      later_made = puts_from client reached lines answers;
      made_is = makes;
      later_above = lines_above client table reached next lines answers replies so_far.left.1;
    }

    sent_then : sent_for (given ++ answer ∷ []) (replied ++ its ∷ []) ≡ sent_for given replied ++ now_sent
    sent_then = sent-push table client (start origin) 1 all_lines given replied line answer its at so_far.before
        ∙ ap (λ state. sent_for given replied ++ sent_by table client state (first_for replied) (length its) line answer) so_far.state_is
        ∙ ap (λ first. sent_for given replied ++ sent_by table client state first (length its) line answer) so_far.first_is

    made_then : made_for (given ++ answer ∷ []) ≡ made_for given ++ puts_by client state line answer
    made_then = made-push client (start origin) all_lines given line answer at ∙ ap (λ state. made_for given ++ puts_by client state line answer) so_far.state_is

    goes_on : IsSoFar (done ++ line ∷ []) (given ++ answer ∷ []) (replied ++ its ∷ []) lines answers replies reached next
    goes_on = record {
      lines_are = so_far.lines_are ∙ sym (append_assoc done (line ∷ []) lines);
      as_many = let was = so_far.as_many in omega (arith, was, length-append done (line ∷ []), length-append given (answer ∷ []));
      before = answered-push table client (start origin) 1 all_lines given replied line answer its at so_far.before is;
      state_is = state_after-push client (start origin) all_lines given line answer at ∙ ap (λ state. after client state line answer) so_far.state_is;
      first_is = let was = so_far.first_is in omega (arith, was, sum_by-append length replied (its ∷ []));
      left = so_far.left.1;
      sent_is = sends ∙ ap (λ sent. sent ++ then_sent) (sym sent_then);
      heard_is = hears ∙ ap (λ heard. heard ++ in_all replies) (ap (λ those. in_all replied ++ those) (sym (append-nil its)) ∙ sym (flat_map-append (λ answering. answering) replied (its ∷ [])));
      made_is = makes ∙ ap (λ made. made ++ puts_from client reached lines answers) (sym made_then);
    }

  -- What holds at each moment holds of each line.
  each_line : (Holds : List (Line × Answer) → State → Line → Answer → Type 0)
      → ((earlier : List (Line × Answer)) (state : State) (line : Line) (answer : Answer) → Moment earlier state line answer → Holds earlier state line answer)
      → (done : List Line) (given : List Answer) (replied : List (List PlainReply)) (lines : List Line) (answers : List Answer) (replies : List (List PlainReply)) (state : State) (first : ℕ)
      → IsSoFar done given replied lines answers replies state first → length answers ≡ length lines → AllLines client Holds state (pairs all_lines given) lines answers
  each_line Holds of done given replied (line ∷ lines) (answer ∷ answers) (its ∷ replies) state first so_far whole = (
    of (pairs all_lines given) state line answer (moment done given replied line lines answer answers its replies state first so_far),
    subst (λ earlier. AllLines client Holds (after client state line answer) earlier lines answers)
        (ap (λ all. pairs all (given ++ answer ∷ [])) so_far.lines_are ∙ pairs-push done line lines given answer so_far.as_many
        ∙ ap (λ all. pairs all given ++ (line, answer) ∷ []) (sym so_far.lines_are))
        (each_line Holds of (done ++ line ∷ []) (given ++ answer ∷ []) (replied ++ its ∷ []) lines answers replies (after client state line answer) (first + length its)
        (goes_on done given replied line lines answer answers its replies state first so_far) (omega (arith, whole))),
  )
  each_line Holds of done given replied (line ∷ lines) (answer ∷ answers) [] state first so_far whole = absurd so_far.left
  each_line Holds of done given replied [] [] replies state first so_far whole = tt
  each_line Holds of done given replied (line ∷ lines) [] replies state first so_far whole = absurd (omega (arith, whole))
  each_line Holds of done given replied [] (answer ∷ answers) replies state first so_far whole = absurd (omega (arith, whole))

  pub at_each_line : (Holds : List (Line × Answer) → State → Line → Answer → Type 0)
      → ((earlier : List (Line × Answer)) (state : State) (line : Line) (answer : Answer) → Moment earlier state line answer → Holds earlier state line answer)
      → AreAnswered table client (start origin) 1 all_lines all_answers all_replies → length all_answers ≡ length all_lines → AllLines client Holds (start origin) [] all_lines all_answers
  at_each_line Holds of answered whole =
      subst (λ earlier. AllLines client Holds (start origin) earlier all_lines all_answers) (pairs-none all_lines)
      (each_line Holds of [] [] [] all_lines all_answers all_replies (start origin) 1 (record {
        lines_are = refl;
        as_many = refl;
        before = none_answered table client (start origin) 1 all_lines;
        state_is = state_after-none client (start origin) all_lines;
        first_is = refl;
        left = answered;
        sent_is = refl;
        heard_is = refl;
        made_is = ap (λ made. made ++ made_for all_answers) (sym (made-none client (start origin) all_lines));
      }) whole)
