-- The accepted puts of a session on a key are its first, its second and so on, in script order.
use Rattle.std.specs.Prelude.{◌≡◌, ◌≢◌, ℕ, zero, suc, ◌+◌, ◌<◌, ◌==◌, max, true, false, cond, List, [], ◌∷◌, ◌++◌, All, length, map, slice_index_or, Option, Some, None, unwrap_or, Contains, ◌≤◌, ⊤}
use Rattle.std.specs.Cmp.{nat_cmp_total, unsigned_tied}
use Rattle.std.specs.FinMap.{find}
use Rattle.std.specs.FinMap.Entries.{find-put}
use Rattle.std.specs.Ordering.{nat_cmp, is_eq}
use Rattle.std.proofs.Common.{refl, sym, ap, subst, ◌∙◌, inl, inr, append-nil, length-append, arith}
use Rattle.std.proofs.lemmas.Bool.{ne_eqb, eq-eqb}
use Rattle.std.proofs.lemmas.Bool.Decides.{eqb_tells}
use Rattle.std.proofs.lemmas.Cmp.{tied_itself}
use Rattle.std.proofs.lemmas.List.{get_or-map, length-map}
use Rattle.std.proofs.lemmas.List.Elements.{All-append, All-cons, All-contains, All-head, All-map, All-nil, All-tail, All-weaker, Contains-get_or, filter-append}
use Rattle.lattice_laws.specs.Entries.{with_old}
use Rattle.lattice_laws.specs.Greatest.{IsGreatestOrZero}
use Rattle.clock_lattice.specs.Clock.{count_of, joined_clocks, one_count}
use Rattle.composed_value.specs.PlainValue.{puts_of_session}
use Rattle.composed_value.specs.Sound.{AreNumbered}
use Rattle.composed_value.specs.declared.payload.Payload.{Payload}
use Rattle.composed_value.specs.declared.put.Put as puts
use Rattle.composed_value.proofs.KeyedLemmas.{puts_on-append, on_its_key, on_no_other}
use Rattle.composed_value.specs.Keyed.{puts_on}
use Rattle.session_known.specs.Accepted.{client_of, origin_of, start_of, made_on, AreNext, accepted_from}
use Rattle.session_known.specs.Lawful.{IsLawful, AreLawful}
use Rattle.session_known.specs.Legal.{AreLawfulFrom}
use Rattle.session_known.specs.Session.{Client, Knowledge, State, own_count, put_made, knows_put, puts_committed, knows_committed, held_puts, after, puts_by, puts_from, state_after}
use Rattle.session_known.specs.declared.report.Answer.{Answer}
use Rattle.session_known.specs.declared.report.Answer.TheVariants as answers
use Rattle.session_known.specs.declared.script.Line.{Line}
use Rattle.session_known.specs.declared.script.Line.TheVariants as lines
use Rattle.session_known.specs.declared.script.SessionPlan.{SessionPlan}

-- puts that follow the first number, up to the last
pub record AreNextUpTo (first : ℕ) (made : List puts.Put) (last : ℕ) : Type 0 where
  pub next : AreNext first made
  pub last_is : last ≡ first + length made

-- the puts of two lists on a key
pub made_on-append : (session key : ℕ) (made more : List (ℕ × puts.Put)) → made_on session key (made ++ more) ≡ made_on session key made ++ made_on session key more
made_on-append session key made more =
    ap (puts_of_session session) (puts_on-append key made more) ∙ filter-append (λ put. session == put.session) (puts_on key made) (puts_on key more)

-- a put of the session on the key is one of its puts there
pub made_here : (session its_key key : ℕ) (put : puts.Put) → its_key ≡ key → session ≡ put.session → made_on session key ((its_key, put) ∷ []) ≡ put ∷ []
made_here session its_key key put same_key same_session =
    ap (puts_of_session session) (on_its_key its_key key put same_key) ∙ ap (λ t. cond t (put ∷ []) []) (eq-eqb session put.session same_session)

-- a put on another key is not
pub made_elsewhere : (session its_key key : ℕ) (put : puts.Put) → its_key ≢ key → made_on session key ((its_key, put) ∷ []) ≡ []
made_elsewhere session its_key key put other =
    ap (puts_of_session session) (on_no_other its_key key put other)

-- nor is one of another session
pub made_by_other : (session its_key key : ℕ) (put : puts.Put) → session ≢ put.session → made_on session key ((its_key, put) ∷ []) ≡ []
made_by_other session its_key key put other =
    elim (its_key == key) as (λ t. puts_of_session session (map (λ (entry : ℕ × puts.Put). entry.1) (cond t ((its_key, put) ∷ []) [])) ≡ []) [
      | true ↦ ap (λ t. cond t (put ∷ []) []) (ne_eqb session put.session other)
      | false ↦ refl
    ]

-- two lists without puts of the session on the key have none together
none_in_both : (session key : ℕ) (made more : List (ℕ × puts.Put)) → made_on session key made ≡ [] → made_on session key more ≡ [] → made_on session key (made ++ more) ≡ []
none_in_both session key made more none none_more = made_on-append session key made more ∙ ap (λ xs. xs ++ made_on session key more) none ∙ none_more

-- what follows a number, and what follows its last, follow it together
pub next-append : (n : ℕ) (made more : List puts.Put) → AreNext n made → AreNext (n + length made) more → AreNext n (made ++ more)
next-append n [] more are are_more = let same : n + 0 ≡ n = omega arith in subst (λ m. AreNext m more) same are_more
next-append n (put ∷ made) more are are_more =
    let same : n + length (put ∷ made) ≡ n + 1 + length made = omega arith in
    (are.0, next-append (n + 1) made more are.1 (subst (λ m. AreNext m more) same are_more))

-- the numbers of such puts, by their places
pub number_at : (n : ℕ) (made : List puts.Put) → AreNext n made → (k : ℕ) (d : puts.Put) → k < length made → (slice_index_or made k d).number ≡ n + k + 1
number_at n [] are k d within = absurd (omega (arith, within))
number_at n (put ∷ made) are zero d within = let first = are.0 in omega (arith, first)
number_at n (put ∷ made) are (suc k) d within = let later = number_at (n + 1) made are.1 k d (omega (arith, within)) in omega (arith, later)

-- what follows 0 is numbered 1, 2 and so on
pub numbered_from_next : (made : List puts.Put) → AreNext 0 made → AreNumbered made
numbered_from_next made are = record {
  different = λ i j d before within same. omega (arith, before, same, number_at 0 made are i d (omega (arith, before, within)), number_at 0 made are j d within);
  within = λ k d within. let is = number_at 0 made are k d within in (omega (arith, is), omega (arith, is, within));
}

-- the greatest number of puts that follow 0 is how many they are
pub greatest_of_next : (made : List puts.Put) → AreNext 0 made → IsGreatestOrZero (map (λ put. put.number) made) (length made)
greatest_of_next [] are = (λ m has. absurd (omega (arith, has.1)), inr refl)
greatest_of_next (put ∷ others) are =
    let made : List puts.Put = put ∷ others in
    let number_of : puts.Put → ℕ = λ p. p.number in
    let numbers : List ℕ = map number_of made in
    let within : length others < length numbers = omega (arith, length-map made number_of) in
    let last : slice_index_or numbers (length others) 0 ≡ length made =
    get_or-map number_of made (length others) put 0 (omega arith) ∙ number_at 0 made are (length others) put (omega arith) ∙ omega arith in (
      (λ m has. All-contains (λ m. m ≤ length made) numbers m (All-map (λ m. m ≤ length made) number_of made (λ k d inside. omega (arith, inside, number_at 0 made are k d inside))) has),
      inl (subst (Contains numbers) last (Contains-get_or numbers (length others) 0 within)),
    )

-- a count raised to the next number
raised_to_next : (old : Option ℕ) (number : ℕ) → number ≡ unwrap_or old 0 + 1 → with_old max old number ≡ number
raised_to_next None number next = refl
raised_to_next (Some n) number next = omega (arith, next)

-- a put counts on its key
pub count_put : (own : List (ℕ × ℕ)) (key number : ℕ) → number ≡ count_of key own + 1 → count_of key (joined_clocks own (one_count key number)) ≡ number
count_put own key zero next = absurd (omega (arith, next))
count_put own key (suc n) next =
    let value : ℕ = with_old max (find nat_cmp key own) (suc n) in
    ap (λ found. unwrap_or found 0) (find-put nat_cmp nat_cmp_total key key value own)
    ∙ ap (λ r. unwrap_or (cond (is_eq r) (Some value) (find nat_cmp key own)) 0) (tied_itself nat_cmp_total key)
    ∙ raised_to_next (find nat_cmp key own) (suc n) next

-- and on no other
pub count_put_elsewhere : (own : List (ℕ × ℕ)) (its_key key number : ℕ) → its_key ≢ key → count_of key (joined_clocks own (one_count its_key number)) ≡ count_of key own
count_put_elsewhere own its_key key zero other = refl
count_put_elsewhere own its_key key (suc n) other =
    let value : ℕ = with_old max (find nat_cmp its_key own) (suc n) in
    ap (λ found. unwrap_or found 0) (find-put nat_cmp nat_cmp_total key its_key value own)
    ∙ ap (λ t. unwrap_or (cond t (Some value) (find nat_cmp key own)) 0) (unsigned_tied key its_key ∙ ne_eqb key its_key (λ same. other (sym same)))

-- no puts follow any number
next_of_none : (n : ℕ) → AreNextUpTo n [] n
next_of_none n = record { next = tt; last_is = omega arith }

-- what a list and then another follow
next_of_both : (session key first middle last : ℕ) (made more : List (ℕ × puts.Put)) → AreNextUpTo first (made_on session key made) middle → AreNextUpTo middle (made_on session key more) last → AreNextUpTo first (made_on session key (made ++ more)) last
next_of_both session key first middle last made more of_made of_more =
    subst (λ all. AreNextUpTo first all last) (sym (made_on-append session key made more)) (record {
      next = next-append first (made_on session key made) (made_on session key more) of_made.next (subst (λ m. AreNext m (made_on session key more)) of_made.last_is of_more.next);
      last_is = omega (arith, length-append (made_on session key made) (made_on session key more), of_made.last_is, of_more.last_is);
    })

-- a session's next put on a key follows its count there
next_of_put : (client : Client) (knows : Knowledge) (its_key : ℕ) (payload : Payload) (number lamport place key : ℕ) → number ≡ own_count knows its_key + 1
    → AreNextUpTo (own_count knows key) (made_on client.session key ((its_key, put_made client knows its_key payload number lamport place) ∷ [])) (own_count (knows_put client knows its_key number lamport) key)
next_of_put client knows its_key payload number lamport place key next =
    let put : puts.Put = put_made client knows its_key payload number lamport place in
    let count : ℕ = own_count (knows_put client knows its_key number lamport) key in
    elim (eqb_tells its_key key) [
      | inl same ↦
          let next_here : number ≡ own_count knows key + 1 = subst (λ k. number ≡ own_count knows k + 1) same.1 next in
          let counts : count ≡ number = subst (λ k. count_of key (joined_clocks knows.own (one_count k number)) ≡ number) (sym same.1) (count_put knows.own key number next_here) in
          subst (λ made. AreNextUpTo (own_count knows key) made count) (sym (made_here client.session its_key key put same.1 refl)) (record { next = (next_here, tt); last_is = omega (arith, counts, next_here) })
      | inr other ↦
          subst (λ made. AreNextUpTo (own_count knows key) made count) (sym (made_elsewhere client.session its_key key put other.1))
          (record { next = tt; last_is = count_put_elsewhere knows.own its_key key number other.1 ∙ omega arith })
    ]

-- and so do the puts of a commit
next_of_commit : (client : Client) (knows : Knowledge) (lamport place : ℕ) (held : List (ℕ × Payload)) (key : ℕ) → AreNextUpTo (own_count knows key) (made_on client.session key (puts_committed client knows lamport place held)) (own_count (knows_committed client knows lamport held) key)
next_of_commit client knows lamport place [] key = next_of_none (own_count knows key)
next_of_commit client knows lamport place (held ∷ others) key =
    let number : ℕ = own_count knows held.0 + 1 in
    let reached : Knowledge = knows_put client knows held.0 number lamport in
    next_of_both client.session key (own_count knows key) (own_count reached key) (own_count (knows_committed client reached lamport others) key)
    ((held.0, put_made client knows held.0 held.1 number lamport place) ∷ []) (puts_committed client reached lamport (place + 1) others)
    (next_of_put client knows held.0 held.1 number lamport place key refl) (next_of_commit client reached lamport (place + 1) others key)

-- a put is numbered as the session's next on its key
abbrev pub IsNumbered : State → Line → Answer → Type 0
IsNumbered state (lines.Put key payload) (answers.Put number lamport) = number ≡ own_count state.knows key + 1
IsNumbered state line answer = ⊤

-- so of each line
abbrev pub AreNumberedLines : Client → State → List Line → List Answer → Type 0
AreNumberedLines client state (line ∷ lines) (answer ∷ answers) = IsNumbered state line answer × AreNumberedLines client (after client state line answer) lines answers
AreNumberedLines client state lines answers = ⊤

-- and of each session, from a number on
abbrev pub AreNumberedFrom : List Knowledge → ℕ → List SessionPlan → List (List Answer) → Type 0
AreNumberedFrom ends number (plan ∷ plans) (answers ∷ others) = AreNumberedLines (client_of number plan) (start_of ends plan) plan.lines answers × AreNumberedFrom ends (number + 1) plans others
AreNumberedFrom ends number plans answers = ⊤

-- a session has made no puts at its start
pub none_at_start : (ends : List Knowledge) (after : Option ℕ) (key : ℕ) → own_count (origin_of ends after) key ≡ 0
none_at_start ends (Some after) key = refl
none_at_start ends None key = refl

-- the puts of a line follow the session's count
pub next_of_line : (client : Client) (state : State) (line : Line) (answer : Answer) (key : ℕ) → IsNumbered state line answer
    → AreNextUpTo (own_count state.knows key) (made_on client.session key (puts_by client state line answer)) (own_count (after client state line answer).knows key)
next_of_line client state (lines.Put its_key payload) (answers.Put number lamport) key numbered = next_of_put client state.knows its_key payload number lamport 0 key numbered
next_of_line client state lines.Commit (answers.Committed committed lamport) key numbered = next_of_commit client state.knows lamport 0 (held_puts state) key
next_of_line client state (lines.Get its_key named) (answers.Got worker shown) key numbered = next_of_none (own_count state.knows key)
next_of_line client state (lines.Await its_key session count) (answers.Got worker shown) key numbered = next_of_none (own_count state.knows key)
next_of_line client state lines.Begin answers.Begun key numbered = next_of_none (own_count state.knows key)
next_of_line client state lines.Abort (answers.Aborted aborted) key numbered = next_of_none (own_count state.knows key)
next_of_line client state line answer key numbered = next_of_none (own_count state.knows key)

-- and those of all its lines, up to its count then
pub next_of_lines : (client : Client) (state : State) (lines : List Line) (answers : List Answer) (key : ℕ) → AreNumberedLines client state lines answers
    → AreNextUpTo (own_count state.knows key) (made_on client.session key (puts_from client state lines answers)) (own_count (state_after client state lines answers).knows key)
next_of_lines client state (line ∷ lines) (answer ∷ answers) key numbered =
    let reached : State = after client state line answer in
    next_of_both client.session key (own_count state.knows key) (own_count reached.knows key) (own_count (state_after client reached lines answers).knows key)
    (puts_by client state line answer) (puts_from client reached lines answers)
    (next_of_line client state line answer key numbered.0) (next_of_lines client reached lines answers key numbered.1)
next_of_lines client state lines answers key numbered = next_of_none (own_count state.knows key)

-- lawful answers number the puts so
line_is_numbered : (table : List (List ℕ)) (client : Client) (state : State) (earlier : List (Line × Answer)) (line : Line) (answer : Answer)
    → IsLawful table client state earlier line answer → IsNumbered state line answer
line_is_numbered table client state earlier (lines.Put key payload) (answers.Put number lamport) lawful = lawful.number_is
line_is_numbered table client state earlier line answer lawful = tt

lines_are_numbered : (table : List (List ℕ)) (client : Client) (state : State) (earlier : List (Line × Answer)) (lines : List Line) (answers : List Answer)
    → AreLawful table client state earlier lines answers → AreNumberedLines client state lines answers
lines_are_numbered table client state earlier (line ∷ lines) (answer ∷ answers) lawful = (
  line_is_numbered table client state earlier line answer lawful.0,
  lines_are_numbered table client (after client state line answer) (earlier ++ (line, answer) ∷ []) lines answers lawful.1,
)
lines_are_numbered table client state earlier lines answers lawful = tt

all_are_numbered : (table : List (List ℕ)) (ends : List Knowledge) (number : ℕ) (plans : List SessionPlan) (answers : List (List Answer)) → AreLawfulFrom table ends number plans answers → AreNumberedFrom ends number plans answers
all_are_numbered table ends number (plan ∷ plans) (answers ∷ others) lawful =
    (lines_are_numbered table (client_of number plan) (start_of ends plan) [] plan.lines answers lawful.0, all_are_numbered table ends (number + 1) plans others lawful.1)
all_are_numbered table ends number plans answers lawful = tt

module _ (client : Client) where
  -- a put of the session
  abbrev pub IsOwn : ℕ × puts.Put → Type 0
  IsOwn entry = entry.1.session ≡ client.session

  committed_own : (knows : Knowledge) (lamport place : ℕ) (held : List (ℕ × Payload)) → All IsOwn (puts_committed client knows lamport place held)
  committed_own knows lamport place [] = All-nil IsOwn
  committed_own knows lamport place (held ∷ others) =
      let number : ℕ = own_count knows held.0 + 1 in
      All-cons IsOwn (held.0, put_made client knows held.0 held.1 number lamport place)
      (puts_committed client (knows_put client knows held.0 number lamport) lamport (place + 1) others) refl
      (committed_own (knows_put client knows held.0 number lamport) lamport (place + 1) others)

  -- the puts that a line makes are its session's
  pub line_own : (state : State) (line : Line) (answer : Answer) → All IsOwn (puts_by client state line answer)
  line_own state (lines.Put key payload) (answers.Put number lamport) = All-cons IsOwn (key, put_made client state.knows key payload number lamport 0) [] refl (All-nil IsOwn)
  line_own state lines.Commit (answers.Committed committed lamport) = committed_own state.knows lamport 0 (held_puts state)
  line_own state line answer = All-nil IsOwn

  -- and so are those of all lines
  pub lines_own : (state : State) (lines : List Line) (answers : List Answer) → All IsOwn (puts_from client state lines answers)
  lines_own state (line ∷ lines) (answer ∷ answers) =
      let reached : State = after client state line answer in
      All-append IsOwn (puts_by client state line answer) (puts_from client reached lines answers) (line_own state line answer) (lines_own reached lines answers)
  lines_own state lines answers = All-nil IsOwn

module _ (session key : ℕ) where
  -- of puts of the session alone, those on the key
  pub all_made : (made : List (ℕ × puts.Put)) → All (λ entry. entry.1.session ≡ session) made → made_on session key made ≡ puts_on key made
  all_made [] are = refl
  all_made (entry ∷ made) are =
      let of : entry.1.session ≡ session = All-head (λ e. e.1.session ≡ session) entry made are in
      let one : made_on session key (entry ∷ []) ≡ puts_on key (entry ∷ []) = elim (eqb_tells entry.0 key) [
        | inl same ↦ made_here session entry.0 key entry.1 same.1 (sym of) ∙ sym (on_its_key entry.0 key entry.1 same.1)
        | inr other ↦ made_elsewhere session entry.0 key entry.1 other.1 ∙ sym (on_no_other entry.0 key entry.1 other.1)
      ] in
      made_on-append session key (entry ∷ []) made ∙ (λ j. one j ++ all_made made (All-tail (λ e. e.1.session ≡ session) entry made are) j)
      ∙ sym (puts_on-append key (entry ∷ []) made)

  -- of puts of others alone, none
  pub none_made : (made : List (ℕ × puts.Put)) → All (λ entry. entry.1.session ≢ session) made → made_on session key made ≡ []
  none_made [] are = refl
  none_made (entry ∷ made) are =
      made_on-append session key (entry ∷ []) made
      ∙ (λ j. made_by_other session entry.0 key entry.1 (λ same. All-head (λ e. e.1.session ≢ session) entry made are (sym same)) j
      ++ none_made made (All-tail (λ e. e.1.session ≢ session) entry made are) j)

  -- a session makes no puts of another
  none_by_lines : (client : Client) (state : State) (lines : List Line) (answers : List Answer) → session ≢ client.session → made_on session key (puts_from client state lines answers) ≡ []
  none_by_lines client state lines answers other =
      none_made (puts_from client state lines answers)
      (All-weaker (IsOwn client) (λ entry. entry.1.session ≢ session) (λ entry own same. other (sym same ∙ own)) (puts_from client state lines answers) (lines_own client state lines answers))

  -- later sessions make no puts of an earlier one
  none_by_later : (ends : List Knowledge) (number : ℕ) (plans : List SessionPlan) (answers : List (List Answer)) → session < number → made_on session key (accepted_from ends number plans answers) ≡ []
  none_by_later ends number (plan ∷ plans) (answers ∷ others) earlier =
      none_in_both session key (puts_from (client_of number plan) (start_of ends plan) plan.lines answers) (accepted_from ends (number + 1) plans others)
      (none_by_lines (client_of number plan) (start_of ends plan) plan.lines answers (λ same. omega (arith, same, earlier))) (none_by_later ends (number + 1) plans others (omega (arith, earlier)))
  none_by_later ends number plans answers earlier = refl

  -- the first session's puts are those of its lines
  pub accepted_of_first : (ends : List Knowledge) (number : ℕ) (plan : SessionPlan) (plans : List SessionPlan) (answers : List Answer) (others : List (List Answer)) → session ≡ number
      → made_on session key (accepted_from ends number (plan ∷ plans) (answers ∷ others)) ≡ made_on session key (puts_from (client_of number plan) (start_of ends plan) plan.lines answers)
  accepted_of_first ends number plan plans answers others same =
      let made : List (ℕ × puts.Put) = puts_from (client_of number plan) (start_of ends plan) plan.lines answers in
      made_on-append session key made (accepted_from ends (number + 1) plans others)
      ∙ ap (λ later. made_on session key made ++ later) (none_by_later ends (number + 1) plans others (omega (arith, same))) ∙ append-nil (made_on session key made)

  -- and those of the others are made by these
  pub accepted_of_later : (ends : List Knowledge) (number : ℕ) (plan : SessionPlan) (plans : List SessionPlan) (answers : List Answer) (others : List (List Answer)) → session ≢ number
      → made_on session key (accepted_from ends number (plan ∷ plans) (answers ∷ others)) ≡ made_on session key (accepted_from ends (number + 1) plans others)
  accepted_of_later ends number plan plans answers others other =
      let made : List (ℕ × puts.Put) = puts_from (client_of number plan) (start_of ends plan) plan.lines answers in
      made_on-append session key made (accepted_from ends (number + 1) plans others)
      ∙ ap (λ earlier. earlier ++ made_on session key (accepted_from ends (number + 1) plans others)) (none_by_lines (client_of number plan) (start_of ends plan) plan.lines answers other)

  -- where the puts of each session are numbered so, its accepted puts on a key follow 0
  pub numbered_are_next : (ends : List Knowledge) (number : ℕ) (plans : List SessionPlan) (answers : List (List Answer)) → AreNumberedFrom ends number plans answers → AreNext 0 (made_on session key (accepted_from ends number plans answers))
  numbered_are_next ends number (plan ∷ plans) (answers ∷ others) numbered =
      let made : List (ℕ × puts.Put) = puts_from (client_of number plan) (start_of ends plan) plan.lines answers in
      elim (eqb_tells session number) as (λ _. AreNext 0 (made_on session key (accepted_from ends number (plan ∷ plans) (answers ∷ others)))) [
        | inl same ↦
            subst (AreNext 0) (sym (accepted_of_first ends number plan plans answers others same.1))
            (subst (λ s. AreNext 0 (made_on s key made)) (sym same.1)
            (subst (λ n. AreNext n (made_on number key made)) (none_at_start ends plan.after key) (next_of_lines (client_of number plan) (start_of ends plan) plan.lines answers key numbered.0).next))
        | inr other ↦
            subst (AreNext 0) (sym (accepted_of_later ends number plan plans answers others other.1)) (numbered_are_next ends (number + 1) plans others numbered.1)
      ]
  numbered_are_next ends number plans answers numbered = tt

-- so do those of lawful sessions
pub accepted_are_next : (table : List (List ℕ)) (ends : List Knowledge) (number : ℕ) (plans : List SessionPlan) (answers : List (List Answer)) → AreLawfulFrom table ends number plans answers → (session key : ℕ) → AreNext 0 (made_on session key (accepted_from ends number plans answers))
accepted_are_next table ends number plans answers lawful session key = numbered_are_next session key ends number plans answers (all_are_numbered table ends number plans answers lawful)
