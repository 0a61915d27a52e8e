-- The Lamport numbers of the accepted puts of a legal report have no gaps.
use Rattle.std.specs.Prelude.{◌≡◌, ◌≢◌, ℕ, zero, suc, ◌+◌, ◌-◌, ◌<◌, ◌≤◌, max, ◌⊎◌, ◌==◌, List, [], ◌∷◌, ◌++◌, length, map, filter, slice_index_or, Option, Some, None, All, Contains}
use Rattle.std.specs.List.{AllZip}
use Rattle.std.proofs.Common.{refl, sym, ap, subst, ◌∙◌, inl, inr, arith}
use Rattle.std.proofs.lemmas.Bool.{cases_lt}
use Rattle.std.proofs.lemmas.Cmp.{nat_eq_equiv}
use Rattle.std.proofs.lemmas.List.{length-map}
use Rattle.std.proofs.lemmas.List.Elements.{All-append, All-cons, All-contains, All-contains_itself, All-head, All-nil, All-tail, All-weaker}
use Rattle.std.proofs.lemmas.Map.Steps.{le-length_from_below}
use Rattle.std.proofs.lemmas.Map.Views.{list_any-from_Contains}
use Rattle.lattice_laws.proofs.ListLemmas.{All-back, All-front}
use Rattle.lattice_laws.proofs.MembersLemmas.{contains_filtered, contains_map, contains_mapped}
use Rattle.composed_value.specs.Keyed.{puts_on}
use Rattle.composed_value.specs.Sound.{counted, is_counted}
use Rattle.composed_value.specs.declared.kind.Kind.{Kind}
use Rattle.composed_value.specs.declared.payload.Payload.{Payload}
use Rattle.composed_value.specs.declared.put.Put.{Put}
use Rattle.session_known.specs.Accepted.{accepted, accepted_from, client_of, end_of, ends_of, origin_of, start_of}
use Rattle.session_known.specs.Lawful.{AreLawful, IsLawful, IsSoundReply, IsTrueOf, lamport_of_commit, last_lamport}
use Rattle.session_known.specs.Laws.{lamports}
use Rattle.session_known.specs.Legal.{AreLawfulFrom, IsLegalAt}
use Rattle.session_known.specs.Script.{IsValidScript}
use Rattle.session_known.specs.Session.{Client, Knowledge, State, after, held_puts, knows_committed, knows_put, nothing_known, own_count, put_made, puts_by, puts_committed, puts_from, state_after}
use Rattle.session_known.specs.declared.report.Answer.{Answer}
use Rattle.session_known.specs.declared.report.Answer.TheVariants as answers
use Rattle.session_known.specs.declared.report.Report.{Report}
use Rattle.session_known.specs.declared.report.Shown.{Shown}
use Rattle.session_known.specs.declared.script.Line.{Line}
use Rattle.session_known.specs.declared.script.Line.TheVariants as lines
use Rattle.session_known.specs.declared.script.Script.{Script}
use Rattle.session_known.specs.declared.script.SessionPlan.{SessionPlan}
use Rattle.session_known.proofs.AcceptedLemmas.{few_accepted}
use Rattle.session_known.proofs.EndsLemmas.{AreEnds, ComeLater, IsEarlier, come_later, ends_are}

module _ (kinds : List Kind) (all : List (ℕ × Put)) where
  -- the Lamport numbers of the accepted puts
  abbrev numbers : List ℕ
  numbers = map (λ entry. entry.1.lamport) all

  -- one of them, or 0
  abbrev pub IsReached : ℕ → Type 0
  IsReached n = Contains numbers n ⊎ (n ≡ 0)

  -- a put whose number is one of them
  abbrev pub IsOfAll : ℕ × Put → Type 0
  IsOfAll entry = Contains numbers entry.1.lamport

  -- a put whose number is one above such a number
  abbrev pub IsNext : ℕ × Put → Type 0
  IsNext entry = (n : ℕ) × IsReached n × (entry.1.lamport ≡ n + 1)

  -- an answer that says that the last is reached only where it is
  abbrev pub IsWornAtLast : Answer → Type 0
  IsWornAtLast answer = answer ≡ answers.Worn → IsReached last_lamport

  -- the greater of two numbers is one of both
  reached_max : (a b : ℕ) → IsReached a → IsReached b → IsReached (max a b)
  reached_max a b first second = elim (cases_lt a b) [
    | inl less ↦ let is : b ≡ max a b = omega (arith, less) in subst IsReached is second
    | inr more ↦ let is : a ≡ max a b = omega (arith, more) in subst IsReached is first
  ]

  -- the top of a sound reply is reached
  top_reached : (key : ℕ) (shown : Shown) → IsSoundReply kinds all key shown → IsReached shown.top
  top_reached key shown sound = elim (sound.sound.top_is.1) [
    | inl among ↦
        let put = contains_mapped (λ (put : Put). put.lamport) (counted (puts_on key all) shown.clock) shown.top among in
        let on_key = contains_filtered (is_counted shown.clock) (puts_on key all) put.0 put.1 in
        let entry = contains_mapped (λ (entry : ℕ × Put). entry.1) (filter (λ entry. entry.0 == key) all) put.0 on_key.0 in
        let there = contains_filtered (λ (entry : ℕ × Put). entry.0 == key) all entry.0 entry.1 in
        inl (subst (Contains numbers) (ap (λ (put : Put). put.lamport) entry.2 ∙ put.2) (contains_map (λ (entry : ℕ × Put). entry.1.lamport) all entry.0 there.0))
    | inr none ↦ inr none
  ]

  module _ (table : List (List ℕ)) (client : Client) where
    -- what is known after a commit has a number that is reached
    commit_reaches : (knows : Knowledge) (lamport place : ℕ) (held : List (ℕ × Payload)) → All IsOfAll (puts_committed client knows lamport place held) → IsReached knows.lamport
        → IsReached (knows_committed client knows lamport held).lamport
    commit_reaches knows lamport place [] made now = now
    commit_reaches knows lamport place (held ∷ others) made now =
        let number : ℕ = own_count knows held.0 + 1 in
        let reached : Knowledge = knows_put client knows held.0 number lamport in
        let first : ℕ × Put = (held.0, put_made client knows held.0 held.1 number lamport place) in
        let later : List (ℕ × Put) = puts_committed client reached lamport (place + 1) others in
        commit_reaches reached lamport (place + 1) others (All-tail IsOfAll first later made) (inl (All-head IsOfAll first later made))

    -- its puts have its number
    commit_at : (knows : Knowledge) (lamport place : ℕ) (held : List (ℕ × Payload)) → All (λ entry. entry.1.lamport ≡ lamport) (puts_committed client knows lamport place held)
    commit_at knows lamport place [] = All-nil (λ (entry : ℕ × Put). entry.1.lamport ≡ lamport)
    commit_at knows lamport place (held ∷ others) =
        let number : ℕ = own_count knows held.0 + 1 in
        let reached : Knowledge = knows_put client knows held.0 number lamport in
        All-cons (λ (entry : ℕ × Put). entry.1.lamport ≡ lamport) (held.0, put_made client knows held.0 held.1 number lamport place) (puts_committed client reached lamport (place + 1) others) refl
        (commit_at reached lamport (place + 1) others)

    -- so they are next
    commit_next : (knows : Knowledge) (lamport : ℕ) (held : List (ℕ × Payload)) → lamport ≡ lamport_of_commit knows (length held) → IsReached knows.lamport
        → All IsNext (puts_committed client knows lamport 0 held)
    commit_next knows lamport [] is now = All-nil IsNext
    commit_next knows lamport (held ∷ others) is now =
        All-weaker (λ (entry : ℕ × Put). entry.1.lamport ≡ lamport) IsNext (λ entry same. (knows.lamport, now, same ∙ is)) (puts_committed client knows lamport 0 (held ∷ others)) (commit_at knows lamport 0 (held ∷ others))

    -- a lawful answer keeps the number of what is known reached
    line_reaches : (state : State) (earlier : List (Line × Answer)) (line : Line) (answer : Answer) → IsLawful table client state earlier line answer → IsTrueOf kinds all line answer
        → All IsOfAll (puts_by client state line answer) → IsReached state.knows.lamport → IsReached (after client state line answer).knows.lamport
    line_reaches state earlier (lines.Put key payload) (answers.Put number lamport) lawful of_all made now =
        inl (All-head IsOfAll (key, put_made client state.knows key payload number lamport 0) [] made)
    line_reaches state earlier (lines.Get key named) (answers.Got worker shown) lawful of_all made now = reached_max state.knows.lamport shown.top now (top_reached key shown of_all)
    line_reaches state earlier (lines.Await key session count) (answers.Got worker shown) lawful of_all made now = reached_max state.knows.lamport shown.top now (top_reached key shown of_all)
    line_reaches state earlier lines.Commit (answers.Committed puts lamport) lawful of_all made now = commit_reaches state.knows lamport 0 (held_puts state) made now
    line_reaches state earlier lines.Begin answers.Begun lawful of_all made now = now
    line_reaches state earlier lines.Abort (answers.Aborted puts) lawful of_all made now = now
    line_reaches state earlier line answer lawful of_all made now = now

    -- its puts are next
    line_next : (state : State) (earlier : List (Line × Answer)) (line : Line) (answer : Answer) → IsLawful table client state earlier line answer → IsReached state.knows.lamport
        → All IsNext (puts_by client state line answer)
    line_next state earlier (lines.Put key payload) (answers.Put number lamport) lawful now =
        All-cons IsNext (key, put_made client state.knows key payload number lamport 0) [] (state.knows.lamport, now, lawful.lamport_is) (All-nil IsNext)
    line_next state earlier lines.Commit (answers.Committed puts lamport) lawful now =
        commit_next state.knows lamport (held_puts state) (lawful.lamport_is ∙ ap (lamport_of_commit state.knows) lawful.puts_are) now
    line_next state earlier line answer lawful now = All-nil IsNext

    -- and it says that the last is reached only where it is
    line_worn : (state : State) (earlier : List (Line × Answer)) (line : Line) (answer : Answer) → IsLawful table client state earlier line answer → IsReached state.knows.lamport → IsWornAtLast answer
    line_worn state earlier (lines.Put key payload) answers.Worn lawful now = λ is. subst IsReached lawful.1 now
    line_worn state earlier lines.Commit answers.Worn lawful now = λ is. subst IsReached lawful.1 now
    line_worn state earlier lines.Begin answers.Worn lawful now = absurd lawful
    line_worn state earlier lines.Abort answers.Worn lawful now = absurd lawful
    line_worn state earlier (lines.Get key named) answers.Worn lawful now = absurd lawful
    line_worn state earlier (lines.Await key session count) answers.Worn lawful now = absurd lawful
    line_worn state earlier line answer lawful now = λ is. cc

    -- what holds of a session's lines and of what it knows after them
    record Goes (state : State) (lines : List Line) (answers : List Answer) : Type 0 where
      end : IsReached (state_after client state lines answers).knows.lamport
      next : All IsNext (puts_from client state lines answers)
      worn : All IsWornAtLast answers

    goes : (state : State) (earlier : List (Line × Answer)) (lines : List Line) (answers : List Answer) → AreLawful table client state earlier lines answers → AllZip (IsTrueOf kinds all) lines answers
        → All IsOfAll (puts_from client state lines answers) → IsReached state.knows.lamport → Goes state lines answers
    goes state earlier [] [] lawful of_all made now = record { end = now; next = All-nil IsNext; worn = All-nil IsWornAtLast }
    goes state earlier [] (answer ∷ answers) lawful of_all made now = absurd lawful
    goes state earlier (line ∷ lines) [] lawful of_all made now = absurd lawful
    goes state earlier (line ∷ lines) (answer ∷ answers) lawful of_all made now =
        let reached : State = after client state line answer in
        let by : List (ℕ × Put) = puts_by client state line answer in
        let later : List (ℕ × Put) = puts_from client reached lines answers in
        let rest = goes reached (earlier ++ (line, answer) ∷ []) lines answers lawful.1 of_all.1 (All-back IsOfAll by later made)
        (line_reaches state earlier line answer lawful.0 of_all.0 (All-front IsOfAll by later made) now) in record {
          end = rest.end;
          next = All-append IsNext by later (line_next state earlier line answer lawful.0 now) rest.next;
          worn = All-cons IsWornAtLast answer answers (line_worn state earlier line answer lawful.0 now) rest.worn;
        }

  module _ (table : List (List ℕ)) (ends : List Knowledge) where
    -- the ends of the first so many sessions have numbers that are reached
    abbrev AreReached : ℕ → Type 0
    AreReached many = (place : ℕ) → place < many → IsReached (slice_index_or ends place nothing_known).lamport

    -- so has what a session knows at its start that comes after one of them
    origin_reached : (many : ℕ) (after : Option ℕ) → IsEarlier many after → AreReached many → IsReached (origin_of ends after).lamport
    origin_reached many None is reached = inr refl
    origin_reached many (Some after) is reached = reached (after - 1) (omega (arith, is))

    one_more : (many : ℕ) (known : Knowledge) → slice_index_or ends many nothing_known ≡ known → IsReached known.lamport → AreReached many → AreReached (many + 1)
    one_more many known is reached before place within = elim (cases_lt place many) [
      | inl earlier ↦ before place earlier
      | inr last ↦
          let at : many ≡ place = omega (arith, within, last) in
          subst IsReached (ap (λ (k : Knowledge). k.lamport) (sym is) ∙ ap (λ i. (slice_index_or ends i nothing_known).lamport) at) reached
    ]

    sessions_go : (many number : ℕ) (plans : List SessionPlan) (answers : List (List Answer)) → number ≡ many + 1 → ComeLater many plans → AreEnds ends number plans answers
        → AreLawfulFrom table ends number plans answers → AllZip (λ plan answers. AllZip (IsTrueOf kinds all) plan.lines answers) plans answers
        → All IsOfAll (accepted_from ends number plans answers) → AreReached many → All IsNext (accepted_from ends number plans answers) × All (All IsWornAtLast) answers
    sessions_go many number [] [] is later are lawful of_all made reached = (All-nil IsNext, All-nil (All IsWornAtLast))
    sessions_go many number [] (answers ∷ others) is later are lawful of_all made reached = absurd lawful
    sessions_go many number (plan ∷ plans) [] is later are lawful of_all made reached = absurd lawful
    sessions_go many number (plan ∷ plans) (answers ∷ others) is later are lawful of_all made reached =
        let client : Client = client_of number plan in
        let state : State = start_of ends plan in
        let by : List (ℕ × Put) = puts_from client state plan.lines answers in
        let more : List (ℕ × Put) = accepted_from ends (number + 1) plans others in
        let its = goes table client state [] plan.lines answers lawful.0 of_all.0 (All-front IsOfAll by more made) (origin_reached many plan.after later.0 reached) in
        let place : number - 1 ≡ many = omega (arith, is) in
        let here : slice_index_or ends many nothing_known ≡ end_of ends number plan answers = ap (λ i. slice_index_or ends i nothing_known) (sym place) ∙ are.0 in
        let rest = sessions_go (many + 1) (number + 1) plans others (ap (λ n. n + 1) is) later.1 are.1 lawful.1 of_all.1 (All-back IsOfAll by more made)
        (one_more many (end_of ends number plan answers) here its.end reached) in
        (All-append IsNext by more its.next rest.0, All-cons (All IsWornAtLast) answers others its.worn rest.1)

  -- where each put is next, a number is followed down to 1
  go_down : All IsNext all → (m n : ℕ) → Contains numbers (m + n) → 1 ≤ n → Contains numbers n
  go_down next zero n there some = let is : 0 + n ≡ n = omega arith in subst (Contains numbers) is there
  go_down next (suc m) n there some =
      let entry = contains_mapped (λ (entry : ℕ × Put). entry.1.lamport) all (suc m + n) there in
      let is = All-contains IsNext all entry.0 next entry.1 in
      let before : is.0 ≡ m + n = omega (arith, is.2, entry.2) in
      elim (is.1) [
        | inl among ↦ go_down next m n (subst (Contains numbers) before among) some
        | inr none ↦ absurd (omega (arith, before, none, some))
      ]

  -- so there are at least as many puts as a number says
  pub at_most_all : All IsNext all → (n : ℕ) → Contains numbers n → n ≤ length all
  at_most_all next n there =
      let lower : List ℕ = map (λ m. m - 1) numbers in
      let long : length lower ≡ length all = length-map numbers (λ m. m - 1) ∙ length-map all (λ (entry : ℕ × Put). entry.1.lamport) in
      let below = le-length_from_below lower n (λ q low.
      let down : n ≡ (n - (q + 1)) + (q + 1) = omega (arith, low) in
      let there_too = go_down next (n - (q + 1)) (q + 1) (subst (Contains numbers) down there) (omega arith) in
      let is : q + 1 - 1 ≡ q = omega arith in
      list_any-from_Contains nat_eq_equiv q lower (subst (Contains lower) is (contains_map (λ m. m - 1) numbers (q + 1) there_too))) in
      omega (arith, below, long)

module _ (script : Script) (table : List (List ℕ)) (report : Report) (valid : IsValidScript script table) (legal : IsLegalAt table script report) where
  abbrev puts : List (ℕ × Put)
  puts = accepted script report

  go : All (IsNext script.kinds puts) puts × All (All (IsWornAtLast script.kinds puts)) report.answers
  go = sessions_go script.kinds puts table (ends_of script report) 0 1 script.sessions report.answers refl (come_later script table valid) (ends_are script table report valid) legal.answers legal.true_of_puts
      (All-weaker (Contains puts) (IsOfAll script.kinds puts) (λ entry there. contains_map (λ (entry : ℕ × Put). entry.1.lamport) puts entry there) puts (All-contains_itself puts)) (λ place none. absurd (omega (arith, none)))

  -- for each accepted put with a number above 1 there is one with the number one less
  pub are_dense : (n : ℕ) → 1 ≤ n → Contains (lamports script report) (n + 1) → Contains (lamports script report) n
  are_dense n some there = let one : n + 1 ≡ 1 + n = omega arith in go_down script.kinds puts go.0 1 n (subst (Contains (lamports script report)) one there) some

  -- no number is above how many there are
  pub are_few : All (λ n. n ≤ length (accepted script report)) (lamports script report)
  are_few = All-weaker (Contains (lamports script report)) (λ n. n ≤ length puts) (at_most_all script.kinds puts go.0) (lamports script report) (All-contains_itself (lamports script report))

  not_last : IsReached script.kinds puts last_lamport → ⊥
  not_last (inl among) =
      let few = few_accepted script table report valid in
      let most = at_most_all script.kinds puts go.0 last_lamport among in
      omega (arith, few, most)
  not_last (inr none) = cc

  -- and no answer says that the last is reached
  pub none_worn : All (All (λ answer. answer ≢ answers.Worn)) report.answers
  none_worn = All-weaker (All (IsWornAtLast script.kinds puts)) (All (λ answer. answer ≢ answers.Worn))
      (λ its worn. All-weaker (IsWornAtLast script.kinds puts) (λ answer. answer ≢ answers.Worn) (λ answer at_last is. not_last (at_last is)) its worn) report.answers go.1
