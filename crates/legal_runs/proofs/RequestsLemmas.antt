-- The puts among the requests that a session sends to a worker: at its home of a key all that it makes there, at others none.
use Rattle.std.specs.Prelude.{◌≡◌, ℕ, ◌+◌, ◌%◌, ◌≤◌, ◌==◌, Bool, true, false, cond, if◌then◌else◌, leb, List, [], ◌∷◌, ◌++◌, All, flat_map, length, map, slice_index_or}
use Rattle.std.specs.List.{range_with_len}
use Rattle.std.proofs.Common.{◌∙◌, refl, sym, ap, subst, inl, inr, arith}
use Rattle.std.proofs.lemmas.Bool.{le-leb}
use Rattle.std.proofs.lemmas.Bool.Decides.{eqb_tells}
use Rattle.std.proofs.lemmas.List.Concat.{flat_map-append}
use Rattle.std.proofs.lemmas.List.Elements.{All-head, All-tail}
use Rattle.lattice_laws.proofs.ListLemmas.{All-back, All-front}
use Rattle.mail_contract.specs.Takes.{from_sender}
use Rattle.placement.specs.Asked.{home_at, ask_order}
use Rattle.composed_value.specs.Keyed.{puts_on}
use Rattle.composed_value.proofs.KeyedLemmas.{on_no_other, puts_on-append}
use Rattle.composed_value.specs.declared.put.Put.{Put}
use Rattle.session_known.specs.Requests.{Sent, SentAsk, SentPut, asks_by, asks_sent, asked_by, puts_sent, sent_by, sent_from}
use Rattle.session_known.specs.Session.{Client, State, after, puts_by, puts_from}
use Rattle.session_known.specs.declared.report.Answer.{Answer}
use Rattle.session_known.specs.declared.report.Answer.TheVariants as answers
use Rattle.session_known.specs.declared.script.Line.{Line}
use Rattle.session_known.specs.declared.script.Line.TheVariants as lines
use Rattle.session_proxy.specs.Share.{request_of, to_worker}
use Rattle.session_proxy.proofs.SentLemmas.{to_worker-append}
use Rattle.worker_core.specs.Share.{put_in}

-- either all puts or none, of two lists together
all_or_none-append : (all : Bool) (xs ys : List Put) → cond all xs [] ++ cond all ys [] ≡ cond all (xs ++ ys) []
all_or_none-append true xs ys = refl
all_or_none-append false xs ys = refl

all_or_none_of_none : (all : Bool) → cond {A = List Put} all [] [] ≡ []
all_or_none_of_none true = refl
all_or_none_of_none false = refl

module _ (table : List (List ℕ)) (client : Client) (worker key : ℕ) where
  -- the puts on the key among the requests that go to the worker
  abbrev pub puts_there : List (ℕ × Sent) → List Put
  puts_there sent = puts_on key (flat_map put_in (to_worker worker sent))

  -- the worker is the session's home of the key
  abbrev pub is_home : Bool
  is_home = home_at table client.session key == worker

  pub puts_there-append : (sent more : List (ℕ × Sent)) → puts_there (sent ++ more) ≡ puts_there sent ++ puts_there more
  puts_there-append sent more =
      ap (λ requests. puts_on key (flat_map put_in requests)) (to_worker-append worker sent more)
      ∙ ap (puts_on key) (flat_map-append put_in (to_worker worker sent) (to_worker worker more))
      ∙ puts_on-append key (flat_map put_in (to_worker worker sent)) (flat_map put_in (to_worker worker more))

  -- of one put
  of_put : (its_key : ℕ) (put : Put) → 1 ≤ put.number → puts_there ((home_at table client.session its_key, SentPut its_key put) ∷ []) ≡ cond is_home (puts_on key ((its_key, put) ∷ [])) []
  of_put its_key put numbered =
      let counts : leb 1 put.number ≡ true = le-leb 1 put.number numbered in
      let counted : ℕ → Bool → List Put = λ its there. puts_on key (flat_map put_in (map request_of (cond there (SentPut its put ∷ []) []))) in
      let it : ℕ → List (ℕ × Put) = λ its. (its, put) ∷ [] in
      elim (eqb_tells its_key key) [
        | inl same ↦
            let here : counted key is_home ≡ cond is_home (puts_on key (it key)) [] =
            elim is_home as (λ there. counted key there ≡ cond there (puts_on key (it key)) []) [
              | true ↦ ap (λ t. puts_on key ((if t then it key else []) ++ [])) counts
              | false ↦ refl
            ] in
            subst (λ its. counted its (home_at table client.session its == worker) ≡ cond is_home (puts_on key (it its)) []) (sym same.1) here
        | inr other ↦
            let none : puts_on key (it its_key) ≡ [] = on_no_other its_key key put other.1 in
            let there : counted its_key (home_at table client.session its_key == worker) ≡ [] =
            elim (home_at table client.session its_key == worker) as (λ there. counted its_key there ≡ []) [
              | true ↦ ap (λ t. puts_on key ((if t then it its_key else []) ++ [])) counts ∙ none
              | false ↦ refl
            ] in
            there ∙ sym (ap (λ xs. cond is_home xs []) none ∙ all_or_none_of_none is_home)
      ]

  -- of several
  of_puts : (made : List (ℕ × Put)) → All (λ entry. 1 ≤ entry.1.number) made → puts_there (puts_sent table client made) ≡ cond is_home (puts_on key made) []
  of_puts [] numbered = sym (all_or_none_of_none is_home)
  of_puts (entry ∷ made) numbered =
      puts_there-append ((home_at table client.session entry.0, SentPut entry.0 entry.1) ∷ []) (puts_sent table client made)
      ∙ (λ j. of_put entry.0 entry.1 (All-head (λ e. 1 ≤ e.1.number) entry made numbered) j ++ of_puts made (All-tail (λ e. 1 ≤ e.1.number) entry made numbered) j)
      ∙ all_or_none-append is_home (puts_on key (entry ∷ [])) (puts_on key made)
      ∙ ap (λ xs. cond is_home xs []) (sym (puts_on-append key (entry ∷ []) made))

  -- asks are no puts
  of_asks : (to number : ℕ → ℕ) (its_key : ℕ) (required : List (ℕ × ℕ)) (places : List ℕ) → puts_there (map (λ i. (to i, SentAsk (number i) its_key required)) places) ≡ []
  of_asks to number its_key required [] = refl
  of_asks to number its_key required (i ∷ places) =
      let others : List (ℕ × Sent) = map (λ i. (to i, SentAsk (number i) its_key required)) places in
      elim (to i == worker) as (λ there. puts_on key (flat_map put_in (map request_of (cond there (SentAsk (number i) its_key required ∷ from_sender worker others) (from_sender worker others)))) ≡ []) [
        | true ↦ of_asks to number its_key required places
        | false ↦ of_asks to number its_key required places
      ]

  pub no_puts_asked : (order : List ℕ) (first its_key : ℕ) (required : List (ℕ × ℕ)) (asks : ℕ) → puts_there (asks_sent order first its_key required asks) ≡ cond is_home [] []
  no_puts_asked order first its_key required asks =
      of_asks (λ i. slice_index_or order (i % length order) 0) (λ i. first + i) its_key required (range_with_len 0 asks) ∙ sym (all_or_none_of_none is_home)

  -- of a line
  of_line : (state : State) (first said : ℕ) (line : Line) (answer : Answer) → All (λ entry. 1 ≤ entry.1.number) (puts_by client state line answer)
      → puts_there (sent_by table client state first said line answer) ≡ cond is_home (puts_on key (puts_by client state line answer)) []
  of_line state first said (lines.Get its_key named) (answers.Got by shown) numbered = no_puts_asked (asked_by client.level table client.session its_key named) first its_key _ _
  of_line state first said (lines.Await its_key session count) (answers.Got by shown) numbered = no_puts_asked (ask_order table client.session its_key) first its_key _ _
  of_line state first said (lines.Get its_key named) (answers.Again asks by clock) numbered = no_puts_asked (ask_order table client.session its_key) first its_key _ _
  of_line state first said (lines.Await its_key session count) (answers.Again asks by clock) numbered = no_puts_asked (ask_order table client.session its_key) first its_key _ _
  of_line state first said line answer numbered = of_puts (puts_by client state line answer) numbered

  -- of all lines
  pub of_lines : (state : State) (first : ℕ) (said : List ℕ) (lines : List Line) (answers : List Answer) → length said ≡ length answers
      → All (λ entry. 1 ≤ entry.1.number) (puts_from client state lines answers)
      → puts_there (sent_from table client state first said lines answers) ≡ cond is_home (puts_on key (puts_from client state lines answers)) []
  of_lines state first (asks ∷ said) (line ∷ lines) (answer ∷ answers) as_many numbered =
      let reached : State = after client state line answer in
      let now : List (ℕ × Put) = puts_by client state line answer in
      let later : List (ℕ × Put) = puts_from client reached lines answers in
      let next : ℕ = first + asks_by client asks line answer in
      puts_there-append (sent_by table client state first asks line answer) (sent_from table client reached next said lines answers)
      ∙ (λ j. of_line state first asks line answer (All-front (λ e. 1 ≤ e.1.number) now later numbered) j
      ++ of_lines reached next said lines answers (omega (arith, as_many)) (All-back (λ e. 1 ≤ e.1.number) now later numbered) j)
      ∙ all_or_none-append is_home (puts_on key now) (puts_on key later)
      ∙ ap (λ xs. cond is_home xs []) (sym (puts_on-append key now later))
  of_lines state first [] (line ∷ lines) (answer ∷ answers) as_many numbered = absurd (omega (arith, as_many))
  of_lines state first said [] answers as_many numbered = sym (all_or_none_of_none is_home)
  of_lines state first said lines [] as_many numbered = sym (all_or_none_of_none is_home)
