-- The sessions, judged one after another.
use Rattle.std.specs.Prelude.{◌≡◌, ℕ, zero, suc, ◌+◌, ◌<◌, ◌≤◌, List, [], ◌∷◌, ◌++◌, All, drop, length, map, take, get_or, Option, Some, None, MatchOption, ⊤}
use Rattle.std.specs.List.{AllZip}
use Rattle.std.proofs.Common.{refl, sym, ap, subst, ◌∙◌, append_assoc, append-nil, length-append, inl, inr, arith}
use Rattle.std.proofs.lemmas.List.{at_drop_more, at_drop_all, length-map, length-take}
use Rattle.std.proofs.lemmas.Option.{slice_get-get_or}
use Rattle.std.proofs.lemmas.List.Sums.{get_or-le-sum_by}
use Rattle.std.proofs.lemmas.Slice.Zip.{AllZip-long}
use Rattle.composed_value.specs.declared.kind.Kind.{Kind}
use Rattle.composed_value.specs.declared.put.Put.{Put}
use Rattle.session_known.specs.Accepted.{client_of, accepted_from, end_of, ends_from, origin_of, start_of}
use Rattle.session_known.specs.Form.{Fits}
use Rattle.session_known.specs.Lawful.{AreLawful}
use Rattle.session_known.specs.Legal.{AreLawfulFrom}
use Rattle.session_known.proofs.EndsLemmas.{IsEarlier, earlier_at, ends_go_on, origin_front}
use Rattle.placement.specs.Config.{IsOneOf}
use Rattle.session_known.specs.Script.{MayComeAfter, MayStand, IsValidScript}
use Rattle.session_known.specs.Session.{Client, Knowledge, Knows, State, start, puts_from}
use Rattle.session_known.specs.declared.report.Answer.{Answer}
use Rattle.session_known.specs.declared.report.Answer.TheVariants as answers
use Rattle.session_known.specs.declared.script.Level.{Level}
use Rattle.session_known.specs.declared.script.Level.TheVariants.{Causal}
use Rattle.session_known.specs.declared.script.Line.{Line}
use Rattle.session_known.specs.declared.script.Line.TheVariants as lines
use Rattle.session_known.specs.declared.script.Script.{Script}
use Rattle.session_known.specs.declared.script.SessionPlan.{SessionPlan}
use Rattle.anna_check.specs.ByKey.{OfKey, kinds_of, AreByKey}
use Rattle.anna_check.specs.Judged.{NamesKey, NamesWorker, MayTake, CanBeJudged, AnswersFit, MayBegin}
use Rattle.anna_check.specs.Unlawful.{IsFirstUnlawful, IsFirstUnlawfulFrom}

-- what holds place by place holds at a place
pub zip_at : {A B : Type 0} (R : A → B → Type 0) (xs : List A) (ys : List B) → AllZip R xs ys → (i : ℕ) (d : A) (e : B) → i < length xs → R (get_or xs i d) (get_or ys i e)
zip_at R [] ys all i d e within = absurd (omega (arith, within))
zip_at R (x ∷ xs) [] all i d e within = absurd all
zip_at R (x ∷ xs) (y ∷ ys) all zero d e within = all.0
zip_at R (x ∷ xs) (y ∷ ys) all (suc i) d e within = zip_at R xs ys all.1 i d e (omega (arith, within))

-- each session has answers
pub answers_each : (script : Script) (answered : List (List Answer)) → AnswersFit script answered → length answered ≡ length script.sessions
answers_each script answered fit = AllZip-long (λ (plan : SessionPlan) (answers : List Answer). AllZip (Fits script plan.level) plan.lines answers) script.sessions answered fit

-- what was found of a session, its lines and their answers is found of the same
pub same_lawful : (table : List (List ℕ)) {judged_client client : Client} {judged_state state : State} {found others : Option ℕ} {given of_session : List Line} {told answered : List Answer}
    → judged_client ≡ client → judged_state ≡ state → found ≡ others → given ≡ of_session → told ≡ answered
    → MatchOption found (AreLawful table judged_client judged_state [] given told) (IsFirstUnlawful table judged_client judged_state [] given told)
    → MatchOption others (AreLawful table client state [] of_session answered) (IsFirstUnlawful table client state [] of_session answered)
same_lawful table client_is state_is found_is lines_are answers_are is =
    subst (λ (at : Client × State × Option ℕ × List Line × List Answer). MatchOption at.2 (AreLawful table at.0 at.1 [] at.3 at.4) (IsFirstUnlawful table at.0 at.1 [] at.3 at.4))
    (λ j. (client_is j, state_is j, found_is j, lines_are j, answers_are j)) is

-- a line that may stand names a key that there is
key_named : (script : Script) (table : List (List ℕ)) (level : Level) (line : Line) → MayStand script table level line → NamesKey (length script.config.keys) line
key_named script table level (lines.Put key payload) may = may.0
key_named script table level (lines.Get key named) may = may.0
key_named script table level (lines.Await key session count) may = may.0
key_named script table level lines.Begin may = tt
key_named script table level lines.Commit may = tt
key_named script table level lines.Abort may = tt

-- and its payload may be put to its key
may_take : (script : Script) (table : List (List ℕ)) (level : Level) (line : Line) → length script.kinds ≡ length script.config.keys → MayStand script table level line → MayTake script.kinds line
may_take script table level (lines.Put key payload) same may = record { key_is = subst (λ n. IsOneOf n key) (sym same) may.0; payload_is = may.1; of_kind = may.2 }
may_take script table level (lines.Get key named) same may = tt
may_take script table level (lines.Await key session count) same may = tt
may_take script table level lines.Begin same may = tt
may_take script table level lines.Commit same may = tt
may_take script table level lines.Abort same may = tt

-- an answer that the line may have names a worker that there is
worker_named : (script : Script) (level : Level) (line : Line) (answer : Answer) → Fits script level line answer → NamesWorker script.config.workers answer
worker_named script level (lines.Get key named) (answers.Got worker shown) fits = fits.worker_is
worker_named script level (lines.Await key session count) (answers.Got worker shown) fits = fits.worker_is
worker_named script level (lines.Get key named) (answers.Again asks worker clock) fits = fits.worker_is
worker_named script level (lines.Await key session count) (answers.Again asks worker clock) fits = fits.worker_is
worker_named script level (lines.Put key payload) (answers.Got worker shown) fits = absurd fits
worker_named script level (lines.Put key payload) (answers.Again asks worker clock) fits = absurd fits
worker_named script level lines.Begin (answers.Got worker shown) fits = absurd fits
worker_named script level lines.Begin (answers.Again asks worker clock) fits = absurd fits
worker_named script level lines.Commit (answers.Got worker shown) fits = absurd fits
worker_named script level lines.Commit (answers.Again asks worker clock) fits = absurd fits
worker_named script level lines.Abort (answers.Got worker shown) fits = absurd fits
worker_named script level lines.Abort (answers.Again asks worker clock) fits = absurd fits
worker_named script level line (answers.Put number lamport) fits = tt
worker_named script level line answers.Worn fits = tt
worker_named script level line answers.Held fits = tt
worker_named script level line answers.Begun fits = tt
worker_named script level line (answers.Committed puts lamport) fits = tt
worker_named script level line (answers.Aborted puts) fits = tt

-- The lines of a session of a valid script can be judged with the answers of a report in form.
pub can_be_judged : (script : Script) (table : List (List ℕ)) (all_answers : List (List Answer)) (i : ℕ) (plan : SessionPlan) (theirs : List Answer) → IsValidScript script table → AllZip (λ plan answers. AllZip (Fits script plan.level) plan.lines answers) script.sessions all_answers
    → i < length script.sessions → plan ≡ get_or script.sessions i plan → theirs ≡ get_or all_answers i theirs → CanBeJudged script.kinds script.config.workers plan.lines theirs
can_be_judged script table all_answers i plan theirs valid form within plan_is theirs_is =
    let Each : SessionPlan → List Answer → Type 0 = λ plan answers. AllZip (Fits script plan.level) plan.lines answers in
    let fits : Each plan theirs = subst (λ (at : SessionPlan × List Answer). Each at.0 at.1) (λ j. (sym plan_is j, sym theirs_is j)) (zip_at Each script.sessions all_answers form i plan theirs within) in
    let may : All (MayStand script table plan.level) plan.lines = subst (λ (plan : SessionPlan). All (MayStand script table plan.level) plan.lines) (sym plan_is) (valid.sessions i plan within).lines in
    let long : length theirs ≡ length plan.lines = AllZip-long (Fits script plan.level) plan.lines theirs fits in
    record {
      few = (let one = get_or-le-sum_by (λ (plan : SessionPlan). length plan.lines) script.sessions i plan within in let all = valid.few_lines in let same : length plan.lines ≡ length (get_or script.sessions i plan).lines = ap (λ (plan : SessionPlan). length plan.lines) plan_is in omega (arith, one, all, same));
      each = long;
      keys = λ k d inside. subst (λ n. NamesKey n (get_or plan.lines k d)) (sym valid.kinds) (key_named script table plan.level (get_or plan.lines k d) (may k d inside));
      payloads = λ k d inside. may_take script table plan.level (get_or plan.lines k d) valid.kinds (may k d inside);
      workers_named = λ k d inside. worker_named script plan.level (get_or plan.lines k lines.Begin) (get_or theirs k d) (zip_at (Fits script plan.level) plan.lines theirs fits k lines.Begin d (omega (arith, inside, long)));
    }

-- a session of a valid script may begin where those before it have ended
pub may_begin : (script : Script) (table : List (List ℕ)) (i : ℕ) (plan : SessionPlan) (ends : List Knows) → IsValidScript script table → i < length script.sessions → plan ≡ get_or script.sessions i plan → length (map (λ end. end.knows) ends) ≡ i → MayBegin ends plan
may_begin script table i plan ends valid within plan_is long =
    may_of plan.after (valid.orders i plan (slice_get-get_or script.sessions i plan within ∙ ap Some (sym plan_is)))
  where
    may_of : (after : Option ℕ) → MatchOption after ⊤ (MayComeAfter script.version (take i script.sessions) plan.level) → MatchOption after ⊤ (λ after. IsOneOf (length ends) after × (plan.level ≡ Causal))
    may_of None may = tt
    may_of (Some after) may =
        let many = length-take i script.sessions in
        let as_many = length-map ends (λ end. end.knows) in
        ((may.is_earlier.0, omega (arith, may.is_earlier.1, many, long, as_many)), may.causal)

-- and it comes after one of them, if it comes after one
pub is_earlier : (script : Script) (table : List (List ℕ)) (i : ℕ) (plan : SessionPlan) → IsValidScript script table → i < length script.sessions → plan ≡ get_or script.sessions i plan → IsEarlier i plan.after
is_earlier script table i plan valid within plan_is = earlier_at script table valid i plan (slice_get-get_or script.sessions i plan within ∙ ap Some (sym plan_is))

-- So many sessions were judged, and were lawful: where those that are left are lawful all are, the first place of them that is not is the
-- first of all, and what was accepted with what they accept is what all accept.
pub record AreSessionsJudging (table : List (List ℕ)) (ends : List Knowledge) (sessions : List SessionPlan) (all_answers : List (List Answer)) (accepted : List OfKey) (i : ℕ) (known : List Knowledge) (more : List OfKey) : Type 0 where
  pub long : length known ≡ i
  pub go_on : ends_from known (i + 1) (drop i sessions) (drop i all_answers) ≡ ends
  pub lawful : AreLawfulFrom table ends (i + 1) (drop i sessions) (drop i all_answers) → AreLawfulFrom table ends 1 sessions all_answers
  pub unlawful : (session command : ℕ) → IsFirstUnlawfulFrom table ends (i + 1) (drop i sessions) (drop i all_answers) session command → IsFirstUnlawfulFrom table ends 1 sessions all_answers session command
  pub kinds : kinds_of more ≡ kinds_of accepted
  pub puts : (kinds : List Kind) (made : List (ℕ × Put)) → AreByKey kinds made accepted
      → (so_far : List (ℕ × Put)) × AreByKey kinds so_far more × (so_far ++ accepted_from ends (i + 1) (drop i sessions) (drop i all_answers) ≡ made ++ accepted_from ends 1 sessions all_answers)

module _ (table : List (List ℕ)) (ends : List Knowledge) (sessions : List SessionPlan) (all_answers : List (List Answer)) (accepted : List OfKey) (i : ℕ) (known : List Knowledge) (more : List OfKey) (are : AreSessionsJudging table ends sessions all_answers accepted i known more) (each : length all_answers ≡ length sessions) where
  module _ (plan : SessionPlan) (theirs : List Answer) (within : i < length sessions) (plan_is : plan ≡ get_or sessions i plan) (theirs_is : theirs ≡ get_or all_answers i theirs) (earlier : IsEarlier i plan.after) where
    -- the session is the first of those that are left
    sessions_left : drop i sessions ≡ plan ∷ drop (i + 1) sessions
    sessions_left = at_drop_more (λ xs. xs) sessions i plan within ∙ ap (λ first. first ∷ drop (i + 1) sessions) (sym plan_is)

    -- and so are its answers
    theirs_left : drop i all_answers ≡ theirs ∷ drop (i + 1) all_answers
    theirs_left = at_drop_more (λ xs. xs) all_answers i theirs (omega (arith, within, each)) ∙ ap (λ first. first ∷ drop (i + 1) all_answers) (sym theirs_is)

    -- what is said of those that are left, of the session and those after it
    of_sessions_left : (P : List SessionPlan → List (List Answer) → Type 0) → P (plan ∷ drop (i + 1) sessions) (theirs ∷ drop (i + 1) all_answers) → P (drop i sessions) (drop i all_answers)
    of_sessions_left P is = subst (λ (at : List SessionPlan × List (List Answer)). P at.0 at.1) (λ j. (sym sessions_left j, sym theirs_left j)) is

    -- the session starts as those before it say
    starts : start_of known plan ≡ start_of ends plan
    starts =
        let go = ends_go_on known (i + 1) (drop i sessions) (drop i all_answers) in
        let is : origin_of ends plan.after ≡ origin_of known plan.after = ap (λ ends. origin_of ends plan.after) (sym are.go_on ∙ go.1) ∙ origin_front known go.0 plan.after (subst (λ n. IsEarlier n plan.after) (sym are.long) earlier) in
        ap start (sym is)

    -- The session has the first answer that is not lawful.
    pub session_unlawful : (command : ℕ) → IsFirstUnlawful table (client_of (i + 1) plan) (start_of known plan) [] plan.lines theirs command → IsFirstUnlawfulFrom table ends 1 sessions all_answers (i + 1) command
    session_unlawful command first = are.unlawful (i + 1) command (of_sessions_left (λ left answered. IsFirstUnlawfulFrom table ends (i + 1) left answered (i + 1) command) (inl (refl, subst (λ state. IsFirstUnlawful table (client_of (i + 1) plan) state [] plan.lines theirs command) starts first)))

    -- The session is lawful too.
    pub session_lawful : (end : Knowledge) (last : List OfKey) → AreLawful table (client_of (i + 1) plan) (start_of known plan) [] plan.lines theirs → end ≡ end_of known (i + 1) plan theirs → kinds_of last ≡ kinds_of more
        → ((kinds : List Kind) (puts : List (ℕ × Put)) → AreByKey kinds puts more → AreByKey kinds (puts ++ puts_from (client_of (i + 1) plan) (start_of known plan) plan.lines theirs) last) → AreSessionsJudging table ends sessions all_answers accepted (i + 1) (known ++ end ∷ []) last
    session_lawful end last lawful_there end_is kinds_are puts_are =
        let lawful = subst (λ state. AreLawful table (client_of (i + 1) plan) state [] plan.lines theirs) starts lawful_there in
        let by = puts_from (client_of (i + 1) plan) (start_of ends plan) plan.lines theirs in
        let longer = length-append known (end ∷ []) in
        record {
          long = omega (arith, longer, are.long);
          go_on = ap (λ end. ends_from (known ++ end ∷ []) (i + 1 + 1) (drop (i + 1) sessions) (drop (i + 1) all_answers)) end_is
              ∙ sym (λ j. ends_from known (i + 1) (sessions_left j) (theirs_left j)) ∙ are.go_on;
          lawful = λ rest. are.lawful (of_sessions_left (AreLawfulFrom table ends (i + 1)) (lawful, rest));
          unlawful = λ session command rest. are.unlawful session command (of_sessions_left (λ left answered. IsFirstUnlawfulFrom table ends (i + 1) left answered session command) (inr (lawful, rest)));
          kinds = kinds_are ∙ are.kinds;
          puts = λ kinds made by_key.
              let so_far = are.puts kinds made by_key in (
                so_far.0 ++ by,
                subst (λ state. AreByKey kinds (so_far.0 ++ puts_from (client_of (i + 1) plan) state plan.lines theirs) last) starts (puts_are kinds so_far.0 so_far.1),
                append_assoc so_far.0 by (accepted_from ends (i + 1 + 1) (drop (i + 1) sessions) (drop (i + 1) all_answers))
                    ∙ sym (λ j. so_far.0 ++ accepted_from ends (i + 1) (sessions_left j) (theirs_left j))
                    ∙ so_far.2,
              );
        }

  -- All sessions were judged.
  pub sessions_judged : length sessions ≤ i → AreLawfulFrom table ends 1 sessions all_answers × ((kinds : List Kind) (made : List (ℕ × Put)) → AreByKey kinds made accepted → AreByKey kinds (made ++ accepted_from ends 1 sessions all_answers) more)
  sessions_judged all =
      let no_sessions : drop i sessions ≡ [] = at_drop_all (λ xs. xs) sessions i all in
      let no_answers : drop i all_answers ≡ [] = at_drop_all (λ xs. xs) all_answers i (omega (arith, all, each)) in (
        are.lawful (subst (λ (at : List SessionPlan × List (List Answer)). AreLawfulFrom table ends (i + 1) at.0 at.1) (λ j. (sym no_sessions j, sym no_answers j)) tt),
        (λ kinds made by_key.
            let so_far = are.puts kinds made by_key in
            subst (λ puts. AreByKey kinds puts more) (sym (append-nil so_far.0) ∙ sym (λ j. so_far.0 ++ accepted_from ends (i + 1) (no_sessions j) (no_answers j)) ∙ so_far.2) so_far.1),
      )
