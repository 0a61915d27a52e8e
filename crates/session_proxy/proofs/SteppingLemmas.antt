-- A step begins with the open line.
use Rattle.std.specs.Prelude.{◌≡◌, ◌⊎◌, ℕ, ◌+◌, ◌<◌, ◌≤◌, ◌||◌, Bool, true, false, if◌then◌else◌, is_some, List, [], ◌∷◌, ◌++◌, All, length, map, take, unwrap_or, Option, None}
use Rattle.std.proofs.Common.{◌∙◌, refl, sym, ap, subst, arith, inl, inr}
use Rattle.composed_value.specs.declared.payload.Payload.{Payload}
use Rattle.placement.specs.Config.{IsOneOf}
use Rattle.session_known.specs.Lawful.{required}
use Rattle.session_known.specs.Requests.{Sent, puts_sent, sent_from}
use Rattle.session_known.specs.Session.{InState, State, after, held_puts, puts_by, puts_committed}
use Rattle.session_known.specs.declared.report.Answer.{Answer}
use Rattle.session_known.specs.declared.script.Level.{Level}
use Rattle.session_known.specs.declared.script.Level.TheVariants as levels
use Rattle.session_known.specs.declared.script.Line.{Line}
use Rattle.session_known.specs.declared.script.Line.TheVariants as lines
use Rattle.store_msg.specs.Reply.{PlainReply}
use Rattle.store_msg.specs.declared.request.Request.{Request}
use Rattle.session_proxy.proofs.AfterLemmas.{puts_by_due}
use Rattle.session_proxy.proofs.AskLemmas.{most_is, replicas_there}
use Rattle.session_proxy.proofs.ClosingLemmas.{closes_alone}
use Rattle.session_proxy.proofs.KeepsLemmas.{closed_unbegun, keeps_as, keeps_open, may_run}
use Rattle.session_proxy.specs.Beginning.{AnswersAtOnce}
use Rattle.session_proxy.specs.Kept.{ArePutting, Keeps, Stands}
use Rattle.session_proxy.specs.Lines.{AreReplicas, MayRun, answer_at, is_worn, most_asks, puts_due}
use Rattle.session_proxy.specs.Local.{StaysAs, answered_with, course_of, key_asked}
use Rattle.session_proxy.specs.Polls.{AnswersAlone}
use Rattle.session_proxy.specs.Share.{IsAsked, open_most, open_sent, to_worker}
use Rattle.session_proxy.specs.State.{Course, Lists, starting, state_now}
use Rattle.session_proxy.specs.Steps.{BeginsOpen}
use Rattle.session_proxy.specs.declared.local.Begun.{Begun}
use Rattle.session_proxy.specs.declared.local.Begun.TheVariants as ways
use Rattle.session_proxy.specs.declared.local.Local.{Local}

-- a session holds few puts
pub few_held : (lists : Lists) (session : InState) (begun : Begun) (made : Option Request) → Keeps lists session begun made → length (held_puts session.state) ≤ 4096
few_held lists session ways.Nothing made keeps =
    let counts = keeps.counts 0 in
    subst (λ state. length (held_puts state) ≤ 4096) (sym keeps.stands.0) (omega (arith, counts, keeps.share.few, keeps.few_lines))
few_held lists session (ways.Puts puts) made keeps = subst (λ held. length (unwrap_or held []) ≤ 4096) (sym keeps.stands.3.none_held) (omega arith)
few_held lists session (ways.Asks clock) made keeps =
    let counts = keeps.counts 0 in
    subst (λ state. length (held_puts state) ≤ 4096) (sym keeps.stands.0) (omega (arith, counts, keeps.share.few, keeps.few_lines))

-- a line makes one put at most, or those that are held
pub due_if : (first : Bool) (puts : List (ℕ × Payload)) → length (if first then [] else puts) ≤ length puts
due_if true puts = omega arith
due_if false puts = omega arith

due_length : (state : State) (line : Line) → length (puts_due state line) ≤ length (held_puts state) + 1
due_length state (lines.Put key payload) = let few = due_if (is_some state.held || is_worn state) ((key, payload) ∷ []) in omega (arith, few)
due_length state lines.Commit = let few = due_if (is_worn state) (held_puts state) in omega (arith, few)
due_length state (lines.Get key named) = omega arith
due_length state (lines.Await key session count) = omega arith
due_length state lines.Begin = omega arith
due_length state lines.Abort = omega arith

-- a get or an await may ask at least once
some_of_key : (workers : ℕ) (table : List (List ℕ)) (level : Level) (key : ℕ) → All (AreReplicas workers) table → IsOneOf (length table) key → 1 ≤ most_asks table level key
some_of_key workers table levels.Causal key placed known = let some = (replicas_there workers table key placed known).some in omega (arith, some)
some_of_key workers table levels.Eventual key placed known = omega arith
some_of_key workers table levels.Committed key placed known = omega arith

some_asks : (workers : ℕ) (table : List (List ℕ)) (level : Level) (line : Line) → All (AreReplicas workers) table → MayRun table level line → IsAsked line → 1 ≤ most_asks table level (key_asked line)
some_asks workers table level (lines.Get key named) placed may asked = some_of_key workers table level key placed may.0
some_asks workers table level (lines.Await key session count) placed may asked = some_of_key workers table level key placed may.0
some_asks workers table level (lines.Put key payload) placed may asked = absurd asked
some_asks workers table level lines.Begin placed may asked = absurd asked
some_asks workers table level lines.Commit placed may asked = absurd asked
some_asks workers table level lines.Abort placed may asked = absurd asked

module _ (before now : Local) (sent : List (List Request)) (received : List (ℕ × PlainReply)) (keeps : Keeps (record { course = course_of before; sent = sent; received = received }) before.session before.begun before.made) where
  -- what a proxy keeps where nothing is begun
  nothing_keeps : before.begun ≡ ways.Nothing → Keeps (record { course = course_of before; sent = sent; received = received }) before.session ways.Nothing before.made
  nothing_keeps nothing = subst (λ begun. Keeps (record { course = course_of before; sent = sent; received = received }) before.session begun before.made) nothing keeps

  -- how far it is once the open line is answered as it is begun
  answered_course : (opens : BeginsOpen true before now) → course_of now ≡ answered_with (course_of before) (answer_at (state_now (course_of before)) opens.line)
  answered_course opens =
      let kept = nothing_keeps opens.nothing in
      let at_once : AnswersAtOnce opens.line before.session now.session before.answers.items now.answers.items = opens.begins.0 in
      let course : Course = course_of before in
      let answer : Answer = answer_at (state_now course) opens.line in
      opens.course_is ∙ ap (λ client. record course { client = client; answers = now.answers.items }) at_once.client_is
      ∙ ap (λ answers. record course { answers = answers }) (at_once.answers_are ∙ ap (λ state. before.answers.items ++ answer_at state opens.line ∷ []) kept.stands.0)
      ∙ ap (λ out. record course { answers = before.answers.items ++ answer ∷ []; out = out }) kept.stands.1
      ∙ ap (λ waits. record course { answers = before.answers.items ++ answer ∷ []; out = 0; waits = waits }) kept.stands.2.waits
      ∙ ap (λ kept. record course { answers = before.answers.items ++ answer ∷ []; out = 0; waits = false; kept = kept }) kept.stands.2.kept

  -- and what it did then
  pub answered_alone : BeginsOpen true before now → AnswersAlone (record { course = course_of before; sent = sent; received = received }) (record { course = course_of now; sent = sent; received = received })
  answered_alone opens =
      let is = answered_course opens in
      record {
        answers = (
          answer_at (state_now (course_of before)) opens.line,
          ap (λ (course : Course). course.answers) is,
          record { line = opens.line; line_is = opens.line_is; no_ask = opens.begins.0.no_ask; answer_is = refl },
        );
        course = opens.course_is ∙ ap (λ client. record (course_of before) { client = client; answers = now.answers.items }) opens.begins.0.client_is;
        sent = refl;
        received = refl;
        unbegun = closed_unbegun (course_of before) (course_of now) (answer_at (state_now (course_of before)) opens.line) before.asks is;
      }

  -- once the open line is answered as it is begun
  pub answered_keeps : BeginsOpen true before now → Keeps (record { course = course_of now; sent = sent; received = received }) now.session now.begun now.made
  answered_keeps opens =
      let kept = nothing_keeps opens.nothing in
      let at_once : AnswersAtOnce opens.line before.session now.session before.answers.items now.answers.items = opens.begins.0 in
      let course : Course = course_of before in
      let S : State = state_now course in
      let is : before.session.state ≡ S = kept.stands.0 in
      let answer : Answer = answer_at S opens.line in
      let none_due : puts_due S opens.line ≡ [] = ap (λ state. puts_due state opens.line) (sym is) ∙ at_once.no_puts in
      let none_put : puts_sent course.table course.client (puts_by course.client S opens.line answer) ≡ [] =
      ap (puts_sent course.table course.client) (puts_by_due course.client S opens.line at_once.no_ask ∙ ap (puts_committed course.client S.knows (S.knows.lamport + 1) 0) none_due)
      in
      let none_sent : open_sent course ≡ [] = ap (λ n. take n (open_most course)) kept.stands.1 in
      let so_far : List (ℕ × Sent) = sent_from course.table course.client (starting course) 1 (map length kept.share.replies) course.lines course.answers in
      let state_is : now.session.state ≡ after course.client S opens.line answer = at_once.state_is ∙ ap (λ state. after course.client state opens.line (answer_at state opens.line)) is in
      let closed = closes_alone (record { course = course; sent = sent; received = received }) opens.line opens.line_is at_once.no_ask before.session ways.Nothing before.made kept kept.stands.2.kept sent now.session refl
      (λ w of. kept.share.sent w of ∙ ap (λ its. to_worker w (so_far ++ its)) (none_sent ∙ sym none_put)) at_once.client_is state_is
      in
      keeps_as now sent received (answered_with course answer) now.session ways.Nothing None
      (record { course_is = answered_course opens; session_is = refl; begun_is = opens.begins.1 ∙ opens.nothing; made_is = opens.made_is ∙ kept.stands.3 }) closed

  -- the puts of the open line are to be made
  opened_puts : (kept : Keeps (record { course = course_of before; sent = sent; received = received }) before.session ways.Nothing before.made) (line : Line) → (IsAsked line → ⊥) → 0 < length (puts_due (state_now (course_of before)) line)
      → ArePutting (course_of before) line (record { knows = (state_now (course_of before)).knows; held = None })
      (record { puts = puts_due (state_now (course_of before)) line; lamport = (state_now (course_of before)).knows.lamport + 1 }) None
  opened_puts kept line no_ask some =
      let none : before.out + 0 ≡ 0 = omega (arith, kept.stands.1) in
      record {
        puts_are = refl;
        lamport_is = refl;
        no_ask = no_ask;
        left = omega (arith, kept.stands.1, some);
        none_held = refl;
        rest = rw none refl;
        knows = rw none refl;
        low = omega arith;
        counts = λ key. rw none (let counts = kept.counts key in let due = due_length (state_now (course_of before)) line in omega (arith, counts, due));
        made_is = tt;
      }

  -- once it is begun
  pub begun_keeps : BeginsOpen false before now → Keeps (record { course = course_of now; sent = sent; received = received }) now.session now.begun now.made
  begun_keeps opens =
      let kept = nothing_keeps opens.nothing in
      let course : Course = course_of before in
      let S : State = state_now course in
      let is : before.session.state ≡ S = kept.stands.0 in
      let same_course : now.session.client ≡ before.session.client → course_of now ≡ course = λ client_is.
      opens.course_is ∙ ap (λ client. record course { client = client; answers = now.answers.items }) client_is ∙ ap (λ answers. record course { answers = answers }) opens.begins.1 in
      let stands_so : (session : InState) (begun : Begun) → session.client ≡ course.client → Stands course session.state begun None
      → Keeps (record { course = course; sent = sent; received = received }) session begun None =
      λ session begun client_is stands. keeps_open kept course.out course.waits course.kept sent received session begun None refl client_is kept.share stands in
      elim opens.begins.0 [
        | inl puts ↦
            let client_is = puts.client_is in
            let due = subst (λ state. 0 < length (puts_due state opens.line)) is puts.some in
            let made : now.made ≡ None = opens.made_is ∙ kept.stands.3 in
            let begun_of : State → Begun = λ state. ways.Puts (record { puts = puts_due state opens.line; lamport = state.knows.lamport + 1 }) in
            let begun_is : now.begun ≡ begun_of S = puts.begun_is ∙ ap begun_of is in
            let state_is : now.session.state ≡ record { knows = S.knows; held = None } = puts.state_is ∙ ap (λ (state : State). record { knows = state.knows; held = None }) is in
            keeps_as now sent received course now.session (begun_of S) None (record { course_is = same_course client_is; session_is = refl; begun_is = begun_is; made_is = made }) (
            stands_so now.session (begun_of S) client_is (
              kept.stands.2,
              opens.line,
              opens.line_is,
              subst (λ state. ArePutting course opens.line state (record { puts = puts_due S opens.line; lamport = S.knows.lamport + 1 }) None) (sym state_is) (opened_puts kept opens.line puts.no_ask due),
            ))
        | inr asks ↦
            let client_is : now.session.client ≡ before.session.client = ap (λ (session : InState). session.client) asks.session_is in
            let made : now.made ≡ None = opens.made_is ∙ kept.stands.3 in
            let begun_is : now.begun ≡ ways.Asks (required course.client S.knows opens.line) = asks.begun_is ∙ ap (λ (state : State). ways.Asks (required course.client state.knows opens.line)) is in
            let known = may_run (record { course = course; sent = sent; received = received }) opens.line opens.line_is before.session ways.Nothing before.made kept in
            let some = some_asks (length sent) course.table course.client.level opens.line kept.placed known asks.asked in
            let most = most_is course opens.line opens.line_is asks.asked in
            keeps_as now sent received course now.session (ways.Asks (required course.client S.knows opens.line)) None (record { course_is = same_course client_is; session_is = refl; begun_is = begun_is; made_is = made }) (
            stands_so now.session (ways.Asks (required course.client S.knows opens.line)) client_is (
              ap (λ (session : InState). session.state) asks.session_is ∙ is,
              opens.line,
              opens.line_is,
              record { asked = asks.asked; left = λ waits. omega (arith, some, most, kept.stands.1); required_is = refl },
              refl,
            ))
      ]

  -- a line that goes on was begun before, or is begun now
  pub goes_keeps : StaysAs before now ⊎ BeginsOpen false before now → Keeps (record { course = course_of now; sent = sent; received = received }) now.session now.begun now.made
  goes_keeps (inl stays) = keeps_as now sent received (course_of before) before.session before.begun before.made stays keeps
  goes_keeps (inr opens) = begun_keeps opens
