-- Answering a line that asks nothing.
use Rattle.std.specs.Prelude.{◌≡◌, ℕ, ◌+◌, ◌-◌, Bool, true, false, is_some, if◌then◌else◌, List, [], ◌∷◌, ◌++◌, All, drop, flat_map, length, map, slice_index_or, Option, Some, None, IfSome}
use Rattle.std.proofs.Common.{◌∙◌, refl, sym, ap, subst, arith, append-nil}
use Rattle.std.proofs.lemmas.List.Elements.{All-append, All-cons, All-nil}
use Rattle.composed_value.specs.declared.payload.Payload.{Payload}
use Rattle.placement.specs.Config.{IsOneOf}
use Rattle.session_known.specs.Lawful.{IsLawful}
use Rattle.session_known.specs.Requests.{puts_sent, sent_by, sent_from}
use Rattle.session_known.specs.Script.{AreEnded}
use Rattle.session_known.specs.Session.{Client, InState, State, after, held_puts, puts_by}
use Rattle.session_known.specs.declared.report.Answer.{Answer}
use Rattle.session_known.specs.declared.report.Answer.TheVariants as answers
use Rattle.session_known.specs.declared.script.Level.{Level}
use Rattle.session_known.specs.declared.script.Line.{Line}
use Rattle.session_known.specs.declared.script.Line.TheVariants as lines
use Rattle.store_msg.specs.Reply.{PlainReply}
use Rattle.store_msg.specs.declared.request.Request.{Request}
use Rattle.session_proxy.proofs.AfterLemmas.{at_is_lawful, counts_at, ended_at}
use Rattle.session_proxy.proofs.KeepsLemmas.{closed_keeps, closed_share, may_run}
use Rattle.session_proxy.proofs.SentLemmas.{drop_one_more}
use Rattle.session_proxy.specs.Kept.{IsOn, Keeps}
use Rattle.session_proxy.specs.Lines.{MayRun, answer_at, is_worn, puts_due}
use Rattle.session_proxy.specs.Local.{answered_with}
use Rattle.session_proxy.specs.Run.{IsAnswered, IsPartOf}
use Rattle.session_proxy.specs.Share.{IsAsked, kept_reply, to_worker}
use Rattle.session_proxy.specs.State.{Lists, open_line, starting, state_now}
use Rattle.session_proxy.specs.declared.local.Begun.{Begun}
use Rattle.session_proxy.specs.declared.local.Begun.TheVariants as ways

-- of two lists all hold, so of the one that is chosen
all_if : {X : Type 0} (P : X → Type 0) (first : Bool) (xs ys : List X) → All P xs → All P ys → All P (if first then xs else ys)
all_if P true xs ys of_first of_other = of_first
all_if P false xs ys of_first of_other = of_other

-- the puts that a line makes are on keys that are there
pub due_known : (table : List (List ℕ)) (level : Level) (state : State) (line : Line) → MayRun table level line → All (IsOn table) (held_puts state) → All (IsOn table) (puts_due state line)
due_known table level state (lines.Put key payload) may held = all_if (IsOn table) _ [] ((key, payload) ∷ []) (All-nil (IsOn table)) (All-cons (IsOn table) (key, payload) [] may (All-nil (IsOn table)))
due_known table level state lines.Commit may held = all_if (IsOn table) (is_worn state) [] (held_puts state) (All-nil (IsOn table)) held
due_known table level state (lines.Get key named) may held = All-nil (IsOn table)
due_known table level state (lines.Await key session count) may held = All-nil (IsOn table)
due_known table level state lines.Begin may held = All-nil (IsOn table)
due_known table level state lines.Abort may held = All-nil (IsOn table)

-- a put is held, or changes nothing of what is held
held_by_put : (table : List (List ℕ)) (client : Client) (state : State) (key : ℕ) (payload : Payload) (begun worn : Bool) (number lamport : ℕ) → IsOneOf (length table) key → All (IsOn table) (held_puts state)
    → All (IsOn table) (held_puts (after client state (lines.Put key payload) (if begun then answers.Held else (if worn then answers.Worn else answers.Put number lamport))))
held_by_put table client state key payload true worn number lamport known held = All-append (IsOn table) (held_puts state) ((key, payload) ∷ []) held (All-cons (IsOn table) (key, payload) [] known (All-nil (IsOn table)))
held_by_put table client state key payload false true number lamport known held = held
held_by_put table client state key payload false false number lamport known held = held

-- after a commit nothing is held
held_by_commit : (table : List (List ℕ)) (client : Client) (state : State) (worn : Bool) (puts lamport : ℕ) → All (IsOn table) (held_puts (after client state lines.Commit (if worn then answers.Worn else answers.Committed puts lamport)))
held_by_commit table client state true puts lamport = All-nil (IsOn table)
held_by_commit table client state false puts lamport = All-nil (IsOn table)

-- what a session holds after a line stays on keys that are there
pub held_at : (table : List (List ℕ)) (client : Client) (state : State) (line : Line) → (IsAsked line → ⊥) → MayRun table client.level line → All (IsOn table) (held_puts state)
    → All (IsOn table) (held_puts (after client state line (answer_at state line)))
held_at table client state (lines.Put key payload) no_ask may held = held_by_put table client state key payload (is_some state.held) (is_worn state) _ _ may held
held_at table client state lines.Commit no_ask may held = held_by_commit table client state (is_worn state) _ _
held_at table client state (lines.Get key named) no_ask may held = absurd (no_ask tt)
held_at table client state (lines.Await key session count) no_ask may held = absurd (no_ask tt)
held_at table client state lines.Begin no_ask may held = All-nil (IsOn table)
held_at table client state lines.Abort no_ask may held = All-nil (IsOn table)

-- a line that asks nothing is answered by no reply
pub answered_alone : (table : List (List ℕ)) (client : Client) (state : State) (first : ℕ) (line : Line) (answer : Answer) → (IsAsked line → ⊥) → IsLawful table client state [] line answer → IsAnswered table client state first line answer []
answered_alone table client state first (lines.Put key payload) answer no_ask lawful = (lawful, refl)
answered_alone table client state first (lines.Get key named) answer no_ask lawful = absurd (no_ask tt)
answered_alone table client state first (lines.Await key session count) answer no_ask lawful = absurd (no_ask tt)
answered_alone table client state first lines.Begin answer no_ask lawful = (lawful, refl)
answered_alone table client state first lines.Commit answer no_ask lawful = (lawful, refl)
answered_alone table client state first lines.Abort answer no_ask lawful = (lawful, refl)

-- and sends its puts
pub sent_alone : (table : List (List ℕ)) (client : Client) (state : State) (first said : ℕ) (line : Line) (answer : Answer) → (IsAsked line → ⊥) → sent_by table client state first said line answer ≡ puts_sent table client (puts_by client state line answer)
sent_alone table client state first said (lines.Put key payload) answer no_ask = refl
sent_alone table client state first said (lines.Get key named) answer no_ask = absurd (no_ask tt)
sent_alone table client state first said (lines.Await key session count) answer no_ask = absurd (no_ask tt)
sent_alone table client state first said lines.Begin answer no_ask = refl
sent_alone table client state first said lines.Commit answer no_ask = refl
sent_alone table client state first said lines.Abort answer no_ask = refl

module _ (lists : Lists) (line : Line) (at : open_line lists.course ≡ Some line) (no_ask : IsAsked line → ⊥) (session : InState) (begun : Begun) (made : Option Request) (keeps : Keeps lists session begun made) (none_kept : lists.course.kept ≡ None) where
  -- a line that asks nothing lacks no reply
  pub none_lack : keeps.share.lacking ≡ []
  none_lack = subst (λ option. IfSome option (λ line. (IsAsked line → ⊥) → keeps.share.lacking ≡ [])) at keeps.share.lacking_are.none no_ask

  -- once such a line is answered, and its puts are sent
  pub closes_alone : (sent : List (List Request)) (session_now : InState) → length sent ≡ length lists.sent
      → ((w : ℕ) → IsOneOf (length sent) w → slice_index_or sent (w - 1) [] ≡ to_worker w (sent_from lists.course.table lists.course.client (starting lists.course) 1 (map length keeps.share.replies) lists.course.lines lists.course.answers
      ++ puts_sent lists.course.table lists.course.client (puts_by lists.course.client (state_now lists.course) line (answer_at (state_now lists.course) line))))
      → session_now.client ≡ lists.course.client → session_now.state ≡ after lists.course.client (state_now lists.course) line (answer_at (state_now lists.course) line)
      → Keeps (record { course = answered_with lists.course (answer_at (state_now lists.course) line); sent = sent; received = lists.received }) session_now ways.Nothing None
  closes_alone sent session_now as_many sends client state =
      let S : State = state_now lists.course in
      let answer : Answer = answer_at S line in
      let asks : lists.course.asks ≡ lists.course.asks + 0 = omega arith in
      let lawful = at_is_lawful lists.course.table lists.course.client S line (drop (length lists.course.answers + 1) lists.course.lines) no_ask
      (subst (AreEnded (is_some S.held)) (drop_one_more lists.course.lines (length lists.course.answers) line at) keeps.ended)
      in
      let flat : List PlainReply = flat_map (λ (answering : List PlainReply). answering) keeps.share.replies in
      let part : flat ++ keeps.share.lacking ++ kept_reply lists.course.kept ≡ flat ++ [] =
      ap (λ lacking. flat ++ lacking ++ kept_reply lists.course.kept) none_lack ∙ ap (λ kept. flat ++ [] ++ kept_reply kept) none_kept ∙ append-nil _
      in
      let share = closed_share lists line at answer [] lists.course.asks asks sent lists.received keeps.share
      (answered_alone lists.course.table lists.course.client S (lists.course.asks + 1) line answer no_ask lawful)
      (λ w of. sends w of ∙ ap (λ its. to_worker w (sent_from lists.course.table lists.course.client (starting lists.course) 1 (map length keeps.share.replies) lists.course.lines lists.course.answers ++ its))
      (sym (sent_alone lists.course.table lists.course.client S (lists.course.asks + 1) 0 line answer no_ask)))
      (subst (λ part. IsPartOf part (map (λ message. message.1) lists.received)) part keeps.share.received)
      in
      closed_keeps lists line at answer [] lists.course.asks asks sent lists.received session begun made session_now keeps share as_many (omega arith) client state
      (λ others ended. ended_at lists.course.client S line others no_ask ended) (λ key. counts_at lists.course.client S line key no_ask)
      (held_at lists.course.table lists.course.client S line no_ask (may_run lists line at session begun made keeps) keeps.held)
