-- A line's next put is sent.
use Rattle.std.specs.Prelude.{◌≡◌, ℕ, ◌+◌, ◌-◌, ◌<◌, ◌≤◌, ◌^◌, Bool, true, false, if◌then◌else◌, List, [], ◌∷◌, ◌++◌, All, drop, length, map, slice_get, slice_index_or, slice_set, Option, Some, None, IfSome}
use Rattle.std.proofs.Common.{◌∙◌, sym, ap, subst, arith, take_all}
use Rattle.std.proofs.Math.ListN.{drop_of_length-le}
use Rattle.composed_value.specs.declared.payload.Payload.{Payload}
use Rattle.composed_value.specs.declared.payload.Payload.TheVariants as payloads
use Rattle.placement.specs.Asked.{home_at}
use Rattle.placement.specs.Config.{IsOneOf}
use Rattle.session_known.specs.Requests.{Sent, puts_sent, sent_from}
use Rattle.session_known.specs.Session.{InState, State, after, held_puts, knows_committed, puts_by}
use Rattle.session_known.specs.declared.script.Line.{Line}
use Rattle.session_known.specs.declared.script.Line.TheVariants as lines
use Rattle.store_msg.specs.declared.request.Request.{Request}
use Rattle.session_proxy.proofs.AfterLemmas.{after_due, answer_sent_is}
use Rattle.session_proxy.proofs.AskLemmas.{home_is_worker}
use Rattle.session_proxy.proofs.ClosingLemmas.{closes_alone, due_known}
use Rattle.session_proxy.proofs.KeepsLemmas.{keeps_open, may_run, open_most_is}
use Rattle.session_proxy.proofs.PutsLemmas.{made_there, most_of_puts, puts_length}
use Rattle.session_proxy.proofs.SentLemmas.{as_many_then, sent_then, share_then}
use Rattle.session_proxy.specs.Kept.{ArePutting, IsOn, Keeps}
use Rattle.session_proxy.specs.Lines.{answer_at, is_worn, puts_due}
use Rattle.session_proxy.specs.Local.{answer_sent, answered_with, put_at}
use Rattle.session_proxy.specs.Share.{IsAsked, lacks, open_most, request_of, to_worker}
use Rattle.session_proxy.specs.State.{Course, Lists, open_line, starting, state_now}
use Rattle.session_proxy.specs.declared.local.Begun.TheVariants as ways
use Rattle.session_proxy.specs.declared.local.Puts.{Puts}

-- a line makes no more puts than a session holds, and one
few_if : (first : Bool) (puts : List (ℕ × Payload)) → length puts ≤ 4097 → length (if first then [] else puts) ≤ 4097
few_if true puts few = omega arith
few_if false puts few = few

few_due : (state : State) (line : Line) → length (held_puts state) ≤ 4096 → length (puts_due state line) ≤ 4097
few_due state (lines.Put key payload) few = few_if _ ((key, payload) ∷ []) (omega arith)
few_due state lines.Commit few = few_if (is_worn state) (held_puts state) (omega (arith, few))
few_due state (lines.Get key named) few = omega arith
few_due state (lines.Await key session count) few = omega arith
few_due state lines.Begin few = omega arith
few_due state lines.Abort few = omega arith

-- the keys of a line's puts are there
pub put_known : (lists : Lists) (line : Line) → open_line lists.course ≡ Some line → (session : InState) (puts : Puts) (made : Option Request) → Keeps lists session (ways.Puts puts) made
    → ArePutting lists.course line session.state puts made → IsOneOf (length lists.course.table) (put_at puts lists.course.out).0
put_known lists line at session puts made keeps putting =
    let known : All (IsOn lists.course.table) puts.puts = subst (All (IsOn lists.course.table)) (sym putting.puts_are)
    (due_known lists.course.table lists.course.client.level (state_now lists.course) line (may_run lists line at session (ways.Puts puts) made keeps) keeps.held) in
    known lists.course.out (0, payloads.On) putting.left

-- they are few
pub few_puts : (lists : Lists) (line : Line) (session : InState) (puts : Puts) (made : Option Request) → Keeps lists session (ways.Puts puts) made → ArePutting lists.course line session.state puts made → length puts.puts < 2 ^ 32
few_puts lists line session puts made keeps putting =
    let counts = keeps.counts 0 in
    let few : length puts.puts ≤ 4097 = subst (λ puts. length puts ≤ 4097) (sym putting.puts_are)
    (few_due (state_now lists.course) line (omega (arith, counts, keeps.share.few, keeps.few_lines))) in
    omega (arith, few)

-- so the next goes to a worker
pub put_goes : (lists : Lists) (line : Line) → open_line lists.course ≡ Some line → (session : InState) (puts : Puts) (made : Option Request) → Keeps lists session (ways.Puts puts) made
    → ArePutting lists.course line session.state puts made → IsOneOf (length lists.sent) (home_at lists.course.table lists.course.client.session (put_at puts lists.course.out).0)
put_goes lists line at session puts made keeps putting =
    home_is_worker (length lists.sent) lists.course.table lists.course.client.session (put_at puts lists.course.out).0 keeps.placed (put_known lists line at session puts made keeps putting) keeps.me

module _ (lists : Lists) (session : InState) (puts : Puts) (request : Request) (keeps : Keeps lists session (ways.Puts puts) (Some request)) (sent : List (List Request)) where
  abbrev pub course : Course
  course = lists.course

  abbrev pub line : Line
  line = keeps.stands.1

  abbrev pub home : ℕ
  home = home_at course.table course.client.session (put_at puts course.out).0

  abbrev pub IsPosted : Type 0
  IsPosted = sent ≡ slice_set lists.sent (home - 1) (slice_index_or lists.sent (home - 1) [] ++ request ∷ [])

  -- it is the open line's next request
  its_put : IsPosted → (item : Sent) × (slice_get (open_most course) course.out ≡ Some (home, item))
      × (sent ≡ slice_set lists.sent (home - 1) (slice_index_or lists.sent (home - 1) [] ++ request_of item ∷ []))
  its_put posted =
      let there = made_there course line keeps.stands.2 session.state puts request keeps.stands.3 in
      (there.0, there.1, subst (λ request. sent ≡ slice_set lists.sent (home - 1) (slice_index_or lists.sent (home - 1) [] ++ request ∷ [])) (sym there.2) posted)

  -- it goes to a worker
  its_home : IsOneOf (length lists.sent) home
  its_home = put_goes lists line keeps.stands.2 session puts (Some request) keeps keeps.stands.3

  -- a put that is not the last of its line
  pub sends_put : IsPosted → course.out + 1 < length puts.puts → Keeps (record { course = record course { out = course.out + 1 }; sent = sent; received = lists.received }) session (ways.Puts puts) None
  sends_put posted left =
      let putting = keeps.stands.3 in
      let its = its_put posted in
      let none_more : course.out + 1 + 0 ≡ course.out + 1 = omega arith in
      let no_ask : IfSome (open_line course) (λ line. IsAsked line → length keeps.share.lacking + lacks course.waits ≡ course.out + 1) =
      subst (λ option. IfSome option (λ line. IsAsked line → length keeps.share.lacking + lacks course.waits ≡ course.out + 1)) (sym keeps.stands.2) (λ asked. absurd (putting.no_ask asked))
      in
      keeps_open keeps (course.out + 1) course.waits course.kept sent lists.received session (ways.Puts puts) None (as_many_then lists keeps.share home its.0 its_home its.1 sent its.2) keeps.client_is
      (share_then lists keeps.share home its.0 its_home its.1 sent its.2 course.waits keeps.stands.0.kept no_ask) (
        record { waits = keeps.stands.0.waits; kept = keeps.stands.0.kept },
        line,
        keeps.stands.2,
        record {
          puts_are = putting.puts_are;
          lamport_is = putting.lamport_is;
          no_ask = putting.no_ask;
          left = left;
          none_held = putting.none_held;
          rest = rw none_more putting.rest;
          knows = rw none_more putting.knows;
          low = putting.low;
          counts = rw none_more putting.counts;
          made_is = tt;
        },
      )

  -- the answer of the line once the last was sent
  pub last_answer : course.out + 1 ≡ length puts.puts → answer_sent line session puts ≡ answer_at (state_now course) line
  last_answer last =
      let putting = keeps.stands.3 in
      let none_left : drop (course.out + 1) puts.puts ≡ [] = drop_of_length-le puts.puts (omega (arith, last)) in
      let knows : session.state.knows ≡ knows_committed course.client (state_now course).knows puts.lamport puts.puts =
      sym (ap (knows_committed course.client session.state.knows puts.lamport) none_left) ∙ putting.knows
      in
      answer_sent_is course.client (state_now course) line session puts putting.no_ask putting.puts_are (omega (arith, last)) putting.lamport_is knows

  -- the last answers it
  pub sends_last : IsPosted → course.out + 1 ≡ length puts.puts → Keeps (record { course = answered_with course (answer_sent line session puts); sent = sent; received = lists.received }) session ways.Nothing None
  sends_last posted last =
      let putting = keeps.stands.3 in
      let its = its_put posted in
      let S : State = state_now course in
      let length_is = puts_length course line keeps.stands.2 session.state puts putting in
      let all : length (open_most course) ≤ course.out + 1 = omega (arith, length_is, last) in
      let most_is : open_most course ≡ puts_sent course.table course.client (puts_by course.client S line (answer_at S line)) =
      open_most_is course line keeps.stands.2 ∙ most_of_puts course.table course.client S (course.asks + 1) line putting.no_ask
      in
      let none_left : drop (course.out + 1) puts.puts ≡ [] = drop_of_length-le puts.puts (omega (arith, last)) in
      let knows : session.state.knows ≡ knows_committed course.client S.knows puts.lamport puts.puts =
      sym (ap (knows_committed course.client session.state.knows puts.lamport) none_left) ∙ putting.knows
      in
      let some : 0 < length puts.puts = omega (arith, last) in
      let due_some : 0 < length (puts_due S line) = subst (λ puts. 0 < length puts) putting.puts_are some in
      let known_of : ℕ → List (ℕ × Payload) → State = λ lamport puts. record { knows = knows_committed course.client S.knows lamport puts; held = None } in
      let state_is : session.state ≡ after course.client S line (answer_at S line) =
      ap (λ held. record { knows = session.state.knows; held = held }) putting.none_held ∙ ap (λ knows. record { knows = knows; held = None }) knows
      ∙ ap (λ lamport. known_of lamport puts.puts) putting.lamport_is ∙ ap (known_of (S.knows.lamport + 1)) putting.puts_are ∙ sym (after_due course.client S line putting.no_ask due_some)
      in
      let answer_is = last_answer last in
      subst (λ answer. Keeps (record { course = answered_with course answer; sent = sent; received = lists.received }) session ways.Nothing None) (sym answer_is) (
      closes_alone lists line keeps.stands.2 putting.no_ask session (ways.Puts puts) (Some request) keeps keeps.stands.0.kept sent session (as_many_then lists keeps.share home its.0 its_home its.1 sent its.2)
      (λ w of. sent_then lists keeps.share home its.0 its_home its.1 sent its.2 w of
      ∙ ap (λ its. to_worker w (sent_from course.table course.client (starting course) 1 (map length keeps.share.replies) course.lines course.answers ++ its)) (take_all (course.out + 1) (open_most course) all ∙ most_is)) keeps.client_is state_is)
