-- A put is made where none is, and sent: what the proxy keeps from step to step.
use Rattle.std.specs.Prelude.{◌≡◌, ℕ, ◌+◌, ◌-◌, IsTrue, is_some, List, [], ◌∷◌, ◌++◌, slice_get, slice_index_or, slice_set, Option, Some, None, Ok, Err}
use Rattle.std.proofs.Common.{◌∙◌, refl, sym, ap, subst, inl, inr}
use Rattle.std.proofs.lemmas.Bool.{false≢true}
use Rattle.std.proofs.lemmas.Option.{same_Some}
use Rattle.lattice_laws.specs.declared.lattice.NoMemory.{NoMemory}
use Rattle.mail_contract.specs.Sends.{Posted}
use Rattle.mail_contract.specs.declared.Refused.{Refused}
use Rattle.mail_contract.specs.declared.Refused.TheVariants.{Full, NoMemory as Lacks}
use Rattle.placement.specs.Asked.{home_at}
use Rattle.session_known.specs.Session.{InState}
use Rattle.session_known.specs.Requests.{Sent}
use Rattle.session_known.specs.declared.script.Line.{Line}
use Rattle.store_msg.specs.Reply.{PlainReply}
use Rattle.store_msg.specs.declared.request.Request.{Request}
use Rattle.session_proxy.proofs.KeepsLemmas.{closed_unbegun, keeps_as, keeps_open}
use Rattle.session_proxy.proofs.PutsLemmas.{made_there, makes_one, puts_length}
use Rattle.session_proxy.proofs.SendingLemmas.{IsPosted, last_answer, sends_last, sends_put}
use Rattle.session_proxy.specs.Kept.{ArePutting, Keeps}
use Rattle.session_proxy.specs.Local.{KeepsAs, PreparesOf, SendsOf, answer_sent, course_of, put_at}
use Rattle.session_proxy.specs.Polls.{Sends}
use Rattle.session_proxy.specs.Share.{open_most}
use Rattle.session_proxy.specs.State.{Course, IsFixed}
use Rattle.session_proxy.specs.declared.local.Begun.{Begun}
use Rattle.session_proxy.specs.declared.local.Begun.TheVariants as ways
use Rattle.session_proxy.specs.declared.local.Local.{Local}
use Rattle.session_proxy.specs.declared.local.Puts.{Puts}

-- a message is there
some_there : {X : Type 0} (option : Option X) → IsTrue (is_some option) → (x : X) × (option ≡ Some x)
some_there (Some x) is = (x, refl)
some_there None is = absurd (false≢true is)

-- a put is made and is to be sent
pub record IsPrepared (before now : Local) (sent : List (List Request)) (received : List (ℕ × PlainReply)) : Type 0 where
  pub puts : Puts
  pub begun_is : now.begun ≡ ways.Puts puts
  pub request : Request
  pub made_is : now.made ≡ Some request
  pub keeps : Keeps (record { course = course_of now; sent = sent; received = received }) now.session (ways.Puts puts) (Some request)
  pub course_is : course_of now ≡ course_of before

-- once it is prepared
prepared_of : {U : Type 0} (done : U) (begun : Begun) (before now : Local) (sent : List (List Request)) (received : List (ℕ × PlainReply)) → before.begun ≡ begun
    → Keeps (record { course = course_of before; sent = sent; received = received }) before.session begun before.made → PreparesOf {U = U} {E = NoMemory} (Ok done) begun before now → IsPrepared before now sent received
prepared_of done ways.Nothing before now sent received is keeps prepares = absurd prepares
prepared_of done (ways.Asks clock) before now sent received is keeps prepares = absurd prepares
prepared_of done (ways.Puts puts) before now sent received is keeps (inl (some, made_is, session_is), course_is, begun_is) =
    let there = some_there before.made some in
    record {
      puts = puts;
      begun_is = begun_is ∙ is;
      request = there.0;
      made_is = made_is ∙ there.1;
      keeps =
          subst (λ course. Keeps (record { course = course; sent = sent; received = received }) now.session (ways.Puts puts) (Some there.0)) (sym course_is) (
          subst (λ session. Keeps (record { course = course_of before; sent = sent; received = received }) session (ways.Puts puts) (Some there.0)) (sym session_is) (
          subst (λ made. Keeps (record { course = course_of before; sent = sent; received = received }) before.session (ways.Puts puts) made) there.1 keeps));
      course_is = course_is;
    }
prepared_of done (ways.Puts puts) before now sent received is keeps (inr (none, makes), course_is, begun_is) =
    let line : Line = keeps.stands.1 in
    let putting = subst (ArePutting (course_of before) line before.session.state puts) none keeps.stands.3 in
    let made = makes_one (course_of before) line keeps.stands.2 before.session.state puts before.session now.session now.made refl refl putting makes in
    record {
      puts = puts;
      begun_is = begun_is ∙ is;
      request = made.0;
      made_is = made.1;
      keeps =
          subst (λ course. Keeps (record { course = course; sent = sent; received = received }) now.session (ways.Puts puts) (Some made.0)) (sym course_is) (
          keeps_open keeps before.out before.waits before.kept sent received now.session (ways.Puts puts) (Some made.0) refl (ap (λ (session : InState). session.client) makes.1) keeps.share
          (keeps.stands.0, line, keeps.stands.2, made.2));
      course_is = course_is;
    }

pub prepared : {U : Type 0} (done : U) (before now : Local) (sent : List (List Request)) (received : List (ℕ × PlainReply)) → Keeps (record { course = course_of before; sent = sent; received = received }) before.session before.begun before.made
    → PreparesOf {U = U} {E = NoMemory} (Ok done) before.begun before now → IsPrepared before now sent received
prepared done before now sent received keeps prepares = prepared_of done before.begun before now sent received refl keeps prepares

module _ (old now : Local) (puts : Puts) (request : Request) (sent : List (List Request)) (received : List (ℕ × PlainReply))
    (keeps : Keeps (record { course = course_of old; sent = sent; received = received }) old.session (ways.Puts puts) (Some request)) (begun_is : old.begun ≡ ways.Puts puts)
    (sends : SendsOf keeps.stands.1 (ways.Puts puts) old now) where
  -- what the proxy keeps once the put is sent
  pub sent_keeps : (sent_now : List (List Request)) → IsPosted (record { course = course_of old; sent = sent; received = received }) old.session puts request keeps sent_now
      → Keeps (record { course = course_of now; sent = sent_now; received = received }) now.session now.begun now.made
  sent_keeps sent_now posted =
      elim sends [
        | inl (left, is) ↦
            let of_puts = subst (λ begun. KeepsAs now (record (course_of old) { out = old.out + 1 }) old.session begun None) begun_is is in
            keeps_as now sent_now received (record (course_of old) { out = old.out + 1 }) old.session (ways.Puts puts) None of_puts
            (sends_put (record { course = course_of old; sent = sent; received = received }) old.session puts request keeps sent_now posted left)
        | inr (last, is) ↦
            keeps_as now sent_now received _ old.session ways.Nothing None is
            (sends_last (record { course = course_of old; sent = sent; received = received }) old.session puts request keeps sent_now posted last)
      ]

  -- what it did then
  pub sent_sends : (sent_now : List (List Request)) → IsPosted (record { course = course_of old; sent = sent; received = received }) old.session puts request keeps sent_now
      → Sends (record { course = course_of old; sent = sent; received = received }) (record { course = course_of now; sent = sent_now; received = received })
  sent_sends sent_now posted =
      let course : Course = course_of old in
      let line : Line = keeps.stands.1 in
      let there = made_there course line keeps.stands.2 old.session.state puts request keeps.stands.3 in
      let home : ℕ = home_at course.table course.client.session (put_at puts course.out).0 in
      record {
        waits = keeps.stands.0.waits;
        worker = home;
        item = there.0;
        next = there.1;
        sent = subst (λ request. sent_now ≡ slice_set sent (home - 1) (slice_index_or sent (home - 1) [] ++ request ∷ [])) (sym there.2) posted;
        received = refl;
        course =
            elim sends [
              | inl (left, is) ↦ inl (is.course_is ∙ ap (λ waits. record course { out = old.out + 1; waits = waits }) (keeps.stands.0.waits ∙ sym there.3))
              | inr (last, is) ↦ inr (
                (
                  answer_sent line old.session puts,
                  ap (λ (course : Course). course.answers) is.course_is,
                  record {
                    line = line;
                    line_is = keeps.stands.2;
                    no_ask = keeps.stands.3.no_ask;
                    answer_is = last_answer (record { course = course; sent = sent; received = received }) old.session puts request keeps sent_now last;
                  },
                ),
                last ∙ sym (puts_length course line keeps.stands.2 old.session.state puts keeps.stands.3),
                closed_unbegun course (course_of now) (answer_sent line old.session puts) course.asks is.course_is,
              )
            ];
      }

  pub sent_fixed : IsFixed (course_of old) (course_of now)
  sent_fixed =
      elim sends [
        | inl (left, is) ↦ record { client = ap (λ (course : Course). course.client) is.course_is; table = ap (λ (course : Course). course.table) is.course_is; lines = ap (λ (course : Course). course.lines) is.course_is; origin = ap (λ (course : Course). course.origin) is.course_is }
        | inr (last, is) ↦ record { client = ap (λ (course : Course). course.client) is.course_is; table = ap (λ (course : Course). course.table) is.course_is; lines = ap (λ (course : Course). course.lines) is.course_is; origin = ap (λ (course : Course). course.origin) is.course_is }
      ]

-- what a sender to a worker was asked to send
pub posted_to : (sent sent_now : List (List Request)) (worker home place : ℕ) (made : Option Request) (message request : Request) → worker ≡ home → place ≡ worker → made ≡ Some message → made ≡ Some request
    → sent_now ≡ slice_set sent (place - 1) (slice_index_or sent (place - 1) [] ++ message ∷ []) → sent_now ≡ slice_set sent (home - 1) (slice_index_or sent (home - 1) [] ++ request ∷ [])
posted_to sent sent_now worker home place made message request is_home is_place is_message is_request posted =
    posted ∙ ap (λ place. slice_set sent (place - 1) (slice_index_or sent (place - 1) [] ++ message ∷ [])) (is_place ∙ is_home)
    ∙ ap (λ message. slice_set sent (home - 1) (slice_index_or sent (home - 1) [] ++ message ∷ [])) (same_Some message request (sym is_message ∙ is_request))

-- a request that is handed back is the one that was to be sent, and nothing was sent
pub back_full : (refused : Refused Request) (back message : Request) (place : ℕ) (sent sent_now : List (List Request)) → refused ≡ Full back → Posted {M = Request} {U = Unit {0}} (Err refused) message place sent sent_now → (back ≡ message) × (sent_now ≡ sent)
back_full refused back message place sent sent_now is posted = subst (λ refused. Posted {M = Request} {U = Unit {0}} (Err refused) message place sent sent_now) is posted

pub back_no_memory : (refused : Refused Request) (back message : Request) (place : ℕ) (sent sent_now : List (List Request)) → refused ≡ Lacks back → Posted {M = Request} {U = Unit {0}} (Err refused) message place sent sent_now → (back ≡ message) × (sent_now ≡ sent)
back_no_memory refused back message place sent sent_now is posted = subst (λ refused. Posted {M = Request} {U = Unit {0}} (Err refused) message place sent sent_now) is posted

-- so the proxy keeps it
pub keeps_back : (before now : Local) (sent sent_now : List (List Request)) (received : List (ℕ × PlainReply)) (back message : Request) → IsPrepared before now sent received → now.made ≡ Some message → (back ≡ message) × (sent_now ≡ sent)
    → Keeps (record { course = course_of now; sent = sent_now; received = received }) now.session now.begun (Some back)
keeps_back before now sent sent_now received back message is made same =
    let request_is : is.request ≡ back = same_Some is.request message (sym is.made_is ∙ made) ∙ sym same.0 in
    subst (λ sent. Keeps (record { course = course_of now; sent = sent; received = received }) now.session now.begun (Some back)) (sym same.1) (
    subst (λ begun. Keeps (record { course = course_of now; sent = sent; received = received }) now.session begun (Some back)) (sym is.begun_is) (
    subst (λ request. Keeps (record { course = course_of now; sent = sent; received = received }) now.session (ways.Puts is.puts) (Some request)) request_is is.keeps))

-- the request that was to be sent is the open line's next
pub next_there : (before now : Local) (sent : List (List Request)) (received : List (ℕ × PlainReply)) (worker : ℕ) (is : IsPrepared before now sent received)
    → worker ≡ home_at (course_of now).table (course_of now).client.session (put_at is.puts now.out).0 → (item : Sent) × (slice_get (open_most (course_of before)) (course_of before).out ≡ Some (worker, item))
next_there before now sent received worker is goes =
    let there = made_there (course_of now) is.keeps.stands.1 is.keeps.stands.2 now.session.state is.puts is.request is.keeps.stands.3 in
    (there.0, subst (λ (course : Course). slice_get (open_most course) course.out ≡ Some (worker, there.0)) is.course_is (there.1 ∙ ap (λ worker. Some (worker, there.0)) (sym goes)))
