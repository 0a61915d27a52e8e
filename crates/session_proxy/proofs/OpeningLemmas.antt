-- Before its first line a session has sent and heard nothing.
use Rattle.std.specs.Prelude.{◌≡◌, ℕ, ◌-◌, ◌<◌, ◌≤◌, ◌^◌, false, is_some, List, [], ◌∷◌, ◌+◌, All, length, map, slice_index_or, None}
use Rattle.std.proofs.Common.{◌∙◌, refl, sym, ap, subst, arith}
use Rattle.std.proofs.lemmas.List.{get_or-map, length-map}
use Rattle.std.proofs.lemmas.List.Elements.{All-nil}
use Rattle.clock_lattice.specs.Clock.{count_of}
use Rattle.session_known.specs.Script.{AreEnded}
use Rattle.session_known.specs.Session.{Client, InState, Knowledge, State, held_puts, own_count, start}
use Rattle.session_known.specs.declared.script.Line.{Line}
use Rattle.store_msg.specs.Reply.{PlainReply}
use Rattle.store_msg.specs.declared.request.Request.{Request}
use Rattle.session_proxy.proofs.KeepsLemmas.{none_lacking}
use Rattle.session_proxy.proofs.RunLemmas.{none_answered, none_of, state_after-none}
use Rattle.session_proxy.specs.Kept.{IsOn, Keeps}
use Rattle.session_proxy.specs.Lines.{AreReplicas, MayRun}
use Rattle.session_proxy.specs.Share.{Share}
use Rattle.session_proxy.specs.State.{Knew, Origin, known_at_start, opening}
use Rattle.session_proxy.specs.declared.local.Begun.TheVariants as ways

-- nothing was sent to a worker
none_sent : {T : Type 0} (sent : T → List Request) (senders : List T) (i : ℕ) → All (λ sender. sent sender ≡ []) senders → i < length senders → slice_index_or (map sent senders) i [] ≡ []
none_sent sent [] i unused low = absurd (omega (arith, low))
none_sent sent (first ∷ others) i unused low = get_or-map sent (first ∷ others) i first [] low ∙ unused i first low

-- so it keeps its share, whether it has begun or waits
pub opening_share : {T : Type 0} (sent : T → List Request) (senders : List T) (client : Client) (table : List (List ℕ)) (lines : List Line) (origin : Origin) → All (λ sender. sent sender ≡ []) senders
    → (received : List (ℕ × PlainReply)) → received ≡ [] → Share (record { course = opening client table lines origin; sent = map sent senders; received = received })
opening_share sent senders client table lines origin unused received none =
    let as_many = length-map senders sent in
    record {
      replies = [];
      lacking = [];
      few = omega arith;
      answered = none_answered table client (start (known_at_start origin)) 1 lines;
      asks = refl;
      lacking_are = none_lacking (opening client table lines origin) refl refl;
      out = omega arith;
      kept = tt;
      sent = λ w of. none_sent sent senders (w - 1) unused (omega (arith, of.0, of.1, as_many));
      received = none_of _;
    }

-- what a proxy keeps then
pub opening_keeps : {T : Type 0} (sent : T → List Request) (senders : List T) (client : Client) (table : List (List ℕ)) (lines : List Line) (origin : Knowledge) (session : InState) → session.client ≡ client → session.state ≡ start origin → origin.own ≡ [] → 1 ≤ client.session
    → length lines ≤ 4096 → All (MayRun table client.level) lines → AreEnded false lines → length senders < 2 ^ 16 → All (AreReplicas (length senders)) table → All (λ sender. sent sender ≡ []) senders
    → (received : List (ℕ × PlainReply)) → received ≡ [] → Keeps (record { course = opening client table lines (Knew origin); sent = map sent senders; received = received }) session ways.Nothing None
opening_keeps sent senders client table lines origin session client_is state_is none_made me few valid ended few_workers placed unused received none =
    let as_many = length-map senders sent in
    let state = state_after-none client (start origin) lines in
    record {
      share = opening_share sent senders client table lines (Knew origin) unused received none;
      client_is = client_is;
      me = me;
      few_lines = few;
      valid = valid;
      ended = subst (λ (state : State). AreEnded (is_some state.held) lines) (sym state) ended;
      placed = subst (λ workers. All (AreReplicas workers) table) (sym as_many) placed;
      few_workers = omega (arith, as_many, few_workers);
      counts = λ key. subst (λ (state : State). own_count state.knows key + length (held_puts state) ≤ 0) (sym state) (let none : own_count origin key ≡ 0 = ap (count_of key) none_made in omega (arith, none));
      held = subst (λ (state : State). All (IsOn table) (held_puts state)) (sym state) (All-nil (IsOn table));
      few_asks = omega arith;
      stands = (state_is ∙ sym state, refl, record { waits = refl; kept = refl }, refl);
    }
