-- A script that the grammar accepts is valid.
use Rattle.std.specs.Prelude.{◌≡◌, ◌≢◌, ℕ, ◌<◌, ◌≤◌, Bool, true, false, IsTrue, IsFalse, List, [], ◌∷◌, map, length, None, All, AllPairs}
use Rattle.std.proofs.Common.{sym, ap, subst, ◌∙◌, arith}
use Rattle.std.proofs.lemmas.Bool.{false≢true}
use Rattle.std.proofs.lemmas.List.{length-map, get_or-map}
use Rattle.std.proofs.lemmas.List.Elements.{All-nil, All-cons, All-weaker}
use Rattle.placement.specs.Config.{placed}
use Rattle.placement.proofs.ConfigLemmas.{is_placement}
use Rattle.placement.specs.Name.{IsName}
use Rattle.placement.specs.declared.config.KeyPlace.{KeyPlace}
use Rattle.script_reader.proofs.FrontLaws.{holds_after}
use Rattle.script_reader.specs.Faults.{Context, context_of, code_of}
use Rattle.script_reader.specs.Grammar.{IsScript, IsScriptOf, sessions_named}
use Rattle.script_reader.specs.Keywords.{is_end}
use Rattle.script_reader.specs.Lines.{script_lines, statements_of}
use Rattle.script_reader.specs.Steps.{next_context}
use Rattle.script_reader.proofs.ValidContext.{AreApart, AreLed, IsValidContext, Leads, Stands}
use Rattle.script_reader.proofs.NamedLaws.{named_are}
use Rattle.script_reader.proofs.TurnLaws.{orders_are}
use Rattle.script_reader.proofs.ValidContextLaws.{start, step, ended}
use Rattle.script_reader.specs.declared.keyword.Keyword.{Keyword}
use Rattle.script_reader.specs.declared.keyword.Keyword.TheVariants.{End}
use Rattle.session_known.specs.Script.{AreEnded, IsValidScript, MayStand}
use Rattle.session_known.specs.declared.script.Level.{Level}
use Rattle.session_known.specs.declared.script.Line.{Line}
use Rattle.session_known.specs.declared.script.Line.TheVariants as lines
use Rattle.session_known.specs.declared.script.Script.{Script}
use Rattle.session_known.specs.declared.script.SessionPlan.{SessionPlan}

-- there are workers, and no transaction is begun
abbrev IsClosed : Context → Type 0
IsClosed context = IsTrue context.has_workers × IsFalse context.begun

-- the context is valid, and closed where an end is among the lines
record IsFront (ended : Bool) (context : Context) : Type 0 where
  valid : IsValidContext context
  closed : ended ≡ true → IsClosed context

-- an end that is not at fault leaves the context closed
closed_after : (context : Context) (keyword : Keyword) (words : List (List ℕ)) → IsValidContext context → code_of context keyword words ≡ None → is_end keyword ≡ true → IsClosed (next_context context keyword words)
closed_after context End words valid none is = ended context words valid none
closed_after context keyword words valid none is = absurd (false≢true is)

-- each line that is not at fault leaves it so
front_step : (context : Context) (keyword : Keyword) (words : List (List ℕ)) → IsFront false context → code_of context keyword words ≡ None → IsFront (is_end keyword) (next_context context keyword words)
front_step context keyword words front none = record {
  valid = step context keyword words front.valid none;
  closed = closed_after context keyword words front.valid none;
}

-- elements with names that are apart have different names
pairs_apart : {X : Type 0} (name_of : X → List ℕ) (xs : List X) → AreApart (map name_of xs) → AllPairs (λ x other. name_of x ≢ name_of other) xs
pairs_apart name_of xs apart i j d i<j j< same =
    let i< : i < length xs = omega arith in
    let j<' : j < length (map name_of xs) = omega (arith, length-map xs name_of) in
    apart.different i j (name_of d) i<j j<' (get_or-map name_of xs i d (name_of d) i< ∙ same ∙ sym (get_or-map name_of xs j d (name_of d) j<))

-- elements with names that are names
pairs_named : {X : Type 0} (name_of : X → List ℕ) (xs : List X) → AreApart (map name_of xs) → All (λ x. IsName (name_of x)) xs
pairs_named name_of xs apart k d lt = subst IsName (get_or-map name_of xs k d (name_of d) lt) (apart.named k (name_of d) (omega (arith, length-map xs name_of)))

-- lines that lead to where no transaction is begun have ended all
leads_end : (begun : Bool) (plan_lines : List Line) → Leads begun plan_lines false → AreEnded begun plan_lines
leads_end begun [] leads = leads
leads_end begun (lines.Put key payload ∷ rest) leads = leads_end begun rest leads
leads_end begun (lines.Get key worker ∷ rest) leads = leads_end begun rest leads
leads_end begun (lines.Await key session count ∷ rest) leads = leads_end begun rest leads
leads_end begun (lines.Begin ∷ rest) leads = (leads.0, leads_end true rest leads.1)
leads_end begun (lines.Commit ∷ rest) leads = (leads.0, leads_end false rest leads.1)
leads_end begun (lines.Abort ∷ rest) leads = (leads.0, leads_end false rest leads.1)

-- where the last session has no transaction begun, none has
all_end : (plans : List SessionPlan) → AreLed plans false → All (λ plan. AreEnded false plan.lines) plans
all_end [] led = All-nil (λ (plan : SessionPlan). AreEnded false plan.lines)
all_end (plan ∷ []) led = All-cons (λ (plan : SessionPlan). AreEnded false plan.lines) plan [] (leads_end false plan.lines led) (All-nil (λ (plan : SessionPlan). AreEnded false plan.lines))
all_end (plan ∷ other ∷ plans) led = All-cons (λ (plan : SessionPlan). AreEnded false plan.lines) plan (other ∷ plans) (leads_end false plan.lines led.0) (all_end (other ∷ plans) led.1)

-- a line that may stand in the context may stand in the script
may_stand : (script : Script) (named : ℕ) (table : List (List ℕ)) (level : Level) (line : Line) → named ≤ length script.sessions → Stands (length script.config.keys) script.kinds named table level line → MayStand script table level line
may_stand script named table level (lines.Put key payload) le stands = stands
may_stand script named table level (lines.Get key worker) le stands = stands
may_stand script named table level (lines.Await key session count) le stands = (stands.0, (stands.1.0, let most = stands.1.1 in omega arith), stands.2)
may_stand script named table level lines.Begin le stands = stands
may_stand script named table level lines.Commit le stands = stands
may_stand script named table level lines.Abort le stands = stands

-- The script of a valid context that is closed is valid, where it has the sessions that an await may name.
valid_closed : (context : Context) → IsValidContext context → IsClosed context → context.named ≡ map (λ plan. plan.name) context.script.sessions → IsValidScript context.script (placed context.script.config)
valid_closed context valid closed named =
    let numbers = valid.workers closed.0 in
    let ends = all_end context.script.sessions (subst (λ begun. AreLed context.script.sessions begun) closed.1 valid.sessions.led) in
    let table = placed context.script.config in
    let many : length context.named ≤ length context.script.sessions = omega (arith, ap length named, length-map context.script.sessions (λ (plan : SessionPlan). plan.name)) in
    record {
      version = valid.version;
      config = record {
        workers_some = numbers.0.0;
        workers_most = numbers.0.1;
        factor_some = numbers.1.0;
        factor_most = numbers.1.1;
        keys_most = valid.keys.few;
        pins = valid.keys.pins;
        factors = valid.keys.factors;
      };
      placed = is_placement context.script.config;
      round = valid.round;
      kinds = valid.keys.kinds;
      keys_named = pairs_named (λ (key : KeyPlace). key.name) context.script.config.keys valid.keys.names;
      key_names = pairs_apart (λ (key : KeyPlace). key.name) context.script.config.keys valid.keys.names;
      sessions_named = pairs_named (λ (plan : SessionPlan). plan.name) context.script.sessions valid.sessions.names;
      session_names = pairs_apart (λ (plan : SessionPlan). plan.name) context.script.sessions valid.sessions.names;
      few_sessions = valid.sessions.few;
      few_lines = valid.sessions.few_lines;
      sessions = λ k d lt. record {
        lines = All-weaker (Stands (length context.script.config.keys) context.script.kinds (length context.named) table _) (MayStand context.script table _) (λ line stands. may_stand context.script (length context.named) table _ line many stands) _ (valid.sessions.stand k d lt);
        transactions = ends k d lt;
      };
      orders = orders_are context.script.version context.named context.script.sessions (subst (AllPairs (λ a b. a ≢ b)) (sym named) valid.sessions.names.different) named valid.sessions.few valid.in_turn;
    }

-- The script that the lines of a text say is valid.
of_lines : (lines : List (List ℕ)) (script : Script) → IsScriptOf (sessions_named lines) lines script → IsValidScript script (placed script.config)
of_lines lines script is =
    let named = sessions_named lines in
    let front = holds_after IsFront front_step named lines (record { valid = start named; closed = λ any. absurd (false≢true any) }) is.in_order in
    let context = context_of named (statements_of lines) in
    let named_is = named_are _ _ lines is.in_order front.valid.sessions.names.different in
    subst (λ said. IsValidScript said (placed said.config)) (sym is.says) (valid_closed context front.valid (front.closed is.ended) named_is)

-- A script that the grammar accepts is valid.
pub script_is_valid : (text : List ℕ) (script : Script) → IsScript text script → IsValidScript script (placed script.config)
script_is_valid text script is = of_lines (script_lines text) script is.lines
