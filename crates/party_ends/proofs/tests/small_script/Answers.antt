use Rattle.std.specs.Prelude.{◌≡◌, ◌≢◌, ℕ, List, [], ◌∷◌, All, length, None, slice_index_or}
use Rattle.std.proofs.Common.{◌∙◌, ap, arith, refl, subst, sym}
use Rattle.std.proofs.lemmas.List.Elements.{All-from_recursion}
use Rattle.std.proofs.lemmas.List.Kept.{AllPairs-cons}
use Rattle.composed_value.specs.declared.kind.Kind.TheVariants.{Max}
use Rattle.placement.specs.Config.{IsOneOf, IsValidConfig, placed}
use Rattle.placement.specs.Name.{IsName}
use Rattle.placement.specs.declared.config.Config.{Config}
use Rattle.placement.proofs.ConfigLemmas.{is_placement}
use Rattle.session_known.proofs.EndsLemmas.{none_comes_after}
use Rattle.session_known.specs.Script.{IsValidScript, IsValidSession, MayStand}
use Rattle.session_known.specs.declared.script.Level.{Level}
use Rattle.session_known.specs.declared.script.Level.TheVariants.{Causal, Committed, Eventual}
use Rattle.session_known.specs.declared.script.Line.{Line}
use Rattle.session_known.specs.declared.script.Line.TheVariants.{Await, Begin, Commit, Get}
use Rattle.session_known.specs.declared.script.Script.{Script}
use Rattle.session_known.specs.declared.script.SessionPlan.{SessionPlan}
use Rattle.party_ends.proofs.tests.small_script.Goals as goal

-- the sessions, named e, c and a
abbrev eventual : SessionPlan
eventual = record { name = 101 ∷ []; level = Eventual; after = None; lines = Get 1 None ∷ [] }

abbrev committed : SessionPlan
committed = record { name = 99 ∷ []; level = Committed; after = None; lines = Begin ∷ Commit ∷ [] }

abbrev causal : SessionPlan
causal = record { name = 97 ∷ []; level = Causal; after = None; lines = Await 1 1 1 ∷ [] }

abbrev small : Config → Script
small config = record { version = 1; config = config; round = 4; kinds = Max ∷ []; sessions = eventual ∷ committed ∷ causal ∷ [] }

-- names of one letter differ
letters_differ : (a b : ℕ) → a ≢ b → a ∷ [] ≢ b ∷ []
letters_differ a b apart same = apart (ap (λ letters. slice_index_or letters 0 0) same)

small_is_valid : (config : Config) → IsValidConfig config → length config.keys ≡ 1 → All (λ key. IsName key.name) config.keys → IsName eventual.name → IsName committed.name → IsName causal.name
    → IsValidScript (small config) (placed config)
small_is_valid config valid one named first second third =
    let the_key : IsOneOf (length config.keys) 1 = (omega arith, omega (arith, one)) in
    record {
      version = (omega arith, omega arith);
      config = valid;
      placed = is_placement config;
      round = (omega arith, omega arith);
      kinds = sym one;
      keys_named = named;
      key_names = λ i j d before within. absurd (omega (arith, one, before, within));
      sessions_named = All-from_recursion (λ plan. IsName plan.name) (small config).sessions (first, (second, (third, tt)));
      session_names =
          AllPairs-cons (λ plan other. plan.name ≢ other.name) eventual (committed ∷ causal ∷ [])
          (All-from_recursion (λ other. eventual.name ≢ other.name) (committed ∷ causal ∷ []) (letters_differ 101 99 (λ same. omega arith), (letters_differ 101 97 (λ same. omega arith), tt)))
          (AllPairs-cons (λ plan other. plan.name ≢ other.name) committed (causal ∷ [])
          (All-from_recursion (λ other. committed.name ≢ other.name) (causal ∷ []) (letters_differ 99 97 (λ same. omega arith), tt))
          (λ i j d before within. absurd (omega (arith, before, within))));
      few_sessions = omega arith;
      few_lines = omega arith;
      sessions = All-from_recursion (IsValidSession (small config) (placed config)) (small config).sessions (
        record { lines = All-from_recursion (MayStand (small config) (placed config) Eventual) (Get 1 None ∷ []) ((the_key, tt), tt); transactions = refl },
        (
          record { lines = All-from_recursion (MayStand (small config) (placed config) Committed) (Begin ∷ Commit ∷ []) (refl, (refl, tt)); transactions = (refl, (refl, refl)) },
          (
            record { lines = All-from_recursion (MayStand (small config) (placed config) Causal) (Await 1 1 1 ∷ []) ((the_key, (omega arith, omega arith), refl), tt); transactions = refl },
            tt,
          ),
        ),
      );
      orders = none_comes_after (small config) (All-from_recursion (λ plan. plan.after ≡ None) (small config).sessions (refl, (refl, (refl, tt))));
    }

-- a session of a name, a level and lines
session_is : (plan : SessionPlan) (name : List ℕ) (level : Level) (lines : List Line) → plan.name ≡ name → plan.level ≡ level → plan.after ≡ None → plan.lines ≡ lines → plan ≡ record { name = name; level = level; after = None; lines = lines }
session_is plan name level lines name_is level_is after_is lines_are = λ j. record { name = name_is j; level = level_is j; after = after_is j; lines = lines_are j }

pub returns : goal.returns
returns c =
    let config = c.in_ok-one_key.field-0 in
    let first : c.in_ok-eventual.eventual ≡ eventual =
    session_is c.in_ok-eventual.eventual eventual.name eventual.level eventual.lines c.in_ok-eventual.ensures.name c.in_ok-eventual.ensures.level c.in_ok-eventual.ensures.after (c.in_ok-eventual.ensures.lines ∙ c.in_ok-vec.ensures.items) in
    let second : c.in_ok-committed.committed ≡ committed =
    session_is c.in_ok-committed.committed committed.name committed.level committed.lines c.in_ok-committed.ensures.name c.in_ok-committed.ensures.level c.in_ok-committed.ensures.after (c.in_ok-committed.ensures.lines ∙ c.in_ok-vec-2.ensures.items) in
    let third : c.in_ok-causal.causal ≡ causal =
    session_is c.in_ok-causal.causal causal.name causal.level causal.lines c.in_ok-causal.ensures.name c.in_ok-causal.ensures.level c.in_ok-causal.ensures.after (c.in_ok-causal.ensures.lines ∙ c.in_ok-vec-3.ensures.items) in
    let kinds : c.new.result ≡ Max ∷ [] = c.new.ensures ∙ c.in_ok-vec-4.ensures.items in
    let sessions : c.new-2.result ≡ eventual ∷ committed ∷ causal ∷ [] = c.new-2.ensures ∙ c.in_ok-vec-5.ensures.items ∙ (λ j. first j ∷ second j ∷ third j ∷ []) in
    let are : record { version = 1; config = config; round = 4; kinds = c.new.result; sessions = c.new-2.result } ≡ small config = λ j. record { version = 1; config = config; round = 4; kinds = kinds j; sessions = sessions j } in
    subst (λ script. IsValidScript script (placed config)) (sym are)
    (small_is_valid config c.in_ok-one_key.ensures.valid c.in_ok-one_key.ensures.one c.in_ok-one_key.ensures.named
    (subst IsName (ap (λ plan. plan.name) first) c.in_ok-eventual.ensures.named) (subst IsName (ap (λ plan. plan.name) second) c.in_ok-committed.ensures.named)
    (subst IsName (ap (λ plan. plan.name) third) c.in_ok-causal.ensures.named))
