-- Where the keys of the worked scripts live, and that the scripts are valid there.
use Rattle.std.specs.Prelude.{◌≡◌, ◌≢◌, ℕ, ◌≤◌, true, false, List, [], ◌∷◌, length, take, slice_get, slice_index_or, MatchOption, Some, None, All, AllPairs, ⊤, codes}
use Rattle.std.specs.List.{AllByRecursion, list_all}
use Rattle.std.proofs.Common.{refl, sym, ap, subst, ◌∙◌, arith, lit<, lit≤}
use Rattle.std.proofs.lemmas.List.Elements.{All-from_recursion, All-head}
use Rattle.std.proofs.lemmas.List.Kept.{AllPairs-cons}
use Rattle.std.proofs.lemmas.List.Sums.{AllPass-from_list_all}
use Rattle.lattice_laws.specs.Spelling.{is_spelling_byte}
use Rattle.basic_lattices.specs.Word.{IsWord}
use Rattle.placement.specs.Name.{IsName}
use Rattle.placement.specs.Config.{IsOneOf, ArePins, IsOwnFactor, IsPlacement, EachHasReplicas}
use Rattle.placement.specs.declared.config.KeyPlace.{KeyPlace}
use Rattle.session_known.specs.Legal.{IsLegalAt, IsLegal}
use Rattle.session_known.proofs.EndsLemmas.{none_comes_after}
use Rattle.session_known.specs.Script.{MayStand, MayComeAfter, AreEnded, IsValidSession, IsValidScript}
use Rattle.worked_reports.specs.Worked.{first_script, first_table, home_script, home_table, commit_script, commit_table, causal_script, causal_table}
use Rattle.session_known.specs.declared.report.Report.{Report}
use Rattle.session_known.specs.declared.script.Script.{Script}
use Rattle.session_known.specs.declared.script.SessionPlan.{SessionPlan}

-- a list of one number, which is the one worker
one_is_first : (replicas : List ℕ) → length replicas ≡ 1 → All (IsOneOf 1) replicas → replicas ≡ 1 ∷ []
one_is_first [] one are = absurd (omega (arith, one))
one_is_first (worker ∷ []) one are =
    let is : IsOneOf 1 worker = All-head (IsOneOf 1) worker [] are in
    let same : worker ≡ 1 = omega (arith, is.0, is.1) in
    ap (λ (n : ℕ). n ∷ []) same
one_is_first (worker ∷ other ∷ replicas) one are = absurd (omega (arith, one))

-- The first script's key lives at the one worker.
pub first_placed : (table : List (List ℕ)) → EachHasReplicas first_script.config first_script.config.keys table → table ≡ first_table
first_placed [] each = absurd each
first_placed (replicas ∷ []) each = ap (λ (one : List ℕ). one ∷ []) (one_is_first replicas (each.0.as_many refl) each.0.are_workers)
first_placed (replicas ∷ more ∷ table) each = absurd each.1

-- Both keys of the third script live at the one worker.
pub commit_placed : (table : List (List ℕ)) → EachHasReplicas commit_script.config commit_script.config.keys table → table ≡ commit_table
commit_placed [] each = absurd each
commit_placed (replicas ∷ []) each = absurd each.1
commit_placed (replicas ∷ others ∷ []) each =
    ap (λ (one : List ℕ). one ∷ others ∷ []) (one_is_first replicas (each.0.as_many refl) each.0.are_workers)
    ∙ ap (λ (one : List ℕ). (1 ∷ []) ∷ one ∷ []) (one_is_first others (each.1.0.as_many refl) each.1.0.are_workers)
commit_placed (replicas ∷ others ∷ more ∷ table) each = absurd each.1.1

-- The second script's key lives at its pins.
pub home_placed : (table : List (List ℕ)) → IsPlacement home_script.config table → table ≡ home_table
home_placed table placed = placed.replicas

-- The fourth script's keys live at their pins.
pub causal_placed : (table : List (List ℕ)) → IsPlacement causal_script.config table → table ≡ causal_table
causal_placed table placed = placed.replicas

-- what holds of each element and each later one, by recursion on the list
abbrev pub AllPairsByRecursion : {X : Type 0} → (X → X → Type 0) → List X → Type 0
AllPairsByRecursion R [] = ⊤
AllPairsByRecursion R (x ∷ xs) = AllByRecursion (R x) xs × AllPairsByRecursion R xs

-- is what holds of all pairs
pub AllPairs-from_recursion : {X : Type 0} (R : X → X → Type 0) (xs : List X) → AllPairsByRecursion R xs → AllPairs R xs
AllPairs-from_recursion R [] holds = λ i j d below within. absurd (omega (arith, within))
AllPairs-from_recursion R (x ∷ xs) holds = AllPairs-cons R x xs (All-from_recursion (R x) xs holds.0) (AllPairs-from_recursion R xs holds.1)

-- different workers are lawful pins
pub pins_are : (workers : ℕ) (pins : List ℕ) → AllByRecursion (IsOneOf workers) pins → AllPairsByRecursion (λ a b. a ≢ b) pins → ArePins workers pins
pins_are workers pins are different = record { are_workers = All-from_recursion (IsOneOf workers) pins are; different = AllPairs-from_recursion (λ a b. a ≢ b) pins different }

-- names that differ in their first byte differ
pub names_differ : (name other : List ℕ) → slice_index_or name 0 0 ≢ slice_index_or other 0 0 → name ≢ other
names_differ name other apart same = apart (ap (λ (bytes : List ℕ). slice_index_or bytes 0 0) same)

-- allowed bytes are a name, where they are few enough
pub name : (bytes : List ℕ) → list_all is_spelling_byte bytes ≡ true → 1 ≤ length bytes → length bytes ≤ 32 → IsName bytes
name bytes allowed some few = record { some = some; short = few; allowed = AllPass-from_list_all is_spelling_byte bytes allowed }

-- and so a word
pub word : (bytes : List ℕ) → list_all is_spelling_byte bytes ≡ true → 1 ≤ length bytes → length bytes ≤ 64 → IsWord bytes
word bytes allowed some few = record { some = some; short = few; allowed = AllPass-from_list_all is_spelling_byte bytes allowed }

-- a session whose lines may stand and whose transactions are ended
pub session_is_valid : (script : Script) (table : List (List ℕ)) {plan : SessionPlan} → AllByRecursion (MayStand script table plan.level) plan.lines → AreEnded false plan.lines → IsValidSession script table plan
session_is_valid script table {plan} stand ended = record { lines = All-from_recursion (MayStand script table plan.level) plan.lines stand; transactions = ended }

-- no session of a script comes after another
pub none_follows : (script : Script) → AllByRecursion (λ plan. plan.after ≡ None) script.sessions → (place : ℕ) (plan : SessionPlan) → slice_get script.sessions place ≡ Some plan → MatchOption plan.after ⊤ (MayComeAfter script.version (take place script.sessions) plan.level)
none_follows script none = none_comes_after script (All-from_recursion (λ plan. plan.after ≡ None) script.sessions none)

-- The first script is valid.
pub first_is_valid : IsPlacement first_script.config first_table → IsValidScript first_script first_table
first_is_valid placed = record {
  version = (lit≤ tt, lit≤ tt);
  config = record {
    workers_some = lit≤ tt;
    workers_most = lit≤ tt;
    factor_some = lit≤ tt;
    factor_most = lit≤ tt;
    keys_most = lit≤ tt;
    pins = All-from_recursion (λ (key : KeyPlace). ArePins first_script.config.workers key.pins) first_script.config.keys (pins_are 1 [] tt tt, tt);
    factors = All-from_recursion (IsOwnFactor first_script.config.workers) first_script.config.keys (tt, tt);
  };
  placed = placed;
  round = (lit≤ tt, lit≤ tt);
  kinds = refl;
  keys_named = All-from_recursion (λ (key : KeyPlace). IsName key.name) first_script.config.keys (name (codes "a") refl (lit≤ tt) (lit≤ tt), tt);
  key_names = AllPairs-from_recursion (λ (key other : KeyPlace). key.name ≢ other.name) first_script.config.keys (tt, tt);
  sessions_named = All-from_recursion (λ (plan : SessionPlan). IsName plan.name) first_script.sessions (name (codes "s") refl (lit≤ tt) (lit≤ tt), tt);
  session_names = AllPairs-from_recursion (λ (plan other : SessionPlan). plan.name ≢ other.name) first_script.sessions (tt, tt);
  few_sessions = lit≤ tt;
  few_lines = lit≤ tt;
  sessions = All-from_recursion (IsValidSession first_script first_table) first_script.sessions (session_is_valid first_script first_table (((lit≤ tt, lit≤ tt), lit< tt, refl), (((lit≤ tt, lit≤ tt), lit< tt, refl), (((lit≤ tt, lit≤ tt), tt), tt))) refl, tt);
  orders = none_follows first_script (refl, tt);
}

-- The second script is valid.
pub home_is_valid : IsPlacement home_script.config home_table → IsValidScript home_script home_table
home_is_valid placed = record {
  version = (lit≤ tt, lit≤ tt);
  config = record {
    workers_some = lit≤ tt;
    workers_most = lit≤ tt;
    factor_some = lit≤ tt;
    factor_most = lit≤ tt;
    keys_most = lit≤ tt;
    pins = All-from_recursion (λ (key : KeyPlace). ArePins home_script.config.workers key.pins) home_script.config.keys (pins_are 2 (2 ∷ 1 ∷ []) ((lit≤ tt, lit≤ tt), ((lit≤ tt, lit≤ tt), tt)) (((λ same. omega (arith, same)), tt), (tt, tt)), tt);
    factors = All-from_recursion (IsOwnFactor home_script.config.workers) home_script.config.keys (tt, tt);
  };
  placed = placed;
  round = (lit≤ tt, lit≤ tt);
  kinds = refl;
  keys_named = All-from_recursion (λ (key : KeyPlace). IsName key.name) home_script.config.keys (name (codes "a") refl (lit≤ tt) (lit≤ tt), tt);
  key_names = AllPairs-from_recursion (λ (key other : KeyPlace). key.name ≢ other.name) home_script.config.keys (tt, tt);
  sessions_named = All-from_recursion (λ (plan : SessionPlan). IsName plan.name) home_script.sessions (name (codes "s") refl (lit≤ tt) (lit≤ tt), tt);
  session_names = AllPairs-from_recursion (λ (plan other : SessionPlan). plan.name ≢ other.name) home_script.sessions (tt, tt);
  few_sessions = lit≤ tt;
  few_lines = lit≤ tt;
  sessions = All-from_recursion (IsValidSession home_script home_table) home_script.sessions (session_is_valid home_script home_table (((lit≤ tt, lit≤ tt), word (codes "x") refl (lit≤ tt) (lit≤ tt), refl), (((lit≤ tt, lit≤ tt), tt), (((lit≤ tt, lit≤ tt), word (codes "y") refl (lit≤ tt) (lit≤ tt), refl), (((lit≤ tt, lit≤ tt), tt), tt)))) refl, tt);
  orders = none_follows home_script (refl, tt);
}

-- The third script is valid.
pub commit_is_valid : IsPlacement commit_script.config commit_table → IsValidScript commit_script commit_table
commit_is_valid placed = record {
  version = (lit≤ tt, lit≤ tt);
  config = record {
    workers_some = lit≤ tt;
    workers_most = lit≤ tt;
    factor_some = lit≤ tt;
    factor_most = lit≤ tt;
    keys_most = lit≤ tt;
    pins = All-from_recursion (λ (key : KeyPlace). ArePins commit_script.config.workers key.pins) commit_script.config.keys (pins_are 1 [] tt tt, (pins_are 1 [] tt tt, tt));
    factors = All-from_recursion (IsOwnFactor commit_script.config.workers) commit_script.config.keys (tt, (tt, tt));
  };
  placed = placed;
  round = (lit≤ tt, lit≤ tt);
  kinds = refl;
  keys_named = All-from_recursion (λ (key : KeyPlace). IsName key.name) commit_script.config.keys (name (codes "a") refl (lit≤ tt) (lit≤ tt), (name (codes "l") refl (lit≤ tt) (lit≤ tt), tt));
  key_names = AllPairs-from_recursion (λ (key other : KeyPlace). key.name ≢ other.name) commit_script.config.keys ((names_differ (codes "a") (codes "l") (λ same. omega (arith, same)), tt), (tt, tt));
  sessions_named = All-from_recursion (λ (plan : SessionPlan). IsName plan.name) commit_script.sessions (name (codes "s") refl (lit≤ tt) (lit≤ tt), tt);
  session_names = AllPairs-from_recursion (λ (plan other : SessionPlan). plan.name ≢ other.name) commit_script.sessions (tt, tt);
  few_sessions = lit≤ tt;
  few_lines = lit≤ tt;
  sessions = All-from_recursion (IsValidSession commit_script commit_table) commit_script.sessions (session_is_valid commit_script commit_table (refl, (((lit≤ tt, lit≤ tt), lit< tt, refl), (((lit≤ tt, lit≤ tt), word (codes "red") refl (lit≤ tt) (lit≤ tt), refl), (refl, (refl, (((lit≤ tt, lit≤ tt), lit< tt, refl), (((lit≤ tt, lit≤ tt), word (codes "red") refl (lit≤ tt) (lit≤ tt), refl), (refl, (((lit≤ tt, lit≤ tt), tt), tt))))))))) (refl, (refl, (refl, (refl, refl)))), tt);
  orders = none_follows commit_script (refl, tt);
}

-- The fourth script is valid.
pub causal_is_valid : IsPlacement causal_script.config causal_table → IsValidScript causal_script causal_table
causal_is_valid placed = record {
  version = (lit≤ tt, lit≤ tt);
  config = record {
    workers_some = lit≤ tt;
    workers_most = lit≤ tt;
    factor_some = lit≤ tt;
    factor_most = lit≤ tt;
    keys_most = lit≤ tt;
    pins = All-from_recursion (λ (key : KeyPlace). ArePins causal_script.config.workers key.pins) causal_script.config.keys (pins_are 2 (1 ∷ []) ((lit≤ tt, lit≤ tt), tt) (tt, tt), (pins_are 2 (2 ∷ []) ((lit≤ tt, lit≤ tt), tt) (tt, tt), tt));
    factors = All-from_recursion (IsOwnFactor causal_script.config.workers) causal_script.config.keys (tt, (tt, tt));
  };
  placed = placed;
  round = (lit≤ tt, lit≤ tt);
  kinds = refl;
  keys_named = All-from_recursion (λ (key : KeyPlace). IsName key.name) causal_script.config.keys (name (codes "a") refl (lit≤ tt) (lit≤ tt), (name (codes "b") refl (lit≤ tt) (lit≤ tt), tt));
  key_names = AllPairs-from_recursion (λ (key other : KeyPlace). key.name ≢ other.name) causal_script.config.keys ((names_differ (codes "a") (codes "b") (λ same. omega (arith, same)), tt), (tt, tt));
  sessions_named = All-from_recursion (λ (plan : SessionPlan). IsName plan.name) causal_script.sessions (name (codes "s") refl (lit≤ tt) (lit≤ tt), (name (codes "t") refl (lit≤ tt) (lit≤ tt), tt));
  session_names = AllPairs-from_recursion (λ (plan other : SessionPlan). plan.name ≢ other.name) causal_script.sessions ((names_differ (codes "s") (codes "t") (λ same. omega (arith, same)), tt), (tt, tt));
  few_sessions = lit≤ tt;
  few_lines = lit≤ tt;
  sessions = All-from_recursion (IsValidSession causal_script causal_table) causal_script.sessions (session_is_valid causal_script causal_table (((lit≤ tt, lit≤ tt), lit< tt, refl), (((lit≤ tt, lit≤ tt), (lit≤ tt, lit≤ tt), refl), (((lit≤ tt, lit≤ tt), lit< tt, refl), tt))) refl, (session_is_valid causal_script causal_table (((lit≤ tt, lit≤ tt), (lit≤ tt, lit≤ tt), refl), (((lit≤ tt, lit≤ tt), lit< tt, refl), tt)) refl, tt));
  orders = none_follows causal_script (refl, (refl, tt));
}

-- Where the table that is the placement is the one at which a script is valid and its report legal, the script is valid and the report legal.
pub valid_and_legal : (script : Script) (report : Report) (literal table : List (List ℕ)) → table ≡ literal → (IsPlacement script.config literal → IsValidScript script literal) → IsLegalAt literal script report
    → IsPlacement script.config table → IsValidScript script table × IsLegal script report
valid_and_legal script report literal table same valid legal placed = (
  subst (IsValidScript script) (sym same) (valid (subst (IsPlacement script.config) same placed)),
  record { table = table; placed = placed; legal = subst (λ (at : List (List ℕ)). IsLegalAt at script report) (sym same) legal },
)
