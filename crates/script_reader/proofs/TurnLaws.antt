-- Sessions that come after others: kept line by line, and at the end by their numbers.
use Rattle.std.specs.Prelude.{◌≡◌, ◌≢◌, ℕ, ◌+◌, ◌-◌, ◌<◌, ◌≤◌, min, Bool, true, false, ◌&&◌, ◌||◌, nat_lt, List, [], ◌∷◌, ◌++◌, map, take, drop, length, slice_get, slice_index_or, MatchOption, Option, Some, None, is_some, unwrap_or, AllPairs, ⊤}
use Rattle.std.specs.Str.{bytes_eq}
use Rattle.std.proofs.Common.{zero, suc, refl, sym, ap, subst, ◌∙◌, append_assoc, arith}
use Rattle.std.proofs.lemmas.Bool.{false≢true, both_ways, ltb-true, ltb-false, and_parts}
use Rattle.std.proofs.lemmas.List.{append-nil, map-append, length-map, length-append, take-append-drop}
use Rattle.std.proofs.lemmas.List.Quantifiers.{position-Some}
use Rattle.std.proofs.lemmas.Option.{get_or_from_slice_get, slice_get_within, same_Some}
use Rattle.std.proofs.lemmas.Slice.Eq.{bytes_eq-Decides}
use Rattle.lattice_laws.proofs.ListLemmas.{none_passes}
use Rattle.session_known.specs.Script.{MayComeAfter}
use Rattle.session_known.specs.declared.script.Level.{Level}
use Rattle.session_known.specs.declared.script.Level.TheVariants.{Eventual, Committed, Causal}
use Rattle.session_known.specs.declared.script.Line.{Line}
use Rattle.session_known.specs.declared.script.SessionPlan.{SessionPlan}
use Rattle.script_reader.specs.Faults.{is_causal, has_causal}
use Rattle.script_reader.specs.Said.{place_of}
use Rattle.script_reader.specs.Steps.{with_line}
use Rattle.script_reader.proofs.ValidContext.{Follows, MayFollow, AreInTurn}
use Rattle.script_reader.proofs.ValidListsLaws.{name_new}

-- a level that passes the test of causal ones
pub causal_is : (level : Level) → is_causal level ≡ true → level ≡ Causal
causal_is Eventual is = absurd (false≢true is)
causal_is Committed is = absurd (false≢true is)
causal_is Causal is = refl

-- ---- line by line

module _ (version : ℕ) (named : List (List ℕ)) where
  -- a line more of the last session changes nothing
  pub turn_line : (line : Line) (earlier plans : List SessionPlan) → AreInTurn version named earlier plans → AreInTurn version named earlier (with_line line plans)
  turn_line line earlier [] turn = turn
  turn_line line earlier (plan ∷ []) turn = turn
  turn_line line earlier (plan ∷ other ∷ plans) turn = (turn.0, turn_line line (earlier ++ plan ∷ []) (other ∷ plans) turn.1)

  -- one session more
  pub turn_push : (earlier plans : List SessionPlan) (plan : SessionPlan) → AreInTurn version named earlier plans → MayFollow version named (earlier ++ plans) plan.level plan.after → AreInTurn version named earlier (plans ++ plan ∷ [])
  turn_push earlier [] plan turn may = (subst (λ before. MayFollow version named before plan.level plan.after) (append-nil earlier) may, tt)
  turn_push earlier (first ∷ plans) plan turn may =
      (turn.0, turn_push (earlier ++ first ∷ []) plans plan turn.1 (subst (λ before. MayFollow version named before plan.level plan.after) (sym (append_assoc earlier (first ∷ []) plans)) may))

  -- the session at a place, by those before it
  turn_at : (earlier plans : List SessionPlan) (place : ℕ) (plan : SessionPlan) → AreInTurn version named earlier plans → slice_get plans place ≡ Some plan → MayFollow version named (earlier ++ take place plans) plan.level plan.after
  turn_at earlier [] place plan turn here = absurd (let within = slice_get_within [] place plan here in omega arith)
  turn_at earlier (first ∷ plans) zero plan turn here =
      subst (λ plan. MayFollow version named (earlier ++ []) plan.level plan.after) (same_Some first plan here) (subst (λ before. MayFollow version named before first.level first.after) (sym (append-nil earlier)) turn.0)
  turn_at earlier (first ∷ plans) (suc place) plan turn here =
      subst (λ before. MayFollow version named before plan.level plan.after) (append_assoc earlier (first ∷ []) (take place plans)) (turn_at (earlier ++ first ∷ []) plans place plan turn.1 here)

-- where there are no sessions
pub turn_none : (version : ℕ) (named : List (List ℕ)) (plans : List SessionPlan) → length plans ≤ 0 → AreInTurn version named [] plans
turn_none version named [] none = tt
turn_none version named (plan ∷ plans) none = absurd (omega arith)

-- ---- by number

-- a causal session of the name stands at a place
record StandsAt (earlier : List SessionPlan) (other : List ℕ) : Type 0 where
  place : ℕ
  name_is : slice_get (map (λ plan. plan.name) earlier) place ≡ Some other
  level_is : slice_get (map (λ plan. plan.level) earlier) place ≡ Some Causal

stands_next : (other : List ℕ) (plan : SessionPlan) (earlier : List SessionPlan) (here : Bool) → (bytes_eq other plan.name && is_causal plan.level) ≡ here → (here || has_causal earlier other) ≡ true → (has_causal earlier other ≡ true → StandsAt earlier other) → StandsAt (plan ∷ earlier) other
stands_next other plan earlier true is some later =
    let parts = and_parts (bytes_eq other plan.name) (is_causal plan.level) is in
    record { place = 0; name_is = ap Some (sym ((bytes_eq-Decides other plan.name).0 parts.0)); level_is = ap Some (causal_is plan.level parts.1) }
stands_next other plan earlier false is some later = let at = later some in record { place = suc at.place; name_is = at.name_is; level_is = at.level_is }

stands_at : (other : List ℕ) (earlier : List SessionPlan) → has_causal earlier other ≡ true → StandsAt earlier other
stands_at other [] some = absurd (false≢true some)
stands_at other (plan ∷ earlier) some = stands_next other plan earlier (bytes_eq other plan.name && is_causal plan.level) refl some (stands_at other earlier)

-- two places of which neither is before the other
one_place : (a b : ℕ) (below above : Bool) → nat_lt a b ≡ below → nat_lt b a ≡ above → (a < b → ⊥) → (b < a → ⊥) → a ≡ b
one_place a b true above is is' not_below not_above = absurd (not_below (ltb-true a b is))
one_place a b false true is is' not_below not_above = absurd (not_above (ltb-true b a is'))
one_place a b false false is is' not_below not_above = omega (arith, ltb-false a b is, ltb-false b a is')

-- the first place of a name among different names is its place
module _ (names : List (List ℕ)) (name : List ℕ) (place : ℕ) (different : AllPairs (λ a b. a ≢ b) names) (here : slice_get names place ≡ Some name) where
  within : place < length names
  within = slice_get_within names place name here

  named_here : slice_index_or names place name ≡ name
  named_here = get_or_from_slice_get names place name name here

  place_found : (found : Option ℕ) → place_of names name ≡ found → found ≡ Some place
  place_found None is =
      let none = none_passes (bytes_eq name) names (name_new names name (ap is_some is)) in
      absurd (both_ways _ (none place name within) ((bytes_eq-Decides name (slice_index_or names place name)).1 (sym named_here)))
  place_found (Some first) is =
      let at = position-Some (bytes_eq name) names first name is in
      let first_is : name ≡ slice_index_or names first name = (bytes_eq-Decides name (slice_index_or names first name)).0 at.1 in
      ap Some (one_place first place (nat_lt first place) (nat_lt place first) refl refl
      (λ below. different first place name below within (sym first_is ∙ sym named_here))
      (λ above. different place first name above at.0 (named_here ∙ first_is)))

  pub place_is : place_of names name ≡ Some place
  place_is = place_found (place_of names name) refl

-- what stands in a front stands in the whole
front_get : {A : Type 0} (xs ys : List A) (place : ℕ) (x : A) → slice_get xs place ≡ Some x → slice_get (xs ++ ys) place ≡ Some x
front_get [] ys place x here = absurd (let within = slice_get_within [] place x here in omega arith)
front_get (first ∷ xs) ys zero x here = here
front_get (first ∷ xs) ys (suc place) x here = front_get xs ys place x here

-- the number of a name is that of its session, where the sessions are those that may be named
follows_after : (version : ℕ) (named : List (List ℕ)) (earlier : List SessionPlan) (later : List (List ℕ)) (level : Level) (after : ℕ) → AllPairs (λ a b. a ≢ b) named → named ≡ map (λ plan. plan.name) earlier ++ later → length earlier ≤ 16
    → Follows version named earlier level after → MayComeAfter version earlier level after
follows_after version named earlier later level after different named_are few follows =
    let at = stands_at follows.other earlier follows.is_there in
    let within : at.place < length earlier = omega (arith, slice_get_within (map (λ plan. plan.name) earlier) at.place follows.other at.name_is, length-map earlier (λ (plan : SessionPlan). plan.name)) in
    let here : slice_get named at.place ≡ Some follows.other = ap (λ names. slice_get names at.place) named_are ∙ front_get (map (λ plan. plan.name) earlier) later at.place follows.other at.name_is in
    let place : place_of named follows.other ≡ Some at.place = place_is named follows.other at.place different here in
    let number : after ≡ min (at.place + 1) 65535 = follows.number_is ∙ ap (λ found. min (unwrap_or found 0 + 1) 65535) place in
    let back : after - 1 ≡ at.place = omega (arith, number, within, few) in
    record {
      version_is = follows.version_is;
      causal = follows.causal;
      is_earlier = (omega (arith, number), omega (arith, number, within));
      earlier_causal = ap (slice_get (map (λ plan. plan.level) earlier)) back ∙ at.level_is;
    }

may_follow : (version : ℕ) (named : List (List ℕ)) (earlier : List SessionPlan) (later : List (List ℕ)) (level : Level) (after : Option ℕ) → AllPairs (λ a b. a ≢ b) named → named ≡ map (λ plan. plan.name) earlier ++ later → length earlier ≤ 16
    → MayFollow version named earlier level after → MatchOption after ⊤ (MayComeAfter version earlier level)
may_follow version named earlier later level None different named_are few may = tt
may_follow version named earlier later level (Some after) different named_are few may = follows_after version named earlier later level after different named_are few may

-- Each session comes after none, or after a causal one before it.
pub orders_are : (version : ℕ) (named : List (List ℕ)) (sessions : List SessionPlan) → AllPairs (λ a b. a ≢ b) named → named ≡ map (λ plan. plan.name) sessions → length sessions ≤ 16 → AreInTurn version named [] sessions
    → (place : ℕ) (plan : SessionPlan) → slice_get sessions place ≡ Some plan → MatchOption plan.after ⊤ (MayComeAfter version (take place sessions) plan.level)
orders_are version named sessions different named_are few turn place plan here =
    let cut : named ≡ map (λ plan. plan.name) (take place sessions) ++ map (λ plan. plan.name) (drop place sessions) =
    named_are ∙ ap (map (λ plan. plan.name)) (sym (take-append-drop place sessions)) ∙ map-append (λ (plan : SessionPlan). plan.name) (take place sessions) (drop place sessions) in
    let long : length (take place sessions) + length (drop place sessions) ≡ length sessions = sym (length-append (take place sessions) (drop place sessions)) ∙ ap length (take-append-drop place sessions) in
    may_follow version named (take place sessions) (map (λ plan. plan.name) (drop place sessions)) plan.level plan.after different cut (omega (arith, long, few)) (turn_at version named [] sessions place plan turn here)
