-- What a session knows of a key only grows, and each reply adds the clock that it shows.
use Rattle.std.specs.Prelude.{◌≡◌, ℕ, ◌+◌, ◌≤◌, ◌==◌, max, Bool, true, false, cond, IsTrue, List, [], ◌∷◌, Option, Some, None, unwrap_or}
use Rattle.std.specs.Cmp.{nat_cmp_total, unsigned_tied}
use Rattle.std.specs.FinMap.{find, is_sorted}
use Rattle.std.specs.FinMap.Entries.{find-put}
use Rattle.std.specs.Ordering.{nat_cmp, is_eq}
use Rattle.std.proofs.Common.{refl, sym, ap, subst, ◌∙◌, arith}
use Rattle.std.proofs.lemmas.Bool.{eqb-true}
use Rattle.std.proofs.lemmas.Cmp.{tied_itself}
use Rattle.lattice_laws.specs.Entries.{with_old, raised, joined_maps}
use Rattle.lattice_laws.specs.EntriesLaws.{find-joined_maps}
use Rattle.lattice_laws.specs.Maybe.{joined_by}
use Rattle.clock_lattice.specs.Clock.{count_of, joined_clocks, one_count}
use Rattle.clock_lattice.specs.Needs.{clock_at, joined_needs, one_need}
use Rattle.composed_value.specs.declared.payload.Payload.{Payload}
use Rattle.session_known.specs.Session.{Client, Knowledge, State, own_count, knows_put, knows_committed, needs_learned, knows_shown, held_puts, after}
use Rattle.session_known.specs.declared.report.Answer.{Answer}
use Rattle.session_known.specs.declared.report.Answer.TheVariants as answers
use Rattle.session_known.specs.declared.report.Shown.{Shown}
use Rattle.session_known.specs.declared.script.Line.{Line}
use Rattle.session_known.specs.declared.script.Line.TheVariants as lines

-- an order in which a join is at least its first, and a bottom at most any
record IsGrowing {P : Type 0} (joined : P → P → P) (bottom : P) (at_most : P → P → Type 0) : Type 0 where
  itself : (x : P) → at_most x x
  through : (x y z : P) → at_most x y → at_most y z → at_most x z
  bottom_below : (x : P) → at_most bottom x
  first_below : (x y : P) → at_most x (joined x y)

module _ {P : Type 0} {joined : P → P → P} {bottom : P} {at_most : P → P → Type 0} (growing : IsGrowing joined bottom at_most) where
  -- a value raised is at least what it was
  with_old_grows : (old : Option P) (value : P) → at_most (unwrap_or old bottom) (with_old joined old value)
  with_old_grows None value = growing.bottom_below value
  with_old_grows (Some old) value = growing.first_below old value

  -- at each key of a map raised at one stands at least what stood there
  raised_grows : (key q : ℕ) (value : P) (a : List (ℕ × P)) → at_most (unwrap_or (find nat_cmp q a) bottom) (unwrap_or (find nat_cmp q (raised nat_cmp joined key value a)) bottom)
  raised_grows key q value a =
      subst (at_most (unwrap_or (find nat_cmp q a) bottom))
      (sym (ap (λ found. unwrap_or found bottom) (find-put nat_cmp nat_cmp_total q key (with_old joined (find nat_cmp key a) value) a) ∙ ap (λ t. unwrap_or (cond t (Some (with_old joined (find nat_cmp key a) value)) (find nat_cmp q a)) bottom) (unsigned_tied q key)))
      (raised_as (q == key) refl)
    where
      raised_as : (t : Bool) → (q == key) ≡ t → at_most (unwrap_or (find nat_cmp q a) bottom) (unwrap_or (cond t (Some (with_old joined (find nat_cmp key a) value)) (find nat_cmp q a)) bottom)
      raised_as true is = subst (λ k. at_most (unwrap_or (find nat_cmp q a) bottom) (with_old joined (find nat_cmp k a) value)) (eqb-true q key is) (with_old_grows (find nat_cmp q a) value)
      raised_as false is = growing.itself (unwrap_or (find nat_cmp q a) bottom)

  -- and so at each key of a join of maps
  joined_grows : (q : ℕ) (a b : List (ℕ × P)) → at_most (unwrap_or (find nat_cmp q a) bottom) (unwrap_or (find nat_cmp q (joined_maps nat_cmp joined a b)) bottom)
  joined_grows q a [] = growing.itself (unwrap_or (find nat_cmp q a) bottom)
  joined_grows q a (entry ∷ b) =
      let a' : List (ℕ × P) = raised nat_cmp joined entry.0 entry.1 a in
      growing.through (unwrap_or (find nat_cmp q a) bottom) (unwrap_or (find nat_cmp q a') bottom) (unwrap_or (find nat_cmp q (joined_maps nat_cmp joined a' b)) bottom)
      (raised_grows entry.0 q entry.1 a) (joined_grows q a' b)

-- the first clock counts of each session at most what the second counts
abbrev pub CountsAtMost : List (ℕ × ℕ) → List (ℕ × ℕ) → Type 0
CountsAtMost clock other = (session : ℕ) → count_of session clock ≤ count_of session other

-- counts grow
counts_grow : IsGrowing max 0 ◌≤◌
counts_grow = record {
  itself = λ x. omega arith;
  through = λ x y z xy yz. omega arith;
  bottom_below = λ x. omega arith;
  first_below = λ x y. omega arith;
}

-- a join of clocks counts at least what the first counts
pub first_at_most : (a b : List (ℕ × ℕ)) → CountsAtMost a (joined_clocks a b)
first_at_most a b session = joined_grows counts_grow session a b

-- and what the second counts
pub second_at_most : (a b : List (ℕ × ℕ)) → IsTrue (is_sorted nat_cmp b) → CountsAtMost b (joined_clocks a b)
second_at_most a b rises session =
    subst (λ found. count_of session b ≤ unwrap_or found 0) (sym (find-joined_maps max nat_cmp_total session a b rises)) (second_found (find nat_cmp session a) (find nat_cmp session b))
  where
    second_found : (x y : Option ℕ) → unwrap_or y 0 ≤ unwrap_or (joined_by max x y) 0
    second_found None y = omega arith
    second_found (Some m) None = omega arith
    second_found (Some m) (Some n) = omega arith

-- clocks grow
clocks_grow : IsGrowing joined_clocks [] CountsAtMost
clocks_grow = record {
  itself = λ x session. omega arith;
  through = λ x y z xy yz session. omega (arith, xy session, yz session);
  bottom_below = λ x session. omega arith;
  first_below = first_at_most;
}

-- what is known of a key is still known in a join
pub needs_grow : (key : ℕ) (known more : List (ℕ × List (ℕ × ℕ))) → CountsAtMost (clock_at key known) (clock_at key (joined_needs known more))
needs_grow key known more = joined_grows clocks_grow key known more

-- a clock joined with what stood there counts at least what the clock counts
with_old_at_most : (old : Option (List (ℕ × ℕ))) (clock : List (ℕ × ℕ)) → IsTrue (is_sorted nat_cmp clock) → CountsAtMost clock (with_old joined_clocks old clock)
with_old_at_most None clock rises session = omega arith
with_old_at_most (Some old) clock rises session = second_at_most old clock rises session

-- a clock that is learned of a key is known
learned_at_most : (key : ℕ) (known : List (ℕ × List (ℕ × ℕ))) (clock : List (ℕ × ℕ)) → IsTrue (is_sorted nat_cmp clock) → CountsAtMost clock (clock_at key (joined_needs known (one_need key clock)))
learned_at_most key known [] rises session = omega arith
learned_at_most key known (entry ∷ clock) rises session =
    let value : List (ℕ × ℕ) = with_old joined_clocks (find nat_cmp key known) (entry ∷ clock) in
    subst (λ found. count_of session (entry ∷ clock) ≤ count_of session (unwrap_or found []))
    (sym (find-put nat_cmp nat_cmp_total key key value known ∙ ap (λ r. cond (is_eq r) (Some value) (find nat_cmp key known)) (tied_itself nat_cmp_total key)))
    (with_old_at_most (find nat_cmp key known) (entry ∷ clock) rises session)

-- the clock that a reply shows is known once it has shown it
pub shown_is_known : (client : Client) (knows : Knowledge) (key : ℕ) (shown : Shown) → IsTrue (is_sorted nat_cmp shown.clock) → CountsAtMost shown.clock (clock_at key (knows_shown client knows key shown).clocks)
shown_is_known client knows key shown rises session =
    let first = learned_at_most key knows.clocks shown.clock rises session in
    let second = needs_grow key (joined_needs knows.clocks (one_need key shown.clock)) (needs_learned client.level shown.needs) session in
    omega (arith, first, second)

-- a reply makes nothing less known
known_at_reply : (client : Client) (knows : Knowledge) (its_key : ℕ) (shown : Shown) (key : ℕ) → CountsAtMost (clock_at key knows.clocks) (clock_at key (knows_shown client knows its_key shown).clocks)
known_at_reply client knows its_key shown key session =
    let first = needs_grow key knows.clocks (one_need its_key shown.clock) session in
    let second = needs_grow key (joined_needs knows.clocks (one_need its_key shown.clock)) (needs_learned client.level shown.needs) session in
    omega (arith, first, second)

-- nor does a commit
known_at_commit : (client : Client) (knows : Knowledge) (lamport : ℕ) (held : List (ℕ × Payload)) (key : ℕ) → CountsAtMost (clock_at key knows.clocks) (clock_at key (knows_committed client knows lamport held).clocks)
known_at_commit client knows lamport [] key session = omega arith
known_at_commit client knows lamport (held ∷ others) key session =
    let number : ℕ = own_count knows held.0 + 1 in
    let first = needs_grow key knows.clocks (one_need held.0 (one_count client.session number)) session in
    let second = known_at_commit client (knows_put client knows held.0 number lamport) lamport others key session in
    omega (arith, first, second)

-- nor does any line
pub known_at_line : (client : Client) (state : State) (line : Line) (answer : Answer) (key : ℕ) → CountsAtMost (clock_at key state.knows.clocks) (clock_at key (after client state line answer).knows.clocks)
known_at_line client state (lines.Put its_key payload) (answers.Put number lamport) key = needs_grow key state.knows.clocks (one_need its_key (one_count client.session number))
known_at_line client state (lines.Get its_key named) (answers.Got worker shown) key = known_at_reply client state.knows its_key shown key
known_at_line client state (lines.Await its_key of_session count) (answers.Got worker shown) key = known_at_reply client state.knows its_key shown key
known_at_line client state lines.Begin answers.Begun key = λ session. omega arith
known_at_line client state lines.Commit (answers.Committed committed lamport) key = known_at_commit client state.knows lamport (held_puts state) key
known_at_line client state lines.Abort (answers.Aborted aborted) key = λ session. omega arith
known_at_line client state line answer key = λ session. omega arith
