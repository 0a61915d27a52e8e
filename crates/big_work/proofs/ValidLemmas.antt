-- The script of a number is valid.
use Rattle.std.specs.Prelude.{◌≡◌, ◌≢◌, ℕ, ◌+◌, ◌-◌, ◌*◌, ◌%◌, ◌^◌, ◌<◌, ◌≤◌, ◌==◌, if◌then◌else◌, Bool, true, false, List, [], ◌∷◌, ◌++◌, codes, length, map, sum_by, slice_index_or, None, All, AllPairs}
use Rattle.std.specs.Fmt.{decimal}
use Rattle.std.specs.List.{range_with_len}
use Rattle.std.proofs.Common.{zero, suc, refl, sym, ap, subst, ◌∙◌, inl, inr, lit≤, arith}
use Rattle.std.proofs.lemmas.Bool.{eq-eqb, ne_eqb}
use Rattle.std.proofs.lemmas.Bool.Decides.{eqb_tells}
use Rattle.std.proofs.lemmas.List.Elements.{All-nil, All-cons}
use Rattle.std.proofs.lemmas.List.FromFn.{get_or-map-range_with_len, length-map-range_with_len}
use Rattle.std.proofs.lemmas.List.Kept.{AllPairs-cons}
use Rattle.std.proofs.lemmas.List.Sums.{sum_by-cons}
use Rattle.lattice_laws.specs.Spelling.{IsSpelled, is_spelling_byte}
use Rattle.composed_value.specs.Keyed.{kind_at}
use Rattle.composed_value.specs.Kind.{kind_of}
use Rattle.composed_value.specs.Put.{IsPayload}
use Rattle.composed_value.specs.declared.kind.Kind.{Kind}
use Rattle.composed_value.specs.declared.kind.Kind.TheVariants as kinds
use Rattle.mail_contract.specs.Scrambled.{draw_of, next_state}
use Rattle.placement.specs.Config.{ArePins, IsOwnFactor, IsOneOf, placed}
use Rattle.placement.specs.Name.{IsName}
use Rattle.placement.specs.declared.config.KeyPlace.{KeyPlace}
use Rattle.placement.proofs.ConfigLemmas.{is_placement}
use Rattle.session_known.proofs.EndsLemmas.{none_comes_after}
use Rattle.session_known.specs.Script.{AreEnded, IsValidScript, IsValidSession, MayStand}
use Rattle.session_known.specs.declared.script.Level.{Level}
use Rattle.session_known.specs.declared.script.Level.TheVariants.{Eventual, Committed, Causal}
use Rattle.session_known.specs.declared.script.Line.{Line}
use Rattle.session_known.specs.declared.script.Line.TheVariants as lines
use Rattle.session_known.specs.declared.script.Script.{Script}
use Rattle.session_known.specs.declared.script.SessionPlan.{SessionPlan}
use Rattle.big_work.specs.Big.{command_line, command_lines, command_state, drawn_line, key_kind, key_place, payload_of, script_of, session_level, session_plans, state_after, turn_kind}
use Rattle.big_work.proofs.SpelledLemmas.{number_is_told, numbered_is_spelled}

-- a letter of ASCII is one byte that may stand in a name
one_letter : (letter : ℕ) → is_spelling_byte letter ≡ true → IsSpelled 1 (letter ∷ [])
one_letter letter spells = record { some = lit≤ tt; short = lit≤ tt; allowed = All-cons (λ b. is_spelling_byte b ≡ true) letter [] spells (All-nil (λ b. is_spelling_byte b ≡ true)) }

-- ---- keys

-- what is made of each of the numbers from 1 on
All-from_range : {X : Type 0} (P : X → Type 0) (f : ℕ → X) (n : ℕ) → ((key : ℕ) → IsOneOf n key → P (f key)) → All P (map f (range_with_len 1 n))
All-from_range P f n each i d within =
    let i< : i < n = omega (arith, within, length-map-range_with_len f 1 n) in
    subst P (sym (get_or-map-range_with_len f 1 n i (1 + i) d i< refl)) (each (1 + i) (omega arith, omega arith))

-- of each two of them
AllPairs-from_range : {X : Type 0} (R : X → X → Type 0) (f : ℕ → X) (n : ℕ) → ((key other : ℕ) → key < other → other ≤ n → R (f key) (f other))
    → AllPairs R (map f (range_with_len 1 n))
AllPairs-from_range R f n each i j d below within =
    let j< : j < n = omega (arith, within, length-map-range_with_len f 1 n) in
    let at_i = get_or-map-range_with_len f 1 n i (1 + i) d (omega arith) refl in
    let at_j = get_or-map-range_with_len f 1 n j (1 + j) d j< refl in
    subst (λ x. R x (slice_index_or (map f (range_with_len 1 n)) j d)) (sym at_i) (subst (R (f (1 + i))) (sym at_j) (each (1 + i) (1 + j) (omega arith) (omega arith)))

-- no key has pins
no_pins : ArePins 4 []
no_pins = record { are_workers = All-nil (IsOneOf 4); different = λ i j d below within. absurd (omega (arith, within)) }

-- the kind of a key of the script
kind_is : (n key : ℕ) → IsOneOf n key → kind_at (map key_kind (range_with_len 1 n)) key ≡ key_kind key
kind_is n key one =
    let within : key - 1 < n = omega (arith, one.0, one.1) in
    let same : 1 + (key - 1) ≡ key = omega (arith, one.0) in
    get_or-map-range_with_len key_kind 1 n (key - 1) key kinds.Max within same

-- ---- payloads

-- what a put brings is there
payload_is : (kind : Kind) (draw : ℕ) → IsPayload (payload_of kind draw)
payload_is kinds.Max draw = omega arith
payload_is kinds.Or draw = tt
payload_is kinds.Set draw = numbered_is_spelled 64 (draw % 50) (codes "w") (lit≤ tt) (omega arith) (one_letter 119 refl)
payload_is kind draw = (numbered_is_spelled 64 (draw % 10) (codes "f") (lit≤ tt) (omega arith) (one_letter 102 refl), omega arith)

-- and of the kind, which is one of the four
payload_fits : (turn draw : ℕ) → kind_of (payload_of (turn_kind turn) draw) ≡ turn_kind turn
payload_fits zero draw = refl
payload_fits (suc zero) draw = refl
payload_fits (suc (suc zero)) draw = refl
payload_fits (suc (suc (suc turn))) draw = refl

-- ---- commands

-- the command that is drawn in a state, and the state after three draws
abbrev drawn_in : ℕ → Line
drawn_in state = drawn_line (draw_of (next_state state)) (draw_of (next_state (next_state state))) (draw_of (next_state (next_state (next_state state))))

abbrev drawn_past : ℕ → ℕ
drawn_past state = next_state (next_state (next_state state))

module _ (script : Script) (table : List (List ℕ)) (keys : length script.config.keys ≡ 32) (kinds_are : script.kinds ≡ map key_kind (range_with_len 1 32)) where
  -- a drawn command may stand in each session
  drawn_may : (level : Level) (first second third : ℕ) → MayStand script table level (drawn_line first second third)
  drawn_may level first second third =
      let key : ℕ = second % 32 + 1 in
      let one : IsOneOf 32 key = (omega arith, omega arith) in
      let of_script : IsOneOf (length script.config.keys) key = subst (λ n. IsOneOf n key) (sym keys) one in
      let of_kind : kind_of (payload_of (key_kind key) third) ≡ kind_at script.kinds key =
      payload_fits ((key - 1) % 4) third ∙ sym (kind_is 32 key one) ∙ ap (λ kinds. kind_at kinds key) (sym kinds_are) in
      elim (first % 4 == 3) as (λ get. MayStand script table level (if get then lines.Get key None else lines.Put key (payload_of (key_kind key) third))) [
        | true ↦ (of_script, tt)
        | false ↦ (of_script, payload_is (key_kind key) third, of_kind)
      ]

  -- and each command in its own
  command_may : (level : Level) (command state : ℕ) → MayStand script table level (command_line level command state)
  command_may Eventual command state = drawn_may Eventual _ _ _
  command_may Causal command state = drawn_may Causal _ _ _
  command_may Committed command state =
      elim (command % 20 == 0) as (λ begins. MayStand script table Committed (if begins then lines.Begin else (if command % 20 == 19 then lines.Commit else drawn_in state))) [
        | true ↦ refl
        | false ↦ elim (command % 20 == 19) as (λ ends. MayStand script table Committed (if ends then lines.Commit else drawn_in state)) [
          | true ↦ refl
          | false ↦ drawn_may Committed _ _ _
        ]
      ]

  lines_may : (level : Level) (command n state : ℕ) → All (MayStand script table level) (command_lines level command n state)
  unfolding command_lines
  lines_may level command zero state = All-nil (MayStand script table level)
  lines_may level command (suc n) state =
      let next = command_state level command state in
      All-cons (MayStand script table level) (command_line level command state) (command_lines level (command + 1) n next) (command_may level command state) (lines_may level (command + 1) n next)

-- ---- transactions

-- a drawn command neither begins nor ends one
drawn_keeps : (begun : Bool) (state : ℕ) (rest : List Line) → AreEnded begun rest → AreEnded begun (drawn_in state ∷ rest)
drawn_keeps begun state rest ended =
    let key : ℕ = draw_of (next_state (next_state state)) % 32 + 1 in
    let third : ℕ = draw_of (drawn_past state) in
    elim (draw_of (next_state state) % 4 == 3) as (λ get. AreEnded begun ((if get then lines.Get key None else lines.Put key (payload_of (key_kind key) third)) ∷ rest)) [
      | true ↦ ended
      | false ↦ ended
    ]

-- whether one is begun before a command
abbrev IsBegun : Bool → ℕ → Type 0
IsBegun true command = 0 < command % 20
IsBegun false command = command % 20 ≡ 0

-- in a committed session each is ended where the commands stop at a multiple of twenty
committed_end : (begun : Bool) (command n state : ℕ) → IsBegun begun command → (command + n) % 20 ≡ 0 → AreEnded begun (command_lines Committed command n state)
unfolding command_lines
committed_end true command zero state is ends = absurd (omega (arith, is, ends))
committed_end false command zero state is ends = refl
committed_end false command (suc n) state is ends =
    let begins : (command % 20 == 0) ≡ true = eq-eqb (command % 20) 0 is in
    rw begins (refl, committed_end true (command + 1) n state (omega (arith, is)) (omega (arith, ends)))
committed_end true command (suc n) state is ends =
    let begins : (command % 20 == 0) ≡ false = ne_eqb (command % 20) 0 (λ same. omega (arith, is, same)) in
    elim (eqb_tells (command % 20) 19) [
      | inl last ↦ rw (begins, last.0) (refl, committed_end false (command + 1) n state (omega (arith, last.1)) (omega (arith, ends)))
      | inr other ↦
          let rest = committed_end true (command + 1) n (drawn_past state) (omega (arith, is, other.1)) (omega (arith, ends)) in
          rw (begins, other.0) (drawn_keeps true state (command_lines Committed (command + 1) n (drawn_past state)) rest)
    ]

-- and in the others there is none
others_end : (level : Level) (command n state : ℕ) → (level ≡ Committed → ⊥) → AreEnded false (command_lines level command n state)
unfolding command_lines
others_end Eventual command zero state other = refl
others_end Eventual command (suc n) state other =
    drawn_keeps false state (command_lines Eventual (command + 1) n (drawn_past state)) (others_end Eventual (command + 1) n (drawn_past state) other)
others_end Causal command zero state other = refl
others_end Causal command (suc n) state other =
    drawn_keeps false state (command_lines Causal (command + 1) n (drawn_past state)) (others_end Causal (command + 1) n (drawn_past state) other)
others_end Committed command n state other = absurd (other refl)

-- so in a session of each level
transactions_end : (level : Level) (state : ℕ) → AreEnded false (command_lines level 0 400 state)
transactions_end Eventual state = others_end Eventual 0 400 state (λ same. cc)
transactions_end Committed state = committed_end false 0 400 state refl refl
transactions_end Causal state = others_end Causal 0 400 state (λ same. cc)

-- ---- sessions

-- there are as many commands as are made, and as many sessions
commands_count : (level : Level) (command n state : ℕ) → length (command_lines level command n state) ≡ n
unfolding command_lines
commands_count level command zero state = refl
commands_count level command (suc n) state = ap suc (commands_count level (command + 1) n (command_state level command state))

sessions_count : (session n state : ℕ) → length (session_plans session n state) ≡ n
unfolding session_plans
sessions_count session zero state = refl
sessions_count session (suc n) state = ap suc (sessions_count (session + 1) n (state_after (session_level session) 0 400 state))

-- each session has 400 commands
pub lines_count : (session n state : ℕ) → sum_by (λ plan. length plan.lines) (session_plans session n state) ≡ 400 * n
unfolding session_plans
lines_count session zero state = refl
lines_count session (suc n) state =
    let lines_of : SessionPlan → ℕ = λ plan. length plan.lines in
    let level = session_level session in
    let plan : SessionPlan = record { name = codes "s" ++ decimal session; level = level; after = None; lines = command_lines level 0 400 state } in
    let rest = session_plans (session + 1) n (state_after level 0 400 state) in
    let others : sum_by lines_of rest ≡ 400 * n = lines_count (session + 1) n (state_after level 0 400 state) in
    sum_by-cons lines_of plan rest ∙ ap (λ k. k + sum_by lines_of rest) (commands_count level 0 400 state) ∙ omega (arith, others)

-- the names of sessions are names
sessions_named : (session n state : ℕ) → session + n ≤ 2 ^ 64 → All (λ plan. IsName plan.name) (session_plans session n state)
unfolding session_plans
sessions_named session zero state few = All-nil (λ (plan : SessionPlan). IsName plan.name)
sessions_named session (suc n) state few =
    All-cons (λ (plan : SessionPlan). IsName plan.name) _ (session_plans (session + 1) n (state_after (session_level session) 0 400 state))
    (numbered_is_spelled 32 session (codes "s") (lit≤ tt) (omega arith) (one_letter 115 refl)) (sessions_named (session + 1) n _ (omega arith))

-- no later session has the name of an earlier one
later_named : (earlier session n state : ℕ) → earlier < session → session + n ≤ 2 ^ 64 → All (λ plan. (codes "s" ++ decimal earlier) ≢ plan.name) (session_plans session n state)
unfolding session_plans
later_named earlier session zero state before few = All-nil (λ (plan : SessionPlan). (codes "s" ++ decimal earlier) ≢ plan.name)
later_named earlier session (suc n) state before few =
    All-cons (λ (plan : SessionPlan). (codes "s" ++ decimal earlier) ≢ plan.name) _ (session_plans (session + 1) n (state_after (session_level session) 0 400 state))
    (λ same. let told : earlier ≡ session = number_is_told (codes "s") earlier session (omega arith) (omega arith) same in omega arith)
    (later_named earlier (session + 1) n _ (omega arith) (omega arith))

sessions_differ : (session n state : ℕ) → session + n ≤ 2 ^ 64 → AllPairs (λ plan other. plan.name ≢ other.name) (session_plans session n state)
unfolding session_plans
sessions_differ session zero state few = λ i j d below within. absurd (omega (arith, within))
sessions_differ session (suc n) state few =
    AllPairs-cons (λ (plan : SessionPlan) (other : SessionPlan). plan.name ≢ other.name) _ (session_plans (session + 1) n (state_after (session_level session) 0 400 state))
    (later_named session (session + 1) n _ (omega arith) (omega arith)) (sessions_differ (session + 1) n _ (omega arith))

-- none comes after another
none_after : (session n state : ℕ) → All (λ plan. plan.after ≡ None) (session_plans session n state)
unfolding session_plans
none_after session zero state = All-nil (λ (plan : SessionPlan). plan.after ≡ None)
none_after session (suc n) state = All-cons (λ (plan : SessionPlan). plan.after ≡ None) _ (session_plans (session + 1) n (state_after (session_level session) 0 400 state)) refl (none_after (session + 1) n _)

-- the lines of each are lawful
sessions_valid : (script : Script) (table : List (List ℕ)) → length script.config.keys ≡ 32 → script.kinds ≡ map key_kind (range_with_len 1 32) → (session n state : ℕ)
    → All (IsValidSession script table) (session_plans session n state)
unfolding session_plans
sessions_valid script table keys kinds_are session zero state = All-nil (IsValidSession script table)
sessions_valid script table keys kinds_are session (suc n) state =
    let level = session_level session in
    All-cons (IsValidSession script table) _ (session_plans (session + 1) n (state_after level 0 400 state))
    (record { lines = lines_may script table keys kinds_are level 0 400 state; transactions = transactions_end level state })
    (sessions_valid script table keys kinds_are (session + 1) n (state_after level 0 400 state))

-- ---- the script

-- The script of a number is valid.
pub big_is_valid : (number : ℕ) → IsValidScript (script_of number) (placed (script_of number).config)
big_is_valid number = record {
  version = (lit≤ tt, lit≤ tt);
  config = record {
    workers_some = lit≤ tt;
    workers_most = lit≤ tt;
    factor_some = lit≤ tt;
    factor_most = lit≤ tt;
    keys_most = lit≤ tt;
    pins = All-from_range (λ (key : KeyPlace). ArePins 4 key.pins) key_place 32 (λ key one. no_pins);
    factors = All-from_range (IsOwnFactor 4) key_place 32 (λ key one. tt);
  };
  placed = is_placement (script_of number).config;
  round = (lit≤ tt, lit≤ tt);
  kinds = refl;
  keys_named = All-from_range (λ (key : KeyPlace). IsName key.name) key_place 32 (λ key one. numbered_is_spelled 32 key (codes "k") (lit≤ tt) (omega arith) (one_letter 107 refl));
  key_names = AllPairs-from_range (λ (key : KeyPlace) (other : KeyPlace). key.name ≢ other.name) key_place 32 (λ key other below last same.
      let told : key ≡ other = number_is_told (codes "k") key other (omega arith) (omega arith) same in omega arith);
  sessions_named = sessions_named 1 8 number (lit≤ tt);
  session_names = sessions_differ 1 8 number (lit≤ tt);
  few_sessions = omega (arith, sessions_count 1 8 number);
  few_lines = omega (arith, lines_count 1 8 number);
  sessions = sessions_valid (script_of number) (placed (script_of number).config) refl refl 1 8 number;
  orders = none_comes_after (script_of number) (none_after 1 8 number);
}
