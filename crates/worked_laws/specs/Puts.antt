-- Accepted puts, each with its key, whose causal dependencies are closed, and lists that differ from them in one thing each.
use Rattle.std.specs.Prelude.{ℕ, List, [], ◌∷◌}
use Rattle.composed_value.specs.declared.payload.Payload.TheVariants as payloads
use Rattle.composed_value.specs.declared.put.Put.{Put}
use Rattle.run_ledger.specs.Causality.{AreCausal}

-- for each key the clock of what must be seen of it
abbrev pub Needs : Type 0
Needs = List (ℕ × List (ℕ × ℕ))

-- a session's put with its number, its Lamport number and its needs
abbrev pub put_of : ℕ → ℕ → ℕ → Needs → Put
put_of session number lamport needs = record { session = session; number = number; lamport = lamport; place = 0; seen = []; needs = needs; payload = payloads.Max 5 }

-- session 1 puts on key 1
abbrev pub first : Put
first = put_of 1 1 1 []

-- session 2, which has seen that, puts on key 2
abbrev pub second_needs : Needs
second_needs = (1, (1, 1) ∷ []) ∷ []

abbrev pub second : Put
second = put_of 2 1 2 second_needs

-- session 1, which has seen both, puts on key 1 again
abbrev pub third_needs : Needs
third_needs = (1, (1, 1) ∷ []) ∷ (2, (2, 1) ∷ []) ∷ []

abbrev pub third : Put
third = put_of 1 2 3 third_needs

-- session 3, which has seen all three, puts on key 2
abbrev pub fourth_needs : Needs
fourth_needs = (1, (1, 2) ∷ []) ∷ (2, (2, 1) ∷ []) ∷ []

abbrev pub fourth : Put
fourth = put_of 3 1 4 fourth_needs

abbrev pub accepted_with : Put → Put → Put → List (ℕ × Put)
accepted_with one two four = (1, one) ∷ (2, two) ∷ (1, third) ∷ (2, four) ∷ []

abbrev pub worked_puts : List (ℕ × Put)
worked_puts = accepted_with first second fourth

-- The second put needs three puts of session 1 on key 1, where there are two.
abbrev pub need_of_a_put_not_there : List (ℕ × Put)
need_of_a_put_not_there = accepted_with first (put_of 2 1 2 ((1, (1, 3) ∷ []) ∷ [])) fourth

-- It needs a put of session 1 on key 2, which has none.
abbrev pub need_on_another_key : List (ℕ × Put)
need_on_another_key = accepted_with first (put_of 2 1 2 ((2, (1, 1) ∷ []) ∷ [])) fourth

-- It has the Lamport number of the put that it needs.
abbrev pub need_at_the_same_lamport : List (ℕ × Put)
need_at_the_same_lamport = accepted_with first (put_of 2 1 1 second_needs) fourth

-- The first put, which it needs, has a greater one.
abbrev pub need_at_a_greater_lamport : List (ℕ × Put)
need_at_a_greater_lamport = accepted_with (put_of 1 1 3 []) second fourth

-- The first put and the second need each other.
abbrev pub needs_of_each_other : List (ℕ × Put)
needs_of_each_other = accepted_with (put_of 1 1 1 ((2, (2, 1) ∷ []) ∷ [])) second fourth

-- The fourth put needs the third, and not the second, which the third needs.
abbrev pub need_not_covered : List (ℕ × Put)
need_not_covered = accepted_with first second (put_of 3 1 4 ((1, (1, 2) ∷ []) ∷ []))

-- The causal dependencies of some put are not closed below its Lamport number.
abbrev pub AreNotCausal : List (ℕ × Put) → Type 0
AreNotCausal puts = AreCausal puts → ⊥
