-- No more keys are changed for a mate than there are keys.
use Rattle.std.proofs.Common.{◌≡◌, ℕ, zero, suc, ◌<◌, ◌≤◌, Bool, IsTrue, List, [], ◌∷◌, ap, arith, inl, inr, length, refl, ◌==◌, slice_index_or}
use Rattle.std.specs.List.{list_any}
use Rattle.std.proofs.lemmas.Bool.{cases_lt, false≢true}
use Rattle.std.proofs.lemmas.List.Elements.{All-contains_itself}
use Rattle.worker_core.specs.Kept.{AreChanged, IsKept}
use Rattle.worker_core.specs.State.{Lists, State, changed_of, lives_at, mate_at}
use Rattle.gossip_rounds.proofs.KeysLemmas.{few_keys}

-- some item passes the test, so the list is there
any_there : {A : Type 0} (test : A → Bool) (lists : List (List A)) (place : ℕ) → IsTrue (list_any test (slice_index_or lists place [])) → place < length lists
any_there test [] place some = absurd (false≢true some)
any_there test (first ∷ lists) zero some = omega arith
any_there test (first ∷ lists) (suc place) some = omega (arith, any_there test lists place some)

-- a key that lives somewhere is one of the keys
lived_within : (placement : List (List ℕ)) (worker key : ℕ) → IsTrue (lives_at placement worker key) → (1 ≤ key) × (key ≤ length placement)
lived_within placement worker zero lives = absurd (false≢true lives)
lived_within placement worker (suc key) lives = (omega arith, omega (arith, any_there (λ replica. replica == worker) placement key lives))

few_at : (state : State) (place : ℕ) → AreChanged state place → length (changed_of state place) ≤ length state.placement
few_at state place are =
    few_keys (record {
      ascending = are.ascending;
      within = λ k d low. lived_within state.placement (mate_at state.me place) _ (are.lives _ (All-contains_itself (changed_of state place) k d low));
    })

-- beyond the last there is nothing
none_beyond : {A : Type 0} (lists : List (List A)) (place : ℕ) → length lists ≤ place → slice_index_or lists place [] ≡ []
none_beyond [] place beyond = refl
none_beyond (first ∷ lists) zero beyond = absurd (omega (arith, beyond))
none_beyond (first ∷ lists) (suc place) beyond = none_beyond lists place (omega (arith, beyond))

pub few_changed : (lists : Lists) → IsKept lists → (place : ℕ) → length (changed_of lists.state place) ≤ length lists.state.placement
few_changed lists keeps place = elim (cases_lt place (length lists.told)) [
  | inl low ↦ few_at lists.state place (keeps.changed place low)
  | inr beyond ↦ omega (arith, ap length (none_beyond lists.state.changed place (omega (arith, beyond, keeps.changed_mates))))
]
