-- What room there is through several turns, while no request is left.
use Rattle.std.specs.Prelude.{◌≡◌, ◌⊎◌, ℕ, ◌+◌, ◌≤◌, Bool, Result, Ok, Err}
use Rattle.std.proofs.Common.{refl, subst, ◌∙◌, inl, inr, arith}
use Rattle.lattice_laws.specs.declared.lattice.NoMemory.{NoMemory}
use Rattle.worker_core.specs.State.{PlainWorker, dirty}
use Rattle.worker_core.specs.declared.did.Did.{Did}
use Rattle.worker_core.specs.declared.did.Did.TheVariants as did
use Rattle.party_turns.specs.Stretch.{KeepsRoom, LacksRoom, OnBatch, OnRequest, RoomAfter}
use Rattle.party_turns.specs.Turning.{SomeBack}

module _ {Q T O G : Type 0} (clear : O → Type 0) (roomy : Bool) (unseen : O → ℕ) (before between now : PlainWorker Q T O G)
    (no_more : dirty now.state ≤ dirty between.state) where
  pub room_through : KeepsRoom clear roomy unseen before between → KeepsRoom clear roomy unseen between now → KeepsRoom clear roomy unseen before now
  room_through (inl fewer) then = inl (omega (arith, fewer, no_more))
  room_through (inr (inl back)) then = inr (inl back)
  room_through (inr (inr (same, stay))) (inl fewer) = inl (omega (arith, fewer, same))
  room_through (inr (inr (same, stay))) (inr (inl back)) = inr (inl (subst (λ out. SomeBack clear roomy unseen out.items) stay back))
  room_through (inr (inr (same, stay))) (inr (inr (same_then, stay_then))) = inr (inr (same_then ∙ same, stay_then ∙ stay))

  lacks_through : KeepsRoom clear roomy unseen before between → LacksRoom clear roomy unseen between now → LacksRoom clear roomy unseen before now
  lacks_through room (inl held) = inl held
  lacks_through (inl fewer) (inr then) = inr (inl (omega (arith, fewer, no_more)))
  lacks_through (inr (inl back)) (inr then) = inr (inr back)
  lacks_through (inr (inr (same, stay))) (inr (inl fewer)) = inr (inl (omega (arith, fewer, same)))
  lacks_through (inr (inr (same, stay))) (inr (inr back)) = inr (inr (subst (λ out. SomeBack clear roomy unseen out.items) stay back))

  -- by the answer to the last of them
  pub room_after_through : (result : Result Did NoMemory) → KeepsRoom clear roomy unseen before between → RoomAfter clear roomy unseen result between now
      → RoomAfter clear roomy unseen result before now
  room_after_through (Ok did.Request) room then = room_through room then
  room_after_through (Ok did.Gossip) room then = room_through room then
  room_after_through (Ok did.Round) room then = room_through room then
  room_after_through (Ok did.Blocked) room then = lacks_through room then
  room_after_through (Ok did.Idle) room then = tt
  room_after_through (Err error) room then = tt

-- by the answer, where the worker did something
pub room_of_doing : {Q T O G : Type 0} (clear : O → Type 0) (roomy : Bool) (unseen : O → ℕ) (before now : PlainWorker Q T O G) (its : Did)
    → (its ≡ did.Blocked → ⊥) → (its ≡ did.Idle → ⊥) → RoomAfter {E = NoMemory} clear roomy unseen (Ok its) before now → KeepsRoom clear roomy unseen before now
room_of_doing clear roomy unseen before now did.Request not_blocked not_idle room = room
room_of_doing clear roomy unseen before now did.Gossip not_blocked not_idle room = room
room_of_doing clear roomy unseen before now did.Round not_blocked not_idle room = room
room_of_doing clear roomy unseen before now did.Blocked not_blocked not_idle room = absurd (not_blocked refl)
room_of_doing clear roomy unseen before now did.Idle not_blocked not_idle room = absurd (not_idle refl)

-- and so where it joined a batch or sent one
pub room_of_batch : {Q T O G : Type 0} (clear : O → Type 0) (roomy : Bool) (unseen : O → ℕ) (before now : PlainWorker Q T O G) (its : Did)
    → (its ≡ did.Gossip) ⊎ (its ≡ did.Round) → RoomAfter {E = NoMemory} clear roomy unseen (Ok its) before now → KeepsRoom clear roomy unseen before now
room_of_batch clear roomy unseen before now its (inl is) room = room_of_doing clear roomy unseen before now its (λ blocked. cc) (λ idle. cc) room
room_of_batch clear roomy unseen before now its (inr is) room = room_of_doing clear roomy unseen before now its (λ blocked. cc) (λ idle. cc) room

-- no batch was joined and none sent
pub on_no_batch : (its : Did) → (its ≡ did.Gossip → ⊥) → (its ≡ did.Round → ⊥) → OnBatch {E = NoMemory} (Ok its) ⊥
on_no_batch did.Request not_joined not_sent = tt
on_no_batch did.Gossip not_joined not_sent = not_joined refl
on_no_batch did.Round not_joined not_sent = not_sent refl
on_no_batch did.Blocked not_joined not_sent = tt
on_no_batch did.Idle not_joined not_sent = tt

-- where a request was worked on less is to be served than at first
pub fewer_through : (result : Result Did NoMemory) (before between now : ℕ) → between ≤ before → OnRequest result (now + 1 ≤ between) → OnRequest result (now + 1 ≤ before)
fewer_through (Ok did.Request) before between now no_more fewer = omega (arith, no_more, fewer)
fewer_through (Ok did.Gossip) before between now no_more fewer = tt
fewer_through (Ok did.Round) before between now no_more fewer = tt
fewer_through (Ok did.Blocked) before between now no_more fewer = tt
fewer_through (Ok did.Idle) before between now no_more fewer = tt
fewer_through (Err error) before between now no_more fewer = tt
