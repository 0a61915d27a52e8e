-- What becomes of a session that waits for the end of another.
use Rattle.std.specs.Prelude.{◌≡◌, ◌⊎◌, ℕ, ◌-◌, false, List, slice_get, slice_set, Some}
use Rattle.session_known.specs.Session.{handed}
use Rattle.session_proxy.specs.Share.{Share}
use Rattle.session_proxy.specs.State.{Knew, PlainProxy, WaitsFor, lists_of, state_now}
use Rattle.store_msg.specs.Reply.{PlainReply}
use Rattle.store_msg.specs.declared.request.Request.{Request}
use Rattle.parties.specs.Polling.{IsAllAnswered}

module _ {S R : Type 0} (asked : S → List Request) (received : R → List (ℕ × PlainReply)) where
  -- A session among others that waited has begun: the one that it waited for has ended, and it knew then what that one handed over.
  pub record Begins (sessions : List (PlainProxy S R)) (was is : PlainProxy S R) : Type 0 where
    pub session : ℕ
    pub waited : was.course.origin ≡ WaitsFor session
    pub other : PlainProxy S R
    pub there : slice_get sessions (session - 1) ≡ Some other
    pub ended : IsAllAnswered other
    pub course : is.course ≡ record was.course { origin = Knew (handed (state_now other.course).knows) }
    pub ends : is.ends ≡ was.ends
    pub share : Share (lists_of asked received is)
    -- it awaits no reply
    pub silent : was.course.waits ≡ false

  -- the session at a place has, or nothing was done
  abbrev pub MayBegin : ℕ → List (PlainProxy S R) → List (PlainProxy S R) → Type 0
  MayBegin place before now =
      (now ≡ before)
      ⊎ ((is : PlainProxy S R) × (now ≡ slice_set before place is) × ((was : PlainProxy S R) → slice_get before place ≡ Some was → Begins before was is))

-- the session at a place has begun, or it waits for one that has not ended
abbrev pub WaitsForOther : {S R : Type 0} → ℕ → List (PlainProxy S R) → Type 0
WaitsForOther {S} {R} place those =
    (its : PlainProxy S R) (session : ℕ) → slice_get those place ≡ Some its → its.course.origin ≡ WaitsFor session
    → (other : PlainProxy S R) → slice_get those (session - 1) ≡ Some other → IsAllAnswered other → ⊥
