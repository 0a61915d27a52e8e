-- A worker that takes turns replies to each session no more than it takes of it.
use Rattle.std.specs.Prelude.{◌≡◌, ℕ, Bool, List, length, None, Result, Ok, Err, OnOk}
use Rattle.std.proofs.Common.{arith, refl, subst}
use Rattle.lattice_laws.specs.declared.lattice.NoMemory.{NoMemory}
use Rattle.mail_contract.proofs.FrontLemmas.{front_through, front_whole}
use Rattle.worker_core.proofs.ShowingLemmas.{shows_still, shows_through}
use Rattle.worker_core.specs.Share.{Share, replies_to}
use Rattle.worker_core.specs.Showing.{ShowsMore}
use Rattle.worker_core.specs.State.{Lists}
use Rattle.worker_core.specs.Turns.{Counts, Turns}
use Rattle.worker_core.specs.declared.did.Did.{Did}
use Rattle.run_measure.proofs.TurningLemmas.{turned}
use Rattle.run_measure.specs.Measure.{taken_of}
use Rattle.run_measure.specs.Steps.{HasServed, RepliesAsTaken}

-- a worker that stays as it is took nothing,
pub takes_still : (many : ℕ) (lists : Lists) → RepliesAsTaken many lists lists
takes_still many lists = record {
  taken_more = λ session of. front_whole (taken_of session lists);
  replied_more = λ session of. front_whole (replies_to lists session);
  as_taken = λ session of. omega arith;
}

-- and one that took twice replied to each session no more than it took of it
pub takes_through : (many : ℕ) (before between now : Lists) → RepliesAsTaken many before between → RepliesAsTaken many between now → RepliesAsTaken many before now
takes_through many before between now first then = record {
  taken_more = λ session of.
      front_through (taken_of session before) (taken_of session between) (taken_of session now) (first.taken_more session of) (then.taken_more session of);
  replied_more = λ session of.
      front_through (replies_to before session) (replies_to between session) (replies_to now session) (first.replied_more session of) (then.replied_more session of);
  as_taken = λ session of. omega (arith, first.as_taken session of, then.as_taken session of);
}

-- at first it took no turn
pub served_still : (lists : Lists) → lists.state.kept ≡ None → HasServed lists lists
served_still lists none_kept = record { replies = takes_still (length lists.replied) lists; shows = shows_still lists; kept = none_kept }

-- one turn that had memory,
pub served_once : (its : Did) (result : Result Did NoMemory) (before now : Lists) (count count_now : Counts) (room : ℕ → List Bool → Type 0) → result ≡ Ok its
    → Turns result before now count count_now room → ShowsMore before now → Share before → before.state.kept ≡ None → HasServed before now
served_once its result before now count count_now room is turns shows share none_kept =
    let turns_so = subst (λ result. Turns result before now count count_now room) is turns in
    let one = turned its before now count count_now room turns_so none_kept share.replies.held in
    record { replies = one.replies; shows = shows; kept = one.kept }

-- whatever it answers,
pub served_if : (result : Result Did NoMemory) (before now : Lists) (count count_now : Counts) (room : ℕ → List Bool → Type 0)
    → Turns result before now count count_now room → ShowsMore before now → Share before → before.state.kept ≡ None → OnOk result (HasServed before now)
served_if (Ok its) before now count count_now room turns shows share none_kept =
    served_once its (Ok its) before now count count_now room refl turns shows share none_kept
served_if (Err error) before now count count_now room turns shows share none_kept = tt

-- and one after another
pub served_through : (before between now : Lists) → length between.replied ≡ length before.replied → HasServed before between → HasServed between now → HasServed before now
served_through before between now as_many first then = record {
  replies = takes_through (length before.replied) before between now first.replies (subst (λ many. RepliesAsTaken many between now) as_many then.replies);
  shows = shows_through before between now first.shows then.shows;
  kept = then.kept;
}
