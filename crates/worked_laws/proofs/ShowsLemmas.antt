-- What the worked lists show later goes on from what they show before, and what the changed ones show does not.
use Rattle.std.specs.Prelude.{◌≡◌, ℕ, zero, suc, ◌≤◌, List, [], ◌∷◌, ◌++◌, All, drop, slice_index_or}
use Rattle.std.proofs.Common.{refl, sym, ap, subst, arith}
use Rattle.std.proofs.lemmas.List.Elements.{All-cons, All-head, All-nil}
use Rattle.clock_lattice.specs.Clock.{count_of}
use Rattle.clock_lattice.specs.ClockLaws.{counts_from_covers}
use Rattle.mail_contract.specs.Takes.{IsFront}
use Rattle.store_msg.specs.Reply.{PlainReply, shown_clock}
use Rattle.worker_core.specs.Share.{replies_to, told_to}
use Rattle.worker_core.specs.Showing.{CountsShown, ShowsMore, shown_count}
use Rattle.worker_core.specs.State.{Entries}
use Rattle.worked_laws.specs.Lists.{cell_of_first}
use Rattle.worked_laws.specs.Shows.{ShowsLess, batch_exchanged, reply_exchanged, reply_of_an_earlier_cell, reply_with, shown_before, shown_later, shows_fewer_puts}

told_at : (place : ℕ) → IsFront (told_to shown_before place) (told_to shown_later place)
told_at zero = refl
told_at (suc zero) = refl
told_at (suc (suc place)) = refl

shown_at : (key session : ℕ) → shown_count shown_before.state key session ≤ shown_count shown_later.state key session
shown_at zero session = omega arith
shown_at (suc zero) session = counts_from_covers (cell_of_first 3).clock (cell_of_first 2).clock refl session
shown_at (suc (suc zero)) session = omega arith
shown_at (suc (suc (suc zero))) session = omega arith
shown_at (suc (suc (suc (suc key)))) session = omega arith

replied_to : (to : ℕ) → (more : List PlainReply) × (replies_to shown_later to ≡ replies_to shown_before to ++ more) × All (CountsShown shown_before.state) more
replied_to zero = ([], refl, All-nil (CountsShown shown_before.state))
replied_to (suc zero) = (
  reply_with 2 2 ∷ [],
  refl,
  All-cons (CountsShown shown_before.state) (reply_with 2 2) [] (λ session. omega arith) (All-nil (CountsShown shown_before.state)),
)
replied_to (suc (suc to)) = ([], refl, All-nil (CountsShown shown_before.state))

pub shows_later : ShowsMore shown_before shown_later
shows_later = record { told = told_at; shown = shown_at; replies = replied_to }

pub fewer_puts_are_less : ShowsLess shows_fewer_puts
fewer_puts_are_less more = let wrong : 2 ≤ 1 = more.shown 1 1 in omega (arith, wrong)

pub earlier_cell_is_less : ShowsLess reply_of_an_earlier_cell
earlier_cell_is_less more =
    let since = more.replies 1 in
    let last : reply_with 2 1 ∷ [] ≡ since.0 = ap (drop 1) since.1 in
    let counts = All-head (CountsShown shown_before.state) (reply_with 2 1) [] (subst (All (CountsShown shown_before.state)) (sym last) since.2) in
    let wrong : 2 ≤ 1 = counts 1 in omega (arith, wrong)

pub exchanged_reply_is_less : ShowsLess reply_exchanged
exchanged_reply_is_less more =
    let first : List PlainReply → ℕ = λ replies. count_of 1 (shown_clock (slice_index_or replies 0 (reply_with 0 0)).answered) in
    let wrong : 2 ≡ 1 = ap first (more.replies 1).1 in omega (arith, wrong)

pub exchanged_batch_is_less : ShowsLess batch_exchanged
exchanged_batch_is_less more =
    let first : List Entries → ℕ = λ batches. (slice_index_or (slice_index_or batches 0 []) 0 (0, cell_of_first 0)).1.top in
    let wrong : 2 ≡ 1 = ap first (more.told 0) in omega (arith, wrong)
