-- What the ends of a session told at its first poll, where it has not moved since.
use Rattle.std.specs.Prelude.{◌≡◌, ◌⊎◌, ℕ, Bool, false, Result, Ok}
use Rattle.std.proofs.Common.{inl, inr, subst}
use Rattle.lattice_laws.specs.declared.lattice.NoMemory.{NoMemory}
use Rattle.mail_contract.specs.declared.rx.Rx as boxes
use Rattle.mail_contract.specs.declared.tx.Tx as senders
use Rattle.mail_contract.specs.Boxes.{FindsNothing, MayTake, box_of}
use Rattle.session_proxy.specs.Polls.{Counts, Polls, WantsRoom}
use Rattle.session_proxy.specs.State.{PlainProxy, lists_of}
use Rattle.session_proxy.specs.declared.progress.Progress.{Progress}
use Rattle.session_proxy.specs.declared.progress.Progress.TheVariants as progress
use Rattle.party_turns.proofs.TurningBoxesLemmas.{take_keeps}
use Rattle.parties.specs.Polling.{HasWaited}
use Rattle.store_msg.specs.declared.request.Request.{Request}
use Rattle.store_msg.specs.Reply.{PlainReply}

module _ {S T R SK TK RK : Type 0} (asks : senders.Ghosts S Request SK) (heard : boxes.Ghosts R PlainReply T RK TK) where
  -- so many polls: none, or the first told what the session waits for, unless it has moved
  abbrev pub WaitsSince : ℕ → Bool → PlainProxy S R → PlainProxy S R → Type 0
  WaitsSince polls moved before now = ((polls ≡ 0) × (now ≡ before)) ⊎ (moved ≡ false → HasWaited asks heard before)

  -- after a poll that answers NotYet that was told
  pub waits_once : (result : Result Progress NoMemory) (polls_made senders : ℕ) (moved : Bool) (before between now : PlainProxy S R) (counts counts_now : Counts) → result ≡ Ok progress.NotYet
      → Polls result (lists_of asks.sent heard.received between) (lists_of asks.sent heard.received now) counts counts_now
      (WantsRoom asks.clear asks.roomy asks.unseen between.ends.requests.items) (FindsNothing heard.keeps (box_of heard.received heard.answers heard.about now.ends.replies))
      → MayTake heard.keeps senders (box_of heard.received heard.answers heard.about between.ends.replies) (box_of heard.received heard.answers heard.about now.ends.replies)
      → WaitsSince polls_made moved before between → moved ≡ false → HasWaited asks heard before
  waits_once result polls_made senders moved before between now counts counts_now is polls takes (inr waited) still = waited still
  waits_once result polls_made senders moved before between now counts counts_now is polls takes (inl (none, same)) still =
      subst (HasWaited asks heard) same (record {
        now = now;
        counts = counts;
        counts_now = counts_now;
        polls =
            subst (λ result. Polls result (lists_of asks.sent heard.received between) (lists_of asks.sent heard.received now) counts counts_now
            (WantsRoom asks.clear asks.roomy asks.unseen between.ends.requests.items) (FindsNothing heard.keeps (box_of heard.received heard.answers heard.about now.ends.replies))) is polls;
        stands = (take_keeps heard.keeps senders (box_of heard.received heard.answers heard.about between.ends.replies) (box_of heard.received heard.answers heard.about now.ends.replies) takes).stand;
      })
