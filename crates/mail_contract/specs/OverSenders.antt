-- The senders of a list, each at its place from 0, by what their trait lets contracts see of them.
use Rattle.std.specs.Prelude.{◌≡◌, ◌≢◌, ℕ, ◌+◌, List, [], map, min, slice_get, slice_index_or, Result, Some}
use Rattle.mail_contract.specs.Sends as sends
use Rattle.mail_contract.specs.declared.Refused.{Refused}
use Rattle.mail_contract.specs.declared.tx.Tx as senders

-- of a list all but the one at a place stay
abbrev pub OthersStay : {T : Type 0} → ℕ → List T → List T → Type 0
OthersStay place before now = (other : ℕ) → other ≢ place → slice_get now other ≡ slice_get before other

module _ {T M TK : Type 0} (its : senders.Ghosts T M TK) where
  -- its number, and all that it sent
  abbrev pub number_at : List T → ℕ → ℕ
  number_at senders place = slice_index_or (map its.number senders) place 0

  abbrev pub sent_at : List T → ℕ → List M
  sent_at senders place = slice_index_or (map its.sent senders) place []

  -- how many of its messages may take up a place, and how often it wanted for one
  abbrev pub unseen_at : List T → ℕ → ℕ
  unseen_at senders place = slice_index_or (map its.unseen senders) place 0

  abbrev pub fulls_at : List T → ℕ → ℕ
  fulls_at senders place = slice_index_or (map its.fulls senders) place 0

  -- its next message finds a place
  abbrev pub IsClearAt : List T → ℕ → Type 0
  IsClearAt senders place = (sender : T) → slice_get senders place ≡ Some sender → its.clear sender

  -- no place is found for its next message
  abbrev pub NotClearAt : List T → ℕ → Type 0
  NotClearAt senders place = (sender : T) → slice_get senders place ≡ Some sender → its.clear sender → ⊥

  -- where its next message found a place one still does
  abbrev pub StillClearAt : List T → List T → ℕ → Type 0
  StillClearAt before now place = (was is : T) → slice_get before place ≡ Some was → slice_get now place ≡ Some is → its.clear was → its.clear is

  -- what each of them sent, before and after a send by the one at a place
  abbrev pub Posts : {U : Type 0} → Result U (Refused M) → M → ℕ → List T → List T → Type 0
  Posts answer message place before now = sends.Posted answer message place (map its.sent before) (map its.sent now)

  -- and how often each wanted for a place
  abbrev pub CountsFulls : {U : Type 0} → Result U (Refused M) → ℕ → List T → List T → Type 0
  CountsFulls answer place before now = sends.FullsAfter answer place (map its.fulls before) (map its.fulls now)

  -- where it was sent, one message more may take up a place, and at most 64 may
  abbrev pub CountsUnseen : {U : Type 0} → Result U (Refused M) → ℕ → List T → List T → Type 0
  CountsUnseen answer place before now = sends.OnSent answer (unseen_at now place ≡ min 64 (unseen_at before place + 1))
