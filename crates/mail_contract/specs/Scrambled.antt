-- A scramble: messages that a box handed out are held, and handed out in a drawn order, some of them twice.
use Rattle.std.specs.Prelude.{◌≡◌, ◌⊎◌, ℕ, suc, ◌+◌, ◌*◌, ◌/◌, ◌%◌, ◌^◌, ◌<◌, ◌≤◌, ◌==◌, if◌then◌else◌, not, Bool, true, false, List, [], ◌∷◌, ◌++◌, length, slice_get, slice_set, sum_by, Option, Some, None, IfSome, Result, Ok, Err, OnOk}
use Rattle.std.specs.List.{remove}
use Rattle.lattice_laws.specs.Counts.{Rose}
use Rattle.mail_contract.specs.Standing.{About, AreMet, left_of_all}
use Rattle.mail_contract.specs.Takes.{Answers, from_sender}
use Rattle.mail_contract.specs.declared.rx.Rx as boxes
use Rattle.mail_contract.specs.declared.scramble.Held.{Held}

-- the generator, and what a state of it draws
abbrev pub next_state : ℕ → ℕ
next_state state = (state * 6364136223846793005 + 1442695040888963407) % (2 ^ 64)

abbrev pub draw_of : ℕ → ℕ
draw_of state = state / (2 ^ 33)

-- a draw asks for a copy
abbrev pub IsCopied : ℕ → Type 0
IsCopied draw = (draw / 8) % 2 ≡ 1

module _ {M : Type 0} where
  -- the message of this place among all that the box handed out, from 0, is held and was not handed out
  abbrev pub is_hidden : List (Held M) → ℕ → Bool
  is_hidden [] index = false
  is_hidden (item ∷ items) index = if item.index == index then not item.again else is_hidden items index

  -- messages from a place on, without those that are hidden
  abbrev pub veiled : (ℕ → Bool) → ℕ → List (ℕ × M) → List (ℕ × Option M)
  veiled hidden index [] = []
  veiled hidden index (message ∷ messages) = (message.0, if hidden index then None else Some message.1) ∷ veiled hidden (index + 1) messages

  abbrev pub flat : Option (Option M) → Option M
  flat None = None
  flat (Some message) = message

  -- what was handed out: all that the box handed out but what is held and was not
  abbrev pub got_of_held : List (Held M) → List (ℕ × M) → ℕ → ℕ → Option M
  got_of_held held received sender place = flat (slice_get (from_sender sender (veiled (is_hidden held) 0 received)) place)

  -- how often the held messages may be handed out
  abbrev pub times : Held M → ℕ
  times item = if item.again then 1 else 2

  abbrev pub times_of_all : List (Held M) → ℕ
  times_of_all held = sum_by times held

  -- how often messages may be handed out: twice each that is left, and those that are held
  abbrev pub times_left : ℕ → (ℕ → About M) → List (Held M) → ℕ
  times_left senders about held = 2 * left_of_all senders about + times_of_all held

  -- each held message is one that the box handed out, and they are held in the order in which it did
  pub record AreHeld (senders : ℕ) (received : List (ℕ × M)) (held : List (Held M)) : Type 0 where
    pub from_one : (i : ℕ) → IfSome (slice_get held i) (λ item. 1 ≤ item.sender)
    pub to_last : (i : ℕ) → IfSome (slice_get held i) (λ item. item.sender ≤ senders)
    pub is : (i : ℕ) → IfSome (slice_get held i) (λ item. slice_get received item.index ≡ Some (item.sender, item.message))
    pub ascend : (i : ℕ) → IfSome (slice_get held i) (λ item. IfSome (slice_get held (suc i)) (λ next. item.index < next.index))

  -- messages that the box hands out are held, from a place on
  abbrev pub arriving : ℕ → List (ℕ × M) → List (Held M)
  arriving index [] = []
  arriving index (message ∷ messages) = record { sender = message.0; message = message.1; index = index; again = false } ∷ arriving (index + 1) messages

  -- what is held once the box was asked
  pub record Fills (before now : List (ℕ × M)) (held filled : List (Held M)) : Type 0 where
    pub arrived : List (ℕ × M)
    pub received : now ≡ before ++ arrived
    pub filled_are : filled ≡ held ++ arriving (length before) arrived

  -- a copy of a held message, none of which was handed out before, is one that the draw asks for; the message is marked
  abbrev pub IsMarked : ℕ → M → Held M → Held M → Type 0
  IsMarked draw copy item marked = (copy ≡ item.message) × IsCopied draw × (item.again ≡ false) × (marked ≡ record item { again = true })

  -- the drawn one of the held messages is handed out; it stays where it was not handed out before and the draw asks for a copy
  pub record IsDealt (filled : List (Held M)) (draw sender : ℕ) (message : M) (now : List (Held M)) : Type 0 where
    pub item : Held M
    pub at : slice_get filled (draw % length filled) ≡ Some item
    pub sender_is : sender ≡ item.sender
    pub message_is : message ≡ item.message
    pub stays : (now ≡ remove filled (draw % length filled))
        ⊎ (IsCopied draw × (item.again ≡ false) × (now ≡ slice_set filled (draw % length filled) (record item { again = true })))

  -- a take: the box is asked while fewer than eight messages are held, and then one of them is dealt by a new draw
  abbrev pub DealtBy : {E : Type 0} → Result (Option (ℕ × M)) E → List (Held M) → ℕ → List (Held M) → ℕ → Type 0
  DealtBy (Ok (Some message)) filled state held state_now = (state_now ≡ next_state state) × IsDealt filled (draw_of state_now) message.0 message.1 held
  DealtBy (Ok None) filled state held state_now = (filled ≡ []) × (held ≡ []) × (state_now ≡ state)
  DealtBy (Err error) filled state held state_now = (held ≡ filled) × (state_now ≡ state)

  -- the box was asked until eight messages were held or it found nothing, by its answers before and after
  abbrev pub IsFull : List (Held M) → Answers → Answers → Type 0
  IsFull filled before now = (length filled ≡ 8) ⊎ Rose before.nones now.nones

  pub record Deals {E : Type 0} (result : Result (Option (ℕ × M)) E) (received received_now : List (ℕ × M)) (before now : Answers)
      (held : List (Held M)) (state : ℕ) (held_now : List (Held M)) (state_now : ℕ) : Type 0 where
    pub filled : List (Held M)
    pub fills : Fills received received_now held filled
    pub full : OnOk result (IsFull filled before now)
    pub dealt : DealtBy result filled state held_now state_now

module _ {Q M S QK SK : Type 0} (its : boxes.Ghosts Q M S QK SK) where
  -- where every sender is met, messages may be handed out as often as before
  abbrev pub TimesStay : Q → Q → List (Held M) → List (Held M) → Type 0
  TimesStay before now held held_now =
      let senders = its.senders (its.key before) in
      AreMet senders (its.about before) → times_left senders (its.about now) held_now ≡ times_left senders (its.about before) held
