-- The rule of a mailbox: what each sender sent is what was received of it and then what the queue holds of it, in order.
use Rattle.std.specs.Prelude.{◌≡◌, ℕ, ◌<◌, ◌≤◌, List, [], ◌∷◌, ◌++◌, All, ⊤}
use mathlib.Core.Option.{some}
use lib.ListN.{get_elem?}
use Rattle.mail_contract.specs.Takes.{IsFront, from_sender}
use Rattle.mailbox_rule.specs.declared.rule.View.{View}
use Rattle.mailbox_rule.specs.declared.rule.View.TheVariants.{Sender, Receiver, Spent}

-- a number that was given to a sender: from 1, and below the one that the next sender is given
abbrev pub IsMade : ℕ → ℕ → Type 0
IsMade made number = (1 ≤ number) × (number < made)

module _ {M : Type 0} where
  -- a sender, and what it has sent
  abbrev pub sender : ℕ → List M → View M
  sender number sent = Sender (record { number = number; sent = sent })

  -- the receiver: the number that the next sender is given, what was received, and what each sender sent that was taken in
  abbrev pub receiver : ℕ → List (ℕ × M) → List (ℕ × List M) → View M
  receiver made received ended = Receiver (record { made = made; received = received; ended = ended })

  -- what a view tells of it, 0 and nothing where it tells nothing
  abbrev pub number_in : View M → ℕ
  number_in (Sender view) = view.number
  number_in (Receiver view) = 0
  number_in Spent = 0

  abbrev pub sent_in : View M → List M
  sent_in (Sender view) = view.sent
  sent_in (Receiver view) = []
  sent_in Spent = []

  abbrev pub made_in : View M → ℕ
  made_in (Sender view) = 0
  made_in (Receiver view) = view.made
  made_in Spent = 0

  abbrev pub received_in : View M → List (ℕ × M)
  received_in (Sender view) = []
  received_in (Receiver view) = view.received
  received_in Spent = []

  abbrev pub ended_in : View M → List (ℕ × List M)
  ended_in (Sender view) = []
  ended_in (Receiver view) = view.ended
  ended_in Spent = []

  -- the lists of senders that stand in a view: a live sender's in its own, an ended sender's in the receiver's
  abbrev pub lists_in : View M → List (ℕ × List M)
  lists_in (Sender view) = (view.number, view.sent) ∷ []
  lists_in (Receiver view) = view.ended
  lists_in Spent = []

  -- a list that stands in the view of a pass: of a sender that was made, whose list stands with this pass alone, all that there is of it
  pub record IsListOf (made : ℕ) (holder : ℕ → ℕ) (messages : List (ℕ × M)) (pass : ℕ) (list : ℕ × List M) : Type 0 where
    pub is_made : IsMade made list.0
    pub held : holder list.0 ≡ pass
    pub is_whole : list.1 ≡ from_sender list.0 messages

  -- one pass receives, and it knows how many senders were made and what was received
  abbrev pub Reads : ℕ → ℕ → List (ℕ × M) → ℕ → View M → Type 0
  Reads reader made received pass (Sender view) = ⊤
  Reads reader made received pass (Receiver view) = (pass ≡ reader) × (view.made ≡ made) × (view.received ≡ received)
  Reads reader made received pass Spent = ⊤

  -- what the queue holds, and what its passes know
  pub record Delivers (items : List (ℕ × M)) (views : List (View M)) : Type 0 where
    -- the number that the next sender is given
    pub made : ℕ
    pub received : List (ℕ × M)
    -- the pass of the receiver, and the pass with which the list of each sender stands
    pub reader : ℕ
    pub holder : ℕ → ℕ
    -- no message carries a number that was not given
    pub numbered : All (λ message. IsMade made message.0) (received ++ items)
    -- what a sender sent is what was received of it and then what the queue holds of it
    pub lists : (pass : ℕ) (view : View M) → get_elem? views pass ≡ some view → All (IsListOf made holder (received ++ items) pass) (lists_in view)
    pub reads : (pass : ℕ) (view : View M) → get_elem? views pass ≡ some view → Reads reader made received pass view

  -- what was received of each ended sender is the front of what it sent
  abbrev pub AreFronts : View M → Type 0
  AreFronts view = All (λ list. IsFront (from_sender list.0 (received_in view)) list.1) (ended_in view)

  -- what a pop that takes tells the receiver: it has received the message, of a sender that was made
  abbrev pub Popped : View M → ℕ × M → View M → Type 0
  Popped before message now =
      (now ≡ receiver (made_in before) (received_in before ++ message ∷ []) (ended_in before)) × IsMade (made_in before) message.0 × AreFronts now

  -- what the receiver learns of a queue that holds these messages: what each ended sender sent is what was received of it and then these
  abbrev pub AreWhole : View M → List (ℕ × M) → Type 0
  AreWhole view items = All (λ list. list.1 ≡ from_sender list.0 (received_in view ++ items)) (ended_in view)
