-- What a worker shows and tells at one time and later, in worked lists and in others that differ from the later ones in one thing each.
use Rattle.std.specs.Prelude.{ℕ, List, [], ◌∷◌, Some, None}
use Rattle.store_msg.specs.Reply.{PlainReply}
use Rattle.store_msg.specs.declared.reply.Answered.TheVariants.{Found}
use Rattle.worker_core.specs.Showing.{ShowsMore}
use Rattle.worker_core.specs.State.{Entries, Lists}
use Rattle.worked_laws.specs.Lists.{batch, cell_of_first, worked_lists, worked_state}

-- the worker of the worked lists with so many of session 1's puts on key 1, what it replied to session 1, and what it told its mates
abbrev pub lists_with : ℕ → List PlainReply → List (List Entries) → Lists
lists_with puts replies told = record worked_lists {
  state = record worked_state { cells = Some (record { own = cell_of_first puts; whole = cell_of_first puts }) ∷ None ∷ None ∷ [] };
  replied = replies ∷ [];
  told = told;
}

-- the reply to an ask for key 1, with so many puts
abbrev pub reply_with : ℕ → ℕ → PlainReply
reply_with ask puts = record { ask = ask; worker = 1; key = 1; required = []; answered = Found (cell_of_first puts) }

-- It shows two puts, replied to an ask when it had one, and told worker 2 of one.
abbrev pub shown_before : Lists
shown_before = lists_with 2 (reply_with 1 1 ∷ []) ((((1, cell_of_first 1) ∷ []) ∷ []) ∷ [] ∷ [])

-- It took a third put, replied to one more ask before that, and told worker 2 of two.
abbrev pub shown_later : Lists
shown_later = lists_with 3 (reply_with 1 1 ∷ reply_with 2 2 ∷ []) ((((1, cell_of_first 1) ∷ []) ∷ batch ∷ []) ∷ [] ∷ [])

-- It shows one put.
abbrev pub shows_fewer_puts : Lists
shows_fewer_puts = lists_with 1 (reply_with 1 1 ∷ reply_with 2 2 ∷ []) ((((1, cell_of_first 1) ∷ []) ∷ batch ∷ []) ∷ [] ∷ [])

-- The reply since shows one put.
abbrev pub reply_of_an_earlier_cell : Lists
reply_of_an_earlier_cell = lists_with 3 (reply_with 1 1 ∷ reply_with 2 1 ∷ []) ((((1, cell_of_first 1) ∷ []) ∷ batch ∷ []) ∷ [] ∷ [])

-- The reply of before is another.
abbrev pub reply_exchanged : Lists
reply_exchanged = lists_with 3 (reply_with 1 2 ∷ reply_with 2 2 ∷ []) ((((1, cell_of_first 1) ∷ []) ∷ batch ∷ []) ∷ [] ∷ [])

-- The batch that worker 2 was told is another.
abbrev pub batch_exchanged : Lists
batch_exchanged = lists_with 3 (reply_with 1 1 ∷ reply_with 2 2 ∷ []) ((batch ∷ batch ∷ []) ∷ [] ∷ [])

-- What was shown before goes on no longer.
abbrev pub ShowsLess : Lists → Type 0
ShowsLess lists = ShowsMore shown_before lists → ⊥
