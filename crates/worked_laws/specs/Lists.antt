-- What a worker keeps and what went through its ends, in one worked state and in others that differ from it in one thing each.
use Rattle.std.specs.Prelude.{ℕ, List, [], ◌∷◌, ◌++◌, None, codes}
use Rattle.lattice_laws.specs.declared.maybe.Maybe.TheVariants.{Is}
use Rattle.composed_value.specs.Cell.{PlainCell}
use Rattle.composed_value.specs.declared.kind.Kind.TheVariants.{Max}
use Rattle.composed_value.specs.declared.payload.Payload.{Payload}
use Rattle.composed_value.specs.declared.payload.Payload.TheVariants as payloads
use Rattle.composed_value.specs.declared.put.Put.{Put}
use Rattle.composed_value.specs.declared.value.Value.TheVariants as values
use Rattle.store_msg.specs.declared.request.Request.{Request}
use Rattle.store_msg.specs.declared.request.Request.TheVariants as requests
use Rattle.worker_core.specs.Lag.{Lags}
use Rattle.worker_core.specs.State.{Entries, Lists, State, opening_state}

-- a session's put
abbrev pub put_of : ℕ → ℕ → Payload → Put
put_of session number payload = record { session = session; number = number; lamport = number; place = 0; seen = []; needs = []; payload = payload }

-- Worker 1 of three makes a round after 2 requests. All keys are of kind max: key 1 lives at workers 1 and 2, key 2 at 1 and 3, and key 3 at
-- 2 and 3. Its mates are worker 2, at place 0, and worker 3, at place 1. Nothing came back from worker 2, and a batch to worker 3 when 3
-- requests were taken.
abbrev pub worked_state : State
worked_state = record (opening_state 1 2 ((1 ∷ 2 ∷ []) ∷ (1 ∷ 3 ∷ []) ∷ (2 ∷ 3 ∷ []) ∷ []) (Max ∷ Max ∷ Max ∷ []) 2) { turned = 0 ∷ 3 ∷ [] }

-- the puts that it took
abbrev pub first : Put
first = put_of 1 1 (payloads.Max 5)

abbrev pub second : Put
second = put_of 1 2 (payloads.Max 7)

abbrev pub turned : Put
turned = put_of 2 1 (payloads.Max 3)

abbrev pub unnumbered : Put
unnumbered = put_of 2 0 (payloads.Max 9)

abbrev pub elsewhere : Put
elsewhere = put_of 2 1 (payloads.Max 4)

abbrev pub of_another_kind : Put
of_another_kind = put_of 2 1 (payloads.Add (codes "x"))

abbrev pub third : Put
third = put_of 1 3 (payloads.Max 8)

-- Two puts on key 1, one on key 2, three that change nothing, since one has no number, one is on a key that the worker does not hold and
-- one is of another kind, then a put on key 1 after which 2 requests came: two gets.
abbrev pub worked_requests : List (ℕ × Request)
worked_requests =
    (1, requests.Put 1 first)
    ∷ (1, requests.Put 1 second)
    ∷ (2, requests.Put 2 turned)
    ∷ (2, requests.Put 1 unnumbered)
    ∷ (2, requests.Put 3 elsewhere)
    ∷ (2, requests.Put 1 of_another_kind)
    ∷ (1, requests.Put 1 third)
    ∷ (3, requests.Get 1 1 [])
    ∷ (3, requests.Get 2 2 [])
    ∷ []

-- the cell of so many of session 1's puts on key 1
abbrev pub cell_of_first : ℕ → PlainCell
cell_of_first puts = record { clock = (1, puts) ∷ []; needs = []; top = puts; value = values.Max (Is 7) }

-- a batch that tells the first two puts on key 1
abbrev pub batch : Entries
batch = (1, cell_of_first 2) ∷ []

-- Worker 2 was told of the first two puts on key 1. That on key 2 came before the batch to worker 3 came back, and the last put came
-- no more than 2 requests ago. Nothing else is asked of the lag.
abbrev pub worked_lists : Lists
worked_lists = record {
  state = worked_state;
  received = worked_requests;
  got = λ sender place. None;
  replied = [];
  told = (batch ∷ []) ∷ [] ∷ [];
}

-- the same where this was told
abbrev pub lists_that_told : List (List Entries) → Lists
lists_that_told told = record worked_lists { told = told }

-- and where batches came back when so many requests were taken
abbrev pub lists_turned : List ℕ → Lists
lists_turned at = record worked_lists { state = record worked_state { turned = at } }

-- No batch was sent.
abbrev pub batch_not_sent : Lists
batch_not_sent = lists_that_told ([] ∷ [] ∷ [])

-- It was sent to worker 3.
abbrev pub batch_to_another_mate : Lists
batch_to_another_mate = lists_that_told ([] ∷ (batch ∷ []) ∷ [])

-- It counts the first put alone.
abbrev pub batch_of_fewer_puts : Lists
batch_of_fewer_puts = lists_that_told ((((1, cell_of_first 1) ∷ []) ∷ []) ∷ [] ∷ [])

-- It counts the puts of another session.
abbrev pub batch_of_another_session : Lists
batch_of_another_session = lists_that_told ((((1, record (cell_of_first 2) { clock = (2, 2) ∷ [] }) ∷ []) ∷ []) ∷ [] ∷ [])

-- It tells them under another key.
abbrev pub batch_of_another_key : Lists
batch_of_another_key = lists_that_told ((((2, cell_of_first 2) ∷ []) ∷ []) ∷ [] ∷ [])

-- The batch to worker 3 came back before the put on key 2 was taken.
abbrev pub turned_before : Lists
turned_before = lists_turned (0 ∷ 2 ∷ [])

-- It was one to worker 2 that came back.
abbrev pub turned_by_another_mate : Lists
turned_by_another_mate = lists_turned (3 ∷ 0 ∷ [])

-- One more request came after the last put.
abbrev pub one_request_more : Lists
one_request_more = record worked_lists { received = worked_requests ++ (3, requests.Get 3 1 []) ∷ [] }

-- Gossip lags by more than a round's requests.
abbrev pub LagsMore : Lists → Type 0
LagsMore lists = Lags lists → ⊥
