-- What holds of all cells and of the puts that they hold.
use Rattle.std.specs.Prelude.{◌≡◌, ◌≢◌, ◌↔◌, ℕ, ◌+◌, false, IsTrue, pos, ◌-ℤ◌, ◌++◌, List, All, AllPairs, Contains}
use Rattle.std.specs.List.{sum_by}
use Rattle.lattice_laws.specs.Joins.{SameMembers}
use Rattle.clock_lattice.specs.Clock.{count_of}
use Rattle.composed_value.specs.Cell.{PlainCell, IsCell, joined_cells, one_put_cell, cell_of}
use Rattle.dot_lattices.specs.Dot.{counts}
use Rattle.dot_lattices.specs.DotSet.{PlainDotSet, has_insert}
use Rattle.dot_lattices.specs.DotSums.{total_of}
use Rattle.dot_lattices.specs.declared.amounts.Amounts.{Amounts}
use Rattle.dot_lattices.specs.declared.dot.Dot.{Dot}
use Rattle.composed_value.specs.PlainValue.{IsPutOf, IsValueOf, IsCellOf, change_of}
use Rattle.composed_value.specs.Put.{dot_of}
use Rattle.composed_value.specs.Sound.{IsSoundCell, AreAccepted}
use Rattle.composed_value.specs.declared.kind.Kind.{Kind}
use Rattle.composed_value.specs.declared.kind.Kind.TheVariants as kinds
use Rattle.composed_value.specs.declared.payload.Payload.TheVariants as payloads
use Rattle.composed_value.specs.declared.put.Put.{Put}
use Rattle.composed_value.specs.declared.value.Value.{Value}
use Rattle.composed_value.specs.declared.value.Value.TheVariants as values

-- the cell of puts of one kind is what the whole list says
abbrev pub CellsHoldTheirPuts : Type 0
CellsHoldTheirPuts = (kind : Kind) (puts : List Put) → All (IsPutOf kind) puts → IsCellOf kind puts (cell_of kind puts)

-- the members of a list alone decide its cell
abbrev pub CellsAreByMembers : Type 0
CellsAreByMembers = (kind : Kind) (xs ys : List Put) → All (IsPutOf kind) xs → SameMembers xs ys → cell_of kind xs ≡ cell_of kind ys

-- the cell of two lists together is the join of their cells
abbrev pub CellsAreJoined : Type 0
CellsAreJoined =
    (kind : Kind) (xs ys : List Put) → All (IsPutOf kind) xs → All (IsPutOf kind) ys
    → cell_of kind (xs ++ ys) ≡ joined_cells (cell_of kind xs) (cell_of kind ys)

-- there is one plain value of a list of puts
abbrev pub ValuesAreSingle : Type 0
ValuesAreSingle = (kind : Kind) (puts : List Put) (a b : Value) → IsValueOf kind puts a → IsValueOf kind puts b → a ≡ b

-- and one cell
abbrev pub CellsAreSingle : Type 0
CellsAreSingle = (kind : Kind) (puts : List Put) (a b : PlainCell) → IsCell a → IsCell b → IsCellOf kind puts a → IsCellOf kind puts b → a ≡ b

-- a join of two sound cells is sound
abbrev pub JoinsAreSound : Type 0
JoinsAreSound =
    (kind : Kind) (puts : List Put) (a b : PlainCell) → IsCell a → IsCell b
    → IsSoundCell kind puts a → IsSoundCell kind puts b → IsSoundCell kind puts (joined_cells a b)

-- a sound cell that counts n puts of a session on the key is sound with the session's put n + 1
abbrev pub NextPutsAreSound : Type 0
NextPutsAreSound =
    (kind : Kind) (puts : List Put) (cell : PlainCell) (put : Put) → AreAccepted kind puts → IsCell cell → IsSoundCell kind puts cell
    → Contains puts put → put.number ≡ count_of put.session cell.clock + 1 → IsSoundCell kind puts (joined_cells cell (one_put_cell put))

-- the counter of puts with different dots has the sum of all that they add less the sum of all that they take
abbrev pub CountersAreSums : Type 0
CountersAreSums =
    (puts : List Put) (sums : List (Dot × Amounts)) → All (IsPutOf kinds.Counter) puts → AllPairs (λ put other. dot_of put ≢ dot_of other) puts → IsValueOf kinds.Counter puts (values.Counter sums)
    → total_of sums ≡ pos (sum_by (λ put. (change_of put.payload).added) puts) -ℤ pos (sum_by (λ put. (change_of put.payload).taken) puts)

-- an insert among the puts is in their set exactly where no remove of its word among them had seen it
abbrev pub InsertsStayUnseen : Type 0
InsertsStayUnseen =
    (puts : List Put) (set : PlainDotSet) (put : Put) (word : List ℕ) → IsValueOf kinds.OrSet puts (values.OrSet set) → Contains puts put → put.payload ≡ payloads.Insert word
    → IsTrue (has_insert (record { word = word; dot = dot_of put }) set) ↔ ((other : Put) → Contains puts other → other.payload ≡ payloads.Remove word → counts other.seen (dot_of put) ≡ false)
