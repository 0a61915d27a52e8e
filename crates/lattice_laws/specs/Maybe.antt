-- A lattice with a bottom added, said of plain values: `None` is the bottom.
use Rattle.std.specs.Prelude.{Option, Some, None, ⊤}
use Rattle.lattice_laws.specs.declared.maybe.Maybe.{Maybe}
use Rattle.lattice_laws.specs.declared.maybe.Maybe.TheVariants.{Bottom, Is}

abbrev pub plain_of : {L P : Type 0} → (L → P) → Maybe L → Option P
plain_of plain Bottom = None
plain_of plain (Is value) = Some (plain value)

-- the bottom, or a value of the lattice
abbrev pub IsValue : {P : Type 0} → (P → Type 0) → Option P → Type 0
IsValue is_value None = ⊤
IsValue is_value (Some a) = is_value a

-- the bottom joined with x is x
abbrev pub joined_by : {P : Type 0} → (P → P → P) → Option P → Option P → Option P
joined_by joined None b = b
joined_by joined (Some a) None = Some a
joined_by joined (Some a) (Some b) = Some (joined a b)
