-- Puts each with its key, and the kinds of keys. Keys are counted from 1.
use Rattle.std.specs.Prelude.{ℕ, ◌-◌, ◌==◌, List, filter, map, slice_index_or}
use Rattle.composed_value.specs.declared.kind.Kind.{Kind}
use Rattle.composed_value.specs.declared.kind.Kind.TheVariants.{Max}
use Rattle.composed_value.specs.declared.put.Put.{Put}

-- the kind of a key
abbrev pub kind_at : List Kind → ℕ → Kind
kind_at kinds key = slice_index_or kinds (key - 1) Max

-- the puts on a key
abbrev pub puts_on : ℕ → List (ℕ × Put) → List Put
puts_on key puts = map (λ entry. entry.1) (filter (λ entry. entry.0 == key) puts)
