-- What contracts see of an end, before and after a call.
use Rattle.std.specs.Prelude.{◌≡◌}

-- what is seen of it stays
abbrev pub Stays : {A B : Type 0} → (A → B) → A → A → Type 0
Stays seen before now = seen now ≡ seen before
