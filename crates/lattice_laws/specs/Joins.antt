-- The join of a list, and what it depends on.
use Rattle.std.specs.Prelude.{◌≡◌, List, [], ◌∷◌, All, Contains}

-- the join of a value and others, from the left
abbrev pub joined_all : {P : Type 0} → (P → P → P) → P → List P → P
joined_all joined first [] = first
joined_all joined first (next ∷ rest) = joined_all joined (joined first next) rest

-- the lists have the same members, whatever their order and however often each stands there
abbrev pub SameMembers : {P : Type 0} → List P → List P → Type 0
SameMembers {P} xs ys = (x : P) → (Contains xs x → Contains ys x) × (Contains ys x → Contains xs x)

-- values of which any two may be merged
pub record MayJoin {P : Type 0} (is_value : P → Type 0) (fits : P → P → Type 0) (values : List P) : Type 0 where
  pub are_values : All is_value values
  pub all_fit : (x y : P) → Contains values x → Contains values y → fits x y

-- The join of a list depends on its members alone: not on their order, and not on how often each stands there.
abbrev pub ByMembersAlone : {P : Type 0} → (P → Type 0) → (P → P → Type 0) → (P → P → P) → Type 0
ByMembersAlone {P} is_value fits joined =
    (first : P) (rest : List P) (first' : P) (rest' : List P)
    → MayJoin is_value fits (first ∷ rest) → SameMembers (first ∷ rest) (first' ∷ rest')
    → joined_all joined first rest ≡ joined_all joined first' rest'
