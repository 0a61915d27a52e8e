-- A join of sound cells is sound.
use Rattle.std.specs.Prelude.{List, [], ◌∷◌, All}
use Rattle.std.proofs.lemmas.List.Elements.{All-head, All-tail}
use Rattle.composed_value.specs.Cell.{PlainCell, joined_cells}
use Rattle.composed_value.specs.Sound.{IsSoundCell}
use Rattle.composed_value.specs.declared.kind.Kind.{Kind}
use Rattle.composed_value.specs.declared.put.Put.{Put}
use Rattle.composed_value.proofs.SoundLemmas.{sound_join}
use Rattle.worker_core.specs.Share.{joined_with}
use Rattle.worker_core.proofs.OwnLemmas.{IsCellOfKind, joined_two}

-- a cell of a kind, sound for the accepted puts on its key
pub record IsSoundOf (kind : Kind) (puts : List Put) (cell : PlainCell) : Type 0 where
  pub of_kind : IsCellOfKind kind cell
  pub sound : IsSoundCell kind puts cell

pub joined_sound : (kind : Kind) (puts : List Put) (first : PlainCell) (rest : List PlainCell) → IsSoundOf kind puts first → All (IsSoundOf kind puts) rest → IsSoundOf kind puts (joined_with first rest)
joined_sound kind puts first [] is are = is
joined_sound kind puts first (next ∷ rest) is are =
    let its : IsSoundOf kind puts next = All-head (IsSoundOf kind puts) next rest are in
    joined_sound kind puts (joined_cells first next) rest
    (record {
      of_kind = joined_two kind first next is.of_kind its.of_kind;
      sound = sound_join kind puts first next is.of_kind.is_cell its.of_kind.is_cell is.sound its.sound;
    })
    (All-tail (IsSoundOf kind puts) next rest are)
