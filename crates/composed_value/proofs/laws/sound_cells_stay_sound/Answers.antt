use Rattle.composed_value.proofs.SoundLemmas.{sound_join, sound_next}
use Rattle.composed_value.proofs.laws.sound_cells_stay_sound.Goals as goal

pub returns-clause-join : goal.returns-clause-join
returns-clause-join c = sound_join

pub returns-clause-next : goal.returns-clause-next
returns-clause-next c = sound_next
