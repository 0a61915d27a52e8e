use Rattle.std.proofs.Common.{◌≡◌, ◌-◌, take, drop, length, min, ap, ◌∙◌, arith}
use Rattle.std.proofs.lemmas.List.{length-drop, take_all}
use Rattle.outside.proofs.OutsideLemmas.{Takes-front}
use Rattle.outside.proofs.memory.SureSourceSource.take.Goals as goal

pub returns-clause-bytes : goal.returns-clause-bytes
returns-clause-bytes c =
    let bytes = c.deref.result.now in
    let at = c.self.inside.at in
    let n = c.move_front-moved.result in
    let later : take (length bytes - at) (drop at bytes) ≡ drop at bytes = take_all (length bytes - at) (drop at bytes) (omega (arith, length-drop at bytes)) in
    let left : take (length bytes - at) (drop at bytes) ≡ c.args.self.now = later ∙ ap (drop at) c.deref.ensures.value ∙ c.self.view_is in
    Takes-front c.self.inside.bytes.items c.args.self.now c.move_front-moved.new.into at n (length c.args.into.now) c.self.view_is
    (c.move_front-moved.ensures.moved ∙ ap (λ xs. min (length c.args.into.now) (length xs)) left)
    c.requires
    (c.move_front-moved.ensures.bytes ∙ ap (take n) left)
