-- What was taken of an input.
use Rattle.std.proofs.Common.{◌≡◌, ℕ, ◌<◌, inl, inr, List, [], ◌++◌, length, Option, Some, None, sym, ap, ◌∙◌, arith}
use Rattle.std.proofs.lemmas.Bool.{cases_lt}
use Rattle.std.proofs.lemmas.List.{append-nil, length-append}
use Rattle.outside.specs.Outside.{TookMost}

-- an input that is shorter than the most that is taken is taken whole
pub took_whole : (most : ℕ) (now : Option (List ℕ)) (input bytes : List ℕ) → TookMost most (Some input) now bytes → length input < most → bytes ≡ input
took_whole most None input bytes took short = absurd took.taken
took_whole most (Some left) input bytes took short = elim (cases_lt (length bytes) most) [
  | inl below ↦ (let rest : left ≡ [] = took.whole below in sym (took.taken ∙ ap (λ more. bytes ++ more) rest ∙ append-nil bytes))
  | inr full ↦ absurd (let all = ap length took.taken ∙ length-append bytes left in omega arith)
]
