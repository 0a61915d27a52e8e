use Rattle.std.proofs.Common.{◌≡◌, ℕ, List, [], ◌∷◌, ◌++◌, ap, ◌∙◌, append_assoc}
use Rattle.std.specs.Prelude.{codes}
use Rattle.std.specs.Fmt.{decimal}
use Rattle.std.proofs.lemmas.Result.{IfOk-weaker}
use Rattle.anna_run.proofs.texts.refusal.Goals as goal

line_of_refusal : (line code : List ℕ) → (codes "refused line " ++ (line ++ (codes ": code " ++ code))) ++ 10 ∷ [] ≡ codes "refused line " ++ line ++ codes ": code " ++ code ++ 10 ∷ []
line_of_refusal line code = simp append_assoc

pub returns : goal.returns
returns c = IfOk-weaker c.line.result _ _ (λ line same. same ∙ ap (λ bytes. bytes ++ 10 ∷ []) (c.deref.ensures ∙ c.in_ok-text.ensures.ok) ∙ line_of_refusal (decimal c.args.number) (decimal c.args.code)) c.line.ensures
