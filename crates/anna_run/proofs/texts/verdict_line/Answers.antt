use Rattle.std.proofs.Common.{◌≡◌, ◌∷◌, [], ◌++◌, codes, sym, ap, ◌∙◌}
use Rattle.std.proofs.lemmas.Result.{IfOk-weaker}
use Rattle.std.specs.Fmt.{decimal}
use Rattle.anna_check.specs.declared.judge.Verdict.TheVariants as verdicts
use Rattle.anna_run.specs.Run.{verdict_text}
use Rattle.anna_run.proofs.texts.verdict_line.Goals as goal

pub returns-in_ok-after-in-Command : goal.returns-in_ok-after-in-Command
returns-in_ok-after-in-Command c =
    let after : c.deref.result.now ≡ codes " command " ++ decimal c.in-Command.command = c.deref.ensures ∙ c.in_ok-after-in-Command.ensures.ok in
    let verdict : verdicts.Command c.in-Command.session c.in-Command.command ≡ c.args.verdict = sym c.in-Command.is in
    IfOk-weaker c.named_line.result _ _ (λ line is.
    is
    ∙ (λ i. codes "unlawful session " ++ (c.session_name.ensures i ++ (after i ++ 10 ∷ [])))
    ∙ ap (verdict_text c.args.script.now) verdict) c.named_line.ensures

pub returns-in_ok-after-in-Final : goal.returns-in_ok-after-in-Final
returns-in_ok-after-in-Final c =
    let after : c.deref-in-Final.result.now ≡ codes " @" ++ decimal c.in-Final.worker = c.deref-in-Final.ensures ∙ c.in_ok-after-in-Final.ensures.ok in
    let verdict : verdicts.Final c.in-Final.key c.in-Final.worker ≡ c.args.verdict = sym c.in-Final.is in
    IfOk-weaker c.named_line-in-Final.result _ _ (λ line is.
    is
    ∙ (λ i. codes "unlawful final " ++ (c.key_name.ensures i ++ (after i ++ 10 ∷ [])))
    ∙ ap (verdict_text c.args.script.now) verdict) c.named_line-in-Final.ensures
