use Rattle.std.proofs.Common.{◌≡◌, length, sym, ap, subst, ◌∙◌, rules, tests}
use Rattle.std.specs.ControlFlow.{continue_value}
use Rattle.std.proofs.lemmas.Iterator.{IsFirst-from_position, YieldsList-from_slice}
use Rattle.std.proofs.lemmas.Option.{MatchOption-at_some, MatchOption-at_none}
use Rattle.placement.specs.Config.{IsOneOf}
use Rattle.session_known.specs.Script.{key_name}
use Rattle.report_reader.specs.Reads.{Reads}
use Rattle.report_reader.proofs.ReadWords.{no_name, name_found}
use Rattle.report_reader.proofs.words.read_key.Goals as goal

pub returns-in_err-place : goal.returns-in_err-place
returns-in_err-place c =
    let text = c.args.text.now in
    let keys = c.args.script.now.config.keys in
    let none = MatchOption-at_none _ _ (c.branch-place.ensures ∙ ap continue_value c.in_err-place.is) (IsFirst-from_position _ _ _ (λ key. key.name ≡ text) (λ key. key.name ≡ text → ⊥) c.position.ensures.ran (YieldsList-from_slice keys cc) (λ x q k. search (rules, tests)) (λ x q k. search (rules, tests))) in
    subst (Reads (IsOneOf (length keys)) (key_name c.args.script.now) text) (sym c.from_residual.ensures) (no_name (λ key. key.name) keys text none)

pub returns : goal.returns
returns c =
    let text = c.args.text.now in
    let keys = c.args.script.now.config.keys in
    let first = MatchOption-at_some _ _ _ (c.branch-place.ensures ∙ ap continue_value c.in_ok-place.is) (IsFirst-from_position _ _ _ (λ key. key.name ≡ text) (λ key. key.name ≡ text → ⊥) c.position.ensures.ran (YieldsList-from_slice keys cc) (λ x q k. search (rules, tests)) (λ x q k. search (rules, tests))) in
    name_found (λ key. key.name) keys text c.in_ok-place.place first.0 first.1
