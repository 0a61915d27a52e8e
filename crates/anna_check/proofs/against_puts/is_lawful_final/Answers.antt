use Rattle.std.proofs.Common.{◌≡◌, length, ap, subst, ◌∙◌}
use Rattle.composed_value.specs.Keyed.{puts_on, kind_at}
use Rattle.placement.specs.Config.{IsOneOf}
use Rattle.anna_check.specs.ByKey.{OfKey}
use Rattle.anna_check.proofs.ByKeyLemmas.{kind_is}
use Rattle.anna_check.proofs.against_puts.is_lawful_final.Goals as goal

pub returns-clause-lawful : goal.returns-clause-lawful
returns-clause-lawful c kinds workers puts stand =
    let key_is : IsOneOf (length kinds) c.args.last.now.key = subst (λ kinds. IsOneOf (length kinds) c.args.last.now.key) stand.puts.kinds_are c.requires.3.key_is in
    let kind : c.kind.result ≡ kind_at kinds c.args.last.now.key = c.kind.ensures ∙ ap (λ (on : OfKey). on.kind) c.on-on.ensures ∙ kind_is kinds puts c.args.accepted.now c.args.last.now.key stand.puts in
    let on_key : c.puts.result.now ≡ puts_on c.args.last.now.key puts = c.puts.ensures.puts ∙ ap (λ (on : OfKey). on.puts) c.on-on.ensures ∙ stand.puts.puts_are c.args.last.now.key key_is in
    c.is_lawful_final.ensures.lawful kinds puts kind on_key (λ session. stand.numbered session c.args.last.now.key)

pub returns-clause-stand : goal.returns-clause-stand
returns-clause-stand c kinds workers puts stand =
    let key_is : IsOneOf (length kinds) c.args.last.now.key = subst (λ kinds. IsOneOf (length kinds) c.args.last.now.key) stand.puts.kinds_are c.requires.3.key_is in
    let kind : c.kind.result ≡ kind_at kinds c.args.last.now.key = c.kind.ensures ∙ ap (λ (on : OfKey). on.kind) c.on-on.ensures ∙ kind_is kinds puts c.args.accepted.now c.args.last.now.key stand.puts in
    let on_key : c.puts.result.now ≡ puts_on c.args.last.now.key puts = c.puts.ensures.puts ∙ ap (λ (on : OfKey). on.puts) c.on-on.ensures ∙ stand.puts.puts_are c.args.last.now.key key_is in
    record { puts = stand.puts; numbered = stand.numbered; cells_are = c.is_lawful_final.ensures.cells kinds workers puts kind on_key stand.cells_are }
