use Rattle.std.proofs.Common.{◌≡◌, length, ap, subst, ◌∙◌}
use Rattle.composed_value.specs.Keyed.{puts_on, kind_at}
use Rattle.placement.specs.Config.{IsOneOf}
use Rattle.anna_check.specs.ByKey.{OfKey}
use Rattle.anna_check.proofs.ByKeyLemmas.{kind_is}
use Rattle.anna_check.proofs.against_puts.is_sound_reply.Goals as goal

pub returns-clause-sound : goal.returns-clause-sound
returns-clause-sound c kinds workers puts stand =
    let key_is : IsOneOf (length kinds) c.args.key = subst (λ kinds. IsOneOf (length kinds) c.args.key) stand.puts.kinds_are c.requires.3.key_is in
    let kind : c.kind.result ≡ kind_at kinds c.args.key = c.kind.ensures ∙ ap (λ (on : OfKey). on.kind) c.on-on.ensures ∙ kind_is kinds puts c.args.accepted.now c.args.key stand.puts in
    let on_key : c.puts.result.now ≡ puts_on c.args.key puts = c.puts.ensures.puts ∙ ap (λ (on : OfKey). on.puts) c.on-on.ensures ∙ stand.puts.puts_are c.args.key key_is in
    c.is_sound_reply.ensures.sound kinds puts kind on_key (λ session. stand.numbered session c.args.key)

pub returns-clause-stand : goal.returns-clause-stand
returns-clause-stand c kinds workers puts stand =
    let key_is : IsOneOf (length kinds) c.args.key = subst (λ kinds. IsOneOf (length kinds) c.args.key) stand.puts.kinds_are c.requires.3.key_is in
    let kind : c.kind.result ≡ kind_at kinds c.args.key = c.kind.ensures ∙ ap (λ (on : OfKey). on.kind) c.on-on.ensures ∙ kind_is kinds puts c.args.accepted.now c.args.key stand.puts in
    let on_key : c.puts.result.now ≡ puts_on c.args.key puts = c.puts.ensures.puts ∙ ap (λ (on : OfKey). on.puts) c.on-on.ensures ∙ stand.puts.puts_are c.args.key key_is in
    record { puts = stand.puts; numbered = stand.numbered; cells_are = c.is_sound_reply.ensures.cells kinds workers puts kind on_key stand.cells_are }
