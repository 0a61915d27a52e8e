use Rattle.std.proofs.Common.{rules, ◌≡◌, ◌-◌, List, [], ◌∷◌, ◌++◌, length, slice_index_or, slice_set, sym, ap, subst, ◌∙◌, arith}
use Rattle.std.proofs.lemmas.List.{get_or_default}
use Rattle.composed_value.specs.declared.kind.Kind.TheVariants.{Max}
use Rattle.placement.specs.Config.{IsOneOf}
use Rattle.anna_check.specs.ByKey.{OfKey, of_key, kinds_of, AreByKey}
use Rattle.anna_check.proofs.ByKeyLemmas.{with_put, kinds_kept, put_more}
use Rattle.anna_check.proofs.accepted.Accepted.add.Goals as goal

pub returns-clause-kinds : goal.returns-clause-kinds
returns-clause-kinds c =
    let by_key = c.self.inside.by_key.items in
    let some : IsOneOf (length by_key) c.args.key = subst (λ (by_key : List OfKey). IsOneOf (length by_key) c.args.key) (sym c.self.view_is) c.requires.key in
    let index : c.from.result ≡ c.args.key = search rules in
    let was : c.index_mut.result.now ≡ of_key by_key c.args.key = c.index_mut.ensures.value ∙ ap (λ n. slice_index_or by_key (n - 1) c.index_mut.result.now) index ∙ get_or_default by_key (c.args.key - 1) c.index_mut.result.now (record { kind = Max; puts = [] }) (omega (arith, some)) in
    let new : c.add.new.self ≡ with_put (of_key by_key c.args.key) c.args.put = c.in_ok-add.ensures ∙ ap (λ on. with_put on c.args.put) was in
    ap (λ n. kinds_of (slice_set by_key (n - 1) c.add.new.self)) index ∙ ap (λ on. kinds_of (slice_set by_key (c.args.key - 1) on)) new ∙ kinds_kept by_key c.args.key c.args.put ∙ ap kinds_of c.self.view_is

pub returns-clause-puts : goal.returns-clause-puts
returns-clause-puts c kinds accepted before =
    let by_key = c.self.inside.by_key.items in
    let some : IsOneOf (length by_key) c.args.key = subst (λ (by_key : List OfKey). IsOneOf (length by_key) c.args.key) (sym c.self.view_is) c.requires.key in
    let index : c.from.result ≡ c.args.key = search rules in
    let was : c.index_mut.result.now ≡ of_key by_key c.args.key = c.index_mut.ensures.value ∙ ap (λ n. slice_index_or by_key (n - 1) c.index_mut.result.now) index ∙ get_or_default by_key (c.args.key - 1) c.index_mut.result.now (record { kind = Max; puts = [] }) (omega (arith, some)) in
    let new : c.add.new.self ≡ with_put (of_key by_key c.args.key) c.args.put = c.in_ok-add.ensures ∙ ap (λ on. with_put on c.args.put) was in
    subst (AreByKey kinds (accepted ++ (c.args.key, c.args.put) ∷ [])) (sym (ap (λ n. slice_set by_key (n - 1) c.add.new.self) index ∙ ap (slice_set by_key (c.args.key - 1)) new))
    (put_more kinds accepted by_key c.args.key c.args.put some (subst (AreByKey kinds accepted) (sym c.self.view_is) before))
