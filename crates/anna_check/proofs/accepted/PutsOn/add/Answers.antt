use Rattle.std.proofs.Common.{◌≡◌, List, [], ◌∷◌, ◌++◌, Result, Ok, Err, MatchResult, All, sym, subst}
use Rattle.std.proofs.lemmas.List.Elements.{All-append, All-nil, All-cons}
use Rattle.composed_value.specs.PlainValue.{IsPutOf}
use Rattle.composed_value.specs.declared.kind.Kind.{Kind}
use Rattle.composed_value.specs.declared.put.Put.{Put}
use Rattle.anna_check.specs.ByKey.{OfKey}
use Rattle.anna_check.proofs.accepted.PutsOn.add.Goals as goal

-- whether or not a put of the kind was pushed, each put is of the kind
all_of_kind : {E : Type 0} (kind : Kind) (result : Result Unit E) (old new : List Put) (put : Put) → MatchResult result (λ _. new ≡ old ++ put ∷ []) (λ _. new ≡ old) → IsPutOf kind put → All (IsPutOf kind) old → All (IsPutOf kind) new
all_of_kind kind (Ok _) old new put is of_kind all = subst (All (IsPutOf kind)) (sym is) (All-append (IsPutOf kind) old (put ∷ []) all (All-cons (IsPutOf kind) put [] of_kind (All-nil (IsPutOf kind))))
all_of_kind kind (Err _) old new put is of_kind all = subst (All (IsPutOf kind)) (sym is) all

pub invariant_of-self : goal.invariant_of-self
invariant_of-self c = all_of_kind c.self.inside.kind c.push.result c.self.inside.puts c.push.new.self c.args.put c.push.ensures (subst (λ (now : OfKey). IsPutOf now.kind c.args.put) (sym c.self.view_is) c.requires) c.self.invariant
