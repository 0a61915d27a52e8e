-- A list that is taken from the back, and what is made of its items, in the order in which they come.
use Rattle.std.specs.Prelude.{◌≡◌, List, [], ◌∷◌, ◌++◌, All, map, reverse}
use Rattle.std.proofs.Common.{◌∙◌, sym, ap, subst, append-nil}
use Rattle.std.proofs.lemmas.List.{append_assoc, reverse-append, reverse-reverse}
use Rattle.std.proofs.lemmas.List.Elements.{All-head}
use Rattle.lattice_laws.proofs.ListLemmas.{All-back}

module _ {X : Type 0} (all : List X) where
  -- those up to here are left
  pub record IsTaken (left : List X) : Type 0 where
    pub taken : List X
    pub split : all ≡ left ++ taken

  abbrev pub none_taken : IsTaken all
  none_taken = record { taken = []; split = sym (append-nil all) }

  module _ (was left : List X) (x : X) (last : was ≡ left ++ x ∷ []) (is : IsTaken was) where
    -- the last of them is taken
    abbrev pub one_taken : IsTaken left
    one_taken = record { taken = x ∷ is.taken; split = is.split ∙ ap (λ those. those ++ is.taken) last ∙ append_assoc left (x ∷ []) is.taken }

    -- and what holds of all holds of it
    pub of_last : (Holds : X → Type 0) → All Holds all → Holds x
    of_last Holds holds = All-head Holds x is.taken (All-back Holds left (x ∷ is.taken) (subst (All Holds) one_taken.split holds))

  -- what is made of those that were taken, the last one first
  abbrev pub IsTurned : {Y : Type 0} → (X → Y) → List X → List Y → Type 0
  IsTurned make taken made = made ≡ reverse (map make taken)

  -- of one more
  pub one_more : {Y : Type 0} (make : X → Y) (taken : List X) (x : X) (made now : List Y) (y : Y) → now ≡ made ++ y ∷ [] → y ≡ make x → IsTurned make taken made → IsTurned make (x ∷ taken) now
  one_more make taken x made now y more is_made is = more ∙ (λ j. is j ++ is_made j ∷ []) ∙ sym (reverse-append (make x ∷ []) (map make taken))

  -- and at last, turned round, of all
  pub turned_round : {Y : Type 0} (make : X → Y) (is : IsTaken []) (made : List Y) → IsTurned make is.taken made → reverse made ≡ map make all
  turned_round make is made turned = ap reverse turned ∙ reverse-reverse (map make is.taken) ∙ ap (map make) (sym is.split)
