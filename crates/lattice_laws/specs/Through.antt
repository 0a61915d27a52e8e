-- The laws of a lattice hold of whatever is seen as its values, one for each.
use Rattle.std.specs.Prelude.{◌≡◌}
use Rattle.std.proofs.Common.{sym, subst, ap, ◌∙◌}
use Rattle.lattice_laws.specs.Lattice.{LatticeLaws, Associative}

module _ {A B : Type 0} (seen : A → B) (injective : (a b : A) → seen a ≡ seen b → a ≡ b) {is_value : B → Type 0} {fits : B → B → Type 0} (joined : B → B → B) (joined_too : A → A → A) (agree : (a b : A) → seen (joined_too a b) ≡ joined (seen a) (seen b)) where
  pub laws_through : LatticeLaws is_value fits joined → LatticeLaws (λ a. is_value (seen a)) (λ a b. fits (seen a) (seen b)) joined_too
  laws_through laws = record {
    fits_itself = λ a va. laws.fits_itself (seen a) va;
    fits_back = λ a b va vb h. laws.fits_back (seen a) (seen b) va vb h;
    fits_on = λ a b c va vb vc h i. laws.fits_on (seen a) (seen b) (seen c) va vb vc h i;
    closed = λ a b va vb h.
        let both = laws.closed (seen a) (seen b) va vb h in
        let same = sym (agree a b) in
        (subst is_value same both.0, subst (fits (seen a)) same both.1, subst (fits (seen b)) same both.2);
    commutative = λ a b va vb h. injective _ _ (agree a b ∙ laws.commutative (seen a) (seen b) va vb h ∙ sym (agree b a));
    idempotent = λ a va. injective _ _ (agree a a ∙ laws.idempotent (seen a) va);
  }

  pub associative_through : Associative is_value fits joined → Associative (λ a. is_value (seen a)) (λ a b. fits (seen a) (seen b)) joined_too
  associative_through associative a b c va vb vc h i =
      injective _ _
      (agree (joined_too a b) c
      ∙ ap (λ x. joined x (seen c)) (agree a b)
      ∙ associative (seen a) (seen b) (seen c) va vb vc h i
      ∙ ap (joined (seen a)) (sym (agree b c))
      ∙ sym (agree a (joined_too b c)))
