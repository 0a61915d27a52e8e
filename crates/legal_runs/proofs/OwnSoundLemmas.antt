-- What a worker joined itself, after any front of what it received, is sound.
use Rattle.std.specs.Prelude.{◌≡◌, ℕ, ◌+◌, [], ◌∷◌, length, map, List, ◌++◌}
use Rattle.std.proofs.Common.{◌∙◌, sym, ap, subst}
use Rattle.std.proofs.lemmas.List.Elements.{All-contains, All-contains_itself}
use Rattle.lattice_laws.proofs.GreatestOfListsLemmas.{greatest_or_zero_is_single}
use Rattle.clock_lattice.specs.Clock.{count_of}
use Rattle.composed_value.specs.Keyed.{puts_on}
use Rattle.composed_value.specs.Kind.{kind_of}
use Rattle.composed_value.specs.Cell.{cell_of}
use Rattle.composed_value.specs.PlainValue.{IsPutOf}
use Rattle.composed_value.specs.Sound.{AreAccepted, IsSoundCell}
use Rattle.composed_value.specs.declared.kind.Kind.{Kind}
use Rattle.composed_value.specs.declared.put.Put.{Put}
use Rattle.lattice_laws.proofs.ListLemmas.{filter_all}
use Rattle.merge_world.specs.Effects.{is_kind}
use Rattle.merge_world.proofs.CellsLemmas.{kind_itself}
use Rattle.session_known.specs.Accepted.{AreNext, made_on}
use Rattle.session_known.proofs.NumberedLemmas.{greatest_of_next}
use Rattle.composed_value.proofs.CellOfLemmas.{cell_of_is_cell}
use Rattle.store_msg.specs.declared.request.Request.{Request}
use Rattle.worker_core.specs.Share.{of_kind, own_cell, puts_in}
use Rattle.legal_runs.proofs.SoundPartLemmas.{AreFirst, fronts_are_first, sound_part}

-- the first of puts that follow a number follow it
next_front : (n : ℕ) (made more : List Put) → AreNext n (made ++ more) → AreNext n made
next_front n [] more are = tt
next_front n (put ∷ made) more are = (are.0, next_front (n + 1) made more are.1)

module _ (kind : Kind) (key : ℕ) (puts : List (ℕ × Put)) (are : AreAccepted kind (puts_on key puts)) (next : (session : ℕ) → AreNext 0 (made_on session key puts))
    (front : List (ℕ × Request)) (fronts : (session : ℕ) → (rest : List Put) × (made_on session key (puts_in front) ++ rest ≡ made_on session key puts)) where
  abbrev part : List Put
  part = puts_on key (puts_in front)

  are_first : AreFirst (puts_on key puts) part
  are_first = fronts_are_first (puts_on key puts) part next fronts

  -- its puts are of the key's kind
  none_left_out : of_kind kind part ≡ part
  none_left_out = filter_all (λ put. is_kind (kind_of put.payload) kind) part (λ k d low.
      let put = All-contains (IsPutOf kind) (puts_on key puts) _ are.of_kind (are_first.within _ (All-contains_itself part k d low)) in
      ap (λ its. is_kind its kind) put.of_kind ∙ kind_itself kind)

  -- the own cell is sound
  pub own_sound : IsSoundCell kind (puts_on key puts) (own_cell kind key front)
  own_sound = subst (λ puts'. IsSoundCell kind (puts_on key puts) (cell_of kind puts')) (sym none_left_out) (sound_part kind (puts_on key puts) part are are_first)

  -- its puts of a session are numbered one by one
  part_next : (session : ℕ) → AreNext 0 (made_on session key (puts_in front))
  part_next session = next_front 0 (made_on session key (puts_in front)) (fronts session).0 (subst (AreNext 0) (sym (fronts session).1) (next session))

  -- so it counts as many as there are
  pub own_count_is : (session : ℕ) → count_of session (own_cell kind key front).clock ≡ length (made_on session key (puts_in front))
  own_count_is session =
      let of = cell_of_is_cell kind part (λ k d low. All-contains (IsPutOf kind) (puts_on key puts) _ are.of_kind (are_first.within _ (All-contains_itself part k d low))) in
      ap (λ puts'. count_of session (cell_of kind puts').clock) none_left_out
      ∙ greatest_or_zero_is_single (map (λ put. put.number) (made_on session key (puts_in front))) (count_of session (cell_of kind part).clock) (length (made_on session key (puts_in front)))
      (of.1.clock session) (greatest_of_next (made_on session key (puts_in front)) (part_next session))
