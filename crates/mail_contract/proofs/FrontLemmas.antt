-- Lists that go on: one is the front of the next.
use Rattle.std.specs.Prelude.{◌≡◌, ◌≤◌, List, ◌++◌, All, drop, length, take}
use Rattle.std.proofs.Common.{◌∙◌, ap, arith, length-append, subst, sym}
use Rattle.std.proofs.Math.Seq.{take-append_seam, take-length}
use Rattle.std.proofs.lemmas.List.{take-append-drop, take-append-le}
use Rattle.std.proofs.lemmas.List.Elements.{All-take}
use Rattle.mail_contract.specs.Takes.{IsFront}

module _ {M : Type 0} where
  -- a list is its own front,
  pub front_whole : (items : List M) → IsFront items items
  front_whole items = take-length items

  -- so it is of an equal one,
  pub front_same : {items whole : List M} → whole ≡ items → IsFront items whole
  front_same {items} same = subst (IsFront items) (sym same) (front_whole items)

  -- and of one that goes on from it
  pub front_more : {front whole : List M} (rest : List M) → whole ≡ front ++ rest → IsFront front whole
  front_more {front} rest is = subst (IsFront front) (sym is) (take-append_seam front rest)

  -- after a front its rest follows
  pub front_splits : (front whole : List M) → IsFront front whole → whole ≡ front ++ drop (length front) whole
  front_splits front whole is = sym (take-append-drop (length front) whole) ∙ ap (λ those. those ++ drop (length front) whole) is

  -- so it is no longer than the whole
  pub front_short : (front whole : List M) → IsFront front whole → length front ≤ length whole
  front_short front whole is = let long = ap length (front_splits front whole is) ∙ length-append front (drop (length front) whole) in omega (arith, long)

  -- and is the whole where it is as long
  pub front_full : (front whole : List M) → IsFront front whole → length whole ≤ length front → front ≡ whole
  front_full front whole is long =
      let same : length front ≡ length whole = omega (arith, long, front_short front whole is) in
      sym is ∙ ap (λ n. take n whole) same ∙ front_whole whole

  -- the front of a front is one of the whole
  pub front_through : (first second third : List M) → IsFront first second → IsFront second third → IsFront first third
  front_through first second third is then =
      ap (take (length first)) (front_splits second third then) ∙ take-append-le (length first) second (drop (length second) third) (front_short first second is) ∙ is

  -- and what holds of each of the whole holds of each of a front
  pub front_all : (front whole : List M) → IsFront front whole → (Holds : M → Type 0) → All Holds whole → All Holds front
  front_all front whole is Holds all = subst (All Holds) is (All-take Holds (length front) whole all)
