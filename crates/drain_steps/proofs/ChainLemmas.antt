-- What a party is once it took in its senders of several rows, and that it may, where the senders of each row have a number of their own.
use Rattle.std.specs.Prelude.{◌≡◌, ◌≢◌, ◌&&◌, ◌==◌, ℕ, zero, suc, ◌+◌, ◌⊎◌, if◌then◌else◌, Bool, true, false, IsTrue, List, [], ◌∷◌, ◌++◌, All, Contains, slice_get, Option, Some, None, ⊤}
use Rattle.std.proofs.Common.{◌∙◌, refl, sym, ap, subst, inl, inr, arith}
use Rattle.std.proofs.lemmas.List.Elements.{Contains-append_cases, Contains-append_left, Contains-append_right}
use Rattle.std.proofs.lemmas.Option.{none-some, same_Some}
use Rattle.lattice_laws.proofs.MembersLemmas.{contains_cases, contains_first, contains_later, contains_none}
use Rattle.mail_contract.specs.Standing.{About, IsSettled, OthersStay, Settled}
use Rattle.party_turns.specs.Rows.{MayTakeAll, MayTakeIn, TakesAll, column, for_place, index_in, those}
use Rattle.party_turns.proofs.ItemsLemmas.{at_its_place}

module _ {S : Type 0} (skips : Bool) where
  -- It is the sender for a party in a row, by the row's number, of the rows from a number on.
  pub record IsFor (first : ℕ) (rows : List (List S)) (place number : ℕ) (s : S) : Type 0 where
    pub row : ℕ
    pub number_is : number ≡ first + row
    pub senders : List S
    pub row_is : slice_get rows row ≡ Some senders
    pub kept : (skips && number == place) ≡ false
    pub sender_is : slice_get senders (index_in skips number place) ≡ Some s

  one_or_none : (test : Bool) (o : Option S) → ((if test then [] else those o) ≡ []) ⊎ ((s : S) × ((if test then [] else those o) ≡ s ∷ []) × (test ≡ false) × (o ≡ Some s))
  one_or_none true o = inl refl
  one_or_none false None = inl refl
  one_or_none false (Some s) = inr (s, refl, refl, refl)

  -- in one row a party has no sender, or one
  for_place_cases : (row : ℕ) (senders : List S) (place : ℕ)
      → (for_place skips row senders place ≡ [])
      ⊎ ((s : S) × (for_place skips row senders place ≡ s ∷ []) × ((skips && row == place) ≡ false) × (slice_get senders (index_in skips row place) ≡ Some s))
  for_place_cases row senders place = one_or_none (skips && row == place) (slice_get senders (index_in skips row place))

  -- who stands in a column is the sender for the party in one of the rows
  is_for : (first : ℕ) (rows : List (List S)) (place : ℕ) (s : S) → Contains (column skips first rows place) s
      → (number : ℕ) × IsFor first rows place number s
  is_for first [] place s among = absurd (contains_none s among)
  is_for first (senders ∷ rows) place s among = elim (Contains-append_cases (for_place skips first senders place) (column skips (first + 1) rows place) s among) [
    | inl here ↦ elim (for_place_cases first senders place) [
      | inl none ↦ absurd (contains_none s (subst (λ some. Contains some s) none here))
      | inr one ↦ (
        first,
        record {
          row = 0;
          number_is = omega arith;
          senders = senders;
          row_is = refl;
          kept = one.2;
          sender_is = one.3 ∙ ap Some (only one.0 s (subst (λ some. Contains some s) one.1 here));
        },
      )
    ]
    | inr later ↦
        let there = is_for (first + 1) rows place s later in (
          there.0,
          record {
            row = suc there.1.row;
            number_is = omega (arith, there.1.number_is);
            senders = there.1.senders;
            row_is = there.1.row_is;
            kept = there.1.kept;
            sender_is = there.1.sender_is;
          },
        )
  ]
    where
      only : (x y : S) → Contains (x ∷ []) y → x ≡ y
      only x y has_it = elim (contains_cases x y [] has_it) [ inl same ↦ same | inr none ↦ absurd (contains_none y none) ]

  -- and the other way round
  is_among : (first : ℕ) (rows : List (List S)) (place row number : ℕ) (senders : List S) (s : S) → number ≡ first + row
      → slice_get rows row ≡ Some senders → (skips && number == place) ≡ false → slice_get senders (index_in skips number place) ≡ Some s → Contains (column skips first rows place) s
  is_among first [] place row number senders s is row_is kept sender = absurd (none-some senders row_is)
  is_among first (own ∷ rows) place zero number senders s is row_is kept sender =
      let here : number ≡ first = omega (arith, is) in
      Contains-append_left (for_place skips first own place) (column skips (first + 1) rows place) s
      (subst (λ some. Contains some s)
      (sym (its (skips && first == place) (slice_get own (index_in skips first place))
      (subst (λ at. (skips && at == place) ≡ false) here kept)
      (subst (λ at. slice_get own (index_in skips at place) ≡ Some s) here (ap (λ some. slice_get some (index_in skips number place)) (same_Some own senders row_is) ∙ sender))))
      (contains_first s []))
    where
      its : (test : Bool) (o : Option S) → test ≡ false → o ≡ Some s → (if test then [] else those o) ≡ s ∷ []
      its test o kept_it is_it = ap (λ t. if t then [] else those o) kept_it ∙ ap those is_it
  is_among first (own ∷ rows) place (suc row) number senders s is row_is kept sender =
      Contains-append_right (for_place skips first own place) (column skips (first + 1) rows place) s (is_among (first + 1) rows place row number senders s (omega (arith, is)) row_is kept sender)

module _ {S : Type 0} (number : S → ℕ) where
  -- no two of a list have one number
  abbrev pub AreApart : List S → Type 0
  AreApart [] = ⊤
  AreApart (s ∷ senders) = ((other : S) → Contains senders other → number other ≢ number s) × AreApart senders

  -- The senders of each row have the next number after the row's own, of the rows from a number on.
  abbrev pub AreNumbered : ℕ → List (List S) → Type 0
  AreNumbered first rows =
      (row at : ℕ) (senders : List S) → at ≡ first + row → slice_get rows row ≡ Some senders → All (λ s. number s ≡ at + 1) senders

  numbered_later : (first : ℕ) (senders : List S) (rows : List (List S)) → AreNumbered first (senders ∷ rows) → AreNumbered (first + 1) rows
  numbered_later first senders rows numbered row at own is row_is = numbered (suc row) at own (omega (arith, is)) row_is

  -- so has the one for a party
  its_number : (skips : Bool) (first : ℕ) (rows : List (List S)) (place at : ℕ) (s : S)
      → AreNumbered first rows → IsFor skips first rows place at s → number s ≡ at + 1
  its_number skips first rows place at s numbered is = at_its_place (λ one. number one ≡ at + 1) is.senders (index_in skips at place) s
      (numbered is.row at is.senders is.number_is is.row_is) is.sender_is

  -- and those for one party are apart
  column_apart : (skips : Bool) (first : ℕ) (rows : List (List S)) (place : ℕ) → AreNumbered first rows → AreApart (column skips first rows place)
  column_apart skips first [] place numbered = tt
  column_apart skips first (senders ∷ rows) place numbered =
      let later = column_apart skips (first + 1) rows place (numbered_later first senders rows numbered) in
      elim (for_place_cases skips first senders place) [
        | inl none ↦ subst (λ some. AreApart (some ++ column skips (first + 1) rows place)) (sym none) later
        | inr one ↦ subst (λ some. AreApart (some ++ column skips (first + 1) rows place)) (sym one.1) (
          λ other among same.
              let there = is_for skips (first + 1) rows place other among in
              let its = its_number skips (first + 1) rows place there.0 other (numbered_later first senders rows numbered) there.1 in
              let mine = at_its_place (λ s. number s ≡ first + 1) senders (index_in skips first place) one.0 (numbered 0 first senders (omega arith) refl) one.3 in
              omega (arith, its, mine, same, there.1.number_is),
          later,
        )
      ]

  -- the senders of each row have the next number after the row's own, of the rows from 0 on
  abbrev pub IsNumbered : List (List S) → Type 0
  IsNumbered rows = (row : ℕ) (senders : List S) → slice_get rows row ≡ Some senders → All (λ s. number s ≡ row + 1) senders

  all_numbered : (rows : List (List S)) → IsNumbered rows → AreNumbered 0 rows
  all_numbered rows numbered row at senders is row_is = let same : row ≡ at = omega (arith, is) in subst (λ n. All (λ s. number s ≡ n + 1) senders) same (numbered row senders row_is)

-- what holds of each sender that rows have for a party, by its row
abbrev pub OfEach : {S : Type 0} → Bool → List (List S) → ℕ → (ℕ → S → Type 0) → Type 0
OfEach {S} skips rows place Holds =
    (row : ℕ) (senders : List S) (s : S) → slice_get rows row ≡ Some senders → (skips && row == place) ≡ false
    → slice_get senders (index_in skips row place) ≡ Some s → Holds row s

-- and so of each in the column
of_column : {S : Type 0} (skips : Bool) (rows : List (List S)) (place : ℕ) (Holds : ℕ → S → Type 0)
    → OfEach skips rows place Holds → (at : ℕ) (s : S) → IsFor skips 0 rows place at s → Holds at s
of_column skips rows place Holds each at s is =
    let same : at ≡ is.row = omega (arith, is.number_is) in
    each at is.senders s (ap (slice_get rows) same ∙ is.row_is) is.kept is.sender_is

-- in the column are those that rows have
all_among : {S : Type 0} (skips : Bool) (rows : List (List S)) (place : ℕ) → OfEach skips rows place (λ row s. Contains (column skips 0 rows place) s)
all_among skips rows place row senders s row_is kept sender_is = is_among skips 0 rows place row row senders s (omega arith) row_is kept sender_is

-- A sender of a number is settled, and what it sent was told before.
pub record IsSettledAs {P M : Type 0} (about : P → ℕ → About M) (Told : ℕ → List M → P → Type 0) (n : ℕ) (messages : List M) (before now : P) : Type 0 where
  pub settled : (about now n).standing ≡ Settled messages
  pub met : IsTrue (about now n).met
  pub told : Told n messages before

module _ {S P M K : Type 0} (number : S → ℕ) (sent : S → List M) (key : P → K) (about : P → ℕ → About M) (takes : S → P → P → Type 0)
    (Told : ℕ → List M → P → Type 0) (Rest : P → P → Type 0) where
  -- what a party becomes when it takes in one sender
  pub record TakenIn (s : S) (before now : P) : Type 0 where
    pub key_is : key now ≡ key before
    pub others : OthersStay (number s) (about before) (about now)
    pub its : IsSettledAs about Told (number s) (sent s) before now

  -- Each that is taken in does so, and changes neither what was told nor the rest.
  pub record Does : Type 0 where
    pub one : (s : S) (before now : P) → takes s before now → TakenIn s before now
    pub told_before : (n : ℕ) (messages : List M) (s : S) (before now : P) → takes s before now
        → Told n messages now → Told n messages before
    pub stays : (party : P) → Rest party party
    pub onward : (before between now : P) → Rest before between → Rest between now → Rest before now
    pub rest : (s : S) (before now : P) → takes s before now → Rest before now

  -- What it becomes when it takes in its senders of all rows: the key and the rest stay, and the one of each row is settled.
  pub record TakenInAll (skips : Bool) (rows : List (List S)) (place : ℕ) (before now : P) : Type 0 where
    pub key_is : key now ≡ key before
    pub rest : Rest before now
    pub each : OfEach skips rows place (λ row s. IsSettledAs about Told (row + 1) (sent s) before now)

  module _ (does : Does) where
    -- where a list is taken in, the key stays
    key_stays : (senders : List S) (before now : P) → TakesAll takes senders before now → key now ≡ key before
    key_stays [] before now same = ap key same
    key_stays (s ∷ senders) before now (between, first, last) = (does.one s between now last).key_is ∙ key_stays senders before between first

    -- and the rest
    rest_stays : (senders : List S) (before now : P) → TakesAll takes senders before now → Rest before now
    rest_stays [] before now same = subst (Rest before) (sym same) (does.stays before)
    rest_stays (s ∷ senders) before now (between, first, last) = does.onward before between now (rest_stays senders before between first) (does.rest s between now last)

    -- what is told at last was told before
    all_told_before : (n : ℕ) (messages : List M) (senders : List S) (before now : P) → TakesAll takes senders before now
        → Told n messages now → Told n messages before
    all_told_before n messages [] before now same told = subst (Told n messages) same told
    all_told_before n messages (s ∷ senders) before now (between, first, last) told =
        all_told_before n messages senders before between first (does.told_before n messages s between now last told)

    -- of a number that none of them has stays what is known
    number_stays : (senders : List S) (before now : P) → TakesAll takes senders before now
        → (n : ℕ) → ((s : S) → Contains senders s → number s ≢ n) → about now n ≡ about before n
    number_stays [] before now same n none = ap (λ party. about party n) same
    number_stays (s ∷ senders) before now (between, first, last) n none =
        (does.one s between now last).others n (λ same. none s (contains_first s senders) (sym same))
        ∙ number_stays senders before between first n (λ other among. none other (contains_later s other senders among))

    -- and each of them is settled
    each_settled : (senders : List S) (before now : P) → AreApart number senders → TakesAll takes senders before now
        → (s : S) → Contains senders s → IsSettledAs about Told (number s) (sent s) before now
    each_settled [] before now apart all s among = absurd (contains_none s among)
    each_settled (first ∷ senders) before now apart (between, all, last) s among = elim (contains_cases first s senders among) [
      | inl same ↦
          let its = (does.one first between now last).its in
          subst (λ one. IsSettledAs about Told (number one) (sent one) before now) same (
          record { settled = its.settled; met = its.met; told = all_told_before (number first) (sent first) senders before between all its.told }
          )
      | inr later ↦
          let earlier = each_settled senders before between apart.1 all s later in
          let stays = (does.one first between now last).others (number s) (apart.0 s later) in
          record { settled = ap (λ its. its.standing) stays ∙ earlier.settled; met = subst (λ its. IsTrue its.met) (sym stays) earlier.met; told = earlier.told }
    ]

    module _ (skips : Bool) (rows : List (List S)) (place : ℕ) (numbered : IsNumbered number rows) where
      -- the senders for a party of rows of one number each are apart
      apart_rows : AreApart number (column skips 0 rows place)
      apart_rows = column_apart number skips 0 rows place (all_numbered number rows numbered)

      -- what a party becomes that takes them in
      pub all_taken : (before now : P) → TakesAll takes (column skips 0 rows place) before now → TakenInAll skips rows place before now
      all_taken before now all = record {
        key_is = key_stays (column skips 0 rows place) before now all;
        rest = rest_stays (column skips 0 rows place) before now all;
        each = λ row senders s row_is kept sender_is.
            subst (λ n. IsSettledAs about Told n (sent s) before now) (at_its_place (λ one. number one ≡ row + 1) senders (index_in skips row place) s (numbered row senders row_is) sender_is)
            (each_settled (column skips 0 rows place) before now apart_rows all s (all_among skips rows place row senders s row_is kept sender_is));
      }

      -- of each other number stays what it knows
      pub others_stay : (before now : P) → TakesAll takes (column skips 0 rows place) before now
          → (n : ℕ) → OfEach skips rows place (λ row s. row + 1 ≢ n) → about now n ≡ about before n
      others_stay before now all n none = number_stays (column skips 0 rows place) before now all n
          (λ s among same.
          let is = is_for skips 0 rows place s among in
          of_column skips rows place (λ row _. row + 1 ≢ n) none is.0 s is.1 (sym (its_number number skips 0 rows place is.0 s (all_numbered number rows numbered) is.1) ∙ same))

    module _ {SK : Type 0} (sender_key : S → SK) (pairs : K → SK → ℕ → Type 0) where
      -- a party may take in a list whose numbers are apart where it may take in each
      may_each : (senders : List S) (party : P) → AreApart number senders
          → ((s : S) → Contains senders s → MayTakeIn pairs (key party) (about party) (sender_key s) (number s))
          → MayTakeAll (λ its s. MayTakeIn pairs (key its) (about its) (sender_key s) (number s)) takes senders party
      may_each [] party apart may = tt
      may_each (s ∷ senders) party apart may = (
        may_each senders party apart.1 (λ other among. may other (contains_later s other senders among)),
        λ between all. (
          subst (λ its. pairs its (sender_key s) (number s)) (sym (key_stays senders party between all)) (may s (contains_first s senders)).0,
          λ settled. (may s (contains_first s senders)).1 (subst (λ its. IsSettled its.standing) (number_stays senders party between all (number s) apart.0) settled),
        ),
      )

      -- so may it its senders of rows of one number each
      pub may_all : (skips : Bool) (rows : List (List S)) (place : ℕ) → IsNumbered number rows → (party : P)
          → OfEach skips rows place (λ row s. MayTakeIn pairs (key party) (about party) (sender_key s) (number s))
          → MayTakeAll (λ its s. MayTakeIn pairs (key its) (about its) (sender_key s) (number s)) takes (column skips 0 rows place) party
      may_all skips rows place numbered party may = may_each (column skips 0 rows place) party (apart_rows skips rows place numbered)
          (λ s among. let is = is_for skips 0 rows place s among in
          of_column skips rows place (λ row one. MayTakeIn pairs (key party) (about party) (sender_key one) (number one)) may is.0 s is.1)
