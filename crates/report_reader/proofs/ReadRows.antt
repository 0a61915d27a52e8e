-- Rows of items with a byte between each two, read one item after another: what was read and what is left make up what is written.
use Rattle.std.specs.Cmp.Derive.{both_true}
use Rattle.std.specs.Prelude.{◌==◌, cond, not, IfOk, IsTrue}
use Rattle.std.proofs.Common.{◌≡◌, ◌↔◌, ℕ, ◌+◌, ◌-◌, ◌<◌, ◌≤◌, Bool, true, false, List, [], ◌∷◌, ◌++◌, map, take, drop, length, get_or, Option, None, Some, Result, Ok, Err, sym, ap, refl, subst, ◌∙◌, arith}
use Rattle.std.specs.declared.cmp.Ordering.{Ordering}
use Rattle.std.specs.FinMap.{is_sorted}
use Rattle.std.specs.FinMap.Entries.{below_all}
use Rattle.std.specs.List.{All, AllByRecursion, join_with_byte, list_all, list_any, onto_first, slice_split}
use Rattle.std.proofs.lemmas.Bool.{both_ways, and_parts, and_from, or_parts, or_from}
use Rattle.std.proofs.lemmas.Bool.Decides.{nat_tests}
use Rattle.std.proofs.lemmas.List.{append-nil, append_assoc, drop_all, drop_more, get_or-map, length-append, length-map, map-append, take_rest}
use Rattle.std.proofs.lemmas.List.Elements.{All-from_recursion}
use Rattle.std.proofs.lemmas.List.Splits.{join_with_byte-slice_split, length-slice_split}
use Rattle.lattice_laws.specs.Entries.{IsEntry, IsMap, IsPushed}
use Rattle.report_reader.specs.ReadRows.{IsRow}
use Rattle.report_reader.specs.Reads.{Reads}
use Rattle.lattice_laws.proofs.ListLemmas.{All-front}
use Rattle.report_lines.proofs.RenderingLemmas.{Passes, Stops, Tells, cut_at, cut_once, join_tells, not_passes}
use Rattle.report_lines.proofs.RowsLemmas.{both_all}

-- ---- texts cut at a byte

-- the byte does not stand in the text
abbrev pub Lacks : ℕ → List ℕ → Type 0
Lacks c text = list_any (λ b. b == c) text ≡ false

-- a byte that passes a test is not one that fails it
not_this : (test : ℕ → Bool) (b c : ℕ) → test b ≡ true → test c ≡ false → (b == c) ≡ false
not_this test b c passes fails =
    let another : b ≡ c → ⊥ = λ same. both_ways (test b) (ap test same ∙ fails) passes in
    grind (arith, nat_tests)

-- a byte that fails a test does not stand in a text that passes it
pub lacks_failing : (test : ℕ → Bool) (c : ℕ) → test c ≡ false → (text : List ℕ) → Passes test text → Lacks c text
lacks_failing test c fails [] all = refl
lacks_failing test c fails (b ∷ text) all =
    let both = and_parts (test b) (list_all test text) all in
    or_from (b == c) (list_any (λ b. b == c) text) (not_this test b c both.0 fails) (lacks_failing test c fails text both.1)

-- the byte fails the test of the others
not_other : (c : ℕ) → not (c == c) ≡ false
not_other c = grind (arith, nat_tests)

-- and a text in which it does not stand passes that
pub lacks_passes : (c : ℕ) (text : List ℕ) → Lacks c text → Passes (λ b. not (b == c)) text
lacks_passes c [] lacks = refl
lacks_passes c (b ∷ text) lacks =
    let both = or_parts (b == c) (list_any (λ b. b == c) text) lacks in
    and_from (not (b == c)) (list_all (λ b. not (b == c)) text) (ap not both.0) (lacks_passes c text both.1)

-- Two texts in which a byte does not stand are told from what they begin, where the byte or nothing stands after them.
cut_apart : (c : ℕ) (xs ys us vs : List ℕ) → Lacks c xs → Lacks c ys → Stops c us → Stops c vs → xs ++ us ≡ ys ++ vs → (xs ≡ ys) × (us ≡ vs)
cut_apart c xs ys us vs lacks_xs lacks_ys stops_us stops_vs same = cut_at (λ b. not (b == c)) c (not_other c) xs ys us vs (lacks_passes c xs lacks_xs) (lacks_passes c ys lacks_ys) stops_us stops_vs same

-- the text is cut at the first place of the byte
abbrev pub IsCut : ℕ → List ℕ → List ℕ → List ℕ → Type 0
IsCut c text front rest = (text ≡ front ++ c ∷ rest) × Lacks c front

-- the parts of a cut text are those by which it is written
pub same_cut : (c : ℕ) (text front rest xs ys : List ℕ) → IsCut c text front rest → Lacks c xs → text ≡ xs ++ c ∷ ys → (front ≡ xs) × (rest ≡ ys)
same_cut c text front rest xs ys cut lacks same = cut_once (λ b. not (b == c)) c (not_other c) front xs rest ys (lacks_passes c front cut.1) (lacks_passes c xs lacks) (sym cut.0 ∙ same)

-- a text in which the byte does not stand is not written by it
pub no_cut : (c : ℕ) (text xs ys : List ℕ) → Lacks c text → text ≡ xs ++ c ∷ ys → ⊥
no_cut c text xs ys lacks same = not_passes (λ b. not (b == c)) c (not_other c) xs ys (subst (Passes (λ b. not (b == c))) same (lacks_passes c text lacks))

-- ---- rows

-- after a text of a row that is not the last stands the byte
join_onto : (c : ℕ) (text : List ℕ) (texts : List (List ℕ)) (first : List ℕ) (more : List (List ℕ)) → join_with_byte c (text ∷ (texts ++ first ∷ more)) ≡ text ++ c ∷ join_with_byte c (texts ++ first ∷ more)
join_onto c text [] first more = refl
join_onto c text (next ∷ texts) first more = refl

-- the end of a row may be cut in another way
join_again : (c : ℕ) (texts : List (List ℕ)) (first other : List ℕ) (more others : List (List ℕ)) → join_with_byte c (first ∷ more) ≡ join_with_byte c (other ∷ others) → join_with_byte c (texts ++ first ∷ more) ≡ join_with_byte c (texts ++ other ∷ others)
join_again c [] first other more others same = same
join_again c (text ∷ texts) first other more others same =
    join_onto c text texts first more ∙ ap (λ rest. text ++ c ∷ rest) (join_again c texts first other more others same) ∙ sym (join_onto c text texts other others)

-- a row begins with its first text
row_begins : (c : ℕ) (text : List ℕ) (texts : List (List ℕ)) → (later : List ℕ) × Stops c later × (join_with_byte c (text ∷ texts) ≡ text ++ later)
row_begins c text [] = ([], tt, sym (append-nil text))
row_begins c text (next ∷ texts) = (c ∷ join_with_byte c (next ∷ texts), refl, refl)

-- a list in form that has an item is a row
pub row_of : {X : Type 0} (InForm : List X → Type 0) (items : List X) → 0 < length items → InForm items → IsRow InForm items
row_of InForm [] some is = absurd (omega arith)
row_of InForm (item ∷ items) some is = is

-- what holds of each of a list holds of the last
all_last : {X : Type 0} (P : X → Type 0) (xs : List X) (x : X) → AllByRecursion P (xs ++ x ∷ []) → P x
all_last P [] x all = all.0
all_last P (other ∷ xs) x all = all_last P xs x all.1

-- What a row is read by: a list in form has items, each of which is told from its text where the byte or nothing stands after it,
-- and what comes first in a list in form is in form.
pub record RowLaws {X : Type 0} (InForm : List X → Type 0) (IsItem : X → Type 0) (c : ℕ) (text : X → List ℕ) : Type 0 where
  pub items : (xs : List X) → InForm xs → AllByRecursion IsItem xs
  pub front : (xs ys : List X) → InForm (xs ++ ys) → InForm xs
  pub tells : Tells IsItem c text

-- a row is told from its text
pub row_told : {X : Type 0} {InForm : List X → Type 0} {IsItem : X → Type 0} {c : ℕ} {text : X → List ℕ} → RowLaws InForm IsItem c text → (a b : List X) → IsRow InForm a → IsRow InForm b → join_with_byte c (map text a) ≡ join_with_byte c (map text b) → a ≡ b
row_told laws [] b is_a is_b same = absurd is_a
row_told laws (x ∷ xs) [] is_a is_b same = absurd is_b
row_told {IsItem = IsItem} {c = c} {text = text} laws (x ∷ xs) (y ∷ ys) is_a is_b same = join_tells IsItem c text laws.tells x xs y ys (laws.items (x ∷ xs) is_a) (laws.items (y ∷ ys) is_b) same

-- The bytes are the texts of the items and what is left, in one text or more, with the byte between each two.
pub record AreRead {X : Type 0} (IsItem : X → Type 0) (c : ℕ) (text : X → List ℕ) (bytes : List ℕ) (items : List X) (left : List (List ℕ)) : Type 0 where
  pub are_items : AllByRecursion IsItem items
  pub some : 0 < length items + length left
  pub same : bytes ≡ join_with_byte c (map text items ++ left)

-- what is left begins with the item of this piece, if it begins with one
abbrev pub IsNext : {X : Type 0} → (X → Type 0) → ℕ → (X → List ℕ) → List (List ℕ) → (X → List ℕ) → List ℕ → Type 0
IsNext {X} IsItem c text left written piece = (x : X) (later : List ℕ) → IsItem x → Stops c later → join_with_byte c left ≡ text x ++ later → piece ≡ written x

-- the bytes are those of no row
abbrev pub IsNoRow : {X : Type 0} → (List X → Type 0) → ℕ → (X → List ℕ) → List ℕ → Type 0
IsNoRow {X} InForm c text bytes = (xs : List X) → IsRow InForm xs → bytes ≡ join_with_byte c (map text xs) → ⊥

-- of a row that begins with items, those are the first, and what is left is the row of the others
front_told : {X : Type 0} (IsItem : X → Type 0) (c : ℕ) (text : X → List ℕ) → Tells IsItem c text → (items : List X) (first : List ℕ) (more : List (List ℕ)) (x : X) (xs : List X) → AllByRecursion IsItem items → AllByRecursion IsItem (x ∷ xs) → join_with_byte c (map text items ++ first ∷ more) ≡ join_with_byte c (map text (x ∷ xs))
    → (y : X) × (ys : List X) × (x ∷ xs ≡ items ++ y ∷ ys) × (join_with_byte c (first ∷ more) ≡ join_with_byte c (map text (y ∷ ys)))
front_told IsItem c text tells [] first more x xs all_items all_xs same = (x, xs, refl, same)
front_told IsItem c text tells (item ∷ items) first more x [] all_items all_xs same =
    let cut = tells item x (c ∷ join_with_byte c (map text items ++ first ∷ more)) [] all_items.0 all_xs.0 refl tt (sym (join_onto c (text item) (map text items) first more) ∙ same ∙ sym (append-nil (text x))) in
    absurd cc
front_told IsItem c text tells (item ∷ items) first more x (next ∷ xs) all_items all_xs same =
    let cut = tells item x (c ∷ join_with_byte c (map text items ++ first ∷ more)) (c ∷ join_with_byte c (map text (next ∷ xs))) all_items.0 all_xs.0 refl refl (sym (join_onto c (text item) (map text items) first more) ∙ same) in
    let later : join_with_byte c (map text items ++ first ∷ more) ≡ join_with_byte c (map text (next ∷ xs)) = cc in
    let others = front_told IsItem c text tells items first more next xs all_items.1 all_xs.1 later in
    let whole : x ∷ next ∷ xs ≡ item ∷ (items ++ others.0 ∷ others.1) = λ i. sym cut.0 i ∷ others.2 i in
    (others.0, others.1, whole, others.3)

-- what no thing in form is written as
pub none_reads : {X : Type 0} (InForm : X → Type 0) (written : X → List ℕ) (text : List ℕ) (result : Option X) → Reads InForm written text result → result ≡ None → (x : X) → InForm x → text ≡ written x → ⊥
none_reads InForm written text result reads is = subst (Reads InForm written text) is reads

module _ {X : Type 0} {IsItem : X → Type 0} {c : ℕ} {text : X → List ℕ} {bytes : List ℕ} {items : List X} where
  -- what is left may be cut in another way
  pub left_again : (first other : List ℕ) (more others : List (List ℕ)) → AreRead IsItem c text bytes items (first ∷ more) → join_with_byte c (first ∷ more) ≡ join_with_byte c (other ∷ others) → AreRead IsItem c text bytes items (other ∷ others)
  left_again first other more others read same = record { are_items = read.are_items; some = omega arith; same = read.same ∙ join_again c (map text items) first other more others same }

  -- One item more was read.
  pub one_read : {new : List X} (x : X) (more : List (List ℕ)) → AreRead IsItem c text bytes items (text x ∷ more) → IsItem x → new ≡ items ++ x ∷ [] → AreRead IsItem c text bytes new more
  one_read x more read is pushed = record {
    are_items = subst (AllByRecursion IsItem) (sym pushed) (both_all IsItem items (x ∷ []) read.are_items (is, tt));
    some = omega (arith, ap length pushed, length-append items (x ∷ []));
    same =
        read.same
        ∙ ap (join_with_byte c) (sym (append_assoc (map text items) (text x ∷ []) more) ∙ ap (λ texts. texts ++ more) (sym (ap (map text) pushed ∙ map-append text items (x ∷ []))));
  }

  -- Where nothing is left, the bytes are the row of the items.
  pub all_read : (InForm : List X → Type 0) → AreRead IsItem c text bytes items [] → InForm items → IsRow InForm items × (bytes ≡ join_with_byte c (map text items))
  all_read InForm read form = (row_of InForm items (omega (arith, read.some)) form, read.same ∙ ap (join_with_byte c) (append-nil (map text items)))

  module _ {InForm : List X → Type 0} {first : List ℕ} {more : List (List ℕ)} (laws : RowLaws InForm IsItem c text) (read : AreRead IsItem c text bytes items (first ∷ more)) where
    -- Where what is left begins with no item that is in form after the others, the bytes are those of no row.
    pub no_row : ((x : X) (later : List ℕ) → InForm (items ++ x ∷ []) → IsItem x → Stops c later → join_with_byte c (first ∷ more) ≡ text x ++ later → ⊥) → IsNoRow InForm c text bytes
    no_row none [] some same = absurd some
    no_row none (x ∷ xs) some same =
        let told = front_told IsItem c text laws.tells items first more x xs read.are_items (laws.items (x ∷ xs) some) (sym read.same ∙ same) in
        let begins = row_begins c (text told.0) (map text told.1) in
        let form : InForm (items ++ told.0 ∷ []) = laws.front (items ++ told.0 ∷ []) told.1 (subst InForm (told.2 ∙ sym (append_assoc items (told.0 ∷ []) told.1)) some) in
        none told.0 begins.0 form (all_last IsItem items told.0 (laws.items (items ++ told.0 ∷ []) form)) begins.1 (told.3 ∙ begins.2)

    -- Where the next piece is that of no item, neither.
    pub no_item : {result : Option X} (written : X → List ℕ) (piece : List ℕ) → IsNext IsItem c text (first ∷ more) written piece → Reads IsItem written piece result → result ≡ None → IsNoRow InForm c text bytes
    no_item {result} written piece next reads none = no_row (λ x later form is stops same. none_reads IsItem written piece result reads none x is (next x later is stops same))

    -- Where the next item does not go after the others, neither.
    pub no_place : {pushed : Bool} (P : List X → Type 0) (written : X → List ℕ) (piece : List ℕ) (item : X) (new : List X) → ((xs : List X) → InForm xs → P xs) → ((x y : X) → IsItem x → IsItem y → written x ≡ written y → x ≡ y)
        → IsNext IsItem c text (first ∷ more) written piece → IsItem item → piece ≡ written item → IsPushed P items item new pushed → pushed ≡ false → IsNoRow InForm c text bytes
    no_place P written piece item new weaker told next is_item is push refused = no_row (λ x later form is_x stops same.
        let fails : (new ≡ items) × (P (items ++ item ∷ []) → ⊥) = subst (IsPushed P items item new) refused push in
        let here : x ≡ item = sym (told item x is_item is_x (sym is ∙ next x later is_x stops same)) in
        fails.1 (weaker (items ++ item ∷ []) (subst (λ x. InForm (items ++ x ∷ [])) here form)))

-- ---- rows whose items end with a byte of their own

-- What such an item is: its text is what stands before the byte, in which that does not stand, and the byte.
pub record ClosedLaws {X : Type 0} (IsItem : X → Type 0) (last : ℕ) (text opened : X → List ℕ) : Type 0 where
  pub closed : (x : X) (later : List ℕ) → text x ++ later ≡ opened x ++ last ∷ later
  pub lacks : (x : X) → IsItem x → Lacks last (opened x)

module _ {X : Type 0} {InForm : List X → Type 0} {IsItem : X → Type 0} {c last : ℕ} {text opened : X → List ℕ} (laws : RowLaws InForm IsItem c text) (ends : ClosedLaws IsItem last text opened) where
  -- an item is cut at the byte that ends it
  close_cut : (x : X) (whole front rest later : List ℕ) → IsItem x → IsCut last whole front rest → whole ≡ text x ++ later → (front ≡ opened x) × (rest ≡ later)
  close_cut x whole front rest later is cut same = same_cut last whole front rest (opened x) later cut (ends.lacks x is) (same ∙ ends.closed x later)

  -- what is left begins with the item that ends with the first such byte
  pub next_closed : (whole front rest : List ℕ) → IsCut last whole front rest → IsNext IsItem c text (whole ∷ []) opened front
  next_closed whole front rest cut x later is stops same = (close_cut x whole front rest later is cut same).0

  -- an item is told from what stands before the byte
  pub opened_told : (a b : X) → IsItem a → IsItem b → opened a ≡ opened b → a ≡ b
  opened_told a b is_a is_b same = (laws.tells a b [] [] is_a is_b tt tt (ends.closed a [] ∙ ap (λ text. text ++ last ∷ []) same ∙ sym (ends.closed b []))).0

  module _ {bytes whole : List ℕ} {items : List X} (read : AreRead IsItem c text bytes items (whole ∷ [])) where
    -- where no such byte is left, the bytes are those of no row
    pub none_closed : Lacks last whole → IsNoRow InForm c text bytes
    none_closed lacks = no_row laws read (λ x later form is stops same. no_cut last whole (opened x) later lacks (same ∙ ends.closed x later))

    -- nor where something else stands after an item than what parts it from the next
    pub none_parted : (front rest : List ℕ) → IsCut last whole front rest → (Stops c rest → ⊥) → IsNoRow InForm c text bytes
    none_parted front rest cut other = no_row laws read (λ x later form is stops same. other (subst (Stops c) (sym (close_cut x whole front rest later is cut same).1) stops))

    -- one item more was read, and this is left
    pub closed_read : {new : List X} (front rest : List ℕ) (x : X) (left : List (List ℕ)) → IsCut last whole front rest → IsItem x × (front ≡ opened x) → join_with_byte c (text x ∷ left) ≡ text x ++ rest → new ≡ items ++ x ∷ [] → AreRead IsItem c text bytes new left
    closed_read front rest x left cut is same pushed =
        let all : whole ≡ text x ++ rest = cut.0 ∙ ap (λ front. front ++ last ∷ rest) is.1 ∙ sym (ends.closed x rest) in
        one_read x left (left_again whole (text x) [] left read (all ∙ sym same)) is.0 pushed

-- what stands after an item: nothing
pub empty_below : (rest : List ℕ) → length rest < 1 → rest ≡ []
empty_below [] short = refl
empty_below (b ∷ rest) short = absurd (omega arith)

-- this byte
pub byte_first : (c : ℕ) (rest : List ℕ) → 1 ≤ length rest → get_or rest 0 0 ≡ c → rest ≡ c ∷ take (length rest - 1) (drop 1 rest)
byte_first c [] some is = absurd (omega arith)
byte_first c (b ∷ rest) some is = ap (λ b. b ∷ rest) is ∙ ap (λ rest. c ∷ rest) (sym (take_rest (b ∷ rest) 1))

-- or another
pub other_first : (c : ℕ) (rest : List ℕ) → 1 ≤ length rest → (get_or rest 0 0 ≡ c → ⊥) → Stops c rest → ⊥
other_first c [] some other stops = absurd (omega arith)
other_first c (b ∷ rest) some other stops = other stops

-- ---- rows read by the pieces between the places of the byte

-- a byte before pieces in which another does not stand
onto_lacks : (c b : ℕ) (is : Bool) → (b == c) ≡ is → (pieces : List (List ℕ)) → AllByRecursion (Lacks c) pieces → AllByRecursion (Lacks c) (cond is ([] ∷ pieces) (onto_first b pieces))
onto_lacks c b true same pieces all = (refl, all)
onto_lacks c b false same [] all = (or_from (b == c) false same refl, tt)
onto_lacks c b false same (piece ∷ pieces) all = (or_from (b == c) (list_any (λ b. b == c) piece) same all.0, all.1)

-- the byte stands in no piece
pieces_lack : (c : ℕ) (bytes : List ℕ) → AllByRecursion (Lacks c) (slice_split (λ b. b == c) bytes)
pieces_lack c [] = (refl, tt)
pieces_lack c (b ∷ bytes) = onto_lacks c b (b == c) refl (slice_split (λ b. b == c) bytes) (pieces_lack c bytes)

-- What a row is read by, where the byte stands in the text of no item.
pub record PieceLaws {X : Type 0} (InForm : List X → Type 0) (IsItem : X → Type 0) (c : ℕ) (text : X → List ℕ) : Type 0 where
  pub items : (xs : List X) → InForm xs → AllByRecursion IsItem xs
  pub front : (xs ys : List X) → InForm (xs ++ ys) → InForm xs
  pub whole : (x : X) → IsItem x → Lacks c (text x)
  pub told : (x y : X) → IsItem x → IsItem y → text x ≡ text y → x ≡ y

-- such a row is read as any
pub row_laws : {X : Type 0} {InForm : List X → Type 0} {IsItem : X → Type 0} {c : ℕ} {text : X → List ℕ} → PieceLaws InForm IsItem c text → RowLaws InForm IsItem c text
row_laws {c = c} {text = text} laws = record {
  items = laws.items;
  front = laws.front;
  tells = λ x y us vs is_x is_y stops_us stops_vs same.
      let cut = cut_apart c (text x) (text y) us vs (laws.whole x is_x) (laws.whole y is_y) stops_us stops_vs same in
      (laws.told x y is_x is_y cut.0, cut.1);
}

-- The byte stands in no piece, and the first pieces, so many, were read as the items.
pub record ArePiecesRead {R X : Type 0} (now : R → List ℕ) (IsItem : X → Type 0) (c : ℕ) (text : X → List ℕ) (bytes : List ℕ) (pieces : List R) (count : ℕ) (items : List X) : Type 0 where
  pub lack : All (Lacks c) (map now pieces)
  pub are_read : AreRead IsItem c text bytes items (drop count (map now pieces))

module _ {R X : Type 0} {now : R → List ℕ} {IsItem : X → Type 0} {c : ℕ} {text : X → List ℕ} {bytes : List ℕ} {pieces : List R} where
  -- Before the first piece nothing was read.
  pub no_piece_read : {items : List X} → map now pieces ≡ slice_split (λ b. b == c) bytes → items ≡ [] → ArePiecesRead now IsItem c text bytes pieces 0 items
  no_piece_read {items} are none = record {
    lack = All-from_recursion (Lacks c) (map now pieces) (subst (AllByRecursion (Lacks c)) (sym are) (pieces_lack c bytes));
    are_read = record {
      are_items = subst (AllByRecursion IsItem) (sym none) tt;
      some = omega (arith, ap length are, length-slice_split (λ b. b == c) bytes);
      same = sym (ap (join_with_byte c) (ap (λ items. map text items ++ map now pieces) none ∙ are) ∙ join_with_byte-slice_split c bytes);
    };
  }

  -- Where all pieces were read, the bytes are the row of the items.
  pub all_pieces_read : {count : ℕ} {items : List X} (InForm : List X → Type 0) → ArePiecesRead now IsItem c text bytes pieces count items → length pieces ≤ count → InForm items → IsRow InForm items × (bytes ≡ join_with_byte c (map text items))
  all_pieces_read {count} {items} InForm read past form = all_read InForm (subst (AreRead IsItem c text bytes items) (drop_all count (map now pieces) (omega (arith, length-map pieces now))) read.are_read) form

  module _ {count : ℕ} {items : List X} (d : R) (read : ArePiecesRead now IsItem c text bytes pieces count items) (within : count < length pieces) where
    -- what is left begins with the next piece
    left_first : AreRead IsItem c text bytes items (now (get_or pieces count d) ∷ drop (count + 1) (map now pieces))
    left_first =
        subst (AreRead IsItem c text bytes items)
        (drop_more (map now pieces) count [] (omega (arith, length-map pieces now)) ∙ ap (λ piece. piece ∷ drop (count + 1) (map now pieces)) (get_or-map now pieces count d [] within))
        read.are_read

    -- and the next item is that of the piece
    next_piece : ((x : X) → IsItem x → Lacks c (text x)) → IsNext IsItem c text (now (get_or pieces count d) ∷ drop (count + 1) (map now pieces)) text (now (get_or pieces count d))
    next_piece whole x later is stops same =
        let begins = row_begins c (now (get_or pieces count d)) (drop (count + 1) (map now pieces)) in
        let lacks : Lacks c (now (get_or pieces count d)) = subst (Lacks c) (get_or-map now pieces count d [] within) (read.lack count [] (omega (arith, length-map pieces now))) in
        (cut_apart c (now (get_or pieces count d)) (text x) begins.0 later lacks (whole x is) begins.1 stops (sym begins.2 ∙ same)).0

    module _ {result : Option X} (reads : Reads IsItem text (now (get_or pieces count d)) result) where
      -- One piece more was read as an item.
      pub piece_read : {new : List X} {pushed : Bool} (P : List X → Type 0) (x : X) → result ≡ Some x → IsPushed P items x new pushed → pushed ≡ true → ArePiecesRead now IsItem c text bytes pieces (count + 1) new
      piece_read {new} P x is push told =
          let item : IsItem x × (now (get_or pieces count d) ≡ text x) = subst (Reads IsItem text (now (get_or pieces count d))) is reads in
          record {
            lack = read.lack;
            are_read = one_read x (drop (count + 1) (map now pieces)) (subst (λ piece. AreRead IsItem c text bytes items (piece ∷ drop (count + 1) (map now pieces))) item.1 left_first) item.0 (subst (IsPushed P items x new) told push);
          }

      -- Where the next piece is the text of no item, the bytes are those of no row.
      pub no_piece : {InForm : List X → Type 0} → PieceLaws InForm IsItem c text → result ≡ None → IsNoRow InForm c text bytes
      no_piece laws none = no_item (row_laws laws) left_first text (now (get_or pieces count d)) (next_piece laws.whole) reads none

      -- Where its item does not go after the others, neither.
      pub no_piece_place : {InForm : List X → Type 0} {pushed : Bool} (P : List X → Type 0) (x : X) (new : List X) → PieceLaws InForm IsItem c text → ((xs : List X) → InForm xs → P xs) → result ≡ Some x → IsPushed P items x new pushed → pushed ≡ false → IsNoRow InForm c text bytes
      no_piece_place P x new laws weaker is push refused =
          let item : IsItem x × (now (get_or pieces count d) ≡ text x) = subst (Reads IsItem text (now (get_or pieces count d))) is reads in
          no_place (row_laws laws) left_first P text (now (get_or pieces count d)) x new weaker laws.told (next_piece laws.whole) item.0 item.1 push refused

-- ---- what comes first

module _ {K P : Type 0} (cmp : K → K → Ordering) where
  -- a key that is below all is below those that come first
  below_front : (key : K) (es fs : List (K × P)) → IsTrue (below_all cmp key (es ++ fs)) → IsTrue (below_all cmp key es)
  below_front key [] fs below = refl
  below_front key (e ∷ es) fs below = both_true (and_parts _ _ below).0 (below_front key es fs (and_parts _ _ below).1)

  -- entries that come first among those that rise rise
  pub sorted_front : (es fs : List (K × P)) → IsTrue (is_sorted cmp (es ++ fs)) → IsTrue (is_sorted cmp es)
  sorted_front [] fs rises = refl
  sorted_front (e ∷ es) fs rises = both_true (below_front e.0 es fs (and_parts _ _ rises).0) (sorted_front es fs (and_parts _ _ rises).1)

  -- a map's first entries are a map
  pub map_front : (is_key : K → Type 0) (is_value : P → Type 0) (es fs : List (K × P)) → IsMap cmp is_key is_value (es ++ fs) → IsMap cmp is_key is_value es
  map_front is_key is_value es fs is = record { ascending = sorted_front es fs is.ascending; are_entries = All-front (IsEntry is_key is_value) es fs is.are_entries }

-- ---- lists of which nothing may be there

-- A list that is written as a row where there is an item, and in another way where there is none, is read by the row.
pub row_or_none : {X E : Type 0} (InForm : List X → Type 0) (row written : List X → List ℕ) (bytes inner : List ℕ) (result : Result (Option (List X)) E) → (bytes ≡ written [] → ⊥) → ((x : X) (xs : List X) → (inner ≡ row (x ∷ xs)) ↔ (bytes ≡ written (x ∷ xs)))
    → IfOk result (Reads (IsRow InForm) row inner) → IfOk result (Reads InForm written bytes)
row_or_none InForm row written bytes inner (Ok (Some [])) some both reads = absurd reads.0
row_or_none InForm row written bytes inner (Ok (Some (x ∷ xs))) some both reads = (reads.0, (both x xs).0 reads.1)
row_or_none {X} InForm row written bytes inner (Ok None) some both reads = none
  where
    none : (xs : List X) → InForm xs → bytes ≡ written xs → ⊥
    none [] form same = some same
    none (x ∷ xs) form same = reads (x ∷ xs) form ((both x xs).1 same)
row_or_none InForm row written bytes inner (Err e) some both reads = reads
