-- What the calls on the parts of values say of the values.
use Rattle.std.specs.Prelude.{◌≡◌, ◌↔◌, ℕ, max, Bool, IsTrue, List, [], ◌∷◌, Result, Ok, Err, OnOk, OnErr}
use Rattle.std.proofs.Common.{sym, ap, subst, ◌∙◌}
use Rattle.lattice_laws.specs.Entries.{plain_entries, raised}
use Rattle.lattice_laws.proofs.EntriesLemmas.{plain_itself}
use Rattle.lattice_laws.specs.Maybe.{plain_of, joined_by}
use Rattle.lattice_laws.specs.declared.maybe.Maybe.{Maybe}
use Rattle.basic_lattices.specs.Word.{word_cmp}
use Rattle.composed_value.specs.Put.{brought_by, value_of_put}
use Rattle.composed_value.specs.Value.{joined_found, joined_fields, joined_values}
use Rattle.composed_value.specs.ValueLaws.{plain_of_joined, plain_of_injective}
use Rattle.composed_value.specs.declared.payload.Payload.TheVariants.{Field}
use Rattle.composed_value.specs.declared.put.Put.{Put}
use Rattle.composed_value.specs.declared.value.Value.{Value}
use Rattle.composed_value.specs.declared.value.Value.TheVariants.{Map}

-- what is joined of the parts is joined of the values
pub found_joins : {P : Type 0} (joined : P → P → P) (new mine theirs : Maybe P) → plain_of (λ x. x) new ≡ joined_by joined (plain_of (λ x. x) mine) (plain_of (λ x. x) theirs) → new ≡ joined_found joined mine theirs
found_joins joined new mine theirs e = plain_of_injective new (joined_found joined mine theirs) (e ∙ sym (plain_of_joined joined mine theirs))

-- entries with equal plain values are equal where values are seen as they are
pub same_entries : {K P : Type 0} (a b : List (K × P)) → plain_entries (λ x. x) a ≡ plain_entries (λ x. x) b → a ≡ b
same_entries a b e = sym (plain_itself a) ∙ e ∙ plain_itself b

pub fields_join : (new mine theirs : List (List ℕ × ℕ)) → plain_entries (λ x. x) new ≡ joined_fields (plain_entries (λ x. x) mine) (plain_entries (λ x. x) theirs) → new ≡ joined_fields mine theirs
fields_join new mine theirs e = sym (plain_itself new) ∙ e ∙ ap (λ xs. joined_fields xs (plain_entries (λ x. x) theirs)) (plain_itself mine) ∙ ap (joined_fields mine) (plain_itself theirs)

-- what holds of the parts of two values holds of the values
pub ok_of_parts : {T E : Type 0} (result result' : Result T E) (new new' self self' other other' : Value) → result ≡ result' → new ≡ new' → self ≡ self' → other ≡ other' → OnOk result' (new' ≡ joined_values self' other') → OnOk result (new ≡ joined_values self other)
ok_of_parts result result' new new' self self' other other' r n s o h =
    subst (λ x. OnOk x (new ≡ joined_values self other)) (sym r)
    (subst (λ x. OnOk result' (x ≡ joined_values self other)) (sym n)
    (subst (λ x. OnOk result' (new' ≡ joined_values x other)) (sym s)
    (subst (λ x. OnOk result' (new' ≡ joined_values self' x)) (sym o) h)))

pub err_of_parts : {T E : Type 0} (result result' : Result T E) (new new' self self' : Value) → result ≡ result' → new ≡ new' → self ≡ self' → OnErr result' (new' ≡ self') → OnErr result (new ≡ self)
err_of_parts result result' new new' self self' r n s h =
    subst (λ x. OnErr x (new ≡ self)) (sym r)
    (subst (λ x. OnErr result' (x ≡ self)) (sym n)
    (subst (λ x. OnErr result' (new' ≡ x)) (sym s) h))

-- and what holds where a call ends well holds of more there
pub more_on_ok : {T E : Type 0} {P Q : Type 0} (result : Result T E) → (P → Q) → OnOk result P → OnOk result Q
more_on_ok (Ok x) f h = f h
more_on_ok (Err e) f h = h

pub more_on_err : {T E : Type 0} {P Q : Type 0} (result : Result T E) → (P → Q) → OnErr result P → OnErr result Q
more_on_err (Ok x) f h = h
more_on_err (Err e) f h = f h

-- the fields of a value of kind map
abbrev fields_of : Value → List (List ℕ × ℕ)
fields_of (Map fields) = fields
fields_of _ = []

-- one map is at most another where its fields are
pub fields_at_most : (result : Bool) (mine theirs : List (List ℕ × ℕ)) (self other : Value) → self ≡ Map mine → other ≡ Map theirs → IsTrue result ↔ (joined_fields (plain_entries (λ x. x) mine) (plain_entries (λ x. x) theirs) ≡ plain_entries (λ x. x) theirs) → IsTrue result ↔ (joined_values self other ≡ other)
fields_at_most result mine theirs self other s o test =
    let plain : joined_fields (plain_entries (λ x. x) mine) (plain_entries (λ x. x) theirs) ≡ joined_fields mine theirs = ap (λ xs. joined_fields xs (plain_entries (λ x. x) theirs)) (plain_itself mine) ∙ ap (joined_fields mine) (plain_itself theirs) in
    let seen : joined_values self other ≡ Map (joined_fields mine theirs) = ap (λ x. joined_values x other) s ∙ ap (joined_values (Map mine)) o in (
      (λ yes. seen ∙ ap Map (sym plain ∙ test.0 yes ∙ plain_itself theirs) ∙ sym o),
      (λ e. test.1 (plain ∙ ap fields_of (sym seen ∙ e ∙ o) ∙ sym (plain_itself theirs))),
    )

-- a new map raised at one field is the value of a put of that field
pub field_brought : (put : Put) (field copy : List ℕ) (number : ℕ) (fresh new : List (List ℕ × ℕ)) → put.payload ≡ Field field number → fresh ≡ [] → copy ≡ field → plain_entries (λ x. x) new ≡ raised word_cmp max copy number (plain_entries (λ x. x) fresh) → Map new ≡ value_of_put put
field_brought put field copy number fresh new brings empty same e =
    ap Map (sym (plain_itself new) ∙ e ∙ ap (λ xs. raised word_cmp max copy number (plain_entries (λ x. x) xs)) empty ∙ ap (λ key. (key, number) ∷ []) same)
    ∙ ap (brought_by put) (sym brings)
