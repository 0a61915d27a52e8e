-- The value of puts names sessions of the script alone where the puts are of such and have seen such alone.
use Rattle.std.specs.Prelude.{◌≡◌, ℕ, ◌≤◌, true, cond, List, [], ◌∷◌, All, filter_map, map, length, Option, Some, None, IfSome, unwrap_or}
use Rattle.std.specs.Cmp.{Equal-is, IsTotalOrder}
use Rattle.std.specs.List.{cons_option}
use Rattle.std.specs.Ordering.{eq_by_cmp, is_eq}
use Rattle.std.specs.declared.cmp.Ordering.{Ordering}
use Rattle.std.proofs.Common.{sym, ap, subst, inl, inr, arith}
use Rattle.std.proofs.lemmas.Bool.{cases_Bool}
use Rattle.std.proofs.lemmas.Cmp.{tied_itself}
use Rattle.std.proofs.lemmas.List.Elements.{All-cons, All-contains, All-head, All-nil, All-tail, All-weaker}
use Rattle.lattice_laws.proofs.MembersLemmas.{contains_mapped}
use Rattle.lattice_laws.specs.Greatest.{IsGreatestOrZero}
use Rattle.lattice_laws.specs.Sets.{has}
use Rattle.lattice_laws.specs.SetsLaws.{has_first, has_later}
use Rattle.lattice_laws.specs.SpellingLaws.{spelled_exact, spelled_total}
use Rattle.lattice_laws.specs.declared.maybe.Maybe.TheVariants.{Is}
use Rattle.basic_lattices.specs.Word.{word_cmp}
use Rattle.basic_lattices.specs.declared.stamped.Stamped.{Stamped}
use Rattle.clock_lattice.specs.Clock.{IsClock, count_of}
use Rattle.dot_lattices.specs.Amounts.{amounts_of}
use Rattle.dot_lattices.specs.Dot.{dot_cmp}
use Rattle.dot_lattices.specs.DotLaws.{dot_exact, dot_total}
use Rattle.dot_lattices.specs.DotSet.{PlainDotSet, seen_at}
use Rattle.dot_lattices.specs.DotSetLaws.{seen_is_clock}
use Rattle.dot_lattices.specs.Insert.{insert_cmp}
use Rattle.dot_lattices.specs.InsertLaws.{insert_total}
use Rattle.dot_lattices.specs.declared.amounts.Amounts.{Amounts}
use Rattle.dot_lattices.specs.declared.dot.Dot.{Dot}
use Rattle.dot_lattices.specs.declared.insert.Insert.{Insert}
use Rattle.version_antichain.specs.Version.{version_cmp}
use Rattle.version_antichain.specs.VersionLaws.{version_total}
use Rattle.version_antichain.specs.declared.version.Version.{Version}
use Rattle.composed_value.proofs.DotLawsLemmas.{dots_are_few}
use Rattle.composed_value.specs.PlainValue.{AreGreatestOf, IsOrSetOf, IsPutOf, IsValueOf, change_at, changes_at, insert_of, inserts, seen_by_removes, seen_of, stamped, stamped_of, version_of, versions}
use Rattle.composed_value.specs.Put.{dot_of}
use Rattle.composed_value.specs.declared.kind.Kind.{Kind}
use Rattle.composed_value.specs.declared.kind.Kind.TheVariants as kinds
use Rattle.composed_value.specs.declared.payload.Payload.{Payload}
use Rattle.composed_value.specs.declared.payload.Payload.TheVariants as payloads
use Rattle.composed_value.specs.declared.put.Put.{Put}
use Rattle.composed_value.specs.declared.value.Value.{Value}
use Rattle.composed_value.specs.declared.value.Value.TheVariants as values
use Rattle.session_known.specs.Form.{HasFewDots, NamesSessions, ValueNamesSessions}
use Rattle.session_known.specs.declared.script.Script.{Script}
use Rattle.legal_runs.proofs.NamedSessionsLemmas.{clock_in, counted_is_named, from_found, some_greatest}
use Rattle.legal_runs.proofs.SessionsLemmas.{IsSession}

-- what holds of all that the members of a list give holds of all that is gathered
All-filter_map : {X Y : Type 0} (gather : X → Option Y) (P : Y → Type 0) (xs : List X) → All (λ x. IfSome (gather x) P) xs → All P (filter_map gather xs)
All-filter_map gather P [] all = All-nil P
All-filter_map gather P (x ∷ xs) all =
    let rest : All P (filter_map gather xs) = All-filter_map gather P xs (All-tail (λ y. IfSome (gather y) P) x xs all) in
    elim (gather x) as (λ given. IfSome given P → All P (cons_option given (filter_map gather xs))) [
      | None ↦ λ holds. rest
      | Some y ↦ λ holds. All-cons P y (filter_map gather xs) holds rest
    ] (All-head (λ y. IfSome (gather y) P) x xs all)

-- each member of a list is there
each_is_there : {E : Type 0} {cmp : E → E → Ordering} → IsTotalOrder cmp → (members : List E) → All (λ member. has cmp member members ≡ true) members
each_is_there {cmp} total [] = All-nil (λ member. has cmp member [] ≡ true)
each_is_there {E} {cmp} total (member ∷ members) =
    let there : E → Type 0 = λ x. has cmp x (member ∷ members) ≡ true in
    All-cons there member members (has_first cmp member member members (ap is_eq (tied_itself total member)))
    (All-weaker (λ x. has cmp x members ≡ true) there (λ x later. has_later cmp x member members later) members (each_is_there total members))

module _ (script : Script) where
  -- a put of a session of the script that has seen such alone
  pub record IsNamed (put : Put) : Type 0 where
    pub session : IsSession script put.session
    pub seen : NamesSessions script put.seen

  -- its word is stamped by such a session
  stamp_named : (put : Put) (payload : Payload) → IsNamed put → IfSome (stamped_of put payload) (λ word. IsSession script word.session)
  stamp_named put (payloads.Last word) named = named.session
  stamp_named put payload named = tt

  -- and its version has a clock of such
  version_named : (put : Put) (payload : Payload) → IsNamed put → IfSome (version_of put payload) (λ version. NamesSessions script version.clock)
  version_named put (payloads.Version word) named = named.seen
  version_named put payload named = tt

  -- a change at a dot is of a put of such a session, and so is an insert
  change_named : (dot : Dot) (put : Put) (payload : Payload) → IsNamed put → IfSome (change_at dot put payload) (λ _. IsSession script dot.session)
  change_named dot put (payloads.Amount plus amount) named = elim (cases_Bool (eq_by_cmp dot_cmp dot (dot_of put))) [
    | inl ties ↦
        let session : IsSession script dot.session = subst (λ (its : Dot). IsSession script its.session) (sym (dot_exact dot (dot_of put) ((Equal-is _).0 ties))) named.session in
        subst (λ tied. IfSome (cond tied (Some (amounts_of plus amount)) None) (λ _. IsSession script dot.session)) (sym ties) session
    | inr apart ↦ subst (λ tied. IfSome (cond tied (Some (amounts_of plus amount)) None) (λ _. IsSession script dot.session)) (sym apart) tt
  ]
  change_named dot put payload named = tt

  insert_named : (put : Put) (payload : Payload) → IsNamed put → IfSome (insert_of put payload) (λ insert. IsSession script insert.dot.session)
  insert_named put (payloads.Insert word) named = named.session
  insert_named put payload named = tt

  -- and what a remove had seen is of such sessions
  seen_named : (word : List ℕ) (put : Put) (payload : Payload) → IsNamed put → IfSome (seen_of word put payload) (NamesSessions script)
  seen_named word put (payloads.Remove its) named = elim (cases_Bool (eq_by_cmp word_cmp word its)) [
    | inl ties ↦ subst (λ tied. IfSome (cond tied (Some put.seen) None) (NamesSessions script)) (sym ties) named.seen
    | inr apart ↦ subst (λ tied. IfSome (cond tied (Some put.seen) None) (NamesSessions script)) (sym apart) tt
  ]
  seen_named word put payload named = tt

  module _ (puts : List Put) (named : All IsNamed puts) where
    -- the last word is one of the puts'
    last_named : (kind : Kind) (last : Stamped) → IsValueOf kind puts (values.Last (Is last)) → IsSession script last.session
    last_named kinds.Last last is =
        let holds = λ (word : Stamped). IsSession script word.session in
        All-contains holds (stamped puts) last
        (All-filter_map (λ put. stamped_of put put.payload) holds puts
        (All-weaker IsNamed (λ put. IfSome (stamped_of put put.payload) holds) (λ put its. stamp_named put put.payload its) puts named)) is.0
    last_named kind last is = absurd is

    -- and so is each version that is kept
    versions_named : (kind : Kind) (kept : List Version) → IsValueOf kind puts (values.Versions kept) → All (λ version. NamesSessions script version.clock) kept
    versions_named kinds.Versions kept is =
        let holds = λ (version : Version). NamesSessions script version.clock in
        let all : All holds (versions puts) =
        All-filter_map (λ put. version_of put put.payload) holds puts
        (All-weaker IsNamed (λ put. IfSome (version_of put put.payload) holds) (λ put its. version_named put put.payload its) puts named)
        in
        All-weaker (λ version. has version_cmp version kept ≡ true) holds
        (λ version there. All-contains holds (versions puts) version all ((is.1 version).0 there).0) kept (each_is_there version_total kept)
    versions_named kind kept is = absurd is

    -- so is each dot of their counter
    dots_named : (kind : Kind) (sums : List (Dot × Amounts)) → IsValueOf kind puts (values.Counter sums) → All (λ entry. IsSession script entry.0.session) sums
    dots_named kinds.Counter sums is = from_found dot_total dot_exact (λ dot _. IsSession script dot.session) sums is.0.ascending (λ dot amounts found.
        let greatest : AreGreatestOf (changes_at puts dot) (Some amounts) = subst (AreGreatestOf (changes_at puts dot)) found (is.1 dot) in
        let all : All (λ _. IsSession script dot.session) (changes_at puts dot) =
        All-filter_map (λ put. change_at dot put put.payload) (λ _. IsSession script dot.session) puts
        (All-weaker IsNamed (λ put. IfSome (change_at dot put put.payload) (λ _. IsSession script dot.session)) (λ put its. change_named dot put put.payload its) puts named)
        in
        let from = contains_mapped (λ (amounts : Amounts). amounts.added) (changes_at puts dot) amounts.added greatest.added.0 in
        All-contains (λ _. IsSession script dot.session) (changes_at puts dot) from.0 all from.1)
    dots_named kind sums is = absurd is

    -- each insert of their set
    inserts_named : (all : List Insert) (seen : List ℕ → List (List (ℕ × ℕ))) (set : PlainDotSet) → All (λ insert. IsSession script insert.dot.session) all → IsOrSetOf all seen set → All (λ insert. IsSession script insert.dot.session) set.inserts
    inserts_named all seen set are is =
        let holds = λ (insert : Insert). IsSession script insert.dot.session in
        All-weaker (λ insert. has insert_cmp insert set.inserts ≡ true) holds
        (λ insert there. All-contains holds all insert are ((is.inserts insert).0 there).0) set.inserts (each_is_there insert_total set.inserts)

    -- and what its removes had seen
    removals_named : (all : List Insert) (seen : List ℕ → List (List (ℕ × ℕ))) (set : PlainDotSet) → ((word : List ℕ) → All (NamesSessions script) (seen word)) → IsOrSetOf all seen set → All (λ removal. NamesSessions script removal.1) set.removals
    removals_named all seen set are is = from_found spelled_total spelled_exact (λ word clock. NamesSessions script clock) set.removals is.is_set.removals.ascending (λ word clock found.
        let its : seen_at word set.removals ≡ clock = ap (λ found. unwrap_or found []) found in
        let is_clock : IsClock clock = subst IsClock its (seen_is_clock word set.removals is.is_set.removals) in
        (clock_in script clock is_clock (λ session counted.
        let greatest = subst (λ clock. IsGreatestOrZero (map (count_of session) (seen word)) (count_of session clock)) its (is.removals word session) in
        let from = some_greatest (map (count_of session) (seen word)) (count_of session clock) greatest counted in
        let one = contains_mapped (count_of session) (seen word) (count_of session clock) from in
        counted_is_named script one.0 (All-contains (NamesSessions script) (seen word) one.0 (are word) one.1) session (subst (λ count. 1 ≤ count) (sym one.2) counted))).sessions)

    set_named : (kind : Kind) (set : PlainDotSet) → IsValueOf kind puts (values.OrSet set) → ValueNamesSessions script (values.OrSet set)
    set_named kinds.OrSet set is =
        let inserted = λ (insert : Insert). IsSession script insert.dot.session in (
          inserts_named (inserts puts) (seen_by_removes puts) set
              (All-filter_map (λ put. insert_of put put.payload) inserted puts (All-weaker IsNamed (λ put. IfSome (insert_of put put.payload) inserted) (λ put its. insert_named put put.payload its) puts named)) is,
          removals_named (inserts puts) (seen_by_removes puts) set
              (λ word. All-filter_map (λ put. seen_of word put put.payload) (NamesSessions script) puts (All-weaker IsNamed (λ put. IfSome (seen_of word put put.payload) (NamesSessions script)) (λ put its. seen_named word put put.payload its) puts named)) is,
        )
    set_named kind set is = absurd is

    -- so their value names sessions of the script alone
    pub value_named : (kind : Kind) (value : Value) → IsValueOf kind puts value → ValueNamesSessions script value
    value_named kind (values.Last (Is last)) is = last_named kind last is
    value_named kind (values.Versions kept) is = versions_named kind kept is
    value_named kind (values.Counter sums) is = dots_named kind sums is
    value_named kind (values.OrSet set) is = set_named kind set is
    value_named kind value is = tt

-- The value of few puts has few dots.
pub value_few : (kind : Kind) (puts : List Put) (value : Value) → All (IsPutOf kind) puts → IsValueOf kind puts value → length puts ≤ 4096 → HasFewDots value
value_few kind puts (values.Counter sums) of_kind is few = dots_few kind sums of_kind is
  where
    dots_few : (kind : Kind) (sums : List (Dot × Amounts)) → All (IsPutOf kind) puts → IsValueOf kind puts (values.Counter sums) → length sums ≤ 4096
    dots_few kinds.Counter sums of_kind is = omega (arith, few, dots_are_few puts sums of_kind is)
    dots_few kind sums of_kind is = absurd is
value_few kind puts value of_kind is few = tt
