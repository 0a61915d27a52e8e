-- The held puts of a session, accepted one after another.
use Rattle.std.specs.Prelude.{◌≡◌, ℕ, ◌+◌, ◌<◌, ◌≤◌, List, [], ◌∷◌, ◌++◌, drop, length, get_or}
use Rattle.std.proofs.Common.{refl, sym, ap, subst, ◌∙◌, append_assoc, append-nil, inl, inr, arith}
use Rattle.std.proofs.lemmas.Bool.{cases_eq}
use Rattle.std.proofs.lemmas.List.{at_drop_more, at_drop_all}
use Rattle.composed_value.specs.declared.kind.Kind.{Kind}
use Rattle.composed_value.specs.declared.payload.Payload.{Payload}
use Rattle.composed_value.specs.declared.put.Put.{Put}
use Rattle.session_known.proofs.NumberedLemmas.{count_put, count_put_elsewhere}
use Rattle.session_known.specs.Session.{Client, Knowledge, InState, own_count, put_made, knows_put, puts_committed, knows_committed}
use Rattle.anna_check.specs.ByKey.{OfKey, kinds_of, AreByKey}

-- a put raises the count of no key by more than one
pub count_one_more : (client : Client) (knows : Knowledge) (its_key lamport key : ℕ) → own_count (knows_put client knows its_key (own_count knows its_key + 1) lamport) key ≤ own_count knows key + 1
count_one_more client knows its_key lamport key = elim (cases_eq its_key key) [
  | inl same ↦ subst (λ k. own_count (knows_put client knows k (own_count knows k + 1) lamport) key ≤ own_count knows key + 1) (sym same) (let here = count_put knows.own key (own_count knows key + 1) refl in omega (arith, here))
  | inr apart ↦ (let there = count_put_elsewhere knows.own its_key key (own_count knows its_key + 1) apart in omega (arith, there))
]

-- So many of the held puts are accepted: what was accepted with those that are left is what is accepted in the end, and so is what
-- the session knows.
pub record AreAccepting (before : InState) (accepted : List OfKey) (lamport : ℕ) (held : List (ℕ × Payload)) (place : ℕ) (now : InState) (more : List OfKey) : Type 0 where
  pub client : now.client ≡ before.client
  pub held_is : now.state.held ≡ before.state.held
  pub kinds : kinds_of more ≡ kinds_of accepted
  pub knows : knows_committed before.client now.state.knows lamport (drop place held) ≡ knows_committed before.client before.state.knows lamport held
  pub puts : (kinds : List Kind) (made : List (ℕ × Put)) → AreByKey kinds made accepted
      → (so_far : List (ℕ × Put)) × AreByKey kinds so_far more × (so_far ++ puts_committed before.client now.state.knows lamport place (drop place held) ≡ made ++ puts_committed before.client before.state.knows lamport 0 held)
  pub lamports : place < length held → now.state.knows.lamport ≤ lamport
  pub counts : (key : ℕ) → own_count now.state.knows key ≤ own_count before.state.knows key + place

-- One more is accepted.
pub accepting_more : (before : InState) (accepted : List OfKey) (lamport : ℕ) (held : List (ℕ × Payload)) (place : ℕ) (now new : InState) (more last : List OfKey) (key : ℕ) (payload : Payload) → AreAccepting before accepted lamport held place now more → place < length held → (key, payload) ≡ get_or held place (key, payload)
    → new.client ≡ now.client → new.state.held ≡ now.state.held → new.state.knows ≡ knows_put now.client now.state.knows key (own_count now.state.knows key + 1) lamport → kinds_of last ≡ kinds_of more
    → ((kinds : List Kind) (puts : List (ℕ × Put)) → AreByKey kinds puts more → AreByKey kinds (puts ++ (key, put_made now.client now.state.knows key payload (own_count now.state.knows key + 1) lamport place) ∷ []) last)
    → AreAccepting before accepted lamport held (place + 1) new last
accepting_more before accepted lamport held place now new more last key payload are within is client_is held_same knows_is kinds_are puts_are =
    let client = before.client in
    let knows' = knows_put client now.state.knows key (own_count now.state.knows key + 1) lamport in
    let put = put_made client now.state.knows key payload (own_count now.state.knows key + 1) lamport place in
    let new_is : new.state.knows ≡ knows' = knows_is ∙ ap (λ c. knows_put c now.state.knows key (own_count now.state.knows key + 1) lamport) are.client in
    let left : drop place held ≡ (key, payload) ∷ drop (place + 1) held = at_drop_more (λ xs. xs) held place (key, payload) within ∙ ap (λ first. first ∷ drop (place + 1) held) (sym is) in
    record {
      client = client_is ∙ are.client;
      held_is = held_same ∙ are.held_is;
      kinds = kinds_are ∙ are.kinds;
      knows = ap (λ knows. knows_committed client knows lamport (drop (place + 1) held)) new_is ∙ sym (ap (knows_committed client now.state.knows lamport) left) ∙ are.knows;
      puts = λ kinds made by_key.
          let so_far = are.puts kinds made by_key in (
            so_far.0 ++ (key, put) ∷ [],
            subst (λ c. AreByKey kinds (so_far.0 ++ (key, put_made c now.state.knows key payload (own_count now.state.knows key + 1) lamport place) ∷ []) last) are.client (puts_are kinds so_far.0 so_far.1),
            ap (λ knows. (so_far.0 ++ (key, put) ∷ []) ++ puts_committed client knows lamport (place + 1) (drop (place + 1) held)) new_is
                ∙ append_assoc so_far.0 ((key, put) ∷ []) (puts_committed client knows' lamport (place + 1) (drop (place + 1) held))
                ∙ sym (ap (λ held. so_far.0 ++ puts_committed client now.state.knows lamport place held) left)
                ∙ so_far.2,
          );
      lamports = λ _. subst (λ (knows : Knowledge). knows.lamport ≤ lamport) (sym new_is) (omega arith);
      counts = λ other. subst (λ knows. own_count knows other ≤ own_count before.state.knows other + (place + 1)) (sym new_is) (let one = count_one_more client now.state.knows key lamport other in let so = are.counts other in omega (arith, one, so));
    }

-- All are accepted.
pub accepted_all : (before : InState) (accepted : List OfKey) (lamport : ℕ) (held : List (ℕ × Payload)) (place : ℕ) (now : InState) (more : List OfKey) → AreAccepting before accepted lamport held place now more → length held ≤ place
    → (now.state.knows ≡ knows_committed before.client before.state.knows lamport held) × ((kinds : List Kind) (made : List (ℕ × Put)) → AreByKey kinds made accepted → AreByKey kinds (made ++ puts_committed before.client before.state.knows lamport 0 held) more)
accepted_all before accepted lamport held place now more are all = (
  sym (at_drop_all (knows_committed before.client now.state.knows lamport) held place all) ∙ are.knows,
  (λ kinds made by_key.
      let so_far = are.puts kinds made by_key in
      subst (λ puts. AreByKey kinds puts more) (sym (append-nil so_far.0) ∙ sym (at_drop_all (λ held. so_far.0 ++ puts_committed before.client now.state.knows lamport place held) held place all) ∙ so_far.2) so_far.1),
)
