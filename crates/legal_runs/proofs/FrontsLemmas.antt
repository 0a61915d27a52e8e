-- The puts on a key in any front of what a worker received: of each session the first so many that it made there.
use Rattle.std.specs.Prelude.{◌≡◌, ◌≢◌, Bool, ℕ, ◌==◌, cond, if◌then◌else◌, List, [], ◌∷◌, ◌++◌, All, flat_map, length}
use Rattle.std.proofs.Common.{◌∙◌, refl, sym, ap, subst, inl, inr, append-nil, arith}
use Rattle.std.proofs.lemmas.Bool.{cases_lt, eq-eqb, ne_eqb}
use Rattle.std.proofs.lemmas.Bool.Decides.{eqb_tells}
use Rattle.std.proofs.lemmas.List.Concat.{flat_map-append}
use Rattle.std.proofs.lemmas.List.Elements.{All-head, All-tail}
use Rattle.lattice_laws.proofs.ListLemmas.{All-front}
use Rattle.mail_contract.specs.Takes.{from_sender}
use Rattle.mail_contract.proofs.WovenLemmas.{from_sender-append}
use Rattle.placement.specs.Asked.{home_at}
use Rattle.composed_value.specs.Keyed.{puts_on}
use Rattle.composed_value.proofs.KeyedLemmas.{puts_on-append}
use Rattle.composed_value.specs.declared.put.Put.{Put}
use Rattle.session_known.specs.Accepted.{accepted, made_on}
use Rattle.session_known.specs.Requests.{requests_of}
use Rattle.session_known.specs.declared.report.Report.{Report}
use Rattle.session_known.specs.declared.script.Script.{Script}
use Rattle.session_proxy.specs.Share.{to_worker}
use Rattle.store_msg.specs.declared.request.Request.{Request}
use Rattle.worker_core.specs.Share.{put_in, puts_in}
use Rattle.legal_runs.proofs.AnsweredLemmas.{lines_have, numbered}
use Rattle.run_ledger.proofs.MessagesLemmas.{each_from}
use Rattle.legal_runs.proofs.OwnPutsLemmas.{AreOwnPuts, own_puts}
use Rattle.legal_runs.proofs.RequestsLemmas.{of_lines}
use Rattle.legal_runs.proofs.SentPutsLemmas.{requests_own}
use Rattle.legal_runs.proofs.SessionsLemmas.{AreSessions, IsSession, answers_at, client_at, lines_at, made_by, origin_at, start_at}

-- nothing came of one who is no sender
none_of_no_sender : (InRange : ℕ → Type 0) (sender : ℕ) (received : List (ℕ × Request)) → (InRange sender → ⊥) → All (λ message. InRange message.0) received → from_sender sender received ≡ []
none_of_no_sender InRange sender [] out range = refl
none_of_no_sender InRange sender (message ∷ received) out range =
    let rest = none_of_no_sender InRange sender received out (All-tail (λ m. InRange m.0) message received range) in
    ap (λ t. if t then message.1 ∷ from_sender sender received else from_sender sender received)
    (ne_eqb message.0 sender (λ same. out (subst InRange same (All-head (λ m. InRange m.0) message received range)))) ∙ rest

-- of two lists that are none together the first is
first_of_none : (xs ys : List Put) → xs ++ ys ≡ [] → xs ≡ []
first_of_none [] ys is = refl
first_of_none (x ∷ xs) ys is = let long = ap length is in absurd (omega (arith, long))

-- What came to a worker: of sessions alone, and of each what its lines send there.
pub record CameHere (script : Script) (table : List (List ℕ)) (report : Report) (worker : ℕ) (received : List (ℕ × Request)) : Type 0 where
  pub of_sessions : All (λ message. IsSession script message.0) received
  pub said : (session : ℕ) → IsSession script session → List ℕ
  pub as_many : (session : ℕ) (within : IsSession script session) → length (said session within) ≡ length (answers_at report session)
  pub came : (session : ℕ) (within : IsSession script session)
      → from_sender session received ≡ to_worker worker (requests_of table (client_at script session) (origin_at script report session) (said session within) (lines_at script session) (answers_at report session))

module _ (script : Script) (table : List (List ℕ)) (report : Report) (are : AreSessions script table report)
    (worker : ℕ) (received : List (ℕ × Request)) (here : CameHere script table report worker received) where
  -- each put came of its session
  are_own : All AreOwnPuts received
  are_own = each_from (λ session request. All (λ entry. entry.1.session ≡ session) (put_in request)) (IsSession script) received
      (λ session within. subst (All (λ request. All (λ entry. entry.1.session ≡ session) (put_in request))) (sym (here.came session within))
      (requests_own (client_at script session) table worker (start_at script report session) 1 (here.said session within) (lines_at script session) (answers_at report session))) here.of_sessions

  module _ (session key : ℕ) where
    -- the puts of the session among some requests are those that came of it
    pub own_in_front : (front back : List (ℕ × Request)) → received ≡ front ++ back → made_on session key (puts_in front) ≡ puts_on key (flat_map put_in (from_sender session front))
    own_in_front front back split = own_puts session key front (All-front AreOwnPuts front back (subst (All AreOwnPuts) split are_own))

    module _ (within : IsSession script session) where
      -- the worker is the session's home of the key
      abbrev is_home : Bool
      is_home = home_at table session key == worker

      -- at its home all of its puts on the key came, elsewhere none
      of_session : puts_on key (flat_map put_in (from_sender session received)) ≡ cond is_home (puts_on key (made_by script report session)) []
      of_session =
          let answered = are.answered session within in
          ap (λ messages. puts_on key (flat_map put_in messages)) (here.came session within)
          ∙ of_lines table (client_at script session) worker key (start_at script report session) 1 (here.said session within) (lines_at script session) (answers_at report session) (here.as_many session within)
          (lines_have (client_at script session) (start_at script report session) (lines_at script session) (answers_at report session)
          (numbered (client_at script session) table (start_at script report session) 1 (lines_at script session) (answers_at report session) answered.0 answered.1))

      pub at_home : home_at table session key ≡ worker → made_on session key (puts_in received) ≡ made_on session key (accepted script report)
      at_home same =
          own_in_front received [] (sym (append-nil received)) ∙ of_session
          ∙ ap (λ there. cond there (puts_on key (made_by script report session)) []) (eq-eqb (home_at table session key) worker same)
          ∙ sym (are.made session key within)

      -- of two fronts of what came
      both : (front back : List (ℕ × Request)) → received ≡ front ++ back
          → puts_on key (flat_map put_in (from_sender session front)) ++ puts_on key (flat_map put_in (from_sender session back)) ≡ cond is_home (puts_on key (made_by script report session)) []
      both front back split =
          sym (puts_on-append key (flat_map put_in (from_sender session front)) (flat_map put_in (from_sender session back)))
          ∙ ap (puts_on key) (sym (flat_map-append put_in (from_sender session front) (from_sender session back)))
          ∙ ap (λ messages. puts_on key (flat_map put_in messages)) (sym (from_sender-append session front back) ∙ ap (from_sender session) (sym split))
          ∙ of_session

      pub elsewhere : (front back : List (ℕ × Request)) → received ≡ front ++ back → home_at table session key ≢ worker → made_on session key (puts_in front) ≡ []
      elsewhere front back split other =
          own_in_front front back split
          ∙ first_of_none (puts_on key (flat_map put_in (from_sender session front))) (puts_on key (flat_map put_in (from_sender session back)))
          (both front back split ∙ ap (λ there. cond there (puts_on key (made_by script report session)) []) (ne_eqb (home_at table session key) worker other))

    -- of each session its first so many puts on the key
    abbrev pub IsFrontOf : List (ℕ × Request) → Type 0
    IsFrontOf front = (rest : List Put) × (made_on session key (puts_in front) ++ rest ≡ made_on session key (accepted script report))

    front_of_session : (front back : List (ℕ × Request)) → received ≡ front ++ back → IsSession script session → IsFrontOf front
    front_of_session front back split within =
        let ours : List Put = puts_on key (flat_map put_in (from_sender session front)) in
        let theirs : List Put = puts_on key (flat_map put_in (from_sender session back)) in
        elim (eqb_tells (home_at table session key) worker) [
          | inl same ↦ (
            theirs,
            ap (λ xs. xs ++ theirs) (own_in_front front back split) ∙ both within front back split
                ∙ ap (λ there. cond there (puts_on key (made_by script report session)) []) same.0 ∙ sym (are.made session key within),
          )
          | inr other ↦ (
            made_on session key (accepted script report),
            ap (λ xs. xs ++ made_on session key (accepted script report)) (elsewhere within front back split other.1),
          )
        ]

    front_of_none : (front back : List (ℕ × Request)) → received ≡ front ++ back → (IsSession script session → ⊥) → IsFrontOf front
    front_of_none front back split out = (
      made_on session key (accepted script report),
      ap (λ xs. xs ++ made_on session key (accepted script report)) (own_in_front front back split
          ∙ ap (λ messages. puts_on key (flat_map put_in messages)) (none_of_no_sender (IsSession script) session front out
          (All-front (λ message. IsSession script message.0) front back (subst (All (λ message. IsSession script message.0)) split here.of_sessions)))),
    )

    -- so of each
    pub fronts : (front back : List (ℕ × Request)) → received ≡ front ++ back → IsFrontOf front
    fronts front back split = elim (cases_lt session 1) [
      | inl low ↦ front_of_none front back split (λ within. let some = within.0 in omega (arith, low, some))
      | inr some ↦ elim (cases_lt (length script.sessions) session) [
        | inl high ↦ front_of_none front back split (λ within. let few = within.1 in omega (arith, high, few))
        | inr few ↦ front_of_session front back split (omega (arith, some), omega (arith, few))
      ]
    ]
