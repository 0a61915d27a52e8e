-- The puts of a session among the requests that a worker received are those that came of it, where each put is of the session that sent it.
use Rattle.std.specs.Prelude.{◌≡◌, ℕ, ◌==◌, if◌then◌else◌, List, [], ◌∷◌, ◌++◌, All, flat_map}
use Rattle.std.proofs.Common.{◌∙◌, refl, sym, ap, inl, inr}
use Rattle.std.proofs.lemmas.Bool.Decides.{eqb_tells}
use Rattle.std.proofs.lemmas.List.Elements.{All-head, All-tail}
use Rattle.mail_contract.specs.Takes.{from_sender}
use Rattle.composed_value.specs.Keyed.{puts_on}
use Rattle.composed_value.proofs.KeyedLemmas.{puts_on-append}
use Rattle.composed_value.specs.declared.put.Put.{Put}
use Rattle.session_known.specs.Accepted.{made_on}
use Rattle.session_known.proofs.NumberedLemmas.{all_made, made_on-append, none_made}
use Rattle.store_msg.specs.declared.request.Request.{Request}
use Rattle.worker_core.specs.Share.{put_in, puts_in}

-- each put is of the session whose request it is
abbrev pub AreOwnPuts : ℕ × Request → Type 0
AreOwnPuts message = All (λ entry. entry.1.session ≡ message.0) (put_in message.1)

module _ (session key : ℕ) where
  pub own_puts : (messages : List (ℕ × Request)) → All AreOwnPuts messages → made_on session key (puts_in messages) ≡ puts_on key (flat_map put_in (from_sender session messages))
  own_puts [] are = refl
  own_puts (message ∷ messages) are =
      let its : List (ℕ × Put) = put_in message.1 in
      let own : AreOwnPuts message = All-head AreOwnPuts message messages are in
      let later : List Request = from_sender session messages in
      let rest = own_puts messages (All-tail AreOwnPuts message messages are) in
      made_on-append session key its (puts_in messages) ∙ elim (eqb_tells message.0 session) as
      (λ _. made_on session key its ++ made_on session key (puts_in messages) ≡ puts_on key (flat_map put_in (if message.0 == session then message.1 ∷ later else later))) [
        | inl same ↦
            (λ j. all_made session key its (λ k d low. own k d low ∙ same.1) j ++ rest j) ∙ sym (puts_on-append key its (flat_map put_in later))
            ∙ ap (λ t. puts_on key (flat_map put_in (if t then message.1 ∷ later else later))) (sym same.0)
        | inr other ↦
            (λ j. none_made session key its (λ k d low is. other.1 (sym (own k d low) ∙ is)) j ++ rest j)
            ∙ ap (λ t. puts_on key (flat_map put_in (if t then message.1 ∷ later else later))) (sym other.0)
      ]
