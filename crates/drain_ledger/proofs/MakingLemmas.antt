-- Boxes may take in the senders that are of one making with them.
use Rattle.std.specs.Prelude.{◌≡◌, ℕ, ◌+◌, Bool, List, slice_get, Some}
use Rattle.std.proofs.Common.{subst}
use Rattle.std.proofs.lemmas.Option.{slice_get_within}
use Rattle.mail_contract.specs.Standing.{About, IsSettled}
use Rattle.party_turns.specs.Rows.{MayTakeAll, MayTakeIn, column, index_in}
use Rattle.drain_steps.proofs.ChainLemmas.{Does, may_all}
use Rattle.party_turns.specs.Making.{AreOfOneMaking}
use Rattle.party_turns.proofs.ItemsLemmas.{at_its_place}

module _ {S P M K SK : Type 0} {sender_key : S → SK} {number : S → ℕ} {pairs : K → SK → ℕ → Type 0} {key : P → K} {about : P → ℕ → About M} {skips : Bool} where
  -- each box may take in its senders
  pub may_take : {rows : List (List S)} {boxes : List P} → AreOfOneMaking sender_key number pairs key about skips rows boxes
      → (sent : S → List M) (takes : S → P → P → Type 0) (Told : ℕ → List M → P → Type 0) (Rest : P → P → Type 0) → Does number sent key about takes Told Rest
      → (place : ℕ) (box : P) → slice_get boxes place ≡ Some box
      → MayTakeAll (λ its sender. MayTakeIn pairs (key its) (about its) (sender_key sender) (number sender)) takes (column skips 0 rows place) box
  may_take {rows} {boxes} making sent takes Told Rest does place box there =
      may_all number sent key about takes Told Rest does sender_key pairs skips rows place making.numbers box (λ row senders sender row_is kept is. (
        making.paired row place senders sender box row_is there kept is,
        λ settled. making.not_taken_in row place box (slice_get_within rows row senders row_is) there kept
            (subst (λ n. IsSettled (about box n).standing) (at_its_place (λ sender. number sender ≡ row + 1) senders (index_in skips row place) sender (making.numbers row senders row_is) is) settled),
      ))
