-- The workers of a drained run have the boxes of gossip that they were made with.
use Rattle.std.specs.Prelude.{◌≡◌, ℕ, List, length, map, slice_get, Option, Some}
use Rattle.std.proofs.Common.{◌∙◌, ap, subst, sym}
use Rattle.std.proofs.lemmas.List.{length-map}
use Rattle.session_known.specs.declared.report.Report.{Report}
use Rattle.session_known.specs.declared.script.Script.{Script}
use Rattle.store_msg.specs.Reply.{PlainReply}
use Rattle.store_msg.specs.declared.request.Request.{Request}
use Rattle.worker_core.specs.Sealed.{PlainSealed}
use Rattle.worker_core.specs.State.{Entries, PlainWorker}
use Rattle.drain_ledger.proofs.WorkersLemmas.{workers_long}
use Rattle.party_turns.proofs.ItemsLemmas.{same_made, made_of_made}
use Rattle.drain_ledger.specs.Drained.{GoesOn, IsDrained, end_in, ledger_in}
use Rattle.party_ends.specs.Numbers.{AreNumbered}

module _ {Q T O G R K : Type 0} (received : Q → List (ℕ × Request)) (key : G → K) (got : G → ℕ → ℕ → Option Entries) (heard : R → List (ℕ × PlainReply))
    (script : Script) (report : Report) (made ran : List (PlainWorker Q T O G)) (drained : List (PlainSealed Q G)) (replies : List R)
    (ran_keys : map (λ (worker : PlainWorker Q T O G). key worker.ends.gossip_in) ran ≡ map (λ (worker : PlainWorker Q T O G). key worker.ends.gossip_in) made)
    (as_many : length ran ≡ script.config.workers) (is_drained : IsDrained script report (ledger_in received got heard drained replies))
    (goes_on : (place : ℕ) (before : PlainWorker Q T O G) (now : PlainSealed Q G) → slice_get ran place ≡ Some before → slice_get drained place ≡ Some now → GoesOn received key got before now) where
  -- none was lost
  drained_long : length drained ≡ script.config.workers
  drained_long = sym (length-map drained (end_in received got)) ∙ workers_long script is_drained.table report (ledger_in received got heard drained replies) is_drained.came

  -- what is told of the boxes by their keys
  told_still : {V : Type 0} (tells : K → V) → map (λ (its : PlainSealed Q G). tells (key its.gossip_in)) drained ≡ map (λ (worker : PlainWorker Q T O G). tells (key worker.ends.gossip_in)) made
  told_still tells =
      same_made (λ (its : PlainSealed Q G). tells (key its.gossip_in)) (λ (worker : PlainWorker Q T O G). tells (key worker.ends.gossip_in)) drained ran (as_many ∙ sym drained_long)
      (λ place its worker here there. ap tells (goes_on place worker its there here).key_is)
      ∙ sym (made_of_made (λ (worker : PlainWorker Q T O G). key worker.ends.gossip_in) tells ran) ∙ ap (map tells) ran_keys
      ∙ made_of_made (λ (worker : PlainWorker Q T O G). key worker.ends.gossip_in) tells made

  -- so they were made with the numbers of their owners still
  pub still_numbered : (made_with : K → List ℕ) (numbers : ℕ → List ℕ) → AreNumbered numbers (map (λ (worker : PlainWorker Q T O G). made_with (key worker.ends.gossip_in)) made)
      → AreNumbered numbers (map (λ (its : PlainSealed Q G). made_with (key its.gossip_in)) drained)
  still_numbered made_with numbers are = subst (AreNumbered numbers) (sym (told_still made_with)) are
