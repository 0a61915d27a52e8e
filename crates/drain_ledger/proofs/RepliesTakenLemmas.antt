-- What the sessions' boxes of replies learn once they take in the workers' senders.
use Rattle.std.specs.Prelude.{◌≡◌, ℕ, ◌+◌, Bool, false, List, [], length, map, slice_get, slice_index_or, Option, Some}
use Rattle.std.proofs.Common.{◌∙◌, refl, sym, ap, subst, arith}
use Rattle.std.proofs.lemmas.List.{length-map}
use Rattle.std.proofs.lemmas.Option.{same_Some, slice_get_within}
use Rattle.mail_contract.specs.Boxes.{box_of}
use Rattle.mail_contract.specs.Parts.{Parts}
use Rattle.mail_contract.specs.Standing.{About, IsSettled}
use Rattle.mail_contract.specs.Takes.{Answers, IsFront, from_sender}
use Rattle.session_known.specs.declared.report.Answer.{Answer}
use Rattle.session_known.specs.declared.script.Script.{Script}
use Rattle.store_msg.specs.Reply.{PlainReply}
use Rattle.store_msg.specs.declared.ends.SessionEndsOver.{SessionEndsOver}
use Rattle.store_msg.specs.declared.request.Request.{Request}
use Rattle.worker_core.specs.State.{Entries, PlainWorker}
use Rattle.party_turns.specs.Rows.{MayTakeAll, MayTakeIn, TakesAll, column}
use Rattle.drain_steps.specs.Settling.{TakesInReplies}
use Rattle.drain_steps.proofs.ChainLemmas.{Does, TakenInAll, all_taken}
use Rattle.party_turns.specs.Turning.{HasGoneOn}
use Rattle.party_turns.specs.Making.{AreOfOneMaking}
use Rattle.drain_ledger.specs.Handed.{AreOfOneRun}
use Rattle.party_turns.proofs.ItemsLemmas.{mapped_or, at_its_place, mapped, of_mapped, there_is, there_too}
use Rattle.party_turns.proofs.MakingLemmas.{making_stays}
use Rattle.drain_ledger.proofs.MakingLemmas.{may_take}

module _ {T R RK : Type 0} (key : R → RK) (received : R → List (ℕ × PlainReply)) (answers : R → Answers) (about : R → ℕ → About PlainReply) (keeps : Parts) (number : T → ℕ) (sent : T → List PlainReply) where
  -- a box takes in a sender
  abbrev pub TakesReplies : T → R → R → Type 0
  TakesReplies sender before now = TakesInReplies key keeps (box_of received answers about) (number sender) (sent sender) before now

  -- what a box received of a sender is a front
  abbrev pub ToldReplies : ℕ → List PlainReply → R → Type 0
  ToldReplies n messages its = IsFront (from_sender n (received its)) messages

  abbrev pub SameReplies : R → R → Type 0
  SameReplies before now = received now ≡ received before

  -- what it is to take in a sender
  pub replies_do : Does number sent key about TakesReplies ToldReplies SameReplies
  replies_do = record {
    one = λ s before now does. record {
      key_is = does.key_is;
      others = does.settles.others;
      its = record { settled = does.settles.settled; met = does.settles.met; told = does.settles.told };
    };
    told_before = λ n messages s before now does told. subst (λ all. IsFront (from_sender n all) messages) does.settles.received told;
    stays = λ its. refl;
    onward = λ before between now first second. second ∙ first;
    rest = λ s before now does. does.settles.received;
  }

module _ {S T O Q G R SK TK OK QK GK RK : Type 0}
    {request_key : S → SK} {request_number : S → ℕ} {asked : S → List Request}
    {reply_key : T → TK} {reply_number : T → ℕ}
    {gossip_key : O → OK} {gossip_number : O → ℕ}
    {requests_key : Q → QK} {requests_pairs : QK → SK → ℕ → Type 0} {requests_senders : QK → ℕ} {requests_received : Q → List (ℕ × Request)} {requests_about : Q → ℕ → About Request}
    {in_key : G → GK} {in_pairs : GK → OK → ℕ → Type 0} {in_senders : GK → ℕ} {got : G → ℕ → ℕ → Option Entries} {in_about : G → ℕ → About Entries}
    {replies_key : R → RK} {replies_pairs : RK → TK → ℕ → Type 0} {replies_received : R → List (ℕ × PlainReply)} {replies_about : R → ℕ → About PlainReply}
    {script : Script} {workers : List (PlainWorker Q T O G)} {left : List (List Answer × SessionEndsOver S R)}
    (run : AreOfOneRun request_key request_number asked reply_key reply_number gossip_key gossip_number requests_key requests_pairs requests_senders requests_received requests_about
    in_key in_pairs in_senders got in_about replies_key replies_pairs replies_received replies_about script workers left)
    {complete all_told : Bool} {replied : T → List PlainReply} (settled turned : List (PlainWorker Q T O G)) (as_many_settled : length settled ≡ length workers) (as_many_turned : length turned ≡ length settled)
    (only_requests : (place : ℕ) (before now : PlainWorker Q T O G) → slice_get workers place ≡ Some before → slice_get settled place ≡ Some now
    → now ≡ record before { ends = record before.ends { requests = now.ends.requests } })
    (gone : (place : ℕ) (before now : PlainWorker Q T O G) → slice_get settled place ≡ Some before → slice_get turned place ≡ Some now
    → HasGoneOn requests_key reply_key reply_number gossip_key gossip_number in_key complete requests_senders requests_received requests_about replied all_told in_senders got in_about before now) where
  -- the senders of replies of a worker, and the boxes
  abbrev pub senders_of : PlainWorker Q T O G → List T
  senders_of worker = worker.ends.replies.items

  abbrev pub boxes : List R
  boxes = map (λ (its : List Answer × SessionEndsOver S R). its.1.replies) left

  -- the worker before its turns, and as it was handed over
  came_of : (row : ℕ) (was is : List T) → slice_get (map senders_of workers) row ≡ Some was → slice_get (map senders_of turned) row ≡ Some is
      → (map reply_key is ≡ map reply_key was) × (map reply_number is ≡ map reply_number was)
  came_of row was is was_there there =
      let first = of_mapped senders_of workers row was was_there in
      let now = of_mapped senders_of turned row is there in
      let between = there_too settled turned row now.0 as_many_turned now.1 in
      let keys = (gone row between.0 now.0 between.1 now.1).keys in
      let same : senders_of between.0 ≡ was = ap (λ (worker : PlainWorker Q T O G). senders_of worker) (only_requests row first.0 between.0 first.1 between.1) ∙ first.2 in (
        ap (map reply_key) (sym now.2) ∙ keys.replies_keys ∙ ap (map reply_key) same,
        ap (map reply_number) (sym now.2) ∙ keys.replies_numbers ∙ ap (map reply_number) same,
      )

  -- the turned workers' senders are of one making with the boxes
  pub replies_making : AreOfOneMaking reply_key reply_number replies_pairs replies_key replies_about false (map senders_of turned) boxes
  replies_making =
      making_stays (map senders_of workers) (map senders_of turned) boxes boxes run.replies (length-map turned senders_of ∙ as_many_turned ∙ as_many_settled ∙ sym (length-map workers senders_of)) refl
      (λ row was is was_there there. (came_of row was is was_there there).0) (λ row was is was_there there. (came_of row was is was_there there).1)
      (λ place was is was_there there. ap replies_key (sym (same_Some was is (sym was_there ∙ there))))
      (λ row place was is was_there there kept not_settled settled.
      not_settled (subst (λ (box : R). IsSettled (replies_about box (row + 1)).standing) (sym (same_Some was is (sym was_there ∙ there))) settled))

  module _ (answers : R → Answers) (keeps : Parts) where
    abbrev Takes : T → R → R → Type 0
    Takes = TakesReplies replies_key replies_received answers replies_about keeps reply_number replied

    -- each box may take them in
    pub may_take_replies : (session : ℕ) (box : R) → slice_get boxes session ≡ Some box
        → MayTakeAll (λ its sender. MayTakeIn replies_pairs (replies_key its) (replies_about its) (reply_key sender) (reply_number sender)) Takes (column false 0 (map senders_of turned) session) box
    may_take_replies session box there =
        may_take replies_making replied Takes (ToldReplies replies_key replies_received answers replies_about keeps reply_number replied)
        (SameReplies replies_key replies_received answers replies_about keeps reply_number replied) (replies_do replies_key replies_received answers replies_about keeps reply_number replied) session box there

    module _ (taken : List R) (as_many_taken : length taken ≡ length boxes)
        (took : (session : ℕ) (before now : R) → slice_get boxes session ≡ Some before → slice_get taken session ≡ Some now → TakesAll Takes (column false 0 (map senders_of turned) session) before now) where
      taken_in : (session : ℕ) (before now : R) → slice_get boxes session ≡ Some before → slice_get taken session ≡ Some now
          → TakenInAll reply_number replied replies_key replies_about Takes (ToldReplies replies_key replies_received answers replies_about keeps reply_number replied)
          (SameReplies replies_key replies_received answers replies_about keeps reply_number replied) false (map senders_of turned) session before now
      taken_in session before now was is =
          all_taken reply_number replied replies_key replies_about Takes (ToldReplies replies_key replies_received answers replies_about keeps reply_number replied)
          (SameReplies replies_key replies_received answers replies_about keeps reply_number replied) (replies_do replies_key replies_received answers replies_about keeps reply_number replied)
          false (map senders_of turned) session replies_making.numbers before now (took session before now was is)

      -- what each box received is as before
      pub boxes_are : (session : ℕ) (its : List Answer × SessionEndsOver S R) (box : R) → slice_get left session ≡ Some its → slice_get taken session ≡ Some box → replies_received box ≡ replies_received its.1.replies
      boxes_are session its box there is = (taken_in session its.1.replies box (mapped (λ (its : List Answer × SessionEndsOver S R). its.1.replies) left session its there) is).rest

      -- and of each worker it is a front of what that one replied
      pub fronts : (place session : ℕ) (worker : PlainWorker Q T O G) (its : List Answer × SessionEndsOver S R) → slice_get turned place ≡ Some worker → slice_get left session ≡ Some its
          → IsFront (from_sender (place + 1) (replies_received its.1.replies)) (slice_index_or (map replied worker.ends.replies.items) session [])
      fronts place session worker its there is =
          let row_is = mapped senders_of turned place worker there in
          let box_is = mapped (λ (its : List Answer × SessionEndsOver S R). its.1.replies) left session its is in
          let many = at_its_place (λ senders. length senders + 0 ≡ length boxes) (map senders_of turned) place (senders_of worker) replies_making.many row_is in
          let within = slice_get_within boxes session its.1.replies box_is in
          let sender = there_is (senders_of worker) session (omega (arith, many, within)) in
          let box = there_is taken session (omega (arith, within, as_many_taken)) in
          subst (IsFront (from_sender (place + 1) (replies_received its.1.replies))) (sym (mapped_or replied (senders_of worker) session sender.0 [] sender.1))
          ((taken_in session its.1.replies box.0 box_is box.1).each place (senders_of worker) sender.0 row_is refl sender.1).told
