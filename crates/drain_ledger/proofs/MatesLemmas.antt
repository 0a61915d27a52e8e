-- What the workers' boxes of gossip know and have handed out, from the workers that were handed over to the sealed ones that heard all.
use Rattle.std.specs.Prelude.{◌≡◌, ◌≢◌, ◌⊎◌, ℕ, ◌+◌, ◌<◌, Bool, true, IsTrue, is_some, List, [], ◌++◌, All, length, map, slice_get, slice_index_or, Option, Some, None}
use Rattle.std.proofs.Common.{◌∙◌, sym, ap, subst, inl, inr, arith}
use Rattle.std.proofs.lemmas.Bool.{ne_eqb}
use Rattle.std.proofs.lemmas.List.{length-map}
use Rattle.std.proofs.lemmas.Option.{get_or_from_slice_get, none-some, same_Some, slice_get_within}
use Rattle.mail_contract.specs.Got.{AreAll, AreIn, IsOfSent}
use Rattle.mail_contract.specs.Parts.{Parts}
use Rattle.mail_contract.specs.Standing.{About, AreMet, IsSettled, OfSent, Settled}
use Rattle.mail_contract.specs.Takes.{Answers}
use Rattle.placement.specs.Config.{IsOneOf}
use Rattle.session_known.specs.declared.report.Answer.{Answer}
use Rattle.session_known.specs.declared.script.Script.{Script}
use Rattle.store_msg.specs.Reply.{PlainReply}
use Rattle.store_msg.specs.declared.ends.SessionEndsOver.{SessionEndsOver}
use Rattle.store_msg.specs.declared.request.Request.{Request}
use Rattle.merge_world.specs.Effects.{cells_at}
use Rattle.worker_core.specs.Sealed.{HoldsSealed, PlainSealed, sealed_of}
use Rattle.worker_core.specs.Share.{told_to}
use Rattle.worker_core.specs.State.{Entries, PlainWorker, lists_of, place_at}
use Rattle.drain_steps.specs.Hearing.{HasHeard}
use Rattle.party_turns.specs.Rows.{MayTakeAll, MayTakeIn, TakesAll, column, index_in}
use Rattle.drain_steps.proofs.ChainLemmas.{Does, IsNumbered, OfEach, all_taken, may_all, others_stay}
use Rattle.party_turns.specs.Mates.{IsMate, StandsOrIsShown}
use Rattle.party_turns.specs.Turning.{AreGotInRange, HasGoneOn}
use Rattle.drain_ledger.specs.Drained.{GoesOn}
use Rattle.drain_ledger.specs.Handed.{AreOfOneRun}
use Rattle.party_turns.specs.Making.{IsUnused}
use Rattle.drain_ledger.proofs.GossipTakenLemmas.{AreGotOf, OnlyGossip, TakesMate, does_gossip, index_within, is_mate, mate_or_not, place_of_mate}
use Rattle.party_turns.proofs.MakingLemmas.{index_is}
use Rattle.party_turns.proofs.ItemsLemmas.{alike_at, all_there, at_its_place, long_alike, mapped, of_mapped, there_is, there_too}

-- the senders of gossip of a worker, and those of workers, a row for each
abbrev pub mates_of : {Q T O G : Type 0} → PlainWorker Q T O G → List O
mates_of worker = worker.ends.gossip_out.items

abbrev pub rows_of : {Q T O G : Type 0} → List (PlainWorker Q T O G) → List (List O)
rows_of workers = map mates_of workers

-- A sealed worker that has heard all, and the worker that it was when it was sealed.
pub record IsHeardOut {Q T O G : Type 0} (received : Q → List (ℕ × Request)) (got : G → ℕ → ℕ → Option Entries) (worker : PlainWorker Q T O G) (now : PlainSealed Q G) : Type 0 where
  pub me : now.me ≡ worker.state.me
  pub kinds : now.kinds ≡ worker.state.kinds
  pub requests : now.requests ≡ worker.ends.requests
  pub keys : (key : ℕ) → is_some (cells_at now.cells key) ≡ is_some (cells_at worker.state.cells key)
  pub holds : HoldsSealed received got now
  pub none_kept : now.kept ≡ None
  pub got_more : (sender place : ℕ) (batch : Entries) → got worker.ends.gossip_in sender place ≡ Some batch → got now.gossip_in sender place ≡ Some batch

module _ {S T O Q G R SK TK OK QK GK RK : Type 0}
    {request_key : S → SK} {request_number : S → ℕ} {asked : S → List Request}
    {reply_key : T → TK} {reply_number : T → ℕ}
    {gossip_key : O → OK} {gossip_number : O → ℕ}
    {requests_key : Q → QK} {requests_pairs : QK → SK → ℕ → Type 0} {requests_senders : QK → ℕ}
    {requests_received : Q → List (ℕ × Request)} {requests_about : Q → ℕ → About Request}
    {in_key : G → GK} {in_pairs : GK → OK → ℕ → Type 0} {in_senders : GK → ℕ}
    {got : G → ℕ → ℕ → Option Entries} {in_about : G → ℕ → About Entries}
    {replies_key : R → RK} {replies_pairs : RK → TK → ℕ → Type 0}
    {replies_received : R → List (ℕ × PlainReply)} {replies_about : R → ℕ → About PlainReply}
    {script : Script} {workers : List (PlainWorker Q T O G)} {left : List (List Answer × SessionEndsOver S R)}
    (run : AreOfOneRun request_key request_number asked reply_key reply_number gossip_key gossip_number
    requests_key requests_pairs requests_senders requests_received requests_about in_key in_pairs in_senders got in_about
    replies_key replies_pairs replies_received replies_about script workers left) where
  -- the workers once their boxes of requests took in the sessions' senders, and once they took their turns
  module _ {complete all_told : Bool} {replied : T → List PlainReply} (settled turned : List (PlainWorker Q T O G))
      (as_many_settled : length settled ≡ length workers) (as_many_turned : length turned ≡ length settled)
      (only_requests : (place : ℕ) (before now : PlainWorker Q T O G) → slice_get workers place ≡ Some before → slice_get settled place ≡ Some now
      → now ≡ record before { ends = record before.ends { requests = now.ends.requests } })
      (gone : (place : ℕ) (before now : PlainWorker Q T O G) → slice_get settled place ≡ Some before → slice_get turned place ≡ Some now
      → HasGoneOn requests_key reply_key reply_number gossip_key gossip_number in_key
      complete requests_senders requests_received requests_about replied all_told in_senders got in_about before now)
      (stands : (place : ℕ) (before now : PlainWorker Q T O G) → slice_get settled place ≡ Some before → slice_get turned place ≡ Some now
      → StandsOrIsShown (length settled) (place + 1) (in_about before.ends.gossip_in) (in_about now.ends.gossip_in)) where
    as_many : length turned ≡ script.config.workers
    as_many = as_many_turned ∙ as_many_settled ∙ run.as_many

    -- A worker that took its turns, by the one that was handed over: the senders of its gossip are of the same keys and numbers; its box has handed
    -- out what it had, and stands to a sender as before, or that one is a mate's and was not taken in.
    record ComesFrom (place : ℕ) (now : PlainWorker Q T O G) : Type 0 where
      start : PlainWorker Q T O G
      start_is : slice_get workers place ≡ Some start
      key_is : in_key now.ends.gossip_in ≡ in_key start.ends.gossip_in
      out_keys : map gossip_key (mates_of now) ≡ map gossip_key (mates_of start)
      out_numbers : map gossip_number (mates_of now) ≡ map gossip_number (mates_of start)
      got_more : (sender at : ℕ) (batch : Entries) → got start.ends.gossip_in sender at ≡ Some batch → got now.ends.gossip_in sender at ≡ Some batch
      got_in_range : AreGotInRange (in_senders (in_key start.ends.gossip_in)) (got start.ends.gossip_in)
          → AreGotInRange (in_senders (in_key now.ends.gossip_in)) (got now.ends.gossip_in)
      of_sent : (sender : ℕ) → IsOfSent all_told (got start.ends.gossip_in) (in_about start.ends.gossip_in) sender
          → IsOfSent all_told (got now.ends.gossip_in) (in_about now.ends.gossip_in) sender
      stands_or : StandsOrIsShown script.config.workers (place + 1) (in_about start.ends.gossip_in) (in_about now.ends.gossip_in)

    comes_from : (place : ℕ) (now : PlainWorker Q T O G) → slice_get turned place ≡ Some now → ComesFrom place now
    comes_from place now is =
        let between = there_too settled turned place now as_many_turned is in
        let start = there_too workers settled place between.0 as_many_settled between.1 in
        let only = only_requests place start.0 between.0 start.1 between.1 in
        let went = gone place between.0 now between.1 is in
        let same : between.0.ends.gossip_in ≡ start.0.ends.gossip_in = ap (λ (worker : PlainWorker Q T O G). worker.ends.gossip_in) only in
        record {
          start = start.0;
          start_is = start.1;
          key_is = went.keys.gossip_in_key ∙ ap in_key same;
          out_keys = went.keys.gossip_out_keys ∙ ap (λ (worker : PlainWorker Q T O G). map gossip_key (mates_of worker)) only;
          out_numbers = went.keys.gossip_out_numbers ∙ ap (λ (worker : PlainWorker Q T O G). map gossip_number (mates_of worker)) only;
          got_more =
              subst (λ box. (sender at : ℕ) (batch : Entries) → got box sender at ≡ Some batch → got now.ends.gossip_in sender at ≡ Some batch) same
              went.got_more;
          got_in_range =
              subst (λ box. AreGotInRange (in_senders (in_key box)) (got box) → AreGotInRange (in_senders (in_key now.ends.gossip_in)) (got now.ends.gossip_in))
              same went.got_in_range;
          of_sent =
              subst (λ box. (sender : ℕ) → IsOfSent all_told (got box) (in_about box) sender
              → IsOfSent all_told (got now.ends.gossip_in) (in_about now.ends.gossip_in) sender) same went.of_sent;
          stands_or =
              subst (λ many. StandsOrIsShown many (place + 1) (in_about start.0.ends.gossip_in) (in_about now.ends.gossip_in))
              (as_many_settled ∙ run.as_many)
              (subst (λ box. StandsOrIsShown (length settled) (place + 1) (in_about box) (in_about now.ends.gossip_in)) same
              (stands place between.0 now between.1 is));
        }

    -- a sender of a row has the key and the number of one that was handed over
    record IsTheirs (row index : ℕ) (sender : O) : Type 0 where
      row_start : List O
      row_is : slice_get (rows_of workers) row ≡ Some row_start
      sender_start : O
      sender_is : slice_get row_start index ≡ Some sender_start
      same_key : gossip_key sender_start ≡ gossip_key sender
      same_number : gossip_number sender_start ≡ gossip_number sender

    theirs : (row index : ℕ) (senders : List O) (sender : O) → slice_get (rows_of turned) row ≡ Some senders
        → slice_get senders index ≡ Some sender → IsTheirs row index sender
    theirs row index senders sender row_is is =
        let teller = of_mapped mates_of turned row senders row_is in
        let from = comes_from row teller.0 teller.1 in
        let before : List O = mates_of from.start in
        let here : slice_get (mates_of teller.0) index ≡ Some sender = ap (λ all. slice_get all index) teller.2 ∙ is in
        let there = there_too before (mates_of teller.0) index sender (long_alike gossip_key before (mates_of teller.0) from.out_keys) here in
        record {
          row_start = before;
          row_is = mapped mates_of workers row from.start from.start_is;
          sender_start = there.0;
          sender_is = there.1;
          same_key = alike_at gossip_key before (mates_of teller.0) from.out_keys index there.0 sender there.1 here;
          same_number = alike_at gossip_number before (mates_of teller.0) from.out_numbers index there.0 sender there.1 here;
        }

    -- The senders of gossip of each worker that took its turns have its number,
    pub numbered_gossip : IsNumbered gossip_number (rows_of turned)
    numbered_gossip row senders row_is = all_there (λ sender. gossip_number sender ≡ row + 1) senders
        (λ index sender is.
        let its = theirs row index senders sender row_is is in
        sym its.same_number
        ∙ at_its_place (λ one. gossip_number one ≡ row + 1) its.row_start index its.sender_start (run.gossip.numbers row its.row_start its.row_is) its.sender_is)

    -- and there is one for each other worker.
    pub many_gossip : All (λ senders. length senders + 1 ≡ length turned) (rows_of turned)
    many_gossip = all_there (λ senders. length senders + 1 ≡ length turned) (rows_of turned)
        (λ row senders row_is.
        let teller = of_mapped mates_of turned row senders row_is in
        let from = comes_from row teller.0 teller.1 in
        let before : List O = mates_of from.start in
        let long : length (mates_of teller.0) ≡ length before = long_alike gossip_key before (mates_of teller.0) from.out_keys in
        let same : length (mates_of teller.0) ≡ length senders = ap length teller.2 in
        let many : length before + 1 ≡ length workers =
        at_its_place (λ those. length those + 1 ≡ length workers) (rows_of workers) row before run.gossip.many
        (mapped mates_of workers row from.start from.start_is)
        in
        omega (arith, long, same, many, as_many_turned, as_many_settled))

    -- The box of a worker that took its turns may take in the senders that its mates have for it.
    pub may_each_gossip : (place : ℕ) (now : PlainWorker Q T O G) → slice_get turned place ≡ Some now
        → OfEach true (rows_of turned) place
        (λ row sender. MayTakeIn in_pairs (in_key now.ends.gossip_in) (in_about now.ends.gossip_in) (gossip_key sender) (gossip_number sender))
    may_each_gossip place now is row senders sender row_is kept sender_is =
        let from = comes_from place now is in
        let its = theirs row (index_in true row place) senders sender row_is sender_is in
        let number : gossip_number sender ≡ row + 1 =
        at_its_place (λ one. gossip_number one ≡ row + 1) senders (index_in true row place) sender (numbered_gossip row senders row_is) sender_is
        in
        let paired : in_pairs (in_key from.start.ends.gossip_in) (gossip_key its.sender_start) (gossip_number its.sender_start) =
        run.gossip.paired row place its.row_start its.sender_start from.start its.row_is from.start_is kept its.sender_is
        in (
          subst (λ key. in_pairs key (gossip_key sender) (gossip_number sender)) (sym from.key_is)
              (subst (λ key. in_pairs (in_key from.start.ends.gossip_in) key (gossip_number sender)) its.same_key
              (subst (λ n. in_pairs (in_key from.start.ends.gossip_in) (gossip_key its.sender_start) n) its.same_number paired)),
          λ was. not_taken (in_about from.start.ends.gossip_in) (in_about now.ends.gossip_in) (row + 1) (from.stands_or (row + 1))
              (run.gossip.not_taken_in row place from.start (slice_get_within (rows_of workers) row its.row_start its.row_is) from.start_is kept)
              (subst (λ n. IsSettled (in_about now.ends.gossip_in n).standing) number was),
        )
      where
        not_taken : (before after : ℕ → About Entries) (n : ℕ)
            → (((after n).standing ≡ (before n).standing) × ((after n).met ≡ (before n).met))
            ⊎ (IsMate script.config.workers (place + 1) n × (IsSettled (after n).standing → ⊥))
            → (IsSettled (before n).standing → ⊥) → IsSettled (after n).standing → ⊥
        not_taken before after n stays_or_not not_before then = elim stays_or_not [
          | inl stays ↦ not_before (subst IsSettled stays.0 then)
          | inr shown ↦ shown.1 then
        ]

    -- Of a sender that is no mate's, and was in the box at the start, nothing was handed out then, and what is known of it stays.
    module _ (place : ℕ) (now : PlainWorker Q T O G) (from : ComesFrom place now) (sender : ℕ)
        (other : IsMate script.config.workers (place + 1) sender → ⊥) where
      unused : IsOneOf (in_senders (in_key from.start.ends.gossip_in)) sender
          → IsUnused (in_about from.start.ends.gossip_in sender) × ((at : ℕ) → got from.start.ends.gossip_in sender at ≡ None)
      unused within = elim ((run.gossip_boxes place from.start from.start_is).others sender within) [
        | inl mate ↦ absurd (other mate)
        | inr those ↦ those
      ]

      still : ((in_about now.ends.gossip_in sender).standing ≡ (in_about from.start.ends.gossip_in sender).standing)
          × ((in_about now.ends.gossip_in sender).met ≡ (in_about from.start.ends.gossip_in sender).met)
      still = elim (from.stands_or sender) [ inl stays ↦ stays | inr shown ↦ absurd (other shown.0) ]

    -- the workers, sealed, by what their mates told and by their boxes of gossip
    module _ (told : O → List Entries) (keeps : Parts) (answers : G → Answers) (due : G → ℕ → Bool) (most : G → ℕ) where
      abbrev takes : O → PlainSealed Q G → PlainSealed Q G → Type 0
      takes = TakesMate gossip_number told in_key in_senders keeps got answers in_about due most

      abbrev key_of : PlainSealed Q G → GK
      key_of worker = in_key worker.gossip_in

      abbrev about_of : PlainSealed Q G → ℕ → About Entries
      about_of worker = in_about worker.gossip_in

      abbrev are_got_of : ℕ → List Entries → PlainSealed Q G → Type 0
      are_got_of = AreGotOf gossip_number told in_key in_senders keeps got answers in_about due most

      abbrev only_its_gossip : PlainSealed Q G → PlainSealed Q G → Type 0
      only_its_gossip = OnlyGossip gossip_number told in_key in_senders keeps got answers in_about due most

      does : Does gossip_number told key_of about_of takes are_got_of only_its_gossip
      does = does_gossip gossip_number told in_key in_senders keeps got answers in_about due most

      -- So may the worker, sealed, take them in.
      pub may_take_gossip : (place : ℕ) (now : PlainWorker Q T O G) → slice_get turned place ≡ Some now
          → MayTakeAll
          (λ (worker : PlainSealed Q G) sender. MayTakeIn in_pairs (in_key worker.gossip_in) (in_about worker.gossip_in) (gossip_key sender) (gossip_number sender))
          takes (column true 0 (rows_of turned) place) (sealed_of now)
      may_take_gossip place now is =
          may_all gossip_number told key_of about_of takes are_got_of only_its_gossip does gossip_key in_pairs true (rows_of turned) place numbered_gossip
          (sealed_of now) (may_each_gossip place now is)

      -- once these took in the mates' senders
      module _ (gathered : List (PlainSealed Q G)) (as_many_gathered : length gathered ≡ length turned)
          (took : (place : ℕ) (before : PlainWorker Q T O G) (now : PlainSealed Q G) → slice_get turned place ≡ Some before
          → slice_get gathered place ≡ Some now
          → TakesAll takes (column true 0 (rows_of turned) place) (sealed_of before) now) where
        -- A sealed worker that took in the senders of its mates: nothing else changed, and each of these is settled.
        record HasTaken (place : ℕ) (before : PlainWorker Q T O G) (now : PlainSealed Q G) : Type 0 where
          rest : now ≡ record (sealed_of before) { gossip_in = now.gossip_in }
          key_is : in_key now.gossip_in ≡ in_key before.ends.gossip_in
          got_is : got now.gossip_in ≡ got before.ends.gossip_in
          others : (number : ℕ) → (IsMate script.config.workers (place + 1) number → ⊥)
              → in_about now.gossip_in number ≡ in_about before.ends.gossip_in number
          mates : (row : ℕ) (mate : PlainWorker Q T O G) → slice_get turned row ≡ Some mate → row ≢ place
              → (sender : O) × (slice_get (mates_of mate) (index_in true row place) ≡ Some sender)
              × ((in_about now.gossip_in (row + 1)).standing ≡ Settled (told sender)) × IsTrue (in_about now.gossip_in (row + 1)).met
              × AreIn (got before.ends.gossip_in (row + 1)) (told sender)

        has_taken : (place : ℕ) (before : PlainWorker Q T O G) (now : PlainSealed Q G) → slice_get turned place ≡ Some before
            → slice_get gathered place ≡ Some now → HasTaken place before now
        has_taken place before now is there =
            let all =
            all_taken gossip_number told key_of about_of takes are_got_of only_its_gossip does true (rows_of turned) place numbered_gossip (sealed_of before) now
            (took place before now is there)
            in
            record {
              rest = all.rest.0;
              key_is = all.key_is;
              got_is = all.rest.1;
              others = λ number other.
                  others_stay gossip_number told key_of about_of takes are_got_of only_its_gossip does true (rows_of turned) place numbered_gossip
                  (sealed_of before) now (took place before now is there) number
                  (λ row senders sender row_is kept sender_is same.
                  let within : row < length (rows_of turned) = slice_get_within (rows_of turned) row senders row_is in
                  let long = length-map turned mates_of in
                  other
                  (subst (IsMate script.config.workers (place + 1)) same
                  (is_mate script.config.workers row place (omega (arith, within, long, as_many)) kept)));
              mates = λ row mate mate_is apart.
                  let kept = ne_eqb row place apart in
                  let row_is = mapped mates_of turned row mate mate_is in
                  let many : length (mates_of mate) + 1 ≡ length turned =
                  at_its_place (λ senders. length senders + 1 ≡ length turned) (rows_of turned) row (mates_of mate) many_gossip row_is
                  in
                  let row_within : row < length turned = slice_get_within turned row mate mate_is in
                  let place_within : place < length turned = slice_get_within turned place before is in
                  let sender = there_is (mates_of mate) (index_in true row place)
                  (index_within row place (length (mates_of mate)) kept (omega (arith, row_within, many)) (omega (arith, place_within, many)))
                  in
                  let its = all.each row (mates_of mate) sender.0 row_is kept sender.1 in
                  (sender.0, sender.1, its.settled, its.met, its.told);
            }

        -- Nothing of a sealed worker changed but its box of gossip.
        pub only_gossip : (place : ℕ) (before : PlainWorker Q T O G) (now : PlainSealed Q G) → slice_get turned place ≡ Some before
            → slice_get gathered place ≡ Some now
            → now ≡ record (sealed_of before) { gossip_in = now.gossip_in }
        only_gossip place before now is there = (has_taken place before now is there).rest

        -- Of each of its senders it is known how many messages are left.
        pub all_met : (place : ℕ) (now : PlainSealed Q G) → slice_get gathered place ≡ Some now
            → AreMet (in_senders (in_key now.gossip_in)) (in_about now.gossip_in)
        all_met place now there sender low high =
            let before = there_too turned gathered place now as_many_gathered there in
            let taken = has_taken place before.0 now before.1 there in
            let from = comes_from place before.0 before.1 in
            elim (mate_or_not script.config.workers (place + 1) sender) [
              | inl mate ↦
                  let row = place_of_mate script.config.workers place sender mate in
                  let teller = there_is turned row.0 (omega (arith, row.2, as_many)) in
                  subst (λ number. IsTrue (in_about now.gossip_in number).met) row.1 (taken.mates row.0 teller.0 teller.1 row.3).3
              | inr other ↦
                  let within = subst (λ key. IsOneOf (in_senders key) sender) (taken.key_is ∙ from.key_is) (low, high) in
                  subst IsTrue (sym (ap (λ its. its.met) (taken.others sender other) ∙ (still place before.0 from sender other).1))
                  (unused place before.0 from sender other within).0.met
            ]

        -- the workers once they heard until nothing was found
        module _ (finished : List (PlainSealed Q G)) (as_many_finished : length finished ≡ length gathered)
            (heard : (place : ℕ) (before now : PlainSealed Q G) → slice_get gathered place ≡ Some before → slice_get finished place ≡ Some now
            → HasHeard requests_received in_key in_senders got in_about all_told before now) where
          -- A worker that heard all, by what it was before.
          record HasCome (place : ℕ) (now : PlainSealed Q G) : Type 0 where
            before : PlainWorker Q T O G
            before_is : slice_get turned place ≡ Some before
            from : ComesFrom place before
            between : PlainSealed Q G
            taken : HasTaken place before between
            hears : HasHeard requests_received in_key in_senders got in_about all_told between now

          has_come : (place : ℕ) (now : PlainSealed Q G) → slice_get finished place ≡ Some now → HasCome place now
          has_come place now there =
              let between = there_too gathered finished place now as_many_finished there in
              let before = there_too turned gathered place between.0 as_many_gathered between.1 in
              record {
                before = before.0;
                before_is = before.1;
                from = comes_from place before.0 before.1;
                between = between.0;
                taken = has_taken place before.0 between.0 before.1 between.1;
                hears = heard place between.0 now between.1 there;
              }

          -- all that was handed out is of senders in the box's range
          in_range : (place : ℕ) (now : PlainSealed Q G) (come : HasCome place now)
              → AreGotInRange (in_senders (in_key now.gossip_in)) (got now.gossip_in)
          in_range place now come = come.hears.got_in_range
              (subst (λ key. AreGotInRange (in_senders key) (got come.between.gossip_in)) (sym come.taken.key_is)
              (subst (AreGotInRange (in_senders (in_key come.before.ends.gossip_in))) (sym come.taken.got_is)
              (come.from.got_in_range (run.gossip_boxes place come.from.start come.from.start_is).in_range)))

          -- and of one that is no mate's nothing was
          none_of_others : (place : ℕ) (now : PlainSealed Q G) (come : HasCome place now) (sender : ℕ)
              → (IsMate script.config.workers (place + 1) sender → ⊥)
              → IsOneOf (in_senders (in_key now.gossip_in)) sender → AreIn (got now.gossip_in sender) []
          none_of_others place now come sender other within =
              let start = come.from.start.ends.gossip_in in
              let key = come.hears.key_is ∙ come.taken.key_is ∙ come.from.key_is in
              let those = unused place come.before come.from sender other (subst (λ its. IsOneOf (in_senders its) sender) key within) in
              let stays = come.taken.others sender other in
              let first : IsOfSent all_told (got start) (in_about start) sender =
              subst (λ standing. OfSent all_told standing (AreIn (got start sender))) (sym those.0.nothing)
              (λ i message some. absurd (none-some message (sym (those.1 i) ∙ some)))
              in
              let second : IsOfSent all_told (got come.between.gossip_in) (in_about come.between.gossip_in) sender =
              subst (λ (its : About Entries). OfSent all_told its.standing (AreIn (got come.between.gossip_in sender))) (sym stays)
              (subst (λ (all : ℕ → ℕ → Option Entries). OfSent all_told (in_about come.before.ends.gossip_in sender).standing (AreIn (all sender)))
              (sym come.taken.got_is) (come.from.of_sent sender first))
              in
              subst (λ standing. OfSent all_told standing (AreIn (got now.gossip_in sender)))
              ((come.hears.stand sender).0 ∙ ap (λ its. its.standing) stays ∙ (still place come.before come.from sender other).0 ∙ those.0.nothing)
              (come.hears.of_sent sender second)

          -- What a worker got is of its mates.
          pub of_mates : (place : ℕ) (now : PlainSealed Q G) → slice_get finished place ≡ Some now
              → (sender at : ℕ) (batch : Entries) → got now.gossip_in sender at ≡ Some batch → IsMate script.config.workers (place + 1) sender
          of_mates place now there sender at batch was =
              let come = has_come place now there in
              elim (mate_or_not script.config.workers (place + 1) sender) [
                | inl mate ↦ mate
                | inr other ↦ absurd (none-some batch (none_of_others place now come sender other (in_range place now come sender at batch was) at batch was))
              ]

          -- Of each mate it got what that one told it, and all of it.
          pub told_all : (place other : ℕ) (now : PlainSealed Q G) (teller : PlainWorker Q T O G) → slice_get finished place ≡ Some now
              → slice_get turned other ≡ Some teller → other ≢ place
              → AreIn (got now.gossip_in (other + 1)) (told_to (lists_of requests_received replied told got teller) (place_at (other + 1) (place + 1)))
              × AreAll (got now.gossip_in (other + 1)) (told_to (lists_of requests_received replied told got teller) (place_at (other + 1) (place + 1)))
          told_all place other now teller there teller_is apart =
              let come = has_come place now there in
              let its = come.taken.mates other teller teller_is apart in
              let senders : List O = mates_of teller in
              let told_is : told_to (lists_of requests_received replied told got teller) (place_at (other + 1) (place + 1)) ≡ told its.0 =
              ap (λ at. slice_index_or (map told senders) at []) (sym (index_is other place (ne_eqb other place apart)))
              ∙ get_or_from_slice_get (map told senders) (index_in true other place) (told its.0) [] (mapped told senders (index_in true other place) its.0 its.1)
              in
              let stands_still : (in_about now.gossip_in (other + 1)).standing ≡ Settled (told its.0) = (come.hears.stand (other + 1)).0 ∙ its.2 in
              let first : IsOfSent all_told (got come.between.gossip_in) (in_about come.between.gossip_in) (other + 1) =
              subst (λ standing. OfSent all_told standing (AreIn (got come.between.gossip_in (other + 1)))) (sym its.2)
              (subst (λ (all : ℕ → ℕ → Option Entries). AreIn (all (other + 1)) (told its.0)) (sym come.taken.got_is) its.4)
              in (
                subst (AreIn (got now.gossip_in (other + 1))) (sym told_is)
                    (subst (λ standing. OfSent all_told standing (AreIn (got now.gossip_in (other + 1)))) stands_still (come.hears.of_sent (other + 1) first)),
                subst (AreAll (got now.gossip_in (other + 1))) (sym told_is)
                    (subst (λ standing. OfSent all_told standing (AreAll (got now.gossip_in (other + 1)))) stands_still (come.hears.all (other + 1))),
              )

          -- It got all that it had got when it was sealed,
          pub grown : (place : ℕ) (before : PlainWorker Q T O G) (now : PlainSealed Q G) → slice_get turned place ≡ Some before
              → slice_get finished place ≡ Some now
              → (sender at : ℕ) (batch : Entries) → got before.ends.gossip_in sender at ≡ Some batch → got now.gossip_in sender at ≡ Some batch
          grown place before now is there sender at batch was =
              let between = there_too gathered finished place now as_many_finished there in
              let taken = has_taken place before between.0 is between.1 in
              (heard place between.0 now between.1 there).got_more sender at batch
              (ap (λ (all : ℕ → ℕ → Option Entries). all sender at) taken.got_is ∙ was)

          -- and all that it had got when it was handed over.
          pub grown_from_start : (place : ℕ) (before : PlainWorker Q T O G) (now : PlainSealed Q G) → slice_get workers place ≡ Some before
              → slice_get finished place ≡ Some now
              → (sender at : ℕ) (batch : Entries) → got before.ends.gossip_in sender at ≡ Some batch → got now.gossip_in sender at ≡ Some batch
          grown_from_start place before now is there sender at batch was =
              let come = has_come place now there in
              let same : come.from.start ≡ before = same_Some come.from.start before (sym come.from.start_is ∙ is) in
              grown place come.before now come.before_is there sender at batch
              (come.from.got_more sender at batch (ap (λ (worker : PlainWorker Q T O G). got worker.ends.gossip_in sender at) same ∙ was))

          -- So it is the worker that was sealed, once that has heard all,
          pub heard_out : (place : ℕ) (before : PlainWorker Q T O G) (now : PlainSealed Q G) → slice_get turned place ≡ Some before
              → slice_get finished place ≡ Some now → IsHeardOut requests_received got before now
          heard_out place before now is there =
              let between = there_too gathered finished place now as_many_finished there in
              let only = only_gossip place before between.0 is between.1 in
              let hears = heard place between.0 now between.1 there in
              record {
                me = hears.me ∙ ap (λ (its : PlainSealed Q G). its.me) only;
                kinds = hears.kinds ∙ ap (λ (its : PlainSealed Q G). its.kinds) only;
                requests = hears.requests ∙ ap (λ (its : PlainSealed Q G). its.requests) only;
                keys = λ key. hears.keys key ∙ ap (λ (its : PlainSealed Q G). is_some (cells_at its.cells key)) only;
                holds = hears.holds;
                none_kept = hears.none_kept;
                got_more = grown place before now is there;
              }

          -- and goes on from the one that was handed over.
          pub goes_on : ((place : ℕ) (before now : PlainWorker Q T O G) → slice_get workers place ≡ Some before → slice_get settled place ≡ Some now
              → requests_received now.ends.requests ≡ requests_received before.ends.requests)
              → (place : ℕ) (before : PlainWorker Q T O G) (now : PlainSealed Q G) → slice_get workers place ≡ Some before
              → slice_get finished place ≡ Some now → GoesOn requests_received in_key got before now
          goes_on same_received place before now is there =
              let come = has_come place now there in
              let between = there_too settled turned place come.before as_many_turned come.before_is in
              let went = gone place between.0 come.before between.1 come.before_is in
              let out = heard_out place come.before now come.before_is there in
              let same : come.from.start ≡ before = same_Some come.from.start before (sym come.from.start_is ∙ is) in
              record {
                key_is =
                    come.hears.key_is ∙ come.taken.key_is ∙ come.from.key_is
                    ∙ ap (λ (worker : PlainWorker Q T O G). in_key worker.ends.gossip_in) same;
                me = out.me ∙ went.fixed.me ∙ ap (λ (its : PlainWorker Q T O G). its.state.me) (only_requests place before between.0 is between.1);
                more = went.more;
                received_is = ap requests_received out.requests ∙ went.received_is ∙ ap (λ those. those ++ went.more) (same_received place before between.0 is between.1);
                got_more = grown_from_start place before now is there;
              }
