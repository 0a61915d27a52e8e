-- What a sealed worker keeps from call to call, after each step.
use Rattle.std.proofs.Common.{◌≡◌, ℕ, Bool, true, false, IsTrue, List, [], ◌∷◌, ◌++◌, is_some, append-nil, sym, subst, ◌∙◌, refl, inl, IfOk, Option, Some, None, Result, Ok, Err}
use Rattle.std.proofs.lemmas.Bool.{false≢true}
use Rattle.std.proofs.lemmas.List.Concat.{flat_map-append}
use Rattle.std.proofs.lemmas.List.Elements.{All-append, All-nil}
use Rattle.composed_value.specs.Cell.{IsCell, PlainCell}
use Rattle.composed_value.specs.declared.kind.Kind.{Kind}
use Rattle.mail_contract.specs.Got.{Added}
use Rattle.mail_contract.specs.Takes.{Answers}
use Rattle.merge_world.specs.Effects.{hears}
use Rattle.merge_world.specs.declared.private_map.KeyCells.{KeyCells}
use Rattle.store_msg.specs.declared.request.Request.{Request}
use Rattle.gossip_rounds.specs.Batches.{Entries}
use Rattle.worker_core.specs.Kept.{AreEntries, IsKept}
use Rattle.worker_core.specs.Sealed.{HearsOne, JoinsKept, KeepsSealed, batch_kept, batch_of}
use Rattle.worker_core.specs.Share.{AreThoseOf, entries_in}
use Rattle.worker_core.specs.State.{Lists, kept_batch, kept_request}
use Rattle.worker_core.specs.declared.popped.Popped.{Popped}
use Rattle.worker_core.specs.declared.popped.Popped.TheVariants as popped
use Rattle.worker_core.proofs.KeptLemmas.{added_are}
use Rattle.worker_core.proofs.MapLemmas.{own_heard, whole_heard}
use Rattle.worker_core.proofs.OwnLemmas.{AreRequests}

-- an entry that there can be
abbrev IsEntry : ℕ × PlainCell → Type 0
IsEntry entry = IsCell entry.1

module _ (kinds : List Kind) (cells : List (Option KeyCells)) (received : List (ℕ × Request)) (got : ℕ → ℕ → Option Entries) (kept : Option (ℕ × Entries)) (keeps : KeepsSealed kinds cells received got kept) where
  -- a batch was taken out of its box, and is kept
  pub sealed_takes : (sender : ℕ) (batch : Entries) (got_now : ℕ → ℕ → Option Entries) → kept ≡ None → AreEntries batch → Added sender batch got got_now
      → KeepsSealed kinds cells received got_now (Some (sender, batch))
  sealed_takes sender batch got_now none are added =
      let holds = keeps.holds in
      let were : AreThoseOf got holds.joined =
      subst (AreThoseOf got) (append-nil holds.joined) (subst (λ kept. AreThoseOf got (holds.joined ++ batch_kept kept)) none holds.got_are) in
      record {
        holds = record {
          worked = holds.worked;
          received_is = holds.received_is;
          own = holds.own;
          joined = holds.joined;
          got_are = added_are sender batch got got_now holds.joined added were;
          whole = holds.whole;
        };
        requests = keeps.requests;
        joined = keeps.joined;
        kept_are = subst AreEntries (sym (append-nil batch)) are;
      }

  -- the batch that was kept is joined
  sealed_joins : (sender : ℕ) (batch : Entries) → kept ≡ Some (sender, batch) → KeepsSealed kinds (hears batch cells) received got None
  sealed_joins sender batch was =
      let holds = keeps.holds in
      let message : List (ℕ × Entries) = (sender, batch) ∷ [] in
      let are_entries : AreEntries (entries_in message) = subst (λ kept. AreEntries (entries_in (batch_kept kept))) was keeps.kept_are in
      let are : AreEntries batch = subst AreEntries (append-nil batch) are_entries in
      let worked = subst AreRequests (holds.received_is ∙ append-nil holds.worked) keeps.requests in
      record {
        holds = record {
          worked = holds.worked;
          received_is = holds.received_is;
          own = own_heard kinds cells holds.worked holds.own batch;
          joined = holds.joined ++ message;
          got_are = subst (AreThoseOf got) (sym (append-nil (holds.joined ++ message))) (subst (λ kept. AreThoseOf got (holds.joined ++ batch_kept kept)) was holds.got_are);
          whole = whole_heard kinds cells holds.worked holds.own holds.joined holds.whole worked keeps.joined sender batch are;
        };
        requests = keeps.requests;
        joined = subst AreEntries (sym (flat_map-append (λ (b : ℕ × Entries). b.1) holds.joined message))
            (All-append IsEntry (entries_in holds.joined) (entries_in message) keeps.joined are_entries);
        kept_are = All-nil IsEntry;
      }

  -- the batch that was kept was joined, or memory was wanting and nothing changed
  pub joined_keeps : {U E : Type 0} (result : Result U E) (cells_now : List (Option KeyCells)) (kept_now : Option (ℕ × Entries)) → JoinsKept result cells cells_now kept kept_now
      → KeepsSealed kinds cells_now received got kept_now
  joined_keeps (Ok done) cells_now kept_now (sender, batch, was, heard, none) = rw (heard, none) (sealed_joins sender batch was)
  joined_keeps (Err error) cells_now kept_now same = rw (same.0, same.1) keeps

-- a batch that was kept was joined, or memory was wanting and it is kept still
pub kept_hears : {E : Type 0} (result : Result Bool E) (cells cells_now : List (Option KeyCells)) (kept kept_now : Option (ℕ × Entries)) (got got_now : ℕ → ℕ → Option Entries)
    (count count_now : Answers) (nothing : Type 0) → is_some kept ≡ true → IfOk result IsTrue → JoinsKept result cells cells_now kept kept_now → got_now ≡ got
    → HearsOne result cells cells_now kept kept_now got got_now count count_now nothing
kept_hears (Ok true) cells cells_now kept kept_now got got_now count count_now nothing some did (sender, batch, was, heard, none) same = (sender, batch, inl (was, same), heard, none)
kept_hears (Ok false) cells cells_now kept kept_now got got_now count count_now nothing some did joined same = absurd (false≢true did)
kept_hears (Err error) cells cells_now None kept_now got got_now count count_now nothing some did joined same = absurd (false≢true some)
kept_hears (Err error) cells cells_now (Some batch) kept_now got got_now count count_now nothing some did joined same = (joined.0, inl (batch.0, batch.1, inl (refl, same), joined.1))

-- a batch that a worker kept, as a list
same_kept : (kept : Option Popped) → kept_batch kept ≡ batch_kept (batch_of kept)
same_kept None = refl
same_kept (Some (popped.Request session request)) = refl
same_kept (Some (popped.Batch sender batch)) = refl

-- a worker that keeps no request is sealed
pub seals : (before : Lists) → IsKept before → kept_request before.state.kept ≡ [] → KeepsSealed before.state.kinds before.state.cells before.received before.got (batch_of before.state.kept)
seals before keeps none =
    let cells = keeps.share.cells in
    let same = same_kept before.state.kept in
    record {
      holds = record {
        worked = cells.worked;
        received_is = subst (λ kept. before.received ≡ cells.worked ++ kept) none cells.received_is;
        own = cells.own;
        joined = cells.joined;
        got_are = subst (λ kept. AreThoseOf before.got (cells.joined ++ kept)) same cells.got_are;
        whole = cells.whole;
      };
      requests = keeps.requests;
      joined = keeps.joined;
      kept_are = subst (λ kept. AreEntries (entries_in kept)) same keeps.kept;
    }
