-- Which senders of replies still find a place for the next one.
use Rattle.std.specs.Prelude.{◌≡◌, ◌≢◌, ◌⊎◌, ℕ, ◌+◌, ◌<◌, ◌≤◌, List, [], ◌∷◌, ◌++◌, length, map, slice_get, slice_index_or, slice_set, Some}
use Rattle.std.proofs.Common.{get_or, sym, ap, subst, ◌∙◌, inl, inr, arith}
use Rattle.std.proofs.lemmas.Bool.{cases_eq}
use Rattle.std.proofs.lemmas.List.{get_or-map, get_or-set_same, length-map, length_push}
use Rattle.std.proofs.lemmas.Option.{get_or_from_slice_get, same_Some, slice_get-get_or, slice_get_within}
use Rattle.store_msg.specs.Reply.{PlainReply}
use Rattle.worker_core.specs.Room.{StayClear}

module _ {T : Type 0} (clear : T → Type 0) (sent : T → List PlainReply) where
  -- what the sender at a place sent
  sent_at : (senders : List T) (place : ℕ) (sender : T) → slice_get senders place ≡ Some sender → slice_index_or (map sent senders) place [] ≡ sent sender
  sent_at senders place sender there =
      get_or-map sent senders place sender [] (slice_get_within senders place sender there) ∙ ap sent (get_or_from_slice_get senders place sender sender there)

  -- a reply went out by one of them, and the others are as they were
  pub sent_clear : (place : ℕ) (reply : PlainReply) (before now : List T) → ((other : ℕ) → other ≢ place → slice_get now other ≡ slice_get before other)
      → map sent now ≡ slice_set (map sent before) place (slice_index_or (map sent before) place [] ++ reply ∷ []) → StayClear clear sent before now
  sent_clear place reply before now others went at was is at_was at_is clear_was = elim (cases_eq at place) [
    | inl same ↦ inr (one_more (ap (slice_get before) (sym same) ∙ at_was) (ap (slice_get now) (sym same) ∙ at_is))
    | inr apart ↦ inl (subst clear (same_Some was is (sym at_was ∙ sym (others at apart) ∙ at_is)) clear_was)
  ]
    where
      one_more : slice_get before place ≡ Some was → slice_get now place ≡ Some is → length (sent was) + 1 ≤ length (sent is)
      one_more there_was there_is =
          let low : place < length (map sent before) = omega (arith, slice_get_within before place was there_was, length-map before sent) in
          let more : sent is ≡ sent was ++ reply ∷ [] =
          sym (sent_at now place is there_is) ∙ ap (λ lists. slice_index_or lists place []) went ∙ get_or-set_same (map sent before) place _ [] low
          ∙ ap (λ list. list ++ reply ∷ []) (sent_at before place was there_was)
          in
          omega (arith, ap length more, length_push (sent was) reply)

  -- nothing went out at first, so what holds from there on holds from the start
  pub clear_through : (before between now : List T) → map sent between ≡ map sent before → StayClear clear sent before between → StayClear clear sent between now
      → StayClear clear sent before now
  clear_through before between now same first rest place was is at_was at_is clear_was =
      let low : place < length between =
      omega (arith, slice_get_within before place was at_was, ap length same, length-map before sent, length-map between sent) in
      let middle = get_or between place was in
      let at_middle = slice_get-get_or between place was low in
      let same_sent : sent middle ≡ sent was =
      sym (sent_at between place middle at_middle) ∙ ap (λ lists. slice_index_or lists place []) same ∙ sent_at before place was at_was in
      elim (first place was middle at_was at_middle clear_was) [
        | inl still ↦ subst (λ list. clear is ⊎ (length list + 1 ≤ length (sent is))) same_sent (rest place middle is at_middle at_is still)
        | inr more ↦ absurd (omega (arith, more, ap length same_sent))
      ]
