-- Each kind of step on the queue keeps its rule.
use Rattle.std.proofs.Common.{◌≡◌, ◌≢◌, ◌⊎◌, ℕ, zero, suc, ◌+◌, ◌≤◌, Bool, true, false, ◌==◌, if◌then◌else◌, List, [], ◌∷◌, ◌++◌, length, take, set, inl, inr, sym, refl, ap, ◌∙◌, subst, ⊎_elim, append_assoc, eq-eqb, arith}
use Rattle.std.specs.Prelude.{All}
use Rattle.std.proofs.Math.Seq.{take-append_seam}
use Rattle.std.proofs.lemmas.Bool.{ne_eqb}
use Rattle.std.proofs.lemmas.List.Elements.{All-cons, All-head, All-nil, All-push, All-same, All-tail, All-weaker}
use mathlib.Core.Option.{some, some-injective, some-ne-none}
use lib.ListN.{get_elem?}
use Rattle.crossbeam_queue.specs.Fifo.{Pushes, Pops, Forks, Merges, Learns}
use Rattle.crossbeam_queue.proofs.Lists.{at_set}
use Rattle.mail_contract.specs.Takes.{IsFront, from_sender}
use Rattle.mail_contract.proofs.WovenLemmas.{from_sender-append, from_sender_more, from_sender_same, from_sender_there}
use Rattle.mailbox_rule.specs.Rule.{AreFronts, AreWhole, Delivers, IsListOf, IsMade, Popped, Reads, ended_in, lists_in, made_in, number_in, received_in, receiver, sender, sent_in}
use Rattle.mailbox_rule.specs.declared.rule.View.{View}
use Rattle.mailbox_rule.specs.declared.rule.View.TheVariants.{Sender, Receiver, Spent}

-- the list of one sender stands with another pass from now on
abbrev moved : (ℕ → ℕ) → ℕ → ℕ → ℕ → ℕ
moved holder number pass k = if k == number then pass else holder k

moved_here : (holder : ℕ → ℕ) (number pass : ℕ) → moved holder number pass number ≡ pass
moved_here holder number pass = ap (λ (b : Bool). let r : ℕ = (if b then pass else holder number) in r) (eq-eqb number number refl)

moved_there : (holder : ℕ → ℕ) (number pass k : ℕ) → k ≢ number → moved holder number pass k ≡ holder k
moved_there holder number pass k differs = ap (λ (b : Bool). let r : ℕ = (if b then pass else holder k) in r) (ne_eqb k number differs)

moved_to_same : (holder : ℕ → ℕ) (number pass k : ℕ) → holder k ≡ pass → moved holder number pass k ≡ pass
moved_to_same holder number pass k is = elim (k == number) as (λ b. (if b then pass else holder k) ≡ pass) [ true ↦ refl | false ↦ is ]

at_end : {A : Type 0} (l : List A) (a b : A) (j : ℕ) → get_elem? (l ++ a ∷ []) j ≡ some b → (get_elem? l j ≡ some b) ⊎ ((j ≡ length l) × (a ≡ b))
at_end [] a b zero here = inr (refl, some-injective a b here)
at_end [] a b (suc j) here = absurd (some-ne-none b (sym here))
at_end (x ∷ xs) a b zero here = inl here
at_end (x ∷ xs) a b (suc j) here = ⊎_elim (λ before. inl before) (λ last. inr (ap suc last.0, last.1)) (at_end xs a b j here)

in_middle : {A : Type 0} (P : A → Type 0) (xs ys : List A) (x : A) → All P (xs ++ x ∷ ys) → P x
in_middle P [] ys x all = All-head P x ys all
in_middle P (z ∷ zs) ys x all = in_middle P zs ys x (All-tail P z (zs ++ x ∷ ys) all)

module _ {M : Type 0} where
  -- what holds of each pass and of what it knows
  abbrev Each : (ℕ → View M → Type 0) → List (View M) → Type 0
  Each F views = (pass : ℕ) (view : View M) → get_elem? views pass ≡ some view → F pass view

  each_set : (F : ℕ → View M → Type 0) (views : List (View M)) (pass : ℕ) (new : View M) → F pass new
      → ((other : ℕ) (view : View M) → other ≢ pass → get_elem? views other ≡ some view → F other view) → Each F (set views pass new)
  each_set F views pass new mine others other view here = ⊎_elim
      (λ (is : (other ≡ pass) × (new ≡ view)). subst (λ (y : ℕ × View M). F y.0 y.1) (λ i. (sym is.0 i, is.1 i)) mine)
      (λ (is : (other ≢ pass) × (get_elem? views other ≡ some view)). others other view is.0 is.1)
      (at_set views pass other new view here)

  -- what is told of each list that a view has
  kept : (made now : ℕ) (holder holder_now : ℕ → ℕ) (messages messages_now : List (ℕ × M)) (pass : ℕ)
      → ((list : ℕ × List M) → IsListOf made holder messages pass list → IsListOf now holder_now messages_now pass list)
      → (lists : List (ℕ × List M)) → All (IsListOf made holder messages pass) lists → All (IsListOf now holder_now messages_now pass) lists
  kept made now holder holder_now messages messages_now pass = All-weaker (IsListOf made holder messages pass) (IsListOf now holder_now messages_now pass)

  -- a pass other than the one that receives does not receive
  one_reads : (reader made now pass other : ℕ) (received received_now : List (ℕ × M)) (view : View M) → pass ≡ reader → other ≢ pass → Reads reader made received other view → Reads reader now received_now other view
  one_reads reader made now pass other received received_now (Sender view) is differs reads = tt
  one_reads reader made now pass other received received_now (Receiver view) is differs reads = absurd (differs (reads.0 ∙ sym is))
  one_reads reader made now pass other received received_now Spent is differs reads = tt

  -- a message joins at the end of all
  message_more : (s : ℕ) (received items : List (ℕ × M)) (message : ℕ × M) → message.0 ≡ s → from_sender s (received ++ (items ++ message ∷ [])) ≡ from_sender s (received ++ items) ++ message.1 ∷ []
  message_more s received items message is = ap (from_sender s) (sym (append_assoc received items (message ∷ []))) ∙ from_sender_more s (received ++ items) message is

  message_of_another : (s : ℕ) (received items : List (ℕ × M)) (message : ℕ × M) → message.0 ≢ s → from_sender s (received ++ (items ++ message ∷ [])) ≡ from_sender s (received ++ items)
  message_of_another s received items message differs = ap (from_sender s) (sym (append_assoc received items (message ∷ []))) ∙ from_sender_same s (received ++ items) message differs

  -- no message is of a number that was not given
  none_yet : (made : ℕ) (messages : List (ℕ × M)) → All (λ message. IsMade made message.0) messages → from_sender made messages ≡ []
  none_yet made [] numbered = refl
  none_yet made (message ∷ messages) numbered =
      let here : IsMade made message.0 = All-head (λ (m : ℕ × M). IsMade made m.0) message messages numbered in
      from_sender_there made message messages (λ is. omega (arith, is, here.1)) ∙ none_yet made messages (All-tail (λ (m : ℕ × M). IsMade made m.0) message messages numbered)

  front_of : (s : ℕ) (received items : List (ℕ × M)) (whole : List M) → whole ≡ from_sender s (received ++ items) → IsFront (from_sender s received) whole
  front_of s received items whole is =
      ap (take (length (from_sender s received))) (is ∙ from_sender-append s received items) ∙ take-append_seam (from_sender s received) (from_sender s items)

  pub begins : Delivers {M = M} [] (receiver 1 [] [] ∷ [])
  begins = record {
    made = 1;
    received = [];
    reader = 0;
    holder = λ _. 0;
    numbered = All-nil (λ message. IsMade 1 message.0);
    lists = first_lists;
    reads = first_reads;
  }
    where
      first_lists : (pass : ℕ) (view : View M) → get_elem? (receiver {M = M} 1 [] [] ∷ []) pass ≡ some view → All (IsListOf 1 (λ _. 0) [] pass) (lists_in view)
      first_lists zero view here = subst (λ (v : View M). All (IsListOf 1 (λ _. 0) [] 0) (lists_in v)) (some-injective (receiver {M = M} 1 [] []) view here) (All-nil (IsListOf 1 (λ _. 0) [] 0))
      first_lists (suc pass) view here = absurd (some-ne-none view (sym here))

      first_reads : (pass : ℕ) (view : View M) → get_elem? (receiver {M = M} 1 [] [] ∷ []) pass ≡ some view → Reads 0 1 [] pass view
      first_reads zero view here = subst (λ (v : View M). Reads 0 1 [] 0 v) (some-injective (receiver {M = M} 1 [] []) view here) (refl, refl, refl)
      first_reads (suc pass) view here = absurd (some-ne-none view (sym here))

  -- a sender pushes
  pub push_keeps : (n pass : ℕ) (view : View M) (message : ℕ × M) → 1 ≤ number_in view → message.0 ≡ number_in view → Pushes Delivers n pass view message (λ now. now ≡ sender (number_in view) (sent_in view ++ message.1 ∷ []))
  push_keeps n pass (Receiver v) message some_number from items views few rule here = absurd (omega (arith, some_number))
  push_keeps n pass Spent message some_number from items views few rule here = absurd (omega (arith, some_number))
  push_keeps n pass (Sender v) message some_number from items views few rule here =
      let new : View M = sender v.number (v.sent ++ message.1 ∷ []) in
      let messages = rule.received ++ items in
      let now = rule.received ++ (items ++ message ∷ []) in
      let mine = All-head (IsListOf rule.made rule.holder messages pass) (v.number, v.sent) [] (rule.lists pass (Sender v) here) in (
        new,
        record {
          made = rule.made;
          received = rule.received;
          reader = rule.reader;
          holder = rule.holder;
          numbered = All-same (λ m. IsMade rule.made m.0) now (messages ++ message ∷ []) (sym (append_assoc rule.received items (message ∷ [])))
              (All-push (λ m. IsMade rule.made m.0) messages message rule.numbered (subst (IsMade rule.made) (sym from) mine.is_made));
          lists = each_set (λ p u. All (IsListOf rule.made rule.holder now p) (lists_in u)) views pass new
              (All-cons (IsListOf rule.made rule.holder now pass) (v.number, v.sent ++ message.1 ∷ []) []
              (record { is_made = mine.is_made; held = mine.held; is_whole = ap (λ l. l ++ message.1 ∷ []) mine.is_whole ∙ sym (message_more v.number rule.received items message from) })
              (All-nil (IsListOf rule.made rule.holder now pass)))
              (λ other u differs at. kept rule.made rule.made rule.holder rule.holder messages now other
              (λ list is. record {
                is_made = is.is_made;
                held = is.held;
                is_whole = is.is_whole ∙ sym (message_of_another list.0 rule.received items message (λ same. differs (sym is.held ∙ ap rule.holder (sym same ∙ from) ∙ mine.held)));
              }) (lists_in u) (rule.lists other u at));
          reads = each_set (Reads rule.reader rule.made rule.received) views pass new tt (λ other u differs at. rule.reads other u at);
        },
        refl,
      )

  -- the receiver pops
  pub pop_keeps : (pass : ℕ) (view : View M) → 1 ≤ made_in view → Pops Delivers pass view (Popped view)
  pop_keeps pass (Sender v) receives message items views rule here = absurd (omega (arith, receives))
  pop_keeps pass Spent receives message items views rule here = absurd (omega (arith, receives))
  pop_keeps pass (Receiver v) receives message items views rule here =
      let new : View M = receiver v.made (v.received ++ message ∷ []) v.ended in
      let received = rule.received ++ message ∷ [] in
      let same : received ++ items ≡ rule.received ++ message ∷ items = append_assoc rule.received (message ∷ []) items in
      let reads = rule.reads pass (Receiver v) here in
      let lists = rule.lists pass (Receiver v) here in (
        new,
        record {
          made = rule.made;
          received = received;
          reader = rule.reader;
          holder = rule.holder;
          numbered = All-same (λ m. IsMade rule.made m.0) (received ++ items) (rule.received ++ message ∷ items) same rule.numbered;
          lists = each_set (λ p u. All (IsListOf rule.made rule.holder (received ++ items) p) (lists_in u)) views pass new
              (subst (λ l. All (IsListOf rule.made rule.holder l pass) v.ended) (sym same) lists)
              (λ other u differs at. subst (λ l. All (IsListOf rule.made rule.holder l other) (lists_in u)) (sym same) (rule.lists other u at));
          reads = each_set (Reads rule.reader rule.made received) views pass new (reads.0, reads.1, ap (λ l. l ++ message ∷ []) reads.2)
              (λ other u differs at. one_reads rule.reader rule.made rule.made pass other rule.received received u reads.0 differs (rule.reads other u at));
        },
        (
          refl,
          subst (λ n. IsMade n message.0) (sym reads.1) (in_middle (λ m. IsMade rule.made m.0) rule.received items message rule.numbered),
          All-weaker (IsListOf rule.made rule.holder (rule.received ++ message ∷ items) pass) (λ list. IsFront (from_sender list.0 (v.received ++ message ∷ [])) list.1)
              (λ list is. front_of list.0 (v.received ++ message ∷ []) items list.1 (is.is_whole ∙ ap (from_sender list.0) (sym same ∙ ap (λ l. (l ++ message ∷ []) ++ items) (sym reads.2)))) v.ended lists,
        ),
      )

  -- it finds the queue empty, or looks at it: what each ended sender sent is what was received of it, and then what the queue holds of it
  pub empty_pop_tells : (pass : ℕ) (view : View M) → 1 ≤ made_in view → Learns Delivers pass view (AreWhole view)
  empty_pop_tells pass (Sender v) receives items views rule here = absurd (omega (arith, receives))
  empty_pop_tells pass Spent receives items views rule here = absurd (omega (arith, receives))
  empty_pop_tells pass (Receiver v) receives items views rule here =
      let reads = rule.reads pass (Receiver v) here in
      All-weaker (IsListOf rule.made rule.holder (rule.received ++ items) pass) (λ list. list.1 ≡ from_sender list.0 (v.received ++ items))
      (λ list is. is.is_whole ∙ ap (λ l. from_sender list.0 (l ++ items)) (sym reads.2)) v.ended (rule.lists pass (Receiver v) here)

  -- it looks at the queue: what was received of each ended sender is the front of what it sent
  pub look_tells : (pass : ℕ) (view : View M) → 1 ≤ made_in view → Learns Delivers pass view (λ _. AreFronts view)
  look_tells pass view receives items views rule here =
      All-weaker (λ list. list.1 ≡ from_sender list.0 (received_in view ++ items)) (λ list. IsFront (from_sender list.0 (received_in view)) list.1)
      (λ list. front_of list.0 (received_in view) items list.1) (ended_in view) (empty_pop_tells pass view receives items views rule here)

  -- the receiver makes a sender
  pub split_keeps : (pass : ℕ) (view : View M) → 1 ≤ made_in view → Forks Delivers pass view (receiver (made_in view + 1) (received_in view) (ended_in view)) (sender (made_in view) [])
  split_keeps pass (Sender v) receives items views rule here = absurd (omega (arith, receives))
  split_keeps pass Spent receives items views rule here = absurd (omega (arith, receives))
  split_keeps pass (Receiver v) receives items views rule here =
      let left : View M = receiver (v.made + 1) v.received v.ended in
      let right : View M = sender v.made [] in
      let messages = rule.received ++ items in
      let reads = rule.reads pass (Receiver v) here in
      let before : List (View M) = set views pass left in
      let holder = moved rule.holder v.made (length before) in
      let more : (p : ℕ) (list : ℕ × List M) → IsListOf rule.made rule.holder messages p list → IsListOf (rule.made + 1) holder messages p list =
      λ p list is. record {
        is_made = (is.is_made.0, omega (arith, is.is_made.1));
        held = moved_there rule.holder v.made (length before) list.0 (λ same. omega (arith, same, is.is_made.1, reads.1)) ∙ is.held;
        is_whole = is.is_whole;
      } in
      let Listed : ℕ → View M → Type 0 = λ p u. All (IsListOf (rule.made + 1) holder messages p) (lists_in u) in
      let listed : Each Listed before = each_set Listed views pass left
      (kept rule.made (rule.made + 1) rule.holder holder messages messages pass (more pass) v.ended (rule.lists pass (Receiver v) here))
      (λ other u differs at. kept rule.made (rule.made + 1) rule.holder holder messages messages other (more other) (lists_in u) (rule.lists other u at)) in
      let new : Listed (length before) right = All-cons (IsListOf (rule.made + 1) holder messages (length before)) (v.made, []) []
      (record {
        is_made = (receives, omega (arith, reads.1));
        held = moved_here rule.holder v.made (length before);
        is_whole = sym (ap (λ n. from_sender n messages) reads.1 ∙ none_yet rule.made messages rule.numbered);
      }) (All-nil (IsListOf (rule.made + 1) holder messages (length before))) in
      let read : Each (Reads rule.reader (rule.made + 1) rule.received) before = each_set (Reads rule.reader (rule.made + 1) rule.received) views pass left
      (reads.0, ap (λ n. n + 1) reads.1, reads.2)
      (λ other u differs at. one_reads rule.reader rule.made (rule.made + 1) pass other rule.received rule.received u reads.0 differs (rule.reads other u at)) in record {
        made = rule.made + 1;
        received = rule.received;
        reader = rule.reader;
        holder = holder;
        numbered = All-weaker (λ m. IsMade rule.made m.0) (λ m. IsMade (rule.made + 1) m.0) (λ m is. (is.0, omega (arith, is.1))) messages rule.numbered;
        lists = λ p u at. ⊎_elim (λ there. listed p u there) (λ (is : (p ≡ length before) × (right ≡ u)). subst (λ (y : ℕ × View M). Listed y.0 y.1) (λ i. (sym is.0 i, is.1 i)) new) (at_end before right u p at);
        reads = λ p u at. ⊎_elim (λ there. read p u there) (λ (is : (p ≡ length before) × (right ≡ u)). subst (λ (w : View M). Reads rule.reader (rule.made + 1) rule.received p w) is.1 tt) (at_end before right u p at);
      }

  -- the receiver takes in a sender that has ended
  pub join_keeps : (pass : ℕ) (view : View M) (other : ℕ) (ended : View M) → 1 ≤ made_in view → 1 ≤ number_in ended
      → Merges Delivers pass view other ended (receiver (made_in view) (received_in view) ((number_in ended, sent_in ended) ∷ ended_in view)) Spent
  join_keeps pass (Sender v) other ended receives sends items views rule here differs there = absurd (omega (arith, receives))
  join_keeps pass Spent other ended receives sends items views rule here differs there = absurd (omega (arith, receives))
  join_keeps pass (Receiver v) other (Receiver u) receives sends items views rule here differs there = absurd (omega (arith, sends))
  join_keeps pass (Receiver v) other Spent receives sends items views rule here differs there = absurd (omega (arith, sends))
  join_keeps pass (Receiver v) other (Sender u) receives sends items views rule here differs there =
      let both : View M = receiver v.made v.received ((u.number, u.sent) ∷ v.ended) in
      let messages = rule.received ++ items in
      let reads = rule.reads pass (Receiver v) here in
      let was : get_elem? views other ≡ some (Sender u) = ⊎_elim (λ same. absurd (differs same.0)) (λ before. before.1) (at_set views pass other both (Sender u) there) in
      let theirs = All-head (IsListOf rule.made rule.holder messages other) (u.number, u.sent) [] (rule.lists other (Sender u) was) in
      let holder = moved rule.holder u.number pass in
      let Listed : ℕ → View M → Type 0 = λ p w. All (IsListOf rule.made holder messages p) (lists_in w) in
      let listed : Each (λ p w. p ≢ other → Listed p w) (set views pass both) = each_set (λ p w. p ≢ other → Listed p w) views pass both
      (λ _. All-cons (IsListOf rule.made holder messages pass) (u.number, u.sent) v.ended
      (record { is_made = theirs.is_made; held = moved_here rule.holder u.number pass; is_whole = theirs.is_whole })
      (kept rule.made rule.made rule.holder holder messages messages pass
      (λ list is. record { is_made = is.is_made; held = moved_to_same rule.holder u.number pass list.0 is.held; is_whole = is.is_whole }) v.ended (rule.lists pass (Receiver v) here)))
      (λ p w _ at apart. kept rule.made rule.made rule.holder holder messages messages p
      (λ list is. record {
        is_made = is.is_made;
        held = moved_there rule.holder u.number pass list.0 (λ same. apart (sym is.held ∙ ap rule.holder same ∙ theirs.held)) ∙ is.held;
        is_whole = is.is_whole;
      }) (lists_in w) (rule.lists p w at)) in
      let read : Each (Reads rule.reader rule.made rule.received) (set views pass both) = each_set (Reads rule.reader rule.made rule.received) views pass both reads (λ p w _ at. rule.reads p w at) in record {
        made = rule.made;
        received = rule.received;
        reader = rule.reader;
        holder = holder;
        numbered = rule.numbered;
        lists = each_set Listed (set views pass both) other Spent (All-nil (IsListOf rule.made holder messages other)) (λ p w apart at. listed p w at apart);
        reads = each_set (Reads rule.reader rule.made rule.received) (set views pass both) other Spent tt (λ p w _ at. read p w at);
      }
