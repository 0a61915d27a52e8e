-- The open line of a session asks, or makes puts alone; and of its asks all were replied to, but one where a reply is awaited.
use Rattle.std.specs.Prelude.{◌≡◌, ◌⊎◌, ℕ, ◌+◌, Bool, true, false, if◌then◌else◌, List, [], All, length, option_map, slice_get, unwrap_or, Option, Some, None, IfSome}
use Rattle.std.proofs.Common.{◌∙◌, refl, sym, ap, subst, inl, inr, true≢false}
use Rattle.std.proofs.lemmas.List.Elements.{All-map, All-nil}
use Rattle.std.proofs.lemmas.Option.{get_or_from_slice_get, none-some, slice_get_within}
use Rattle.composed_value.specs.declared.put.Put.{Put}
use Rattle.placement.specs.Asked.{home_at}
use Rattle.session_known.specs.Requests.{Sent, SentAsk, SentPut, puts_sent}
use Rattle.session_known.specs.Session.{Client, puts_by}
use Rattle.session_known.specs.declared.script.Line.{Line}
use Rattle.session_known.specs.declared.script.Line.TheVariants as lines
use Rattle.session_proxy.proofs.KeepsLemmas.{open_most_is}
use Rattle.session_proxy.proofs.PutsLemmas.{most_of_puts}
use Rattle.session_proxy.specs.Lines.{answer_at, most_sent}
use Rattle.session_proxy.specs.Polls.{is_ask}
use Rattle.session_proxy.specs.Share.{IsAsked, Share, lacks, open_most}
use Rattle.session_proxy.specs.State.{Course, Lists, open_line, state_now}

-- requests none of which is an ask
abbrev pub ArePuts : List (ℕ × Sent) → Type 0
ArePuts sent = All (λ one. is_ask one.1 ≡ false) sent

-- those of puts are
pub puts_are : (table : List (List ℕ)) (client : Client) (made : List (ℕ × Put)) → ArePuts (puts_sent table client made)
puts_are table client made =
    All-map (λ (one : ℕ × Sent). is_ask one.1 ≡ false) (λ (entry : ℕ × Put). (home_at table client.session entry.0, SentPut entry.0 entry.1)) made (λ k d low. refl)

-- The open line asks.
pub record Asks (course : Course) : Type 0 where
  pub line : Line
  pub at : open_line course ≡ Some line
  pub asked : IsAsked line

-- It asks, or makes puts alone.
line_asks : (course : Course) (line : Line) → open_line course ≡ Some line → Asks course ⊎ ArePuts (open_most course)
line_asks course (lines.Get key named) at = inl (record { line = lines.Get key named; at = at; asked = tt })
line_asks course (lines.Await key session count) at = inl (record { line = lines.Await key session count; at = at; asked = tt })
line_asks course line at =
    inr (subst ArePuts (sym (open_most_is course line at ∙ most_of_puts course.table course.client (state_now course) (course.asks + 1) line (λ asked. asked)))
    (puts_are course.table course.client (puts_by course.client (state_now course) line (answer_at (state_now course) line))))

-- where none is open, there are no requests of one
pub asks_or_puts : (course : Course) → Asks course ⊎ ArePuts (open_most course)
asks_or_puts course = by_line (open_line course) refl
  where
    by_line : (option : Option Line) → open_line course ≡ option → Asks course ⊎ ArePuts (open_most course)
    by_line (Some line) at = line_asks course line at
    by_line None none =
        inr (subst ArePuts (sym (ap (λ option. unwrap_or (option_map (most_sent course.table course.client (state_now course) (course.asks + 1)) option) []) none))
        (All-nil (λ (one : ℕ × Sent). is_ask one.1 ≡ false)))

-- so a line that sends an ask is one that asks
pub asks_it : (course : Course) (place worker ask key : ℕ) (required : List (ℕ × ℕ)) → slice_get (open_most course) place ≡ Some (worker, SentAsk ask key required) → Asks course
asks_it course place worker ask key required there = elim (asks_or_puts course) [
  | inl asks ↦ asks
  | inr puts ↦
      let one : ℕ × Sent = (worker, SentAsk ask key required) in
      let is = get_or_from_slice_get (open_most course) place one one there in
      absurd (true≢false (sym (ap (λ (one : ℕ × Sent). is_ask one.1) is) ∙ puts place one (slice_get_within (open_most course) place one there)))
]

-- of its asks all were replied to, but one where a reply is awaited
pub out_is : (its : Lists) (share : Share its) → Asks its.course → length share.lacking + lacks its.course.waits ≡ its.course.out
out_is its share asks =
    subst (λ option. IfSome option (λ line. IsAsked line → length share.lacking + lacks its.course.waits ≡ its.course.out)) asks.at share.lacking_are.out asks.asked

-- where an ask is awaited, the session waits, and the ask stands where it is looked for
pub awaited_at : (waits : Bool) (option : Option (ℕ × Sent)) (ask : ℕ × Sent) → (if waits then option else None) ≡ Some ask → (waits ≡ true) × (option ≡ Some ask)
awaited_at true option ask is = (refl, is)
awaited_at false option ask is = absurd (none-some ask is)
