-- Each changed report is refused by one condition.
use Rattle.std.specs.Prelude.{◌≡◌, ℕ, ◌<◌, ◌≤◌, true, false, codes, Contains, List, [], ◌∷◌, Some, None, slice_index_or}
use Rattle.std.proofs.Common.{refl, sym, ap, subst, inl, inr, arith, lit<}
use Rattle.std.proofs.lemmas.List.Elements.{recursion_from_All}
use Rattle.lattice_laws.proofs.MembersLemmas.{contains_none, contains_cases}
use Rattle.clock_lattice.specs.Clock.{count_of}
use Rattle.composed_value.specs.declared.kind.Kind.TheVariants as kinds
use Rattle.composed_value.specs.declared.put.Put.{Put}
use Rattle.version_antichain.specs.declared.version.Version.{Version}
use Rattle.composed_value.specs.declared.value.Value.TheVariants as values
use Rattle.placement.specs.Asked.{replicas_of}
use Rattle.composed_value.specs.Keyed.{puts_on}
use Rattle.session_known.specs.Accepted.{accepted}
use Rattle.session_known.specs.Lawful.{last_lamport}
use Rattle.worked_reports.specs.Worked.{first_script, first_report, first_final, causal_final_b, versions_final}
use Rattle.worked_reports.proofs.LegalLemmas.{below_differs}
use Rattle.session_known.specs.declared.script.Level.TheVariants.{Eventual, Committed}
use Rattle.session_known.specs.declared.script.Line.TheVariants as lines
use Rattle.worked_reports.specs.Changed.{FirstRefuses, HomeRefuses, AwayRefuses, CommitRefuses, PlainRefuses, CausalRefuses, KeysRefuses, VersionsRefuses, ApartRefuses, IsValidNowhere, put_numbered_zero, put_at_a_later_lamport, get_by_another_worker, get_of_a_later_put, get_of_a_later_put_away, get_below_an_earlier_one, get_of_too_few_at_home, await_of_too_few, value_of_fewer_puts, top_of_fewer_puts, clock_of_more_than_accepted, needs_of_fewer, final_of_fewer_puts, held_in_an_eventual_session, answer_of_another_line, needs_in_an_eventual_session, value_of_another_kind, finals_in_another_order, answers_too_few, commit_of_too_few, abort_of_too_few, worn_while_numbers_are_left, put_in_a_transaction, commit_at_a_later_lamport, end_after_too_few_asks, end_with_the_awaited, entry_of_no_puts, get_by_another_than_the_named, await_by_no_replica, end_by_another_than_the_last, held_outside_a_transaction, causal_reply_without_needs, version_of_its_own_put_alone, end_of_more_than_accepted, end_below_an_earlier_one, end_of_too_few_at_home, worn_commit_with_numbers_left, worn_commit_of_nothing, commit_of_nothing_at_a_lamport, stray_script, HandedRefuses, successor_at_the_first_lamport, successor_that_counts_on, successor_that_is_shown_less}

pub put_numbered_zero_is_refused : FirstRefuses put_numbered_zero
put_numbered_zero_is_refused legal = let wrong : 0 ≡ 1 = legal.answers.0.0.number_is in omega (arith, wrong)

pub put_at_a_later_lamport_is_refused : FirstRefuses put_at_a_later_lamport
put_at_a_later_lamport_is_refused legal = let wrong : 3 ≡ 2 = legal.answers.0.1.0.lamport_is in omega (arith, wrong)

pub get_by_another_worker_is_refused : HomeRefuses get_by_another_worker
get_by_another_worker_is_refused legal = let wrong : 1 ≡ 2 = legal.answers.0.1.0.worker_is in omega (arith, wrong)

pub get_of_a_later_put_is_refused : HomeRefuses get_of_a_later_put
get_of_a_later_put_is_refused legal = let wrong : 2 ≤ 1 = legal.answers.0.1.0.no_later_put in omega (arith, wrong)

pub get_of_a_later_put_away_is_refused : AwayRefuses get_of_a_later_put_away
get_of_a_later_put_away_is_refused legal = let wrong : 2 ≤ 1 = legal.answers.0.1.0.no_later_put in omega (arith, wrong)

pub get_below_an_earlier_one_is_refused : AwayRefuses get_below_an_earlier_one
get_below_an_earlier_one_is_refused legal = let wrong : false ≡ true = legal.answers.0.1.1.1.0.clock_is.covers_earlier 0 [] (lit< tt) in (cc)

pub get_of_too_few_at_home_is_refused : HomeRefuses get_of_too_few_at_home
get_of_too_few_at_home_is_refused legal = let wrong : 1 ≡ 2 = legal.answers.0.1.1.1.0.clock_is.own_at_home refl in omega (arith, wrong)

pub await_of_too_few_is_refused : CausalRefuses await_of_too_few
await_of_too_few_is_refused legal = let wrong : false ≡ true = legal.answers.1.0.0.covers_required in (cc)

pub value_of_fewer_puts_is_refused : FirstRefuses value_of_fewer_puts
value_of_fewer_puts_is_refused legal = let wrong : 5 ≤ 3 = legal.true_of_puts.0.1.1.0.sound.value_is.1 5 (0, lit< tt, refl) in omega (arith, wrong)

pub top_of_fewer_puts_is_refused : FirstRefuses top_of_fewer_puts
top_of_fewer_puts_is_refused legal = let wrong : 2 ≤ 1 = legal.true_of_puts.0.1.1.0.sound.top_is.0 2 (1, lit< tt, refl) in omega (arith, wrong)

pub clock_of_more_than_accepted_is_refused : FirstRefuses clock_of_more_than_accepted
clock_of_more_than_accepted_is_refused legal = let wrong : 3 ≤ 2 = (legal.finals 0 first_final (lit< tt)).sound.counts 1 in omega (arith, wrong)

pub needs_of_fewer_are_refused : CausalRefuses needs_of_fewer
needs_of_fewer_are_refused legal = let wrong : 1 ≤ 0 = (legal.true_of_puts.0.1.0.needs 1 1).0 1 (0, lit< tt, refl) in omega (arith, wrong)

pub final_of_fewer_puts_is_refused : FirstRefuses final_of_fewer_puts
final_of_fewer_puts_is_refused legal =
    let each = recursion_from_All (λ (put : Put). put.number ≤ count_of put.session ((1, 1) ∷ [])) (puts_on 1 (accepted first_script first_report)) (legal.finals 0 first_final (lit< tt)).counts_all in
    let wrong : 2 ≤ 1 = each.1.0 in
    omega (arith, wrong)

pub held_in_an_eventual_session_is_refused : FirstRefuses held_in_an_eventual_session
held_in_an_eventual_session_is_refused legal = let wrong : Eventual ≡ Committed = legal.form.answers.0.0 in (cc)

pub answer_of_another_line_is_refused : FirstRefuses answer_of_another_line
answer_of_another_line_is_refused legal = legal.form.answers.0.0

pub needs_in_an_eventual_session_are_refused : FirstRefuses needs_in_an_eventual_session
needs_in_an_eventual_session_are_refused legal = legal.form.answers.0.1.1.0.needs_are

pub value_of_another_kind_is_refused : FirstRefuses value_of_another_kind
value_of_another_kind_is_refused legal = let wrong : kinds.Or ≡ kinds.Max = (legal.form.finals 0 first_final (lit< tt)).value_is.of_kind in (cc)

pub finals_in_another_order_are_refused : HomeRefuses finals_in_another_order
finals_in_another_order_are_refused legal = let wrong : 2 ≡ 1 = ap (λ (places : List (ℕ × ℕ)). (slice_index_or places 0 (0, 0)).1) legal.form.places in omega (arith, wrong)

pub answers_too_few_are_refused : FirstRefuses answers_too_few
answers_too_few_are_refused legal = legal.form.answers.0.1.1

pub commit_of_too_few_is_refused : CommitRefuses commit_of_too_few
commit_of_too_few_is_refused legal = let wrong : 1 ≡ 2 = legal.answers.0.1.1.1.1.1.1.1.0.puts_are in omega (arith, wrong)

pub abort_of_too_few_is_refused : CommitRefuses abort_of_too_few
abort_of_too_few_is_refused legal = let wrong : 1 ≡ 2 = legal.answers.0.1.1.1.0.1 in omega (arith, wrong)

pub worn_while_numbers_are_left_is_refused : FirstRefuses worn_while_numbers_are_left
worn_while_numbers_are_left_is_refused legal = below_differs 0 last_lamport (lit< tt) legal.answers.0.0.1

pub put_in_a_transaction_is_refused : CommitRefuses put_in_a_transaction
put_in_a_transaction_is_refused legal = let wrong : Some [] ≡ None = legal.answers.0.1.0.not_begun in (cc)

pub commit_at_a_later_lamport_is_refused : CommitRefuses commit_at_a_later_lamport
commit_at_a_later_lamport_is_refused legal = let wrong : 2 ≡ 1 = legal.answers.0.1.1.1.1.1.1.1.0.lamport_is in omega (arith, wrong)

pub end_after_too_few_asks_is_refused : CausalRefuses end_after_too_few_asks
end_after_too_few_asks_is_refused legal = let wrong : 7 ≡ 8 = legal.answers.0.1.0.asks_are in omega (arith, wrong)

pub end_with_the_awaited_is_refused : CausalRefuses end_with_the_awaited
end_with_the_awaited_is_refused legal = let wrong : true ≡ false = legal.answers.0.1.0.lacks_required in (cc)

pub entry_of_no_puts_is_refused : CausalRefuses entry_of_no_puts
entry_of_no_puts_is_refused legal = let wrong : 0 < 0 = ((legal.form.finals 1 causal_final_b (lit< tt)).clock_is.is_clock.are_entries 0 (1, 0) (lit< tt)).1.0 in omega (arith, wrong)

pub get_by_another_than_the_named_is_refused : AwayRefuses get_by_another_than_the_named
get_by_another_than_the_named_is_refused legal = let wrong : 2 ≡ 1 = legal.answers.0.1.0.worker_is in omega (arith, wrong)

pub await_by_no_replica_is_refused : CausalRefuses await_by_no_replica
await_by_no_replica_is_refused legal = elim (contains_cases 1 2 [] legal.answers.1.0.0.worker_is) [ inl wrong ↦ omega (arith, wrong) | inr has_it ↦ contains_none 2 has_it ]

pub end_by_another_than_the_last_is_refused : CausalRefuses end_by_another_than_the_last
end_by_another_than_the_last_is_refused legal = let wrong : 1 ≡ 2 = legal.answers.0.1.0.worker_is in omega (arith, wrong)

pub held_outside_a_transaction_is_refused : PlainRefuses held_outside_a_transaction
held_outside_a_transaction_is_refused legal = let wrong : false ≡ true = legal.answers.0.0 in (cc)

pub causal_reply_without_needs_is_refused : CausalRefuses causal_reply_without_needs
causal_reply_without_needs_is_refused legal = legal.form.answers.0.1.0.needs_are

pub version_of_its_own_put_alone_is_refused : VersionsRefuses version_of_its_own_put_alone
version_of_its_own_put_alone_is_refused legal =
    let alone : Version = record { clock = (2, 1) ∷ []; word = codes "y" } in
    let x : Version = record { clock = (1, 1) ∷ []; word = codes "x" } in
    let y : Version = record { clock = (1, 1) ∷ (2, 1) ∷ []; word = codes "y" } in
    let sound = (legal.finals 0 (record versions_final { value = values.Versions (x ∷ alone ∷ []) }) (lit< tt)).sound in
    let put : Contains (x ∷ y ∷ []) alone = ((sound.value_is.1 alone).0 refl).0 in
    let first_session = λ (version : Version). (slice_index_or version.clock 0 (0, 0)).0 in
    elim (contains_cases x alone (y ∷ []) put) [
      | inl same ↦ let wrong : 1 ≡ 2 = ap first_session same in omega (arith, wrong)
      | inr later ↦ elim (contains_cases y alone [] later) [
        | inl same ↦ let wrong : 1 ≡ 2 = ap first_session same in omega (arith, wrong)
        | inr none ↦ contains_none alone none
      ]
    ]

pub end_of_more_than_accepted_is_refused : ApartRefuses end_of_more_than_accepted
end_of_more_than_accepted_is_refused legal = let wrong : 2 ≤ 1 = legal.true_of_puts.1.0.1.1.1.0 1 in omega (arith, wrong)

pub end_below_an_earlier_one_is_refused : ApartRefuses end_below_an_earlier_one
end_below_an_earlier_one_is_refused legal = let wrong : false ≡ true = legal.answers.1.0.1.1.1.0.clock_is.covers_earlier 0 [] (lit< tt) in (cc)

pub end_of_too_few_at_home_is_refused : ApartRefuses end_of_too_few_at_home
end_of_too_few_at_home_is_refused legal = let wrong : 0 ≡ 1 = legal.answers.0.1.1.0.clock_is.own_at_home refl in omega (arith, wrong)

pub worn_commit_with_numbers_left_is_refused : CommitRefuses worn_commit_with_numbers_left
worn_commit_with_numbers_left_is_refused legal = below_differs 0 last_lamport (lit< tt) legal.answers.0.1.1.1.1.1.1.1.0.1

pub worn_commit_of_nothing_is_refused : KeysRefuses worn_commit_of_nothing
worn_commit_of_nothing_is_refused legal = below_differs 1 last_lamport (lit< tt) legal.answers.0.1.1.1.1.0.1

pub commit_of_nothing_at_a_lamport_is_refused : KeysRefuses commit_of_nothing_at_a_lamport
commit_of_nothing_at_a_lamport_is_refused legal = let wrong : 2 ≡ 0 = legal.answers.0.1.1.1.1.0.lamport_is in omega (arith, wrong)

pub stray_script_is_refused : IsValidNowhere stray_script
stray_script_is_refused table valid =
    let stands = (valid.sessions 0 (record { name = codes "s"; level = Eventual; after = None; lines = lines.Get 2 (Some 1) ∷ [] }) (lit< tt)).lines 0 lines.Begin (lit< tt) in
    let has_it : Contains (2 ∷ []) 1 = subst (λ (at : List (List ℕ)). Contains (replicas_of at 2) 1) valid.placed.replicas stands.1 in
    elim (contains_cases 2 1 [] has_it) [ inl is ↦ below_differs 1 2 (lit< tt) (sym is) | inr others ↦ contains_none 1 others ]

pub successor_at_the_first_lamport_is_refused : HandedRefuses successor_at_the_first_lamport
successor_at_the_first_lamport_is_refused legal = let wrong : 1 ≡ 2 = legal.answers.1.0.0.lamport_is in omega (arith, wrong)

pub successor_that_counts_on_is_refused : HandedRefuses successor_that_counts_on
successor_that_counts_on_is_refused legal = let wrong : 2 ≡ 1 = legal.answers.1.0.0.number_is in omega (arith, wrong)

pub successor_that_is_shown_less_is_refused : HandedRefuses successor_that_is_shown_less
successor_that_is_shown_less_is_refused legal = let wrong : false ≡ true = legal.answers.1.0.1.0.covers_required in (cc)
