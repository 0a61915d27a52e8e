-- Reports that differ from the worked ones in one thing each.
use Rattle.std.specs.Prelude.{true, ℕ, List, [], ◌∷◌, Some, None, codes}
use Rattle.lattice_laws.specs.declared.maybe.Maybe.TheVariants.{Is, Bottom}
use Rattle.composed_value.specs.declared.payload.Payload.TheVariants as payloads
use Rattle.composed_value.specs.declared.value.Value.TheVariants as values
use Rattle.worked_reports.specs.Worked.{first_script, first_table, first_report, first_cell, first_final, home_script, home_table, home_report, home_cell_one, home_cell_both, home_final, commit_script, commit_table, commit_report, red, commit_cell, commit_final_a, commit_final_l, causal_script, causal_table, causal_report, causal_cell_a, causal_cell_b, causal_final_a, causal_final_b, keys_script, keys_report, keys_cell_a, keys_cell_l, keys_final_l, versions_script, versions_report, versions_final, version_x, apart_script, apart_table, apart_report, apart_cell_b, handed_script, handed_report, handed_cell, handed_final}
use Rattle.session_known.specs.declared.report.Answer.TheVariants as answers
use Rattle.session_known.specs.declared.report.Report.{Report}
use Rattle.session_known.specs.declared.script.Level.TheVariants.{Eventual, Committed}
use Rattle.session_known.specs.declared.script.Line.TheVariants as lines
use Rattle.session_known.specs.Legal.{IsLegalAt}
use Rattle.session_known.specs.Script.{IsValidScript}
use Rattle.session_known.specs.declared.script.Script.{Script}

-- The report is not legal of the worked script, where the script's keys live.
abbrev pub FirstRefuses : Report → Type 0
FirstRefuses report = IsLegalAt first_table first_script report → ⊥

abbrev pub HomeRefuses : Report → Type 0
HomeRefuses report = IsLegalAt home_table home_script report → ⊥

abbrev pub CommitRefuses : Report → Type 0
CommitRefuses report = IsLegalAt commit_table commit_script report → ⊥

abbrev pub CausalRefuses : Report → Type 0
CausalRefuses report = IsLegalAt causal_table causal_script report → ⊥

abbrev pub KeysRefuses : Report → Type 0
KeysRefuses report = IsLegalAt commit_table keys_script report → ⊥

abbrev pub VersionsRefuses : Report → Type 0
VersionsRefuses report = IsLegalAt first_table versions_script report → ⊥

abbrev pub ApartRefuses : Report → Type 0
ApartRefuses report = IsLegalAt apart_table apart_script report → ⊥

abbrev pub HandedRefuses : Report → Type 0
HandedRefuses report = IsLegalAt first_table handed_script report → ⊥

-- The puts have the numbers 0 and 1, and the clocks count one.
abbrev pub put_numbered_zero : Report
put_numbered_zero = record {
  answers = (answers.Put 0 1 ∷ answers.Put 1 2 ∷ answers.Got 1 (record first_cell { clock = (1, 1) ∷ [] }) ∷ []) ∷ [];
  finals = record first_final { clock = (1, 1) ∷ [] } ∷ [];
}

-- The second put stands at 3, after one at 1.
abbrev pub put_at_a_later_lamport : Report
put_at_a_later_lamport = record {
  answers = (answers.Put 1 1 ∷ answers.Put 2 3 ∷ answers.Got 1 (record first_cell { top = 3 }) ∷ []) ∷ [];
  finals = record first_final { top = 3 } ∷ [];
}

-- The first get is answered by worker 1, where the session's home is worker 2.
abbrev pub get_by_another_worker : Report
get_by_another_worker = record home_report { answers = (answers.Put 1 1 ∷ answers.Got 1 home_cell_one ∷ answers.Put 2 2 ∷ answers.Got 2 home_cell_both ∷ []) ∷ [] }

-- The first get counts the put that its session makes after it.
abbrev pub get_of_a_later_put : Report
get_of_a_later_put = record home_report { answers = (answers.Put 1 1 ∷ answers.Got 2 home_cell_both ∷ answers.Put 2 2 ∷ answers.Got 2 home_cell_both ∷ []) ∷ [] }

-- The home script with its gets of worker 1, which is not the session's home.
--     put a x
--     get a @1
--     put a y
--     get a @1
abbrev pub away_script : Script
away_script = record home_script {
  sessions = record {
    name = codes "s";
    level = Eventual;
    after = None;
    lines = lines.Put 1 (payloads.Add (codes "x")) ∷ lines.Get 1 (Some 1) ∷ lines.Put 1 (payloads.Add (codes "y")) ∷ lines.Get 1 (Some 1) ∷ [];
  } ∷ [];
}

abbrev pub AwayRefuses : Report → Type 0
AwayRefuses report = IsLegalAt home_table away_script report → ⊥

-- There the first get, away from home, counts the put that its session makes after it.
abbrev pub get_of_a_later_put_away : Report
get_of_a_later_put_away = record home_report { answers = (answers.Put 1 1 ∷ answers.Got 1 home_cell_both ∷ answers.Put 2 2 ∷ answers.Got 1 home_cell_both ∷ []) ∷ [] }

-- There the second get is answered with the empty cell, by a worker that has shown a put before.
abbrev pub get_below_an_earlier_one : Report
get_below_an_earlier_one = record home_report {
  answers = (
      answers.Put 1 1 ∷ answers.Got 1 home_cell_one ∷ answers.Put 2 2
      ∷ answers.Got 1 (record { clock = []; top = 0; value = values.Set []; needs = None }) ∷ []) ∷ [];
}

-- The second get is answered at home, and counts one of the two puts made before it.
abbrev pub get_of_too_few_at_home : Report
get_of_too_few_at_home = record home_report { answers = (answers.Put 1 1 ∷ answers.Got 2 home_cell_one ∷ answers.Put 2 2 ∷ answers.Got 2 home_cell_one ∷ []) ∷ [] }

-- The await of one put of s on a is answered with the empty cell, and what follows is as it would be after that.
abbrev pub await_of_too_few : Report
await_of_too_few = record {
  answers =
      (answers.Put 1 1 ∷ answers.Got 2 (record causal_cell_b { top = 1; needs = Some [] }) ∷ answers.Put 2 2 ∷ [])
      ∷ (answers.Got 1 (record { clock = []; top = 0; value = values.Max Bottom; needs = Some [] }) ∷ answers.Put 1 1 ∷ []) ∷ [];
  finals = record causal_final_a { top = 2 } ∷ record causal_final_b { top = 1 } ∷ [];
}

-- The get shows 3, where the greatest of the counted puts is 5.
abbrev pub value_of_fewer_puts : Report
value_of_fewer_puts = record first_report { answers = (answers.Put 1 1 ∷ answers.Put 2 2 ∷ answers.Got 1 (record first_cell { value = values.Max (Is 3) }) ∷ []) ∷ [] }

-- The get shows top 1, where the second of the counted puts stands at 2.
abbrev pub top_of_fewer_puts : Report
top_of_fewer_puts = record first_report { answers = (answers.Put 1 1 ∷ answers.Put 2 2 ∷ answers.Got 1 (record first_cell { top = 1 }) ∷ []) ∷ [] }

-- The final cell counts three puts, where two were accepted.
abbrev pub clock_of_more_than_accepted : Report
clock_of_more_than_accepted = record first_report { finals = record first_final { clock = (1, 3) ∷ [] } ∷ [] }

-- The await of t's put shows no needs, where that put needs the first put of s.
abbrev pub needs_of_fewer : Report
needs_of_fewer = record causal_report {
  answers =
      (answers.Put 1 1 ∷ answers.Got 2 (record causal_cell_b { needs = Some [] }) ∷ answers.Put 2 3 ∷ [])
      ∷ (answers.Got 1 causal_cell_a ∷ answers.Put 1 2 ∷ []) ∷ [];
}

-- The final cell counts the first put alone.
abbrev pub final_of_fewer_puts : Report
final_of_fewer_puts = record first_report { finals = record first_final { clock = (1, 1) ∷ []; top = 1 } ∷ [] }

-- The first put of an eventual session is held.
abbrev pub held_in_an_eventual_session : Report
held_in_an_eventual_session = record first_report { answers = (answers.Held ∷ answers.Put 1 1 ∷ answers.Got 1 first_cell ∷ []) ∷ [] }

-- The first put has the answer of a begin.
abbrev pub answer_of_another_line : Report
answer_of_another_line = record first_report { answers = (answers.Begun ∷ answers.Put 2 2 ∷ answers.Got 1 first_cell ∷ []) ∷ [] }

-- The get of an eventual session shows needs.
abbrev pub needs_in_an_eventual_session : Report
needs_in_an_eventual_session = record first_report { answers = (answers.Put 1 1 ∷ answers.Put 2 2 ∷ answers.Got 1 (record first_cell { needs = Some [] }) ∷ []) ∷ [] }

-- The final cell of a key of kind max shows a flag.
abbrev pub value_of_another_kind : Report
value_of_another_kind = record first_report { finals = record first_final { value = values.Or true } ∷ [] }

-- The final cell of worker 2 stands before that of worker 1.
abbrev pub finals_in_another_order : Report
finals_in_another_order = record home_report { finals = home_final 2 ∷ home_final 1 ∷ [] }

-- The get has no answer.
abbrev pub answers_too_few : Report
answers_too_few = record first_report { answers = (answers.Put 1 1 ∷ answers.Put 2 2 ∷ []) ∷ [] }

-- The commit says one put, where two are held.
abbrev pub commit_of_too_few : Report
commit_of_too_few = record commit_report {
  answers = (
      answers.Begun ∷ answers.Held ∷ answers.Held ∷ answers.Aborted 2
      ∷ answers.Begun ∷ answers.Held ∷ answers.Held ∷ answers.Committed 1 1 ∷ answers.Got 1 commit_cell ∷ []) ∷ [];
}

-- The abort says one put, where two are held.
abbrev pub abort_of_too_few : Report
abort_of_too_few = record commit_report {
  answers = (
      answers.Begun ∷ answers.Held ∷ answers.Held ∷ answers.Aborted 1
      ∷ answers.Begun ∷ answers.Held ∷ answers.Held ∷ answers.Committed 2 1 ∷ answers.Got 1 commit_cell ∷ []) ∷ [];
}

-- The first put is answered as worn, while its session's Lamport number is 0.
abbrev pub worn_while_numbers_are_left : Report
worn_while_numbers_are_left = record {
  answers = (answers.Worn ∷ answers.Put 1 1 ∷ answers.Got 1 (record first_cell { clock = (1, 1) ∷ []; top = 1; value = values.Max (Is 3) }) ∷ []) ∷ [];
  finals = record first_final { clock = (1, 1) ∷ []; top = 1; value = values.Max (Is 3) } ∷ [];
}

-- The first put of a transaction is accepted at once.
abbrev pub put_in_a_transaction : Report
put_in_a_transaction = record {
  answers = (
      answers.Begun ∷ answers.Put 1 1 ∷ answers.Held ∷ answers.Aborted 1
      ∷ answers.Begun ∷ answers.Held ∷ answers.Held ∷ answers.Committed 2 2 ∷ answers.Got 1 (record commit_cell { top = 2; value = values.Last (Is (record red { number = 2 })) }) ∷ []) ∷ [];
  finals = record commit_final_a { clock = (1, 2) ∷ []; top = 2 } ∷ record commit_final_l { top = 2; value = values.Last (Is (record red { number = 2 })) } ∷ [];
}

-- The commit stands at 2, after no put.
abbrev pub commit_at_a_later_lamport : Report
commit_at_a_later_lamport = record {
  answers = (
      answers.Begun ∷ answers.Held ∷ answers.Held ∷ answers.Aborted 2
      ∷ answers.Begun ∷ answers.Held ∷ answers.Held ∷ answers.Committed 2 2 ∷ answers.Got 1 (record commit_cell { top = 2; value = values.Last (Is (record red { number = 2 })) }) ∷ []) ∷ [];
  finals = record commit_final_a { top = 2 } ∷ record commit_final_l { top = 2; value = values.Last (Is (record red { number = 2 })) } ∷ [];
}

-- The await of t's put ends after 7 asks of the one replica, which are one too few.
abbrev pub end_after_too_few_asks : Report
end_after_too_few_asks = record {
  answers =
      (answers.Put 1 1 ∷ answers.Again 7 2 [] ∷ answers.Put 2 2 ∷ [])
      ∷ (answers.Got 1 causal_cell_a ∷ answers.Put 1 2 ∷ []) ∷ [];
  finals = record causal_final_a { top = 2 } ∷ causal_final_b ∷ [];
}

-- The await of t's put ends with a clock that counts that put.
abbrev pub end_with_the_awaited : Report
end_with_the_awaited = record {
  answers =
      (answers.Put 1 1 ∷ answers.Again 8 2 ((2, 1) ∷ []) ∷ answers.Put 2 2 ∷ [])
      ∷ (answers.Got 1 causal_cell_a ∷ answers.Put 1 2 ∷ []) ∷ [];
  finals = record causal_final_a { top = 2 } ∷ causal_final_b ∷ [];
}

-- A clock has an entry for a session of which it counts no puts.
abbrev pub entry_of_no_puts : Report
entry_of_no_puts = record causal_report { finals = causal_final_a ∷ record causal_final_b { clock = (1, 0) ∷ (2, 1) ∷ [] } ∷ [] }

-- The first get is answered by worker 2, where the script names worker 1.
abbrev pub get_by_another_than_the_named : Report
get_by_another_than_the_named = record home_report { answers = (answers.Put 1 1 ∷ answers.Got 2 home_cell_one ∷ answers.Put 2 2 ∷ answers.Got 1 home_cell_both ∷ []) ∷ [] }

-- The await of s's put is answered by worker 2, which is no replica of the key.
abbrev pub await_by_no_replica : Report
await_by_no_replica = record causal_report {
  answers =
      (answers.Put 1 1 ∷ answers.Got 2 causal_cell_b ∷ answers.Put 2 3 ∷ [])
      ∷ (answers.Got 2 causal_cell_a ∷ answers.Put 1 2 ∷ []) ∷ [];
}

-- The await of t's put ends with the clock of worker 1, where worker 2 is asked last.
abbrev pub end_by_another_than_the_last : Report
end_by_another_than_the_last = record {
  answers =
      (answers.Put 1 1 ∷ answers.Again 8 1 [] ∷ answers.Put 2 2 ∷ [])
      ∷ (answers.Got 1 causal_cell_a ∷ answers.Put 1 2 ∷ []) ∷ [];
  finals = record causal_final_a { top = 2 } ∷ causal_final_b ∷ [];
}

-- A committed session that begins no transaction.
--     put a 5
abbrev pub plain_script : Script
plain_script = record commit_script { sessions = record { name = codes "s"; level = Committed; after = None; lines = lines.Put 1 (payloads.Max 5) ∷ [] } ∷ [] }

abbrev pub PlainRefuses : Report → Type 0
PlainRefuses report = IsLegalAt commit_table plain_script report → ⊥

-- Its put is held.
abbrev pub held_outside_a_transaction : Report
held_outside_a_transaction = record {
  answers = (answers.Held ∷ []) ∷ [];
  finals = record commit_final_a { clock = []; top = 0; value = values.Max Bottom } ∷ record commit_final_l { clock = []; top = 0; value = values.Last Bottom } ∷ [];
}

-- The await of t's put shows no needs at all.
abbrev pub causal_reply_without_needs : Report
causal_reply_without_needs = record causal_report {
  answers =
      (answers.Put 1 1 ∷ answers.Got 2 (record causal_cell_b { needs = None }) ∷ answers.Put 2 3 ∷ [])
      ∷ (answers.Got 1 causal_cell_a ∷ answers.Put 1 2 ∷ []) ∷ [];
}

-- The version of t has seen its own put alone, so that the final cell pairs it with the version that t was shown.
abbrev pub version_of_its_own_put_alone : Report
version_of_its_own_put_alone = record versions_report {
  finals = record versions_final { value = values.Versions (version_x ∷ record { clock = (2, 1) ∷ []; word = codes "y" } ∷ []) } ∷ [];
}

-- The second get of a ends with a clock that counts two puts of s, which made one.
abbrev pub end_of_more_than_accepted : Report
end_of_more_than_accepted = record apart_report {
  answers =
      (answers.Put 1 1 ∷ answers.Put 1 2 ∷ answers.Again 8 1 ((1, 1) ∷ []) ∷ [])
      ∷ (answers.Put 1 1 ∷ answers.Got 1 apart_cell_b ∷ answers.Again 16 2 ((1, 1) ∷ []) ∷ answers.Again 16 2 ((1, 2) ∷ []) ∷ []) ∷ [];
}

-- The second get of a ends with the empty clock of a worker that has shown a put on a before.
abbrev pub end_below_an_earlier_one : Report
end_below_an_earlier_one = record apart_report {
  answers =
      (answers.Put 1 1 ∷ answers.Put 1 2 ∷ answers.Again 8 1 ((1, 1) ∷ []) ∷ [])
      ∷ (answers.Put 1 1 ∷ answers.Got 1 apart_cell_b ∷ answers.Again 16 2 ((1, 1) ∷ []) ∷ answers.Again 16 2 [] ∷ []) ∷ [];
}

-- The await of b ends at the home of s, and does not count the put that s made there.
abbrev pub end_of_too_few_at_home : Report
end_of_too_few_at_home = record apart_report {
  answers =
      (answers.Put 1 1 ∷ answers.Put 1 2 ∷ answers.Again 8 1 [] ∷ [])
      ∷ (answers.Put 1 1 ∷ answers.Got 1 apart_cell_b ∷ answers.Again 16 2 ((1, 1) ∷ []) ∷ answers.Again 16 2 ((1, 1) ∷ []) ∷ []) ∷ [];
}

-- The commit is answered as worn, while its session's Lamport number is 0.
abbrev pub worn_commit_with_numbers_left : Report
worn_commit_with_numbers_left = record {
  answers = (
      answers.Begun ∷ answers.Held ∷ answers.Held ∷ answers.Aborted 2
      ∷ answers.Begun ∷ answers.Held ∷ answers.Held ∷ answers.Worn ∷ answers.Got 1 keys_cell_l ∷ []) ∷ [];
  finals = record commit_final_a { clock = []; top = 0; value = values.Max Bottom } ∷ keys_final_l ∷ [];
}

-- The commit of nothing is answered as worn, while its session's Lamport number is 1.
abbrev pub worn_commit_of_nothing : Report
worn_commit_of_nothing = record keys_report { answers = (answers.Put 1 1 ∷ answers.Got 1 keys_cell_a ∷ answers.Got 1 keys_cell_l ∷ answers.Begun ∷ answers.Worn ∷ []) ∷ [] }

-- The commit of nothing stands at 2.
abbrev pub commit_of_nothing_at_a_lamport : Report
commit_of_nothing_at_a_lamport = record keys_report { answers = (answers.Put 1 1 ∷ answers.Got 1 keys_cell_a ∷ answers.Got 1 keys_cell_l ∷ answers.Begun ∷ answers.Committed 0 2 ∷ []) ∷ [] }

-- An eventual session that gets b of worker 1, where b lives at worker 2.
--     get b @1
abbrev pub stray_script : Script
stray_script = record causal_script { sessions = record { name = codes "s"; level = Eventual; after = None; lines = lines.Get 2 (Some 1) ∷ [] } ∷ [] }

-- The script is not valid, wherever its keys live.
abbrev pub IsValidNowhere : Script → Type 0
IsValidNowhere script = (table : List (List ℕ)) → IsValidScript script table → ⊥

-- The put of the session that comes after another stands at 1, as if the session knew nothing.
abbrev pub successor_at_the_first_lamport : Report
successor_at_the_first_lamport = record {
  answers = (answers.Put 1 1 ∷ []) ∷ (answers.Put 1 1 ∷ answers.Got 1 (record handed_cell { top = 1 }) ∷ []) ∷ [];
  finals = record handed_final { top = 1 } ∷ [];
}

-- It has the number 2, as if the other's put were one of its own.
abbrev pub successor_that_counts_on : Report
successor_that_counts_on = record {
  answers = (answers.Put 1 1 ∷ []) ∷ (answers.Put 2 2 ∷ answers.Got 1 (record handed_cell { clock = (1, 1) ∷ (2, 2) ∷ [] }) ∷ []) ∷ [];
  finals = record handed_final { clock = (1, 1) ∷ (2, 2) ∷ [] } ∷ [];
}

-- It is not shown the other's put.
abbrev pub successor_that_is_shown_less : Report
successor_that_is_shown_less = record handed_report {
  answers = (answers.Put 1 1 ∷ []) ∷ (answers.Put 1 2 ∷ answers.Got 1 (record handed_cell { clock = (2, 1) ∷ [] }) ∷ []) ∷ [];
}
