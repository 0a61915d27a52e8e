use Rattle.worked_reports.specs.Worked.{first_script, first_table, first_report, home_script, home_table, home_report, commit_script, commit_table, commit_report, causal_script, causal_table, causal_report, keys_script, keys_report, versions_script, versions_report, apart_script, apart_table, apart_report, handed_script, handed_report}
use Rattle.worked_reports.proofs.LegalLemmas.{first_is_legal, home_is_legal, commit_is_legal, causal_is_legal}
use Rattle.worked_reports.proofs.PlacesLemmas.{first_placed, home_placed, commit_placed, causal_placed, first_is_valid, home_is_valid, commit_is_valid, causal_is_valid, valid_and_legal}
use Rattle.worked_reports.proofs.KeysLemmas.{keys_is_legal, keys_is_valid}
use Rattle.worked_reports.proofs.VersionsLemmas.{versions_is_legal, versions_is_valid}
use Rattle.worked_reports.proofs.ApartLemmas.{apart_placed, apart_is_legal, apart_is_valid}
use Rattle.worked_reports.proofs.HandedLemmas.{handed_is_legal, handed_is_valid}
use Rattle.worked_reports.proofs.worked.worked_reports_are_legal.Goals as goal

pub returns-clause-first : goal.returns-clause-first
returns-clause-first c table placed each = valid_and_legal first_script first_report first_table table (first_placed table each) first_is_valid first_is_legal placed

pub returns-clause-home : goal.returns-clause-home
returns-clause-home c table placed each = valid_and_legal home_script home_report home_table table (home_placed table placed) home_is_valid home_is_legal placed

pub returns-clause-commit : goal.returns-clause-commit
returns-clause-commit c table placed each = valid_and_legal commit_script commit_report commit_table table (commit_placed table each) commit_is_valid commit_is_legal placed

pub returns-clause-causal : goal.returns-clause-causal
returns-clause-causal c table placed each = valid_and_legal causal_script causal_report causal_table table (causal_placed table placed) causal_is_valid causal_is_legal placed

pub returns-clause-keys : goal.returns-clause-keys
returns-clause-keys c table placed each = valid_and_legal keys_script keys_report commit_table table (commit_placed table each) keys_is_valid keys_is_legal placed

pub returns-clause-versions : goal.returns-clause-versions
returns-clause-versions c table placed each = valid_and_legal versions_script versions_report first_table table (first_placed table each) versions_is_valid versions_is_legal placed

pub returns-clause-apart : goal.returns-clause-apart
returns-clause-apart c table placed each = valid_and_legal apart_script apart_report apart_table table (apart_placed table placed) apart_is_valid apart_is_legal placed

pub returns-clause-handed : goal.returns-clause-handed
returns-clause-handed c table placed each = valid_and_legal handed_script handed_report first_table table (first_placed table each) handed_is_valid handed_is_legal placed
