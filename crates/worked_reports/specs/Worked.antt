-- Eight scripts, each with a legal report. Beside each script stands the report, abridged.
use Rattle.std.specs.Prelude.{ℕ, List, [], ◌∷◌, Some, None, codes}
use Rattle.lattice_laws.specs.declared.maybe.Maybe.TheVariants.{Is, Bottom}
use Rattle.basic_lattices.specs.declared.stamped.Stamped.{Stamped}
use Rattle.composed_value.specs.declared.kind.Kind.TheVariants as kinds
use Rattle.composed_value.specs.declared.payload.Payload.TheVariants as payloads
use Rattle.composed_value.specs.declared.value.Value.TheVariants as values
use Rattle.placement.specs.Config.{IsPlacement, EachHasReplicas}
use Rattle.session_known.specs.Legal.{IsLegal}
use Rattle.session_known.specs.Script.{IsValidScript}
use Rattle.session_known.specs.declared.report.Answer.TheVariants as answers
use Rattle.session_known.specs.declared.report.FinalCell.{FinalCell}
use Rattle.session_known.specs.declared.report.Report.{Report}
use Rattle.session_known.specs.declared.report.Shown.{Shown}
use Rattle.session_known.specs.declared.script.Level.TheVariants.{Eventual, Committed, Causal}
use Rattle.session_known.specs.declared.script.Line.TheVariants as lines
use Rattle.session_known.specs.declared.script.Script.{Script}
use Rattle.version_antichain.specs.declared.version.Version.{Version}

-- Where the keys live as any built placement says, the script is valid and the report legal.
abbrev pub IsLegalWhereverPlaced : Script → Report → Type 0
IsLegalWhereverPlaced script report =
    (table : List (List ℕ)) → IsPlacement script.config table → EachHasReplicas script.config script.config.keys table
    → IsValidScript script table × IsLegal script report

-- The first run: one worker, one key, one session.
--     workers 1                        session s eventual
--     factor 1                         put a 1 at 1
--     round 4                          put a 2 at 2
--     key a max                        get a @1 clock s:2 top 2 value 5
--     session s eventual               final
--     put a 5                          a @1 clock s:2 top 2 value 5
--     put a 3
--     get a
abbrev pub first_script : Script
first_script = record {
  version = 1;
  config = record { workers = 1; factor = 1; keys = record { name = codes "a"; pins = []; factor = None } ∷ [] };
  round = 4;
  kinds = kinds.Max ∷ [];
  sessions = record {
    name = codes "s";
    level = Eventual;
    after = None;
    lines = lines.Put 1 (payloads.Max 5) ∷ lines.Put 1 (payloads.Max 3) ∷ lines.Get 1 None ∷ [];
  } ∷ [];
}

-- the cell that counts both puts
abbrev pub first_cell : Shown
first_cell = record { clock = (1, 2) ∷ []; top = 2; value = values.Max (Is 5); needs = None }

-- at the end the worker has it
abbrev pub first_final : FinalCell
first_final = record { key = 1; worker = 1; clock = (1, 2) ∷ []; top = 2; value = values.Max (Is 5) }

-- the report
abbrev pub first_report : Report
first_report = record {
  answers = (answers.Put 1 1 ∷ answers.Put 2 2 ∷ answers.Got 1 first_cell ∷ []) ∷ [];
  finals = first_final ∷ [];
}

-- the one key lives at the one worker
abbrev pub first_table : List (List ℕ)
first_table = (1 ∷ []) ∷ []

-- Two replicas, and a session whose gets go to its home.
--     workers 2                        session s eventual
--     factor 1                         put a 1 at 1
--     round 4                          get a @2 clock s:1 top 1 value x
--     key a set at 2 1                 put a 2 at 2
--     session s eventual               get a @2 clock s:2 top 2 value x,y
--     put a x                          final
--     get a                            a @1 clock s:2 top 2 value x,y
--     put a y                          a @2 clock s:2 top 2 value x,y
--     get a
abbrev pub home_script : Script
home_script = record {
  version = 1;
  config = record { workers = 2; factor = 1; keys = record { name = codes "a"; pins = 2 ∷ 1 ∷ []; factor = None } ∷ [] };
  round = 4;
  kinds = kinds.Set ∷ [];
  sessions = record {
    name = codes "s";
    level = Eventual;
    after = None;
    lines = lines.Put 1 (payloads.Add (codes "x")) ∷ lines.Get 1 None ∷ lines.Put 1 (payloads.Add (codes "y")) ∷ lines.Get 1 None ∷ [];
  } ∷ [];
}

-- the cell that counts the first put
abbrev pub home_cell_one : Shown
home_cell_one = record { clock = (1, 1) ∷ []; top = 1; value = values.Set (codes "x" ∷ []); needs = None }

-- the cell that counts both
abbrev pub home_cell_both : Shown
home_cell_both = record { clock = (1, 2) ∷ []; top = 2; value = values.Set (codes "x" ∷ codes "y" ∷ []); needs = None }

-- the final cell of a worker: both have the same
abbrev pub home_final : ℕ → FinalCell
home_final worker = record { key = 1; worker = worker; clock = (1, 2) ∷ []; top = 2; value = values.Set (codes "x" ∷ codes "y" ∷ []) }

-- the report
abbrev pub home_report : Report
home_report = record {
  answers = (answers.Put 1 1 ∷ answers.Got 2 home_cell_one ∷ answers.Put 2 2 ∷ answers.Got 2 home_cell_both ∷ []) ∷ [];
  finals = home_final 1 ∷ home_final 2 ∷ [];
}

-- the key lives at its pins, in their order
abbrev pub home_table : List (List ℕ)
home_table = (2 ∷ 1 ∷ []) ∷ []

-- Two transactions: one is dropped, and one puts both keys at one Lamport number.
--     workers 1                        session s committed
--     factor 1                         begin
--     round 4                          put a held
--     key a max                        put l held
--     key l last                       abort 2
--     session s committed              begin
--     begin                            put a held
--     put a 5                          put l held
--     put l red                        commit 2 at 1
--     abort                            get l @1 clock s:1 top 1 value red at 1 s 1
--     begin                            final
--     put a 5                          a @1 clock s:1 top 1 value 5
--     put l red                        l @1 clock s:1 top 1 value red at 1 s 1
--     commit
--     get l
abbrev pub commit_script : Script
commit_script = record {
  version = 1;
  config = record { workers = 1; factor = 1; keys = record { name = codes "a"; pins = []; factor = None } ∷ record { name = codes "l"; pins = []; factor = None } ∷ [] };
  round = 4;
  kinds = kinds.Max ∷ kinds.Last ∷ [];
  sessions = record {
    name = codes "s";
    level = Committed;
    after = None;
    lines =
        lines.Begin ∷ lines.Put 1 (payloads.Max 5) ∷ lines.Put 2 (payloads.Last (codes "red")) ∷ lines.Abort
        ∷ lines.Begin ∷ lines.Put 1 (payloads.Max 5) ∷ lines.Put 2 (payloads.Last (codes "red")) ∷ lines.Commit ∷ lines.Get 2 None ∷ [];
  } ∷ [];
}

-- the second put of the transaction has place 1
abbrev pub red : Stamped
red = record { number = 1; session = 1; place = 1; word = codes "red" }

-- the cell of l
abbrev pub commit_cell : Shown
commit_cell = record { clock = (1, 1) ∷ []; top = 1; value = values.Last (Is red); needs = None }

-- the final cells of a and l
abbrev pub commit_final_a : FinalCell
commit_final_a = record { key = 1; worker = 1; clock = (1, 1) ∷ []; top = 1; value = values.Max (Is 5) }

abbrev pub commit_final_l : FinalCell
commit_final_l = record { key = 2; worker = 1; clock = (1, 1) ∷ []; top = 1; value = values.Last (Is red) }

-- the report
abbrev pub commit_report : Report
commit_report = record {
  answers = (
      answers.Begun ∷ answers.Held ∷ answers.Held ∷ answers.Aborted 2
      ∷ answers.Begun ∷ answers.Held ∷ answers.Held ∷ answers.Committed 2 1 ∷ answers.Got 1 commit_cell ∷ []) ∷ [];
  finals = commit_final_a ∷ commit_final_l ∷ [];
}

-- both keys live at the one worker
abbrev pub commit_table : List (List ℕ)
commit_table = (1 ∷ []) ∷ (1 ∷ []) ∷ []

-- Two causal sessions that await each other.
--     workers 2                        session s causal
--     factor 1                         put a 1 at 1
--     round 4                          await b @2 clock t:1 top 2 value 7 needs a s:1
--     key a max at 1                   put a 2 at 3
--     key b max at 2                   session t causal
--     session s causal                 await a @1 clock s:1 top 1 value 1 needs -
--     put a 1                          put b 1 at 2
--     await b t 1                      final
--     put a 2                          a @1 clock s:2 top 3 value 2
--     session t causal                 b @2 clock t:1 top 2 value 7
--     await a s 1
--     put b 7
abbrev pub causal_script : Script
causal_script = record {
  version = 1;
  config = record { workers = 2; factor = 1; keys = record { name = codes "a"; pins = 1 ∷ []; factor = None } ∷ record { name = codes "b"; pins = 2 ∷ []; factor = None } ∷ [] };
  round = 4;
  kinds = kinds.Max ∷ kinds.Max ∷ [];
  sessions =
      record { name = codes "s"; level = Causal; after = None; lines = lines.Put 1 (payloads.Max 1) ∷ lines.Await 2 2 1 ∷ lines.Put 1 (payloads.Max 2) ∷ [] }
      ∷ record { name = codes "t"; level = Causal; after = None; lines = lines.Await 1 1 1 ∷ lines.Put 2 (payloads.Max 7) ∷ [] } ∷ [];
}

-- the cell of b that s awaits: the put needs the first put of a
abbrev pub causal_cell_b : Shown
causal_cell_b = record { clock = (2, 1) ∷ []; top = 2; value = values.Max (Is 7); needs = Some ((1, (1, 1) ∷ []) ∷ []) }

-- the cell of a that t awaits: the put needs nothing
abbrev pub causal_cell_a : Shown
causal_cell_a = record { clock = (1, 1) ∷ []; top = 1; value = values.Max (Is 1); needs = Some [] }

-- the final cells of a and b
abbrev pub causal_final_a : FinalCell
causal_final_a = record { key = 1; worker = 1; clock = (1, 2) ∷ []; top = 3; value = values.Max (Is 2) }

abbrev pub causal_final_b : FinalCell
causal_final_b = record { key = 2; worker = 2; clock = (2, 1) ∷ []; top = 2; value = values.Max (Is 7) }

-- the report
abbrev pub causal_report : Report
causal_report = record {
  answers =
      (answers.Put 1 1 ∷ answers.Got 2 causal_cell_b ∷ answers.Put 2 3 ∷ [])
      ∷ (answers.Got 1 causal_cell_a ∷ answers.Put 1 2 ∷ []) ∷ [];
  finals = causal_final_a ∷ causal_final_b ∷ [];
}

-- each key lives at its one pin
abbrev pub causal_table : List (List ℕ)
causal_table = (1 ∷ []) ∷ (2 ∷ []) ∷ []

-- Two keys at one worker, and a commit of nothing: a reply owes nothing to what its worker showed of another key.
--     workers 1                        session s committed
--     factor 1                         put a 1 at 1
--     round 4                          get a @1 clock s:1 top 1 value 5
--     key a max                        get l @1 clock - top 0 value none
--     key l last                       begin
--     session s committed              commit 0
--     put a 5                          final
--     get a                            a @1 clock s:1 top 1 value 5
--     get l                            l @1 clock - top 0 value none
--     begin
--     commit
abbrev pub keys_script : Script
keys_script = record commit_script {
  sessions = record {
    name = codes "s";
    level = Committed;
    after = None;
    lines = lines.Put 1 (payloads.Max 5) ∷ lines.Get 1 None ∷ lines.Get 2 None ∷ lines.Begin ∷ lines.Commit ∷ [];
  } ∷ [];
}

-- the cell of a counts its put
abbrev pub keys_cell_a : Shown
keys_cell_a = record { clock = (1, 1) ∷ []; top = 1; value = values.Max (Is 5); needs = None }

-- that of l is empty
abbrev pub keys_cell_l : Shown
keys_cell_l = record { clock = []; top = 0; value = values.Last Bottom; needs = None }

-- so it is at the end
abbrev pub keys_final_l : FinalCell
keys_final_l = record { key = 2; worker = 1; clock = []; top = 0; value = values.Last Bottom }

-- the report
abbrev pub keys_report : Report
keys_report = record {
  answers = (answers.Put 1 1 ∷ answers.Got 1 keys_cell_a ∷ answers.Got 1 keys_cell_l ∷ answers.Begun ∷ answers.Committed 0 0 ∷ []) ∷ [];
  finals = commit_final_a ∷ keys_final_l ∷ [];
}

-- Two sessions, of which the second puts a version once it was shown that of the first, and overtakes it.
--     workers 1                        session s eventual
--     factor 1                         put a 1 at 1
--     round 4                          session t eventual
--     key a versions                   get a @1 clock s:1 top 1 value x(s:1)
--     session s eventual               put a 1 at 2
--     put a x                          final
--     session t eventual               a @1 clock s:1,t:1 top 2 value y(s:1,t:1)
--     get a
--     put a y
abbrev pub versions_script : Script
versions_script = record first_script {
  kinds = kinds.Versions ∷ [];
  sessions =
      record { name = codes "s"; level = Eventual; after = None; lines = lines.Put 1 (payloads.Version (codes "x")) ∷ [] }
      ∷ record { name = codes "t"; level = Eventual; after = None; lines = lines.Get 1 None ∷ lines.Put 1 (payloads.Version (codes "y")) ∷ [] } ∷ [];
}

-- the version of s has seen itself alone
abbrev pub version_x : Version
version_x = record { clock = (1, 1) ∷ []; word = codes "x" }

-- that of t has seen both
abbrev pub version_y : Version
version_y = record { clock = (1, 1) ∷ (2, 1) ∷ []; word = codes "y" }

-- the cell that counts the first
abbrev pub versions_cell : Shown
versions_cell = record { clock = (1, 1) ∷ []; top = 1; value = values.Versions (version_x ∷ []); needs = None }

-- the final cell
abbrev pub versions_final : FinalCell
versions_final = record { key = 1; worker = 1; clock = (1, 1) ∷ (2, 1) ∷ []; top = 2; value = values.Versions (version_y ∷ []) }

-- the report
abbrev pub versions_report : Report
versions_report = record {
  answers = (answers.Put 1 1 ∷ []) ∷ (answers.Got 1 versions_cell ∷ answers.Put 1 2 ∷ []) ∷ [];
  finals = versions_final ∷ [];
}

-- Two replicas that each lack what the other has, so that asking ends without a reply; and an await of a put that is never made.
--     workers 2                        session s causal
--     factor 1                         put a 1 at 1
--     round 64                         put b 1 at 2
--     key a max at 2 1                 await b t 1 gave up after 8 @1 clock s:1
--     key b max at 1                   session t causal
--     session s causal                 put a 1 at 1
--     put a 5                          get b @1 clock s:1 top 2 value 7 needs a{s:1}
--     put b 7                          again a after 16 @2 clock s:1
--     await b t 1                      again a after 16 @2 clock s:1
--     session t causal                 final
--     put a 3                          a @1 clock s:1,t:1 top 1 value 5
--     get b                            a @2 clock s:1,t:1 top 1 value 5
--     get a                            b @1 clock s:1 top 2 value 7
--     get a
abbrev pub apart_script : Script
apart_script = record {
  version = 1;
  config = record { workers = 2; factor = 1; keys = record { name = codes "a"; pins = 2 ∷ 1 ∷ []; factor = None } ∷ record { name = codes "b"; pins = 1 ∷ []; factor = None } ∷ [] };
  round = 64;
  kinds = kinds.Max ∷ kinds.Max ∷ [];
  sessions =
      record { name = codes "s"; level = Causal; after = None; lines = lines.Put 1 (payloads.Max 5) ∷ lines.Put 2 (payloads.Max 7) ∷ lines.Await 2 2 1 ∷ [] }
      ∷ record { name = codes "t"; level = Causal; after = None; lines = lines.Put 1 (payloads.Max 3) ∷ lines.Get 2 None ∷ lines.Get 1 None ∷ lines.Get 1 None ∷ [] } ∷ [];
}

-- the cell of b: its put needs the put of s on a
abbrev pub apart_cell_b : Shown
apart_cell_b = record { clock = (1, 1) ∷ []; top = 2; value = values.Max (Is 7); needs = Some ((1, (1, 1) ∷ []) ∷ []) }

-- the final cell of a at a worker, and that of b
abbrev pub apart_final_a : ℕ → FinalCell
apart_final_a worker = record { key = 1; worker = worker; clock = (1, 1) ∷ (2, 1) ∷ []; top = 1; value = values.Max (Is 5) }

abbrev pub apart_final_b : FinalCell
apart_final_b = record { key = 2; worker = 1; clock = (1, 1) ∷ []; top = 2; value = values.Max (Is 7) }

-- the report
abbrev pub apart_report : Report
apart_report = record {
  answers =
      (answers.Put 1 1 ∷ answers.Put 1 2 ∷ answers.Again 8 1 ((1, 1) ∷ []) ∷ [])
      ∷ (answers.Put 1 1 ∷ answers.Got 1 apart_cell_b ∷ answers.Again 16 2 ((1, 1) ∷ []) ∷ answers.Again 16 2 ((1, 1) ∷ []) ∷ []) ∷ [];
  finals = apart_final_a 1 ∷ apart_final_a 2 ∷ apart_final_b ∷ [];
}

-- the keys live at their pins, in their order
abbrev pub apart_table : List (List ℕ)
apart_table = (2 ∷ 1 ∷ []) ∷ (1 ∷ []) ∷ []

-- A session that comes after another.
--     anna 2                           anna report 2
--     workers 1                        key a max on 1
--     key a max                        session s causal
--     session s causal                 put a 1 at 1
--     put a 5                          session t causal after s
--     session t causal after s         put a 1 at 2
--     put a 7                          get a @1 clock s:1,t:1 top 2 value 7 needs a{s:1}
--     get a                            final
--                                      a @1 clock s:1,t:1 top 2 value 7
abbrev pub handed_script : Script
handed_script = record first_script {
  version = 2;
  sessions =
      record { name = codes "s"; level = Causal; after = None; lines = lines.Put 1 (payloads.Max 5) ∷ [] }
      ∷ record { name = codes "t"; level = Causal; after = Some 1; lines = lines.Put 1 (payloads.Max 7) ∷ lines.Get 1 None ∷ [] } ∷ [];
}

-- the cell that counts both puts
abbrev pub handed_cell : Shown
handed_cell = record { clock = (1, 1) ∷ (2, 1) ∷ []; top = 2; value = values.Max (Is 7); needs = Some ((1, (1, 1) ∷ []) ∷ []) }

-- at the end the worker has it
abbrev pub handed_final : FinalCell
handed_final = record { key = 1; worker = 1; clock = (1, 1) ∷ (2, 1) ∷ []; top = 2; value = values.Max (Is 7) }

-- the report
abbrev pub handed_report : Report
handed_report = record {
  answers = (answers.Put 1 1 ∷ []) ∷ (answers.Put 1 2 ∷ answers.Got 1 handed_cell ∷ []) ∷ [];
  finals = handed_final ∷ [];
}
