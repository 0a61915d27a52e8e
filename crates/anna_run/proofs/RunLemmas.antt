-- What is owed of an outcome.
use Rattle.std.specs.Prelude.{◌≡◌, ℕ, List, Option, Some, None, Result, Ok, Err, String}
use Rattle.std.proofs.Common.{Vec, Global, inl, inr, refl, sym, ap, subst, ◌∙◌}
use Rattle.big_work.specs.Big.{script_of, summary_text}
use Rattle.lattice_laws.specs.Counts.{Rose}
use Rattle.outside.specs.Gathering.{Wrote}
use Rattle.outside.specs.Outside.{HasCause, Writes}
use Rattle.outside.specs.declared.Failed.{Failed}
use Rattle.placement.specs.Config.{placed}
use Rattle.placement.proofs.ConfigLemmas.{placement_is}
use Rattle.report_lines.specs.Text.{text_of}
use Rattle.script_reader.proofs.ValidLaws.{script_is_valid}
use Rattle.session_known.specs.Form.{HasForm, HasFormSomewhere}
use Rattle.session_known.specs.Legal.{IsLegal}
use Rattle.session_known.specs.declared.script.Script.{Script}
use Rattle.anna_run.specs.Outcomes.{IsOwed}
use Rattle.anna_run.specs.Words.{command_in}
use Rattle.anna_run.specs.Run.{IsEnd, IsRun, Made, SinkUse, SourceUse, HasServed, HasWorked, Owed, write_status}
use Rattle.anna_run.specs.declared.run.OutcomeOver.{OutcomeOver}
use Rattle.anna_run.specs.declared.run.OutcomeOver.TheVariants as outcomes
use Rattle.anna_run.specs.declared.run.Status.{Status}
use Rattle.anna_run.specs.declared.run.Status.TheVariants.{Done, WriteFault}
use Rattle.anna_run.specs.declared.words.Command.{Command}
use Rattle.anna_run.specs.declared.words.Command.TheVariants.{Big, Check, Run}
use Rattle.anna_run.specs.declared.words.Gossip.{Gossip}

-- A report of a script that was run is owed where the words ask to run it so.
pub record IsServedFor (command : Option Command) (source : SourceUse) (script : Script) (made : Made) : Type 0 where
  pub gossip : Gossip
  pub asked : command ≡ Some (Run gossip)
  pub served : HasServed source gossip script made

module _ {D C : Type 0} (rings : D → Made) (scrambled : C → Made) where
  -- the outcome is the one that was found
  pub owed_as : (command : Option Command) (source : SourceUse) (outcome found : OutcomeOver D C) → outcome ≡ found → IsOwed rings scrambled command source outcome
      → IsOwed rings scrambled command source found
  owed_as command source outcome found same owed = subst (IsOwed rings scrambled command source) same owed

  -- where a report is owed it is that of a script that was run,
  pub served : (command : Option Command) (source : SourceUse) (script : Script) (drained : D) → IsOwed rings scrambled command source (outcomes.Report script drained)
      → IsServedFor command source script (rings drained)
  served (Some (Run gossip)) source script drained owed = record { gossip = gossip; asked = refl; served = owed }
  served (Some (Big number)) source script drained owed = absurd owed
  served (Some Check) source script drained owed = absurd owed
  served None source script drained owed = absurd owed

  -- also with gossip in disorder,
  pub served_scrambled : (command : Option Command) (source : SourceUse) (script : Script) (drained : C)
      → IsOwed rings scrambled command source (outcomes.ScrambledReport script drained) → IsServedFor command source script (scrambled drained)
  served_scrambled (Some (Run gossip)) source script drained owed = record { gossip = gossip; asked = refl; served = owed }
  served_scrambled (Some (Big number)) source script drained owed = absurd owed
  served_scrambled (Some Check) source script drained owed = absurd owed
  served_scrambled None source script drained owed = absurd owed

  -- and a summary is that of the large work of its number
  pub worked : (command : Option Command) (source : SourceUse) (number : ℕ) (script : Script) (drained : D)
      → IsOwed rings scrambled command source (outcomes.Summary number script drained)
      → (command ≡ Some (Big number)) × (script ≡ script_of number) × HasWorked number (rings drained)
  worked (Some (Run gossip)) source number script drained owed = absurd owed
  worked (Some (Big asked)) source number script drained owed =
      (ap (λ asked. Some (Big asked)) (sym owed.0), owed.1 ∙ ap script_of (sym owed.0), subst (λ number. HasWorked number (rings drained)) (sym owed.0) owed.2)
  worked (Some Check) source number script drained owed = absurd owed
  worked None source number script drained owed = absurd owed

  -- a line is owed as it is
  pub lined : (command : Option Command) (source : SourceUse) (status : Status) (text : Vec ℕ Global)
      → IsOwed rings scrambled command source (outcomes.Line status text) → Owed command source None status text.items
  lined (Some (Run gossip)) source status text owed = owed
  lined (Some (Big number)) source status text owed = absurd owed
  lined (Some Check) source status text owed = owed
  lined None source status text owed = owed

  -- a summary is owed
  pub owed_summary : (command : Option Command) (source : SourceUse) (number : ℕ) (script : Script) (drained : D)
      → IsOwed rings scrambled command source (outcomes.Summary number script drained)
      → Owed command source (Some (rings drained)) Done (summary_text number script (rings drained).report)
  owed_summary command source number script drained owed =
      let is = worked command source number script drained owed in
      subst (λ (asked : Option Command). Owed asked source (Some (rings drained)) Done (summary_text number script (rings drained).report)) (sym is.0)
      (record { worked = is.2; is_text = λ i. summary_text number (is.1 i) (rings drained).report })

-- a report that is served is owed
pub owed_report : (command : Option Command) (source : SourceUse) (script : Script) (made : Made) → IsServedFor command source script made
    → Owed command source (Some made) Done (text_of script made.report)
owed_report command source script made is =
    subst (λ (asked : Option Command). Owed asked source (Some made) Done (text_of script made.report)) (sym is.asked)
    (record { script = script; served = is.served; is_text = refl })

-- and can be written
pub can_write : (command : Option Command) (source : SourceUse) (script : Script) (made : Made) → IsServedFor command source script made → HasFormSomewhere script made.report
can_write command source script made is =
    let served = is.served in
    let legal = served.is_legal in (
      placed script.config,
      script_is_valid served.bytes script served.is_script,
      subst (λ table. HasForm script table made.report) (placement_is script.config legal.table legal.placed) legal.legal.form,
    )

-- and of the large work of a number one that is legal for its script
pub can_sum_up : (number : ℕ) (script : Script) (made : Made) → script ≡ script_of number → HasWorked number made → IsLegal script made.report
can_sum_up number script made is worked = subst (λ script. IsLegal script made.report) (sym is) worked.is_legal

-- a text that is owed was written, and the run ends as writing it does
pub text_ends : (command : Option Command) (source : SourceUse) (sink : SinkUse) (made : Made) (text : List ℕ) (wrote : Result (Unit {0}) Failed)
    → Owed command source (Some made) Done text → HasCause sink.faults_before sink.faults_now wrote → Wrote sink.written_before sink.written_now text wrote
    → IsEnd command source sink (Some made) (write_status wrote)
text_ends command source sink made text (Ok done) owed cause wrote = inr (Done, text, owed, inl (refl, wrote))
text_ends command source sink made text (Err failed) owed cause wrote = inr (Done, text, owed, inr (refl, cause.1, wrote))

-- where the sink does not fail, all of it was
pub is_done : (before now : ℕ) (wrote : Result (Unit {0}) Failed) → HasCause before now wrote → (Rose before now → ⊥) → write_status wrote ≡ Done
is_done before now (Ok done) cause sure = refl
is_done before now (Err failed) cause sure = absurd (sure cause.1)

-- a line that is owed was written, and the run ends as writing it does
pub line_ends : (command : Option Command) (source : SourceUse) (sink : SinkUse) (status answer : Status) (text given : List ℕ) → given ≡ text
    → Owed command source None status text → Writes WriteFault (Rose sink.faults_before sink.faults_now) sink.written_before sink.written_now status given answer
    → IsEnd command source sink None answer
line_ends command source sink status answer text given same owed writes =
    inr (status, given, subst (λ text. Owed command source None status text) (sym same) owed, writes)

-- a run of the words that were lent is one of the words
pub run_of : (lent words : List (String Global)) (source : SourceUse) (sink : SinkUse) (ran : Option Made) (status : Status) → lent ≡ words
    → IsRun (command_in lent) source sink ran status → IsRun (command_in words) source sink ran status
run_of lent words source sink ran status same is = subst (λ words. IsRun (command_in words) source sink ran status) same is
