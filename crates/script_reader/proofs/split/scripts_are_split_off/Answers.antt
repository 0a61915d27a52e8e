use Rattle.script_reader.proofs.ScriptEndLemmas.{same_place, split_script, split_whole}
use Rattle.script_reader.proofs.split.scripts_are_split_off.Goals as goal

pub returns-clause-script : goal.returns-clause-script
returns-clause-script c = split_script

pub returns-clause-same : goal.returns-clause-same
returns-clause-same c = same_place

pub returns-clause-whole : goal.returns-clause-whole
returns-clause-whole c = λ text more script is ends. split_whole text more script ends.0 ends.1 is ends.2 ends.3
