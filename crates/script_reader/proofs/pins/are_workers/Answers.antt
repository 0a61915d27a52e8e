use Rattle.std.proofs.Common.{◌∙◌, rules}
use Rattle.std.proofs.lemmas.Iterator.{YieldsList-from_slice}
use Rattle.std.proofs.lemmas.Iterator.Search.{all_from_yields_List}
use borrow.Author.Tests.{tests}
use Rattle.script_reader.proofs.PinLemmas.{all_not_any}
use Rattle.script_reader.specs.Faults.{is_within}
use Rattle.script_reader.proofs.pins.are_workers.Goals as goal

pub returns : goal.returns
returns c = all_from_yields_List (is_within 1 c.args.workers) _ _ _ c.all.ensures.ran (YieldsList-from_slice c.args.numbers.now cc) (λ x b q k. search (rules, tests)) ∙ all_not_any (is_within 1 c.args.workers) c.args.numbers.now
