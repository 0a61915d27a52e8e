use Rattle.report_reader.proofs.ReadClocks.{clocked_cut}
use Rattle.report_reader.proofs.clocks.read_clocked.Goals as goal

pub returns-in_default-read_word : goal.returns-in_default-read_word
returns-in_default-read_word c = λ clocked is same. c.in_default-read_word.ensures clocked.0 is.0 (clocked_cut c.args.script.now clocked c.args.text.now c.in-Some.word.now c.in-Some.clock.now c.in-Some.ensures is same).0

pub returns-in_default-2 : goal.returns-in_default-2
returns-in_default-2 c = λ clocked is same. (rw c.in_default-2.is at c.in_ok-clock.ensures) clocked.1 is.1 (clocked_cut c.args.script.now clocked c.args.text.now c.in-Some.word.now c.in-Some.clock.now c.in-Some.ensures is same).1
