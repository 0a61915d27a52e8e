use Rattle.std.proofs.Common.{refl, sym}
use Rattle.script_reader.proofs.CommandLemmas.{end_read}
use Rattle.script_reader.proofs.FaultsLaws.{code_transaction}
use Rattle.script_reader.proofs.reader.Reader.take_end.Goals as goal

pub returns-then-is_begun : goal.returns-then-is_begun
returns-then-is_begun c = code_transaction _ _ _ c.requires.stands.header c.requires.stands.word refl refl refl refl refl refl (sym c.if-is_begun.ensures)

pub returns : goal.returns
returns c =
    end_read c.args.self.now c.requires.kept c.requires.stands (sym c.if-is_begun.ensures)
