use Rattle.std.proofs.Common.{◌+◌, not, [], ◌∷◌, None, is_some, refl, sym, ap}
use Rattle.session_known.specs.declared.script.Line.TheVariants as lines
use Rattle.script_reader.proofs.CommandLemmas.{command_read, in_session, holds_not, fails_not, found_number}
use Rattle.script_reader.proofs.FaultsLaws.{code_name, code_unknown, code_limit, code_none}
use Rattle.script_reader.specs.Reader.{so_far, IsKeyAt}
use Rattle.script_reader.specs.declared.keyword.Keyword.TheVariants.{Get}
use Rattle.script_reader.proofs.reader.Reader.take_get.Goals as goal

pub returns-then-not-is_spelling : goal.returns-then-not-is_spelling
returns-then-not-is_spelling c = code_name _ _ _ c.requires.stands.header c.requires.stands.word refl (ap not (sym c.if-not-is_spelling.ensures))

pub returns-in_default : goal.returns-in_default
returns-in_default c = code_unknown _ _ _ c.requires.stands.header c.requires.stands.word refl (ap not (sym c.if-not-is_spelling.ensures)) refl (ap (λ place. not (is_some place)) c.in_default.ensures)

pub returns-then-not-has_room : goal.returns-then-not-has_room
returns-then-not-has_room c = code_limit _ _ _ c.requires.stands.header c.requires.stands.word refl (ap not (sym c.if-not-is_spelling.ensures)) refl (ap (λ place. not (is_some place)) c.in-Some.ensures.place_is) refl (holds_not _ c.if-not-has_room.ensures)

pub returns : goal.returns
returns c =
    let found : IsKeyAt (so_far c.args.self.now) c.args.key.now c.in-Some.place c.in-Some.field-0-1 = c.in-Some.ensures in
    let number = found_number (so_far c.args.self.now) c.args.key.now _ _ found in
    let faultless = code_none (so_far c.args.self.now) Get (c.args.key.now ∷ []) c.requires.stands.header c.requires.stands.word refl (ap not (sym c.if-not-is_spelling.ensures)) refl (ap (λ place. not (is_some place)) found.place_is) refl (fails_not _ c.if-not-has_room.ensures) refl in
    command_read c.args.self.now c.add.new.self c.add.result Get (c.args.key.now ∷ []) (lines.Get (c.in-Some.place + 1) None) c.requires.kept (in_session _ _ c.requires.stands.word)
    (record { factor = refl; round = refl; script = refl; said = ap (λ key. lines.Get key None) number; begun = refl; faultless = faultless }) c.add.ensures
