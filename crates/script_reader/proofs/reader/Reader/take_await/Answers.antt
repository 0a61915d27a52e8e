use Rattle.std.proofs.Common.{◌≡◌, ◌+◌, ◌&&◌, not, [], ◌∷◌, min, is_some, unwrap_or, refl, sym, ap, ◌∙◌, arith}
use Rattle.session_known.specs.declared.script.Line.TheVariants as lines
use Rattle.script_reader.proofs.CommandLemmas.{command_read, in_session, holds_not, fails_not, both_spelled, found_number}
use Rattle.script_reader.proofs.reader.Reader.take_await.Goals.{then-not-is_spelling-via-then-not-is_spelling, then-not-is_spelling-via-else-not-is_spelling+then-not-is_spelling-2}
use Rattle.script_reader.specs.Faults.{keys_of}
use Rattle.script_reader.proofs.FaultsLaws.{code_number, code_name, code_unknown, code_limit, code_none}
use Rattle.script_reader.specs.Reader.{so_far}
use Rattle.script_reader.specs.Said.{place_of, number_in, session_number}
use Rattle.script_reader.specs.Words.{is_name, number_of}
use Rattle.script_reader.specs.declared.keyword.Keyword.TheVariants.{Await}
use Rattle.script_reader.proofs.reader.Reader.take_await.Goals as goal

pub returns-in_default : goal.returns-in_default
returns-in_default c = code_number _ _ _ c.requires.stands.header c.requires.stands.word (ap (λ number. not (is_some number)) (sym c.in_default.ensures))

pub returns-then-not-is_spelling : goal.returns-then-not-is_spelling
returns-then-not-is_spelling c = code_name _ _ _ c.requires.stands.header c.requires.stands.word (ap (λ number. not (is_some number)) (sym c.in-Some.ensures)) (elim c.then-not-is_spelling.branch [
  | then-not-is_spelling-via-then-not-is_spelling w ↦ ap (λ key. not (key && is_name c.args.session.now)) (sym w.if-not-is_spelling.ensures)
  | then-not-is_spelling-via-else-not-is_spelling+then-not-is_spelling-2 w ↦ λ i. not (sym w.if-not-is_spelling.ensures i && sym w.if-not-is_spelling-2.ensures i)
])

pub returns-in_default-find_key : goal.returns-in_default-find_key
returns-in_default-find_key c = code_unknown _ _ _ c.requires.stands.header c.requires.stands.word (ap (λ number. not (is_some number)) (sym c.in-Some.ensures)) (both_spelled _ _ c.if-not-is_spelling.ensures c.if-not-is_spelling-2.ensures) refl (ap (λ place. not (is_some place && is_some (place_of c.args.self.now.named c.args.session.now))) c.in_default-find_key.ensures)

pub returns-in_default-place_of : goal.returns-in_default-place_of
returns-in_default-place_of c = code_unknown _ _ _ c.requires.stands.header c.requires.stands.word (ap (λ number. not (is_some number)) (sym c.in-Some.ensures)) (both_spelled _ _ c.if-not-is_spelling.ensures c.if-not-is_spelling-2.ensures) refl (λ i. not (is_some (c.in-Some-find_key.ensures.place_is i) && is_some (sym c.in_default-place_of.ensures i)))

pub returns-then-not-has_room : goal.returns-then-not-has_room
returns-then-not-has_room c = code_limit _ _ _ c.requires.stands.header c.requires.stands.word (ap (λ number. not (is_some number)) (sym c.in-Some.ensures)) (both_spelled _ _ c.if-not-is_spelling.ensures c.if-not-is_spelling-2.ensures) refl (λ i. not (is_some (c.in-Some-find_key.ensures.place_is i) && is_some (sym c.in-Some-place_of.ensures i))) refl (holds_not _ c.if-not-has_room.ensures)

pub returns : goal.returns
returns c =
    let key : number_in (keys_of (so_far c.args.self.now)) c.args.key.now ≡ c.in-Some-find_key.place + 1 = found_number (so_far c.args.self.now) c.args.key.now _ _ c.in-Some-find_key.ensures in
    let session : session_number c.args.self.now.named c.args.session.now ≡ c.min.result + 1 = ap (λ place. min (unwrap_or place 0 + 1) 65535) (sym c.in-Some-place_of.ensures) ∙ omega arith in
    let count : number_of c.args.count.now ≡ c.in-Some.count = ap (λ number. unwrap_or number 0) (sym c.in-Some.ensures) in
    let faultless = code_none (so_far c.args.self.now) Await (c.args.key.now ∷ c.args.session.now ∷ c.args.count.now ∷ []) c.requires.stands.header c.requires.stands.word (ap (λ number. not (is_some number)) (sym c.in-Some.ensures)) (both_spelled _ _ c.if-not-is_spelling.ensures c.if-not-is_spelling-2.ensures) refl (λ i. not (is_some (c.in-Some-find_key.ensures.place_is i) && is_some (sym c.in-Some-place_of.ensures i))) refl (fails_not _ c.if-not-has_room.ensures) refl in
    command_read c.args.self.now c.add.new.self c.add.result Await (c.args.key.now ∷ c.args.session.now ∷ c.args.count.now ∷ []) (lines.Await (c.in-Some-find_key.place + 1) (c.min.result + 1) c.in-Some.count) c.requires.kept (in_session _ _ c.requires.stands.word)
    (record { factor = refl; round = refl; script = refl; said = λ i. lines.Await (key i) (session i) (count i); begun = refl; faultless = faultless }) c.add.ensures
