use Rattle.std.proofs.Common.{◌≡◌, ◌+◌, ◌||◌, not, ◌&&◌, map, ◌∷◌, Some, unwrap_or, is_some, refl, sym, ap, ◌∙◌}
use Rattle.session_known.specs.declared.script.Line.TheVariants as lines
use Rattle.script_reader.proofs.CommandLemmas.{command_read, in_session, holds_not, fails_not, found_number, no_payload, not_too_much, payload_fits, put_payload, too_much_is}
use Rattle.composed_value.specs.declared.payload.Payload.TheVariants as payloads
use Rattle.script_reader.specs.Faults.{has_great_amount, keys_of}
use Rattle.script_reader.specs.Said.{number_in}
use Rattle.script_reader.proofs.FaultsLaws.{code_number, code_name, code_unknown, code_limit, code_none}
use Rattle.script_reader.specs.Reader.{so_far}
use Rattle.script_reader.specs.declared.keyword.Keyword.TheVariants.{Put}
use Rattle.script_reader.proofs.reader.Reader.take_put.Goals as goal

pub returns-then-says_too_much : goal.returns-then-says_too_much
returns-then-says_too_much c = code_number _ _ _ c.requires.stands.header c.requires.stands.word (sym (too_much_is (so_far c.args.self.now) c.args.key.now (map (λ word. word.now) c.args.words.now) c.find_key-found.result c.find_key-found.ensures) ∙ sym c.says_too_much.ensures ∙ c.if-says_too_much.true)

pub returns-then-not-is_spelling : goal.returns-then-not-is_spelling
returns-then-not-is_spelling c =
    let number = not_too_much (so_far c.args.self.now) c.args.key.now (map (λ word. word.now) c.args.words.now) _ _ c.find_key-found.ensures c.says_too_much.ensures c.if-says_too_much.false in
    code_name _ _ _ c.requires.stands.header c.requires.stands.word number (ap not (sym c.if-not-is_spelling.ensures))

pub returns-in_default : goal.returns-in_default
returns-in_default c =
    let number = not_too_much (so_far c.args.self.now) c.args.key.now (map (λ word. word.now) c.args.words.now) _ _ c.find_key-found.ensures c.says_too_much.ensures c.if-says_too_much.false in
    code_unknown _ _ _ c.requires.stands.header c.requires.stands.word number (ap not (sym c.if-not-is_spelling.ensures)) refl (ap (λ place. not (is_some place)) c.in_default.ensures)

pub returns-in_default-payload : goal.returns-in_default-payload
returns-in_default-payload c =
    let number = not_too_much (so_far c.args.self.now) c.args.key.now (map (λ word. word.now) c.args.words.now) _ _ c.find_key-found.ensures c.says_too_much.ensures c.if-says_too_much.false in
    no_payload (so_far c.args.self.now) c.args.key.now (map (λ word. word.now) c.args.words.now) c.in-Some.place c.in-Some.kind _ c.requires.stands number (sym c.if-not-is_spelling.ensures) c.in-Some.ensures c.in_default-payload.ensures c.why_no_payload.ensures

pub returns-then-not-has_room : goal.returns-then-not-has_room
returns-then-not-has_room c =
    let context = so_far c.args.self.now in
    let words = map (λ word. word.now) c.args.words.now in
    let number = not_too_much context c.args.key.now words _ _ c.find_key-found.ensures c.says_too_much.ensures c.if-says_too_much.false in
    let payload = put_payload context c.args.key.now words c.in-Some.place c.in-Some.kind (Some c.in-Some-payload.payload) c.in-Some.ensures c.in-Some-payload.ensures in
    let great = payload_fits context c.args.key.now words c.in-Some.place c.in-Some.kind c.in-Some-payload.payload c.in-Some.ensures c.in-Some-payload.ensures in
    let full = holds_not _ c.if-not-has_room.ensures in
    code_limit _ _ _ c.requires.stands.header c.requires.stands.word number (ap not (sym c.if-not-is_spelling.ensures)) refl (ap (λ place. not (is_some place)) c.in-Some.ensures.place_is) (ap (λ payload. not (is_some payload) && not (has_great_amount context c.args.key.now words)) payload)
    (λ i. great i || full i)

pub returns : goal.returns
returns c =
    let context = so_far c.args.self.now in
    let words = map (λ word. word.now) c.args.words.now in
    let number = not_too_much context c.args.key.now words _ _ c.find_key-found.ensures c.says_too_much.ensures c.if-says_too_much.false in
    let payload = put_payload context c.args.key.now words c.in-Some.place c.in-Some.kind (Some c.in-Some-payload.payload) c.in-Some.ensures c.in-Some-payload.ensures in
    let great = payload_fits context c.args.key.now words c.in-Some.place c.in-Some.kind c.in-Some-payload.payload c.in-Some.ensures c.in-Some-payload.ensures in
    let few = fails_not _ c.if-not-has_room.ensures in
    let key : number_in (keys_of context) c.args.key.now ≡ c.in-Some.place + 1 = found_number context c.args.key.now _ _ c.in-Some.ensures in
    let faultless = code_none context Put (c.args.key.now ∷ words) c.requires.stands.header c.requires.stands.word number (ap not (sym c.if-not-is_spelling.ensures)) refl (ap (λ place. not (is_some place)) c.in-Some.ensures.place_is)
    (ap (λ payload. not (is_some payload) && not (has_great_amount context c.args.key.now words)) payload) (λ i. great i || few i) refl in
    command_read c.args.self.now c.add.new.self c.add.result Put (c.args.key.now ∷ words) (lines.Put (c.in-Some.place + 1) c.in-Some-payload.payload) c.requires.kept (in_session _ _ c.requires.stands.word)
    (record { factor = refl; round = refl; script = refl; said = λ i. lines.Put (key i) (unwrap_or (payload i) payloads.On); begun = refl; faultless = faultless }) c.add.ensures
