use Rattle.std.proofs.Common.{◌≡◌, ◌+◌, ◌≤◌, ◌&&◌, not, [], ◌∷◌, Some, is_some, unwrap_or, refl, sym, ap, arith}
use Rattle.session_known.specs.declared.script.Line.TheVariants as lines
use Rattle.script_reader.proofs.CommandLemmas.{command_read, IsInSession, in_session, holds_not, fails_not, found_number, unknown_worker, replica_few}
use Rattle.script_reader.specs.Faults.{is_replica}
use Rattle.script_reader.proofs.FaultsLaws.{code_number, code_name, code_unknown, code_limit, code_none}
use Rattle.script_reader.specs.Reader.{so_far, IsKeyAt}
use Rattle.script_reader.specs.Words.{number_of}
use Rattle.script_reader.specs.declared.keyword.Keyword.TheVariants.{Get}
use Rattle.script_reader.proofs.reader.Reader.take_get_from.Goals as goal

pub returns-in_default : goal.returns-in_default
returns-in_default c = code_number _ _ _ c.requires.stands.header c.requires.stands.word (ap (λ number. not (is_some number)) (sym c.in_default.ensures))

pub returns-then-not-is_spelling : goal.returns-then-not-is_spelling
returns-then-not-is_spelling c = code_name _ _ _ c.requires.stands.header c.requires.stands.word (ap (λ number. not (is_some number)) (sym c.in-Some.ensures)) (ap not (sym c.if-not-is_spelling.ensures))

pub returns-in_default-find_key : goal.returns-in_default-find_key
returns-in_default-find_key c = code_unknown _ _ _ c.requires.stands.header c.requires.stands.word (ap (λ number. not (is_some number)) (sym c.in-Some.ensures)) (ap not (sym c.if-not-is_spelling.ensures)) refl (ap (λ place. not (is_some place && is_replica (so_far c.args.self.now) c.args.key.now (number_of c.args.worker.now))) c.in_default-find_key.ensures)

pub returns-then-not-is_replica : goal.returns-then-not-is_replica
returns-then-not-is_replica c = code_unknown _ _ _ c.requires.stands.header c.requires.stands.word (ap (λ number. not (is_some number)) (sym c.in-Some.ensures)) (ap not (sym c.if-not-is_spelling.ensures)) refl (unknown_worker (so_far c.args.self.now) c.args.key.now c.args.worker.now _ _ _ _ c.in-Some-find_key.ensures c.in-Some.ensures (sym c.if-not-is_replica.ensures))

pub returns-then-not-has_room : goal.returns-then-not-has_room
returns-then-not-has_room c = code_limit _ _ _ c.requires.stands.header c.requires.stands.word (ap (λ number. not (is_some number)) (sym c.in-Some.ensures)) (ap not (sym c.if-not-is_spelling.ensures)) refl (unknown_worker (so_far c.args.self.now) c.args.key.now c.args.worker.now _ _ _ _ c.in-Some-find_key.ensures c.in-Some.ensures (sym c.if-not-is_replica.ensures)) refl (holds_not _ c.if-not-has_room.ensures)

pub overflow_cast-worker : goal.overflow_cast-worker
overflow_cast-worker c =
    let stands : IsInSession (so_far c.args.self.now) = in_session _ _ c.requires.stands.word in
    let few : c.in-Some.worker ≤ 8 = replica_few c.args.self.now.config c.in-Some-find_key.place c.in-Some.worker (c.requires.kept.valid stands.workers) c.in-Some-find_key.ensures.within (sym c.if-not-is_replica.ensures) in
    omega arith

pub returns : goal.returns
returns c =
    let found : IsKeyAt (so_far c.args.self.now) c.args.key.now c.in-Some-find_key.place c.in-Some-find_key.field-0-1 = c.in-Some-find_key.ensures in
    let number = found_number (so_far c.args.self.now) c.args.key.now _ _ found in
    let worker : number_of c.args.worker.now ≡ c.in-Some.worker = ap (λ number. unwrap_or number 0) (sym c.in-Some.ensures) in
    let known = unknown_worker (so_far c.args.self.now) c.args.key.now c.args.worker.now _ _ _ _ found c.in-Some.ensures (sym c.if-not-is_replica.ensures) in
    let faultless = code_none (so_far c.args.self.now) Get (c.args.key.now ∷ c.args.worker.now ∷ []) c.requires.stands.header c.requires.stands.word (ap (λ number. not (is_some number)) (sym c.in-Some.ensures)) (ap not (sym c.if-not-is_spelling.ensures)) refl known refl (fails_not _ c.if-not-has_room.ensures) refl in
    command_read c.args.self.now c.add.new.self c.add.result Get (c.args.key.now ∷ c.args.worker.now ∷ []) (lines.Get (c.in-Some-find_key.place + 1) (Some c.in-Some.worker)) c.requires.kept (in_session _ _ c.requires.stands.word)
    (record { factor = refl; round = refl; script = refl; said = λ i. lines.Get (number i) (Some (worker i)); begun = refl; faultless = faultless }) c.add.ensures
