use Rattle.std.proofs.Common.{rules, ℕ, List, Bor, map, is_some, refl, ap, sym, ◌∙◌}
use Rattle.std.proofs.lemmas.Bool.{not-true, not-false}
use Rattle.std.proofs.lemmas.Result.{err_from_is_err_and}
use Rattle.script_reader.specs.Faults.{code_of}
use Rattle.script_reader.specs.Reader.{so_far}
use Rattle.script_reader.specs.declared.keyword.Keyword.TheVariants as keywords
use Rattle.script_reader.proofs.PinLemmas.{either_first}
use Rattle.script_reader.proofs.DeclaredLemmas.{name_fault, numbers_read, numbers_unread, numbers_say, either_second, neither, at_most_is, declared_is, key_number, key_name, key_twice, key_unknown, key_limit, key_read, few_workers, workers_told}
use Rattle.script_reader.proofs.reader.Reader.take_key.Goals as goal
use Rattle.script_reader.proofs.reader.Reader.take_key.Goals.{then-is_some-via-then-is_some, then-is_some-via-else-is_some+in_ok-has_repeat+then-branch, then-as_slice-ge128-via-then-as_slice-ge128, then-as_slice-ge128-via-else-as_slice-ge128+then-not-is_factor}

-- the words after references
words_of : List (Bor (List ℕ)) → List (List ℕ)
words_of words = map (λ word. word.now) words

pub returns-in_default : goal.returns-in_default
unfolding words_of
returns-in_default c = λ words are stands.
    key_number (so_far c.args.self.now) words c.args.name.now c.args.kind c.args.by_factor (words_of c.args.number_words.now) are stands (numbers_unread (words_of c.args.number_words.now) c.in_ok-numbers.field-0 c.in_default.is c.in_ok-numbers.ensures)

pub returns-in_err-key_name : goal.returns-in_err-key_name
unfolding words_of
returns-in_err-key_name c =
    let p = err_from_is_err_and c.from_residual-in_err-key_name.result c.from_residual-in_err-key_name.ensures.1 in
    rw (p.1, p.2) (λ words are stands.
    name_fault c.args.name.now (code_of (so_far c.args.self.now) keywords.Key words) c.in_err-key_name.field-0.0 c.in_err-key_name.ensures
    (key_name (so_far c.args.self.now) words c.args.name.now c.args.kind c.args.by_factor (words_of c.args.number_words.now) c.in-Some.numbers.items are stands (numbers_read (words_of c.args.number_words.now) c.in_ok-numbers.field-0 c.in-Some.numbers c.in-Some.is c.in_ok-numbers.ensures)))

pub returns-then-is_some : goal.returns-then-is_some
unfolding words_of
returns-then-is_some c = λ words are stands.
    key_twice (so_far c.args.self.now) words c.args.name.now c.args.kind c.args.by_factor (words_of c.args.number_words.now) c.pins_or_factor-factor.result.0.now c.pins_or_factor-factor.result.1 are stands
    (numbers_say c.args.by_factor (words_of c.args.number_words.now) c.in-Some.numbers.items c.deref.result.now c.pins_or_factor-factor.result.0.now c.pins_or_factor-factor.result.1
    (numbers_read (words_of c.args.number_words.now) c.in_ok-numbers.field-0 c.in-Some.numbers c.in-Some.is c.in_ok-numbers.ensures) c.deref.ensures.value c.pins_or_factor-factor.ensures.pins c.pins_or_factor-factor.ensures.factor)
    c.in_ok-key_name.ensures.1
    (elim c.then-is_some.branch [
      | then-is_some-via-then-is_some w ↦ either_first _ _ (declared_is c.args.self.now c.args.name.now c.requires.kept ∙ ap is_some (sym c.place_of.ensures) ∙ sym c.is_some.ensures ∙ w.if-is_some.true)
      | then-is_some-via-else-is_some+in_ok-has_repeat+then-branch w ↦ either_second _ _ (sym w.in_ok-has_repeat.ensures ∙ w.if-branch.true)
    ])

pub returns-then-not-are_workers : goal.returns-then-not-are_workers
unfolding words_of
returns-then-not-are_workers c = λ words are stands.
    key_unknown (so_far c.args.self.now) words c.args.name.now c.args.kind c.args.by_factor (words_of c.args.number_words.now) c.pins_or_factor-factor.result.0.now c.pins_or_factor-factor.result.1 are stands
    (numbers_say c.args.by_factor (words_of c.args.number_words.now) c.in-Some.numbers.items c.deref.result.now c.pins_or_factor-factor.result.0.now c.pins_or_factor-factor.result.1
    (numbers_read (words_of c.args.number_words.now) c.in_ok-numbers.field-0 c.in-Some.numbers c.in-Some.is c.in_ok-numbers.ensures) c.deref.ensures.value c.pins_or_factor-factor.ensures.pins c.pins_or_factor-factor.ensures.factor)
    c.in_ok-key_name.ensures.1
    (neither _ _
    (declared_is c.args.self.now c.args.name.now c.requires.kept ∙ ap is_some (sym c.place_of.ensures) ∙ sym c.is_some.ensures ∙ c.if-is_some.false)
    (sym c.in_ok-has_repeat.ensures ∙ c.if-branch.false))
    (not-false _ (workers_told c.args.self.now.config.workers c.pins_or_factor-factor.result.0.now c.pins_or_factor-factor.result.0.now c.are_workers.result _ c.are_workers.ensures refl c.if-not-are_workers.true))

pub returns-then-as_slice-ge128 : goal.returns-then-as_slice-ge128
unfolding words_of
returns-then-as_slice-ge128 c = λ words are stands.
    key_limit (so_far c.args.self.now) words c.args.name.now c.args.kind c.args.by_factor (words_of c.args.number_words.now) c.pins_or_factor-factor.result.0.now c.pins_or_factor-factor.result.1 are stands
    (numbers_say c.args.by_factor (words_of c.args.number_words.now) c.in-Some.numbers.items c.deref.result.now c.pins_or_factor-factor.result.0.now c.pins_or_factor-factor.result.1
    (numbers_read (words_of c.args.number_words.now) c.in_ok-numbers.field-0 c.in-Some.numbers c.in-Some.is c.in_ok-numbers.ensures) c.deref.ensures.value c.pins_or_factor-factor.ensures.pins c.pins_or_factor-factor.ensures.factor)
    c.in_ok-key_name.ensures.1
    (neither _ _
    (declared_is c.args.self.now c.args.name.now c.requires.kept ∙ ap is_some (sym c.place_of.ensures) ∙ sym c.is_some.ensures ∙ c.if-is_some.false)
    (sym c.in_ok-has_repeat.ensures ∙ c.if-branch.false))
    (not-true _ (workers_told c.args.self.now.config.workers c.pins_or_factor-factor.result.0.now c.pins_or_factor-factor.result.0.now c.are_workers.result _ c.are_workers.ensures refl c.if-not-are_workers.false))
    (elim c.then-as_slice-ge128.branch [
      | then-as_slice-ge128-via-then-as_slice-ge128 w ↦ either_first _ _ (at_most_is (rw c.as_slice.ensures at w.if-as_slice-ge128.true))
      | then-as_slice-ge128-via-else-as_slice-ge128+then-not-is_factor w ↦ either_second _ _ (not-false _ (sym w.is_factor.ensures ∙ w.if-not-is_factor.true))
    ])

pub pins-requires : goal.pins-requires
pins-requires c = few_workers c.args.self.now c.pins_or_factor-factor.result.0.now c.requires.kept (not-true _ (workers_told c.args.self.now.config.workers c.pins_or_factor-factor.result.0.now c.pins_or_factor-factor.result.0.now c.are_workers.result _ c.are_workers.ensures refl c.if-not-are_workers.false))

pub returns : goal.returns
unfolding words_of
returns c = λ words are stands.
    key_read c.args.self.now words c.args.name.now c.args.kind c.args.by_factor (words_of c.args.number_words.now) c.pins_or_factor-factor.result.0.now c.pins_or_factor-factor.result.1 c.add.new.self c.push.new.self c.push-2.new.self (record { name = c.in_ok-key_name.key_name; pins = c.new-pins.result; factor = c.map.result })
    c.requires.kept are stands
    (numbers_say c.args.by_factor (words_of c.args.number_words.now) c.in-Some.numbers.items c.deref.result.now c.pins_or_factor-factor.result.0.now c.pins_or_factor-factor.result.1
    (numbers_read (words_of c.args.number_words.now) c.in_ok-numbers.field-0 c.in-Some.numbers c.in-Some.is c.in_ok-numbers.ensures) c.deref.ensures.value c.pins_or_factor-factor.ensures.pins c.pins_or_factor-factor.ensures.factor)
    c.in_ok-key_name.ensures.1
    (neither _ _
    (declared_is c.args.self.now c.args.name.now c.requires.kept ∙ ap is_some (sym c.place_of.ensures) ∙ sym c.is_some.ensures ∙ c.if-is_some.false)
    (sym c.in_ok-has_repeat.ensures ∙ c.if-branch.false))
    (not-true _ (workers_told c.args.self.now.config.workers c.pins_or_factor-factor.result.0.now c.pins_or_factor-factor.result.0.now c.are_workers.result _ c.are_workers.ensures refl c.if-not-are_workers.false))
    (rw c.as_slice.ensures at c.if-as_slice-ge128.false)
    (not-true _ (sym c.is_factor.ensures ∙ c.if-not-is_factor.false))
    c.in_ok-add.ensures c.in_ok-push.ensures.items c.in_ok-push-2.ensures
    c.in_ok-key_name.ensures.0
    (c.new-pins.ensures ∙ c.in_ok-pins.ensures)
    (search rules)
