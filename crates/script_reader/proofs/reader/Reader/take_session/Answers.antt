use Rattle.std.proofs.Common.{sym, ◌∙◌}
use Rattle.std.proofs.lemmas.Result.{err_from_is_err_and}
use Rattle.script_reader.specs.Faults.{code_of}
use Rattle.script_reader.specs.Reader.{so_far}
use Rattle.script_reader.specs.Words.{lent}
use Rattle.script_reader.specs.declared.keyword.Keyword.TheVariants as keywords
use Rattle.script_reader.proofs.DeclaredLemmas.{name_fault, session_name, session_other_name, session_twice, session_unknown, session_limit, session_begun, session_told}
use Rattle.script_reader.proofs.reader.Reader.take_session.Goals as goal

pub returns-in_err-session_name : goal.returns-in_err-session_name
returns-in_err-session_name c =
    let p = err_from_is_err_and c.from_residual.result c.from_residual.ensures.1 in
    rw (p.1, p.2) (λ words are stands. name_fault c.args.name.now (code_of (so_far c.args.self.now) keywords.Session words) c.in_err-session_name.field-0.0 c.in_err-session_name.ensures (session_name (so_far c.args.self.now) words c.args.name.now c.args.level (lent c.args.after) are stands))

pub returns-then-not-is_name_if_any : goal.returns-then-not-is_name_if_any
returns-then-not-is_name_if_any c = λ words are stands.
    session_other_name (so_far c.args.self.now) words c.args.name.now c.args.level (lent c.args.after) are stands c.in_ok-session_name.ensures.1 (sym c.if-not-is_name_if_any.ensures)

pub returns-then-has_session : goal.returns-then-has_session
returns-then-has_session c = λ words are stands.
    session_twice (so_far c.args.self.now) words c.args.name.now c.args.level (lent c.args.after) are stands (record { own = c.in_ok-session_name.ensures.1; other = sym c.if-not-is_name_if_any.ensures }) (sym c.has_session.ensures ∙ c.if-has_session.true)

pub returns-then-lacks_predecessor : goal.returns-then-lacks_predecessor
returns-then-lacks_predecessor c = λ words are stands.
    session_unknown (so_far c.args.self.now) words c.args.name.now c.args.level (lent c.args.after) are stands (record { own = c.in_ok-session_name.ensures.1; other = sym c.if-not-is_name_if_any.ensures }) (sym c.has_session.ensures ∙ c.if-has_session.false)
    (sym c.lacks_predecessor.ensures ∙ c.if-lacks_predecessor.true)

pub returns-then-sessions_len-ge16 : goal.returns-then-sessions_len-ge16
returns-then-sessions_len-ge16 c = λ words are stands.
    session_limit (so_far c.args.self.now) words c.args.name.now c.args.level (lent c.args.after) are stands (record { own = c.in_ok-session_name.ensures.1; other = sym c.if-not-is_name_if_any.ensures }) (sym c.has_session.ensures ∙ c.if-has_session.false)
    (sym c.lacks_predecessor.ensures ∙ c.if-lacks_predecessor.false) (rw c.sessions_len.ensures at c.if-sessions_len-ge16.true)

pub returns-then-is_begun : goal.returns-then-is_begun
returns-then-is_begun c = λ words are stands.
    session_begun (so_far c.args.self.now) words c.args.name.now c.args.level (lent c.args.after) are stands (record { own = c.in_ok-session_name.ensures.1; other = sym c.if-not-is_name_if_any.ensures }) (sym c.has_session.ensures ∙ c.if-has_session.false)
    (sym c.lacks_predecessor.ensures ∙ c.if-lacks_predecessor.false) (rw c.sessions_len.ensures at c.if-sessions_len-ge16.false) (sym c.is_begun.ensures ∙ c.if-is_begun.true)

pub returns : goal.returns
returns c = λ words are stands.
    session_told c.args.self.now _ c.open.result words c.args.name.now (lent c.args.after) _ c.requires.kept are stands (record { own = c.in_ok-session_name.ensures.1; other = sym c.if-not-is_name_if_any.ensures }) (sym c.has_session.ensures ∙ c.if-has_session.false)
    (sym c.lacks_predecessor.ensures ∙ c.if-lacks_predecessor.false) (rw c.sessions_len.ensures at c.if-sessions_len-ge16.false)
    (sym c.is_begun.ensures ∙ c.if-is_begun.false) (record { name_is = c.in_ok-session_name.ensures.0; after_is = c.number_after.ensures; empty = c.new-2.ensures ∙ c.new.ensures.items }) c.open.ensures
