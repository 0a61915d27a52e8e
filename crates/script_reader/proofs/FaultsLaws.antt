-- Which condition gives a line its code: where it has none, no condition holds, and otherwise the first that holds gives it.
use Rattle.std.specs.Prelude.{◌≡◌, ℕ, Bool, true, false, cond, not, ◌&&◌, List, Option, Some, None}
use Rattle.std.proofs.Common.{refl}
use Rattle.script_reader.specs.Faults.{Context, level_of, may_follow, may_have, suits, is_in_version, lacks_header, lacks_word, lacks_number, lacks_name, repeats, is_unknown, misfits, passes_limit, breaks_transaction, code_of}
use Rattle.script_reader.specs.declared.code.Code.{Code}
use Rattle.script_reader.specs.declared.code.Code.TheVariants as codes_of
use Rattle.script_reader.specs.declared.keyword.Keyword.{Keyword}

-- where a condition gives no code, it does not hold, and the rest gives none
pub none_here : (held : Bool) (code : Code) (rest : Option Code) → cond held (Some code) rest ≡ None → (held ≡ false) × (rest ≡ None)
none_here true code rest none = absurd cc
none_here false code rest none = (refl, none)

-- a condition that does not hold leaves the code to the rest
past : (held : Bool) (code : Code) (rest answer : Option Code) → held ≡ false → rest ≡ answer → cond held (Some code) rest ≡ answer
past true code rest answer fine is = absurd cc
past false code rest answer fine is = is

-- a condition that holds gives its code
here : (held : Bool) (code : Code) (rest : Option Code) → held ≡ true → cond held (Some code) rest ≡ Some code
here true code rest holds = refl
here false code rest holds = absurd cc

-- none of nine conditions holds
record AreFine (header word number name twice unknown kind limit transaction : Bool) : Type 0 where
  header_is : header ≡ false
  word_is : word ≡ false
  number_is : number ≡ false
  name_is : name ≡ false
  twice_is : twice ≡ false
  unknown_is : unknown ≡ false
  kind_is : kind ≡ false
  limit_is : limit ≡ false
  transaction_is : transaction ≡ false

-- where a statement has no code, none of its conditions holds
fine : (context : Context) (keyword : Keyword) (words : List (List ℕ)) → code_of context keyword words ≡ None
    → AreFine (lacks_header context keyword words) (lacks_word context keyword words) (lacks_number context keyword words) (lacks_name keyword words) (repeats context keyword words) (is_unknown context keyword words) (misfits context keyword words) (passes_limit context keyword words) (breaks_transaction context keyword)
unfolding code_of
fine context keyword words none =
    let at_header = none_here _ _ _ none in
    let at_word = none_here _ _ _ at_header.1 in
    let at_number = none_here _ _ _ at_word.1 in
    let at_name = none_here _ _ _ at_number.1 in
    let at_twice = none_here _ _ _ at_name.1 in
    let at_unknown = none_here _ _ _ at_twice.1 in
    let at_kind = none_here _ _ _ at_unknown.1 in
    let at_limit = none_here _ _ _ at_kind.1 in
    let at_transaction = none_here _ _ _ at_limit.1 in
    record { header_is = at_header.0; word_is = at_word.0; number_is = at_number.0; name_is = at_name.0; twice_is = at_twice.0; unknown_is = at_unknown.0; kind_is = at_kind.0; limit_is = at_limit.0; transaction_is = at_transaction.0 }

-- a statement with no code has no fault of the code `header`
pub header_fine : (context : Context) (keyword : Keyword) (words : List (List ℕ)) → code_of context keyword words ≡ None → lacks_header context keyword words ≡ false
header_fine context keyword words none = (fine context keyword words none).header_is

-- a statement with no code has no fault of the code `word`
pub word_fine : (context : Context) (keyword : Keyword) (words : List (List ℕ)) → code_of context keyword words ≡ None → lacks_word context keyword words ≡ false
word_fine context keyword words none = (fine context keyword words none).word_is

-- a statement with no code has no fault of the code `name`
pub name_fine : (context : Context) (keyword : Keyword) (words : List (List ℕ)) → code_of context keyword words ≡ None → lacks_name keyword words ≡ false
name_fine context keyword words none = (fine context keyword words none).name_is

-- a statement with no code has no fault of the code `twice`
pub twice_fine : (context : Context) (keyword : Keyword) (words : List (List ℕ)) → code_of context keyword words ≡ None → repeats context keyword words ≡ false
twice_fine context keyword words none = (fine context keyword words none).twice_is

-- a statement with no code has no fault of the code `unknown`
pub unknown_fine : (context : Context) (keyword : Keyword) (words : List (List ℕ)) → code_of context keyword words ≡ None → is_unknown context keyword words ≡ false
unknown_fine context keyword words none = (fine context keyword words none).unknown_is

-- a statement with no code has no fault of the code `kind`
pub kind_fine : (context : Context) (keyword : Keyword) (words : List (List ℕ)) → code_of context keyword words ≡ None → misfits context keyword words ≡ false
kind_fine context keyword words none = (fine context keyword words none).kind_is

-- a statement with no code has no fault of the code `limit`
pub limit_fine : (context : Context) (keyword : Keyword) (words : List (List ℕ)) → code_of context keyword words ≡ None → passes_limit context keyword words ≡ false
limit_fine context keyword words none = (fine context keyword words none).limit_is

-- a statement with no code has no fault of the code `transaction`
pub transaction_fine : (context : Context) (keyword : Keyword) (words : List (List ℕ)) → code_of context keyword words ≡ None → breaks_transaction context keyword ≡ false
transaction_fine context keyword words none = (fine context keyword words none).transaction_is

-- three conditions hold
record AreHeld (follows has_words suited : Bool) : Type 0 where
  follows_is : follows ≡ true
  has_words_is : has_words ≡ true
  suited_is : suited ≡ true

-- where three conditions hold together, each does
all_held : (follows has_words suited : Bool) → not (follows && (has_words && suited)) ≡ false → AreHeld follows has_words suited
all_held true true true none = record { follows_is = refl; has_words_is = refl; suited_is = refl }
all_held true true false none = absurd cc
all_held true false suited none = absurd cc
all_held false has_words suited none = absurd cc

-- a statement with no code may stand where it does, with its words, in its session
held : (context : Context) (keyword : Keyword) (words : List (List ℕ)) → code_of context keyword words ≡ None → AreHeld (may_follow context keyword) (may_have keyword words) (suits (level_of context) keyword words && is_in_version context.script.version keyword words)
held context keyword words none = all_held (may_follow context keyword) (may_have keyword words) (suits (level_of context) keyword words && is_in_version context.script.version keyword words) (word_fine context keyword words none)

-- a statement with no code may stand where it does
pub follow_fine : (context : Context) (keyword : Keyword) (words : List (List ℕ)) → code_of context keyword words ≡ None → may_follow context keyword ≡ true
follow_fine context keyword words none = (held context keyword words none).follows_is

-- it has the words that it may have
pub words_fine : (context : Context) (keyword : Keyword) (words : List (List ℕ)) → code_of context keyword words ≡ None → may_have keyword words ≡ true
words_fine context keyword words none = (held context keyword words none).has_words_is

-- the code of a statement where `header` is the first condition that holds
pub code_header : (context : Context) (keyword : Keyword) (words : List (List ℕ)) → lacks_header context keyword words ≡ true → code_of context keyword words ≡ Some codes_of.Header
unfolding code_of
code_header context keyword words holds = here _ _ _ holds

-- the code of a statement where `word` is the first condition that holds
pub code_word : (context : Context) (keyword : Keyword) (words : List (List ℕ)) → lacks_header context keyword words ≡ false → lacks_word context keyword words ≡ true → code_of context keyword words ≡ Some codes_of.Word
unfolding code_of
code_word context keyword words header holds = past _ _ _ _ header (here _ _ _ holds)

-- the code of a statement where `number` is the first condition that holds
pub code_number : (context : Context) (keyword : Keyword) (words : List (List ℕ)) → lacks_header context keyword words ≡ false → lacks_word context keyword words ≡ false → lacks_number context keyword words ≡ true → code_of context keyword words ≡ Some codes_of.Number
unfolding code_of
code_number context keyword words header word holds = past _ _ _ _ header (past _ _ _ _ word (here _ _ _ holds))

-- the code of a statement where `name` is the first condition that holds
pub code_name : (context : Context) (keyword : Keyword) (words : List (List ℕ)) → lacks_header context keyword words ≡ false → lacks_word context keyword words ≡ false → lacks_number context keyword words ≡ false → lacks_name keyword words ≡ true → code_of context keyword words ≡ Some codes_of.Name
unfolding code_of
code_name context keyword words header word number holds = past _ _ _ _ header (past _ _ _ _ word (past _ _ _ _ number (here _ _ _ holds)))

-- the code of a statement where `twice` is the first condition that holds
pub code_twice : (context : Context) (keyword : Keyword) (words : List (List ℕ)) → lacks_header context keyword words ≡ false → lacks_word context keyword words ≡ false → lacks_number context keyword words ≡ false → lacks_name keyword words ≡ false → repeats context keyword words ≡ true → code_of context keyword words ≡ Some codes_of.Twice
unfolding code_of
code_twice context keyword words header word number name holds = past _ _ _ _ header (past _ _ _ _ word (past _ _ _ _ number (past _ _ _ _ name (here _ _ _ holds))))

-- the code of a statement where `unknown` is the first condition that holds
pub code_unknown : (context : Context) (keyword : Keyword) (words : List (List ℕ)) → lacks_header context keyword words ≡ false → lacks_word context keyword words ≡ false → lacks_number context keyword words ≡ false → lacks_name keyword words ≡ false → repeats context keyword words ≡ false → is_unknown context keyword words ≡ true → code_of context keyword words ≡ Some codes_of.Unknown
unfolding code_of
code_unknown context keyword words header word number name twice holds = past _ _ _ _ header (past _ _ _ _ word (past _ _ _ _ number (past _ _ _ _ name (past _ _ _ _ twice (here _ _ _ holds)))))

-- the code of a statement where `kind` is the first condition that holds
pub code_kind : (context : Context) (keyword : Keyword) (words : List (List ℕ)) → lacks_header context keyword words ≡ false → lacks_word context keyword words ≡ false → lacks_number context keyword words ≡ false → lacks_name keyword words ≡ false → repeats context keyword words ≡ false → is_unknown context keyword words ≡ false → misfits context keyword words ≡ true → code_of context keyword words ≡ Some codes_of.Kind
unfolding code_of
code_kind context keyword words header word number name twice unknown holds = past _ _ _ _ header (past _ _ _ _ word (past _ _ _ _ number (past _ _ _ _ name (past _ _ _ _ twice (past _ _ _ _ unknown (here _ _ _ holds))))))

-- the code of a statement where `limit` is the first condition that holds
pub code_limit : (context : Context) (keyword : Keyword) (words : List (List ℕ)) → lacks_header context keyword words ≡ false → lacks_word context keyword words ≡ false → lacks_number context keyword words ≡ false → lacks_name keyword words ≡ false → repeats context keyword words ≡ false → is_unknown context keyword words ≡ false → misfits context keyword words ≡ false → passes_limit context keyword words ≡ true → code_of context keyword words ≡ Some codes_of.Limit
unfolding code_of
code_limit context keyword words header word number name twice unknown kind holds = past _ _ _ _ header (past _ _ _ _ word (past _ _ _ _ number (past _ _ _ _ name (past _ _ _ _ twice (past _ _ _ _ unknown (past _ _ _ _ kind (here _ _ _ holds)))))))

-- the code of a statement where `transaction` is the first condition that holds
pub code_transaction : (context : Context) (keyword : Keyword) (words : List (List ℕ)) → lacks_header context keyword words ≡ false → lacks_word context keyword words ≡ false → lacks_number context keyword words ≡ false → lacks_name keyword words ≡ false → repeats context keyword words ≡ false → is_unknown context keyword words ≡ false → misfits context keyword words ≡ false → passes_limit context keyword words ≡ false → breaks_transaction context keyword ≡ true → code_of context keyword words ≡ Some codes_of.Transaction
unfolding code_of
code_transaction context keyword words header word number name twice unknown kind limit holds = past _ _ _ _ header (past _ _ _ _ word (past _ _ _ _ number (past _ _ _ _ name (past _ _ _ _ twice (past _ _ _ _ unknown (past _ _ _ _ kind (past _ _ _ _ limit (here _ _ _ holds))))))))

-- a statement for which no condition holds has no code
pub code_none : (context : Context) (keyword : Keyword) (words : List (List ℕ)) → lacks_header context keyword words ≡ false → lacks_word context keyword words ≡ false → lacks_number context keyword words ≡ false → lacks_name keyword words ≡ false → repeats context keyword words ≡ false → is_unknown context keyword words ≡ false → misfits context keyword words ≡ false → passes_limit context keyword words ≡ false → breaks_transaction context keyword ≡ false → code_of context keyword words ≡ None
unfolding code_of
code_none context keyword words header word number name twice unknown kind limit transaction = past _ _ _ _ header (past _ _ _ _ word (past _ _ _ _ number (past _ _ _ _ name (past _ _ _ _ twice (past _ _ _ _ unknown (past _ _ _ _ kind (past _ _ _ _ limit (past _ _ _ _ transaction refl))))))))
