-- The codes of refusals.
use Rattle.std.specs.Prelude.{ℕ}
use Rattle.script_reader.specs.declared.code.Code.{Code}
use Rattle.script_reader.specs.declared.code.Code.TheVariants as codes_of

-- the number that is printed for a code
abbrev pub number_of_code : Code → ℕ
number_of_code codes_of.Header = 1
number_of_code codes_of.Word = 2
number_of_code codes_of.Number = 3
number_of_code codes_of.Name = 4
number_of_code codes_of.Twice = 5
number_of_code codes_of.Unknown = 6
number_of_code codes_of.Kind = 7
number_of_code codes_of.Limit = 8
number_of_code codes_of.Transaction = 9
number_of_code codes_of.NoEnd = 10
number_of_code codes_of.AfterEnd = 11
number_of_code codes_of.TooLong = 12
number_of_code codes_of.Byte = 13
