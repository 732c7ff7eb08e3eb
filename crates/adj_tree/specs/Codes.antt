-- The numbers of refusals. (docs/REFUSALS.md)
use Rattle.std.specs.Prelude.{ℕ}
use Rattle.adj_tree.specs.declared.code.Code.{Code}
use Rattle.adj_tree.specs.declared.code.Code.TheVariants.{Columns, Character, Unsupported, Malformed, LargeNumber, LongName, Undeclared, Redeclared, Rank, LoopEnd, LoopVariable, Extent, WrittenExtent, MissingUnit, Actuals, Recursion, Aliasing, ReservedName, RepeatedUnit, Directive, Limit, MissingHead, ListedName, WrittenValue, Exponent, Layout}

-- the number of a code
abbrev pub code_number : Code → ℕ
code_number Columns = 1
code_number Character = 2
code_number Unsupported = 3
code_number Malformed = 4
code_number LargeNumber = 5
code_number LongName = 6
code_number Undeclared = 7
code_number Redeclared = 8
code_number Rank = 9
code_number LoopEnd = 10
code_number LoopVariable = 11
code_number Extent = 12
code_number WrittenExtent = 13
code_number MissingUnit = 14
code_number Actuals = 15
code_number Recursion = 16
code_number Aliasing = 17
code_number ReservedName = 18
code_number RepeatedUnit = 19
code_number Directive = 20
code_number Limit = 21
code_number MissingHead = 22
code_number ListedName = 23
code_number WrittenValue = 24
code_number Exponent = 25
code_number Layout = 26
