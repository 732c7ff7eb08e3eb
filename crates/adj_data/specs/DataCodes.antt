-- The numbers of faults of data. (docs/DATA.md, "Faults")
use Rattle.std.specs.Prelude.{ℕ}
use Rattle.adj_data.specs.declared.data_code.DataCode.{DataCode}
use Rattle.adj_data.specs.declared.data_code.DataCode.TheVariants.{Item, UnknownName, RepeatedName, MissingEntry, Count, LargeNumber, Extent}

-- the number of a code
abbrev pub data_code_number : DataCode → ℕ
data_code_number Item = 1
data_code_number UnknownName = 2
data_code_number RepeatedName = 3
data_code_number MissingEntry = 4
data_code_number Count = 5
data_code_number LargeNumber = 6
data_code_number Extent = 7
