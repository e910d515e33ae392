-- The number of each refusal (SPECIFICATION.md, "Refusals").
use Rattle.std.specs.Prelude.{ℕ}
use Rattle.refusal.specs.declared.Refusal.{Refusal}
use Rattle.refusal.specs.declared.Refusal.TheVariants.{
  Modulus,
  Count,
  Lengths,
  Symbol,
  Columns,
  Checks,
  FrameSize,
  TapBuffer,
  BadRecord,
  Empty,
  NotLocated,
  SumsDiffer,
  NotAlone,
  ShortRow,
  NoFrame,
  BadCells,
  Exponent,
  NotUnfinished,
  UniformFrame,
}

abbrev pub number : Refusal → ℕ
number Modulus = 1
number Count = 2
number Lengths = 3
number Symbol = 4
number Columns = 5
number Checks = 6
number FrameSize = 7
number TapBuffer = 8
number BadRecord = 9
number Empty = 21
number NotLocated = 22
number SumsDiffer = 23
number NotAlone = 24
number ShortRow = 25
number NoFrame = 26
number BadCells = 31
number Exponent = 32
number NotUnfinished = 33
number UniformFrame = 34
