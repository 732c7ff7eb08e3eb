-- A split call: what is emitted, and a program that treats it as checkpointed.
use Rattle.std.specs.Prelude.{◌≡◌, ◌==◌, [], ◌∷◌, true, false, map, codes}
use Rattle.def_sweep.specs.Marking.{ProgramMarks}
use Rattle.def_sweep.specs.Program.{emitted_program}
use Rattle.def_adjoint.specs.Shape.{HasShape}
use Rattle.law_examples.specs.Programs.{calling, squaring_itself, calling_marks, calling_adjoint, squaring_adjoint}

-- the marks of the worked call, which is split
abbrev pub split_call_marks : ProgramMarks
split_call_marks = record calling_marks { split = λ i. i == 1 }

-- the unit that is called has a forward and a backward unit, no adjoint, and isn't emitted itself
abbrev pub SplitUnits : Type 0
SplitUnits = map (λ u. u.name) (emitted_program split_call_marks (calling ∷ squaring_itself ∷ []) 0 (true ∷ false ∷ []) (false ∷ true ∷ [])) ≡ codes "P_B" ∷ codes "SQ_FWD" ∷ codes "SQ_BWD" ∷ []

-- what is emitted where the call is checkpointed hasn't the shape that these marks say
abbrev pub CheckpointedIsRefused : Type 0
CheckpointedIsRefused = HasShape true split_call_marks (calling ∷ squaring_itself ∷ []) calling (true ∷ false ∷ []) (false ∷ true ∷ []) (calling_adjoint ∷ squaring_itself ∷ squaring_adjoint ∷ []) → ⊥
