-- Marked loops stand at the same lines in the lowered program.
use Rattle.std.proofs.Common.{◌≡◌, ℕ, List, [], ◌∷◌, ◌++◌, map, refl, ap, ap₂, if◌then◌else◌}
use Rattle.adj_tree.specs.Code.{Act, assign, choose, loop, during, call, runtime, Code, stop, step}
use Rattle.adj_tree.specs.Common.{Shared}
use Rattle.def_common.specs.Lowering.{lowered_act, lowered, lowered_unit, lowered_program}
use Rattle.def_common.specs.Members.{Member, members}
use Rattle.def_sweep.specs.MarkedUnits.{is_marked}
use Rattle.law_analysed.specs.MarkedLines.{marked_in, marked_lines, program_lines}

module _ (ps : List Shared) where
  module _ (ms : List Member) where
    mutual
      act_lines : (line : ℕ) (a : Act) → marked_in line (lowered_act ps ms a) ≡ marked_in line a
      act_lines line (assign x s e) = refl
      act_lines line (choose c a b) = ap₂ (λ l k. l ++ k) (code_lines a) (code_lines b)
      act_lines line (loop x a b c body m) = ap (λ l. (if is_marked m then line ∷ [] else []) ++ l) (code_lines body)
      act_lines line (during c body) = code_lines body
      act_lines line (call x es) = refl
      act_lines line (runtime r) = refl

      code_lines : (c : Code) → marked_lines (lowered ps ms c) ≡ marked_lines c
      code_lines stop = refl
      code_lines (step line a rest) = ap₂ (λ l k. l ++ k) (act_lines line a) (code_lines rest)

  unit_lines : (l : List Shared) → program_lines (map (lowered_unit ps) l) ≡ program_lines (map (λ (s : Shared). s.unit) l)
  unit_lines [] = refl
  unit_lines (s ∷ l) = ap₂ (λ l k. l ++ k) (code_lines (members ps s) s.unit.body) (unit_lines l)

pub lowered_lines : (ps : List Shared) → program_lines (lowered_program ps) ≡ program_lines (map (λ (s : Shared). s.unit) ps)
lowered_lines ps = unit_lines ps ps
