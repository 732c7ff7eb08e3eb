-- The lines of a plan: one for each statement of the units that take part. (docs/COMMANDS.md, "plan")
use Rattle.std.specs.Prelude.{◌≡◌, ◌↔◌, ℕ, suc, List, [], ◌∷◌, ◌++◌, flat_map, Bool, true, false, Contains, codes, decimal}
use Rattle.adj_tree.specs.Code.{Var, Mark, unmarked, with_count, count_from, Act, assign, choose, loop, during, call, runtime, Procedure}
use Rattle.def_names.specs.Statements.{At, statements}
use Rattle.def_names.specs.Numbers.{Vars}
use Rattle.def_sweep.specs.Facts.{In}
use Rattle.def_flow.specs.Parts.{Part, parts}
use Rattle.def_flow.specs.Standing.{Standing}
use Rattle.def_flow.specs.Problem.{Problem, TakesPart, statements_of}
use Rattle.def_flow.specs.Activity.{Activity}
use Rattle.def_flow.specs.Live.{Liveness}
use Rattle.def_flow.specs.Analysed.{Analysed}
use Rattle.def_names.specs.VariableLists.{list_if}
use Rattle.adj_plan.specs.declared.lines.Said.{Said}

-- the keyword for a loop
abbrev pub loop_keyword : Mark → List ℕ
loop_keyword unmarked = codes "DO"
loop_keyword (with_count m) = codes "MARKED"
loop_keyword (count_from x) = codes "MARKED"

-- the keyword for a statement
abbrev pub keyword_of : Act → List ℕ
keyword_of (assign x subs e) = codes "ASSIGN"
keyword_of (choose c a b) = codes "IF"
keyword_of (loop x first last by body m) = loop_keyword m
keyword_of (during c body) = codes "WHILE"
keyword_of (call name args) = codes "CALL"
keyword_of (runtime r) = codes "CALL"

-- a letter where something holds, and - where it doesn't
abbrev pub letter : ℕ → Bool → ℕ
letter c true = c
letter c false = 45

-- K for kept, A for adjointed, P for something saved
abbrev pub letters : Said → List ℕ
letters s = letter 75 s.kept ∷ letter 65 s.adjointed ∷ letter 80 s.saves ∷ []

-- the line of a statement of the unit of a name: the unit, the line in the text, the keyword, and the three letters
abbrev pub plan_line : List ℕ → Said → At Act → List ℕ
plan_line name said s = name ++ (codes " " ++ decimal s.0) ++ (codes " " ++ keyword_of s.1) ++ (codes " " ++ letters said) ++ codes "\n"

-- those of statements, the first of which has the number i
abbrev pub lines_from : (ℕ → Said) → List ℕ → ℕ → List (At Act) → List ℕ
lines_from said name i [] = []
lines_from said name i (s ∷ rest) = plan_line name (said i) s ++ lines_from said name (suc i) rest

-- those of a unit
abbrev pub unit_lines : (ℕ → Said) → Part → List ℕ
unit_lines said g = lines_from said g.unit.name g.first (statements g.unit.body)

-- those of all units that take part, by what is said of each statement of each unit
abbrev pub plan_lines : (ℕ → ℕ → Said) → (ℕ → Bool) → List Procedure → List ℕ
plan_lines said takes ps = flat_map (λ g. list_if (takes g.number) (unit_lines (said g.number) g)) (parts ps)

-- what is said of a statement is what analyses say
pub record TellsStatement (activity : Activity) (liveness : Liveness) (saved : ℕ → Vars) (i : ℕ) (said : Said) : Type 0 where
  pub kept : said.kept ≡ liveness.kept i
  pub adjointed : said.adjointed ≡ activity.adjointed i
  pub saves : said.saves ≡ true ↔ ((v : Var) × In v (saved i))

-- what is said of the statements of a kernel, and of which units take part, is what exact analyses say
pub record TellsPlan (k : Problem) (said : ℕ → ℕ → Said) (takes : ℕ → Bool) : Type 0 where
  pub activity : Activity
  pub liveness : Liveness
  pub saved : ℕ → Vars
  pub held : ℕ → Vars
  pub analysed : Analysed k activity liveness saved held
  pub units : (g : Part) → Contains (parts k.units) g → takes g.number ≡ true ↔ TakesPart k g
  pub statements : (g : Part) → TakesPart k g → (s : Standing) → Contains (statements_of g) s → TellsStatement activity liveness saved s.number (said g.number s.number)
