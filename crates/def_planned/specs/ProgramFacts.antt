-- What analyses say of a whole program, and programs without marked loops.
use Rattle.std.specs.Prelude.{◌≡◌, ℕ, List, Bool, ◌&&◌}
use Rattle.adj_tree.specs.Code.{unmarked, Act, assign, choose, loop, during, call, runtime, Code, stop, step, Procedure}
use Rattle.def_names.specs.Numbers.{Vars}
use Rattle.def_sweep.specs.Marking.{ProgramFacts, dummy_set, place_from}
use Rattle.def_flow.specs.Activity.{Activity}
use Rattle.def_flow.specs.Live.{Liveness}

-- what the analyses say of a whole program, with units by their names, where the calls of these numbers are to be split
abbrev pub program_facts : List Procedure → (ℕ → Bool) → Activity → Liveness → (ℕ → Vars) → (ℕ → Vars) → ProgramFacts
program_facts units split a l saved held = record {
  marks = record {
    kept = l.kept;
    adjointed = a.adjointed;
    split = λ i. split i && a.adjointed i;
    saved = saved;
    varied = a.varied;
    useful = a.useful;
    shadowed = λ name. a.shadowed (place_from 0 units name);
    members = λ name. dummy_set (l.wanted (place_from 0 units name));
  };
  needed = l.needed;
  held = held;
}

-- no loop is marked
abbrev mutual
  pub IsUnmarkedAct : Act → Type 0
  IsUnmarkedAct (assign x subs e) = Unit {0}
  IsUnmarkedAct (choose c a b) = IsUnmarked a × IsUnmarked b
  IsUnmarkedAct (loop x first last by body m) = (m ≡ unmarked) × IsUnmarked body
  IsUnmarkedAct (during c body) = IsUnmarked body
  IsUnmarkedAct (call name args) = Unit {0}
  IsUnmarkedAct (runtime r) = Unit {0}

  pub IsUnmarked : Code → Type 0
  IsUnmarked stop = Unit {0}
  IsUnmarked (step line a rest) = IsUnmarkedAct a × IsUnmarked rest
