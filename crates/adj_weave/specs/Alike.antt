-- Marks that say the same of the statements of a unit, whatever they say of others.
use Rattle.std.specs.Prelude.{◌≡◌, ℕ, suc}
use Rattle.adj_tree.specs.Code.{Act, assign, choose, loop, during, call, runtime, Code, stop, step}
use Rattle.def_sweep.specs.Marks.{Marks}
use Rattle.def_names.specs.Numbers.{next, behind}
use Rattle.def_names.specs.Numbering.{point_before}

-- of the i-th statement
pub record AreSameAt (m n : Marks) (i : ℕ) : Type 0 where
  pub kept : m.kept i ≡ n.kept i
  pub adjointed : m.adjointed i ≡ n.adjointed i
  pub split : m.split i ≡ n.split i
  pub saved : m.saved i ≡ n.saved i
  pub varied : m.varied (point_before i) ≡ n.varied (point_before i)

-- of the statements in the i-th one, and of a list whose first statement has the number i
abbrev mutual
  pub AreSameIn : Marks → Marks → ℕ → Act → Type 0
  AreSameIn m n i (assign x subs e) = Unit {0}
  AreSameIn m n i (choose c a b) = AreSameOver m n (suc i) a × AreSameOver m n (behind (suc i) a) b
  AreSameIn m n i (loop x a b c body k) = AreSameOver m n (suc i) body
  AreSameIn m n i (during c body) = AreSameOver m n (suc i) body
  AreSameIn m n i (call name args) = Unit {0}
  AreSameIn m n i (runtime r) = Unit {0}

  pub AreSameOver : Marks → Marks → ℕ → Code → Type 0
  AreSameOver m n i stop = Unit {0}
  AreSameOver m n i (step line a rest) = AreSameAt m n i × AreSameIn m n i a × AreSameOver m n (next i a) rest

-- and of the variables that have a shadow
pub record AreAlike (m n : Marks) (i : ℕ) (c : Code) : Type 0 where
  pub shadowed : m.shadowed ≡ n.shadowed
  pub over : AreSameOver m n i c
