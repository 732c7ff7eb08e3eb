-- What marks must have, so that what is emitted by them uses only shadows that there are.
use Rattle.std.specs.Prelude.{◌≡◌, ℕ, suc, List, [], ◌∷◌, true}
use Rattle.adj_tree.specs.Code.{plain, Act, assign, choose, loop, during, call, runtime, Code, stop, step, Procedure}
use Rattle.def_names.specs.Numbers.{Vars, next, behind}
use Rattle.def_sweep.specs.Plan.{Plan, names_of}
use Rattle.def_sweep.specs.Marking.{ProgramMarks, first_statement, plan_in}

-- the actual of each dummy that has a shadow has one, too
abbrev pub AreCarried : Vars → Vars → List (List ℕ) → List (List ℕ) → Type 0
AreCarried dummies actuals [] given = Unit {0}
AreCarried dummies actuals (d ∷ ds) [] = Unit {0}
AreCarried dummies actuals (d ∷ ds) (a ∷ given) = (dummies (plain d) ≡ true → actuals (plain a) ≡ true) × AreCarried dummies actuals ds given

abbrev mutual
  -- the target of an adjointed assignment has a shadow, and so have the actuals of an adjointed call whose dummies have one
  pub HasShadows' : Plan → ℕ → Act → Type 0
  HasShadows' p i (assign x subs e) = p.marks.adjointed i ≡ true → p.marks.shadowed x ≡ true
  HasShadows' p i (choose c a b) = HasShadows p (suc i) a × HasShadows p (behind (suc i) a) b
  HasShadows' p i (loop x a b c body m) = HasShadows p (suc i) body
  HasShadows' p i (during c body) = HasShadows p (suc i) body
  HasShadows' p i (call name args) = let g = p.callees name in p.marks.adjointed i ≡ true → AreCarried g.shadowed p.marks.shadowed g.dummies (names_of args)
  HasShadows' p i (runtime r) = Unit {0}

  pub HasShadows : Plan → ℕ → Code → Type 0
  HasShadows p i stop = Unit {0}
  HasShadows p i (step line a rest) = HasShadows' p i a × HasShadows p (next i a) rest

-- so in each of these units
abbrev pub AllHaveShadows : ProgramMarks → List Procedure → List Procedure → Type 0
AllHaveShadows m ps [] = Unit {0}
AllHaveShadows m ps (u ∷ us) = HasShadows (plan_in m ps u) (first_statement ps u.name) u.body × AllHaveShadows m ps us
