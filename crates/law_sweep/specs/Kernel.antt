-- What the theorem asks of the code of a unit: what a program in kernel form that was checked has.
use Rattle.std.specs.Prelude.{◌≡◌, ◌<◌, ◌≤◌, ℕ, zero, suc, List, [], ◌∷◌, Bool, true, false, Option, Some, None}
use Rattle.adj_tree.specs.Code.{name_eq, Var, plain, shadow, helper, plus, minus, times, quot, modulo, greater, lesser, Term, neg, bin, pow, power_of, abs, Terms, none, Mark, unmarked, with_count, count_from, Act, assign, choose, loop, during, call, runtime, Code, stop, step, Procedure}
use Rattle.def_meaning.specs.LeastSet.{Dummies}
use Rattle.def_meaning.specs.Written.{find_unit, writes}
use Rattle.def_meaning.specs.Read.{reads_term, reads_terms, reads_test}
use Rattle.def_meaning.specs.Units.{declared}
use Rattle.def_names.specs.Numbers.{Vars, next, behind}
use Rattle.def_sweep.specs.Marks.{Marks}
use Rattle.def_meaning.specs.Apart.{has_name, AreApart}
use Rattle.def_sweep.specs.Plan.{IsActual, actuals_named, Schedules, Step, reversed_by, ByStep}
use Rattle.def_sweep.specs.Callees.{CalleeFacts}
use Rattle.def_sweep.specs.Reversals.{StepUnits, ReversedLines}
use Rattle.def_sweep.specs.MarkedUnits.{is_marked, units_of}

-- a variable of the text
abbrev pub is_text : Var → Bool
is_text (plain x) = true
is_text (shadow x) = false
is_text (helper r k) = false

-- the variables of a set are of the text
abbrev pub AllText : (Var → Bool) → Type 0
AllText f = (v : Var) → f v ≡ true → is_text v ≡ true

-- as many of the one as of the other
abbrev pub AsMany : List (List ℕ) → List (List ℕ) → Type 0
AsMany [] [] = Unit {0}
AsMany [] (y ∷ ys) = ⊥
AsMany (x ∷ xs) [] = ⊥
AsMany (x ∷ xs) (y ∷ ys) = AsMany xs ys

-- no MAX, MIN or ABS at a differentiable occurrence; elsewhere they stay
abbrev pub AreTreated : Term → Type 0
AreTreated (neg a) = AreTreated a
AreTreated (bin plus a b) = AreTreated a × AreTreated b
AreTreated (bin minus a b) = AreTreated a × AreTreated b
AreTreated (bin times a b) = AreTreated a × AreTreated b
AreTreated (bin quot a b) = Unit {0}
AreTreated (bin modulo a b) = Unit {0}
AreTreated (bin greater a b) = ⊥
AreTreated (bin lesser a b) = ⊥
AreTreated (pow a zero) = Unit {0}
AreTreated (pow a (suc k)) = AreTreated a
AreTreated (power_of a b) = AreTreated a
AreTreated (abs a) = ⊥
AreTreated _ = Unit {0}

-- ---- statements, in a unit with these variables, of which some are arrays

pub record AssignmentFits (vars : List (List ℕ)) (arrays : Vars) (x : List ℕ) (subs : Terms) (e : Term) : Type 0 where
  pub variable : has_name x vars ≡ true
  -- an array has subscripts
  pub rank : subs ≡ none → arrays (plain x) ≡ false
  -- the target isn't in its own subscripts
  pub apart : reads_terms (plain x) subs ≡ false
  pub text : AllText (λ v. reads_term v e)
  pub subs_text : AllText (λ v. reads_terms v subs)
  pub treated : AreTreated e
  -- what stands in it is among the variables, and an array only with subscripts
  pub known : (y : List ℕ) → reads_term (plain y) e ≡ true → has_name y vars ≡ true

pub record LoopFits (lines : ReversedLines) (line : ℕ) (mark : Mark) (reversed : Option StepUnits) (vars : List (List ℕ)) (arrays : Vars) (handed : Dummies) (x : List ℕ) (a b c : Term) (body : Code) : Type 0 where
  -- where it is marked, its line tells whether it is reversed by a schedule
  pub told : is_marked mark ≡ true → lines line ≡ reversed
  pub variable : has_name x vars ≡ true
  pub scalar : arrays (plain x) ≡ false
  -- the body doesn't write it
  pub spares : writes handed (plain x) body ≡ false
  pub text_first : AllText (λ v. reads_term v a)
  pub text_last : AllText (λ v. reads_term v b)
  pub text_step : AllText (λ v. reads_term v c)

-- what a directive gives: from 1 to 64 snapshots, or a variable of the text for their number
abbrev pub HasSlots : Mark → Type 0
HasSlots unmarked = ⊥
HasSlots (with_count n) = (0 < n) × (n ≤ 64)
HasSlots (count_from x) = is_text x ≡ true

-- a marked loop that is reversed by a schedule, where g is its step unit: it has some snapshots, and the step unit is emitted itself, and has
-- another name than its adjoint
pub record ReversalFits (g : CalleeFacts) (present carried : Bool) (s : Step) : Type 0 where
  pub slots : HasSlots s.mark
  pub other_name : name_eq s.name g.callee.adjoint ≡ false
  pub other_adjoint : name_eq g.callee.adjoint s.name ≡ false
  pub emitted : present ≡ true → carried ≡ true

pub record CallFits (ps : List Procedure) (vars : List (List ℕ)) (arrays : Vars) (g : CalleeFacts) (name : List ℕ) (given : List (List ℕ)) : Type 0 where
  pub unit : Procedure
  pub found : find_unit ps name ≡ Some unit
  pub apart : AreApart given
  pub many : AsMany g.callee.dummies given
  pub variables : (a : List ℕ) → has_name a given ≡ true → has_name a vars ≡ true
  -- a scalar is given for a scalar
  pub ranks : (d a : List ℕ) → IsActual g.callee.dummies given d a → declared unit.declarations (plain d) ≡ [] → arrays (plain a) ≡ false

-- what is emitted for a call: of a split call both units of the unit that it calls; else its adjoint, where the call is adjointed, and the unit
-- itself, where it is kept
abbrev pub IsThere : (split answered paired carried present adjointed kept : Bool) → Type 0
IsThere true answered paired carried present adjointed kept = present ≡ true → adjointed ≡ true → paired ≡ true
IsThere false answered paired carried present adjointed kept = (present ≡ true → adjointed ≡ true → answered ≡ true) × (present ≡ true → kept ≡ true → carried ≡ true)

abbrev mutual
  -- in the order of the statements' numbers; `answers` says of which units the adjoint is called, `paired` which have a forward and a backward unit, and `carried` which are emitted
  -- themselves; `present` says whether the adjoint of the unit that this is in is
  pub FitsBy : (r : Schedules) → (lines : ReversedLines) (ps : List Procedure) → (List ℕ → CalleeFacts) → (answers paired carried : List ℕ → Bool) → (present : Bool) → Marks → (vars : List (List ℕ)) → (arrays : Vars) → Dummies → ℕ → ℕ → Act → Type 0
  FitsBy r lines ps g answers paired carried present m vars arrays handed i line (assign (plain x) subs e) = AssignmentFits vars arrays x subs e
  FitsBy r lines ps g answers paired carried present m vars arrays handed i line (assign (shadow x) subs e) = ⊥
  FitsBy r lines ps g answers paired carried present m vars arrays handed i line (assign (helper o x) subs e) = ⊥
  FitsBy r lines ps g answers paired carried present m vars arrays handed i line (choose c a b) =
      AllText (λ v. reads_test v c) × (FitsListBy r lines ps g answers paired carried present m vars arrays handed (suc i) a × FitsListBy r lines ps g answers paired carried present m vars arrays handed (behind (suc i) a) b)
  FitsBy r lines ps g answers paired carried present m vars arrays handed i line (loop (plain x) a b c body n) =
      LoopFits lines line n (units_of g (reversed_by r m.adjointed i body n)) vars arrays handed x a b c body
      × ByStep (reversed_by r m.adjointed i body n) (FitsListBy r lines ps g answers paired carried present m vars arrays handed (suc i) body)
      (λ s. ReversalFits (g s.name) present (carried s.name) s × FitsListBy r lines ps g answers paired carried present m vars arrays handed (suc i) body)
  FitsBy r lines ps g answers paired carried present m vars arrays handed i line (loop (shadow x) a b c body n) = ⊥
  FitsBy r lines ps g answers paired carried present m vars arrays handed i line (loop (helper o x) a b c body n) = ⊥
  FitsBy r lines ps g answers paired carried present m vars arrays handed i line (during c body) = AllText (λ v. reads_test v c) × FitsListBy r lines ps g answers paired carried present m vars arrays handed (suc i) body
  FitsBy r lines ps g answers paired carried present m vars arrays handed i line (call name args) =
      ((given : List (List ℕ)) → args ≡ actuals_named given → CallFits ps vars arrays (g name) name given) × IsThere (m.split i) (answers name) (paired name) (carried name) present (m.adjointed i) (m.kept i)
  FitsBy r lines ps g answers paired carried present m vars arrays handed i line (runtime c) = ⊥

  pub FitsListBy : (r : Schedules) → (lines : ReversedLines) (ps : List Procedure) → (List ℕ → CalleeFacts) → (answers paired carried : List ℕ → Bool) → (present : Bool) → Marks → (vars : List (List ℕ)) → (arrays : Vars) → Dummies → ℕ → Code → Type 0
  FitsListBy r lines ps g answers paired carried present m vars arrays handed i stop = Unit {0}
  FitsListBy r lines ps g answers paired carried present m vars arrays handed i (step line a rest) = FitsBy r lines ps g answers paired carried present m vars arrays handed i line a × FitsListBy r lines ps g answers paired carried present m vars arrays handed (next i a) rest

-- where no loop is reversed by a schedule
abbrev pub Fits' : (lines : ReversedLines) (ps : List Procedure) → (List ℕ → CalleeFacts) → (answers paired carried : List ℕ → Bool) → (present : Bool) → Marks → (vars : List (List ℕ)) → (arrays : Vars) → Dummies → ℕ → ℕ → Act → Type 0
Fits' lines ps g answers paired carried present m vars arrays handed i line a = FitsBy None lines ps g answers paired carried present m vars arrays handed i line a

abbrev pub FitsList : (lines : ReversedLines) (ps : List Procedure) → (List ℕ → CalleeFacts) → (answers paired carried : List ℕ → Bool) → (present : Bool) → Marks → (vars : List (List ℕ)) → (arrays : Vars) → Dummies → ℕ → Code → Type 0
FitsList lines ps g answers paired carried present m vars arrays handed i c = FitsListBy None lines ps g answers paired carried present m vars arrays handed i c
