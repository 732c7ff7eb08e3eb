-- What is asked of a unit whose tangent is made: the flow of tangents through its points, and its text.
use Rattle.std.specs.Prelude.{◌≡◌, ℕ, suc, List, false}
use Rattle.adj_tree.specs.Code.{Var, plain, shadow, helper, Term, Terms, Act, assign, choose, loop, during, call, runtime, Code, stop, step}
use Rattle.def_meaning.specs.LeastSet.{Dummies}
use Rattle.def_meaning.specs.Written.{writes}
use Rattle.def_meaning.specs.Read.{reads_term, reads_test}
use Rattle.def_names.specs.Numbers.{Vars, next, behind}
use Rattle.def_names.specs.Numbering.{point_before, point_after}
use Rattle.def_sweep.specs.Facts.{In, Within, without, whole}
use Rattle.def_sweep.specs.Occurrences.{occurring}
use Rattle.def_sweep.specs.Plan.{IsActual, actuals_named}
use Rattle.def_sweep.specs.Callees.{nothing}
use Rattle.law_sweep.specs.Laws.{just, point_inside, last_point}
use Rattle.law_sweep.specs.Kernel.{AllText, AssignmentFits}
use Rattle.def_tangent.specs.Forward.{Callee}

-- ---- the flow of tangents

-- what a call knows of the unit that is called: what its tangent is, and which variables may have a tangent at its entry and at its end
pub record CalleeFlow : Type 0 where
  pub callee : Callee
  pub entry : Vars
  pub end : Vars

-- on a way from p to q a variable keeps its tangent, unless it is cut
pub record WayFlows (f : ℕ → Vars) (cut : Vars) (p q : ℕ) : Type 0 where
  pub varies : Within (without (f p) cut) (f q)

-- an assignment gives its target a tangent where an occurrence has one; what has a tangent carries one
pub record AssignmentFlows (f : ℕ → Vars) (on : Vars) (i : ℕ) (x : Var) (subs : Terms) (e : Term) : Type 0 where
  pub covers : Within (f (point_before i)) on
  pub carries : In x (f (point_after i)) → In x on
  pub stays : Within (without (f (point_before i)) (whole x subs)) (f (point_after i))
  pub goes : (v : Var) → In v (occurring e) → In v (f (point_before i)) → In x (f (point_after i))

-- the entry and the step after a turn of a DO leave its variable without a tangent
pub record LoopFlows (f : ℕ → Vars) (i : ℕ) (x : Var) (body : Code) : Type 0 where
  pub entry : WayFlows f (just x) (point_before i) (point_inside i)
  pub again : WayFlows f (just x) (last_point (point_inside i) (suc i) body) (point_inside i)
  pub exit : WayFlows f nothing (point_inside i) (point_after i)

-- tangents go from actuals to dummies and back; the actual of a dummy that carries one carries one
pub record CallFlows (f : ℕ → Vars) (on : Vars) (i : ℕ) (g : CalleeFlow) (given : List (List ℕ)) : Type 0 where
  pub covers : Within (f (point_before i)) on
  pub enters : (d a : List ℕ) → IsActual g.callee.dummies given d a → In (plain a) (f (point_before i)) → In (plain d) g.entry
  pub leaves : (d a : List ℕ) → IsActual g.callee.dummies given d a → In (plain d) g.end → In (plain a) (f (point_after i))
  -- what is no actual keeps its tangent
  pub stays : (a : List ℕ) → ((d : List ℕ) → IsActual g.callee.dummies given d a → ⊥) → In (plain a) (f (point_before i)) → In (plain a) (f (point_after i))
  pub carries : (d a : List ℕ) → IsActual g.callee.dummies given d a → In (plain d) g.callee.carried → In (plain a) on
  -- a dummy that may have a tangent carries one
  pub entered : (d : List ℕ) → In (plain d) g.entry → In (plain d) g.callee.carried
  pub left : (d : List ℕ) → In (plain d) g.end → In (plain d) g.callee.carried

abbrev mutual
  pub ActFlows : (List ℕ → CalleeFlow) → (ℕ → Vars) → Vars → ℕ → Act → Type 0
  ActFlows g f on i (assign x subs e) = AssignmentFlows f on i x subs e
  ActFlows g f on i (choose c a b) =
      (ListFlows g f on (point_before i) (suc i) a × WayFlows f nothing (last_point (point_before i) (suc i) a) (point_after i))
      × (ListFlows g f on (point_before i) (behind (suc i) a) b × WayFlows f nothing (last_point (point_before i) (behind (suc i) a) b) (point_after i))
  ActFlows g f on i (loop x a b c body m) = LoopFlows f i x body × ListFlows g f on (point_inside i) (suc i) body
  ActFlows g f on i (during c body) =
      (WayFlows f nothing (point_before i) (point_inside i) × (WayFlows f nothing (last_point (point_inside i) (suc i) body) (point_inside i) × WayFlows f nothing (point_inside i) (point_after i)))
      × ListFlows g f on (point_inside i) (suc i) body
  ActFlows g f on i (call name args) = (given : List (List ℕ)) × ((args ≡ actuals_named given) × CallFlows f on i (g name) given)
  ActFlows g f on i (runtime r) = ⊥

  -- of a list whose first statement has the number i, and to whose begin p leads
  pub ListFlows : (List ℕ → CalleeFlow) → (ℕ → Vars) → Vars → ℕ → ℕ → Code → Type 0
  ListFlows g f on p i stop = Unit {0}
  ListFlows g f on p i (step line a rest) = WayFlows f nothing p (point_before i) × (ActFlows g f on i a × ListFlows g f on (point_after i) (next i a) rest)

-- ---- the text

pub record LoopTexts (arrays : Vars) (handed : Dummies) (x : List ℕ) (a b c : Term) (body : Code) : Type 0 where
  pub scalar : arrays (plain x) ≡ false
  -- the body doesn't write its variable
  pub spares : writes handed (plain x) body ≡ false
  pub text_first : AllText (λ v. reads_term v a)
  pub text_last : AllText (λ v. reads_term v b)
  pub text_step : AllText (λ v. reads_term v c)

abbrev mutual
  -- in a unit with these variables, of which some are arrays; `fits` is what is asked of calls
  pub ActTexts : (fits : List ℕ → Terms → Type 0) → (vars : List (List ℕ)) → (arrays : Vars) → Dummies → Act → Type 0
  ActTexts fits vars arrays handed (assign (plain x) subs e) = AssignmentFits vars arrays x subs e
  ActTexts fits vars arrays handed (assign (shadow x) subs e) = ⊥
  ActTexts fits vars arrays handed (assign (helper r k) subs e) = ⊥
  ActTexts fits vars arrays handed (choose c a b) = AllText (λ v. reads_test v c) × (ListTexts fits vars arrays handed a × ListTexts fits vars arrays handed b)
  ActTexts fits vars arrays handed (loop (plain x) a b c body m) = LoopTexts arrays handed x a b c body × ListTexts fits vars arrays handed body
  ActTexts fits vars arrays handed (loop (shadow x) a b c body m) = ⊥
  ActTexts fits vars arrays handed (loop (helper r k) a b c body m) = ⊥
  ActTexts fits vars arrays handed (during c body) = AllText (λ v. reads_test v c) × ListTexts fits vars arrays handed body
  ActTexts fits vars arrays handed (call name args) = fits name args
  ActTexts fits vars arrays handed (runtime r) = ⊥

  pub ListTexts : (fits : List ℕ → Terms → Type 0) → (vars : List (List ℕ)) → (arrays : Vars) → Dummies → Code → Type 0
  ListTexts fits vars arrays handed stop = Unit {0}
  ListTexts fits vars arrays handed (step line a rest) = ActTexts fits vars arrays handed a × ListTexts fits vars arrays handed rest
