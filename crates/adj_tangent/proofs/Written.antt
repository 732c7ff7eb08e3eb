-- The tangents of statements, one by one.
use Rattle.std.proofs.Common.{◌≡◌, ℕ, ◌+◌, ◌<◌, Bool, true, false, List, [], ◌∷◌, length, drop, get_or, refl, sym, ap, ◌∙◌, subst, if◌then◌else◌}
use Rattle.std.specs.Prelude.{pos, Option, Some, None}
use Rattle.adj_tree.specs.Code.{Var, plain, shadow, lit, var, none, more, Terms, Term, Act, assign, call, runtime, zero_array, Code, stop, step}
use Rattle.adj_tree.specs.Listed.{steps_onto}
use Rattle.adj_tree.specs.declared.stmt.Stmt.{Stmt}
use Rattle.def_meaning.specs.Append.{◌+++◌, one}
use Rattle.def_meaning.specs.Rename.{rename, rename_terms}
use Rattle.def_meaning.proofs.Appends.{append_assoc}
use Rattle.def_meaning.proofs.RenamedLists.{rename-append}
use Rattle.def_names.specs.Numbers.{Vars}
use Rattle.def_sweep.specs.Bindings.{bindings, actuals_in}
use Rattle.def_sweep.specs.Plan.{names_of}
use Rattle.def_sweep.specs.MarkedAdjoint.{shadow_flags}
use Rattle.def_tangent.specs.Forward as forward
use Rattle.def_tangent.specs.Forward.{Plan, takes_some, before_act, tangent_act, tangents}
use Rattle.def_tangent.specs.Program.{cleared}
use Rattle.adj_naming.proofs.Places.{from_here}
use Rattle.adj_sweep_assignment.specs.Behind.{AreBehind}
use Rattle.adj_tangent.specs.declared.plan.Callee.{Callee}
use Rattle.adj_tangent.specs.Plans.{Knows, with_tangent, all_with_tangents}

-- what was written of the next comes before the rest
pub passed_on : (r : Var → Var) (all own left : Code) (s s' : List Stmt) (rest : Code) → all ≡ own +++ left → AreBehind (rename r own) s s' → steps_onto s' (rename r left +++ rest) ≡ steps_onto s (rename r all +++ rest)
passed_on r all own left s s' rest e h =
    h (rename r left +++ rest) ∙ ap (steps_onto s) (sym (append_assoc (rename r own) (rename r left) rest) ∙ ap (λ z. z +++ rest) (sym (rename-append r own left))) ∙ ap (λ z. steps_onto s (rename r z +++ rest)) (sym e)

-- the tangents of some variables that are cleared begin with that of the first
first_cleared : (arrays : Vars) (line : ℕ) (x : List ℕ) (xs : List (List ℕ)) → cleared arrays line (x ∷ xs) ≡ cleared arrays line (x ∷ []) +++ cleared arrays line xs
first_cleared arrays line x xs = go (arrays (plain x))
  where
    go : (b : Bool) → (if b then one line (runtime (zero_array (shadow x))) else one line (assign (shadow x) none (lit (pos 0)))) +++ cleared arrays line xs ≡ ((if b then one line (runtime (zero_array (shadow x))) else one line (assign (shadow x) none (lit (pos 0)))) +++ stop) +++ cleared arrays line xs
    go true = refl
    go false = refl

pub next_cleared : (r : Var → Var) (arrays : Vars) (line : ℕ) (xs : List (List ℕ)) (k : ℕ) (x : List ℕ) (s s' : List Stmt) (rest : Code) → k < length xs → x ≡ get_or xs k x → AreBehind (rename r (cleared arrays line (x ∷ []))) s s' →
    steps_onto s' (rename r (cleared arrays line (drop (k + 1) xs)) +++ rest) ≡ steps_onto s (rename r (cleared arrays line (drop k xs)) +++ rest)
next_cleared r arrays line xs k x s s' rest lt at h =
    let left = drop (k + 1) xs in
    passed_on r (cleared arrays line (drop k xs)) (cleared arrays line (x ∷ [])) (cleared arrays line left) s s' rest (ap (cleared arrays line) (from_here xs k x lt at) ∙ first_cleared arrays line x left) h

-- a statement that was written, with what stands before it
pub next_written : (r : Var → Var) (p : Plan) (line : ℕ) (a : Act) (current left : Code) (s s' : List Stmt) (rest : Code) → current ≡ step line a left → AreBehind (rename r (before_act p line a +++ one line (tangent_act p a))) s s' →
    steps_onto s' (rename r (tangents p left) +++ rest) ≡ steps_onto s (rename r (tangents p current) +++ rest)
next_written r p line a current left s s' rest e h =
    passed_on r (tangents p current) (before_act p line a +++ one line (tangent_act p a)) (tangents p left) s s' rest (ap (tangents p) e ∙ sym (append_assoc (before_act p line a) (one line (tangent_act p a)) (tangents p left))) h

-- by the flags of a unit's dummies these are the actuals of its tangent
bound : (on : Vars) (ds given : List (List ℕ)) → all_with_tangents (shadow_flags on ds) given ≡ actuals_in (bindings on ds given)
bound on [] given = refl
bound on (d ∷ ds) [] = refl
bound on (d ∷ ds) (a ∷ given) = go (on (plain d)) (bound on ds given)
  where
    go : (b : Bool) → all_with_tangents (shadow_flags on ds) given ≡ actuals_in (bindings on ds given) → with_tangent b a (all_with_tangents (shadow_flags on ds) given) ≡ actuals_in (if b then (plain d, plain a) ∷ (shadow d, shadow a) ∷ bindings on ds given else (plain d, plain a) ∷ bindings on ds given)
    go true ih = ap (λ z. more (var (plain a)) (more (var (shadow a)) z)) ih
    go false ih = ap (more (var (plain a))) ih

-- a call by what is known of the unit
pub call_known : (r : Var → Var) (p : Plan) (line : ℕ) (name : List ℕ) (args : Terms) (k : Callee) (s s' : List Stmt) → Knows (Some k) (p.callees name) → AreBehind (rename r (one line (call k.tangent (all_with_tangents k.carried (names_of args))))) s s' → AreBehind (rename r (one line (tangent_act p (call name args)))) s s'
call_known r p line name args k s s' known h =
    let g = p.callees name in
    let made : Act = call g.tangent (actuals_in (bindings g.carried g.dummies (names_of args))) in
    let given = ap (λ fs. all_with_tangents fs (names_of args)) known.2 ∙ bound g.carried g.dummies (names_of args) in
    let here : AreBehind (rename r (one line made)) s s' = subst (λ z. AreBehind (rename r z) s s') (λ i. one line (call (known.1 i) (given i))) h in
    subst (λ b. AreBehind (rename r (one line (if b then call g.tangent (actuals_in (bindings g.carried g.dummies (names_of args))) else call name args))) s s') (sym known.0) here

pub call_other : (r : Var → Var) (p : Plan) (line : ℕ) (name : List ℕ) (args : Terms) (s s' : List Stmt) → Knows None (p.callees name) → AreBehind (rename r (one line (call name args))) s s' → AreBehind (rename r (one line (tangent_act p (call name args)))) s s'
call_other r p line name args s s' known h =
    let g = p.callees name in
    subst (λ b. AreBehind (rename r (one line (if b then call g.tangent (actuals_in (bindings g.carried g.dummies (names_of args))) else call name args))) s s') (sym known) h
