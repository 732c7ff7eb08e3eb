-- Where backward sweeps are empty.
use Rattle.std.proofs.Common.{◌≡◌, ℕ, Bool, true, false, not, List, [], ◌∷◌, map, pos, refl, sym, ap, ◌∙◌}
use Rattle.std.specs.Prelude.{◌&&◌, ◌||◌, if◌then◌else◌}
use Rattle.adj_tree.specs.Code.{plain, shadow, helper, work, Term, lit, Terms, none, Act, assign, call, Code, stop, step}
use Rattle.def_meaning.specs.Append.{◌+++◌, one}
use Rattle.def_names.specs.Numbers.{Vars}
use Rattle.def_sweep.specs.Marked.{code_if, place}
use Rattle.def_sweep.specs.Occurrences.{is_active_where}
use Rattle.def_sweep.specs.AdjointOf.{temps_where, back_where, adjoint_where}
use Rattle.def_sweep.specs.Plan.{Callee, Plan, group, Schedules, names_of, save_group, snapshot_group}
use Rattle.def_sweep.specs.Rows.{is_empty, pop, pops, told_backward, with_shadows, adjoint_call}
use Rattle.def_sweep.specs.Emission.{backward_act, backward_act_with, backward_with}
use Rattle.adj_sweep.specs.Callees.{seen}
use Rattle.adj_sweep.specs.Uses.{saves_some}
use Rattle.adj_sweep.proofs.Flags.{and_false}

-- two lists are empty together
pub empty_append : (c d : Code) → is_empty (c +++ d) ≡ (is_empty c && is_empty d)
empty_append stop d = refl
empty_append (step line a c) d = refl

-- a list, statement by statement
pub empty_more : (r : Schedules) (p : Plan) (d i line : ℕ) (a : Act) (rest : Code) (j : ℕ) → is_empty (backward_with r p j d rest +++ backward_act_with r p i d line a) ≡ (is_empty (backward_with r p j d rest) && is_empty (backward_act_with r p i d line a))
empty_more r p d i line a rest j = empty_append (backward_with r p j d rest) (backward_act_with r p i d line a)

-- ---- calls

-- a pop or none, and then others
pops_first : (p : Plan) (line : ℕ) (a : List ℕ) (others : List (List ℕ)) (b some : Bool) → is_empty (pops p line others) ≡ not some → is_empty (pops p line (if b then a ∷ others else others)) ≡ not (b || some)
pops_first p line a others true some h = empty_append (pops p line others) (pop p line a) ∙ and_false (is_empty (pops p line others))
pops_first p line a others false some h = h

-- pops of saved actuals
pub pops_there : (p : Plan) (line : ℕ) (g : Callee) (read saved : Vars) (ds given : List (List ℕ)) → is_empty (pops p line (group g.written saved ds given)) ≡ not (saves_some (λ x. saved (plain x)) (map (seen g read) ds) given)
pops_there p line g read saved [] [] = refl
pops_there p line g read saved [] (a ∷ given) = refl
pops_there p line g read saved (d ∷ ds) [] = refl
pops_there p line g read saved (d ∷ ds) (a ∷ given) =
    pops_first p line a (group g.written saved ds given) (g.written (plain d) && saved (plain a)) (saves_some (λ x. saved (plain x)) (map (seen g read) ds) given) (pops_there p line g read saved ds given)

-- a call that is adjointed
pub adjoint_called : (kept t : Bool) (x y : Code) (line : ℕ) (a : Act) → t ≡ true → is_empty (code_if (kept || t) (code_if t (x +++ one line a) +++ y)) ≡ false
adjoint_called true true x y line a h = empty_append (x +++ one line a) y ∙ ap (λ z. z && is_empty y) (empty_append x (one line a) ∙ and_false (is_empty x))
adjoint_called false true x y line a h = empty_append (x +++ one line a) y ∙ ap (λ z. z && is_empty y) (empty_append x (one line a) ∙ and_false (is_empty x))
adjoint_called kept false x y line a h = absurd (let f : false ≡ true = h in cc)

-- whether it is split or not
pub adjointed_there : (p : Plan) (i d line : ℕ) (name : List ℕ) (args : Terms) → p.marks.adjointed i ≡ true → false ≡ is_empty (backward_act p i d line (call name args))
adjointed_there p i d line name args e = go (p.marks.kept i) (p.marks.adjointed i) (p.marks.split i) e
  where
    g : Callee
    g = p.callees name

    back : Code
    back = one line (call g.back (with_shadows g.shadowed g.dummies (names_of args)))

    go : (kept t split : Bool) → t ≡ true →
        false ≡ is_empty (code_if (kept || t) (if split then back else code_if t (pops p line (snapshot_group g (names_of args)) +++ one line (adjoint_call g (names_of args))) +++ pops p line (save_group p.marks i g (names_of args))))
    go true t true e = refl
    go false true true e = refl
    go false false true e = absurd (let f : false ≡ true = e in cc)
    go kept t false e = sym (adjoint_called kept t (pops p line (snapshot_group g (names_of args))) (pops p line (save_group p.marks i g (names_of args))) line (adjoint_call g (names_of args)) e)

-- one that isn't, kept or not
pub nothing_called : (kept t : Bool) (x y : Code) → kept ≡ false → t ≡ false → is_empty (code_if (kept || t) (code_if t x +++ y)) ≡ true
nothing_called true t x y h e = absurd (let f : true ≡ false = h in cc)
nothing_called false true x y h e = absurd (let f : true ≡ false = e in cc)
nothing_called false false x y h e = refl

pub kept_called : (kept t : Bool) (x y : Code) → kept ≡ true → t ≡ false → is_empty (code_if (kept || t) (code_if t x +++ y)) ≡ is_empty y
kept_called true true x y h e = absurd (let f : true ≡ false = e in cc)
kept_called true false x y h e = refl
kept_called false t x y h e = absurd (let f : false ≡ true = h in cc)

-- ---- IF

pub told_there : (b idle : Bool) (line : ℕ) (c d : Code) → is_empty (code_if b (told_backward idle line c d)) ≡ (not b || idle)
told_there true true line c d = refl
told_there true false line c d = refl
told_there false idle line c d = refl

-- an adjointed assignment has its adjoint
pub adjoint_assigned : (on : Vars) (t : List ℕ) (subs : Terms) (e : Term) (line : ℕ) (first : Code) (b : Bool) → b ≡ true → is_empty (first +++ code_if b (adjoint_where on t subs e line)) ≡ false
adjoint_assigned on t subs e line first b h =
    let front = code_if (is_active_where on e) (temps_where on e 1 line +++ one line (assign (helper work 1) none (place (shadow t) subs))) in
    let back = one line (assign (shadow t) subs (lit (pos 0))) +++ code_if (is_active_where on e) (back_where on e 1 1 line) in
    empty_append first (code_if b (adjoint_where on t subs e line))
    ∙ ap (λ z. is_empty first && is_empty (code_if z (adjoint_where on t subs e line))) h
    ∙ ap (λ z. is_empty first && z) (empty_append front back ∙ and_false (is_empty front))
    ∙ and_false (is_empty first)
