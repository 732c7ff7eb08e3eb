-- The actuals of a call and their tangents, one after another.
use Rattle.std.proofs.Common.{◌≡◌, ℕ, ◌≤◌, Bool, List, [], ◌∷◌, ◌++◌, length, drop, refl, ap, ◌∙◌}
use Rattle.std.proofs.lemmas.List.{drop_all}
use Rattle.adj_tree.specs.Code.{plain, shadow, helper, Term, lit, var, elem, neg, bin, pow, power_of, abs, Terms, none, more}
use Rattle.def_sweep.specs.Plan.{names_of}
use Rattle.adj_tangent.specs.Plans.{all_with_tangents}

-- the names among some actuals begin with that of the first
pub names_more : (e : Term) (es : Terms) → names_of (more e es) ≡ names_of (more e none) ++ names_of es
names_more (var (plain a)) es = refl
names_more (var (shadow a)) es = refl
names_more (var (helper o k)) es = refl
names_more (lit z) es = refl
names_more (elem x subs) es = refl
names_more (neg a) es = refl
names_more (bin op a b) es = refl
names_more (pow a k) es = refl
names_more (power_of a b) es = refl
names_more (abs a) es = refl

no_more : (fs : List Bool) → all_with_tangents fs [] ≡ none
no_more [] = refl
no_more (f ∷ fs) = refl

-- past the actuals nothing is handed on
pub tangents_all : (fs : List Bool) (given : List (List ℕ)) (k : ℕ) → length given ≤ k → all_with_tangents (drop k fs) (drop k given) ≡ none
tangents_all fs given k h = ap (all_with_tangents (drop k fs)) (drop_all k given h) ∙ no_more (drop k fs)
