-- Actuals of a call, one after another.
use Rattle.std.proofs.Common.{◌≡◌, ℕ, ◌+◌, Bool, true, false, List, [], ◌∷◌, refl, sym, ap, ◌∙◌}
use Rattle.std.specs.Prelude.{◌||◌}
use Rattle.adj_tree.specs.Code.{Var, plain, name_eq, var_eq, Term, Terms, more}
use Rattle.def_meaning.specs.Apart.{has_name}
use Rattle.def_meaning.specs.Append.{◌+++◌}
use Rattle.def_kernel.specs.Lowered.{locals_in, before, reduced, reduced_all, before_all, is_among}
use Rattle.adj_sets.specs.Sets.{with_added}
use Rattle.adj_naming.proofs.Added.{has-all_added}
use Rattle.adj_norm_statement.specs.Passings.{HasNamesOf}

module _ (local : ℕ → Var) where
  -- one value, and then the others
  pub reduced_all_more : (j next : ℕ) (e : Term) (es : Terms) → next ≡ j + locals_in e → reduced_all local j (more e es) ≡ more (reduced local j e) (reduced_all local next es)
  reduced_all_more j next e es h = ap (λ k. more (reduced local j e) (reduced_all local k es)) (sym h)

  pub before_all_more : (line j next : ℕ) (e : Term) (es : Terms) → next ≡ j + locals_in e → before_all local line j (more e es) ≡ before local line j e +++ before_all local line next es
  before_all_more line j next e es h = ap (λ k. before local line j e +++ before_all local line k es) (sym h)

-- one of two, whichever comes first
or_turned : (a b c : Bool) → a ≡ c → (a || (b || false)) ≡ (b || c)
or_turned true true c h = refl
or_turned true false c h = h
or_turned false true c h = refl
or_turned false false c h = h

-- with one more name
pub names_added : (names : List Var) (v : Var) (earlier longer : List (List ℕ)) (y : List ℕ) → HasNamesOf earlier names → plain y ≡ v → longer ≡ with_added y earlier → HasNamesOf longer (v ∷ names)
names_added names v earlier longer y h e l x =
    ap (has_name x) l ∙ has-all_added x earlier (y ∷ []) ∙ or_turned (has_name x earlier) (name_eq x y) (is_among (plain x) names) (h x)
    ∙ ap (λ w. var_eq (plain x) w || is_among (plain x) names) e
