-- How actuals become names.
use Rattle.std.specs.Prelude.{◌≡◌, List, [], ◌∷◌, ℕ}
use Rattle.adj_tree.specs.Code.{Var, plain, lit, var, elem, neg, bin, pow, power_of, abs, Terms, none, more}
use Rattle.adj_tree.specs.View.{term_of, terms_of}
use Rattle.def_meaning.specs.Apart.{has_name}
use Rattle.def_kernel.specs.Lowered as kernel
use Rattle.def_kernel.specs.Lowered.{is_among}
use Rattle.adj_norm_statement.specs.declared.passing.Passing.{Passing}
use Rattle.adj_norm_statement.specs.declared.passing.Passing.TheVariants.{Stays, PutBack, ByValue}

-- the kind without its pointers
abbrev pub passing_of : Passing → kernel.Passing
passing_of (Stays x) = kernel.stays (plain x)
passing_of (PutBack x subs) = kernel.put_back (plain x) (terms_of subs)
passing_of (ByValue e) = kernel.by_value (term_of e.value)

-- the set has the names of these variables
abbrev pub HasNamesOf : List (List ℕ) → List Var → Type 0
HasNamesOf names earlier = (x : List ℕ) → has_name x names ≡ is_among (plain x) earlier

-- the variables that are expressions of a list
abbrev pub vars_in : Terms → List Var
vars_in none = []
vars_in (more (var x) es) = x ∷ vars_in es
vars_in (more (lit z) es) = vars_in es
vars_in (more (elem x subs) es) = vars_in es
vars_in (more (neg a) es) = vars_in es
vars_in (more (bin op a b) es) = vars_in es
vars_in (more (pow a k) es) = vars_in es
vars_in (more (power_of a b) es) = vars_in es
vars_in (more (abs a) es) = vars_in es
