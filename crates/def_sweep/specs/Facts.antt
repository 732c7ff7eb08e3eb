-- Facts about variables at points, and the laws that join them with marks. With marks that have such facts the sweeps are right.
-- (docs/THEOREMS.md, "Adjoints")
use Rattle.std.specs.Prelude.{◌≡◌, ℕ, Bool, true, false, not, ◌&&◌, ◌||◌}
use Rattle.adj_tree.specs.Code.{Var, var_eq, Term, Terms, none, more}
use Rattle.def_meaning.specs.Read.{reads_term, reads_terms}
use Rattle.def_names.specs.Numbers.{Vars}
use Rattle.def_sweep.specs.Marks.{Marks}
use Rattle.def_names.specs.Numbering.{point_before, point_after}

-- ---- sets of variables

abbrev pub In : Var → Vars → Type 0
In v a = a v ≡ true

abbrev pub Within : Vars → Vars → Type 0
Within a b = (v : Var) → In v a → In v b

abbrev pub without : Vars → Vars → Vars
without a b = λ v. a v && not (b v)

abbrev pub joined : Vars → Vars → Vars
joined a b = λ v. a v || b v

-- a where b holds, and else nothing
abbrev pub vars_if : Bool → Vars → Vars
vars_if b a = λ v. b && a v

-- ---- what a statement does with variables

-- the variables that stand in a term, and in some subscripts
abbrev pub in_term : Term → Vars
in_term e = λ v. reads_term v e

abbrev pub in_terms : Terms → Vars
in_terms es = λ v. reads_terms v es

-- the variable that an assignment to a place assigns whole: a scalar
abbrev pub whole : Var → Terms → Vars
whole x none = λ v. var_eq v x
whole x (more e es) = λ v. false

-- ---- facts

pub record Facts : Type 0 where
  pub marks : Marks
  -- at the point of this number the forward sweep has these variables as the program has them
  pub needed : ℕ → Vars
  -- and the backward sweep has these as the forward sweep had them
  pub held : ℕ → Vars

-- whether the assignment to x is adjointed: x has a shadow, and is varied and useful after it, or a scalar that is varied before and not after it
abbrev pub is_adjointed : Marks → ℕ → Var → Terms → Bool
is_adjointed m i x subs =
    m.shadowed x && ((m.varied (point_after i) x && m.useful (point_after i) x) || (whole x subs x && (m.varied (point_before i) x && not (m.varied (point_after i) x))))
