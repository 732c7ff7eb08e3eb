-- The sweeps of a list of statements, by marks. `on` is the set of variables whose occurrences are active.
-- Variables are told apart by what they hold; names come by one renaming of the whole.
use Rattle.std.specs.Prelude.{ℕ, zero, suc, List, [], ◌∷◌, Bool, true, false, ◌||◌, if◌then◌else◌}
use Rattle.adj_tree.specs.Code.{Var, plain, helper, work, temp, plus, minus, times, Term, lit, var, elem, neg, bin, pow, power_of, abs, Terms, none, more, assign, Code, stop}
use Rattle.def_meaning.specs.Append.{one}
use Rattle.def_names.specs.Numbers.{Vars}

-- the code where b holds, and nothing elsewhere
abbrev pub code_if : Bool → Code → Code
code_if true c = c
code_if false c = stop

-- ---- the adjoint of an assignment

-- a term with an active occurrence: of a variable of the set, where the derivative may be other than 0
abbrev pub is_active_where : Vars → Term → Bool
is_active_where on (lit z) = false
is_active_where on (var x) = on x
is_active_where on (elem x subs) = on x
is_active_where on (neg a) = is_active_where on a
is_active_where on (bin plus a b) = is_active_where on a || is_active_where on b
is_active_where on (bin minus a b) = is_active_where on a || is_active_where on b
is_active_where on (bin times a b) = is_active_where on a || is_active_where on b
is_active_where on (bin _ a b) = false
is_active_where on (pow a zero) = false
is_active_where on (pow a (suc k)) = is_active_where on a
is_active_where on (power_of a b) = false
is_active_where on (abs a) = false

-- neither a literal nor a name nor an element
abbrev pub is_compound : Term → Bool
is_compound (lit z) = false
is_compound (var x) = false
is_compound (elem x subs) = false
is_compound _ = true

abbrev pub count_of : Bool → ℕ
count_of true = 1
count_of false = 0

-- an operand: its temporary, or itself
abbrev pub own_or : Bool → ℕ → Term → Term
own_or true j e = var (helper temp j)
own_or false j e = e

-- the assignment of an operand's temporary, if it has one
abbrev pub own_code : Bool → ℕ → ℕ → Term → Code
own_code true line j e = one line (assign (helper temp j) none e)
own_code false line j e = stop

-- the k-th work variable, which holds the adjoint of a term
abbrev pub work_var : ℕ → Term
work_var k = var (helper work k)

-- the value of a place
abbrev pub place : Var → Terms → Term
place x none = var x
place x (more e es) = elem x (more e es)

-- ---- the sweeps

-- those of the names whose variables are in the set
abbrev pub names_in : Vars → List (List ℕ) → List (List ℕ)
names_in a [] = []
names_in a (x ∷ xs) = if a (plain x) then x ∷ names_in a xs else names_in a xs
