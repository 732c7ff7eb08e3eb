-- The tangent of an assignment. `on` is the set of variables that carry a tangent.
use Rattle.std.specs.Prelude.{ℕ, zero, suc, ◌+◌, pos, List, Bool, true, false, ◌||◌, if◌then◌else◌}
use Rattle.adj_tree.specs.Code.{plain, shadow, helper, work, plus, minus, times, greater, Term, lit, var, elem, neg, bin, pow, power_of, Terms, none, assign, Code, stop}
use Rattle.def_meaning.specs.Append.{◌+++◌, one}
use Rattle.def_names.specs.Numbers.{Vars}
use Rattle.def_sweep.specs.Marked.{code_if, count_of, own_or, work_var}
use Rattle.def_sweep.specs.Occurrences.{is_active_where}
use Rattle.def_sweep.specs.AdjointOf.{has_own_where, temps_in_where, temps_where}

-- ---- parts: the active subterms that are neither names nor elements, each with a helper for its tangent

-- how many parts a term has
abbrev pub parts_in_where : Vars → Term → ℕ
parts_in_where on (neg a) = parts_in_where on a + count_of (is_active_where on a)
parts_in_where on (bin plus a b) = parts_in_where on a + parts_in_where on b + count_of (is_active_where on a || is_active_where on b)
parts_in_where on (bin minus a b) = parts_in_where on a + parts_in_where on b + count_of (is_active_where on a || is_active_where on b)
parts_in_where on (bin times a b) = parts_in_where on a + parts_in_where on b + count_of (is_active_where on a || is_active_where on b)
parts_in_where on (pow a (suc k)) = parts_in_where on a + count_of (is_active_where on a)
parts_in_where on (power_of a b) = parts_in_where on a + count_of (is_active_where on a)
parts_in_where on _ = 0

-- the tangent of an active term: of a name or an element that of the variable, of a part its helper, where the first has the number k
abbrev pub tangent_term : Vars → Term → ℕ → Term
tangent_term on (var (plain x)) k = var (shadow x)
tangent_term on (elem (plain x) subs) k = elem (shadow x) subs
tangent_term on (neg a) k = work_var (k + parts_in_where on a)
tangent_term on (bin plus a b) k = work_var (k + parts_in_where on a + parts_in_where on b)
tangent_term on (bin minus a b) k = work_var (k + parts_in_where on a + parts_in_where on b)
tangent_term on (bin times a b) k = work_var (k + parts_in_where on a + parts_in_where on b)
tangent_term on (pow a (suc n)) k = work_var (k + parts_in_where on a)
tangent_term on (power_of a b) k = work_var (k + parts_in_where on a)
tangent_term on _ k = lit (pos 0)

-- the sum and the difference of tangents, without those of terms that aren't active
abbrev pub sum_of : Bool → Bool → Term → Term → Term
sum_of true true x y = bin plus x y
sum_of true false x y = x
sum_of false b x y = y

abbrev pub difference_of : Bool → Bool → Term → Term → Term
difference_of true true x y = bin minus x y
difference_of true false x y = x
difference_of false b x y = neg y

-- the factor of the tangent of a power's base, where the exponent is an expression; the guard keeps the exponent from falling below 0
abbrev pub power_factor : Term → Term → Term
power_factor base exponent = bin times exponent (power_of base (bin greater (bin minus exponent (lit (pos 1))) (lit (pos 0))))

-- the assignment of a part's helper, if the term is active
abbrev pub own_part : Bool → ℕ → ℕ → Term → Code
own_part b line m e = code_if b (one line (assign (helper work m) none e))

-- the assignments of the helpers, parts before what holds them: the first has the number k, and the first temporary of an operand's value the number j
abbrev pub parts_where : Vars → Term → ℕ → ℕ → ℕ → Code
parts_where on (neg a) k j line = parts_where on a k j line +++ own_part (is_active_where on a) line (k + parts_in_where on a) (neg (tangent_term on a k))
parts_where on (bin plus a b) k j line =
    parts_where on a k j line +++
    (parts_where on b (k + parts_in_where on a) (j + temps_in_where on a) line +++
    own_part (is_active_where on a || is_active_where on b) line (k + parts_in_where on a + parts_in_where on b)
    (sum_of (is_active_where on a) (is_active_where on b) (tangent_term on a k) (tangent_term on b (k + parts_in_where on a))))
parts_where on (bin minus a b) k j line =
    parts_where on a k j line +++
    (parts_where on b (k + parts_in_where on a) (j + temps_in_where on a) line +++
    own_part (is_active_where on a || is_active_where on b) line (k + parts_in_where on a + parts_in_where on b)
    (difference_of (is_active_where on a) (is_active_where on b) (tangent_term on a k) (tangent_term on b (k + parts_in_where on a))))
parts_where on (bin times a b) k j line =
    parts_where on a k j line +++
    (parts_where on b (k + parts_in_where on a) (j + temps_in_where on a + count_of (has_own_where on a b)) line +++
    own_part (is_active_where on a || is_active_where on b) line (k + parts_in_where on a + parts_in_where on b)
    (sum_of (is_active_where on a) (is_active_where on b)
    (bin times (tangent_term on a k) (own_or (has_own_where on b a) (j + temps_in_where on a + count_of (has_own_where on a b) + temps_in_where on b) b))
    (bin times (own_or (has_own_where on a b) (j + temps_in_where on a) a) (tangent_term on b (k + parts_in_where on a)))))
parts_where on (pow a (suc zero)) k j line = parts_where on a k j line +++ own_part (is_active_where on a) line (k + parts_in_where on a) (tangent_term on a k)
parts_where on (pow a (suc (suc n))) k j line =
    parts_where on a k j line +++
    own_part (is_active_where on a) line (k + parts_in_where on a)
    (bin times (bin times (lit (pos (suc (suc n)))) (pow (own_or (has_own_where on a a) (j + temps_in_where on a) a) (suc n))) (tangent_term on a k))
parts_where on (power_of a b) k j line =
    parts_where on a k j line +++
    own_part (is_active_where on a) line (k + parts_in_where on a)
    (bin times (power_factor (own_or (has_own_where on a a) (j + temps_in_where on a) a) (own_or (has_own_where on b a) (j + temps_in_where on a + count_of (has_own_where on a a)) b)) (tangent_term on a k))
parts_where on _ k j line = stop

-- what stands before an assignment of e to t, which carries a tangent: the values that are used, the tangents of the parts, and the tangent of t
abbrev pub before_assignment : Vars → List ℕ → Terms → Term → ℕ → Code
before_assignment on t subs e line =
    code_if (is_active_where on e) (temps_where on e 1 line +++ parts_where on e 1 1 line)
    +++ one line (assign (shadow t) subs (if is_active_where on e then tangent_term on e 1 else lit (pos 0)))
