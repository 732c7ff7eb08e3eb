-- The adjoint of an assignment. `on` is the set of variables whose occurrences are active. (docs/EMITTED.md, "The adjoint of an assignment")
use Rattle.std.specs.Prelude.{ℕ, zero, suc, ◌+◌, pos, List, Bool, false, ◌||◌, ◌&&◌, max, if◌then◌else◌}
use Rattle.adj_tree.specs.Code.{var_eq, plain, shadow, helper, work, plus, minus, times, greater, Term, lit, var, elem, neg, bin, pow, power_of, abs, Terms, none, assign, Code, stop, step}
use Rattle.def_meaning.specs.Append.{◌+++◌, one}
use Rattle.def_names.specs.Numbers.{Vars}
use Rattle.def_sweep.specs.Occurrences.{is_active_where}
use Rattle.def_sweep.specs.Marked.{code_if, is_compound, count_of, own_or, own_code, work_var, place}

-- ---- the adjoint of an assignment

-- whether the factor a of a product with b has a temporary of its own
abbrev pub has_own_where : Vars → Term → Term → Bool
has_own_where on a b = is_compound a && is_active_where on b

-- how many temporaries the operands in a term have
abbrev pub temps_in_where : Vars → Term → ℕ
temps_in_where on (neg a) = temps_in_where on a
temps_in_where on (bin plus a b) = temps_in_where on a + temps_in_where on b
temps_in_where on (bin minus a b) = temps_in_where on a + temps_in_where on b
temps_in_where on (bin times a b) = temps_in_where on a + count_of (has_own_where on a b) + (temps_in_where on b + count_of (has_own_where on b a))
temps_in_where on (pow a (suc (suc k))) = temps_in_where on a + count_of (has_own_where on a a)
temps_in_where on (pow a (suc zero)) = temps_in_where on a
temps_in_where on (power_of a b) = temps_in_where on a + count_of (has_own_where on a a) + count_of (has_own_where on b a)
temps_in_where on _ = 0

-- a term whose operands are replaced by their temporaries, of which the first has the number j
abbrev pub shrunk_where : Vars → Term → ℕ → Term
shrunk_where on (neg a) j = neg (shrunk_where on a j)
shrunk_where on (bin plus a b) j = bin plus (shrunk_where on a j) (shrunk_where on b (j + temps_in_where on a))
shrunk_where on (bin minus a b) j = bin minus (shrunk_where on a j) (shrunk_where on b (j + temps_in_where on a))
shrunk_where on (bin times a b) j =
    bin times
    (own_or (has_own_where on a b) (j + temps_in_where on a) (shrunk_where on a j))
    (own_or (has_own_where on b a) (j + temps_in_where on a + count_of (has_own_where on a b) + temps_in_where on b) (shrunk_where on b (j + temps_in_where on a + count_of (has_own_where on a b))))
shrunk_where on (pow a (suc (suc k))) j = pow (own_or (has_own_where on a a) (j + temps_in_where on a) (shrunk_where on a j)) (suc (suc k))
shrunk_where on (pow a (suc zero)) j = pow (shrunk_where on a j) (suc zero)
shrunk_where on (power_of a b) j =
    power_of
    (own_or (has_own_where on a a) (j + temps_in_where on a) (shrunk_where on a j))
    (own_or (has_own_where on b a) (j + temps_in_where on a + count_of (has_own_where on a a)) b)
shrunk_where on e j = e

-- the assignments of the temporaries, operands before what holds them
abbrev pub temps_where : Vars → Term → ℕ → ℕ → Code
temps_where on (neg a) j line = temps_where on a j line
temps_where on (bin plus a b) j line = temps_where on a j line +++ temps_where on b (j + temps_in_where on a) line
temps_where on (bin minus a b) j line = temps_where on a j line +++ temps_where on b (j + temps_in_where on a) line
temps_where on (bin times a b) j line =
    temps_where on a j line +++
    (own_code (has_own_where on a b) line (j + temps_in_where on a) (shrunk_where on a j) +++
    (temps_where on b (j + temps_in_where on a + count_of (has_own_where on a b)) line +++
    own_code (has_own_where on b a) line (j + temps_in_where on a + count_of (has_own_where on a b) + temps_in_where on b) (shrunk_where on b (j + temps_in_where on a + count_of (has_own_where on a b)))))
temps_where on (pow a (suc (suc k))) j line = temps_where on a j line +++ own_code (has_own_where on a a) line (j + temps_in_where on a) (shrunk_where on a j)
temps_where on (pow a (suc zero)) j line = temps_where on a j line
temps_where on (power_of a b) j line =
    temps_where on a j line +++
    (own_code (has_own_where on a a) line (j + temps_in_where on a) (shrunk_where on a j) +++
    own_code (has_own_where on b a) line (j + temps_in_where on a + count_of (has_own_where on a a)) b)
temps_where on e j line = stop

-- the derivative of a power whose exponent is an expression, times a term: the guard keeps the exponent from falling below 0
abbrev pub times_power : Term → Term → Term → Term
times_power w base exponent = bin times (bin times w exponent) (power_of base (bin greater (bin minus exponent (lit (pos 1))) (lit (pos 0))))

-- what is added to the shadows of a term's active variables, where the term's own adjoint stands in the k-th work variable
abbrev pub back_where : Vars → Term → ℕ → ℕ → ℕ → Code
back_where on (var (plain x)) k j line = one line (assign (shadow x) none (bin plus (var (shadow x)) (work_var k)))
back_where on (elem (plain x) subs) k j line = one line (assign (shadow x) subs (bin plus (elem (shadow x) subs) (work_var k)))
back_where on (neg a) k j line = code_if (is_active_where on a) (step line (assign (helper work (suc k)) none (neg (work_var k))) (back_where on a (suc k) j line))
back_where on (bin plus a b) k j line = code_if (is_active_where on a) (back_where on a k j line) +++ code_if (is_active_where on b) (back_where on b k (j + temps_in_where on a) line)
back_where on (bin minus a b) k j line =
    code_if (is_active_where on a) (back_where on a k j line) +++
    code_if (is_active_where on b) (step line (assign (helper work (suc k)) none (neg (work_var k))) (back_where on b (suc k) (j + temps_in_where on a) line))
back_where on (bin times a b) k j line =
    code_if (is_active_where on a)
    (step line (assign (helper work (suc k)) none (bin times (work_var k) (own_or (has_own_where on b a) (j + temps_in_where on a + count_of (has_own_where on a b) + temps_in_where on b) b)))
    (back_where on a (suc k) j line)) +++
    code_if (is_active_where on b)
    (step line (assign (helper work (suc k)) none (bin times (work_var k) (own_or (has_own_where on a b) (j + temps_in_where on a) a)))
    (back_where on b (suc k) (j + temps_in_where on a + count_of (has_own_where on a b)) line))
back_where on (pow a (suc zero)) k j line = code_if (is_active_where on a) (back_where on a k j line)
back_where on (pow a (suc (suc n))) k j line =
    code_if (is_active_where on a)
    (step line (assign (helper work (suc k)) none (bin times (bin times (work_var k) (lit (pos (suc (suc n))))) (pow (own_or (has_own_where on a a) (j + temps_in_where on a) a) (suc n))))
    (back_where on a (suc k) j line))
back_where on (power_of a b) k j line =
    code_if (is_active_where on a)
    (step line (assign (helper work (suc k)) none (times_power (work_var k) (own_or (has_own_where on a a) (j + temps_in_where on a) a) (own_or (has_own_where on b a) (j + temps_in_where on a + count_of (has_own_where on a a)) b)))
    (back_where on a (suc k) j line))
back_where on _ k j line = stop

-- how many work variables that takes, where the first one has the number k
abbrev pub works_in_where : Vars → Term → ℕ → ℕ
works_in_where on (var x) k = if on x then k else 0
works_in_where on (elem x subs) k = if on x then k else 0
works_in_where on (neg a) k = works_in_where on a (suc k)
works_in_where on (bin plus a b) k = max (works_in_where on a k) (works_in_where on b k)
works_in_where on (bin minus a b) k = max (works_in_where on a k) (works_in_where on b (suc k))
works_in_where on (bin times a b) k = max (works_in_where on a (suc k)) (works_in_where on b (suc k))
works_in_where on (pow a (suc zero)) k = works_in_where on a k
works_in_where on (pow a (suc (suc n))) k = works_in_where on a (suc k)
works_in_where on (power_of a b) k = works_in_where on a (suc k)
works_in_where on _ k = 0

-- the adjoint of an assignment of e to t: the shadow of t goes through the right side's active operands, and becomes 0
abbrev pub adjoint_where : Vars → List ℕ → Terms → Term → ℕ → Code
adjoint_where on t subs e line =
    code_if (is_active_where on e)
    (temps_where on e 1 line +++ one line (assign (helper work 1) none (place (shadow t) subs))) +++
    (one line (assign (shadow t) subs (lit (pos 0))) +++
    code_if (is_active_where on e) (back_where on e 1 1 line))
