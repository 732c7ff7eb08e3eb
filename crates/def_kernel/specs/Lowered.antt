-- Lowering: what becomes of the statements of a unit in its kernel. MAX, MIN and ABS, subscripts of targets, and actuals of
-- calls become statements of their own, by locals that are set before the statement in which they stood. (docs/KERNEL.md)
use Rattle.std.specs.Prelude.{ℕ, zero, suc, ◌+◌, max, pos, List, [], ◌∷◌, Bool, true, false, ◌||◌, if◌then◌else◌}
use Rattle.adj_tree.specs.Code.{Var, var_eq, plus, minus, times, quot, modulo, greater, lesser, Term, lit, var, elem, neg, bin, pow, power_of, abs, Terms, none, more, is_less, Test, compare, Act, assign, choose, loop, during, call, runtime, Code, stop, step}
use Rattle.def_meaning.specs.Append.{◌+++◌, one}
use Rattle.def_meaning.specs.LeastSet.{Dummies}
use Rattle.def_meaning.specs.Read.{reads_term}

-- 1 where it is so
abbrev pub count_of : Bool → ℕ
count_of true = 1
count_of false = 0

-- ---- how many locals are taken

-- by an expression at a differentiable place: two by MAX and MIN and one by ABS, outside subscripts,
-- quotients, MOD, exponents and bases of power 0
abbrev pub locals_in : Term → ℕ
locals_in (lit z) = 0
locals_in (var x) = 0
locals_in (elem x subs) = 0
locals_in (neg a) = locals_in a
locals_in (bin plus a b) = locals_in a + locals_in b
locals_in (bin minus a b) = locals_in a + locals_in b
locals_in (bin times a b) = locals_in a + locals_in b
locals_in (bin quot a b) = 0
locals_in (bin modulo a b) = 0
locals_in (bin greater a b) = locals_in a + locals_in b + 2
locals_in (bin lesser a b) = locals_in a + locals_in b + 2
locals_in (pow a zero) = 0
locals_in (pow a (suc k)) = locals_in a
locals_in (power_of a b) = locals_in a
locals_in (abs a) = locals_in a + 1

-- by some expressions, each at a differentiable place
abbrev pub locals_in_all : Terms → ℕ
locals_in_all none = 0
locals_in_all (more e es) = locals_in e + locals_in_all es

-- how many subscripts of a target mention its array
abbrev pub mentions : Var → Terms → ℕ
mentions x none = 0
mentions x (more e es) = count_of (reads_term x e) + mentions x es

-- by the expressions in these subscripts
abbrev pub locals_in_target : Var → Terms → ℕ
locals_in_target x none = 0
locals_in_target x (more e es) = (if reads_term x e then locals_in e else 0) + locals_in_target x es

abbrev pub length_of : Terms → ℕ
length_of none = 0
length_of (more e es) = suc (length_of es)

-- whether a variable stands among some
abbrev pub is_among : Var → List Var → Bool
is_among x [] = false
is_among x (y ∷ ys) = var_eq x y || is_among x ys

-- how an actual becomes a name: a name stays where it doesn't stand earlier in the call; an element for a dummy that is written
-- is put back; all else is passed by its value
pub data Passing : Type 0 where
  stays : Var → Passing
  put_back : Var → Terms → Passing
  by_value : Term → Passing

abbrev pub passing_name : Bool → Var → Passing
passing_name true x = by_value (var x)
passing_name false x = stays x

abbrev pub passing_element : Bool → Var → Terms → Passing
passing_element true x subs = put_back x subs
passing_element false x subs = by_value (elem x subs)

-- `earlier` are the names that stand earlier in the call
abbrev pub passing : Bool → List Var → Term → Passing
passing w earlier (var x) = passing_name (is_among x earlier) x
passing w earlier (elem x subs) = passing_element w x subs
passing w earlier (lit z) = by_value (lit z)
passing w earlier (neg a) = by_value (neg a)
passing w earlier (bin op a b) = by_value (bin op a b)
passing w earlier (pow a k) = by_value (pow a k)
passing w earlier (power_of a b) = by_value (power_of a b)
passing w earlier (abs a) = by_value (abs a)

-- by the actual: an element that is put back takes one for each subscript, those in it, and one for itself
abbrev pub locals_passing : Passing → ℕ
locals_passing (stays x) = 0
locals_passing (put_back x subs) = length_of subs + locals_in_all subs + 1
locals_passing (by_value e) = 1

-- whether the first dummy is written, and the others
abbrev pub first_flag : List Bool → Bool
first_flag [] = false
first_flag (w ∷ ws) = w

abbrev pub other_flags : List Bool → List Bool
other_flags [] = []
other_flags (w ∷ ws) = ws

-- ---- the statements, where `local j` is the variable that is the local of number j, counted from 0 in each statement

module _ (local : ℕ → Var) where
  -- the first value, or the second where the test holds, in the first of two locals
  abbrev pub picked : ℕ → Test → ℕ → Term → Term → Code
  picked line t i a b =
      step line (assign (local i) none a) (step line (assign (local (suc i)) none b)
      (one line (choose t (one line (assign (local i) none (var (local (suc i))))) stop)))

  -- a local that is below 0 gets its sign turned
  abbrev pub turned_up : ℕ → ℕ → Term → Code
  turned_up line i a =
      step line (assign (local i) none a)
      (one line (choose (compare is_less (var (local i)) (lit (pos 0))) (one line (assign (local i) none (neg (var (local i))))) stop))

  -- an expression with locals in place of MAX, MIN and ABS, where j locals are taken already
  abbrev pub reduced : ℕ → Term → Term
  reduced j (lit z) = lit z
  reduced j (var x) = var x
  reduced j (elem x subs) = elem x subs
  reduced j (neg a) = neg (reduced j a)
  reduced j (bin plus a b) = bin plus (reduced j a) (reduced (j + locals_in a) b)
  reduced j (bin minus a b) = bin minus (reduced j a) (reduced (j + locals_in a) b)
  reduced j (bin times a b) = bin times (reduced j a) (reduced (j + locals_in a) b)
  reduced j (bin quot a b) = bin quot a b
  reduced j (bin modulo a b) = bin modulo a b
  reduced j (bin greater a b) = var (local (j + locals_in a + locals_in b))
  reduced j (bin lesser a b) = var (local (j + locals_in a + locals_in b))
  reduced j (pow a zero) = pow a zero
  reduced j (pow a (suc k)) = pow (reduced j a) (suc k)
  reduced j (power_of a b) = power_of (reduced j a) b
  reduced j (abs a) = var (local (j + locals_in a))

  -- the statements that set these locals, inner ones first
  abbrev pub before : ℕ → ℕ → Term → Code
  before line j (lit z) = stop
  before line j (var x) = stop
  before line j (elem x subs) = stop
  before line j (neg a) = before line j a
  before line j (bin plus a b) = before line j a +++ before line (j + locals_in a) b
  before line j (bin minus a b) = before line j a +++ before line (j + locals_in a) b
  before line j (bin times a b) = before line j a +++ before line (j + locals_in a) b
  before line j (bin quot a b) = stop
  before line j (bin modulo a b) = stop
  before line j (bin greater a b) =
      let k = j + locals_in a in let i = k + locals_in b in
      before line j a +++ (before line k b +++ picked line (compare is_less (var (local i)) (var (local (suc i)))) i (reduced j a) (reduced k b))
  before line j (bin lesser a b) =
      let k = j + locals_in a in let i = k + locals_in b in
      before line j a +++ (before line k b +++ picked line (compare is_less (var (local (suc i))) (var (local i))) i (reduced j a) (reduced k b))
  before line j (pow a zero) = stop
  before line j (pow a (suc k)) = before line j a
  before line j (power_of a b) = before line j a
  before line j (abs a) = before line j a +++ turned_up line (j + locals_in a) (reduced j a)

  -- a local gets the value of an expression, for which m locals are taken already
  abbrev pub set_local : ℕ → ℕ → ℕ → Term → Code
  set_local line j m e = before line m e +++ one line (assign (local j) none (reduced m e))

  -- ---- targets

  -- the subscripts of a target, with locals in place of those that mention its array
  abbrev pub apart_from : Var → ℕ → Terms → Terms
  apart_from x j none = none
  apart_from x j (more e es) = if reads_term x e then more (var (local j)) (apart_from x (suc j) es) else more e (apart_from x j es)

  -- the statements that set these locals
  abbrev pub before_target : ℕ → Var → ℕ → ℕ → Terms → Code
  before_target line x j m none = stop
  before_target line x j m (more e es) =
      if reads_term x e then set_local line j m e +++ before_target line x (suc j) (m + locals_in e) es else before_target line x j m es

  abbrev pub lowered_assign : ℕ → Var → Terms → Term → Code
  lowered_assign line x subs e =
      let m = mentions x subs in let k = m + locals_in_target x subs in
      before_target line x 0 m subs +++ (before line k e +++ one line (assign x (apart_from x 0 subs) (reduced k e)))

  -- ---- calls

  -- actuals with locals in place of MAX, MIN and ABS (a name or an element is as it was)
  abbrev pub reduced_all : ℕ → Terms → Terms
  reduced_all j none = none
  reduced_all j (more e es) = more (reduced j e) (reduced_all (j + locals_in e) es)

  abbrev pub before_all : ℕ → ℕ → Terms → Code
  before_all line j none = stop
  before_all line j (more e es) = before line j e +++ before_all line (j + locals_in e) es

  -- the names of the locals that hold some subscripts
  abbrev pub held : ℕ → Terms → Terms
  held j none = none
  held j (more e es) = more (var (local j)) (held (suc (j + locals_in e)) es)

  -- the statements that set them: each takes its local, and then those in it
  abbrev pub before_held : ℕ → ℕ → Terms → Code
  before_held line j none = stop
  before_held line j (more e es) = set_local line j (suc j) e +++ before_held line (suc (j + locals_in e)) es

  -- the name that an actual becomes
  abbrev pub passed : ℕ → Passing → Var
  passed j (stays x) = x
  passed j (put_back x subs) = local (j + (length_of subs + locals_in_all subs))
  passed j (by_value e) = local j

  -- the statements before the call that set it
  abbrev pub before_passing : ℕ → ℕ → Passing → Code
  before_passing line j (stays x) = stop
  before_passing line j (put_back x subs) = before_held line j subs +++ one line (assign (local (j + (length_of subs + locals_in_all subs))) none (elem x (held j subs)))
  before_passing line j (by_value e) = one line (assign (local j) none e)

  -- the statement after the call that puts an element back
  abbrev pub after_passing : ℕ → ℕ → Passing → Code
  after_passing line j (stays x) = stop
  after_passing line j (put_back x subs) = one line (assign x (held j subs) (var (local (j + (length_of subs + locals_in_all subs)))))
  after_passing line j (by_value e) = stop

  -- the same of all actuals, in order; the flags say which dummies are written
  abbrev pub all_passed : ℕ → List Bool → List Var → Terms → Terms
  all_passed j ws earlier none = none
  all_passed j ws earlier (more e es) =
      let p = passing (first_flag ws) earlier e in
      more (var (passed j p)) (all_passed (j + locals_passing p) (other_flags ws) (passed j p ∷ earlier) es)

  abbrev pub before_passing_all : ℕ → ℕ → List Bool → List Var → Terms → Code
  before_passing_all line j ws earlier none = stop
  before_passing_all line j ws earlier (more e es) =
      let p = passing (first_flag ws) earlier e in
      before_passing line j p +++ before_passing_all line (j + locals_passing p) (other_flags ws) (passed j p ∷ earlier) es

  abbrev pub after_passing_all : ℕ → ℕ → List Bool → List Var → Terms → Code
  after_passing_all line j ws earlier none = stop
  after_passing_all line j ws earlier (more e es) =
      let p = passing (first_flag ws) earlier e in
      after_passing line j p +++ after_passing_all line (j + locals_passing p) (other_flags ws) (passed j p ∷ earlier) es

  abbrev pub locals_passing_all : ℕ → List Bool → List Var → Terms → ℕ
  locals_passing_all j ws earlier none = 0
  locals_passing_all j ws earlier (more e es) =
      let p = passing (first_flag ws) earlier e in
      locals_passing p + locals_passing_all (j + locals_passing p) (other_flags ws) (passed j p ∷ earlier) es

  abbrev pub lowered_call : ℕ → List Bool → List ℕ → Terms → Code
  lowered_call line ws name args =
      let j = locals_in_all args in let es = reduced_all 0 args in
      before_all line 0 args +++ (before_passing_all line j ws [] es +++ step line (call name (all_passed j ws [] es)) (after_passing_all line j ws [] es))

  -- ---- statements

  module _ (handed : Dummies) where
    abbrev mutual
      -- the statements that a statement becomes, where `handed` says which dummies of a unit are written
      pub lowered_act : ℕ → Act → Code
      lowered_act line (assign x subs e) = lowered_assign line x subs e
      lowered_act line (choose c a b) = one line (choose c (lowered a) (lowered b))
      lowered_act line (loop x first last by body m) = one line (loop x first last by (lowered body) m)
      lowered_act line (during c body) = one line (during c (lowered body))
      lowered_act line (call name args) = lowered_call line (handed name) name args
      lowered_act line (runtime r) = one line (runtime r)

      -- the same of a list
      pub lowered : Code → Code
      lowered stop = stop
      lowered (step line a rest) = lowered_act line a +++ lowered rest

    abbrev mutual
      -- the most locals that one statement takes
      pub locals_of_act : Act → ℕ
      locals_of_act (assign x subs e) = mentions x subs + locals_in_target x subs + locals_in e
      locals_of_act (choose c a b) = max (locals_of a) (locals_of b)
      locals_of_act (loop x first last by body m) = locals_of body
      locals_of_act (during c body) = locals_of body
      locals_of_act (call name args) = locals_in_all args + locals_passing_all (locals_in_all args) (handed name) [] (reduced_all 0 args)
      locals_of_act (runtime r) = 0

      pub locals_of : Code → ℕ
      locals_of stop = 0
      locals_of (step line a rest) = max (locals_of_act a) (locals_of rest)
