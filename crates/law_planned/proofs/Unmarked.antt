-- The steps to the kernel mark no loop.
use Rattle.std.proofs.Common.{ℕ, zero, suc, ◌+◌, List, [], ◌∷◌, ◌++◌, Bool, true, false, map, refl, if◌then◌else◌}
use Rattle.adj_tree.specs.Code.{Var, plus, minus, times, quot, modulo, greater, lesser, Term, lit, var, elem, neg, bin, pow, power_of, abs, Terms, none, more, is_less, Test, compare, unmarked, with_count, count_from, Act, assign, choose, loop, during, call, runtime, Code, stop, step, Procedure}
use Rattle.def_meaning.specs.Append.{◌+++◌, one}
use Rattle.def_meaning.specs.LeastSet.{Dummies}
use Rattle.def_meaning.specs.Read.{reads_term}
use Rattle.def_kernel.specs.Lowered.{Passing, stays, put_back, by_value, passing, first_flag, other_flags, locals_in, locals_in_all, mentions, locals_in_target, locals_passing, picked, turned_up, reduced, before, set_local, before_target, lowered_assign, reduced_all, before_all, before_held, passed, before_passing, after_passing, before_passing_all, after_passing_all, lowered_call, lowered_act, lowered}
use Rattle.def_kernel.specs.Kernel.{EachUnit, local_in, lowered_unit}
use Rattle.def_meaning.specs.Written.{handed_back}
use Rattle.def_kernel.specs.Stepped.{marked_in, marked_in_act, cut_act, cut, step_units_in_act, step_units_in, stepped_unit, stepped_from, stepped_program, step_names, names_of_source}
use Rattle.def_planned.specs.ProgramFacts.{IsUnmarkedAct, IsUnmarked}
use Rattle.law_planned.specs.Planned.{KernelIsUnmarked}

-- one list behind another
append : (c d : Code) → IsUnmarked c → IsUnmarked d → IsUnmarked (c +++ d)
append stop d h k = k
append (step line a c) d h k = (h.0, append c d h.1 k)

-- ---- the statements that a statement becomes

module _ (local : ℕ → Var) where
  picks : (line : ℕ) (t : Test) (i : ℕ) (a b : Term) → IsUnmarked (picked local line t i a b)
  picks line t i a b = (tt, (tt, (((tt, tt), tt), tt)))

  befores : (line j : ℕ) (e : Term) → IsUnmarked (before local line j e)
  befores line j (lit z) = tt
  befores line j (var x) = tt
  befores line j (elem x subs) = tt
  befores line j (neg a) = befores line j a
  befores line j (bin plus a b) = append (before local line j a) (before local line (j + locals_in a) b) (befores line j a) (befores line (j + locals_in a) b)
  befores line j (bin minus a b) = append (before local line j a) (before local line (j + locals_in a) b) (befores line j a) (befores line (j + locals_in a) b)
  befores line j (bin times a b) = append (before local line j a) (before local line (j + locals_in a) b) (befores line j a) (befores line (j + locals_in a) b)
  befores line j (bin quot a b) = tt
  befores line j (bin modulo a b) = tt
  befores line j (bin greater a b) =
      let k = j + locals_in a in let i = k + locals_in b in
      append (before local line j a) _ (befores line j a) (append (before local line k b) _ (befores line k b) (picks line (compare is_less (var (local i)) (var (local (suc i)))) i (reduced local j a) (reduced local k b)))
  befores line j (bin lesser a b) =
      let k = j + locals_in a in let i = k + locals_in b in
      append (before local line j a) _ (befores line j a) (append (before local line k b) _ (befores line k b) (picks line (compare is_less (var (local (suc i))) (var (local i))) i (reduced local j a) (reduced local k b)))
  befores line j (pow a zero) = tt
  befores line j (pow a (suc k)) = befores line j a
  befores line j (power_of a b) = befores line j a
  befores line j (abs a) = append (before local line j a) (turned_up local line (j + locals_in a) (reduced local j a)) (befores line j a) (tt, (((tt, tt), tt), tt))

  sets : (line j m : ℕ) (e : Term) → IsUnmarked (set_local local line j m e)
  sets line j m e = append (before local line m e) (one line (assign (local j) none (reduced local m e))) (befores line m e) (tt, tt)

  targets : (line : ℕ) (x : Var) (j m : ℕ) (subs : Terms) → IsUnmarked (before_target local line x j m subs)
  targets line x j m none = tt
  targets line x j m (more e es) = go (reads_term x e) (targets line x (suc j) (m + locals_in e) es) (targets line x j m es)
    where
      go : (b : Bool) → IsUnmarked (before_target local line x (suc j) (m + locals_in e) es) → IsUnmarked (before_target local line x j m es)
          → IsUnmarked (if b then set_local local line j m e +++ before_target local line x (suc j) (m + locals_in e) es else before_target local line x j m es)
      go true h k = append (set_local local line j m e) (before_target local line x (suc j) (m + locals_in e) es) (sets line j m e) h
      go false h k = k

  pub assigns : (line : ℕ) (x : Var) (subs : Terms) (e : Term) → IsUnmarked (lowered_assign local line x subs e)
  assigns line x subs e =
      let m = mentions x subs in let k = m + locals_in_target x subs in
      append (before_target local line x 0 m subs) _ (targets line x 0 m subs) (append (before local line k e) _ (befores line k e) (tt, tt))

  befores_all : (line j : ℕ) (es : Terms) → IsUnmarked (before_all local line j es)
  befores_all line j none = tt
  befores_all line j (more e es) = append (before local line j e) (before_all local line (j + locals_in e) es) (befores line j e) (befores_all line (j + locals_in e) es)

  helds : (line j : ℕ) (es : Terms) → IsUnmarked (before_held local line j es)
  helds line j none = tt
  helds line j (more e es) = append (set_local local line j (suc j) e) (before_held local line (suc (j + locals_in e)) es) (sets line j (suc j) e) (helds line (suc (j + locals_in e)) es)

  passes : (line j : ℕ) (p : Passing) → IsUnmarked (before_passing local line j p)
  passes line j (stays x) = tt
  passes line j (put_back x subs) = append (before_held local line j subs) _ (helds line j subs) (tt, tt)
  passes line j (by_value e) = (tt, tt)

  passes_back : (line j : ℕ) (p : Passing) → IsUnmarked (after_passing local line j p)
  passes_back line j (stays x) = tt
  passes_back line j (put_back x subs) = (tt, tt)
  passes_back line j (by_value e) = tt

  passes_all : (line j : ℕ) (ws : List Bool) (earlier : List Var) (es : Terms) → IsUnmarked (before_passing_all local line j ws earlier es)
  passes_all line j ws earlier none = tt
  passes_all line j ws earlier (more e es) =
      let p = passing (first_flag ws) earlier e in
      append (before_passing local line j p) _ (passes line j p) (passes_all line (j + locals_passing p) (other_flags ws) (passed local j p ∷ earlier) es)

  passes_back_all : (line j : ℕ) (ws : List Bool) (earlier : List Var) (es : Terms) → IsUnmarked (after_passing_all local line j ws earlier es)
  passes_back_all line j ws earlier none = tt
  passes_back_all line j ws earlier (more e es) =
      let p = passing (first_flag ws) earlier e in
      append (after_passing local line j p) _ (passes_back line j p) (passes_back_all line (j + locals_passing p) (other_flags ws) (passed local j p ∷ earlier) es)

  pub calls : (line : ℕ) (ws : List Bool) (name : List ℕ) (args : Terms) → IsUnmarked (lowered_call local line ws name args)
  calls line ws name args =
      let j = locals_in_all args in let es = reduced_all local 0 args in
      append (before_all local line 0 args) _ (befores_all line 0 args) (append (before_passing_all local line j ws [] es) _ (passes_all line j ws [] es) (tt, passes_back_all line j ws [] es))

  module _ (handed : Dummies) where
    mutual
      lowers_act : (line : ℕ) (a : Act) → IsUnmarkedAct a → IsUnmarked (lowered_act local handed line a)
      lowers_act line (assign x subs e) h = assigns line x subs e
      lowers_act line (choose c a b) h = ((lowers a h.0, lowers b h.1), tt)
      lowers_act line (loop x first last by body m) h = ((h.0, lowers body h.1), tt)
      lowers_act line (during c body) h = (lowers body h, tt)
      lowers_act line (call name args) h = calls line (handed name) name args
      lowers_act line (runtime r) h = (tt, tt)

      lowers : (c : Code) → IsUnmarked c → IsUnmarked (lowered local handed c)
      lowers stop h = tt
      lowers (step line a rest) h = append (lowered_act local handed line a) (lowered local handed rest) (lowers_act line a h.0) (lowers rest h.1)

-- ---- step units

-- all units of two lists
pub both : (P : Procedure → Type 0) (us vs : List Procedure) → EachUnit P us → EachUnit P vs → EachUnit P (us ++ vs)
both P [] vs h k = k
both P (u ∷ us) vs h k = (h.0, both P us vs h.1 k)

abbrev Has : Procedure → Type 0
Has u = IsUnmarked u.body

module _ (taken : List (List ℕ)) (u : Procedure) where
  mutual
    cuts_act : (k line : ℕ) (a : Act) → IsUnmarkedAct a → IsUnmarkedAct (cut_act taken u k line a)
    cuts_act k line (assign x subs e) h = tt
    cuts_act k line (choose c a b) h = (cuts k a h.0, cuts (k + marked_in a) b h.1)
    cuts_act k line (loop x first last by body unmarked) h = (refl, cuts k body h.1)
    cuts_act k line (loop x first last by body (with_count m)) h = absurd (let e = h.0 in cc)
    cuts_act k line (loop x first last by body (count_from y)) h = absurd (let e = h.0 in cc)
    cuts_act k line (during c body) h = cuts k body h
    cuts_act k line (call name args) h = tt
    cuts_act k line (runtime r) h = tt

    cuts : (k : ℕ) (c : Code) → IsUnmarked c → IsUnmarked (cut taken u k c)
    cuts k stop h = tt
    cuts k (step line a rest) h = (cuts_act k line a h.0, cuts (k + marked_in_act a) rest h.1)

  mutual
    no_units_act : (k line : ℕ) (a : Act) → IsUnmarkedAct a → EachUnit Has (step_units_in_act taken u k line a)
    no_units_act k line (assign x subs e) h = tt
    no_units_act k line (choose c a b) h = both Has (step_units_in taken u k a) (step_units_in taken u (k + marked_in a) b) (no_units k a h.0) (no_units (k + marked_in a) b h.1)
    no_units_act k line (loop x first last by body unmarked) h = no_units k body h.1
    no_units_act k line (loop x first last by body (with_count m)) h = absurd (let e = h.0 in cc)
    no_units_act k line (loop x first last by body (count_from y)) h = absurd (let e = h.0 in cc)
    no_units_act k line (during c body) h = no_units k body h
    no_units_act k line (call name args) h = tt
    no_units_act k line (runtime r) h = tt

    no_units : (k : ℕ) (c : Code) → IsUnmarked c → EachUnit Has (step_units_in taken u k c)
    no_units k stop h = tt
    no_units k (step line a rest) h = both Has (step_units_in_act taken u k line a) (step_units_in taken u (k + marked_in_act a) rest) (no_units_act k line a h.0) (no_units (k + marked_in_act a) rest h.1)

-- ---- programs

steps : (taken : List (List ℕ)) (us : List Procedure) → EachUnit Has us → EachUnit Has (stepped_from taken us)
steps taken [] h = tt
steps taken (u ∷ us) h =
    both Has (stepped_unit taken u) (stepped_from (taken ++ step_names taken u.name (marked_in u.body)) us) (cuts taken u 0 u.body h.0, no_units taken u 0 u.body h.0) (steps (taken ++ step_names taken u.name (marked_in u.body)) us h.1)

all_lowered : (units us : List Procedure) → EachUnit Has us → EachUnit Has (map (lowered_unit units) us)
all_lowered units [] h = tt
all_lowered units (u ∷ us) h = (lowers (local_in units u) (handed_back units) u.body h.0, all_lowered units us h.1)

pub kernel_unmarked : KernelIsUnmarked
kernel_unmarked ps h = all_lowered (stepped_program ps) (stepped_program ps) (steps (names_of_source ps) ps h)
