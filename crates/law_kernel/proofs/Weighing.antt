-- What the statements weigh that a statement becomes: at most nine times what it weighs.
use Rattle.std.proofs.Common.{◌≡◌, ℕ, zero, suc, ◌+◌, ◌*◌, ◌≤◌, Bool, true, false, List, [], ◌∷◌, refl, arith}
use Rattle.std.specs.Prelude.{if◌then◌else◌}
use Rattle.adj_tree.specs.Code.{Var, plus, minus, times, quot, modulo, greater, lesser, Term, lit, var, elem, neg, bin, pow, power_of, abs, Terms, none, more, is_less, compare, Act, assign, choose, loop, during, call, runtime, Code, stop, step}
use Rattle.adj_tree.specs.Size.{terms_nodes, term_nodes}
use Rattle.def_meaning.specs.Append.{◌+++◌, one}
use Rattle.def_meaning.specs.LeastSet.{Dummies}
use Rattle.def_meaning.specs.Padded.{own_nodes}
use Rattle.def_meaning.specs.Read.{reads_term}
use Rattle.def_kernel.specs.Lowered.{locals_in, locals_in_all, length_of, reduced, before, picked, turned_up, set_local, mentions, locals_in_target, apart_from, before_target, lowered_assign, reduced_all, before_all, Passing, passing, passing_name, passing_element, is_among, locals_passing, first_flag, other_flags, held, before_held, passed, before_passing, after_passing, all_passed, before_passing_all, after_passing_all, lowered_call, lowered_act, lowered}
use Rattle.def_kernel.specs.Weights.{weight, cost_with_bodies, total_cost, weight_with_bodies, total_weight}

-- the cost of lists one after another
pub cost_append : (extra : Act → ℕ) (c d : Code) → total_cost extra (c +++ d) ≡ total_cost extra c + total_cost extra d
cost_append extra stop d = omega arith
cost_append extra (step line a c) d = omega (arith, cost_append extra c d)

-- weights of lists one after another
pub total_append : (c d : Code) → total_weight (c +++ d) ≡ total_weight c + total_weight d
total_append c d = cost_append own_nodes c d

-- where no statement costs more than it weighs, no list does
mutual
  act_cheap : (extra : Act → ℕ) → ((a : Act) → extra a ≤ own_nodes a) → (a : Act) → cost_with_bodies extra a ≤ weight_with_bodies a
  act_cheap extra h (assign x subs e) = let l = h (assign x subs e) in omega (arith, l)
  act_cheap extra h (choose c a b) = let l = h (choose c a b) in omega (arith, l, list_cheap extra h a, list_cheap extra h b)
  act_cheap extra h (loop x first last by body m) = let l = h (loop x first last by body m) in omega (arith, l, list_cheap extra h body)
  act_cheap extra h (during c body) = let l = h (during c body) in omega (arith, l, list_cheap extra h body)
  act_cheap extra h (call name args) = let l = h (call name args) in omega (arith, l)
  act_cheap extra h (runtime r) = let l = h (runtime r) in omega (arith, l)

  -- and no list does
  pub list_cheap : (extra : Act → ℕ) → ((a : Act) → extra a ≤ own_nodes a) → (c : Code) → total_cost extra c ≤ total_weight c
  list_cheap extra h stop = omega arith
  list_cheap extra h (step line a rest) = omega (arith, act_cheap extra h a, list_cheap extra h rest)

module _ (local : ℕ → Var) where
  -- ---- expressions

  -- what is set before an expression, and what stands in its place, are at most nine to a node, and eight are to spare
  abbrev pub IsLight : ℕ → ℕ → Term → Type 0
  IsLight line j e = total_weight (before local line j e) + term_nodes (reduced local j e) + 8 ≤ 9 * term_nodes e

  pub light : (line j : ℕ) (e : Term) → IsLight line j e
  light line j (lit z) = omega arith
  light line j (var x) = omega arith
  light line j (elem x subs) = omega arith
  light line j (neg a) = omega (arith, light line j a)
  light line j (bin plus a b) = omega (arith, light line j a, light line (j + locals_in a) b, total_append (before local line j a) (before local line (j + locals_in a) b))
  light line j (bin minus a b) = omega (arith, light line j a, light line (j + locals_in a) b, total_append (before local line j a) (before local line (j + locals_in a) b))
  light line j (bin times a b) = omega (arith, light line j a, light line (j + locals_in a) b, total_append (before local line j a) (before local line (j + locals_in a) b))
  light line j (bin quot a b) = omega arith
  light line j (bin modulo a b) = omega arith
  light line j (bin greater a b) =
      let k = j + locals_in a in
      let d = picked local line (compare is_less (var (local (k + locals_in b))) (var (local (suc (k + locals_in b))))) (k + locals_in b) (reduced local j a) (reduced local k b) in
      omega (arith, light line j a, light line k b, total_append (before local line j a) (before local line k b +++ d), total_append (before local line k b) d)
  light line j (bin lesser a b) =
      let k = j + locals_in a in
      let d = picked local line (compare is_less (var (local (suc (k + locals_in b)))) (var (local (k + locals_in b)))) (k + locals_in b) (reduced local j a) (reduced local k b) in
      omega (arith, light line j a, light line k b, total_append (before local line j a) (before local line k b +++ d), total_append (before local line k b) d)
  light line j (pow a zero) = omega arith
  light line j (pow a (suc k)) = omega (arith, light line j a)
  light line j (power_of a b) = omega (arith, light line j a)
  light line j (abs a) = omega (arith, light line j a, total_append (before local line j a) (turned_up local line (j + locals_in a) (reduced local j a)))

  -- a local that gets the value of an expression
  pub set_local_light : (line j m : ℕ) (e : Term) → total_weight (set_local local line j m e) + 7 ≤ 9 * term_nodes e
  set_local_light line j m e = omega (arith, light line m e, total_append (before local line m e) (one line (assign (local j) none (reduced local m e))))

  -- ---- assignments

  -- what is set before a target
  target_light : (line : ℕ) (x : Var) (j m : ℕ) (subs : Terms) → total_weight (before_target local line x j m subs) + terms_nodes (apart_from local x j subs) ≤ 9 * terms_nodes subs
  target_light line x j m none = omega arith
  target_light line x j m (more e es) = go (target_light line x (suc j) (m + locals_in e) es) (target_light line x j m es) (reads_term x e)
    where
      go : total_weight (before_target local line x (suc j) (m + locals_in e) es) + terms_nodes (apart_from local x (suc j) es) ≤ 9 * terms_nodes es → total_weight (before_target local line x j m es) + terms_nodes (apart_from local x j es) ≤ 9 * terms_nodes es → (b : Bool) →
          total_weight (if b then set_local local line j m e +++ before_target local line x (suc j) (m + locals_in e) es else before_target local line x j m es)
          + terms_nodes (if b then more (var (local j)) (apart_from local x (suc j) es) else more e (apart_from local x j es)) ≤ 9 * terms_nodes (more e es)
      go h g true = omega (arith, h, set_local_light line j m e, total_append (set_local local line j m e) (before_target local line x (suc j) (m + locals_in e) es))
      go h g false = omega (arith, g)

  -- an assignment
  pub assign_light : (line : ℕ) (x : Var) (subs : Terms) (e : Term) → total_weight (lowered_assign local line x subs e) ≤ 9 * weight (assign x subs e)
  assign_light line x subs e =
      let m = mentions x subs in let k = m + locals_in_target x subs in
      let first = before_target local line x 0 m subs in
      let second = before local line k e in
      let last = one line (assign x (apart_from local x 0 subs) (reduced local k e)) in
      omega (arith, target_light line x 0 m subs, light line k e, total_append first (second +++ last), total_append second last)

  -- ---- calls

  held_nodes : (j : ℕ) (es : Terms) → terms_nodes (held local j es) ≡ length_of es
  held_nodes j none = refl
  held_nodes j (more e es) = omega (arith, held_nodes (suc (j + locals_in e)) es)

  -- subscripts that are held
  held_light : (line j : ℕ) (es : Terms) → total_weight (before_held local line j es) + 7 * length_of es ≤ 9 * terms_nodes es
  held_light line j none = omega arith
  held_light line j (more e es) =
      let c = set_local local line j (suc j) e in let d = before_held local line (suc (j + locals_in e)) es in
      omega (arith, set_local_light line j (suc j) e, held_light line (suc (j + locals_in e)) es, total_append c d)

  -- what is set before the call for an actual, what puts it back, and its name
  abbrev pub passing_weight : ℕ → ℕ → Passing → ℕ
  passing_weight line j p = total_weight (before_passing local line j p) + total_weight (after_passing local line j p) + 1

  name_cheap : (line j : ℕ) (b : Bool) (x : Var) → passing_weight line j (passing_name b x) ≤ 3
  name_cheap line j true x = omega arith
  name_cheap line j false x = omega arith

  element_passed : (line j : ℕ) (b : Bool) (x : Var) (subs : Terms) → passing_weight line j (passing_element b x subs) ≤ 9 * (terms_nodes subs + 1)
  element_passed line j true x subs =
      let k = j + (length_of subs + locals_in_all subs) in
      let c = before_held local line j subs in
      let d = one line (assign (local k) none (elem x (held local j subs))) in
      omega (arith, held_light line j subs, held_nodes j subs, total_append c d)
  element_passed line j false x subs = omega arith

  -- an actual, with what is set before it
  pub actual_light : (line i j : ℕ) (b : Bool) (earlier : List Var) (e : Term) → total_weight (before local line i e) + passing_weight line j (passing b earlier (reduced local i e)) ≤ 9 * term_nodes e
  actual_light line i j b earlier (lit z) = omega arith
  actual_light line i j b earlier (var x) = omega (arith, name_cheap line j (is_among x earlier) x)
  actual_light line i j b earlier (elem x subs) = omega (arith, element_passed line j b x subs)
  actual_light line i j b earlier (neg a) = omega (arith, light line i (neg a))
  actual_light line i j b earlier (bin plus a c) = omega (arith, light line i (bin plus a c))
  actual_light line i j b earlier (bin minus a c) = omega (arith, light line i (bin minus a c))
  actual_light line i j b earlier (bin times a c) = omega (arith, light line i (bin times a c))
  actual_light line i j b earlier (bin quot a c) = omega arith
  actual_light line i j b earlier (bin modulo a c) = omega arith
  actual_light line i j b earlier (bin greater a c) = omega (arith, light line i (bin greater a c), name_cheap line j (is_among (local (i + locals_in a + locals_in c)) earlier) (local (i + locals_in a + locals_in c)))
  actual_light line i j b earlier (bin lesser a c) = omega (arith, light line i (bin lesser a c), name_cheap line j (is_among (local (i + locals_in a + locals_in c)) earlier) (local (i + locals_in a + locals_in c)))
  actual_light line i j b earlier (pow a zero) = omega arith
  actual_light line i j b earlier (pow a (suc k)) = omega (arith, light line i (pow a (suc k)))
  actual_light line i j b earlier (power_of a c) = omega (arith, light line i (power_of a c))
  actual_light line i j b earlier (abs a) = omega (arith, light line i (abs a), name_cheap line j (is_among (local (i + locals_in a)) earlier) (local (i + locals_in a)))

  -- all actuals, with what is set before and after
  pub actuals_light : (line i j : ℕ) (ws : List Bool) (earlier : List Var) (es : Terms) →
      total_weight (before_all local line i es) + total_weight (before_passing_all local line j ws earlier (reduced_all local i es)) + terms_nodes (all_passed local j ws earlier (reduced_all local i es)) + total_weight (after_passing_all local line j ws earlier (reduced_all local i es)) ≤ 9 * terms_nodes es
  actuals_light line i j ws earlier none = omega arith
  actuals_light line i j ws earlier (more e es) =
      let i1 = i + locals_in e in
      let rest = reduced_all local i1 es in
      let p = passing (first_flag ws) earlier (reduced local i e) in
      let j1 = j + locals_passing p in
      let later : List Var = passed local j p ∷ earlier in
      omega (
        arith,
        actual_light line i j (first_flag ws) earlier e,
        actuals_light line i1 j1 (other_flags ws) later es,
        total_append (before local line i e) (before_all local line i1 es),
        total_append (before_passing local line j p) (before_passing_all local line j1 (other_flags ws) later rest),
        total_append (after_passing local line j p) (after_passing_all local line j1 (other_flags ws) later rest),
      )

  -- a CALL
  pub call_light : (line : ℕ) (ws : List Bool) (name : List ℕ) (args : Terms) → total_weight (lowered_call local line ws name args) ≤ 9 * weight (call name args)
  call_light line ws name args =
      let j = locals_in_all args in let es = reduced_all local 0 args in
      let first = before_all local line 0 args in
      let second = before_passing_all local line j ws [] es in
      let third = step line (call name (all_passed local j ws [] es)) (after_passing_all local line j ws [] es) in
      omega (arith, actuals_light line 0 j ws [] args, total_append first (second +++ third), total_append second third)

  -- ---- lists

  module _ (handed : Dummies) where
    mutual
      -- all statements that a statement becomes, bodies too
      pub act_light : (line : ℕ) (a : Act) → total_weight (lowered_act local handed line a) ≤ 9 * weight_with_bodies a
      act_light line (assign x subs e) = assign_light line x subs e
      act_light line (choose c a b) = omega (arith, list_light a, list_light b)
      act_light line (loop x first last by body m) = omega (arith, list_light body)
      act_light line (during c body) = omega (arith, list_light body)
      act_light line (call name args) = call_light line (handed name) name args
      act_light line (runtime r) = omega arith

      pub list_light : (c : Code) → total_weight (lowered local handed c) ≤ 9 * total_weight c
      list_light stop = omega arith
      list_light (step line a rest) = omega (arith, act_light line a, list_light rest, total_append (lowered_act local handed line a) (lowered local handed rest))
