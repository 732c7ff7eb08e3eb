-- The expressions and conditions of a kernel are no deeper than those of the program, or 2 deep.
use Rattle.std.proofs.Common.{◌≤◌, ℕ, zero, suc, ◌+◌, max, Bool, true, false, List, [], ◌∷◌, ◌++◌, map, arith, if◌then◌else◌}
use Rattle.adj_tree.specs.Code.{Var, plus, minus, times, quot, modulo, greater, lesser, Term, Terms, lit, var, elem, neg, bin, pow, power_of, abs, none, more, is_less, compare, unmarked, with_count, count_from, Act, Code, assign, choose, loop, during, call, runtime, stop, step, Procedure}
use Rattle.adj_tree.specs.Size.{term_depth, terms_depth}
use Rattle.def_meaning.specs.Append.{◌+++◌, one}
use Rattle.def_meaning.specs.LeastSet.{Dummies}
use Rattle.def_meaning.specs.Read.{reads_term}
use Rattle.def_meaning.specs.Written.{handed_back}
use Rattle.def_kernel.specs.Lowered.{locals_in, mentions, locals_in_target, locals_in_all, is_among, first_flag, other_flags, Passing, stays, put_back, by_value, passing_name, passing_element, passing, locals_passing, reduced, picked, turned_up, before, set_local, apart_from, before_target, lowered_assign, reduced_all, before_all, held, before_held, passed, before_passing, after_passing, before_passing_all, after_passing_all, all_passed, lowered_call, lowered_act, lowered}
use Rattle.def_kernel.specs.Kernel.{lowered_unit, local_in}
use Rattle.def_kernel.specs.Stepped.{marked_in, marked_in_act, as_actuals, step_dummies, cut_act, cut, step_units_in_act, step_units_in, stepped_unit, stepped_from, stepped_program, step_names, names_of_source}
use Rattle.law_emitted.specs.Emitted.{act_deepest, deepest, AreShallow}
use Rattle.law_limits.specs.Limits.{KernelKeepsDepth}

deep_append : (n : ℕ) (c d : Code) → deepest c ≤ n → deepest d ≤ n → deepest (c +++ d) ≤ n
deep_append n stop d h g = g
deep_append n (step line a c) d h g = let rest = deep_append n c d (omega arith) g in omega arith

pub shallow_append : (n : ℕ) (ps qs : List Procedure) → AreShallow n ps → AreShallow n qs → AreShallow n (ps ++ qs)
shallow_append n [] qs h g = g
shallow_append n (p ∷ ps) qs h g = (h.0, shallow_append n ps qs h.1 g)

some_depth : (e : Term) → 1 ≤ term_depth e
some_depth (lit z) = omega arith
some_depth (var x) = omega arith
some_depth (elem x s) = omega arith
some_depth (neg a) = omega arith
some_depth (bin op a b) = omega arith
some_depth (pow a k) = omega arith
some_depth (power_of a b) = omega arith
some_depth (abs a) = omega arith

-- ---- lowering

module _ (local : ℕ → Var) where
  reduced_depth : (j : ℕ) (e : Term) → term_depth (reduced local j e) ≤ term_depth e
  reduced_depth j (lit z) = omega arith
  reduced_depth j (var x) = omega arith
  reduced_depth j (elem x subs) = omega arith
  reduced_depth j (neg a) = let p = reduced_depth j a in omega arith
  reduced_depth j (bin plus a b) = let p = reduced_depth j a in let q = reduced_depth (j + locals_in a) b in omega arith
  reduced_depth j (bin minus a b) = let p = reduced_depth j a in let q = reduced_depth (j + locals_in a) b in omega arith
  reduced_depth j (bin times a b) = let p = reduced_depth j a in let q = reduced_depth (j + locals_in a) b in omega arith
  reduced_depth j (bin quot a b) = omega arith
  reduced_depth j (bin modulo a b) = omega arith
  reduced_depth j (bin greater a b) = omega arith
  reduced_depth j (bin lesser a b) = omega arith
  reduced_depth j (pow a zero) = omega arith
  reduced_depth j (pow a (suc k)) = let p = reduced_depth j a in omega arith
  reduced_depth j (power_of a b) = let p = reduced_depth j a in omega arith
  reduced_depth j (abs a) = omega arith

  reduced_all_depth : (j : ℕ) (es : Terms) → terms_depth (reduced_all local j es) ≤ terms_depth es
  reduced_all_depth j none = omega arith
  reduced_all_depth j (more e es) = let p = reduced_depth j e in let q = reduced_all_depth (j + locals_in e) es in omega arith

  held_depth : (j : ℕ) (es : Terms) → terms_depth (held local j es) ≤ 1
  held_depth j none = omega arith
  held_depth j (more e es) = let q = held_depth (suc (j + locals_in e)) es in omega arith

  apart_depth : (x : Var) (j : ℕ) (es : Terms) → terms_depth (apart_from local x j es) ≤ terms_depth es
  apart_depth x j none = omega arith
  apart_depth x j (more e es) =
      let p = apart_depth x (suc j) es in
      let q = apart_depth x j es in
      let some = some_depth e in
      elim (reads_term x e) as (λ b. terms_depth (if b then more (var (local j)) (apart_from local x (suc j) es) else more e (apart_from local x j es)) ≤ max (term_depth e) (terms_depth es)) [ true ↦ omega arith | false ↦ omega arith ]

  all_passed_depth : (j : ℕ) (ws : List Bool) (earlier : List Var) (es : Terms) → terms_depth (all_passed local j ws earlier es) ≤ 1
  all_passed_depth j ws earlier none = omega arith
  all_passed_depth j ws earlier (more e es) =
      let p = passing (first_flag ws) earlier e in
      let rest = all_passed_depth (j + locals_passing p) (other_flags ws) (passed local j p ∷ earlier) es in
      omega arith

  module _ (n : ℕ) (two : 2 ≤ n) where
    picked_deep : (line i : ℕ) (x y : Var) (a b : Term) → term_depth a ≤ n → term_depth b ≤ n → deepest (picked local line (compare is_less (var x) (var y)) i a b) ≤ n
    picked_deep line i x y a b h g = omega arith

    turned_deep : (line i : ℕ) (a : Term) → term_depth a ≤ n → deepest (turned_up local line i a) ≤ n
    turned_deep line i a h = omega arith

    set_deep : (line : ℕ) (x : Var) (e : Term) → term_depth e ≤ n → deepest (one line (assign x none e)) ≤ n
    set_deep line x e h = omega arith

    two_before : (line j : ℕ) (a b : Term) → deepest (before local line j a) ≤ n → deepest (before local line (j + locals_in a) b) ≤ n → deepest (before local line j a +++ before local line (j + locals_in a) b) ≤ n
    two_before line j a b h g = deep_append n (before local line j a) _ h g

    before_deep : (line j : ℕ) (e : Term) → term_depth e ≤ n → deepest (before local line j e) ≤ n
    before_deep line j (lit z) h = omega arith
    before_deep line j (var x) h = omega arith
    before_deep line j (elem x subs) h = omega arith
    before_deep line j (neg a) h = before_deep line j a (omega arith)
    before_deep line j (bin plus a b) h = two_before line j a b (before_deep line j a (omega arith)) (before_deep line (j + locals_in a) b (omega arith))
    before_deep line j (bin minus a b) h = two_before line j a b (before_deep line j a (omega arith)) (before_deep line (j + locals_in a) b (omega arith))
    before_deep line j (bin times a b) h = two_before line j a b (before_deep line j a (omega arith)) (before_deep line (j + locals_in a) b (omega arith))
    before_deep line j (bin quot a b) h = omega arith
    before_deep line j (bin modulo a b) h = omega arith
    before_deep line j (bin greater a b) h =
        let k = j + locals_in a in
        let i = k + locals_in b in
        let p = reduced_depth j a in
        let q = reduced_depth k b in
        deep_append n (before local line j a) _ (before_deep line j a (omega arith)) (deep_append n (before local line k b) _ (before_deep line k b (omega arith)) (picked_deep line i (local i) (local (suc i)) (reduced local j a) (reduced local k b) (omega arith) (omega arith)))
    before_deep line j (bin lesser a b) h =
        let k = j + locals_in a in
        let i = k + locals_in b in
        let p = reduced_depth j a in
        let q = reduced_depth k b in
        deep_append n (before local line j a) _ (before_deep line j a (omega arith)) (deep_append n (before local line k b) _ (before_deep line k b (omega arith)) (picked_deep line i (local (suc i)) (local i) (reduced local j a) (reduced local k b) (omega arith) (omega arith)))
    before_deep line j (pow a zero) h = omega arith
    before_deep line j (pow a (suc k)) h = before_deep line j a (omega arith)
    before_deep line j (power_of a b) h = before_deep line j a (omega arith)
    before_deep line j (abs a) h = let p = reduced_depth j a in deep_append n (before local line j a) _ (before_deep line j a (omega arith)) (turned_deep line (j + locals_in a) (reduced local j a) (omega arith))

    local_deep : (line j m : ℕ) (e : Term) → term_depth e ≤ n → deepest (set_local local line j m e) ≤ n
    local_deep line j m e h = let p = reduced_depth m e in deep_append n (before local line m e) _ (before_deep line m e h) (set_deep line (local j) (reduced local m e) (omega arith))

    target_deep : (line : ℕ) (x : Var) (j m : ℕ) (es : Terms) → terms_depth es ≤ n → deepest (before_target local line x j m es) ≤ n
    target_deep line x j m none h = omega arith
    target_deep line x j m (more e es) h =
        elim (reads_term x e) as (λ b. deepest (if b then set_local local line j m e +++ before_target local line x (suc j) (m + locals_in e) es else before_target local line x j m es) ≤ n) [
          | true ↦ deep_append n (set_local local line j m e) _ (local_deep line j m e (omega arith)) (target_deep line x (suc j) (m + locals_in e) es (omega arith))
          | false ↦ target_deep line x j m es (omega arith)
        ]

    assign_deep : (line : ℕ) (x : Var) (subs : Terms) (e : Term) → terms_depth subs ≤ n → term_depth e ≤ n → deepest (lowered_assign local line x subs e) ≤ n
    assign_deep line x subs e h g =
        let m = mentions x subs in
        let k = m + locals_in_target x subs in
        let p = apart_depth x 0 subs in
        let q = reduced_depth k e in
        deep_append n (before_target local line x 0 m subs) _ (target_deep line x 0 m subs h) (deep_append n (before local line k e) _ (before_deep line k e g) (omega arith))

    all_deep : (line j : ℕ) (es : Terms) → terms_depth es ≤ n → deepest (before_all local line j es) ≤ n
    all_deep line j none h = omega arith
    all_deep line j (more e es) h = deep_append n (before local line j e) _ (before_deep line j e (omega arith)) (all_deep line (j + locals_in e) es (omega arith))

    held_deep : (line j : ℕ) (es : Terms) → terms_depth es ≤ n → deepest (before_held local line j es) ≤ n
    held_deep line j none h = omega arith
    held_deep line j (more e es) h = deep_append n (set_local local line j (suc j) e) _ (local_deep line j (suc j) e (omega arith)) (held_deep line (suc (j + locals_in e)) es (omega arith))

    -- what is passed
    abbrev IsLow : Passing → Type 0
    IsLow (stays x) = Unit {0}
    IsLow (put_back x subs) = terms_depth subs ≤ n
    IsLow (by_value e) = term_depth e ≤ n

    low_name : (b : Bool) (x : Var) → IsLow (passing_name b x)
    low_name true x = omega arith
    low_name false x = tt

    low_element : (b : Bool) (x : Var) (subs : Terms) → term_depth (elem x subs) ≤ n → IsLow (passing_element b x subs)
    low_element true x subs h = omega arith
    low_element false x subs h = h

    low_passing : (w : Bool) (earlier : List Var) (e : Term) → term_depth e ≤ n → IsLow (passing w earlier e)
    low_passing w earlier (lit z) h = h
    low_passing w earlier (var x) h = low_name (is_among x earlier) x
    low_passing w earlier (elem x subs) h = low_element w x subs h
    low_passing w earlier (neg a) h = h
    low_passing w earlier (bin op a b) h = h
    low_passing w earlier (pow a k) h = h
    low_passing w earlier (power_of a b) h = h
    low_passing w earlier (abs a) h = h

    passing_deep : (line j : ℕ) (p : Passing) → IsLow p → deepest (before_passing local line j p) ≤ n
    passing_deep line j (stays x) h = omega arith
    passing_deep line j (put_back x subs) h = let q = held_depth j subs in deep_append n (before_held local line j subs) _ (held_deep line j subs h) (omega arith)
    passing_deep line j (by_value e) h = omega arith

    after_deep : (line j : ℕ) (p : Passing) → deepest (after_passing local line j p) ≤ n
    after_deep line j (stays x) = omega arith
    after_deep line j (put_back x subs) = let q = held_depth j subs in omega arith
    after_deep line j (by_value e) = omega arith

    passing_all_deep : (line j : ℕ) (ws : List Bool) (earlier : List Var) (es : Terms) → terms_depth es ≤ n → deepest (before_passing_all local line j ws earlier es) ≤ n
    passing_all_deep line j ws earlier none h = omega arith
    passing_all_deep line j ws earlier (more e es) h =
        let p = passing (first_flag ws) earlier e in
        deep_append n (before_passing local line j p) _ (passing_deep line j p (low_passing (first_flag ws) earlier e (omega arith))) (passing_all_deep line (j + locals_passing p) (other_flags ws) (passed local j p ∷ earlier) es (omega arith))

    after_all_deep : (line j : ℕ) (ws : List Bool) (earlier : List Var) (es : Terms) → deepest (after_passing_all local line j ws earlier es) ≤ n
    after_all_deep line j ws earlier none = omega arith
    after_all_deep line j ws earlier (more e es) =
        let p = passing (first_flag ws) earlier e in
        deep_append n (after_passing local line j p) _ (after_deep line j p) (after_all_deep line (j + locals_passing p) (other_flags ws) (passed local j p ∷ earlier) es)

    call_deep : (line : ℕ) (ws : List Bool) (name : List ℕ) (args : Terms) → terms_depth args ≤ n → deepest (lowered_call local line ws name args) ≤ n
    call_deep line ws name args h =
        let j = locals_in_all args in
        let es = reduced_all local 0 args in
        let low = reduced_all_depth 0 args in
        let behind = after_all_deep line j ws [] es in
        let handed = all_passed_depth j ws [] es in
        deep_append n (before_all local line 0 args) _ (all_deep line 0 args h) (deep_append n (before_passing_all local line j ws [] es) _ (passing_all_deep line j ws [] es (omega arith)) (omega arith))

    module _ (handed : Dummies) where
      mutual
        act_lowered : (line : ℕ) (a : Act) → act_deepest a ≤ n → deepest (lowered_act local handed line a) ≤ n
        act_lowered line (assign x subs e) h = assign_deep line x subs e (omega arith) (omega arith)
        act_lowered line (choose c a b) h = let p = list_lowered a (omega arith) in let q = list_lowered b (omega arith) in omega arith
        act_lowered line (loop x first last by body m) h = let p = list_lowered body (omega arith) in omega arith
        act_lowered line (during c body) h = let p = list_lowered body (omega arith) in omega arith
        act_lowered line (call name args) h = call_deep line (handed name) name args h
        act_lowered line (runtime r) h = omega arith

        list_lowered : (c : Code) → deepest c ≤ n → deepest (lowered local handed c) ≤ n
        list_lowered stop h = omega arith
        list_lowered (step line a rest) h = deep_append n (lowered_act local handed line a) (lowered local handed rest) (act_lowered line a (omega arith)) (list_lowered rest (omega arith))

-- ---- step units

actuals_depth : (xs : List (List ℕ)) → terms_depth (as_actuals xs) ≤ 1
actuals_depth [] = omega arith
actuals_depth (x ∷ xs) = let rest = actuals_depth xs in omega arith

module _ (taken : List (List ℕ)) (u : Procedure) (n : ℕ) (two : 2 ≤ n) where
  mutual
    act_cut : (k line : ℕ) (a : Act) → act_deepest a ≤ n → act_deepest (cut_act taken u k line a) ≤ n
    act_cut k line (assign x subs e) h = h
    act_cut k line (choose c a b) h = let p = list_cut k a (omega arith) in let q = list_cut (k + marked_in a) b (omega arith) in omega arith
    act_cut k line (loop x first last by body unmarked) h = let p = list_cut k body (omega arith) in omega arith
    act_cut k line (loop x first last by body (with_count m)) h = let p = actuals_depth (step_dummies u x body) in omega arith
    act_cut k line (loop x first last by body (count_from y)) h = let p = actuals_depth (step_dummies u x body) in omega arith
    act_cut k line (during c body) h = let p = list_cut k body (omega arith) in omega arith
    act_cut k line (call name args) h = h
    act_cut k line (runtime r) h = h

    list_cut : (k : ℕ) (c : Code) → deepest c ≤ n → deepest (cut taken u k c) ≤ n
    list_cut k stop h = omega arith
    list_cut k (step line a rest) h = let p = act_cut k line a (omega arith) in let q = list_cut (k + marked_in_act a) rest (omega arith) in omega arith

  mutual
    act_units : (k line : ℕ) (a : Act) → act_deepest a ≤ n → AreShallow n (step_units_in_act taken u k line a)
    act_units k line (assign x subs e) h = tt
    act_units k line (choose c a b) h = shallow_append n (step_units_in taken u k a) _ (list_units k a (omega arith)) (list_units (k + marked_in a) b (omega arith))
    act_units k line (loop x first last by body unmarked) h = list_units k body (omega arith)
    act_units k line (loop x first last by body (with_count m)) h = (list_cut (suc k) body (omega arith), list_units (suc k) body (omega arith))
    act_units k line (loop x first last by body (count_from y)) h = (list_cut (suc k) body (omega arith), list_units (suc k) body (omega arith))
    act_units k line (during c body) h = list_units k body (omega arith)
    act_units k line (call name args) h = tt
    act_units k line (runtime r) h = tt

    list_units : (k : ℕ) (c : Code) → deepest c ≤ n → AreShallow n (step_units_in taken u k c)
    list_units k stop h = tt
    list_units k (step line a rest) h = shallow_append n (step_units_in_act taken u k line a) _ (act_units k line a (omega arith)) (list_units (k + marked_in_act a) rest (omega arith))

  unit_stepped : deepest u.body ≤ n → AreShallow n (stepped_unit taken u)
  unit_stepped h = (list_cut 0 u.body h, list_units 0 u.body h)

from_stepped : (n : ℕ) → 2 ≤ n → (taken : List (List ℕ)) (us : List Procedure) → AreShallow n us → AreShallow n (stepped_from taken us)
from_stepped n two taken [] h = tt
from_stepped n two taken (u ∷ us) h = shallow_append n (stepped_unit taken u) _ (unit_stepped taken u n two h.0) (from_stepped n two (taken ++ step_names taken u.name (marked_in u.body)) us h.1)

all_lowered : (n : ℕ) → 2 ≤ n → (units us : List Procedure) → AreShallow n us → AreShallow n (map (lowered_unit units) us)
all_lowered n two units [] h = tt
all_lowered n two units (u ∷ us) h = (list_lowered (local_in units u) n two (handed_back units) u.body h.0, all_lowered n two units us h.1)

pub kernel_depths : KernelKeepsDepth
kernel_depths n two ps h = all_lowered n two (stepped_program ps) (stepped_program ps) (from_stepped n two (names_of_source ps) ps h)
