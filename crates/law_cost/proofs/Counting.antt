-- The statements of both sweeps, counted row by row: at most four to each unit of a statement's weight.
use Rattle.std.proofs.Common.{◌≡◌, ℕ, zero, suc, ◌+◌, ◌*◌, ◌≤◌, Bool, true, false, List, [], ◌∷◌, refl, arith}
use Rattle.std.specs.Prelude.{pos, length, ◌&&◌, if◌then◌else◌}
use Rattle.adj_tree.specs.Code.{Var, plain, shadow, helper, work, count, plus, minus, times, quot, modulo, greater, lesser, Term, lit, var, elem, neg, bin, pow, power_of, abs, Terms, none, more, Test, compare, negation, conjunction, disjunction, Mark, Act, assign, choose, loop, during, call, runtime, push_word, pop_word, push_control, zero_array, Code, stop, step}
use Rattle.adj_tree.specs.Size.{terms_nodes, term_nodes, test_nodes}
use Rattle.def_meaning.specs.Append.{◌+++◌, one}
use Rattle.def_names.specs.Numbers.{Vars, everything, next, behind}
use Rattle.def_sweep.specs.Marks.{active_at}
use Rattle.def_sweep.specs.Marked.{code_if, is_compound, count_of, own_or, own_code, work_var, place}
use Rattle.def_kernel.specs.Weights.{weight, weight_with_bodies, total_weight}
use Rattle.law_kernel.proofs.Weighing.{cost_append}
use Rattle.def_sweep.specs.Plan.{Plan, is_emitted, names_of, group, save_group, snapshot_group}
use Rattle.def_sweep.specs.Occurrences.{is_active_where}
use Rattle.def_sweep.specs.AdjointOf.{has_own_where, temps_in_where, shrunk_where, temps_where, back_where, times_power, adjoint_where}
use Rattle.def_sweep.specs.Rows.{is_empty, literal, push, pop, pushes, pops, told_forward, told_backward, loop_forward, loop_backward, while_forward, while_backward, resets, reset, with_shadows, adjoint_call}
use Rattle.def_sweep.specs.Emission.{forward_act, forward, backward_act, backward, cleared, adjoint_body}
use Rattle.law_cost.specs.Sweeps.{statements_of, act_sweeps, list_sweeps, body_sweeps}

-- ---- parts

-- statements of lists one after another
pub append_count : (c d : Code) → statements_of (c +++ d) ≡ statements_of c + statements_of d
append_count c d = cost_append (λ a. 0) c d

-- what stands only where something holds is no more than that
pub if_few : (b : Bool) (c : Code) → statements_of (code_if b c) ≤ statements_of c
if_few true c = omega arith
if_few false c = omega arith

-- an operand has a temporary only if it is compound
own_few : (p q : Bool) (line j : ℕ) (e : Term) → statements_of (own_code (p && q) line j e) ≤ count_of p
own_few true true line j e = omega arith
own_few true false line j e = omega arith
own_few false q line j e = omega arith

one_at_most : (b : Bool) → count_of b ≤ 1
one_at_most true = omega arith
one_at_most false = omega arith

-- an expression has a node, and a condition three
pub some_nodes : (e : Term) → 1 ≤ term_nodes e
some_nodes (lit z) = omega arith
some_nodes (var x) = omega arith
some_nodes (elem x subs) = omega arith
some_nodes (neg a) = omega arith
some_nodes (bin op a b) = omega arith
some_nodes (pow a k) = omega arith
some_nodes (power_of a b) = omega arith
some_nodes (abs a) = omega arith

pub three_nodes : (c : Test) → 3 ≤ test_nodes c
three_nodes (compare r a b) = omega (arith, some_nodes a, some_nodes b)
three_nodes (negation c) = omega (arith, three_nodes c)
three_nodes (conjunction c d) = omega (arith, three_nodes c)
three_nodes (disjunction c d) = omega (arith, three_nodes c)

-- ---- the adjoint of an assignment

module _ (on : Vars) where
  -- the temporaries of an operand, and what is added to shadows, are fewer than two to a node, and one fewer still if it is compound
  abbrev pub IsFew : Term → ℕ → ℕ → ℕ → Type 0
  IsFew e k j line = statements_of (temps_where on e j line) + statements_of (back_where on e k j line) + 1 + count_of (is_compound e) ≤ 2 * term_nodes e

  pub term_few : (e : Term) (k j line : ℕ) → IsFew e k j line
  term_few (lit z) k j line = omega arith
  term_few (var (plain x)) k j line = omega arith
  term_few (var (shadow x)) k j line = omega arith
  term_few (var (helper r m)) k j line = omega arith
  term_few (elem (plain x) subs) k j line = omega arith
  term_few (elem (shadow x) subs) k j line = omega arith
  term_few (elem (helper r m) subs) k j line = omega arith
  term_few (neg a) k j line =
      let back = step line (assign (helper work (suc k)) none (neg (work_var k))) (back_where on a (suc k) j line) in
      omega (arith, term_few a (suc k) j line, if_few (is_active_where on a) back)
  term_few (bin plus a b) k j line =
      let i = j + temps_in_where on a in
      let back1 = back_where on a k j line in let back2 = back_where on b k i line in
      omega (
        arith,
        term_few a k j line,
        term_few b k i line,
        append_count (temps_where on a j line) (temps_where on b i line),
        append_count (code_if (is_active_where on a) back1) (code_if (is_active_where on b) back2),
        if_few (is_active_where on a) back1,
        if_few (is_active_where on b) back2,
      )
  term_few (bin minus a b) k j line =
      let i = j + temps_in_where on a in
      let back1 = back_where on a k j line in
      let back2 = step line (assign (helper work (suc k)) none (neg (work_var k))) (back_where on b (suc k) i line) in
      omega (
        arith,
        term_few a k j line,
        term_few b (suc k) i line,
        append_count (temps_where on a j line) (temps_where on b i line),
        append_count (code_if (is_active_where on a) back1) (code_if (is_active_where on b) back2),
        if_few (is_active_where on a) back1,
        if_few (is_active_where on b) back2,
      )
  term_few (bin times a b) k j line =
      let own_a = has_own_where on a b in let own_b = has_own_where on b a in
      let ja = j + temps_in_where on a in let i = ja + count_of own_a in let jb = i + temps_in_where on b in
      let own1 = own_code own_a line ja (shrunk_where on a j) in
      let own2 = own_code own_b line jb (shrunk_where on b i) in
      let temps2 = temps_where on b i line in
      let back1 = step line (assign (helper work (suc k)) none (bin times (work_var k) (own_or own_b jb b))) (back_where on a (suc k) j line) in
      let back2 = step line (assign (helper work (suc k)) none (bin times (work_var k) (own_or own_a ja a))) (back_where on b (suc k) i line) in
      omega (
        arith,
        term_few a (suc k) j line,
        term_few b (suc k) i line,
        append_count (temps_where on a j line) (own1 +++ (temps2 +++ own2)),
        append_count own1 (temps2 +++ own2),
        append_count temps2 own2,
        own_few (is_compound a) (is_active_where on b) line ja (shrunk_where on a j),
        own_few (is_compound b) (is_active_where on a) line jb (shrunk_where on b i),
        append_count (code_if (is_active_where on a) back1) (code_if (is_active_where on b) back2),
        if_few (is_active_where on a) back1,
        if_few (is_active_where on b) back2,
      )
  term_few (bin quot a b) k j line = omega arith
  term_few (bin modulo a b) k j line = omega arith
  term_few (bin greater a b) k j line = omega arith
  term_few (bin lesser a b) k j line = omega arith
  term_few (pow a zero) k j line = omega arith
  term_few (pow a (suc zero)) k j line = omega (arith, term_few a k j line, if_few (is_active_where on a) (back_where on a k j line))
  term_few (pow a (suc (suc n))) k j line =
      let own = has_own_where on a a in let ja = j + temps_in_where on a in
      let own1 = own_code own line ja (shrunk_where on a j) in
      let back1 = step line (assign (helper work (suc k)) none (bin times (bin times (work_var k) (lit (pos (suc (suc n))))) (pow (own_or own ja a) (suc n)))) (back_where on a (suc k) j line) in
      omega (
        arith,
        term_few a (suc k) j line,
        append_count (temps_where on a j line) own1,
        own_few (is_compound a) (is_active_where on a) line ja (shrunk_where on a j),
        if_few (is_active_where on a) back1,
      )
  term_few (power_of a b) k j line =
      let own_a = has_own_where on a a in let own_b = has_own_where on b a in
      let ja = j + temps_in_where on a in let jb = ja + count_of own_a in
      let own1 = own_code own_a line ja (shrunk_where on a j) in let own2 = own_code own_b line jb b in
      let back1 = step line (assign (helper work (suc k)) none (times_power (work_var k) (own_or own_a ja a) (own_or own_b jb b))) (back_where on a (suc k) j line) in
      omega (
        arith,
        term_few a (suc k) j line,
        some_nodes b,
        append_count (temps_where on a j line) (own1 +++ own2),
        append_count own1 own2,
        own_few (is_compound a) (is_active_where on a) line ja (shrunk_where on a j),
        own_few (is_compound b) (is_active_where on a) line jb b,
        one_at_most (is_compound b),
        if_few (is_active_where on a) back1,
      )
  term_few (abs a) k j line = omega arith

  -- the adjoint: at most three more than two to a node
  pub adjoint_count : (t : List ℕ) (subs : Terms) (e : Term) (line : ℕ) → statements_of (adjoint_where on t subs e line) ≤ 2 * term_nodes e + 1
  adjoint_count t subs e line =
      let temps = temps_where on e 1 line in
      let start = one line (assign (helper work 1) none (place (shadow t) subs)) in
      let cut = one line (assign (shadow t) subs (lit (pos 0))) in
      let back = back_where on e 1 1 line in
      let active = is_active_where on e in
      omega (
        arith,
        term_few e 1 1 line,
        append_count temps start,
        append_count (code_if active (temps +++ start)) (cut +++ code_if active back),
        append_count cut (code_if active back),
        if_few active (temps +++ start),
        if_few active back,
      )

-- ---- groups

-- no more names than actuals
names_few : (es : Terms) → length (names_of es) ≤ terms_nodes es
names_few none = omega arith
names_few (more (var (plain a)) es) = omega (arith, names_few es)
names_few (more (var (shadow a)) es) = omega (arith, names_few es)
names_few (more (var (helper r k)) es) = omega (arith, names_few es)
names_few (more (lit z) es) = omega (arith, names_few es)
names_few (more (elem x subs) es) = omega (arith, names_few es)
names_few (more (neg a) es) = omega (arith, names_few es)
names_few (more (bin op a b) es) = omega (arith, names_few es)
names_few (more (pow a k) es) = omega (arith, names_few es)
names_few (more (power_of a b) es) = omega (arith, names_few es)
names_few (more (abs a) es) = omega (arith, names_few es)

-- a group has no more names than the call
group_few : (f g : Vars) (ds given : List (List ℕ)) → length (group f g ds given) ≤ length given
group_few f g [] given = omega arith
group_few f g (d ∷ ds) [] = omega arith
group_few f g (d ∷ ds) (a ∷ given) = go (f (plain d) && g (plain a)) (group_few f g ds given)
  where
    go : (b : Bool) → length (group f g ds given) ≤ length given → length (if b then a ∷ group f g ds given else group f g ds given) ≤ length (a ∷ given)
    go true h = omega (arith, h)
    go false h = omega (arith, h)

-- one statement for each that is pushed
pushes_count : (p : Plan) (line : ℕ) (xs : List (List ℕ)) → statements_of (pushes p line xs) ≡ length xs
pushes_count p line [] = refl
pushes_count p line (x ∷ xs) = omega (arith, append_count (push p line x) (pushes p line xs), pushes_count p line xs)

pops_count : (p : Plan) (line : ℕ) (xs : List (List ℕ)) → statements_of (pops p line xs) ≡ length xs
pops_count p line [] = refl
pops_count p line (x ∷ xs) = omega (arith, append_count (pops p line xs) (pop p line x), pops_count p line xs)

-- ---- rows

-- a turn is counted
abbrev pub counting : ℕ → ℕ → Code
counting d line = one line (assign (helper count d) none (bin plus (var (helper count d)) (literal 1)))

-- what an IF tells
told_forward_few : (idle : Bool) (line : ℕ) (c : Code) (n : ℕ) → statements_of (told_forward idle line c n) ≤ statements_of c + 1
told_forward_few true line c n = omega arith
told_forward_few false line c n = omega (arith, append_count c (one line (runtime (push_control (literal n)))))

told_backward_few : (idle : Bool) (line : ℕ) (a b : Code) → statements_of (told_backward idle line a b) ≤ statements_of a + statements_of b + 2
told_backward_few true line a b = omega arith
told_backward_few false line a b = omega arith

-- a DO
loop_forward_few : (idle : Bool) (d line : ℕ) (x : Var) (a b c : Term) (body : Code) → statements_of (loop_forward idle d line x a b c body) ≤ statements_of body + 8
loop_forward_few true d line x a b c body = omega arith
loop_forward_few false d line x a b c body = omega (arith, append_count body (counting d line))

loop_backward_few : (idle : Bool) (d line : ℕ) (x : Var) (body : Code) → statements_of (loop_backward idle d line x body) ≤ statements_of body + 5
loop_backward_few true d line x body = omega arith
loop_backward_few false d line x body = omega arith

-- a DO WHILE
while_forward_few : (idle : Bool) (d line : ℕ) (c : Test) (body : Code) → statements_of (while_forward idle d line c body) ≤ statements_of body + 4
while_forward_few true d line c body = omega arith
while_forward_few false d line c body = omega (arith, append_count body (counting d line))

while_backward_few : (idle : Bool) (d line : ℕ) (body : Code) → statements_of (while_backward idle d line body) ≤ statements_of body + 2
while_backward_few true d line body = omega arith
while_backward_few false d line body = omega arith

-- ---- statements

module _ (p : Plan) where
  assign_few : (i d line : ℕ) (x : List ℕ) (subs : Terms) (e : Term) → act_sweeps p i d line (assign (plain x) subs e) ≤ 4 * weight (assign (plain x) subs e)
  assign_few i d line x subs e =
      let pushed = one line (runtime (push_word (plain x) subs)) in
      let again = one line (assign (plain x) subs e) in
      let popped = one line (runtime (pop_word (plain x) subs)) in
      let saved = p.marks.saved i (plain x) in let kept = p.marks.kept i in let adjointed = p.marks.adjointed i in
      let back = adjoint_where (active_at p.marks i) x subs e line in
      omega (
        arith,
        some_nodes e,
        adjoint_count (active_at p.marks i) x subs e line,
        if_few kept (code_if saved pushed +++ again),
        append_count (code_if saved pushed) again,
        if_few saved pushed,
        append_count (code_if (kept && saved) popped) (code_if adjointed back),
        if_few (kept && saved) popped,
        if_few adjointed back,
      )

  choose_few : (i d line : ℕ) (c : Test) (a b : Code) → act_sweeps p i d line (choose c a b) ≤ 4 * weight (choose c a b) + body_sweeps p i d (choose c a b)
  choose_few i d line c a b =
      let j = behind (suc i) a in
      let a1 = forward p (suc i) d a in let b1 = forward p j d b in
      let a2 = backward p (suc i) d a in let b2 = backward p j d b in
      let idle = is_empty a2 && is_empty b2 in
      let emitted = is_emitted p.marks i in
      omega (
        arith,
        three_nodes c,
        if_few emitted (one line (choose c (told_forward idle line a1 1) (told_forward idle line b1 0))),
        told_forward_few idle line a1 1,
        told_forward_few idle line b1 0,
        if_few emitted (told_backward idle line a2 b2),
        told_backward_few idle line a2 b2,
      )

  loop_few : (i d line : ℕ) (x : List ℕ) (a b c : Term) (body : Code) (m : Mark) → act_sweeps p i d line (loop (plain x) a b c body m) ≤ 4 * weight (loop (plain x) a b c body m) + body_sweeps p i d (loop (plain x) a b c body m)
  loop_few i d line x a b c body m =
      let body1 = forward p (suc i) (suc d) body in let body2 = backward p (suc i) (suc d) body in
      let idle = is_empty body2 in
      let emitted = is_emitted p.marks i in let saved = p.marks.saved i (plain x) in
      let pushed = one line (runtime (push_word (plain x) none)) in
      let popped = one line (runtime (pop_word (plain x) none)) in
      let cut = one line (assign (shadow x) none (literal 0)) in
      let forth = loop_forward idle (suc d) line (plain x) a b c body1 in
      let back = loop_backward idle (suc d) line (plain x) body2 in
      omega (
        arith,
        some_nodes a,
        some_nodes b,
        some_nodes c,
        if_few emitted (code_if saved pushed +++ forth),
        append_count (code_if saved pushed) forth,
        if_few saved pushed,
        loop_forward_few idle (suc d) line (plain x) a b c body1,
        if_few emitted (back +++ (code_if saved popped +++ reset p.marks i line x)),
        append_count back (code_if saved popped +++ reset p.marks i line x),
        append_count (code_if saved popped) (reset p.marks i line x),
        if_few saved popped,
        if_few (resets p.marks i x) cut,
        loop_backward_few idle (suc d) line (plain x) body2,
      )

  during_few : (i d line : ℕ) (c : Test) (body : Code) → act_sweeps p i d line (during c body) ≤ 4 * weight (during c body) + body_sweeps p i d (during c body)
  during_few i d line c body =
      let body1 = forward p (suc i) (suc d) body in let body2 = backward p (suc i) (suc d) body in
      let idle = is_empty body2 in let emitted = is_emitted p.marks i in
      omega (
        arith,
        three_nodes c,
        if_few emitted (while_forward idle (suc d) line c body1),
        while_forward_few idle (suc d) line c body1,
        if_few emitted (while_backward idle (suc d) line body2),
        while_backward_few idle (suc d) line body2,
      )

  -- the rows of a call, by whether it is split
  abbrev call_forth : ℕ → ℕ → List ℕ → Terms → Bool → Code
  call_forth i line name args split =
      let g = p.callees name in
      code_if (is_emitted p.marks i)
      (if split then one line (call g.forth args)
      else pushes p line (save_group p.marks i g (names_of args))
      +++ (code_if (p.marks.adjointed i) (pushes p line (snapshot_group g (names_of args)))
      +++ code_if (p.marks.kept i) (one line (call name args))))

  abbrev call_back : ℕ → ℕ → List ℕ → Terms → Bool → Code
  call_back i line name args split =
      let g = p.callees name in
      code_if (is_emitted p.marks i)
      (if split then one line (call g.back (with_shadows g.shadowed g.dummies (names_of args)))
      else code_if (p.marks.adjointed i) (pops p line (snapshot_group g (names_of args)) +++ one line (adjoint_call g (names_of args)))
      +++ pops p line (save_group p.marks i g (names_of args)))

  unsplit_few : (i line : ℕ) (name : List ℕ) (args : Terms) → statements_of (call_forth i line name args false) + statements_of (call_back i line name args false) ≤ 4 * weight (call name args)
  unsplit_few i line name args =
      let g = p.callees name in let given = names_of args in
      let emitted = is_emitted p.marks i in let kept = p.marks.kept i in let adjointed = p.marks.adjointed i in
      let saves = save_group p.marks i g given in let snaps = snapshot_group g given in
      let push1 = pushes p line saves in let push2 = pushes p line snaps in
      let pop1 = pops p line saves in let pop2 = pops p line snaps in
      let again = one line (call name args) in let adjoint = one line (adjoint_call g given) in
      omega (
        arith,
        names_few args,
        group_few g.written (p.marks.saved i) g.dummies given,
        group_few (λ d. g.written d && g.members d) everything g.dummies given,
        pushes_count p line saves,
        pushes_count p line snaps,
        pops_count p line saves,
        pops_count p line snaps,
        if_few emitted (push1 +++ (code_if adjointed push2 +++ code_if kept again)),
        append_count push1 (code_if adjointed push2 +++ code_if kept again),
        append_count (code_if adjointed push2) (code_if kept again),
        if_few adjointed push2,
        if_few kept again,
        if_few emitted (code_if adjointed (pop2 +++ adjoint) +++ pop1),
        append_count (code_if adjointed (pop2 +++ adjoint)) pop1,
        if_few adjointed (pop2 +++ adjoint),
        append_count pop2 adjoint,
      )

  call_few : (i d line : ℕ) (name : List ℕ) (args : Terms) → act_sweeps p i d line (call name args) ≤ 4 * weight (call name args)
  call_few i d line name args = by (p.marks.split i)
    where
      by : (split : Bool) → statements_of (call_forth i line name args split) + statements_of (call_back i line name args split) ≤ 4 * weight (call name args)
      by true =
          let g = p.callees name in
          omega (arith, if_few (is_emitted p.marks i) (one line (call g.forth args)), if_few (is_emitted p.marks i) (one line (call g.back (with_shadows g.shadowed g.dummies (names_of args)))))
      by false = unsplit_few i line name args

  -- a statement, bodies aside
  pub act_few : (i d line : ℕ) (a : Act) → act_sweeps p i d line a ≤ 4 * weight a + body_sweeps p i d a
  act_few i d line (assign (plain x) subs e) = omega (arith, assign_few i d line x subs e)
  act_few i d line (assign (shadow x) subs e) = omega arith
  act_few i d line (assign (helper r k) subs e) = omega arith
  act_few i d line (choose c a b) = choose_few i d line c a b
  act_few i d line (loop (plain x) a b c body m) = loop_few i d line x a b c body m
  act_few i d line (loop (shadow x) a b c body m) = omega arith
  act_few i d line (loop (helper r k) a b c body m) = omega arith
  act_few i d line (during c body) = during_few i d line c body
  act_few i d line (call name args) = omega (arith, call_few i d line name args)
  act_few i d line (runtime r) = omega arith

  -- ---- lists

  mutual
    -- a statement with its bodies
    act_all : (i d line : ℕ) (a : Act) → act_sweeps p i d line a ≤ 4 * weight_with_bodies a
    act_all i d line (assign x subs e) = omega (arith, act_few i d line (assign x subs e))
    act_all i d line (choose c a b) = omega (arith, act_few i d line (choose c a b), list_few (suc i) d a, list_few (behind (suc i) a) d b)
    act_all i d line (loop x a b c body m) = omega (arith, act_few i d line (loop x a b c body m), list_few (suc i) (suc d) body)
    act_all i d line (during c body) = omega (arith, act_few i d line (during c body), list_few (suc i) (suc d) body)
    act_all i d line (call name args) = omega (arith, act_few i d line (call name args))
    act_all i d line (runtime r) = omega (arith, act_few i d line (runtime r))

    pub list_few : (i d : ℕ) (c : Code) → list_sweeps p i d c ≤ 4 * total_weight c
    list_few i d stop = omega arith
    list_few i d (step line a rest) =
        let j = next i a in
        omega (
          arith,
          act_all i d line a,
          list_few j d rest,
          append_count (forward_act p i d line a) (forward p j d rest),
          append_count (backward p j d rest) (backward_act p i d line a),
        )

  -- ---- bodies of adjoints

  -- one statement for each shadow that is cleared
  pub cleared_count : (line : ℕ) (xs : List (List ℕ)) → statements_of (cleared p line xs) ≡ length xs
  cleared_count line [] = refl
  cleared_count line (x ∷ xs) = go (p.arrays (plain x)) (cleared_count line xs)
    where
      go : (b : Bool) → statements_of (cleared p line xs) ≡ length xs → statements_of ((if b then one line (runtime (zero_array (shadow x))) else one line (assign (shadow x) none (literal 0))) +++ cleared p line xs) ≡ suc (length xs)
      go true h = omega (arith, h)
      go false h = omega (arith, h)

  pub adjoint_few : (i line : ℕ) (c : Code) (at_turn at_end : List (List ℕ)) → statements_of (adjoint_body p i line c at_turn at_end) ≤ 4 * total_weight c + length at_turn + length at_end
  adjoint_few i line c at_turn at_end =
      let forth = forward p i 0 c in let back = backward p i 0 c in
      let turn1 = cleared p line at_turn in let end1 = cleared p line at_end in
      omega (
        arith,
        list_few i 0 c,
        cleared_count line at_turn,
        cleared_count line at_end,
        append_count forth (turn1 +++ (back +++ end1)),
        append_count turn1 (back +++ end1),
        append_count back end1,
      )
