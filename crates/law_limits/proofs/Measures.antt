-- Depth as a reader counts it, and as it is known of emitted programs.
use Rattle.std.proofs.Common.{◌≡◌, ◌≤◌, ◌<◌, ℕ, true, List, [], ◌∷◌, refl, arith}
use Rattle.std.specs.Prelude.{◌&&◌, nat_le}
use Rattle.std.specs.List.{list_all}
use Rattle.std.proofs.lemmas.Bool.{le-leb, leb-true, and_parts, and_from}
use Rattle.adj_tree.specs.Code.{Term, Terms, var, elem, none, more, Test, Runtime, push_word, pop_word, push_array, pop_array, push_control, pop_control, zero_array, begin_reversal, count_actions, give_action, end_reversal, Act, Code, assign, choose, loop, during, call, runtime, stop, step, Declaration, Procedure}
use Rattle.adj_tree.specs.Size.{term_depth, terms_depth, test_depth, IsNested}
use Rattle.law_emitted.specs.Emitted.{runtime_deepest, act_deepest, deepest, AreShallow}
use Rattle.law_limits.specs.Rule.{act_keeps, code_keeps, declaration_keeps, procedure_keeps, keeps}
use Rattle.law_limits.specs.Kept.{actuals_of, is_shallow, all_shallow, shallow}

-- ---- nesting

pub nested_up : (n m : ℕ) → n ≤ m → (ps : List Procedure) → IsNested n ps → IsNested m ps
nested_up n m le [] h = tt
nested_up n m le (p ∷ ps) h = (omega arith, nested_up n m le ps h.1)

-- ---- depth

module _ (n : ℕ) where
  low : (e : Term) → is_shallow n e ≡ true → term_depth e ≤ n
  low e h = leb-true (term_depth e) n h

  all_low : (es : Terms) → all_shallow n es ≡ true → terms_depth es ≤ n
  all_low none h = omega arith
  all_low (more e es) h = let p = and_parts (is_shallow n e) (all_shallow n es) h in let q = low e p.0 in let r = all_low es p.1 in omega arith

  runtime_low : (r : Runtime) → all_shallow n (actuals_of r) ≡ true → runtime_deepest r ≤ n
  runtime_low (push_word x s) h = let p = all_low (more (elem x s) none) h in omega arith
  runtime_low (pop_word x s) h = let p = all_low (more (elem x s) none) h in omega arith
  runtime_low (push_array x) h = omega arith
  runtime_low (pop_array x) h = omega arith
  runtime_low (push_control e) h = let p = all_low (more e none) h in omega arith
  runtime_low (pop_control x) h = omega arith
  runtime_low (zero_array x) h = omega arith
  runtime_low (begin_reversal l s) h = let p = all_low (more l (more s none)) h in omega arith
  runtime_low (count_actions l s x) h = let p = all_low (more l (more s (more (var x) none))) h in omega arith
  runtime_low (give_action l s k a f t) h = let p = all_low (more l (more s (more k (more (var a) (more (var f) (more (var t) none)))))) h in omega arith
  runtime_low end_reversal h = omega arith

  mutual
    act_low : (a : Act) → act_keeps (shallow n) a ≡ true → act_deepest a ≤ n
    act_low (assign x s e) h = let p = and_parts (all_shallow n s) (is_shallow n e) h in let q = all_low s p.0 in let r = low e p.1 in omega arith
    act_low (choose c a b) h =
        let p = and_parts (nat_le (test_depth c) n) (code_keeps (shallow n) a && code_keeps (shallow n) b) h in
        let q = and_parts (code_keeps (shallow n) a) (code_keeps (shallow n) b) p.1 in
        let t = leb-true (test_depth c) n p.0 in
        let r = list_low a q.0 in
        let s = list_low b q.1 in
        omega arith
    act_low (loop x a b c body m) h =
        let p = and_parts ((is_shallow n a && is_shallow n b) && is_shallow n c) (code_keeps (shallow n) body) h in
        let q = and_parts (is_shallow n a && is_shallow n b) (is_shallow n c) p.0 in
        let r = and_parts (is_shallow n a) (is_shallow n b) q.0 in
        let first = low a r.0 in
        let last = low b r.1 in
        let by = low c q.1 in
        let inside = list_low body p.1 in
        omega arith
    act_low (during c body) h =
        let p = and_parts (nat_le (test_depth c) n) (code_keeps (shallow n) body) h in
        let t = leb-true (test_depth c) n p.0 in
        let inside = list_low body p.1 in
        omega arith
    act_low (call x es) h = all_low es h
    act_low (runtime r) h = runtime_low r h

    list_low : (c : Code) → code_keeps (shallow n) c ≡ true → deepest c ≤ n
    list_low stop h = omega arith
    list_low (step line a rest) h = let p = and_parts (act_keeps (shallow n) a) (code_keeps (shallow n) rest) h in let q = act_low a p.0 in let r = list_low rest p.1 in omega arith

  -- what a reader finds no deeper is no deeper
  pub program_low : (ps : List Procedure) → keeps (shallow n) ps ≡ true → AreShallow n ps
  program_low [] h = tt
  program_low (p ∷ ps) h =
      let a = and_parts (procedure_keeps (shallow n) p) (keeps (shallow n) ps) h in
      let b = and_parts (list_all (declaration_keeps (shallow n)) p.declarations) (code_keeps (shallow n) p.body) a.0 in
      (list_low p.body b.1, program_low ps a.1)

-- an element that is pushed or popped counts one more for a reader
module _ (n m : ℕ) (less : n < m) where
  fine : (e : Term) → term_depth e ≤ m → is_shallow m e ≡ true
  fine e h = le-leb (term_depth e) m h

  all_fine : (es : Terms) → terms_depth es ≤ m → all_shallow m es ≡ true
  all_fine none h = refl
  all_fine (more e es) h = and_from (is_shallow m e) (all_shallow m es) (fine e (omega arith)) (all_fine es (omega arith))

  test_fine : (c : Test) → test_depth c ≤ n → nat_le (test_depth c) m ≡ true
  test_fine c h = le-leb (test_depth c) m (omega arith)

  runtime_fine : (r : Runtime) → runtime_deepest r ≤ n → all_shallow m (actuals_of r) ≡ true
  runtime_fine (push_word x s) h = all_fine (more (elem x s) none) (omega arith)
  runtime_fine (pop_word x s) h = all_fine (more (elem x s) none) (omega arith)
  runtime_fine (push_array x) h = all_fine (more (var x) none) (omega arith)
  runtime_fine (pop_array x) h = all_fine (more (var x) none) (omega arith)
  runtime_fine (push_control e) h = all_fine (more e none) (omega arith)
  runtime_fine (pop_control x) h = all_fine (more (var x) none) (omega arith)
  runtime_fine (zero_array x) h = all_fine (more (var x) none) (omega arith)
  runtime_fine (begin_reversal l s) h = all_fine (more l (more s none)) (omega arith)
  runtime_fine (count_actions l s x) h = all_fine (more l (more s (more (var x) none))) (omega arith)
  runtime_fine (give_action l s k a f t) h = all_fine (more l (more s (more k (more (var a) (more (var f) (more (var t) none)))))) (omega arith)
  runtime_fine end_reversal h = refl

  mutual
    act_fine : (a : Act) → act_deepest a ≤ n → act_keeps (shallow m) a ≡ true
    act_fine (assign x s e) h = and_from (all_shallow m s) (is_shallow m e) (all_fine s (omega arith)) (fine e (omega arith))
    act_fine (choose c a b) h = and_from (nat_le (test_depth c) m) _ (test_fine c (omega arith)) (and_from (code_keeps (shallow m) a) (code_keeps (shallow m) b) (list_fine a (omega arith)) (list_fine b (omega arith)))
    act_fine (loop x a b c body k) h =
        and_from ((is_shallow m a && is_shallow m b) && is_shallow m c) (code_keeps (shallow m) body)
        (and_from (is_shallow m a && is_shallow m b) (is_shallow m c) (and_from (is_shallow m a) (is_shallow m b) (fine a (omega arith)) (fine b (omega arith))) (fine c (omega arith))) (list_fine body (omega arith))
    act_fine (during c body) h = and_from (nat_le (test_depth c) m) (code_keeps (shallow m) body) (test_fine c (omega arith)) (list_fine body (omega arith))
    act_fine (call x es) h = all_fine es (omega arith)
    act_fine (runtime r) h = runtime_fine r h

    list_fine : (c : Code) → deepest c ≤ n → code_keeps (shallow m) c ≡ true
    list_fine stop h = refl
    list_fine (step line a rest) h = and_from (act_keeps (shallow m) a) (code_keeps (shallow m) rest) (act_fine a (omega arith)) (list_fine rest (omega arith))

  declared_fine : (ds : List Declaration) → list_all (declaration_keeps (shallow m)) ds ≡ true
  declared_fine [] = refl
  declared_fine (d ∷ ds) = declared_fine ds

  pub program_fine : (ps : List Procedure) → AreShallow n ps → keeps (shallow m) ps ≡ true
  program_fine [] h = refl
  program_fine (p ∷ ps) h = and_from (procedure_keeps (shallow m) p) (keeps (shallow m) ps) (and_from (list_all (declaration_keeps (shallow m)) p.declarations) (code_keeps (shallow m) p.body) (declared_fine p.declarations) (list_fine p.body h.0)) (program_fine ps h.1)
