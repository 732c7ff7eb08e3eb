-- Written statements in kernel form are formed as written code is, where their names stand.
use Rattle.std.proofs.Common.{◌≡◌, ℕ, Bool, true, false, List, [], ◌∷◌, ◌++◌, refl, if◌then◌else◌}
use Rattle.std.specs.Prelude.{Option, Some, None}
use Rattle.adj_tree.specs.Code.{Var, plain, shadow, helper, Term, lit, var, elem, neg, bin, pow, power_of, abs, Terms, none, more, Test, compare, negation, conjunction, disjunction, Mark, unmarked, with_count, count_from, Act, assign, choose, loop, during, call, runtime, Code, stop, step, Procedure}
use Rattle.adj_tree.specs.declared.fault.Refusal.{Refusal}
use Rattle.def_meaning.specs.Written.{find_unit}
use Rattle.def_text.specs.Written.{IsVariable, IsWrittenTerm, AreWrittenTerms, IsWrittenTest, IsPlace, IsWrittenMark, IsWrittenAct, IsWrittenCode}
use Rattle.def_names.specs.Reserved.{is_runtime}
use Rattle.def_names.specs.Statements.{At, inner, statements}
use Rattle.def_names.specs.Standing.{Standing, scalar, count_of, in_term, in_terms, in_test, in_place, in_actual, in_actuals, in_mark, in_act}
use Rattle.def_names.specs.Fault.{fault}
use Rattle.def_names.specs.CallFaults.{faults_of_unit_call}
use Rattle.def_kernel.specs.Form.{IsKernelAct, IsKernelCode}
use Rattle.law_emitted.proofs.Lists.{Each, each_front, each_behind}
use Rattle.law_emitted.proofs.Statements.{CallHasNone}
use Rattle.law_emitted.proofs.Over.{OverTerm, OverTerms, OverTest, OverPlace, OverActual, OverActuals, OverMark, OverAct, OverCode, Any}

-- a CALL without a fault names no call of the runtime
no_runtime_name : (b : Bool) (r : Refusal) (others : List Refusal) → (if b then r ∷ [] else others) ≡ [] → b ≡ false
no_runtime_name true r others h = absurd cc
no_runtime_name false r others h = refl

module _ (Q : Var → Option ℕ → Type 0) (A : Var → Type 0) (S : Standing → Type 0) (allow : (x : List ℕ) (n : Option ℕ) → S (record { name = x; subscripts = n }) → Q (plain x) n) (ps : List Procedure) (u : Procedure) where
  source_scalar : (x : Var) → IsVariable x → Each S (scalar x) → Q x (Some 0)
  source_scalar (plain x) w h = allow x (Some 0) h.0
  source_scalar (shadow x) w h = absurd w
  source_scalar (helper r k) w h = absurd w

  mutual
    source_term : (e : Term) → IsWrittenTerm e → Each S (in_term e) → OverTerm Q A e
    source_term (lit z) w h = w
    source_term (var x) w h = source_scalar x w h
    source_term (elem (plain x) s) w h = (allow x (Some (count_of s)) h.0, (w.1, source_terms s w.2 h.1))
    source_term (elem (shadow x) s) w h = absurd w.0
    source_term (elem (helper r k) s) w h = absurd w.0
    source_term (neg a) w h = source_term a w h
    source_term (bin op a b) w h = (source_term a w.0 (each_front S (in_term a) (in_term b) h), source_term b w.1 (each_behind S (in_term a) (in_term b) h))
    source_term (pow a k) w h = (source_term a w.0 h, w.1)
    source_term (power_of a b) w h = (source_term a w.0 (each_front S (in_term a) (in_term b) h), (source_term b w.1 (each_behind S (in_term a) (in_term b) h), w.2))
    source_term (abs a) w h = source_term a w h

    source_terms : (es : Terms) → AreWrittenTerms es → Each S (in_terms es) → OverTerms Q A es
    source_terms none w h = tt
    source_terms (more e es) w h = (source_term e w.0 (each_front S (in_term e) (in_terms es) h), source_terms es w.1 (each_behind S (in_term e) (in_terms es) h))

  source_test : (c : Test) → IsWrittenTest c → Each S (in_test c) → OverTest Q A c
  source_test (compare r a b) w h = (source_term a w.0 (each_front S (in_term a) (in_term b) h), source_term b w.1 (each_behind S (in_term a) (in_term b) h))
  source_test (negation c) w h = source_test c w h
  source_test (conjunction c d) w h = (source_test c w.0 (each_front S (in_test c) (in_test d) h), source_test d w.1 (each_behind S (in_test c) (in_test d) h))
  source_test (disjunction c d) w h = (source_test c w.0 (each_front S (in_test c) (in_test d) h), source_test d w.1 (each_behind S (in_test c) (in_test d) h))

  source_place : (x : Var) (s : Terms) → IsPlace x s → Each S (in_place x s) → OverPlace Q A x s
  source_place (plain x) none w h = allow x (Some 0) h.0
  source_place (plain x) (more e es) w h = (allow x (Some (count_of (more e es))) h.0, (w.1, source_terms (more e es) w.2 h.1))
  source_place (shadow x) none w h = absurd w
  source_place (shadow x) (more e es) w h = absurd w.0
  source_place (helper r k) none w h = absurd w
  source_place (helper r k) (more e es) w h = absurd w.0

  source_actual : (e : Term) → IsWrittenTerm e → Each S (in_actual e) → OverActual Q A e
  source_actual (lit z) w h = w
  source_actual (var (plain x)) w h = allow x None h.0
  source_actual (var (shadow x)) w h = absurd w
  source_actual (var (helper r k)) w h = absurd w
  source_actual (elem x s) w h = source_term (elem x s) w h
  source_actual (neg a) w h = source_term (neg a) w h
  source_actual (bin op a b) w h = source_term (bin op a b) w h
  source_actual (pow a k) w h = source_term (pow a k) w h
  source_actual (power_of a b) w h = source_term (power_of a b) w h
  source_actual (abs a) w h = source_term (abs a) w h

  source_actuals : (es : Terms) → AreWrittenTerms es → Each S (in_actuals es) → OverActuals Q A es
  source_actuals none w h = tt
  source_actuals (more e es) w h = (source_actual e w.0 (each_front S (in_actual e) (in_actuals es) h), source_actuals es w.1 (each_behind S (in_actual e) (in_actuals es) h))

  source_mark : (m : Mark) → IsWrittenMark m → Each S (in_mark m) → OverMark Q A m
  source_mark unmarked w h = tt
  source_mark (with_count n) w h = w
  source_mark (count_from x) w h = source_scalar x w h

  -- the bounds of a DO stand behind its mark and its variable
  source_loop : (x : Var) (a b c : Term) (body : Code) (m : Mark) → IsWrittenAct (loop x a b c body m) → Each S (in_act (loop x a b c body m)) → OverCode Q A Any body → OverAct Q A Any (loop x a b c body m)
  source_loop x a b c body m w h inside =
      let behind = each_behind S (in_mark m) (scalar x ++ (in_term a ++ (in_term b ++ in_term c))) h in
      let bounds = each_behind S (scalar x) (in_term a ++ (in_term b ++ in_term c)) behind in
      let others = each_behind S (in_term a) (in_term b ++ in_term c) bounds in (
        source_scalar x w.0 (each_front S (scalar x) (in_term a ++ (in_term b ++ in_term c)) behind),
        (
          source_term a w.1 (each_front S (in_term a) (in_term b ++ in_term c) bounds),
          (source_term b w.2 (each_front S (in_term b) (in_term c) others), (source_term c w.3 (each_behind S (in_term b) (in_term c) others), (inside, source_mark m w.5 (each_front S (in_mark m) (scalar x ++ (in_term a ++ (in_term b ++ in_term c))) h)))),
        ),
      )

  -- ---- statements and lists

  -- what is asked of the names in a statement
  abbrev pub Stands : At Act → Type 0
  Stands s = Each S (in_act s.1)

  mutual
    source_act : (line : ℕ) (a : Act) → IsWrittenAct a → IsKernelAct a → Stands (line, a) → CallHasNone ps u (line, a) → Each Stands (inner a) → Each (CallHasNone ps u) (inner a) → OverAct Q A Any a
    source_act line (assign x s e) w k h c inside calls = (source_place x s w.0 (each_front S (in_place x s) (in_term e) h), source_term e w.1 (each_behind S (in_place x s) (in_term e) h))
    source_act line (choose t a b) w k h c inside calls = (
      source_test t w.0 h,
      (source_code a w.1 k.0 (each_front Stands (statements a) (statements b) inside) (each_front (CallHasNone ps u) (statements a) (statements b) calls), source_code b w.2 k.1 (each_behind Stands (statements a) (statements b) inside) (each_behind (CallHasNone ps u) (statements a) (statements b) calls)),
    )
    source_act line (loop x a b c body m) w k h d inside calls = source_loop x a b c body m w h (source_code body w.4 k.1 inside calls)
    source_act line (during t body) w k h c inside calls = (source_test t w.0 h, source_code body w.1 k inside calls)
    source_act line (call name args) w k h c inside calls = (w.0, (source_actuals args w.1 h, (no_runtime_name (is_runtime name) (fault 15 line) (faults_of_unit_call u (find_unit ps name) line args) c, tt)))
    source_act line (runtime r) w k h c inside calls = absurd k

    pub source_code : (c : Code) → IsWrittenCode c → IsKernelCode c → Each Stands (statements c) → Each (CallHasNone ps u) (statements c) → OverCode Q A Any c
    source_code stop w k h c = tt
    source_code (step line a rest) w k h c = (
      source_act line a w.0 k.0 h.0 c.0 (each_front Stands (inner a) (statements rest) h.1) (each_front (CallHasNone ps u) (inner a) (statements rest) c.1),
      source_code rest w.1 k.1 (each_behind Stands (inner a) (statements rest) h.1) (each_behind (CallHasNone ps u) (inner a) (statements rest) c.1),
    )
