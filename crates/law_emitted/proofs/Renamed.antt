-- Code that is formed as written code is written once its variables have names.
use Rattle.std.proofs.Common.{◌≡◌, ℕ, false, List, refl, ◌∙◌}
use Rattle.std.specs.Prelude.{◌&&◌, Option, Some, None, codes}
use Rattle.adj_tree.specs.Code.{Var, plain, shadow, helper, name_eq, Term, lit, var, elem, neg, bin, pow, power_of, abs, Terms, none, more, Test, compare, negation, conjunction, disjunction, Runtime, push_word, pop_word, push_array, pop_array, push_control, pop_control, zero_array, begin_reversal, count_actions, give_action, end_reversal, Mark, unmarked, with_count, count_from, Act, assign, choose, loop, during, call, runtime, Code, stop, step}
use Rattle.def_text.specs.Grammar.{joins_literals}
use Rattle.def_text.specs.Statement.{runtime_call}
use Rattle.def_text.specs.Written.{IsVariable, IsIndexed, AreSubscripts, is_literal, is_intrinsic, IsWrittenTerm, AreWrittenTerms, IsWrittenTest, IsPlace, IsActualPlace, IsWrittenRuntime, IsWrittenMark, IsWrittenAct, IsWrittenCode}
use Rattle.def_meaning.specs.Rename.{rename_term, rename_terms, rename_test, rename_runtime, rename_mark, rename_act, rename}
use Rattle.def_meaning.specs.Apart.{has_name}
use Rattle.def_names.specs.Reserved.{reserved, is_runtime}
use Rattle.def_names.proofs.Variables.{or_false}
use Rattle.law_emitted.proofs.Over.{OverTerm, OverTerms, OverTest, OverPlace, OverActual, OverActuals, OverRuntime, OverMark, OverAct, OverCode}

-- ---- names

-- a name that no call of the runtime has makes none
pub no_runtime_call : (x : List ℕ) (es : Terms) → is_runtime x ≡ false → runtime_call x es ≡ None
no_runtime_call x es h =
    let a = or_false (name_eq x (codes "PUSHINTEGER8")) _ h in
    let b = or_false (name_eq x (codes "POPINTEGER8")) _ a.1 in
    let c = or_false (name_eq x (codes "PUSHINTEGER8ARRAY")) _ b.1 in
    let d = or_false (name_eq x (codes "POPINTEGER8ARRAY")) _ c.1 in
    let e = or_false (name_eq x (codes "PUSHCONTROL1B")) _ d.1 in
    let f = or_false (name_eq x (codes "POPCONTROL1B")) _ e.1 in
    let g = or_false (name_eq x (codes "ADZERO8")) _ f.1 in
    let i = or_false (name_eq x (codes "ADBEG")) _ g.1 in
    let j = or_false (name_eq x (codes "ADEND")) _ i.1 in
    let k = or_false (name_eq x (codes "ADACTN")) _ j.1 in
    let l = or_false (name_eq x (codes "ADACT")) _ k.1 in
    rw (a.0, b.0, c.0, d.0, e.0, f.0, g.0, i.0, j.0, k.0, l.0) refl

-- a name that isn't reserved is none of an intrinsic
pub no_intrinsic : (x : List ℕ) → has_name x reserved ≡ false → is_intrinsic x ≡ false
no_intrinsic x h =
    let a = or_false (name_eq x (codes "ABS")) _ h in
    let b = or_false (name_eq x (codes "IABS")) _ a.1 in
    let c = or_false (name_eq x (codes "MAX")) _ b.1 in
    let d = or_false (name_eq x (codes "MAX0")) _ c.1 in
    let e = or_false (name_eq x (codes "MIN")) _ d.1 in
    let f = or_false (name_eq x (codes "MIN0")) _ e.1 in
    let g = or_false (name_eq x (codes "MOD")) _ f.1 in
    rw (a.0, b.0, c.0, d.0, e.0, f.0, g.0) refl

indexed_variable : (x : Var) → IsIndexed x → IsVariable x
indexed_variable (plain x) h = h.0
indexed_variable (shadow x) h = absurd h
indexed_variable (helper r k) h = absurd h

-- ---- renaming

-- renamed subscripts are as many
renamed_subscripts : (r : Var → Var) (s : Terms) → AreSubscripts s → AreSubscripts (rename_terms r s)
renamed_subscripts r none h = h
renamed_subscripts r (more a none) h = tt
renamed_subscripts r (more a (more b none)) h = tt
renamed_subscripts r (more a (more b (more c es))) h = absurd h

-- and an exponent stays none that is literal
renamed_literal : (r : Var → Var) (e : Term) → is_literal (rename_term r e) ≡ is_literal e
renamed_literal r (lit z) = refl
renamed_literal r (var x) = refl
renamed_literal r (elem x s) = refl
renamed_literal r (neg a) = renamed_literal r a
renamed_literal r (bin op a b) = λ i. joins_literals op && (renamed_literal r a i && renamed_literal r b i)
renamed_literal r (pow a k) = renamed_literal r a
renamed_literal r (power_of a b) = λ i. renamed_literal r a i && renamed_literal r b i
renamed_literal r (abs a) = refl

module _ (Q : Var → Option ℕ → Type 0) (A : Var → Type 0) (C : List ℕ → Terms → Type 0) (r : Var → Var) (named : (v : Var) (n : Option ℕ) → Q v n → IsIndexed (r v)) where
  variable : (v : Var) (n : Option ℕ) → Q v n → IsVariable (r v)
  variable v n q = indexed_variable (r v) (named v n q)

  mutual
    written_term : (e : Term) → OverTerm Q A e → IsWrittenTerm (rename_term r e)
    written_term (lit z) o = o
    written_term (var x) o = variable x (Some 0) o
    written_term (elem x s) o = (named x _ o.0, renamed_subscripts r s o.1.0, written_terms s o.1.1)
    written_term (neg a) o = written_term a o
    written_term (bin op a b) o = (written_term a o.0, written_term b o.1)
    written_term (pow a k) o = (written_term a o.0, o.1)
    written_term (power_of a b) o = (written_term a o.0, written_term b o.1.0, renamed_literal r b ∙ o.1.1)
    written_term (abs a) o = written_term a o

    written_terms : (es : Terms) → OverTerms Q A es → AreWrittenTerms (rename_terms r es)
    written_terms none o = tt
    written_terms (more e es) o = (written_term e o.0, written_terms es o.1)

  written_test : (c : Test) → OverTest Q A c → IsWrittenTest (rename_test r c)
  written_test (compare o a b) h = (written_term a h.0, written_term b h.1)
  written_test (negation c) h = written_test c h
  written_test (conjunction c d) h = (written_test c h.0, written_test d h.1)
  written_test (disjunction c d) h = (written_test c h.0, written_test d h.1)

  written_place : (x : Var) (s : Terms) → OverPlace Q A x s → IsPlace (r x) (rename_terms r s)
  written_place x none o = variable x (Some 0) o
  written_place x (more e es) o = (variable x _ o.0, renamed_subscripts r (more e es) o.1.0, written_terms (more e es) o.1.1)

  written_actual_place : (x : Var) (s : Terms) → OverPlace Q A x s → IsActualPlace (r x) (rename_terms r s)
  written_actual_place x none o = variable x (Some 0) o
  written_actual_place x (more e es) o = (named x _ o.0, renamed_subscripts r (more e es) o.1.0, written_terms (more e es) o.1.1)

  written_actual : (e : Term) → OverActual Q A e → IsWrittenTerm (rename_term r e)
  written_actual (lit z) o = o
  written_actual (var x) o = variable x None o
  written_actual (elem x s) o = written_term (elem x s) o
  written_actual (neg a) o = written_term (neg a) o
  written_actual (bin op a b) o = written_term (bin op a b) o
  written_actual (pow a k) o = written_term (pow a k) o
  written_actual (power_of a b) o = written_term (power_of a b) o
  written_actual (abs a) o = written_term (abs a) o

  written_actuals : (es : Terms) → OverActuals Q A es → AreWrittenTerms (rename_terms r es)
  written_actuals none o = tt
  written_actuals (more e es) o = (written_actual e o.0, written_actuals es o.1)

  written_runtime : (c : Runtime) → OverRuntime Q A c → IsWrittenRuntime (rename_runtime r c)
  written_runtime (push_word x s) o = written_actual_place x s o
  written_runtime (pop_word x s) o = written_actual_place x s o
  written_runtime (push_array x) o = variable x None o.0
  written_runtime (pop_array x) o = variable x None o.0
  written_runtime (push_control e) o = written_term e o
  written_runtime (pop_control x) o = variable x (Some 0) o
  written_runtime (zero_array x) o = variable x None o.0
  written_runtime (begin_reversal l s) o = (written_term l o.0, written_term s o.1)
  written_runtime (count_actions l s n) o = (written_term l o.0, written_term s o.1.0, variable n (Some 0) o.1.1)
  written_runtime (give_action l s k a f t) o = (written_term l o.0, written_term s o.1.0, written_term k o.1.1.0, variable a (Some 0) o.1.1.1.0, variable f (Some 0) o.1.1.1.1.0, variable t (Some 0) o.1.1.1.1.1)
  written_runtime end_reversal o = tt

  written_mark : (m : Mark) → OverMark Q A m → IsWrittenMark (rename_mark r m)
  written_mark unmarked o = tt
  written_mark (with_count n) o = o
  written_mark (count_from x) o = variable x (Some 0) o

  mutual
    written_act : (a : Act) → OverAct Q A C a → IsWrittenAct (rename_act r a)
    written_act (assign x s e) o = (written_place x s o.0, written_term e o.1)
    written_act (choose c a b) o = (written_test c o.0, written_code a o.1.0, written_code b o.1.1)
    written_act (loop x a b c body m) o = (variable x (Some 0) o.0, written_term a o.1.0, written_term b o.1.1.0, written_term c o.1.1.1.0, written_code body o.1.1.1.1.0, written_mark m o.1.1.1.1.1)
    written_act (during c body) o = (written_test c o.0, written_code body o.1)
    written_act (call name args) o = (o.0, written_actuals args o.1.0, no_runtime_call name (rename_terms r args) o.1.1.0)
    written_act (runtime c) o = written_runtime c o

    pub written_code : (c : Code) → OverCode Q A C c → IsWrittenCode (rename r c)
    written_code stop o = tt
    written_code (step line a rest) o = (written_act a o.0, written_code rest o.1)
