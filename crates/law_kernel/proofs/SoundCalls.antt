-- What holds of statements of a text: variables are those of a text, and CALLs are looked at one by one.
use Rattle.std.proofs.Common.{ℕ, List}
use Rattle.adj_tree.specs.Code.{Runtime, Var, plain, shadow, helper, Term, lit, var, elem, neg, bin, pow, power_of, abs, Terms, none, more, Test, compare, negation, conjunction, disjunction, Mark, unmarked, with_count, count_from, Act, assign, choose, loop, during, call, runtime, Code, stop, step}
use Rattle.def_text.specs.Written.{IsVariable, IsIndexed, IsWrittenTerm, AreWrittenTerms, IsWrittenTest, IsPlace, IsWrittenMark, IsWrittenAct, IsWrittenCode}
use Rattle.def_names.specs.Statements.{At, inner, statements}
use Rattle.law_kernel.specs.Apart.{EachCall', EachCall}
use Rattle.law_kernel.specs.Fits.{PlainVar, PlainTerm, PlainTerms, PlainTest, PlainMark, PlainAct, PlainCode}
use Rattle.law_kernel.proofs.Faultless.{Each, each_front, each_behind}

-- ---- calls

module _ (Q : At Act → Type 0) (P : List ℕ → Terms → Type 0) (good : (line : ℕ) (name : List ℕ) (args : Terms) → Q (line, call name args) → P name args) (no_runtime : (line : ℕ) (r : Runtime) → Q (line, runtime r) → ⊥) where
  mutual
    -- each CALL in a statement is as it should be where each statement in it is
    each_in_act : (line : ℕ) (a : Act) → Q (line, a) → Each Q (inner a) → EachCall' P a
    each_in_act line (assign x subs e) h g = tt
    each_in_act line (choose c a b) h g = (each_in_code a (each_front Q (statements a) (statements b) g), each_in_code b (each_behind Q (statements a) (statements b) g))
    each_in_act line (loop x first last by body m) h g = each_in_code body g
    each_in_act line (during c body) h g = each_in_code body g
    each_in_act line (call name args) h g = good line name args h
    each_in_act line (runtime r) h g = no_runtime line r h

    -- and in a list
    pub each_in_code : (c : Code) → Each Q (statements c) → EachCall P c
    each_in_code stop h = tt
    each_in_code (step line a rest) h = (each_in_act line a h.0 (each_front Q (inner a) (statements rest) h.1), each_in_code rest (each_behind Q (inner a) (statements rest) h.1))

-- ---- variables of the text

-- a written variable is of the text
plain_var : (x : Var) → IsVariable x → PlainVar x
plain_var (plain x) h = tt
plain_var (shadow x) h = absurd h
plain_var (helper r k) h = absurd h

-- so is one with subscripts
plain_indexed : (x : Var) → IsIndexed x → PlainVar x
plain_indexed (plain x) h = tt
plain_indexed (shadow x) h = absurd h
plain_indexed (helper r k) h = absurd h

mutual
  -- the variables of what is written are those of a text
  plain_term : (e : Term) → IsWrittenTerm e → PlainTerm e
  plain_term (lit z) h = tt
  plain_term (var x) h = plain_var x h
  plain_term (elem x subs) h = (plain_indexed x h.0, plain_terms subs h.2)
  plain_term (neg a) h = plain_term a h
  plain_term (bin op a b) h = (plain_term a h.0, plain_term b h.1)
  plain_term (pow a k) h = plain_term a h.0
  plain_term (power_of a b) h = (plain_term a h.0, plain_term b h.1)
  plain_term (abs a) h = plain_term a h

  -- in several expressions
  plain_terms : (es : Terms) → AreWrittenTerms es → PlainTerms es
  plain_terms none h = tt
  plain_terms (more e es) h = (plain_term e h.0, plain_terms es h.1)

-- in a condition
plain_test : (c : Test) → IsWrittenTest c → PlainTest c
plain_test (compare r a b) h = (plain_term a h.0, plain_term b h.1)
plain_test (negation c) h = plain_test c h
plain_test (conjunction c d) h = (plain_test c h.0, plain_test d h.1)
plain_test (disjunction c d) h = (plain_test c h.0, plain_test d h.1)

-- in a target
plain_place : (x : Var) (subs : Terms) → IsPlace x subs → PlainVar x × PlainTerms subs
plain_place x none h = (plain_var x h, tt)
plain_place x (more e es) h = (plain_var x h.0, plain_terms (more e es) h.2)

-- in a mark
plain_mark : (m : Mark) → IsWrittenMark m → PlainMark m
plain_mark unmarked h = tt
plain_mark (with_count n) h = tt
plain_mark (count_from x) h = plain_var x h

mutual
  -- of a written statement
  plain_act : (a : Act) → IsWrittenAct a → PlainAct a
  plain_act (assign x subs e) h = let p = plain_place x subs h.0 in (p.0, (p.1, plain_term e h.1))
  plain_act (choose c a b) h = (plain_test c h.0, (plain_code a h.1, plain_code b h.2))
  plain_act (loop x first last by body m) h = (plain_var x h.0, ((plain_mark m h.5, (plain_term first h.1, (plain_term last h.2, plain_term by h.3))), plain_code body h.4))
  plain_act (during c body) h = (plain_test c h.0, plain_code body h.1)
  plain_act (call name args) h = plain_terms args h.1
  plain_act (runtime r) h = tt

  -- and in a list
  pub plain_code : (c : Code) → IsWrittenCode c → PlainCode c
  plain_code stop h = tt
  plain_code (step line a rest) h = (plain_act a h.0, plain_code rest h.1)
