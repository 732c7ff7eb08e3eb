-- A naming that keeps the variables of the text keeps the trees of the program.
use Rattle.std.proofs.Common.{◌≡◌, ℕ, List, refl, ap}
use Rattle.adj_tree.specs.Code.{Var as Variable, neg, bin, pow, power_of, abs, elem, var, more, compare, negation, conjunction, disjunction, plain}
use Rattle.adj_tree.specs.declared.expr.Expr.{Expr}
use Rattle.adj_tree.specs.declared.expr.Expr.TheVariants.{Lit, Var, Elem', Neg', Bin', Pow', Power', Abs'}
use Rattle.adj_tree.specs.declared.expr.Exprs.{Exprs}
use Rattle.adj_tree.specs.declared.expr.Exprs.TheVariants as exprs
use Rattle.adj_tree.specs.declared.expr.Cond.{Cond}
use Rattle.adj_tree.specs.declared.expr.Cond.TheVariants.{Cmp, Not', And', Or'}
use Rattle.adj_tree.specs.View.{op_of, term_of, terms_of, rel_of, test_of}
use Rattle.def_meaning.specs.Rename.{rename_term, rename_terms, rename_test}

-- it gives each variable of the text its own name
abbrev pub IsPlain : (Variable → Variable) → Type 0
IsPlain r = (x : List ℕ) → r (plain x) ≡ plain x

mutual
  pub term_kept : (r : Variable → Variable) → IsPlain r → (e : Expr) → rename_term r (term_of e) ≡ term_of e
  term_kept r h (Lit z) = refl
  term_kept r h (Var x) = ap var (h x)
  term_kept r h (Elem' x p s) = λ i. elem (h x i) (terms_kept r h s i)
  term_kept r h (Neg' p a) = ap neg (term_kept r h a)
  term_kept r h (Bin' op p a q b) = λ i. bin (op_of op) (term_kept r h a i) (term_kept r h b i)
  term_kept r h (Pow' p a k) = ap (λ e. pow e k) (term_kept r h a)
  term_kept r h (Power' p a q b) = λ i. power_of (term_kept r h a i) (term_kept r h b i)
  term_kept r h (Abs' p a) = ap abs (term_kept r h a)

  pub terms_kept : (r : Variable → Variable) → IsPlain r → (es : Exprs) → rename_terms r (terms_of es) ≡ terms_of es
  terms_kept r h exprs.Empty = refl
  terms_kept r h (exprs.More' p e q rest) = λ i. more (term_kept r h e i) (terms_kept r h rest i)

pub test_kept : (r : Variable → Variable) → IsPlain r → (c : Cond) → rename_test r (test_of c) ≡ test_of c
test_kept r h (Cmp o a b) = λ i. compare (rel_of o) (term_kept r h a.value i) (term_kept r h b.value i)
test_kept r h (Not' p c) = ap negation (test_kept r h c)
test_kept r h (And' p c q d) = λ i. conjunction (test_kept r h c i) (test_kept r h d i)
test_kept r h (Or' p c q d) = λ i. disjunction (test_kept r h c i) (test_kept r h d i)
