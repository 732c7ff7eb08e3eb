-- Prepared: the trees that prepared ones stand for. A variable is its number in a list of names.
use Rattle.std.specs.Prelude.{ℕ, ◌<◌, List, [], slice_index_or}
use Rattle.adj_tree.specs.Code as code
use Rattle.adj_tree.specs.Code.{Var, plain, lit, var, elem, neg, bin, pow, power_of, abs, none, more, compare, negation, conjunction, disjunction}
use Rattle.adj_tree.specs.View.{op_of, rel_of}
use Rattle.adj_interp_frame.specs.declared.term.Term.{Term}
use Rattle.adj_interp_frame.specs.declared.term.Term.TheVariants as term
use Rattle.adj_interp_frame.specs.declared.term.Terms.{Terms}
use Rattle.adj_interp_frame.specs.declared.term.Terms.TheVariants as terms
use Rattle.adj_interp_frame.specs.declared.term.Test.{Test}
use Rattle.adj_interp_frame.specs.declared.term.Test.TheVariants as test

-- the variable of a number
abbrev pub var_at : List (List ℕ) → ℕ → Var
var_at names i = plain (slice_index_or names i [])

abbrev mutual
  pub term_in : List (List ℕ) → Term → code.Term
  term_in names (term.Lit n) = lit n
  term_in names (term.Var i) = var (var_at names i)
  term_in names (term.Elem i subs) = elem (var_at names i) (terms_in names subs)
  term_in names (term.Neg' p a) = neg (term_in names a)
  term_in names (term.Bin' op p a q b) = bin (op_of op) (term_in names a) (term_in names b)
  term_in names (term.Pow' p a k) = pow (term_in names a) k
  term_in names (term.Power' p a q b) = power_of (term_in names a) (term_in names b)
  term_in names (term.Abs' p a) = abs (term_in names a)

  pub terms_in : List (List ℕ) → Terms → code.Terms
  terms_in names terms.Empty = none
  terms_in names (terms.More' p e q rest) = more (term_in names e) (terms_in names rest)

abbrev pub test_in : List (List ℕ) → Test → code.Test
test_in names (test.Cmp r a b) = compare (rel_of r) (term_in names a.value) (term_in names b.value)
test_in names (test.Not' p c) = negation (test_in names c)
test_in names (test.And' p c q d) = conjunction (test_in names c) (test_in names d)
test_in names (test.Or' p c q d) = disjunction (test_in names c) (test_in names d)

-- ---- numbers below a count

abbrev mutual
  pub IsTermBelow : ℕ → Term → Type 0
  IsTermBelow count (term.Lit n) = Unit {0}
  IsTermBelow count (term.Var i) = i < count
  IsTermBelow count (term.Elem i subs) = (i < count) × AreTermsBelow count subs
  IsTermBelow count (term.Neg' p a) = IsTermBelow count a
  IsTermBelow count (term.Bin' op p a q b) = IsTermBelow count a × IsTermBelow count b
  IsTermBelow count (term.Pow' p a k) = IsTermBelow count a
  IsTermBelow count (term.Power' p a q b) = IsTermBelow count a × IsTermBelow count b
  IsTermBelow count (term.Abs' p a) = IsTermBelow count a

  pub AreTermsBelow : ℕ → Terms → Type 0
  AreTermsBelow count terms.Empty = Unit {0}
  AreTermsBelow count (terms.More' p e q rest) = IsTermBelow count e × AreTermsBelow count rest

abbrev pub IsTestBelow : ℕ → Test → Type 0
IsTestBelow count (test.Cmp r a b) = IsTermBelow count a.value × IsTermBelow count b.value
IsTestBelow count (test.Not' p c) = IsTestBelow count c
IsTestBelow count (test.And' p c q d) = IsTestBelow count c × IsTestBelow count d
IsTestBelow count (test.Or' p c q d) = IsTestBelow count c × IsTestBelow count d
