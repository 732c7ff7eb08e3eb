-- Locals that are apart from the variables of a unit, and stores that agree on these.
use Rattle.std.specs.Prelude.{◌≡◌, ℕ, ◌<◌, ◌==◌, ℤ, List, Bool, true, false}
use Rattle.adj_tree.specs.Code.{Var, var_eq, Term, Terms, Test, Mark, Act, assign, choose, loop, during, call, runtime, Code, stop, step}
use Rattle.def_meaning.specs.Numbers.{Numbers}
use Rattle.def_meaning.specs.Store.{size_of}
use Rattle.def_meaning.specs.Value.{Setting}
use Rattle.def_meaning.specs.Read.{reads_term, reads_terms, reads_test, reads_mark}

-- numbers whose words are what they were made of
pub record ShowWords {C : Type 0} (n : Numbers C) : Type 0 where
  pub shows : (z : ℤ) → n.shown (n.of_word z) ≡ z

-- locals of different numbers are different, and none of them is inside
pub record AreLocals (inside : Var → Bool) (local : ℕ → Var) : Type 0 where
  pub outside : (j : ℕ) → inside (local j) ≡ false
  pub apart : (i j : ℕ) → var_eq (local i) (local j) ≡ (i == j)

-- the cells of the variables inside
abbrev pub CellsOf : {C : Type 0} → Setting C → (Var → Bool) → Var → ℕ → Type 0
CellsOf n inside x i = (inside x ≡ true) × (i < size_of (n.shape x))

-- ---- trees whose variables are inside

abbrev pub TermInside : (Var → Bool) → Term → Type 0
TermInside inside e = (x : Var) → reads_term x e ≡ true → inside x ≡ true

abbrev pub TermsInside : (Var → Bool) → Terms → Type 0
TermsInside inside es = (x : Var) → reads_terms x es ≡ true → inside x ≡ true

abbrev pub TestInside : (Var → Bool) → Test → Type 0
TestInside inside c = (x : Var) → reads_test x c ≡ true → inside x ≡ true

abbrev pub MarkInside : (Var → Bool) → Mark → Type 0
MarkInside inside m = (x : Var) → reads_mark x m ≡ true → inside x ≡ true

abbrev mutual
  pub ActInside : (Var → Bool) → Act → Type 0
  ActInside inside (assign x subs e) = (inside x ≡ true) × (TermsInside inside subs × TermInside inside e)
  ActInside inside (choose c a b) = TestInside inside c × (CodeInside inside a × CodeInside inside b)
  ActInside inside (loop x first last by body m) = (inside x ≡ true) × ((MarkInside inside m × (TermInside inside first × (TermInside inside last × TermInside inside by))) × CodeInside inside body)
  ActInside inside (during c body) = TestInside inside c × CodeInside inside body
  ActInside inside (call name args) = TermsInside inside args
  ActInside inside (runtime r) = Unit {0}

  pub CodeInside : (Var → Bool) → Code → Type 0
  CodeInside inside stop = Unit {0}
  CodeInside inside (step line a rest) = ActInside inside a × CodeInside inside rest

abbrev mutual
  -- each CALL of a unit is as it should be, and there are no runtime calls
  pub EachCall' : (List ℕ → Terms → Type 0) → Act → Type 0
  EachCall' P (assign x subs e) = Unit {0}
  EachCall' P (choose c a b) = EachCall P a × EachCall P b
  EachCall' P (loop x first last by body m) = EachCall P body
  EachCall' P (during c body) = EachCall P body
  EachCall' P (call name args) = P name args
  EachCall' P (runtime r) = ⊥

  pub EachCall : (List ℕ → Terms → Type 0) → Code → Type 0
  EachCall P stop = Unit {0}
  EachCall P (step line a rest) = EachCall' P a × EachCall P rest
