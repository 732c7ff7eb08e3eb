-- PartialCondition: what stands for a condition while it is read.
use Rattle.std.specs.Prelude.{ℕ, ◌+◌, min, max, nat_lt, Result}
use Rattle.adj_tree.specs.Code.{Rel, Test, compare, negation, conjunction, disjunction}
use Rattle.adj_tree.specs.View.{test_of}
use Rattle.adj_parse_expression.specs.declared.flaw.Flaw.{Flaw}
use Rattle.adj_parse_expression.specs.declared.proposition.Proposition.{Proposition}
use Rattle.adj_parse_expression.specs.ConditionMachine.{TestAlgebra}
use Rattle.adj_parse_expression.specs.Flaws.{of_one, of_two, kept}
use Rattle.adj_parse_expression.specs.Partial.{Partial, algebra}
use Rattle.adj_parse_expression.specs.View.{seen}

-- the tree or what is wrong, and the depth or 1 more than the limit
pub record PartialTest : Type 0 where
  pub found : Result Test Flaw
  pub depth : ℕ

-- one that is too deep isn't kept
abbrev pub bounded_test : ℕ → Result Test Flaw → ℕ → PartialTest
bounded_test limit found depth = record { found = kept (nat_lt limit depth) found; depth = min depth (limit + 1) }

abbrev pub comparison_of : ℕ → Rel → Partial → Partial → PartialTest
comparison_of limit r a b = bounded_test limit (of_two (compare r) a.found b.found) (max a.depth b.depth + 1)

abbrev pub negation_of : ℕ → PartialTest → PartialTest
negation_of limit c = bounded_test limit (of_one negation c.found) (c.depth + 1)

abbrev pub conjunction_of : ℕ → PartialTest → PartialTest → PartialTest
conjunction_of limit c d = bounded_test limit (of_two conjunction c.found d.found) (max c.depth d.depth + 1)

abbrev pub disjunction_of : ℕ → PartialTest → PartialTest → PartialTest
disjunction_of limit c d = bounded_test limit (of_two disjunction c.found d.found) (max c.depth d.depth + 1)

abbrev pub test_algebra : ℕ → TestAlgebra Partial PartialTest
test_algebra limit = record { terms = algebra limit; relates = comparison_of limit; denies = negation_of limit; conjoins = conjunction_of limit; disjoins = disjunction_of limit }

abbrev pub proposition_of : Proposition → PartialTest
proposition_of c = record { found = seen (λ e. test_of e.value) c.found; depth = c.depth }
