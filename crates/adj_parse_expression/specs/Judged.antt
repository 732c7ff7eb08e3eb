-- Judged: the tree of an expression or a condition that is derived, or what is wrong with it.
use Rattle.std.specs.Prelude.{ℕ, suc, ◌^◌, max, nat_le, nat_lt, Bool, false, ◌||◌, Option, Some, None, Result, Ok, Err, if◌then◌else◌}
use Rattle.adj_tree.specs.Code.{Term, Test}
use Rattle.def_text.specs.Char.{number_of}
use Rattle.def_text.specs.Grammar.{Syntax, number, variable, negated, joined, raised, applied, Arguments, only, beside, is_literal, tree}
use Rattle.def_text.specs.Condition.{Condition, compared, denied, both, either, test}
use Rattle.adj_parse_expression.specs.declared.flaw.Flaw.{Flaw}
use Rattle.adj_parse_expression.specs.declared.flaw.Flaw.TheVariants.{Large, Deep, Exponent}

-- whether a literal is above the greatest word; exponents have literals too
abbrev mutual
  pub has_large : Syntax → Bool
  has_large (number digits) = nat_le (2 ^ 63) (number_of digits)
  has_large (variable x) = false
  has_large (negated s) = has_large s
  has_large (joined op a b) = has_large a || has_large b
  has_large (raised a b) = has_large a || has_large b
  has_large (applied x all) = any_large all

  pub any_large : Arguments → Bool
  any_large (only s) = has_large s
  any_large (beside front s) = any_large front || has_large s

-- 1 for a literal and a name, else 1 more than the greatest depth of the parts; a literal exponent is a number and no part
abbrev mutual
  pub depth : Syntax → ℕ
  depth (number digits) = 1
  depth (variable x) = 1
  depth (negated s) = suc (depth s)
  depth (joined op a b) = suc (max (depth a) (depth b))
  depth (raised a b) = if is_literal b then suc (depth a) else suc (max (depth a) (depth b))
  depth (applied x all) = suc (deepest all)

  pub deepest : Arguments → ℕ
  deepest (only s) = depth s
  deepest (beside front s) = max (deepest front) (depth s)

abbrev pub with_tree : {A : Type 0} → Option A → Result A Flaw
with_tree (Some t) = Ok t
with_tree None = Err Exponent

-- the first flaw that there is, or the tree
abbrev pub judged_by : {A : Type 0} → Bool → Bool → Option A → Result A Flaw
judged_by large deep found = if large then Err Large else (if deep then Err Deep else with_tree found)

abbrev pub judged : ℕ → Syntax → Result Term Flaw
judged limit s = judged_by (has_large s) (nat_lt limit (depth s)) (tree s)

-- the same of conditions
abbrev pub test_large : Condition → Bool
test_large (compared r a b) = has_large a || has_large b
test_large (denied c) = test_large c
test_large (both c d) = test_large c || test_large d
test_large (either c d) = test_large c || test_large d

abbrev pub test_depth : Condition → ℕ
test_depth (compared r a b) = suc (max (depth a) (depth b))
test_depth (denied c) = suc (test_depth c)
test_depth (both c d) = suc (max (test_depth c) (test_depth d))
test_depth (either c d) = suc (max (test_depth c) (test_depth d))

abbrev pub judged_test : ℕ → Condition → Result Test Flaw
judged_test limit c = judged_by (test_large c) (nat_lt limit (test_depth c)) (test c)
