-- Which variables statements read, and so which dummies a unit looks at. (docs/RUNNING.md, "Calls")
use Rattle.std.specs.Prelude.{ℕ, List, [], ◌∷◌, Bool, false, ◌&&◌, ◌||◌}
use Rattle.adj_tree.specs.Code.{Var, plain, name_eq, var_eq, Term, lit, var, elem, neg, bin, pow, power_of, abs, Terms, none, more, Test, compare, negation, conjunction, disjunction, Runtime, push_word, pop_word, push_array, pop_array, push_control, pop_control, zero_array, begin_reversal, count_actions, give_action, end_reversal, Mark, unmarked, with_count, count_from, Act, assign, choose, loop, during, call, runtime, Code, stop, step, Extent, fixed, given, Declaration, Procedure}
use Rattle.def_meaning.specs.LeastSet.{Dummies, Rule, in_least}

abbrev mutual
  -- whether the variable stands in an expression
  pub reads_term : Var → Term → Bool
  reads_term x (lit z) = false
  reads_term x (var y) = var_eq x y
  reads_term x (elem y subs) = var_eq x y || reads_terms x subs
  reads_term x (neg a) = reads_term x a
  reads_term x (bin op a b) = reads_term x a || reads_term x b
  reads_term x (pow a k) = reads_term x a
  reads_term x (power_of a b) = reads_term x a || reads_term x b
  reads_term x (abs a) = reads_term x a

  pub reads_terms : Var → Terms → Bool
  reads_terms x none = false
  reads_terms x (more e es) = reads_term x e || reads_terms x es

abbrev pub reads_test : Var → Test → Bool
reads_test x (compare r a b) = reads_term x a || reads_term x b
reads_test x (negation c) = reads_test x c
reads_test x (conjunction c d) = reads_test x c || reads_test x d
reads_test x (disjunction c d) = reads_test x c || reads_test x d

-- whether the variable stands in an actual, or is the actual or has it as its element where the dummy is read
abbrev pub reads_actual : Var → Bool → Term → Bool
reads_actual x w (var y) = w && var_eq x y
reads_actual x w (elem y subs) = (w && var_eq x y) || reads_terms x subs
reads_actual x w (lit z) = false
reads_actual x w (neg a) = reads_term x (neg a)
reads_actual x w (bin op a b) = reads_term x (bin op a b)
reads_actual x w (pow a k) = reads_term x (pow a k)
reads_actual x w (power_of a b) = reads_term x (power_of a b)
reads_actual x w (abs a) = reads_term x (abs a)

-- the same of all actuals, by which dummies are read
abbrev pub reads_actuals : Var → List Bool → Terms → Bool
reads_actuals x ws none = false
reads_actuals x [] (more e es) = reads_actual x false e || reads_actuals x [] es
reads_actuals x (w ∷ ws) (more e es) = reads_actual x w e || reads_actuals x ws es

-- a runtime call reads what it pushes, and its expressions
abbrev pub reads_runtime : Var → Runtime → Bool
reads_runtime x (push_word y subs) = var_eq x y || reads_terms x subs
reads_runtime x (pop_word y subs) = reads_terms x subs
reads_runtime x (push_array y) = var_eq x y
reads_runtime x (pop_array y) = false
reads_runtime x (push_control e) = reads_term x e
reads_runtime x (pop_control y) = false
reads_runtime x (zero_array y) = false
reads_runtime x (begin_reversal l m) = reads_term x l || reads_term x m
reads_runtime x (count_actions l m y) = reads_term x l || reads_term x m
reads_runtime x (give_action l m e a f t) = reads_term x l || (reads_term x m || reads_term x e)
reads_runtime x end_reversal = false

-- a marked DO reads the variable that says its number of snapshots
abbrev pub reads_mark : Var → Mark → Bool
reads_mark x unmarked = false
reads_mark x (with_count m) = false
reads_mark x (count_from y) = var_eq x y

abbrev mutual
  -- whether a statement reads the variable, where `looked` says which dummies of a unit are read
  pub act_reads : Dummies → Var → Act → Bool
  act_reads looked x (assign y subs e) = reads_term x e || reads_terms x subs
  act_reads looked x (choose c a b) = reads_test x c || (reads looked x a || reads looked x b)
  act_reads looked x (loop y first last by body m) = (reads_term x first || (reads_term x last || (reads_term x by || reads_mark x m))) || reads looked x body
  act_reads looked x (during c body) = reads_test x c || reads looked x body
  act_reads looked x (call name args) = reads_actuals x (looked name) args
  act_reads looked x (runtime r) = reads_runtime x r

  -- the same of a list
  pub reads : Dummies → Var → Code → Bool
  reads looked x stop = false
  reads looked x (step line a rest) = act_reads looked x a || reads looked x rest

-- ---- the dummies that units read

-- whether the name is among extents
abbrev pub names_extent : List ℕ → List Extent → Bool
names_extent d [] = false
names_extent d (fixed z ∷ es) = names_extent d es
names_extent d (given x ∷ es) = name_eq d x || names_extent d es

-- whether a dummy is an extent of an array
abbrev pub is_extent : List ℕ → List Declaration → Bool
is_extent d [] = false
is_extent d (e ∷ es) = names_extent d e.extents || is_extent d es

-- a unit reads the dummies that its statements read, and its extents
abbrev pub read_rule : Rule
read_rule looked u d = reads looked (plain d) u.body || is_extent d u.declarations

-- which dummies of the unit of a name are read: the least set by that rule
abbrev pub looked_at : List Procedure → Dummies
looked_at units name = in_least read_rule units name

-- whether the unit reads its dummy
abbrev pub is_read : List Procedure → Procedure → List ℕ → Bool
is_read units u d = read_rule (looked_at units) u d
