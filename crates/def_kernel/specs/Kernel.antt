-- The names of a unit, the locals that its kernel declares, and the lowered units and programs. (docs/KERNEL.md)
use Rattle.std.specs.Prelude.{ℕ, zero, suc, List, [], ◌∷◌, ◌++◌, map, codes}
use Rattle.adj_tree.specs.Code.{Var, plain, shadow, helper, Term, lit, var, elem, neg, bin, pow, power_of, abs, Terms, none, more, Test, compare, negation, conjunction, disjunction, Runtime, push_word, pop_word, push_array, pop_array, push_control, pop_control, zero_array, begin_reversal, count_actions, give_action, end_reversal, Mark, unmarked, with_count, count_from, Act, assign, choose, loop, during, call, runtime, Code, stop, step, Declaration, Procedure}
use Rattle.def_meaning.specs.Written.{handed_back}
use Rattle.def_names.specs.Fresh.{digits, fresh}
use Rattle.def_names.specs.Reserved.{reserved}
use Rattle.def_kernel.specs.Lowered.{lowered, locals_of}

-- the name of a variable of the text
abbrev pub named : Var → List (List ℕ)
named (plain x) = x ∷ []
named (shadow x) = []
named (helper r k) = []

abbrev mutual
  -- the names in an expression, in order
  pub names_in : Term → List (List ℕ)
  names_in (lit z) = []
  names_in (var x) = named x
  names_in (elem x subs) = named x ++ names_in_all subs
  names_in (neg a) = names_in a
  names_in (bin op a b) = names_in a ++ names_in b
  names_in (pow a k) = names_in a
  names_in (power_of a b) = names_in a ++ names_in b
  names_in (abs a) = names_in a

  pub names_in_all : Terms → List (List ℕ)
  names_in_all none = []
  names_in_all (more e es) = names_in e ++ names_in_all es

abbrev pub names_in_test : Test → List (List ℕ)
names_in_test (compare r a b) = names_in a ++ names_in b
names_in_test (negation c) = names_in_test c
names_in_test (conjunction c d) = names_in_test c ++ names_in_test d
names_in_test (disjunction c d) = names_in_test c ++ names_in_test d

abbrev pub names_in_runtime : Runtime → List (List ℕ)
names_in_runtime (push_word x s) = named x ++ names_in_all s
names_in_runtime (pop_word x s) = named x ++ names_in_all s
names_in_runtime (push_array x) = named x
names_in_runtime (pop_array x) = named x
names_in_runtime (push_control e) = names_in e
names_in_runtime (pop_control x) = named x
names_in_runtime (zero_array x) = named x
names_in_runtime (begin_reversal l s) = names_in l ++ names_in s
names_in_runtime (count_actions l s n) = names_in l ++ (names_in s ++ named n)
names_in_runtime (give_action l s k a f t) = names_in l ++ (names_in s ++ (names_in k ++ (named a ++ (named f ++ named t))))
names_in_runtime end_reversal = []

-- the name that says how many snapshots a marked DO has
abbrev pub names_in_mark : Mark → List (List ℕ)
names_in_mark unmarked = []
names_in_mark (with_count m) = []
names_in_mark (count_from x) = named x

abbrev mutual
  -- the names of the variables in a statement, in order
  pub names_in_act : Act → List (List ℕ)
  names_in_act (assign x subs e) = named x ++ (names_in_all subs ++ names_in e)
  names_in_act (choose c a b) = names_in_test c ++ (names_in_code a ++ names_in_code b)
  names_in_act (loop x first last by body m) = names_in_mark m ++ (named x ++ (names_in first ++ (names_in last ++ (names_in by ++ names_in_code body))))
  names_in_act (during c body) = names_in_test c ++ names_in_code body
  names_in_act (call name args) = names_in_all args
  names_in_act (runtime r) = names_in_runtime r

  pub names_in_code : Code → List (List ℕ)
  names_in_code stop = []
  names_in_code (step line a rest) = names_in_act a ++ names_in_code rest

abbrev pub declared_names : List Declaration → List (List ℕ)
declared_names [] = []
declared_names (d ∷ ds) = d.name ∷ declared_names ds

-- the names of a unit's variables: dummies, declared ones, and all others by where they first appear (a name may stand more than once)
abbrev pub names_of : Procedure → List (List ℕ)
names_of u = u.dummies ++ (declared_names u.declarations ++ names_in_code u.body)

-- the name that a local gets where it is free: `ADV1`, `ADV2` and on
abbrev pub wanted_local : ℕ → List ℕ
wanted_local k = codes "ADV" ++ digits (suc k)

-- the names of the first k locals, each fresh: `taken` are the names that variables may not have
abbrev pub local_names : List (List ℕ) → ℕ → List (List ℕ)
local_names taken zero = []
local_names taken (suc k) = local_names taken k ++ (fresh (wanted_local k) (taken ++ local_names taken k) ∷ [])

-- the local of number k, counted from 0
abbrev pub local_of : List (List ℕ) → ℕ → Var
local_of taken k = plain (fresh (wanted_local k) (taken ++ local_names taken k))

abbrev pub unit_name : Procedure → List ℕ
unit_name u = u.name

-- the names that a local of the unit may not have: those of its variables, of units, of intrinsics and of runtime calls
abbrev pub taken_in : List Procedure → Procedure → List (List ℕ)
taken_in units u = names_of u ++ (map unit_name units ++ reserved)

abbrev pub local_in : List Procedure → Procedure → ℕ → Var
local_in units u = local_of (taken_in units u)

-- a scalar, declared at a line
abbrev pub scalar_at : ℕ → List ℕ → Declaration
scalar_at line x = record { line = line; name = x; extents = [] }

-- how many locals the unit's kernel declares
abbrev pub locals_count : List Procedure → Procedure → ℕ
locals_count units u = locals_of (local_in units u) (handed_back units) u.body

-- the unit with its statements lowered, and its locals declared behind its own declarations
abbrev pub lowered_unit : List Procedure → Procedure → Procedure
lowered_unit units u = record u {
  declarations = u.declarations ++ map (scalar_at u.line) (local_names (taken_in units u) (locals_count units u));
  body = lowered (local_in units u) (handed_back units) u.body;
}

-- the program with all units lowered
abbrev pub lowered_program : List Procedure → List Procedure
lowered_program units = map (lowered_unit units) units

-- it holds of each unit
abbrev pub EachUnit : (Procedure → Type 0) → List Procedure → Type 0
EachUnit P [] = Unit {0}
EachUnit P (u ∷ us) = P u × EachUnit P us
