-- Text: the canonical characters of a program.
use Rattle.std.specs.Prelude.{ℕ, ◌+◌, ◌==◌, pos, Bool, true, false, nat_lt, List, [], ◌∷◌, ◌++◌, map, codes, if◌then◌else◌}
use Rattle.std.specs.Fmt.{decimal, signed_decimal}
use Rattle.std.specs.List.{flat_map}
use Rattle.std.specs.Ordering.{int_eq}
use Rattle.adj_tree.specs.Code.{Var, plain, shadow, helper, Op, plus, minus, times, quot, modulo, greater, lesser, Term, Terms, lit, var, elem, neg, bin, pow, power_of, abs, none, more, Rel, is_less, is_most, is_same, is_other, is_greater, is_least, Test, compare, negation, conjunction, disjunction, Runtime, push_word, pop_word, push_array, pop_array, push_control, pop_control, zero_array, begin_reversal, count_actions, give_action, end_reversal, Mark, unmarked, with_count, count_from, Act, Code, assign, choose, loop, during, call, runtime, stop, step, Extent, fixed, given, Declaration, Procedure}
use Rattle.def_text.specs.Char.{line_feed, left, right, comma, equals}

-- Lines. The rest of a statement, once so many characters stand in its line: it is cut after 66, and goes on behind five blanks and a +
unfoldable pub laid : ℕ → List ℕ → List ℕ
laid k [] = line_feed ∷ []
laid k (c ∷ cs) = if k == 66 then codes "\n     +" ++ c ∷ laid 1 cs else c ∷ laid (k + 1) cs

-- the lines of a statement: it begins behind six blanks
abbrev pub statement : List ℕ → List ℕ
statement cs = codes "      " ++ laid 0 cs

-- Lists. Items with a comma before each, and a closing parenthesis
abbrev pub behind_commas : List (List ℕ) → List ℕ
behind_commas [] = right ∷ []
behind_commas (t ∷ ts) = comma ∷ t ++ behind_commas ts

-- items in parentheses, separated by commas; nothing where there are none
abbrev pub bracketed : List (List ℕ) → List ℕ
bracketed [] = []
bracketed (t ∷ ts) = left ∷ t ++ behind_commas ts

-- Expressions. Only a variable of the text has characters
abbrev pub var_text : Var → List ℕ
var_text (plain x) = x
var_text (shadow x) = []
var_text (helper r k) = []

-- the level of what an operator joins
abbrev pub op_level : Op → ℕ
op_level plus = 0
op_level minus = 0
op_level times = 1
op_level quot = 1
op_level _ = 3

-- the level of the place to the left of an operator, and of the one to its right
abbrev pub left_place : Op → ℕ
left_place times = 1
left_place quot = 1
left_place _ = 0

abbrev pub right_place : Op → ℕ
right_place plus = 1
right_place minus = 1
right_place times = 2
right_place quot = 2
right_place _ = 0

-- what stands before, between and behind the operands of an operator
abbrev pub opening : Op → List ℕ
opening modulo = codes "MOD("
opening greater = codes "MAX("
opening lesser = codes "MIN("
opening _ = []

abbrev pub between : Op → ℕ
between plus = 43
between minus = 45
between times = 42
between quot = 47
between _ = 44

abbrev pub closing : Op → List ℕ
closing modulo = codes ")"
closing greater = codes ")"
closing lesser = codes ")"
closing _ = []

-- the level of an expression
abbrev pub term_level : Term → ℕ
term_level (neg a) = 0
term_level (bin op a b) = op_level op
term_level (pow a k) = 2
term_level (power_of a b) = 2
term_level _ = 3

-- characters, in parentheses where the level is below that of the place
abbrev pub enclosed : Bool → List ℕ → List ℕ
enclosed true cs = left ∷ cs ++ right ∷ []
enclosed false cs = cs

abbrev mutual
  -- the characters of an expression
  pub term_text : Term → List ℕ
  term_text (lit n) = signed_decimal n
  term_text (var x) = var_text x
  term_text (elem x s) = var_text x ++ bracketed (term_texts s)
  term_text (neg a) = 45 ∷ enclosed (nat_lt (term_level a) 1) (term_text a)
  term_text (bin op a b) = opening op ++ enclosed (nat_lt (term_level a) (left_place op)) (term_text a) ++ between op ∷ enclosed (nat_lt (term_level b) (right_place op)) (term_text b) ++ closing op
  term_text (pow a k) = enclosed (nat_lt (term_level a) 3) (term_text a) ++ codes "**" ++ decimal k
  term_text (power_of a b) = enclosed (nat_lt (term_level a) 3) (term_text a) ++ codes "**" ++ enclosed (nat_lt (term_level b) 2) (term_text b)
  term_text (abs a) = codes "ABS(" ++ term_text a ++ codes ")"

  -- the characters of each expression
  pub term_texts : Terms → List (List ℕ)
  term_texts none = []
  term_texts (more e rest) = term_text e ∷ term_texts rest

-- a variable with its subscripts
abbrev pub place_text : Var → Terms → List ℕ
place_text x s = var_text x ++ bracketed (term_texts s)

-- Conditions.
abbrev pub rel_text : Rel → List ℕ
rel_text is_less = codes ".LT."
rel_text is_most = codes ".LE."
rel_text is_same = codes ".EQ."
rel_text is_other = codes ".NE."
rel_text is_greater = codes ".GT."
rel_text is_least = codes ".GE."

abbrev pub test_level : Test → ℕ
test_level (compare r a b) = 3
test_level (negation c) = 2
test_level (conjunction c d) = 1
test_level (disjunction c d) = 0

-- the characters of a condition
abbrev pub test_text : Test → List ℕ
test_text (compare r a b) = term_text a ++ rel_text r ++ term_text b
test_text (negation c) = codes ".NOT." ++ enclosed (nat_lt (test_level c) 3) (test_text c)
test_text (conjunction c d) = enclosed (nat_lt (test_level c) 1) (test_text c) ++ codes ".AND." ++ enclosed (nat_lt (test_level d) 2) (test_text d)
test_text (disjunction c d) = enclosed (nat_lt (test_level c) 0) (test_text c) ++ codes ".OR." ++ enclosed (nat_lt (test_level d) 1) (test_text d)

-- Calls of the runtime: the name and the actuals of each
abbrev pub runtime_name : Runtime → List ℕ
runtime_name (push_word x s) = codes "PUSHINTEGER8"
runtime_name (pop_word x s) = codes "POPINTEGER8"
runtime_name (push_array x) = codes "PUSHINTEGER8ARRAY"
runtime_name (pop_array x) = codes "POPINTEGER8ARRAY"
runtime_name (push_control e) = codes "PUSHCONTROL1B"
runtime_name (pop_control x) = codes "POPCONTROL1B"
runtime_name (zero_array x) = codes "ADZERO8"
runtime_name (begin_reversal l s) = codes "ADBEG"
runtime_name (count_actions l s n) = codes "ADACTN"
runtime_name (give_action l s k a f t) = codes "ADACT"
runtime_name end_reversal = codes "ADEND"

abbrev pub runtime_actuals : Runtime → List (List ℕ)
runtime_actuals (push_word x s) = place_text x s ∷ []
runtime_actuals (pop_word x s) = place_text x s ∷ []
runtime_actuals (push_array x) = var_text x ∷ []
runtime_actuals (pop_array x) = var_text x ∷ []
runtime_actuals (push_control e) = term_text e ∷ []
runtime_actuals (pop_control x) = var_text x ∷ []
runtime_actuals (zero_array x) = var_text x ∷ []
runtime_actuals (begin_reversal l s) = term_text l ∷ term_text s ∷ []
runtime_actuals (count_actions l s n) = term_text l ∷ term_text s ∷ var_text n ∷ []
runtime_actuals (give_action l s k a f t) = term_text l ∷ term_text s ∷ term_text k ∷ var_text a ∷ var_text f ∷ var_text t ∷ []
runtime_actuals end_reversal = []

-- Statements. A CALL of this name with these actuals
abbrev pub call_text : List ℕ → List (List ℕ) → List ℕ
call_text x actuals = statement (codes "CALL " ++ x ++ bracketed actuals)

-- the line of the directive before a loop that is marked
abbrev pub directive : Mark → List ℕ
directive unmarked = []
directive (with_count n) = codes "C$AD BINOMIAL-CKP " ++ decimal n ++ line_feed ∷ []
directive (count_from x) = codes "C$AD BINOMIAL-CKP " ++ var_text x ++ line_feed ∷ []

abbrev pub is_one : Term → Bool
is_one (lit n) = int_eq n (pos 1)
is_one c = false

-- a step is left out exactly where it is the literal 1
abbrev pub step_text : Term → List ℕ
step_text c = if is_one c then [] else comma ∷ term_text c

abbrev mutual
  -- the lines of a statement and of those in it
  pub act_text : Act → List ℕ
  act_text (assign x s e) = statement (place_text x s ++ equals ∷ term_text e)
  act_text (choose c a b) = statement (codes "IF (" ++ test_text c ++ codes ") THEN") ++ code_text a ++ else_text b ++ statement (codes "END IF")
  act_text (loop x a b c body m) = directive m ++ statement (codes "DO " ++ var_text x ++ equals ∷ term_text a ++ comma ∷ term_text b ++ step_text c) ++ code_text body ++ statement (codes "END DO")
  act_text (during c body) = statement (codes "DO WHILE (" ++ test_text c ++ codes ")") ++ code_text body ++ statement (codes "END DO")
  act_text (call x actuals) = call_text x (term_texts actuals)
  act_text (runtime r) = call_text (runtime_name r) (runtime_actuals r)

  -- the lines of statements in order
  pub code_text : Code → List ℕ
  code_text stop = []
  code_text (step line a rest) = act_text a ++ code_text rest

  -- the part behind ELSE, where it isn't empty
  pub else_text : Code → List ℕ
  else_text stop = []
  else_text (step line a rest) = statement (codes "ELSE") ++ act_text a ++ code_text rest

-- Units.
abbrev pub extent_text : Extent → List ℕ
extent_text (fixed n) = signed_decimal n
extent_text (given x) = x

abbrev pub declaration_text : Declaration → List ℕ
declaration_text d = statement (codes "INTEGER*8 " ++ d.name ++ bracketed (map extent_text d.extents))

abbrev pub implicit_text : Bool → List ℕ
implicit_text true = statement (codes "IMPLICIT NONE")
implicit_text false = []

-- the lines of a unit
abbrev pub procedure_text : Procedure → List ℕ
procedure_text p = statement (codes "SUBROUTINE " ++ p.name ++ bracketed p.dummies) ++ implicit_text p.is_none ++ flat_map declaration_text p.declarations ++ code_text p.body ++ statement (codes "END")

-- the canonical text of a program: its units in order
abbrev pub text_of : List Procedure → List ℕ
text_of ps = flat_map procedure_text ps
