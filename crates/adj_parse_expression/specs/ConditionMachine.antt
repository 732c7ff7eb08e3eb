-- ConditionMachine: how a condition at the front of some lexemes is read, over the machine of expressions.
use Rattle.std.specs.Prelude.{◌≡◌, List, [], ◌∷◌, Option, Some, None, option_map, option_and_then, Bool, true, false, if◌then◌else◌}
use Rattle.adj_tree.specs.Code.{Rel, is_less, is_most, is_same, is_other, is_greater, is_least}
use Rattle.def_text.specs.declared.token.TokenKind.{TokenKind}
use Rattle.def_text.specs.declared.token.TokenKind.TheVariants.{Left, Right, Comma, Equals, Lt, Le, Eq, Ne, Gt, Ge, Not, And, Or, Call}
use Rattle.def_text.specs.Grammar.{Syntax}
use Rattle.def_text.specs.Condition.{Condition, compared, denied, both, either}
use Rattle.def_text.specs.Machine.{Algebra, syntaxes, value, State, wanting, having, step, finish, chosen}
use Rattle.def_text.specs.Lexeme.{Lexeme, Mark}

-- what waits for its end, or for its right operand; an open parenthesis may turn out to be one of an expression
pub data Waiting (C : Type 0) : Type 0 where
  Opened : Waiting C
  Denied : Waiting C
  Anded : C → Waiting C
  Ored : C → Waiting C

-- what stands for the conditions while they are read, and for the expressions in them
pub record TestAlgebra (X C : Type 0) : Type 0 where
  pub terms : Algebra X
  pub relates : Rel → X → X → C
  pub denies : C → C
  pub conjoins : C → C → C
  pub disjoins : C → C → C

-- what stands for a condition
abbrev pub test_value : {X C : Type 0} → TestAlgebra X C → Condition → C
test_value alg (compared r a b) = alg.relates r (value alg.terms a) (value alg.terms b)
test_value alg (denied c) = alg.denies (test_value alg c)
test_value alg (both c d) = alg.conjoins (test_value alg c) (test_value alg d)
test_value alg (either c d) = alg.disjoins (test_value alg c) (test_value alg d)

-- the algebra of the conditions themselves
abbrev pub conditions : TestAlgebra Syntax Condition
conditions = record { terms = syntaxes; relates = compared; denies = denied; conjoins = both; disjoins = either }

-- what is being read: nothing yet, the left operand of a comparison or its right one; or a condition is whole
pub data Inside (X C : Type 0) : Type 0 where
  Fresh : Inside X C
  First : State X → Inside X C
  Second : Rel → X → State X → Inside X C
  Made : C → Inside X C

abbrev pub TestState : Type 0 → Type 0 → Type 0
TestState X C = List (Waiting C) × Inside X C

abbrev pub beginning : {X C : Type 0} → List (Waiting C) → TestState X C
beginning frames = (frames, Fresh)

abbrev pub made : {X C : Type 0} → List (Waiting C) × C → TestState X C
made p = (p.0, Made p.1)

-- the `.NOT.`, the `.AND.` and the `.OR.` that wait for their right operand are made
abbrev pub deny : {X C : Type 0} → TestAlgebra X C → List (Waiting C) → C → List (Waiting C) × C
deny alg (Denied ∷ frames) c = (frames, alg.denies c)
deny alg frames c = (frames, c)

abbrev pub conjoin : {X C : Type 0} → TestAlgebra X C → List (Waiting C) × C → List (Waiting C) × C
conjoin alg (Anded a ∷ frames, c) = (frames, alg.conjoins a c)
conjoin alg (frames, c) = (frames, c)

abbrev pub disjoin : {X C : Type 0} → TestAlgebra X C → List (Waiting C) × C → List (Waiting C) × C
disjoin alg (Ored a ∷ frames, c) = (frames, alg.disjoins a c)
disjoin alg (frames, c) = (frames, c)

abbrev pub close_all : {X C : Type 0} → TestAlgebra X C → List (Waiting C) × C → List (Waiting C) × C
close_all alg p = disjoin alg (conjoin alg p)

abbrev pub await_and : {X C : Type 0} → List (Waiting C) × C → TestState X C
await_and p = beginning (Anded p.1 ∷ p.0)

abbrev pub await_or : {X C : Type 0} → List (Waiting C) × C → TestState X C
await_or p = beginning (Ored p.1 ∷ p.0)

-- a parenthesis is closed behind a condition, or behind an expression
abbrev pub end_condition : {X C : Type 0} → TestAlgebra X C → List (Waiting C) × C → Option (TestState X C)
end_condition alg (Opened ∷ frames, c) = Some (made (deny alg frames c))
end_condition alg (_, c) = None

abbrev pub end_operand : {X C : Type 0} → List (Waiting C) → X → Option (TestState X C)
end_operand (Opened ∷ frames) x = Some (frames, First (having [] x))
end_operand _ x = None

-- a lexeme behind a condition
abbrev pub behind_condition : {X C : Type 0} → TestAlgebra X C → List (Waiting C) × C → Lexeme → Option (TestState X C)
behind_condition alg p (Mark And) = Some (await_and (conjoin alg p))
behind_condition alg p (Mark Or) = Some (await_or (close_all alg p))
behind_condition alg p (Mark Right) = end_condition alg (close_all alg p)
behind_condition alg p _ = None

abbrev pub relation_of : TokenKind → Option Rel
relation_of Lt = Some is_less
relation_of Le = Some is_most
relation_of Eq = Some is_same
relation_of Ne = Some is_other
relation_of Gt = Some is_greater
relation_of Ge = Some is_least
relation_of _ = None

-- a lexeme that doesn't go on with the left operand
abbrev pub behind_left : {X C : Type 0} → List (Waiting C) → Lexeme → X → Option (TestState X C)
behind_left frames (Mark Right) x = end_operand frames x
behind_left frames (Mark k) x = option_map (λ r. (frames, Second r x (wanting []))) (relation_of k)
behind_left frames _ x = None

-- `.NOT.` doesn't stand behind `.NOT.`
abbrev pub begin_not : {X C : Type 0} → List (Waiting C) → Option (TestState X C)
begin_not (Denied ∷ frames) = None
begin_not frames = Some (beginning (Denied ∷ frames))

-- a lexeme where a comparison, `.NOT.` or a parenthesis is wanted
abbrev pub begin_item : {X C : Type 0} → TestAlgebra X C → List (Waiting C) → Lexeme → Option (TestState X C)
begin_item alg frames (Mark Left) = Some (beginning (Opened ∷ frames))
begin_item alg frames (Mark Not) = begin_not frames
begin_item alg frames w = option_map (λ e. (frames, First e)) (step alg.terms (wanting []) w)

-- the comparison of the operand before and of what was read since
abbrev pub compare_with : {X C : Type 0} → TestAlgebra X C → List (Waiting C) → Rel → X → X → List (Waiting C) × C
compare_with alg frames r a b = deny alg frames (alg.relates r a b)

-- each lexeme goes on with the expression where it can
abbrev pub advance : {X C : Type 0} → TestAlgebra X C → TestState X C → Lexeme → Option (TestState X C)
advance alg (frames, Fresh) w = begin_item alg frames w
advance alg (frames, First e) w = chosen (step alg.terms e w) (λ t. Some (frames, First t)) (option_and_then (behind_left frames w) (finish alg.terms e))
advance alg (frames, Second r a e) w = chosen (step alg.terms e w) (λ t. Some (frames, Second r a t)) (option_and_then (λ b. behind_condition alg (compare_with alg frames r a b) w) (finish alg.terms e))
advance alg (frames, Made c) w = behind_condition alg (frames, c) w

-- the condition, where no parenthesis is open
abbrev pub alone : {C : Type 0} → List (Waiting C) × C → Option C
alone ([], c) = Some c
alone (frame ∷ frames, c) = None

abbrev pub conclude : {X C : Type 0} → TestAlgebra X C → TestState X C → Option C
conclude alg (frames, Fresh) = None
conclude alg (frames, First e) = None
conclude alg (frames, Second r a e) = option_and_then (λ b. alone (close_all alg (compare_with alg frames r a b))) (finish alg.terms e)
conclude alg (frames, Made c) = alone (close_all alg (frames, c))

-- what may stand behind a condition
abbrev pub is_end : Lexeme → Bool
is_end (Mark Right) = true
is_end (Mark Comma) = true
is_end (Mark Equals) = true
is_end (Mark Not) = true
is_end (Mark Call) = true
is_end _ = false

abbrev pub Ends : List Lexeme → Type 0
Ends [] = Unit {0}
Ends (w ∷ ws) = is_end w ≡ true

abbrev pub ended : {C : Type 0} → Lexeme → List Lexeme → Option C → Option (C × List Lexeme)
ended w ws found = if is_end w then option_map (λ c. (c, w ∷ ws)) found else None

-- the longest condition at the front of the lexemes, and the lexemes behind it
unfoldable pub read_test : {X C : Type 0} → TestAlgebra X C → TestState X C → List Lexeme → Option (C × List Lexeme)
read_test alg s [] = option_map (λ c. (c, [])) (conclude alg s)
read_test alg s (w ∷ ws) = chosen (advance alg s w) (λ t. read_test alg t ws) (ended w ws (conclude alg s))
