-- Machine: how an expression at the front of some lexemes is read: operands to the left wait on a stack.
use Rattle.std.specs.Prelude.{◌≡◌, ℕ, List, [], ◌∷◌, ◌++◌, length, Option, Some, None, option_map, Bool, true, false, if◌then◌else◌}
use Rattle.adj_tree.specs.Code.{Op, plus, minus, times, quot}
use Rattle.def_text.specs.declared.token.TokenKind.TheVariants.{Power, Star, Slash, Plus, Minus, Left, Right, Comma}
use Rattle.def_text.specs.Grammar.{Syntax, number, variable, negated, joined, raised, applied, Arguments, only, beside, takes}
use Rattle.def_text.specs.Lexeme.{Lexeme, Named, Digits, Mark}

-- what waits for its right operand, or for its next argument
pub data Frame (X : Type 0) : Type 0 where
  Group : Frame X
  Called : List ℕ → List X → Frame X
  Signed : Op → Frame X
  Added : Op → X → Frame X
  Multiplied : Op → X → Frame X
  Base : X → Frame X

-- what stands for the expressions while they are read
pub record Algebra (X : Type 0) : Type 0 where
  pub digits : List ℕ → X
  pub name : List ℕ → X
  pub opposite : X → X
  pub combined : Op → X → X → X
  pub powered : X → X → X
  pub application : List ℕ → List X → X

abbrev mutual
  -- what stands for an expression, and for each of some arguments
  pub value : {X : Type 0} → Algebra X → Syntax → X
  value alg (number ds) = alg.digits ds
  value alg (variable x) = alg.name x
  value alg (negated s) = alg.opposite (value alg s)
  value alg (joined op a b) = alg.combined op (value alg a) (value alg b)
  value alg (raised a b) = alg.powered (value alg a) (value alg b)
  value alg (applied x all) = alg.application x (values alg all)

  pub values : {X : Type 0} → Algebra X → Arguments → List X
  values alg (only s) = value alg s ∷ []
  values alg (beside front s) = values alg front ++ value alg s ∷ []

-- the algebra of the expressions themselves
unfoldable pub arguments_from : Arguments → List Syntax → Arguments
arguments_from front [] = front
arguments_from front (s ∷ ss) = arguments_from (beside front s) ss

unfoldable pub arguments_of : List Syntax → Arguments
arguments_of [] = only (number [])
arguments_of (s ∷ ss) = arguments_from (only s) ss

abbrev pub syntaxes : Algebra Syntax
syntaxes = record { digits = number; name = variable; opposite = negated; combined = joined; powered = raised; application = λ x all. applied x (arguments_of all) }

abbrev pub with_sign : {X : Type 0} → Algebra X → Op → X → X
with_sign alg minus x = alg.opposite x
with_sign alg _ x = x

-- the powers, the products and the sums that wait for their right operand are made
abbrev pub close_factor : {X : Type 0} → Algebra X → List (Frame X) → X → List (Frame X) × X
close_factor alg (Base a ∷ frames) x = close_factor alg frames (alg.powered a x)
close_factor alg frames x = (frames, x)

abbrev pub close_product : {X : Type 0} → Algebra X → List (Frame X) → X → List (Frame X) × X
close_product alg (Base a ∷ frames) x = close_product alg frames (alg.powered a x)
close_product alg (Multiplied op a ∷ frames) x = close_product alg frames (alg.combined op a x)
close_product alg frames x = (frames, x)

abbrev pub close_sum : {X : Type 0} → Algebra X → List (Frame X) → X → List (Frame X) × X
close_sum alg (Base a ∷ frames) x = close_sum alg frames (alg.powered a x)
close_sum alg (Multiplied op a ∷ frames) x = close_sum alg frames (alg.combined op a x)
close_sum alg (Added op a ∷ frames) x = close_sum alg frames (alg.combined op a x)
close_sum alg (Signed op ∷ frames) x = close_sum alg frames (with_sign alg op x)
close_sum alg frames x = (frames, x)

-- what stands to the left: nothing, a name that arguments may follow, or an operand
pub data Seen (X : Type 0) : Type 0 where
  Nothing : Seen X
  Callee : List ℕ → Seen X
  Operand : X → Seen X

abbrev pub State : Type 0 → Type 0
State X = List (Frame X) × Seen X

abbrev pub wanting : {X : Type 0} → List (Frame X) → State X
wanting frames = (frames, Nothing)

abbrev pub having : {X : Type 0} → List (Frame X) → X → State X
having frames x = (frames, Operand x)

-- a sign stands only where a sum begins
abbrev pub is_sum_start : {X : Type 0} → List (Frame X) → Bool
is_sum_start [] = true
is_sum_start (Group ∷ frames) = true
is_sum_start (Called x all ∷ frames) = true
is_sum_start _ = false

abbrev pub begin_sign : {X : Type 0} → Op → List (Frame X) → Option (State X)
begin_sign op frames = if is_sum_start frames then Some (wanting (Signed op ∷ frames)) else None

-- a lexeme where an operand is wanted
abbrev pub begin : {X : Type 0} → Algebra X → List (Frame X) → Lexeme → Option (State X)
begin alg frames (Named x) = Some (frames, Callee x)
begin alg frames (Digits ds) = Some (having frames (alg.digits ds))
begin alg frames (Mark Left) = Some (wanting (Group ∷ frames))
begin alg frames (Mark Plus) = begin_sign plus frames
begin alg frames (Mark Minus) = begin_sign minus frames
begin alg frames (Mark _) = None

-- a parenthesis is closed
abbrev pub end_group : {X : Type 0} → Algebra X → List (Frame X) × X → Option (State X)
end_group alg (Group ∷ frames, x) = Some (having frames x)
end_group alg (Called name all ∷ frames, x) = if takes name (length (all ++ x ∷ [])) then Some (having frames (alg.application name (all ++ x ∷ []))) else None
end_group alg (_, x) = None

abbrev pub next_argument : {X : Type 0} → List (Frame X) × X → Option (State X)
next_argument (Called name all ∷ frames, x) = Some (wanting (Called name (all ++ x ∷ []) ∷ frames))
next_argument (_, x) = None

abbrev pub add : {X : Type 0} → Op → List (Frame X) × X → State X
add op closed = wanting (Added op closed.1 ∷ closed.0)

abbrev pub multiply : {X : Type 0} → Op → List (Frame X) × X → State X
multiply op closed = wanting (Multiplied op closed.1 ∷ closed.0)

-- a lexeme behind an operand
abbrev pub go_on : {X : Type 0} → Algebra X → List (Frame X) → X → Lexeme → Option (State X)
go_on alg frames x (Mark Plus) = Some (add plus (close_sum alg frames x))
go_on alg frames x (Mark Minus) = Some (add minus (close_sum alg frames x))
go_on alg frames x (Mark Star) = Some (multiply times (close_product alg frames x))
go_on alg frames x (Mark Slash) = Some (multiply quot (close_product alg frames x))
go_on alg frames x (Mark Power) = Some (wanting (Base x ∷ frames))
go_on alg frames x (Mark Right) = end_group alg (close_sum alg frames x)
go_on alg frames x (Mark Comma) = next_argument (close_sum alg frames x)
go_on alg frames x _ = None

abbrev pub behind_name : {X : Type 0} → Algebra X → List (Frame X) → List ℕ → Lexeme → Option (State X)
behind_name alg frames name (Mark Left) = Some (wanting (Called name [] ∷ frames))
behind_name alg frames name w = go_on alg frames (alg.name name) w

abbrev pub step : {X : Type 0} → Algebra X → State X → Lexeme → Option (State X)
step alg (frames, Nothing) w = begin alg frames w
step alg (frames, Callee name) w = behind_name alg frames name w
step alg (frames, Operand x) w = go_on alg frames x w

abbrev pub whole : {X : Type 0} → List (Frame X) × X → Option X
whole ([], x) = Some x
whole (frame ∷ frames, x) = None

abbrev pub finish : {X : Type 0} → Algebra X → State X → Option X
finish alg (frames, Nothing) = None
finish alg (frames, Callee name) = whole (close_sum alg frames (alg.name name))
finish alg (frames, Operand x) = whole (close_sum alg frames x)

-- what may stand behind an expression: no name, no number and nothing that goes on with it
abbrev pub is_stop : Lexeme → Bool
is_stop (Named x) = false
is_stop (Digits ds) = false
is_stop (Mark Power) = false
is_stop (Mark Star) = false
is_stop (Mark Slash) = false
is_stop (Mark Plus) = false
is_stop (Mark Minus) = false
is_stop (Mark Left) = false
is_stop (Mark _) = true

abbrev pub Stops : List Lexeme → Type 0
Stops [] = Unit {0}
Stops (w ∷ ws) = is_stop w ≡ true

abbrev pub chosen : {A B : Type 0} → Option A → (A → Option B) → Option B → Option B
chosen None go stop = stop
chosen (Some x) go stop = go x

abbrev pub stopped : {X : Type 0} → Lexeme → List Lexeme → Option X → Option (X × List Lexeme)
stopped w ws found = if is_stop w then option_map (λ x. (x, w ∷ ws)) found else None

-- the longest expression at the front of the lexemes, and the lexemes behind it
unfoldable pub read : {X : Type 0} → Algebra X → State X → List Lexeme → Option (X × List Lexeme)
read alg s [] = option_map (λ x. (x, [])) (finish alg s)
read alg s (w ∷ ws) = chosen (step alg s w) (λ t. read alg t ws) (stopped w ws (finish alg s))
