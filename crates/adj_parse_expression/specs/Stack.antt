-- Stack: the frames of the code without where they lie in memory, the newest first, and what one step makes of them.
use Rattle.std.specs.Prelude.{◌≡◌, Bool, true, false, List, map, reverse, Option, Some, None}
use Rattle.adj_tree.specs.View.{op_of}
use Rattle.def_text.specs.Lexeme.{Lexeme}
use Rattle.def_text.specs.Machine as machine
use Rattle.def_text.specs.Machine.{Algebra, State, close_sum, step}
use Rattle.adj_parse_expression.specs.declared.frame.Frame.{Frame}
use Rattle.adj_parse_expression.specs.declared.frame.Frame.TheVariants as frames
use Rattle.adj_parse_expression.specs.declared.frame.Seen.{Seen}
use Rattle.adj_parse_expression.specs.declared.frame.Seen.TheVariants as seens
use Rattle.adj_parse_expression.specs.declared.machine.Stepped.{Stepped}
use Rattle.adj_parse_expression.specs.declared.machine.Stepped.TheVariants.{On, Stuck}
use Rattle.adj_parse_expression.specs.Partial.{Partial, operand_of}

abbrev pub frame_of : Frame → machine.Frame Partial
frame_of frames.Group = machine.Group
frame_of (frames.Called x all) = machine.Called x (map operand_of all.items)
frame_of (frames.Signed op) = machine.Signed (op_of op)
frame_of (frames.Added op x) = machine.Added (op_of op) (operand_of x)
frame_of (frames.Multiplied op x) = machine.Multiplied (op_of op) (operand_of x)
frame_of (frames.Base x) = machine.Base (operand_of x)

-- whether a frame waits for a parenthesis, whether it is a product's, and what an operand comes to with what waits for it
abbrev pub is_open : {X : Type 0} → machine.Frame X → Bool
is_open machine.Group = true
is_open (machine.Called x all) = true
is_open _ = false

abbrev pub is_tight : {X : Type 0} → machine.Frame X → Bool
is_tight (machine.Base a) = true
is_tight (machine.Multiplied op a) = true
is_tight _ = false

abbrev pub bound : {X : Type 0} → Algebra X → machine.Frame X → X → X
bound alg machine.Group x = x
bound alg (machine.Called name all) x = x
bound alg (machine.Signed op) x = machine.with_sign alg op x
bound alg (machine.Added op a) x = alg.combined op a x
bound alg (machine.Multiplied op a) x = alg.combined op a x
bound alg (machine.Base a) x = alg.powered a x

-- what a view shows, the newest first
unfoldable pub stacked : {A B : Type 0} → (A → B) → List A → List B
stacked view items = reverse (map view items)

abbrev pub stack_of : List Frame → List (machine.Frame Partial)
stack_of items = stacked frame_of items

abbrev pub seen_of : Seen → machine.Seen Partial
seen_of seens.Nothing = machine.Nothing
seen_of (seens.Callee x) = machine.Callee x
seen_of (seens.Operand x) = machine.Operand (operand_of x)

-- the frames that are left open and the operand behind them, once all sums are made
abbrev pub closed : {X : Type 0} → Algebra X → State X → Option (List (machine.Frame X) × X)
closed alg (frames, machine.Nothing) = None
closed alg (frames, machine.Callee x) = Some (close_sum alg frames (alg.name x))
closed alg (frames, machine.Operand x) = Some (close_sum alg frames x)

-- the next state is as given; or there is none, and what the operands come to is as given
abbrev pub Makes : Algebra Partial → Option (State Partial) → Option (List (machine.Frame Partial) × Partial) → List Frame → Stepped → Type 0
Makes alg next before frames (On seen) = next ≡ Some (stack_of frames, seen_of seen)
Makes alg next before frames (Stuck seen) = (next ≡ None) × (closed alg (stack_of frames, seen_of seen) ≡ before)

-- the step is made; or there is none, and what the operands come to stays the same
abbrev pub Steps : Algebra Partial → State Partial → Lexeme → List Frame → Stepped → Type 0
Steps alg s w frames stepped = Makes alg (step alg s w) (closed alg s) frames stepped
