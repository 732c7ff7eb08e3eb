-- Blocks: the open blocks of a unit, and what an executable statement makes of them.
use Rattle.std.specs.Prelude.{ℕ, Bool, true, false, not, ◌==◌, ◌&&◌, List, [], ◌∷◌, ◌++◌, Option, Some, if◌then◌else◌}
use Rattle.adj_tree.specs.Code.{Test, Mark, Act, Code, choose, during, stop, step}
use Rattle.adj_tree.specs.Listed.{code_listed}
use Rattle.def_text.specs.Statement.{Range}
use Rattle.def_text.specs.Block.{loop_of}
use Rattle.def_text.specs.Form.{Form, simple, logical, opens_do, opens_while, end_do, go_on, opens_if, otherwise, otherwise_if, end_if}

-- statements in order, each with its line
abbrev pub Acts : Type 0
Acts = List (ℕ × Act)

-- the part of a DO or an IF whose statements are being read
pub data Part : Type 0 where
  -- the body of a DO, with the label of the DO where it has one, its range and its mark
  of_loop : Option ℕ → Range → Mark → Part
  -- the body of a DO WHILE
  of_while : Test → Part
  -- the statements behind IF
  of_if : Test → Part
  -- those behind ELSE, and the ones before it
  of_else : Test → Code → Part
  -- the IF that an ELSE IF is, and the statements before it
  of_chain : Test → Code → Part

-- an open block: the line of its DO or IF, the statements before that, and the part that is being read
pub record Block : Type 0 where
  pub line : ℕ
  pub before : Acts
  pub part : Part

-- the open blocks, the innermost first, and the statements of the innermost so far
pub record Nest : Type 0 where
  pub blocks : List Block
  pub acts : Acts

abbrev pub no_blocks : Nest
no_blocks = record { blocks = []; acts = [] }

-- the DO or IF whose last part has these statements
abbrev pub whole : Part → Code → Act
whole (of_loop label r mark) body = loop_of r body mark
whole (of_while c) body = during c body
whole (of_if c) body = choose c body stop
whole (of_else c first) body = choose c first body
whole (of_chain c first) body = choose c first body

-- a block ends: its DO or IF stands behind the statements before it
abbrev pub ended : Block → Acts → Acts
ended b acts = b.before ++ (b.line, whole b.part (code_listed acts)) ∷ []

-- the innermost block ends
abbrev pub close : List Block → Acts → Nest
close [] acts = record { blocks = []; acts = acts }
close (b ∷ bs) acts = record { blocks = bs; acts = ended b acts }

-- the innermost blocks end, as long as they are such
abbrev pub close_while : (Part → Bool) → List Block → Acts → Nest
close_while is_such [] acts = record { blocks = []; acts = acts }
close_while is_such (b ∷ bs) acts = if is_such b.part then close_while is_such bs (ended b acts) else record { blocks = b ∷ bs; acts = acts }

-- a block begins
abbrev pub begin : Nest → ℕ → Part → Nest
begin nest n part = record { blocks = record { line = n; before = nest.acts; part = part } ∷ nest.blocks; acts = [] }

-- the first part of an IF ends
abbrev pub turned : (Test → Code → Part) → Part → Acts → Part
turned make (of_if c) acts = make c (code_listed acts)
turned make part acts = part

-- the first part of the innermost IF ends, and another part of it begins
abbrev pub turn : (Test → Code → Part) → List Block → Acts → Nest
turn make [] acts = record { blocks = []; acts = acts }
turn make (b ∷ bs) acts = record { blocks = record { line = b.line; before = b.before; part = turned make b.part acts } ∷ bs; acts = [] }

-- a statement stands behind those of the innermost block
abbrev pub add : Nest → ℕ → Act → Nest
add nest n a = record { blocks = nest.blocks; acts = nest.acts ++ (n, a) ∷ [] }

abbrev pub is_chain : Part → Bool
is_chain (of_chain c first) = true
is_chain part = false

-- whether a part is the body of the loop of a label; 0 is none
abbrev pub is_labelled : ℕ → Part → Bool
is_labelled l (of_loop (Some k) r mark) = not (l == 0) && k == l
is_labelled l part = false

-- what an executable statement of this line and label makes of the blocks, where it may stand there
abbrev pub acted : Nest → ℕ → ℕ → Form → Nest
acted nest n l (simple a) = add nest n a
acted nest n l (logical c a) = add nest n (choose c (step n a stop) stop)
acted nest n l (opens_do label r mark) = begin nest n (of_loop label r mark)
acted nest n l (opens_while c) = begin nest n (of_while c)
acted nest n l end_do = close nest.blocks nest.acts
-- a CONTINUE ends each innermost loop of its label, one directly inside the other
acted nest n l go_on = close_while (is_labelled l) nest.blocks nest.acts
acted nest n l (opens_if c) = begin nest n (of_if c)
acted nest n l otherwise = turn of_else nest.blocks nest.acts
-- ELSE IF opens an IF in the other part of the innermost
acted nest n l (otherwise_if c) = begin (turn of_chain nest.blocks nest.acts) n (of_if c)
-- END IF ends the IF, and each whose ELSE IF it is
acted nest n l end_if = let rest : Nest = close nest.blocks nest.acts in close_while is_chain rest.blocks rest.acts
acted nest n l f = nest
