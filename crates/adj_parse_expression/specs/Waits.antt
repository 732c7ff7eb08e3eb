-- Waits: what waits in the code without where it lies in memory, the newest first, and what one lexeme makes of it.
use Rattle.std.specs.Prelude.{◌≡◌, ℕ, List, Option, Some, None, option_map}
use Rattle.adj_tree.specs.View.{rel_of}
use Rattle.def_text.specs.Lexeme.{Lexeme}
use Rattle.def_text.specs.Machine.{State}
use Rattle.adj_parse_expression.specs.declared.inside.Inside.{Inside}
use Rattle.adj_parse_expression.specs.declared.inside.Inside.TheVariants as insides
use Rattle.adj_parse_expression.specs.declared.inside.Reading.{Reading}
use Rattle.adj_parse_expression.specs.declared.inside.Comparison.{Comparison}
use Rattle.adj_parse_expression.specs.declared.inside.Advanced.{Advanced}
use Rattle.adj_parse_expression.specs.declared.inside.Advanced.TheVariants.{On, Stuck}
use Rattle.adj_parse_expression.specs.declared.waiting.Waiting.{Waiting}
use Rattle.adj_parse_expression.specs.declared.waiting.Waiting.TheVariants as waitings
use Rattle.adj_parse_expression.specs.ConditionMachine as machine
use Rattle.adj_parse_expression.specs.ConditionMachine.{TestState, advance, conclude}
use Rattle.adj_parse_expression.specs.Partial.{Partial, operand_of}
use Rattle.adj_parse_expression.specs.PartialCondition.{PartialTest, test_algebra, proposition_of}
use Rattle.adj_parse_expression.specs.Stack.{stacked, stack_of, seen_of}

abbrev pub waiting_of : Waiting → machine.Waiting PartialTest
waiting_of waitings.Opened = machine.Opened
waiting_of waitings.Denied = machine.Denied
waiting_of (waitings.Anded c) = machine.Anded (proposition_of c)
waiting_of (waitings.Ored c) = machine.Ored (proposition_of c)

abbrev pub waits_of : List Waiting → List (machine.Waiting PartialTest)
waits_of items = stacked waiting_of items

abbrev pub reading_of : Reading → State Partial
reading_of r = (stack_of r.frames.items, seen_of r.seen)

abbrev pub comparison_of : Comparison → machine.Inside Partial PartialTest
comparison_of c = machine.Second (rel_of c.rel) (operand_of c.left) (reading_of c.right)

abbrev pub inside_of : Inside → machine.Inside Partial PartialTest
inside_of insides.Fresh = machine.Fresh
inside_of (insides.First left) = machine.First (reading_of left)
inside_of (insides.Second c) = comparison_of c
inside_of (insides.Made c) = machine.Made (proposition_of c)

-- the step is made; or there is none, and the condition that is whole here is found, if there is one
abbrev pub Turns : Option (TestState Partial PartialTest) → Option PartialTest → List Waiting → Advanced → Type 0
Turns step whole waits (On inside) = step ≡ Some (waits_of waits, inside_of inside)
Turns step whole waits (Stuck found) = (step ≡ None) × (option_map proposition_of found ≡ whole)

-- what a lexeme makes of a state
abbrev pub Advances : ℕ → TestState Partial PartialTest → Lexeme → List Waiting → Advanced → Type 0
Advances limit s w waits next = Turns (advance (test_algebra limit) s w) (conclude (test_algebra limit) s) waits next
