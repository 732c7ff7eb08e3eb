-- View: what clauses see of what a statement says.
use Rattle.std.specs.Prelude.{ℕ, List, map, Option, option_map}
use Rattle.adj_tree.specs.Code as code
use Rattle.adj_tree.specs.Code.{Terms, plain}
use Rattle.adj_tree.specs.View.{term_of, terms_of, test_of, act_of, extent_of}
use Rattle.adj_tree.specs.declared.expr.Place.{Place}
use Rattle.def_text.specs.Char.{number_of}
use Rattle.def_text.specs.Statement as statement
use Rattle.def_text.specs.Form.{Form, subroutine, implicit_none, integers, common, simple, logical, opens_do, opens_while, end_do, go_on, opens_if, otherwise, otherwise_if, end_if, leaves, ends}
use Rattle.adj_parse_statement.specs.declared.label.Label.{Label}
use Rattle.adj_parse_statement.specs.declared.label.Label.TheVariants.{Short, Long}
use Rattle.adj_parse_statement.specs.declared.content.Item.{Item}
use Rattle.adj_parse_statement.specs.declared.content.Range.{Range}
use Rattle.adj_parse_statement.specs.declared.content.Said.{Said}
use Rattle.adj_parse_statement.specs.declared.content.Said.TheVariants.{Subroutine, ImplicitNone, Integers, Common, Simple, Guarded, Do, While, EndDo, Continue, If, Else, ElseIf, EndIf, Return, End}

-- the number that a label is
abbrev pub label_of : Label → ℕ
label_of (Short l) = l
label_of (Long l) = number_of l.digits

-- a place: its name and its subscripts
abbrev pub place_seen : Place → List ℕ × Terms
place_seen p = (p.name, terms_of p.subs)

abbrev pub item_of : Item → statement.Item
item_of i = record { name = i.name; extents = map extent_of i.extents }

abbrev pub range_of : Range → statement.Range
range_of r = record { counter = plain r.counter; from = term_of r.from.value; to = term_of r.to.value; by = term_of r.by.value }

-- a block with its items
abbrev pub InBlock : Type 0
InBlock = List ℕ × List statement.Item

-- a label with a range
abbrev pub loop_seen : Option Label × Range → Option ℕ × statement.Range
loop_seen p = (option_map label_of p.0, range_of p.1)

-- what a statement says, with the mark of the directive before it
abbrev pub form_of : code.Mark → Said → Form
form_of mark (Subroutine x dummies) = subroutine x dummies
form_of mark ImplicitNone = implicit_none
form_of mark (Integers is) = integers (map item_of is.items)
form_of mark (Common b is) = common b (map item_of is.items)
form_of mark (Simple a) = simple (act_of a)
form_of mark (Guarded c a) = logical (test_of c) (act_of a)
form_of mark (Do l r) = opens_do (option_map label_of l) (range_of r) mark
form_of mark (While c) = opens_while (test_of c)
form_of mark EndDo = end_do
form_of mark Continue = go_on
form_of mark (If c) = opens_if (test_of c)
form_of mark Else = otherwise
form_of mark (ElseIf c) = otherwise_if (test_of c)
form_of mark EndIf = end_if
form_of mark Return = leaves
form_of mark End = ends
