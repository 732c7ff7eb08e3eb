-- Said: what the lexemes of a statement say, or what is wrong with its expressions.
use Rattle.std.specs.Prelude.{ℕ, ◌^◌, pos, nat_le, nat_lt, Bool, false, ◌||◌, List, map, Option, Some, None, option_map, Result}
use Rattle.std.specs.List.{list_any}
use Rattle.adj_tree.specs.Code.{plain, Term, Terms, lit, none, Mark, Act, assign, Extent, fixed, given}
use Rattle.def_text.specs.Char.{number_of}
use Rattle.def_text.specs.Condition.{Condition, test}
use Rattle.def_text.specs.Form.{Form, integers, common, simple, logical, opens_do, opens_while, opens_if, otherwise_if}
use Rattle.def_text.specs.Grammar.{Syntax, Arguments, only, beside, with_both, tree, trees_before}
use Rattle.def_text.specs.Statement.{Item, called, Range}
use Rattle.def_text.specs.Lexeme.{Lexeme}
use Rattle.def_text.specs.declared.stated.Kind.{Kind}
use Rattle.adj_parse_expression.specs.Judged.{has_large, any_large, depth, judged_by, test_large, test_depth}
use Rattle.adj_parse_expression.specs.declared.flaw.Flaw.{Flaw}
use Rattle.adj_parse_statement.specs.Phrase.{Deed, assigns, calls, Size, numbered, named, Declared, Bounds, Phrase, plainly, declares, shares, does, guards, repeats, goes_while, opens, turns}
use Rattle.adj_parse_statement.specs.Phrases.{phrase_of}

-- whether a literal of the expressions of a list, of a deed, of an item, of bounds or of a phrase is above the greatest word
abbrev pub list_large : Option Arguments → Bool
list_large None = false
list_large (Some all) = any_large all

abbrev pub deed_large : Deed → Bool
deed_large (assigns p e) = list_large p.list || has_large e
deed_large (calls c) = list_large c.list

abbrev pub size_large : Size → Bool
size_large (numbered digits) = nat_le (2 ^ 63) (number_of digits)
size_large (named x) = false

abbrev pub item_large : Declared → Bool
item_large i = list_any size_large i.sizes

abbrev pub step_large : Option Syntax → Bool
step_large None = false
step_large (Some c) = has_large c

abbrev pub bounds_large : Bounds → Bool
bounds_large b = (has_large b.from || has_large b.to) || step_large b.by

abbrev pub phrase_large : Phrase → Bool
phrase_large (plainly f) = false
phrase_large (declares is) = list_any item_large is
phrase_large (shares b is) = list_any item_large is
phrase_large (does d) = deed_large d
phrase_large (guards c d) = test_large c || deed_large d
phrase_large (repeats label b) = bounds_large b
phrase_large (goes_while c) = test_large c
phrase_large (opens c) = test_large c
phrase_large (turns c) = test_large c

-- whether an expression or a condition is deeper than the limit; the depth of each counts from 1
abbrev pub any_deep : ℕ → Arguments → Bool
any_deep limit (only s) = nat_lt limit (depth s)
any_deep limit (beside front s) = any_deep limit front || nat_lt limit (depth s)

abbrev pub list_deep : ℕ → Option Arguments → Bool
list_deep limit None = false
list_deep limit (Some all) = any_deep limit all

abbrev pub deed_deep : ℕ → Deed → Bool
deed_deep limit (assigns p e) = list_deep limit p.list || nat_lt limit (depth e)
deed_deep limit (calls c) = list_deep limit c.list

abbrev pub step_deep : ℕ → Option Syntax → Bool
step_deep limit None = false
step_deep limit (Some c) = nat_lt limit (depth c)

abbrev pub bounds_deep : ℕ → Bounds → Bool
bounds_deep limit b = (nat_lt limit (depth b.from) || nat_lt limit (depth b.to)) || step_deep limit b.by

abbrev pub test_deep : ℕ → Condition → Bool
test_deep limit c = nat_lt limit (test_depth c)

abbrev pub phrase_deep : ℕ → Phrase → Bool
phrase_deep limit (plainly f) = false
phrase_deep limit (declares is) = false
phrase_deep limit (shares b is) = false
phrase_deep limit (does d) = deed_deep limit d
phrase_deep limit (guards c d) = test_deep limit c || deed_deep limit d
phrase_deep limit (repeats label b) = bounds_deep limit b
phrase_deep limit (goes_while c) = test_deep limit c
phrase_deep limit (opens c) = test_deep limit c
phrase_deep limit (turns c) = test_deep limit c

-- the trees of the expressions of a list, where each literal exponent in them is one
abbrev pub list_trees : Option Arguments → Option Terms
list_trees None = Some none
list_trees (Some all) = trees_before all none

abbrev pub act : Deed → Option Act
act (assigns p e) = with_both (λ ts t. Some (assign (plain p.name) ts t)) (list_trees p.list) (tree e)
act (calls c) = option_map (called c.name) (list_trees c.list)

abbrev pub extent : Size → Extent
extent (numbered digits) = fixed (pos (number_of digits))
extent (named x) = given x

abbrev pub item : Declared → Item
item i = record { name = i.name; extents = map extent i.sizes }

-- a loop without a step steps by 1
abbrev pub step_tree : Option Syntax → Option Term
step_tree None = Some (lit (pos 1))
step_tree (Some c) = tree c

abbrev pub range : Bounds → Option Range
range b =
    with_both (λ (ends : Term × Term) c. Some (record { counter = plain b.counter; from = ends.0; to = ends.1; by = c }))
    (with_both (λ from to. Some (from, to)) (tree b.from) (tree b.to)) (step_tree b.by)

-- what a phrase says, with the mark of the directive before it, where each exponent is one
abbrev pub form : Mark → Phrase → Option Form
form mark (plainly f) = Some f
form mark (declares is) = Some (integers (map item is))
form mark (shares b is) = Some (common b (map item is))
form mark (does d) = option_map simple (act d)
form mark (guards c d) = with_both (λ t a. Some (logical t a)) (test c) (act d)
form mark (repeats label b) = option_map (λ r. opens_do (option_map number_of label) r mark) (range b)
form mark (goes_while c) = option_map opens_while (test c)
form mark (opens c) = option_map opens_if (test c)
form mark (turns c) = option_map otherwise_if (test c)

-- a phrase's form, or what is wrong with its expressions
abbrev pub judged_phrase : ℕ → Mark → Phrase → Result Form Flaw
judged_phrase limit mark p = judged_by (phrase_large p) (phrase_deep limit p) (form mark p)

-- a statement of a class with these lexemes behind its keyword and the mark of the directive before it; none where the lexemes don't have the form of the class
unfoldable pub said : ℕ → Mark → Kind → List Lexeme → Option (Result Form Flaw)
said limit mark kind lexemes = option_map (judged_phrase limit mark) (phrase_of kind lexemes)
