-- Depths: how deep expressions, conditions and statements are, and which of their flaws comes first.
use Rattle.std.specs.Prelude.{◌≡◌, true, false, [], codes, Some, None, Ok, Err}
use Rattle.adj_tree.specs.Code.{plus, minus, is_less, neg, compare, pow}
use Rattle.def_text.specs.Condition.{Condition, compared, denied, both, either}
use Rattle.def_text.specs.Form.{go_on}
use Rattle.def_text.specs.Grammar.{Syntax, number, variable, negated, joined, raised, applied, only, beside, count_of, signed as with_sign}
use Rattle.adj_parse_expression.specs.Judged.{depth, test_depth, judged, judged_test}
use Rattle.adj_parse_expression.specs.declared.flaw.Flaw.TheVariants.{Large, Deep, Exponent}
use Rattle.adj_parse_statement.specs.Phrase.{Deed, assigns, calls, Bounds, plainly, declares, does, guards, repeats, goes_while, opens, turns}
use Rattle.adj_parse_statement.specs.Said.{any_deep, list_deep, deed_deep, step_deep, bounds_deep, phrase_deep}
use Rattle.law_examples.specs.Texts.{use_of, name_x, name_i}

-- X, of depth 1, and -X, of depth 2
abbrev pub flat : Syntax
flat = variable name_x

abbrev pub signed : Syntax
signed = negated flat

abbrev pub large : Syntax
large = number (codes "9223372036854775808")

-- a literal exponent is a number and no part
abbrev pub Depths : Type 0
Depths =
    (depth (number (codes "12")) ≡ 1) × (depth flat ≡ 1) × (depth signed ≡ 2) × (depth (negated signed) ≡ 3)
    × (depth (joined plus flat flat) ≡ 2) × (depth (joined plus signed flat) ≡ 3) × (depth (joined plus flat signed) ≡ 3)
    × (depth (raised flat (number (codes "2"))) ≡ 2) × (depth (raised signed (number (codes "2"))) ≡ 3) × (depth (raised flat (negated (negated (number (codes "2"))))) ≡ 2)
    × (depth (raised flat flat) ≡ 2) × (depth (raised signed flat) ≡ 3) × (depth (raised flat signed) ≡ 3)
    × (depth (applied name_x (only flat)) ≡ 2) × (depth (applied name_x (only signed)) ≡ 3) × (depth (applied name_x (beside (only signed) flat)) ≡ 3) × (depth (applied name_x (beside (only flat) signed)) ≡ 3)

-- how many arguments there are, and what a sign makes of an expression
abbrev pub Counts : Type 0
Counts = (with_sign minus flat ≡ signed) × (with_sign plus flat ≡ flat) × (count_of (only signed) ≡ 1) × (count_of (beside (only flat) signed) ≡ 2) × (count_of (beside (beside (only flat) flat) flat) ≡ 3)

-- X.LT.X
abbrev pub test : Condition
test = compared is_less flat flat

abbrev pub TestDepths : Type 0
TestDepths =
    (test_depth test ≡ 2) × (test_depth (compared is_less signed flat) ≡ 3) × (test_depth (compared is_less flat signed) ≡ 3) × (test_depth (denied test) ≡ 3)
    × (test_depth (both test test) ≡ 3) × (test_depth (both (denied test) test) ≡ 4) × (test_depth (both test (denied test)) ≡ 4)
    × (test_depth (either test test) ≡ 3) × (test_depth (either (denied test) test) ≡ 4) × (test_depth (either test (denied test)) ≡ 4)

-- a literal that is too large comes before a depth past the limit, and that before a bad exponent
abbrev pub Flaws : Type 0
Flaws =
    (judged 2 signed ≡ Ok (neg (use_of name_x))) × (judged 1 signed ≡ Err Deep) × (judged 1 (negated large) ≡ Err Large) × (judged 2 (negated large) ≡ Err Large)
    × (judged 2 (raised flat (number (codes "63"))) ≡ Ok (pow (use_of name_x) 63)) × (judged 2 (raised flat (number (codes "64"))) ≡ Err Exponent) × (judged 1 (raised flat (number (codes "64"))) ≡ Err Deep) × (judged 1 (raised flat large) ≡ Err Large)
    × (judged_test 2 test ≡ Ok (compare is_less (use_of name_x) (use_of name_x))) × (judged_test 1 test ≡ Err Deep) × (judged_test 1 (compared is_less flat large) ≡ Err Large) × (judged_test 3 (compared is_less flat (raised flat (number (codes "64")))) ≡ Err Exponent)

-- X(X)=e and CALL X(..), and a loop with these bounds
abbrev pub setting : Syntax → Syntax → Deed
setting a e = assigns (record { name = name_x; list = Some (only a) }) e

abbrev pub calling : Syntax → Syntax → Deed
calling a b = calls (record { name = name_x; list = Some (beside (only a) b) })

abbrev pub bounds : Syntax → Syntax → Syntax → Bounds
bounds a b c = record { counter = name_i; from = a; to = b; by = Some c }

-- what is deeper than 1, or than 2 where there is a condition
abbrev pub DeepStatements : Type 0
DeepStatements =
    (any_deep 1 (only flat) ≡ false) × (any_deep 1 (only signed) ≡ true) × (any_deep 2 (only signed) ≡ false) × (any_deep 1 (beside (only signed) flat) ≡ true) × (any_deep 1 (beside (only flat) signed) ≡ true) × (any_deep 1 (beside (only flat) flat) ≡ false)
    × (list_deep 1 None ≡ false) × (list_deep 1 (Some (only signed)) ≡ true) × (step_deep 1 None ≡ false) × (step_deep 1 (Some signed) ≡ true) × (step_deep 1 (Some flat) ≡ false)
    × (deed_deep 1 (setting flat flat) ≡ false) × (deed_deep 1 (setting signed flat) ≡ true) × (deed_deep 1 (setting flat signed) ≡ true) × (deed_deep 1 (calling flat flat) ≡ false) × (deed_deep 1 (calling flat signed) ≡ true) × (deed_deep 1 (calls (record { name = name_x; list = None })) ≡ false)
    × (bounds_deep 1 (bounds flat flat flat) ≡ false) × (bounds_deep 1 (bounds signed flat flat) ≡ true) × (bounds_deep 1 (bounds flat signed flat) ≡ true) × (bounds_deep 1 (bounds flat flat signed) ≡ true) × (bounds_deep 1 (record { counter = name_i; from = flat; to = flat; by = None }) ≡ false)
    × (phrase_deep 0 (plainly go_on) ≡ false) × (phrase_deep 0 (declares []) ≡ false) × (phrase_deep 1 (does (setting flat signed)) ≡ true) × (phrase_deep 1 (does (setting flat flat)) ≡ false)
    × (phrase_deep 2 (guards test (setting flat flat)) ≡ false) × (phrase_deep 1 (guards test (setting flat flat)) ≡ true) × (phrase_deep 2 (guards test (setting flat (negated signed))) ≡ true)
    × (phrase_deep 1 (repeats None (bounds flat flat signed)) ≡ true) × (phrase_deep 1 (repeats None (bounds flat flat flat)) ≡ false)
    × (phrase_deep 1 (goes_while test) ≡ true) × (phrase_deep 2 (goes_while test) ≡ false) × (phrase_deep 1 (opens test) ≡ true) × (phrase_deep 2 (opens test) ≡ false) × (phrase_deep 1 (turns test) ≡ true) × (phrase_deep 2 (turns test) ≡ false)
