-- What a statement says fits where none of its literals is above the greatest word.
use Rattle.std.proofs.Common.{◌≡◌, ℕ, ◌<◌, ◌^◌, pos, Bool, true, false, List, [], ◌∷◌, map, Option, Some, None, option_map, Ok, refl, subst, arith}
use Rattle.std.proofs.lemmas.Bool.{leb-false, or_parts}
use Rattle.std.specs.Prelude.{◌||◌}
use Rattle.std.specs.List.{All, list_any}
use Rattle.adj_tree.specs.Code.{Term, Terms, lit, none, Mark, Act, assign, plain}
use Rattle.def_text.specs.Char.{number_of}
use Rattle.def_text.specs.Condition.{test}
use Rattle.def_text.specs.Fits.{FitsTerm, FitsTerms, FitsAct, FitsExtent}
use Rattle.def_text.specs.Form.{Form, subroutine, implicit_none, integers, common, simple, logical, opens_do, opens_while, end_do, go_on, opens_if, otherwise, otherwise_if, end_if, leaves, ends}
use Rattle.def_text.specs.Grammar.{Syntax, Arguments, with_both, tree}
use Rattle.def_text.specs.Statement.{called, Range}
use Rattle.def_text.specs.Lexeme.{Lexeme}
use Rattle.def_text.specs.declared.stated.Kind.{Kind}
use Rattle.def_text.proofs.FormWritten.{all_nil, all_cons}
use Rattle.def_text.proofs.Parts.{map_some, both_some}
use Rattle.adj_parse_expression.specs.Judged.{has_large, test_large, judged_by}
use Rattle.adj_parse_statement.specs.Phrase as phrases
use Rattle.adj_parse_statement.specs.Phrase.{Deed, assigns, calls, Size, numbered, named, Declared, Bounds, Phrase, plainly, declares, does, guards, repeats, opens, turns, SaysDo, Says}
use Rattle.adj_parse_statement.specs.FormFits.{FitsItems, FitsForm}
use Rattle.adj_parse_statement.specs.Said.{list_large, deed_large, size_large, item_large, step_large, bounds_large, phrase_large, list_trees, act, extent, item, step_tree, range, form, phrase_deep, judged_phrase, said}
use Rattle.adj_parse_statement.proofs.TermsFit.{tree_fits, trees_fit, test_fits, called_fits}
use Rattle.adj_parse_statement.specs.Phrases.{phrase_of}
use Rattle.adj_parse_statement.proofs.PhraseSound.{phrase_said}

list_fits : (o : Option Arguments) (ts : Terms) → list_large o ≡ false → list_trees o ≡ Some ts → FitsTerms ts
list_fits None ts h e = let same : none ≡ ts = cc in subst FitsTerms same tt
list_fits (Some all) ts h e = trees_fit all none ts h tt e

deed_fits : (d : Deed) (a : Act) → deed_large d ≡ false → act d ≡ Some a → FitsAct a
deed_fits (assigns p s) a h e =
    let n = or_parts (list_large p.list) (has_large s) h in
    let r = both_some (λ ts t. assign (plain p.name) ts t) (list_trees p.list) (tree s) a e in
    subst FitsAct r.4 (list_fits p.list r.0 n.0 r.2, tree_fits s r.1 n.1 r.3)
deed_fits (calls c) a h e =
    let r = map_some (called c.name) (list_trees c.list) a e in
    subst FitsAct r.2 (called_fits c.name r.0 (list_fits c.list r.0 h r.1))

size_fits : (s : Size) → size_large s ≡ false → FitsExtent (extent s)
size_fits (numbered digits) h = leb-false (2 ^ 63) (number_of digits) h
size_fits (named x) h = tt

sizes_fit : (ss : List Size) → list_any size_large ss ≡ false → All FitsExtent (map extent ss)
sizes_fit [] h = all_nil FitsExtent
sizes_fit (s ∷ ss) h = let n = or_parts (size_large s) (list_any size_large ss) h in all_cons FitsExtent (extent s) (map extent ss) (size_fits s n.0) (sizes_fit ss n.1)

items_fit : (is : List Declared) → list_any item_large is ≡ false → FitsItems (map item is)
items_fit [] h = tt
items_fit (i ∷ is) h = let n = or_parts (item_large i) (list_any item_large is) h in (sizes_fit i.sizes n.0, items_fit is n.1)

step_fits : (o : Option Syntax) (t : Term) → step_large o ≡ false → step_tree o ≡ Some t → FitsTerm t
step_fits None t h e = let one : 1 < 2 ^ 63 = omega arith in let same : lit (pos 1) ≡ t = cc in subst FitsTerm same one
step_fits (Some s) t h e = tree_fits s t h e

abbrev RangeFits : Range → Type 0
RangeFits r = FitsTerm r.from × FitsTerm r.to × FitsTerm r.by

range_fits : (b : Bounds) (r : Range) → bounds_large b ≡ false → range b ≡ Some r → RangeFits r
range_fits b r h e =
    let whole : Term × Term → Term → Range = λ ends c. record { counter = plain b.counter; from = ends.0; to = ends.1; by = c } in
    let pair : Term → Term → Term × Term = λ from to. (from, to) in
    let all = or_parts (has_large b.from || has_large b.to) (step_large b.by) h in
    let ends = or_parts (has_large b.from) (has_large b.to) all.0 in
    let q = both_some whole (with_both (λ from to. Some (from, to)) (tree b.from) (tree b.to)) (step_tree b.by) r e in
    let w = both_some pair (tree b.from) (tree b.to) q.0 q.2 in
    let fit : RangeFits (whole (w.0, w.1) q.1) = (tree_fits b.from w.0 ends.0 w.2, tree_fits b.to w.1 ends.1 w.3, step_fits b.by q.1 all.1 q.3) in
    subst RangeFits q.4 (subst (λ (x : Term × Term). RangeFits (whole x q.1)) w.4 fit)

loop_fits : (label : Option (List ℕ)) (b : Bounds) (mark : Mark) (f : Form) → bounds_large b ≡ false → form mark (repeats label b) ≡ Some f → FitsForm f
loop_fits label b mark f h e = let r = map_some (λ r. opens_do (option_map number_of label) r mark) (range b) f e in subst FitsForm r.2 (range_fits b r.0 h r.1)

do_fits : {ws : List Lexeme} {p : Phrase} → SaysDo ws p → (mark : Mark) (f : Form) → phrase_large p ≡ false → form mark p ≡ Some f → FitsForm f
do_fits (phrases.SaysDo.unlabelled {b = b} d) mark f h e = loop_fits None b mark f h e
do_fits (phrases.SaysDo.labelled {digits = digits} {b = b} d) mark f h e = loop_fits (Some digits) b mark f h e
do_fits (phrases.SaysDo.labelled_comma {digits = digits} {b = b} d) mark f h e = loop_fits (Some digits) b mark f h e

form_is : (f g : Form) → Some f ≡ Some g → FitsForm f → FitsForm g
form_is f g e h = let same : f ≡ g = cc in subst FitsForm same h

-- a phrase of a class has a form that fits
pub phrase_fits : {kind : Kind} {ws : List Lexeme} {p : Phrase} → Says kind ws p → (mark : Mark) (f : Form) → phrase_large p ≡ false → form mark p ≡ Some f → FitsForm f
phrase_fits (phrases.Says.heading {x = x} {dummies = dummies} d) mark f h e = form_is (subroutine x dummies) f e tt
phrase_fits phrases.Says.implicit mark f h e = form_is implicit_none f e tt
phrase_fits (phrases.Says.declaration {is = is} d) mark f h e = form_is (integers (map item is)) f e (items_fit is h)
phrase_fits (phrases.Says.shared {b = b} {is = is} d) mark f h e = form_is (common b (map item is)) f e (items_fit is h)
phrase_fits (phrases.Says.assigned {d = d} s) mark f h e = let r = map_some simple (act d) f e in subst FitsForm r.2 (deed_fits d r.0 h r.1)
phrase_fits (phrases.Says.called {d = d} s) mark f h e = let r = map_some simple (act d) f e in subst FitsForm r.2 (deed_fits d r.0 h r.1)
phrase_fits (phrases.Says.guarded {c = c} {d = d} g s) mark f h e =
    let n = or_parts (test_large c) (deed_large d) h in
    let r = both_some logical (test c) (act d) f e in
    subst FitsForm r.4 (test_fits c r.0 n.0 r.2, deed_fits d r.1 n.1 r.3)
phrase_fits (phrases.Says.begins d) mark f h e = do_fits d mark f h e
phrase_fits (phrases.Says.tests_first {c = c} g) mark f h e = let r = map_some opens_while (test c) f e in subst FitsForm r.2 (test_fits c r.0 h r.1)
phrase_fits phrases.Says.finished mark f h e = form_is end_do f e tt
phrase_fits phrases.Says.continued mark f h e = form_is go_on f e tt
phrase_fits (phrases.Says.tests {c = c} g) mark f h e = let r = map_some opens_if (test c) f e in subst FitsForm r.2 (test_fits c r.0 h r.1)
phrase_fits phrases.Says.turned mark f h e = form_is otherwise f e tt
phrase_fits (phrases.Says.tests_again {c = c} g) mark f h e = let r = map_some otherwise_if (test c) f e in subst FitsForm r.2 (test_fits c r.0 h r.1)
phrase_fits phrases.Says.closed mark f h e = form_is end_if f e tt
phrase_fits phrases.Says.returned mark f h e = form_is leaves f e tt
phrase_fits phrases.Says.ended mark f h e = form_is ends f e tt

pub judged_ok : (large deep : Bool) (o : Option Form) (f : Form) → judged_by large deep o ≡ Ok f → (large ≡ false) × (deep ≡ false) × (o ≡ Some f)
judged_ok true deep o f h = absurd cc
judged_ok false true o f h = absurd cc
judged_ok false false None f h = absurd cc
judged_ok false false (Some g) f h = (refl, refl, cc)

-- what is said has only literals and extents that are words
pub said_fits : (limit : ℕ) (mark : Mark) (kind : Kind) (lexemes : List Lexeme) (f : Form) → said limit mark kind lexemes ≡ Some (Ok f) → FitsForm f
unfolding said
said_fits limit mark kind lexemes f h =
    let r = map_some (judged_phrase limit mark) (phrase_of kind lexemes) (Ok f) h in
    let says : Says kind lexemes r.0 = rw r.1 at (phrase_said kind lexemes) in
    let j = judged_ok (phrase_large r.0) (phrase_deep limit r.0) (form mark r.0) f r.2 in
    phrase_fits says mark f j.0 j.2
