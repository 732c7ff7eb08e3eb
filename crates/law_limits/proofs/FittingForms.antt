-- Where the literals and extents of what a statement says are words, so are those of its lexemes.
use Rattle.std.proofs.Common.{◌≡◌, ℕ, ◌^◌, Bool, true, false, List, [], ◌∷◌, map, Option, Some, None, option_map, refl, sym, ap, ◌∙◌}
use Rattle.std.specs.Prelude.{◌&&◌, ◌||◌, nat_le}
use Rattle.std.specs.List.{list_all, list_any}
use Rattle.std.proofs.lemmas.Bool.{and_parts, or_from}
use Rattle.adj_tree.specs.Code.{plain, Term, Terms, Mark, Act, assign}
use Rattle.def_text.specs.Char.{number_of}
use Rattle.def_text.specs.Condition.{test}
use Rattle.def_text.specs.Form.{Form, integers, common, simple, logical, opens_do, opens_while, opens_if, otherwise_if}
use Rattle.def_text.specs.Grammar.{Syntax, Arguments, with_both, tree}
use Rattle.def_text.specs.Statement.{called, Range}
use Rattle.def_text.specs.Lexeme.{Lexeme}
use Rattle.def_text.specs.declared.stated.Kind.{Kind}
use Rattle.def_text.proofs.Parts.{map_some, both_some}
use Rattle.adj_parse_expression.specs.Judged.{has_large, test_large}
use Rattle.adj_parse_statement.specs.Phrase as phrases
use Rattle.adj_parse_statement.specs.Phrase.{Deed, assigns, calls, Size, numbered, named, Declared, Bounds, Phrase, repeats, SaysDo, Says}
use Rattle.adj_parse_statement.specs.Said.{list_large, deed_large, size_large, item_large, step_large, bounds_large, phrase_large, list_trees, act, extent, item, step_tree, range, form}
use Rattle.law_limits.specs.Rule.{act_keeps}
use Rattle.law_limits.proofs.Truths.{not_not}
use Rattle.law_limits.proofs.Keeping.{item_keeps, form_keeps}
use Rattle.law_limits.proofs.FittingTerms.{fits_term, fits_terms, fits_test, fits_extent, fitting, tree_small, trees_small, test_small}
use Rattle.law_limits.proofs.Actuals.{called_fits}

list_small : (o : Option Arguments) (ts : Terms) → list_trees o ≡ Some ts → fits_terms ts ≡ true → list_large o ≡ false
list_small None ts e h = refl
list_small (Some all) ts e h = (trees_small all _ ts e h).0

deed_small : (d : Deed) (a : Act) → act d ≡ Some a → act_keeps fitting a ≡ true → deed_large d ≡ false
deed_small (assigns p s) a e h =
    let r = both_some (λ ts t. assign (plain p.name) ts t) (list_trees p.list) (tree s) a e in
    let q = and_parts (fits_terms r.0) (fits_term r.1) (ap (act_keeps fitting) r.4 ∙ h) in
    or_from (list_large p.list) (has_large s) (list_small p.list r.0 r.2 q.0) (tree_small s r.1 r.3 q.1)
deed_small (calls c) a e h =
    let r = map_some (called c.name) (list_trees c.list) a e in
    list_small c.list r.0 r.1 (sym (called_fits c.name r.0) ∙ ap (act_keeps fitting) r.2 ∙ h)

size_small : (s : Size) → fits_extent (extent s) ≡ true → size_large s ≡ false
size_small (numbered digits) h = not_not (nat_le (2 ^ 63) (number_of digits)) h
size_small (named x) h = refl

sizes_small : (ss : List Size) → list_all fits_extent (map extent ss) ≡ true → list_any size_large ss ≡ false
sizes_small [] h = refl
sizes_small (s ∷ ss) h = let q = and_parts (fits_extent (extent s)) (list_all fits_extent (map extent ss)) h in or_from (size_large s) (list_any size_large ss) (size_small s q.0) (sizes_small ss q.1)

items_small : (is : List Declared) → list_all (item_keeps fitting) (map item is) ≡ true → list_any item_large is ≡ false
items_small [] h = refl
items_small (i ∷ is) h =
    let q = and_parts (item_keeps fitting (item i)) (list_all (item_keeps fitting) (map item is)) h in
    or_from (item_large i) (list_any item_large is) (sizes_small i.sizes q.0) (items_small is q.1)

step_small : (o : Option Syntax) (t : Term) → step_tree o ≡ Some t → fits_term t ≡ true → step_large o ≡ false
step_small None t e h = refl
step_small (Some s) t e h = tree_small s t e h

abbrev range_fits : Range → Bool
range_fits r = fits_term r.from && (fits_term r.to && fits_term r.by)

bounds_small : (b : Bounds) (r : Range) → range b ≡ Some r → range_fits r ≡ true → bounds_large b ≡ false
bounds_small b r e h =
    let whole : Term × Term → Term → Range = λ ends c. record { counter = plain b.counter; from = ends.0; to = ends.1; by = c } in
    let pair : Term → Term → Term × Term = λ from to. (from, to) in
    let q = both_some whole (with_both (λ from to. Some (from, to)) (tree b.from) (tree b.to)) (step_tree b.by) r e in
    let w = both_some pair (tree b.from) (tree b.to) q.0 q.2 in
    let k : range_fits (whole (w.0, w.1) q.1) ≡ true = ap (λ (x : Term × Term). range_fits (whole x q.1)) w.4 ∙ ap range_fits q.4 ∙ h in
    let m = and_parts (fits_term w.0) (fits_term w.1 && fits_term q.1) k in
    let n = and_parts (fits_term w.1) (fits_term q.1) m.1 in
    or_from (has_large b.from || has_large b.to) (step_large b.by) (or_from (has_large b.from) (has_large b.to) (tree_small b.from w.0 w.2 m.0) (tree_small b.to w.1 w.3 n.0)) (step_small b.by q.1 q.3 n.1)

loop_small : (label : Option (List ℕ)) (b : Bounds) (mark : Mark) (f : Form) → form mark (repeats label b) ≡ Some f → form_keeps fitting f ≡ true → bounds_large b ≡ false
loop_small label b mark f e h = let r = map_some (λ r. opens_do (option_map number_of label) r mark) (range b) f e in bounds_small b r.0 r.1 (ap (form_keeps fitting) r.2 ∙ h)

do_small : {ws : List Lexeme} {p : Phrase} → SaysDo ws p → (mark : Mark) (f : Form) → form mark p ≡ Some f → form_keeps fitting f ≡ true → phrase_large p ≡ false
do_small (phrases.SaysDo.unlabelled {b = b} s) mark f e h = loop_small None b mark f e h
do_small (phrases.SaysDo.labelled {digits = digits} {b = b} s) mark f e h = loop_small (Some digits) b mark f e h
do_small (phrases.SaysDo.labelled_comma {digits = digits} {b = b} s) mark f e h = loop_small (Some digits) b mark f e h

pub form_small : {kind : Kind} {ws : List Lexeme} {p : Phrase} → Says kind ws p → (mark : Mark) (f : Form) → form mark p ≡ Some f → form_keeps fitting f ≡ true → phrase_large p ≡ false
form_small (phrases.Says.heading s) mark f e h = refl
form_small phrases.Says.implicit mark f e h = refl
form_small (phrases.Says.declaration {is = is} s) mark f e h = let q : integers (map item is) ≡ f = cc in items_small is (ap (form_keeps fitting) q ∙ h)
form_small (phrases.Says.shared (phrases.block {b = b} {is = is} s l)) mark f e h = let q : common b (map item is) ≡ f = cc in items_small is (ap (form_keeps fitting) q ∙ h)
form_small (phrases.Says.assigned {d = d} s) mark f e h = let r = map_some simple (act d) f e in deed_small d r.0 r.1 (ap (form_keeps fitting) r.2 ∙ h)
form_small (phrases.Says.called {d = d} s) mark f e h = let r = map_some simple (act d) f e in deed_small d r.0 r.1 (ap (form_keeps fitting) r.2 ∙ h)
form_small (phrases.Says.guarded {c = c} {d = d} g s) mark f e h =
    let r = both_some logical (test c) (act d) f e in
    let q = and_parts (fits_test r.0) (act_keeps fitting r.1) (ap (form_keeps fitting) r.4 ∙ h) in
    or_from (test_large c) (deed_large d) (test_small c r.0 r.2 q.0) (deed_small d r.1 r.3 q.1)
form_small (phrases.Says.begins s) mark f e h = do_small s mark f e h
form_small (phrases.Says.tests_first {c = c} g) mark f e h = let r = map_some opens_while (test c) f e in test_small c r.0 r.1 (ap (form_keeps fitting) r.2 ∙ h)
form_small phrases.Says.finished mark f e h = refl
form_small phrases.Says.continued mark f e h = refl
form_small (phrases.Says.tests {c = c} g) mark f e h = let r = map_some opens_if (test c) f e in test_small c r.0 r.1 (ap (form_keeps fitting) r.2 ∙ h)
form_small phrases.Says.turned mark f e h = refl
form_small (phrases.Says.tests_again {c = c} g) mark f e h = let r = map_some otherwise_if (test c) f e in test_small c r.0 r.1 (ap (form_keeps fitting) r.2 ∙ h)
form_small phrases.Says.closed mark f e h = refl
form_small phrases.Says.returned mark f e h = refl
form_small phrases.Says.ended mark f e h = refl
