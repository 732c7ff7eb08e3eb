-- What a statement says is as deep as its lexemes are.
use Rattle.std.proofs.Common.{◌≡◌, ◌≤◌, ℕ, pos, Bool, true, List, [], ◌∷◌, map, Option, Some, None, option_map, refl, sym, ap, ap₂, ◌∙◌}
use Rattle.std.specs.Prelude.{◌&&◌, ◌||◌, not, nat_lt, nat_le}
use Rattle.std.specs.List.{list_all}
use Rattle.std.proofs.lemmas.Bool.{le-leb}
use Rattle.adj_tree.specs.Code.{plain, Term, Terms, lit, none, more, Test, Mark, Act, assign}
use Rattle.adj_tree.specs.Size as trees
use Rattle.adj_tree.specs.Size.{term_depth}
use Rattle.def_text.specs.Char.{number_of}
use Rattle.def_text.specs.Condition.{Condition, test}
use Rattle.def_text.specs.Form.{Form, subroutine, implicit_none, integers, common, simple, logical, opens_do, opens_while, end_do, go_on, opens_if, otherwise, otherwise_if, end_if, leaves, ends}
use Rattle.def_text.specs.Grammar.{Syntax, Arguments, only, beside, with_both, tree, trees_before}
use Rattle.def_text.specs.Statement.{Item, called, Range}
use Rattle.def_text.specs.Lexeme.{Lexeme}
use Rattle.def_text.specs.declared.stated.Kind.{Kind}
use Rattle.def_text.proofs.Parts.{map_some, then_some, both_some}
use Rattle.adj_parse_expression.specs.Judged.{depth, test_depth}
use Rattle.adj_parse_statement.specs.Phrase as phrases
use Rattle.adj_parse_statement.specs.Phrase.{Deed, assigns, calls, Bounds, Phrase, repeats, SaysDo, Says}
use Rattle.adj_parse_statement.specs.Said.{any_deep, list_deep, deed_deep, step_deep, bounds_deep, test_deep, phrase_deep, list_trees, act, item, step_tree, range, form}
use Rattle.law_limits.specs.Rule.{act_keeps}
use Rattle.law_limits.specs.Kept.{is_shallow, all_shallow, shallow}
use Rattle.law_limits.proofs.Truths.{and_true, and_group, not_or, not_less}
use Rattle.law_limits.proofs.Keeping.{item_keeps, form_keeps}
use Rattle.law_limits.proofs.TermDepths as depths
use Rattle.law_limits.proofs.Actuals.{called_shallow}

module _ (d : ℕ) where
  term_shallow : (s : Syntax) (t : Term) → tree s ≡ Some t → is_shallow d t ≡ not (nat_lt d (depth s))
  term_shallow s t e = ap (λ k. nat_le k d) (sym (depths.tree_depth s t e)) ∙ sym (not_less d (depth s))

  terms_shallow : (all : Arguments) (rest ts : Terms) → trees_before all rest ≡ Some ts → all_shallow d ts ≡ (not (any_deep d all) && all_shallow d rest)
  terms_shallow (only s) rest ts e = let r = map_some (λ t. more t rest) (tree s) ts e in ap (all_shallow d) (sym r.2) ∙ ap (λ b. b && all_shallow d rest) (term_shallow s r.0 r.1)
  terms_shallow (beside front s) rest ts e =
      let r = then_some (λ t. trees_before front (more t rest)) (tree s) ts e in
      terms_shallow front (more r.0 rest) ts r.2 ∙ ap (λ b. not (any_deep d front) && (b && all_shallow d rest)) (term_shallow s r.0 r.1)
      ∙ and_group (not (any_deep d front)) (not (nat_lt d (depth s))) (all_shallow d rest) ∙ ap (λ b. b && all_shallow d rest) (sym (not_or (any_deep d front) (nat_lt d (depth s))))

  list_shallow : (o : Option Arguments) (ts : Terms) → list_trees o ≡ Some ts → all_shallow d ts ≡ not (list_deep d o)
  list_shallow None ts e = let q : none ≡ ts = cc in ap (all_shallow d) (sym q)
  list_shallow (Some all) ts e = terms_shallow all none ts e ∙ and_true (not (any_deep d all))

  deed_shallow : (a : Deed) (b : Act) → act a ≡ Some b → act_keeps (shallow d) b ≡ not (deed_deep d a)
  deed_shallow (assigns p s) b e =
      let r = both_some (λ ts t. assign (plain p.name) ts t) (list_trees p.list) (tree s) b e in
      ap (act_keeps (shallow d)) (sym r.4) ∙ ap₂ (λ x y. x && y) (list_shallow p.list r.0 r.2) (term_shallow s r.1 r.3) ∙ sym (not_or (list_deep d p.list) (nat_lt d (depth s)))
  deed_shallow (calls c) b e =
      let r = map_some (called c.name) (list_trees c.list) b e in
      ap (act_keeps (shallow d)) (sym r.2) ∙ called_shallow d c.name r.0 ∙ list_shallow c.list r.0 r.1

  condition_shallow : (c : Condition) (t : Test) → test c ≡ Some t → nat_le (trees.test_depth t) d ≡ not (test_deep d c)
  condition_shallow c t e = ap (λ k. nat_le k d) (sym (depths.test_deep c t e)) ∙ sym (not_less d (test_depth c))

  items_shallow : (is : List Item) → list_all (item_keeps (shallow d)) is ≡ true
  items_shallow [] = refl
  items_shallow (i ∷ is) = items_shallow is

  -- where a literal may be in a place at all
  module _ (some : 1 ≤ d) where
    step_shallow : (o : Option Syntax) (t : Term) → step_tree o ≡ Some t → is_shallow d t ≡ not (step_deep d o)
    step_shallow None t e = let q : lit (pos 1) ≡ t = cc in ap (is_shallow d) (sym q) ∙ le-leb 1 d some
    step_shallow (Some s) t e = term_shallow s t e

    abbrev range_shallow : Range → Bool
    range_shallow r = (is_shallow d r.from && is_shallow d r.to) && is_shallow d r.by

    bounds_shallow : (b : Bounds) (r : Range) → range b ≡ Some r → range_shallow r ≡ not (bounds_deep d b)
    bounds_shallow b r e =
        let whole : Term × Term → Term → Range = λ ends c. record { counter = plain b.counter; from = ends.0; to = ends.1; by = c } in
        let pair : Term → Term → Term × Term = λ from to. (from, to) in
        let q = both_some whole (with_both (λ from to. Some (from, to)) (tree b.from) (tree b.to)) (step_tree b.by) r e in
        let w = both_some pair (tree b.from) (tree b.to) q.0 q.2 in
        ap range_shallow (sym q.4) ∙ ap (λ (x : Term × Term). range_shallow (whole x q.1)) (sym w.4)
        ∙ ap₂ (λ x y. x && y) (ap₂ (λ x y. x && y) (term_shallow b.from w.0 w.2) (term_shallow b.to w.1 w.3) ∙ sym (not_or (nat_lt d (depth b.from)) (nat_lt d (depth b.to)))) (step_shallow b.by q.1 q.3)
        ∙ sym (not_or (nat_lt d (depth b.from) || nat_lt d (depth b.to)) (step_deep d b.by))

    loop_shallow : (label : Option (List ℕ)) (b : Bounds) (mark : Mark) (f : Form) → form mark (repeats label b) ≡ Some f → form_keeps (shallow d) f ≡ not (bounds_deep d b)
    loop_shallow label b mark f e = let r = map_some (λ r. opens_do (option_map number_of label) r mark) (range b) f e in ap (form_keeps (shallow d)) (sym r.2) ∙ bounds_shallow b r.0 r.1

    do_shallow : {ws : List Lexeme} {p : Phrase} → SaysDo ws p → (mark : Mark) (f : Form) → form mark p ≡ Some f → form_keeps (shallow d) f ≡ not (phrase_deep d p)
    do_shallow (phrases.SaysDo.unlabelled {b = b} s) mark f e = loop_shallow None b mark f e
    do_shallow (phrases.SaysDo.labelled {digits = digits} {b = b} s) mark f e = loop_shallow (Some digits) b mark f e
    do_shallow (phrases.SaysDo.labelled_comma {digits = digits} {b = b} s) mark f e = loop_shallow (Some digits) b mark f e

    form_is : (f g : Form) → Some f ≡ Some g → form_keeps (shallow d) f ≡ true → form_keeps (shallow d) g ≡ true
    form_is f g e h = let q : f ≡ g = cc in ap (form_keeps (shallow d)) (sym q) ∙ h

    pub form_shallow : {kind : Kind} {ws : List Lexeme} {p : Phrase} → Says kind ws p → (mark : Mark) (f : Form) → form mark p ≡ Some f → form_keeps (shallow d) f ≡ not (phrase_deep d p)
    form_shallow (phrases.Says.heading {x = x} {dummies = dummies} s) mark f e = form_is (subroutine x dummies) f e refl
    form_shallow phrases.Says.implicit mark f e = form_is implicit_none f e refl
    form_shallow (phrases.Says.declaration {is = is} s) mark f e = form_is (integers (map item is)) f e (items_shallow (map item is))
    form_shallow (phrases.Says.shared (phrases.block {b = b} {is = is} s l)) mark f e = form_is (common b (map item is)) f e (items_shallow (map item is))
    form_shallow (phrases.Says.assigned {d = a} s) mark f e = let r = map_some simple (act a) f e in ap (form_keeps (shallow d)) (sym r.2) ∙ deed_shallow a r.0 r.1
    form_shallow (phrases.Says.called {d = a} s) mark f e = let r = map_some simple (act a) f e in ap (form_keeps (shallow d)) (sym r.2) ∙ deed_shallow a r.0 r.1
    form_shallow (phrases.Says.guarded {c = c} {d = a} g s) mark f e =
        let r = both_some logical (test c) (act a) f e in
        ap (form_keeps (shallow d)) (sym r.4) ∙ ap₂ (λ x y. x && y) (condition_shallow c r.0 r.2) (deed_shallow a r.1 r.3) ∙ sym (not_or (test_deep d c) (deed_deep d a))
    form_shallow (phrases.Says.begins s) mark f e = do_shallow s mark f e
    form_shallow (phrases.Says.tests_first {c = c} g) mark f e = let r = map_some opens_while (test c) f e in ap (form_keeps (shallow d)) (sym r.2) ∙ condition_shallow c r.0 r.1
    form_shallow phrases.Says.finished mark f e = form_is end_do f e refl
    form_shallow phrases.Says.continued mark f e = form_is go_on f e refl
    form_shallow (phrases.Says.tests {c = c} g) mark f e = let r = map_some opens_if (test c) f e in ap (form_keeps (shallow d)) (sym r.2) ∙ condition_shallow c r.0 r.1
    form_shallow phrases.Says.turned mark f e = form_is otherwise f e refl
    form_shallow (phrases.Says.tests_again {c = c} g) mark f e = let r = map_some otherwise_if (test c) f e in ap (form_keeps (shallow d)) (sym r.2) ∙ condition_shallow c r.0 r.1
    form_shallow phrases.Says.closed mark f e = form_is end_if f e refl
    form_shallow phrases.Says.returned mark f e = form_is leaves f e refl
    form_shallow phrases.Says.ended mark f e = form_is ends f e refl
