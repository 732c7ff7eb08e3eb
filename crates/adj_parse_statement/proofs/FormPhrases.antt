-- FormPhrases: what the grammar of texts reads of the lexemes of a statement is the form of what they say.
use Rattle.std.proofs.Common.{◌≡◌, ℕ, pos, List, [], ◌∷◌, map, Option, Some, None, option_map, refl, sym, ap, ◌∙◌, arith}
use Rattle.adj_tree.specs.Code.{Var, plain, Term, Terms, lit, Test, Mark, Act, assign, Extent}
use Rattle.def_text.specs.Char.{number_of}
use Rattle.def_text.specs.Condition.{Condition, test}
use Rattle.def_text.specs.Form.{Form, subroutine, implicit_none, integers, common, simple, logical, opens_do, opens_while, opens_if, otherwise, otherwise_if, end_do, go_on, end_if, leaves, ends, ReadsForm}
use Rattle.def_text.specs.Form as reads
use Rattle.def_text.specs.Grammar.{with_both, tree}
use Rattle.def_text.specs.Statement.{Item, called, Range, ReadsPlace, ReadsAssignment, ReadsItem, ReadsItems, have_literals, ReadsCommon, ReadsExtent, ReadsCall, ReadsRange, ReadsDo, ReadsGuard, ReadsGuarded}
use Rattle.def_text.specs.Statement as statement
use Rattle.def_text.specs.Lexeme.{Lexeme}
use Rattle.def_text.specs.declared.stated.Kind.{Kind}
use Rattle.adj_parse_statement.specs.Phrase.{Entry, Deed, assigns, calls, Size, numbered, named, Declared, Bounds, Phrase, plainly, declares, shares, does, guards, repeats, goes_while, opens, turns, SaysPlace, SaysAssignment, SaysCall, SaysSize, SaysItem, SaysItems, SaysCommon, SaysBounds, by_one, by_step, SaysDo, SaysGuard, guard, SaysGuarded, Says}
use Rattle.adj_parse_statement.specs.Phrase as says
use Rattle.adj_parse_statement.proofs.PhraseForms.{items_literal}
use Rattle.adj_parse_statement.specs.Said.{list_trees, act, extent, item, range, form}

-- two parts that there are
both_made : {A B C : Type 0} (f : A → B → C) (m : Option A) (n : Option B) (a : A) (b : B) → m ≡ Some a → n ≡ Some b → with_both (λ x y. Some (f x y)) m n ≡ Some (f a b)
both_made f m n a b h k = ap (λ o. with_both (λ x y. Some (f x y)) o n) h ∙ ap (λ o. with_both (λ x y. Some (f x y)) (Some a) o) k

-- places
place_says : {ts rest : List Lexeme} {x : Var} {s : Terms} → ReadsPlace ts rest x s → (p : Entry) × SaysPlace ts rest p × (plain p.name ≡ x) × (list_trees p.list ≡ Some s)
place_says (statement.ReadsPlace.scalar {x = x}) = (record { name = x; list = None }, says.SaysPlace.scalar, refl, refl)
place_says (statement.ReadsPlace.element {x = x} r n) = (record { name = x; list = Some r.0 }, says.SaysPlace.element r.1 (omega (arith, r.2)), refl, r.3)

assignment_says : {ts : List Lexeme} {a : Act} → ReadsAssignment ts a → (d : Deed) × SaysAssignment ts d × (act d ≡ Some a)
assignment_says (statement.assignment {x = x} {subscripts = s} {e = e} g r) =
    let p = place_says g in
    (assigns p.0 r.0, says.assignment p.1 r.1, both_made (λ s t. assign (plain p.0.name) s t) (list_trees p.0.list) (tree r.0) s e p.3 r.2 ∙ ap (λ v. Some (assign v s e)) p.2)

call_says : {ts : List Lexeme} {a : Act} → ReadsCall ts a → (d : Deed) × SaysCall ts d × (act d ≡ Some a)
call_says (statement.ReadsCall.alone {x = x}) = (calls (record { name = x; list = None }), says.alone, refl)
call_says (statement.ReadsCall.empty {x = x}) = (calls (record { name = x; list = None }), says.empty, refl)
call_says (statement.ReadsCall.actuals {x = x} r) = (calls (record { name = x; list = Some r.0 }), says.actuals r.1, ap (option_map (called x)) r.3)

-- declarations
size_says : {ts rest : List Lexeme} {e : Extent} → ReadsExtent ts rest e → (s : Size) × SaysSize ts rest s × (extent s ≡ e)
size_says (statement.ReadsExtent.literal {digits = digits}) = (numbered digits, says.SaysSize.literal, refl)
size_says (statement.ReadsExtent.name {x = x}) = (named x, says.SaysSize.name, refl)

item_says : {ts rest : List Lexeme} {i : Item} → ReadsItem ts rest i → (d : Declared) × SaysItem ts rest d × (item d ≡ i)
item_says (statement.ReadsItem.scalar {x = x}) = (record { name = x; sizes = [] }, says.SaysItem.scalar, refl)
item_says (statement.row {x = x} r) = let a = size_says r in (record { name = x; sizes = a.0 ∷ [] }, says.row a.1, ap (λ (e : Extent). record { name = x; extents = e ∷ [] }) a.2)
item_says (statement.table {x = x} {a = c} r q) =
    let a = size_says r in
    let b = size_says q in
    (record { name = x; sizes = a.0 ∷ b.0 ∷ [] }, says.table a.1 b.1, ap (λ (e : Extent). record { name = x; extents = e ∷ extent b.0 ∷ [] }) a.2 ∙ ap (λ (e : Extent). record { name = x; extents = c ∷ e ∷ [] }) b.2)

items_say : {ts : List Lexeme} {is : List Item} → ReadsItems ts is → (ds : List Declared) × SaysItems ts ds × (map item ds ≡ is)
items_say (statement.ReadsItems.last r) = let d = item_says r in (d.0 ∷ [], says.SaysItems.last d.1, ap (λ i. i ∷ []) d.2)
items_say (statement.ReadsItems.another {i = i} r q) =
    let d = item_says r in
    let ds = items_say q in
    (d.0 ∷ ds.0, says.SaysItems.another d.1 ds.1, ap (λ j. j ∷ map item ds.0) d.2 ∙ ap (λ js. i ∷ js) ds.2)

common_says : {ts : List Lexeme} {b : List ℕ} {is : List Item} → ReadsCommon ts b is → (ds : List Declared) × SaysCommon ts b ds × (map item ds ≡ is)
common_says (statement.ReadsCommon.block r e) =
    let ds = items_say r in
    (ds.0, says.SaysCommon.block ds.1 (sym (items_literal ds.0) ∙ ap have_literals ds.2 ∙ e), ds.2)

-- loops
range_says : {ts : List Lexeme} {r : Range} → ReadsRange ts r → (b : Bounds) × SaysBounds ts b × (range b ≡ Some r)
range_says (statement.by_one {x = x} {a = a} {b = b} d e) =
    (record { counter = x; from = d.0; to = e.0; by = None }, by_one d.1 e.1, both_made (λ (ends : Term × Term) c. record { counter = plain x; from = ends.0; to = ends.1; by = c }) (with_both (λ from to. Some (from, to)) (tree d.0) (tree e.0)) (Some (lit (pos 1))) (a, b) (lit (pos 1)) (both_made {C = Term × Term} (λ from to. (from, to)) (tree d.0) (tree e.0) a b d.2 e.2) refl)
range_says (statement.by_step {x = x} {a = a} {b = b} {c = c} d e f) =
    (record { counter = x; from = d.0; to = e.0; by = Some f.0 }, by_step d.1 e.1 f.1, both_made (λ (ends : Term × Term) c. record { counter = plain x; from = ends.0; to = ends.1; by = c }) (with_both (λ from to. Some (from, to)) (tree d.0) (tree e.0)) (tree f.0) (a, b) c (both_made {C = Term × Term} (λ from to. (from, to)) (tree d.0) (tree e.0) a b d.2 e.2) f.2)

do_says : {ts : List Lexeme} {l : Option ℕ} {r : Range} (mark : Mark) → ReadsDo ts l r → (p : Phrase) × SaysDo ts p × (form mark p ≡ Some (opens_do l r mark))
do_says mark (statement.unlabelled g) = let b = range_says g in (repeats None b.0, says.unlabelled b.1, ap (option_map (λ r. opens_do None r mark)) b.2)
do_says mark (statement.labelled {digits = ds} g) = let b = range_says g in (repeats (Some ds) b.0, says.labelled b.1, ap (option_map (λ r. opens_do (Some (number_of ds)) r mark)) b.2)
do_says mark (statement.labelled_comma {digits = ds} g) = let b = range_says g in (repeats (Some ds) b.0, says.labelled_comma b.1, ap (option_map (λ r. opens_do (Some (number_of ds)) r mark)) b.2)

-- guards
guard_says : {ts rest : List Lexeme} {t : Test} → ReadsGuard ts rest t → (c : Condition) × SaysGuard ts rest c × (test c ≡ Some t)
guard_says (statement.guard r) = (r.0, guard r.1, r.2)

guarded_says : {ts : List Lexeme} {a : Act} → ReadsGuarded ts a → (d : Deed) × SaysGuarded ts d × (act d ≡ Some a)
guarded_says (statement.assigned g) = let d = assignment_says g in (d.0, says.SaysGuarded.assigned d.1, d.2)
guarded_says (statement.calls g) = let d = call_says g in (d.0, says.SaysGuarded.called d.1, d.2)

-- what the lexemes of a statement say has the form that is read of them
pub form_says : {mark : Mark} {kind : Kind} {ts : List Lexeme} {f : Form} → ReadsForm mark kind ts f → (p : Phrase) × Says kind ts p × (form mark p ≡ Some f)
form_says (reads.heading {x = x} {dummies = dummies} g) = (plainly (subroutine x dummies), says.heading g, refl)
form_says reads.implicit = (plainly implicit_none, says.implicit, refl)
form_says (reads.declaration g) = let ds = items_say g in (declares ds.0, says.declaration ds.1, ap (λ is. Some (integers is)) ds.2)
form_says (reads.shared {b = b} g) = let ds = common_says g in (shares b ds.0, says.shared ds.1, ap (λ is. Some (common b is)) ds.2)
form_says (reads.ReadsForm.assigned g) = let d = assignment_says g in (does d.0, says.Says.assigned d.1, ap (option_map simple) d.2)
form_says (reads.ReadsForm.calls g) = let d = call_says g in (does d.0, says.Says.called d.1, ap (option_map simple) d.2)
form_says (reads.guarded {c = t} {a = a} g r) =
    let c = guard_says g in
    let d = guarded_says r in
    (guards c.0 d.0, says.guarded c.1 d.1, both_made logical (test c.0) (act d.0) t a c.2 d.2)
form_says (reads.begins {mark = mark} g) = let p = do_says mark g in (p.0, says.begins p.1, p.2)
form_says (reads.ReadsForm.repeats g) = let c = guard_says g in (goes_while c.0, says.tests_first c.1, ap (option_map opens_while) c.2)
form_says reads.finished = (plainly end_do, says.finished, refl)
form_says reads.continued = (plainly go_on, says.continued, refl)
form_says (reads.tests g) = let c = guard_says g in (opens c.0, says.tests c.1, ap (option_map opens_if) c.2)
form_says reads.turns = (plainly otherwise, says.turned, refl)
form_says (reads.tests_again g) = let c = guard_says g in (turns c.0, says.tests_again c.1, ap (option_map otherwise_if) c.2)
form_says reads.closed = (plainly end_if, says.closed, refl)
form_says reads.returned = (plainly leaves, says.returned, refl)
form_says reads.ended = (plainly ends, says.ended, refl)
