-- PhraseForms: the form of what the lexemes of a statement say is what the grammar of texts gives them, and the other way round.
use Rattle.std.proofs.Common.{◌≡◌, ◌⊎◌, inl, inr, ℕ, pos, Bool, true, false, ◌&&◌, List, [], ◌∷◌, map, Some, None, option_map, refl, sym, ap, ◌∙◌, subst}
use Rattle.std.specs.List.{list_all}
use Rattle.def_text.proofs.Parts.{map_some, both_some}
use Rattle.adj_tree.specs.Code as trees
use Rattle.adj_tree.specs.Code.{plain, Term, Terms, lit, none, Test, unmarked, Act, assign}
use Rattle.def_text.specs.Char.{number_of}
use Rattle.def_text.specs.Condition.{Condition, test}
use Rattle.def_text.specs.Form.{Form, integers, common, simple, logical, opens_do, opens_while, opens_if, otherwise_if, ReadsForm}
use Rattle.def_text.specs.Form as reads
use Rattle.def_text.specs.Grammar.{with_both, tree, trees_before}
use Rattle.def_text.specs.Statement.{Item, called, Range, ReadsPlace, ReadsAssignment, is_literal_extent, have_literals, ReadsCommon, ReadsItem, ReadsItems, ReadsExtent, ReadsCall, ReadsRange, ReadsDo, ReadsGuard, ReadsGuarded}
use Rattle.def_text.specs.Statement as statement
use Rattle.def_text.specs.Lexeme.{Lexeme, Named, Digits, Mark}
use Rattle.def_text.specs.declared.stated.Kind.{Kind}
use Rattle.def_text.specs.declared.stated.Kind.TheVariants.{Do, BlockIf, LogicalIf, ElseIf, DoWhile}
use Rattle.def_text.specs.declared.token.TokenKind.TheVariants.{Left, Right, Comma, Equals}
use Rattle.adj_parse_statement.specs.Phrase.{Entry, Deed, assigns, calls, Size, numbered, named, Declared, Bounds, is_numbered, are_numbered, Phrase, plainly, declares, shares, does, guards, repeats, opens, turns, SaysPlace, SaysAssignment, SaysCall, SaysSize, SaysItem, SaysItems, SaysCommon, SaysBounds, by_one, by_step, SaysDo, SaysGuard, guard, SaysGuarded, Says}
use Rattle.adj_parse_statement.specs.Phrase as says
use Rattle.adj_parse_statement.specs.Said.{list_trees, act, extent, item, range, form}

-- places
place_form : {ts rest : List Lexeme} {p : Entry} → SaysPlace ts rest p → (s : Terms) → list_trees p.list ≡ Some s → ReadsPlace ts rest (plain p.name) s
place_form (says.SaysPlace.scalar {x = x} {rest = rest}) s h = let e : none ≡ s = cc in subst (ReadsPlace (Named x ∷ rest) rest (plain x)) e statement.ReadsPlace.scalar
place_form (says.SaysPlace.element {all = all} d n) s h = statement.ReadsPlace.element (all, d, refl, h) n

assignment_form : {ts : List Lexeme} {d : Deed} → SaysAssignment ts d → (a : Act) → act d ≡ Some a → ReadsAssignment ts a
assignment_form {ts} (says.assignment {p = p} {e = e} g r) a h =
    let k = both_some (λ s t. assign (plain p.name) s t) (list_trees p.list) (tree e) a h in
    subst (ReadsAssignment ts) k.4 (statement.assignment (place_form g k.0 k.2) (e, r, k.3))

call_form : {ts : List Lexeme} {d : Deed} → SaysCall ts d → (a : Act) → act d ≡ Some a → ReadsCall ts a
call_form (says.alone {x = x}) a h = let e : called x none ≡ a = cc in subst (ReadsCall (Named x ∷ [])) e statement.ReadsCall.alone
call_form (says.empty {x = x}) a h = let e : called x none ≡ a = cc in subst (ReadsCall (Named x ∷ Mark Left ∷ Mark Right ∷ [])) e statement.ReadsCall.empty
call_form (says.actuals {x = x} {ts = ts} {all = all} r) a h =
    let k = map_some (called x) (trees_before all none) a h in
    subst (ReadsCall (Named x ∷ Mark Left ∷ ts)) k.2 (statement.ReadsCall.actuals (all, r, refl, k.1))

-- declarations
size_form : {ts rest : List Lexeme} {s : Size} → SaysSize ts rest s → ReadsExtent ts rest (extent s)
size_form says.SaysSize.literal = statement.ReadsExtent.literal
size_form says.SaysSize.name = statement.ReadsExtent.name

item_form : {ts rest : List Lexeme} {i : Declared} → SaysItem ts rest i → ReadsItem ts rest (item i)
item_form says.SaysItem.scalar = statement.ReadsItem.scalar
item_form (says.row r) = statement.row (size_form r)
item_form (says.table r q) = statement.table (size_form r) (size_form q)

items_form : {ts : List Lexeme} {is : List Declared} → SaysItems ts is → ReadsItems ts (map item is)
items_form (says.SaysItems.last r) = statement.ReadsItems.last (item_form r)
items_form (says.SaysItems.another r q) = statement.ReadsItems.another (item_form r) (items_form q)

-- digits are literals
size_literal : (s : Size) → is_literal_extent (extent s) ≡ is_numbered s
size_literal (numbered digits) = refl
size_literal (named x) = refl

sizes_literal : (ss : List Size) → list_all is_literal_extent (map extent ss) ≡ list_all is_numbered ss
sizes_literal [] = refl
sizes_literal (s ∷ ss) = ap (λ (b : Bool). b && list_all is_literal_extent (map extent ss)) (size_literal s) ∙ ap (λ (b : Bool). is_numbered s && b) (sizes_literal ss)

pub items_literal : (is : List Declared) → have_literals (map item is) ≡ are_numbered is
items_literal [] = refl
items_literal (i ∷ is) = ap (λ (b : Bool). b && have_literals (map item is)) (sizes_literal i.sizes) ∙ ap (λ (b : Bool). list_all is_numbered i.sizes && b) (items_literal is)

common_form : {ts : List Lexeme} {b : List ℕ} {is : List Declared} → SaysCommon ts b is → ReadsCommon ts b (map item is)
common_form (says.SaysCommon.block {is = is} r e) = statement.ReadsCommon.block (items_form r) (items_literal is ∙ e)

-- loops
range_form : {ts : List Lexeme} {b : Bounds} → SaysBounds ts b → (r : Range) → range b ≡ Some r → ReadsRange ts r
range_form (by_one {x = x} {ts = ts} {a = a} {b = b} d e) r h =
    let k = both_some (λ (ends : Term × Term) c. record { counter = plain x; from = ends.0; to = ends.1; by = c }) (with_both (λ from to. Some (from, to)) (tree a) (tree b)) (Some (lit (pos 1))) r h in
    let j = both_some {C = Term × Term} (λ from to. (from, to)) (tree a) (tree b) k.0 k.2 in
    let one : lit (pos 1) ≡ k.1 = cc in
    let made : ReadsRange (Named x ∷ Mark Equals ∷ ts) (record { counter = plain x; from = j.0; to = j.1; by = lit (pos 1) }) = statement.by_one (a, d, j.2) (b, e, j.3) in
    let same : record { counter = plain x; from = j.0; to = j.1; by = lit (pos 1) } ≡ r = ap (λ (t : Term). record { counter = plain x; from = j.0; to = j.1; by = t }) one ∙ ap (λ (p : Term × Term). record { counter = plain x; from = p.0; to = p.1; by = k.1 }) j.4 ∙ k.4 in
    subst (ReadsRange (Named x ∷ Mark Equals ∷ ts)) same made
range_form (by_step {x = x} {ts = ts} {a = a} {b = b} {c = c} d e f) r h =
    let k = both_some (λ (ends : Term × Term) c. record { counter = plain x; from = ends.0; to = ends.1; by = c }) (with_both (λ from to. Some (from, to)) (tree a) (tree b)) (tree c) r h in
    let j = both_some {C = Term × Term} (λ from to. (from, to)) (tree a) (tree b) k.0 k.2 in
    let made : ReadsRange (Named x ∷ Mark Equals ∷ ts) (record { counter = plain x; from = j.0; to = j.1; by = k.1 }) = statement.by_step (a, d, j.2) (b, e, j.3) (c, f, k.3) in
    let same : record { counter = plain x; from = j.0; to = j.1; by = k.1 } ≡ r = ap (λ (p : Term × Term). record { counter = plain x; from = p.0; to = p.1; by = k.1 }) j.4 ∙ k.4 in
    subst (ReadsRange (Named x ∷ Mark Equals ∷ ts)) same made

do_form : {ts : List Lexeme} {p : Phrase} → SaysDo ts p → (mark : trees.Mark) (f : Form) → form mark p ≡ Some f → ReadsForm mark Do ts f
do_form {ts} (says.unlabelled {b = b} g) mark f h = let k = map_some (λ r. opens_do None r mark) (range b) f h in subst (ReadsForm mark Do ts) k.2 (reads.begins (statement.unlabelled (range_form g k.0 k.1)))
do_form (says.labelled {digits = ds} {ts = ts} {b = b} g) mark f h = let k = map_some (λ r. opens_do (Some (number_of ds)) r mark) (range b) f h in subst (ReadsForm mark Do (Digits ds ∷ ts)) k.2 (reads.begins (statement.labelled (range_form g k.0 k.1)))
do_form (says.labelled_comma {digits = ds} {ts = ts} {b = b} g) mark f h = let k = map_some (λ r. opens_do (Some (number_of ds)) r mark) (range b) f h in subst (ReadsForm mark Do (Digits ds ∷ Mark Comma ∷ ts)) k.2 (reads.begins (statement.labelled_comma (range_form g k.0 k.1)))

-- guards
guard_form : {ts rest : List Lexeme} {c : Condition} → SaysGuard ts rest c → (t : Test) → test c ≡ Some t → ReadsGuard ts rest t
guard_form (guard {c = c} d) t h = statement.guard (c, d, h)

guarded_form : {ts : List Lexeme} {d : Deed} → SaysGuarded ts d → (a : Act) → act d ≡ Some a → ReadsGuarded ts a
guarded_form (says.SaysGuarded.assigned g) a h = statement.assigned (assignment_form g a h)
guarded_form (says.SaysGuarded.called g) a h = statement.calls (call_form g a h)

-- only a DO has a directive before it
without_mark : {kind : Kind} {mark : trees.Mark} {ts : List Lexeme} (f : Form) → (mark ≡ unmarked) ⊎ (kind ≡ Do) → (kind ≡ Do → ⊥) → ReadsForm unmarked kind ts f → ReadsForm mark kind ts f
without_mark {kind} {mark} {ts} f (inl e) k h = subst (λ m. ReadsForm m kind ts f) (sym e) h
without_mark f (inr e) k h = absurd (k e)

does_form : {kind : Kind} {mark : trees.Mark} {ts : List Lexeme} (d : Deed) (f : Form) → (mark ≡ unmarked) ⊎ (kind ≡ Do) → (kind ≡ Do → ⊥) → ((a : Act) → act d ≡ Some a → ReadsForm unmarked kind ts (simple a)) → option_map simple (act d) ≡ Some f → ReadsForm mark kind ts f
does_form {kind} {mark} {ts} d f m k rule h = let j = map_some simple (act d) f h in subst (ReadsForm mark kind ts) j.2 (without_mark (simple j.0) m k (rule j.0 j.1))

plain_form : {kind : Kind} {mark : trees.Mark} {ts : List Lexeme} (g f : Form) → (mark ≡ unmarked) ⊎ (kind ≡ Do) → (kind ≡ Do → ⊥) → ReadsForm unmarked kind ts g → Some g ≡ Some f → ReadsForm mark kind ts f
plain_form {kind} {mark} {ts} g f m k r h = let e : g ≡ f = cc in subst (ReadsForm mark kind ts) e (without_mark g m k r)

-- the form of what the lexemes of a statement say is one that they have
pub form_reads : {mark : trees.Mark} {kind : Kind} {ts : List Lexeme} {p : Phrase} → Says kind ts p → (f : Form) → form mark p ≡ Some f → (mark ≡ unmarked) ⊎ (kind ≡ Do) → ReadsForm mark kind ts f
form_reads (says.heading {x = x} {dummies = dummies} g) f h m = plain_form (reads.subroutine x dummies) f m (λ e. cc) (reads.heading g) h
form_reads says.implicit f h m = plain_form reads.implicit_none f m (λ e. cc) reads.implicit h
form_reads (says.declaration {is = is} g) f h m = plain_form (integers (map item is)) f m (λ e. cc) (reads.declaration (items_form g)) h
form_reads (says.shared {b = b} {is = is} g) f h m = plain_form (common b (map item is)) f m (λ e. cc) (reads.shared (common_form g)) h
form_reads (says.Says.assigned {d = d} g) f h m = does_form d f m (λ e. cc) (λ a k. reads.ReadsForm.assigned (assignment_form g a k)) h
form_reads (says.Says.called {d = d} g) f h m = does_form d f m (λ e. cc) (λ a k. reads.calls (call_form g a k)) h
form_reads {mark} (says.guarded {ts = ts} {c = c} {d = d} g r) f h m = let k = both_some logical (test c) (act d) f h in subst (ReadsForm mark LogicalIf ts) k.4 (without_mark (logical k.0 k.1) m (λ e. cc) (reads.guarded (guard_form g k.0 k.2) (guarded_form r k.1 k.3)))
form_reads {mark} (says.begins g) f h m = do_form g mark f h
form_reads {mark} (says.tests_first {ts = ts} {c = c} g) f h m = let k = map_some opens_while (test c) f h in subst (ReadsForm mark DoWhile ts) k.2 (without_mark (opens_while k.0) m (λ e. cc) (reads.ReadsForm.repeats (guard_form g k.0 k.1)))
form_reads says.finished f h m = plain_form reads.end_do f m (λ e. cc) reads.finished h
form_reads says.continued f h m = plain_form reads.go_on f m (λ e. cc) reads.continued h
form_reads {mark} (says.tests {ts = ts} {c = c} g) f h m = let k = map_some opens_if (test c) f h in subst (ReadsForm mark BlockIf ts) k.2 (without_mark (opens_if k.0) m (λ e. cc) (reads.tests (guard_form g k.0 k.1)))
form_reads says.turned f h m = plain_form reads.otherwise f m (λ e. cc) reads.turns h
form_reads {mark} (says.tests_again {ts = ts} {c = c} g) f h m = let k = map_some otherwise_if (test c) f h in subst (ReadsForm mark ElseIf ts) k.2 (without_mark (otherwise_if k.0) m (λ e. cc) (reads.tests_again (guard_form g k.0 k.1)))
form_reads says.closed f h m = plain_form reads.end_if f m (λ e. cc) reads.closed h
form_reads says.returned f h m = plain_form reads.leaves f m (λ e. cc) reads.returned h
form_reads says.ended f h m = plain_form reads.ends f m (λ e. cc) reads.ended h
