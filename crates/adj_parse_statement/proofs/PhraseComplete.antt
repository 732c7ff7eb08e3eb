-- PhraseComplete: what the lexemes of a statement say is read.
use Rattle.std.proofs.Common.{◌≡◌, ◌≤◌, ℕ, Bool, cond, List, [], ◌∷◌, ◌++◌, Option, Some, None, option_map, refl, ap, ◌∙◌, append_assoc, arith}
use Rattle.def_text.proofs.Unique.{reads_itself}
use Rattle.def_text.specs.Condition.{Condition}
use Rattle.def_text.specs.Form.{subroutine}
use Rattle.def_text.specs.Grammar.{Syntax, Arguments, only, beside, count_of, Symbol, Derives, literal, name, group, application, primary, power, factor, product, term, sign, sum, adds, subtracts, DerivesAll, single, another}
use Rattle.def_text.specs.Machine.{Stops}
use Rattle.def_text.specs.Statement.{ReadsNames, ReadsHead}
use Rattle.def_text.specs.Statement as statement
use Rattle.def_text.specs.Lexeme.{Lexeme, Named, Mark}
use Rattle.def_text.specs.declared.stated.Kind.{Kind}
use Rattle.def_text.specs.declared.token.TokenKind.TheVariants.{Right, Comma, Equals}
use Rattle.adj_parse_expression.proofs.ConditionUnique.{test_reads_itself}
use Rattle.adj_parse_expression.specs.Reading.{read_expression}
use Rattle.adj_parse_statement.specs.Phrase.{Entry, Deed, assigns, calls, Size, Declared, Bounds, are_numbered, Phrase, plainly, declares, shares, does, guards, repeats, goes_while, opens, turns, SaysPlace, SaysAssignment, SaysCall, SaysSize, SaysItem, SaysItems, SaysCommon, SaysBounds, by_one, by_step, SaysDo, SaysGuard, guard, SaysGuarded, Says}
use Rattle.adj_parse_statement.specs.Phrase as says
use Rattle.adj_parse_statement.specs.Phrases.{Read, ◌>>=◌, name_at, digits_at, behind_left, behind_right, behind_comma, behind_equals, behind_call, ended, members_behind, with_last, read_arguments, second_subscript, read_subscripts, read_place, read_assignment, actuals_in, read_actuals, read_call, read_names, dummies_in, read_dummies, read_head, size_at, second_size, read_sizes, item_behind, read_item, read_items, sharing, read_common, read_step, read_bounds, label_behind, without_comma, read_label, read_do, read_guard, guarded_behind, read_guarded, read_logical, read_test, phrase_of}
use Rattle.adj_parse_statement.proofs.Lists.{names_on}
use Rattle.adj_parse_statement.proofs.Members.{members_on}
use Rattle.adj_parse_statement.proofs.Shorter.{read_expression-shortens, read_item-shortens}

-- no expression begins with a right parenthesis
begins : {symbol : Symbol} {ts rest : List Lexeme} {s : Syntax} → Derives symbol ts rest s → behind_right ts ≡ None
begins literal = refl
begins name = refl
begins (group r) = refl
begins (application r n) = refl
begins (primary r) = begins r
begins (power r q) = begins r
begins (factor r) = begins r
begins (product m r q) = begins r
begins (term r) = begins r
begins (sign adds r) = refl
begins (sign subtracts r) = refl
begins (sum a r q) = begins r

begin_all : {ts rest : List Lexeme} {all : Arguments} → DerivesAll ts rest all → behind_right ts ≡ None
begin_all (single r) = begins r
begin_all (another r q) = begin_all r

-- expressions separated by commas
arguments_read : {ts rest : List Lexeme} {all : Arguments} → DerivesAll ts rest all → Stops rest → read_arguments ts ≡ members_behind beside read_expression all rest
unfolding read_arguments
arguments_read {ts} {rest} (single {s = s} r) stop = ap (λ (o : Read Syntax). o >>= λ s. members_behind beside read_expression (only s.0) s.1) (reads_itself ts rest s r stop)
arguments_read {ts} {rest} (another {us = us} {front = front} {s = s} r q) stop =
    arguments_read r refl
    ∙ members_on beside read_expression read_expression-shortens front (Mark Comma ∷ us)
    ∙ ap (λ (o : Read Syntax). o >>= λ s. members_behind beside read_expression (beside front s.0) s.1) (reads_itself us rest s q stop)

all_read : {ts rest : List Lexeme} {all : Arguments} → DerivesAll ts (Mark Right ∷ rest) all → read_arguments ts ≡ Some (all, Mark Right ∷ rest)
all_read {rest = rest} {all = all} r = arguments_read r refl ∙ members_on beside read_expression read_expression-shortens all (Mark Right ∷ rest)

count_of-pos : (all : Arguments) → 1 ≤ count_of all
count_of-pos (only s) = omega arith
count_of-pos (beside front s) = omega arith

-- one or two
subscripts_read : {ts rest : List Lexeme} {all : Arguments} → DerivesAll ts (Mark Right ∷ rest) all → count_of all ≤ 2 → read_subscripts ts ≡ Some (all, Mark Right ∷ rest)
unfolding read_subscripts
subscripts_read {ts} {rest} (single {s = s} r) n = ap (λ (o : Read Syntax). o >>= λ a. second_subscript a.0 a.1 (behind_comma a.1)) (reads_itself ts (Mark Right ∷ rest) s r refl)
subscripts_read {ts} {rest} (another {us = us} {s = t} (single {s = s} r) q) n =
    ap (λ (o : Read Syntax). o >>= λ a. second_subscript a.0 a.1 (behind_comma a.1)) (reads_itself ts (Mark Comma ∷ us) s r refl)
    ∙ ap (λ (o : Read Syntax). option_map {U = Arguments × List Lexeme} (λ b. (beside (only s) b.0, b.1)) o) (reads_itself us (Mark Right ∷ rest) t q refl)
subscripts_read (another (another {front = front} r p) q) n = absurd (omega (arith, count_of-pos front))

place_read : {ts us : List Lexeme} {p : Entry} → SaysPlace ts (Mark Equals ∷ us) p → read_place ts ≡ Some (p, Mark Equals ∷ us)
unfolding read_place
place_read says.scalar = refl
place_read (says.element {x = x} d n) = ap (λ (o : Read Arguments). o >>= λ s. behind_right s.1 >>= λ us. Some (record { name = x; list = Some s.0 }, us)) (subscripts_read d n)

assignment_read : {ts : List Lexeme} {d : Deed} → SaysAssignment ts d → read_assignment ts ≡ Some d
unfolding read_assignment
assignment_read (says.assignment {us = us} {p = p} {e = e} h r) =
    ap (λ (o : Read Entry). o >>= λ p. behind_equals p.1 >>= λ us. read_expression us >>= λ e. ended (assigns p.0 e.0) e.1) (place_read h)
    ∙ ap (λ (o : Read Syntax). o >>= λ e. ended (assigns p e.0) e.1) (reads_itself us [] e r tt)

call_read : {ts : List Lexeme} {d : Deed} → SaysCall ts d → read_call ts ≡ Some d
unfolding read_call read_actuals
call_read says.alone = refl
call_read says.empty = refl
call_read (says.actuals {x = x} {ts = ts} r) =
    ap (λ o. actuals_in ts o >>= λ l. Some (calls (record { name = x; list = l }))) (begin_all r)
    ∙ ap (λ (o : Read Arguments). (o >>= λ all. behind_right all.1 >>= λ rest. ended (Some all.0) rest) >>= λ l. Some (calls (record { name = x; list = l }))) (all_read r)

-- names
names_behind : {ts rest : List Lexeme} {xs : List (List ℕ)} → ReadsNames ts rest xs → (before : List (List ℕ)) → members_behind with_last name_at before (Mark Comma ∷ ts) ≡ members_behind with_last name_at (before ++ xs) rest
names_behind (statement.last {x = x} {rest = rest}) before = names_on before (Mark Comma ∷ Named x ∷ rest)
names_behind (statement.another {x = x} {ts = ts} {rest = rest} {xs = xs} r) before =
    names_on before (Mark Comma ∷ Named x ∷ Mark Comma ∷ ts)
    ∙ names_behind r (before ++ x ∷ [])
    ∙ ap (λ l. members_behind with_last name_at l rest) (append_assoc before (x ∷ []) xs)

names_read : {ts rest : List Lexeme} {xs : List (List ℕ)} → ReadsNames ts (Mark Right ∷ rest) xs → read_names ts ≡ Some (xs, Mark Right ∷ rest)
unfolding read_names
names_read {rest = rest} (statement.last {x = x}) = names_on (x ∷ []) (Mark Right ∷ rest)
names_read {rest = rest} (statement.another {x = x} {xs = xs} r) = names_behind r (x ∷ []) ∙ names_on (x ∷ xs) (Mark Right ∷ rest)

name_begins : {ts rest : List Lexeme} {xs : List (List ℕ)} → ReadsNames ts rest xs → behind_right ts ≡ None
name_begins statement.last = refl
name_begins (statement.another r) = refl

head_read : {ts : List Lexeme} {x : List ℕ} {dummies : List (List ℕ)} → ReadsHead ts x dummies → read_head ts ≡ Some (subroutine x dummies)
unfolding read_head read_dummies
head_read statement.alone = refl
head_read statement.empty = refl
head_read (statement.dummies {x = x} {ts = ts} r) =
    ap (λ o. dummies_in ts o >>= λ l. Some (subroutine x l)) (name_begins r)
    ∙ ap (λ (o : Read (List (List ℕ))). (o >>= λ all. behind_right all.1 >>= λ rest. ended all.0 rest) >>= λ l. Some (subroutine x l)) (names_read r)

-- items
size_read : {ts rest : List Lexeme} {a : Size} → SaysSize ts rest a → size_at ts ≡ Some (a, rest)
unfolding size_at
size_read says.literal = refl
size_read says.name = refl

item_read : {ts rest : List Lexeme} {i : Declared} → SaysItem ts rest i → behind_left rest ≡ None → read_item ts ≡ Some (i, rest)
unfolding read_item read_sizes
item_read (says.scalar {x = x} {rest = rest}) h = ap (item_behind x rest) h
item_read (says.row {x = x} r) h = ap (λ (o : Read Size). (o >>= λ a. second_size a.0 a.1 (behind_comma a.1)) >>= λ s. behind_right s.1 >>= λ us. Some (record { name = x; sizes = s.0 }, us)) (size_read r)
item_read (says.table {x = x} {a = a} r q) h =
    ap (λ (o : Read Size). (o >>= λ a. second_size a.0 a.1 (behind_comma a.1)) >>= λ s. behind_right s.1 >>= λ us. Some (record { name = x; sizes = s.0 }, us)) (size_read r)
    ∙ ap (λ (o : Read Size). option_map {U = List Size × List Lexeme} (λ b. (a ∷ b.0 ∷ [], b.1)) o >>= λ s. behind_right s.1 >>= λ us. Some (record { name = x; sizes = s.0 }, us)) (size_read q)

items_behind : {ts : List Lexeme} {is : List Declared} → SaysItems ts is → (before : List Declared) → members_behind with_last read_item before (Mark Comma ∷ ts) ≡ Some (before ++ is, [])
items_behind (says.last {ts = ts} {i = i} r) before =
    members_on with_last read_item read_item-shortens before (Mark Comma ∷ ts)
    ∙ ap (λ (o : Read Declared). o >>= λ i. members_behind with_last read_item (before ++ i.0 ∷ []) i.1) (item_read r refl)
    ∙ members_on with_last read_item read_item-shortens (before ++ i ∷ []) []
items_behind (says.another {ts = ts} {us = us} {i = i} {is = is} r q) before =
    members_on with_last read_item read_item-shortens before (Mark Comma ∷ ts)
    ∙ ap (λ (o : Read Declared). o >>= λ i. members_behind with_last read_item (before ++ i.0 ∷ []) i.1) (item_read r refl)
    ∙ items_behind q (before ++ i ∷ [])
    ∙ ap (λ (l : List Declared). Some (l, [])) (append_assoc before (i ∷ []) is)

items_read : {ts : List Lexeme} {is : List Declared} → SaysItems ts is → read_items ts ≡ Some is
unfolding read_items
items_read (says.last {ts = ts} {i = i} r) =
    ap (λ (o : Read Declared). o >>= λ i. members_behind with_last read_item (i.0 ∷ []) i.1 >>= λ all. ended all.0 all.1) (item_read r refl)
    ∙ ap (λ (o : Read (List Declared)). o >>= λ all. ended all.0 all.1) (members_on with_last read_item read_item-shortens (i ∷ []) [])
items_read (says.another {ts = ts} {us = us} {i = i} {is = is} r q) =
    ap (λ (o : Read Declared). o >>= λ i. members_behind with_last read_item (i.0 ∷ []) i.1 >>= λ all. ended all.0 all.1) (item_read r refl)
    ∙ ap (λ (o : Read (List Declared)). o >>= λ all. ended all.0 all.1) (items_behind q (i ∷ []))

-- the items of a block
common_read : {ts : List Lexeme} {b : List ℕ} {is : List Declared} → SaysCommon ts b is → read_common ts ≡ Some (b, is)
unfolding read_common
common_read (says.SaysCommon.block {b = b} {is = is} r e) =
    ap (λ (o : Option (List Declared)). o >>= sharing b) (items_read r) ∙ ap (λ (n : Bool). cond n (Some (b, is)) None) e

-- loops
bounds_read : {ts : List Lexeme} {b : Bounds} → SaysBounds ts b → read_bounds ts ≡ Some b
unfolding read_bounds read_step
bounds_read (by_one {x = x} {ts = ts} {us = us} {a = a} {b = b} r q) =
    ap (λ (o : Read Syntax). o >>= λ a. behind_comma a.1 >>= λ vs. read_expression vs >>= λ b. read_step b.1 >>= λ c. Some (record { counter = x; from = a.0; to = b.0; by = c })) (reads_itself ts (Mark Comma ∷ us) a r refl)
    ∙ ap (λ (o : Read Syntax). o >>= λ b. read_step b.1 >>= λ c. Some (record { counter = x; from = a; to = b.0; by = c })) (reads_itself us [] b q tt)
bounds_read (by_step {x = x} {ts = ts} {us = us} {vs = vs} {a = a} {b = b} {c = c} r q p) =
    ap (λ (o : Read Syntax). o >>= λ a. behind_comma a.1 >>= λ vs. read_expression vs >>= λ b. read_step b.1 >>= λ c. Some (record { counter = x; from = a.0; to = b.0; by = c })) (reads_itself ts (Mark Comma ∷ us) a r refl)
    ∙ ap (λ (o : Read Syntax). o >>= λ b. read_step b.1 >>= λ c. Some (record { counter = x; from = a; to = b.0; by = c })) (reads_itself us (Mark Comma ∷ vs) b q refl)
    ∙ ap (λ (o : Read Syntax). (o >>= λ c. ended (Some c.0) c.1) >>= λ c. Some (record { counter = x; from = a; to = b; by = c })) (reads_itself vs [] c p tt)

bounds_begin : {ts : List Lexeme} {b : Bounds} → SaysBounds ts b → (digits_at ts ≡ None) × (behind_comma ts ≡ None)
bounds_begin (by_one r q) = (refl, refl)
bounds_begin (by_step r q p) = (refl, refl)

do_read : {ts : List Lexeme} {p : Phrase} → SaysDo ts p → option_map (λ q. repeats q.0 q.1) (read_do ts) ≡ Some p
unfolding read_do read_label
do_read (says.unlabelled {ts = ts} {b = b} h) =
    ap (λ o. option_map (λ (q : Option (List ℕ) × Bounds). repeats q.0 q.1) (option_map (λ b. ((label_behind ts o).0, b)) (read_bounds (label_behind ts o).1))) (bounds_begin h).0
    ∙ ap (λ o. option_map (λ (q : Option (List ℕ) × Bounds). repeats q.0 q.1) (option_map (λ b. (None, b)) o)) (bounds_read h)
do_read (says.labelled {digits = digits} {ts = ts} {b = b} h) =
    ap (λ o. option_map (λ (q : Option (List ℕ) × Bounds). repeats q.0 q.1) (option_map (λ b. (Some digits, b)) (read_bounds (without_comma ts o)))) (bounds_begin h).1
    ∙ ap (λ o. option_map (λ (q : Option (List ℕ) × Bounds). repeats q.0 q.1) (option_map (λ b. (Some digits, b)) o)) (bounds_read h)
do_read (says.labelled_comma {digits = digits} h) = ap (λ o. option_map (λ (q : Option (List ℕ) × Bounds). repeats q.0 q.1) (option_map (λ b. (Some digits, b)) o)) (bounds_read h)

-- guards
guard_read : {ts rest : List Lexeme} {c : Condition} → SaysGuard ts rest c → read_guard ts ≡ Some (c, rest)
unfolding read_guard
guard_read (guard {ts = ts} {rest = rest} {c = c} d) = ap (λ (o : Read Condition). o >>= λ c. behind_right c.1 >>= λ rest. Some (c.0, rest)) (test_reads_itself ts (Mark Right ∷ rest) c d refl)

test_read : {ts : List Lexeme} {c : Condition} → SaysGuard ts [] c → read_test ts ≡ Some c
unfolding read_test
test_read h = ap (λ (o : Read Condition). o >>= λ c. ended c.0 c.1) (guard_read h)

assignment_begins : {ts : List Lexeme} {d : Deed} → SaysAssignment ts d → behind_call ts ≡ None
assignment_begins (says.assignment says.scalar r) = refl
assignment_begins (says.assignment (says.element d n) r) = refl

guarded_read : {ts : List Lexeme} {d : Deed} → SaysGuarded ts d → read_guarded ts ≡ Some d
unfolding read_guarded
guarded_read (says.SaysGuarded.assigned {ts = ts} h) = ap (guarded_behind ts) (assignment_begins h) ∙ assignment_read h
guarded_read (says.SaysGuarded.called h) = call_read h

logical_read : {ts us : List Lexeme} {c : Condition} {d : Deed} → SaysGuard ts us c → SaysGuarded us d → read_logical ts ≡ Some (c, d)
unfolding read_logical
logical_read {c = c} g h =
    ap (λ (o : Read Condition). o >>= λ c. read_guarded c.1 >>= λ d. Some (c.0, d)) (guard_read g)
    ∙ ap (λ (o : Option Deed). o >>= λ d. Some (c, d)) (guarded_read h)

-- what the lexemes of a statement say is their phrase
pub phrase_read : {kind : Kind} {ws : List Lexeme} {p : Phrase} → Says kind ws p → phrase_of kind ws ≡ Some p
phrase_read (says.Says.heading h) = ap (option_map plainly) (head_read h)
phrase_read says.Says.implicit = refl
phrase_read (says.Says.declaration h) = ap (option_map declares) (items_read h)
phrase_read (says.Says.shared h) = ap (option_map (λ (p : List ℕ × List Declared). shares p.0 p.1)) (common_read h)
phrase_read (says.Says.assigned h) = ap (option_map does) (assignment_read h)
phrase_read (says.Says.called h) = ap (option_map does) (call_read h)
phrase_read (says.Says.guarded g h) = ap (option_map (λ (q : Condition × Deed). guards q.0 q.1)) (logical_read g h)
phrase_read (says.Says.begins h) = do_read h
phrase_read says.Says.finished = refl
phrase_read says.Says.continued = refl
phrase_read (says.Says.tests h) = ap (option_map opens) (test_read h)
phrase_read says.Says.turned = refl
phrase_read (says.Says.tests_first h) = ap (option_map goes_while) (test_read h)
phrase_read (says.Says.tests_again h) = ap (option_map turns) (test_read h)
phrase_read says.Says.closed = refl
phrase_read says.Says.returned = refl
phrase_read says.Says.ended = refl
