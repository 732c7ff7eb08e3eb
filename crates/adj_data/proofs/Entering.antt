-- Entries item by item are the entries of the items.
use Rattle.std.proofs.Common.{◌≡◌, ℕ, Bool, true, false, List, [], ◌∷◌, ◌++◌, map, length, refl, sym, ap, subst, ◌∙◌, append_assoc, append-nil, arith, if◌then◌else◌}
use Rattle.std.specs.Prelude.{Option, Some, None, not, ◌||◌}
use Rattle.adj_tree.specs.Code.{name_eq}
use Rattle.adj_tree.proofs.Names.{name_same}
use Rattle.def_meaning.proofs.Booleans.{or_second}
use Rattle.def_text.specs.Line.{cut_lines, without_cr, next_number}
use Rattle.def_text.proofs.Cutting.{cut_lines-nil}
use Rattle.adj_data.specs.declared.data_error.DataError.{DataError}
use Rattle.adj_data.specs.declared.data_error.DataError.TheVariants as error
use Rattle.adj_data.specs.Items.{Item, items_with, items_of, texts_in, name_of, is_number, number_of_item}
use Rattle.adj_data.specs.Entries.{Entry, numbers_before, entries_of, with_number, with_item, with_items}
use Rattle.def_meaning.specs.Apart.{has_name}
use Rattle.adj_sets.proofs.NameSets.{has-behind}
use Rattle.adj_data.specs.Faults.{Fault, or_else, fault_at, number_code, name_code, item_code, items_fault, entries_fault}
use Rattle.adj_data.specs.Given.{IsFirstFault}

-- ---- one item more

-- a name behind items ends the numbers
numbers-name : (ws : List Item) (w : Item) → w.begins ≡ true → numbers_before (ws ++ (w ∷ [])) ≡ numbers_before ws
numbers-name [] w e = ap (λ b. if b then [] else number_of_item w.text ∷ []) e
numbers-name (v ∷ ws) w e = ap (λ zs. if v.begins then [] else number_of_item v.text ∷ zs) (numbers-name ws w e)

entries-name : (ws : List Item) (w : Item) → w.begins ≡ true → entries_of (ws ++ (w ∷ [])) ≡ entries_of ws ++ (record { name = name_of w.text; line = w.line; numbers = [] } ∷ [])
entries-name [] w e = ap (λ b. if b then record { name = name_of w.text; line = w.line; numbers = [] } ∷ [] else []) e
entries-name (v ∷ ws) w e = go (entries-name ws w e) (v.begins)
  where
    go : entries_of (ws ++ (w ∷ [])) ≡ entries_of ws ++ (record { name = name_of w.text; line = w.line; numbers = [] } ∷ []) → (b : Bool) → (if b then record { name = name_of v.text; line = v.line; numbers = numbers_before (ws ++ (w ∷ [])) } ∷ entries_of (ws ++ (w ∷ [])) else entries_of (ws ++ (w ∷ [])))
        ≡ (if b then record { name = name_of v.text; line = v.line; numbers = numbers_before ws } ∷ entries_of ws else entries_of ws) ++ (record { name = name_of w.text; line = w.line; numbers = [] } ∷ [])
    go ih true = λ i. record { name = name_of v.text; line = v.line; numbers = numbers-name ws w e i } ∷ ih i
    go ih false = ih

-- the entries of items whose first ones go on with an entry
abbrev after : Entry → List Item → List Entry
after e ws = record e { numbers = e.numbers ++ numbers_before ws } ∷ entries_of ws

-- a number goes on with the last of them
after-number : (e : Entry) (ws : List Item) (w : Item) → w.begins ≡ false → after e (ws ++ (w ∷ [])) ≡ with_number (number_of_item w.text) (after e ws)
after-number e [] w n =
    (λ i. record e { numbers = e.numbers ++ (if n i then [] else number_of_item w.text ∷ []) } ∷ (if n i then record { name = name_of w.text; line = w.line; numbers = [] } ∷ [] else []))
    ∙ ap (λ zs. record e { numbers = zs ++ (number_of_item w.text ∷ []) } ∷ []) (sym (append-nil e.numbers))
after-number e (v ∷ ws) w n = go (λ f. after-number f ws w n) (v.begins)
  where
    go : ((f : Entry) → after f (ws ++ (w ∷ [])) ≡ with_number (number_of_item w.text) (after f ws)) → (b : Bool) → (record e { numbers = e.numbers ++ (if b then [] else number_of_item v.text ∷ numbers_before (ws ++ (w ∷ []))) } ∷ (if b then record { name = name_of v.text; line = v.line; numbers = numbers_before (ws ++ (w ∷ [])) } ∷ entries_of (ws ++ (w ∷ [])) else entries_of (ws ++ (w ∷ []))))
        ≡ with_number (number_of_item w.text) (record e { numbers = e.numbers ++ (if b then [] else number_of_item v.text ∷ numbers_before ws) } ∷ (if b then record { name = name_of v.text; line = v.line; numbers = numbers_before ws } ∷ entries_of ws else entries_of ws))
    go ih true = ap (λ es. record e { numbers = e.numbers ++ [] } ∷ es) (ih (record { name = name_of v.text; line = v.line; numbers = [] }))
    go ih false =
        (λ i. record e { numbers = sym (append_assoc e.numbers (number_of_item v.text ∷ []) (numbers_before (ws ++ (w ∷ [])))) i } ∷ entries_of (ws ++ (w ∷ [])))
        ∙ ih (record e { numbers = e.numbers ++ (number_of_item v.text ∷ []) })
        ∙ ap (λ zs. with_number (number_of_item w.text) (record e { numbers = zs } ∷ entries_of ws)) (append_assoc e.numbers (number_of_item v.text ∷ []) (numbers_before ws))

entries-number : (ws : List Item) (w : Item) → w.begins ≡ false → entries_of (ws ++ (w ∷ [])) ≡ with_number (number_of_item w.text) (entries_of ws)
entries-number [] w n = ap (λ b. if b then record { name = name_of w.text; line = w.line; numbers = [] } ∷ [] else []) n
entries-number (v ∷ ws) w n = go (entries-number ws w n) (v.begins)
  where
    go : entries_of (ws ++ (w ∷ [])) ≡ with_number (number_of_item w.text) (entries_of ws) → (b : Bool) → (if b then record { name = name_of v.text; line = v.line; numbers = numbers_before (ws ++ (w ∷ [])) } ∷ entries_of (ws ++ (w ∷ [])) else entries_of (ws ++ (w ∷ [])))
        ≡ with_number (number_of_item w.text) (if b then record { name = name_of v.text; line = v.line; numbers = numbers_before ws } ∷ entries_of ws else entries_of ws)
    go ih true = after-number (record { name = name_of v.text; line = v.line; numbers = [] }) ws w n
    go ih false = ih

-- the entries of items and one more
entries-more : (ws : List Item) (w : Item) → entries_of (ws ++ (w ∷ [])) ≡ with_item (entries_of ws) w
entries-more ws w = go (w.begins) refl
  where
    go : (b : Bool) → w.begins ≡ b → entries_of (ws ++ (w ∷ [])) ≡ (if b then entries_of ws ++ (record { name = name_of w.text; line = w.line; numbers = [] } ∷ []) else with_number (number_of_item w.text) (entries_of ws))
    go true e = entries-name ws w e
    go false e = entries-number ws w e

-- ---- all items

pub with-append : (es : List Entry) (ws vs : List Item) → with_items es (ws ++ vs) ≡ with_items (with_items es ws) vs
with-append es [] vs = refl
with-append es (w ∷ ws) vs = with-append (with_item es w) ws vs

behind-items : (before ws : List Item) → with_items (entries_of before) ws ≡ entries_of (before ++ ws)
behind-items before [] = ap entries_of (sym (append-nil before))
behind-items before (w ∷ ws) =
    ap (λ es. with_items es ws) (sym (entries-more before w)) ∙ behind-items (before ++ (w ∷ [])) ws ∙ ap entries_of (append_assoc before (w ∷ []) ws)

-- the entries of items, item by item
pub entries_made : (ws : List Item) → with_items [] ws ≡ entries_of ws
entries_made ws = behind-items [] ws

-- ---- faults

pub fault-append : (dummies : List (List ℕ)) (es : List Entry) (ws vs : List Item) → entries_fault dummies es (ws ++ vs) ≡ or_else (entries_fault dummies es ws) (entries_fault dummies (with_items es ws) vs)
fault-append dummies es [] vs = refl
fault-append dummies es (w ∷ ws) vs = go (fault-append dummies (with_item es w) ws vs) (fault_at w.line (item_code dummies es w))
  where
    go : entries_fault dummies (with_item es w) (ws ++ vs) ≡ or_else (entries_fault dummies (with_item es w) ws) (entries_fault dummies (with_items (with_item es w) ws) vs) → (f : Option Fault) → or_else f (entries_fault dummies (with_item es w) (ws ++ vs)) ≡ or_else (or_else f (entries_fault dummies (with_item es w) ws)) (entries_fault dummies (with_items (with_item es w) ws) vs)
    go ih (Some f) = refl
    go ih None = ih

faults-made : (dummies : List (List ℕ)) (before ws : List Item) → entries_fault dummies (entries_of before) ws ≡ items_fault dummies before ws
faults-made dummies before [] = refl
faults-made dummies before (w ∷ ws) =
    ap (or_else (fault_at w.line (item_code dummies (entries_of before) w)))
    (ap (λ es. entries_fault dummies es ws) (sym (entries-more before w)) ∙ faults-made dummies (before ++ (w ∷ [])) ws)

-- the first fault of items, by the entries that were made
pub fault_made : (dummies : List (List ℕ)) (ws : List Item) → entries_fault dummies [] ws ≡ items_fault dummies [] ws
fault_made dummies ws = faults-made dummies [] ws

-- ---- line by line

-- a line without a fault was read
pub line_passed : (marks : Bool) (dummies : List (List ℕ)) (es new : List Entry) (n num : ℕ) (text line : List ℕ) (ls lines : List (List ℕ)) → lines ≡ text ∷ ls → num ≡ next_number n → line ≡ without_cr text
    → entries_fault dummies es (items_with marks num true (texts_in line)) ≡ None → new ≡ with_items es (items_with marks num true (texts_in line))
    → (entries_fault dummies new (items_of marks num ls) ≡ entries_fault dummies es (items_of marks n lines)) × (with_items new (items_of marks num ls) ≡ with_items es (items_of marks n lines))
line_passed marks dummies es new n num text line ls lines cut number whole none made =
    let this = items_with marks (next_number n) true (texts_in (without_cr text)) in
    let later = items_of marks (next_number n) ls in
    let same : items_with marks num true (texts_in line) ≡ this = (λ k. items_with marks (number k) true (texts_in (whole k))) in
    let moved : new ≡ with_items es this = made ∙ ap (with_items es) same in (
      (λ k. entries_fault dummies (moved k) (items_of marks (number k) ls)) ∙ ap (λ f. or_else f (entries_fault dummies (with_items es this) later)) (sym none ∙ ap (entries_fault dummies es) same)
          ∙ sym (fault-append dummies es this later) ∙ ap (λ z. entries_fault dummies es (items_of marks n z)) (sym cut),
      (λ k. with_items (moved k) (items_of marks (number k) ls)) ∙ sym (with-append es this later) ∙ ap (λ z. with_items es (items_of marks n z)) (sym cut),
    )

-- the first of two faults is first
pub fault_first : (e : DataError) (f other : Option Fault) → IsFirstFault e f → IsFirstFault e (or_else f other)
fault_first (error.Data c n) f other h = ap (λ g. or_else g other) h
fault_first error.Memory f other h = tt

-- the fault of a line is that of the lines from it on
pub line_fault : (marks : Bool) (e : DataError) (dummies : List (List ℕ)) (es : List Entry) (n num : ℕ) (text line : List ℕ) (ls lines : List (List ℕ)) → lines ≡ text ∷ ls → num ≡ next_number n → line ≡ without_cr text
    → IsFirstFault e (entries_fault dummies es (items_with marks num true (texts_in line))) → IsFirstFault e (entries_fault dummies es (items_of marks n lines))
line_fault marks e dummies es n num text line ls lines cut number whole h =
    let this = items_with marks (next_number n) true (texts_in (without_cr text)) in
    let later = items_of marks (next_number n) ls in
    let same : items_with marks num true (texts_in line) ≡ this = (λ k. items_with marks (number k) true (texts_in (whole k))) in
    let here = subst (λ ws. IsFirstFault e (entries_fault dummies es ws)) same h in
    let path : or_else (entries_fault dummies es this) (entries_fault dummies (with_items es this) later) ≡ entries_fault dummies es (items_of marks n lines) = sym (fault-append dummies es this later) ∙ ap (λ z. entries_fault dummies es (items_of marks n z)) (sym cut) in
    subst (IsFirstFault e) path (fault_first e (entries_fault dummies es this) (entries_fault dummies (with_items es this) later) here)

-- no line, no item
pub nothing_left : (marks : Bool) (n : ℕ) (l : List ℕ) → length l ≡ 0 → items_of marks n (cut_lines l) ≡ []
nothing_left marks n [] h = ap (items_of marks n) cut_lines-nil
nothing_left marks n (c ∷ cs) h = absurd (omega arith)

-- ---- the same names

name_code_same : (d f : List (List ℕ)) → ((x : List ℕ) → has_name x d ≡ has_name x f) → (es : List Entry) (x : List ℕ) → name_code d es x ≡ name_code f es x
name_code_same d f h es x = ap (λ b. if not b then Some 2 else (if has_name x (map (λ e. e.name) es) then Some 3 else None)) (h x)

-- faults of items depend on which names there are alone
pub faults_same : (d f : List (List ℕ)) → ((x : List ℕ) → has_name x d ≡ has_name x f) → (es : List Entry) (ws : List Item) → entries_fault d es ws ≡ entries_fault f es ws
faults_same d f h es [] = refl
faults_same d f h es (w ∷ ws) =
    let code : item_code d es w ≡ item_code f es w = (λ k. if w.begins then (if w.leads then name_code_same d f h es (name_of w.text) k else Some 1) else (if is_number w.text then number_code es w.text else Some 1)) in
    (λ k. or_else (fault_at w.line (code k)) (faults_same d f h (with_item es w) ws k))

or_none : (b : Bool) → (b || false) ≡ b
or_none true = refl
or_none false = refl

-- a name more in a set
pub stands_more : (x y : List ℕ) (set names : List (List ℕ)) → ((z : List ℕ) → has_name z set ≡ has_name z names) → has_name x (if has_name y set then set else set ++ (y ∷ [])) ≡ has_name x (names ++ (y ∷ []))
stands_more x y set names h = go (has_name y set) refl ∙ sym (has-behind x names (y ∷ []))
  where
    both : (b : Bool) → name_eq x y ≡ b → has_name y set ≡ true → has_name x set ≡ (has_name x names || (b || false))
    both true e there = ap (λ z. has_name z set) (name_same x y e) ∙ there ∙ sym (or_second (has_name x names) true refl)
    both false e there = h x ∙ sym (or_none (has_name x names))

    go : (b : Bool) → has_name y set ≡ b → has_name x (if b then set else set ++ (y ∷ [])) ≡ (has_name x names || (name_eq x y || false))
    go true e = both (name_eq x y) refl e
    go false e = has-behind x set (y ∷ []) ∙ ap (λ b. b || (name_eq x y || false)) (h x)
