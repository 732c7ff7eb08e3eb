-- FormWritten: what the lexemes of a statement say is written, where its literals fit.
use Rattle.std.proofs.Common.{◌≡◌, ℕ, zero, suc, ◌≤◌, List, [], ◌∷◌, length, Option, Some, refl, sym, subst, ◌∙◌, arith}
use Rattle.std.specs.List.{All}
use Rattle.adj_tree.specs.Code.{Var, plain, Terms, none, more, Test, compare, negation, conjunction, disjunction, Act, Extent}
use Rattle.def_text.specs.Condition.{Condition, Part, DerivesCondition, comparison, group, plain as bare, not, item, and, whole, or, test, ReadsTest}
use Rattle.def_text.specs.Grammar.{tree}
use Rattle.def_text.specs.Statement as statements
use Rattle.def_text.specs.Statement.{ReadsPlace, ReadsAssignment, ReadsNames, ReadsHead, Item, ReadsExtent, ReadsItem, ReadsItems, ReadsCommon, as_place, as_name, as_value, as_beginning, as_count, as_action, as_nothing, runtime_call, called, called_as, ReadsCall, Range, ReadsRange, ReadsDo, ReadsGuard, ReadsGuarded}
use Rattle.def_text.specs.declared.token.TokenKind.TheVariants.{Right, Comma}
use Rattle.def_text.specs.Lexeme.{Lexeme, Mark}
use Rattle.def_text.specs.Written.{IsName, IsVariable, IsPlace, AreSubscripts, AreWrittenTerms, IsWrittenTest, IsWrittenAct, IsWrittenExtent}
use Rattle.def_text.specs.Fits.{FitsTerms, FitsTest, FitsAct, FitsExtent}
use Rattle.def_text.proofs.Parts.{both_some, map_some}
use Rattle.def_text.proofs.TermWritten.{AreLexemes, derived_named, tree_written, WhereFits, all_where_fit, terms_count, read_written, reads_written}

-- what holds of each member, member by member
pub all_nil : {X : Type 0} (P : X → Type 0) → All P []
all_nil P k d lt = absurd (omega arith)

pub all_cons : {X : Type 0} (P : X → Type 0) (x : X) (xs : List X) → P x → All P xs → All P (x ∷ xs)
all_cons P x xs h g zero d lt = h
all_cons P x xs h g (suc k) d lt = g k d (omega arith)

-- a condition
abbrev pub TestWhereFits : Test → Type 0
TestWhereFits t = FitsTest t → IsWrittenTest t

condition_written : {p : Part} {ts rest : List Lexeme} {c : Condition} → DerivesCondition p ts rest c → AreLexemes ts → AreLexemes rest × ((t : Test) → test c ≡ Some t → TestWhereFits t)
condition_written (comparison {a = a} {b = b} {r = r} k d e) h =
    let u = derived_named d h in
    let v = derived_named e u.0 in
    (v.0, λ t q. let w = both_some (compare r) (tree a) (tree b) t q in subst TestWhereFits w.4 (λ f. (tree_written a w.0 u.1 w.2 f.0, tree_written b w.1 v.1 w.3 f.1)))
condition_written (group d) h = condition_written d h
condition_written (bare d) h = condition_written d h
condition_written (not {c = c} d) h =
    let u = condition_written d h in
    (u.0, λ t q. let w = map_some negation (test c) t q in subst TestWhereFits w.2 (u.1 w.0 w.1))
condition_written (item d) h = condition_written d h
condition_written (and {c = c} {d = d} e f) h =
    let u = condition_written e h in
    let v = condition_written f u.0 in
    (v.0, λ t q. let w = both_some conjunction (test c) (test d) t q in subst TestWhereFits w.4 (λ z. (u.1 w.0 w.2 z.0, v.1 w.1 w.3 z.1)))
condition_written (whole d) h = condition_written d h
condition_written (or {c = c} {d = d} e f) h =
    let u = condition_written e h in
    let v = condition_written f u.0 in
    (v.0, λ t q. let w = both_some disjunction (test c) (test d) t q in subst TestWhereFits w.4 (λ z. (u.1 w.0 w.2 z.0, v.1 w.1 w.3 z.1)))

pub test_written : (ts rest : List Lexeme) (t : Test) → ReadsTest ts rest t → AreLexemes ts → AreLexemes rest × TestWhereFits t
test_written ts rest t d h = let r = condition_written d.1 h in (r.0, r.1 t d.2)

-- an assignment
few : (s : Terms) → terms_count s ≤ 2 → (terms_count s ≡ 0 → ⊥) → AreSubscripts s
few none l some = absurd (some refl)
few (more a none) l some = tt
few (more a (more b none)) l some = tt
few (more a (more b (more c s))) l some = absurd (omega arith)

place_of : (x : List ℕ) (s : Terms) → IsName x → AreSubscripts s → AreWrittenTerms s → IsPlace (plain x) s
place_of x none n h w = absurd h
place_of x (more a s) n h w = (n, h, w)

place_written : {ts rest : List Lexeme} {x : Var} {s : Terms} → ReadsPlace ts rest x s → AreLexemes ts → AreLexemes rest × (FitsTerms s → IsPlace x s)
place_written statements.ReadsPlace.scalar h = (h.1, λ f. h.0)
place_written (statements.ReadsPlace.element {x = x} {ts = ts} {rest = rest} {n = n} {subscripts = s} d le) h =
    let r = reads_written ts (Mark Right ∷ rest) n s d h.1 in
    (r.0, λ f. place_of x s h.0 (few s (let e = r.2 in omega arith) (λ e. r.3 (sym r.2 ∙ e))) (all_where_fit s r.1 f))

abbrev pub ActWhereFits : Act → Type 0
ActWhereFits a = FitsAct a → IsWrittenAct a

pub assignment_written : {ts : List Lexeme} {a : Act} → ReadsAssignment ts a → AreLexemes ts → ActWhereFits a
assignment_written (statements.ReadsAssignment.assignment {us = us} {e = e} p d) h =
    let r = place_written p h in
    let q = read_written us [] e d r.0 in
    λ f. (r.1 f.0, q.1 f.1)

-- a SUBROUTINE
names_written : {ts rest : List Lexeme} {xs : List (List ℕ)} → ReadsNames ts rest xs → AreLexemes ts → AreLexemes rest × All IsName xs
names_written (statements.ReadsNames.last {x = x}) h = (h.1, all_cons IsName x [] h.0 (all_nil IsName))
names_written (statements.ReadsNames.another {x = x} {xs = xs} d) h = let r = names_written d h.1 in (r.0, all_cons IsName x xs h.0 r.1)

pub head_written : {ts : List Lexeme} {x : List ℕ} {xs : List (List ℕ)} → ReadsHead ts x xs → AreLexemes ts → IsName x × All IsName xs
head_written statements.ReadsHead.alone h = (h.0, all_nil IsName)
head_written statements.ReadsHead.empty h = (h.0, all_nil IsName)
head_written (statements.ReadsHead.dummies d) h = (h.0, (names_written d h.1).1)

-- a declaration
extent_written : {ts rest : List Lexeme} {a : Extent} → ReadsExtent ts rest a → AreLexemes ts → AreLexemes rest × (FitsExtent a → IsWrittenExtent a)
extent_written statements.ReadsExtent.literal h = (h, λ f. f)
extent_written statements.ReadsExtent.name h = (h.1, λ f. h.0)

pub record IsWrittenItem (i : Item) : Type 0 where
  pub named : IsName i.name
  pub few_extents : length i.extents ≤ 2
  pub extents : All FitsExtent i.extents → All IsWrittenExtent i.extents

item_written : {ts rest : List Lexeme} {i : Item} → ReadsItem ts rest i → AreLexemes ts → AreLexemes rest × IsWrittenItem i
item_written statements.ReadsItem.scalar h = (h.1, record { named = h.0; few_extents = omega arith; extents = λ f. all_nil IsWrittenExtent })
item_written (statements.ReadsItem.row {a = a} d) h =
    let r = extent_written d h.1 in
    (r.0, record { named = h.0; few_extents = omega arith; extents = λ f. all_cons IsWrittenExtent a [] (r.1 (f 0 a (omega arith))) (all_nil IsWrittenExtent) })
item_written (statements.ReadsItem.table {a = a} {b = b} d e) h =
    let r = extent_written d h.1 in
    let q = extent_written e r.0 in
    (q.0, record { named = h.0; few_extents = omega arith; extents = λ f. all_cons IsWrittenExtent a (b ∷ []) (r.1 (f 0 a (omega arith))) (all_cons IsWrittenExtent b [] (q.1 (f 1 b (omega arith))) (all_nil IsWrittenExtent)) })

-- each of some items is written
abbrev pub AreWrittenItems : List Item → Type 0
AreWrittenItems [] = Unit {0}
AreWrittenItems (i ∷ is) = IsWrittenItem i × AreWrittenItems is

pub items_written : {ts : List Lexeme} {is : List Item} → ReadsItems ts is → AreLexemes ts → AreWrittenItems is
items_written (statements.ReadsItems.last d) h = ((item_written d h).1, tt)
items_written (statements.ReadsItems.another d e) h = let r = item_written d h in (r.1, items_written e r.0)

pub common_written : {ts : List Lexeme} {b : List ℕ} {is : List Item} → ReadsCommon ts b is → AreLexemes ts → IsName b × AreWrittenItems is
common_written (statements.ReadsCommon.block d e) h = (h.0, items_written d h.1)

-- a range
pub record IsWrittenRange (r : Range) : Type 0 where
  pub counter : IsVariable r.counter
  pub from : WhereFits r.from
  pub to : WhereFits r.to
  pub by : WhereFits r.by

range_written : {ts : List Lexeme} {r : Range} → ReadsRange ts r → AreLexemes ts → IsWrittenRange r
range_written (statements.ReadsRange.by_one {ts = ts} {us = us} {a = a} {b = b} d e) h =
    let u = read_written ts (Mark Comma ∷ us) a d h.1 in
    let v = read_written us [] b e u.0 in
    record { counter = h.0; from = u.1; to = v.1; by = λ f. f }
range_written (statements.ReadsRange.by_step {ts = ts} {us = us} {vs = vs} {a = a} {b = b} {c = c} d e k) h =
    let u = read_written ts (Mark Comma ∷ us) a d h.1 in
    let v = read_written us (Mark Comma ∷ vs) b e u.0 in
    let w = read_written vs [] c k v.0 in
    record { counter = h.0; from = u.1; to = v.1; by = w.1 }

pub do_written : {ts : List Lexeme} {l : Option ℕ} {r : Range} → ReadsDo ts l r → AreLexemes ts → IsWrittenRange r
do_written (statements.ReadsDo.unlabelled d) h = range_written d h
do_written (statements.ReadsDo.labelled d) h = range_written d h
do_written (statements.ReadsDo.labelled_comma d) h = range_written d h

pub guard_written : {ts rest : List Lexeme} {c : Test} → ReadsGuard ts rest c → AreLexemes ts → AreLexemes rest × TestWhereFits c
guard_written (statements.ReadsGuard.guard {ts = ts} {rest = rest} {c = c} d) h = test_written ts (Mark Right ∷ rest) c d h
