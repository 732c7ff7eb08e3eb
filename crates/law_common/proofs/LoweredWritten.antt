-- The lowered program of a text is written, where the names of units have no fault.
use Rattle.std.proofs.Common.{◌≡◌, ℕ, zero, suc, ◌≤◌, Bool, true, false, List, [], ◌∷◌, ◌++◌, length, map, refl, sym, ap, subst, ◌∙◌, arith, if◌then◌else◌}
use Rattle.std.specs.Prelude.{◌==◌, ◌||◌, flat_map, None, codes}
use Rattle.std.specs.List.{All, list_all}
use Rattle.std.proofs.lemmas.Bool.{and_parts, and_from}
use Rattle.std.proofs.lemmas.Bool.Decides.{nat_tests}
use Rattle.std.proofs.lemmas.List.Elements.{All-nil, All-cons}
use Rattle.adj_tree.specs.Code.{plain, var_eq, name_eq, Terms, none, more, Act, assign, choose, loop, during, call, runtime, Code, stop, step, Extent, Declaration, Procedure}
use Rattle.adj_tree.specs.declared.fault.Refusal.{Refusal}
use Rattle.adj_tree.proofs.Names.{name_same}
use Rattle.def_meaning.specs.Apart.{has_name}
use Rattle.def_meaning.specs.Units.{declared}
use Rattle.def_meaning.proofs.Booleans.{or_false}
use Rattle.def_names.specs.Fault.{fault, faults_if}
use Rattle.def_names.specs.Reserved.{is_runtime, is_reserved, intrinsics, runtime_names}
use Rattle.def_names.specs.Statements.{At}
use Rattle.def_names.specs.UnitFaults.{unit_places, reserved_units, repeated_units}
use Rattle.def_names.proofs.Faultless.{none_front, none_behind, none_if}
use Rattle.def_names.specs.Fresh.{digits, candidate, fresh}
use Rattle.def_names.proofs.Fresh.{digits_pass, fresh-candidate}
use Rattle.def_text.specs.Char.{is_name_char}
use Rattle.def_text.specs.Statement.{runtime_call}
use Rattle.def_text.specs.Written.{IsName, AreWrittenTerms, IsWrittenAct, IsWrittenCode, IsWrittenExtent, IsWrittenDeclaration, IsWrittenProcedure, IsWrittenCommon, IsWrittenShared}
use Rattle.adj_tree.specs.Common.{Shared}
use Rattle.def_common.specs.Blocks.{extents_in, used_blocks}
use Rattle.def_common.specs.Lowering.{item_extents, with_extents, is_declared_so, new_declarations, behind, lowered_act, lowered, lowered_unit, lowered_program}
use Rattle.def_common.specs.Members.{Member, member_names, own_members, members, names_of_blocks, unit_names}
use Rattle.law_common.specs.LoweredTexts.{LoweredIsWritten}
use Rattle.law_common.specs.Lowers.{Each}
use Rattle.law_common.proofs.EachMember.{Any, any_each, own_so, first_so, members_so}
use Rattle.law_common.proofs.Laying.{each_append, each_map}
use Rattle.law_common.proofs.LoweredCalls.{of_blocks, uses_none, not_there, nothing_behind}

-- ---- lists

all_first : {X : Type 0} (P : X → Type 0) (x : X) (xs : List X) → All P (x ∷ xs) → P x
all_first P x xs h = h 0 x (omega arith)

all_rest : {X : Type 0} (P : X → Type 0) (x : X) (xs : List X) → All P (x ∷ xs) → All P xs
all_rest P x xs h = λ k y lt. h (suc k) y (omega arith)

pub each_of_all : {X : Type 0} (P : X → Type 0) (xs : List X) → All P xs → Each P xs
each_of_all P [] h = tt
each_of_all P (x ∷ xs) h = (all_first P x xs h, each_of_all P xs (all_rest P x xs h))

pub all_of_each : {X : Type 0} (P : X → Type 0) (xs : List X) → Each P xs → All P xs
all_of_each P [] h = All-nil P
all_of_each P (x ∷ xs) h = All-cons P x xs h.0 (all_of_each P xs h.1)

-- ---- extents

-- at most two, which are words or names
pub record AreWrittenExtents (es : List Extent) : Type 0 where
  few : length es ≤ 2
  each : All IsWrittenExtent es

no_extents : AreWrittenExtents []
no_extents = record { few = omega arith; each = All-nil IsWrittenExtent }

of_declaration : (d : Declaration) → IsWrittenDeclaration d → AreWrittenExtents d.extents
of_declaration d h = record { few = h.few_extents; each = h.extents }

declared_written : (ds : List Declaration) → Each IsWrittenDeclaration ds → (x : List ℕ) → AreWrittenExtents (declared ds (plain x))
declared_written [] h x = no_extents
declared_written (d ∷ ds) h x = go (var_eq (plain x) (plain d.name)) (declared_written ds h.1 x)
  where
    go : (b : Bool) → AreWrittenExtents (declared ds (plain x)) → AreWrittenExtents (if b then d.extents else declared ds (plain x))
    go true r = of_declaration d h.0
    go false r = r

in_written : (u : Procedure) → Each IsWrittenDeclaration u.declarations → (d : Declaration) → IsWrittenDeclaration d → AreWrittenExtents (extents_in u d)
in_written u h d g = go (length (declared u.declarations (plain d.name)) == 0) (declared_written u.declarations h d.name)
  where
    go : (b : Bool) → AreWrittenExtents (declared u.declarations (plain d.name)) → AreWrittenExtents (if b then d.extents else declared u.declarations (plain d.name))
    go true r = of_declaration d g
    go false r = r

-- ---- fresh names

all_append : (test : ℕ → Bool) (xs ys : List ℕ) → list_all test xs ≡ true → list_all test ys ≡ true → list_all test (xs ++ ys) ≡ true
all_append test [] ys h g = g
all_append test (x ∷ xs) ys h g = let p = and_parts (test x) (list_all test xs) h in and_from (test x) (list_all test (xs ++ ys)) p.0 (all_append test xs ys p.1 g)

longer_name : (b x : List ℕ) → IsName b → list_all is_name_char x ≡ true → IsName (b ++ x)
longer_name [] x h g = absurd h
longer_name (c ∷ b) x h g = (h.0, all_append is_name_char b x h.1 g)

candidate_name : (b : List ℕ) (i : ℕ) → IsName b → IsName (candidate b i)
candidate_name b zero h = h
candidate_name b (suc i) h = longer_name b (codes "_" ++ digits (suc i)) h (digits_pass is_name_char (λ d h. grind (arith, nat_tests)) (suc i))

fresh_name : (b : List ℕ) (taken : List (List ℕ)) → IsName b → IsName (fresh b taken)
fresh_name b taken h = let c = fresh-candidate b taken in subst IsName (sym c.1) (candidate_name b c.0 h)

-- ---- members

pub record IsWrittenMember (m : Member) : Type 0 where
  pub named : IsName m.name
  pub extents : AreWrittenExtents m.extents
  pub item : AreWrittenExtents m.item

own_written : (s : Shared) → IsWrittenShared s → (b : List ℕ) → Each IsWrittenMember (own_members s.unit b 1 s.commons)
own_written s h b =
    let declarations = each_of_all IsWrittenDeclaration s.unit.declarations h.unit.declarations in
    own_so s.unit IsWrittenDeclaration IsWrittenMember (λ c line i d g. record { named = g.named; extents = in_written s.unit declarations d g; item = of_declaration d g }) b 1 s.commons
    (each_map IsWrittenCommon (λ c. Each IsWrittenDeclaration c.items) (λ c g. each_of_all IsWrittenDeclaration c.items g.items) s.commons (each_of_all IsWrittenCommon s.commons h.commons))

pub members_written : (ps : List Shared) → Each IsWrittenShared ps → (s : Shared) → IsWrittenShared s → Each IsWrittenMember (members ps s)
members_written ps all s h =
    members_so Any Any IsWrittenMember IsWrittenMember (λ m taken c g. tt) (λ line taken m c g. record { named = fresh_name m.name taken g.named; extents = g.extents; item = no_extents }) ps s
    (λ b. first_so IsWrittenMember b ps (each_map IsWrittenShared (λ t. Each IsWrittenMember (own_members t.unit b 1 t.commons)) (λ t g. own_written t g b) ps all)) (own_written s h) tt (any_each (members ps s))

names_of : (ms : List Member) → Each IsWrittenMember ms → Each IsName (member_names ms)
names_of [] h = tt
names_of (m ∷ ms) h = (h.0.named, names_of ms h.1)

-- ---- declarations

item_written : (ms : List Member) → Each IsWrittenMember ms → (x : List ℕ) → AreWrittenExtents (item_extents ms x)
item_written [] h x = no_extents
item_written (m ∷ ms) h x = go (name_eq m.name x) (item_written ms h.1 x)
  where
    go : (b : Bool) → AreWrittenExtents (item_extents ms x) → AreWrittenExtents (if b then m.item else item_extents ms x)
    go true r = h.0.item
    go false r = r

with_written : (ms : List Member) → Each IsWrittenMember ms → (ds : List Declaration) → Each IsWrittenDeclaration ds → Each IsWrittenDeclaration (map (with_extents ms) ds)
with_written ms h [] g = tt
with_written ms h (d ∷ ds) g = (go (length d.extents == 0), with_written ms h ds g.1)
  where
    go : (b : Bool) → IsWrittenDeclaration (if b then record d { extents = item_extents ms d.name } else d)
    go true = let e = item_written ms h d.name in record { named = g.0.named; few_extents = e.few; extents = e.each }
    go false = g.0

new_written : (u : Procedure) (ms : List Member) → Each IsWrittenMember ms → Each IsWrittenDeclaration (new_declarations u ms)
new_written u [] h = tt
new_written u (m ∷ ms) h = go (is_declared_so u m) (new_written u ms h.1)
  where
    given : (b : Bool) → AreWrittenExtents (if b then m.item else m.extents)
    given true = h.0.item
    given false = h.0.extents

    go : (b : Bool) → Each IsWrittenDeclaration (new_declarations u ms) → Each IsWrittenDeclaration (if b then record { line = m.line; name = m.name; extents = if m.own then m.item else m.extents } ∷ new_declarations u ms else new_declarations u ms)
    go true r = let e = given m.own in (record { named = h.0.named; few_extents = e.few; extents = e.each }, r)
    go false r = r

-- ---- calls

-- a name that no call of the runtime has makes none
no_runtime_call : (x : List ℕ) (es : Terms) → is_runtime x ≡ false → runtime_call x es ≡ None
no_runtime_call x es h =
    let a = or_false (name_eq x (codes "PUSHINTEGER8")) _ h in
    let b = or_false (name_eq x (codes "POPINTEGER8")) _ a.1 in
    let c = or_false (name_eq x (codes "PUSHINTEGER8ARRAY")) _ b.1 in
    let d = or_false (name_eq x (codes "POPINTEGER8ARRAY")) _ c.1 in
    let e = or_false (name_eq x (codes "PUSHCONTROL1B")) _ d.1 in
    let f = or_false (name_eq x (codes "POPCONTROL1B")) _ e.1 in
    let g = or_false (name_eq x (codes "ADZERO8")) _ f.1 in
    let i = or_false (name_eq x (codes "ADBEG")) _ g.1 in
    let j = or_false (name_eq x (codes "ADEND")) _ i.1 in
    let k = or_false (name_eq x (codes "ADACTN")) _ j.1 in
    let l = or_false (name_eq x (codes "ADACT")) _ k.1 in
    rw (a.0, b.0, c.0, d.0, e.0, f.0, g.0, i.0, j.0, k.0, l.0) refl

behind_written : (args : Terms) → AreWrittenTerms args → (xs : List (List ℕ)) → Each IsName xs → AreWrittenTerms (behind args xs)
behind_written none h [] g = tt
behind_written none h (x ∷ xs) g = (g.0, behind_written none h xs g.1)
behind_written (more e es) h xs g = (h.0, behind_written es h.1 xs g)

module _ (ps : List Shared) (free : (name : List ℕ) → has_name name (unit_names ps) ≡ true → is_runtime name ≡ false) (ms : List Member) (written : Each IsWrittenMember ms) where
  call_written : (name : List ℕ) (args : Terms) → IsWrittenAct (call name args) → IsWrittenAct (lowered_act ps ms (call name args))
  call_written name args h = go (has_name name (unit_names ps)) refl
    where
      names : List (List ℕ)
      names = names_of_blocks ms (used_blocks ps name)

      passed : Each IsName names
      passed = of_blocks IsName ms (each_map IsWrittenMember (λ m. IsName m.name) (λ m g. g.named) ms written) (used_blocks ps name)

      go : (b : Bool) → has_name name (unit_names ps) ≡ b → IsWrittenAct (lowered_act ps ms (call name args))
      go true e = (h.0, behind_written args h.1 names passed, no_runtime_call name (behind args names) (free name e))
      go false e =
          let same : behind args names ≡ args = ap (λ bs. behind args (names_of_blocks ms bs)) (uses_none ps name (not_there ps name e)) ∙ nothing_behind args in
          subst (λ es. IsName name × AreWrittenTerms es × (runtime_call name es ≡ None)) (sym same) h

  mutual
    act_written : (a : Act) → IsWrittenAct a → IsWrittenAct (lowered_act ps ms a)
    act_written (assign x subs e) h = h
    act_written (choose c a b) h = (h.0, code_written a h.1, code_written b h.2)
    act_written (loop x first last by body m) h = (h.0, h.1, h.2, h.3, code_written body h.4, h.5)
    act_written (during c body) h = (h.0, code_written body h.1)
    act_written (call name args) h = call_written name args h
    act_written (runtime r) h = h

    code_written : (c : Code) → IsWrittenCode c → IsWrittenCode (lowered ps ms c)
    code_written stop h = tt
    code_written (step line a rest) h = (act_written a h.0, code_written rest h.1)

-- ---- units

unit_written : (ps : List Shared) → Each IsWrittenShared ps → ((name : List ℕ) → has_name name (unit_names ps) ≡ true → is_runtime name ≡ false) → (s : Shared) → IsWrittenShared s → IsWrittenProcedure (lowered_unit ps s)
unit_written ps all free s h =
    let ms = members ps s in
    let written = members_written ps all s h in
    let unit = h.unit in
    record {
      named = unit.named;
      dummies = all_of_each IsName _ (each_append IsName s.unit.dummies (member_names ms) (each_of_all IsName s.unit.dummies unit.dummies) (names_of ms written));
      declarations = all_of_each IsWrittenDeclaration _
          (each_append IsWrittenDeclaration (map (with_extents ms) s.unit.declarations) (new_declarations s.unit ms) (with_written ms written s.unit.declarations (each_of_all IsWrittenDeclaration s.unit.declarations unit.declarations)) (new_written s.unit ms written));
      body = code_written ps free ms written s.unit.body unit.body;
    }

-- ---- the program

-- no unit is named like a call of the runtime
reserved_free : (ps l : List Shared) → flat_map (λ (p : At (List ℕ)). faults_if (is_reserved p.1) (fault 18 p.0)) (unit_places (map (lowered_unit ps) l)) ≡ [] → (name : List ℕ) → has_name name (unit_names l) ≡ true → is_reserved name ≡ false
reserved_free ps [] h name k = absurd cc
reserved_free ps (s ∷ l) h name k = go (λ q f. reserved_free ps l q name f) (name_eq name s.unit.name) refl k
  where
    rest : List Refusal
    rest = flat_map (λ (p : At (List ℕ)). faults_if (is_reserved p.1) (fault 18 p.0)) (unit_places (map (lowered_unit ps) l))

    go : (rest ≡ [] → has_name name (unit_names l) ≡ true → is_reserved name ≡ false) → (b : Bool) → name_eq name s.unit.name ≡ b → (b || has_name name (unit_names l)) ≡ true → is_reserved name ≡ false
    go next true e f = ap is_reserved (name_same name s.unit.name e) ∙ none_if (is_reserved s.unit.name) (fault 18 s.unit.line) (none_front (faults_if (is_reserved s.unit.name) (fault 18 s.unit.line)) rest h)
    go next false e f = next (none_behind (faults_if (is_reserved s.unit.name) (fault 18 s.unit.line)) rest h) f

runtime_part : (x : List ℕ) (xs ys : List (List ℕ)) → has_name x (xs ++ ys) ≡ false → has_name x ys ≡ false
runtime_part x [] ys h = h
runtime_part x (y ∷ xs) ys h = runtime_part x xs ys (or_false (name_eq x y) (has_name x (xs ++ ys)) h).1

pub lowered_written : LoweredIsWritten
lowered_written ps written faultless =
    let each = each_of_all IsWrittenShared ps written in
    let reserved = none_front (reserved_units (lowered_program ps)) (repeated_units (lowered_program ps)) faultless in
    let free : (name : List ℕ) → has_name name (unit_names ps) ≡ true → is_runtime name ≡ false = λ name k. runtime_part name intrinsics runtime_names (reserved_free ps ps reserved name k) in
    all_of_each IsWrittenProcedure (lowered_program ps) (go ps each free ps each)
  where
    go : (qs : List Shared) → Each IsWrittenShared qs → ((name : List ℕ) → has_name name (unit_names qs) ≡ true → is_runtime name ≡ false) → (l : List Shared) → Each IsWrittenShared l → Each IsWrittenProcedure (map (lowered_unit qs) l)
    go qs all free [] h = tt
    go qs all free (s ∷ l) h = (unit_written qs all free s h.0, go qs all free l h.1)
