-- The names in the lowered program of a text in Source mode have at most 40 characters, where it has no fault.
use Rattle.std.proofs.Common.{◌≡◌, ◌≤◌, ◌<◌, ◌^◌, ℕ, suc, Bool, true, false, List, [], ◌∷◌, ◌++◌, length, map, Some, refl, sym, ap, ◌∙◌, arith, inl, inr, length-append, if◌then◌else◌}
use Rattle.std.specs.Prelude.{◌&&◌, ◌==◌}
use Rattle.std.specs.List.{list_all}
use Rattle.std.proofs.lemmas.Bool.{or_cases, and_parts, and_from, le-leb, leb-true}
use Rattle.adj_tree.specs.Code.{plain, var_eq, name_eq, Terms, none, more, Act, assign, choose, loop, during, call, runtime, Code, stop, step, Extent, fixed, given, Declaration, Procedure}
use Rattle.adj_tree.proofs.Names.{name_refl, name_same}
use Rattle.adj_tree.specs.Common.{Shared}
use Rattle.def_common.specs.Blocks.{find_shared, extents_in, used_blocks}
use Rattle.def_common.specs.Lowering.{item_extents, with_extents, is_declared_so, new_declarations, behind, lowered_act, lowered, lowered_unit, lowered_program}
use Rattle.def_common.specs.Members.{Member, member_names, own_members, members, names_of_blocks, unit_names, item_names, names_in, taken_in}
use Rattle.def_meaning.specs.Apart.{has_name}
use Rattle.def_meaning.specs.Units.{declared}
use Rattle.def_kernel.specs.Kernel.{EachUnit}
use Rattle.def_names.specs.Check.{IsSound}
use Rattle.def_names.specs.Fault.{source_rules}
use Rattle.def_names.specs.Fresh.{candidate, fresh}
use Rattle.def_names.specs.NameFaults.{faults_of_names}
use Rattle.def_names.specs.Reserved.{reserved}
use Rattle.def_names.specs.Variables.{variables}
use Rattle.def_names.proofs.Sound.{sound_has_none}
use Rattle.def_names.proofs.NameLists.{has-append}
use Rattle.def_names.proofs.Variables.{or_left, or_right}
use Rattle.def_text.specs.Statement.{Range}
use Rattle.law_common.specs.Lowers.{Each}
use Rattle.law_common.proofs.EachMember.{own_so, first_so, members_so}
use Rattle.law_common.proofs.Faults.{Clean, all_clean, good_extents}
use Rattle.law_common.proofs.Laying.{each_append, each_map}
use Rattle.law_common.proofs.LoweredCalls.{of_blocks}
use Rattle.law_limits.specs.Lengths.{HasCandidates}
use Rattle.law_limits.specs.Rule.{act_keeps, code_keeps, declaration_keeps, procedure_keeps, keeps}
use Rattle.law_limits.specs.Kept.{is_short, term_short, terms_short, extent_short, short_names}
use Rattle.law_limits.proofs.FreshLengths.{fresh_short}
use Rattle.law_limits.proofs.Keeping.{common_keeps, shared_keeps}
use Rattle.law_limits.proofs.LoweredItems.{items_are_members}
use Rattle.law_limits.proofs.LoweredVariables.{Within, members_known, text_known}
use Rattle.law_emitted.proofs.Lists.{none_each}
use Rattle.law_limits.proofs.Runnable.{few_variables}

-- ---- lists

each_of_list : {X : Type 0} (f : X → Bool) (xs : List X) → list_all f xs ≡ true → Each (λ x. f x ≡ true) xs
each_of_list f [] h = tt
each_of_list f (x ∷ xs) h = let p = and_parts (f x) (list_all f xs) h in (p.0, each_of_list f xs p.1)

list_of_each : {X : Type 0} (f : X → Bool) (xs : List X) → Each (λ x. f x ≡ true) xs → list_all f xs ≡ true
list_of_each f [] h = refl
list_of_each f (x ∷ xs) h = and_from (f x) (list_all f xs) h.0 (list_of_each f xs h.1)

-- ---- short names stay short

short_more : (n k : ℕ) (x : List ℕ) → n ≤ k → is_short n x ≡ true → is_short k x ≡ true
short_more n k x le h = let l = leb-true (length x) n h in le-leb (length x) k (omega arith)

-- ---- members

abbrev Short : List ℕ → Type 0
Short x = is_short 40 x ≡ true

abbrev AreShortExtents : List Extent → Type 0
AreShortExtents es = list_all (extent_short 31) es ≡ true

-- a member of a text: the name has at most 31 characters
record IsTextMember (m : Member) : Type 0 where
  pub named : length m.name ≤ 31
  pub extents : AreShortExtents m.extents
  pub item : AreShortExtents m.item

record IsShortMember (m : Member) : Type 0 where
  pub named : Short m.name
  pub extents : AreShortExtents m.extents
  pub item : AreShortExtents m.item

abbrev Declares : Declaration → Type 0
Declares d = declaration_keeps (short_names 31) d ≡ true

name_of : (d : Declaration) → Declares d → length d.name ≤ 31
name_of d h = leb-true (length d.name) 31 (and_parts (is_short 31 d.name) (list_all (extent_short 31) d.extents) h).0

extents_of : (d : Declaration) → Declares d → AreShortExtents d.extents
extents_of d h = (and_parts (is_short 31 d.name) (list_all (extent_short 31) d.extents) h).1

declared_short : (ds : List Declaration) → Each Declares ds → (x : List ℕ) → AreShortExtents (declared ds (plain x))
declared_short [] h x = refl
declared_short (d ∷ ds) h x = go (var_eq (plain x) (plain d.name)) (declared_short ds h.1 x)
  where
    go : (b : Bool) → AreShortExtents (declared ds (plain x)) → AreShortExtents (if b then d.extents else declared ds (plain x))
    go true r = extents_of d h.0
    go false r = r

in_short : (u : Procedure) → Each Declares u.declarations → (d : Declaration) → Declares d → AreShortExtents (extents_in u d)
in_short u h d g = go (length (declared u.declarations (plain d.name)) == 0) (declared_short u.declarations h d.name)
  where
    go : (b : Bool) → AreShortExtents (declared u.declarations (plain d.name)) → AreShortExtents (if b then d.extents else declared u.declarations (plain d.name))
    go true r = extents_of d g
    go false r = r

-- the parts of a unit of the text
record IsShortText (s : Shared) : Type 0 where
  pub heading : (is_short 31 s.unit.name && list_all (is_short 31) s.unit.dummies) ≡ true
  pub declarations : Each Declares s.unit.declarations
  pub body : code_keeps (short_names 40) s.unit.body ≡ true
  pub commons : Each (λ c. Each Declares c.items) s.commons

short_text : (s : Shared) → shared_keeps (short_names 31) s ≡ true → shared_keeps (short_names 40) s ≡ true → IsShortText s
short_text s h g =
    let p = and_parts (procedure_keeps (short_names 31) s.unit) (list_all (common_keeps (short_names 31)) s.commons) h in
    let q = and_parts (is_short 31 s.unit.name && list_all (is_short 31) s.unit.dummies) _ p.0 in
    let r = and_parts (list_all (declaration_keeps (short_names 31)) s.unit.declarations) (code_keeps (short_names 31) s.unit.body) q.1 in
    let longer = (and_parts (is_short 40 s.unit.name && list_all (is_short 40) s.unit.dummies) _ (and_parts (procedure_keeps (short_names 40) s.unit) (list_all (common_keeps (short_names 40)) s.commons) g).0).1 in
    record {
      heading = q.0;
      declarations = each_of_list (declaration_keeps (short_names 31)) s.unit.declarations r.0;
      body = (and_parts (list_all (declaration_keeps (short_names 40)) s.unit.declarations) (code_keeps (short_names 40) s.unit.body) longer).1;
      commons = each_map (λ c. common_keeps (short_names 31) c ≡ true) (λ c. Each Declares c.items) (λ c e. each_of_list (declaration_keeps (short_names 31)) c.items (and_parts _ (list_all (declaration_keeps (short_names 31)) c.items) e).1) s.commons
          (each_of_list (common_keeps (short_names 31)) s.commons p.1);
    }

own_text : (s : Shared) → IsShortText s → (b : List ℕ) → Each IsTextMember (own_members s.unit b 1 s.commons)
own_text s h b = own_so s.unit Declares IsTextMember (λ c line i d g. record { named = name_of d g; extents = in_short s.unit h.declarations d g; item = extents_of d g }) b 1 s.commons h.commons

text_short : (m : Member) → IsTextMember m → IsShortMember m
text_short m h = let n = h.named in record { named = le-leb (length m.name) 40 (omega arith); extents = h.extents; item = h.item }

-- ---- fresh names

unit_count : (ps : List Shared) → length (unit_names ps) ≡ length ps
unit_count [] = refl
unit_count (s ∷ ps) = let rest = unit_count ps in omega arith

module _ (ps : List Shared) (few : length ps ≤ 2000) (s : Shared) (small : length (variables (lowered_unit ps s)) ≤ 200) where
  -- what a fresh name may meet
  abbrev left : List (List ℕ)
  left = variables (lowered_unit ps s) ++ (unit_names ps ++ reserved)

  left_short : length left < 10 ^ suc 3
  left_short =
      let eighteen : length reserved ≡ 18 = refl in
      let a = length-append (variables (lowered_unit ps s)) (unit_names ps ++ reserved) in
      let b = length-append (unit_names ps) reserved in
      let c = unit_count ps in
      omega arith

  abbrev IsTaken : List (List ℕ) → Type 0
  IsTaken taken = Within taken left

  abbrev IsVariable : Member → Type 0
  IsVariable m = has_name m.name left ≡ true

  grow : (m : Member) (taken : List (List ℕ)) → IsTaken taken → IsVariable m → IsTaken (m.name ∷ taken)
  grow m taken c g x h = elim (or_cases (name_eq x m.name) (has_name x taken) h) [ inl e ↦ ap (λ y. has_name y left) (name_same x m.name e) ∙ g | inr e ↦ c x e ]

  fresh_name : (x : List ℕ) (taken : List (List ℕ)) → IsTaken taken → length x ≤ 31 → Short (fresh x taken)
  fresh_name x taken c le =
      let same : HasCandidates x left taken = λ j h. c (candidate x j) h in
      let l = fresh_short 3 x left taken same left_short in
      le-leb (length (fresh x taken)) 40 (omega arith)

  taken_known : Within (names_in s) (variables (lowered_unit ps s)) → IsTaken (taken_in ps s)
  taken_known known x h =
      elim (or_cases (has_name x (names_in s)) (has_name x (unit_names ps ++ reserved)) (sym (has-append x (names_in s) (unit_names ps ++ reserved)) ∙ h)) [
        | inl e ↦ has-append x (variables (lowered_unit ps s)) (unit_names ps ++ reserved) ∙ or_left (has_name x (variables (lowered_unit ps s))) (has_name x (unit_names ps ++ reserved)) (known x e)
        | inr e ↦ has-append x (variables (lowered_unit ps s)) (unit_names ps ++ reserved) ∙ or_right (has_name x (variables (lowered_unit ps s))) (has_name x (unit_names ps ++ reserved)) e
      ]

  all_known : (ms : List Member) → ((x : List ℕ) → has_name x (member_names ms) ≡ true → has_name x left ≡ true) → Each IsVariable ms
  all_known [] f = tt
  all_known (m ∷ ms) f = (f m.name (or_left (name_eq m.name m.name) (has_name m.name (member_names ms)) (name_refl m.name)), all_known ms (λ x h. f x (or_right (name_eq x m.name) (has_name x (member_names ms)) h)))

  members_short : Each IsShortText ps → IsShortText s → Within (names_in s) (variables (lowered_unit ps s)) → Each IsShortMember (members ps s)
  members_short all h known =
      members_so IsTaken IsVariable IsTextMember IsShortMember grow (λ line taken m c g. record { named = fresh_name m.name taken c g.named; extents = g.extents; item = refl }) ps s
      (λ b. first_so IsTextMember b ps (each_map IsShortText (λ t. Each IsTextMember (own_members t.unit b 1 t.commons)) (λ t g. own_text t g b) ps all))
      (λ b. each_map IsTextMember IsShortMember text_short (own_members s.unit b 1 s.commons) (own_text s h b)) (taken_known known)
      (all_known (members ps s) (λ x k. has-append x (variables (lowered_unit ps s)) (unit_names ps ++ reserved) ∙ or_left (has_name x (variables (lowered_unit ps s))) (has_name x (unit_names ps ++ reserved)) (members_known ps s x k)))

-- ---- the lowered unit

extents_more : (es : List Extent) → AreShortExtents es → list_all (extent_short 40) es ≡ true
extents_more [] h = refl
extents_more (fixed z ∷ es) h = extents_more es h
extents_more (given x ∷ es) h =
    let p = and_parts (is_short 31 x) (list_all (extent_short 31) es) h in
    and_from (is_short 40 x) (list_all (extent_short 40) es) (short_more 31 40 x (omega arith) p.0) (extents_more es p.1)

names_more : (xs : List (List ℕ)) → list_all (is_short 31) xs ≡ true → list_all (is_short 40) xs ≡ true
names_more [] h = refl
names_more (x ∷ xs) h = let p = and_parts (is_short 31 x) (list_all (is_short 31) xs) h in and_from (is_short 40 x) (list_all (is_short 40) xs) (short_more 31 40 x (omega arith) p.0) (names_more xs p.1)

names_join : (xs ys : List (List ℕ)) → list_all (is_short 40) xs ≡ true → list_all (is_short 40) ys ≡ true → list_all (is_short 40) (xs ++ ys) ≡ true
names_join [] ys h g = g
names_join (x ∷ xs) ys h g = let p = and_parts (is_short 40 x) (list_all (is_short 40) xs) h in and_from (is_short 40 x) (list_all (is_short 40) (xs ++ ys)) p.0 (names_join xs ys p.1 g)

module _ (ps : List Shared) (ms : List Member) (short : Each IsShortMember ms) where
  named_short : (l : List Member) → Each IsShortMember l → list_all (is_short 40) (member_names l) ≡ true
  named_short [] h = refl
  named_short (m ∷ l) h = and_from (is_short 40 m.name) (list_all (is_short 40) (member_names l)) h.0.named (named_short l h.1)

  item_short : (l : List Member) → Each IsShortMember l → (x : List ℕ) → AreShortExtents (item_extents l x)
  item_short [] h x = refl
  item_short (m ∷ l) h x = go (name_eq m.name x) (item_short l h.1 x)
    where
      go : (b : Bool) → AreShortExtents (item_extents l x) → AreShortExtents (if b then m.item else item_extents l x)
      go true r = h.0.item
      go false r = r

  abbrev Declared : Declaration → Type 0
  Declared d = declaration_keeps (short_names 40) d ≡ true

  with_short : (ds : List Declaration) → Each Declares ds → Each Declared (map (with_extents ms) ds)
  with_short [] h = tt
  with_short (d ∷ ds) h = (go (length d.extents == 0), with_short ds h.1)
    where
      name : Short d.name
      name = let n = name_of d h.0 in le-leb (length d.name) 40 (omega arith)

      go : (b : Bool) → Declared (if b then record d { extents = item_extents ms d.name } else d)
      go true = and_from (is_short 40 d.name) (list_all (extent_short 40) (item_extents ms d.name)) name (extents_more (item_extents ms d.name) (item_short ms short d.name))
      go false = and_from (is_short 40 d.name) (list_all (extent_short 40) d.extents) name (extents_more d.extents (extents_of d h.0))

  new_short : (u : Procedure) (l : List Member) → Each IsShortMember l → Each Declared (new_declarations u l)
  new_short u [] h = tt
  new_short u (m ∷ l) h = go (is_declared_so u m) (new_short u l h.1)
    where
      given_short : (b : Bool) → AreShortExtents (if b then m.item else m.extents)
      given_short true = h.0.item
      given_short false = h.0.extents

      go : (b : Bool) → Each Declared (new_declarations u l) → Each Declared (if b then record { line = m.line; name = m.name; extents = if m.own then m.item else m.extents } ∷ new_declarations u l else new_declarations u l)
      go true r = (and_from (is_short 40 m.name) (list_all (extent_short 40) (if m.own then m.item else m.extents)) h.0.named (extents_more (if m.own then m.item else m.extents) (given_short m.own)), r)
      go false r = r

  behind_short : (args : Terms) (xs : List (List ℕ)) → terms_short 40 args ≡ true → Each Short xs → terms_short 40 (behind args xs) ≡ true
  behind_short none [] h g = refl
  behind_short none (x ∷ xs) h g = and_from (is_short 40 x) (terms_short 40 (behind none xs)) g.0 (behind_short none xs refl g.1)
  behind_short (more e es) xs h g = let p = and_parts (term_short 40 e) (terms_short 40 es) h in and_from (term_short 40 e) (terms_short 40 (behind es xs)) p.0 (behind_short es xs p.1 g)

  mutual
    act_short : (a : Act) → act_keeps (short_names 40) a ≡ true → act_keeps (short_names 40) (lowered_act ps ms a) ≡ true
    act_short (assign x s e) h = h
    act_short (choose c a b) h =
        let t = (short_names 40).test c in
        let p = and_parts t (code_keeps (short_names 40) a && code_keeps (short_names 40) b) h in
        let q = and_parts (code_keeps (short_names 40) a) (code_keeps (short_names 40) b) p.1 in
        and_from t (code_keeps (short_names 40) (lowered ps ms a) && code_keeps (short_names 40) (lowered ps ms b)) p.0 (and_from (code_keeps (short_names 40) (lowered ps ms a)) (code_keeps (short_names 40) (lowered ps ms b)) (code_short a q.0) (code_short b q.1))
    act_short (loop x a b c body m) h =
        let r : Range = record { counter = x; from = a; to = b; by = c } in
        let p = and_parts ((short_names 40).range r m) (code_keeps (short_names 40) body) h in
        and_from ((short_names 40).range r m) (code_keeps (short_names 40) (lowered ps ms body)) p.0 (code_short body p.1)
    act_short (during c body) h =
        let t = (short_names 40).test c in
        let p = and_parts t (code_keeps (short_names 40) body) h in
        and_from t (code_keeps (short_names 40) (lowered ps ms body)) p.0 (code_short body p.1)
    act_short (call x es) h =
        let p = and_parts (is_short 40 x) (terms_short 40 es) h in
        let names = names_of_blocks ms (used_blocks ps x) in
        and_from (is_short 40 x) (terms_short 40 (behind es names)) p.0 (behind_short es names p.1 (of_blocks Short ms (each_map IsShortMember (λ m. Short m.name) (λ m g. g.named) ms short) (used_blocks ps x)))
    act_short (runtime r) h = h

    code_short : (k : Code) → code_keeps (short_names 40) k ≡ true → code_keeps (short_names 40) (lowered ps ms k) ≡ true
    code_short stop h = refl
    code_short (step line a rest) h =
        let p = and_parts (act_keeps (short_names 40) a) (code_keeps (short_names 40) rest) h in
        and_from (act_keeps (short_names 40) (lowered_act ps ms a)) (code_keeps (short_names 40) (lowered ps ms rest)) (act_short a p.0) (code_short rest p.1)

unit_short : (ps : List Shared) (s : Shared) → IsShortText s → Each IsShortMember (members ps s) → procedure_keeps (short_names 40) (lowered_unit ps s) ≡ true
unit_short ps s h short =
    let ms = members ps s in
    let u = lowered_unit ps s in
    let p = and_parts (is_short 31 s.unit.name) (list_all (is_short 31) s.unit.dummies) h.heading in
    and_from (is_short 40 s.unit.name && list_all (is_short 40) u.dummies) (list_all (declaration_keeps (short_names 40)) u.declarations && code_keeps (short_names 40) u.body)
    (and_from (is_short 40 s.unit.name) (list_all (is_short 40) u.dummies) (short_more 31 40 s.unit.name (omega arith) p.0) (names_join s.unit.dummies (member_names ms) (names_more s.unit.dummies p.1) (named_short ps ms short ms short)))
    (and_from (list_all (declaration_keeps (short_names 40)) u.declarations) (code_keeps (short_names 40) u.body)
    (list_of_each (declaration_keeps (short_names 40)) u.declarations
    (each_append (λ d. declaration_keeps (short_names 40) d ≡ true) (map (with_extents ms) s.unit.declarations) (new_declarations s.unit ms) (with_short ps ms short s.unit.declarations h.declarations) (new_short ps ms short s.unit ms short)))
    (code_short ps ms short s.unit.body h.body))

-- ---- the program

all_texts : (l : List Shared) → list_all (shared_keeps (short_names 31)) l ≡ true → list_all (shared_keeps (short_names 40)) l ≡ true → Each IsShortText l
all_texts [] h g = tt
all_texts (s ∷ l) h g =
    let p = and_parts (shared_keeps (short_names 31) s) (list_all (shared_keeps (short_names 31)) l) h in
    let q = and_parts (shared_keeps (short_names 40) s) (list_all (shared_keeps (short_names 40)) l) g in
    (short_text s p.0 q.0, all_texts l p.1 q.1)

module _ (ps : List Shared) (few : length ps ≤ 2000) (all : Each IsShortText ps) where
  units_short : (l : List Shared) → Each IsShortText l → Each (Clean source_rules ps) l → Each (λ s. Within (item_names s.commons) (member_names (members ps s))) l → EachUnit (λ u. length (variables u) ≤ 200) (map (lowered_unit ps) l) → keeps (short_names 40) (map (lowered_unit ps) l) ≡ true
  units_short [] h clean items small = refl
  units_short (s ∷ l) h clean items small =
      let known = text_known ps s (good_extents source_rules (lowered_program ps) (lowered_unit ps s) clean.0.names) items.0 in
      and_from (procedure_keeps (short_names 40) (lowered_unit ps s)) (keeps (short_names 40) (map (lowered_unit ps) l)) (unit_short ps s h.0 (members_short ps few s small.0 all h.0 known)) (units_short l h.1 clean.1 items.1 small.1)

pub lowered_short : (ps : List Shared) → length ps ≤ 2000 → list_all (shared_keeps (short_names 31)) ps ≡ true → list_all (shared_keeps (short_names 40)) ps ≡ true → IsSound source_rules (lowered_program ps) → keeps (short_names 40) (lowered_program ps) ≡ true
lowered_short ps few h g sound =
    let all = all_texts ps h g in
    let clean = all_clean source_rules ps sound in
    let found = each_map (Clean source_rules ps) (λ s. find_shared ps s.unit.name ≡ Some s) (λ s c. c.found) ps clean in
    let none = sound_has_none source_rules (lowered_program ps) sound in
    units_short ps few all ps all clean (items_are_members ps found) (few_variables (lowered_program ps) (lowered_program ps) (none_each (faults_of_names source_rules (lowered_program ps)) (lowered_program ps) none.names))
