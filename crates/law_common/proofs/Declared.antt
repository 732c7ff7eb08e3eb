-- What the lowered unit declares of a member: the extents that it has in its block.
use Rattle.std.proofs.Common.{◌≡◌, ℕ, suc, Bool, true, false, List, [], ◌∷◌, ◌++◌, map, refl, sym, ap, ◌∙◌, if◌then◌else◌}
use Rattle.std.proofs.lemmas.List.{map-append}
use Rattle.std.specs.Prelude.{length, not, ◌&&◌, ◌||◌, ◌==◌}
use Rattle.adj_tree.specs.Code.{plain, name_eq, Extent, Declaration, Procedure}
use Rattle.adj_tree.proofs.Names.{nat_same, name_refl, name_same}
use Rattle.def_meaning.specs.Apart.{has_name, AreApart}
use Rattle.def_meaning.specs.Units.{declared}
use Rattle.def_meaning.proofs.Booleans.{or_false}
use Rattle.def_meaning.proofs.Variables.{name_comm}
use Rattle.def_names.specs.Variables.{is_integer_name}
use Rattle.def_common.specs.Blocks.{extents_in}
use Rattle.def_common.specs.Members.{Member, member_names}
use Rattle.def_common.specs.Lowering.{item_extents, with_extents, is_declared_so, new_declarations}
use Rattle.law_common.specs.Lowers.{Each}
use Rattle.law_common.proofs.Laying.{declared_names, declared_behind, each_map, each_zip}
use Rattle.law_common.proofs.Lowered.{none_new}
use Rattle.def_names.proofs.NameLists.{has-append}

-- ---- declarations that are there

pub declared_none : (ds : List Declaration) (x : List ℕ) → has_name x (declared_names ds) ≡ false → declared ds (plain x) ≡ []
declared_none [] x h = refl
declared_none (d ∷ ds) x h = let p = or_false (name_eq x d.name) (has_name x (declared_names ds)) h in ap (λ b. if b then d.extents else declared ds (plain x)) p.0 ∙ declared_none ds x p.1

module _ (ms : List Member) where
  -- a declaration without extents has those of the item
  with_front : (ds rest : List Declaration) (x : List ℕ) → has_name x (declared_names ds) ≡ true → declared (map (with_extents ms) ds ++ rest) (plain x) ≡ (if length (declared ds (plain x)) == 0 then item_extents ms x else declared ds (plain x))
  with_front [] rest x h = absurd cc
  with_front (d ∷ ds) rest x h = go (length d.extents == 0) refl (with_front ds rest x)
    where
      there : List Extent
      there = declared (map (with_extents ms) ds ++ rest) (plain x)

      Is : Bool → List Extent → Type 0
      Is b es = es ≡ (if length (if b then d.extents else declared ds (plain x)) == 0 then item_extents ms x else (if b then d.extents else declared ds (plain x)))

      Later : Type 0
      Later = has_name x (declared_names ds) ≡ true → there ≡ (if length (declared ds (plain x)) == 0 then item_extents ms x else declared ds (plain x))

      bare : (b : Bool) → name_eq x d.name ≡ b → (b || has_name x (declared_names ds)) ≡ true → (length d.extents == 0) ≡ true → Later → Is b (if b then item_extents ms d.name else there)
      bare true e h k r = ap (item_extents ms) (sym (name_same x d.name e)) ∙ ap (λ c. if c then item_extents ms x else d.extents) (sym k)
      bare false e h k r = r h

      full : (b : Bool) → (b || has_name x (declared_names ds)) ≡ true → (length d.extents == 0) ≡ false → Later → Is b (if b then d.extents else there)
      full true h k r = ap (λ c. if c then item_extents ms x else d.extents) (sym k)
      full false h k r = r h

      go : (c : Bool) → (length d.extents == 0) ≡ c → Later → Is (name_eq x d.name) (declared ((if c then record d { extents = item_extents ms d.name } else d) ∷ (map (with_extents ms) ds ++ rest)) (plain x))
      go true k r = bare (name_eq x d.name) refl h k r
      go false k r = full (name_eq x d.name) h k r

  pub with_names : (ds : List Declaration) → declared_names (map (with_extents ms) ds) ≡ declared_names ds
  with_names [] = refl
  with_names (d ∷ ds) = go (length d.extents == 0) ∙ ap (λ l. d.name ∷ l) (with_names ds)
    where
      go : (c : Bool) → declared_names ((if c then record d { extents = item_extents ms d.name } else d) ∷ map (with_extents ms) ds) ≡ d.name ∷ declared_names (map (with_extents ms) ds)
      go true = refl
      go false = refl

-- ---- members

-- a name that isn't among some members is none of theirs
differs : (x : List ℕ) (ms : List Member) → has_name x (member_names ms) ≡ false → Each (λ m. name_eq x m.name ≡ false) ms
differs x [] h = tt
differs x (m ∷ ms) h = let p = or_false (name_eq x m.name) (has_name x (member_names ms)) h in (p.0, differs x ms p.1)

item_at : (ms : List Member) → AreApart (member_names ms) → Each (λ m. item_extents ms m.name ≡ m.item) ms
item_at [] h = tt
item_at (m ∷ ms) h = (
  ap (λ b. if b then m.item else item_extents ms m.name) (name_refl m.name),
  each_map (λ l. (name_eq m.name l.name ≡ false) × (item_extents ms l.name ≡ l.item)) (λ l. item_extents (m ∷ ms) l.name ≡ l.item) (λ l k. ap (λ b. if b then m.item else item_extents ms l.name) k.0 ∙ k.1) ms
      (each_zip (λ l. name_eq m.name l.name ≡ false) (λ l. item_extents ms l.name ≡ l.item) ms (differs m.name ms h.0) (item_at ms h.1)),
)

-- a new declaration
abbrev new_of : Member → Declaration
new_of m = record { line = m.line; name = m.name; extents = if m.own then m.item else m.extents }

abbrev IsNewAt : Procedure → List Member → Member → Type 0
IsNewAt u ms m = declared (new_declarations u ms) (plain m.name) ≡ (if is_declared_so u m then (if m.own then m.item else m.extents) else [])

new_at : (u : Procedure) (ms : List Member) → AreApart (member_names ms) → Each (IsNewAt u ms) ms
new_at u [] h = tt
new_at u (m ∷ ms) h = (
  first (is_declared_so u m),
  each_map (λ l. (name_eq m.name l.name ≡ false) × IsNewAt u ms l) (IsNewAt u (m ∷ ms)) (λ l k. later l (is_declared_so u m) (name_comm m.name l.name k.0) ∙ k.1) ms
      (each_zip (λ l. name_eq m.name l.name ≡ false) (IsNewAt u ms) ms (differs m.name ms h.0) (new_at u ms h.1)),
)
  where
    first : (b : Bool) → declared (if b then new_of m ∷ new_declarations u ms else new_declarations u ms) (plain m.name) ≡ (if b then (if m.own then m.item else m.extents) else [])
    first true = ap (λ b. if b then (if m.own then m.item else m.extents) else declared (new_declarations u ms) (plain m.name)) (name_refl m.name)
    first false = none_new u ms m.name h.0

    later : (l : Member) (b : Bool) → name_eq l.name m.name ≡ false → declared (if b then new_of m ∷ new_declarations u ms else new_declarations u ms) (plain l.name) ≡ declared (new_declarations u ms) (plain l.name)
    later l true e = ap (λ b. if b then (if m.own then m.item else m.extents) else declared (new_declarations u ms) (plain l.name)) e
    later l false e = refl

abbrev IsNewName : Procedure → List Member → Member → Type 0
IsNewName u ms m = has_name m.name (declared_names (new_declarations u ms)) ≡ is_declared_so u m

no_new_name : (u : Procedure) (ms : List Member) (x : List ℕ) → has_name x (member_names ms) ≡ false → has_name x (declared_names (new_declarations u ms)) ≡ false
no_new_name u [] x h = refl
no_new_name u (m ∷ ms) x h = let p = or_false (name_eq x m.name) (has_name x (member_names ms)) h in go (is_declared_so u m) p.0 (no_new_name u ms x p.1)
  where
    go : (b : Bool) → name_eq x m.name ≡ false → has_name x (declared_names (new_declarations u ms)) ≡ false → has_name x (declared_names (if b then new_of m ∷ new_declarations u ms else new_declarations u ms)) ≡ false
    go true e r = ap (λ b. b || has_name x (declared_names (new_declarations u ms))) e ∙ r
    go false e r = r

new_names : (u : Procedure) (ms : List Member) → AreApart (member_names ms) → Each (IsNewName u ms) ms
new_names u [] h = tt
new_names u (m ∷ ms) h = (
  first (is_declared_so u m),
  each_map (λ l. (name_eq m.name l.name ≡ false) × IsNewName u ms l) (IsNewName u (m ∷ ms)) (λ l k. later l (is_declared_so u m) (name_comm m.name l.name k.0) ∙ k.1) ms
      (each_zip (λ l. name_eq m.name l.name ≡ false) (IsNewName u ms) ms (differs m.name ms h.0) (new_names u ms h.1)),
)
  where
    first : (b : Bool) → has_name m.name (declared_names (if b then new_of m ∷ new_declarations u ms else new_declarations u ms)) ≡ b
    first true = ap (λ b. b || has_name m.name (declared_names (new_declarations u ms))) (name_refl m.name)
    first false = no_new_name u ms m.name h.0

    later : (l : Member) (b : Bool) → name_eq l.name m.name ≡ false → has_name l.name (declared_names (if b then new_of m ∷ new_declarations u ms else new_declarations u ms)) ≡ has_name l.name (declared_names (new_declarations u ms))
    later l true e = ap (λ b. b || has_name l.name (declared_names (new_declarations u ms))) e
    later l false e = refl

-- ---- so a member has its extents in the lowered unit

-- an own member has the extents of its declaration, or those of its item
abbrev pub IsOwn : Procedure → Member → Type 0
IsOwn u m = m.extents ≡ extents_in u (record { line = m.line; name = m.name; extents = m.item })

-- and one that is passed through has a name that the unit doesn't declare
abbrev pub IsPassed : Procedure → Member → Type 0
IsPassed u m = has_name m.name (declared_names u.declarations) ≡ false

empty : (es : List Extent) → (length es == 0) ≡ true → es ≡ []
empty [] e = refl
empty (y ∷ es) e = absurd (let z : suc (length es) ≡ 0 = nat_same (suc (length es)) 0 e in cc)

module _ (u : Procedure) (ms : List Member) where
  abbrev lowered_declarations : List Declaration
  lowered_declarations = map (with_extents ms) u.declarations ++ new_declarations u ms

  -- one that is declared, or an integer by its first letter where the unit hasn't IMPLICIT NONE
  abbrev pub IsTyped : Member → Type 0
  IsTyped m = (has_name m.name (declared_names lowered_declarations) || (not u.is_none && is_integer_name m.name)) ≡ true

  module _ (m : Member) (item : item_extents ms m.name ≡ m.item) (new : IsNewAt u ms m) (fresh : IsNewName u ms m) (typed : IsTyped m) (own : m.own ≡ true → IsOwn u m) (passed : m.own ≡ false → IsPassed u m) where
    -- where the unit has a declaration
    there : has_name m.name (declared_names u.declarations) ≡ true → declared lowered_declarations (plain m.name) ≡ m.extents
    there h = with_front ms u.declarations (new_declarations u ms) m.name h ∙ go m.own refl
      where
        given : (c : Bool) → (length (declared u.declarations (plain m.name)) == 0) ≡ c → m.extents ≡ (if c then m.item else declared u.declarations (plain m.name)) → (if c then item_extents ms m.name else declared u.declarations (plain m.name)) ≡ m.extents
        given true e k = item ∙ sym k
        given false e k = sym k

        go : (b : Bool) → m.own ≡ b → (if length (declared u.declarations (plain m.name)) == 0 then item_extents ms m.name else declared u.declarations (plain m.name)) ≡ m.extents
        go true e = given (length (declared u.declarations (plain m.name)) == 0) refl (own e)
        go false e = absurd (let z : true ≡ false = sym h ∙ passed e in cc)

    -- and where it has none
    not_there : has_name m.name (declared_names u.declarations) ≡ false → declared lowered_declarations (plain m.name) ≡ m.extents
    not_there h =
        declared_behind (map (with_extents ms) u.declarations) (new_declarations u ms) m.name (ap (has_name m.name) (with_names ms u.declarations) ∙ h) ∙ new ∙ go m.own refl
      where
        unnamed : is_declared_so u m ≡ false → has_name m.name (declared_names lowered_declarations) ≡ false
        unnamed e =
            ap (has_name m.name) (map-append (λ d. d.name) (map (with_extents ms) u.declarations) (new_declarations u ms))
            ∙ has-append m.name (declared_names (map (with_extents ms) u.declarations)) (declared_names (new_declarations u ms))
            ∙ (λ i. (ap (has_name m.name) (with_names ms u.declarations) ∙ h) i || (fresh ∙ e) i)

        so : is_declared_so u m ≡ (not m.own || (not (length m.item == 0) && (is_integer_name m.name && not u.is_none)))
        so = ap (λ b. if b then not (length m.item == 0) && not (length (declared u.declarations (plain m.name)) == 0) else not m.own || (not (length m.item == 0) && (is_integer_name m.name && not u.is_none))) h

        is_item : m.own ≡ true → m.extents ≡ m.item
        is_item e = own e ∙ ap (λ (l : List Extent). if length l == 0 then m.item else l) (declared_none u.declarations m.name h)

        -- an item that gets no declaration has no extents
        bare : (c p q r : Bool) → (not c && (p && q)) ≡ r → r ≡ false → (q && p) ≡ true → c ≡ true
        bare true p q r e f k = refl
        bare false true true r e f k = absurd (let z : true ≡ false = e ∙ f in cc)
        bare false true false r e f k = absurd (let z : false ≡ true = k in cc)
        bare false false true r e f k = absurd (let z : false ≡ true = k in cc)
        bare false false false r e f k = absurd (let z : false ≡ true = k in cc)

        owned : m.own ≡ true → (b : Bool) → is_declared_so u m ≡ b → (if b then m.item else []) ≡ m.extents
        owned e true k = sym (is_item e)
        owned e false k =
            let small = so ∙ ap (λ b. not b || (not (length m.item == 0) && (is_integer_name m.name && not u.is_none))) e in
            let implicit : (not u.is_none && is_integer_name m.name) ≡ true = ap (λ b. b || (not u.is_none && is_integer_name m.name)) (sym (unnamed k)) ∙ typed in
            sym (is_item e ∙ empty m.item (bare (length m.item == 0) (is_integer_name m.name) (not u.is_none) (is_declared_so u m) (sym small) k implicit))

        go : (b : Bool) → m.own ≡ b → (if is_declared_so u m then (if m.own then m.item else m.extents) else []) ≡ m.extents
        go true e = ap (λ b. if is_declared_so u m then (if b then m.item else m.extents) else []) e ∙ owned e (is_declared_so u m) refl
        go false e = (λ i. if (so ∙ ap (λ b. not b || (not (length m.item == 0) && (is_integer_name m.name && not u.is_none))) e) i then (if e i then m.item else m.extents) else [])

    pub one_declared : declared lowered_declarations (plain m.name) ≡ m.extents
    one_declared = go (has_name m.name (declared_names u.declarations)) refl
      where
        go : (b : Bool) → has_name m.name (declared_names u.declarations) ≡ b → declared lowered_declarations (plain m.name) ≡ m.extents
        go true e = there e
        go false e = not_there e

  -- all of them
  pub all_declared : AreApart (member_names ms) → Each IsTyped ms → Each (λ m. m.own ≡ true → IsOwn u m) ms → Each (λ m. m.own ≡ false → IsPassed u m) ms → Each (λ m. declared lowered_declarations (plain m.name) ≡ m.extents) ms
  all_declared h typed own passed = go ms (item_at ms h) (new_at u ms h) (new_names u ms h) typed own passed
    where
      go : (l : List Member) → Each (λ m. item_extents ms m.name ≡ m.item) l → Each (IsNewAt u ms) l → Each (IsNewName u ms) l → Each IsTyped l → Each (λ m. m.own ≡ true → IsOwn u m) l → Each (λ m. m.own ≡ false → IsPassed u m) l → Each (λ m. declared lowered_declarations (plain m.name) ≡ m.extents) l
      go [] a b c d e f = tt
      go (m ∷ l) a b c d e f = (one_declared m a.0 b.0 c.0 d.0 e.0 f.0, go l a.1 b.1 c.1 d.1 e.1 f.1)
