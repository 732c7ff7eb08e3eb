-- Slots have the same layout in all units.
use Rattle.std.proofs.Common.{◌≡◌, ℕ, suc, ◌+◌, Bool, true, false, List, [], ◌∷◌, ◌++◌, map, refl, sym, ap, ◌∙◌, if◌then◌else◌}
use Rattle.std.specs.Prelude.{ℤ, length, ◌||◌, ◌==◌, Option, Some, None}
use Rattle.adj_tree.specs.Code.{plain, name_eq, Extent, fixed, Declaration, Procedure}
use Rattle.adj_tree.proofs.Names.{name_same}
use Rattle.def_meaning.specs.Apart.{has_name}
use Rattle.def_meaning.specs.Units.{declared, shape_of, shape_fits}
use Rattle.adj_tree.specs.Common.{Common, Shared}
use Rattle.def_common.specs.Blocks.{first_declaring}
use Rattle.def_common.specs.Members.{is_slot, slot_name, Member, member_slots, own_items, own_members, found_members, block_members}
use Rattle.law_common.specs.Passing.{AllSlots}
use Rattle.law_common.specs.Lowers.{Each, literals, IsLaidOut}

pub true_front : (a b : Bool) → a ≡ true → (a || b) ≡ true
true_front true b e = refl
true_front false b e = absurd cc

pub true_behind : {a : Bool} (b : Bool) → a ≡ true → (b || a) ≡ true
true_behind true h = refl
true_behind false h = h

pub each_append : {A : Type 0} (P : A → Type 0) (l k : List A) → Each P l → Each P k → Each P (l ++ k)
each_append P [] k h j = j
each_append P (a ∷ l) k h j = (h.0, each_append P l k h.1 j)

pub each_front : {A : Type 0} (P : A → Type 0) (l k : List A) → Each P (l ++ k) → Each P l
each_front P [] k h = tt
each_front P (a ∷ l) k h = (h.0, each_front P l k h.1)

pub each_behind : {A : Type 0} (P : A → Type 0) (l k : List A) → Each P (l ++ k) → Each P k
each_behind P [] k h = h
each_behind P (a ∷ l) k h = each_behind P l k h.1

pub each_map : {A : Type 0} (P Q : A → Type 0) → ((a : A) → P a → Q a) → (l : List A) → Each P l → Each Q l
each_map P Q f [] h = tt
each_map P Q f (a ∷ l) h = (f a h.0, each_map P Q f l h.1)

pub each_of_map : {A B : Type 0} (P : B → Type 0) (f : A → B) (l : List A) → Each P (map f l) → Each (λ a. P (f a)) l
each_of_map P f [] h = tt
each_of_map P f (a ∷ l) h = (h.0, each_of_map P f l h.1)

pub each_zip : {A : Type 0} (P Q : A → Type 0) (l : List A) → Each P l → Each Q l → Each (λ a. P a × Q a) l
each_zip P Q [] h k = tt
each_zip P Q (a ∷ l) h k = ((h.0, k.0), each_zip P Q l h.1 k.1)

-- ---- lookups

abbrev pub declared_names : List Declaration → List (List ℕ)
declared_names ds = map (λ d. d.name) ds

pub declared_front : (ds es : List Declaration) (x : List ℕ) → has_name x (declared_names ds) ≡ true → declared (ds ++ es) (plain x) ≡ declared ds (plain x)
declared_front [] es x h = absurd cc
declared_front (d ∷ ds) es x h = go (name_eq x d.name) h (declared_front ds es x)
  where
    go : (b : Bool) → (b || has_name x (declared_names ds)) ≡ true → (has_name x (declared_names ds) ≡ true → declared (ds ++ es) (plain x) ≡ declared ds (plain x)) → (if b then d.extents else declared (ds ++ es) (plain x)) ≡ (if b then d.extents else declared ds (plain x))
    go true k r = refl
    go false k r = r k

pub declared_behind : (ds es : List Declaration) (x : List ℕ) → has_name x (declared_names ds) ≡ false → declared (ds ++ es) (plain x) ≡ declared es (plain x)
declared_behind [] es x h = refl
declared_behind (d ∷ ds) es x h = go (name_eq x d.name) h (declared_behind ds es x)
  where
    go : (b : Bool) → (b || has_name x (declared_names ds)) ≡ false → (has_name x (declared_names ds) ≡ false → declared (ds ++ es) (plain x) ≡ declared es (plain x)) → (if b then d.extents else declared (ds ++ es) (plain x)) ≡ declared es (plain x)
    go true k r = absurd cc
    go false k r = r k

-- ---- the slots of a block

abbrev pub IsOf : List ℕ → Member → Type 0
IsOf b m = (i : ℕ) × (m.slot ≡ slot_name b i)

items_of_block : (u : Procedure) (b : List ℕ) (line i : ℕ) (ds : List Declaration) → Each (IsOf b) (own_items u b line i ds)
items_of_block u b line i [] = tt
items_of_block u b line i (d ∷ ds) = ((i, refl), items_of_block u b line (suc i) ds)

own_of_block : (u : Procedure) (b : List ℕ) (i : ℕ) (cs : List Common) → Each (IsOf b) (own_members u b i cs)
own_of_block u b i [] = tt
own_of_block u b i (c ∷ cs) = go (name_eq c.block b) (own_of_block u b (i + length c.items) cs) (own_of_block u b i cs)
  where
    go : (p : Bool) → Each (IsOf b) (own_members u b (i + length c.items) cs) → Each (IsOf b) (own_members u b i cs) → Each (IsOf b) (if p then own_items u b c.line i c.items ++ own_members u b (i + length c.items) cs else own_members u b i cs)
    go true h k = each_append (IsOf b) (own_items u b c.line i c.items) (own_members u b (i + length c.items) cs) (items_of_block u b c.line i c.items) h
    go false h k = k

pub found_of_block : (b : List ℕ) (o : Option Shared) → Each (IsOf b) (found_members b o)
found_of_block b None = tt
found_of_block b (Some s) = own_of_block s.unit b 1 s.commons

slots_of_block : (b : List ℕ) (ms rest : List Member) → Each (IsOf b) ms → AllSlots (member_slots rest) → AllSlots (member_slots (ms ++ rest))
slots_of_block b [] rest h k = k
slots_of_block b (m ∷ ms) rest h k = (ap (λ z. is_slot (plain z)) h.0.1, slots_of_block b ms rest h.1 k)

pub all_slots : (ps : List Shared) (bs : List (List ℕ)) → AllSlots (member_slots (block_members ps bs))
all_slots ps [] = tt
all_slots ps (b ∷ bs) = slots_of_block b (found_members b (first_declaring b ps)) (block_members ps bs) (found_of_block b (first_declaring b ps)) (all_slots ps bs)

-- ---- their extents

abbrev pub laid : List Member → List Declaration
laid ms = map (λ m. record { line = m.line; name = m.slot; extents = m.extents }) ms

-- the extents of a slot, which its block's first declaring unit gives
abbrev pub slot_extents : List Shared → List ℕ → List ℤ
slot_extents ps (a ∷ c ∷ i ∷ b) = literals (declared (laid (found_members b (first_declaring b ps))) (plain (a ∷ c ∷ i ∷ b)))
slot_extents ps x = []

pub slot_of_block : (b : List ℕ) (ms : List Member) → Each (IsOf b) ms → (x : List ℕ) → has_name x (member_slots ms) ≡ true → (i : ℕ) × (x ≡ slot_name b i)
slot_of_block b [] h x k = absurd cc
slot_of_block b (m ∷ ms) h x k = go (name_eq x m.slot) refl k (slot_of_block b ms h.1 x)
  where
    go : (p : Bool) → name_eq x m.slot ≡ p → (p || has_name x (member_slots ms)) ≡ true → (has_name x (member_slots ms) ≡ true → (i : ℕ) × (x ≡ slot_name b i)) → (i : ℕ) × (x ≡ slot_name b i)
    go true e k r = (h.0.0, name_same x m.slot e ∙ h.0.1)
    go false e k r = r k

laid_at : (ms : List Member) → Each (λ m. IsLaidOut m.extents) ms → (x : List ℕ) → has_name x (member_slots ms) ≡ true → IsLaidOut (declared (laid ms) (plain x))
laid_at [] h x k = absurd cc
laid_at (m ∷ ms) h x k = go (name_eq x m.slot) k (laid_at ms h.1 x)
  where
    go : (p : Bool) → (p || has_name x (member_slots ms)) ≡ true → (has_name x (member_slots ms) ≡ true → IsLaidOut (declared (laid ms) (plain x))) → IsLaidOut (if p then m.extents else declared (laid ms) (plain x))
    go true k r = h.0
    go false k r = r k

pub laid_names : (ms : List Member) → declared_names (laid ms) ≡ member_slots ms
laid_names [] = refl
laid_names (m ∷ ms) = ap (λ l. m.slot ∷ l) (laid_names ms)

laid_append : (ms rest : List Member) → laid (ms ++ rest) ≡ laid ms ++ laid rest
laid_append [] rest = refl
laid_append (m ∷ ms) rest = ap (λ l. record { line = m.line; name = m.slot; extents = m.extents } ∷ l) (laid_append ms rest)

pub slots_append : (x : List ℕ) (ms rest : List Member) → has_name x (member_slots (ms ++ rest)) ≡ (has_name x (member_slots ms) || has_name x (member_slots rest))
slots_append x [] rest = refl
slots_append x (m ∷ ms) rest = go (name_eq x m.slot) (slots_append x ms rest)
  where
    go : (b : Bool) → has_name x (member_slots (ms ++ rest)) ≡ (has_name x (member_slots ms) || has_name x (member_slots rest)) → (b || has_name x (member_slots (ms ++ rest))) ≡ ((b || has_name x (member_slots ms)) || has_name x (member_slots rest))
    go true r = refl
    go false r = r

-- what is declared of a slot
pub record LaidAt (es : List Extent) (zs : List ℤ) : Type 0 where
  pub is : es ≡ map fixed zs
  pub fit : (length zs == 0 || shape_fits zs (shape_of zs)) ≡ true

pub slots_laid : (ps : List Shared) (bs : List (List ℕ)) → Each (λ m. IsLaidOut m.extents) (block_members ps bs) → (x : List ℕ) → has_name x (member_slots (block_members ps bs)) ≡ true → LaidAt (declared (laid (block_members ps bs)) (plain x)) (slot_extents ps x)
slots_laid ps [] h x k = absurd cc
slots_laid ps (b ∷ bs) h x k = go (has_name x (member_slots f)) refl (slots_laid ps bs (each_behind (λ m. IsLaidOut m.extents) f (block_members ps bs) h) x)
  where
    f : List Member
    f = found_members b (first_declaring b ps)

    parts : declared (laid (f ++ block_members ps bs)) (plain x) ≡ declared (laid f ++ laid (block_members ps bs)) (plain x)
    parts = ap (λ l. declared l (plain x)) (laid_append f (block_members ps bs))

    here : has_name x (member_slots f) ≡ true → literals (declared (laid f) (plain x)) ≡ slot_extents ps x
    here e =
        let i = slot_of_block b f (found_of_block b (first_declaring b ps)) x e in
        ap (λ y. literals (declared (laid f) (plain y))) i.1 ∙ ap (slot_extents ps) (sym i.1)

    go : (p : Bool) → has_name x (member_slots f) ≡ p → (has_name x (member_slots (block_members ps bs)) ≡ true → LaidAt (declared (laid (block_members ps bs)) (plain x)) (slot_extents ps x)) → LaidAt (declared (laid (f ++ block_members ps bs)) (plain x)) (slot_extents ps x)
    go true e r =
        let at = laid_at f (each_front (λ m. IsLaidOut m.extents) f (block_members ps bs) h) x e in
        let front = parts ∙ declared_front (laid f) (laid (block_members ps bs)) x (ap (has_name x) (laid_names f) ∙ e) in
        record {
          is = front ∙ at.0 ∙ ap (map fixed) (here e);
          fit = ap (λ zs. length zs == 0 || shape_fits zs (shape_of zs)) (sym (here e)) ∙ at.1;
        }
    go false e r =
        let later = r (ap (λ c. c || has_name x (member_slots (block_members ps bs))) (sym e) ∙ sym (slots_append x f (block_members ps bs)) ∙ k) in
        record { is = parts ∙ declared_behind (laid f) (laid (block_members ps bs)) x (ap (has_name x) (laid_names f) ∙ e) ∙ later.is; fit = later.fit }
