-- The table of a unit's blocks has the members that it declares of each.
use Rattle.std.proofs.Common.{◌≡◌, ℕ, suc, ◌+◌, Bool, true, false, List, [], ◌∷◌, ◌++◌, length, map, Option, Some, None, refl, sym, ap, ◌∙◌, append_assoc, if◌then◌else◌}
use Rattle.std.specs.Prelude.{◌||◌}
use Rattle.std.specs.List.{slice_get}
use Rattle.adj_tree.specs.Code.{plain, name_eq, Declaration, Procedure}
use Rattle.adj_tree.proofs.Names.{name_refl, name_same}
use Rattle.def_meaning.specs.Apart.{has_name}
use Rattle.def_meaning.specs.Units.{declared}
use Rattle.def_meaning.proofs.Variables.{name_comm}
use Rattle.def_sweep.specs.Declared.{declaration}
use Rattle.adj_tree.specs.Common.{Common, Shared}
use Rattle.def_common.specs.Blocks.{declares, extents_in, without_repeats}
use Rattle.def_common.specs.Members.{Member, own_items, own_members}
use Rattle.def_common.specs.Refused.{last_line}
use Rattle.adj_common.specs.Tables.{tabled, beside}
use Rattle.adj_common.specs.Entries.{Entry, or_else, item_entry, statement_entries, entries_at, entries_of_row, line_at, line_of_row, OwnBlocks, block_names, IsOwn}
use Rattle.adj_common.proofs.Tabled.{places_from, once_has, tabled_is}

-- ---- names are the same in both orders

pub name_turned : (x y : List ℕ) → name_eq x y ≡ name_eq y x
name_turned x y = go (name_eq x y) refl
  where
    go : (b : Bool) → name_eq x y ≡ b → b ≡ name_eq y x
    go true e = sym (name_refl x) ∙ ap (λ z. name_eq z x) (name_same x y e)
    go false e = sym (name_comm x y e)

-- ---- declarations

pub extents_declared : (line : ℕ) (ds : List Declaration) (x : List ℕ) → (declaration line ds x).extents ≡ declared ds (plain x)
extents_declared line [] x = refl
extents_declared line (d ∷ ds) x = ap (λ b. (if b then d else declaration line ds x).extents) (name_turned d.name x) ∙ go (name_eq x d.name) (extents_declared line ds x)
  where
    go : (b : Bool) → (declaration line ds x).extents ≡ declared ds (plain x) → (if b then d else declaration line ds x).extents ≡ (if b then d.extents else declared ds (plain x))
    go true h = refl
    go false h = h

-- ---- what a unit declares of a block

abbrev pub own_entries : List Declaration → List ℕ → List Common → List Entry
own_entries ds b [] = []
own_entries ds b (c ∷ cs) = if name_eq c.block b then statement_entries ds c ++ own_entries ds b cs else own_entries ds b cs

pub at_end : {A : Type 0} (front : List A) (a : A) (rest : List A) → slice_get (front ++ a ∷ rest) (length front) ≡ Some a
at_end [] a rest = refl
at_end (x ∷ front) a rest = at_end front a rest

pub longer : {A : Type 0} (l : List A) (a : A) → length (l ++ a ∷ []) ≡ suc (length l)
longer [] a = refl
longer (x ∷ l) a = ap suc (longer l a)

row_entries : (ds : List Declaration) (b : List ℕ) (front cs : List Common) → entries_of_row ds (front ++ cs) (places_from (length front) (block_names cs) b) ≡ own_entries ds b cs
row_entries ds b front [] = refl
row_entries ds b front (c ∷ cs) = go (name_eq c.block b) ((λ i. entries_of_row ds (sym (append_assoc front (c ∷ []) cs) i) (places_from (sym (longer front c) i) (block_names cs) b)) ∙ row_entries ds b (front ++ c ∷ []) cs)
  where
    go : (p : Bool) → entries_of_row ds (front ++ c ∷ cs) (places_from (suc (length front)) (block_names cs) b) ≡ own_entries ds b cs → entries_of_row ds (front ++ c ∷ cs) (if p then length front ∷ places_from (suc (length front)) (block_names cs) b else places_from (suc (length front)) (block_names cs) b) ≡ (if p then statement_entries ds c ++ own_entries ds b cs else own_entries ds b cs)
    go true h = λ i. entries_at ds (at_end front c cs i) ++ h i
    go false h = h

row_line : (b : List ℕ) (line : ℕ) (front cs : List Common) → line_of_row line (front ++ cs) (places_from (length front) (block_names cs) b) ≡ last_line b line cs
row_line b line front [] = refl
row_line b line front (c ∷ cs) = go (name_eq c.block b) (λ n. (λ i. line_of_row n (sym (append_assoc front (c ∷ []) cs) i) (places_from (sym (longer front c) i) (block_names cs) b)) ∙ row_line b n (front ++ c ∷ []) cs)
  where
    go : (p : Bool) → ((n : ℕ) → line_of_row n (front ++ c ∷ cs) (places_from (suc (length front)) (block_names cs) b) ≡ last_line b n cs) → line_of_row line (front ++ c ∷ cs) (if p then length front ∷ places_from (suc (length front)) (block_names cs) b else places_from (suc (length front)) (block_names cs) b) ≡ (if p then last_line b c.line cs else last_line b line cs)
    go true h = ap (λ o. line_of_row (line_at line o) (front ++ c ∷ cs) (places_from (suc (length front)) (block_names cs) b)) (at_end front c cs) ∙ h c.line
    go false h = h line

-- ---- what stands beside names

map_map : {A B C : Type 0} (g : B → C) (f : A → B) (h : A → C) → ((a : A) → g (f a) ≡ h a) → (l : List A) → map g (map f l) ≡ map h l
map_map g f h e [] = refl
map_map g f h e (a ∷ l) = λ i. e a i ∷ map_map g f h e l i

abbrev pub when : {A : Type 0} → Bool → A → Option A
when true a = Some a
when false a = None

pub beside_image : {A : Type 0} (f : List ℕ → A) (ns : List (List ℕ)) (x : List ℕ) → beside ns (map f ns) x ≡ when (has_name x ns) (f x)
beside_image f [] x = refl
beside_image f (n ∷ ns) x = go (name_eq x n) refl (beside_image f ns x)
  where
    go : (b : Bool) → name_eq x n ≡ b → beside ns (map f ns) x ≡ when (has_name x ns) (f x) → (if b then Some (f n) else beside ns (map f ns) x) ≡ when (b || has_name x ns) (f x)
    go true e h = ap (λ z. Some (f z)) (sym (name_same x n e))
    go false e h = h

-- ---- the table

module _ (s : Shared) (o : OwnBlocks) (h : IsOwn s o) where
  names_own : o.names ≡ without_repeats [] (block_names s.commons)
  names_own = ap (λ z. z.names) h.0 ∙ (tabled_is (block_names s.commons)).names

  has_own : (b : List ℕ) → has_name b o.names ≡ declares b s
  has_own b = ap (has_name b) names_own ∙ once_has [] (block_names s.commons) b refl

  groups_own : o.groups ≡ map (λ b. own_entries o.declarations b s.commons) o.names
  groups_own =
      ap (λ z. z.groups) h.0
      ∙ ap (map (entries_of_row o.declarations s.commons)) (tabled_is (block_names s.commons)).rows
      ∙ map_map (entries_of_row o.declarations s.commons) (places_from 0 (block_names s.commons)) (λ b. own_entries o.declarations b s.commons) (λ b. row_entries o.declarations b [] s.commons) (tabled (block_names s.commons)).names
      ∙ ap (map (λ b. own_entries o.declarations b s.commons)) (ap (λ z. z.names) (sym h.0))

  lines_own : o.lines ≡ map (λ b. last_line b s.unit.line s.commons) o.names
  lines_own =
      ap (λ z. z.lines) h.0
      ∙ ap (map (line_of_row s.unit.line s.commons)) (tabled_is (block_names s.commons)).rows
      ∙ map_map (line_of_row s.unit.line s.commons) (places_from 0 (block_names s.commons)) (λ b. last_line b s.unit.line s.commons) (λ b. row_line b s.unit.line [] s.commons) (tabled (block_names s.commons)).names
      ∙ ap (map (λ b. last_line b s.unit.line s.commons)) (ap (λ z. z.names) (sym h.0))

  -- the members of a block, where the unit declares it
  pub group_own : (b : List ℕ) → beside o.names o.groups b ≡ when (declares b s) (own_entries o.declarations b s.commons)
  group_own b = ap (λ g. beside o.names g b) groups_own ∙ beside_image (λ b. own_entries o.declarations b s.commons) o.names b ∙ ap (λ c. when c (own_entries o.declarations b s.commons)) (has_own b)

  -- and the line of its last statement
  pub line_own : (b : List ℕ) → beside o.names o.lines b ≡ when (declares b s) (last_line b s.unit.line s.commons)
  line_own b = ap (λ g. beside o.names g b) lines_own ∙ beside_image (λ b. last_line b s.unit.line s.commons) o.names b ∙ ap (λ c. when c (last_line b s.unit.line s.commons)) (has_own b)

-- ---- members without their slots

abbrev pub bare : Member → Entry
bare m = record { name = m.name; extents = m.extents; item = m.item; line = m.line; own = m.own }

pub map_append : {A B : Type 0} (f : A → B) (l k : List A) → map f (l ++ k) ≡ map f l ++ map f k
map_append f [] k = refl
map_append f (a ∷ l) k = ap (λ z. f a ∷ z) (map_append f l k)

module _ (ds : List Declaration) (u : Procedure) (same : (line : ℕ) (x : List ℕ) → declaration line ds x ≡ declaration line u.declarations x) where
  item_same : (d : Declaration) → or_else (declaration 0 ds d.name).extents d.extents ≡ extents_in u d
  item_same d = ap (λ es. or_else es d.extents) (ap (λ z. z.extents) (same 0 d.name) ∙ extents_declared 0 u.declarations d.name)

  bare_items : (b : List ℕ) (line i : ℕ) (items : List Declaration) → map bare (own_items u b line i items) ≡ map (item_entry ds line) items
  bare_items b line i [] = refl
  bare_items b line i (d ∷ items) = λ j. record { name = d.name; extents = sym (item_same d) j; item = d.extents; line = line; own = true } ∷ bare_items b line (suc i) items j

  pub bare_own : (b : List ℕ) (i : ℕ) (cs : List Common) → map bare (own_members u b i cs) ≡ own_entries ds b cs
  bare_own b i [] = refl
  bare_own b i (c ∷ cs) = go (name_eq c.block b) (bare_own b (i + length c.items) cs) (bare_own b i cs)
    where
      go : (p : Bool) → map bare (own_members u b (i + length c.items) cs) ≡ own_entries ds b cs → map bare (own_members u b i cs) ≡ own_entries ds b cs → map bare (if p then own_items u b c.line i c.items ++ own_members u b (i + length c.items) cs else own_members u b i cs) ≡ (if p then statement_entries ds c ++ own_entries ds b cs else own_entries ds b cs)
      go true h k = map_append bare (own_items u b c.line i c.items) (own_members u b (i + length c.items) cs) ∙ (λ j. bare_items b c.line i c.items j ++ h j)
      go false h k = k
