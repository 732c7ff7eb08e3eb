-- One cell of one slot becomes another.
use Rattle.std.proofs.Common.{◌≡◌, ◌≢◌, ℕ, zero, suc, ◌<◌, Bool, true, false, List, [], ◌∷◌, length, get_or, refl, sym, ap, subst, ◌∙◌, arith, get_or-set_same, get_or-set_other, if◌then◌else◌}
use Rattle.std.specs.Prelude.{◌==◌, ◌&&◌}
use Rattle.std.proofs.Math.ListN.{set, length-set}
use Rattle.std.proofs.lemmas.Grind.{get_or-set_at}
use Rattle.std.proofs.lemmas.List.{get_or_default}
use Rattle.adj_tree.specs.Code.{Var, plain, shadow, helper, name_eq}
use Rattle.adj_tree.proofs.Names.{name_same}
use Rattle.def_meaning.specs.Numbers.{Numbers}
use Rattle.def_meaning.specs.Store as store
use Rattle.def_meaning.specs.Store.{Shape, scalar, size_of, Store}
use Rattle.def_meaning.specs.Apart.{AreApart}
use Rattle.adj_interp_frame.specs.declared.slot.Slot.{Slot}
use Rattle.adj_interp_frame.specs.Prepared.{var_at}
use Rattle.adj_interp_frame.specs.Framed.{in_slot, slot_shape, IsSlot, IsFrame, shapes_in, zero_in, store_in}
use Rattle.adj_interp_frame.specs.Shown.{Shows}
use Rattle.adj_interp_frame.specs.Suited.{counts_in}
use Rattle.adj_interp_frame.proofs.Reading.{other_name, at_number}

module _ {C : Type 0} where
  module _ {A : Type 0} (other : A) (f : Slot C → A) (e d : Slot C) where
    -- what the new slot says alike, the slots say as before
    pub said_before : (names : List (List ℕ)) (vs : List (Slot C)) (i : ℕ) (x : List ℕ) → i < length vs → f e ≡ f (get_or vs i d) → in_slot other f names (set vs i e) x ≡ in_slot other f names vs x
    said_before names [] i x lt h = absurd (omega arith)
    said_before [] (v ∷ vs) zero x lt h = refl
    said_before [] (v ∷ vs) (suc i) x lt h = refl
    said_before (y ∷ ys) (v ∷ vs) zero x lt h = ap (λ z. if name_eq x y then z else in_slot other f ys vs x) h
    said_before (y ∷ ys) (v ∷ vs) (suc i) x lt h = ap (λ z. if name_eq x y then f v else z) (said_before ys vs i x (omega arith) h)

    -- the new slot speaks for its own variable alone
    pub said_now : (names : List (List ℕ)) (vs : List (Slot C)) (i : ℕ) (x : List ℕ) → AreApart names → length names ≡ length vs → i < length vs → in_slot other f names (set vs i e) x ≡ (if name_eq x (get_or names i []) then f e else in_slot other f names vs x)
    said_now [] [] i x a len lt = absurd (omega arith)
    said_now [] (v ∷ vs) i x a len lt = absurd (omega arith)
    said_now (y ∷ ys) [] i x a len lt = absurd (omega arith)
    said_now (y ∷ ys) (v ∷ vs) zero x a len lt = again (name_eq x y)
      where
        again : (b : Bool) → (if b then f e else in_slot other f ys vs x) ≡ (if b then f e else (if b then f v else in_slot other f ys vs x))
        again true = refl
        again false = refl
    said_now (y ∷ ys) (v ∷ vs) (suc i) x a len lt = ap (λ z. if name_eq x y then f v else z) (said_now ys vs i x a.1 (omega arith) (omega arith)) ∙ turned (name_eq x y) refl (name_eq x (get_or ys i [])) refl
      where
        turned : (b : Bool) → name_eq x y ≡ b → (t : Bool) → name_eq x (get_or ys i []) ≡ t → (if b then f v else (if t then f e else in_slot other f ys vs x)) ≡ (if t then f e else (if b then f v else in_slot other f ys vs x))
        turned true g true h =
            let same : get_or ys i [] ≡ y = sym (name_same x (get_or ys i []) h) ∙ name_same x y g in
            let differ = other_name y ys i a.0 (omega arith) in
            absurd (let bad : true ≡ false = sym h ∙ ap (λ z. name_eq z (get_or ys i [])) (name_same x y g ∙ sym same) ∙ ap (λ z. name_eq (get_or ys i []) z) same ∙ differ in cc)
        turned true g false h = refl
        turned false g t h = refl

  -- an entry keeps its form
  pub kept_frame : (names : List (List ℕ)) (vs : List (Slot C)) (i : ℕ) (e : Slot C) → IsFrame names vs → i < length vs → IsSlot e → IsFrame names (set vs i e)
  kept_frame names vs i e f lt h = record { apart = f.apart; each = f.each ∙ sym (length-set vs i e); sized = λ k g l. sized k g l (k == i) refl }
    where
      sized : (k : ℕ) (g : Slot C) → k < length (set vs i e) → (b : Bool) → (k == i) ≡ b → IsSlot (get_or (set vs i e) k g)
      sized k g l true q = let s : k ≡ i = grind arith in subst IsSlot (sym (get_or-set_at vs i k e g s lt)) h
      sized k g l false q =
          let s : k ≢ i = grind arith in
          let n = length-set vs i e in
          subst IsSlot (sym (get_or-set_other vs i k e g s)) (f.sized k g (omega (arith, l, n)))

  -- where a slot keeps its number of cells, each does
  pub kept_sizes : (vs : List (Slot C)) (i : ℕ) (e d : Slot C) → i < length vs → length e.cells.items ≡ length (get_or vs i d).cells.items → (k : ℕ) (g : Slot C) → length (get_or (set vs i e) k g).cells.items ≡ length (get_or vs k g).cells.items
  kept_sizes vs i e d lt h k g = go (k == i) refl
    where
      go : (b : Bool) → (k == i) ≡ b → length (get_or (set vs i e) k g).cells.items ≡ length (get_or vs k g).cells.items
      go true q =
          let s : k ≡ i = grind arith in
          ap (λ (v : Slot C). length v.cells.items) (get_or-set_at vs i k e g s lt) ∙ h ∙ ap (λ (v : Slot C). length v.cells.items) (get_or_default vs i d g lt) ∙ ap (λ j. length (get_or vs j g).cells.items) (sym s)
      go false q = let s : k ≢ i = grind arith in ap (λ (v : Slot C). length v.cells.items) (get_or-set_other vs i k e g s)

  pub kept_counts : (vs : List (Slot C)) (i : ℕ) (e d : Slot C) → i < length vs → length e.cells.items ≡ length (get_or vs i d).cells.items → counts_in (set vs i e) ≡ counts_in vs
  kept_counts [] i e d lt h = absurd (omega arith)
  kept_counts (v ∷ vs) zero e d lt h = ap (λ n. n ∷ counts_in vs) h
  kept_counts (v ∷ vs) (suc i) e d lt h = ap (λ ns. length v.cells.items ∷ ns) (kept_counts vs i e d (omega arith) h)

module _ {C : Type 0} (numbers : Numbers C) where
  -- a cell of a list with another number in one
  pub cell_now : (cs : List C) (k j : ℕ) (w : C) → k < length cs → get_or (set cs k w) j (zero_in numbers) ≡ (if j == k then w else get_or cs j (zero_in numbers))
  cell_now cs k j w lt = go (j == k) refl
    where
      go : (b : Bool) → (j == k) ≡ b → get_or (set cs k w) j (zero_in numbers) ≡ (if b then w else get_or cs j (zero_in numbers))
      go true h = let s : j ≡ k = grind arith in ap (λ z. get_or (set cs k w) z (zero_in numbers)) s ∙ get_or-set_same cs k w (zero_in numbers) lt
      go false h = let s : j ≢ k = grind arith in get_or-set_other cs k j w (zero_in numbers) s

  module _ (names : List (List ℕ)) (vs : List (Slot C)) (i : ℕ) (e d : Slot C) (cell : ℕ) (w : C) (f : IsFrame names vs) (there : i < length vs) (shapes : slot_shape e ≡ slot_shape (get_or vs i d)) (cells : e.cells.items ≡ set (get_or vs i d).cells.items cell w) (within : cell < length (get_or vs i d).cells.items) (shape : Var → Shape) (s : Store C) (h : Shows numbers names vs shape s) where
    cells_plain : (y : List ℕ) (j : ℕ) → j < size_of (shape (plain y)) → (if name_eq y (get_or names i []) && (j == cell) then w else s (plain y) j) ≡ in_slot (zero_in numbers) (λ v. get_or v.cells.items j (zero_in numbers)) names (set vs i e) y
    cells_plain y j l = go (name_eq y (get_or names i [])) refl ∙ sym (said_now (zero_in numbers) (λ v. get_or v.cells.items j (zero_in numbers)) e d names vs i y f.apart f.each there)
      where
        go : (b : Bool) → name_eq y (get_or names i []) ≡ b → (if b && (j == cell) then w else s (plain y) j) ≡ (if b then get_or e.cells.items j (zero_in numbers) else in_slot (zero_in numbers) (λ v. get_or v.cells.items j (zero_in numbers)) names vs y)
        go true g =
            ap (λ z. if j == cell then w else z)
            (h.cells (plain y) j l ∙ ap (in_slot (zero_in numbers) (λ v. get_or v.cells.items j (zero_in numbers)) names vs) (name_same y (get_or names i []) g) ∙ at_number (zero_in numbers) (λ v. get_or v.cells.items j (zero_in numbers)) names vs i d f.apart f.each there)
            ∙ sym (ap (λ cs. get_or cs j (zero_in numbers)) cells ∙ cell_now (get_or vs i d).cells.items cell j w within)
        go false g = h.cells (plain y) j l

    -- where slots show a store, they go on showing it when a cell of both becomes another
    pub shown_set : Shows numbers names (set vs i e) shape (store.set s (var_at names i) cell w)
    shown_set = record { shapes = look; cells = hold }
      where
        look : (x : Var) → shape x ≡ shapes_in names (set vs i e) x
        look (plain y) = h.shapes (plain y) ∙ sym (said_before scalar slot_shape e d names vs i y there shapes)
        look (shadow y) = h.shapes (shadow y)
        look (helper r k) = h.shapes (helper r k)

        hold : (x : Var) (j : ℕ) → j < size_of (shape x) → store.set s (var_at names i) cell w x j ≡ store_in numbers names (set vs i e) x j
        hold (plain y) j l = cells_plain y j l
        hold (shadow y) j l = h.cells (shadow y) j l
        hold (helper r k) j l = h.cells (helper r k) j l

  module _ (names : List (List ℕ)) (vs : List (Slot C)) (i : ℕ) (e d : Slot C) (cs : ℕ → C) (f : IsFrame names vs) (there : i < length vs) (shapes : slot_shape e ≡ slot_shape (get_or vs i d)) (cells : (j : ℕ) → j < size_of (slot_shape e) → cs j ≡ get_or e.cells.items j (zero_in numbers)) (shape : Var → Shape) (s : Store C) (h : Shows numbers names vs shape s) where
    all_plain : (y : List ℕ) (j : ℕ) → j < size_of (shape (plain y)) → (if name_eq y (get_or names i []) then cs j else s (plain y) j) ≡ in_slot (zero_in numbers) (λ v. get_or v.cells.items j (zero_in numbers)) names (set vs i e) y
    all_plain y j l = go (name_eq y (get_or names i [])) refl ∙ sym (said_now (zero_in numbers) (λ v. get_or v.cells.items j (zero_in numbers)) e d names vs i y f.apart f.each there)
      where
        size : name_eq y (get_or names i []) ≡ true → size_of (shape (plain y)) ≡ size_of (slot_shape e)
        size g = ap size_of (h.shapes (plain y) ∙ ap (in_slot scalar slot_shape names vs) (name_same y (get_or names i []) g) ∙ at_number scalar slot_shape names vs i d f.apart f.each there ∙ sym shapes)

        go : (b : Bool) → name_eq y (get_or names i []) ≡ b → (if b then cs j else s (plain y) j) ≡ (if b then get_or e.cells.items j (zero_in numbers) else in_slot (zero_in numbers) (λ v. get_or v.cells.items j (zero_in numbers)) names vs y)
        go true g = cells j (subst (λ z. j < z) (size g) l)
        go false g = h.cells (plain y) j l

    -- where slots show a store, they go on showing it when all cells of a variable become others in both
    pub shown_set_all : Shows numbers names (set vs i e) shape (store.set_all s (var_at names i) cs)
    shown_set_all = record { shapes = look; cells = hold }
      where
        look : (x : Var) → shape x ≡ shapes_in names (set vs i e) x
        look (plain y) = h.shapes (plain y) ∙ sym (said_before scalar slot_shape e d names vs i y there shapes)
        look (shadow y) = h.shapes (shadow y)
        look (helper r k) = h.shapes (helper r k)

        hold : (x : Var) (j : ℕ) → j < size_of (shape x) → store.set_all s (var_at names i) cs x j ≡ store_in numbers names (set vs i e) x j
        hold (plain y) j l = all_plain y j l
        hold (shadow y) j l = h.cells (shadow y) j l
        hold (helper r k) j l = h.cells (helper r k) j l
