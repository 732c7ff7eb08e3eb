-- The entry of a unit that gets an input.
use Rattle.std.proofs.Common.{◌≡◌, ℕ, zero, suc, ◌<◌, true, false, List, [], ◌∷◌, ◌++◌, map, length, get_or, refl, sym, ap, ap₂, subst, ◌∙◌, arith}
use Rattle.std.specs.Prelude.{◌==◌, ◌&&◌}
use Rattle.std.proofs.lemmas.List.{length-map, get_or-map}
use Rattle.adj_tree.specs.Code.{plain, name_eq, Procedure}
use Rattle.adj_tree.proofs.Names.{nat_same}
use Rattle.def_meaning.specs.Apart.{has_name, AreApart}
use Rattle.def_meaning.specs.Numbers.{Numbers}
use Rattle.def_meaning.specs.Store.{size_of, Store, set_all}
use Rattle.def_meaning.specs.Units.{Slot, Actual, declared, dummies_fit, entry_store, input_store, from_slot, nth_cell, extents_of, shape_fits, slot_fits, slots_fit, fits}
use Rattle.def_meaning.proofs.Booleans.{and_true, or_false, or_second}
use Rattle.adj_interp_frame.specs.declared.slot.Slot.{Slot as EntrySlot}
use Rattle.adj_interp_frame.specs.declared.actual.Actual.{Actual as CodeActual}
use Rattle.adj_interp_frame.specs.declared.actual.Actual.TheVariants as actual
use Rattle.adj_interp_frame.specs.Prepared.{var_at}
use Rattle.adj_interp_frame.specs.Framed.{IsFrame, shapes_in, zero_in, store_in}
use Rattle.adj_interp_frame.specs.Called.{actual_in, actuals_in}
use Rattle.adj_interp_frame.proofs.Reading.{read_cell, read_shape}
use Rattle.adj_interp.specs.Inputs.{entry_seen}

-- ---- names

front_none : (x : List ℕ) (ds others : List (List ℕ)) → has_name x (ds ++ others) ≡ false → has_name x ds ≡ false
front_none x [] others h = refl
front_none x (d ∷ ds) others h = let o = or_false (name_eq x d) (has_name x (ds ++ others)) h in rw o.0 (front_none x ds others o.1)

-- the first of names that are apart are apart
pub apart_front : (ds others : List (List ℕ)) → AreApart (ds ++ others) → AreApart ds
apart_front [] others a = tt
apart_front (d ∷ ds) others a = (front_none d ds others a.0, apart_front ds others a.1)

module _ {C : Type 0} (numbers : Numbers C) where
  -- ---- an input that fits

  -- it has a slot for each dummy, and each slot has its cells
  slots_each : (u : Procedure) (s : Store C) (ds : List (List ℕ)) (vs : List (Slot C)) → slots_fit numbers u s ds vs ≡ true → (length ds ≡ length vs) × ((i : ℕ) (d : Slot C) → i < length vs → length (get_or vs i d).cells ≡ size_of (get_or vs i d).shape)
  slots_each u s [] [] h = (refl, λ i d l. absurd (omega arith))
  slots_each u s [] (v ∷ vs) h = absurd cc
  slots_each u s (d ∷ ds) [] h = absurd cc
  slots_each u s (d ∷ ds) (v ∷ vs) h =
      let p = and_true (slot_fits (extents_of numbers u s (plain d)) v) (slots_fit numbers u s ds vs) h in
      let q = and_true (shape_fits (extents_of numbers u s (plain d)) v.shape) (length v.cells == size_of v.shape) p.0 in
      let rest = slots_each u s ds vs p.1 in
      (ap suc rest.0, each (nat_same (length v.cells) (size_of v.shape) q.1) rest.1)
    where
      each : length v.cells ≡ size_of v.shape → ((i : ℕ) (d : Slot C) → i < length vs → length (get_or vs i d).cells ≡ size_of (get_or vs i d).shape) → (i : ℕ) (d : Slot C) → i < length (v ∷ vs) → length (get_or (v ∷ vs) i d).cells ≡ size_of (get_or (v ∷ vs) i d).shape
      each here there zero d l = here
      each here there (suc i) d l = there i d (omega (arith, l))

  -- so the dummies have slots as a caller's variables
  pub input_framed : (u : Procedure) (input : List (Slot C)) (vs : List (EntrySlot C)) → AreApart u.dummies → fits numbers u input ≡ true → map entry_seen vs ≡ input → IsFrame u.dummies vs
  input_framed u input vs a h same =
      let e = slots_each u (input_store numbers u input) u.dummies input h in
      let n = length-map vs entry_seen in
      let count : length u.dummies ≡ length vs = e.0 ∙ ap length (sym same) ∙ n in
      record {
        apart = a;
        each = count;
        sized = λ i d l.
            let at = get_or-map entry_seen vs i d (entry_seen d) l in
            let k = subst (λ (ws : List (Slot C)). length (get_or ws i (entry_seen d)).cells ≡ size_of (get_or ws i (entry_seen d)).shape) (sym same) (e.1 i (entry_seen d) (subst (λ ws. i < length ws) same (omega (arith, n, l)))) in
            subst (λ (w : Slot C). length w.cells ≡ size_of w.shape) at k;
      }

  -- actuals of the same shapes fit the dummies
  fits_alike : (u : Procedure) (s : Store C) (ds : List (List ℕ)) (got : List (Actual C)) (vs : List (Slot C)) → slots_fit numbers u s ds vs ≡ true → ((k : ℕ) (a : Actual C) (b : Slot C) → k < length got → (get_or got k a).shape ≡ (get_or vs k b).shape) → dummies_fit numbers u s ds got ≡ true
  fits_alike u s [] got vs h e = refl
  fits_alike u s (d ∷ ds) [] vs h e = refl
  fits_alike u s (d ∷ ds) (a ∷ got) [] h e = absurd cc
  fits_alike u s (d ∷ ds) (a ∷ got) (v ∷ vs) h e =
      let zs = extents_of numbers u s (plain d) in
      let p = and_true (slot_fits zs v) (slots_fit numbers u s ds vs) h in
      let q = and_true (shape_fits zs v.shape) (length v.cells == size_of v.shape) p.0 in
      let here = or_second (length (declared u.declarations (plain d)) == 0) (shape_fits zs a.shape) (ap (shape_fits zs) (e 0 a v (omega arith)) ∙ q.0) in
      let rest = fits_alike u s ds got vs p.1 (λ k b w l. e (suc k) b w (omega (arith, l))) in
      (λ i. here i && rest i)

  -- ---- the store at the entry

  -- the cell of a list
  nth_is : (cs : List C) (j : ℕ) → nth_cell numbers cs j ≡ get_or cs j (zero_in numbers)
  nth_is [] j = refl
  nth_is (c ∷ cs) zero = refl
  nth_is (c ∷ cs) (suc j) = nth_is cs j

  -- only the cells of actuals are looked at
  entry_alike : (ds : List (List ℕ)) (got others : List (Actual C)) → length got ≡ length others → ((k : ℕ) (a b : Actual C) → k < length got → (get_or got k a).cells ≡ (get_or others k b).cells) → entry_store numbers ds got ≡ entry_store numbers ds others
  entry_alike [] got others n h = refl
  entry_alike (d ∷ ds) [] [] n h = refl
  entry_alike (d ∷ ds) [] (b ∷ others) n h = absurd (omega arith)
  entry_alike (d ∷ ds) (a ∷ got) [] n h = absurd (omega arith)
  entry_alike (d ∷ ds) (a ∷ got) (b ∷ others) n h = ap₂ (λ s cs. set_all s (plain d) cs) (entry_alike ds got others (omega arith) (λ k c e l. h (suc k) c e (omega (arith, l)))) (h 0 a b (omega arith))

  module _ (u : Procedure) (input : List (Slot C)) (vs : List (EntrySlot C)) (all : List (CodeActual C)) (f : IsFrame u.dummies vs) (same : map entry_seen vs ≡ input) (count : length all ≡ length vs) (each : (k : ℕ) (d : CodeActual C) → k < length vs → get_or all k d ≡ actual.Whole k) where
    abbrev given : List (Actual C)
    given = actuals_in u.dummies (shapes_in u.dummies vs) (store_in numbers u.dummies vs) all

    cells_at : (d : EntrySlot C) (k : ℕ) (a b : Actual C) → k < length vs → (get_or given k a).cells ≡ (get_or (map (from_slot numbers) input) k b).cells
    cells_at d k a b l =
        let n = length-map vs entry_seen in
        let there : k < length input = subst (λ (ws : List (Slot C)). k < length ws) same (omega (arith, n, l)) in
        let at : get_or given k a ≡ actual_in u.dummies (shapes_in u.dummies vs) (store_in numbers u.dummies vs) (actual.Whole k) =
        get_or-map (actual_in u.dummies (shapes_in u.dummies vs) (store_in numbers u.dummies vs)) all k (actual.Whole k) a (omega (arith, l, count))
        ∙ ap (actual_in u.dummies (shapes_in u.dummies vs) (store_in numbers u.dummies vs)) (each k (actual.Whole k) l) in
        let slot : get_or input k (entry_seen d) ≡ entry_seen (get_or vs k d) = ap (λ (ws : List (Slot C)). get_or ws k (entry_seen d)) (sym same) ∙ get_or-map entry_seen vs k d (entry_seen d) l in
        let between : store_in numbers u.dummies vs (var_at u.dummies k) ≡ nth_cell numbers (get_or vs k d).cells.items = λ i j. (read_cell numbers u.dummies vs k d j f l ∙ sym (nth_is (get_or vs k d).cells.items j)) i in
        ap (λ (z : Actual C). z.cells) at
        ∙ between
        ∙ ap (λ (z : Slot C). nth_cell numbers z.cells) (sym slot)
        ∙ ap (λ (z : Actual C). z.cells) (sym (get_or-map (from_slot numbers) input k (entry_seen d) b there))

    cells_alike : (ws : List (EntrySlot C)) → length ws ≡ length vs → (k : ℕ) (a b : Actual C) → k < length given → (get_or given k a).cells ≡ (get_or (map (from_slot numbers) input) k b).cells
    cells_alike [] n k a b l = let m = length-map all (actual_in u.dummies (shapes_in u.dummies vs) (store_in numbers u.dummies vs)) in absurd (omega (arith, n, m, l, count))
    cells_alike (w ∷ ws) n k a b l = let m = length-map all (actual_in u.dummies (shapes_in u.dummies vs) (store_in numbers u.dummies vs)) in cells_at w k a b (omega (arith, m, l, count))

    shape_at : (d : EntrySlot C) (k : ℕ) (a : Actual C) (b : Slot C) → k < length vs → (get_or given k a).shape ≡ (get_or input k b).shape
    shape_at d k a b l =
        let n = length-map vs entry_seen in
        let at : get_or given k a ≡ actual_in u.dummies (shapes_in u.dummies vs) (store_in numbers u.dummies vs) (actual.Whole k) =
        get_or-map (actual_in u.dummies (shapes_in u.dummies vs) (store_in numbers u.dummies vs)) all k (actual.Whole k) a (omega (arith, l, count))
        ∙ ap (actual_in u.dummies (shapes_in u.dummies vs) (store_in numbers u.dummies vs)) (each k (actual.Whole k) l) in
        let slot : get_or input k b ≡ entry_seen (get_or vs k d) = ap (λ (ws : List (Slot C)). get_or ws k b) (sym same) ∙ get_or-map entry_seen vs k d b l in
        ap (λ (z : Actual C). z.shape) at ∙ read_shape u.dummies vs k d f l ∙ ap (λ (z : Slot C). z.shape) (sym slot)

    shapes_alike : (ws : List (EntrySlot C)) → length ws ≡ length vs → (k : ℕ) (a : Actual C) (b : Slot C) → k < length given → (get_or given k a).shape ≡ (get_or input k b).shape
    shapes_alike [] n k a b l = let m = length-map all (actual_in u.dummies (shapes_in u.dummies vs) (store_in numbers u.dummies vs)) in absurd (omega (arith, n, m, l, count))
    shapes_alike (w ∷ ws) n k a b l = let m = length-map all (actual_in u.dummies (shapes_in u.dummies vs) (store_in numbers u.dummies vs)) in shape_at w k a b (omega (arith, m, l, count))

    -- where whole dummies are the actuals, the store is that of the input
    pub input_entered : entry_store numbers u.dummies given ≡ input_store numbers u input
    input_entered =
        let m = length-map all (actual_in u.dummies (shapes_in u.dummies vs) (store_in numbers u.dummies vs)) in
        let n = length-map vs entry_seen in
        let k = length-map input (from_slot numbers) in
        let z = ap length same in
        entry_alike u.dummies given (map (from_slot numbers) input) (omega (arith, m, n, k, z, count)) (λ j a b l. cells_alike vs refl j a b l)

    -- where the input fits, they fit the dummies
    pub input_fits : fits numbers u input ≡ true → dummies_fit numbers u (entry_store numbers u.dummies given) u.dummies given ≡ true
    input_fits h = ap (λ s. dummies_fit numbers u s u.dummies given) input_entered ∙ fits_alike u (input_store numbers u input) u.dummies given input h (λ k a b l. shapes_alike vs refl k a b l)
