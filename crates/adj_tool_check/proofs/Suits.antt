-- Data without a fault suit the head.
use Rattle.std.proofs.Common.{◌≡◌, ℕ, Bool, true, false, List, [], ◌∷◌, ◌++◌, map, length, refl, sym, ap, ◌∙◌, subst, Option, Some, None, if◌then◌else◌}
use Rattle.std.specs.Prelude.{ℤ, pos, ◌==◌}
use Rattle.std.proofs.lemmas.List.{length-map}
use Rattle.adj_tree.specs.Code.{Procedure}
use Rattle.def_meaning.specs.Numbers.{words}
use Rattle.def_meaning.specs.Units.{Slot, fits}
use Rattle.adj_tree.proofs.Names.{nat_same}
use Rattle.def_sweep.specs.Tangents.{AreAlike, AreTangents, AreZeros, OthersAreZero, IsDirection, cells_of}
use Rattle.adj_data.specs.Entries.{Entry, entries_of, entry_named}
use Rattle.adj_data.specs.Faults.{Fault, or_else, fault_at, data_items, items_fault, dummies_fault}
use Rattle.adj_data.specs.Fitting.{IsSized}
use Rattle.adj_data.specs.Given.{slot_given}
use Rattle.adj_data.specs.Marked.{Wanted, wanted, titles_of, tangent_mark, adjoint_mark, mark_fault, marks_fault, slots_of, entries_check, check_fault, zeros_like, filled, marked_slot, marked_slots, inputs_given, tangents_given, adjoints_given}
use Rattle.adj_data.proofs.Fitted.{check_fit}
use Rattle.adj_tool_check.specs.Checking.{Sides, given_by}
use Rattle.adj_tool_check.specs.Ready.{SuitsHead}

neither : (f g : Option Fault) → or_else f g ≡ None → (f ≡ None) × (g ≡ None)
neither None g h = (refl, h)
neither (Some f) g h = absurd cc

-- ---- a slot that an entry with a mark gives, or zeros

zeros : (zs : List ℤ) → AreZeros (map (λ z. pos 0) zs)
zeros [] = tt
zeros (z ∷ zs) = (refl, zeros zs)

slot_alike : (v : Slot ℤ) (f : Bool) (o : Option Entry) → (if f then mark_fault v o else None) ≡ None → ((if f then filled v o else zeros_like v).shape ≡ v.shape) × (length (if f then filled v o else zeros_like v).cells ≡ length v.cells)
slot_alike v false o h = (refl, length-map v.cells (λ z. pos 0))
slot_alike v true None h = absurd cc
slot_alike v true (Some e) h = (refl, go (length e.numbers == length v.cells) refl h)
  where
    go : (b : Bool) → (length e.numbers == length v.cells) ≡ b → fault_at e.line (if b then None else Some 5) ≡ None → length e.numbers ≡ length v.cells
    go true same k = nat_same (length e.numbers) (length v.cells) same
    go false same k = absurd cc

module _ (es : List Entry) (mark : List ℕ) where
  -- they have the shapes of the inputs
  alike : (ds : List (List ℕ)) (fs : List Bool) (vs : List (Slot ℤ)) → length fs ≡ length ds → length vs ≡ length ds → marks_fault es mark (wanted ds fs vs) ≡ None → AreAlike vs (marked_slots es mark (wanted ds fs vs))
  alike [] fs [] h g none = tt
  alike [] fs (v ∷ vs) h g none = absurd cc
  alike (d ∷ ds) fs [] h g none = absurd cc
  alike (d ∷ ds) [] (v ∷ vs) h g none = absurd cc
  alike (d ∷ ds) (f ∷ fs) (v ∷ vs) h g none =
      let o = entry_named (d ++ mark) es in
      let both = neither (if f then mark_fault v o else None) (marks_fault es mark (wanted ds fs vs)) none in
      let one = slot_alike v f o both.0 in
      let flags : length fs ≡ length ds = cc in
      let slots : length vs ≡ length ds = cc in
      (one.0, (one.1, alike ds fs vs flags slots both.1))

  -- and are 0 where none is wanted
  others_zero : (ds : List (List ℕ)) (fs : List Bool) (vs : List (Slot ℤ)) → length fs ≡ length ds → OthersAreZero fs (cells_of (marked_slots es mark (wanted ds fs vs)))
  others_zero [] fs vs h = none_left fs
    where
      none_left : (fs : List Bool) → OthersAreZero fs []
      none_left [] = tt
      none_left (true ∷ fs) = tt
      none_left (false ∷ fs) = tt
  others_zero (d ∷ ds) [] vs h = absurd cc
  others_zero (d ∷ ds) (true ∷ fs) [] h = tt
  others_zero (d ∷ ds) (false ∷ fs) [] h = tt
  others_zero (d ∷ ds) (true ∷ fs) (v ∷ vs) h = others_zero ds fs vs cc
  others_zero (d ∷ ds) (false ∷ fs) (v ∷ vs) h = (zeros v.cells, others_zero ds fs vs cc)

-- slots in the shapes of others are tangents for them
as_tangents : (vs ws : List (Slot ℤ)) → AreAlike vs ws → AreTangents vs (cells_of ws)
as_tangents [] [] a = tt
as_tangents [] (w ∷ ws) a = absurd a
as_tangents (v ∷ vs) [] a = absurd a
as_tangents (v ∷ vs) (w ∷ ws) a = (a.1.0, as_tangents vs ws a.1.1)

-- ---- all data

pub suits : (p : Sides) → IsSized p.head → length p.vars ≡ length p.head.dummies → length p.outvars ≡ length p.head.dummies → (line : ℕ) (bytes : List ℕ) → check_fault line bytes p.head p.vars p.outvars ≡ None → SuitsHead p (given_by p line bytes)
suits p sized vars outvars line bytes none =
    let u = p.head in
    let es = entries_of (data_items true line bytes) in
    let vs = slots_of es u in
    let many : length vs ≡ length u.dummies = length-map u.dummies (slot_given es u) in
    let first = neither (items_fault (titles_of u p.vars p.outvars) [] (data_items true line bytes)) (entries_check es u p.vars p.outvars) none in
    let second = neither (dummies_fault es u u.dummies) (or_else (marks_fault es tangent_mark (wanted u.dummies p.vars vs)) (marks_fault es adjoint_mark (wanted u.dummies p.outvars vs))) first.1 in
    let third = neither (marks_fault es tangent_mark (wanted u.dummies p.vars vs)) (marks_fault es adjoint_mark (wanted u.dummies p.outvars vs)) second.1 in
    let tangents = alike es tangent_mark u.dummies p.vars vs vars many third.0 in
    record {
      fits = check_fit line bytes u p.vars p.outvars sized none;
      adjoints = alike es adjoint_mark u.dummies p.outvars vs outvars many third.1;
      tangents = tangents;
      along = record { tangents = as_tangents vs (marked_slots es tangent_mark (wanted u.dummies p.vars vs)) tangents; others = others_zero es tangent_mark u.dummies p.vars vs vars };
    }
