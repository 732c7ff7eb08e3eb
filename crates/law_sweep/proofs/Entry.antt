-- What the adjoint of a head is entered with: the head's input with the shadows that are given fits it, its variables hold what the
-- head's do, and have their shapes.
use Rattle.std.proofs.Common.{◌≡◌, ℕ, Bool, true, false, List, [], ◌∷◌, map, length, refl, sym, ap, ◌∙◌, if◌then◌else◌}
use Rattle.std.specs.Prelude.{ℤ, pos, ◌&&◌, ◌==◌, None}
use Rattle.adj_tree.specs.Code.{Var, plain, shadow, helper, name_eq, var_eq, Procedure}
use Rattle.adj_tree.proofs.Names.{name_refl}
use Rattle.def_meaning.specs.Numbers.{words}
use Rattle.def_meaning.specs.Store.{Shape, scalar, Store, size_of}
use Rattle.def_meaning.specs.Read.{is_extent}
use Rattle.def_meaning.specs.Seen.{pulled, pulled_setting}
use Rattle.def_meaning.specs.Units.{declared, extent_in, extents_of, shape_of, shape_fits, setting_in, Slot, from_slot, input_store, slots_fit, slot_fits, fits}
use Rattle.def_meaning.specs.Apart.{has_name}
use Rattle.def_sweep.specs.Naming.{Named, name_in, naming}
use Rattle.law_sweep.specs.Pairs.{on_words}
use Rattle.def_sweep.specs.MarkedProgram.{shadows_behind}
use Rattle.def_sweep.specs.MarkedAdjoint.{shadow_flags, joined_by}
use Rattle.def_sweep.specs.Tangents.{AreAlike}
use Rattle.law_sweep.proofs.ScalarSlots.{AreAsMany, many_alike, given_store, paired, shadows_behind-named, entry_store-named, slots-plain, slots-shadow}
use Rattle.law_sweep.proofs.ScalarUnits.{outside}
use Rattle.def_names.proofs.Variables.{and_true, or_left, or_right}
use Rattle.def_sweep.specs.Plan.{Callee}
use Rattle.law_sweep.specs.Emitted.{DeclaredAlike}
use Rattle.law_sweep.proofs.Calls.{with_shadow_shapes}
use Rattle.law_sweep.proofs.Declared.{extents_alike, extent_there}

-- an input that fits has a slot for each dummy
pub fits_many : (u : Procedure) (s : Store ℤ) (ds : List (List ℕ)) (vs : List (Slot ℤ)) → slots_fit words u s ds vs ≡ true → AreAsMany ds vs
fits_many u s [] [] h = tt
fits_many u s [] (v ∷ vs) h = absurd cc
fits_many u s (d ∷ ds) [] h = absurd cc
fits_many u s (d ∷ ds) (v ∷ vs) h = fits_many u s ds vs (and_true (slot_fits (extents_of words u s (plain d)) v) (slots_fit words u s ds vs) h).1

module _ (u a : Procedure) (ns : List Named) (sep : (v w : Var) → var_eq (naming ns v) (naming ns w) ≡ var_eq v w) (g : Callee) (dummies : u.dummies ≡ g.dummies) (alike : DeclaredAlike u a (naming ns) g)
    (own : (x : List ℕ) → has_name x u.dummies ≡ true → name_in ns (plain x) ≡ x) (bear : a.dummies ≡ shadows_behind g.shadowed ns u.dummies)
    (input shadows : List (Slot ℤ)) (fit : fits words u input ≡ true) (pairs : AreAlike input shadows) where
  abbrev joined : List (Slot ℤ)
  joined = joined_by (shadow_flags g.shadowed u.dummies) input shadows

  -- the store at the head's entry, that at the adjoint's, and this under its own names
  abbrev pub before : Store ℤ
  before = input_store words u input

  abbrev pub there : Store ℤ
  there = input_store words a joined

  abbrev pub start : Store ℤ
  start = pulled (naming ns) there

  abbrev many : AreAsMany u.dummies input
  many = fits_many u before u.dummies input fit

  abbrev many_shadows : AreAsMany u.dummies shadows
  many_shadows = many_alike u.dummies input shadows pairs many

  pub dummies_named : a.dummies ≡ map (name_in ns) (paired g.shadowed u.dummies)
  dummies_named = bear ∙ shadows_behind-named g.shadowed ns u.dummies own

  start_is : (v : Var) (j : ℕ) → start v j ≡ given_store words (paired g.shadowed u.dummies) (map (from_slot words) joined) v j
  start_is v j = ap (λ ds. entry_of ds v j) dummies_named ∙ entry_store-named words ns sep (paired g.shadowed u.dummies) (map (from_slot words) joined) v j
    where
      entry_of : List (List ℕ) → Var → ℕ → ℤ
      entry_of ds v j = input_store words (record a { dummies = ds }) joined (naming ns v) j

  -- variables of the text hold what the head's do
  pub same_plain : (y : List ℕ) (j : ℕ) → start (plain y) j ≡ before (plain y) j
  same_plain y j = start_is (plain y) j ∙ slots-plain words g.shadowed u.dummies input shadows many many_shadows y j

  -- and shadows what is given for them
  pub same_shadow : (y : List ℕ) (j : ℕ) → start (shadow y) j ≡ (if g.shadowed (plain y) then input_store words u shadows (plain y) j else pos 0)
  same_shadow y j = start_is (shadow y) j ∙ slots-shadow words g.shadowed u.dummies input shadows many many_shadows y j

  extent_same : (d : List ℕ) → is_extent d u.declarations ≡ true → there (plain d) 0 ≡ before (plain d) 0
  extent_same d h = ap (λ x. there x 0) (sym (alike.extents d h).0) ∙ same_plain d 0

  pub extents_same : (x : Var) → map (extent_in words there) (declared u.declarations x) ≡ extents_of words u before x
  extents_same x = extents_alike there before (declared u.declarations x) (λ d k. extent_same d (extent_there d x u.declarations k))

  plain_extents : (d e : List ℕ) → naming ns (plain d) ≡ plain e → extents_of words a there (plain e) ≡ extents_of words u before (plain d)
  plain_extents d e n = ap (λ x. extents_of words a there x) (sym n) ∙ ap (map (extent_in words there)) (alike.plains d) ∙ extents_same (plain d)

  shadow_extents : (d : List ℕ) → g.shadowed (plain d) ≡ true → extents_of words a there (naming ns (shadow d)) ≡ extents_of words u before (plain d)
  shadow_extents d s = ap (map (extent_in words there)) (alike.shadows d ∙ ap (λ b. if b then declared u.declarations (plain d) else []) s) ∙ extents_same (plain d)

  -- the shapes of its variables
  pub shape_seen : (x : Var) → shape_of (extents_of words a there (naming ns x)) ≡ with_shadow_shapes g.shadowed (λ y. shape_of (extents_of words u before y)) x
  shape_seen (plain x) = ap (λ es. shape_of (map (extent_in words there) es)) (alike.plains x) ∙ ap shape_of (extents_same (plain x))
  shape_seen (shadow x) = ap (λ es. shape_of (map (extent_in words there) es)) (alike.shadows x) ∙ go (g.shadowed (plain x))
    where
      go : (b : Bool) → shape_of (map (extent_in words there) (if b then declared u.declarations (plain x) else [])) ≡ (if b then shape_of (extents_of words u before (plain x)) else scalar)
      go true = ap shape_of (extents_same (plain x))
      go false = refl
  shape_seen (helper r k) = ap (λ es. shape_of (map (extent_in words there) es)) (alike.helpers r k)

  abbrev pub shapes : Var → Shape
  shapes = with_shadow_shapes g.shadowed (λ y. shape_of (extents_of words u before y))

  pub setting_seen : pulled_setting (naming ns) (setting_in (outside words) a there) ≡ on_words shapes 1
  setting_seen = λ i. record { numbers = words; shape = λ x. shape_seen x i; room = None; level = 1 }

  -- the slots fit
  slot_alike : (v w : Slot ℤ) (zs : _) → w.shape ≡ v.shape → length w.cells ≡ length v.cells → slot_fits zs v ≡ true → slot_fits zs w ≡ true
  slot_alike v w zs s l h = ap (λ m. shape_fits zs m && (length w.cells == size_of m)) s ∙ ap (λ n. shape_fits zs v.shape && (n == size_of v.shape)) l ∙ h

  fits_all : (ds : List (List ℕ)) (vs ws : List (Slot ℤ)) → ((x : List ℕ) → has_name x ds ≡ true → name_in ns (plain x) ≡ x) → AreAlike vs ws → slots_fit words u before ds vs ≡ true → slots_fit words a there (shadows_behind g.shadowed ns ds) (joined_by (shadow_flags g.shadowed ds) vs ws) ≡ true
  fits_all [] [] ws o p h = refl
  fits_all [] (v ∷ vs) ws o p h = absurd cc
  fits_all (d ∷ ds) [] ws o p h = absurd cc
  fits_all (d ∷ ds) (v ∷ vs) [] o p h = absurd p
  fits_all (d ∷ ds) (v ∷ vs) (w ∷ ws) o p h =
      let f = and_true (slot_fits (extents_of words u before (plain d)) v) (slots_fit words u before ds vs) h in
      let at : naming ns (plain d) ≡ plain d = ap plain (o d (or_left (name_eq d d) (has_name d ds) (name_refl d))) in
      go (g.shadowed (plain d)) refl (ap (λ zs. slot_fits zs v) (plain_extents d d at) ∙ f.0) (λ s. ap (λ zs. slot_fits zs w) (shadow_extents d s) ∙ slot_alike v w (extents_of words u before (plain d)) p.0 p.1.0 f.0)
      (fits_all ds vs ws (λ x k. o x (or_right (name_eq x d) (has_name x ds) k)) p.1.1 f.1)
    where
      go : (b : Bool) → g.shadowed (plain d) ≡ b → slot_fits (extents_of words a there (plain d)) v ≡ true → (g.shadowed (plain d) ≡ true → slot_fits (extents_of words a there (naming ns (shadow d))) w ≡ true) →
          slots_fit words a there (shadows_behind g.shadowed ns ds) (joined_by (shadow_flags g.shadowed ds) vs ws) ≡ true →
          slots_fit words a there (if b then d ∷ name_in ns (shadow d) ∷ shadows_behind g.shadowed ns ds else d ∷ shadows_behind g.shadowed ns ds) (joined_by (b ∷ shadow_flags g.shadowed ds) (v ∷ vs) (w ∷ ws)) ≡ true
      go true e f k ih = rw (f, k e) ih
      go false e f k ih = rw f ih

  pub adjoint_fits : fits words a joined ≡ true
  adjoint_fits = ap (λ ds. slots_fit words a there ds joined) bear ∙ fits_all u.dummies input shadows own pairs fit
