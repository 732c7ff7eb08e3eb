-- An adjoint unit is entered with fitting arrays, and its variables have the shapes that they have in the program.
use Rattle.std.proofs.Common.{◌≡◌, ℕ, suc, Bool, true, false, List, [], ◌∷◌, map, refl, sym, ap, ◌∙◌, subst, arith, if◌then◌else◌}
use Rattle.std.specs.Prelude.{ℤ, pos, length, ◌==◌, ◌||◌, ◌&&◌, not, Some, None}
use Rattle.adj_tree.specs.Code.{Var, plain, shadow, helper, name_eq, var_eq, Extent, fixed, given, Declaration, Procedure}
use Rattle.adj_tree.proofs.Names.{name_refl}
use Rattle.def_meaning.specs.Numbers.{words}
use Rattle.def_meaning.specs.Store.{Shape, scalar, Store}
use Rattle.def_meaning.specs.Read.{names_extent, is_extent}
use Rattle.def_meaning.specs.Seen.{Separates, pulled, pulled_setting}
use Rattle.def_meaning.specs.Units.{declared, extent_in, extents_of, shape_of, shape_fits, entry_store, dummies_fit, setting_in}
use Rattle.def_meaning.proofs.Cells.{size_positive}
use Rattle.def_sweep.specs.Facts.{In}
use Rattle.def_meaning.specs.Apart.{has_name, AreApart}
use Rattle.law_sweep.specs.Pairs.{on_words}
use Rattle.def_names.proofs.Variables.{or_left, or_right, has_apart}
use Rattle.law_sweep.proofs.Passing.{beside_key, in_plain}
use Rattle.def_sweep.specs.Plan.{Callee, beside, IsActual, found_or}
use Rattle.def_sweep.specs.Callees.{nothing}
use Rattle.law_sweep.specs.Emitted.{DeclaredAlike, AreNamed, name_of}
use Rattle.law_sweep.specs.Kernel.{AsMany}
use Rattle.def_sweep.specs.Bindings.{Bindings, bindings}
use Rattle.law_sweep.specs.Passing.{passed_in, plainly}
use Rattle.law_sweep.proofs.Entering.{actuals_at, entry_pulled}
use Rattle.law_sweep.specs.Steps.{ActualsAgree}
use Rattle.law_sweep.proofs.Calls.{with_shadow_shapes, own_named}
use Rattle.def_meaning.proofs.EntriesSeen.{own_names}

-- a name stands in the first of two lists of one length, so something stands beside it
beside_some : (ds actuals : List (List ℕ)) → AsMany ds actuals → (d : List ℕ) → has_name d ds ≡ true → (a : List ℕ) × (beside ds actuals d ≡ Some a)
beside_some [] actuals m d h = absurd (cc)
beside_some (e ∷ ds) [] m d h = absurd m
beside_some (e ∷ ds) (a ∷ actuals) m d h = go (name_eq d e) h (beside_some ds actuals m d)
  where
    go : (b : Bool) → (b || has_name d ds) ≡ true → (has_name d ds ≡ true → (a : List ℕ) × (beside ds actuals d ≡ Some a)) → (y : List ℕ) × ((if b then Some a else beside ds actuals d) ≡ Some y)
    go true h ih = (a, refl)
    go false h ih = ih h

-- what isn't an array has no extents
pub no_extents : (l : List Extent) → not (length l == 0) ≡ false → l ≡ []
no_extents [] h = refl
no_extents (e ∷ l) h = absurd (let x : length l ≡ length l = refl in grind arith)

-- the extents of a declared variable are among those of the declarations
pub extent_there : (d : List ℕ) (x : Var) (ds : List Declaration) → names_extent d (declared ds x) ≡ true → is_extent d ds ≡ true
extent_there d x [] h = absurd cc
extent_there d x (e ∷ es) h = go (var_eq x (plain e.name)) h (extent_there d x es)
  where
    go : (t : Bool) → names_extent d (if t then e.extents else declared es x) ≡ true → (names_extent d (declared es x) ≡ true → is_extent d es ≡ true) → (names_extent d e.extents || is_extent d es) ≡ true
    go true h ih = or_left (names_extent d e.extents) (is_extent d es) h
    go false h ih = or_right (names_extent d e.extents) (is_extent d es) (ih h)

-- extents are the same where the names among them hold the same words
pub extents_alike : (f g : Store ℤ) (es : List Extent) → ((d : List ℕ) → names_extent d es ≡ true → f (plain d) 0 ≡ g (plain d) 0) → map (extent_in words f) es ≡ map (extent_in words g) es
extents_alike f g [] h = refl
extents_alike f g (fixed z ∷ es) h = ap (λ l. z ∷ l) (extents_alike f g es h)
extents_alike f g (given x ∷ es) h = λ i. h x (or_left (name_eq x x) (names_extent x es) (name_refl x)) i ∷ extents_alike f g es (λ d k. h d (or_right (name_eq d x) (names_extent d es) k)) i

module _ (v unit : Procedure) (naming : Var → Var) (sep : Separates naming) (plainly_named : (x : Var) → naming x ≡ plain (name_of (naming x))) (g : Callee) (dummies : v.dummies ≡ g.dummies) (alike : DeclaredAlike v unit naming g) (extents_in : (d : List ℕ) → is_extent d v.declarations ≡ true → In (plain d) g.members)
    (sh : Var → Shape) (level : ℕ) (actuals : List (List ℕ)) (many : AsMany g.dummies actuals) (named : AreNamed naming unit.dummies (bindings g.shadowed g.dummies actuals)) (u f : Store ℤ) (shadow_shapes : (d a : List ℕ) → IsActual g.dummies actuals d a → In (plain d) g.shadowed → sh (shadow a) ≡ sh (plain a)) (agree : ActualsAgree sh g actuals g.members u f) where
  abbrev bs : Bindings
  bs = bindings g.shadowed g.dummies actuals

  abbrev bs0 : Bindings
  bs0 = bindings nothing g.dummies actuals

  abbrev start : Store ℤ
  start = entry_store words v.dummies (actuals_at (on_words (plainly sh) level) u bs0)

  abbrev there : Store ℤ
  there = entry_store words unit.dummies (actuals_at (on_words sh level) f bs)

  there_is : pulled naming there ≡ passed_in (pos 0) bs f
  there_is = entry_pulled (on_words sh level) naming sep unit.dummies bs f named

  start_is : start ≡ passed_in (pos 0) bs0 u
  start_is = entry_pulled (on_words (plainly sh) level) (λ x. x) own_names v.dummies bs0 u (subst (λ l. AreNamed (λ x. x) l bs0) (sym dummies) (own_named g.dummies actuals many))

  -- an extent has the same word at both entries
  extent_same : (d : List ℕ) → is_extent d v.declarations ≡ true → there (plain d) 0 ≡ start (plain d) 0
  extent_same d h =
      let e = alike.extents d h in
      let a = beside_some g.dummies actuals many d e.1 in
      ap (λ x. there x 0) (sym e.0) ∙ ap (λ (s : Store ℤ). s (plain d) 0) there_is ∙ in_plain (pos 0) g.shadowed f g.dummies actuals d 0 ∙ ap (λ o. found_or o (pos 0) (λ b. f (plain b) 0)) a.1
      ∙ agree.at d a.0 a.1 (extents_in d h) 0 (size_positive (sh (plain a.0)))
      ∙ sym (ap (λ (s : Store ℤ). s (plain d) 0) start_is ∙ in_plain (pos 0) nothing u g.dummies actuals d 0 ∙ ap (λ o. found_or o (pos 0) (λ b. u (plain b) 0)) a.1)

  extents_same : (x : Var) → map (extent_in words there) (declared v.declarations x) ≡ extents_of words v start x
  extents_same x = extents_alike there start (declared v.declarations x) (λ d k. extent_same d (extent_there d x v.declarations k))

  -- the shapes of its variables
  shape_seen : (x : Var) → shape_of (extents_of words unit there (naming x)) ≡ with_shadow_shapes g.shadowed (λ y. shape_of (extents_of words v start y)) x
  shape_seen (plain x) = ap (λ es. shape_of (map (extent_in words there) es)) (alike.plains x) ∙ ap shape_of (extents_same (plain x))
  shape_seen (shadow x) = ap (λ es. shape_of (map (extent_in words there) es)) (alike.shadows x) ∙ go (g.shadowed (plain x))
    where
      go : (b : Bool) → shape_of (map (extent_in words there) (if b then declared v.declarations (plain x) else [])) ≡ (if b then shape_of (extents_of words v start (plain x)) else scalar)
      go true = ap shape_of (extents_same (plain x))
      go false = refl
  shape_seen (helper r k) = ap (λ es. shape_of (map (extent_in words there) es)) (alike.helpers r k)

  pub shapes : pulled_setting naming (setting_in (on_words sh level) unit there) ≡ on_words (with_shadow_shapes g.shadowed (λ x. shape_of (extents_of words v start x))) (suc level)
  shapes = λ i. record { numbers = words; shape = λ x. shape_seen x i; room = None; level = suc level }

  -- ---- its dummies fit

  abbrev fits_one : Procedure → Store ℤ → List ℕ → Shape → Bool
  fits_one w s d m = length (declared w.declarations (plain d)) == 0 || shape_fits (extents_of words w s (plain d)) m

  plain_fits : (d e : List ℕ) (m : Shape) → naming (plain d) ≡ plain e → fits_one unit there e m ≡ fits_one v start d m
  plain_fits d e m n =
      let decl : declared unit.declarations (plain e) ≡ declared v.declarations (plain d) = ap (declared unit.declarations) (sym n) ∙ alike.plains d in
      (λ i. length (decl i) == 0 || shape_fits (map (extent_in words there) (decl i)) m) ∙ ap (λ zs. length (declared v.declarations (plain d)) == 0 || shape_fits zs m) (extents_same (plain d))

  shadow_fits : (d e : List ℕ) (m : Shape) → g.shadowed (plain d) ≡ true → naming (shadow d) ≡ plain e → fits_one unit there e m ≡ fits_one v start d m
  shadow_fits d e m s n =
      let decl : declared unit.declarations (plain e) ≡ declared v.declarations (plain d) = ap (declared unit.declarations) (sym n) ∙ alike.shadows d ∙ ap (λ b. if b then declared v.declarations (plain d) else []) s in
      (λ i. length (decl i) == 0 || shape_fits (map (extent_in words there) (decl i)) m) ∙ ap (λ zs. length (declared v.declarations (plain d)) == 0 || shape_fits zs m) (extents_same (plain d))

  twice : (a r : Bool) → (a && (a && r)) ≡ (a && r)
  twice true r = refl
  twice false r = refl

  -- one by one
  fits_equal : (names ds acts : List (List ℕ)) → AreApart ds → AsMany ds acts → AreNamed naming names (bindings g.shadowed ds acts) → ((d a : List ℕ) → IsActual ds acts d a → In (plain d) g.shadowed → sh (shadow a) ≡ sh (plain a)) → dummies_fit words unit there names (actuals_at (on_words sh level) f (bindings g.shadowed ds acts)) ≡ dummies_fit words v start ds (actuals_at (on_words (plainly sh) level) u (bindings nothing ds acts))
  fits_equal [] [] [] p m n s = refl
  fits_equal (e ∷ names) [] [] p m n s = absurd n
  fits_equal names [] (a ∷ acts) p m n s = absurd m
  fits_equal names (d ∷ ds) [] p m n s = absurd m
  fits_equal names (d ∷ ds) (a ∷ acts) p m n s =
      go names (g.shadowed (plain d)) refl n (s d a (ap (λ b. if b then Some a else beside ds acts d) (name_refl d))) (λ rest r. fits_equal rest ds acts p.1 m r (λ d1 a1 b1 i1. s d1 a1 (ap (λ b. if b then Some a else beside ds acts d1) (has_apart d1 d ds (beside_key ds acts d1 a1 b1) p.0) ∙ b1) i1))
    where
      rest_fits : Bool
      rest_fits = dummies_fit words v start ds (actuals_at (on_words (plainly sh) level) u (bindings nothing ds acts))

      go : (names : List (List ℕ)) (b : Bool) → g.shadowed (plain d) ≡ b → AreNamed naming names (if b then (plain d, plain a) ∷ (shadow d, shadow a) ∷ bindings g.shadowed ds acts else (plain d, plain a) ∷ bindings g.shadowed ds acts) → (In (plain d) g.shadowed → sh (shadow a) ≡ sh (plain a)) →
          ((rest : List (List ℕ)) → AreNamed naming rest (bindings g.shadowed ds acts) → dummies_fit words unit there rest (actuals_at (on_words sh level) f (bindings g.shadowed ds acts)) ≡ rest_fits) →
          dummies_fit words unit there names (actuals_at (on_words sh level) f (if b then (plain d, plain a) ∷ (shadow d, shadow a) ∷ bindings g.shadowed ds acts else (plain d, plain a) ∷ bindings g.shadowed ds acts)) ≡ (fits_one v start d (sh (plain a)) && rest_fits)
      go [] true e n s rest = absurd n
      go (x ∷ []) true e n s rest = absurd n.1
      go (x ∷ y ∷ names) true e n s rest =
          (λ i. plain_fits d x (sh (plain a)) n.0 i && ((shadow_fits d y (sh (shadow a)) e n.1.0 ∙ ap (fits_one v start d) (s e)) i && rest names n.1.1 i)) ∙ twice (fits_one v start d (sh (plain a))) rest_fits
      go [] false e n s rest = absurd n
      go (x ∷ names) false e n s rest = λ i. plain_fits d x (sh (plain a)) n.0 i && rest names n.1 i

  -- the unit is entered with fitting arrays just where v is
  pub fits_alike : AreApart g.dummies → dummies_fit words unit there unit.dummies (actuals_at (on_words sh level) f bs) ≡ dummies_fit words v start v.dummies (actuals_at (on_words (plainly sh) level) u bs0)
  fits_alike p = fits_equal unit.dummies g.dummies actuals p many named shadow_shapes ∙ sym (ap (λ l. dummies_fit words v start l (actuals_at (on_words (plainly sh) level) u bs0)) dummies)

  pub fits : AreApart g.dummies → dummies_fit words v start v.dummies (actuals_at (on_words (plainly sh) level) u bs0) ≡ true → dummies_fit words unit there unit.dummies (actuals_at (on_words sh level) f bs) ≡ true
  fits p h = fits_alike p ∙ h
