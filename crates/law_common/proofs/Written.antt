-- A program in which calls pass slots writes the same dummies.
use Rattle.std.proofs.Common.{◌≡◌, ℕ, zero, suc, ◌+◌, Bool, true, false, List, [], ◌∷◌, ◌++◌, map, refl, sym, ap, ◌∙◌, subst, arith}
use Rattle.std.specs.Prelude.{length, ◌||◌, ◌&&◌, Option, Some, None, if◌then◌else◌}
use Rattle.adj_tree.specs.Code.{Var, plain, name_eq, var_eq, Terms, none, more, Act, assign, choose, loop, during, call, runtime, Code, stop, step, Procedure}
use Rattle.def_meaning.specs.LeastSet.{Dummies, row_of, rounds, dummies_in_all}
use Rattle.def_meaning.specs.Written.{find_unit, is_place_of, is_handed_back, act_writes, writes, write_rule, handed_back, is_written}
use Rattle.def_meaning.proofs.Variables.{var_same}
use Rattle.def_meaning.proofs.LeastSets.{of_found, row_map}
use Rattle.def_names.specs.Standing.{count_of}
use Rattle.def_common.specs.Members.{is_slot}
use Rattle.def_common.specs.Lowering.{behind}
use Rattle.law_common.specs.Passing.{SlotsOf, passed_act, passed, passed_unit, passed_units, EachCall', EachCall, AllSlots, NoSlots, CallCounts, HasParts}

-- ---- finding units

abbrev pub passed_found : SlotsOf → Option Procedure → Option Procedure
passed_found sl None = None
passed_found sl (Some u) = Some (passed_unit sl u)

pub find_passed : (sl : SlotsOf) (units : List Procedure) (name : List ℕ) → find_unit (passed_units sl units) name ≡ passed_found sl (find_unit units name)
find_passed sl [] name = refl
find_passed sl (u ∷ us) name = go (name_eq u.name name) (find_passed sl us name)
  where
    go : (b : Bool) → find_unit (passed_units sl us) name ≡ passed_found sl (find_unit us name) → (if b then Some (passed_unit sl u) else find_unit (passed_units sl us) name) ≡ passed_found sl (if b then Some u else find_unit us name)
    go true e = refl
    go false e = e

in_all : (sl : SlotsOf) (units : List Procedure) → dummies_in_all (passed_units sl units) ≡ dummies_in_all units
in_all sl [] = refl
in_all sl (u ∷ us) = ap (λ z. length u.dummies + z) (in_all sl us)

-- ---- what calls hand back

-- a variable that is no slot is none of some slots
pub no_slot : (x : Var) (y : List ℕ) → is_slot x ≡ false → is_slot (plain y) ≡ true → var_eq x (plain y) ≡ false
no_slot x y h k = go (var_eq x (plain y)) refl
  where
    go : (b : Bool) → var_eq x (plain y) ≡ b → b ≡ false
    go true e = sym k ∙ ap is_slot (sym (var_same x (plain y) e)) ∙ h
    go false e = refl

module _ (x : Var) (h : is_slot x ≡ false) where
  none_behind : (f : List ℕ → Bool) (sl : List (List ℕ)) → AllSlots sl → is_handed_back x (map f sl) (behind none sl) ≡ false
  none_behind f [] s = refl
  none_behind f (y ∷ sl) s = ap (λ b. (f y && b) || is_handed_back x (map f sl) (behind none sl)) (no_slot x y h s.0) ∙ go (f y) (none_behind f sl s.1)
    where
      go : (b : Bool) → is_handed_back x (map f sl) (behind none sl) ≡ false → ((b && false) || is_handed_back x (map f sl) (behind none sl)) ≡ false
      go true e = e
      go false e = e

  none_there : (ws : List Bool) → is_handed_back x ws none ≡ false
  none_there [] = refl
  none_there (w ∷ ws) = refl

  back_same : (f g : List ℕ → Bool) → ((d : List ℕ) → is_slot (plain d) ≡ false → f d ≡ g d) → (own sl : List (List ℕ)) → NoSlots own → AllSlots sl → (args : Terms) → count_of args ≡ length own → is_handed_back x (map f (own ++ sl)) args ≡ is_handed_back x (map g (own ++ sl)) (behind args sl)
  back_same f g e [] sl o s none c = none_there (map f sl) ∙ sym (none_behind g sl s)
  back_same f g e [] sl o s (more a args) c = absurd (let z : suc (count_of args) ≡ 0 = c in cc)
  back_same f g e (d ∷ own) sl o s none c = absurd (let z : 0 ≡ suc (length own) = c in cc)
  back_same f g e (d ∷ own) sl o s (more a args) c =
      let n : count_of args ≡ length own = (let z : suc (count_of args) ≡ suc (length own) = c in omega arith) in
      λ i. (e d o.0 i && is_place_of x a) || back_same f g e own sl o.1 s args n i

-- ---- round by round

module _ (units : List Procedure) (own sl : SlotsOf) (has : HasParts units own sl) where
  abbrev others : List Procedure
  others = passed_units sl units

  -- what is handed back agrees at own dummies
  abbrev Agree : Dummies → Dummies → Type 0
  Agree f g = (x : Var) → is_slot x ≡ false → (name : List ℕ) (args : Terms) → CallCounts units own name args → is_handed_back x (f name) args ≡ is_handed_back x (g name) (behind args (sl name))

  module _ (f g : Dummies) (agree : Agree f g) (x : Var) (h : is_slot x ≡ false) where
    mutual
      act_same : (a : Act) → EachCall' (CallCounts units own) a → act_writes f x a ≡ act_writes g x (passed_act sl a)
      act_same (assign y subs e) c = refl
      act_same (choose t a b) c = λ i. writes_same a c.0 i || writes_same b c.1 i
      act_same (loop y first last by body m) c = ap (λ z. var_eq x y || z) (writes_same body c)
      act_same (during t body) c = writes_same body c
      act_same (call name args) c = agree x h name args c
      act_same (runtime r) c = refl

      writes_same : (b : Code) → EachCall (CallCounts units own) b → writes f x b ≡ writes g x (passed sl b)
      writes_same stop c = refl
      writes_same (step line a rest) c = λ i. act_same a c.0 i || writes_same rest c.1 i

  -- rows by tests that agree at own dummies
  module _ (t t' : Procedure → List ℕ → Bool) (same : (name : List ℕ) (u : Procedure) → find_unit units name ≡ Some u → (d : List ℕ) → is_slot (plain d) ≡ false → t u d ≡ t' (passed_unit sl u) d) where
    rows_agree : Agree (row_of units (map (λ u. map (t u) u.dummies) units)) (row_of others (map (λ u. map (t' u) u.dummies) others))
    rows_agree x h name args c =
        ap (λ ws. is_handed_back x ws args) (row_map (λ u. map (t u) u.dummies) units name)
        ∙ go (find_unit units name) refl
        ∙ sym (ap (λ ws. is_handed_back x ws (behind args (sl name))) (row_map (λ u. map (t' u) u.dummies) others name ∙ ap (of_found (λ u. map (t' u) u.dummies)) (find_passed sl units name)))
      where
        go : (o : Option Procedure) → find_unit units name ≡ o → is_handed_back x (of_found (λ u. map (t u) u.dummies) o) args ≡ is_handed_back x (of_found (λ u. map (t' u) u.dummies) (passed_found sl o)) (behind args (sl name))
        go None e = refl
        go (Some u) e =
            let p = has.dummies name u e in
            ap (λ l. is_handed_back x (map (t u) l) args) p
            ∙ back_same x h (t u) (t' (passed_unit sl u)) (same name u e) (own name) (sl name) (has.owns name) (has.slots name) args (c u e)
            ∙ sym (ap (λ l. is_handed_back x (map (t' (passed_unit sl u)) l) (behind args (sl name))) p)

  rounds_agree : (k : ℕ) → Agree (row_of units (rounds write_rule units k)) (row_of others (rounds write_rule others k))
  rounds_agree zero = rows_agree (λ u d. false) (λ u d. false) (λ name u e d h. refl)
  rounds_agree (suc k) =
      let f = row_of units (rounds write_rule units k) in
      let g = row_of others (rounds write_rule others k) in
      rows_agree (write_rule f) (write_rule g) (λ name u e d h. writes_same f g (rounds_agree k) (plain d) h u.body (has.counts name u e))

  pub handed_agree : Agree (handed_back units) (handed_back others)
  handed_agree = subst (λ m. Agree (row_of units (rounds write_rule units (dummies_in_all units))) (row_of others (rounds write_rule others m))) (sym (in_all sl units)) (rounds_agree (dummies_in_all units))

  -- so each unit writes the same dummies of its own
  pub written_same : (name : List ℕ) (u : Procedure) → find_unit units name ≡ Some u → (d : List ℕ) → is_slot (plain d) ≡ false → is_written units u d ≡ is_written others (passed_unit sl u) d
  written_same name u e d h = writes_same (handed_back units) (handed_back others) handed_agree (plain d) h u.body (has.counts name u e)
