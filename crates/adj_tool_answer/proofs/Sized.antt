-- In a checked program the extents of each unit are numbers and scalar dummies, at most two to a variable.
use Rattle.std.proofs.Common.{◌≡◌, ℕ, zero, suc, ◌≤◌, Bool, true, false, List, [], ◌∷◌, ◌++◌, length, refl, sym, ap, subst, ◌∙◌, arith, Some, None, if◌then◌else◌}
use Rattle.std.specs.Prelude.{ℤ, ◌==◌, ◌&&◌, not}
use Rattle.std.specs.List.{All, list_any, flat_map, slice_get}
use Rattle.std.proofs.lemmas.List.Elements.{All-cons}
use Rattle.adj_tree.specs.Code.{plain, var_eq, Extent, fixed, given, Declaration, Procedure}
use Rattle.adj_tree.specs.declared.fault.Refusal.{Refusal}
use Rattle.def_text.specs.Written.{IsWritten, IsWrittenDeclaration, IsWrittenProcedure}
use Rattle.def_meaning.specs.Numbers.{words}
use Rattle.def_meaning.specs.Units.{Slot, declared, fits}
use Rattle.def_meaning.proofs.Booleans.{and_true, or_false}
use Rattle.def_names.specs.Fault.{run_rules, fault, faults_if}
use Rattle.def_names.specs.NameFaults.{undeclared, declared_twice, misused, bad_extents, faults_of_names, is_bad_extent, has_bad_extents}
use Rattle.def_names.specs.Variables.{is_dummy, is_scalar}
use Rattle.def_names.specs.Check.{IsSound}
use Rattle.def_names.proofs.Sound.{sound_has_none}
use Rattle.adj_data.specs.Faults.{data_fault}
use Rattle.adj_data.specs.Fitting.{extents_in, IsSize, IsSized}
use Rattle.adj_data.specs.Given.{input_given}
use Rattle.adj_data.proofs.Fitted.{data_fit}

-- ---- lists that are empty

none_first : {X : Type 0} (xs ys : List X) → xs ++ ys ≡ [] → xs ≡ []
none_first [] ys h = refl
none_first (x ∷ xs) ys h = absurd cc

none_behind : {X : Type 0} (xs ys : List X) → xs ++ ys ≡ [] → ys ≡ []
none_behind [] ys h = h
none_behind (x ∷ xs) ys h = absurd cc

-- what the n-th member adds to an empty list
none_at : {X Y : Type 0} (f : X → List Y) (xs : List X) (n : ℕ) (x : X) → slice_get xs n ≡ Some x → flat_map f xs ≡ [] → f x ≡ []
none_at f [] n x at h = absurd cc
none_at f (y ∷ ys) zero x at h = let same : y ≡ x = cc in ap f (sym same) ∙ none_first (f y) (flat_map f ys) h
none_at f (y ∷ ys) (suc n) x at h = none_at f ys n x at (none_behind (f y) (flat_map f ys) h)

none_if : (b : Bool) (r : Refusal) → faults_if b r ≡ [] → b ≡ false
none_if true r h = absurd cc
none_if false r h = refl

-- ---- extents

is_none : {X : Type 0} (xs : List X) → (length xs == 0) ≡ true → xs ≡ []
is_none [] h = refl
is_none (x ∷ xs) h = absurd (let k : suc (length xs) ≡ 0 = grind arith in omega (arith, k))

not_false : (b : Bool) → not b ≡ false → b ≡ true
not_false true h = refl
not_false false h = absurd cc

size : (u : Procedure) (e : Extent) → is_bad_extent u e ≡ false → IsSize u e
size u (fixed z) h = tt
size u (given x) h =
    let both = and_true (is_dummy u x) (is_scalar u x) (not_false (is_dummy u x && is_scalar u x) h) in
    (both.0, is_none (extents_in u x) both.1)

all_sizes : (u : Procedure) (es : List Extent) → list_any (is_bad_extent u) es ≡ false → All (IsSize u) es
all_sizes u [] h = λ k d lt. absurd (omega arith)
all_sizes u (e ∷ es) h =
    let both = or_false (is_bad_extent u e) (list_any (is_bad_extent u) es) h in
    All-cons (IsSize u) e es (size u e both.0) (all_sizes u es both.1)

-- the extents that are declared for a variable are those of a declaration, or none
module _ (u : Procedure) where
  declared_sizes : (ds : List Declaration) (x : List ℕ) → flat_map (λ d. faults_if (has_bad_extents u d) (fault 12 d.line)) ds ≡ [] → All (IsSize u) (declared ds (plain x))
  declared_sizes [] x h = λ k d lt. absurd (omega arith)
  declared_sizes (d ∷ ds) x h = go (var_eq (plain x) (plain d.name)) (declared_sizes ds x (none_behind (faults_if (has_bad_extents u d) (fault 12 d.line)) (flat_map (λ d. faults_if (has_bad_extents u d) (fault 12 d.line)) ds) h))
    where
      here : All (IsSize u) d.extents
      here =
          let bad = none_if (has_bad_extents u d) (fault 12 d.line) (none_first (faults_if (has_bad_extents u d) (fault 12 d.line)) (flat_map (λ d. faults_if (has_bad_extents u d) (fault 12 d.line)) ds) h) in
          all_sizes u d.extents (or_false (list_any (is_bad_extent u) d.extents) _ bad).0

      go : (b : Bool) → All (IsSize u) (declared ds (plain x)) → All (IsSize u) (if b then d.extents else declared ds (plain x))
      go true later = here
      go false later = later

  declared_few : (ds : List Declaration) (x : List ℕ) → All IsWrittenDeclaration ds → length (declared ds (plain x)) ≤ 2
  declared_few [] x h = omega arith
  declared_few (d ∷ ds) x h = go (var_eq (plain x) (plain d.name)) (h 0 d (omega arith)).few_extents (declared_few ds x (λ k e lt. h (suc k) e (omega arith)))
    where
      go : (b : Bool) → length d.extents ≤ 2 → length (declared ds (plain x)) ≤ 2 → length (if b then d.extents else declared ds (plain x)) ≤ 2
      go true here later = here
      go false here later = later

-- in a unit without faults of names
extents_sound : (ps : List Procedure) (u : Procedure) → faults_of_names run_rules ps u ≡ [] → bad_extents u ≡ []
extents_sound ps u h =
    none_first (bad_extents u) _ (none_behind (misused run_rules u) _ (none_behind (declared_twice u) _ (none_behind (undeclared u) _ h)))

pub sized : (ps : List Procedure) → IsWritten ps → IsSound run_rules ps → (n : ℕ) (u : Procedure) → slice_get ps n ≡ Some u → IsSized u
sized ps written sound n u at =
    let bad = extents_sound ps u (none_at (faults_of_names run_rules ps) ps n u at (sound_has_none run_rules ps sound).names) in
    record { few = λ x. declared_few u u.declarations x (written_at ps n at written).declarations; sizes = λ x. declared_sizes u u.declarations x bad }
  where
    written_at : (qs : List Procedure) (n : ℕ) → slice_get qs n ≡ Some u → IsWritten qs → IsWrittenProcedure u
    written_at [] n at h = absurd cc
    written_at (q ∷ qs) zero at h = let same : q ≡ u = cc in subst IsWrittenProcedure same (h 0 q (omega arith))
    written_at (q ∷ qs) (suc n) at h = written_at qs n at (λ k e lt. h (suc k) e (omega arith))

-- so the input that data without a fault are fits the unit
pub fitting : (ps : List Procedure) → IsWritten ps → IsSound run_rules ps → (n : ℕ) (u : Procedure) → slice_get ps n ≡ Some u → (line : ℕ) (bytes : List ℕ) → data_fault line bytes u ≡ None → (slots : List (Slot ℤ)) → slots ≡ input_given line bytes u → fits words u slots ≡ true
fitting ps written sound n u at line bytes none slots is = ap (fits words u) is ∙ data_fit line bytes u (sized ps written sound n u at) none
