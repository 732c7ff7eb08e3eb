-- A CALL of a program without faults fits, with as many actuals as dummies.
use Rattle.std.proofs.Common.{◌≡◌, ℕ, Bool, true, false, List, [], ◌∷◌, map, ◌⊎◌, inl, inr, refl, sym, ap, ◌∙◌, subst, if◌then◌else◌}
use Rattle.std.proofs.lemmas.Bool.{or_cases}
use Rattle.std.specs.Prelude.{Option, Some, None, not, ◌&&◌, ◌||◌, ◌==◌, length}
use Rattle.adj_tree.specs.Code.{Var, plain, shadow, helper, var_eq, Term, lit, var, elem, neg, bin, pow, power_of, abs, Terms, none, more, Declaration, Procedure}
use Rattle.adj_tree.proofs.Names.{nat_same}
use Rattle.def_meaning.specs.Written.{find_unit, is_place_of, is_handed_back, handed_back, is_written}
use Rattle.def_meaning.specs.Units.{declared}
use Rattle.def_meaning.proofs.Booleans.{and_true, or_false}
use Rattle.def_meaning.proofs.Variables.{var_same}
use Rattle.law_meaning.proofs.WriteSets.{handed_written}
use Rattle.def_names.specs.Reserved.{is_runtime}
use Rattle.def_names.specs.Variables.{rank}
use Rattle.def_names.specs.Fault.{fault}
use Rattle.def_names.specs.CallFaults.{variable_rank, is_actual_for, are_actuals_for, faults_of_unit_call}
use Rattle.def_names.specs.WriteFaults.{name_one, is_whole_array, clash, clashes, have_clash}
use Rattle.def_kernel.specs.Calls.{is_name_of, stands_whole, AreHandedApart, is_scalar, ArraysStandOnce, ScalarsToScalars}
use Rattle.law_kernel.specs.Fits.{IsFitCall}
use Rattle.law_kernel.specs.StepTheorem.{OneFor, IsMatched}
use Rattle.def_names.proofs.Faultless.{none_if}
use Rattle.law_kernel.proofs.Faultless.{isn't_not}

-- ---- the unit that is called

-- it is there, and the actuals fit
pub record Called (ps : List Procedure) (caller : Procedure) (name : List ℕ) (args : Terms) : Type 0 where
  pub called : Procedure
  pub found : find_unit ps name ≡ Some called
  pub fit : are_actuals_for caller called called.dummies args ≡ true
  pub is_unit : is_runtime name ≡ false

pub is_called : (ps : List Procedure) (caller : Procedure) (line : ℕ) (name : List ℕ) (args : Terms) → (if is_runtime name then fault 15 line ∷ [] else faults_of_unit_call caller (find_unit ps name) line args) ≡ [] → Called ps caller name args
is_called ps caller line name args h = go (is_runtime name) refl h
  where
    found : is_runtime name ≡ false → (o : Option Procedure) → find_unit ps name ≡ o → faults_of_unit_call caller o line args ≡ [] → Called ps caller name args
    found e None f h = absurd cc
    found e (Some u) f h = record { called = u; found = f; fit = isn't_not (are_actuals_for caller u u.dummies args) (none_if (not (are_actuals_for caller u u.dummies args)) (fault 15 line) h); is_unit = e }

    go : (b : Bool) → is_runtime name ≡ b → (if b then fault 15 line ∷ [] else faults_of_unit_call caller (find_unit ps name) line args) ≡ [] → Called ps caller name args
    go true e g = absurd cc
    go false e g = found e (find_unit ps name) refl g

-- actuals that fit dummies are as many
one_for : (caller called : Procedure) (ds : List (List ℕ)) (es : Terms) → are_actuals_for caller called ds es ≡ true → OneFor ds es
one_for caller called [] none h = tt
one_for caller called [] (more e es) h = absurd cc
one_for caller called (d ∷ ds) none h = absurd cc
one_for caller called (d ∷ ds) (more e es) h = one_for caller called ds es (and_true (is_actual_for caller (rank called d) e) (are_actuals_for caller called ds es) h).1

pub counted_of : (ps : List Procedure) (caller : Procedure) (name : List ℕ) (args : Terms) → Called ps caller name args → IsMatched ps name args
counted_of ps caller name args h = record { called = h.called; found = h.found; count = one_for caller h.called h.called.dummies args h.fit }

-- ---- ranks

-- no extents are declared for a variable that isn't of the text
undeclared : (ds : List Declaration) (x : Var) → ((y : List ℕ) → var_eq x (plain y) ≡ false) → declared ds x ≡ []
undeclared [] x h = refl
undeclared (d ∷ ds) x h = ap (λ b. if b then d.extents else declared ds x) (h d.name) ∙ undeclared ds x h

-- a variable without extents is a scalar
scalar_of_rank : (u : Procedure) (x : Var) → (variable_rank u x == 0) ≡ true → is_scalar u.declarations x ≡ true
scalar_of_rank u (plain x) h = h
scalar_of_rank u (shadow x) h = ap (λ l. length l == 0) (undeclared u.declarations (shadow x) (λ y. refl))
scalar_of_rank u (helper r k) h = ap (λ l. length l == 0) (undeclared u.declarations (helper r k) (λ y. refl))

-- what is handed back from a scalar goes into a scalar
scalars : (caller called : Procedure) (ds : List (List ℕ)) (ws : List Bool) (es : Terms) → are_actuals_for caller called ds es ≡ true → ScalarsToScalars called.declarations caller.declarations ds ws es
scalars caller called [] ws es h = tt
scalars caller called (d ∷ ds) [] es h = tt
scalars caller called (d ∷ ds) (w ∷ ws) none h = tt
scalars caller called (d ∷ ds) (w ∷ ws) (more e es) h = let p = and_true (is_actual_for caller (rank called d) e) (are_actuals_for caller called ds es) h in (λ x wt n s. one x e n s p.0, scalars caller called ds ws es p.1)
  where
    one : (x : Var) (e : Term) → is_name_of x e ≡ true → is_scalar called.declarations (plain d) ≡ true → is_actual_for caller (rank called d) e ≡ true → is_scalar caller.declarations x ≡ true
    one x (lit z) n s k = absurd cc
    one x (var y) n s k =
        let none : rank called d ≡ 0 = nat_same (rank called d) 0 s in
        scalar_of_rank caller x (ap (λ z. variable_rank caller z == 0) (var_same x y n) ∙ ap (λ z. variable_rank caller y == z) (sym none) ∙ k)
    one x (elem y subs) n s k = absurd cc
    one x (neg a) n s k = absurd cc
    one x (bin op a b) n s k = absurd cc
    one x (pow a k1) n s k = absurd cc
    one x (power_of a b) n s k = absurd cc
    one x (abs a) n s k = absurd cc

-- ---- clashes

-- an actual that is a place of a variable names one thing with every place of it
names_one : (x : Var) (e f : Term) → is_place_of x e ≡ true → name_one e f ≡ is_place_of x f
names_one x (lit z) f h = absurd cc
names_one x (var y) f h = ap (λ z. is_place_of z f) (sym (var_same x y h))
names_one x (elem y subs) f h = ap (λ z. is_place_of z f) (sym (var_same x y h))
names_one x (neg a) f h = absurd cc
names_one x (bin op a b) f h = absurd cc
names_one x (pow a k) f h = absurd cc
names_one x (power_of a b) f h = absurd cc
names_one x (abs a) f h = absurd cc

-- two places of one variable clash where the second is handed back into
written_clash : (w : Bool) (n p q : Bool) → (n && ((p || w) || q)) ≡ false → n ≡ true → w ≡ false
written_clash w true true q h e = absurd cc
written_clash true true false q h e = absurd cc
written_clash false true false q h e = refl
written_clash w false p q h e = absurd cc

-- actuals behind one aren't handed back into it
apart_behind : (u : Procedure) (x : Var) (v : Bool) (e : Term) (ws : List Bool) (es : Terms) → is_place_of x e ≡ true → clashes u v e ws es ≡ false → is_handed_back x ws es ≡ false
apart_behind u x v e [] es p h = refl
apart_behind u x v e (w ∷ ws) none p h = refl
apart_behind u x v e (w ∷ ws) (more f fs) p h =
    let c = or_false (clash u v e w f) (clashes u v e ws fs) h in
    ap (λ b. b || is_handed_back x ws fs) (go (is_place_of x f) refl c.0) ∙ apart_behind u x v e ws fs p c.1
  where
    go : (b : Bool) → is_place_of x f ≡ b → clash u v e w f ≡ false → (w && is_place_of x f) ≡ false
    go true k c = ap (λ z. z && is_place_of x f) (written_clash w (name_one e f) v (is_whole_array u e && is_whole_array u f) c (names_one x e f p ∙ k))
    go false k c = none w k
      where
        none : (w : Bool) → is_place_of x f ≡ false → (w && is_place_of x f) ≡ false
        none true k = k
        none false k = refl

-- so no actual is handed back into what an earlier one is
handed_apart : (u : Procedure) (ws : List Bool) (es : Terms) → have_clash u ws es ≡ false → AreHandedApart ws es
handed_apart u ws none h = tt
handed_apart u [] (more e es) h = (λ x p. refl, handed_apart u [] es refl)
handed_apart u (w ∷ ws) (more e es) h =
    let c = or_false (clashes u w e ws es) (have_clash u ws es) h in
    (λ x p. apart_behind u x w e ws es p c.0, handed_apart u ws es c.1)

-- ---- whole arrays

-- a name that is an actual, and its array
named_whole : (u : Procedure) (x : Var) (e : Term) → is_name_of x e ≡ true → (is_place_of x e ≡ true) × (is_whole_array u e ≡ not (variable_rank u x == 0))
named_whole u x (lit z) h = absurd cc
named_whole u x (var y) h = (h, ap (λ z. not (variable_rank u z == 0)) (sym (var_same x y h)))
named_whole u x (elem y subs) h = absurd cc
named_whole u x (neg a) h = absurd cc
named_whole u x (bin op a b) h = absurd cc
named_whole u x (pow a k) h = absurd cc
named_whole u x (power_of a b) h = absurd cc
named_whole u x (abs a) h = absurd cc

-- two whole arrays of one name clash
array_clash : (v w n p : Bool) → (n && ((v || w) || (not p && not p))) ≡ false → n ≡ true → p ≡ true
array_clash true w true p h e = absurd cc
array_clash false true true p h e = absurd cc
array_clash false false true true h e = refl
array_clash false false true false h e = absurd cc
array_clash v w false p h e = absurd cc

-- an array that stands behind itself has no extents
once_behind : (u : Procedure) (x : Var) (v : Bool) (e : Term) (ds : List (List ℕ)) (g : List ℕ → Bool) (es : Terms) → is_name_of x e ≡ true → OneFor ds es → clashes u v e (map g ds) es ≡ false → stands_whole x es ≡ true → is_scalar u.declarations x ≡ true
once_behind u x v e [] g none n o h s = absurd cc
once_behind u x v e [] g (more f fs) n o h s = absurd o
once_behind u x v e (d ∷ ds) g none n o h s = absurd o
once_behind u x v e (d ∷ ds) g (more f fs) n o h s =
    let c = or_false (clash u v e (g d) f) (clashes u v e (map g ds) fs) h in
    go c.0 (once_behind u x v e ds g fs n o c.1) (or_cases (is_name_of x f) (stands_whole x fs) s)
  where
    go : clash u v e (g d) f ≡ false → (stands_whole x fs ≡ true → is_scalar u.declarations x ≡ true) → (is_name_of x f ≡ true) ⊎ (stands_whole x fs ≡ true) → is_scalar u.declarations x ≡ true
    go c k (inl m) =
        let a = named_whole u x e n in
        let b = named_whole u x f m in
        scalar_of_rank u x (array_clash v (g d) (name_one e f) (variable_rank u x == 0) (ap (λ z. name_one e f && ((v || g d) || z)) (ap (λ z. z && not (variable_rank u x == 0)) (sym a.1) ∙ ap (λ z. is_whole_array u e && z) (sym b.1)) ∙ c) (names_one x e f a.0 ∙ b.0))
    go c k (inr m) = k m

-- so no array stands twice as a whole
arrays_once : (u : Procedure) (ds : List (List ℕ)) (g : List ℕ → Bool) (es : Terms) → OneFor ds es → have_clash u (map g ds) es ≡ false → ArraysStandOnce u.declarations es
arrays_once u ds g none o h = tt
arrays_once u [] g (more e es) o h = absurd o
arrays_once u (d ∷ ds) g (more e es) o h =
    let c = or_false (clashes u (g d) e (map g ds) es) (have_clash u (map g ds) es) h in
    (λ x n s. once_behind u x (g d) e ds g es n o c.0 s, arrays_once u ds g es o c.1)

-- ---- a call fits

pub fit_of : (ps : List Procedure) (caller : Procedure) (name : List ℕ) (args : Terms) → Called ps caller name args → have_clash caller (handed_back ps name) args ≡ false → IsFitCall ps caller name args
fit_of ps caller name args c h = record {
  called = c.called;
  found = c.found;
  once = handed_apart caller (handed_back ps name) args h;
  arrays = arrays_once caller c.called.dummies (is_written ps c.called) args (one_for caller c.called c.called.dummies args c.fit) (subst (λ ws. have_clash caller ws args ≡ false) (handed_written ps name c.called c.found) h);
  ranks = scalars caller c.called c.called.dummies (handed_back ps name) args c.fit;
}
