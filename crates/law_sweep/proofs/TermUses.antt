-- Terms over the variables of a unit, and what they have in common in stores with the same values of the text's variables.
use Rattle.std.proofs.Common.{◌≡◌, ℕ, zero, suc, true, false, List, ◌∷◌, refl, sym, ap, ◌∙◌, subst, if◌then◌else◌}
use Rattle.std.specs.Prelude.{ℤ, pos, int_lt}
use Rattle.adj_tree.specs.Code.{Var, plain, shadow, helper, var_eq, plus, minus, times, quot, modulo, greater, lesser, Term, lit, var, elem, neg, bin, pow, power_of, abs, Terms, none, more}
use Rattle.adj_tree.proofs.Names.{name_refl}
use Rattle.adj_word.specs.Word.{negated, power, at_least_zero}
use Rattle.def_meaning.specs.Numbers.{words, power_tangent, absolute}
use Rattle.def_meaning.specs.Store.{Shape, Store, cell_of}
use Rattle.def_meaning.specs.Read.{reads_term, reads_terms}
use Rattle.def_names.specs.Numbers.{Vars}
use Rattle.def_meaning.specs.Apart.{has_name}
use Rattle.law_sweep.specs.Pairs.{Words, SamePlain}
use Rattle.def_names.proofs.Variables.{or_left, or_right}
use Rattle.def_meaning.proofs.Variables.{var_refl}
use Rattle.def_sweep.specs.Occurrences.{is_active_where}
use Rattle.law_sweep.specs.Kernel.{AllText, AreTreated}
use Rattle.law_sweep.proofs.Shapes.{text_first, text_second}
use Rattle.law_sweep.proofs.Terms.{num, nums, word_of, power_word, IsExponent, tan, tangent_of, cell_or, CanDo, HasCell, IsDefined, AreDefined}

abbrev mutual
  -- the variables of a term are of the text
  pub IsText : Term → Type 0
  IsText (lit z) = Unit {0}
  IsText (var (plain x)) = Unit {0}
  IsText (var (shadow x)) = ⊥
  IsText (var (helper r k)) = ⊥
  IsText (elem (plain x) subs) = AreText subs
  IsText (elem (shadow x) subs) = ⊥
  IsText (elem (helper r k) subs) = ⊥
  IsText (neg a) = IsText a
  IsText (bin op a b) = IsText a × IsText b
  IsText (pow a k) = IsText a
  IsText (power_of a b) = IsText a × IsText b
  IsText (abs a) = IsText a

  pub AreText : Terms → Type 0
  AreText none = Unit {0}
  AreText (more e es) = IsText e × AreText es

-- a term of the text, at whose differentiable occurrences variables of the unit stand, and no MAX, MIN or ABS
abbrev pub IsOver : List (List ℕ) → Term → Type 0
IsOver vars (lit z) = Unit {0}
IsOver vars (var (plain x)) = has_name x vars ≡ true
IsOver vars (var (shadow x)) = ⊥
IsOver vars (var (helper r k)) = ⊥
IsOver vars (elem (plain x) subs) = (has_name x vars ≡ true) × AreText subs
IsOver vars (elem (shadow x) subs) = ⊥
IsOver vars (elem (helper r k) subs) = ⊥
IsOver vars (neg a) = IsOver vars a
IsOver vars (bin plus a b) = Unit {0} × (IsOver vars a × IsOver vars b)
IsOver vars (bin minus a b) = Unit {0} × (IsOver vars a × IsOver vars b)
IsOver vars (bin times a b) = Unit {0} × (IsOver vars a × IsOver vars b)
IsOver vars (bin quot a b) = IsText a × IsText b
IsOver vars (bin modulo a b) = IsText a × IsText b
IsOver vars (bin greater a b) = ⊥
IsOver vars (bin lesser a b) = ⊥
IsOver vars (pow a zero) = IsText a
IsOver vars (pow a (suc k)) = IsOver vars a
IsOver vars (power_of a b) = IsOver vars a × IsText b
IsOver vars (abs a) = ⊥

mutual
  pub text_of : (e : Term) → AllText (λ v. reads_term v e) → IsText e
  text_of (lit z) h = tt
  text_of (var (plain x)) h = tt
  text_of (var (shadow x)) h = absurd (let c : false ≡ true = h (shadow x) (name_refl x) in cc)
  text_of (var (helper r k)) h = absurd (let c : false ≡ true = h (helper r k) (var_refl (helper r k)) in cc)
  text_of (elem (plain x) subs) h = texts_of subs (text_second (λ v. var_eq v (plain x)) (λ v. reads_terms v subs) h)
  text_of (elem (shadow x) subs) h = absurd (let c : false ≡ true = h (shadow x) (or_left (var_eq (shadow x) (shadow x)) _ (name_refl x)) in cc)
  text_of (elem (helper r k) subs) h = absurd (let c : false ≡ true = h (helper r k) (or_left (var_eq (helper r k) (helper r k)) _ (var_refl (helper r k))) in cc)
  text_of (neg a) h = text_of a h
  text_of (bin op a b) h = (text_of a (text_first (λ v. reads_term v a) (λ v. reads_term v b) h), text_of b (text_second (λ v. reads_term v a) (λ v. reads_term v b) h))
  text_of (pow a k) h = text_of a h
  text_of (power_of a b) h = (text_of a (text_first (λ v. reads_term v a) (λ v. reads_term v b) h), text_of b (text_second (λ v. reads_term v a) (λ v. reads_term v b) h))
  text_of (abs a) h = text_of a h

  pub texts_of : (es : Terms) → AllText (λ v. reads_terms v es) → AreText es
  texts_of none h = tt
  texts_of (more e es) h = (text_of e (text_first (λ v. reads_term v e) (λ v. reads_terms v es) h), texts_of es (text_second (λ v. reads_term v e) (λ v. reads_terms v es) h))

pub over_of : (vars : List (List ℕ)) (e : Term) → IsText e → AreTreated e → ((y : List ℕ) → reads_term (plain y) e ≡ true → has_name y vars ≡ true) → IsOver vars e
over_of vars (lit z) x t h = tt
over_of vars (var (plain y)) x t h = h y (name_refl y)
over_of vars (var (shadow y)) x t h = absurd x
over_of vars (var (helper r k)) x t h = absurd x
over_of vars (elem (plain y) subs) x t h = (h y (or_left (var_eq (plain y) (plain y)) (reads_terms (plain y) subs) (name_refl y)), x)
over_of vars (elem (shadow y) subs) x t h = absurd x
over_of vars (elem (helper r k) subs) x t h = absurd x
over_of vars (neg a) x t h = over_of vars a x t h
over_of vars (bin plus a b) x t h = (tt, (over_of vars a x.0 t.0 (λ y n. h y (or_left _ (reads_term (plain y) b) n)), over_of vars b x.1 t.1 (λ y n. h y (or_right (reads_term (plain y) a) _ n))))
over_of vars (bin minus a b) x t h = (tt, (over_of vars a x.0 t.0 (λ y n. h y (or_left _ (reads_term (plain y) b) n)), over_of vars b x.1 t.1 (λ y n. h y (or_right (reads_term (plain y) a) _ n))))
over_of vars (bin times a b) x t h = (tt, (over_of vars a x.0 t.0 (λ y n. h y (or_left _ (reads_term (plain y) b) n)), over_of vars b x.1 t.1 (λ y n. h y (or_right (reads_term (plain y) a) _ n))))
over_of vars (bin quot a b) x t h = x
over_of vars (bin modulo a b) x t h = x
over_of vars (bin greater a b) x t h = absurd t
over_of vars (bin lesser a b) x t h = absurd t
over_of vars (pow a zero) x t h = x
over_of vars (pow a (suc k)) x t h = over_of vars a x t h
over_of vars (power_of a b) x t h = (over_of vars a x.0 t (λ y n. h y (or_left _ (reads_term (plain y) b) n)), x.1)
over_of vars (abs a) x t h = absurd t

pub over_text : (vars : List (List ℕ)) (e : Term) → IsOver vars e → IsText e
over_text vars (lit z) o = tt
over_text vars (var (plain x)) o = tt
over_text vars (var (shadow x)) o = absurd o
over_text vars (var (helper r k)) o = absurd o
over_text vars (elem (plain x) subs) o = o.1
over_text vars (elem (shadow x) subs) o = absurd o
over_text vars (elem (helper r k) subs) o = absurd o
over_text vars (neg a) o = over_text vars a o
over_text vars (bin plus a b) o = (over_text vars a o.1.0, over_text vars b o.1.1)
over_text vars (bin minus a b) o = (over_text vars a o.1.0, over_text vars b o.1.1)
over_text vars (bin times a b) o = (over_text vars a o.1.0, over_text vars b o.1.1)
over_text vars (bin quot a b) o = o
over_text vars (bin modulo a b) o = o
over_text vars (bin greater a b) o = absurd o
over_text vars (bin lesser a b) o = absurd o
over_text vars (pow a zero) o = o
over_text vars (pow a (suc k)) o = over_text vars a o
over_text vars (power_of a b) o = (over_text vars a o.0, o.1)
over_text vars (abs a) o = absurd o

pub over_treated : (vars : List (List ℕ)) (e : Term) → IsOver vars e → AreTreated e
over_treated vars (lit z) o = tt
over_treated vars (var x) o = tt
over_treated vars (elem x subs) o = tt
over_treated vars (neg a) o = over_treated vars a o
over_treated vars (bin plus a b) o = (over_treated vars a o.1.0, over_treated vars b o.1.1)
over_treated vars (bin minus a b) o = (over_treated vars a o.1.0, over_treated vars b o.1.1)
over_treated vars (bin times a b) o = (over_treated vars a o.1.0, over_treated vars b o.1.1)
over_treated vars (bin quot a b) o = tt
over_treated vars (bin modulo a b) o = tt
over_treated vars (bin greater a b) o = absurd o
over_treated vars (bin lesser a b) o = absurd o
over_treated vars (pow a zero) o = tt
over_treated vars (pow a (suc k)) o = over_treated vars a o
over_treated vars (power_of a b) o = over_treated vars a o.0
over_treated vars (abs a) o = absurd o

-- ---- stores with the same values of the text's variables

module _ (sh : Var → Shape) (s s' : Store ℤ) (h : SamePlain s s') where
  mutual
    pub num_text : (e : Term) → IsText e → num sh e s' ≡ num sh e s
    num_text (lit z) o = refl
    num_text (var (plain x)) o = h.at x 0
    num_text (var (shadow x)) o = absurd o
    num_text (var (helper r k)) o = absurd o
    num_text (elem (plain x) subs) o = ap (λ is. s' (plain x) (cell_or (cell_of (sh (plain x)) is))) (nums_text subs o) ∙ h.at x (cell_or (cell_of (sh (plain x)) (nums sh subs s)))
    num_text (elem (shadow x) subs) o = absurd o
    num_text (elem (helper r k) subs) o = absurd o
    num_text (neg a) o = ap negated (num_text a o)
    num_text (bin op a b) o = λ i. word_of op (num_text a o.0 i) (num_text b o.1 i)
    num_text (pow a k) o = ap (λ u. power u k) (num_text a o)
    num_text (power_of a b) o = λ i. power_word (num_text a o.0 i) (num_text b o.1 i)
    num_text (abs a) o = ap (absolute words) (num_text a o)

    pub nums_text : (es : Terms) → AreText es → nums sh es s' ≡ nums sh es s
    nums_text none o = refl
    nums_text (more e es) o = λ i. num_text e o.0 i ∷ nums_text es o.1 i

  mutual
    pub defined_text : (e : Term) → IsText e → IsDefined sh e s → IsDefined sh e s'
    defined_text (lit z) o d = tt
    defined_text (var x) o d = tt
    defined_text (elem (plain x) subs) o d = (all_defined_text subs o d.0, subst (HasCell (sh (plain x))) (sym (nums_text subs o)) d.1)
    defined_text (elem (shadow x) subs) o d = absurd o
    defined_text (elem (helper r k) subs) o d = absurd o
    defined_text (neg a) o d = defined_text a o d
    defined_text (bin op a b) o d = (subst (CanDo op) (sym (num_text b o.1)) d.0, (defined_text a o.0 d.1.0, defined_text b o.1 d.1.1))
    defined_text (pow a k) o d = defined_text a o d
    defined_text (power_of a b) o d = (subst IsExponent (sym (num_text b o.1)) d.0, (defined_text a o.0 d.1.0, defined_text b o.1 d.1.1))
    defined_text (abs a) o d = defined_text a o d

    pub all_defined_text : (es : Terms) → AreText es → AreDefined sh es s → AreDefined sh es s'
    all_defined_text none o d = tt
    all_defined_text (more e es) o d = (defined_text e o.0 d.0, all_defined_text es o.1 d.1)

  pub tan_text : (e : Term) (d : Words) → IsText e → tan sh e s' d ≡ tan sh e s d
  tan_text (lit z) d o = refl
  tan_text (var x) d o = refl
  tan_text (elem (plain x) subs) d o = ap (λ is. d (x, cell_or (cell_of (sh (plain x)) is))) (nums_text subs o)
  tan_text (elem (shadow x) subs) d o = absurd o
  tan_text (elem (helper r k) subs) d o = absurd o
  tan_text (neg a) d o = ap negated (tan_text a d o)
  tan_text (bin op a b) d o = λ i. tangent_of op (num_text a o.0 i) (num_text b o.1 i) (tan_text a d o.0 i) (tan_text b d o.1 i)
  tan_text (pow a k) d o = λ i. power_tangent (num_text a o i) (tan_text a d o i) k
  tan_text (power_of a b) d o = λ i. power_tangent (num_text a o.0 i) (tan_text a d o.0 i) (at_least_zero (num_text b o.1 i))
  tan_text (abs a) d o = λ i. if int_lt (num_text a o i) (pos 0) then negated (tan_text a d o i) else tan_text a d o i

-- the same, of terms over the variables of a unit
module _ (sh : Var → Shape) (vars : List (List ℕ)) where
  pub num_same : (e : Term) (s s' : Store ℤ) → IsOver vars e → SamePlain s s' → num sh e s' ≡ num sh e s
  num_same e s s' o h = num_text sh s s' h e (over_text vars e o)

  pub tan_same : (e : Term) (s s' : Store ℤ) (d : Words) → IsOver vars e → SamePlain s s' → tan sh e s' d ≡ tan sh e s d
  tan_same e s s' d o h = tan_text sh s s' h e d (over_text vars e o)

  pub defined_same : (e : Term) (s s' : Store ℤ) → IsOver vars e → SamePlain s s' → IsDefined sh e s → IsDefined sh e s'
  defined_same e s s' o h d = defined_text sh s s' h e (over_text vars e o) d

-- the values that the adjoint of a term uses are defined
abbrev pub IsUsable : (Var → Shape) → Vars → Term → Store ℤ → Type 0
IsUsable sh on (lit z) s = Unit {0}
IsUsable sh on (var x) s = Unit {0}
IsUsable sh on (elem x subs) s = on x ≡ true → AreDefined sh subs s × HasCell (sh x) (nums sh subs s)
IsUsable sh on (neg a) s = IsUsable sh on a s
IsUsable sh on (bin plus a b) s = IsUsable sh on a s × IsUsable sh on b s
IsUsable sh on (bin minus a b) s = IsUsable sh on a s × IsUsable sh on b s
IsUsable sh on (bin times a b) s = ((is_active_where on a ≡ true → IsDefined sh b s) × (is_active_where on b ≡ true → IsDefined sh a s)) × (IsUsable sh on a s × IsUsable sh on b s)
IsUsable sh on (bin quot a b) s = Unit {0}
IsUsable sh on (bin modulo a b) s = Unit {0}
IsUsable sh on (bin greater a b) s = Unit {0}
IsUsable sh on (bin lesser a b) s = Unit {0}
IsUsable sh on (pow a zero) s = Unit {0}
IsUsable sh on (pow a (suc zero)) s = IsUsable sh on a s
IsUsable sh on (pow a (suc (suc k))) s = (is_active_where on a ≡ true → IsDefined sh a s) × IsUsable sh on a s
IsUsable sh on (power_of a b) s = (is_active_where on a ≡ true → IsDefined sh (power_of a b) s) × IsUsable sh on a s
IsUsable sh on (abs a) s = Unit {0}

module _ (on : Vars) (sh : Var → Shape) (vars : List (List ℕ)) where
  pub usable_same : (e : Term) (s s' : Store ℤ) → IsOver vars e → SamePlain s s' → IsUsable sh on e s → IsUsable sh on e s'
  usable_same (lit z) s s' o h u = tt
  usable_same (var x) s s' o h u = tt
  usable_same (elem (plain x) subs) s s' o h u = λ a. let d = u a in (all_defined_text sh s s' h subs o.1 d.0, subst (HasCell (sh (plain x))) (sym (nums_text sh s s' h subs o.1)) d.1)
  usable_same (elem (shadow x) subs) s s' o h u = absurd o
  usable_same (elem (helper r k) subs) s s' o h u = absurd o
  usable_same (neg a) s s' o h u = usable_same a s s' o h u
  usable_same (bin plus a b) s s' o h u = (usable_same a s s' o.1.0 h u.0, usable_same b s s' o.1.1 h u.1)
  usable_same (bin minus a b) s s' o h u = (usable_same a s s' o.1.0 h u.0, usable_same b s s' o.1.1 h u.1)
  usable_same (bin times a b) s s' o h u =
      ((λ w. defined_same sh vars b s s' o.1.1 h (u.0.0 w), λ w. defined_same sh vars a s s' o.1.0 h (u.0.1 w)), (usable_same a s s' o.1.0 h u.1.0, usable_same b s s' o.1.1 h u.1.1))
  usable_same (bin quot a b) s s' o h u = tt
  usable_same (bin modulo a b) s s' o h u = tt
  usable_same (bin greater a b) s s' o h u = tt
  usable_same (bin lesser a b) s s' o h u = tt
  usable_same (pow a zero) s s' o h u = tt
  usable_same (pow a (suc zero)) s s' o h u = usable_same a s s' o h u
  usable_same (pow a (suc (suc k))) s s' o h u = (λ w. defined_same sh vars a s s' o h (u.0 w), usable_same a s s' o h u.1)
  usable_same (power_of a b) s s' o h u = (λ w. defined_same sh vars (power_of a b) s s' o h (u.0 w), usable_same a s s' o.0 h u.1)
  usable_same (abs a) s s' o h u = tt
