-- Stores that agree on a set of variables, and what a term has in common in them.
use Rattle.std.proofs.Common.{◌≡◌, ℕ, zero, suc, Bool, true, false, List, ◌∷◌, refl, sym, ap, ◌∙◌, subst}
use Rattle.std.specs.Prelude.{ℤ, pos, ◌||◌, ◌&&◌}
use Rattle.adj_tree.specs.Code.{Var, plain, shadow, helper, var_eq, plus, minus, times, quot, modulo, greater, lesser, Term, lit, var, elem, neg, bin, pow, power_of, abs, Terms, none, more}
use Rattle.adj_tree.proofs.Names.{name_refl}
use Rattle.adj_word.specs.Word.{add, sub, mul, negated, power, at_least_zero}
use Rattle.adj_word.proofs.Residues.{mul_comm, zero-mul}
use Rattle.def_meaning.specs.Numbers.{words, power_tangent, absolute}
use Rattle.def_meaning.specs.Store.{Shape, Store, cell_of}
use Rattle.def_meaning.specs.Read.{reads_term, reads_terms}
use Rattle.def_meaning.proofs.Cells.{size_positive}
use Rattle.def_names.specs.Numbers.{Vars}
use Rattle.def_sweep.specs.Facts.{Within, in_term, in_terms}
use Rattle.law_sweep.specs.Pairs.{Words}
use Rattle.law_sweep.specs.Scenes.{masked}
use Rattle.def_names.proofs.Variables.{or_left, or_right}
use Rattle.law_sweep.proofs.Values.{power_tangent-zero}
use Rattle.def_sweep.specs.Occurrences.{is_active_where, adjoint_reads}
use Rattle.law_sweep.specs.Runs.{SameOn}
use Rattle.law_sweep.proofs.Terms.{num, nums, cell_or, cell_in, tan, word_of, power_word, IsExponent, CanDo, HasCell, IsDefined, AreDefined}
use Rattle.law_sweep.proofs.TermTangents.{tan_inactive, cell_in_below}
use Rattle.law_sweep.proofs.TermUses.{IsText, AreText, IsOver, over_text, over_treated, IsUsable}
use Rattle.law_sweep.proofs.TurnedOf.{HasTarget}

within_first : (f g : Var → Bool) (c : Vars) → Within (λ v. f v || g v) c → Within f c
within_first f g c w = λ v h. w v (or_left (f v) (g v) h)

within_second : (f g : Var → Bool) (c : Vars) → Within (λ v. f v || g v) c → Within g c
within_second f g c w = λ v h. w v (or_right (f v) (g v) h)

module _ (sh : Var → Shape) (c : Vars) (s s' : Store ℤ) (h : SameOn sh c s s') where
  mutual
    pub num_on : (e : Term) → IsText e → IsDefined sh e s → Within (in_term e) c → num sh e s' ≡ num sh e s
    num_on (lit z) o d w = refl
    num_on (var (plain x)) o d w = h.at x 0 (size_positive (sh (plain x))) (w (plain x) (name_refl x))
    num_on (var (shadow x)) o d w = absurd o
    num_on (var (helper r k)) o d w = absurd o
    num_on (elem (plain x) subs) o d w =
        let e = nums_on subs o d.0 (within_second (λ v. var_eq v (plain x)) (λ v. reads_terms v subs) c w) in
        ap (λ is. s' (plain x) (cell_or (cell_of (sh (plain x)) is))) e
        ∙ h.at x (cell_or (cell_of (sh (plain x)) (nums sh subs s))) (cell_in_below (sh (plain x)) (nums sh subs s) d.1) (w (plain x) (or_left (var_eq (plain x) (plain x)) _ (name_refl x)))
    num_on (elem (shadow x) subs) o d w = absurd o
    num_on (elem (helper r k) subs) o d w = absurd o
    num_on (neg a) o d w = ap negated (num_on a o d w)
    num_on (bin op a b) o d w = λ i. word_of op (num_on a o.0 d.1.0 (within_first (λ v. reads_term v a) (λ v. reads_term v b) c w) i) (num_on b o.1 d.1.1 (within_second (λ v. reads_term v a) (λ v. reads_term v b) c w) i)
    num_on (pow a k) o d w = ap (λ u. power u k) (num_on a o d w)
    num_on (power_of a b) o d w = λ i. power_word (num_on a o.0 d.1.0 (within_first (λ v. reads_term v a) (λ v. reads_term v b) c w) i) (num_on b o.1 d.1.1 (within_second (λ v. reads_term v a) (λ v. reads_term v b) c w) i)
    num_on (abs a) o d w = ap (absolute words) (num_on a o d w)

    pub nums_on : (es : Terms) → AreText es → AreDefined sh es s → Within (in_terms es) c → nums sh es s' ≡ nums sh es s
    nums_on none o d w = refl
    nums_on (more e es) o d w = λ i. num_on e o.0 d.0 (within_first (λ v. reads_term v e) (λ v. reads_terms v es) c w) i ∷ nums_on es o.1 d.1 (within_second (λ v. reads_term v e) (λ v. reads_terms v es) c w) i

  mutual
    pub defined_on : (e : Term) → IsText e → IsDefined sh e s → Within (in_term e) c → IsDefined sh e s'
    defined_on (lit z) o d w = tt
    defined_on (var x) o d w = tt
    defined_on (elem (plain x) subs) o d w =
        let w2 = within_second (λ v. var_eq v (plain x)) (λ v. reads_terms v subs) c w in
        (all_defined_on subs o d.0 w2, subst (HasCell (sh (plain x))) (sym (nums_on subs o d.0 w2)) d.1)
    defined_on (elem (shadow x) subs) o d w = absurd o
    defined_on (elem (helper r k) subs) o d w = absurd o
    defined_on (neg a) o d w = defined_on a o d w
    defined_on (bin op a b) o d w =
        let w1 = within_first (λ v. reads_term v a) (λ v. reads_term v b) c w in
        let w2 = within_second (λ v. reads_term v a) (λ v. reads_term v b) c w in
        (subst (CanDo op) (sym (num_on b o.1 d.1.1 w2)) d.0, (defined_on a o.0 d.1.0 w1, defined_on b o.1 d.1.1 w2))
    defined_on (pow a k) o d w = defined_on a o d w
    defined_on (power_of a b) o d w =
        let w1 = within_first (λ v. reads_term v a) (λ v. reads_term v b) c w in
        let w2 = within_second (λ v. reads_term v a) (λ v. reads_term v b) c w in
        (subst IsExponent (sym (num_on b o.1 d.1.1 w2)) d.0, (defined_on a o.0 d.1.0 w1, defined_on b o.1 d.1.1 w2))
    defined_on (abs a) o d w = defined_on a o d w

    pub all_defined_on : (es : Terms) → AreText es → AreDefined sh es s → Within (in_terms es) c → AreDefined sh es s'
    all_defined_on none o d w = tt
    all_defined_on (more e es) o d w = (defined_on e o.0 d.0 (within_first (λ v. reads_term v e) (λ v. reads_terms v es) c w), all_defined_on es o.1 d.1 (within_second (λ v. reads_term v e) (λ v. reads_terms v es) c w))

  -- the cell of a target
  pub target_on : (x : Var) (subs : Terms) → AreText subs → HasTarget sh x subs s → Within (in_terms subs) c → HasTarget sh x subs s' × (cell_in sh x subs s' ≡ cell_in sh x subs s)
  target_on x none o t w = (tt, refl)
  target_on x (more a rest) o t w =
      let e = nums_on (more a rest) o t.0 w in
      ((all_defined_on (more a rest) o t.0 w, subst (HasCell (sh x)) (sym e) t.1), ap (λ is. cell_or (cell_of (sh x) is)) e)

  -- ---- what the adjoint of a term uses

  module _ (on : Vars) (vars : List (List ℕ)) where
    reads_left : (a b : Term) → Within (adjoint_reads on (bin times a b)) c → Within (adjoint_reads on a) c
    reads_left a b w = λ v i.
        let x = is_active_where on a && reads_term v b in
        let y = is_active_where on b && reads_term v a in
        w v (or_right x (y || (adjoint_reads on a v || adjoint_reads on b v)) (or_right y (adjoint_reads on a v || adjoint_reads on b v) (or_left (adjoint_reads on a v) (adjoint_reads on b v) i)))

    reads_right : (a b : Term) → Within (adjoint_reads on (bin times a b)) c → Within (adjoint_reads on b) c
    reads_right a b w = λ v i.
        let x = is_active_where on a && reads_term v b in
        let y = is_active_where on b && reads_term v a in
        w v (or_right x (y || (adjoint_reads on a v || adjoint_reads on b v)) (or_right y (adjoint_reads on a v || adjoint_reads on b v) (or_right (adjoint_reads on a v) (adjoint_reads on b v) i)))

    beside_left : (a b : Term) → Within (adjoint_reads on (bin times a b)) c → is_active_where on a ≡ true → Within (in_term b) c
    beside_left a b w act = λ v i.
        let y = is_active_where on b && reads_term v a in
        w v (or_left (is_active_where on a && reads_term v b) (y || (adjoint_reads on a v || adjoint_reads on b v)) (rw act i))

    beside_right : (a b : Term) → Within (adjoint_reads on (bin times a b)) c → is_active_where on b ≡ true → Within (in_term a) c
    beside_right a b w act = λ v i.
        let x = is_active_where on a && reads_term v b in
        w v (or_right x ((is_active_where on b && reads_term v a) || (adjoint_reads on a v || adjoint_reads on b v)) (or_left (is_active_where on b && reads_term v a) (adjoint_reads on a v || adjoint_reads on b v) (rw act i)))

    base_reads : (a : Term) (k : ℕ) → Within (adjoint_reads on (pow a (suc (suc k)))) c → is_active_where on a ≡ true → Within (in_term a) c
    base_reads a k w act = λ v i. w v (or_left (is_active_where on a && reads_term v a) (adjoint_reads on a v) (rw act i))

    base_later : (a : Term) (k : ℕ) → Within (adjoint_reads on (pow a (suc (suc k)))) c → Within (adjoint_reads on a) c
    base_later a k w = λ v i. w v (or_right (is_active_where on a && reads_term v a) (adjoint_reads on a v) i)

    power_reads : (a b : Term) → Within (adjoint_reads on (power_of a b)) c → is_active_where on a ≡ true → Within (λ v. reads_term v a || reads_term v b) c
    power_reads a b w act = λ v i. w v (or_left (is_active_where on a && (reads_term v a || reads_term v b)) (adjoint_reads on a v) (rw act i))

    power_later : (a b : Term) → Within (adjoint_reads on (power_of a b)) c → Within (adjoint_reads on a) c
    power_later a b w = λ v i. w v (or_right (is_active_where on a && (reads_term v a || reads_term v b)) (adjoint_reads on a v) i)

    subs_reads : (x : Var) (subs : Terms) → Within (adjoint_reads on (elem x subs)) c → on x ≡ true → Within (in_terms subs) c
    subs_reads x subs w act = λ v i. w v (rw act i)

    pub usable_on : (e : Term) → IsOver vars e → Within (adjoint_reads on e) c → IsDefined sh e s → IsUsable sh on e s'
    usable_on (lit z) o w d = tt
    usable_on (var x) o w d = tt
    usable_on (elem (plain x) subs) o w d = λ act.
        let w2 = subs_reads (plain x) subs w act in
        (all_defined_on subs o.1 d.0 w2, subst (HasCell (sh (plain x))) (sym (nums_on subs o.1 d.0 w2)) d.1)
    usable_on (elem (shadow x) subs) o w d = absurd o
    usable_on (elem (helper r k) subs) o w d = absurd o
    usable_on (neg a) o w d = usable_on a o w d
    usable_on (bin plus a b) o w d =
        (usable_on a o.1.0 (λ v i. w v (or_left (adjoint_reads on a v) (adjoint_reads on b v) i)) d.1.0, usable_on b o.1.1 (λ v i. w v (or_right (adjoint_reads on a v) (adjoint_reads on b v) i)) d.1.1)
    usable_on (bin minus a b) o w d =
        (usable_on a o.1.0 (λ v i. w v (or_left (adjoint_reads on a v) (adjoint_reads on b v) i)) d.1.0, usable_on b o.1.1 (λ v i. w v (or_right (adjoint_reads on a v) (adjoint_reads on b v) i)) d.1.1)
    usable_on (bin times a b) o w d = (
      (λ act. defined_on b (over_text vars b o.1.1) d.1.1 (beside_left a b w act), λ act. defined_on a (over_text vars a o.1.0) d.1.0 (beside_right a b w act)),
      (usable_on a o.1.0 (reads_left a b w) d.1.0, usable_on b o.1.1 (reads_right a b w) d.1.1),
    )
    usable_on (bin quot a b) o w d = tt
    usable_on (bin modulo a b) o w d = tt
    usable_on (bin greater a b) o w d = tt
    usable_on (bin lesser a b) o w d = tt
    usable_on (pow a zero) o w d = tt
    usable_on (pow a (suc zero)) o w d = usable_on a o w d
    usable_on (pow a (suc (suc k))) o w d = (λ act. defined_on a (over_text vars a o) d (base_reads a k w act), usable_on a o (base_later a k w) d)
    usable_on (power_of a b) o w d = (λ act. defined_on (power_of a b) (over_text vars (power_of a b) o) d (power_reads a b w act), usable_on a o.0 (power_later a b w) d.1.0)
    usable_on (abs a) o w d = tt

    -- the part of a product's tangent that comes from a factor: by the other's value, or there is none
    factor_tangent : (e : Term) (d : Words) (t u v : ℤ) → IsOver vars e → tan sh e s (masked on d) ≡ t → (is_active_where on e ≡ true → u ≡ v) → mul t u ≡ mul t v
    factor_tangent e d t u v o is h = go (is_active_where on e) refl h
      where
        go : (b : Bool) → is_active_where on e ≡ b → (b ≡ true → u ≡ v) → mul t u ≡ mul t v
        go true act h = ap (mul t) (h refl)
        go false act h =
            let none : t ≡ pos 0 = sym is ∙ tan_inactive sh on e s d (over_treated vars e o) act in
            ap (λ z. mul z u) none ∙ zero-mul u ∙ sym (zero-mul v) ∙ ap (λ z. mul z v) (sym none)

    -- the tangent, where only active variables have one, is the same
    pub tan_on : (e : Term) (d : Words) → IsOver vars e → IsDefined sh e s → Within (adjoint_reads on e) c → tan sh e s' (masked on d) ≡ tan sh e s (masked on d)
    tan_on (lit z) d o f w = refl
    tan_on (var x) d o f w = refl
    tan_on (elem (plain x) subs) d o f w = go (on (plain x)) refl
      where
        go : (b : Bool) → on (plain x) ≡ b → masked on d (x, cell_or (cell_of (sh (plain x)) (nums sh subs s'))) ≡ masked on d (x, cell_or (cell_of (sh (plain x)) (nums sh subs s)))
        go true e = ap (λ is. masked on d (x, cell_or (cell_of (sh (plain x)) is))) (nums_on subs o.1 f.0 (subs_reads (plain x) subs w e))
        go false e = rw e refl
    tan_on (elem (shadow x) subs) d o f w = absurd o
    tan_on (elem (helper r k) subs) d o f w = absurd o
    tan_on (neg a) d o f w = ap negated (tan_on a d o f w)
    tan_on (bin plus a b) d o f w =
        λ i. add (tan_on a d o.1.0 f.1.0 (λ v j. w v (or_left (adjoint_reads on a v) (adjoint_reads on b v) j)) i) (tan_on b d o.1.1 f.1.1 (λ v j. w v (or_right (adjoint_reads on a v) (adjoint_reads on b v) j)) i)
    tan_on (bin minus a b) d o f w =
        λ i. sub (tan_on a d o.1.0 f.1.0 (λ v j. w v (or_left (adjoint_reads on a v) (adjoint_reads on b v) j)) i) (tan_on b d o.1.1 f.1.1 (λ v j. w v (or_right (adjoint_reads on a v) (adjoint_reads on b v) j)) i)
    tan_on (bin times a b) d o f w =
        let ta = tan sh a s (masked on d) in
        let tb = tan sh b s (masked on d) in
        let first : mul ta (num sh b s') ≡ mul ta (num sh b s) = factor_tangent a d ta (num sh b s') (num sh b s) o.1.0 refl (λ act. num_on b (over_text vars b o.1.1) f.1.1 (beside_left a b w act)) in
        let second : mul (num sh a s') tb ≡ mul (num sh a s) tb = mul_comm (num sh a s') tb ∙ factor_tangent b d tb (num sh a s') (num sh a s) o.1.1 refl (λ act. num_on a (over_text vars a o.1.0) f.1.0 (beside_right a b w act)) ∙ mul_comm tb (num sh a s) in
        (λ i. add (mul (tan_on a d o.1.0 f.1.0 (reads_left a b w) i) (num sh b s')) (mul (num sh a s') (tan_on b d o.1.1 f.1.1 (reads_right a b w) i))) ∙ (λ i. add (first i) (second i))
    tan_on (bin quot a b) d o f w = refl
    tan_on (bin modulo a b) d o f w = refl
    tan_on (bin greater a b) d o f w = absurd o
    tan_on (bin lesser a b) d o f w = absurd o
    tan_on (pow a zero) d o f w = refl
    tan_on (pow a (suc zero)) d o f w = ap (λ z. power_tangent (num sh a s) z 1) (tan_on a d o f w)
    tan_on (pow a (suc (suc k))) d o f w = go (is_active_where on a) refl (tan_on a d o f (base_later a k w))
      where
        go : (b : Bool) → is_active_where on a ≡ b → tan sh a s' (masked on d) ≡ tan sh a s (masked on d) → power_tangent (num sh a s') (tan sh a s' (masked on d)) (suc (suc k)) ≡ power_tangent (num sh a s) (tan sh a s (masked on d)) (suc (suc k))
        go true act same = λ i. power_tangent (num_on a (over_text vars a o) f (base_reads a k w act) i) (same i) (suc (suc k))
        go false act same =
            ap (λ t. power_tangent (num sh a s') t (suc (suc k))) (tan_inactive sh on a s' d (over_treated vars a o) act) ∙ power_tangent-zero (num sh a s') (suc (suc k))
            ∙ sym (ap (λ t. power_tangent (num sh a s) t (suc (suc k))) (tan_inactive sh on a s d (over_treated vars a o) act) ∙ power_tangent-zero (num sh a s) (suc (suc k)))
    tan_on (power_of a b) d o f w = go (is_active_where on a) refl (tan_on a d o.0 f.1.0 (power_later a b w))
      where
        go : (t : Bool) → is_active_where on a ≡ t → tan sh a s' (masked on d) ≡ tan sh a s (masked on d) → power_tangent (num sh a s') (tan sh a s' (masked on d)) (at_least_zero (num sh b s')) ≡ power_tangent (num sh a s) (tan sh a s (masked on d)) (at_least_zero (num sh b s))
        go true act same =
            let reads = power_reads a b w act in
            λ i. power_tangent (num_on a (over_text vars a o.0) f.1.0 (within_first (λ v. reads_term v a) (λ v. reads_term v b) c reads) i) (same i) (at_least_zero (num_on b o.1 f.1.1 (within_second (λ v. reads_term v a) (λ v. reads_term v b) c reads) i))
        go false act same =
            ap (λ t. power_tangent (num sh a s') t (at_least_zero (num sh b s'))) (tan_inactive sh on a s' d (over_treated vars a o.0) act) ∙ power_tangent-zero (num sh a s') (at_least_zero (num sh b s'))
            ∙ sym (ap (λ t. power_tangent (num sh a s) t (at_least_zero (num sh b s))) (tan_inactive sh on a s d (over_treated vars a o.0) act) ∙ power_tangent-zero (num sh a s) (at_least_zero (num sh b s)))
    tan_on (abs a) d o f w = absurd o
