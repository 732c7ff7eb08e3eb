-- The parts of a term, from those of its operands.
use Rattle.std.proofs.Common.{◌≡◌, ℕ, suc, Bool, true, false, ◌+◌, ◌-◌, refl, sym, ap, ◌∙◌, subst, arith}
use Rattle.std.specs.Prelude.{◌||◌, pos}
use Rattle.adj_tree.specs.Code.{Var, Term, plus, minus, times, lit, neg, bin, pow, power_of, var, helper, work, none, assign, step}
use Rattle.adj_tree.specs.View.{term_of}
use Rattle.def_meaning.specs.Append.{◌+++◌}
use Rattle.def_meaning.specs.Rename.{rename, rename_term}
use Rattle.def_names.specs.Numbers.{Vars}
use Rattle.def_sweep.specs.Marked.{code_if, count_of, own_or, work_var}
use Rattle.def_sweep.specs.Occurrences.{is_active_where}
use Rattle.def_sweep.specs.AdjointOf.{has_own_where, temps_in_where, shrunk_where, back_where, times_power}
use Rattle.adj_sweep_assignment.specs.declared.parts.Parts.{Parts}
use Rattle.adj_sweep_assignment.specs.declared.share.Share.TheVariants.{Nothing}
use Rattle.adj_sweep_assignment.specs.Shares.{share_code, scaled_code, guarded_power}
use Rattle.adj_sweep_assignment.specs.Apart.{IsApart}
use Rattle.adj_sweep_assignment.proofs.Shares.{asked_twice, scaled_named, both_named}
use Rattle.adj_sweep_assignment.proofs.Values.{is_idle, idle, value_whole}

module _ (r : Var → Var) (on : Vars) (line : ℕ) where
  -- a term without a derivative stays as it is
  pub idle_apart : (t : Term) (j : ℕ) (p : Parts) → is_idle t ≡ true → rename_term r t ≡ t → p.next ≡ j → p.active ≡ false → term_of p.term.value ≡ t → p.share.value ≡ Nothing → IsApart r on line t j p
  idle_apart t j p h plain n a e s =
      let i = idle on t h in
      record {
        next = n ∙ (let f = i.temps in omega arith);
        active = a ∙ sym i.passive;
        term = e ∙ sym plain ∙ ap (rename_term r) (sym (i.shrunk j));
        share = λ k. ap (λ z. share_code r line z k) s ∙ ap (λ b. rename r (code_if b (back_where on t k j line))) (sym i.passive);
      }

  pub negation_apart : (t : Term) (j : ℕ) (p q : Parts) → IsApart r on line t j p → q.next ≡ p.next → q.active ≡ p.active → term_of q.term.value ≡ neg (term_of p.term.value) → ((k : ℕ) → share_code r line q.share.value k ≡ scaled_code r line p.active (neg (var (r (helper work k)))) p.share.value k) → IsApart r on line (neg t) j q
  negation_apart t j p q h n a e s = record {
    next = n ∙ h.next;
    active = a ∙ h.active;
    term = e ∙ ap neg h.term;
    share = λ k.
        let c = back_where on t (suc k) j line in
        s k ∙ scaled_named r line k p.active (is_active_where on t) (neg (var (r (helper work k)))) (neg (work_var k)) p.share.value c h.active (λ f. refl) (h.share (suc k))
        ∙ ap (rename r) (asked_twice (is_active_where on t) (step line (assign (helper work (suc k)) none (neg (work_var k))) c));
  }

  pub same_apart : (t : Term) (j : ℕ) (p q : Parts) → IsApart r on line t j p → q.next ≡ p.next → q.active ≡ p.active → term_of q.term.value ≡ pow (term_of p.term.value) 1 → ((k : ℕ) → share_code r line q.share.value k ≡ share_code r line p.share.value k) → IsApart r on line (pow t 1) j q
  same_apart t j p q h n a e s = record {
    next = n ∙ h.next;
    active = a ∙ h.active;
    term = e ∙ ap (λ z. pow z 1) h.term;
    share = λ k. s k ∙ h.share k ∙ ap (rename r) (asked_twice (is_active_where on t) (back_where on t k j line));
  }

  pub sum_apart : (a b : Term) (j : ℕ) (p q s : Parts) → IsApart r on line a j p → IsApart r on line b p.next q → s.next ≡ q.next → s.active ≡ (p.active || q.active) → term_of s.term.value ≡ bin plus (term_of p.term.value) (term_of q.term.value) → ((k : ℕ) → share_code r line s.share.value k ≡ share_code r line p.share.value k +++ share_code r line q.share.value k) → IsApart r on line (bin plus a b) j s
  sum_apart a b j p q s h g n act e sh =
      let m = j + temps_in_where on a in
      let f : IsApart r on line b m q = subst (λ i. IsApart r on line b i q) h.next g in
      record {
        next = n ∙ (let u = f.next in omega arith);
        active = act ∙ (λ i. h.active i || f.active i);
        term = e ∙ (λ i. bin plus (h.term i) (f.term i));
        share = λ k. sh k ∙ both_named r (is_active_where on a) (is_active_where on b) (back_where on a k j line) (back_where on b k m line) (share_code r line p.share.value k) (share_code r line q.share.value k) (h.share k) (f.share k);
      }

  pub difference_apart : (a b : Term) (j : ℕ) (p q s : Parts) → IsApart r on line a j p → IsApart r on line b p.next q → s.next ≡ q.next → s.active ≡ (p.active || q.active) → term_of s.term.value ≡ bin minus (term_of p.term.value) (term_of q.term.value) → ((k : ℕ) → share_code r line s.share.value k ≡ share_code r line p.share.value k +++ scaled_code r line q.active (neg (var (r (helper work k)))) q.share.value k) → IsApart r on line (bin minus a b) j s
  difference_apart a b j p q s h g n act e sh =
      let m = j + temps_in_where on a in
      let f : IsApart r on line b m q = subst (λ i. IsApart r on line b i q) h.next g in
      record {
        next = n ∙ (let u = f.next in omega arith);
        active = act ∙ (λ i. h.active i || f.active i);
        term = e ∙ (λ i. bin minus (h.term i) (f.term i));
        share = λ k.
            let w = neg (var (r (helper work k))) in
            let c = back_where on b (suc k) m line in
            sh k ∙ both_named r (is_active_where on a) (is_active_where on b) (back_where on a k j line) (step line (assign (helper work (suc k)) none (neg (work_var k))) c) (share_code r line p.share.value k) (scaled_code r line q.active w q.share.value k) (h.share k)
            (scaled_named r line k q.active (is_active_where on b) w (neg (work_var k)) q.share.value c f.active (λ x. refl) (f.share (suc k)));
      }

  -- v stands for the left operand of a product, w for the right one
  pub product_apart : (a b : Term) (j : ℕ) (oa ob : Bool) (p v q w s : Parts) → IsApart r on line a j p → IsApart r on line b v.next q → oa ≡ has_own_where on a b → ob ≡ has_own_where on b a → v.next ≡ p.next + count_of oa → w.next ≡ q.next + count_of ob → term_of v.term.value ≡ rename_term r (own_or oa p.next (shrunk_where on a j)) → term_of w.term.value ≡ rename_term r (own_or ob q.next (shrunk_where on b v.next)) → s.next ≡ w.next → s.active ≡ (p.active || q.active) → term_of s.term.value ≡ bin times (term_of v.term.value) (term_of w.term.value) → ((k : ℕ) → share_code r line s.share.value k ≡ scaled_code r line p.active (bin times (var (r (helper work k))) (term_of w.term.value)) p.share.value k +++ scaled_code r line q.active (bin times (var (r (helper work k))) (term_of v.term.value)) q.share.value k) → IsApart r on line (bin times a b) j s
  product_apart a b j oa ob p v q w s h g ea eb nv nw tv tw n act e sh =
      let ja = j + temps_in_where on a in
      let m = ja + count_of (has_own_where on a b) in
      let jb = m + temps_in_where on b in
      let at : v.next ≡ m = nv ∙ (λ i. h.next i + count_of (ea i)) in
      let f : IsApart r on line b m q = subst (λ i. IsApart r on line b i q) at g in
      let left : term_of v.term.value ≡ rename_term r (own_or (has_own_where on a b) ja (shrunk_where on a j)) = tv ∙ (λ i. rename_term r (own_or (ea i) (h.next i) (shrunk_where on a j))) in
      let right : term_of w.term.value ≡ rename_term r (own_or (has_own_where on b a) jb (shrunk_where on b m)) = tw ∙ (λ i. rename_term r (own_or (eb i) (f.next i) (shrunk_where on b (at i)))) in
      record {
        next = n ∙ nw ∙ (λ i. f.next i + count_of (eb i)) ∙ omega arith;
        active = act ∙ (λ i. h.active i || f.active i);
        term = e ∙ (λ i. bin times (left i) (right i));
        share = λ k.
            let own_a = own_or (has_own_where on a b) ja a in
            let own_b = own_or (has_own_where on b a) jb b in
            let c = back_where on a (suc k) j line in
            let d = back_where on b (suc k) m line in
            let x = bin times (var (r (helper work k))) (term_of w.term.value) in
            let y = bin times (var (r (helper work k))) (term_of v.term.value) in
            sh k
            ∙ both_named r (is_active_where on a) (is_active_where on b) (step line (assign (helper work (suc k)) none (bin times (work_var k) own_b)) c) (step line (assign (helper work (suc k)) none (bin times (work_var k) own_a)) d) (scaled_code r line p.active x p.share.value k) (scaled_code r line q.active y q.share.value k)
            (scaled_named r line k p.active (is_active_where on a) x (bin times (work_var k) own_b) p.share.value c h.active (λ t. ap (bin times (var (r (helper work k)))) (right ∙ ap (rename_term r) (value_whole on a b jb m t))) (h.share (suc k)))
            (scaled_named r line k q.active (is_active_where on b) y (bin times (work_var k) own_a) q.share.value d f.active (λ t. ap (bin times (var (r (helper work k)))) (left ∙ ap (rename_term r) (value_whole on b a ja j t))) (f.share (suc k)));
      }

  -- v stands for the base of a power
  pub power_apart : (a : Term) (j n : ℕ) (o : Bool) (p v s : Parts) → IsApart r on line a j p → o ≡ has_own_where on a a → v.next ≡ p.next + count_of o → term_of v.term.value ≡ rename_term r (own_or o p.next (shrunk_where on a j)) → s.next ≡ v.next → s.active ≡ p.active → term_of s.term.value ≡ pow (term_of v.term.value) (suc (suc n)) → ((k : ℕ) → share_code r line s.share.value k ≡ scaled_code r line p.active (bin times (bin times (var (r (helper work k))) (lit (pos (suc (suc n))))) (pow (term_of v.term.value) (suc n))) p.share.value k) → IsApart r on line (pow a (suc (suc n))) j s
  power_apart a j n o p v s h ea nv tv ns act e sh =
      let ja = j + temps_in_where on a in
      let base : term_of v.term.value ≡ rename_term r (own_or (has_own_where on a a) ja (shrunk_where on a j)) = tv ∙ (λ i. rename_term r (own_or (ea i) (h.next i) (shrunk_where on a j))) in
      record {
        next = ns ∙ nv ∙ (λ i. h.next i + count_of (ea i)) ∙ omega arith;
        active = act ∙ h.active;
        term = e ∙ ap (λ z. pow z (suc (suc n))) base;
        share = λ k.
            let own = own_or (has_own_where on a a) ja a in
            let w = bin times (var (r (helper work k))) (lit (pos (suc (suc n)))) in
            let f = bin times (bin times (work_var k) (lit (pos (suc (suc n))))) (pow own (suc n)) in
            let c = back_where on a (suc k) j line in
            sh k
            ∙ scaled_named r line k p.active (is_active_where on a) (bin times w (pow (term_of v.term.value) (suc n))) f p.share.value c h.active (λ t. ap (λ z. bin times w (pow z (suc n))) (base ∙ ap (rename_term r) (value_whole on a a ja j t))) (h.share (suc k))
            ∙ ap (rename r) (asked_twice (is_active_where on a) (step line (assign (helper work (suc k)) none f) c));
      }

  -- v stands for the base, w for the exponent
  pub variable_power_apart : (a b : Term) (j : ℕ) (oa ob : Bool) (p v w s : Parts) → IsApart r on line a j p → oa ≡ has_own_where on a a → ob ≡ has_own_where on b a → v.next ≡ p.next + count_of oa → w.next ≡ v.next + count_of ob → term_of v.term.value ≡ rename_term r (own_or oa p.next (shrunk_where on a j)) → term_of w.term.value ≡ rename_term r (own_or ob v.next b) → s.next ≡ w.next → s.active ≡ p.active → term_of s.term.value ≡ power_of (term_of v.term.value) (term_of w.term.value) → ((k : ℕ) → share_code r line s.share.value k ≡ scaled_code r line p.active (bin times (bin times (var (r (helper work k))) (term_of w.term.value)) (guarded_power (term_of v.term.value) (term_of w.term.value))) p.share.value k) → IsApart r on line (power_of a b) j s
  variable_power_apart a b j oa ob p v w s h ea eb nv nw tv tw ns act e sh =
      let ja = j + temps_in_where on a in
      let jb = ja + count_of (has_own_where on a a) in
      let at : v.next ≡ jb = nv ∙ (λ i. h.next i + count_of (ea i)) in
      let base : term_of v.term.value ≡ rename_term r (own_or (has_own_where on a a) ja (shrunk_where on a j)) = tv ∙ (λ i. rename_term r (own_or (ea i) (h.next i) (shrunk_where on a j))) in
      let exponent : term_of w.term.value ≡ rename_term r (own_or (has_own_where on b a) jb b) = tw ∙ (λ i. rename_term r (own_or (eb i) (at i) b)) in
      record {
        next = ns ∙ nw ∙ (λ i. at i + count_of (eb i)) ∙ omega arith;
        active = act ∙ h.active;
        term = e ∙ (λ i. power_of (base i) (exponent i));
        share = λ k.
            let own_a = own_or (has_own_where on a a) ja a in
            let own_b = own_or (has_own_where on b a) jb b in
            let value : Term → Term → Term = λ x y. bin times (bin times (var (r (helper work k))) y) (guarded_power x y) in
            let f = times_power (work_var k) own_a own_b in
            let c = back_where on a (suc k) j line in
            sh k
            ∙ scaled_named r line k p.active (is_active_where on a) (value (term_of v.term.value) (term_of w.term.value)) f p.share.value c h.active (λ t. (λ i. value ((base ∙ ap (rename_term r) (value_whole on a a ja j t)) i) (exponent i))) (h.share (suc k))
            ∙ ap (rename r) (asked_twice (is_active_where on a) (step line (assign (helper work (suc k)) none f) c));
      }
