-- The parts of an element, which has subscripts.
use Rattle.std.proofs.Common.{◌≡◌, ℕ, true, false, List, sym, ap, ◌∙◌, arith}
use Rattle.adj_tree.specs.Code.{Var, plain, shadow, helper, work, plus, elem, var, bin, assign}
use Rattle.adj_tree.specs.View.{term_of, terms_of}
use Rattle.adj_tree.specs.declared.expr.Exprs.{Exprs}
use Rattle.def_meaning.specs.Append.{one}
use Rattle.def_meaning.specs.Rename.{rename}
use Rattle.def_names.specs.Numbers.{Vars}
use Rattle.def_sweep.specs.Marked.{code_if}
use Rattle.def_sweep.specs.AdjointOf.{back_where}
use Rattle.adj_sweep_assignment.specs.declared.parts.Parts.{Parts}
use Rattle.adj_sweep_assignment.specs.declared.share.Share.TheVariants.{Nothing, Element}
use Rattle.adj_sweep_assignment.specs.Shares.{share_code}
use Rattle.adj_sweep_assignment.specs.Apart.{IsApart}
use Rattle.adj_sweep_assignment.proofs.Plain.{IsPlain, terms_kept}

module _ (r : Var → Var) (plainly : IsPlain r) (on : Vars) (line : ℕ) (x : List ℕ) (subs : Exprs) (j : ℕ) (p : Parts) where
  -- one that isn't active
  pub element_passive : on (plain x) ≡ false → p.next ≡ j → p.active ≡ false → term_of p.term.value ≡ elem (plain x) (terms_of subs) → p.share.value ≡ Nothing → IsApart r on line (elem (plain x) (terms_of subs)) j p
  element_passive o n a e s = record {
    next = n ∙ omega arith;
    active = a ∙ sym o;
    term = e ∙ sym (λ i. elem (plainly x i) (terms_kept r plainly subs i));
    share = λ k. ap (λ z. share_code r line z k) s ∙ ap (λ b. rename r (code_if b (back_where on (elem (plain x) (terms_of subs)) k j line))) (sym o);
  }

  -- one that is
  pub element_active : (s : List ℕ) (places : Exprs) → on (plain x) ≡ true → p.next ≡ j → p.active ≡ true → term_of p.term.value ≡ elem (plain x) (terms_of subs) → p.share.value ≡ Element s places → plain s ≡ r (shadow x) → terms_of places ≡ terms_of subs → IsApart r on line (elem (plain x) (terms_of subs)) j p
  element_active s places o n a e h named same = record {
    next = n ∙ omega arith;
    active = a ∙ sym o;
    term = e ∙ sym (λ i. elem (plainly x i) (terms_kept r plainly subs i));
    share = λ k.
        let at = same ∙ sym (terms_kept r plainly subs) in
        ap (λ z. share_code r line z k) h
        ∙ (λ i. one line (assign (named i) (at i) (bin plus (elem (named i) (at i)) (var (r (helper work k))))))
        ∙ ap (λ b. rename r (code_if b (back_where on (elem (plain x) (terms_of subs)) k j line))) (sym o);
  }
