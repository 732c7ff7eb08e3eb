-- Shares of operands, beside what the adjoint of a term adds.
use Rattle.std.proofs.Common.{◌≡◌, ℕ, suc, Bool, true, false, refl, sym, ap, ◌∙◌}
use Rattle.std.specs.Prelude.{◌||◌}
use Rattle.adj_tree.specs.Code.{Var, helper, work, Term, none, assign, Code, step}
use Rattle.def_meaning.specs.Append.{◌+++◌}
use Rattle.def_meaning.specs.Rename.{rename, rename_term}
use Rattle.def_meaning.proofs.RenamedLists.{rename-append}
use Rattle.def_sweep.specs.Marked.{code_if}
use Rattle.adj_sweep_assignment.specs.declared.share.Share.{Share}
use Rattle.adj_sweep_assignment.specs.Shares.{share_code, scaled_code}

-- the code where b holds, asked twice
pub asked_twice : (b : Bool) (c : Code) → code_if b c ≡ code_if b (code_if b c)
asked_twice true c = refl
asked_twice false c = refl

-- what is added by an operand, behind a work variable that becomes a value; the value counts only where the operand is active
pub scaled_named : (r : Var → Var) (line k : ℕ) (b active : Bool) (v f : Term) (s : Share) (c : Code) → b ≡ active → ((active ≡ true) → v ≡ rename_term r f) → share_code r line s (suc k) ≡ rename r (code_if active c) → scaled_code r line b v s k ≡ rename r (code_if active (step line (assign (helper work (suc k)) none f) c))
scaled_named r line k b true v f s c e h p = ap (λ z. scaled_code r line z v s k) e ∙ (λ i. step line (assign (r (helper work (suc k))) none (h refl i)) (p i))
scaled_named r line k b false v f s c e h p = ap (λ z. scaled_code r line z v s k) e

-- the shares of two operands, of which each counts where it is active
pub both_named : (r : Var → Var) (p q : Bool) (c d x y : Code) → x ≡ rename r (code_if p c) → y ≡ rename r (code_if q d) → x +++ y ≡ rename r (code_if (p || q) (code_if p c +++ code_if q d))
both_named r p q c d x y e f = (λ i. e i +++ f i) ∙ go p q
  where
    go : (p q : Bool) → rename r (code_if p c) +++ rename r (code_if q d) ≡ rename r (code_if (p || q) (code_if p c +++ code_if q d))
    go true q = sym (rename-append r c (code_if q d))
    go false true = refl
    go false false = refl
