-- Lists that are written from their ends.
use Rattle.std.proofs.Common.{◌≡◌, ℕ, refl, sym, ap, ◌∙◌}
use Rattle.adj_tree.specs.Code as code
use Rattle.adj_tree.specs.Code.{Var, Code, stop, step}
use Rattle.adj_tree.specs.Listed.{code_turned}
use Rattle.adj_tree.specs.View.{act_of}
use Rattle.adj_tree.specs.declared.stmt.Stmt.{Stmt}
use Rattle.def_meaning.specs.Append.{◌+++◌, one}
use Rattle.def_meaning.specs.Rename.{rename}
use Rattle.def_meaning.proofs.Appends.{append_assoc}
use Rattle.def_meaning.proofs.RenamedLists.{rename-append}
use Rattle.adj_sweep.specs.Swept.{in_order}

-- a list that is turned onto others comes before them
pub turned_before : (t x : Code) → code_turned t x ≡ in_order t +++ x
turned_before stop x = refl
turned_before (step line a t) x =
    turned_before t (step line a x) ∙ sym (append_assoc (in_order t) (one line a) x) ∙ ap (λ z. z +++ x) (sym (turned_before t (one line a)))

-- one renamed list after another, before the rest
pub joined : (r : Var → Var) (a b x y rest : Code) → x ≡ rename r a +++ y → y ≡ rename r b +++ rest → x ≡ rename r (a +++ b) +++ rest
joined r a b x y rest p q = p ∙ ap (λ z. rename r a +++ z) q ∙ sym (append_assoc (rename r a) (rename r b) rest) ∙ ap (λ z. z +++ rest) (sym (rename-append r a b))

-- one renamed list behind others, and another behind that
pub both_behind : (r : Var → Var) (a b x y z : Code) → y ≡ x +++ rename r a → z ≡ y +++ rename r b → z ≡ x +++ rename r (a +++ b)
both_behind r a b x y z p q = q ∙ ap (λ w. w +++ rename r b) p ∙ append_assoc x (rename r a) (rename r b) ∙ ap (λ w. x +++ w) (sym (rename-append r a b))

-- a statement that is written behind what is turned round
pub written_behind : (t longer : Code) (s : Stmt) (line : ℕ) (a : code.Act) → longer ≡ step s.line (act_of s.act) t → s.line ≡ line → act_of s.act ≡ a → in_order longer ≡ in_order t +++ one line a
written_behind t longer s line a h hl ha = ap in_order (h ∙ (λ i. step (hl i) (ha i) t)) ∙ turned_before t (one line a)

-- the same, where what it does is known by an equation
pub put_behind : (t longer : Code) (line : ℕ) (a b : code.Act) → longer ≡ step line a t → a ≡ b → in_order longer ≡ in_order t +++ one line b
put_behind t longer line a b h e = ap in_order (h ∙ ap (λ z. step line z t) e) ∙ turned_before t (one line b)
