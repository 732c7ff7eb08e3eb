-- Statements that are written behind others.
use Rattle.std.proofs.Common.{◌≡◌, ℕ, Bool, true, List, [], ◌∷◌, ◌++◌, sym, ap, ◌∙◌}
use Rattle.adj_tree.specs.Code as code
use Rattle.adj_tree.specs.Code.{Var, helper, temp, Term, none, assign, Code, step}
use Rattle.adj_tree.specs.View.{act_of}
use Rattle.adj_tree.specs.declared.stmt.Stmt.{Stmt}
use Rattle.adj_tree.proofs.Onto.{code_onto_push}
use Rattle.adj_tree.specs.Listed.{steps_onto}
use Rattle.def_meaning.specs.Append.{◌+++◌}
use Rattle.def_meaning.specs.Rename.{rename, rename_term}
use Rattle.def_meaning.proofs.Appends.{append_assoc}
use Rattle.def_meaning.proofs.RenamedLists.{rename-append}
use Rattle.def_sweep.specs.Marked.{own_code}

-- the statement that was pushed comes directly before the others
pub steps_pushed : (steps longer : List Stmt) (s : Stmt) (line : ℕ) (a : code.Act) (rest : Code) → longer ≡ steps ++ s ∷ [] → s.line ≡ line → act_of s.act ≡ a → steps_onto longer rest ≡ steps_onto steps (step line a rest)
steps_pushed steps longer s line a rest h hl ha = code_onto_push longer steps s rest h ∙ (λ i. steps_onto steps (step (hl i) (ha i) rest))

-- the temporary of an operand that has one is assigned
pub own_pushed : (r : Var → Var) (own : Bool) (line j : ℕ) (t : Term) (steps longer : List Stmt) (s : Stmt) (rest : Code) → own ≡ true → longer ≡ steps ++ s ∷ [] → s.line ≡ line → act_of s.act ≡ assign (r (helper temp j)) none (rename_term r t) → steps_onto longer rest ≡ steps_onto steps (rename r (own_code own line j t) +++ rest)
own_pushed r own line j t steps longer s rest e h hl ha =
    steps_pushed steps longer s line (assign (r (helper temp j)) none (rename_term r t)) rest h hl ha ∙ ap (λ b. steps_onto steps (rename r (own_code b line j t) +++ rest)) (sym e)

-- one renamed list after another
pub joined : (r : Var → Var) (a b : Code) (x y rest : Code) → x ≡ rename r a +++ y → y ≡ rename r b +++ rest → x ≡ rename r (a +++ b) +++ rest
joined r a b x y rest p q =
    p ∙ ap (λ z. rename r a +++ z) q ∙ sym (append_assoc (rename r a) (rename r b) rest) ∙ ap (λ z. z +++ rest) (sym (rename-append r a b))
