-- Linked lists that are built from their ends.
use Rattle.std.proofs.Common.{◌≡◌, ℕ, List, [], ◌∷◌, ◌++◌, map, refl, ap, ◌∙◌}
use Rattle.std.proofs.lemmas.List.{map_push}
use Rattle.adj_tree.specs.Code as code
use Rattle.adj_tree.specs.Code.{Term, Terms, Code, more, step}
use Rattle.adj_tree.specs.View.{term_of}
use Rattle.adj_tree.specs.Listed.{terms_onto, code_onto, statement_of}
use Rattle.adj_tree.specs.declared.expr.Expr.{Expr}
use Rattle.adj_tree.specs.declared.stmt.Stmt.{Stmt}

-- the last of some expressions comes directly before the others
terms_last : (es : List Term) (e : Term) (others : Terms) → terms_onto (es ++ e ∷ []) others ≡ terms_onto es (more e others)
terms_last [] e others = refl
terms_last (f ∷ es) e others = ap (more f) (terms_last es e others)

-- the same, of a vector from which the last was taken
pub terms_onto_push : (items rest : List Expr) (e : Expr) (others : Terms) → items ≡ rest ++ e ∷ [] → terms_onto (map term_of items) others ≡ terms_onto (map term_of rest) (more (term_of e) others)
terms_onto_push items rest e others h = ap (λ es. terms_onto (map term_of es) others) h ∙ ap (λ ts. terms_onto ts others) (map_push term_of rest e) ∙ terms_last (map term_of rest) (term_of e) others

-- the last of some statements comes directly before the others
code_last : (ss : List (ℕ × code.Act)) (s : ℕ × code.Act) (others : Code) → code_onto (ss ++ s ∷ []) others ≡ code_onto ss (step s.0 s.1 others)
code_last [] s others = refl
code_last (t ∷ ss) s others = ap (step t.0 t.1) (code_last ss s others)

-- the same, of a vector from which the last was taken
pub code_onto_push : (items rest : List Stmt) (s : Stmt) (others : Code) → items ≡ rest ++ s ∷ [] → code_onto (map statement_of items) others ≡ code_onto (map statement_of rest) (step (statement_of s).0 (statement_of s).1 others)
code_onto_push items rest s others h = ap (λ ss. code_onto (map statement_of ss) others) h ∙ ap (λ ss. code_onto ss others) (map_push statement_of rest s) ∙ code_last (map statement_of rest) (statement_of s) others
