-- The adjoint of an assignment, from its parts.
use Rattle.std.proofs.Common.{◌≡◌, ℕ, true, false, List, refl, sym, ap, ◌∙◌}
use Rattle.std.specs.Prelude.{pos}
use Rattle.adj_tree.specs.Code.{Var, shadow, helper, work, Term, Terms, lit, none, assign, Code, step}
use Rattle.def_meaning.specs.Append.{◌+++◌, one}
use Rattle.def_meaning.specs.Rename.{rename, rename_term, rename_terms}
use Rattle.def_names.specs.Numbers.{Vars}
use Rattle.def_sweep.specs.Marked.{code_if, place}
use Rattle.def_sweep.specs.Occurrences.{is_active_where}
use Rattle.def_sweep.specs.AdjointOf.{temps_where, back_where, adjoint_where}
use Rattle.adj_sweep_assignment.proofs.Onto.{joined}

-- where the right side isn't active, the shadow of the target becomes 0 and that is all
pub adjoint_passive : (r : Var → Var) (on : Vars) (t : List ℕ) (subs : Terms) (e : Term) (line : ℕ) (rest : Code) → is_active_where on e ≡ false → step line (assign (r (shadow t)) (rename_terms r subs) (lit (pos 0))) rest ≡ rename r (adjoint_where on t subs e line) +++ rest
adjoint_passive r on t subs e line rest h =
    let first = temps_where on e 1 line +++ one line (assign (helper work 1) none (place (shadow t) subs)) in
    let cleared = one line (assign (shadow t) subs (lit (pos 0))) in
    ap (λ b. rename r (code_if b first +++ (cleared +++ code_if b (back_where on e 1 1 line))) +++ rest) (sym h)

-- else the temporaries come first, and what the right side adds comes last
pub adjoint_active : (r : Var → Var) (on : Vars) (t : List ℕ) (subs : Terms) (e : Term) (line : ℕ) (x grown rest : Code) → is_active_where on e ≡ true → grown ≡ rename r (code_if (is_active_where on e) (back_where on e 1 1 line)) → x ≡ rename r (temps_where on e 1 line) +++ step line (assign (r (helper work 1)) none (rename_term r (place (shadow t) subs))) (step line (assign (r (shadow t)) (rename_terms r subs) (lit (pos 0))) (grown +++ rest)) → x ≡ rename r (adjoint_where on t subs e line) +++ rest
adjoint_active r on t subs e line x grown rest h g p =
    let first = temps_where on e 1 line in
    let taken = one line (assign (helper work 1) none (place (shadow t) subs)) in
    let cleared = one line (assign (shadow t) subs (lit (pos 0))) in
    let added = code_if (is_active_where on e) (back_where on e 1 1 line) in
    let behind = rename r (cleared +++ added) +++ rest in
    let q : x ≡ rename r first +++ (rename r taken +++ behind) = p ∙ ap (λ z. rename r first +++ step line (assign (r (helper work 1)) none (rename_term r (place (shadow t) subs))) (step line (assign (r (shadow t)) (rename_terms r subs) (lit (pos 0))) (z +++ rest))) g in
    joined r (first +++ taken) (cleared +++ added) x behind rest (joined r first taken x (rename r taken +++ behind) behind q refl) refl
    ∙ ap (λ b. rename r (code_if b (first +++ taken) +++ (cleared +++ added)) +++ rest) (sym h)
