-- Statements that are written behind others.
use Rattle.std.proofs.Common.{◌≡◌, List, [], ◌∷◌, ◌++◌, refl, sym, ap, ◌∙◌}
use Rattle.adj_tree.specs.Code.{Code, stop, step}
use Rattle.adj_tree.specs.View.{act_of}
use Rattle.adj_tree.specs.declared.stmt.Stmt.{Stmt}
use Rattle.adj_tree.proofs.Onto.{code_onto_push}
use Rattle.adj_tree.specs.Listed.{steps_onto}
use Rattle.def_meaning.specs.Append.{◌+++◌, one}
use Rattle.def_meaning.proofs.Appends.{append_assoc, append-stop}
use Rattle.adj_norm_statement.specs.Steps.{Writes, Leaves}

-- nothing is written
pub writes_none : (s : List Stmt) → Writes s s stop
writes_none s rest = refl

-- the statement that was pushed is written
pub writes_pushed : (before after : List Stmt) (s : Stmt) → after ≡ before ++ s ∷ [] → Writes before after (one s.line (act_of s.act))
writes_pushed before after s h rest = code_onto_push after before s rest h

-- one list and then another
pub writes_both : (s0 s1 s2 : List Stmt) (a b : Code) → Writes s0 s1 a → Writes s1 s2 b → Writes s0 s2 (a +++ b)
writes_both s0 s1 s2 a b f g rest = g rest ∙ f (b +++ rest) ∙ ap (steps_onto s0) (sym (append_assoc a b rest))

-- one more list is written
pub leaves_less : (s0 s1 s2 : List Stmt) (all left a others : Code) → Leaves s0 all s1 left → Writes s1 s2 a → left ≡ a +++ others → Leaves s0 all s2 others
leaves_less s0 s1 s2 all left a others f g e rest =
    g (others +++ rest) ∙ ap (steps_onto s1) (sym (append_assoc a others rest) ∙ ap (λ z. z +++ rest) (sym e)) ∙ f rest

-- an equal list is written
pub writes_same : (s0 s1 : List Stmt) (a b : Code) → Writes s0 s1 a → a ≡ b → Writes s0 s1 b
writes_same s0 s1 a b f e rest = f rest ∙ ap (λ z. steps_onto s0 (z +++ rest)) e

-- one list of statements and then another, before others
steps_append : (s t : List Stmt) (rest : Code) → steps_onto (s ++ t) rest ≡ steps_onto s (steps_onto t rest)
steps_append [] t rest = refl
steps_append (x ∷ s) t rest = ap (step x.line (act_of x.act)) (steps_append s t rest)

-- what is written apart is appended
pub writes_appended : (s0 s1 t : List Stmt) (a : Code) → s1 ≡ s0 ++ t → Writes [] t a → Writes s0 s1 a
writes_appended s0 s1 t a h f rest = ap (λ s. steps_onto s rest) h ∙ steps_append s0 t rest ∙ ap (steps_onto s0) (f rest)

-- where nothing is left, all are written
pub leaves_all : (s : List Stmt) (all left : Code) → Leaves [] all s left → left ≡ stop → steps_onto s stop ≡ all
leaves_all s all left f e = ap (λ z. steps_onto s (z +++ stop)) (sym e) ∙ f stop ∙ append-stop all
