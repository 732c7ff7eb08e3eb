-- The canonical text doesn't depend on line numbers.
use Rattle.std.proofs.Common.{◌≡◌, List, [], ◌∷◌, refl, sym, ap, ◌∙◌}
use Rattle.std.specs.Prelude.{codes, map, ◌++◌}
use Rattle.std.specs.List.{flat_map}
use Rattle.adj_tree.specs.Code.{Act, Code, assign, choose, loop, during, call, runtime, stop, step, Declaration, Procedure}
use Rattle.adj_tree.specs.Lines.{unlined_act, unlined_code, unlined_declaration, unlined_procedure, unlined}
use Rattle.def_text.specs.Char.{comma, equals}
use Rattle.def_text.specs.Text.{statement, bracketed, var_text, term_text, test_text, directive, step_text, act_text, code_text, else_text, declaration_text, implicit_text, procedure_text, text_of}

mutual
  act_text_unlined : (a : Act) → act_text (unlined_act a) ≡ act_text a
  act_text_unlined (assign x s e) = refl
  act_text_unlined (choose c a b) = λ i. statement (codes "IF (" ++ test_text c ++ codes ") THEN") ++ code_text_unlined a i ++ else_text_unlined b i ++ statement (codes "END IF")
  act_text_unlined (loop x a b c body n) = λ i. directive n ++ statement (codes "DO " ++ var_text x ++ equals ∷ term_text a ++ comma ∷ term_text b ++ step_text c) ++ code_text_unlined body i ++ statement (codes "END DO")
  act_text_unlined (during c body) = λ i. statement (codes "DO WHILE (" ++ test_text c ++ codes ")") ++ code_text_unlined body i ++ statement (codes "END DO")
  act_text_unlined (call x es) = refl
  act_text_unlined (runtime r) = refl

  code_text_unlined : (c : Code) → code_text (unlined_code c) ≡ code_text c
  code_text_unlined stop = refl
  code_text_unlined (step line a rest) = λ i. act_text_unlined a i ++ code_text_unlined rest i

  else_text_unlined : (c : Code) → else_text (unlined_code c) ≡ else_text c
  else_text_unlined stop = refl
  else_text_unlined (step line a rest) = λ i. statement (codes "ELSE") ++ act_text_unlined a i ++ code_text_unlined rest i

declarations_text_unlined : (ds : List Declaration) → flat_map declaration_text (map unlined_declaration ds) ≡ flat_map declaration_text ds
declarations_text_unlined [] = refl
declarations_text_unlined (d ∷ ds) = ap (λ z. declaration_text d ++ z) (declarations_text_unlined ds)

procedure_text_unlined : (p : Procedure) → procedure_text (unlined_procedure p) ≡ procedure_text p
procedure_text_unlined p = λ i. statement (codes "SUBROUTINE " ++ p.name ++ bracketed p.dummies) ++ implicit_text p.is_none ++ declarations_text_unlined p.declarations i ++ code_text_unlined p.body i ++ statement (codes "END")

text_unlined : (ps : List Procedure) → text_of (unlined ps) ≡ text_of ps
text_unlined [] = refl
text_unlined (p ∷ ps) = λ i. procedure_text_unlined p i ++ text_unlined ps i

-- so programs that are the same up to line numbers have one text
pub one_text : (ps qs : List Procedure) → unlined ps ≡ unlined qs → text_of ps ≡ text_of qs
one_text ps qs same = sym (text_unlined ps) ∙ ap text_of same ∙ text_unlined qs
