-- WrittenBack: the text of a written program reads as it.
use Rattle.std.proofs.Common.{◌≡◌, ℕ, suc, List, [], ◌∷◌, Result, Ok, sym, ap, ◌∙◌, arith}
use Rattle.std.specs.List.{All}
use Rattle.adj_tree.specs.Code.{Act, Code, assign, choose, loop, during, call, runtime, stop, step, Declaration, Procedure}
use Rattle.adj_tree.specs.declared.fault.Refusal.{Refusal}
use Rattle.def_text.specs.Reads.{ReadsSplits}
use Rattle.def_text.specs.ReadsAs.{ReadsAs}
use Rattle.def_text.specs.Splits.{split_lines}
use Rattle.def_text.specs.Text.{text_of}
use Rattle.def_text.specs.declared.stated.Stated.{Stated}
use Rattle.def_text.specs.Written.{IsName, IsWrittenAct, IsWrittenCode, IsWrittenDeclaration, IsWrittenProcedure, IsWritten}
use Rattle.def_text.proofs.BranchSays.{says_if}
use Rattle.def_text.proofs.Called.{each_extent}
use Rattle.def_text.proofs.Cut.{text_forms}
use Rattle.def_text.proofs.Plain.{AreNames}
use Rattle.def_text.proofs.ReadsBack.{SaidAct, SaidCode, SaidDeclarations, SaidProcedure, SaidProgram, reads_back, splits_back}
use Rattle.def_text.proofs.Repeated.{says_while}
use Rattle.def_text.proofs.TermSpaced.{is_name-name}
use Rattle.def_text.proofs.WrittenSays.{says_assign, says_call, says_runtime, says_declaration, says_heading, says_do}

-- the first of what holds of each, and the rest
pub all_first : {X : Type 0} (P : X → Type 0) (x : X) (xs : List X) → All P (x ∷ xs) → P x
all_first P x xs h = h 0 x (omega arith)

pub all_rest : {X : Type 0} (P : X → Type 0) (x : X) (xs : List X) → All P (x ∷ xs) → All P xs
all_rest P x xs h k d lt = h (suc k) d (omega arith)

names : (xs : List (List ℕ)) → All IsName xs → AreNames xs
names [] h = tt
names (x ∷ xs) h = (is_name-name x (all_first IsName x xs h), names xs (all_rest IsName x xs h))

-- statements say themselves
mutual
  says_act : (a : Act) → IsWrittenAct a → SaidAct a
  says_act (assign x s e) h = says_assign x s e h.0 h.1
  says_act (choose c a b) h = (says_if c h.0, says_code a h.1, says_code b h.2)
  says_act (loop x a b c body n) h = (h.5, says_do n x a b c h.0 h.1 h.2 h.3, says_code body h.4)
  says_act (during c body) h = (says_while c h.0, says_code body h.1)
  says_act (call x es) h = says_call x es h.0 h.1 h.2
  says_act (runtime r) h = says_runtime r h

  says_code : (k : Code) → IsWrittenCode k → SaidCode k
  says_code stop h = tt
  says_code (step n a k) h = (says_act a h.0, says_code k h.1)

says_declarations : (ds : List Declaration) → All IsWrittenDeclaration ds → SaidDeclarations ds
says_declarations [] h = tt
says_declarations (d ∷ ds) h =
    let first = all_first IsWrittenDeclaration d ds h in
    (says_declaration d first.named first.few_extents (each_extent d.extents first.extents), says_declarations ds (all_rest IsWrittenDeclaration d ds h))

says_unit : (p : Procedure) → IsWrittenProcedure p → SaidProcedure p
says_unit p h = record { heading = says_heading p.name p.dummies h.named (names p.dummies h.dummies); declarations = says_declarations p.declarations h.declarations; body = says_code p.body h.body }

says_program : (ps : List Procedure) → IsWritten ps → SaidProgram ps
says_program [] h = tt
says_program (p ∷ ps) h = (says_unit p (all_first IsWrittenProcedure p ps h), says_program ps (all_rest IsWrittenProcedure p ps h))

pub written_reads_back : (ps : List Procedure) → IsWritten ps → ReadsAs (text_of ps) ps
written_reads_back ps h = reads_back ps (says_program ps h)

-- no call of it is split
pub written_splits_back : (ps : List Procedure) → IsWritten ps → ReadsSplits (text_of ps) []
written_splits_back ps h = splits_back ps (says_program ps h)

same_statements : (xs ys : List Stated) → ◌≡◌ {A = Result (List Stated) Refusal} (Ok xs) (Ok ys) → xs ≡ ys
same_statements xs ys h = cc

-- the calls of a text that are split stand on one list of lines
pub one_splitting : (bytes lines others : List ℕ) → ReadsSplits bytes lines → ReadsSplits bytes others → lines ≡ others
one_splitting bytes lines others h g =
    let same = same_statements h.stated g.stated (sym (text_forms bytes h.stated h.lines_form) ∙ text_forms bytes g.stated g.lines_form) in
    h.marked ∙ (ap split_lines same ∙ sym g.marked)
