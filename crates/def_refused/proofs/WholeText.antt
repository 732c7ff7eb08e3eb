-- WholeText: the passes one after the other answer by the first fault.
use Rattle.std.proofs.Common.{◌≡◌, ℕ, List, [], Option, Some, None, Result, Ok, Err, refl, ap, subst, ◌∙◌}
use Rattle.adj_tree.specs.Code.{Procedure}
use Rattle.adj_tree.specs.Common.{Shared}
use Rattle.def_common.specs.Lowering.{lowered_program}
use Rattle.def_common.specs.Refused.{layout_refusal}
use Rattle.def_common.specs.Source.{or_refused, without_blocks}
use Rattle.adj_tree.specs.declared.fault.Refusal.{Refusal}
use Rattle.def_text.specs.Limits.{limits_of}
use Rattle.def_text.specs.Lined.{Lines, lines_of}
use Rattle.def_text.specs.Refused.{◌>>=◌}
use Rattle.def_text.specs.Stated.{all_stated, statements_of}
use Rattle.def_text.specs.declared.mode.Mode.{Mode}
use Rattle.def_text.specs.declared.stated.Stated.{Stated}
use Rattle.adj_parse.specs.Trees.{trees_of, shared_program_of}
use Rattle.def_text.specs.Reads.{ReadsShared}
use Rattle.def_text.proofs.LinesMarked.{bind_ok}
use Rattle.def_text.proofs.Unlimited.{statements_follow}
use Rattle.adj_parse.proofs.TextReads.{one_program, text_reads}
use Rattle.def_refused.specs.First.{Faults, HasNone, IsFirst, IsAnswer}
use Rattle.def_text.specs.Forming.{lines_in}
use Rattle.def_refused.specs.LineFaults.{LineFault}
use Rattle.def_refused.specs.Scanned.{FirstScanned, in_lines, in_statements, in_trees}
use Rattle.def_refused.specs.StatementFaults.{StatementFault}
use Rattle.def_refused.specs.TextFaults.{program_of, FirstOfText, FirstFault, of_text, of_blocks, TextRefused, TextFirst, TextAccepted}
use Rattle.def_refused.specs.TreeFaults.{TreeFault}
use Rattle.def_refused.proofs.Scanned.{first_scanned, scanned_first}
use Rattle.def_refused.proofs.LineTests.{lines_answer, lines_refused}
use Rattle.def_refused.proofs.StatementTests.{statements_answer, statements_refused}
use Rattle.def_refused.proofs.TreeTests.{Laws}
use Rattle.def_refused.proofs.TreeWalk.{trees_answer, trees_refused}

-- a refusal that an answer is
refusal_first : {A B : Type 0} (Fault : Faults A) (all : List A) (answer : Result B Refusal) (r : Refusal) → IsAnswer Fault [] all answer → answer ≡ Err r → IsFirst Fault [] all r
refusal_first Fault all (Ok x) r h e = absurd cc
refusal_first Fault all (Err q) r h e = let same : q ≡ r = cc in subst (IsFirst Fault [] all) same h

-- blocks are refused where two layouts differ
layout_refused : (units : List Shared) (r : Refusal) → without_blocks units ≡ Err r → layout_refusal units ≡ Some r
layout_refused units r h = by (layout_refusal units) refl h
  where
    by : (found : Option Refusal) → layout_refusal units ≡ found → or_refused found (lowered_program units) ≡ Err r → found ≡ Some r
    by None e g = absurd cc
    by (Some q) e g = cc

refused_layout : (units : List Shared) (r : Refusal) → layout_refusal units ≡ Some r → without_blocks units ≡ Err r
refused_layout units r h = ap (λ found. or_refused found (lowered_program units)) h

-- ---- what is given for a text before its blocks are looked at

module _ (laws : Laws) (mode : Mode) (bytes : List ℕ) where
  by_trees : (stated : List Stated) → statements_of (limits_of mode) bytes ≡ Ok stated → (r : Refusal) → trees_of mode stated ≡ Err r → FirstScanned mode bytes r
  by_trees stated e r h = in_trees stated e (refusal_first (TreeFault mode) stated (trees_of mode stated) r (trees_answer laws mode stated) h)

  by_statements : (ss : List Lines) → lines_of (limits_of mode) bytes ≡ Ok ss → (found : Result (List Stated) Refusal) → all_stated (limits_of mode) ss ≡ found → (r : Refusal) → (found >>= trees_of mode) ≡ Err r → FirstScanned mode bytes r
  by_statements ss e (Ok stated) f r h = by_trees stated (ap (λ ls. ls >>= all_stated (limits_of mode)) e ∙ f) r h
  by_statements ss e (Err q) f r h = let same : q ≡ r = cc in in_statements ss e (refusal_first (StatementFault (limits_of mode)) ss (all_stated (limits_of mode) ss) r (statements_answer (limits_of mode) ss) (f ∙ ap Err same))

  by_lines : (lines : Result (List Lines) Refusal) → lines_of (limits_of mode) bytes ≡ lines → (r : Refusal) → ((lines >>= all_stated (limits_of mode)) >>= trees_of mode) ≡ Err r → FirstScanned mode bytes r
  by_lines (Ok ss) e r h = by_statements ss e (all_stated (limits_of mode) ss) refl r h
  by_lines (Err q) e r h = let same : q ≡ r = cc in in_lines (refusal_first (LineFault (limits_of mode)) (lines_in bytes) (lines_of (limits_of mode) bytes) r (lines_answer (limits_of mode) bytes) (e ∙ ap Err same))

  shared_refused : (r : Refusal) → shared_program_of mode bytes ≡ Err r → FirstScanned mode bytes r
  shared_refused r h = by_lines (lines_of (limits_of mode) bytes) refl r h

  shared_first : (r : Refusal) → FirstScanned mode bytes r → shared_program_of mode bytes ≡ Err r
  shared_first r (in_lines f) = ap (λ ls. (ls >>= all_stated (limits_of mode)) >>= trees_of mode) (lines_refused (limits_of mode) bytes r f)
  shared_first r (in_statements ss e f) = ap (λ ls. (ls >>= all_stated (limits_of mode)) >>= trees_of mode) e ∙ ap (λ x. x >>= trees_of mode) (statements_refused (limits_of mode) ss r f)
  shared_first r (in_trees stated e f) = ap (λ x. x >>= trees_of mode) e ∙ trees_refused laws mode stated r f

  none_refused : (units : List Shared) → shared_program_of mode bytes ≡ Ok units → HasNone (FirstOfText mode bytes)
  none_refused units e r f = not_both units r (shared_program_of mode bytes) e (shared_first r (first_scanned mode bytes r f))
    where
      not_both : {A : Type 0} (x : A) (r : Refusal) (found : Result A Refusal) → found ≡ Ok x → found ≡ Err r → ⊥
      not_both x r found e f = cc

  shared_reads : (units : List Shared) → shared_program_of mode bytes ≡ Ok units → ReadsShared bytes units
  shared_reads units e =
      let a = bind_ok (statements_of (limits_of mode) bytes) (trees_of mode) units e in
      text_reads mode a.0 units a.2 bytes (rw a.1 at (statements_follow (limits_of mode) bytes))

  -- ---- and then

  by_units : (found : Result (List Shared) Refusal) → shared_program_of mode bytes ≡ found → (r : Refusal) → (found >>= without_blocks) ≡ Err r → FirstFault mode bytes r
  by_units (Ok units) e r h = of_blocks (none_refused units e) units (shared_reads units e) (layout_refused units r h)
  by_units (Err q) e r h = let same : q ≡ r = cc in of_text (scanned_first mode bytes r (shared_refused r (e ∙ ap Err same)))

  by_blocks : HasNone (FirstOfText mode bytes) → (units : List Shared) → ReadsShared bytes units → (r : Refusal) → layout_refusal units ≡ Some r → (found : Result (List Shared) Refusal) → shared_program_of mode bytes ≡ found → (found >>= without_blocks) ≡ Err r
  by_blocks none units reads r f (Ok others) e = refused_layout others r (ap layout_refusal (one_program bytes others units (shared_reads others e) reads) ∙ f)
  by_blocks none units reads r f (Err q) e = absurd (none q (scanned_first mode bytes q (shared_refused q e)))

pub text_refused : Laws → TextRefused
text_refused laws mode bytes r h = by_units laws mode bytes (shared_program_of mode bytes) refl r h

pub text_first : Laws → TextFirst
text_first laws mode bytes r (of_text f) = ap (λ x. x >>= without_blocks) (shared_first laws mode bytes r (first_scanned mode bytes r f))
text_first laws mode bytes r (of_blocks none units reads f) = by_blocks laws mode bytes none units reads r f (shared_program_of mode bytes) refl

pub text_accepted : Laws → TextAccepted
text_accepted laws mode bytes none = by (program_of mode bytes) refl
  where
    by : (found : Result (List Procedure) Refusal) → program_of mode bytes ≡ found → (program : List Procedure) × (program_of mode bytes ≡ Ok program)
    by (Ok p) e = (p, e)
    by (Err r) e = absurd (none r (text_refused laws mode bytes r e))
