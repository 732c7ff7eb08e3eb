-- What the chain of faults answers for a text is what the text reads as.
use Rattle.std.proofs.Common.{◌≡◌, ℕ, List, [], ◌∷◌, Result, Ok, Err, refl, subst, ◌⊎◌}
use Rattle.std.specs.Prelude.{IfOk}
use Rattle.adj_tree.specs.View.{mark_of}
use Rattle.adj_tree.specs.Common.{Shared}
use Rattle.adj_tree.specs.CommonView.{shared_units_of}
use Rattle.adj_tree.specs.declared.shared.SharedProgram.{SharedProgram}
use Rattle.adj_tree.specs.declared.fault.Fault.{Fault}
use Rattle.adj_tree.specs.declared.fault.Refusal.{Refusal}
use Rattle.def_text.specs.Fits.{AllFit}
use Rattle.def_text.specs.Form.{Statement}
use Rattle.def_text.specs.Limits.{no_limits, limits_of}
use Rattle.def_text.specs.Reads as texts
use Rattle.def_text.specs.Reads.{ReadsAll, ReadsShared}
use Rattle.def_text.specs.Refused.{Gives}
use Rattle.def_text.specs.Stated.{statements_of}
use Rattle.def_text.specs.Unit.{ReadsUnits}
use Rattle.def_text.specs.Lexeme.{lexemes_of}
use Rattle.def_text.specs.Written.{AreWritten}
use Rattle.def_text.specs.declared.mode.Mode.{Mode}
use Rattle.def_text.specs.declared.stated.Stated.{Stated}
use Rattle.def_text.proofs.Cut.{forms_text, text_forms}
use Rattle.def_text.proofs.ReadingWritten.{shared_reading_written}
use Rattle.def_text.proofs.Unlimited.{statements_follow}
use Rattle.adj_parse.specs.Trees.{IsText, start, trees_of, IsBeyond}
use Rattle.adj_parse.proofs.Followed.{Closed, reads_all, all_fit, chain_runs, chain_comes}
use Rattle.adj_parse_statement.proofs.SaidForms.{one_form}
use Rattle.adj_parse.proofs.UnitsComplete.{units_run, one_units}
use Rattle.adj_parse.proofs.UnitsFit.{units_fit}
use Rattle.adj_parse.proofs.UnitsSound.{run_reads}

-- before the first statement no unit is open
closed : (mode : Mode) (stated : List Stated) → Closed mode stated (start mode)
closed mode [] = refl
closed mode (t ∷ ts) = tt

pub derived : (mode : Mode) (stated : List Stated) (ps : List Shared) → trees_of mode stated ≡ Ok ps → (statements : List Statement) × ReadsAll stated statements × ReadsUnits statements ps
derived mode stated ps h = let r = chain_runs mode stated (start mode) ps (closed mode stated) h in (r.0, reads_all mode r.1, run_reads r.0 ps r.2)

pub answered : (mode : Mode) (stated : List Stated) (statements : List Statement) (ps : List Shared) → ReadsAll stated statements → ReadsUnits statements ps → (trees_of mode stated ≡ Ok ps) ⊎ IsBeyond (trees_of mode stated)
answered mode stated statements ps all units = chain_comes mode all (start mode) ps (units_run units)

pub fits : (mode : Mode) (stated : List Stated) (ps : List Shared) → trees_of mode stated ≡ Ok ps → AllFit ps
fits mode stated ps h = let r = chain_runs mode stated (start mode) ps (closed mode stated) h in units_fit (run_reads r.0 ps r.2) (all_fit mode r.1)

pub one_all : {stated : List Stated} {ss ts : List Statement} → ReadsAll stated ss → ReadsAll stated ts → ss ≡ ts
one_all texts.ReadsAll.none texts.ReadsAll.none = refl
one_all (texts.ReadsAll.more {s = s} {f = f} _ d r) (texts.ReadsAll.more {f = g} _ e q) =
    let forms : f ≡ g = one_form (mark_of s.mark) s.kind (lexemes_of s.text s.tokens) f g d e in
    let rest = one_all r q in
    cc

ok_same : (a b : List Stated) (r : Result (List Stated) Refusal) → r ≡ Ok a → r ≡ Ok b → a ≡ b
ok_same a b r h g = cc

pub one_program : (bytes : List ℕ) (ps qs : List Shared) → ReadsShared bytes ps → ReadsShared bytes qs → ps ≡ qs
one_program bytes ps qs r q =
    let same = ok_same r.stated q.stated (statements_of no_limits bytes) (text_forms bytes r.stated r.lines_form) (text_forms bytes q.stated q.lines_form) in
    let first : ReadsAll q.stated r.statements = subst (λ ss. ReadsAll ss r.statements) same r.lexemes_derive in
    let units : ReadsUnits q.statements ps = subst (λ ts. ReadsUnits ts ps) (one_all first q.lexemes_derive) r.units_derive in
    one_units units q.units_derive

-- a text whose statements have these units reads as them
pub text_reads : (mode : Mode) (stated : List Stated) (ps : List Shared) → trees_of mode stated ≡ Ok ps → (bytes : List ℕ) → statements_of no_limits bytes ≡ Ok stated → ReadsShared bytes ps
text_reads mode stated ps h bytes e = let d = derived mode stated ps h in record { stated = stated; statements = d.0; lines_form = forms_text bytes stated e; lexemes_derive = d.1; units_derive = d.2 }

pub text_written : (mode : Mode) (stated : List Stated) (ps : List Shared) → trees_of mode stated ≡ Ok ps → IsText mode stated → AreWritten ps
text_written mode stated ps h text =
    let unlimited : statements_of no_limits text.0 ≡ Ok stated = rw text.1 at (statements_follow (limits_of mode) text.0) in
    shared_reading_written text.0 ps (text_reads mode stated ps h text.0 unlimited) (fits mode stated ps h)

-- the same of what the call gives
pub gives_reads : (mode : Mode) (stated : List Stated) (r : Result SharedProgram Fault) → Gives shared_units_of r (trees_of mode stated) → IfOk r (λ p. (bytes : List ℕ) → statements_of no_limits bytes ≡ Ok stated → ReadsShared bytes (shared_units_of p))
gives_reads mode stated (Ok p) h = text_reads mode stated (shared_units_of p) h
gives_reads mode stated (Err e) h = tt

pub gives_written : (mode : Mode) (stated : List Stated) (r : Result SharedProgram Fault) → Gives shared_units_of r (trees_of mode stated) → IsText mode stated → IfOk r (λ p. AreWritten (shared_units_of p))
gives_written mode stated (Ok p) h text = text_written mode stated (shared_units_of p) h text
gives_written mode stated (Err e) h text = tt
