-- UnitWritten: the units that statements make are written, where their literals fit.
use Rattle.std.proofs.Common.{ℕ, Bool, List, [], ◌∷◌, ◌++◌, map, sym, subst}
use Rattle.std.specs.List.{All}
use Rattle.adj_tree.specs.Code.{Mark, Act, Code, Declaration}
use Rattle.adj_tree.specs.Common.{Common, Shared}
use Rattle.def_text.specs.Block as blocks
use Rattle.def_text.specs.Block.{ReadsBody, ReadsAct, ReadsElse}
use Rattle.def_text.specs.Form as forms
use Rattle.def_text.specs.Form.{Form, subroutine, implicit_none, integers, common, simple, logical, opens_do, opens_while, end_do, go_on, opens_if, otherwise, otherwise_if, end_if, leaves, ends, Statement, at, ReadsForm}
use Rattle.def_text.specs.Statement.{Item}
use Rattle.def_text.specs.Unit as units
use Rattle.def_text.specs.Unit.{ReadsImplicit, declaration_of, common_of, ReadsDeclarations, ReadsEnd, ReadsUnit, ReadsUnits}
use Rattle.def_text.specs.Lexeme.{Lexeme}
use Rattle.def_text.specs.declared.stated.Kind.{Kind}
use Rattle.def_text.specs.Written.{IsName, IsWrittenMark, IsWrittenCode, IsWrittenDeclaration, IsWrittenCommon, IsWrittenShared, AreWritten}
use Rattle.def_text.specs.Fits.{FitsCode, FitsDeclaration, FitsCommon, FitsShared, AllFit}
use Rattle.def_text.proofs.TermWritten.{AreLexemes}
use Rattle.def_text.proofs.FormWritten.{all_nil, all_cons, TestWhereFits, ActWhereFits, assignment_written, head_written, AreWrittenItems, items_written, common_written, IsWrittenRange, do_written, guard_written}
use Rattle.def_text.proofs.WrittenBack.{all_first, all_rest}
use Rattle.def_text.proofs.CallWritten.{call_written, guarded_written}

-- what a form holds is written, where its literals fit
abbrev pub IsWrittenForm : Form → Type 0
IsWrittenForm (subroutine x xs) = IsName x × All IsName xs
IsWrittenForm (integers is) = AreWrittenItems is
IsWrittenForm (common b is) = IsName b × AreWrittenItems is
IsWrittenForm (simple a) = ActWhereFits a
IsWrittenForm (logical c a) = TestWhereFits c × ActWhereFits a
IsWrittenForm (opens_do l r m) = IsWrittenRange r × IsWrittenMark m
IsWrittenForm (opens_while c) = TestWhereFits c
IsWrittenForm (opens_if c) = TestWhereFits c
IsWrittenForm (otherwise_if c) = TestWhereFits c
IsWrittenForm _ = Unit {0}

pub form_written : {mark : Mark} {kind : Kind} {ts : List Lexeme} {f : Form} → ReadsForm mark kind ts f → AreLexemes ts → IsWrittenMark mark → IsWrittenForm f
form_written (forms.ReadsForm.heading d) h m = head_written d h
form_written forms.ReadsForm.implicit h m = tt
form_written (forms.ReadsForm.declaration d) h m = items_written d h
form_written (forms.ReadsForm.shared d) h m = common_written d h
form_written (forms.ReadsForm.assigned d) h m = assignment_written d h
form_written (forms.ReadsForm.calls d) h m = call_written d h
form_written (forms.ReadsForm.guarded d e) h m = let r = guard_written d h in (r.1, guarded_written e r.0)
form_written (forms.ReadsForm.begins d) h m = (do_written d h, m)
form_written (forms.ReadsForm.repeats d) h m = (guard_written d h).1
form_written forms.ReadsForm.finished h m = tt
form_written forms.ReadsForm.continued h m = tt
form_written (forms.ReadsForm.tests d) h m = (guard_written d h).1
form_written forms.ReadsForm.turns h m = tt
form_written (forms.ReadsForm.tests_again d) h m = (guard_written d h).1
form_written forms.ReadsForm.closed h m = tt
form_written forms.ReadsForm.returned h m = tt
form_written forms.ReadsForm.ended h m = tt

-- each of some statements
abbrev pub AreWrittenForms : List Statement → Type 0
AreWrittenForms [] = Unit {0}
AreWrittenForms (at n l f ∷ ts) = IsWrittenForm f × AreWrittenForms ts

abbrev CodeWhereFits : Code → Type 0
CodeWhereFits k = FitsCode k → IsWrittenCode k

mutual
  body_written : {ls : List ℕ} {ts rest : List Statement} {k : Code} → ReadsBody ls ts rest k → AreWrittenForms ts → AreWrittenForms rest × CodeWhereFits k
  body_written blocks.ReadsBody.empty h = (h, λ f. tt)
  body_written (blocks.ReadsBody.more c a b) h =
      let r = act_written a h.0 h.1 in
      let q = body_written b r.0 in
      (q.0, λ f. (r.1 f.0, q.1 f.1))
  body_written (blocks.ReadsBody.skipped c b) h = body_written b h.1

  act_written : {ls : List ℕ} {n : ℕ} {f : Form} {ts rest : List Statement} {a : Act} → ReadsAct ls n f ts rest a → IsWrittenForm f → AreWrittenForms ts → AreWrittenForms rest × ActWhereFits a
  act_written blocks.ReadsAct.simply w h = (h, w)
  act_written blocks.ReadsAct.guarded w h = (h, λ f. (w.0 f.0, (w.1 f.1.0, tt), tt))
  act_written (blocks.ReadsAct.branch a b) w h =
      let r = body_written a h in
      let q = else_written b r.0 in
      (q.0, λ f. (w f.0, r.1 f.1, q.1 f.2))
  act_written (blocks.ReadsAct.unlabelled b c) w h = let r = body_written b h in (r.0.1, λ f. (w.0.counter, w.0.from f.0, w.0.to f.1, w.0.by f.2, r.1 f.3, w.1))
  act_written (blocks.ReadsAct.repeated b c) w h = let r = body_written b h in (r.0.1, λ f. (w f.0, r.1 f.1))
  act_written (blocks.ReadsAct.labelled c d b) w h = let r = body_written b h in (r.0.1, λ f. (w.0.counter, w.0.from f.0, w.0.to f.1, w.0.by f.2, r.1 f.3, w.1))
  act_written (blocks.ReadsAct.shared c d b) w h = let r = body_written b h in (r.0, λ f. (w.0.counter, w.0.from f.0, w.0.to f.1, w.0.by f.2, r.1 f.3, w.1))

  else_written : {ls : List ℕ} {ts rest : List Statement} {k : Code} → ReadsElse ls ts rest k → AreWrittenForms ts → AreWrittenForms rest × CodeWhereFits k
  else_written (blocks.ReadsElse.nothing c) h = (h.1, λ f. tt)
  else_written (blocks.ReadsElse.part c b d) h = let r = body_written b h.1 in (r.0.1, r.1)
  else_written (blocks.ReadsElse.chained c a b) h =
      let r = body_written a h.1 in
      let q = else_written b r.0 in
      (q.0, λ f. ((h.0 f.0.0, r.1 f.0.1, q.1 f.0.2), tt))

implicit_written : {ts rest : List Statement} {b : Bool} → ReadsImplicit ts rest b → AreWrittenForms ts → AreWrittenForms rest
implicit_written units.ReadsImplicit.absent h = h
implicit_written units.ReadsImplicit.present h = h.1

-- declarations and COMMON statements, where their extents fit
abbrev DeclarationsWhereFit : List Declaration → Type 0
DeclarationsWhereFit ds = All FitsDeclaration ds → All IsWrittenDeclaration ds

abbrev CommonsWhereFit : List Common → Type 0
CommonsWhereFit cs = All FitsCommon cs → All IsWrittenCommon cs

items_declared : (n : ℕ) (is : List Item) (ds : List Declaration) → AreWrittenItems is → DeclarationsWhereFit ds → DeclarationsWhereFit (map (declaration_of n) is ++ ds)
items_declared n [] ds w h = h
items_declared n (i ∷ is) ds w h = λ f.
    let rest = map (declaration_of n) is ++ ds in
    all_cons IsWrittenDeclaration (declaration_of n i) rest (record { named = w.0.named; few_extents = w.0.few_extents; extents = w.0.extents (all_first FitsDeclaration (declaration_of n i) rest f) }) (items_declared n is ds w.1 h (all_rest FitsDeclaration (declaration_of n i) rest f))

-- those of a COMMON statement
items_shared : (n : ℕ) (is : List Item) → AreWrittenItems is → All FitsDeclaration (map (declaration_of n) is) → All IsWrittenDeclaration (map (declaration_of n) is)
items_shared n [] w f = all_nil IsWrittenDeclaration
items_shared n (i ∷ is) w f =
    let rest = map (declaration_of n) is in
    all_cons IsWrittenDeclaration (declaration_of n i) rest (record { named = w.0.named; few_extents = w.0.few_extents; extents = w.0.extents (all_first FitsDeclaration (declaration_of n i) rest f) }) (items_shared n is w.1 (all_rest FitsDeclaration (declaration_of n i) rest f))

common_shared : (n : ℕ) (b : List ℕ) (is : List Item) (cs : List Common) → IsName b → AreWrittenItems is → CommonsWhereFit cs → CommonsWhereFit (common_of n b is ∷ cs)
common_shared n b is cs named w h = λ f.
    all_cons IsWrittenCommon (common_of n b is) cs (record { named = named; items = items_shared n is w (all_first FitsCommon (common_of n b is) cs f) }) (h (all_rest FitsCommon (common_of n b is) cs f))

declarations_written : {ts rest : List Statement} {ds : List Declaration} {cs : List Common} → ReadsDeclarations ts rest ds cs → AreWrittenForms ts → AreWrittenForms rest × DeclarationsWhereFit ds × CommonsWhereFit cs
declarations_written units.ReadsDeclarations.none h = (h, λ f. all_nil IsWrittenDeclaration, λ f. all_nil IsWrittenCommon)
declarations_written (units.ReadsDeclarations.more {n = n} {is = is} {ds = ds} d e) h =
    let r = declarations_written d h.1 in
    (r.0, subst DeclarationsWhereFit (sym e) (items_declared n is ds h.0 r.1), r.2)
declarations_written (units.ReadsDeclarations.shared {n = n} {b = b} {is = is} {cs = cs} d) h =
    let r = declarations_written d h.1 in
    (r.0, r.1, common_shared n b is cs h.0.0 h.0.1 r.2)

end_written : {ts rest : List Statement} → ReadsEnd ts rest → AreWrittenForms ts → AreWrittenForms rest
end_written units.ReadsEnd.ended h = h.1
end_written units.ReadsEnd.returned h = h.1.1

unit_written : {ts rest : List Statement} {s : Shared} → ReadsUnit ts rest s → AreWrittenForms ts → AreWrittenForms rest × (FitsShared s → IsWrittenShared s)
unit_written (units.ReadsUnit.unit i d b e) h =
    let s = declarations_written d (implicit_written i h.1) in
    let r = body_written b s.0 in
    (end_written e r.0, λ f. record { unit = record { named = h.0.0; dummies = h.0.1; declarations = s.1 f.unit.declarations; body = r.1 f.unit.body }; commons = s.2 f.commons })

pub units_written : {ts : List Statement} {ss : List Shared} → ReadsUnits ts ss → AreWrittenForms ts → AllFit ss → AreWritten ss
units_written units.ReadsUnits.none h f = all_nil IsWrittenShared
units_written (units.ReadsUnits.more {s = s} {ss = ss} u us) h f =
    let r = unit_written u h in
    all_cons IsWrittenShared s ss (r.1 (all_first FitsShared s ss f)) (units_written us r.0 (all_rest FitsShared s ss f))
