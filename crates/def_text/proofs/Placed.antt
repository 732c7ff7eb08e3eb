-- Placed: the statements of a program, as it is printed, are its units again, up to line numbers.
use Rattle.std.proofs.Common.{◌≡◌, ℕ, Bool, true, false, List, [], ◌∷◌, map, None, refl, sym, subst}
use Rattle.adj_tree.specs.Code.{Act, Code, assign, choose, loop, during, call, runtime, stop, step, Declaration, Procedure}
use Rattle.adj_tree.specs.Lines.{unlined_act, unlined_code, unlined_declaration, unlined_procedure, unlined}
use Rattle.adj_tree.specs.Common.{without_commons}
use Rattle.def_text.specs.Block as blocks
use Rattle.def_text.specs.Block.{ReadsBody, ReadsAct, ReadsElse}
use Rattle.def_text.specs.Form.{Form, subroutine, implicit_none, integers, simple, opens_do, opens_while, end_do, opens_if, otherwise, end_if, ends, Statement, at}
use Rattle.def_text.specs.Statement.{Item}
use Rattle.def_text.specs.Unit as units
use Rattle.def_text.specs.Unit.{ReadsImplicit, ReadsDeclarations, ReadsUnit, ReadsUnits}
use Rattle.def_text.proofs.Printed as printed
use Rattle.def_text.proofs.Printed.{AreAt}

-- what is said by the statements of a program, in the order in which they are printed, and then by others
abbrev mutual
  pub act_forms : Act → List Form → List Form
  act_forms (assign x s e) rest = simple (assign x s e) ∷ rest
  act_forms (choose c a b) rest = opens_if c ∷ code_forms a (else_forms b rest)
  act_forms (loop x a b c body n) rest = opens_do None (record { counter = x; from = a; to = b; by = c }) n ∷ code_forms body (end_do ∷ rest)
  act_forms (during c body) rest = opens_while c ∷ code_forms body (end_do ∷ rest)
  act_forms (call x es) rest = simple (call x es) ∷ rest
  act_forms (runtime r) rest = simple (runtime r) ∷ rest

  pub code_forms : Code → List Form → List Form
  code_forms stop rest = rest
  code_forms (step line a k) rest = act_forms a (code_forms k rest)

  pub else_forms : Code → List Form → List Form
  else_forms stop rest = end_if ∷ rest
  else_forms (step line a k) rest = otherwise ∷ act_forms a (code_forms k (end_if ∷ rest))

abbrev pub item_of : Declaration → Item
item_of d = record { name = d.name; extents = d.extents }

abbrev pub declaration_forms : List Declaration → List Form → List Form
declaration_forms [] rest = rest
declaration_forms (d ∷ ds) rest = integers (item_of d ∷ []) ∷ declaration_forms ds rest

abbrev pub implicit_forms : Bool → List Form → List Form
implicit_forms true rest = implicit_none ∷ rest
implicit_forms false rest = rest

abbrev pub procedure_forms : Procedure → List Form → List Form
procedure_forms p rest = subroutine p.name p.dummies ∷ implicit_forms p.is_none (declaration_forms p.declarations (code_forms p.body (ends ∷ rest)))

abbrev pub program_forms : List Procedure → List Form
program_forms [] = []
program_forms (p ∷ ps) = procedure_forms p (program_forms ps)

-- the first statement, and the others
record First (ts : List Statement) (f : Form) (fs : List Form) : Type 0 where
  line : ℕ
  others : List Statement
  are : ts ≡ at line 0 f ∷ others
  left : AreAt others fs

first_at : {ts : List Statement} {f : Form} {fs : List Form} → AreAt ts (f ∷ fs) → First ts f fs
first_at (printed.AreAt.more {n = n} {ts = ts} h) = record { line = n; others = ts; are = refl; left = h }

record ActBack (ls : List ℕ) (ts : List Statement) (a : Act) (fs : List Form) : Type 0 where
  line : ℕ
  form : Form
  behind : List Statement
  rest : List Statement
  act : Act
  starts : ts ≡ at line 0 form ∷ behind
  reads : ReadsAct ls line form behind rest act
  same : unlined_act act ≡ unlined_act a
  left : AreAt rest fs

record CodeBack (ls : List ℕ) (ts : List Statement) (k : Code) (fs : List Form) : Type 0 where
  rest : List Statement
  body : Code
  reads : ReadsBody ls ts rest body
  same : unlined_code body ≡ unlined_code k
  left : AreAt rest fs

record ElseBack (ls : List ℕ) (ts : List Statement) (k : Code) (fs : List Form) : Type 0 where
  rest : List Statement
  body : Code
  reads : ReadsElse ls ts rest body
  same : unlined_code body ≡ unlined_code k
  left : AreAt rest fs

simply_back : (ls : List ℕ) (ts : List Statement) (a : Act) (fs : List Form) → AreAt ts (simple a ∷ fs) → ActBack ls ts a fs
simply_back ls ts a fs h =
    let q = first_at h in
    record { line = q.line; form = simple a; behind = q.others; rest = q.others; act = a; starts = q.are; reads = blocks.ReadsAct.simply; same = refl; left = q.left }

-- the other part of an IF, where its statements are read back
else_back : (ls : List ℕ) (k : Code) (fs : List Form) → ((ts : List Statement) → AreAt ts (code_forms k (end_if ∷ fs)) → CodeBack (0 ∷ ls) ts k (end_if ∷ fs)) → (ts : List Statement) → AreAt ts (else_forms k fs) → ElseBack ls ts k fs
else_back ls stop fs back ts h =
    let q = first_at h in
    let P : List Statement → Type 0 = λ ts. ReadsElse ls ts q.others stop in
    record { rest = q.others; body = stop; reads = subst P (sym q.are) (blocks.ReadsElse.nothing refl); same = refl; left = q.left }
else_back ls (step n a k) fs back ts h =
    let q = first_at h in
    let r = back q.others q.left in
    let e = first_at r.left in
    let P : List Statement → Type 0 = λ rest. ReadsBody (0 ∷ ls) q.others rest r.body in
    let Q : List Statement → Type 0 = λ ts. ReadsElse ls ts e.others r.body in
    record { rest = e.others; body = r.body; reads = subst Q (sym q.are) (blocks.ReadsElse.part refl (subst P e.are r.reads) refl); same = r.same; left = e.left }

mutual
  act_back : (a : Act) (ls : List ℕ) (fs : List Form) (ts : List Statement) → AreAt ts (act_forms a fs) → ActBack ls ts a fs
  act_back (assign x s e) ls fs ts h = simply_back ls ts (assign x s e) fs h
  act_back (during c body) ls fs ts h =
      let q = first_at h in
      let r = code_back body (0 ∷ ls) (end_do ∷ fs) q.others q.left in
      let e = first_at r.left in
      let P : List Statement → Type 0 = λ rest. ReadsBody (0 ∷ ls) q.others rest r.body in
      record { line = q.line; form = opens_while c; behind = q.others; rest = e.others; act = during c r.body; starts = q.are; reads = blocks.ReadsAct.repeated (subst P e.are r.reads) refl; same = rw (r.same) refl; left = e.left }
  act_back (call x es) ls fs ts h = simply_back ls ts (call x es) fs h
  act_back (runtime r) ls fs ts h = simply_back ls ts (runtime r) fs h
  act_back (choose c a b) ls fs ts h =
      let q = first_at h in
      let r = code_back a (0 ∷ ls) (else_forms b fs) q.others q.left in
      let e = else_back ls b fs (λ us g. code_back b (0 ∷ ls) (end_if ∷ fs) us g) r.rest r.left in
      record { line = q.line; form = opens_if c; behind = q.others; rest = e.rest; act = choose c r.body e.body; starts = q.are; reads = blocks.ReadsAct.branch r.reads e.reads; same = rw (r.same, e.same) refl; left = e.left }
  act_back (loop x a b c body n) ls fs ts h =
      let q = first_at h in
      let r = code_back body (0 ∷ ls) (end_do ∷ fs) q.others q.left in
      let e = first_at r.left in
      let P : List Statement → Type 0 = λ rest. ReadsBody (0 ∷ ls) q.others rest r.body in
      record { line = q.line; form = opens_do None (record { counter = x; from = a; to = b; by = c }) n; behind = q.others; rest = e.others; act = loop x a b c r.body n; starts = q.are; reads = blocks.ReadsAct.unlabelled (subst P e.are r.reads) refl; same = rw (r.same) refl; left = e.left }

  code_back : (k : Code) (ls : List ℕ) (fs : List Form) (ts : List Statement) → AreAt ts (code_forms k fs) → CodeBack ls ts k fs
  code_back stop ls fs ts h = record { rest = ts; body = stop; reads = blocks.ReadsBody.empty; same = refl; left = h }
  code_back (step n a k) ls fs ts h =
      let x = act_back a ls (code_forms k fs) ts h in
      let y = code_back k ls fs x.rest x.left in
      let P : List Statement → Type 0 = λ ts. ReadsBody ls ts y.rest (step x.line x.act y.body) in
      record { rest = y.rest; body = step x.line x.act y.body; reads = subst P (sym x.starts) (blocks.ReadsBody.more refl x.reads y.reads); same = rw (x.same, y.same) refl; left = y.left }

record DeclarationsBack (ts : List Statement) (ds : List Declaration) (fs : List Form) : Type 0 where
  rest : List Statement
  found : List Declaration
  reads : ReadsDeclarations ts rest found []
  same : map unlined_declaration found ≡ map unlined_declaration ds
  left : AreAt rest fs

declarations_back : (ds : List Declaration) (fs : List Form) (ts : List Statement) → AreAt ts (declaration_forms ds fs) → DeclarationsBack ts ds fs
declarations_back [] fs ts h = record { rest = ts; found = []; reads = units.ReadsDeclarations.none; same = refl; left = h }
declarations_back (d ∷ ds) fs ts h =
    let q = first_at h in
    let r = declarations_back ds fs q.others q.left in
    let found = record { line = q.line; name = d.name; extents = d.extents } ∷ r.found in
    let P : List Statement → Type 0 = λ ts. ReadsDeclarations ts r.rest found [] in
    record { rest = r.rest; found = found; reads = subst P (sym q.are) (units.ReadsDeclarations.more r.reads refl); same = rw (r.same) refl; left = r.left }

record ImplicitBack (ts : List Statement) (is_none : Bool) (fs : List Form) : Type 0 where
  rest : List Statement
  reads : ReadsImplicit ts rest is_none
  left : AreAt rest fs

implicit_back : (is_none : Bool) (fs : List Form) (ts : List Statement) → AreAt ts (implicit_forms is_none fs) → ImplicitBack ts is_none fs
implicit_back true fs ts h =
    let q = first_at h in
    let P : List Statement → Type 0 = λ ts. ReadsImplicit ts q.others true in
    record { rest = q.others; reads = subst P (sym q.are) units.ReadsImplicit.present; left = q.left }
implicit_back false fs ts h = record { rest = ts; reads = units.ReadsImplicit.absent; left = h }

record UnitBack (ts : List Statement) (p : Procedure) (fs : List Form) : Type 0 where
  rest : List Statement
  found : Procedure
  reads : ReadsUnit ts rest (without_commons found)
  same : unlined_procedure found ≡ unlined_procedure p
  left : AreAt rest fs

unit_back : (p : Procedure) (fs : List Form) (ts : List Statement) → AreAt ts (procedure_forms p fs) → UnitBack ts p fs
unit_back p fs ts h =
    let q = first_at h in
    let i = implicit_back p.is_none (declaration_forms p.declarations (code_forms p.body (ends ∷ fs))) q.others q.left in
    let d = declarations_back p.declarations (code_forms p.body (ends ∷ fs)) i.rest i.left in
    let b = code_back p.body [] (ends ∷ fs) d.rest d.left in
    let e = first_at b.left in
    let found : Procedure = record { line = q.line; name = p.name; dummies = p.dummies; is_none = p.is_none; declarations = d.found; body = b.body } in
    let P : List Statement → Type 0 = λ rest. ReadsBody [] d.rest rest b.body in
    let Q : List Statement → Type 0 = λ ts. ReadsUnit ts e.others (without_commons found) in
    record { rest = e.others; found = found; reads = subst Q (sym q.are) (units.ReadsUnit.unit i.reads d.reads (subst P e.are b.reads) units.ReadsEnd.ended); same = rw (d.same, b.same) refl; left = e.left }

no_statements : {ts : List Statement} → AreAt ts [] → ts ≡ []
no_statements printed.AreAt.none = refl

-- a program is found in its statements
pub program_back : (ps : List Procedure) (ts : List Statement) → AreAt ts (program_forms ps) → (qs : List Procedure) × ReadsUnits ts (map without_commons qs) × (unlined qs ≡ unlined ps)
program_back [] ts h = let P : List Statement → Type 0 = λ ts. ReadsUnits ts [] in ([], subst P (sym (no_statements h)) units.ReadsUnits.none, refl)
program_back (p ∷ ps) ts h =
    let u = unit_back p (program_forms ps) ts h in
    let r = program_back ps u.rest u.left in
    (u.found ∷ r.0, units.ReadsUnits.more u.reads r.1, rw (u.same, r.2) refl)
