-- A program has at most two statements for each statement of which it is read.
use Rattle.std.proofs.Common.{◌≤◌, ℕ, ◌+◌, Bool, List, [], ◌∷◌, arith}
use Rattle.adj_tree.specs.Code.{Act, Code, Declaration}
use Rattle.adj_tree.specs.Common.{Common, Shared}
use Rattle.def_text.specs.Block as blocks
use Rattle.def_text.specs.Block.{ReadsBody, ReadsAct, ReadsElse}
use Rattle.def_text.specs.Form.{Form, subroutine, implicit_none, integers, common, simple, logical, opens_do, opens_while, end_do, go_on, opens_if, otherwise, otherwise_if, end_if, leaves, ends, Statement, at}
use Rattle.def_text.specs.Unit as units
use Rattle.def_text.specs.Unit.{ReadsImplicit, ReadsDeclarations, ReadsEnd, ReadsUnit, ReadsUnits}
use Rattle.law_limits.specs.Kept.{acts_in, acts_in_code, statements_in}
use Rattle.law_limits.proofs.Keeping.{units_in}

-- the statements that are one deed each
abbrev pub form_acts : Form → ℕ
form_acts (simple a) = acts_in a
form_acts (logical c a) = 1 + acts_in a
form_acts (opens_do l r m) = 1
form_acts (opens_while c) = 1
form_acts (opens_if c) = 1
form_acts (otherwise_if c) = 1
form_acts (subroutine x dummies) = 0
form_acts implicit_none = 0
form_acts (integers is) = 0
form_acts (common b is) = 0
form_acts end_do = 0
form_acts go_on = 0
form_acts otherwise = 0
form_acts end_if = 0
form_acts leaves = 0
form_acts ends = 0

abbrev pub all_acts : List Statement → ℕ
all_acts [] = 0
all_acts (at n l f ∷ ts) = form_acts f + all_acts ts

mutual
  body : {ls : List ℕ} {ts rest : List Statement} {k : Code} → ReadsBody ls ts rest k → acts_in_code k + all_acts rest ≤ all_acts ts
  body blocks.ReadsBody.empty = omega arith
  body (blocks.ReadsBody.more h q b) = let p = act q in let r = body b in omega arith
  body (blocks.ReadsBody.skipped h b) = let r = body b in omega arith

  act : {ls : List ℕ} {n : ℕ} {f : Form} {ts rest : List Statement} {a : Act} → ReadsAct ls n f ts rest a → acts_in a + all_acts rest ≤ form_acts f + all_acts ts
  act blocks.ReadsAct.simply = omega arith
  act blocks.ReadsAct.guarded = omega arith
  act (blocks.ReadsAct.branch p q) = let r = body p in let s = other q in omega arith
  act (blocks.ReadsAct.unlabelled p h) = let r = body p in omega arith
  act (blocks.ReadsAct.repeated p h) = let r = body p in omega arith
  act (blocks.ReadsAct.labelled h q p) = let r = body p in omega arith
  act (blocks.ReadsAct.shared h q p) = let r = body p in omega arith

  other : {ls : List ℕ} {ts rest : List Statement} {k : Code} → ReadsElse ls ts rest k → acts_in_code k + all_acts rest ≤ all_acts ts
  other (blocks.ReadsElse.nothing h) = omega arith
  other (blocks.ReadsElse.part h p q) = let r = body p in omega arith
  other (blocks.ReadsElse.chained h p q) = let r = body p in let s = other q in omega arith

implicit : {ts rest : List Statement} {b : Bool} → ReadsImplicit ts rest b → all_acts rest ≤ all_acts ts
implicit units.ReadsImplicit.absent = omega arith
implicit units.ReadsImplicit.present = omega arith

declarations : {ts rest : List Statement} {ds : List Declaration} {cs : List Common} → ReadsDeclarations ts rest ds cs → all_acts rest ≤ all_acts ts
declarations units.ReadsDeclarations.none = omega arith
declarations (units.ReadsDeclarations.more d e) = let r = declarations d in omega arith
declarations (units.ReadsDeclarations.shared d) = let r = declarations d in omega arith

ending : {ts rest : List Statement} → ReadsEnd ts rest → all_acts rest ≤ all_acts ts
ending units.ReadsEnd.ended = omega arith
ending units.ReadsEnd.returned = omega arith

unit : {ts rest : List Statement} {s : Shared} → ReadsUnit ts rest s → acts_in_code s.unit.body + all_acts rest ≤ all_acts ts
unit (units.ReadsUnit.unit i d b e) = let p = implicit i in let q = declarations d in let r = body b in let s = ending e in omega arith

pub units_count : {ts : List Statement} {ss : List Shared} → ReadsUnits ts ss → statements_in (units_in ss) ≤ all_acts ts
units_count units.ReadsUnits.none = omega arith
units_count (units.ReadsUnits.more u us) = let p = unit u in let q = units_count us in omega arith
