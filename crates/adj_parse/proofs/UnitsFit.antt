-- The literals and extents of units are words where those of their statements are.
use Rattle.std.proofs.Common.{ℕ, Bool, List, [], ◌∷◌, ◌++◌, map, sym, subst}
use Rattle.std.specs.List.{All}
use Rattle.adj_tree.specs.Code.{Act, Code, Declaration}
use Rattle.def_text.specs.Block as blocks
use Rattle.def_text.specs.Block.{ReadsBody, ReadsAct, ReadsElse}
use Rattle.adj_tree.specs.Common.{Common, Shared}
use Rattle.def_text.specs.Fits.{FitsAct, FitsCode, FitsDeclaration, FitsCommon, FitsShared, AllFit}
use Rattle.def_text.specs.Form.{Form, Statement, at}
use Rattle.def_text.specs.Statement.{Item}
use Rattle.def_text.specs.Unit as units
use Rattle.def_text.specs.Unit.{ReadsImplicit, declaration_of, common_of, ReadsDeclarations, ReadsEnd, ReadsUnit, ReadsUnits}
use Rattle.def_text.proofs.FormWritten.{all_nil, all_cons}
use Rattle.adj_parse_statement.specs.FormFits.{FitsItems, FitsForm}

abbrev pub AreFit : List Statement → Type 0
AreFit [] = Unit {0}
AreFit (at n l f ∷ ts) = FitsForm f × AreFit ts

mutual
  body_fits : {ls : List ℕ} {ts rest : List Statement} {k : Code} → ReadsBody ls ts rest k → AreFit ts → AreFit rest × FitsCode k
  body_fits blocks.ReadsBody.empty h = (h, tt)
  body_fits (blocks.ReadsBody.more c a b) h = let r = act_fits a h.0 h.1 in let q = body_fits b r.0 in (q.0, (r.1, q.1))
  body_fits (blocks.ReadsBody.skipped c b) h = body_fits b h.1

  act_fits : {ls : List ℕ} {n : ℕ} {f : Form} {ts rest : List Statement} {a : Act} → ReadsAct ls n f ts rest a → FitsForm f → AreFit ts → AreFit rest × FitsAct a
  act_fits blocks.ReadsAct.simply w h = (h, w)
  act_fits blocks.ReadsAct.guarded w h = (h, (w.0, (w.1, tt), tt))
  act_fits (blocks.ReadsAct.branch a b) w h = let r = body_fits a h in let q = else_fits b r.0 in (q.0, (w, r.1, q.1))
  act_fits (blocks.ReadsAct.unlabelled b c) w h = let r = body_fits b h in (r.0.1, (w.0, w.1, w.2, r.1))
  act_fits (blocks.ReadsAct.repeated b c) w h = let r = body_fits b h in (r.0.1, (w, r.1))
  act_fits (blocks.ReadsAct.labelled c d b) w h = let r = body_fits b h in (r.0.1, (w.0, w.1, w.2, r.1))
  act_fits (blocks.ReadsAct.shared c d b) w h = let r = body_fits b h in (r.0, (w.0, w.1, w.2, r.1))

  else_fits : {ls : List ℕ} {ts rest : List Statement} {k : Code} → ReadsElse ls ts rest k → AreFit ts → AreFit rest × FitsCode k
  else_fits (blocks.ReadsElse.nothing c) h = (h.1, tt)
  else_fits (blocks.ReadsElse.part c b d) h = let r = body_fits b h.1 in (r.0.1, r.1)
  else_fits (blocks.ReadsElse.chained c a b) h = let r = body_fits a h.1 in let q = else_fits b r.0 in (q.0, ((h.0, r.1, q.1), tt))

implicit_fits : {ts rest : List Statement} {b : Bool} → ReadsImplicit ts rest b → AreFit ts → AreFit rest
implicit_fits units.ReadsImplicit.absent h = h
implicit_fits units.ReadsImplicit.present h = h.1

items_fit : (n : ℕ) (is : List Item) (ds : List Declaration) → FitsItems is → All FitsDeclaration ds → All FitsDeclaration (map (declaration_of n) is ++ ds)
items_fit n [] ds w h = h
items_fit n (i ∷ is) ds w h = all_cons FitsDeclaration (declaration_of n i) (map (declaration_of n) is ++ ds) w.0 (items_fit n is ds w.1 h)

-- those of one statement
common_fits : (n : ℕ) (is : List Item) → FitsItems is → All FitsDeclaration (map (declaration_of n) is)
common_fits n [] w = all_nil FitsDeclaration
common_fits n (i ∷ is) w = all_cons FitsDeclaration (declaration_of n i) (map (declaration_of n) is) w.0 (common_fits n is w.1)

declarations_fit : {ts rest : List Statement} {ds : List Declaration} {cs : List Common} → ReadsDeclarations ts rest ds cs → AreFit ts → AreFit rest × All FitsDeclaration ds × All FitsCommon cs
declarations_fit units.ReadsDeclarations.none h = (h, all_nil FitsDeclaration, all_nil FitsCommon)
declarations_fit (units.ReadsDeclarations.more {n = n} {is = is} {ds = ds} d e) h = let r = declarations_fit d h.1 in (r.0, subst (All FitsDeclaration) (sym e) (items_fit n is ds h.0 r.1), r.2)
declarations_fit (units.ReadsDeclarations.shared {n = n} {b = b} {is = is} {cs = cs} d) h = let r = declarations_fit d h.1 in (r.0, r.1, all_cons FitsCommon (common_of n b is) cs (common_fits n is h.0) r.2)

end_fits : {ts rest : List Statement} → ReadsEnd ts rest → AreFit ts → AreFit rest
end_fits units.ReadsEnd.ended h = h.1
end_fits units.ReadsEnd.returned h = h.1.1

unit_fits : {ts rest : List Statement} {s : Shared} → ReadsUnit ts rest s → AreFit ts → AreFit rest × FitsShared s
unit_fits (units.ReadsUnit.unit i d b e) h =
    let s = declarations_fit d (implicit_fits i h.1) in
    let r = body_fits b s.0 in
    (end_fits e r.0, record { unit = record { declarations = s.1; body = r.1 }; commons = s.2 })

pub units_fit : {ts : List Statement} {ss : List Shared} → ReadsUnits ts ss → AreFit ts → AllFit ss
units_fit units.ReadsUnits.none h = all_nil FitsShared
units_fit (units.ReadsUnits.more {s = s} {ss = ss} u us) h = let r = unit_fits u h in all_cons FitsShared s ss r.1 (units_fit us r.0)
