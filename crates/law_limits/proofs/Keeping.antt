-- The parts of units pass a test exactly where those of the statements do of which they are read.
use Rattle.std.proofs.Common.{◌≡◌, ℕ, Bool, true, List, [], ◌∷◌, map, refl, sym, ap, ap₂, ◌∙◌}
use Rattle.std.specs.Prelude.{◌&&◌}
use Rattle.std.specs.List.{list_all}
use Rattle.std.proofs.lemmas.List.Folds.{list_all-append, list_all-map}
use Rattle.adj_tree.specs.Code.{Act, Code, Declaration, Procedure}
use Rattle.adj_tree.specs.Common.{Common, Shared, without_commons}
use Rattle.def_text.specs.Block as blocks
use Rattle.def_text.specs.Block.{ReadsBody, ReadsAct, ReadsElse}
use Rattle.def_text.specs.Form.{Form, subroutine, implicit_none, integers, common, simple, logical, opens_do, opens_while, end_do, go_on, opens_if, otherwise, otherwise_if, end_if, leaves, ends, Statement, at}
use Rattle.def_text.specs.Statement.{Item}
use Rattle.def_text.specs.Unit as units
use Rattle.def_text.specs.Unit.{ReadsImplicit, declaration_of, common_of, ReadsDeclarations, ReadsEnd, ReadsUnit, ReadsUnits}
use Rattle.law_limits.specs.Rule.{Rule, act_keeps, code_keeps, declaration_keeps, procedure_keeps, keeps}
use Rattle.law_limits.proofs.Truths.{and_true, and_group, and_group_three, and_behind, and_group_four}

-- whether what a statement says passes
abbrev pub item_keeps : Rule → Item → Bool
item_keeps r i = r.declared i.name i.extents

abbrev pub common_keeps : Rule → Common → Bool
common_keeps r c = r.declared c.block [] && list_all (declaration_keeps r) c.items

-- whether a unit passes with its COMMON statements
abbrev pub shared_keeps : Rule → Shared → Bool
shared_keeps r s = procedure_keeps r s.unit && list_all (common_keeps r) s.commons

-- units without their COMMON statements
abbrev pub units_in : List Shared → List Procedure
units_in ss = map (λ (s : Shared). s.unit) ss

abbrev pub form_keeps : Rule → Form → Bool
form_keeps r (subroutine x dummies) = r.heading x dummies
form_keeps r implicit_none = true
form_keeps r (integers is) = list_all (item_keeps r) is
form_keeps r (common b is) = r.declared b [] && list_all (item_keeps r) is
form_keeps r (simple a) = act_keeps r a
form_keeps r (logical c a) = r.test c && act_keeps r a
form_keeps r (opens_do l g m) = r.range g m
form_keeps r (opens_while c) = r.test c
form_keeps r end_do = true
form_keeps r go_on = true
form_keeps r (opens_if c) = r.test c
form_keeps r otherwise = true
form_keeps r (otherwise_if c) = r.test c
form_keeps r end_if = true
form_keeps r leaves = true
form_keeps r ends = true

abbrev pub all_keep : Rule → List Statement → Bool
all_keep r [] = true
all_keep r (at n l f ∷ ts) = form_keeps r f && all_keep r ts

module _ (r : Rule) where
  mutual
    body : {ls : List ℕ} {ts rest : List Statement} {k : Code} → ReadsBody ls ts rest k → all_keep r ts ≡ (code_keeps r k && all_keep r rest)
    body blocks.ReadsBody.empty = refl
    body {rest = rest} (blocks.ReadsBody.more {a = a} {body = k} h q b) = act q ∙ ap (λ t. act_keeps r a && t) (body b) ∙ and_group (act_keeps r a) (code_keeps r k) (all_keep r rest)
    body (blocks.ReadsBody.skipped h b) = body b

    act : {ls : List ℕ} {n : ℕ} {f : Form} {ts rest : List Statement} {a : Act} → ReadsAct ls n f ts rest a → (form_keeps r f && all_keep r ts) ≡ (act_keeps r a && all_keep r rest)
    act blocks.ReadsAct.simply = refl
    act {rest = rest} (blocks.ReadsAct.guarded {c = c} {a = a}) = ap (λ t. (r.test c && t) && all_keep r rest) (sym (and_true (act_keeps r a && true) ∙ and_true (act_keeps r a)))
    act {rest = rest} (blocks.ReadsAct.branch {c = c} {a = a} {b = b} p q) = ap (λ t. r.test c && t) (body p ∙ ap (λ t. code_keeps r a && t) (other q)) ∙ and_group_three (r.test c) (code_keeps r a) (code_keeps r b) (all_keep r rest)
    act {rest = rest} (blocks.ReadsAct.unlabelled {s = s} {r = g} {body = k} p h) = ap (λ t. r.range g s && t) (body p) ∙ and_group (r.range g s) (code_keeps r k) (all_keep r rest)
    act {rest = rest} (blocks.ReadsAct.repeated {c = c} {body = k} p h) = ap (λ t. r.test c && t) (body p) ∙ and_group (r.test c) (code_keeps r k) (all_keep r rest)
    act {rest = rest} (blocks.ReadsAct.labelled {s = s} {r = g} {body = k} h q p) = ap (λ t. r.range g s && t) (body p) ∙ and_group (r.range g s) (code_keeps r k) (all_keep r rest)
    act (blocks.ReadsAct.shared {rest = rest} {s = s} {r = g} {body = k} h q p) = ap (λ t. r.range g s && t) (body p) ∙ and_group (r.range g s) (code_keeps r k) (all_keep r rest)

    other : {ls : List ℕ} {ts rest : List Statement} {k : Code} → ReadsElse ls ts rest k → all_keep r ts ≡ (code_keeps r k && all_keep r rest)
    other (blocks.ReadsElse.nothing h) = refl
    other (blocks.ReadsElse.part h p q) = body p
    other {rest = rest} (blocks.ReadsElse.chained {c = c} {a = a} {b = b} h p q) =
        ap (λ t. r.test c && t) (body p ∙ ap (λ t. code_keeps r a && t) (other q)) ∙ and_group_three (r.test c) (code_keeps r a) (code_keeps r b) (all_keep r rest)
        ∙ ap (λ t. t && all_keep r rest) (sym (and_true (r.test c && (code_keeps r a && code_keeps r b))))

  implicit : {ts rest : List Statement} {b : Bool} → ReadsImplicit ts rest b → all_keep r ts ≡ all_keep r rest
  implicit units.ReadsImplicit.absent = refl
  implicit units.ReadsImplicit.present = refl

  own : (n : ℕ) (is : List Item) → list_all (declaration_keeps r) (map (declaration_of n) is) ≡ list_all (item_keeps r) is
  own n is = list_all-map (declaration_keeps r) (declaration_of n) is

  declarations : {ts rest : List Statement} {ds : List Declaration} {cs : List Common} → ReadsDeclarations ts rest ds cs → all_keep r ts ≡ ((list_all (declaration_keeps r) ds && list_all (common_keeps r) cs) && all_keep r rest)
  declarations units.ReadsDeclarations.none = refl
  declarations {rest = rest} (units.ReadsDeclarations.more {n = n} {is = is} {ds = ds} {cs = cs} d e) =
      let items = list_all (item_keeps r) is in
      let old = list_all (declaration_keeps r) ds in
      let commons = list_all (common_keeps r) cs in
      ap (λ t. items && t) (declarations d) ∙ and_group items (old && commons) (all_keep r rest) ∙ ap (λ t. t && all_keep r rest) (and_group items old commons)
      ∙ ap (λ t. (t && commons) && all_keep r rest) (ap (λ t. t && old) (sym (own n is)) ∙ sym (list_all-append (declaration_keeps r) (map (declaration_of n) is) ds) ∙ ap (list_all (declaration_keeps r)) (sym e))
  declarations {rest = rest} (units.ReadsDeclarations.shared {n = n} {b = b} {is = is} {ds = ds} {cs = cs} d) =
      let here = r.declared b [] && list_all (item_keeps r) is in
      ap (λ t. here && t) (declarations d) ∙ and_behind here (list_all (declaration_keeps r) ds) (list_all (common_keeps r) cs) (all_keep r rest)
      ∙ ap (λ t. (list_all (declaration_keeps r) ds && ((r.declared b [] && t) && list_all (common_keeps r) cs)) && all_keep r rest) (sym (own n is))

  ending : {ts rest : List Statement} → ReadsEnd ts rest → all_keep r ts ≡ all_keep r rest
  ending units.ReadsEnd.ended = refl
  ending units.ReadsEnd.returned = refl

  unit : {ts rest : List Statement} {s : Shared} → ReadsUnit ts rest s → all_keep r ts ≡ (shared_keeps r s && all_keep r rest)
  unit {rest = rest} (units.ReadsUnit.unit {x = x} {dummies = dummies} {ds = ds} {cs = cs} {body = k} i d b e) =
      let old = list_all (declaration_keeps r) ds in
      let commons = list_all (common_keeps r) cs in
      ap (λ t. r.heading x dummies && t) (implicit i ∙ declarations d ∙ ap (λ t. (old && commons) && t) (body b ∙ ap (λ t. code_keeps r k && t) (ending e)))
      ∙ and_group_four (r.heading x dummies) old commons (code_keeps r k) (all_keep r rest)

  -- the statements of units pass where the units do with their COMMON statements
  pub shared_keep : {ts : List Statement} {ss : List Shared} → ReadsUnits ts ss → all_keep r ts ≡ list_all (shared_keeps r) ss
  shared_keep units.ReadsUnits.none = refl
  shared_keep (units.ReadsUnits.more {s = s} u us) = unit u ∙ ap (λ t. shared_keeps r s && t) (shared_keep us)

  none_shared : (ps : List Procedure) → list_all (shared_keeps r) (map without_commons ps) ≡ keeps r ps
  none_shared [] = refl
  none_shared (p ∷ ps) = ap₂ (λ a b. a && b) (and_true (procedure_keeps r p)) (none_shared ps)

  -- and where there are none, where the units do
  pub units_keep : {ts : List Statement} (ps : List Procedure) → ReadsUnits ts (map without_commons ps) → all_keep r ts ≡ keeps r ps
  units_keep ps us = shared_keep us ∙ none_shared ps
