use Rattle.std.proofs.Common.{◌≡◌, ℕ, Bool, List, ap, sym, ◌∙◌, map}
use Rattle.std.specs.Prelude.{unwrap_or, Some}
use Rattle.adj_tree.specs.View.{procedure_of, procedures_of}
use Rattle.adj_tree.specs.declared.marks.Head.{Head}
use Rattle.def_meaning.specs.Written.{find_unit}
use Rattle.def_names.specs.HeadFaults.{flags_found, unit_number}
use Rattle.adj_symbols.proofs.Rows.{number_or}
use Rattle.adj_symbols.proofs.heads.head.Goals as goal
use Rattle.adj_symbols_writes.specs.Graph.{number_from}

-- three equal parts make equal heads
same_head : (a b : ℕ) (v w x y : List Bool) → a ≡ b → v ≡ w → x ≡ y → (h : Head) → h ≡ record { unit = a; vars = v; outvars = x } → h ≡ record { unit = b; vars = w; outvars = y }
same_head a b v w x y e f g h k = k ∙ (λ i. record { unit = e i; vars = f i; outvars = g i })

pub returns-clause-head : goal.returns-clause-head
returns-clause-head c =
    let p = c.args.checked.now.program in
    let x = c.args.name.now in
    let u = procedure_of c.in-Some.outline.now in
    let same = c.in_ok-scope.ensures.units ∙ c.as_slice.ensures.members ∙ ap (λ q. q.units) c.program.ensures.program in
    let some = ap (λ us. find_unit (map procedure_of us) x) (sym same) ∙ c.in-Some.ensures.found in
    let number = c.unwrap_or-unit.ensures ∙ ap (λ o. unwrap_or o 0) c.number.ensures.number ∙ ap (λ us. unwrap_or (number_from 0 (map procedure_of us) x) 0) same ∙ number_or (procedures_of p) x u some in
    same_head c.unwrap_or-unit.result (unit_number (procedures_of p) x)
    (flags_found (Some u) c.args.vars.now) (flags_found (find_unit (procedures_of p) x) c.args.vars.now)
    (flags_found (Some u) c.args.outvars.now) (flags_found (find_unit (procedures_of p) x) c.args.outvars.now)
    number
    (ap (λ o. flags_found o c.args.vars.now) (sym some))
    (ap (λ o. flags_found o c.args.outvars.now) (sym some))
    c.in_ok-found-in-Some.found c.in_ok-found-in-Some.ensures.head
