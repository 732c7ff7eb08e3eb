use Rattle.std.proofs.Common.{◌≡◌, ◌<◌, ◌+◌, ◌++◌, [], false, length, map, get_or, refl, sym, subst, ◌∙◌, arith}
use Rattle.adj_tree.specs.View.{procedure_of, code_of}
use Rattle.adj_tree.specs.Code.{Procedure}
use Rattle.def_names.specs.Variables.{variables}
use Rattle.def_meaning.specs.Written.{is_written}
use Rattle.def_sweep.specs.Names.{adjoint_name, forth_name, back_name}
use Rattle.def_sweep.specs.SplitMarks.{split_marks}
use Rattle.def_sweep.specs.Marking.{marks_in, first_statement, place_from}
use Rattle.def_sweep.specs.Program.{takes_part, has_adjoint, has_pair, is_carried_with, emitted_units_with}
use Rattle.law_sweep.proofs.Rounds.{either}
use Rattle.law_emitted.proofs.Pairs.{adjoint_part, pair_part}
use Rattle.adj_naming.proofs.Places.{get_or_any}
use Rattle.adj_weave.specs.Shared.{sources, marks_for, reversed_for}
use Rattle.adj_weave.specs.Woven.{head_of}
use Rattle.adj_weave.specs.Alike.{AreAlike}
use Rattle.adj_weave.specs.Marked.{unit_marks}
use Rattle.adj_weave_units.proofs.Places.{find_at}
use Rattle.adj_weave_units.proofs.Ordered.{unit_place}
use Rattle.adj_weave_units.proofs.Facts.{units_apart, variables_each}
use Rattle.adj_weave.proofs.Known.{has_fewer, knows_has, over_knows}
use Rattle.adj_weave.proofs.Facts.{writes_are, writes_each}
use Rattle.adj_weave.proofs.UnitMarks.{marks_alike, pair_alike}
use Rattle.adj_weave_units.proofs.Standing.{told_at, told_number, told_flag, unit_there, reaches}
use Rattle.adj_weave.proofs.Program.{emitted_on}
use Rattle.adj_weave.proofs.weave.emitted.Goals as goal

pub variables-requires : goal.variables-requires
variables-requires c =
    let s = c.args.shared.now in
    let own = s.checked.now.program.units in
    let same = c.units_of-units.ensures.units in
    let k = c.loop-k.k in
    let there : k < length own = subst (λ us. k < length us) same c.loop-k-test.true in
    record { unit = subst (λ n. k < n) (sym (variables_each s.checked.now c.units_of-units.ensures.facts)) there }

pub writes-requires : goal.writes-requires
writes-requires c =
    let s = c.args.shared.now in
    let own = s.checked.now.program.units in
    let same = c.units_of-units.ensures.units in
    let k = c.loop-k.k in
    let there : k < length own = subst (λ us. k < length us) same c.loop-k-test.true in
    record { unit = subst (λ n. k < n) (sym (writes_each s.checked.now c.units_of-units.ensures.facts)) there }

pub bounds-adjoints-k : goal.bounds-adjoints-k
bounds-adjoints-k c =
    let s = c.args.shared.now in
    let own = s.checked.now.program.units in
    let same = c.units_of-units.ensures.units in
    let k = c.loop-k.k in
    let there : k < length own = subst (λ us. k < length us) same c.loop-k-test.true in
    reaches (adjoint_name (sources s)) own c.as_slice-adjoints.result.now k there (c.as_slice-adjoints.ensures.value ∙ c.requires.table.names.adjoints)

pub bounds-forths-k : goal.bounds-forths-k
bounds-forths-k c =
    let s = c.args.shared.now in
    let own = s.checked.now.program.units in
    let same = c.units_of-units.ensures.units in
    let k = c.loop-k.k in
    let there : k < length own = subst (λ us. k < length us) same c.loop-k-test.true in
    reaches (forth_name (sources s)) own c.as_slice-forths.result.now k there (c.as_slice-forths.ensures.value ∙ c.requires.table.names.forths)

pub bounds-backs-k : goal.bounds-backs-k
bounds-backs-k c =
    let s = c.args.shared.now in
    let own = s.checked.now.program.units in
    let same = c.units_of-units.ensures.units in
    let k = c.loop-k.k in
    let there : k < length own = subst (λ us. k < length us) same c.loop-k-test.true in
    reaches (back_name (sources s)) own c.as_slice-backs.result.now k there (c.as_slice-backs.ensures.value ∙ c.requires.table.names.backs)

pub bounds-numbers-k : goal.bounds-numbers-k
bounds-numbers-k c =
    let s = c.args.shared.now in
    let own = s.checked.now.program.units in
    let same = c.units_of-units.ensures.units in
    let k = c.loop-k.k in
    let there : k < length own = subst (λ us. k < length us) same c.loop-k-test.true in
    reaches (λ (u : Procedure). first_statement (sources c.args.shared.now) u.name) own c.as_slice-numbers.result.now k there (c.as_slice-numbers.ensures.value ∙ c.requires.table.numbers)

pub bounds-carried-k : goal.bounds-carried-k
bounds-carried-k c =
    let s = c.args.shared.now in
    let own = s.checked.now.program.units in
    let same = c.units_of-units.ensures.units in
    let k = c.loop-k.k in
    let there : k < length own = subst (λ us. k < length us) same c.loop-k-test.true in
    let ps = sources s in
    let m = marks_for s in
    reaches (λ (u : Procedure). is_carried_with (reversed_for c.args.shared.now) m ps (head_of c.args.aim.now) u.name) own c.as_slice-carried.result.now k there (c.as_slice-carried.ensures.members ∙ c.requires.table.carried)

pub bounds-adjointed-k : goal.bounds-adjointed-k
bounds-adjointed-k c =
    let s = c.args.shared.now in
    let own = s.checked.now.program.units in
    let same = c.units_of-units.ensures.units in
    let k = c.loop-k.k in
    let there : k < length own = subst (λ us. k < length us) same c.loop-k-test.true in
    let ps = sources s in
    let m = marks_for s in
    reaches (λ (u : Procedure). has_adjoint m ps (head_of c.args.aim.now) u.name) own c.as_slice-adjointed.result.now k there (c.as_slice-adjointed.ensures.members ∙ c.requires.table.adjointed)

pub bounds-paired-k : goal.bounds-paired-k
bounds-paired-k c =
    let s = c.args.shared.now in
    let own = s.checked.now.program.units in
    let same = c.units_of-units.ensures.units in
    let k = c.loop-k.k in
    let there : k < length own = subst (λ us. k < length us) same c.loop-k-test.true in
    let ps = sources s in
    let m = marks_for s in
    reaches (λ (u : Procedure). has_pair m ps (head_of c.args.aim.now) u.name) own c.as_slice-paired.result.now k there (c.as_slice-paired.ensures.members ∙ c.requires.table.paired)

pub of_unit-requires : goal.of_unit-requires
of_unit-requires c =
    let s = c.args.shared.now in
    let own = s.checked.now.program.units in
    let same = c.units_of-units.ensures.units in
    let k = c.loop-k.k in
    let there : k < length own = subst (λ us. k < length us) same c.loop-k-test.true in
    record { unit = has_fewer s.marked (length own) (k + 1) (knows_has s.marked own (over_knows s.marked (sources s) c.args.aim.now.number c.requires.flow)) (omega (arith, there)) }

pub of_pair-requires : goal.of_pair-requires
of_pair-requires c =
    let s = c.args.shared.now in
    let own = s.checked.now.program.units in
    let same = c.units_of-units.ensures.units in
    let k = c.loop-k.k in
    let there : k < length own = subst (λ us. k < length us) same c.loop-k-test.true in
    record { unit = has_fewer s.marked (length own) (k + 1) (knows_has s.marked own (over_knows s.marked (sources s) c.args.aim.now.number c.requires.flow)) (omega (arith, there)) }

pub add_unit-requires-clause-part : goal.add_unit-requires-clause-part
add_unit-requires-clause-part c emitted =
    let s = c.args.shared.now in
    let own = s.checked.now.program.units in
    let same = c.units_of-units.ensures.units in
    let k = c.loop-k.k in
    let there : k < length own = subst (λ us. k < length us) same c.loop-k-test.true in
    let a = c.args.aim.now in
    let m = marks_for s in
    let ps = sources s in
    let h = head_of a in
    let known = s.checked.now in
    let facts = c.units_of-units.ensures.facts in
    let table = c.requires.table in
    let u = c.index-units-k.result in
    let p = procedure_of u in
    let apart = units_apart known facts in
    let at = unit_there c.units_of-units.result.now own same k there u c.index-units-k.is in
    let found = find_at ps k p apart at in
    let adjointed = c.as_slice-adjointed.result.now in
    let paired = c.as_slice-paired.result.now in
    let has = told_flag (λ (v : Procedure). has_adjoint m ps h v.name) ps k p adjointed (get_or adjointed k false) at (c.as_slice-adjointed.ensures.members ∙ table.adjointed) refl in
    let pairs = told_flag (λ (v : Procedure). has_pair m ps h v.name) ps k p paired (get_or paired k false) at (c.as_slice-paired.ensures.members ∙ table.paired) refl in
    let takes = either (get_or adjointed k false) (get_or paired k false) (takes_part m ps h p.name) emitted (λ e. adjoint_part m ps h p.name p found (sym has ∙ e)) (λ e. pair_part m ps h p.name p found (sym pairs ∙ e)) in
    let place : place_from 0 ps u.name ≡ k = unit_place 0 ps k p apart at ∙ (let z : 0 + k ≡ k = omega arith in z) in
    let alike = marks_alike s.marked ps a.number c.requires.flow apart h c.requires.head k p place found takes in
    let first = first_statement ps u.name in
    let marks = marks_in m u.name in
    let pair = pair_alike (unit_marks s.marked k) marks first p.body alike in
    let within : k < length known.variables = subst (λ n. k < n) (sym (variables_each known facts)) there in
    let within_writes : k < length known.writes = subst (λ n. k < n) (sym (writes_each known facts)) there in
    let row = get_or known.variables k [] in
    let writes = get_or known.writes k [] in
    record {
      found = found;
      marks = subst (λ t. AreAlike t marks first (code_of u.body)) (sym c.of_unit.ensures.marks) alike;
      pairing = subst (λ t. AreAlike t (split_marks marks) first (code_of u.body)) (sym c.of_pair.ensures.marks) pair;
      variables = c.as_slice.ensures.members ∙ c.variables.ensures.variables ∙ told_at variables ps k p known.variables row at facts.variables (get_or_any known.variables k [] row within);
      written = c.as_slice-in-loop-k.ensures.members ∙ c.writes.ensures.writes ∙ told_at (λ (v : Procedure). map (is_written ps v) v.dummies) ps k p known.writes writes at (writes_are known facts) (get_or_any known.writes k [] writes within_writes);
      adjoint = told_at (adjoint_name ps) ps k p c.as_slice-adjoints.result.now c.index-adjoints-k.result at (c.as_slice-adjoints.ensures.value ∙ table.names.adjoints) c.index-adjoints-k.is;
      forth = told_at (forth_name ps) ps k p c.as_slice-forths.result.now c.index-forths-k.result at (c.as_slice-forths.ensures.value ∙ table.names.forths) c.index-forths-k.is;
      back = told_at (back_name ps) ps k p c.as_slice-backs.result.now c.index-backs-k.result at (c.as_slice-backs.ensures.value ∙ table.names.backs) c.index-backs-k.is;
      number = told_number (λ (v : Procedure). first_statement ps v.name) ps k p c.as_slice-numbers.result.now (get_or c.as_slice-numbers.result.now k 0) at (c.as_slice-numbers.ensures.value ∙ table.numbers) refl;
    }

pub loop-k-init : goal.loop-k-init
loop-k-init c =
    let s = c.args.shared.now in
    let a = c.args.aim.now in
    λ i. map procedure_of (c.new-made.ensures.items i) ++ emitted_units_with (reversed_for s) (marks_for s) (sources s) (head_of a) a.vars.now a.outvars.now (map procedure_of (c.units_of-units.ensures.units i))

pub loop-k-preserved : goal.loop-k-preserved
loop-k-preserved c =
    let s = c.args.shared.now in
    let own = s.checked.now.program.units in
    let same = c.units_of-units.ensures.units in
    let k = c.loop-k.k in
    let there : k < length own = subst (λ us. k < length us) same c.loop-k-test.true in
    let a = c.args.aim.now in
    let b = reversed_for s in
    let m = marks_for s in
    let ps = sources s in
    let h = head_of a in
    let us = c.units_of-units.result.now in
    let u = c.index-units-k.result in
    let p = procedure_of u in
    let at = unit_there us own same k there u c.index-units-k.is in
    let table = c.requires.table in
    let carried = c.as_slice-carried.result.now in
    let adjointed = c.as_slice-adjointed.result.now in
    let paired = c.as_slice-paired.result.now in
    emitted_on b m ps a us c.loop-k.made.items c.add_unit.new.made.items k u (record { carried = get_or carried k false; adjointed = get_or adjointed k false; paired = get_or paired k false }) c.loop-k-test.true c.index-units-k.is
    c.in_ok-add_unit.ensures.units
    (record {
      carried = told_flag (λ (v : Procedure). is_carried_with b m ps h v.name) ps k p carried (get_or carried k false) at (c.as_slice-carried.ensures.members ∙ table.carried) refl;
      adjointed = told_flag (λ (v : Procedure). has_adjoint m ps h v.name) ps k p adjointed (get_or adjointed k false) at (c.as_slice-adjointed.ensures.members ∙ table.adjointed) refl;
      paired = told_flag (λ (v : Procedure). has_pair m ps h v.name) ps k p paired (get_or paired k false) at (c.as_slice-paired.ensures.members ∙ table.paired) refl;
    })
    ∙ c.loop-k.invariant
