use Rattle.std.proofs.Common.{ℕ, ◌+◌, ◌<◌, ◌≤◌, ◌∷◌, ◌++◌, [], List, map, length, get_or, sym, ap, subst, ◌∙◌, arith}
use Rattle.std.proofs.lemmas.List.{length-map, length-append, map_push, map_more, take_all}
use Rattle.adj_tree.specs.declared.unit.Program.{Program}
use Rattle.adj_tree.specs.declared.unit.Decl.{Decl}
use Rattle.adj_tree.specs.declared.unit.Unit.{Unit}
use Rattle.adj_tree.specs.View.{code_of, procedure_of, procedures_of}
use Rattle.def_meaning.specs.Apart.{AreApart}
use Rattle.def_meaning.specs.LeastSet.{least_rows}
use Rattle.def_meaning.specs.Written.{write_rule, handed_back}
use Rattle.adj_interp_frame.specs.declared.routine.Routine.{Routine}
use Rattle.adj_interp_frame.specs.Linked.{IsRoutine, units_in}
use Rattle.adj_interp_frame.specs.Listed.{names_of}
use Rattle.adj_interp_frame.specs.Suited.{IsScalarIn, AreSuited}
use Rattle.adj_interp.proofs.Accepted.{units_apart, dummies_apart, extents_few, calls_suit, rows_each, row_at, pushed_each}
use Rattle.adj_interp.proofs.preparing.prepared.Goals as goal

pub new-requires : goal.new-requires
new-requires c =
    let all = c.as_slice-units.ensures.members ∙ ap (λ (p : Program). p.units) c.program.ensures.program in
    subst (λ us. AreApart (names_of us)) (sym all) (units_apart c.args.program.now.program.units c.program.ensures.facts.sound)

pub writes-writes-requires : goal.writes-writes-requires
writes-writes-requires c =
    let p = c.args.program.now.program in
    let all = ap length (c.as_slice-units.ensures.members ∙ ap (λ (p : Program). p.units) c.program.ensures.program) in
    let rows = ap length c.program.ensures.facts.writes ∙ rows_each (procedures_of p) ∙ length-map p.units procedure_of in
    let lt = c.loop-i-test.true in
    record { unit = omega (arith, all, rows, lt) }

pub routine_of-requires-clause-apart : goal.routine_of-requires-clause-apart
routine_of-requires-clause-apart c =
    let us = c.args.program.now.program.units in
    let all = c.as_slice-units.ensures.members ∙ ap (λ (p : Program). p.units) c.program.ensures.program in
    let lt = subst (λ (xs : List Unit). c.loop-i.i < length xs) all c.loop-i-test.true in
    let d = c.index-units-i.result in
    let is = c.index-units-i.is ∙ ap (λ xs. get_or xs c.loop-i.i d) all in
    subst (λ (u : Unit). AreApart u.dummies) (sym is) (dummies_apart us c.loop-i.i d c.program.ensures.facts.sound lt)

pub routine_of-requires-clause-few : goal.routine_of-requires-clause-few
routine_of-requires-clause-few c =
    let us = c.args.program.now.program.units in
    let all = c.as_slice-units.ensures.members ∙ ap (λ (p : Program). p.units) c.program.ensures.program in
    let lt = subst (λ (xs : List Unit). c.loop-i.i < length xs) all c.loop-i-test.true in
    let d = c.index-units-i.result in
    let is = c.index-units-i.is ∙ ap (λ xs. get_or xs c.loop-i.i d) all in
    subst (λ (u : Unit). (j : ℕ) (e : Decl) → j < length u.decls → length (get_or u.decls j e).extents ≤ 2) (sym is) (extents_few us c.loop-i.i d c.program.ensures.facts.written lt)

pub routine_of-requires-clause-suited : goal.routine_of-requires-clause-suited
routine_of-requires-clause-suited c =
    let us = c.args.program.now.program.units in
    let ps = procedures_of c.args.program.now.program in
    let all = c.as_slice-units.ensures.members ∙ ap (λ (p : Program). p.units) c.program.ensures.program in
    let lt = subst (λ (xs : List Unit). c.loop-i.i < length xs) all c.loop-i-test.true in
    let d = c.index-units-i.result in
    let is = c.index-units-i.is ∙ ap (λ xs. get_or xs c.loop-i.i d) all in
    subst (λ xs. AreSuited (map procedure_of xs) (IsScalarIn (procedure_of d)) (code_of d.body)) (sym c.loop-i.invariant.units)
    (subst (λ (u : Unit). AreSuited ps (IsScalarIn (procedure_of u)) (code_of u.body)) (sym is) (calls_suit us c.loop-i.i d c.program.ensures.facts.sound lt))

pub routine_of-requires-clause-writes : goal.routine_of-requires-clause-writes
routine_of-requires-clause-writes c =
    let us = c.args.program.now.program.units in
    let ps = procedures_of c.args.program.now.program in
    let facts = c.program.ensures.facts in
    let all = c.as_slice-units.ensures.members ∙ ap (λ (p : Program). p.units) c.program.ensures.program in
    let lt = subst (λ (xs : List Unit). c.loop-i.i < length xs) all c.loop-i-test.true in
    let i = c.loop-i.i in
    let d = c.index-units-i.result in
    let is = c.index-units-i.is ∙ ap (λ xs. get_or xs c.loop-i.i d) all in
    c.writes-writes.ensures.writes
    ∙ ap (λ rows. get_or rows i []) facts.writes
    ∙ row_at us (least_rows write_rule ps) i d (units_apart us facts.sound) lt
    ∙ ap (λ (u : Unit). handed_back ps u.name) (sym is)
    ∙ ap (λ xs. handed_back (map procedure_of xs) d.name) (sym c.loop-i.invariant.units)

pub loop-i-preserved : goal.loop-i-preserved
loop-i-preserved c =
    let us = c.args.program.now.program.units in
    let inv = c.loop-i.invariant in
    let e = c.in_ok-routine.ensures in
    let r = c.in_ok-routine.routine in
    let old = c.loop-i.routines.items in
    let pushed = c.in_ok-push.ensures.items in
    let all = c.as_slice-units.ensures.members ∙ ap (λ (p : Program). p.units) c.program.ensures.program in
    let lt = subst (λ (xs : List Unit). c.loop-i.i < length xs) all c.loop-i-test.true in
    let d = c.index-units-i.result in
    let is = c.index-units-i.is ∙ ap (λ xs. get_or xs c.loop-i.i d) all in
    let n = inv.count in
    let longer = length-append old (r ∷ []) in
    let own = subst (λ xs. IsRoutine (map procedure_of xs) r) inv.units e.routine in
    record {
      directory = e.directory;
      units = e.units ∙ inv.units;
      count = ap length pushed ∙ omega (arith, n, longer);
      made = ap units_in pushed ∙ map_push (λ (z : Routine). procedure_of z.unit.now) old r
          ∙ (λ k. inv.made k ++ ap procedure_of (e.unit ∙ is) k ∷ [])
          ∙ sym (map_more procedure_of us c.loop-i.i d lt);
      each = subst (λ (xs : List Routine). (k : ℕ) (d : Routine) → k < c.loop-i.i + 1 → IsRoutine (procedures_of c.args.program.now.program) (get_or xs k d)) (sym pushed) (pushed_each (IsRoutine (procedures_of c.args.program.now.program)) old r c.loop-i.i n inv.each own);
    }

pub returns-clause-routines : goal.returns-clause-routines
returns-clause-routines c i d lt =
    let us = c.args.program.now.program.units in
    let inv = c.loop-i.invariant in
    let n = inv.count in
    let past = c.loop-i-test.false in
    let all = ap length (c.as_slice-units.ensures.members ∙ ap (λ (p : Program). p.units) c.program.ensures.program) in
    let made = inv.made ∙ ap (map procedure_of) (take_all c.loop-i.i us (omega (arith, past, all))) in
    subst (λ ps. IsRoutine ps (get_or c.loop-i.routines.items i d)) (sym made) (inv.each i d (omega (arith, lt, n)))

pub returns-clause-units : goal.returns-clause-units
returns-clause-units c =
    let us = c.args.program.now.program.units in
    let past = c.loop-i-test.false in
    let all = ap length (c.as_slice-units.ensures.members ∙ ap (λ (p : Program). p.units) c.program.ensures.program) in
    c.loop-i.invariant.made ∙ ap (map procedure_of) (take_all c.loop-i.i us (omega (arith, past, all)))
