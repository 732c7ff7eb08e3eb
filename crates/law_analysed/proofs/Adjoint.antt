-- What is emitted by the marks of exact analyses for a checked program in kernel form is its adjoint.
use Rattle.std.proofs.Common.{◌≡◌, ℕ, List, [], ◌∷◌, Bool, true, false, map, sym, ap, ◌∙◌, subst}
use Rattle.std.specs.Prelude.{Contains, IsTrue, Option, Some, None, length}
use Rattle.adj_tree.specs.Code.{plain, name_eq, none, Act, assign, choose, loop, during, call, runtime, Code, stop, step, Procedure}
use Rattle.adj_tree.proofs.Names.{name_refl}
use Rattle.def_meaning.specs.Written.{find_unit}
use Rattle.def_meaning.specs.Read.{is_extent, is_read, read_rule, looked_at}
use Rattle.law_meaning.specs.Common.{CallsInside', CallsInside}
use Rattle.def_meaning.proofs.LeastSets.{least_row}
use Rattle.def_meaning.proofs.ReadsMore.{read_rises}
use Rattle.def_names.specs.Fault.{Rules}
use Rattle.def_names.specs.Statements.{statements}
use Rattle.def_kernel.specs.Kernel.{EachUnit}
use Rattle.def_names.specs.Numbers.{Vars}
use Rattle.def_sweep.specs.Facts.{In}
use Rattle.def_sweep.specs.Declared.{unit_at}
use Rattle.def_sweep.specs.MarkedAdjoint.{SuitHead}
use Rattle.def_sweep.specs.Callees.{CalleeFacts}
use Rattle.law_sweep.specs.Laws.{UnitLawsBy}
use Rattle.def_sweep.specs.Schedules.{schedules_by}
use Rattle.def_sweep.specs.Marking.{ProgramFacts, callee_of, callee_facts, facts_in, dummy_set, read_by, place_from, first_statement, entry_point, end_point}
use Rattle.def_sweep.specs.Program.{is_reached}
use Rattle.def_sweep.specs.SplitMarks.{CallsRead', CallsRead}
use Rattle.law_sweep.proofs.Adjoint.{emitted_is_adjoint}
use Rattle.law_sweep.proofs.UnitLists.{found_there}
use Rattle.law_emitted.specs.Checked.{IsChecked, AreLawfulForWith}
use Rattle.law_emitted.proofs.Lists.{Each, each_unit, each_found}
use Rattle.law_emitted.proofs.Statements.{CallHasNone}
use Rattle.law_emitted.proofs.Callings.{roots_reached}
use Rattle.law_emitted.proofs.Premises.{units_apart, found, all_calls, calls_known, written, kernel, extent_is_dummy, no_lines, source_fits}
use Rattle.adj_reach.specs.Reached.{begins}
use Rattle.def_flow.specs.Parts.{Part, parts, find_part}
use Rattle.def_names.specs.StatementsIn.{statements_in}
use Rattle.def_flow.specs.Problem.{Problem, IsHead, TakesPart, flagged}
use Rattle.def_flow.specs.Flow as flow
use Rattle.def_flow.specs.Activity as activity
use Rattle.def_flow.specs.Live.{Liveness, wanted}
use Rattle.law_flow.proofs.Wanted.{wanted_read}
use Rattle.def_flow.specs.Analysed.{Analysed}
use Rattle.law_flow.proofs.Heads.{flagged_has, head_part}
use Rattle.law_flow.proofs.Statements.{entries_are_closed}
use Rattle.def_planned.specs.ProgramFacts.{program_facts, IsUnmarked}
use Rattle.law_analysed.specs.Meets.{StepsUnsplit, IsPlainAct, IsPlainCode, AnalysedFits, AnalysedIsAdjoint, AnalysedFitsReversed, AnalysedReverses}
use Rattle.law_analysed.proofs.Numbers.{Placed, placed}
use Rattle.law_analysed.proofs.Meets.{some_same, has_contains, analysed_meets}
use Rattle.law_analysed.proofs.Checked.{plain_code, part_found}
use Rattle.def_sweep.specs.MarkedLines.{reversed_lines}
use Rattle.law_analysed.proofs.MarkedLines.{lines_tell}
use Rattle.law_analysed.proofs.Reaching.{taking, reached_closed}

module _ (rules : Rules) (k : Problem) (checked : IsChecked rules k.units) (sb : Bool) (free : sb ≡ false → EachUnit (λ u. IsUnmarked u.body) k.units) (a : activity.Activity) (l : Liveness) (saved held : ℕ → Vars) (y : Analysed k a l saved held) (steps : StepsUnsplit k) where
  abbrev w : ProgramFacts
  w = program_facts k.units k.split a l saved held

  abbrev gf : List ℕ → CalleeFacts
  gf = callee_facts w k.units

  -- ---- each unit

  plain_unit : (name : List ℕ) (u : Procedure) → find_unit k.units name ≡ Some u → IsPlainCode sb k.units u.body
  plain_unit name u f =
      let text = written rules k.units checked name u f in
      plain_code sb k.units u u.body text.body (kernel rules k.units checked name u f) (each_found (λ u. Each (CallHasNone k.units u) (statements u.body)) k.units (all_calls rules k.units checked) name u f)
      (λ e. each_found (λ u. IsUnmarked u.body) k.units (each_unit (λ u. IsUnmarked u.body) k.units (free e)) name u f)

  -- ---- the head

  module _ (top : Procedure) (at : unit_at k.head k.units ≡ top ∷ []) where
    record Head : Type 0 where
      part : Part
      is : IsHead k part
      unit : part.unit ≡ top
      there : Placed k.units top.name part
      finds : find_part (parts k.units) part.unit.name ≡ Some part

    head : Head
    head =
        let h = head_part (statements_in 0 k.units) 0 0 k.units k.head top at in
        let finds = part_found (statements_in 0 k.units) 0 0 k.units (units_apart rules k.units checked) k.head h.0 h.1 in
        record { part = h.0; is = record { is = h.1 }; unit = h.2; there = subst (λ v. Placed k.units v.name h.0) h.2 (placed k.units h.0.unit.name h.0 finds); finds = finds }

    -- the units that calls reach from it
    abbrev reached : List ℕ → Bool
    reached = is_reached (name_eq head.part.unit.name) (λ i. true) k.units

    -- ---- the units that it reaches

    -- the part of a unit that is found
    record PartOf (name : List ℕ) (u : Procedure) : Type 0 where
      part : Part
      finds : find_part (parts k.units) name ≡ Some part
      unit : part.unit ≡ u
      there : Placed k.units name part
      takes : TakesPart k part

    part_of : (name : List ℕ) (v : Procedure) → find_unit k.units name ≡ Some v → IsTrue (reached name) → PartOf name v
    part_of name v f c =
        let t = taking k (found rules k.units checked) head.part head.is head.finds (length k.units) name v f c in
        let there = placed k.units name t.part t.finds in
        record { part = t.part; finds = t.finds; unit = some_same t.part.unit v (sym there.found ∙ f); there = there; takes = t.takes }

    unit_laws : (name : List ℕ) (u : Procedure) → find_unit k.units name ≡ Some u → IsTrue (reached name) → UnitLawsBy (schedules_by sb gf) gf (gf name) (first_statement k.units name) u.body
    unit_laws name u f c =
        let p = part_of name u f c in
        let same : p.part.unit.name ≡ name = ap (λ z. z.name) p.unit ∙ (found_there k.units name u f).1 in
        let laws : UnitLawsBy (schedules_by sb gf) gf (gf p.part.unit.name) (first_statement k.units p.part.unit.name) p.part.unit.body =
        analysed_meets sb k a l saved held y steps p.part p.takes (ap (find_part (parts k.units)) same ∙ p.finds) (subst (λ v. IsPlainCode sb k.units v.body) (sym p.unit) (plain_unit name u f)) in
        subst (λ v. UnitLawsBy (schedules_by sb gf) gf (gf name) (first_statement k.units name) v.body) p.unit (subst (λ n. UnitLawsBy (schedules_by sb gf) gf (gf n) (first_statement k.units n) p.part.unit.body) same laws)

    unit_extents : (name : List ℕ) (u : Procedure) → find_unit k.units name ≡ Some u → IsTrue (reached name) → (d : List ℕ) → is_extent d u.declarations ≡ true → In (plain d) (w.marks.members name)
    unit_extents name u f c d h =
        let p = part_of name u f c in
        let o = entries_are_closed k a l saved held y p.part p.takes in
        let there = p.there in
        let among : Contains p.part.unit.dummies d = subst (λ v. Contains v.dummies d) (sym p.unit) (has_contains d u.dummies (extent_is_dummy rules k.units checked name u f d h)) in
        subst (λ n. l.wanted n d ≡ true) there.number (o.extents d among (subst (λ v. is_extent d v.declarations ≡ true) (sym p.unit) h))

    -- what the adjoint of a unit needs at its entry the unit reads
    wants_read : (name : List ℕ) (v : Procedure) → find_unit k.units name ≡ Some v → IsTrue (reached name) → (d : List ℕ) → l.wanted (place_from 0 k.units name) d ≡ true → is_read k.units v d ≡ true
    wants_read name v f c d h =
        let p = part_of name v f c in
        let there = p.there in
        let live = y.live in
        subst (λ z. is_read k.units z d ≡ true) p.unit (wanted_read k a p.part d p.takes ((live.exact (wanted p.part.number d)).0 (subst (λ n. l.wanted n d ≡ true) (sym there.number) h)))

    -- what a call reads of its unit, and what the unit's adjoint needs of it
    call_reads : (name : List ℕ) (v : Procedure) → find_unit k.units name ≡ Some v → IsTrue (reached name) → CallsRead' gf (looked_at k.units) (call name none)
    call_reads name v f c = (
      least_row read_rule read_rises k.units name v f ∙ sym (known_reads (find_unit k.units name) f),
      λ d h. read_there d (find_unit k.units name) f (wants_read name v f c d (wanted_there d (find_unit k.units name) h)),
    )
      where
        known_reads : (o : Option Procedure) → o ≡ Some v → map (λ d. dummy_set (read_by k.units o) (plain d)) (callee_of w.marks k.units name o).dummies ≡ map (is_read k.units v) v.dummies
        known_reads o e = ap (λ z. map (λ d. dummy_set (read_by k.units z) (plain d)) (callee_of w.marks k.units name z).dummies) e

        wanted_there : (d : List ℕ) (o : Option Procedure) → (callee_of w.marks k.units name o).members (plain d) ≡ true → l.wanted (place_from 0 k.units name) d ≡ true
        wanted_there d None h = h
        wanted_there d (Some u) h = h

        read_there : (d : List ℕ) (o : Option Procedure) → o ≡ Some v → is_read k.units v d ≡ true → dummy_set (read_by k.units o) (plain d) ≡ true
        read_there d o e h = subst (λ z. dummy_set (read_by k.units z) (plain d) ≡ true) (sym e) h

    mutual
      act_reads : (b : Act) → IsPlainAct sb k.units b → CallsInside' reached b → CallsRead' gf (looked_at k.units) b
      act_reads (assign x subs e) n c = tt
      act_reads (choose t a b) n c = (calls_read a n.0 c.0, calls_read b n.1 c.1)
      act_reads (loop x first last by body m) n c = calls_read body n.1 c
      act_reads (during t body) n c = calls_read body n c
      act_reads (call name args) n c = call_reads name n.unit n.found c
      act_reads (runtime r) n c = tt

      calls_read : (b : Code) → IsPlainCode sb k.units b → CallsInside reached b → CallsRead gf (looked_at k.units) b
      calls_read stop n c = tt
      calls_read (step line b rest) n c = (act_reads b n.0 c.0, calls_read rest n.1 c.1)

    lawful : AreLawfulForWith sb w k.units top
    lawful = record {
      reached = reached;
      head_reached = roots_reached (name_eq head.part.unit.name) (λ i. true) k.units top.name top there_is top.name (ap (λ z. name_eq z.name top.name) head.unit ∙ name_refl top.name);
      closed = λ name v f c. reached_closed (name_eq head.part.unit.name) k.units (calls_known k.units k.units (all_calls rules k.units checked)) name v f c;
      laws = unit_laws;
      extents = unit_extents;
      reads = λ name u f c p. calls_read u.body (plain_unit name u f) (reached_closed (name_eq head.part.unit.name) k.units (calls_known k.units k.units (all_calls rules k.units checked)) name u f c);
    }
      where
        there_is : find_unit k.units top.name ≡ Some top
        there_is = (let there = head.there in there.found) ∙ ap Some head.unit

    -- ---- it suits the head

    suits : SuitHead (facts_in w top.name).marks (entry_point k.units top.name) (end_point k.units top.name) top k.vars k.outvars
    suits =
        let g = head in
        let there = g.there in
        let active = y.active in
        record {
          varied = λ x m.
              subst (λ p. In (plain x) (a.varied p)) there.entry
              ((active.varied g.part.entry (plain x)).1 (begins (flow.independent g.is (subst (λ v. Contains (flagged k.vars v.dummies) x) (sym g.unit) (flagged_has top.dummies k.vars x m)))));
          useful = λ x m.
              subst (λ p. In (plain x) (a.useful p)) there.end
              ((active.useful g.part.end (plain x)).1 (begins (flow.dependent g.is (subst (λ v. Contains (flagged k.outvars v.dummies) x) (sym g.unit) (flagged_has top.dummies k.outvars x m)))));
          shadowed = λ x m.
              subst (λ n. In (plain x) (a.shadowed n)) there.number
              ((active.shadowed g.part.number (plain x)).1 (begins (activity.dependent g.is (subst (λ v. Contains (flagged k.outvars v.dummies) x) (sym g.unit) (flagged_has top.dummies k.outvars x m)))));
        }

-- where no loop need be unmarked
none_unmarked : (us : List Procedure) → true ≡ false → EachUnit (λ u. IsUnmarked u.body) us
none_unmarked us e = absurd cc

pub analysed_fits : AnalysedFits
analysed_fits rules k checked free a l saved held y steps u at =
    let w = program_facts k.units k.split a l saved held in
    source_fits rules k.units checked false (λ line. None) w u (lawful rules k checked false (λ e. free) a l saved held y steps u at) (no_lines w k.units) k.head at

pub analysed_fits_reversed : AnalysedFitsReversed
analysed_fits_reversed rules k checked apart a l saved held y steps u at =
    let w = program_facts k.units k.split a l saved held in
    source_fits rules k.units checked true (reversed_lines w k.units) w u (lawful rules k checked true (none_unmarked k.units) a l saved held y steps u at) (lines_tell w k.units apart) k.head at

pub analysed_is_adjoint : AnalysedIsAdjoint
analysed_is_adjoint rules k checked free a l saved held y steps u at =
    let w = program_facts k.units k.split a l saved held in
    emitted_is_adjoint false (λ line. None) w k.units k.head k.vars k.outvars u at (analysed_fits rules k checked free a l saved held y steps u at) (suits rules k checked false (λ e. free) a l saved held y steps u at)

pub analysed_reverses : AnalysedReverses
analysed_reverses rules k checked apart a l saved held y steps u at =
    let w = program_facts k.units k.split a l saved held in
    emitted_is_adjoint true (reversed_lines w k.units) w k.units k.head k.vars k.outvars u at (analysed_fits_reversed rules k checked apart a l saved held y steps u at) (suits rules k checked true (none_unmarked k.units) a l saved held y steps u at)
