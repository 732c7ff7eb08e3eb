-- The program that is emitted by marks that meet the laws is an adjoint of the source.
use Rattle.std.proofs.Common.{◌≡◌, ℕ, Bool, false, List, [], ◌∷◌, refl, sym, ap, ◌∙◌, subst, if◌then◌else◌}
use Rattle.std.specs.Prelude.{Some, None}
use Rattle.adj_tree.specs.Code.{Procedure}
use Rattle.adj_tree.proofs.Names.{name_refl}
use Rattle.def_sweep.specs.Marked.{names_in}
use Rattle.def_sweep.specs.Declared.{unit_at, unmarked}
use Rattle.def_sweep.specs.Adjoint.{IsAdjointWith, IsFullAdjoint}
use Rattle.def_sweep.specs.Marking.{full_marks, full_facts, ProgramFacts}
use Rattle.def_sweep.specs.Program.{all_units, adjoint_unit_with, emitted_adjoint_with, emitted_units_with, emitted_for_with, emitted_program_with, emitted_program}
use Rattle.law_sweep.specs.Source.{SourceFits, EmittedIsAdjoint}
use Rattle.law_sweep.proofs.UnitLists.{found_there}
use Rattle.law_sweep.proofs.EmittedUnits.{head_there, adjoint_found}
use Rattle.law_sweep.proofs.HeadRun.{transposes}

-- the head's adjoint, which clears shadows
abbrev cleared_adjoint : Bool → ProgramFacts → List Procedure → Procedure → List Bool → List Bool → Procedure
cleared_adjoint sc w ps u vars outvars = adjoint_unit_with sc w.marks ps (all_units w.marks ps u) u (names_in (w.marks.shadowed u.name) (unmarked u.dummies outvars)) (names_in (w.marks.shadowed u.name) (unmarked u.dummies vars))

pub emitted_is_adjoint : EmittedIsAdjoint
emitted_is_adjoint sc lines w ps head vars outvars u is good suits =
    subst (IsAdjointWith sc lines w.marks ps head vars outvars) (sym program) (record {
      unit = u;
      is_head = is;
      adjoint = cleared_adjoint sc w ps u vars outvars;
      is_there = adjoint_found sc w.marks ps u vars outvars u.name u good.there (head_there sc w.marks ps u vars outvars good.known (found_there ps u.name u good.there).0) ∙ ap Some it;
      dummies = refl;
      transposes = λ input given fit alike k used output done. transposes sc lines w ps u vars outvars good input given fit alike k used output done suits;
    })
  where
    it : emitted_adjoint_with sc w.marks ps u vars outvars u ≡ cleared_adjoint sc w ps u vars outvars
    it = ap (λ b. if b then cleared_adjoint sc w ps u vars outvars else adjoint_unit_with sc w.marks ps (all_units w.marks ps u) u [] []) (name_refl u.name)

    program : emitted_program_with sc w.marks ps head vars outvars ≡ emitted_units_with sc w.marks ps u vars outvars ps
    program = ap (emitted_for_with sc w.marks ps vars outvars) is

-- with full marks every head is suited
pub full_is_adjoint : (ps : List Procedure) (head : ℕ) (vars outvars : List Bool) (u : Procedure) → unit_at head ps ≡ u ∷ [] → SourceFits (λ line. None) full_facts ps u → IsFullAdjoint ps head vars outvars (emitted_program full_marks ps head vars outvars)
full_is_adjoint ps head vars outvars u is good = emitted_is_adjoint false (λ line. None) full_facts ps head vars outvars u is good (record { varied = λ x h. refl; useful = λ x h. refl; shadowed = λ x h. refl })
