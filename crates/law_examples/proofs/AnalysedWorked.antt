-- The program with a checkpointed call is as the law on analysed programs asks.
use Rattle.std.proofs.Common.{ℕ, List, [], ◌∷◌, refl, arith, codes}
use Rattle.std.proofs.lemmas.List.Elements.{All-nil, All-cons}
use Rattle.def_text.specs.Written.{IsName, IsWrittenExtent, IsWrittenDeclaration, IsWrittenProcedure}
use Rattle.def_names.specs.Fault.{source_rules}
use Rattle.law_sweep.specs.AdjointExamples.{declare}
use Rattle.law_emitted.specs.Checked.{IsChecked}
use Rattle.law_examples.specs.Programs.{calling, squaring_itself}
use Rattle.law_flow.specs.Computed.{HasTable}
use Rattle.law_flow.proofs.Computing.{computed_table}
use Rattle.law_examples.specs.AnalysedWorked.{calling_problem, calling_table, CallingIsAdjoint}
use Rattle.law_analysed.proofs.Adjoint.{analysed_is_adjoint}

-- ---- it is written

one_declared : (line : ℕ) (x : List ℕ) → IsName x → IsWrittenDeclaration (declare line x)
one_declared line x h = record { named = h; few_extents = omega arith; extents = All-nil IsWrittenExtent }

calling_written : IsWrittenProcedure calling
calling_written = record {
  named = (refl, refl);
  dummies = All-cons IsName (codes "X") (codes "Y" ∷ []) (refl, refl) (All-cons IsName (codes "Y") [] (refl, refl) (All-nil IsName));
  declarations = All-cons IsWrittenDeclaration (declare 2 (codes "X")) (declare 2 (codes "Y") ∷ []) (one_declared 2 (codes "X") (refl, refl)) (All-cons IsWrittenDeclaration (declare 2 (codes "Y")) [] (one_declared 2 (codes "Y") (refl, refl)) (All-nil IsWrittenDeclaration));
  body = (((refl, refl), (refl, refl)), (((refl, refl), ((refl, refl), tt), refl), (((refl, refl), ((refl, refl), (refl, refl))), tt)));
}

squaring_written : IsWrittenProcedure squaring_itself
squaring_written = record {
  named = (refl, refl);
  dummies = All-cons IsName (codes "A") [] (refl, refl) (All-nil IsName);
  declarations = All-cons IsWrittenDeclaration (declare 8 (codes "A")) [] (one_declared 8 (codes "A") (refl, refl)) (All-nil IsWrittenDeclaration);
  body = (((refl, refl), ((refl, refl), (refl, refl))), tt);
}

checked : IsChecked source_rules calling_problem.units
checked = record {
  written = All-cons IsWrittenProcedure calling (squaring_itself ∷ []) calling_written (All-cons IsWrittenProcedure squaring_itself [] squaring_written (All-nil IsWrittenProcedure));
  sound = refl;
  kernel = (((refl, tt), ((refl, tt), ((refl, (tt, tt)), tt))), (((refl, (tt, tt)), tt), tt));
}

-- ---- so it is an adjoint

table : HasTable calling_problem calling_table
table = computed_table calling_problem 12 calling_table refl refl

pub calling_is_adjoint : CallingIsAdjoint
calling_is_adjoint = (
  table,
  analysed_is_adjoint source_rules calling_problem checked ((tt, (tt, (tt, tt))), ((tt, tt), tt)) table.activity table.live table.saved table.held table.analysed (λ g t s c e. refl) calling refl,
)
