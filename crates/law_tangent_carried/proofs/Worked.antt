-- The program with two calls, and the one with a marked loop, are as the laws on tangents ask.
use Rattle.std.proofs.Common.{ℕ, List, [], ◌∷◌, true, false, refl, arith, codes}
use Rattle.std.proofs.lemmas.List.Elements.{All-nil, All-cons}
use Rattle.def_text.specs.Written.{IsName, IsWrittenExtent, IsWrittenDeclaration, IsWrittenProcedure}
use Rattle.def_names.specs.Fault.{source_rules}
use Rattle.adj_tree.specs.Code.{Declaration}
use Rattle.law_emitted.specs.Checked.{IsChecked}
use Rattle.law_tangent.specs.Examples.{caller, scales, counts}
use Rattle.def_flow.specs.Carried.{IsCarrying}
use Rattle.law_flow.specs.Computed.{by_point}
use Rattle.law_kernel.specs.Sound.{IsAccepted}
use Rattle.law_tangent_carried.specs.Computed.{carrying}
use Rattle.law_tangent_carried.specs.Worked.{caller_problem, caller_varied, caller_on, CallerIsTangent, squaring_loop, loop_problem, LoopIsTangent}
use Rattle.law_tangent_carried.proofs.Through.{accepted_is_tangent}
use Rattle.law_tangent_carried.proofs.Computing.{carrying_found}
use Rattle.law_tangent_carried.proofs.Fits.{carrying_is_tangent}

abbrev scalar : ℕ → List ℕ → Declaration
scalar line x = record { line = line; name = x; extents = [] }

-- a declared scalar is written
one_declared : (line : ℕ) (x : List ℕ) → IsName x → IsWrittenDeclaration (scalar line x)
one_declared line x h = record { named = h; few_extents = omega arith; extents = All-nil IsWrittenExtent }

-- the three units are written
caller_written : IsWrittenProcedure caller
caller_written = record {
  named = (refl, refl);
  dummies = All-cons IsName (codes "A") (codes "B" ∷ codes "K" ∷ []) (refl, refl) (All-cons IsName (codes "B") (codes "K" ∷ []) (refl, refl) (All-cons IsName (codes "K") [] (refl, refl) (All-nil IsName)));
  declarations = All-cons IsWrittenDeclaration (scalar 2 (codes "A")) (scalar 2 (codes "B") ∷ scalar 2 (codes "K") ∷ []) (one_declared 2 (codes "A") (refl, refl)) (All-cons IsWrittenDeclaration (scalar 2 (codes "B")) (scalar 2 (codes "K") ∷ []) (one_declared 2 (codes "B") (refl, refl)) (All-cons IsWrittenDeclaration (scalar 2 (codes "K")) [] (one_declared 2 (codes "K") (refl, refl)) (All-nil IsWrittenDeclaration)));
  body = (((refl, refl), ((refl, refl), ((refl, refl), tt)), refl), (((refl, refl), ((refl, refl), tt), refl), (((refl, refl), (refl, refl)), tt)));
}

scales_written : IsWrittenProcedure scales
scales_written = record {
  named = (refl, refl);
  dummies = All-cons IsName (codes "U") (codes "W" ∷ []) (refl, refl) (All-cons IsName (codes "W") [] (refl, refl) (All-nil IsName));
  declarations = All-cons IsWrittenDeclaration (scalar 8 (codes "U")) (scalar 8 (codes "W") ∷ []) (one_declared 8 (codes "U") (refl, refl)) (All-cons IsWrittenDeclaration (scalar 8 (codes "W")) [] (one_declared 8 (codes "W") (refl, refl)) (All-nil IsWrittenDeclaration));
  body = (((refl, refl), ((refl, refl), (refl, refl))), tt);
}

counts_written : IsWrittenProcedure counts
counts_written = record {
  named = (refl, refl);
  dummies = All-cons IsName (codes "Z") [] (refl, refl) (All-nil IsName);
  declarations = All-cons IsWrittenDeclaration (scalar 12 (codes "Z")) [] (one_declared 12 (codes "Z") (refl, refl)) (All-nil IsWrittenDeclaration);
  body = (((refl, refl), ((refl, refl), omega arith)), tt);
}

-- the program is checked
checked : IsChecked source_rules caller_problem.units
checked = record {
  written = All-cons IsWrittenProcedure caller (scales ∷ counts ∷ []) caller_written (All-cons IsWrittenProcedure scales (counts ∷ []) scales_written (All-cons IsWrittenProcedure counts [] counts_written (All-nil IsWrittenProcedure)));
  sound = refl;
  kernel = (((refl, (refl, tt)), ((refl, tt), ((refl, tt), tt))), (((refl, (tt, tt)), tt), (((refl, (tt, tt)), tt), tt)));
}

-- what is computed of it is exact
exact : IsCarrying caller_problem caller_varied caller_on
exact = carrying_found caller_problem 12 refl

-- the first example
pub caller_is_tangent : CallerIsTangent
caller_is_tangent = record {
  exact = exact;
  tangent = carrying_is_tangent source_rules caller_problem checked caller_varied caller_on exact 4 (omega arith) ((tt, (tt, (omega arith, tt))), ((omega arith, tt), ((omega arith, tt), tt))) caller refl;
  program = refl;
}

-- ---- the marked loop

-- the unit with the loop is written
loop_written : IsWrittenProcedure squaring_loop
loop_written = record {
  named = (refl, refl);
  dummies = All-cons IsName (codes "N") (codes "X" ∷ []) (refl, refl) (All-cons IsName (codes "X") [] (refl, refl) (All-nil IsName));
  declarations = All-cons IsWrittenDeclaration (scalar 2 (codes "N")) (scalar 2 (codes "X") ∷ scalar 2 (codes "I") ∷ []) (one_declared 2 (codes "N") (refl, refl)) (All-cons IsWrittenDeclaration (scalar 2 (codes "X")) (scalar 2 (codes "I") ∷ []) (one_declared 2 (codes "X") (refl, refl)) (All-cons IsWrittenDeclaration (scalar 2 (codes "I")) [] (one_declared 2 (codes "I") (refl, refl)) (All-nil IsWrittenDeclaration)));
  body = (((refl, refl), omega arith, (refl, refl), omega arith, (((refl, refl), ((refl, refl), (refl, refl))), tt), (omega arith, omega arith)), tt);
}

-- the program is accepted
loop_accepted : IsAccepted (squaring_loop ∷ [])
loop_accepted = record { written = All-cons IsWrittenProcedure squaring_loop [] loop_written (All-nil IsWrittenProcedure); sound = refl }

-- what is computed of its kernel is exact
loop_exact : IsCarrying loop_problem (by_point (carrying loop_problem 12).varied) (by_point (carrying loop_problem 12).carried)
loop_exact = carrying_found loop_problem 12 refl

-- the second example
pub loop_is_tangent : LoopIsTangent
loop_is_tangent = record {
  exact = loop_exact;
  tangent = accepted_is_tangent (squaring_loop ∷ []) loop_accepted (codes "R") squaring_loop refl (false ∷ true ∷ []) (false ∷ true ∷ []) _ _ loop_exact 4 (omega arith) (((omega arith, (tt, tt)), tt), ((omega arith, tt), tt));
  units = refl;
}
