-- The worked program, where its call is split, is as the theorem asks, and so what is emitted for it is its adjoint.
use Rattle.std.proofs.Common.{◌≡◌, ℕ, Bool, true, false, List, [], ◌∷◌, refl, ap, arith, codes}
use Rattle.std.specs.Prelude.{◌||◌, None}
use Rattle.adj_tree.specs.Code.{name_eq, Procedure}
use Rattle.adj_tree.proofs.Names.{name_same}
use Rattle.def_meaning.specs.Written.{is_written}
use Rattle.def_sweep.specs.Callees.{CalleeFacts}
use Rattle.def_sweep.specs.SplitMarks.{split_marks}
use Rattle.law_sweep.specs.Laws.{UnitLaws}
use Rattle.law_sweep.specs.Environment.{PairFits}
use Rattle.def_sweep.specs.Marking.{callee_facts, first_statement, facts_in, entry_point, end_point}
use Rattle.def_sweep.specs.Program.{has_adjoint, has_pair, is_carried, emitted_program}
use Rattle.def_sweep.specs.Program as program
use Rattle.law_sweep.specs.Source.{SourceFits}
use Rattle.def_sweep.specs.Adjoint.{IsAdjoint}
use Rattle.def_sweep.specs.MarkedAdjoint.{SuitHead}
use Rattle.law_sweep.proofs.Adjoint.{emitted_is_adjoint}
use Rattle.law_sweep.specs.Examples.{squares, twice, pair_facts}
use Rattle.law_sweep.proofs.SquaresFit.{both, vars, arrays, squares_code, squares_fit, twice_fit, both_fit}

abbrev g : List ℕ → CalleeFacts
g = callee_facts pair_facts both

abbrev qs : List Procedure
qs = emitted_program pair_facts.marks both 1 (true ∷ false ∷ []) (true ∷ false ∷ [])

abbrev answers : List ℕ → Bool
answers = program.answers pair_facts.marks both twice

abbrev there : List ℕ → Bool
there = has_adjoint pair_facts.marks both twice

abbrev paired : List ℕ → Bool
paired = has_pair pair_facts.marks both twice

abbrev carried : List ℕ → Bool
carried = is_carried pair_facts.marks both twice

pub pair_twice : UnitLaws g (g (codes "T")) 2 twice.body
pair_twice = record {
  laws = (
    record { values = record { needs = λ v h. refl; holds = λ v h. refl }; tangents = record { varies = λ v h. refl; serves = λ v h. refl; shadows = λ v a b. refl } },
    (
      (
        codes "X" ∷ codes "M" ∷ [],
        (
          refl,
          record {
            kept = refl;
            adjointed = refl;
            holds_reads = λ d x b n o. refl;
            call = record {
              values = record { needs = λ v h. refl; holds = λ v h. refl };
              tangents = record { varies = λ v h. refl; serves = λ v h. refl; shadows = λ v a b. refl };
              needs_uses = λ a d x b n. refl;
              varies_in = λ d x b h. refl;
              serves_in = λ d x b h. refl;
              varies_out = λ d x b h. refl;
              serves_out = λ d x b h. refl;
              shadows_actual = λ d x b h. refl;
              shadows_dummy = λ d x b h o. refl;
            };
          },
        ),
      ),
      tt,
    ),
  );
  ends = record { values = record { needs = λ v h. refl; holds = λ v h. refl }; tangents = record { varies = λ v h. refl; serves = λ v h. refl; shadows = λ v a b. refl } };
  shadows = λ v a b. refl;
  members = λ d h n. refl;
}

pub pair_squares : UnitLaws g (g (codes "S")) 0 squares.body
pair_squares = record {
  laws = (
    record { values = record { needs = λ v h. refl; holds = λ v h. refl }; tangents = record { varies = λ v h. refl; serves = λ v h. refl; shadows = λ v a b. refl } },
    (
      (
        record {
          keeps_adjointed = λ h. refl;
          keeps = λ h. absurd cc;
          keeps_reset = λ h. refl;
          keeps_variable = λ h. refl;
          needs_uses = λ k v h. refl;
          saves = λ k h. refl;
          entry_values = record { needs = λ v h. refl; holds = λ v h. refl };
          entry_tangents = record { varies = λ v h. refl; serves = λ v h. refl; shadows = λ v a b. refl };
          step_values = record { needs = λ v h. refl; holds = λ v h. refl };
          step_tangents = record { varies = λ v h. refl; serves = λ v h. refl; shadows = λ v a b. refl };
          exit = record { values = record { needs = λ v h. refl; holds = λ v h. refl }; tangents = record { varies = λ v h. refl; serves = λ v h. refl; shadows = λ v a b. refl } };
          adjoints_reset = λ h. refl;
        },
        (
          record { values = record { needs = λ v h. refl; holds = λ v h. refl }; tangents = record { varies = λ v h. refl; serves = λ v h. refl; shadows = λ v a b. refl } },
          (
            record {
              values = record { needs = λ v h. refl; holds = λ v h. refl };
              tangents = record { varies = λ v h. refl; serves = λ v h. refl; shadows = λ v a b. refl };
              needs_reads = λ v h. refl;
              needs_uses = λ k v h. refl;
              keeps = λ h. refl;
              holds_reads = λ v h. refl;
              saves = λ k h. refl;
              varies_target = λ v a b. refl;
              serves_target = λ v a b. refl;
              adjoints = refl;
              shadows = λ v a b. refl;
            },
            tt,
          ),
        ),
      ),
      tt,
    ),
  );
  ends = record { values = record { needs = λ v h. refl; holds = λ v h. refl }; tangents = record { varies = λ v h. refl; serves = λ v h. refl; shadows = λ v a b. refl } };
  shadows = λ v a b. refl;
  members = λ d h n. refl;
}

-- the forward and the backward unit of S are as is asked
squares_pair : PairFits None (λ line. None) both g answers paired carried (codes "S") squares (first_statement both (codes "S")) (vars (codes "S")) (arrays (codes "S"))
squares_pair = record {
  calls = ((tt, tt), tt);
  written = λ x w. wrote_known (name_eq x (codes "I")) (name_eq x (codes "A")) (name_eq x (codes "N")) w;
  extents = λ d e. extent_kept d (name_eq d (codes "N")) refl e;
  inside = λ x. refl;
  code = squares_code pair_facts answers paired carried true (split_marks (g (codes "S")).facts.marks) (first_statement both (codes "S"));
}
  where
    wrote_known : (i a n : Bool) → ((i || (a || false)) || false) ≡ true → (a || (n || (i || false))) ≡ true
    wrote_known true true n w = refl
    wrote_known true false true w = refl
    wrote_known true false false w = refl
    wrote_known false true n w = refl
    wrote_known false false n w = absurd cc

    extent_kept : (d : List ℕ) (n : Bool) → name_eq d (codes "N") ≡ n → ((n || false) || false) ≡ true → is_written both squares d ≡ false
    extent_kept d true e h = ap (is_written both squares) (name_same d (codes "N") e)
    extent_kept d false e h = absurd cc

-- the source is as the theorem on whole programs asks
pub pair_fits : SourceFits (λ line. None) pair_facts both twice
pair_fits = both_fit pair_facts
    (squares_fit pair_facts there answers paired carried (λ h. absurd cc) pair_squares (λ d h. refl) (λ h. squares_pair))
    (twice_fit pair_facts there answers paired carried (λ h. absurd cc) pair_twice (λ d h. refl) (λ h. absurd cc) (λ pr a. refl)) refl

suits : SuitHead (facts_in pair_facts (codes "T")).marks (entry_point both (codes "T")) (end_point both (codes "T")) twice (true ∷ false ∷ []) (true ∷ false ∷ [])
suits = record { varied = λ x h. refl; useful = λ x h. refl; shadowed = λ x h. refl }

-- the program that is emitted for T is its adjoint
pub pair_adjoint : IsAdjoint (λ line. None) pair_facts.marks both 1 (true ∷ false ∷ []) (true ∷ false ∷ []) qs
pair_adjoint = emitted_is_adjoint false (λ line. None) pair_facts both 1 (true ∷ false ∷ []) (true ∷ false ∷ []) twice refl pair_fits suits
