-- Facts that spare a call meet the local laws.
use Rattle.std.proofs.Common.{◌≡◌, ℕ, List, [], ◌∷◌, refl, codes}
use Rattle.def_sweep.specs.Callees.{CalleeFacts}
use Rattle.law_sweep.specs.Laws.{UnitLaws}
use Rattle.def_sweep.specs.Emission.{forward, backward}
use Rattle.def_sweep.specs.Marking.{plan_in, callee_facts}
use Rattle.law_sweep.specs.Examples.{squares, twice, lean_facts, lean_forward, twice_backward}
use Rattle.law_sweep.proofs.SquaresFit.{both}

abbrev pub g : List ℕ → CalleeFacts
g = callee_facts lean_facts both

lean_forth : forward (plan_in lean_facts.marks both twice) 2 0 twice.body ≡ lean_forward
lean_forth = refl

lean_back : backward (plan_in lean_facts.marks both twice) 2 0 twice.body ≡ twice_backward
lean_back = refl

pub lean_twice : UnitLaws g (g (codes "T")) 2 twice.body
lean_twice = record {
  laws = (
    record { values = record { needs = λ v h. refl; holds = λ v h. refl }; tangents = record { varies = λ v h. refl; serves = λ v h. refl; shadows = λ v a b. refl } },
    (
      (
        codes "X" ∷ codes "M" ∷ [],
        (
          refl,
          record {
            values = record { needs = λ v h. refl; holds = λ v h. refl };
            tangents = record { varies = λ v h. refl; serves = λ v h. refl; shadows = λ v a b. refl };
            needs_members = λ a d x b n. refl;
            needs_uses = λ a d x b n. refl;
            keeps = λ d x b n h. absurd cc;
            holds_reads = λ a d x b n o. refl;
            saves = λ a d x b n h. refl;
            varies_in = λ d x b h. refl;
            serves_in = λ d x b h. refl;
            varies_out = λ d x b h. refl;
            serves_out = λ d x b h. refl;
            shadows_actual = λ d x b h. refl;
            shadows_dummy = λ d x b h o. refl;
            adjoints = λ h. absurd cc;
          },
        ),
      ),
      tt,
    ),
  );
  ends = record { values = record { needs = λ v h. absurd cc; holds = λ v h. refl }; tangents = record { varies = λ v h. refl; serves = λ v h. refl; shadows = λ v a b. refl } };
  shadows = λ v a b. refl;
  members = λ d h n. refl;
}

pub lean_squares : UnitLaws g (g (codes "S")) 0 squares.body
lean_squares = record {
  laws = (
    record { values = record { needs = λ v h. refl; holds = λ v h. refl }; tangents = record { varies = λ v h. refl; serves = λ v h. refl; shadows = λ v a b. refl } },
    (
      (
        record {
          keeps_adjointed = λ h. refl;
          keeps = λ h. absurd cc;
          keeps_reset = λ h. refl;
          keeps_variable = λ h. refl;
          needs_uses = λ k v h. refl;
          saves = λ k h. refl;
          entry_values = record { needs = λ v h. refl; holds = λ v h. refl };
          entry_tangents = record { varies = λ v h. refl; serves = λ v h. refl; shadows = λ v a b. refl };
          step_values = record { needs = λ v h. refl; holds = λ v h. refl };
          step_tangents = record { varies = λ v h. refl; serves = λ v h. refl; shadows = λ v a b. refl };
          exit = record { values = record { needs = λ v h. absurd cc; holds = λ v h. refl }; tangents = record { varies = λ v h. refl; serves = λ v h. refl; shadows = λ v a b. refl } };
          adjoints_reset = λ h. refl;
        },
        (
          record { values = record { needs = λ v h. refl; holds = λ v h. refl }; tangents = record { varies = λ v h. refl; serves = λ v h. refl; shadows = λ v a b. refl } },
          (
            record {
              values = record { needs = λ v h. refl; holds = λ v h. refl };
              tangents = record { varies = λ v h. refl; serves = λ v h. refl; shadows = λ v a b. refl };
              needs_reads = λ v h. refl;
              needs_uses = λ k v h. refl;
              keeps = λ h. refl;
              holds_reads = λ v h. refl;
              saves = λ k h. refl;
              varies_target = λ v a b. refl;
              serves_target = λ v a b. refl;
              adjoints = refl;
              shadows = λ v a b. refl;
            },
            tt,
          ),
        ),
      ),
      tt,
    ),
  );
  ends = record { values = record { needs = λ v h. absurd cc; holds = λ v h. refl }; tangents = record { varies = λ v h. refl; serves = λ v h. refl; shadows = λ v a b. refl } };
  shadows = λ v a b. refl;
  members = λ d h n. refl;
}
