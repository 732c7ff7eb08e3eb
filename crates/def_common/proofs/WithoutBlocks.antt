-- A program without blocks is its own lowered program, and has no refusal of layouts.
use Rattle.std.proofs.Common.{◌≡◌, ℕ, List, [], ◌∷◌, ◌++◌, map, refl, ap, ◌∙◌, if◌then◌else◌}
use Rattle.std.proofs.Math.Dec.{eqb-suc-zero}
use Rattle.std.specs.Prelude.{length, ◌==◌, None, Ok}
use Rattle.adj_tree.specs.Code.{Terms, none, more, Act, assign, choose, loop, during, call, runtime, Code, stop, step, Extent, Declaration, Procedure}
use Rattle.adj_tree.specs.Common.{Shared, without_commons}
use Rattle.def_names.specs.Fault.{first_of}
use Rattle.def_common.specs.Blocks.{all_blocks, without_repeats, blocks, uses, chosen, used_blocks}
use Rattle.def_common.specs.Members.{Member, member_names, names_of_blocks, members_from, taken_in, members}
use Rattle.def_common.specs.Lowering.{with_extents, new_declarations, behind, lowered_act, lowered, lowered_unit, lowered_program}
use Rattle.def_common.specs.Refused.{faults_in, layout_refusal}
use Rattle.def_common.specs.Source.{or_refused, without_blocks}

nothing_behind : (args : Terms) → behind args [] ≡ args
nothing_behind none = refl
nothing_behind (more e es) = ap (more e) (nothing_behind es)

nothing_after : {A : Type 0} (l : List A) → l ++ [] ≡ l
nothing_after [] = refl
nothing_after (a ∷ l) = ap (λ r. a ∷ r) (nothing_after l)

same_declarations : (ds : List Declaration) → map (with_extents []) ds ≡ ds
same_declarations [] = refl
same_declarations (d ∷ ds) = λ i. one d.extents i ∷ same_declarations ds i
  where
    one : (es : List Extent) → (if length es == 0 then record d { extents = [] } else record d { extents = es }) ≡ record d { extents = es }
    one [] = refl
    one (e ∷ es) = ap (λ b. if b then record d { extents = [] } else record d { extents = e ∷ es }) (eqb-suc-zero (length es))

module _ (ps : List Shared) (ms : List Member) (h : (name : List ℕ) → used_blocks ps name ≡ []) where
  mutual
    same_act : (a : Act) → lowered_act ps ms a ≡ a
    same_act (assign x subs e) = refl
    same_act (choose c a b) = λ i. choose c (same_code a i) (same_code b i)
    same_act (loop x first last by body m) = λ i. loop x first last by (same_code body i) m
    same_act (during c body) = ap (during c) (same_code body)
    same_act (call name args) = ap (call name) (ap (λ bs. behind args (names_of_blocks ms bs)) (h name) ∙ nothing_behind args)
    same_act (runtime r) = refl

    same_code : (c : Code) → lowered ps ms c ≡ c
    same_code stop = refl
    same_code (step line a rest) = λ i. step line (same_act a i) (same_code rest i)

module _ (ps : List Shared) (h : blocks ps ≡ []) where
  none_used : (name : List ℕ) → used_blocks ps name ≡ []
  none_used name = ap (chosen (uses ps name)) h

  no_members : (s : Shared) → members ps s ≡ []
  no_members s = ap (λ bs. members_from ps s (taken_in ps s) (chosen (uses ps s.unit.name) bs)) h

  -- each unit is itself
  pub same_unit : (s : Shared) → lowered_unit ps s ≡ s.unit
  same_unit s = by_members (members ps s) (no_members s)
    where
      by_members : (ms : List Member) → ms ≡ [] → record s.unit { dummies = s.unit.dummies ++ member_names ms; declarations = map (with_extents ms) s.unit.declarations ++ new_declarations s.unit ms; body = lowered ps ms s.unit.body } ≡ s.unit
      by_members ms e =
          λ i. record s.unit {
            dummies = (ap (λ l. s.unit.dummies ++ member_names l) e ∙ nothing_after s.unit.dummies) i;
            declarations = (ap (λ l. map (with_extents l) s.unit.declarations ++ new_declarations s.unit l) e ∙ (nothing_after (map (with_extents []) s.unit.declarations) ∙ same_declarations s.unit.declarations)) i;
            body = same_code ps ms none_used s.unit.body i;
          }

  -- the lowered program has just the units
  pub same_units : lowered_program ps ≡ map (λ s. s.unit) ps
  same_units = go ps
    where
      go : (l : List Shared) → map (lowered_unit ps) l ≡ map (λ s. s.unit) l
      go [] = refl
      go (s ∷ l) = λ i. same_unit s i ∷ go l i

  pub none_refused : layout_refusal ps ≡ None
  none_refused = ap (λ bs. first_of (faults_in ps bs)) h

-- ---- units that are made without any

no_blocks : (ps : List Procedure) → blocks (map without_commons ps) ≡ []
no_blocks ps = ap (without_repeats []) (go ps)
  where
    go : (l : List Procedure) → all_blocks (map without_commons l) ≡ []
    go [] = refl
    go (u ∷ l) = go l

-- the lowered program is the program
pub lowered_same : (ps : List Procedure) → lowered_program (map without_commons ps) ≡ ps
lowered_same ps = same_units (map without_commons ps) (no_blocks ps) ∙ go ps
  where
    go : (l : List Procedure) → map (λ s. s.unit) (map without_commons l) ≡ l
    go [] = refl
    go (u ∷ l) = ap (λ r. u ∷ r) (go l)

-- and isn't refused
pub accepted_without : (ps : List Procedure) → layout_refusal (map without_commons ps) ≡ None
accepted_without ps = none_refused (map without_commons ps) (no_blocks ps)

-- so it is what it is without blocks
pub without_same : (ps : List Procedure) → without_blocks (map without_commons ps) ≡ Ok ps
without_same ps = λ i. or_refused (accepted_without ps i) (lowered_same ps i)
