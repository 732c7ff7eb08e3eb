-- Marks of facts that meet the laws have the shadows that they use.
use Rattle.std.proofs.Common.{◌≡◌, ℕ, suc, List, [], ◌∷◌, refl, sym, ap, ◌∙◌, subst, if◌then◌else◌, Bool, true, false}
use Rattle.std.specs.Prelude.{Option, Some, None}
use Rattle.adj_tree.specs.Code.{plain, Act, assign, choose, loop, during, call, runtime, Code, stop, step, Procedure}
use Rattle.adj_tree.proofs.Names.{name_refl}
use Rattle.def_meaning.specs.Written.{find_unit}
use Rattle.def_sweep.specs.Facts.{In, Facts}
use Rattle.def_meaning.specs.Apart.{AreApart}
use Rattle.def_names.specs.Numbers.{Vars, next, behind}
use Rattle.def_names.specs.Numbering.{point_before, point_after}
use Rattle.def_names.proofs.Variables.{and_true, has_apart}
use Rattle.def_sweep.specs.Plan.{beside, IsActual, names_of}
use Rattle.law_sweep.specs.Laws.{point_inside, ActLaws, ListLaws, CallLawsBy}
use Rattle.def_sweep.specs.Callees.{CalleeFacts}
use Rattle.def_sweep.specs.Marking.{ProgramFacts, callee_facts, callee_in, callee_of, facts_in, first_statement, entry_point, plan_in}
use Rattle.law_sweep.proofs.Passing.{beside_key}
use Rattle.law_emitted.proofs.Lists.{Each, each_found}
use Rattle.law_emitted.proofs.Callings.{Found}
use Rattle.law_emitted.specs.Shadowed.{AreCarried, HasShadows', HasShadows, AllHaveShadows}
use Rattle.law_emitted.specs.Emitted.{LawfulHaveShadows}
use Rattle.law_emitted.proofs.Actuals.{named_back}
use Rattle.law_emitted.proofs.Sources.{UnitSound}
use Rattle.law_emitted.proofs.NameFaults.{NamesSound, all_names_sound}
use Rattle.law_emitted.proofs.CallFaults.{all_there}

-- what holds of each dummy and its actual holds along both lists, where dummies are apart
carried : (sh own : Vars) (ds given : List (List ℕ)) → AreApart ds → ((d a : List ℕ) → IsActual ds given d a → In (plain d) sh → In (plain a) own) → AreCarried sh own ds given
carried sh own [] given p f = tt
carried sh own (d ∷ ds) [] p f = tt
carried sh own (d ∷ ds) (a ∷ given) p f = (
  λ h. f d a (ap (λ b. if b then Some a else beside ds given d) (name_refl d)) h,
  carried sh own ds given p.1 (λ e b h k. f e b (ap (λ t. if t then Some a else beside ds given e) (has_apart e d ds (beside_key ds given e b h) p.0) ∙ h) k),
)

-- a call, split or not, has an actual with a shadow for each dummy with one
actual_shadowed : (b : Bool) (w : Facts) (i : ℕ) (g : CalleeFacts) (given : List (List ℕ)) → CallLawsBy b w i g given → (d a : List ℕ) → IsActual g.callee.dummies given d a → In (plain d) g.callee.shadowed → In (plain a) w.marks.shadowed
actual_shadowed true w i g given laws = laws.call.shadows_actual
actual_shadowed false w i g given laws = laws.shadows_actual

module _ (w : ProgramFacts) (ps : List Procedure) (once : (name : List ℕ) (v : Procedure) → find_unit ps name ≡ Some v → AreApart v.dummies) (u : Procedure) where
  -- the dummies of what is called are apart
  callee_once : (name : List ℕ) → AreApart (callee_in w.marks ps name).dummies
  callee_once name = go (find_unit ps name) refl
    where
      go : (o : Option Procedure) → find_unit ps name ≡ o → AreApart (callee_of w.marks ps name o).dummies
      go None e = tt
      go (Some v) e = once name v e

  mutual
    act_shadows : (i : ℕ) (a : Act) → ActLaws (callee_facts w ps) (facts_in w u.name) i a → HasShadows' (plan_in w.marks ps u) i a
    act_shadows i (assign x subs e) l = λ h. (and_true (w.marks.shadowed u.name x) _ (sym l.adjoints ∙ h)).0
    act_shadows i (choose c a b) l = (list_shadows (point_before i) (suc i) a l.1.0, list_shadows (point_before i) (behind (suc i) a) b l.1.1)
    act_shadows i (loop x a b c body m) l = list_shadows (point_inside i) (suc i) body l.1
    act_shadows i (during c body) l = list_shadows (point_inside i) (suc i) body l.1
    act_shadows i (call name args) l =
        λ h. subst (AreCarried (callee_in w.marks ps name).shadowed (w.marks.shadowed u.name) (callee_in w.marks ps name).dummies) (sym (ap names_of l.1.0 ∙ named_back l.0))
        (carried (callee_in w.marks ps name).shadowed (w.marks.shadowed u.name) (callee_in w.marks ps name).dummies l.0 (callee_once name) (actual_shadowed (w.marks.split i) (facts_in w u.name) i (callee_facts w ps name) l.0 l.1.1))
    act_shadows i (runtime r) l = tt

    list_shadows : (from i : ℕ) (c : Code) → ListLaws (callee_facts w ps) (facts_in w u.name) from i c → HasShadows (plan_in w.marks ps u) i c
    list_shadows from i stop l = tt
    list_shadows from i (step line a rest) l = (act_shadows i a l.1.0, list_shadows (point_after i) (next i a) rest l.1.1)

pub lawful_shadows : LawfulHaveShadows
lawful_shadows rules ps checked w lawful = go ps (all_there rules ps checked)
  where
    once : (name : List ℕ) (v : Procedure) → find_unit ps name ≡ Some v → AreApart v.dummies
    once name v f = let sound = each_found (λ u. UnitSound ps u × NamesSound ps u) ps (all_names_sound rules ps checked) name v f in let names = sound.1 in names.dummies_once

    go : (us : List Procedure) → Each (Found ps) us → AllHaveShadows w.marks ps us
    go [] h = tt
    go (u ∷ us) h = (let laws = lawful.laws u.name u h.0.0 in list_shadows w ps once u (entry_point ps u.name) (first_statement ps u.name) u.body laws.laws, go us h.1)
