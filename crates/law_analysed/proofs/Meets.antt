-- What exact analyses say meets the laws of each unit that takes part.
use Rattle.std.proofs.Common.{◌≡◌, ℕ, suc, List, [], ◌∷◌, Bool, true, false, refl, sym, ap, ◌∙◌, subst}
use Rattle.std.specs.Prelude.{Contains, ◌||◌, Option, Some, None}
use Rattle.adj_tree.specs.Code.{plain, name_eq, Terms, call, Procedure}
use Rattle.adj_tree.proofs.Names.{name_same}
use Rattle.def_meaning.specs.Written.{find_unit}
use Rattle.def_names.specs.Numbers.{Vars}
use Rattle.def_names.specs.Numbering.{point_before}
use Rattle.def_meaning.specs.Apart.{has_name}
use Rattle.def_sweep.specs.Facts.{Facts}
use Rattle.law_sweep.specs.Kernel.{AsMany}
use Rattle.law_sweep.specs.Laws.{point_inside, CallLawsBy, ListLawsBy, last_point, WayLaws, UnitLawsBy}
use Rattle.def_sweep.specs.Callees.{CalleeFacts}
use Rattle.def_sweep.specs.Plan.{actuals_named, names_of}
use Rattle.def_sweep.specs.Schedules.{schedules_by}
use Rattle.law_sweep.proofs.CallSweeps.{names_are}
use Rattle.def_sweep.specs.Marking.{callee_facts, place_from, first_statement, entry_point, end_point}
use Rattle.def_flow.specs.Parts.{Part}
use Rattle.def_names.specs.StatementsIn.{statements_in}
use Rattle.def_flow.specs.Ways.{passing, assigning, way}
use Rattle.def_flow.specs.Standing.{Place, outermost, turn_of}
use Rattle.def_flow.specs.Problem.{Problem, statements_of, ways_of, TakesPart}
use Rattle.def_flow.specs.Activity.{Activity, split_at}
use Rattle.def_flow.specs.Live.{Liveness}
use Rattle.def_flow.specs.Uses.{is_turn}
use Rattle.law_flow.specs.Laws.{facts_of}
use Rattle.def_flow.specs.Analysed.{Analysed}
use Rattle.adj_reach.proofs.Members.{is_first, is_later}
use Rattle.def_flow.proofs.OwnPoints as points
use Rattle.law_flow.proofs.Statements.{entries_are_closed}
use Rattle.def_flow.proofs.Numbers.{part_is_there}
use Rattle.law_flow.proofs.Unsplit.{step_unsplit}
use Rattle.def_flow.specs.Splits.{split_calls}
use Rattle.def_planned.specs.ProgramFacts.{program_facts}
use Rattle.law_analysed.specs.Meets.{StepsUnsplit, MarkedCallsUnsplit, GivesNames, IsPlainCode, AnalysedMeets}
use Rattle.law_analysed.proofs.TurnLaws.{TurnLaws}
use Rattle.law_analysed.proofs.Lists.{ends, passes, list_meets}
use Rattle.law_analysed.proofs.Numbers.{Placed, placed, has_part}
use Rattle.law_analysed.proofs.Calls as calls

pub some_same : {A : Type 0} (x y : A) → (let o : Option A = Some x in o ≡ Some y) → x ≡ y
some_same x y h = cc

pub has_contains : (d : List ℕ) (ds : List (List ℕ)) → has_name d ds ≡ true → Contains ds d
has_contains d [] h = absurd cc
has_contains d (x ∷ ds) h = go (name_eq d x) refl h (has_contains d ds)
  where
    go : (b : Bool) → name_eq d x ≡ b → (b || has_name d ds) ≡ true → (has_name d ds ≡ true → Contains ds d) → Contains (x ∷ ds) d
    go true e h ih = is_first d x ds (sym (name_same d x e))
    go false e h ih = is_later d x ds (ih h)

module _ (k : Problem) (a : Activity) (l : Liveness) (saved held : ℕ → Vars) (y : Analysed k a l saved held) (steps : StepsUnsplit k) where
  abbrev gf : List ℕ → CalleeFacts
  gf = callee_facts (program_facts k.units k.split a l saved held) k.units

  -- ---- calls

  call_meets : (f : Part) → TakesPart k f → (i : ℕ) (at : Place) (name : List ℕ) (args : Terms) → (is_turn at ≡ true → a.adjointed i ≡ false) → Contains (statements_of f) (record { number = i; place = at; act = call name args }) → GivesNames k.units name args → (given : List (List ℕ)) × ((args ≡ actuals_named given) × CallLawsBy (split_at k a i) (facts_of k a l saved held f.number) i (gf name) given)
  call_meets f part i at name args home own n =
      let g = has_part (statements_in 0 k.units) 0 0 k.units name n.unit n.found in
      let there = placed k.units name g.0 g.1 in
      let same : n.unit ≡ g.0.unit = some_same n.unit g.0.unit (sym n.found ∙ there.found) in (
        n.given,
        (
          n.named,
          subst (λ o. CallLawsBy (split_at k a i) (facts_of k a l saved held f.number) i (calls.known k a l saved held y steps f part name o) n.given) (sym there.found)
              (calls.laws_by k a l saved held y steps f part i at name n.given (subst (λ es. Contains (statements_of f) (record { number = i; place = at; act = call name es })) n.named own) g.0 g.1 there (subst (λ u. AsMany u.dummies n.given) same n.many) home),
        ),
      )

  -- the step call of a marked loop
  turn_meets : (f : Part) → TakesPart k f → (i : ℕ) (x name : List ℕ) (given : List (List ℕ)) → a.adjointed (suc i) ≡ true → Contains (statements_of f) (record { number = suc i; place = turn_of i (plain x); act = call name (actuals_named given) }) → GivesNames k.units name (actuals_named given) → Contains (ways_of f) (way (point_before i) (point_inside i) (assigning i (plain x))) → TurnLaws (facts_of k a l saved held f.number) i x (gf name) given
  turn_meets f part i x name given adj own n enters =
      let g = has_part (statements_in 0 k.units) 0 0 k.units name n.unit n.found in
      let there = placed k.units name g.0 g.1 in
      let same : n.unit ≡ g.0.unit = some_same n.unit g.0.unit (sym n.found ∙ there.found) in
      let one : n.given ≡ given = sym (names_are n.given) ∙ ap names_of (sym n.named) ∙ names_are given in
      subst (λ o. TurnLaws (facts_of k a l saved held f.number) i x (calls.known k a l saved held y steps f part name o) given) (sym there.found)
      (calls.turn_laws k a l saved held y steps f part i x name given own g.0 g.1 there (subst (λ u. AsMany u.dummies given) same (subst (AsMany n.unit.dummies) one n.many)) adj enters)

  -- ---- a unit, by its own numbers

  module _ (sb : Bool) (g : Part) (part : TakesPart k g) (plainly : IsPlainCode sb k.units g.unit.body) where
    abbrev w : Facts
    w = facts_of k a l saved held g.number

    laws : ListLawsBy (schedules_by sb gf) gf w g.entry g.first g.unit.body
    laws =
        list_meets k.units gf w g (calls.unit k a l saved held y steps g part) (calls.stated k a l saved held y steps g part) sb (call_meets g part) (turn_meets g part) g.first g.entry g.end passing outermost g.unit.body refl plainly (λ x c. c) (λ s c. c)

    at_end : WayLaws w (last_point g.entry g.first g.unit.body) g.end
    at_end = passes k.units gf w g (calls.unit k a l saved held y steps g part) (calls.stated k a l saved held y steps g part) (last_point g.entry g.first g.unit.body) g.end (ends g.first g.entry g.end passing g.unit.body)

    -- the same by the numbers under its name
    module _ (there : Placed k.units g.unit.name g) where
      abbrev name : List ℕ
      name = g.unit.name

      abbrev known : Facts
      known = facts_of k a l saved held (place_from 0 k.units name)

      laws_named : ListLawsBy (schedules_by sb gf) gf known (entry_point k.units name) (first_statement k.units name) g.unit.body
      laws_named = subst (λ n. ListLawsBy (schedules_by sb gf) gf known (entry_point k.units name) n g.unit.body) there.first (subst (λ p. ListLawsBy (schedules_by sb gf) gf known p g.first g.unit.body) there.entry (subst (λ n. ListLawsBy (schedules_by sb gf) gf (facts_of k a l saved held n) g.entry g.first g.unit.body) there.number laws))

      end_named : WayLaws known (last_point (entry_point k.units name) (first_statement k.units name) g.unit.body) (end_point k.units name)
      end_named =
          subst (λ n. WayLaws known (last_point (entry_point k.units name) n g.unit.body) (end_point k.units name)) there.first
          (subst (λ p. WayLaws known (last_point p g.first g.unit.body) (end_point k.units name)) there.entry
          (subst (λ p. WayLaws known (last_point g.entry g.first g.unit.body) p) there.end
          (subst (λ n. WayLaws (facts_of k a l saved held n) (last_point g.entry g.first g.unit.body) g.end) there.number at_end)))

      unit_meets : UnitLawsBy (schedules_by sb gf) gf (gf name) (first_statement k.units name) g.unit.body
      unit_meets = record {
        laws = laws_named;
        ends = end_named;
        shadows = λ v b c.
            let p = points.entry_point g in
            let unit = calls.unit k a l saved held y steps g part in
            subst (λ n. a.shadowed n v ≡ true) there.number (unit.shadows g.entry g.entry v p p (subst (λ q. a.varied q v ≡ true) (sym there.entry) b) (subst (λ q. a.useful q v ≡ true) (sym there.entry) c));
        members = λ d h n.
            let o = entries_are_closed k a l saved held y g part in
            let of_unit : has_name d g.unit.dummies ≡ true = subst (λ ds. has_name d ds ≡ true) (same_dummies (find_unit k.units name) there.found) h in
            same_members d (find_unit k.units name) (subst (λ q. l.wanted q d ≡ true) there.number (o.enters d (has_contains d g.unit.dummies of_unit) (subst (λ q. l.needed q (plain d) ≡ true) (sym there.entry) n)));
      }
        where
          same_dummies : (o : Option Procedure) → o ≡ Some g.unit → (calls.known k a l saved held y steps g part g.unit.name o).callee.dummies ≡ g.unit.dummies
          same_dummies o e = ap (λ z. (calls.known k a l saved held y steps g part g.unit.name z).callee.dummies) e

          same_members : (d : List ℕ) (o : Option Procedure) → l.wanted (place_from 0 k.units g.unit.name) d ≡ true → (calls.known k a l saved held y steps g part g.unit.name o).callee.members (plain d) ≡ true
          same_members d None e = e
          same_members d (Some u) e = e

pub analysed_meets : AnalysedMeets
analysed_meets sb k a l saved held y steps g part finds plainly = unit_meets k a l saved held y steps sb g part plainly (placed k.units g.unit.name g finds)

-- the calls at the lines of directives are no step calls of marked loops
pub marked_calls_unsplit : MarkedCallsUnsplit
marked_calls_unsplit lines units head vars outvars g t s c e =
    step_unsplit lines units g (part_is_there (record { units = units; head = head; vars = vars; outvars = outvars; split = split_calls lines units }) g t) s e c
