-- A source that fits, with what flows through it, is as the theorem on units asks; and so is the program that is emitted for it.
use Rattle.std.proofs.Common.{◌≡◌, ℕ, ◌*◌, Bool, true, false, List, [], ◌∷◌, refl, sym, ap, ◌∙◌, subst, if◌then◌else◌}
use Rattle.std.specs.Prelude.{length, Option, Some, None, IsTrue}
use Rattle.adj_tree.specs.Code.{plain, name_eq, Procedure}
use Rattle.adj_tree.proofs.Names.{name_same}
use Rattle.def_meaning.specs.Append.{◌+++◌}
use Rattle.def_meaning.specs.Written.{find_unit, handed_back}
use Rattle.def_meaning.specs.Units.{declared}
use Rattle.def_names.specs.Variables.{variables}
use Rattle.def_names.specs.Numbers.{Vars}
use Rattle.def_meaning.specs.Apart.{AreApart}
use Rattle.def_sweep.specs.Marked.{names_in}
use Rattle.def_sweep.specs.Declared.{unmarked}
use Rattle.def_names.proofs.Variables.{not_true}
use Rattle.def_sweep.specs.Callees.{CalleeFacts}
use Rattle.law_sweep.specs.Environment.{UnitFitsBy}
use Rattle.def_sweep.specs.Marking.{full_marks, full_facts, callee_facts, arrays_of, first_statement, entry_point, end_point}
use Rattle.def_sweep.specs.Program.{calls_some, takes_part, has_adjoint, answers, has_pair, is_carried_with}
use Rattle.law_sweep.specs.Source.{is_unit, SourceFits, variables_of, arrays_in}
use Rattle.law_sweep.proofs.UnitLists.{found_there}
use Rattle.law_sweep.proofs.EmittedUnits.{counts, some_there, inside_in}
use Rattle.law_sweep.proofs.Rounds.{calls_rise}
use Rattle.law_sweep.proofs.Declared.{no_extents}
use Rattle.def_tangent.specs.Forward.{tangents}
use Rattle.law_tangent.specs.Laws.{CalleeFlow, ListTexts}
use Rattle.law_tangent.specs.Units.{CallTexts, HasTangent, goes, plan_of, UnitFits, PlainFits}
use Rattle.def_tangent.specs.Program.{Carried, dummies_of, tangent_name, plan_in, cleared, takes, has_tangent, stays, emitted_units}
use Rattle.law_tangent.specs.Emitted.{callee_of}
use Rattle.law_tangent.specs.Source.{flow_in, TangentFits}
use Rattle.law_tangent.proofs.Counting.{twice_the_weight}
use Rattle.law_tangent.proofs.FoundUnits.{tangents_there, still_there}
use Rattle.law_tangent.proofs.Taking.{taking_has, head_has, other_stays, staying_calls, made_reached}
use Rattle.law_tangent.proofs.Texts.{text_list}

-- the dummies of the unit that was found
abbrev pub dummies_in : Option Procedure → List (List ℕ)
dummies_in None = []
dummies_in (Some u) = u.dummies

-- the dummies by a unit's name are those of the unit that is found
pub dummies_are : (us : List Procedure) (name : List ℕ) → dummies_of us name ≡ dummies_in (find_unit us name)
dummies_are [] name = refl
dummies_are (u ∷ us) name = go (name_eq u.name name) (dummies_are us name)
  where
    go : (b : Bool) → dummies_of us name ≡ dummies_in (find_unit us name) → (if b then u.dummies else dummies_of us name) ≡ dummies_in (if b then Some u else find_unit us name)
    go true ih = refl
    go false ih = ih

-- the laws of the sweeps know the same dummies
pub adjoint_dummies : (ps : List Procedure) (n : List ℕ) (o : Option Procedure) → (Rattle.def_sweep.specs.Marking.callee_of full_marks ps n o).dummies ≡ dummies_in o
adjoint_dummies ps n None = refl
adjoint_dummies ps n (Some u) = refl

module _ (m : ℕ) (on : Carried) (varied : ℕ → Vars) (ps : List Procedure) (head : Procedure) (vars : List Bool) (good : TangentFits m on varied ps head vars) where
  abbrev every : ℕ → Bool
  every i = true

  abbrev pub qs : List Procedure
  qs = emitted_units on ps head vars ps

  abbrev pub g : List ℕ → CalleeFlow
  g = flow_in on varied ps

  abbrev pub reached : List ℕ → Bool
  reached = has_tangent on ps head.name

  abbrev pub still : List ℕ → Bool
  still = stays on ps head.name

  abbrev pub called : List ℕ → Bool
  called n = calls_some reached every n 0 ps

  abbrev gf : List ℕ → CalleeFacts
  gf = callee_facts full_facts ps

  pub top : SourceFits (λ line. None) full_facts ps head
  top = good.source head.name head good.there

  there_by : (f : List ℕ → Bool) (n : List ℕ) → calls_some f every n 0 ps ≡ true → is_unit ps n ≡ true
  there_by f n h = some_there ps ps top.known f every n 0 h

  facts_dummies : (n : List ℕ) → (gf n).callee.dummies ≡ dummies_of ps n
  facts_dummies n = adjoint_dummies ps n (find_unit ps n) ∙ sym (dummies_are ps n)

  module _ (name : List ℕ) (u : Procedure) (f : find_unit ps name ≡ Some u) where
    pub own_dummies : u.dummies ≡ dummies_of ps name
    own_dummies = sym (dummies_are ps name ∙ ap dummies_in f)

    pub own_name : u.name ≡ name
    own_name = (found_there ps name u f).1

    own_source : SourceFits (λ line. None) full_facts ps u
    own_source = good.source name u f

    own_fits : UnitFitsBy None (λ line. None) ps gf (has_adjoint full_marks ps u) (answers full_marks ps u) (has_pair full_marks ps u) (is_carried_with false full_marks ps u) u.name u (first_statement ps u.name) (variables u) (arrays_of u)
    own_fits = let s = own_source in s.units u.name u (ap (find_unit ps) own_name ∙ f) s.head_reached

    dummies_apart : AreApart (dummies_of ps name)
    dummies_apart = subst AreApart own_dummies (top.apart name u f)

    pub scalars : (x : List ℕ) → arrays_of u (plain x) ≡ false → declared u.declarations (plain x) ≡ []
    scalars x h = no_extents (declared u.declarations (plain x)) h

    -- the text of the unit: each of the units that it calls is of this kind, and counts as called
    texts_with : (among reached' called' : List ℕ → Bool) → ((n : List ℕ) → calls_some among every n 0 ps ≡ true → (reached' n ≡ true) × (called' n ≡ true)) → among name ≡ true → ListTexts (CallTexts ps reached' called' (arrays_of u) (dummies_of ps)) (variables u) (arrays_of u) (handed_back ps) u.body
    texts_with among reached' called' h i =
        let fit = own_fits in
        let laws = fit.laws in
        let c = counts among every 0 ps name u f i in
        text_list (λ line. None) ps gf (answers full_marks ps u) (has_pair full_marks ps u) (is_carried_with false full_marks ps u) (has_adjoint full_marks ps u u.name) (gf u.name).facts.marks (gf u.name).facts (variables u) (arrays_of u) (handed_back ps) (dummies_of ps) facts_dummies (λ n. calls_some among every n 0 ps) reached' called' h
        (gf u.name).entry (first_statement ps u.name) u.body fit.code laws.laws (inside_in (λ n. calls_some among every n 0 ps) c.at u.body c.by)

  -- ---- units that stay

  abbrev pub vars_of : List ℕ → List (List ℕ)
  vars_of name = variables_of (find_unit ps name)

  abbrev pub arrays : List ℕ → Vars
  arrays name = arrays_in (find_unit ps name)

  pub plain_fits : (name : List ℕ) (u : Procedure) → find_unit ps name ≡ Some u → IsTrue (still name) → PlainFits ps qs still (λ n. (g n).callee.dummies) name u (vars_of name) (arrays name)
  plain_fits name u f s = subst (λ o. PlainFits ps qs still (λ n. (g n).callee.dummies) name u (variables_of o) (arrays_in o)) (sym f) (record {
    found = still_there on ps head vars name (found_there ps name u f).0 s ∙ f;
    same = own_dummies name u f;
    apart = dummies_apart name u f;
    scalars = scalars name u f;
    texts = texts_with name u f still still (λ n. true) (λ n h. (staying_calls on ps head.name n (there_by still n h) h, refl)) s;
  })

  -- ---- units whose tangents are emitted

  takes_it : (n : List ℕ) (b : Bool) → takes on ps n ≡ b → is_unit ps n ≡ true → calls_some reached every n 0 ps ≡ true → (if b then reached n else still n) ≡ true
  takes_it n true e t h = taking_has on ps head.name n t e h
  takes_it n false e t h = other_stays on ps head.name n t e h

  pub head_reached : reached head.name ≡ true
  head_reached = head_has on ps head.name ps refl (found_there ps head.name head good.there).0

  -- the head isn't called
  uncalled : called head.name ≡ false
  uncalled = not_true (called head.name) (λ h.
      let z : true ≡ false = sym (calls_rise reached (takes_part full_marks ps head) (λ n k. made_reached on ps head.name (length ps) n k) every head.name 0 ps h) ∙ top.uncalled in cc)

  tangent_of : (name : List ℕ) (u : Procedure) → find_unit ps name ≡ Some u → reached name ≡ true → called name ≡ true → HasTangent qs u (g name).callee (tangents (plan_of g name) u.body)
  tangent_of name u f r c =
      let same = own_name name u f in
      let other : name_eq head.name u.name ≡ false = not_true (name_eq head.name u.name) (λ e. let z : true ≡ false = sym c ∙ ap called (sym same ∙ sym (name_same head.name u.name e)) ∙ uncalled in cc) in
      let it = tangents_there on ps head vars name u f r (top.inside name u f) (top.extents name u f) in
      subst (λ ds. HasTangent qs u (record { tangent = tangent_name ps name; dummies = ds; carried = on name }) (tangents (plan_of g name) u.body)) (own_dummies name u f)
      (subst (λ n. HasTangent qs u (record { tangent = tangent_name ps n; dummies = u.dummies; carried = on n }) (tangents (plan_of g n) u.body)) same
      (subst (λ (b : Bool). HasTangent qs u (callee_of on ps u) (cleared (arrays_of u) u.line (if b then names_in (on u.name) (unmarked u.dummies vars) else []) +++ tangents (plan_in on ps u.name) u.body)) other it))

  pub unit_fits : (name : List ℕ) (u : Procedure) → find_unit ps name ≡ Some u → IsTrue (reached name) → UnitFits (2 * m) ps qs reached called still g varied name u (first_statement ps name) (entry_point ps name) (end_point ps name) (vars_of name) (arrays name)
  unit_fits name u f r =
      let o = good.units name u f r in
      subst (λ o. UnitFits (2 * m) ps qs reached called still g varied name u (first_statement ps name) (entry_point ps name) (end_point ps name) (variables_of o) (arrays_in o)) (sym f) (record {
        dummies = own_dummies name u f;
        apart = dummies_apart name u f;
        scalars = scalars name u f;
        begins = λ v h. h;
        finishes = λ v h. h;
        flows = o.flows;
        ends = o.ends;
        texts = texts_with name u f reached (goes g reached still) called (λ n h. (takes_it n (takes on ps n) refl (there_by reached n h) h, h)) r;
        few = twice_the_weight m (plan_of g name) u.body (good.light name u f);
        tangent = tangent_of name u f r;
      })
