-- Which dummies emitted units hand back: units that stay those that they hand back in the source, and tangents of their unit's dummies no others.
use Rattle.std.proofs.Common.{◌≡◌, ℕ, zero, suc, Bool, true, false, List, [], ◌∷◌, map, refl, sym, ap, ◌∙◌, subst, if◌then◌else◌}
use Rattle.std.specs.Prelude.{◌&&◌, ◌||◌, Option, Some, None}
use Rattle.adj_tree.specs.Code.{Var, plain, shadow, name_eq, Terms, none, call, Code, Procedure}
use Rattle.adj_tree.proofs.Names.{name_refl}
use Rattle.def_meaning.specs.Append.{◌+++◌}
use Rattle.def_meaning.specs.Apart.{has_name}
use Rattle.def_meaning.specs.LeastSet.{Dummies, row_of, rounds, dummies_in_all}
use Rattle.def_meaning.specs.Rename.{rename}
use Rattle.def_meaning.specs.Written.{find_unit, is_handed_back, act_writes, writes, write_rule, handed_back, is_written}
use Rattle.def_meaning.proofs.Booleans.{or_more}
use Rattle.def_meaning.proofs.LeastSets.{of_found, row_map}
use Rattle.def_names.specs.Numbers.{Vars}
use Rattle.def_names.specs.Variables.{variables}
use Rattle.def_names.proofs.Variables.{and_true, or_left, or_right}
use Rattle.def_sweep.specs.Bindings.{bindings, actuals_in}
use Rattle.def_sweep.specs.Marking.{arrays_of}
use Rattle.def_sweep.specs.MarkedProgram.{shadows_behind}
use Rattle.def_sweep.specs.Naming.{Named, name_in, naming}
use Rattle.def_sweep.specs.Plan.{names_of, actuals_named}
use Rattle.def_tangent.specs.Forward.{tangents}
use Rattle.def_tangent.specs.Program.{Carried, tangent_name, dummies_of, plan_in, takes, cleared, names_of_unit, has_tangent, stays, emitted_units}
use Rattle.law_meaning.specs.Common.{CallsInside, HaveInCommon}
use Rattle.law_meaning.proofs.WriteSets.{handed_written}
use Rattle.law_sweep.specs.Source.{is_unit, CallUnits}
use Rattle.law_sweep.proofs.UnitLists.{found_there}
use Rattle.law_sweep.proofs.Variables.{dummy_among}
use Rattle.law_tangent.proofs.Fitting.{dummies_in, dummies_are}
use Rattle.law_tangent.proofs.FoundUnits.{tangent_found}
use Rattle.law_emitted.proofs.Lists.{Each, each_found}
use Rattle.law_emitted.proofs.Actuals.{named_back}
use Rattle.law_emitted.proofs.Statements.{unit_found}
use Rattle.law_emitted.proofs.HandedBack.{flags_more, inside_writes}
use Rattle.law_emitted.proofs.RenamedWrites.{renamed_writes}
use Rattle.law_tangent_carried.proofs.EmittedUnits.{all_units, at_first, tangent_of}
use Rattle.law_tangent_carried.proofs.EmittedCalls.{still_common, tangent_there, goes, tangent_calls}
use Rattle.law_tangent_carried.proofs.TangentNames.{tangent_apart, tangent_keeps}
use Rattle.law_tangent_carried.proofs.Writing.{cleared_writes, behind_it, HandsNoMore, tangent_writes}
use Rattle.law_tangent_carried.proofs.ActualFaults.{IsOwn}

-- ---- what is handed back

-- what isn't one of two is the other
second : (a b : Bool) → ((a && false) || b) ≡ true → b ≡ true
second true b e = e
second false b e = e

-- of the actuals that are followed by their tangents those of the text
bound_back : (x : List ℕ) (on : Vars) (ns : List Named) (t s : List ℕ → Bool) (ds given : List (List ℕ)) → ((d : List ℕ) → has_name d ds ≡ true → t d ≡ true → s d ≡ true) →
    is_handed_back (plain x) (map t (shadows_behind on ns ds)) (actuals_in (bindings on ds given)) ≡ true → is_handed_back (plain x) (map s ds) (actuals_named given) ≡ true
bound_back x on ns t s [] given h e = absurd cc
bound_back x on ns t s (d ∷ ds) [] h e = absurd (go (on (plain d)) e)
  where
    go : (b : Bool) → is_handed_back (plain x) (map t (if b then d ∷ name_in ns (shadow d) ∷ shadows_behind on ns ds else d ∷ shadows_behind on ns ds)) none ≡ true → ⊥
    go true e = cc
    go false e = cc
bound_back x on ns t s (d ∷ ds) (a ∷ given) h e = go (on (plain d)) e (bound_back x on ns t s ds given (λ c k. h c (or_right (name_eq c d) (has_name c ds) k)))
  where
    here : (t d && name_eq x a) ≡ true → (s d && name_eq x a) ≡ true
    here b = let p = and_true (t d) (name_eq x a) b in rw (h d (or_left (name_eq d d) (has_name d ds) (name_refl d)) p.0, p.1) refl

    go : (b : Bool) → is_handed_back (plain x) (map t (if b then d ∷ name_in ns (shadow d) ∷ shadows_behind on ns ds else d ∷ shadows_behind on ns ds)) (actuals_in (if b then (plain d, plain a) ∷ (shadow d, shadow a) ∷ bindings on ds given else (plain d, plain a) ∷ bindings on ds given)) ≡ true →
        (is_handed_back (plain x) (map t (shadows_behind on ns ds)) (actuals_in (bindings on ds given)) ≡ true → is_handed_back (plain x) (map s ds) (actuals_named given) ≡ true) → ((s d && name_eq x a) || is_handed_back (plain x) (map s ds) (actuals_named given)) ≡ true
    go true e ih =
        or_more (t d && name_eq x a) ((t (name_in ns (shadow d)) && false) || is_handed_back (plain x) (map t (shadows_behind on ns ds)) (actuals_in (bindings on ds given))) (s d && name_eq x a) (is_handed_back (plain x) (map s ds) (actuals_named given)) here
        (λ k. ih (second (t (name_in ns (shadow d))) (is_handed_back (plain x) (map t (shadows_behind on ns ds)) (actuals_in (bindings on ds given))) k)) e
    go false e ih = or_more (t d && name_eq x a) (is_handed_back (plain x) (map t (shadows_behind on ns ds)) (actuals_in (bindings on ds given))) (s d && name_eq x a) (is_handed_back (plain x) (map s ds) (actuals_named given)) here ih e

-- ---- the emitted program

module _ (c : Carried) (ps : List Procedure) (head : Procedure) (vars : List Bool) (known : CallUnits ps ps) (top : is_unit ps head.name ≡ true) (own : Each IsOwn ps) where
  abbrev qs : List Procedure
  qs = emitted_units c ps head vars ps

  abbrev g : Dummies
  g = handed_back ps

  pub common : HaveInCommon (stays c ps head.name) ps qs
  common = still_common c ps head vars known

  -- no more is handed back than in the source
  pub record HandBackNoMore (f : Dummies) : Type 0 where
    pub still : (name : List ℕ) → stays c ps head.name name ≡ true → (v : Var) (args : Terms) → is_handed_back v (f name) args ≡ true → is_handed_back v (handed_back ps name) args ≡ true
    pub tangent : (name : List ℕ) → has_tangent c ps head.name name ≡ true → (x : List ℕ) (given : List (List ℕ)) → is_handed_back (plain x) (f (tangent_name ps name)) (actuals_in (bindings (c name) (dummies_of ps name) given)) ≡ true → is_handed_back (plain x) (handed_back ps name) (actuals_named given) ≡ true

  own_of : (u : Procedure) → find_unit ps u.name ≡ Some u → IsOwn u
  own_of u found = each_found IsOwn ps own u.name u found

  -- ---- what emitted units may write

  module _ (f : Dummies) (back : HandBackNoMore f) where
    -- a unit that stays, and lists in it
    pub still_less : (code : Code) → CallsInside (stays c ps head.name) code → (v : Var) → writes f v code ≡ true → writes g v code ≡ true
    still_less code k v = inside_writes f g (stays c ps head.name) v (λ name h args. back.still name h v args) code k

    -- the CALLs of a tangent
    pub tangent_less : (u : Procedure) → HandsNoMore f g (plan_in c ps u.name) (goes c ps head vars known)
    tangent_less u name h given x = go (takes c ps name) h
      where
        go : (b : Bool) → (if b then has_tangent c ps head.name name else stays c ps head.name name) ≡ true → act_writes f (plain x) (if b then call (tangent_name ps name) (actuals_in (bindings (c name) (dummies_of ps name) (names_of (actuals_named given)))) else call name (actuals_named given)) ≡ true → is_handed_back (plain x) (g name) (actuals_named given) ≡ true
        go true k = subst (λ l. is_handed_back (plain x) (f (tangent_name ps name)) (actuals_in (bindings (c name) (dummies_of ps name) l)) ≡ true → is_handed_back (plain x) (g name) (actuals_named given) ≡ true) (sym (named_back given)) (back.tangent name k x given)
        go false k = back.still name k (plain x) (actuals_named given)

    -- so a tangent, of the variables of its unit
    pub made_writes : (u : Procedure) → find_unit ps u.name ≡ Some u → has_tangent c ps head.name u.name ≡ true → (d : List ℕ) → has_name d (variables u) ≡ true → writes f (plain d) (tangent_of c ps head vars u).body ≡ true → writes g (plain d) u.body ≡ true
    made_writes u found there d k e =
        tangent_writes f g (plan_in c ps u.name) (goes c ps head vars known) (tangent_less u) d u.body (tangent_calls c ps head vars known u.name u found there) (own_of u found).0
        (behind_it f d (cleared (arrays_of u) u.line (at_first c ps head vars u)) (tangents (plan_in c ps u.name) u.body) (cleared_writes f d (arrays_of u) u.line (at_first c ps head vars u))
        (sym (renamed_writes f (naming ns) (tangent_apart c ps (all_units c ps head vars) u (own_of u found).1) (plain d) body) ∙ subst (λ z. writes f (plain z) (rename (naming ns) body) ≡ true) (sym (tangent_keeps c ps (all_units c ps head vars) u (own_of u found).1 d k)) e))
      where
        ns : List Named
        ns = names_of_unit (c u.name) (all_units c ps head vars) u

        body : Code
        body = cleared (arrays_of u) u.line (at_first c ps head vars u) +++ tangents (plan_in c ps u.name) u.body

  -- ---- round by round

  module _ (t : Procedure → List ℕ → Bool) (of_still : (u : Procedure) → find_unit ps u.name ≡ Some u → stays c ps head.name u.name ≡ true → (d : List ℕ) → t u d ≡ true → is_written ps u d ≡ true)
      (of_tangent : (u : Procedure) → find_unit ps u.name ≡ Some u → has_tangent c ps head.name u.name ≡ true → (d : List ℕ) → has_name d u.dummies ≡ true → t (tangent_of c ps head vars u) d ≡ true → is_written ps u d ≡ true) where
    abbrev row : Procedure → List Bool
    row u = map (t u) u.dummies

    abbrev rows : Dummies
    rows = row_of qs (map row qs)

    still_no_more : (name : List ℕ) → stays c ps head.name name ≡ true → (v : Var) (args : Terms) → is_handed_back v (rows name) args ≡ true → is_handed_back v (handed_back ps name) args ≡ true
    still_no_more name h v args e = go (find_unit ps name) refl (subst (λ ws. is_handed_back v ws args ≡ true) (row_map row qs name ∙ ap (of_found row) (sym (common.same name h))) e)
      where
        go : (o : Option Procedure) → find_unit ps name ≡ o → is_handed_back v (of_found row o) args ≡ true → is_handed_back v (handed_back ps name) args ≡ true
        go None q e = absurd cc
        go (Some u) q e =
            let same : u.name ≡ name = (found_there ps name u q).1 in
            subst (λ ws. is_handed_back v ws args ≡ true) (sym (handed_written ps name u q)) (flags_more v (t u) (is_written ps u) u.dummies (of_still u (ap (find_unit ps) same ∙ q) (ap (stays c ps head.name) same ∙ h)) args e)

    tangent_no_more : (name : List ℕ) → has_tangent c ps head.name name ≡ true → (x : List ℕ) (given : List (List ℕ)) → is_handed_back (plain x) (rows (tangent_name ps name)) (actuals_in (bindings (c name) (dummies_of ps name) given)) ≡ true → is_handed_back (plain x) (handed_back ps name) (actuals_named given) ≡ true
    tangent_no_more name h x given e =
        subst (λ ws. is_handed_back (plain x) ws (actuals_named given) ≡ true) (sym (handed_written ps name w found))
        (bound_back x (c w.name) (names_of_unit (c w.name) (all_units c ps head vars) w) (t (tangent_of c ps head vars w)) (is_written ps w) w.dummies given (of_tangent w (ap (find_unit ps) same ∙ found) (ap (has_tangent c ps head.name) same ∙ h))
        (subst (λ n. is_handed_back (plain x) (map (t (tangent_of c ps head vars w)) (shadows_behind (c w.name) (names_of_unit (c w.name) (all_units c ps head vars) w) w.dummies)) (actuals_in (bindings (c n) w.dummies given)) ≡ true) (sym same)
        (subst (λ ds. is_handed_back (plain x) (map (t (tangent_of c ps head vars w)) (shadows_behind (c w.name) (names_of_unit (c w.name) (all_units c ps head vars) w) w.dummies)) (actuals_in (bindings (c name) ds given)) ≡ true) (dummies_are ps name ∙ ap dummies_in found)
        (subst (λ ws. is_handed_back (plain x) ws (actuals_in (bindings (c name) (dummies_of ps name) given)) ≡ true) (row_map row qs (tangent_name ps name) ∙ ap (of_found row) (ap (λ n. find_unit qs (tangent_name ps n)) (sym same) ∙ tangent_found c ps head vars name w found h)) e))))
      where
        unit : (v : Procedure) × (find_unit ps name ≡ Some v)
        unit = unit_found ps name (tangent_there c ps head vars known top name h)

        w : Procedure
        w = unit.0

        found : find_unit ps name ≡ Some w
        found = unit.1

        same : w.name ≡ name
        same = (found_there ps name w found).1

    no_more : HandBackNoMore rows
    no_more = record { still = still_no_more; tangent = tangent_no_more }

  round_no_more : (k : ℕ) → HandBackNoMore (row_of qs (rounds write_rule qs k))
  round_no_more zero = no_more (λ u d. false) (λ u f h d e. absurd cc) (λ u f h d k e. absurd cc)
  round_no_more (suc k) =
      let back = round_no_more k in
      let f = row_of qs (rounds write_rule qs k) in
      no_more (write_rule f) (λ u found h d e. still_less f back u.body (common.closed u.name u h found) (plain d) e) (λ u found h d inside e. made_writes f back u found h d (dummy_among u d inside) e)

  -- so emitted units hand back no more
  pub handed_no_more : HandBackNoMore (handed_back qs)
  handed_no_more = round_no_more (dummies_in_all qs)
