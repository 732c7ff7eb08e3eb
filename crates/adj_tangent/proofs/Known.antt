-- What is known of the units that are called is what the tangents of calls know.
use Rattle.std.proofs.Common.{◌≡◌, ℕ, zero, suc, ◌+◌, ◌<◌, Bool, true, false, List, [], ◌∷◌, map, length, drop, get_or, Some, None, refl, sym, ap, ◌∙◌, subst, arith, add-one, if◌then◌else◌}
use Rattle.std.specs.Prelude.{position, Option, slice_get, ◌||◌}
use Rattle.std.proofs.lemmas.List.{length-map}
use Rattle.adj_tree.specs.Code.{plain, name_eq, Procedure}
use Rattle.adj_tree.specs.View.{procedure_of}
use Rattle.adj_tree.specs.declared.unit.Unit.{Unit}
use Rattle.def_meaning.specs.Written.{find_unit}
use Rattle.def_meaning.specs.Apart.{has_name, AreApart}
use Rattle.def_meaning.proofs.Variables.{name_comm}
use Rattle.def_names.specs.Numbers.{Vars}
use Rattle.def_names.proofs.Variables.{or_false}
use Rattle.def_sweep.specs.Declared.{unit_name}
use Rattle.def_sweep.specs.Marking.{place_from}
use Rattle.def_sweep.specs.MarkedAdjoint.{shadow_flags}
use Rattle.def_tangent.specs.Forward as forward
use Rattle.def_tangent.specs.Forward.{takes_some}
use Rattle.def_tangent.specs.Program.{tangent_name, dummies_of, callee_in, takes}
use Rattle.def_flow.specs.Carried.{carried_by}
use Rattle.adj_naming.proofs.Places.{from_here}
use Rattle.adj_weave_units.proofs.Places.{At, at_first, at_next, at_rest, at_there, at_one, at_map, at_place, no_place, find_at, same_lists}
use Rattle.adj_weave_units.proofs.Ordered.{unit_place}
use Rattle.adj_tangent.specs.declared.plan.Callee.{Callee}
use Rattle.adj_tangent.specs.declared.plan.Callees.{Callees}
use Rattle.adj_tangent.specs.Plans.{has_some, if_taking, taking_at, Knows, KnowsAll}
use Rattle.adj_tangent.specs.Known.{said, said_of}

-- ---- what is said of units

-- what is said of the units that are left begins with what is said of the one at hand
pub said_on : (on : ℕ → Vars) (k : ℕ) (us : List Unit) (xs : List (List ℕ)) (u : Unit) (x : List ℕ) → k < length us → u ≡ get_or us k u → k < length xs → x ≡ get_or xs k x →
    said_of on k (map procedure_of (drop k us)) (drop k xs) ≡ (x, shadow_flags (on k) (procedure_of u).dummies) ∷ said_of on (k + 1) (map procedure_of (drop (k + 1) us)) (drop (k + 1) xs)
said_on on k us xs u x lu au lx ax =
    (λ i. said_of on k (map procedure_of (from_here us k u lu au i)) (from_here xs k x lx ax i))
    ∙ ap (λ j. (x, shadow_flags (on k) (procedure_of u).dummies) ∷ said_of on j (map procedure_of (drop (k + 1) us)) (drop (k + 1) xs)) (sym (add-one k))

-- what is said of the units of a program, of which the first is the k-th
abbrev sayings : (ℕ → Vars) → List Procedure → ℕ → List Procedure → List (List ℕ × List Bool)
sayings on ps k us = said_of on k us (map (λ u. tangent_name ps u.name) us)

abbrev saying : (ℕ → Vars) → List Procedure → ℕ → Procedure → List ℕ × List Bool
saying on ps k u = (tangent_name ps u.name, shadow_flags (on k) u.dummies)

said_at : (on : ℕ → Vars) (ps : List Procedure) (k : ℕ) (us : List Procedure) (j : ℕ) (u : Procedure) → At us j u → At (sayings on ps k us) j (saying on ps (k + j) u)
said_at on ps k [] j u h = absurd (let l = h.within in omega arith)
said_at on ps k (v ∷ us) zero u h =
    let same : k ≡ k + 0 = omega arith in
    subst (λ (w : Procedure). At (sayings on ps k (v ∷ us)) 0 (saying on ps (k + 0) w)) (sym h.is)
    (subst (λ i. At (sayings on ps k (v ∷ us)) 0 (saying on ps i v)) same (at_first (saying on ps k v) (sayings on ps (suc k) us)))
said_at on ps k (v ∷ us) (suc j) u h =
    let same : suc k + j ≡ k + suc j = omega arith in
    subst (λ i. At (sayings on ps k (v ∷ us)) (suc j) (saying on ps i u)) same
    (at_next (saying on ps k v) (saying on ps (suc k + j) u) (sayings on ps (suc k) us) j (said_at on ps (suc k) us j u (at_rest v u us j h)))

-- how much is said
many_said : (on : ℕ → Vars) (ps : List Procedure) (k : ℕ) (us : List Procedure) → length (sayings on ps k us) ≡ length us
many_said on ps k [] = refl
many_said on ps k (u ∷ us) = ap suc (many_said on ps (suc k) us)

-- ---- of one unit

-- one of the flags is set where one of the dummies carries a tangent
some_takes : (on : Vars) (ds : List (List ℕ)) → has_some (shadow_flags on ds) ≡ takes_some on ds
some_takes on [] = refl
some_takes on (d ∷ ds) = ap (λ z. on (plain d) || z) (some_takes on ds)

dummies_found : (us : List Procedure) (name : List ℕ) (u : Procedure) → find_unit us name ≡ Some u → dummies_of us name ≡ u.dummies
dummies_found [] name u h = absurd cc
dummies_found (v ∷ us) name u h = go (name_eq v.name name) h (dummies_found us name u)
  where
    go : (b : Bool) → (if b then Some v else find_unit us name) ≡ Some u → (find_unit us name ≡ Some u → dummies_of us name ≡ u.dummies) → (if b then v.dummies else dummies_of us name) ≡ u.dummies
    go true e ih = let s : v ≡ u = cc in ap (λ (w : Procedure). w.dummies) s
    go false e ih = ih e

no_dummies : (us : List Procedure) (name : List ℕ) → has_name name (map unit_name us) ≡ false → dummies_of us name ≡ []
no_dummies [] name h = refl
no_dummies (v ∷ us) name h = let p = or_false (name_eq name v.name) (has_name name (map unit_name us)) h in ap (λ b. if b then v.dummies else dummies_of us name) (name_comm name v.name p.0) ∙ no_dummies us name p.1

got : {A : Type 0} (xs : List A) (j : ℕ) (x : A) → At xs j x → slice_get xs j ≡ Some x
got [] j x h = absurd (let l = h.within in omega arith)
got (y ∷ ys) zero x h = ap Some (sym h.is)
got (y ∷ ys) (suc j) x h = got ys j x (at_rest y x ys j h)

-- by its flags
knows_one : (k : Callee) (g : forward.Callee) → k.tangent ≡ g.tangent → k.carried ≡ shadow_flags g.carried g.dummies → Knows (if_taking (Some k)) g
knows_one k g t c = go (has_some k.carried) refl
  where
    some : has_some k.carried ≡ takes_some g.carried g.dummies
    some = ap has_some c ∙ some_takes g.carried g.dummies

    go : (b : Bool) → has_some k.carried ≡ b → Knows (if b then Some k else None) g
    go true e = (sym some ∙ e, t, c)
    go false e = sym some ∙ e

-- ---- of all units

module _ (on : ℕ → Vars) (ps : List Procedure) (apart : AreApart (map unit_name ps)) (c : Callees) (names : c.names ≡ map unit_name ps) (known : map said c.known.items ≡ said_of on 0 ps (map (λ u. tangent_name ps u.name) ps)) where
  -- what is said at the place of a unit
  record Said (j : ℕ) (u : Procedure) : Type 0 where
    callee : Callee
    at : At c.known.items j callee
    tangent : callee.tangent ≡ tangent_name ps u.name
    carried : callee.carried ≡ shadow_flags (carried_by ps on u.name) u.dummies

  many : length c.known.items ≡ length ps
  many = sym (length-map c.known.items said) ∙ ap length known ∙ many_said on ps 0 ps

  said_of_unit : (j : ℕ) (u : Procedure) → At ps j u → Said j u
  said_of_unit j u h =
      let s : At (sayings on ps 0 ps) j (saying on ps (0 + j) u) = said_at on ps 0 ps j u h in
      let k : (k : Callee) × At c.known.items j k = at_there c.known.items j (let l = h.within in let m = many in omega arith) in
      let both : said k.0 ≡ saying on ps (0 + j) u =
      at_one (sayings on ps 0 ps) j (said k.0) (saying on ps (0 + j) u) (subst (λ z. At z j (said k.0)) known (at_map said c.known.items j k.0 k.1)) s in
      let place : place_from 0 ps u.name ≡ 0 + j = unit_place 0 ps j u apart h in
      record { callee = k.0; at = k.1; tangent = ap (λ z. z.0) both; carried = ap (λ z. z.1) both ∙ ap (λ i. shadow_flags (on i) u.dummies) (sym place) }

  known_at : (name : List ℕ) (j : ℕ) → position (name_eq name) (map unit_name ps) ≡ Some j → Knows (taking_at c (Some j)) (callee_in (carried_by ps on) ps name)
  known_at name j p =
      let named : At (map unit_name ps) j name = at_place (map unit_name ps) j name p in
      let count : length (map unit_name ps) ≡ length ps = length-map ps unit_name in
      let o : (u : Procedure) × At ps j u = at_there ps j (let l = named.within in omega arith) in
      let u = o.0 in
      let called : u.name ≡ name = at_one (map unit_name ps) j u.name name (at_map unit_name ps j u o.1) named in
      let dummies : u.dummies ≡ dummies_of ps name = sym (dummies_found ps u.name u (find_at ps j u apart o.1)) ∙ ap (dummies_of ps) called in
      let s = said_of_unit j u o.1 in
      subst (λ z. Knows (if_taking z) (callee_in (carried_by ps on) ps name)) (sym (got c.known.items j s.callee s.at))
      (knows_one s.callee (callee_in (carried_by ps on) ps name) (s.tangent ∙ ap (tangent_name ps) called) (s.carried ∙ (λ i. shadow_flags (carried_by ps on (called i)) (dummies i))))

  known_other : (name : List ℕ) → position (name_eq name) (map unit_name ps) ≡ None → Knows (taking_at c None) (callee_in (carried_by ps on) ps name)
  known_other name p = ap (takes_some (carried_by ps on name)) (no_dummies ps name (no_place (map unit_name ps) name apart p))

  pub all_known : KnowsAll c (callee_in (carried_by ps on) ps)
  all_known name = subst (λ o. Knows (taking_at c o) (callee_in (carried_by ps on) ps name)) (ap (position (name_eq name)) (sym names)) (go (position (name_eq name) (map unit_name ps)) refl)
    where
      go : (o : Option ℕ) → position (name_eq name) (map unit_name ps) ≡ o → Knows (taking_at c o) (callee_in (carried_by ps on) ps name)
      go (Some j) p = known_at name j p
      go None p = known_other name p

  -- which of them have a dummy that carries a tangent
  pub all_taking : map (λ (k : Callee). has_some k.carried) c.known.items ≡ map (λ (u : Procedure). takes (carried_by ps on) ps u.name) ps
  all_taking = same_lists (λ (u : Procedure). takes (carried_by ps on) ps u.name) ps (map (λ (k : Callee). has_some k.carried) c.known.items) (length-map c.known.items (λ (k : Callee). has_some k.carried) ∙ many) one
    where
      one : (j : ℕ) (u : Procedure) (b : Bool) → At ps j u → At (map (λ (k : Callee). has_some k.carried) c.known.items) j b → b ≡ takes (carried_by ps on) ps u.name
      one j u b h g =
          let s = said_of_unit j u h in
          at_one (map (λ (k : Callee). has_some k.carried) c.known.items) j b (has_some s.callee.carried) g (at_map (λ (k : Callee). has_some k.carried) c.known.items j s.callee s.at)
          ∙ ap has_some s.carried ∙ some_takes (carried_by ps on u.name) u.dummies
          ∙ ap (takes_some (carried_by ps on u.name)) (sym (dummies_found ps u.name u (find_at ps j u apart h)))
