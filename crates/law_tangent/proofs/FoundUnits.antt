-- The units of the emitted program: each unit that stays, and the tangent of each that has one, are found under their names.
use Rattle.std.proofs.Common.{◌≡◌, ℕ, Bool, true, false, List, [], ◌∷◌, ◌++◌, map, refl, ap, ◌∙◌, sym, append_assoc, if◌then◌else◌, codes}
use Rattle.std.specs.Prelude.{Some, flat_map}
use Rattle.adj_tree.specs.Code.{name_eq, Procedure}
use Rattle.adj_tree.proofs.Names.{name_refl, name_same}
use Rattle.def_meaning.specs.Written.{find_unit}
use Rattle.def_meaning.specs.Apart.{has_name}
use Rattle.def_names.specs.Variables.{variables}
use Rattle.def_sweep.specs.Declared.{unit_name, unmarked}
use Rattle.def_sweep.specs.Marked.{names_in}
use Rattle.def_names.proofs.Variables.{or_false, has_apart}
use Rattle.def_meaning.proofs.Variables.{name_comm}
use Rattle.def_sweep.specs.Names.{source_names}
use Rattle.law_sweep.specs.Source.{is_unit}
use Rattle.law_sweep.proofs.Names.{has-append, name_free, names_apart}
use Rattle.law_sweep.proofs.UnitLists.{take, unit_named, found_there, Differ, skip_all, differ_both, differ_one, through, stays as stays_found}
use Rattle.law_sweep.proofs.Variables.{variables_apart}
use Rattle.def_tangent.specs.Program.{Carried, tangent_name, stays, has_tangent, made_names, tangent_unit, emitted_units}
use Rattle.law_tangent.specs.Emitted.{TangentsThere, StillThere}
use Rattle.law_tangent.proofs.Made.{has_tangent_unit}

module _ (on : Carried) (ps : List Procedure) (head : Procedure) (vars : List Bool) where
  -- the name of the tangent of the unit of a name
  abbrev adj : List ℕ → List ℕ
  adj x = tangent_name ps x

  abbrev at_first : Procedure → List (List ℕ)
  at_first u = if name_eq head.name u.name then names_in (on u.name) (unmarked u.dummies vars) else []

  abbrev made : Procedure → Procedure
  made u = tangent_unit on ps (map unit_name ps ++ made_names on ps head.name ps) u (at_first u)

  abbrev emitted : List Procedure → List Procedure
  emitted us = emitted_units on ps head vars us

  -- what is emitted for a unit
  abbrev plain_part : Procedure → List Procedure
  plain_part u = if stays on ps head.name u.name then u ∷ [] else []

  abbrev tangent_part : Procedure → List Procedure
  tangent_part u = if has_tangent on ps head.name u.name then made u ∷ [] else []

  abbrev group : Procedure → List Procedure
  group u = plain_part u ++ tangent_part u

  grows : (u : Procedure) (us : List Procedure) → emitted (u ∷ us) ≡ group u ++ emitted us
  grows u us = sym (append_assoc (plain_part u) (tangent_part u) (emitted us))

  -- no unit of the source has the name of a tangent
  apart_source : (x y : List ℕ) → is_unit ps x ≡ true → is_unit ps y ≡ true → name_eq x (adj y) ≡ false
  apart_source x y h g =
      let free : has_name (adj y) (source_names ps) ≡ false = name_free (codes "_D") (source_names ps) ps y g in
      has_apart x (adj y) (map unit_name ps) (unit_named ps x h) (or_false (has_name (adj y) (map unit_name ps)) (has_name (adj y) (flat_map variables ps)) (sym (has-append (adj y) (map unit_name ps) (flat_map variables ps)) ∙ free)).0

  differ_group : (name : List ℕ) (u : Procedure) → name_eq u.name name ≡ false → name_eq (adj u.name) name ≡ false → Differ name (group u)
  differ_group name u h g = differ_both name (plain_part u) (tangent_part u) (differ_one name (stays on ps head.name u.name) u h) (differ_one name (has_tangent on ps head.name u.name) (made u) g)

  -- a unit that stays is found as it was
  pub still_found : (name : List ℕ) → stays on ps head.name name ≡ true → is_unit ps name ≡ true → find_unit (emitted ps) name ≡ find_unit ps name
  still_found name c h = stays_found emitted group refl grows ps name first (λ u g e. differ_group name u e (name_comm name (adj u.name) (apart_source name u.name h g)))
    where
      first : (u : Procedure) (rest : List Procedure) → name_eq u.name name ≡ true → find_unit (group u ++ rest) name ≡ Some u
      first u rest e =
          let k : stays on ps head.name u.name ≡ true = ap (stays on ps head.name) (name_same u.name name e) ∙ c in
          ap (λ b. find_unit (((if b then u ∷ [] else []) ++ tangent_part u) ++ rest) name) k ∙ take u (tangent_part u ++ rest) name e

  -- the tangent of a unit is found under its name
  pub tangent_found : (name : List ℕ) (u : Procedure) → find_unit ps name ≡ Some u → has_tangent on ps head.name name ≡ true → find_unit (emitted ps) (tangent_name ps u.name) ≡ Some (made u)
  tangent_found name u f a =
      let t = found_there ps name u f in
      let there : is_unit ps u.name ≡ true = ap (is_unit ps) t.1 ∙ t.0 in
      let has : has_tangent on ps head.name u.name ≡ true = ap (has_tangent on ps head.name) t.1 ∙ a in
      through emitted group refl grows ps u (made u) (adj u.name) (ap (find_unit ps) t.1 ∙ f)
      (λ v g n. differ_group (adj u.name) v (apart_source v.name u.name g there) (names_apart (codes "_D") (source_names ps) ps v.name u.name g there n))
      (λ rest.
      ap (λ l. find_unit l (adj u.name)) (append_assoc (plain_part u) (tangent_part u) rest)
      ∙ skip_all (adj u.name) (plain_part u) (tangent_part u ++ rest) (differ_one (adj u.name) (stays on ps head.name u.name) u (apart_source u.name u.name there there))
      ∙ ap (λ b. find_unit ((if b then made u ∷ [] else []) ++ rest) (adj u.name)) has
      ∙ take (made u) rest (adj u.name) (name_refl (adj u.name)))

-- the law, of tangents and of units that stay
pub tangents_there : TangentsThere
tangents_there on ps head vars name u found has inside extents =
    has_tangent_unit on ps (map unit_name ps ++ made_names on ps head.name ps) u (if name_eq head.name u.name then names_in (on u.name) (unmarked u.dummies vars) else []) (variables_apart u) inside extents (emitted_units on ps head vars ps) (tangent_found on ps head vars name u found has)

pub still_there : StillThere
still_there on ps head vars name there stays_so = still_found on ps head vars name stays_so there
