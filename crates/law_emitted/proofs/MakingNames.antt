-- The names of the units that are made of units: they are written, and have an underscore; no name of the source is one of them, and they are apart.
use Rattle.std.proofs.Common.{◌≡◌, ℕ, true, false, List, map, refl, sym, ◌∙◌, codes}
use Rattle.std.specs.Prelude.{flat_map}
use Rattle.adj_tree.specs.Code.{name_eq, Procedure}
use Rattle.def_text.specs.Written.{IsName}
use Rattle.def_meaning.specs.Apart.{has_name}
use Rattle.def_meaning.proofs.Variables.{name_comm}
use Rattle.def_names.specs.Variables.{variables}
use Rattle.def_names.proofs.NameLists.{has-append}
use Rattle.def_names.proofs.Variables.{or_false, has_apart}
use Rattle.def_sweep.specs.Declared.{unit_name}
use Rattle.def_sweep.specs.Names.{source_names, named_after, named_list, taken_forth, taken_back}
use Rattle.law_sweep.specs.Source.{is_unit}
use Rattle.law_sweep.proofs.Names.{name_free, names_apart, name_among}
use Rattle.law_sweep.proofs.UnitLists.{unit_named}
use Rattle.law_emitted.proofs.Lists.{Each}
use Rattle.law_emitted.proofs.MadeNames.{IsMadeName, made_named}
use Rattle.law_emitted.proofs.Makings.{Making, as_adjoint, as_forth, as_back, its_name}

-- they are written, with an underscore
pub its_named : (ps : List Procedure) (u : Procedure) (k : Making) → Each (λ u. IsName u.name) ps → is_unit ps u.name ≡ true → IsMadeName (its_name ps u k)
its_named ps u (as_adjoint at_turn at_end) named there = made_named (codes "_B") refl refl (source_names ps) ps u.name named there
its_named ps u as_forth named there = made_named (codes "_FWD") refl refl (taken_forth ps) ps u.name named there
its_named ps u as_back named there = made_named (codes "_BWD") refl refl (taken_back ps) ps u.name named there

module _ (ps : List Procedure) where
  abbrev adj : List ℕ → List ℕ
  adj x = named_after (codes "_B") (source_names ps) ps x

  abbrev fwd : List ℕ → List ℕ
  fwd x = named_after (codes "_FWD") (taken_forth ps) ps x

  abbrev bwd : List ℕ → List ℕ
  bwd x = named_after (codes "_BWD") (taken_back ps) ps x

  fwd_free : (y : List ℕ) → is_unit ps y ≡ true → (has_name (fwd y) (source_names ps) ≡ false) × (has_name (fwd y) (named_list (codes "_B") (source_names ps) ps) ≡ false)
  fwd_free y h = or_false (has_name (fwd y) (source_names ps)) (has_name (fwd y) (named_list (codes "_B") (source_names ps) ps)) (sym (has-append (fwd y) (source_names ps) (named_list (codes "_B") (source_names ps) ps)) ∙ name_free (codes "_FWD") (taken_forth ps) ps y h)

  bwd_free : (y : List ℕ) → is_unit ps y ≡ true → (has_name (bwd y) (taken_forth ps) ≡ false) × (has_name (bwd y) (named_list (codes "_FWD") (taken_forth ps) ps) ≡ false)
  bwd_free y h = or_false (has_name (bwd y) (taken_forth ps)) (has_name (bwd y) (named_list (codes "_FWD") (taken_forth ps) ps)) (sym (has-append (bwd y) (taken_forth ps) (named_list (codes "_FWD") (taken_forth ps) ps)) ∙ name_free (codes "_BWD") (taken_back ps) ps y h)

  bwd_source : (y : List ℕ) → is_unit ps y ≡ true → (has_name (bwd y) (source_names ps) ≡ false) × (has_name (bwd y) (named_list (codes "_B") (source_names ps) ps) ≡ false)
  bwd_source y h = or_false (has_name (bwd y) (source_names ps)) (has_name (bwd y) (named_list (codes "_B") (source_names ps) ps)) (sym (has-append (bwd y) (source_names ps) (named_list (codes "_B") (source_names ps) ps)) ∙ (bwd_free y h).0)

  -- no name of the source is one of them
  pub its_free : (u : Procedure) (k : Making) → is_unit ps u.name ≡ true → has_name (its_name ps u k) (source_names ps) ≡ false
  its_free u (as_adjoint at_turn at_end) h = name_free (codes "_B") (source_names ps) ps u.name h
  its_free u as_forth h = (fwd_free u.name h).0
  its_free u as_back h = (bwd_source u.name h).0

  pub its_no_unit : (x : List ℕ) (u : Procedure) (k : Making) → is_unit ps x ≡ true → is_unit ps u.name ≡ true → name_eq x (its_name ps u k) ≡ false
  its_no_unit x u k h g =
      let free = its_free u k g in
      has_apart x (its_name ps u k) (map unit_name ps) (unit_named ps x h) (or_false (has_name (its_name ps u k) (map unit_name ps)) (has_name (its_name ps u k) (flat_map variables ps)) (sym (has-append (its_name ps u k) (map unit_name ps) (flat_map variables ps)) ∙ free)).0

  pub its_no_variable : (x : List ℕ) (u : Procedure) (k : Making) → has_name x (flat_map variables ps) ≡ true → is_unit ps u.name ≡ true → name_eq x (its_name ps u k) ≡ false
  its_no_variable x u k h g =
      let free = its_free u k g in
      has_apart x (its_name ps u k) (flat_map variables ps) h (or_false (has_name (its_name ps u k) (map unit_name ps)) (has_name (its_name ps u k) (flat_map variables ps)) (sym (has-append (its_name ps u k) (map unit_name ps) (flat_map variables ps)) ∙ free)).1

  -- those of different kinds are apart, and those of different units
  pub adj_fwd : (x y : List ℕ) → is_unit ps x ≡ true → is_unit ps y ≡ true → name_eq (adj x) (fwd y) ≡ false
  adj_fwd x y h g = has_apart (adj x) (fwd y) (named_list (codes "_B") (source_names ps) ps) (name_among (codes "_B") (source_names ps) ps x h) (fwd_free y g).1

  pub adj_bwd : (x y : List ℕ) → is_unit ps x ≡ true → is_unit ps y ≡ true → name_eq (adj x) (bwd y) ≡ false
  adj_bwd x y h g = has_apart (adj x) (bwd y) (named_list (codes "_B") (source_names ps) ps) (name_among (codes "_B") (source_names ps) ps x h) (bwd_source y g).1

  pub fwd_bwd : (x y : List ℕ) → is_unit ps x ≡ true → is_unit ps y ≡ true → name_eq (fwd x) (bwd y) ≡ false
  fwd_bwd x y h g = has_apart (fwd x) (bwd y) (named_list (codes "_FWD") (taken_forth ps) ps) (name_among (codes "_FWD") (taken_forth ps) ps x h) (bwd_free y g).1

  pub others_made_apart : (u v : Procedure) → is_unit ps u.name ≡ true → is_unit ps v.name ≡ true → name_eq u.name v.name ≡ false → (k l : Making) → name_eq (its_name ps u k) (its_name ps v l) ≡ false
  others_made_apart u v h g n (as_adjoint a b) (as_adjoint c d) = names_apart (codes "_B") (source_names ps) ps u.name v.name h g n
  others_made_apart u v h g n (as_adjoint a b) as_forth = adj_fwd u.name v.name h g
  others_made_apart u v h g n (as_adjoint a b) as_back = adj_bwd u.name v.name h g
  others_made_apart u v h g n as_forth (as_adjoint c d) = name_comm (adj v.name) (fwd u.name) (adj_fwd v.name u.name g h)
  others_made_apart u v h g n as_forth as_forth = names_apart (codes "_FWD") (taken_forth ps) ps u.name v.name h g n
  others_made_apart u v h g n as_forth as_back = fwd_bwd u.name v.name h g
  others_made_apart u v h g n as_back (as_adjoint c d) = name_comm (adj v.name) (bwd u.name) (adj_bwd v.name u.name g h)
  others_made_apart u v h g n as_back as_forth = name_comm (fwd v.name) (bwd u.name) (fwd_bwd v.name u.name g h)
  others_made_apart u v h g n as_back as_back = names_apart (codes "_BWD") (taken_back ps) ps u.name v.name h g n
