-- The names of the units that are made: of all, and of those that are emitted.
use Rattle.std.proofs.Common.{◌≡◌, ℕ, Bool, true, false, List, [], ◌∷◌, ◌++◌, map, refl, sym, ap, ◌∙◌, if◌then◌else◌, codes}
use Rattle.std.specs.Prelude.{◌||◌}
use Rattle.adj_tree.specs.Code.{Procedure}
use Rattle.def_meaning.specs.Apart.{has_name, AreApart}
use Rattle.def_sweep.specs.Declared.{unit_name}
use Rattle.def_sweep.specs.Names.{source_names, named_list, taken_forth, adjoint_name, forth_name, back_name}
use Rattle.def_sweep.specs.Marking.{ProgramMarks}
use Rattle.def_sweep.specs.Program.{has_adjoint, has_pair, made_names}
use Rattle.adj_sets.specs.Sets.{all_added}
use Rattle.adj_sets.proofs.NameSets.{has-behind}
use Rattle.adj_naming.proofs.Added.{SameNames, has-all_added, once_same}
use Rattle.adj_weave_units.proofs.Ordered.{named_are}
use Rattle.adj_weave.specs.declared.made.MadeNames.{MadeNames}
use Rattle.adj_weave.specs.Named.{AreMade, flagged_names, made_flagged}

-- ---- of all

module _ (ps : List Procedure) (apart : AreApart (map unit_name ps)) where
  -- where the same names are taken, the same names are made
  list_same : (ending : List ℕ) (taken others : List (List ℕ)) → SameNames taken others → named_list ending taken ps ≡ named_list ending others ps
  list_same ending taken others h = named_are ending taken others ps apart h ∙ sym (named_are ending others others ps apart (record { at = λ x. refl }))

  -- and the same are taken then
  next_same : (ending : List ℕ) (taken others xs : List (List ℕ)) → SameNames taken others → xs ≡ named_list ending taken ps → SameNames (all_added taken xs) (others ++ named_list ending others ps)
  next_same ending taken others xs h is =
      let same : xs ≡ named_list ending others ps = is ∙ list_same ending taken others h in
      record { at = λ x. has-all_added x taken xs ∙ (λ i. h.at x i || has_name x (same i)) ∙ sym (has-behind x others (named_list ending others ps)) }

  -- adjoints are named first, then forward units, and then backward units
  pub all_are_made : (source : List (List ℕ)) → source ≡ all_added [] (source_names ps) → (n : MadeNames) → n.adjoints.items ≡ named_list (codes "_B") source ps → n.forths.items ≡ named_list (codes "_FWD") (all_added source n.adjoints.items) ps →
      n.backs.items ≡ named_list (codes "_BWD") (all_added (all_added source n.adjoints.items) n.forths.items) ps → AreMade ps n
  all_are_made source is n adjoints forths backs =
      let once = once_same (source_names ps) in
      let first : SameNames source (source_names ps) = record { at = λ x. ap (has_name x) is ∙ once.at x } in
      let second : SameNames (all_added source n.adjoints.items) (taken_forth ps) = next_same (codes "_B") source (source_names ps) n.adjoints.items first adjoints in
      let third = next_same (codes "_FWD") (all_added source n.adjoints.items) (taken_forth ps) n.forths.items second forths in
      record {
        adjoints = adjoints ∙ named_are (codes "_B") source (source_names ps) ps apart first;
        forths = forths ∙ named_are (codes "_FWD") (all_added source n.adjoints.items) (taken_forth ps) ps apart second;
        backs = backs ∙ named_are (codes "_BWD") (all_added (all_added source n.adjoints.items) n.forths.items) (taken_forth ps ++ named_list (codes "_FWD") (taken_forth ps) ps) ps apart third;
      }

-- ---- of those that are emitted

both_names : (b : Bool) (y z : List ℕ) (rest : List (List ℕ)) → flagged_names b (y ∷ []) ++ (flagged_names b (z ∷ []) ++ rest) ≡ (if b then y ∷ z ∷ [] else []) ++ rest
both_names true y z rest = refl
both_names false y z rest = refl

pub emitted_names : (m : ProgramMarks) (ps : List Procedure) (head : Procedure) (us : List Procedure) →
    made_flagged (map (λ u. has_adjoint m ps head u.name) us) (map (λ u. has_pair m ps head u.name) us) (map (adjoint_name ps) us) (map (forth_name ps) us) (map (back_name ps) us) ≡ made_names m ps head us
emitted_names m ps head [] = refl
emitted_names m ps head (u ∷ us) =
    let adjoint = flagged_names (has_adjoint m ps head u.name) (adjoint_name ps u ∷ []) in
    let pair = has_pair m ps head u.name in
    (λ i. adjoint ++ (flagged_names pair (forth_name ps u ∷ []) ++ (flagged_names pair (back_name ps u ∷ []) ++ emitted_names m ps head us i)))
    ∙ ap (λ z. adjoint ++ z) (both_names pair (forth_name ps u) (back_name ps u) (made_names m ps head us))
