-- What is emitted has no faults of writes.
use Rattle.std.proofs.Common.{◌≡◌, refl, ℕ, Bool, true, false, List, [], ◌++◌, sym, ◌∙◌}
use Rattle.std.specs.Prelude.{Some}
use Rattle.adj_tree.specs.Code.{plain, Procedure}
use Rattle.def_meaning.specs.Append.{◌+++◌}
use Rattle.def_meaning.specs.LeastSet.{Dummies}
use Rattle.def_meaning.specs.Written.{find_unit, writes, handed_back}
use Rattle.def_meaning.specs.Read.{is_extent}
use Rattle.def_names.specs.Variables.{variables, is_dummy}
use Rattle.def_names.specs.WriteFaults.{written_variables, written_extents, shared_variables, written_values, faults_of_writes, write_faults}
use Rattle.def_names.proofs.Sound.{sound_has_none}
use Rattle.def_names.proofs.Variables.{not_true}
use Rattle.def_sweep.specs.Marking.{arrays_of}
use Rattle.def_sweep.specs.Naming.{Named, naming}
use Rattle.def_tangent.specs.Forward.{tangents}
use Rattle.def_tangent.specs.Program.{Carried, helpers_used, plan_in, cleared, names_of_unit, has_tangent, stays, emitted_units}
use Rattle.def_flow.specs.Carried.{carried_by}
use Rattle.law_kernel.proofs.Holding.{holds_join}
use Rattle.law_kernel.proofs.Sparing.{Spares, of_spared, of_kept}
use Rattle.law_sweep.specs.Source.{is_unit, CallUnits}
use Rattle.law_sweep.proofs.UnitLists.{found_there}
use Rattle.law_sweep.proofs.Variables.{dummy_among}
use Rattle.law_emitted.proofs.Lists.{Each, each_more, each_both, none_each}
use Rattle.law_emitted.proofs.Callings.{Found, each_at}
use Rattle.law_emitted.proofs.CallFaults.{all_known, all_there}
use Rattle.law_emitted.proofs.RenamedWrites.{renamed_spared}
use Rattle.law_emitted.proofs.UnitFaults.{flat_none}
use Rattle.law_emitted.proofs.WriteFaults.{made_extent, still, still_spared, IsTame, tame_of}
use Rattle.law_tangent_carried.specs.Emitted.{WritesHaveNone}
use Rattle.law_tangent_carried.proofs.EmittedUnits.{all_units, at_first, tangent_of, each_emitted, for_head}
use Rattle.law_tangent_carried.proofs.EmittedCalls.{goes, tangent_calls}
use Rattle.law_tangent_carried.proofs.TangentNames.{tangent_apart}
use Rattle.law_tangent_carried.proofs.ActualFaults.{IsOwn, all_own, emitted_clean}
use Rattle.law_tangent_carried.proofs.Writing.{cleared_spared, tangent_spared}
use Rattle.law_tangent_carried.proofs.HandedBack.{common, HandBackNoMore, still_less, tangent_less, made_writes, handed_no_more}

module _ (c : Carried) (ps : List Procedure) (head : Procedure) (vars : List Bool) (known : CallUnits ps ps) (top : is_unit ps head.name ≡ true) (own : Each IsOwn ps) where
  abbrev qs : List Procedure
  qs = emitted_units c ps head vars ps

  abbrev f : Dummies
  f = handed_back qs

  abbrev g : Dummies
  g = handed_back ps

  -- it writes no variable of a DO in its body, and no extent
  abbrev HasNeither : Procedure → Type 0
  HasNeither v = (written_variables f v ≡ []) × (written_extents f v ≡ [])

  back : HandBackNoMore c ps head vars known top own f
  back = handed_no_more c ps head vars known top own

  still_neither : (u : Procedure) → find_unit ps u.name ≡ Some u → IsTame ps u → stays c ps head.name u.name ≡ true → HasNeither u
  still_neither u found tame h =
      let inside = (let z = common c ps head vars known top own in z.closed u.name u h found) in (
        of_spared f u (still_spared f g (stays c ps head.name) (still_less c ps head vars known top own f back) u.body inside tame.0),
        of_kept f u (λ d k e. still f g (stays c ps head.name) (still_less c ps head vars known top own f back) u.body inside (plain d) (tame.1 d k e)),
      )

  tangent_neither : (u : Procedure) → find_unit ps u.name ≡ Some u → IsOwn u → IsTame ps u → has_tangent c ps head.name u.name ≡ true → HasNeither (tangent_of c ps head vars u)
  tangent_neither u found text tame there = (
    of_spared f (tangent_of c ps head vars u)
        (renamed_spared f (naming ns) (tangent_apart c ps (all_units c ps head vars) u text.1) (cleared (arrays_of u) u.line (at_first c ps head vars u) +++ tangents (plan_in c ps u.name) u.body)
        (holds_join (λ line a. Spares f a) (cleared (arrays_of u) u.line (at_first c ps head vars u)) (tangents (plan_in c ps u.name) u.body) (cleared_spared f (arrays_of u) u.line (at_first c ps head vars u))
        (tangent_spared f g (plan_in c ps u.name) (goes c ps head vars known) (tangent_less c ps head vars known top own f back u) u.body (tangent_calls c ps head vars known u.name u found there) text.0 tame.0))),
    of_kept f (tangent_of c ps head vars u) unwritten,
  )
    where
      ns : List Named
      ns = names_of_unit (c u.name) (all_units c ps head vars) u

      unwritten : (d : List ℕ) → is_dummy (tangent_of c ps head vars u) d ≡ true → is_extent d (tangent_of c ps head vars u).declarations ≡ true → writes f (plain d) (tangent_of c ps head vars u).body ≡ false
      unwritten d k e =
          let extent = made_extent d (c u.name) ns u (variables u) (helpers_used (c u.name) u.body) e in
          let dummy = text.1.1 d extent in
          let kept : writes g (plain d) u.body ≡ false = tame.1 d dummy extent in
          not_true (writes f (plain d) (tangent_of c ps head vars u).body) (λ w. let z : true ≡ false = sym (made_writes c ps head vars known top own f back u found there d (dummy_among u d dummy) w) ∙ kept in cc)

  abbrev All : Procedure → Type 0
  All u = Found ps u × (IsOwn u × IsTame ps u)

  all_neither : Each (Found ps) ps → Each (IsTame ps) ps → Each HasNeither qs
  all_neither found tame =
      each_emitted c ps head vars HasNeither ps (each_more All (λ u. stays c ps head.name u.name ≡ true → HasNeither u) (λ u k h. still_neither u k.0.0 k.1.1 h) ps all)
      (each_more All (λ u. has_tangent c ps head.name u.name ≡ true → HasNeither (tangent_of c ps head vars u)) (λ u k h. tangent_neither u k.0.0 k.1.0 k.1.1 h) ps all)
    where
      all : Each All ps
      all = each_both (Found ps) (λ u. IsOwn u × IsTame ps u) ps found (each_both IsOwn (IsTame ps) ps own tame)

  pub emitted_none : Each (Found ps) ps → Each (IsTame ps) ps → write_faults qs ≡ []
  emitted_none found tame =
      flat_none (faults_of_writes f) qs
      (each_more (λ v. HasNeither v × (shared_variables f v ++ written_values f v ≡ [])) (λ v. faults_of_writes f v ≡ []) (λ v h. λ i. h.0.0 i ++ (h.0.1 i ++ h.1 i)) qs
      (each_both HasNeither (λ v. shared_variables f v ++ written_values f v ≡ []) qs (all_neither found tame) (emitted_clean f c ps head vars own)))

-- the law
pub writes_have_none : WritesHaveNone
writes_have_none rules k checked varied on is =
    for_head (λ qs. write_faults qs ≡ []) (carried_by k.units on) k.units k.head k.vars refl (λ u at.
    emitted_none (carried_by k.units on) k.units u k.vars (all_known rules k.units checked) (found_there k.units u.name u (each_at (Found k.units) k.head k.units u (all_there rules k.units checked) at).0).0 (all_own rules k.units checked k.head u at) (all_there rules k.units checked) tame)
  where
    tame : Each (IsTame k.units) k.units
    tame = each_more (λ u. faults_of_writes (handed_back k.units) u ≡ []) (IsTame k.units) (λ u h. tame_of k.units u h) k.units (none_each (faults_of_writes (handed_back k.units)) k.units (sound_has_none rules k.units checked.sound).writes)
