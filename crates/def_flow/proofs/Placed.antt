-- The ways of each statement are ways of its unit.
use Rattle.std.proofs.Common.{◌≡◌, ◌⊎◌, inl, inr, ℕ, suc, ◌∷◌, ◌++◌, sym, subst}
use Rattle.std.specs.Prelude.{Contains}
use Rattle.std.proofs.lemmas.List.Elements.{Contains-append_left, Contains-append_right, Contains-append_cases}
use Rattle.adj_tree.specs.Code.{Act, assign, choose, loop, during, call, runtime, Code, stop, step}
use Rattle.def_names.specs.Numbers.{next, behind}
use Rattle.def_names.specs.Numbering.{point_before, point_after, point_inside}
use Rattle.def_flow.specs.Parts.{Part}
use Rattle.def_flow.specs.Ways.{Deed, passing, assigning, Way, way, act_ways, ways}
use Rattle.def_flow.specs.Standing.{Place, outermost, part_of, body_of, Standing, held_in, standing}
use Rattle.def_flow.specs.Problem.{statements_of, ways_of}
use Rattle.adj_reach.proofs.Members.{is_later, is_among, is_none}

mutual
  ways_in_act : (i : ℕ) (a : Act) (s : Standing) (w : Way) → Contains (held_in i a) s → Contains (act_ways s.number s.act) w → Contains (act_ways i a) w
  ways_in_act i (assign x subs e) s w c d = absurd (is_none s c)
  ways_in_act i (choose t a b) s w c d =
      go (Contains-append_cases (standing (part_of i) (suc i) a) (standing (part_of i) (behind (suc i) a) b) s c)
      (λ e. ways_in_list (part_of i) (suc i) (point_before i) (point_after i) passing a s w e d) (λ e. ways_in_list (part_of i) (behind (suc i) a) (point_before i) (point_after i) passing b s w e d)
    where
      go : Contains (standing (part_of i) (suc i) a) s ⊎ Contains (standing (part_of i) (behind (suc i) a) b) s →
          (Contains (standing (part_of i) (suc i) a) s → Contains (ways (suc i) (point_before i) (point_after i) passing a) w) → (Contains (standing (part_of i) (behind (suc i) a) b) s → Contains (ways (behind (suc i) a) (point_before i) (point_after i) passing b) w) →
          Contains (act_ways i (choose t a b)) w
      go (inl e) f h = Contains-append_left (ways (suc i) (point_before i) (point_after i) passing a) (ways (behind (suc i) a) (point_before i) (point_after i) passing b) w (f e)
      go (inr e) f h = Contains-append_right (ways (suc i) (point_before i) (point_after i) passing a) (ways (behind (suc i) a) (point_before i) (point_after i) passing b) w (h e)
  ways_in_act i (loop x first last by body m) s w c d =
      is_later w (way (point_before i) (point_inside i) (assigning i x)) (way (point_inside i) (point_after i) passing ∷ ways (suc i) (point_inside i) (point_inside i) (assigning i x) body)
      (is_later w (way (point_inside i) (point_after i) passing) (ways (suc i) (point_inside i) (point_inside i) (assigning i x) body)
      (ways_in_list (body_of i x m) (suc i) (point_inside i) (point_inside i) (assigning i x) body s w c d))
  ways_in_act i (during q body) s w c d =
      is_later w (way (point_before i) (point_inside i) passing) (way (point_inside i) (point_after i) passing ∷ ways (suc i) (point_inside i) (point_inside i) passing body)
      (is_later w (way (point_inside i) (point_after i) passing) (ways (suc i) (point_inside i) (point_inside i) passing body)
      (ways_in_list (part_of i) (suc i) (point_inside i) (point_inside i) passing body s w c d))
  ways_in_act i (call name args) s w c d = absurd (is_none s c)
  ways_in_act i (runtime r) s w c d = absurd (is_none s c)

  ways_in_list : (at : Place) (i p q : ℕ) (last : Deed) (c : Code) (s : Standing) (w : Way) → Contains (standing at i c) s → Contains (act_ways s.number s.act) w → Contains (ways i p q last c) w
  ways_in_list at i p q last stop s w c d = absurd (is_none s c)
  ways_in_list at i p q last (step line a rest) s w c d =
      is_later w (way p (point_before i) passing) (act_ways i a ++ ways (next i a) (point_after i) q last rest)
      (go (is_among s (record { number = i; place = at; act = a }) (held_in i a ++ standing at (next i a) rest) c) (λ e. ways_in_act i a s w e d) (λ e. ways_in_list at (next i a) (point_after i) q last rest s w e d))
    where
      deeper : Contains (held_in i a) s ⊎ Contains (standing at (next i a) rest) s →
          (Contains (held_in i a) s → Contains (act_ways i a) w) → (Contains (standing at (next i a) rest) s → Contains (ways (next i a) (point_after i) q last rest) w) → Contains (act_ways i a ++ ways (next i a) (point_after i) q last rest) w
      deeper (inl e) f h = Contains-append_left (act_ways i a) (ways (next i a) (point_after i) q last rest) w (f e)
      deeper (inr e) f h = Contains-append_right (act_ways i a) (ways (next i a) (point_after i) q last rest) w (h e)

      go : (record { number = i; place = at; act = a } ≡ s) ⊎ Contains (held_in i a ++ standing at (next i a) rest) s →
          (Contains (held_in i a) s → Contains (act_ways i a) w) → (Contains (standing at (next i a) rest) s → Contains (ways (next i a) (point_after i) q last rest) w) → Contains (act_ways i a ++ ways (next i a) (point_after i) q last rest) w
      go (inl e) f h = Contains-append_left (act_ways i a) (ways (next i a) (point_after i) q last rest) w (subst (λ (z : Standing). Contains (act_ways z.number z.act) w) (sym e) d)
      go (inr e) f h = deeper (Contains-append_cases (held_in i a) (standing at (next i a) rest) s e) f h

-- the ways of a statement of a unit are ways of the unit
pub way_of_statement : (g : Part) (s : Standing) (w : Way) → Contains (statements_of g) s → Contains (act_ways s.number s.act) w → Contains (ways_of g) w
way_of_statement g s w = ways_in_list outermost g.first g.entry g.end passing g.unit.body s w
