-- What is held or read at a point is reached from the adjoint reads along the ways.
use Rattle.std.proofs.Common.{◌≡◌, ◌⊎◌, inl, inr, ℕ, refl, sym, ap, subst, arith}
use Rattle.std.specs.Prelude.{◌↔◌, false, Contains, map}
use Rattle.adj_tree.specs.Code.{Var}
use Rattle.def_names.specs.Numbering.{point_before}
use Rattle.adj_reach.specs.Reached.{Reached, begins, leads}
use Rattle.def_flow.specs.Parts.{Part}
use Rattle.def_flow.specs.Ways.{Way}
use Rattle.def_flow.specs.Problem.{Problem, ways_of, TakesPart}
use Rattle.def_flow.specs.Flow.{Node}
use Rattle.def_flow.specs.Activity.{Activity}
use Rattle.def_flow.specs.Live.{Liveness}
use Rattle.def_flow.specs.Held.{AdjointReads, HeldLeads, Held, replaced_on, read, stays}
use Rattle.def_flow.specs.Rules.{Scope, Covers, reads_list, held_steps}
use Rattle.adj_reach.proofs.Members.{map_has, map_only}
use Rattle.def_flow.proofs.AsLists.{AreLists}
use Rattle.def_flow.proofs.FlowListed as flowing
use Rattle.def_flow.proofs.HeldListed.{reads_have, reads_only, held_lists}

-- before a statement
abbrev pub before : ℕ × Var → Node
before r = (point_before r.0, r.1)

module _ (k : Problem) (a : Activity) (l : Liveness) where
  -- the statement behind the point reads the variable in its adjoint
  abbrev pub IsRead : Node → Type 0
  IsRead n = (i : ℕ) × (n.0 ≡ point_before i) × AdjointReads k a l i n.1

  abbrev pub Stands : Node → Type 0
  Stands = Reached IsRead (HeldLeads k l)

  -- behind a way that doesn't replace it the variable is held
  held_behind : (n m : Node) → Held k a l n ⊎ IsRead n → HeldLeads k l n m → Held k a l m
  held_behind n m (inl h) s = leads h s
  held_behind n m (inr r) (stays {g = g} {w = w} {v = v} p c h) = begins (read p c r.1 r.2 h)

  stands_is : (n : Node) → Stands n → Held k a l n ⊎ IsRead n
  stands_is n (begins r) = inr r
  stands_is n (leads {x = m} r s) = inl (held_behind m n (stands_is m r) s)

  held_stands : (n : Node) → Held k a l n → Stands n
  held_stands n (begins (read {g = g} {w = w} {i = i} {v = v} p c e r h)) = leads {x = (w.from, v)} (begins (i, e, r)) (stays p c h)
  held_stands n (leads {x = m} r s) = leads (held_stands m r) s

  -- so before a statement it is what is held there or read by its adjoint
  pub stands_before : (i : ℕ) (v : Var) → Stands (point_before i, v) ↔ (Held k a l (point_before i, v) ⊎ AdjointReads k a l i v)
  stands_before i v = (λ s. of (stands_is (point_before i, v) s), to)
    where
      of : Held k a l (point_before i, v) ⊎ IsRead (point_before i, v) → Held k a l (point_before i, v) ⊎ AdjointReads k a l i v
      of (inl h) = inl h
      of (inr r) = let e = r.1 in let q : r.0 ≡ i = omega arith in inr (subst (λ j. AdjointReads k a l j v) q r.2)

      to : Held k a l (point_before i, v) ⊎ AdjointReads k a l i v → Stands (point_before i, v)
      to (inl h) = held_stands (point_before i, v) h
      to (inr r) = begins (i, refl, r)

  -- a variable is held just behind the ways that don't replace it, and from which it is held or read
  pub held_from : (w : Way) (g : Part) (v : Var) → TakesPart k g → Contains (ways_of g) w → replaced_on l.kept w.deed v ≡ false → Stands (w.from, v) → Held k a l (w.to, v)
  held_from w g v p c h s = held_behind (w.from, v) (w.to, v) (stands_is (w.from, v) s) (stays p c h)

  pub held_way : (n : Node) → Held k a l n → (g : Part) × (w : Way) × TakesPart k g × Contains (ways_of g) w × (w.to ≡ n.0) × (replaced_on l.kept w.deed n.1 ≡ false) × Stands (w.from, n.1)
  held_way n (begins (read {g = g} {w = w} {i = i} {v = v} p c e r h)) = (g, w, p, c, refl, h, begins (i, e, r))
  held_way n (leads {x = m} r (stays {g = g} {w = w} {v = v} p c h)) = (g, w, p, c, refl, h, held_stands m r)

  -- ---- by lists

  pub stands_lists : (o : Scope) (y : Covers k o) → AreLists IsRead (HeldLeads k l) (flowing.IsKnown k o y) (map before (reads_list k a l o)) (held_steps l o)
  stands_lists o y = record { begun = begun; led = (held_lists k o y a l).led; only_begun = only_begun; only_led = (held_lists k o y a l).only_led }
    where
      begun : (n : Node) → IsRead n → flowing.IsKnown k o y n × Contains (map before (reads_list k a l o)) n
      begun n r =
          let h = reads_have k o y a l r.0 n.1 r.2 in
          let q : (point_before r.0, n.1) ≡ n = (λ j. (sym r.1 j, n.1)) in
          (subst (λ z. flowing.IsKnown k o y z) q h.0, subst (λ z. Contains (map before (reads_list k a l o)) z) q (map_has before (reads_list k a l o) (r.0, n.1) h.1))

      only_begun : (n : Node) → Contains (map before (reads_list k a l o)) n → IsRead n
      only_begun n c =
          let r = map_only before (reads_list k a l o) n c in
          (r.0.0, sym (ap (λ (z : Node). z.0) r.2), subst (λ v. AdjointReads k a l r.0.0 v) (ap (λ (z : Node). z.1) r.2) (reads_only k o y a l r.0 r.1))
