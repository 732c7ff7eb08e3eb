-- What is flagged somewhere in a unit, by the places of its variables.
use Rattle.std.proofs.Common.{◌≡◌, ℕ, ◌<◌, List, [], ◌∷◌, Bool, false, length, refl, sym, ap, ◌∙◌, arith}
use Rattle.std.specs.Prelude.{Option, Some, None}
use Rattle.std.specs.Borrow.{Bor}
use Rattle.std.proofs.lemmas.List.{length-map}
use Rattle.adj_tree.specs.Code.{Var, plain}
use Rattle.def_flow.specs.Ways.{Way}
use Rattle.def_flow.specs.Rules.{somewhere}
use Rattle.adj_reach.specs.Edges.{flag}
use Rattle.adj_flow.specs.Nodes.{place_in, number_at}
use Rattle.adj_flow.specs.NodeView.{vars_of, told_at}
use Rattle.adj_flow.specs.Rows.{Row}
use Rattle.adj_flow.specs.Told.{flag_at}
use Rattle.adj_flow.proofs.Places.{place_range}
use Rattle.adj_activity.specs.Starts.{is_useful_in, AreSeen, AreUseful}

nowhere : (ws : List Way) → somewhere ws (λ p. false) ≡ false
nowhere [] = refl
nowhere (x ∷ ws) = nowhere ws

module _ (r : Row) (v : Var) (w : ℕ) where
  module _ (j : ℕ) (e : place_in 0 (vars_of r) v ≡ Some j) where
    within : j < length r.variables
    within = let l = place_range 0 (vars_of r) v j e in omega (arith, l.1, length-map r.variables (λ y. plain y))

    -- a variable with a place
    pub seen_told : (flags seen : List Bool) → AreSeen seen flags w r → flag seen j ≡ somewhere r.ways (λ p. told_at flags w r p v)
    seen_told flags seen h = h j within ∙ sym (ap (λ o. somewhere r.ways (λ p. flag_at flags (number_at w p o))) e)

    pub seen_useful : (o : Option (Bor (List Bool))) (seen : List Bool) → AreUseful seen o w r → flag seen j ≡ is_useful_in o w r v
    seen_useful None seen h = h j within
    seen_useful (Some u) seen h = seen_told u.now seen h

  -- what has no place isn't flagged
  pub unseen : (flags : List Bool) → place_in 0 (vars_of r) v ≡ None → somewhere r.ways (λ p. told_at flags w r p v) ≡ false
  unseen flags e = ap (λ o. somewhere r.ways (λ p. flag_at flags (number_at w p o))) e ∙ nowhere r.ways
