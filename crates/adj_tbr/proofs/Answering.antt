-- Flags of what the listed edges reach from the adjoint reads, and of what is saved by them, tell what is held and what is saved.
use Rattle.std.proofs.Common.{◌≡◌, ℕ, ◌≤◌, List, [], Bool, length, ◌∙◌, subst, false}
use Rattle.std.specs.Prelude.{◌↔◌, IsTrue, All, Contains, Option}
use Rattle.std.specs.Option.{option_map}
use Rattle.adj_tree.specs.Code.{Var}
use Rattle.def_meaning.specs.LeastSet.{least_rows}
use Rattle.def_meaning.specs.Read.{read_rule}
use Rattle.def_meaning.specs.Written.{write_rule}
use Rattle.def_names.specs.Numbers.{Vars}
use Rattle.def_names.specs.Numbering.{point_before}
use Rattle.def_sweep.specs.Facts.{In}
use Rattle.adj_reach.specs.Reached.{Reached, begins, leads}
use Rattle.def_flow.specs.Parts.{Part, parts, find_part}
use Rattle.def_flow.specs.Problem.{Problem, TakesPart}
use Rattle.def_flow.specs.Activity.{Activity, IsPoint}
use Rattle.def_flow.specs.Flow.{Node}
use Rattle.def_flow.specs.Held.{HeldLeads, Saves, IsSaved}
use Rattle.def_flow.specs.Analysed.{IsHeld}
use Rattle.def_flow.specs.Live.{Liveness}
use Rattle.def_flow.specs.Rules.{Scope, Covers}
use Rattle.def_flow.proofs.AsLists.{reached_known}
use Rattle.adj_reach.proofs.Members.{is_none}
use Rattle.def_flow.proofs.HeldListed.{saves_have, saves_only}
use Rattle.def_flow.proofs.Numbered.{IsListed}
use Rattle.def_flow.proofs.Points.{one_point}
use Rattle.adj_symbols_writes.specs.Table.{value_of}
use Rattle.adj_flow.specs.NodeView.{found_at}
use Rattle.adj_symbols_writes.specs.Graph.{number_from}
use Rattle.adj_flow.specs.Nodes.{IsWide, HasNode, HasNumber}
use Rattle.adj_flow.specs.Rows.{Row, row_in, rows}
use Rattle.adj_flow.specs.Scoped.{scope_by, HoldVariables}
use Rattle.adj_flow.specs.Told.{unit_at, told_in, told}
use Rattle.adj_flow.proofs.Covering.{flags_cover, scope_wide}
use Rattle.adj_flow.proofs.Images.{listed_along}
use Rattle.adj_flow.proofs.Places.{one_number, own_number, here_has, has_here}
use Rattle.adj_flow.proofs.Scoping.{found_unit}
use Rattle.adj_flow.proofs.Telling.{told_exact, point_found, point_finds}
use Rattle.adj_reach.specs.Edges.{ReachedFrom, flag}
use Rattle.adj_tbr.specs.Bound.{seen}
use Rattle.adj_tbr.specs.View.{find, held_edges, split_by}
use Rattle.adj_tbr.specs.Reads.{read_nodes}
use Rattle.adj_tbr.specs.Saves.{save_nodes}
use Rattle.adj_tbr.specs.declared.found.Found.{Found}
use Rattle.adj_flow.specs.declared.sides.Sides.{Sides}
use Rattle.adj_tbr.proofs.Given.{activity_by, liveness_by}
use Rattle.adj_tbr.proofs.Behind.{held_by, held_exact}
use Rattle.adj_tbr.proofs.Numbering.{images_made}
use Rattle.adj_tbr.proofs.Reading.{read_images}
use Rattle.adj_tbr.proofs.Saving.{IsStatement, one_statement, save_images}
use Rattle.adj_tbr.proofs.Standing.{before, IsRead, Stands, stands_before, stands_lists}
use Rattle.adj_tbr.proofs.Ways.{way_images}

module _ (k : Problem) (vss : List (List (List ℕ))) (taking : List Bool) (w : ℕ) (y : Covers k (scope_by vss (flag taking) k.units)) (wide : IsWide k (scope_by vss (flag taking) k.units) w) (f : Found) (useful : List Bool) (t : Sides) (find : List ℕ → Option Row)
    (finds : (x : List ℕ) → find x ≡ option_map (row_in vss) (find_part (parts k.units) x)) (read : seen t.read.now ≡ least_rows read_rule k.units) (written : seen t.written.now ≡ least_rows write_rule k.units) (splits : (n : ℕ) → split_by f n ≡ k.split n)
    (held : List Bool) (reached : (m : ℕ) → IsTrue (flag held m) ↔ ReachedFrom (held_edges f (rows vss k.units) taking w) (read_nodes f t find (rows vss k.units) taking w) m) where
  abbrev o : Scope
  o = scope_by vss (flag taking) k.units

  abbrev a : Activity
  a = activity_by f useful o w

  -- whatever is needed
  module _ (needed : ℕ → Vars) where
    abbrev l : Liveness
    l = liveness_by f needed o w

    stands_listed : IsListed (IsRead k a l) (HeldLeads k l) (HasNode k o w) (λ n. Contains (read_nodes f t find (rows vss k.units) taking w) n) (λ m n. Contains (held_edges f (rows vss k.units) taking w) (m, n))
    stands_listed =
        listed_along (one_number k o w wide IsPoint (one_point k)) (own_number k o w wide IsPoint (one_point k)) (here_has k o w wide IsPoint (one_point k)) (has_here k o w wide IsPoint (one_point k))
        (images_made before _ (read_nodes f t find (rows vss k.units) taking w) (read_images k vss taking w y f useful needed t find finds read written splits)) (way_images k vss taking w y wide f needed) (stands_lists k a l o y)

    stands_told : (p : ℕ) (v : Var) → In v (told held o w p) ↔ Stands k a l (p, v)
    stands_told = told_exact k o w IsPoint (unit_at o.parts) (point_found k o y) (point_finds k o y) stands_listed held reached

    pub is_held : IsHeld k a l (held_by (flag f.kept.now) (told held o w) o)
    is_held = record { exact = held_exact k a l o y (told held o w) stands_told }

    module _ (saved : List Bool) (is : (m : ℕ) → IsTrue (flag saved m) ↔ ReachedFrom [] (save_nodes held f t find (rows vss k.units) taking w) m) where
      begun : (n : Node) → Saves k a l n.0 n.1 → (m : ℕ) × HasNumber k o w IsStatement n m × Contains (save_nodes held f t find (rows vss k.units) taking w) m
      begun n h =
          let s : Stands k a l (point_before n.0, n.1) = (stands_before k a l n.0 n.1).1 h.held in
          let q = (reached_known (stands_lists k a l o y) (point_before n.0, n.1) s).0 in
          let m = here_has k o w wide IsStatement (one_statement k) n q in
          (m.0, m.1, (save_images k vss taking w y f useful needed t held find finds written splits).has n m.0 (saves_have k o y a l n.0 n.1 h.may) (m.1, (stands_told (point_before n.0) n.1).1 s))

      only_begun : (m : ℕ) → Contains (save_nodes held f t find (rows vss k.units) taking w) m → (n : Node) × HasNumber k o w IsStatement n m × Saves k a l n.0 n.1
      only_begun m c =
          let r = (save_images k vss taking w y f useful needed t held find finds written splits).only m c in
          (r.0, r.2.0, record { may = saves_only k o y a l r.0 r.1; held = (stands_before k a l r.0.0 r.0.1).0 ((stands_told (point_before r.0.0) r.0.1).0 r.2.1) })

      saves_listed : IsListed (λ (n : Node). Saves k a l n.0 n.1) (λ (n m : Node). ⊥) (HasNumber k o w IsStatement) (λ m. Contains (save_nodes held f t find (rows vss k.units) taking w) m) (λ m n. Contains {X = ℕ × ℕ} [] (m, n))
      saves_listed = record {
        one = one_number k o w wide IsStatement (one_statement k);
        own = own_number k o w wide IsStatement (one_statement k);
        begun = begun;
        led = λ x z m h c. absurd c;
        only_begun = only_begun;
        only_led = λ x m n h c. absurd (is_none (m, n) c);
      }

      -- a thing to which nothing leads begins
      first : (n : Node) → Reached (λ (z : Node). Saves k a l z.0 z.1) (λ (z m : Node). ⊥) n → Saves k a l n.0 n.1
      first n (begins h) = h
      first n (leads r c) = absurd c

      pub is_saved : IsSaved k a l (λ i. told_in saved o w i (unit_at o.parts (point_before i)))
      is_saved = record {
        exact = λ i v. let e = told_exact k o w IsStatement (λ j. unit_at o.parts (point_before j)) (λ g j. point_found k o y g (point_before j)) (λ g j. point_finds k o y g (point_before j)) saves_listed saved is i v in
            (λ h. first (i, v) (e.0 h), λ h. e.1 (begins h));
      }

-- what is known of a flow, of the flags that are given and of those that are found
pub record Answer (k : Problem) (vss : List (List (List ℕ))) (numbers : List (List ℕ × ℕ)) (taking : List Bool) (w : ℕ) (rs : List Row) (f : Found) (t : Sides) (held saved : List Bool) : Type 0 where
  pub known : (x : List ℕ) → value_of x numbers ≡ number_from 0 k.units x
  pub takes : (g : Part) → Contains (parts k.units) g → IsTrue (flag taking g.number) ↔ TakesPart (record { units = k.units; head = k.head; vars = []; outvars = []; split = λ n. false }) g
  pub lengths : length vss ≡ length k.units
  pub narrow : All (λ vs. length vs ≤ w) vss
  pub hold : HoldVariables vss k.units
  pub same : rs ≡ rows vss k.units
  pub read : seen t.read.now ≡ least_rows read_rule k.units
  pub written : seen t.written.now ≡ least_rows write_rule k.units
  -- the flags of the calls that are to be split
  pub splits : (n : ℕ) → split_by f n ≡ k.split n
  pub reached : (m : ℕ) → IsTrue (flag held m) ↔ ReachedFrom (held_edges f rs taking w) (read_nodes f t (find rs numbers) rs taking w) m
  pub found : (m : ℕ) → IsTrue (flag saved m) ↔ ReachedFrom [] (save_nodes held f t (find rs numbers) rs taking w) m

module _ (k : Problem) (vss : List (List (List ℕ))) (numbers : List (List ℕ × ℕ)) (taking : List Bool) (w : ℕ) (rs : List Row) (f : Found) (useful : List Bool) (t : Sides) (held saved : List Bool) (x : Answer k vss numbers taking w rs f t held saved) where
  abbrev units : Scope
  units = scope_by vss (flag taking) k.units

  finds : (n : List ℕ) → find rs numbers n ≡ option_map (row_in vss) (find_part (parts k.units) n)
  finds n = (λ i. found_at (x.same i) (x.known n i)) ∙ found_unit vss k.units n

  covers : Covers k units
  covers = flags_cover k vss taking x.hold x.takes

  wide : IsWide k units w
  wide = scope_wide k vss (flag taking) w x.lengths x.narrow

  reached : (m : ℕ) → IsTrue (flag held m) ↔ ReachedFrom (held_edges f (rows vss k.units) taking w) (read_nodes f t (find rs numbers) (rows vss k.units) taking w) m
  reached = subst (λ z. (m : ℕ) → IsTrue (flag held m) ↔ ReachedFrom (held_edges f z taking w) (read_nodes f t (find rs numbers) z taking w) m) x.same x.reached

  found : (m : ℕ) → IsTrue (flag saved m) ↔ ReachedFrom [] (save_nodes held f t (find rs numbers) (rows vss k.units) taking w) m
  found = subst (λ z. (m : ℕ) → IsTrue (flag saved m) ↔ ReachedFrom [] (save_nodes held f t (find rs numbers) z taking w) m) x.same x.found

  pub tells_held : (needed : ℕ → Vars) → IsHeld k (activity_by f useful units w) (liveness_by f needed units w) (held_by (flag f.kept.now) (told held units w) units)
  tells_held needed = is_held k vss taking w covers wide f useful t (find rs numbers) finds x.read x.written x.splits held reached needed

  pub tells_saved : (needed : ℕ → Vars) → IsSaved k (activity_by f useful units w) (liveness_by f needed units w) (λ i. told_in saved units w i (unit_at units.parts (point_before i)))
  tells_saved needed = is_saved k vss taking w covers wide f useful t (find rs numbers) finds x.read x.written x.splits held reached needed saved found
