-- Flags of what the listed edges reach from the listed beginnings tell what is live.
use Rattle.std.proofs.Common.{◌≡◌, ℕ, suc, ◌+◌, ◌-◌, ◌*◌, ◌≤◌, List, [], ◌∷◌, Bool, true, false, map, length, refl, ap, ◌∙◌, subst, arith}
use Rattle.std.specs.Prelude.{◌↔◌, IsTrue, All, Contains, Option, Some, None, slice_index_or, flat_map, if◌then◌else◌}
use Rattle.std.specs.Option.{option_map}
use Rattle.adj_tree.specs.Code.{plain, name_eq, Procedure}
use Rattle.adj_tree.specs.declared.marks.Activity as flags
use Rattle.def_meaning.specs.LeastSet.{row_of, least_rows}
use Rattle.def_meaning.specs.Read.{read_rule, looked_at}
use Rattle.def_meaning.specs.Written.{write_rule, handed_back}
use Rattle.def_flow.specs.Parts.{Part, parts, find_part}
use Rattle.def_flow.specs.Problem.{Problem, TakesPart}
use Rattle.def_flow.specs.Live.{IsLive}
use Rattle.def_flow.specs.Rules.{Scope, Covers}
use Rattle.adj_symbols_writes.specs.Table.{value_of}
use Rattle.adj_reach.specs.Edges.{ReachedFrom, flag}
use Rattle.adj_symbols_writes.specs.Graph.{number_from, place_from}
use Rattle.adj_symbols_writes.proofs.Numbers.{place_above}
use Rattle.adj_symbols_writes.proofs.Rows.{name_comm}
use Rattle.adj_flow.specs.Rows.{Row, row_in, rows}
use Rattle.adj_flow.specs.Nodes.{IsWide}
use Rattle.adj_flow.specs.NodeView.{found_at}
use Rattle.adj_flow.specs.Scoped.{scope_by, HoldVariables}
use Rattle.adj_flow.specs.Told.{told, told_of}
use Rattle.adj_flow.proofs.Covering.{flags_cover, scope_wide}
use Rattle.adj_flow.proofs.Scoping.{found_unit}
use Rattle.adj_flow.specs.ActivityTold.{activity_told}
use Rattle.adj_live.specs.Listed.{Here, unit_nodes, all_nodes, unit_edges, all_edges}
use Rattle.adj_flow.specs.Sides.{row_by}
use Rattle.adj_live.specs.View.{activity_in}
use Rattle.adj_live.proofs.Imaged.{here_of, start_images, step_images}
use Rattle.adj_live.proofs.Rowed.{nodes_same, edges_same}
use Rattle.adj_live.proofs.Telling.{is_live}

-- ---- the row of a name

abbrev row_behind : ℕ → List (List Bool) → Option ℕ → List Bool
row_behind k rows None = []
row_behind k rows (Some n) = slice_index_or rows (n - k) []

-- among none
none_behind : (k : ℕ) (n : Option ℕ) → row_behind k [] n ≡ []
none_behind k None = refl
none_behind k (Some n) = refl

-- among the units from the k-th on
row_from : (k : ℕ) (ps : List Procedure) (rows : List (List Bool)) (x : List ℕ) → row_behind k rows (place_from k (map (λ p. p.name) ps) x) ≡ row_of ps rows x
row_from k [] rows x = refl
row_from k (p ∷ ps) [] x = none_behind k (place_from k (map (λ q. q.name) (p ∷ ps)) x)
row_from k (p ∷ ps) (ws ∷ rows) x = go (name_eq x p.name) (row_from (suc k) ps rows x) ∙ ap (λ b. if b then ws else row_of ps rows x) (name_comm x p.name)
  where
    deeper : (n : Option ℕ) → place_from (suc k) (map (λ q. q.name) ps) x ≡ n → row_behind k (ws ∷ rows) n ≡ row_behind (suc k) rows n
    deeper None e = refl
    deeper (Some n) e = let l : suc k ≤ n = place_above (suc k) (map (λ q. q.name) ps) x n e in let h : n - k ≡ suc (n - suc k) = omega arith in ap (λ z. slice_index_or (ws ∷ rows) z []) h

    here : (j : ℕ) → j ≡ 0 → slice_index_or (ws ∷ rows) j [] ≡ ws
    here j e = ap (λ z. slice_index_or (ws ∷ rows) z []) e

    go : (b : Bool) → row_behind (suc k) rows (place_from (suc k) (map (λ q. q.name) ps) x) ≡ row_of ps rows x → row_behind k (ws ∷ rows) (if b then Some k else place_from (suc k) (map (λ q. q.name) ps) x) ≡ (if b then ws else row_of ps rows x)
    go true r = here (k - k) (omega arith)
    go false r = deeper (place_from (suc k) (map (λ q. q.name) ps) x) refl ∙ r

unmoved : (rows : List (List Bool)) (n : Option ℕ) → row_by rows n ≡ row_behind 0 rows n
unmoved rows None = refl
unmoved rows (Some n) = let h : n ≡ n - 0 = omega arith in ap (λ z. slice_index_or rows z []) h

row_named : (ps : List Procedure) (rows : List (List Bool)) (x : List ℕ) → row_by rows (number_from 0 ps x) ≡ row_of ps rows x
row_named ps rows x = unmoved rows (number_from 0 ps x) ∙ row_from 0 ps rows x

-- ---- all together

-- a unit by its row, among these
abbrev pub seen_by : List (List ℕ × ℕ) → ℕ → List (List Bool) → List (List Bool) → flags.Activity → (ℕ → Bool) → List Row → Row → Here
seen_by numbers w reads writes b split us r = record {
  width = w;
  find = λ x. found_at us (value_of x numbers);
  read = λ x. row_by reads (value_of x numbers);
  written = λ x. row_by writes (value_of x numbers);
  activity = activity_in b w r;
  split = split;
  row = r;
}

module _ (k : Problem) (vss : List (List (List ℕ))) (numbers : List (List ℕ × ℕ)) (taking : List Bool) (w : ℕ) (known : (x : List ℕ) → value_of x numbers ≡ number_from 0 k.units x)
    (takes : (g : Part) → Contains (parts k.units) g → IsTrue (flag taking g.number) ↔ TakesPart (record { units = k.units; head = k.head; vars = []; outvars = []; split = λ n. false }) g) (lengths : length vss ≡ length k.units) (narrow : All (λ vs. length vs ≤ w) vss)
    (hold : HoldVariables vss k.units) (rs : List Row) (same : rs ≡ rows vss k.units) (reads writes : List (List Bool)) (reads_are : reads ≡ least_rows read_rule k.units) (writes_are : writes ≡ least_rows write_rule k.units) (b : flags.Activity) where
  abbrev o : Scope
  o = scope_by vss (flag taking) k.units

  covers : Covers k o
  covers = flags_cover k vss taking hold takes

  wide : IsWide k o w
  wide = scope_wide k vss (flag taking) w lengths narrow

  abbrev find : List Row → List ℕ → Option Row
  find us x = found_at us (value_of x numbers)

  abbrev read : List ℕ → List Bool
  read x = row_by reads (value_of x numbers)

  abbrev written : List ℕ → List Bool
  written x = row_by writes (value_of x numbers)

  finds : (x : List ℕ) → find (rows vss k.units) x ≡ option_map (row_in vss) (find_part (parts k.units) x)
  finds x = ap (found_at (rows vss k.units)) (known x) ∙ found_unit vss k.units x

  is_read : (x : List ℕ) → read x ≡ looked_at k.units x
  is_read x = ap (row_by reads) (known x) ∙ row_named k.units reads x ∙ ap (λ z. row_of k.units z x) reads_are

  is_written : (x : List ℕ) → written x ≡ handed_back k.units x
  is_written x = ap (row_by writes) (known x) ∙ row_named k.units writes x ∙ ap (λ z. row_of k.units z x) writes_are

  abbrev seen : List Row → Row → Here
  seen = seen_by numbers w reads writes b k.split

  module _ (facts kepts entries : List Bool) (exact : (m : ℕ) → IsTrue (flag facts m) ↔ ReachedFrom (all_edges (seen rs) rs taking) (all_nodes (seen rs) rs taking) m)
      (kept_by : (n : ℕ) → flag kepts n ≡ flag facts (n * (w + 2) + w)) (entry_by : (n : ℕ) → flag entries n ≡ flag facts (n * (w + 2) + (w + 1))) where
    pub told_live : IsLive k (activity_told b.varied b.useful b.shadowed b.adjointed o w) (record { needed = told facts o (w + 2); kept = flag kepts; wanted = λ u d. told_of entries o w u (plain d) })
    told_live =
        let a = activity_told b.varied b.useful b.shadowed b.adjointed o w in
        let us = rows vss k.units in
        let exact' : (m : ℕ) → IsTrue (flag facts m) ↔ ReachedFrom (all_edges (seen us) us taking) (all_nodes (seen us) us taking) m =
        subst (λ (z : List Row). (m : ℕ) → IsTrue (flag facts m) ↔ ReachedFrom (all_edges (seen z) z taking) (all_nodes (seen z) z taking) m) same exact in
        let edges = edges_same k vss taking w covers b (find us) read written in
        let nodes = nodes_same k vss taking w covers b (find us) read written in
        let es = flat_map (λ g. unit_edges (here_of vss w a k.split (find us) read written g)) (scope_by vss (flag taking) k.units).parts in
        let ss = flat_map (λ g. unit_nodes (here_of vss w a k.split (find us) read written g)) (scope_by vss (flag taking) k.units).parts in
        is_live k o covers w wide a ss es (start_images k vss taking w covers wide a (find us) finds read is_read written is_written) (step_images k vss taking w covers wide a (find us) finds read is_read written is_written) facts kepts entries
        (λ m. subst (λ z. IsTrue (flag facts m) ↔ ReachedFrom z ss m) edges (subst (λ z. IsTrue (flag facts m) ↔ ReachedFrom (all_edges (seen us) us taking) z m) nodes (exact' m)))
        kept_by entry_by
