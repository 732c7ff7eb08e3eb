-- The scope that flags and lists of variables make covers the problem.
use Rattle.std.proofs.Common.{◌≡◌, ℕ, ◌+◌, ◌≤◌, ◌<◌, List, [], Bool, true, subst, sym, length, arith, false}
use Rattle.std.specs.Prelude.{Contains, ◌↔◌, IsTrue, All, slice_index_or}
use Rattle.std.proofs.lemmas.List.{length-map}
use Rattle.adj_tree.specs.Code.{plain, Procedure}
use Rattle.adj_reach.specs.Reached.{begins, leads}
use Rattle.def_flow.specs.Parts.{Part, parts}
use Rattle.def_names.specs.StatementsIn.{statements_in}
use Rattle.def_flow.specs.Problem.{Problem, TakesPart}
use Rattle.def_flow.specs.Rules.{Covers}
use Rattle.adj_reach.proofs.Members.{map_has, filter_has, filter_only}
use Rattle.def_flow.proofs.Numbers.{part_is_there}
use Rattle.def_flow.proofs.PartsListed.{part_above}
use Rattle.adj_reach.specs.Edges.{flag}
use Rattle.adj_flow.specs.Nodes.{IsWide}
use Rattle.adj_flow.specs.Scoped.{scope_by, HoldVariables}

module _ (k : Problem) (vss : List (List (List ℕ))) (takes : ℕ → Bool) where
  pub scope_covers : HoldVariables vss k.units → ((g : Part) → Contains (parts k.units) g → (takes g.number ≡ true) ↔ TakesPart k g) → Covers k (scope_by vss takes k.units)
  scope_covers h exact = record {
    parts = λ g. (
      λ c. let f = filter_only (λ (z : Part). takes z.number) (parts k.units) g c in (exact g f.0).0 f.1,
      λ t. let c = part_is_there k g t in filter_has (λ (z : Part). takes z.number) (parts k.units) g c ((exact g c).1 t),
    );
    dummies = λ g t d c. map_has plain (slice_index_or vss g.number []) d (h.dummies g (part_is_there k g t) d c);
    standing = λ g t s c v m. h.standing g (part_is_there k g t) s c v m;
  }

  pub scope_wide : (w : ℕ) → length vss ≡ length k.units → All (λ vs. length vs ≤ w) vss → IsWide k (scope_by vss takes k.units) w
  scope_wide w n all g t =
      let b : g.number < 0 + length k.units = (part_above (statements_in 0 k.units) 0 0 k.units g (part_is_there k g t)).1 in
      let l : length (slice_index_or vss g.number []) ≤ w = all g.number [] (omega arith) in
      subst (λ z. z ≤ w) (sym (length-map (slice_index_or vss g.number []) plain)) l

-- which units take part doesn't depend on what is flagged
takes_same : (ps : List Procedure) (h : ℕ) (a b c d : List Bool) (s t : ℕ → Bool) (g : Part) → TakesPart (record { units = ps; head = h; vars = a; outvars = b; split = s }) g → TakesPart (record { units = ps; head = h; vars = c; outvars = d; split = t }) g
takes_same ps h a b c d s t g (begins e) = begins (record { is = e.is })
takes_same ps h a b c d s t g (leads {x = f} r q) = leads (takes_same ps h a b c d s t f r) (q.0, q.1, record { name = q.2.name; stands = q.2.stands; act = q.2.act; finds = q.2.finds })

-- so flags that say which units take part where nothing is flagged will do
pub flags_cover : (k : Problem) (vss : List (List (List ℕ))) (taking : List Bool) → HoldVariables vss k.units →
    ((g : Part) → Contains (parts k.units) g → IsTrue (flag taking g.number) ↔ TakesPart (record { units = k.units; head = k.head; vars = []; outvars = []; split = λ n. false }) g) → Covers k (scope_by vss (flag taking) k.units)
flags_cover k vss taking hold takes =
    scope_covers k vss (flag taking) hold (λ g c. (λ t. takes_same k.units k.head [] [] k.vars k.outvars (λ n. false) k.split g ((takes g c).0 t), λ t. (takes g c).1 (takes_same k.units k.head k.vars k.outvars [] [] k.split (λ n. false) g t)))
