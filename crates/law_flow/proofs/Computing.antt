-- What is computed are exact analyses, where all sets are closed.
use Rattle.std.proofs.Common.{◌≡◌, ◌⊎◌, inl, inr, ℕ, List, [], Bool, true, refl, sym, ◌∙◌}
use Rattle.std.specs.Prelude.{Contains, ◌↔◌, ◌&&◌, ◌||◌, map}
use Rattle.std.proofs.lemmas.Bool.{or_cases}
use Rattle.adj_tree.specs.Code.{Var}
use Rattle.def_meaning.proofs.Booleans.{or_first, or_second}
use Rattle.def_names.specs.Numbering.{point_before}
use Rattle.def_sweep.specs.Facts.{In}
use Rattle.adj_reach.specs.Reached.{Reached}
use Rattle.def_flow.specs.Problem.{Problem}
use Rattle.def_flow.specs.Flow as flow
use Rattle.def_flow.specs.Flow.{Node}
use Rattle.def_flow.specs.Activity as activity
use Rattle.def_flow.specs.Activity.{Activity, Adjoint, IsActivity}
use Rattle.def_flow.specs.Live as live
use Rattle.def_flow.specs.Live.{Fact, Liveness, IsLive}
use Rattle.def_flow.specs.Held as held
use Rattle.def_flow.specs.Rules.{Scope, Covers, against, head_parts, part_steps, flow_steps, varied_starts, useful_starts, shadow_starts, shadow_steps, adjoint_starts, adjoint_steps, live_starts, live_steps, reads_list, held_starts, held_steps, may_save_list}
use Rattle.def_flow.specs.Closure.{is_in, closure, is_closed}
use Rattle.def_flow.specs.Scopes.{same_number, scope_of}
use Rattle.law_flow.specs.Computed.{same_node, same_adjoint, same_fact, by_point, activity_of, liveness_of, saved_by, HasTable, with_live, with_activity, with_adjoints, with_useful, with_scope, computed, Table, same_tables}
use Rattle.def_flow.proofs.Closure.{closure_exact, in_it, in_only}
use Rattle.def_flow.proofs.NumbersSame.{numbers_same}
use Rattle.law_flow.proofs.Sameness.{nodes_same, adjoints_same, facts_same, tables_same}
use Rattle.def_flow.proofs.AsLists.{reached_known, exact_by_lists}
use Rattle.def_flow.proofs.Sets.{both, and_both}
use Rattle.def_flow.proofs.PartsListed.{scope_covers}
use Rattle.def_flow.proofs.FlowListed.{varied_lists, useful_lists}
use Rattle.def_flow.proofs.ShadowListed.{shadow_lists}
use Rattle.def_flow.proofs.AdjointListed.{adjoint_lists}
use Rattle.def_flow.proofs.LiveListed.{live_lists}
use Rattle.def_flow.proofs.HeldListed.{held_lists, reads_have, reads_only, saves_have, saves_only}

-- a set holds just what lists reach
abbrev Finds : {A : Type 0} → (A → A → Bool) → List A → List A → List (A × A) → Type 0
Finds {A} same set starts steps = (x : A) → (is_in same set x ≡ true) ↔ Reached (λ y. Contains starts y) (λ y z. Contains steps (y, z)) x

module _ (k : Problem) (o : Scope) (y : Covers k o) where
  -- ---- held and saved

  module _ (a : Activity) (l : Liveness) (set : List Node) (found : Finds same_node set (held_starts k a l o) (held_steps l o)) where
    held_is : (p : ℕ) (v : Var) → In v (by_point set p) ↔ held.Held k a l (p, v)
    held_is p v = let e = exact_by_lists (held_lists k o y a l) (p, v) in (λ h. e.1 ((found (p, v)).0 h), λ h. (found (p, v)).1 (e.0 h))

    saved_is : (i : ℕ) (v : Var) → In v (saved_by (may_save_list k a l o) (reads_list k a l o) set i) ↔ held.Saves k a l i v
    saved_is i v = (
      λ h. let b = both (is_in same_node (may_save_list k a l o) (i, v)) (is_in same_node set (point_before i, v) || is_in same_node (reads_list k a l o) (i, v)) h in
          record {
            may = saves_only k o y a l (i, v) (in_only nodes_same (may_save_list k a l o) (i, v) b.0);
            held = from (or_cases (is_in same_node set (point_before i, v)) (is_in same_node (reads_list k a l o) (i, v)) b.1);
          },
      λ h. and_both (in_it nodes_same (may_save_list k a l o) (i, v) (saves_have k o y a l i v h.may)) (to h.held),
    )
      where
        from : (is_in same_node set (point_before i, v) ≡ true) ⊎ (is_in same_node (reads_list k a l o) (i, v) ≡ true) → held.Held k a l (point_before i, v) ⊎ held.AdjointReads k a l i v
        from (inl h) = inl ((held_is (point_before i) v).0 h)
        from (inr h) = inr (reads_only k o y a l (i, v) (in_only nodes_same (reads_list k a l o) (i, v) h))

        to : held.Held k a l (point_before i, v) ⊎ held.AdjointReads k a l i v → (is_in same_node set (point_before i, v) || is_in same_node (reads_list k a l o) (i, v)) ≡ true
        to (inl h) = or_first (is_in same_node set (point_before i, v)) (is_in same_node (reads_list k a l o) (i, v)) ((held_is (point_before i) v).1 h)
        to (inr h) = or_second (is_in same_node set (point_before i, v)) (is_in same_node (reads_list k a l o) (i, v)) (in_it nodes_same (reads_list k a l o) (i, v) (reads_have k o y a l i v h).1)

  -- ---- needed, kept, wanted

  live_is : (a : Activity) (facts : List Fact) → Finds same_fact facts (live_starts k a o) (live_steps k a o) → IsLive k a (liveness_of facts)
  live_is a facts found = record { exact = λ f. let e = exact_by_lists (live_lists k o y a) f in (λ h. e.1 ((found f).0 (sym (says_it f) ∙ h)), λ h. says_it f ∙ (found f).1 (e.0 h)) }
    where
      says_it : (f : Fact) → live.says (liveness_of facts) f ≡ is_in same_fact facts f
      says_it (live.needed p v) = refl
      says_it (live.kept i) = refl
      says_it (live.wanted u d) = refl

  -- ---- activity

  module _ (varied useful shadowed : List Node) (adjointed : List Adjoint) (fv : Finds same_node varied (varied_starts k) (flow_steps k o)) (fu : Finds same_node useful (useful_starts k) (against (flow_steps k o)))
      (fs : Finds same_node shadowed (shadow_starts k o (by_point varied) (by_point useful)) (shadow_steps k o (by_point varied)))
      (fa : Finds same_adjoint adjointed (adjoint_starts (activity_of varied useful shadowed []) o) (adjoint_steps k o)) where
    varied_is : (p : ℕ) (v : Var) → In v (by_point varied p) ↔ flow.Varied k (p, v)
    varied_is p v = let e = exact_by_lists (varied_lists k o y) (p, v) in (λ h. e.1 ((fv (p, v)).0 h), λ h. (fv (p, v)).1 (e.0 h))

    useful_is : (p : ℕ) (v : Var) → In v (by_point useful p) ↔ flow.Useful k (p, v)
    useful_is p v = let e = exact_by_lists (useful_lists k o y) (p, v) in (λ h. e.1 ((fu (p, v)).0 h), λ h. (fu (p, v)).1 (e.0 h))

    activity_is : IsActivity k (activity_of varied useful shadowed adjointed)
    activity_is = record {
      varied = varied_is;
      useful = useful_is;
      shadowed = λ u v. let e = exact_by_lists (shadow_lists k o y (by_point varied) (by_point useful) (λ p w h. (reached_known (varied_lists k o y) (p, w) ((varied_is p w).0 h)).0)) (u, v) in (λ h. e.1 ((fs (u, v)).0 h), λ h. (fs (u, v)).1 (e.0 h));
      adjointed = λ i. let e = exact_by_lists (adjoint_lists k o y (activity_of varied useful shadowed adjointed)) (activity.statement i) in (λ h. e.1 ((fa (activity.statement i)).0 h), λ h. (fa (activity.statement i)).1 (e.0 h));
    }

  -- ---- one after another

  held_found : (a : Activity) (l : Liveness) (n : ℕ) → IsActivity k a → IsLive k a l → (with_live k n o a l).is_closed ≡ true → HasTable k (with_live k n o a l).table
  held_found a l n isa isl h =
      let set : List Node = closure same_node (held_steps l o) n (held_starts k a l o) in
      let found : Finds same_node (closure same_node (held_steps l o) n (held_starts k a l o)) (held_starts k a l o) (held_steps l o) = closure_exact nodes_same (held_steps l o) (held_starts k a l o) n h in
      record {
        activity = a;
        live = l;
        saved = saved_by (may_save_list k a l o) (reads_list k a l o) set;
        held = by_point set;
        analysed = record { active = isa; live = isl; holds = record { exact = held_is a l set found }; saves = record { exact = saved_is a l set found } };
        table = refl;
      }

  facts_found : (a : Activity) (n : ℕ) → IsActivity k a → (with_activity k n o a).is_closed ≡ true → HasTable k (with_activity k n o a).table
  facts_found a n isa h =
      let facts : List Fact = closure same_fact (live_steps k a o) n (live_starts k a o) in
      let b = both (is_closed same_fact (live_steps k a o) facts) (with_live k n o a (liveness_of facts)).is_closed h in
      held_found a (liveness_of facts) n isa (live_is a facts (closure_exact facts_same (live_steps k a o) (live_starts k a o) n b.0)) b.1

  shadows_found : (varied useful : List Node) (n : ℕ) → Finds same_node varied (varied_starts k) (flow_steps k o) → Finds same_node useful (useful_starts k) (against (flow_steps k o)) → (with_useful k n o varied useful).is_closed ≡ true →
      HasTable k (with_useful k n o varied useful).table
  shadows_found varied useful n fv fu h =
      let steps = shadow_steps k o (by_point varied) in
      let starts = shadow_starts k o (by_point varied) (by_point useful) in
      let shadowed : List Node = closure same_node steps n starts in
      let adjointed : List Adjoint = closure same_adjoint (adjoint_steps k o) n (adjoint_starts (activity_of varied useful shadowed []) o) in
      let a = activity_of varied useful shadowed adjointed in
      let b = both (is_closed same_node steps shadowed) (with_adjoints k n o varied useful shadowed adjointed).is_closed h in
      let c = both (is_closed same_adjoint (adjoint_steps k o) adjointed) (with_activity k n o a).is_closed b.1 in
      facts_found a n (activity_is varied useful shadowed adjointed fv fu (closure_exact nodes_same steps starts n b.0) (closure_exact adjoints_same (adjoint_steps k o) (adjoint_starts (activity_of varied useful shadowed []) o) n c.0)) c.1

  scope_found : (n : ℕ) → (with_scope k n o).is_closed ≡ true → HasTable k (with_scope k n o).table
  scope_found n h =
      let steps = flow_steps k o in
      let varied : List Node = closure same_node steps n (varied_starts k) in
      let useful : List Node = closure same_node (against steps) n (useful_starts k) in
      let b = both (is_closed same_node steps varied && is_closed same_node (against steps) useful) (with_useful k n o varied useful).is_closed h in
      let c = both (is_closed same_node steps varied) (is_closed same_node (against steps) useful) b.0 in
      shadows_found varied useful n (closure_exact nodes_same steps (varied_starts k) n c.0) (closure_exact nodes_same (against steps) (useful_starts k) n c.1) b.1

pub computed_found : (k : Problem) (n : ℕ) → (computed k n).is_closed ≡ true → HasTable k (computed k n).table
computed_found k n h =
    let numbers : List ℕ = closure same_number (part_steps k) n (map (λ g. g.number) (head_parts k)) in
    let b = both (is_closed same_number (part_steps k) numbers) (with_scope k n (scope_of k numbers)).is_closed h in
    scope_found k (scope_of k numbers) (scope_covers k numbers (closure_exact numbers_same (part_steps k) (map (λ g. g.number) (head_parts k)) n b.0)) n b.1

-- so the marks by them are those that exact analyses give
pub computed_table : (k : Problem) (n : ℕ) (t : Table) → (computed k n).is_closed ≡ true → same_tables (computed k n).table t ≡ true → HasTable k t
computed_table k n t h e = let f = computed_found k n h in record { activity = f.activity; live = f.live; saved = f.saved; held = f.held; analysed = f.analysed; table = f.table ∙ tables_same (computed k n).table t e }
