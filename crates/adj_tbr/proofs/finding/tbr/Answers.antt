-- What the flags tell is what is held and saved.
use Rattle.std.proofs.Common.{◌≡◌, ℕ, [], map, length, sym, subst, ◌∙◌}
use Rattle.std.specs.Prelude.{◌↔◌, IsTrue}
use Rattle.std.proofs.lemmas.List.{length-map}
use Rattle.adj_tree.specs.Code.{plain}
use Rattle.adj_tree.specs.View.{procedure_of}
use Rattle.def_flow.specs.Activity.{Activity}
use Rattle.def_flow.specs.Held.{IsSaved}
use Rattle.def_flow.specs.Analysed.{IsHeld}
use Rattle.def_flow.specs.Live.{Liveness}
use Rattle.def_flow.specs.Rules.{Scope}
use Rattle.adj_flow.specs.Asked.{units_of, variables_of, problem_of}
use Rattle.adj_flow.specs.Rows.{row_of}
use Rattle.adj_flow.specs.Scoped.{scope_by}
use Rattle.adj_flow.specs.Told.{told, told_of}
use Rattle.adj_reach.specs.Edges.{ReachedFrom, flag}
use Rattle.adj_flow.specs.Marked.{saved_of}
use Rattle.adj_flow.specs.ActivityTold.{activity_told}
use Rattle.adj_flow.proofs.UnitNumbers.{flow_numbered}
use Rattle.adj_tbr.specs.View.{find, held_edges}
use Rattle.adj_tbr.specs.Reads.{read_nodes}
use Rattle.adj_tbr.specs.Saves.{save_nodes}
use Rattle.adj_tbr.specs.declared.found.Found.{Found}
use Rattle.adj_tbr.proofs.Answering.{Answer, tells_held, tells_saved}
use Rattle.adj_tbr.proofs.Behind.{held_by}
use Rattle.adj_tbr.proofs.finding.tbr.Goals as goal

pub held-requires : goal.held-requires
held-requires c = flow_numbered c.args.flow.now c.args.head.now.unit c.requires.flow

pub returns : goal.returns
returns c =
    let fl = c.args.flow.now in
    let k = problem_of c.args.flow.now c.args.head.now in
    let is = c.requires.flow in
    let vss = variables_of c.args.flow.now in
    let rs = map row_of c.args.flow.now.parts.items in
    let w = fl.width in
    let f : Found = record { adjointed = c.as_slice.result; varied = record { ref_ptr = c.args.activity.ref_ptr; now = c.args.activity.now.varied }; shadowed = c.as_slice-2.result; kept = c.as_slice-3.result; entry = c.as_slice-4.result; split = c.as_slice-5.result } in
    let t = c.args.sides in
    let held = c.in_ok-held.held in
    let saved = c.in_ok-saved.saved in
    let o : Scope = scope_by vss (flag fl.taking) (units_of c.args.flow.now) in
    let lengths : length (variables_of c.args.flow.now) ≡ length (units_of c.args.flow.now) = length-map c.args.flow.now.parts.items (λ p. p.variables.now) ∙ sym (length-map c.args.flow.now.parts.items (λ p. procedure_of p.unit.now)) in
    let parts = c.as_slice-6.ensures.value in
    let reached = subst (λ z. (m : ℕ) → IsTrue (flag held m) ↔ ReachedFrom (held_edges f rs fl.taking w) (read_nodes f t (find (map row_of z) fl.numbers) rs fl.taking w) m) parts c.in_ok-held.ensures.held in
    let found = subst (λ z. (m : ℕ) → IsTrue (flag saved m) ↔ ReachedFrom [] z m) (λ i. save_nodes held f t (find (map row_of (parts i)) fl.numbers) rs fl.taking w) c.in_ok-saved.ensures.saved in
    let x : Answer (problem_of c.args.flow.now c.args.head.now) (variables_of c.args.flow.now) c.args.flow.now.numbers c.args.flow.now.taking c.args.flow.now.width (map row_of c.args.flow.now.parts.items) f c.args.sides c.in_ok-held.held c.in_ok-saved.saved =
    record {
      known = is.numbers;
      takes = is.taking;
      lengths = lengths;
      narrow = is.width;
      hold = is.variables;
      same = is.rows;
      read = c.requires.read;
      written = c.requires.written;
      splits = λ n i. flag (c.as_slice-5.ensures.members i) n;
      reached = reached;
      found = found;
    } in
    record {
      saved = record {
        held = held_by (flag f.kept.now) (told held o w) o;
        holds = λ needed. subst (λ (z : Activity × Liveness). IsHeld k z.0 z.1 (held_by (flag f.kept.now) (told held o w) o))
            (λ i. (
              activity_told c.args.activity.now.varied c.args.activity.now.useful (c.as_slice-2.ensures.members i) (c.as_slice.ensures.members i) o w,
              record { needed = needed; kept = flag (c.as_slice-3.ensures.members i); wanted = λ u d. told_of (c.as_slice-4.ensures.members i) o w u (plain d) },
            ))
            (tells_held k vss fl.numbers fl.taking w rs f c.args.activity.now.useful t held saved x needed);
        saves = λ needed. subst (λ (z : Activity × Liveness). IsSaved k z.0 z.1 (saved_of c.args.flow.now (record { saved = saved })))
            (λ i. (
              activity_told c.args.activity.now.varied c.args.activity.now.useful (c.as_slice-2.ensures.members i) (c.as_slice.ensures.members i) o w,
              record { needed = needed; kept = flag (c.as_slice-3.ensures.members i); wanted = λ u d. told_of (c.as_slice-4.ensures.members i) o w u (plain d) },
            ))
            (tells_saved k vss fl.numbers fl.taking w rs f c.args.activity.now.useful t held saved x needed);
      };
    }
