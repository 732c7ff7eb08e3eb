use Rattle.std.proofs.Common.{◌≡◌, ◌∷◌, [], true, false, refl, ap, sym, subst, ◌∙◌, arith}
use Rattle.std.specs.Prelude.{slice_index}
use Rattle.adj_reach.specs.Edges.{ReachedFrom, flag}
use Rattle.adj_symbols.specs.Graph.{root_at}
use Rattle.adj_symbols.proofs.Graphs.{sinks, joined}
use Rattle.adj_symbols.proofs.graph.Graph.leads.Goals as goal

pub returns-then-first-last : goal.returns-then-first-last
returns-then-first-last c =
    let labels = c.self.inside.labels.items in
    let edges = c.self.inside.edges.items in
    let seen = ap (λ g. g.edges) c.self.view_is in
    let a : c.number_at-first.result ≡ slice_index labels c.args.from = c.number_at-first.ensures ∙ ap (λ l. slice_index l c.args.from) c.as_slice.ensures.value in
    let b : c.number_at-last.result ≡ slice_index labels c.args.to = c.number_at-last.ensures ∙ ap (λ l. slice_index l c.args.to) c.as_slice-2.ensures.value in
    record {
      leads =
          (λ t. absurd (let e : false ≡ true = t in cc), λ r. absurd (omega (arith, a, b, c.if-first-last.true, sinks labels edges c.self.invariant.sinking c.args.from c.args.to (subst (λ es. ReachedFrom es (c.args.from ∷ []) c.args.to) (sym seen) r))));
    }

pub returns-then-flag_at-2 : goal.returns-then-flag_at-2
returns-then-flag_at-2 c =
    let labels = c.self.inside.labels.items in
    let roots = c.self.inside.roots.items in
    let edges = c.self.inside.edges.items in
    let seen = ap (λ g. g.edges) c.self.view_is in
    let a : c.number_at-first.result ≡ slice_index labels c.args.from = c.number_at-first.ensures ∙ ap (λ l. slice_index l c.args.from) c.as_slice.ensures.value in
    let b : c.number_at-last.result ≡ slice_index labels c.args.to = c.number_at-last.ensures ∙ ap (λ l. slice_index l c.args.to) c.as_slice-2.ensures.value in
    let one : slice_index labels c.args.from ≡ slice_index labels c.args.to = sym a ∙ c.if-first-last-2.true ∙ b in
    let behind : flag c.self.inside.behind c.args.from ≡ true = sym (c.flag_at.ensures ∙ ap (λ f. flag f c.args.from) c.as_slice-then-first-last-2.ensures.members) ∙ c.if-flag_at.true in
    let ahead : flag c.self.inside.ahead c.args.to ≡ true = sym (c.flag_at-then-flag_at.ensures ∙ ap (λ f. flag f c.args.to) c.as_slice-then-flag_at.ensures.members) ∙ c.if-flag_at-2.true in
    let first = c.self.invariant.behind_known c.args.from behind in
    let last = c.self.invariant.ahead_known c.args.to ahead in
    let path = joined edges c.args.from (root_at labels roots c.args.to) c.args.to (subst (λ l. ReachedFrom edges (c.args.from ∷ []) (slice_index roots l)) one first) last in
    record { leads = (λ t. subst (λ es. ReachedFrom es (c.args.from ∷ []) c.args.to) seen path, λ r. refl) }
