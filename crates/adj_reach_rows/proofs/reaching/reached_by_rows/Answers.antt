use Rattle.std.proofs.Common.{◌≡◌, ℕ, ◌*◌, ◌/◌, ◌<◌, map, length, get_or, sym, ap, ◌∙◌, subst, arith}
use Rattle.std.proofs.lemmas.List.{with_items_is}
use Rattle.adj_reach_rows.specs.declared.arc.Arc.{Arc}
use Rattle.adj_reach_rows.specs.Chains.{AreChains}
use Rattle.adj_reach_rows.specs.Searches.{Grown, IsFollowed, IsLed}
use Rattle.adj_reach_rows.proofs.Searching.{next_fits, took_fits, took_rows, searching_start, searching_turn, turn_work, finished}
use Rattle.adj_reach_rows.proofs.reaching.reached_by_rows.Goals as goal

pub loop-row-init : goal.loop-row-init
loop-row-init c =
    record { searching = searching_start c.args.width c.args.rows.now c.args.arcs.now c.args.edges.now c.args.start.now c.requires.some c.requires.wide c.in_ok-count.count c.in_ok-search.search c.mark_nodes.new.self c.in_ok-search.ensures.new c.in_ok-mark_nodes.ensures.grown; size = c.in_ok-taken.ensures.len }

pub take-requires-clause-fits : goal.take-requires-clause-fits
take-requires-clause-fits c =
    let i = c.loop-row.invariant in
    let e = c.in-Some.ensures in
    let fits = next_fits c.loop-row.search c.next.new.self c.in-Some.row i.searching.fits e.words e.seen e.fresh e.waits e.taken in
    fits.0

pub take-requires-clause-row : goal.take-requires-clause-row
take-requires-clause-row c =
    let i = c.loop-row.invariant in
    let e = c.in-Some.ensures in
    let fits = next_fits c.loop-row.search c.next.new.self c.in-Some.row i.searching.fits e.words e.seen e.fresh e.waits e.taken in
    fits.1

pub take-requires-clause-size : goal.take-requires-clause-size
take-requires-clause-size c =
    let i = c.loop-row.invariant in
    let e = c.in-Some.ensures in
    let fits = next_fits c.loop-row.search c.next.new.self c.in-Some.row i.searching.fits e.words e.seen e.fresh e.waits e.taken in
    c.as_mut_slice.ensures.len ∙ i.size ∙ sym (e.words ∙ i.searching.words)

pub follow_arcs-requires-clause-fits : goal.follow_arcs-requires-clause-fits
follow_arcs-requires-clause-fits c =
    let i = c.loop-row.invariant in
    let e = c.in-Some.ensures in
    let fits = next_fits c.loop-row.search c.next.new.self c.in-Some.row i.searching.fits e.words e.seen e.fresh e.waits e.taken in
    took_fits c.in-Some.row c.next.new.self c.take.new.self c.take.new.taken fits.0 c.take.ensures.took

pub follow_arcs-requires-clause-row : goal.follow_arcs-requires-clause-row
follow_arcs-requires-clause-row c =
    let i = c.loop-row.invariant in
    let e = c.in-Some.ensures in
    let fits = next_fits c.loop-row.search c.next.new.self c.in-Some.row i.searching.fits e.words e.seen e.fresh e.waits e.taken in
    subst (λ z. c.in-Some.row < z) (sym (took_rows c.in-Some.row c.next.new.self c.take.new.self c.take.new.taken c.take.ensures.took)) fits.1

pub follow_arcs-requires-clause-size : goal.follow_arcs-requires-clause-size
follow_arcs-requires-clause-size c =
    let i = c.loop-row.invariant in
    let e = c.in-Some.ensures in
    let fits = next_fits c.loop-row.search c.next.new.self c.in-Some.row i.searching.fits e.words e.seen e.fresh e.waits e.taken in
    let took = c.take.ensures.took in
    let words : c.take.new.self.words ≡ c.args.rows.now.words = took.words ∙ e.words ∙ i.searching.words in
    let count : length c.take.new.self.waits.items ≡ c.in_ok-count.count = took_rows c.in-Some.row c.next.new.self c.take.new.self c.take.new.taken took ∙ ap length e.waits ∙ i.searching.rows_are in
    c.as_slice.ensures.len ∙ i.size ∙ sym words

pub follow_arcs-requires-clause-words : goal.follow_arcs-requires-clause-words
follow_arcs-requires-clause-words c =
    let i = c.loop-row.invariant in
    let e = c.in-Some.ensures in
    let fits = next_fits c.loop-row.search c.next.new.self c.in-Some.row i.searching.fits e.words e.seen e.fresh e.waits e.taken in
    let took = c.take.ensures.took in
    let words : c.take.new.self.words ≡ c.args.rows.now.words = took.words ∙ e.words ∙ i.searching.words in
    let count : length c.take.new.self.waits.items ≡ c.in_ok-count.count = took_rows c.in-Some.row c.next.new.self c.take.new.self c.take.new.taken took ∙ ap length e.waits ∙ i.searching.rows_are in
    sym words

pub follow_arcs-requires-clause-arcs : goal.follow_arcs-requires-clause-arcs
follow_arcs-requires-clause-arcs c =
    let i = c.loop-row.invariant in
    let e = c.in-Some.ensures in
    let fits = next_fits c.loop-row.search c.next.new.self c.in-Some.row i.searching.fits e.words e.seen e.fresh e.waits e.taken in
    let took = c.take.ensures.took in
    let words : c.take.new.self.words ≡ c.args.rows.now.words = took.words ∙ e.words ∙ i.searching.words in
    let count : length c.take.new.self.waits.items ≡ c.in_ok-count.count = took_rows c.in-Some.row c.next.new.self c.take.new.self c.take.new.taken took ∙ ap length e.waits ∙ i.searching.rows_are in
    λ k d l. subst (λ z. (get_or c.args.arcs.now k d).to < z) (sym count) (c.in_ok-count.ensures.arcs k d l).1

pub follow_arcs-requires-clause-chains : goal.follow_arcs-requires-clause-chains
follow_arcs-requires-clause-chains c =
    let i = c.loop-row.invariant in
    let e = c.in-Some.ensures in
    let fits = next_fits c.loop-row.search c.next.new.self c.in-Some.row i.searching.fits e.words e.seen e.fresh e.waits e.taken in
    let took = c.take.ensures.took in
    let words : c.take.new.self.words ≡ c.args.rows.now.words = took.words ∙ e.words ∙ i.searching.words in
    let count : length c.take.new.self.waits.items ≡ c.in_ok-count.count = took_rows c.in-Some.row c.next.new.self c.take.new.self c.take.new.taken took ∙ ap length e.waits ∙ i.searching.rows_are in
    subst (λ z. AreChains z (map (λ (a : Arc). a.from) c.args.arcs.now) c.in_ok-arcs_from.arcs_from.heads.items c.in_ok-arcs_from.arcs_from.next.items) (sym count) c.in_ok-arcs_from.ensures.chains

pub follow_edges-requires-clause-row : goal.follow_edges-requires-clause-row
follow_edges-requires-clause-row c =
    let i = c.loop-row.invariant in
    let e = c.in-Some.ensures in
    let fits = next_fits c.loop-row.search c.next.new.self c.in-Some.row i.searching.fits e.words e.seen e.fresh e.waits e.taken in
    let took = c.take.ensures.took in
    let words : c.take.new.self.words ≡ c.args.rows.now.words = took.words ∙ e.words ∙ i.searching.words in
    let count : length c.take.new.self.waits.items ≡ c.in_ok-count.count = took_rows c.in-Some.row c.next.new.self c.take.new.self c.take.new.taken took ∙ ap length e.waits ∙ i.searching.rows_are in
    let along = c.in_ok-follow_arcs.ensures.grown in
    let led_words : c.follow_arcs.new.self.words ≡ c.args.rows.now.words = along.words ∙ words in
    let led_count : length c.follow_arcs.new.self.waits.items ≡ c.in_ok-count.count = along.rows ∙ count in
    subst (λ z. c.in-Some.row < z) (sym (along.rows ∙ took_rows c.in-Some.row c.next.new.self c.take.new.self c.take.new.taken c.take.ensures.took)) fits.1

pub follow_edges-requires-clause-wide : goal.follow_edges-requires-clause-wide
follow_edges-requires-clause-wide c =
    let i = c.loop-row.invariant in
    let e = c.in-Some.ensures in
    let fits = next_fits c.loop-row.search c.next.new.self c.in-Some.row i.searching.fits e.words e.seen e.fresh e.waits e.taken in
    let took = c.take.ensures.took in
    let words : c.take.new.self.words ≡ c.args.rows.now.words = took.words ∙ e.words ∙ i.searching.words in
    let count : length c.take.new.self.waits.items ≡ c.in_ok-count.count = took_rows c.in-Some.row c.next.new.self c.take.new.self c.take.new.taken took ∙ ap length e.waits ∙ i.searching.rows_are in
    let along = c.in_ok-follow_arcs.ensures.grown in
    let led_words : c.follow_arcs.new.self.words ≡ c.args.rows.now.words = along.words ∙ words in
    let led_count : length c.follow_arcs.new.self.waits.items ≡ c.in_ok-count.count = along.rows ∙ count in
    subst (λ z. c.args.width < 64 * z) (sym led_words) c.requires.wide

pub follow_edges-requires-clause-size : goal.follow_edges-requires-clause-size
follow_edges-requires-clause-size c =
    let i = c.loop-row.invariant in
    let e = c.in-Some.ensures in
    let fits = next_fits c.loop-row.search c.next.new.self c.in-Some.row i.searching.fits e.words e.seen e.fresh e.waits e.taken in
    let took = c.take.ensures.took in
    let words : c.take.new.self.words ≡ c.args.rows.now.words = took.words ∙ e.words ∙ i.searching.words in
    let count : length c.take.new.self.waits.items ≡ c.in_ok-count.count = took_rows c.in-Some.row c.next.new.self c.take.new.self c.take.new.taken took ∙ ap length e.waits ∙ i.searching.rows_are in
    let along = c.in_ok-follow_arcs.ensures.grown in
    let led_words : c.follow_arcs.new.self.words ≡ c.args.rows.now.words = along.words ∙ words in
    let led_count : length c.follow_arcs.new.self.waits.items ≡ c.in_ok-count.count = along.rows ∙ count in
    c.as_slice-in-Some.ensures.len ∙ i.size ∙ sym led_words

pub follow_edges-requires-clause-edges : goal.follow_edges-requires-clause-edges
follow_edges-requires-clause-edges c =
    let i = c.loop-row.invariant in
    let e = c.in-Some.ensures in
    let fits = next_fits c.loop-row.search c.next.new.self c.in-Some.row i.searching.fits e.words e.seen e.fresh e.waits e.taken in
    let took = c.take.ensures.took in
    let words : c.take.new.self.words ≡ c.args.rows.now.words = took.words ∙ e.words ∙ i.searching.words in
    let count : length c.take.new.self.waits.items ≡ c.in_ok-count.count = took_rows c.in-Some.row c.next.new.self c.take.new.self c.take.new.taken took ∙ ap length e.waits ∙ i.searching.rows_are in
    let along = c.in_ok-follow_arcs.ensures.grown in
    let led_words : c.follow_arcs.new.self.words ≡ c.args.rows.now.words = along.words ∙ words in
    let led_count : length c.follow_arcs.new.self.waits.items ≡ c.in_ok-count.count = along.rows ∙ count in
    λ k d l. subst (λ z. (get_or c.args.edges.now k d).1 / c.args.width < z) (sym led_count) (c.in_ok-count.ensures.edges k d l).1

pub follow_edges-requires-clause-chains : goal.follow_edges-requires-clause-chains
follow_edges-requires-clause-chains c =
    let i = c.loop-row.invariant in
    let e = c.in-Some.ensures in
    let fits = next_fits c.loop-row.search c.next.new.self c.in-Some.row i.searching.fits e.words e.seen e.fresh e.waits e.taken in
    let took = c.take.ensures.took in
    let words : c.take.new.self.words ≡ c.args.rows.now.words = took.words ∙ e.words ∙ i.searching.words in
    let count : length c.take.new.self.waits.items ≡ c.in_ok-count.count = took_rows c.in-Some.row c.next.new.self c.take.new.self c.take.new.taken took ∙ ap length e.waits ∙ i.searching.rows_are in
    let along = c.in_ok-follow_arcs.ensures.grown in
    let led_words : c.follow_arcs.new.self.words ≡ c.args.rows.now.words = along.words ∙ words in
    let led_count : length c.follow_arcs.new.self.waits.items ≡ c.in_ok-count.count = along.rows ∙ count in
    subst (λ z. AreChains z (map (λ (e : ℕ × ℕ). e.0 / c.args.width) c.args.edges.now) c.in_ok-edges_from.edges_from.heads.items c.in_ok-edges_from.edges_from.next.items) (sym led_count) c.in_ok-edges_from.ensures.chains

pub loop-row-preserved : goal.loop-row-preserved
loop-row-preserved c =
    let i = c.loop-row.invariant in
    let e = c.in-Some.ensures in
    let fits = next_fits c.loop-row.search c.next.new.self c.in-Some.row i.searching.fits e.words e.seen e.fresh e.waits e.taken in
    let t = c.take.new.taken in
    let size : length c.take.new.taken ≡ c.loop-row.taken.len = omega (arith, c.take.auto.taken, c.as_mut_slice.ensures.len) in
    let same : c.as_slice.result.now ≡ c.take.new.taken = c.as_slice.ensures.value ∙ with_items_is c.loop-row.taken t size in
    let again : c.as_slice-in-Some.result.now ≡ c.take.new.taken = c.as_slice-in-Some.ensures.value ∙ with_items_is c.loop-row.taken t size in
    let along : Grown (IsFollowed c.take.new.self.words c.take.new.taken c.args.rows.now c.args.arcs.now 0 c.in-Some.row) c.take.new.self c.follow_arcs.new.self =
    subst (λ b. Grown (IsFollowed c.take.new.self.words b c.args.rows.now c.args.arcs.now 0 c.in-Some.row) c.take.new.self c.follow_arcs.new.self) same c.in_ok-follow_arcs.ensures.grown in
    let led : Grown (IsLed c.args.width c.follow_arcs.new.self.words c.take.new.taken c.args.edges.now 0 c.in-Some.row) c.follow_arcs.new.self c.follow_edges.new.self =
    subst (λ b. Grown (IsLed c.args.width c.follow_arcs.new.self.words b c.args.edges.now 0 c.in-Some.row) c.follow_arcs.new.self c.follow_edges.new.self) again c.in_ok-follow_edges.ensures.grown in
    record { searching = searching_turn c.args.width c.args.rows.now c.args.arcs.now c.args.edges.now c.args.start.now c.requires.some c.requires.wide c.in_ok-count.count c.loop-row.search c.next.new.self c.take.new.self c.follow_arcs.new.self c.follow_edges.new.self c.in-Some.row t i.searching e.words e.seen e.fresh e.waits e.taken c.take.ensures.took along led; size = i.size }

pub loop-row-smaller : goal.loop-row-smaller
loop-row-smaller c =
    let i = c.loop-row.invariant in
    let e = c.in-Some.ensures in
    let fits = next_fits c.loop-row.search c.next.new.self c.in-Some.row i.searching.fits e.words e.seen e.fresh e.waits e.taken in
    let t = c.take.new.taken in
    let size : length c.take.new.taken ≡ c.loop-row.taken.len = omega (arith, c.take.auto.taken, c.as_mut_slice.ensures.len) in
    let same : c.as_slice.result.now ≡ c.take.new.taken = c.as_slice.ensures.value ∙ with_items_is c.loop-row.taken t size in
    let again : c.as_slice-in-Some.result.now ≡ c.take.new.taken = c.as_slice-in-Some.ensures.value ∙ with_items_is c.loop-row.taken t size in
    let along : Grown (IsFollowed c.take.new.self.words c.take.new.taken c.args.rows.now c.args.arcs.now 0 c.in-Some.row) c.take.new.self c.follow_arcs.new.self =
    subst (λ b. Grown (IsFollowed c.take.new.self.words b c.args.rows.now c.args.arcs.now 0 c.in-Some.row) c.take.new.self c.follow_arcs.new.self) same c.in_ok-follow_arcs.ensures.grown in
    let led : Grown (IsLed c.args.width c.follow_arcs.new.self.words c.take.new.taken c.args.edges.now 0 c.in-Some.row) c.follow_arcs.new.self c.follow_edges.new.self =
    subst (λ b. Grown (IsLed c.args.width c.follow_arcs.new.self.words b c.args.edges.now 0 c.in-Some.row) c.follow_arcs.new.self c.follow_edges.new.self) again c.in_ok-follow_edges.ensures.grown in
    turn_work c.args.width c.args.rows.now c.args.arcs.now c.args.edges.now c.args.start.now c.requires.some c.requires.wide c.in_ok-count.count c.loop-row.search c.next.new.self c.take.new.self c.follow_arcs.new.self c.follow_edges.new.self c.in-Some.row t i.searching e.words e.seen e.fresh e.waits e.taken c.take.ensures.took along led

pub flags-requires-clause-size : goal.flags-requires-clause-size
flags-requires-clause-size c =
    let h = c.loop-row.invariant.searching in
    ap length (c.as_slice-seen.ensures.value ∙ c.in_default.ensures.seen) ∙ h.fits.seen ∙ (λ i. h.rows_are i * h.words i)

pub returns : goal.returns
returns c =
    let h = c.loop-row.invariant.searching in
    record {
      exact = finished c.args.width c.args.rows.now c.args.arcs.now c.args.edges.now c.args.start.now c.requires.some c.requires.wide c.in_ok-count.count c.loop-row.search c.as_slice-seen.result.now c.flags.result h c.in_default.ensures.taken
          (c.as_slice-seen.ensures.value ∙ c.in_default.ensures.seen) c.flags.ensures.behind c.flags.ensures.flags;
    }
