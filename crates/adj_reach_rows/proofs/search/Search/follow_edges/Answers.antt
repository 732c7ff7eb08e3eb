use Rattle.std.proofs.Common.{◌≡◌, ℕ, ◌+◌, ◌-◌, ◌/◌, ◌<◌, ◌≤◌, map, length, get_or, sym, subst, arith}
use Rattle.std.proofs.lemmas.List.{length-map}
use Rattle.adj_reach_rows.specs.Chains.{last_of}
use Rattle.adj_reach_rows.specs.Searches.{IsLed}
use Rattle.adj_reach_rows.proofs.Growing.{grown_not}
use Rattle.adj_reach_rows.proofs.Listing.{last_le, last_at}
use Rattle.adj_reach_rows.proofs.Chaining.{head_is, next_is}
use Rattle.adj_reach_rows.proofs.Following.{led_none, led_more}
use Rattle.adj_reach_rows.proofs.search.Search.follow_edges.Goals as goal

pub loop-rest-init : goal.loop-rest-init
loop-rest-init c =
    let xs = map (λ (e : ℕ × ℕ). e.0 / c.args.width) c.args.edges.now in
    let row = c.args.row in
    let e : c.index-rest.result.now ≡ last_of c.args.row (map (λ (e : ℕ × ℕ). e.0 / c.args.width) c.args.edges.now) (length (map (λ (e : ℕ × ℕ). e.0 / c.args.width) c.args.edges.now)) =
    head_is (length c.args.self.now.waits.items) xs c.args.chains.now.heads.items c.args.chains.now.next.items row c.index-rest.result.now c.requires.chains c.requires.row c.index-rest.ensures in
    record {
      within = omega (arith, e, last_le row xs (length xs), length-map c.args.edges.now (λ (e : ℕ × ℕ). e.0 / c.args.width));
      here = λ l. subst (λ k. get_or xs (k - 1) 0 ≡ row) (sym e) (last_at row xs (length xs) (subst (λ k. 0 < k) e l));
      grown = grown_not (IsLed c.args.width c.args.self.now.words c.args.taken.now c.args.edges.now c.index-rest.result.now row) c.args.self.now c.requires.fits
          (λ n f. absurd (led_none c.args.width c.args.self.now.words c.args.taken.now c.args.edges.now c.index-rest.result.now row n e f));
    }

pub loop-rest-smaller : goal.loop-rest-smaller
loop-rest-smaller c =
    let xs = map (λ (e : ℕ × ℕ). e.0 / c.args.width) c.args.edges.now in
    let i = c.loop-rest.invariant in
    let l : c.loop-rest.rest ≤ length (map (λ (e : ℕ × ℕ). e.0 / c.args.width) c.args.edges.now) = omega (arith, c.loop-rest.invariant.within, length-map c.args.edges.now (λ (e : ℕ × ℕ). e.0 / c.args.width)) in
    let e : c.index-rest-in-loop-rest.result.now ≡ last_of c.args.row (map (λ (e : ℕ × ℕ). e.0 / c.args.width) c.args.edges.now) (c.loop-rest.rest - 1) =
    next_is (length c.args.self.now.waits.items) xs c.args.chains.now.heads.items c.args.chains.now.next.items c.args.row c.loop-rest.rest c.index-rest-in-loop-rest.result.now c.requires.chains c.loop-rest-test.true l (i.here c.loop-rest-test.true) c.index-rest-in-loop-rest.ensures in
    omega (arith, e, last_le c.args.row xs (c.loop-rest.rest - 1), c.loop-rest-test.true)

pub loop-rest-preserved : goal.loop-rest-preserved
loop-rest-preserved c =
    let xs = map (λ (e : ℕ × ℕ). e.0 / c.args.width) c.args.edges.now in
    let row = c.args.row in
    let i = c.loop-rest.invariant in
    let l : c.loop-rest.rest ≤ length (map (λ (e : ℕ × ℕ). e.0 / c.args.width) c.args.edges.now) = omega (arith, c.loop-rest.invariant.within, length-map c.args.edges.now (λ (e : ℕ × ℕ). e.0 / c.args.width)) in
    let e : c.index-rest-in-loop-rest.result.now ≡ last_of c.args.row (map (λ (e : ℕ × ℕ). e.0 / c.args.width) c.args.edges.now) (c.loop-rest.rest - 1) =
    next_is (length c.args.self.now.waits.items) xs c.args.chains.now.heads.items c.args.chains.now.next.items row c.loop-rest.rest c.index-rest-in-loop-rest.result.now c.requires.chains c.loop-rest-test.true l (i.here c.loop-rest-test.true) c.index-rest-in-loop-rest.ensures in
    let k : c.index-rest-in-loop-rest.result.now ≤ c.loop-rest.rest - 1 = omega (arith, e, last_le row xs (c.loop-rest.rest - 1)) in
    let m : c.loop-rest.rest - 1 < length c.args.edges.now = omega (arith, c.loop-rest.invariant.within, c.loop-rest-test.true) in
    let t : c.loop-rest.rest ≡ c.loop-rest.rest - 1 + 1 = omega (arith, c.loop-rest-test.true) in
    record {
      within = omega (arith, k, m);
      here = λ q. subst (λ z. get_or xs (z - 1) 0 ≡ row) (sym e) (last_at row xs (c.loop-rest.rest - 1) (subst (λ z. 0 < z) e q));
      grown = led_more c.args.width c.args.self.now.words c.args.taken.now c.args.edges.now row (c.loop-rest.rest - 1) m (i.here c.loop-rest-test.true) c.index-rest-in-loop-rest.result.now c.loop-rest.rest (0, 0) c.args.self.now c.loop-rest.self c.lead.new.self e k t i.grown.words i.grown c.in_ok-lead.ensures.grown;
    }
