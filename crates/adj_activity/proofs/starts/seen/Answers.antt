-- One way more.
use Rattle.std.proofs.Common.{◌≡◌, ℕ, ◌+◌, ◌*◌, ◌<◌, ◌≤◌, ◌∷◌, Bool, true, false, map, drop, length, refl, sym, ap, ◌∙◌, subst, arith}
use Rattle.std.specs.Prelude.{◌||◌}
use Rattle.std.proofs.lemmas.List.{with_items_is, drop_more}
use Rattle.def_flow.specs.Rules.{somewhere}
use Rattle.adj_flow.specs.WayView.{way_of}
use Rattle.adj_reach.specs.Edges.{flag}
use Rattle.adj_activity.proofs.starts.seen.Goals as goal

or_more : (b u v s : Bool) → (((b || u) || v) || s) ≡ (b || (u || (v || s)))
or_more true u v s = refl
or_more false true v s = refl
or_more false false v s = refl

pub loop-way-preserved : goal.loop-way-preserved
loop-way-preserved c =
    let i = c.loop-way.invariant in
    let items = c.as_slice-way-items.result.now in
    let k = c.loop-way.way-index in
    let way = c.way-item.result in
    let value = c.as_mut_slice.ensures.value in
    let old = c.loop-way.seen.items in
    let new = c.join_ends.new.seen in
    let size : length c.join_ends.new.seen ≡ length c.loop-way.seen.items = c.in_ok-join_ends.ensures.count ∙ ap length value in
    let is = with_items_is c.loop-way.seen new (size ∙ sym c.loop-way.seen.ok.0) in
    let slice : c.as_slice-in-loop-way.result.now ≡ c.loop-way.seen.items = c.as_slice-in-loop-way.ensures.value in
    let within : c.first_unset-set.result ≤ length c.loop-way.seen.items = subst (λ z. c.first_unset-set.result ≤ z) (ap length slice) c.first_unset-set.ensures.within in
    let at = λ (j p : ℕ). flag c.args.flags.now (p * c.args.width + j) in
    let left : drop k items ≡ way ∷ drop (k + 1) items = drop_more items k way c.loop-way-test.true ∙ ap (λ z. z ∷ drop (k + 1) items) (sym c.way-item.is) in
    record {
      count = ap length is ∙ size ∙ i.count;
      within = subst (λ z. c.first_unset-set.result ≤ z) (sym (ap length is ∙ size)) within;
      set = λ j l.
          let m : j < length c.as_mut_slice.result.now = subst (λ z. j < z) (sym (ap length value)) (omega (arith, l, within)) in
          let joined : flag new j ≡ ((flag old j || at j (way_of way).from) || at j (way_of way).to) = c.in_ok-join_ends.ensures.joined j m ∙ ap (λ fs. (flag fs j || at j (way_of way).from) || at j (way_of way).to) value in
          let was : flag old j ≡ true = subst (λ fs. flag fs j ≡ true) slice (c.first_unset-set.ensures.set j l) in
          ap (λ fs. flag fs j) is ∙ joined ∙ ap (λ b. (b || at j (way_of way).from) || at j (way_of way).to) was;
      seen = subst (λ fs. (j : ℕ) → j < length c.args.part.now.variables.now → (flag fs j || somewhere (map way_of (drop (k + 1) items)) (at j)) ≡ somewhere (map way_of c.args.part.now.ways.items) (at j)) (sym is)
          (λ j l.
          let m : j < length c.as_mut_slice.result.now = subst (λ z. j < z) (sym (ap length value ∙ i.count)) l in
          let joined : flag new j ≡ ((flag old j || at j (way_of way).from) || at j (way_of way).to) = c.in_ok-join_ends.ensures.joined j m ∙ ap (λ fs. (flag fs j || at j (way_of way).from) || at j (way_of way).to) value in
          ap (λ b. b || somewhere (map way_of (drop (k + 1) items)) (at j)) joined
          ∙ or_more (flag old j) (at j (way_of way).from) (at j (way_of way).to) (somewhere (map way_of (drop (k + 1) items)) (at j))
          ∙ ap (λ ws. flag old j || somewhere (map way_of ws) (at j)) (sym left)
          ∙ i.seen j l);
    }

pub returns-then-set-len : goal.returns-then-set-len
returns-then-set-len c =
    let i = c.loop-way.invariant in
    let slice : c.as_slice-in-loop-way.result.now ≡ c.loop-way.seen.items = c.as_slice-in-loop-way.ensures.value in
    let all : c.first_unset-set.result ≡ length c.args.part.now.variables.now = c.if-set-len.true ∙ c.len.ensures ∙ sym c.as_slice-in-loop-way.ensures.len ∙ ap length slice ∙ i.count in
    let left = λ (j : ℕ). somewhere (map way_of (drop c.loop-way.way-index c.as_slice-way-items.result.now)) (λ p. flag c.args.flags.now (p * c.args.width + j)) in
    record {
      seen = λ j l.
          let was : flag c.loop-way.seen.items j ≡ true = subst (λ fs. flag fs j ≡ true) slice (c.first_unset-set.ensures.set j (subst (λ z. j < z) (sym all) l)) in
          was ∙ sym (ap (λ b. b || left j) was) ∙ i.seen j l;
    }
