use Rattle.std.proofs.Common.{arith, ◌≡◌, ◌+◌, ◌*◌, ◌<◌, ◌++◌, ◌∷◌, [], ℕ, length, refl, sym, ap, ◌∙◌, subst}
use Rattle.adj_reach.specs.Edges.{flag}
use Rattle.adj_flow.proofs.Picking.{picked_more, next_place, picked_all}
use Rattle.adj_flow.proofs.strided.picked.Goals as goal

pub loop-next-preserved : goal.loop-next-preserved
loop-next-preserved c =
    let flags = c.args.flags.now in
    let made = c.loop-next.picked.items in
    let x = flag flags c.loop-next.next in
    let e : c.push.new.self.items ≡ c.loop-next.picked.items ++ (flag c.args.flags.now c.loop-next.next ∷ []) = c.in_ok-push.ensures.items ∙ ap (λ z. c.loop-next.picked.items ++ (z ∷ [])) c.at.ensures in
    record {
      here = c.in_ok-next.ensures.further ∙ next_place made c.args.stride c.args.place c.loop-next.next x c.loop-next.invariant.here ∙ ap (λ z. length z * c.args.stride + c.args.place) (sym e);
      so_far = subst (λ z. (n : ℕ) → n < length z → flag z n ≡ flag c.args.flags.now (n * c.args.stride + c.args.place)) (sym e)
          (picked_more flags made c.args.stride c.args.place c.loop-next.next x c.loop-next.invariant.here refl c.loop-next.invariant.so_far);
    }

pub returns : goal.returns
returns c = record {
  picked = λ n. ap (λ z. flag z n) c.new.ensures.members ∙ picked_all c.args.flags.now c.loop-next.picked.items c.args.stride c.args.place c.loop-next.next c.loop-next.invariant.here (omega (arith, c.loop-next-test.false, c.len.ensures)) c.loop-next.invariant.so_far n;
}
