use Rattle.std.proofs.Common.{◌≡◌, ◌++◌, ◌∷◌, [], ◌+◌, ◌<◌, ◌≤◌, map, length, drop, drop_of_length-le, length-append, ap, ◌∙◌, sym, subst}
use Rattle.std.proofs.lemmas.List.{length-map}
use Rattle.def_names.specs.Fresh.{fresh}
use Rattle.def_sweep.specs.Naming.{named_for, wanted_for}
use Rattle.adj_tree.specs.Code.{shadow}
use Rattle.adj_naming.specs.Texts.{derived_of}
use Rattle.adj_naming.specs.Table.{paired}
use Rattle.adj_naming.proofs.Making.{paired-empty, named_step}
use Rattle.adj_naming.proofs.Places.{mapped_at}
use Rattle.adj_naming.proofs.naming.shadow_names.Goals as goal

pub loop-x-init : goal.loop-x-init
loop-x-init c =
    let o = derived_of c.args.derived in
    let vs = map shadow c.args.shadowed.now in
    record {
      count = ap length c.new-made.ensures.items;
      names = λ rest. ap (λ ns. ns ++ named_for o c.args.taken.now (vs ++ rest)) (ap (paired vs) c.new-made.ensures.items ∙ paired-empty vs);
    }

pub loop-x-preserved : goal.loop-x-preserved
loop-x-preserved c =
    let o = derived_of c.args.derived in
    let xs = c.args.shadowed.now in
    let vs = map shadow xs in
    let made = c.loop-x.made.items in
    let taken = c.loop-x.taken in
    let i = c.loop-x.x-index in
    let v = shadow c.x-item.result in
    let name = c.in_ok-name.name in
    let is : name ≡ fresh (wanted_for o v) taken = c.in_ok-name.ensures.name ∙ ap (λ b. fresh b taken) (c.bytes-in-loop-x.ensures.bytes ∙ c.in_ok-base.ensures.name ∙ (λ j. c.bytes.ensures.bytes j ++ c.mark.ensures.mark j)) in
    let added : c.push.new.self.items ≡ made ++ (name ∷ []) = c.in_ok-push.ensures.items in
    record {
      count = ap length added ∙ length-append made (name ∷ []) ∙ ap (λ z. z + 1) c.loop-x.invariant.count;
      names = λ rest.
          (λ k. paired vs (added k) ++ named_for o (c.in_ok-name.ensures.taken k) (drop (i + 1) vs ++ rest))
          ∙ named_step o vs made taken name v i rest c.loop-x.invariant.count (subst (λ m. i < m) (sym (length-map xs shadow)) c.loop-x-test.true) (mapped_at shadow xs i c.x-item.result c.loop-x-test.true c.x-item.is) is
          ∙ c.loop-x.invariant.names rest;
    }

pub returns : goal.returns
returns c =
    let o = derived_of c.args.derived in
    let xs = c.args.shadowed.now in
    let vs = map shadow xs in
    record {
      shadows = λ rest.
          ap (λ ws. paired vs c.loop-x.made.items ++ named_for o c.loop-x.taken (ws ++ rest)) (sym (drop_of_length-le vs (subst (λ m. m ≤ c.loop-x.x-index) (sym (length-map xs shadow)) c.loop-x-test.false)))
          ∙ c.loop-x.invariant.names rest;
    }
