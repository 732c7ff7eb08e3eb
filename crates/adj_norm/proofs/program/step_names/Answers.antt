use Rattle.std.proofs.Common.{◌≡◌, ◌∙◌, ◌++◌, ◌∷◌, [], suc, ap, sym, codes, append-nil, append_assoc, add-one}
use Rattle.def_names.specs.Fresh.{fresh, digits}
use Rattle.def_kernel.specs.Stepped.{wanted_step, step_names}
use Rattle.adj_norm.proofs.program.step_names.Goals as goal

pub loop-number-init : goal.loop-number-init
loop-number-init c =
    let none = c.new-made.ensures.items in
    record {
      names = none;
      taken = sym (append-nil c.args.taken.now) ∙ ap (λ z. c.args.taken.now ++ z) (sym none);
    }

pub loop-number-preserved : goal.loop-number-preserved
loop-number-preserved c =
    let l = c.loop-number in
    let base = c.args.base.now in
    let old = c.args.taken.now in
    let wanted : c.bytes-in-loop-number-2.result.now ≡ wanted_step base l.number =
    c.bytes-in-loop-number-2.ensures.bytes ∙ c.in_ok-wanted.ensures.name ∙ (λ i. (c.bytes-in-loop-number.ensures.bytes ∙ c.in_ok-front.ensures.name) i ++ digits (add-one l.number i)) ∙ ap (λ z. (z ++ codes "_S") ++ digits (suc l.number)) c.bytes.ensures.bytes ∙ append_assoc base (codes "_S") (digits (suc l.number)) in
    let known : l.taken ≡ old ++ step_names old base l.number = l.invariant.taken ∙ ap (λ z. old ++ z) l.invariant.names in
    let name : c.in_ok-name.name ≡ fresh (wanted_step base l.number) (old ++ step_names old base l.number) = c.in_ok-name.ensures.name ∙ (λ i. fresh (wanted i) (known i)) in
    record {
      names = c.in_ok-push.ensures.items ∙ (λ i. l.invariant.names i ++ name i ∷ []) ∙ ap (step_names old base) (sym (add-one l.number));
      taken = c.in_ok-name.ensures.taken ∙ ap (λ z. z ++ c.in_ok-name.name ∷ []) l.invariant.taken ∙ append_assoc old l.made.items (c.in_ok-name.name ∷ []) ∙ ap (λ z. old ++ z) (sym c.in_ok-push.ensures.items);
    }
