use Rattle.std.proofs.Common.{◌≡◌, ◌++◌, ap, sym, ◌∙◌}
use Rattle.std.specs.Prelude.{codes}
use Rattle.std.proofs.lemmas.List.{append_assoc}
use Rattle.adj_data.specs.Sample.{sample_end, steps_of, with_number}
use Rattle.adj_data.proofs.sampling.push_body.Goals as goal

pub returns : goal.returns
returns c =
    let title = with_number (codes "\n      DO K=1,") (steps_of c.args.number) in
    c.in_ok-extend_from_slice.ensures.items
    ∙ ap (λ z. z ++ sample_end) (c.in_ok-push_number.ensures ∙ ap (λ k. c.args.out.now.items ++ with_number (codes "\n      DO K=1,") k) c.sample_steps.ensures.steps)
    ∙ append_assoc c.args.out.now.items title sample_end
