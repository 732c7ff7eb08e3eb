use Rattle.std.proofs.Common.{◌≡◌, ◌++◌, ap, sym, ◌∙◌}
use Rattle.std.proofs.lemmas.List.{append_assoc}
use Rattle.std.specs.Prelude.{codes}
use Rattle.adj_data.specs.Sample.{field_of, snapshots_of, with_number}
use Rattle.adj_data.proofs.sampling.push_front.Goals as goal

pub returns : goal.returns
returns c =
    let title = with_number (codes "      SUBROUTINE SAMPLE(N,U,S)\n      INTEGER*8 N,U(N),S,V(") (field_of c.args.number) in
    let rest = with_number (codes "),K,I\nC$AD BINOMIAL-CKP ") (snapshots_of c.args.number) in
    c.in_ok-push_number-2.ensures
    ∙ ap (λ k. c.push_number.new.out.items ++ with_number (codes "),K,I\nC$AD BINOMIAL-CKP ") k) c.sample_snapshots.ensures.snapshots
    ∙ ap (λ z. z ++ rest) (c.in_ok-push_number.ensures ∙ ap (λ k. c.args.out.now.items ++ with_number (codes "      SUBROUTINE SAMPLE(N,U,S)\n      INTEGER*8 N,U(N),S,V(") k) c.sample_field.ensures.field)
    ∙ append_assoc c.args.out.now.items title rest
