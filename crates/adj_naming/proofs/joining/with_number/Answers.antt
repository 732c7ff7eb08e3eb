use Rattle.std.proofs.Common.{◌≡◌, ◌++◌, sym, subst, ◌∙◌, arith}
use Rattle.std.specs.Prelude.{IfOk}
use Rattle.def_names.specs.Fresh.{digits}
use Rattle.def_names.proofs.Fresh.{digits-decimal}
use Rattle.adj_naming.proofs.joining.with_number.Goals as goal

pub returns : goal.returns
returns c =
    let number = c.args.number in
    let text : c.as_bytes.result.now ≡ digits number = c.as_bytes.ensures.value ∙ c.format.ensures.text ∙ sym (digits-decimal number (omega (arith, c.ranges.number.fits))) in
    record { name = subst (λ t. IfOk c.joined.result (λ y. y ≡ c.args.front.now ++ t)) text c.joined.ensures.name }
