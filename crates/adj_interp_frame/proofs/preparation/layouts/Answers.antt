use Rattle.std.proofs.Common.{◌≡◌, ◌∷◌, ◌<◌, ◌-◌, ◌+◌, map, drop, length, ap, ap₂, sym, subst, ◌∙◌, arith}
use Rattle.std.proofs.lemmas.List.{drop_more}
use Rattle.adj_tree.specs.View.{declaration_of}
use Rattle.adj_interp_frame.specs.Declaring.{Declares}
use Rattle.adj_interp_frame.proofs.Resolving.{extends_on}
use Rattle.adj_interp_frame.proofs.Failing.{err_is}
use Rattle.adj_interp_frame.proofs.preparation.layouts.Goals as goal

pub loop-remaining-preserved : goal.loop-remaining-preserved
loop-remaining-preserved c =
    let inv = c.loop-remaining.invariant in
    let r = c.loop-remaining.remaining in
    let ds = c.args.decls.now in
    let d = c.index-decls-remaining.result in
    let some = c.loop-remaining-test.true in
    let within = inv.within in
    let lt : r - 1 < length c.args.decls.now = omega (arith, some, within) in
    let next : r - 1 + 1 ≡ c.loop-remaining.remaining = omega (arith, some) in
    let path = ap₂ (λ x i. declaration_of x ∷ map declaration_of (drop i ds)) c.index-decls-remaining.is (sym next) ∙ ap (map declaration_of) (sym (drop_more ds (r - 1) d lt)) in
    record {
      within = omega (arith, within);
      extends = extends_on _ _ _ inv.extends c.in_ok-declare.ensures.extends;
      apart = c.in_ok-declare.ensures.apart;
      declares = subst (λ es. Declares es c.declare.new.self c.declare.new.layouts.items) path (c.in_ok-declare.ensures.declares (map declaration_of (drop r ds)) inv.declares);
    }

pub returns-in_err-declare : goal.returns-in_err-declare
returns-in_err-declare c = rw (err_is c.from_residual.result c.in_err-declare.field-0.0 c.from_residual.ensures.1) (record { extends = tt; apart = tt; declares = tt })
