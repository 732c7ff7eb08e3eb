use Rattle.std.proofs.Common.{◌∷◌, [], ap, sym, ◌∙◌, arith}
use Rattle.adj_tree.specs.View.{extent_of}
use Rattle.adj_interp_frame.proofs.Failing.{err_is}
use Rattle.adj_interp_frame.proofs.Resolving.{extends_on}
use Rattle.adj_interp_frame.proofs.Declarations.{one_of, two_of}
use Rattle.adj_interp_frame.proofs.numbering.Numbering.layout.Goals as goal

pub returns-in_ok-bound-in-len1 : goal.returns-in_ok-bound-in-len1
returns-in_ok-bound-in-len1 c =
    let r = c.in_ok-bound-in-len1.ensures in
    let some = c.in-len1.len_at_least in
    let few = c.in-len1.len_below in
    record {
      extends = r.extends;
      apart = r.apart;
      resolves = record {
        stands_for = λ ls f. ap (λ z. z ∷ []) (r.resolves.stands_for ls f) ∙ ap (λ z. extent_of z ∷ []) c.rows-item.is ∙ sym (one_of extent_of c.args.extents.now c.rows-item.result (omega (arith, some)) (omega (arith, few)));
        below = λ ls f. r.resolves.below ls f;
      };
    }

pub returns-in_ok-bound-in-len2-up : goal.returns-in_ok-bound-in-len2-up
returns-in_ok-bound-in-len2-up c =
    let r1 = c.in_ok-first-in-len2-up.ensures in
    let r2 = c.in_ok-bound-in-len2-up.ensures in
    let e2 = r2.extends in
    let some = c.in-len2-up.len_at_least in
    let few = c.requires in
    record {
      extends = extends_on _ _ _ r1.extends e2;
      apart = λ a. r2.apart (r1.apart a);
      resolves = record {
        stands_for = λ ls f.
            (λ i. r1.resolves.stands_for ls (extends_on _ _ _ e2 f) i ∷ r2.resolves.stands_for ls f i ∷ [])
            ∙ (λ i. extent_of (c.rows-item-2.is i) ∷ extent_of (c.cols-item.is i) ∷ [])
            ∙ sym (two_of extent_of c.args.extents.now c.rows-item-2.result c.cols-item.result (omega (arith, some)) (omega (arith, few)));
        below = λ ls f. (r1.resolves.below ls (extends_on _ _ _ e2 f), r2.resolves.below ls f);
      };
    }

pub returns-in_err-bound-in-len1 : goal.returns-in_err-bound-in-len1
returns-in_err-bound-in-len1 c = rw (err_is c.from_residual.result c.in_err-bound-in-len1.field-0.0 c.from_residual.ensures.1) (record { extends = tt; apart = tt; resolves = tt })

pub returns-in_err-first-in-len2-up : goal.returns-in_err-first-in-len2-up
returns-in_err-first-in-len2-up c = rw (err_is c.from_residual-in_err-first-in-len2-up.result c.in_err-first-in-len2-up.field-0.0 c.from_residual-in_err-first-in-len2-up.ensures.1) (record { extends = tt; apart = tt; resolves = tt })

pub returns-in_err-bound-in-len2-up : goal.returns-in_err-bound-in-len2-up
returns-in_err-bound-in-len2-up c = rw (err_is c.from_residual-in_err-bound-in-len2-up.result c.in_err-bound-in-len2-up.field-0.0 c.from_residual-in_err-bound-in-len2-up.ensures.1) (record { extends = tt; apart = tt; resolves = tt })
