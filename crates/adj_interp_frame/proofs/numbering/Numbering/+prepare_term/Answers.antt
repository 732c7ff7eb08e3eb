use Rattle.std.proofs.Common.{rules, ◌≡◌, length, refl, sym, ap, subst, ◌∙◌, arith}
use Rattle.adj_tree.specs.declared.expr.Expr.{size-Expr}
use Rattle.adj_tree.specs.declared.expr.Exprs.{size-Exprs}
use Rattle.adj_tree.specs.declared.expr.Expr.TheViews.{sized-Elem, sized-Neg, sized-Bin, sized-Pow, sized-Power, sized-Abs, sized-More}
use Rattle.adj_tree.specs.declared.expr.Exprs.TheVariants as exprs
use Rattle.adj_tree.specs.Code.{var, elem, neg, bin, pow, power_of, abs, more}
use Rattle.adj_tree.specs.View.{op_of, term_of, terms_of}
use Rattle.adj_tree.specs.Listed.{terms_turned}
use Rattle.adj_interp_frame.specs.Prepared.{term_in, terms_in, IsTermBelow, AreTermsBelow}
use Rattle.adj_interp_frame.proofs.Failing.{err_is}
use Rattle.adj_interp_frame.proofs.Resolving.{extends_self, extends_on, resolves_on}
use Rattle.adj_interp_frame.proofs.numbering.Numbering.+prepare_term.Goals as goal

-- ---- each kind of expression

pub term-returns-in_ok-variable-in-Var : goal.term-returns-in_ok-variable-in-Var
term-returns-in_ok-variable-in-Var t c =
    let r = c.in_ok-variable-in-Var.ensures in
    record {
      extends = r.extends;
      resolves = rw c.in-Var.is (record {
        stands_for = λ ls f. ap var (r.resolves.stands_for ls f);
        below = λ ls f. r.resolves.below ls f;
      });
    }

pub term-returns-in_ok-subs-in-Elem : goal.term-returns-in_ok-subs-in-Elem
term-returns-in_ok-subs-in-Elem t c =
    let r1 = c.in_ok-variable-in-Elem.ensures in
    let r2 = c.in_ok-subs-in-Elem.ensures in
    let e2 = r2.extends in
    record {
      extends = extends_on _ _ _ r1.extends e2;
      resolves = rw c.in-Elem.is (record {
        stands_for = λ ls f i. elem (r1.resolves.stands_for ls (extends_on _ _ _ e2 f) i) ((r2.resolves.stands_for ls f ∙ ap terms_of c.deref.ensures) i);
        below = λ ls f. (r1.resolves.below ls (extends_on _ _ _ e2 f), r2.resolves.below ls f);
      });
    }

pub term-returns-in_ok-operand-in-Neg : goal.term-returns-in_ok-operand-in-Neg
term-returns-in_ok-operand-in-Neg t c =
    let r = c.in_ok-operand-in-Neg.ensures in
    record {
      extends = r.extends;
      resolves = rw c.in-Neg.is (record {
        stands_for = λ ls f. ap (λ z. neg z) (r.resolves.stands_for ls f ∙ ap term_of c.deref-in-Neg.ensures);
        below = λ ls f. r.resolves.below ls f;
      });
    }

pub term-returns-in_ok-left-in-Bin : goal.term-returns-in_ok-left-in-Bin
term-returns-in_ok-left-in-Bin t c =
    let r = c.in_ok-left-in-Bin.ensures in
    record {
      extends = r.extends;
      resolves = rw c.in-Bin.is (record {
        stands_for = λ ls f i. bin (op_of c.in-Bin.op) ((r.first.stands_for ls f ∙ ap term_of c.deref-in-Bin.ensures) i) ((r.second.stands_for ls f ∙ ap term_of c.deref-in-Bin-2.ensures) i);
        below = λ ls f. (r.first.below ls f, r.second.below ls f);
      });
    }

pub term-returns-in_ok-operand-in-Pow : goal.term-returns-in_ok-operand-in-Pow
term-returns-in_ok-operand-in-Pow t c =
    let r = c.in_ok-operand-in-Pow.ensures in
    record {
      extends = r.extends;
      resolves = rw c.in-Pow.is (record {
        stands_for = λ ls f. ap (λ z. pow z c.in-Pow.k) (r.resolves.stands_for ls f ∙ ap term_of c.deref-in-Pow.ensures);
        below = λ ls f. r.resolves.below ls f;
      });
    }

pub term-returns-in_ok-base-in-Power : goal.term-returns-in_ok-base-in-Power
term-returns-in_ok-base-in-Power t c =
    let r = c.in_ok-base-in-Power.ensures in
    record {
      extends = r.extends;
      resolves = rw c.in-Power.is (record {
        stands_for = λ ls f i. power_of ((r.first.stands_for ls f ∙ ap term_of c.deref-in-Power.ensures) i) ((r.second.stands_for ls f ∙ ap term_of c.deref-in-Power-2.ensures) i);
        below = λ ls f. (r.first.below ls f, r.second.below ls f);
      });
    }

pub term-returns-in_ok-operand-in-Abs : goal.term-returns-in_ok-operand-in-Abs
term-returns-in_ok-operand-in-Abs t c =
    let r = c.in_ok-operand-in-Abs.ensures in
    record {
      extends = r.extends;
      resolves = rw c.in-Abs.is (record {
        stands_for = λ ls f. ap (λ z. abs z) (r.resolves.stands_for ls f ∙ ap term_of c.deref-in-Abs.ensures);
        below = λ ls f. r.resolves.below ls f;
      });
    }

-- ---- operands are smaller

pub term-terms-requires : goal.term-terms-requires
term-terms-requires t c =
    let whole = sized-Elem c.in-Elem.x c.in-Elem.subs in
    let was = ap size-Expr c.in-Elem.is in
    let left = ap size-Exprs c.deref.ensures in
    (omega (arith, c.decreases, whole, was, left), tt)

pub term-operand-requires : goal.term-operand-requires
term-operand-requires t c =
    let whole = sized-Neg c.in-Neg.a in
    let was = ap size-Expr c.in-Neg.is in
    let left = ap size-Expr c.deref-in-Neg.ensures in
    (omega (arith, c.decreases, whole, was, left), tt)

pub term-operand-requires-in-Pow : goal.term-operand-requires-in-Pow
term-operand-requires-in-Pow t c =
    let whole = sized-Pow c.in-Pow.a c.in-Pow.k in
    let was = ap size-Expr c.in-Pow.is in
    let left = ap size-Expr c.deref-in-Pow.ensures in
    (omega (arith, c.decreases, whole, was, left), tt)

pub term-operand-requires-in-Abs : goal.term-operand-requires-in-Abs
term-operand-requires-in-Abs t c =
    let whole = sized-Abs c.in-Abs.a in
    let was = ap size-Expr c.in-Abs.is in
    let left = ap size-Expr c.deref-in-Abs.ensures in
    (omega (arith, c.decreases, whole, was, left), tt)

pub term-operands-requires : goal.term-operands-requires
term-operands-requires t c =
    let whole = sized-Bin c.in-Bin.op c.in-Bin.a c.in-Bin.b in
    let was = ap size-Expr c.in-Bin.is in
    let left = ap size-Expr c.deref-in-Bin.ensures in
    let right = ap size-Expr c.deref-in-Bin-2.ensures in
    (omega (arith, c.decreases, whole, was, left, right), tt)

pub term-operands-requires-in-Power : goal.term-operands-requires-in-Power
term-operands-requires-in-Power t c =
    let whole = sized-Power c.in-Power.a c.in-Power.b in
    let was = ap size-Expr c.in-Power.is in
    let left = ap size-Expr c.deref-in-Power.ensures in
    let right = ap size-Expr c.deref-in-Power-2.ensures in
    (omega (arith, c.decreases, whole, was, left, right), tt)

-- ---- operands

pub operand-returns : goal.operand-returns
operand-returns t c =
    let r = c.in_ok-term.ensures in
    let b = c.in_ok-operand.ensures.boxed in
    record {
      extends = r.extends;
      resolves = record {
        stands_for = λ ls f. ap (term_in ls) b ∙ r.resolves.stands_for ls f;
        below = λ ls f. subst (IsTermBelow (length ls)) (sym b) (r.resolves.below ls f);
      };
    }

pub operands-returns : goal.operands-returns
operands-returns t c =
    let r1 = c.in_ok-left.ensures in
    let r2 = c.in_ok-right.ensures in
    record {
      extends = extends_on _ _ _ r1.extends r2.extends;
      first = resolves_on _ _ _ _ _ _ r2.extends r1.resolves;
      second = r2.resolves;
    }

-- ---- lists

pub terms-loop-current-init : goal.terms-loop-current-init
terms-loop-current-init t c = record {
  no_deeper = omega arith;
  extends = extends_self c.args.self.now;
  resolves = record { stands_for = λ ls f. refl; below = λ ls f. tt };
}

pub terms-loop-current-preserved : goal.terms-loop-current-preserved
terms-loop-current-preserved t c =
    let made = c.loop-current.made in
    let rest = c.in-More.rest.value in
    let before = c.loop-current.self in
    let after = c.term.new.self in
    let inv = c.loop-current.invariant in
    let e = c.in_ok-term.ensures.extends in
    let r = c.in_ok-term.ensures.resolves in
    let ok1 = c.in_ok-boxed.ensures.boxed in
    let ok2 = c.in_ok-boxed-2.ensures.boxed in
    record {
      no_deeper =
          let whole = sized-More c.in-More.first c.in-More.rest in
          let was = ap size-Exprs c.in-More.is in
          let left = ap size-Exprs c.deref-current.ensures in
          let earlier = inv.no_deeper in
          first_of (omega (arith, whole, was, left, earlier), grind (arith, whole, was, left, earlier));
      extends = extends_on c.args.self.now before after inv.extends e;
      resolves = record {
        stands_for = λ ls f.
            (λ i. terms_turned (terms_in ls (ok2 i)) (more (term_in ls (ok1 i)) (terms_of (c.deref-current.ensures i))))
            ∙ ap (λ z. terms_turned (terms_in ls made) (more z (terms_of rest))) (r.stands_for ls f)
            ∙ ap (λ z. terms_turned (terms_in ls made) (more (term_of z) (terms_of rest))) c.deref.ensures
            ∙ ap (λ z. terms_turned (terms_in ls made) (terms_of z)) (sym c.in-More.is)
            ∙ inv.resolves.stands_for ls (extends_on before after ls e f);
        below = λ ls f. (subst (IsTermBelow (length ls)) (sym ok1) (r.below ls f), subst (AreTermsBelow (length ls)) (sym ok2) (inv.resolves.below ls (extends_on before after ls e f)));
      };
    }

pub terms-returns-clause-extends : goal.terms-returns-clause-extends
terms-returns-clause-extends t c = c.loop-current.invariant.extends

pub terms-returns-clause-resolves : goal.terms-returns-clause-resolves
terms-returns-clause-resolves t c =
    let inv = c.loop-current.invariant.resolves in
    let empty : c.loop-current.current.now ≡ exprs.Empty = search rules in
    record {
      stands_for = λ ls f. c.turned-all.ensures.turned ls ∙ ap (λ z. terms_turned (terms_in ls c.loop-current.made) (terms_of z)) (sym empty) ∙ inv.stands_for ls f;
      below = λ ls f. c.turned-all.ensures.below (length ls) (inv.below ls f);
    }

-- ---- where memory is out

pub term-returns-in_err-variable-in-Var : goal.term-returns-in_err-variable-in-Var
term-returns-in_err-variable-in-Var t c = rw (err_is c.from_residual.result c.in_err-variable-in-Var.field-0.0 c.from_residual.ensures.1) (record { extends = tt; resolves = tt })

pub term-returns-in_err-variable-in-Elem : goal.term-returns-in_err-variable-in-Elem
term-returns-in_err-variable-in-Elem t c = rw (err_is c.from_residual-in_err-variable-in-Elem.result c.in_err-variable-in-Elem.field-0.0 c.from_residual-in_err-variable-in-Elem.ensures.1) (record { extends = tt; resolves = tt })

pub term-returns-in_err-subs-in-Elem : goal.term-returns-in_err-subs-in-Elem
term-returns-in_err-subs-in-Elem t c = rw (err_is c.from_residual-in_err-subs-in-Elem.result c.in_err-subs-in-Elem.field-0.0 c.from_residual-in_err-subs-in-Elem.ensures.1) (record { extends = tt; resolves = tt })

pub term-returns-in_err-operand-in-Neg : goal.term-returns-in_err-operand-in-Neg
term-returns-in_err-operand-in-Neg t c = rw (err_is c.from_residual-in_err-operand-in-Neg.result c.in_err-operand-in-Neg.field-0.0 c.from_residual-in_err-operand-in-Neg.ensures.1) (record { extends = tt; resolves = tt })

pub term-returns-in_err-left-in-Bin : goal.term-returns-in_err-left-in-Bin
term-returns-in_err-left-in-Bin t c = rw (err_is c.from_residual-in_err-left-in-Bin.result c.in_err-left-in-Bin.field-0.0 c.from_residual-in_err-left-in-Bin.ensures.1) (record { extends = tt; resolves = tt })

pub term-returns-in_err-operand-in-Pow : goal.term-returns-in_err-operand-in-Pow
term-returns-in_err-operand-in-Pow t c = rw (err_is c.from_residual-in_err-operand-in-Pow.result c.in_err-operand-in-Pow.field-0.0 c.from_residual-in_err-operand-in-Pow.ensures.1) (record { extends = tt; resolves = tt })

pub term-returns-in_err-base-in-Power : goal.term-returns-in_err-base-in-Power
term-returns-in_err-base-in-Power t c = rw (err_is c.from_residual-in_err-base-in-Power.result c.in_err-base-in-Power.field-0.0 c.from_residual-in_err-base-in-Power.ensures.1) (record { extends = tt; resolves = tt })

pub term-returns-in_err-operand-in-Abs : goal.term-returns-in_err-operand-in-Abs
term-returns-in_err-operand-in-Abs t c = rw (err_is c.from_residual-in_err-operand-in-Abs.result c.in_err-operand-in-Abs.field-0.0 c.from_residual-in_err-operand-in-Abs.ensures.1) (record { extends = tt; resolves = tt })

pub operand-returns-in_err-term : goal.operand-returns-in_err-term
operand-returns-in_err-term t c = rw (err_is c.from_residual.result c.in_err-term.field-0.0 c.from_residual.ensures.1) (record { extends = tt; resolves = tt })

pub operand-returns-in_err-operand : goal.operand-returns-in_err-operand
operand-returns-in_err-operand t c = rw (err_is c.from_residual-in_err-operand.result c.in_err-operand.field-0.0 c.from_residual-in_err-operand.ensures.1) (record { extends = tt; resolves = tt })

pub operands-returns-in_err-left : goal.operands-returns-in_err-left
operands-returns-in_err-left t c = rw (err_is c.from_residual.result c.in_err-left.field-0.0 c.from_residual.ensures.1) (record { extends = tt; first = tt; second = tt })

pub operands-returns-in_err-right : goal.operands-returns-in_err-right
operands-returns-in_err-right t c = rw (err_is c.from_residual-in_err-right.result c.in_err-right.field-0.0 c.from_residual-in_err-right.ensures.1) (record { extends = tt; first = tt; second = tt })

pub terms-returns-in_err-term : goal.terms-returns-in_err-term
terms-returns-in_err-term t c = rw (err_is c.from_residual.result c.in_err-term.field-0.0 c.from_residual.ensures.1) (record { extends = tt; resolves = tt })

pub terms-returns-in_err-boxed : goal.terms-returns-in_err-boxed
terms-returns-in_err-boxed t c = rw (err_is c.from_residual-in_err-boxed.result c.in_err-boxed.field-0.0 c.from_residual-in_err-boxed.ensures.1) (record { extends = tt; resolves = tt })

pub terms-returns-in_err-boxed-2 : goal.terms-returns-in_err-boxed-2
terms-returns-in_err-boxed-2 t c = rw (err_is c.from_residual-in_err-boxed-2.result c.in_err-boxed-2.field-0.0 c.from_residual-in_err-boxed-2.ensures.1) (record { extends = tt; resolves = tt })
