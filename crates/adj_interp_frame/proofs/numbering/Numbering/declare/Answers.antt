use Rattle.std.proofs.Common.{map, length, subst, ◌∙◌, arith}
use Rattle.adj_tree.specs.View.{extent_of, declaration_of}
use Rattle.adj_interp_frame.specs.Numbered.{Resolves}
use Rattle.adj_interp_frame.specs.Called.{extents_at, IsLayoutBelow}
use Rattle.adj_interp_frame.proofs.Resolving.{extends_on}
use Rattle.adj_interp_frame.proofs.Declarations.{declares_on, declares_next}
use Rattle.adj_interp_frame.proofs.Failing.{err_is}
use Rattle.adj_interp_frame.proofs.numbering.Numbering.declare.Goals as goal

pub returns-clause-declares : goal.returns-clause-declares
returns-clause-declares c ds h =
    let old = c.args.self.now in
    let ms = c.layout.new.self in
    let i = c.in_ok-number.number in
    let e = c.in_ok-layout.ensures.extends in
    let a = c.in_ok-layout.ensures.apart (c.in_ok-number.ensures.apart c.requires.apart) in
    let within = c.in_ok-number.ensures.within in
    let longer = e.longer in
    let h2 = declares_on ds old ms c.args.layouts.now.items a (extends_on _ _ _ c.in_ok-number.ensures.extends e) h in
    let few = h2.few in
    let count = c.len.ensures in
    let filled = c.in_ok-fill.ensures.longer in
    let r = subst (λ es. Resolves extents_at IsLayoutBelow ms c.in_ok-layout.layout (map extent_of es)) c.as_slice.ensures.members c.in_ok-layout.ensures.resolves in
    declares_next (declaration_of c.args.decl.now) ds ms c.args.layouts.now.items c.fill.new.layouts.items i c.in_ok-layout.layout a h2 (omega (arith, within, longer)) (e.keeps i within ∙ c.in_ok-number.ensures.named) r c.in_ok-fill.ensures.same (omega (arith, within, longer, count, filled)) (c.in_ok-fill.ensures.few (length ms) (omega (arith, count)) few)

pub returns-in_err-number : goal.returns-in_err-number
returns-in_err-number c = rw (err_is c.from_residual.result c.in_err-number.field-0.0 c.from_residual.ensures.1) (record { extends = tt; apart = tt; declares = tt })

pub returns-in_err-layout : goal.returns-in_err-layout
returns-in_err-layout c = rw (err_is c.from_residual-in_err-layout.result c.in_err-layout.field-0.0 c.from_residual-in_err-layout.ensures.1) (record { extends = tt; apart = tt; declares = tt })

pub returns-in_err-fill : goal.returns-in_err-fill
returns-in_err-fill c = rw (err_is c.from_residual-in_err-fill.result c.in_err-fill.field-0.0 c.from_residual-in_err-fill.ensures.1) (record { extends = tt; apart = tt; declares = tt })
