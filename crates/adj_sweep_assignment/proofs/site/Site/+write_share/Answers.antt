use Rattle.std.proofs.Common.{◌∙◌, sym, ap}
use Rattle.adj_tree.specs.View.{code_of}
use Rattle.def_meaning.specs.Append.{◌+++◌}
use Rattle.def_meaning.proofs.Appends.{append_assoc}
use Rattle.adj_sweep_assignment.specs.Shares.{share_code}
use Rattle.adj_sweep_assignment.specs.Sites.{naming_of}
use Rattle.adj_sweep_assignment.proofs.site.Site.+write_share.Goals as goal

pub returns-in_ok-code-in-Both : goal.returns-in_ok-code-in-Both
returns-in_ok-code-in-Both t c =
    let r = naming_of c.args.self.now in
    let line = c.args.self.now.line in
    let k = c.args.number in
    let rest = code_of c.args.rest in
    let a = c.deref-in-Both.result.now in
    let b = c.deref.result.now in
    record {
      steps = c.in_ok-code-in-Both.ensures.steps ∙ ap (λ z. share_code r line a k +++ z) c.in_ok-second-in-Both.ensures.steps
          ∙ sym (append_assoc (share_code r line a k) (share_code r line b k) rest)
          ∙ (λ i. (share_code r line (c.deref-in-Both.ensures i) k +++ share_code r line (c.deref.ensures i) k) +++ rest)
          ∙ ap (λ s. share_code r line s k +++ rest) (sym c.in-Both.is);
    }
