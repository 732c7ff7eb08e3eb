-- The flags of a variable's place.
use Rattle.std.proofs.Common.{sym, ap, ◌∙◌}
use Rattle.std.specs.Prelude.{◌&&◌}
use Rattle.adj_tree.specs.Code.{plain}
use Rattle.adj_flow.specs.Rows.{row_of}
use Rattle.adj_flow.proofs.Naming.{placed}
use Rattle.adj_activity.specs.Starts.{is_useful_in}
use Rattle.adj_activity.proofs.Seeing.{seen_told, seen_useful, unseen}
use Rattle.adj_activity.proofs.starts.is_active.Goals as goal

pub returns-in-None : goal.returns-in-None
returns-in-None c =
    let r = row_of c.args.part.now in
    let v = plain c.args.name.now in
    let e = placed 0 c.args.part.now.variables.now c.args.name.now ∙ sym c.place.ensures.place ∙ c.in-None.is in
    record { active = sym (ap (λ b. b && is_useful_in c.args.sets.useful c.args.width r v) (unseen r v c.args.width c.args.sets.varied.now e)) }

pub returns-then-flag_at : goal.returns-then-flag_at
returns-then-flag_at c =
    let r = row_of c.args.part.now in
    let v = plain c.args.name.now in
    let j = c.in-Some.place in
    let e = placed 0 c.args.part.now.variables.now c.args.name.now ∙ sym c.place.ensures.place ∙ c.in-Some.is in
    let first = sym c.if-flag_at.true ∙ c.flag_at.ensures ∙ seen_told r v c.args.width j e c.args.sets.varied.now c.args.varied.now c.requires.varied in
    record {
      active = c.flag_at-then-flag_at.ensures ∙ seen_useful r v c.args.width j e c.args.sets.useful c.args.useful.now c.requires.useful
          ∙ ap (λ b. b && is_useful_in c.args.sets.useful c.args.width r v) first;
    }

pub returns-else-flag_at : goal.returns-else-flag_at
returns-else-flag_at c =
    let r = row_of c.args.part.now in
    let v = plain c.args.name.now in
    let j = c.in-Some.place in
    let e = placed 0 c.args.part.now.variables.now c.args.name.now ∙ sym c.place.ensures.place ∙ c.in-Some.is in
    let first = sym c.if-flag_at.false ∙ c.flag_at.ensures ∙ seen_told r v c.args.width j e c.args.sets.varied.now c.args.varied.now c.requires.varied in
    record { active = c.if-flag_at.false ∙ ap (λ b. b && is_useful_in c.args.sets.useful c.args.width r v) first }
