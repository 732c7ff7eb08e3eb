-- The answer to how the search for a derivative ends.
use Rattle.std.proofs.Common.{◌≡◌, ℕ, List, [], ◌∷◌, length, map, refl, sym, ap, subst, ◌∙◌, Some}
use Rattle.std.specs.Prelude.{ℤ, Bool, Ok, Err}
use Rattle.std.proofs.lemmas.List.{length-map}
use Rattle.adj_tree.specs.declared.value.Trap.{Trap as CodeTrap}
use Rattle.adj_interp_frame.specs.Framed.{trap_of}
use Rattle.adj_interp.specs.declared.stop.Stop.{Stop}
use Rattle.adj_interp.specs.declared.stop.Stop.TheVariants as stop
use Rattle.def_meaning.specs.Scene.{Outcome, Done, Trapped, More, Full}
use Rattle.def_meaning.specs.Units.{Output}
use Rattle.def_jacobian.specs.Columns.{Columns}
use Rattle.def_jacobian.specs.Groups.{count_of, AreLeastGroups}
use Rattle.def_jacobian.specs.Patterns.{Task, Place, pattern_run, dense}
use Rattle.def_jacobian.specs.Recovered.{Row, places, rows_at, columns_in, entries}
use Rattle.law_jacobian.proofs.Grouping.{shares_none}
use Rattle.law_jacobian.proofs.Runs.{outside_is_zero}
use Rattle.adj_jacobian_groups.specs.View.{place_of, rows_of}
use Rattle.adj_jacobian.specs.Products.{entry_of}
use Rattle.adj_jacobian.specs.Derives.{DerivesSo, IsDerivative}
use Rattle.adj_jacobian.specs.declared.entry.Derivative.{Derivative}
use Rattle.adj_tool_answer.specs.Answer.{Answer}
use Rattle.adj_tool_answer.specs.EndingViews.{stop_answer}
use Rattle.adj_tool_answer.specs.Endings.{Asked, trapped, used_up, tape_full}
use Rattle.adj_tool_jacobian.specs.Jacobian.{AnswersEnd, TellsDerivative, pattern_of}
use Rattle.adj_tool_jacobian.specs.Written.{at_of, derivative_text}

-- the cells of the rows at some cells are these
cells_of_rows : (out : Output (ℤ × Columns)) (n : ℕ) (cells : List Place) → map at_of (rows_at out n cells) ≡ cells
cells_of_rows out n [] = refl
cells_of_rows out n (a ∷ others) = ap (λ bs. a ∷ bs) (cells_of_rows out n others)

-- what is written of a derivative
abbrev pub text_of : List (List ℕ) → Derivative → List ℕ
text_of names d = derivative_text names (map at_of (rows_of d.sparsity.rows)) (map place_of d.sparsity.cols) (rows_of d.sparsity.rows) d.grouping.count (map entry_of d.jacobian.entries)

module _ (p : Task) (outvars : List Bool) (out : Output (ℤ × Columns)) (used : ℕ) (done : pattern_run p ≡ Done out used) (d : Derivative) (is : IsDerivative p outvars out d) where
  abbrev cells : List Place
  cells = places outvars p.input 0

  abbrev columns : List Place
  columns = places p.vars p.input 0

  abbrev pattern : List Row
  pattern = pattern_of p outvars out

  width : length d.sparsity.cols ≡ length columns
  width = sym (length-map d.sparsity.cols place_of) ∙ ap length is.columns

  least : AreLeastGroups (columns_in pattern) (length columns) d.grouping.group
  least = subst (λ n. AreLeastGroups (columns_in pattern) n d.grouping.group) width (subst (λ rs. AreLeastGroups (columns_in rs) (length d.sparsity.cols) d.grouping.group) is.rows is.groups)

  written : text_of p.unit.dummies d ≡ derivative_text p.unit.dummies cells columns pattern (count_of d.grouping.group) (entries (dense p) pattern 0)
  written =
      (λ i. derivative_text p.unit.dummies (map at_of (is.rows i)) (is.columns i) (is.rows i) (is.count i) (is.entries i))
      ∙ (λ i. derivative_text p.unit.dummies (cells_of_rows out (length columns) cells i) columns pattern (count_of d.grouping.group) (entries (dense p) (is.rows i) 0))

  pub when_done : (a : Answer) → a ≡ record { status = 0; text = text_of p.unit.dummies d } → TellsDerivative p outvars out a
  when_done a e = record {
    groups = d.grouping.group;
    least = least;
    apart = λ g c e f h. shares_none (columns_in pattern) (length columns) d.grouping.group least g c e f h;
    outside = λ b j h. outside_is_zero p out used done b j h;
    is = e ∙ ap (λ t. record { status = 0; text = t }) written;
  }

-- the answer to a derivative that was found
pub derived : (r : Asked) (p : Task) (outvars : List Bool) (o : Outcome (Output (ℤ × Columns))) → pattern_run p ≡ o → (d : Derivative) → DerivesSo p outvars o (Ok d) → (a : Answer) → a ≡ record { status = 0; text = text_of p.unit.dummies d } → AnswersEnd r p outvars o a
derived r p outvars (Done out used) is d h a e = when_done p outvars out used is d h a e
derived r p outvars (Trapped t line w) is d h a e = absurd h
derived r p outvars (More w) is d h a e = absurd h
derived r p outvars (Full w) is d h a e = absurd h

module _ (r : Asked) (p : Task) (outvars : List Bool) where
  when_trapped : (o : Outcome (Output (ℤ × Columns))) (c : CodeTrap) (l : ℕ) → DerivesSo p outvars o (Err (stop.Trap c l)) → (a : Answer) → a ≡ trapped (trap_of c) l → AnswersEnd r p outvars o a
  when_trapped (Done out used) c l h a e = absurd h
  when_trapped (Trapped t line w) c l h a e = e ∙ (λ i. trapped (h.0 i) (h.1 i))
  when_trapped (More w) c l h a e = absurd h
  when_trapped (Full w) c l h a e = absurd h

  when_used_up : (o : Outcome (Output (ℤ × Columns))) → DerivesSo p outvars o (Err stop.Budget) → (a : Answer) → a ≡ used_up r.budget → AnswersEnd r p outvars o a
  when_used_up (Done out used) h a e = absurd h
  when_used_up (Trapped t line w) h a e = absurd h
  when_used_up (More w) h a e = e
  when_used_up (Full w) h a e = absurd h

  when_full : (o : Outcome (Output (ℤ × Columns))) → DerivesSo p outvars o (Err stop.TapeFull) → (a : Answer) → a ≡ tape_full r.room → AnswersEnd r p outvars o a
  when_full (Done out used) h a e = absurd h
  when_full (Trapped t line w) h a e = absurd h
  when_full (More w) h a e = absurd h
  when_full (Full w) h a e = e

  -- and to a run that stopped
  pub stopped : (o : Outcome (Output (ℤ × Columns))) (e : Stop) → DerivesSo p outvars o (Err e) → (a : Answer) → Some a ≡ stop_answer r e → AnswersEnd r p outvars o a
  stopped o (stop.Trap c l) h a is = let same : a ≡ trapped (trap_of c) l = cc in when_trapped o c l h a same
  stopped o stop.Budget h a is = let same : a ≡ used_up r.budget = cc in when_used_up o h a same
  stopped o stop.TapeFull h a is = let same : a ≡ tape_full r.room = cc in when_full o h a same
  stopped o stop.Memory h a is = absurd cc
