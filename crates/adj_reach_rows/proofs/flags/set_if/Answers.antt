-- One flag is set, and no other changes.
use Rattle.std.proofs.Common.{◌≡◌, ◌<◌, ◌⊎◌, inl, inr, ℕ, false, refl, sym, ap, ◌∙◌, eq-eqb, arith}
use Rattle.std.specs.Prelude.{◌==◌, ◌||◌}
use Rattle.std.proofs.lemmas.Bool.{ne_eqb}
use Rattle.adj_reach.specs.Edges.{flag}
use Rattle.adj_reach_rows.proofs.flags.set_if.Goals as goal

-- a lesser or a greater number is another
other : (x n : ℕ) → (x < n) ⊎ (n < x) → (x == n) ≡ false
other x n (inl l) = ne_eqb x n (λ e. omega (arith, l, e))
other x n (inr l) = ne_eqb x n (λ e. omega (arith, l, e))

pub returns-then-is_set-clause-set : goal.returns-then-is_set-clause-set
returns-then-is_set-clause-set c = c.set.ensures.set c.args.place ∙ ap (λ b. b || flag c.args.flags.now c.args.place) (eq-eqb c.args.place c.args.place refl) ∙ sym (ap (λ b. b || flag c.args.flags.now c.args.place) c.if-is_set.true)

pub returns-then-is_set-clause-others : goal.returns-then-is_set-clause-others
returns-then-is_set-clause-others c = λ x h. c.set.ensures.set x ∙ ap (λ b. b || flag c.args.flags.now x) (other x c.args.place h)
