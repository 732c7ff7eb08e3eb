-- The marks by which the two units of a split call are written: each statement is kept, and each variable saved; and the facts about them.
use Rattle.std.specs.Prelude.{◌≡◌, ℕ, List, map, true, not, ◌||◌}
use Rattle.adj_tree.specs.Code.{plain, Act, assign, choose, loop, during, call, runtime, Code, stop, step}
use Rattle.def_names.specs.Numbers.{Vars, everything}
use Rattle.def_sweep.specs.Marks.{Marks}
use Rattle.def_sweep.specs.Facts.{In, Facts}
use Rattle.def_meaning.specs.Apart.{has_name}
use Rattle.def_meaning.specs.LeastSet.{Dummies}
use Rattle.def_sweep.specs.Callees.{CalleeFacts}

abbrev pub split_marks : Marks → Marks
split_marks m = record { kept = λ i. true; adjointed = m.adjointed; split = m.split; saved = λ i. everything; varied = m.varied; useful = m.useful; shadowed = m.shadowed }

-- what the forward unit has as the program has it, at each point: its locals, the dummies that it reads, and those of a set
abbrev pub split_needed : List (List ℕ) → Vars → Vars → Vars
split_needed ds read also (plain x) = not (has_name x ds) || (read (plain x) || also (plain x))
split_needed ds read also v = true

-- what the backward unit has as the forward unit had it, at each point: its locals, and the dummies that it reads or writes
abbrev pub split_held : List (List ℕ) → Vars → Vars → Vars
split_held ds written read (plain x) = not (has_name x ds) || (written (plain x) || read (plain x))
split_held ds written read v = true

-- the facts by which both sweeps are right, where the forward unit agrees with the program on the dummies of a set besides
abbrev pub split_facts : CalleeFacts → Vars → Facts
split_facts g also = record { marks = split_marks g.facts.marks; needed = λ p. split_needed g.callee.dummies g.read also; held = λ p. split_held g.callee.dummies g.callee.written g.read }

-- the unit with these facts
abbrev pub split_own : CalleeFacts → Vars → CalleeFacts
split_own g also = record {
  callee = record g.callee { members = split_needed g.callee.dummies g.read also };
  facts = split_facts g also;
  entry = g.entry;
  end = g.end;
  read = g.read;
  plain_unit = g.plain_unit;
}

-- the units that the list calls, of which this is known: what a call reads of them, and that their adjoints need nothing else
abbrev mutual
  pub CallsRead' : (List ℕ → CalleeFacts) → Dummies → Act → Type 0
  CallsRead' g looked (assign x subs e) = Unit {0}
  CallsRead' g looked (choose c a b) = CallsRead g looked a × CallsRead g looked b
  CallsRead' g looked (loop x a b c body m) = CallsRead g looked body
  CallsRead' g looked (during c body) = CallsRead g looked body
  CallsRead' g looked (call name args) =
      (looked name ≡ map (λ d. (g name).read (plain d)) (g name).callee.dummies) × ((d : List ℕ) → In (plain d) (g name).callee.members → In (plain d) (g name).read)
  CallsRead' g looked (runtime r) = Unit {0}

  pub CallsRead : (List ℕ → CalleeFacts) → Dummies → Code → Type 0
  CallsRead g looked stop = Unit {0}
  CallsRead g looked (step line a rest) = CallsRead' g looked a × CallsRead g looked rest
