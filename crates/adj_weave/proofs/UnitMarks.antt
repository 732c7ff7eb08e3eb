-- The marks of a unit by its number are those of the program there.
use Rattle.std.proofs.Common.{◌≡◌, ℕ, suc, true, Some, List, [], ◌∷◌, map, refl}
use Rattle.adj_tree.specs.Code.{Act, assign, choose, loop, during, call, runtime, Code, stop, step, Procedure}
use Rattle.def_meaning.specs.Written.{find_unit}
use Rattle.def_sweep.specs.Marks.{Marks, full}
use Rattle.def_names.specs.Numbers.{next, behind}
use Rattle.def_meaning.specs.Apart.{AreApart}
use Rattle.def_sweep.specs.Declared.{unit_name, unit_at}
use Rattle.def_sweep.specs.Marking.{marks_in, first_statement, place_from}
use Rattle.def_sweep.specs.SplitMarks.{split_marks}
use Rattle.def_sweep.specs.Program.{takes_part}
use Rattle.adj_weave.specs.declared.marks.Marked.{Marked}
use Rattle.adj_weave.specs.declared.marks.Marked.TheVariants as by
use Rattle.adj_weave.specs.Alike.{AreSameAt, AreSameIn, AreSameOver, AreAlike}
use Rattle.adj_weave.specs.Marked.{program_marks, unit_marks, IsOver}
use Rattle.adj_weave.proofs.Flagged.{unit_alike}

-- marks say the same as themselves
module _ (m : Marks) where
  mutual
    self_in : (i : ℕ) (a : Act) → AreSameIn m m i a
    self_in i (assign x subs e) = tt
    self_in i (choose c a b) = (self_over (suc i) a, self_over (behind (suc i) a) b)
    self_in i (loop x a b c body k) = self_over (suc i) body
    self_in i (during c body) = self_over (suc i) body
    self_in i (call name args) = tt
    self_in i (runtime r) = tt

    self_over : (i : ℕ) (c : Code) → AreSameOver m m i c
    self_over i stop = tt
    self_over i (step line a rest) = (record { kept = refl; adjointed = refl; split = refl; saved = refl; varied = refl }, self_in i a, self_over (next i a) rest)

pub marks_alike : (m : Marked) (ps : List Procedure) (h : ℕ) → IsOver m ps h → AreApart (map unit_name ps) → (head : Procedure) → unit_at h ps ≡ head ∷ [] → (k : ℕ) (u : Procedure) → place_from 0 ps u.name ≡ k → find_unit ps u.name ≡ Some u → takes_part (program_marks m) ps head u.name ≡ true →
    AreAlike (unit_marks m k) (marks_in (program_marks m) u.name) (first_statement ps u.name) u.body
marks_alike by.Full ps h over apart head at k u place found has = record { shadowed = refl; over = self_over full (first_statement ps u.name) u.body }
marks_alike (by.Found g) ps h over apart head at k u place found has = unit_alike ps h g.flow.now g.marks.now over apart head at k u place found has

-- so do the marks by which forward and backward units are written
module _ (m n : Marks) where
  pair_at : (i : ℕ) → AreSameAt m n i → AreSameAt (split_marks m) (split_marks n) i
  pair_at i h = record { kept = refl; adjointed = h.adjointed; split = h.split; saved = refl; varied = h.varied }

  mutual
    pair_in : (i : ℕ) (a : Act) → AreSameIn m n i a → AreSameIn (split_marks m) (split_marks n) i a
    pair_in i (assign x subs e) h = tt
    pair_in i (choose c a b) h = (pair_over (suc i) a h.0, pair_over (behind (suc i) a) b h.1)
    pair_in i (loop x a b c body k) h = pair_over (suc i) body h
    pair_in i (during c body) h = pair_over (suc i) body h
    pair_in i (call name args) h = tt
    pair_in i (runtime r) h = tt

    pair_over : (i : ℕ) (c : Code) → AreSameOver m n i c → AreSameOver (split_marks m) (split_marks n) i c
    pair_over i stop h = tt
    pair_over i (step line a rest) h = (pair_at i h.0, pair_in i a h.1, pair_over (next i a) rest h.2)

  pub pair_alike : (i : ℕ) (c : Code) → AreAlike m n i c → AreAlike (split_marks m) (split_marks n) i c
  pair_alike i c h = record { shadowed = h.shadowed; over = pair_over i c h.over }
