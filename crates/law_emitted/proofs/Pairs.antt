-- What units with a forward and a backward unit need besides; and which units take part.
use Rattle.std.proofs.Common.{◌≡◌, ℕ, suc, Bool, true, false, List, [], ◌∷◌, refl, sym, ap, ◌∙◌, subst}
use Rattle.std.specs.Prelude.{◌&&◌, ◌||◌, not, Some}
use Rattle.std.specs.List.{list_any}
use Rattle.adj_tree.specs.Code.{plain, shadow, helper, name_eq, Term, lit, var, elem, neg, bin, pow, power_of, abs, Terms, none, more, Act, assign, choose, loop, during, call, runtime, Code, stop, step, Procedure}
use Rattle.adj_tree.proofs.Names.{name_same}
use Rattle.def_meaning.specs.LeastSet.{Dummies}
use Rattle.def_meaning.specs.Written.{find_unit, is_place_of, is_handed_back, act_writes, writes, handed_back, is_written}
use Rattle.def_meaning.specs.Read.{is_extent}
use Rattle.def_meaning.specs.Units.{declared}
use Rattle.def_names.specs.Statements.{At, inner, statements}
use Rattle.def_names.specs.Standing.{in_mark, in_actual, in_actuals, in_act}
use Rattle.def_names.specs.Variables.{variables}
use Rattle.def_names.specs.Fault.{fault, faults_if}
use Rattle.def_names.specs.WriteFaults.{may_write, written_extents}
use Rattle.def_kernel.specs.Form.{IsKernelAct, IsKernelCode}
use Rattle.def_names.specs.Numbers.{next, behind}
use Rattle.def_meaning.specs.Apart.{has_name}
use Rattle.def_sweep.specs.Naming.{begins_outside, AreInside}
use Rattle.def_names.proofs.Variables.{and_true, or_left, or_right, not_true}
use Rattle.def_sweep.specs.Program.{calls_act, calls_in, calls_some, takes_part, answers, has_adjoint, has_pair}
use Rattle.def_sweep.specs.Marking.{ProgramMarks}
use Rattle.law_sweep.proofs.Variables.{undeclared}
use Rattle.law_sweep.proofs.Rounds.{either, reached_last}
use Rattle.law_sweep.proofs.UnitLists.{found_there}
use Rattle.law_emitted.proofs.Lists.{Each, each_front, each_behind, each_more, none_each}
use Rattle.def_names.proofs.Faultless.{none_if}
use Rattle.law_emitted.proofs.Texts.{Known, known_variable}
use Rattle.law_emitted.proofs.Statements.{both_false, Spared, spares}
use Rattle.law_emitted.proofs.Callings.{any_none, roots_reached}

-- ---- what is written stands in a statement

place_known : (vars : List (List ℕ)) (x : List ℕ) (e : Term) → Each (Known vars) (in_actual e) → is_place_of (plain x) e ≡ true → has_name x vars ≡ true
place_known vars x (var (plain y)) k h = known_variable vars x y k.0 h
place_known vars x (var (shadow y)) k h = absurd cc
place_known vars x (var (helper r j)) k h = absurd cc
place_known vars x (elem (plain y) subs) k h = known_variable vars x y k.0 h
place_known vars x (elem (shadow y) subs) k h = absurd cc
place_known vars x (elem (helper r j) subs) k h = absurd cc
place_known vars x (lit z) k h = absurd cc
place_known vars x (neg a) k h = absurd cc
place_known vars x (bin op a b) k h = absurd cc
place_known vars x (pow a j) k h = absurd cc
place_known vars x (power_of a b) k h = absurd cc
place_known vars x (abs a) k h = absurd cc

handed_known : (vars : List (List ℕ)) (x : List ℕ) (ws : List Bool) (args : Terms) → Each (Known vars) (in_actuals args) → is_handed_back (plain x) ws args ≡ true → has_name x vars ≡ true
handed_known vars x [] args k h = absurd cc
handed_known vars x (w ∷ ws) none k h = absurd cc
handed_known vars x (w ∷ ws) (more e es) k h =
    either (w && is_place_of (plain x) e) (is_handed_back (plain x) ws es) (has_name x vars) h
    (λ r. place_known vars x e (each_front (Known vars) (in_actual e) (in_actuals es) k) (and_true w (is_place_of (plain x) e) r).1)
    (handed_known vars x ws es (each_behind (Known vars) (in_actual e) (in_actuals es) k))

abbrev KnownAt : List (List ℕ) → At Act → Type 0
KnownAt vars s = Each (Known vars) (in_act s.1)

module _ (vars : List (List ℕ)) (handed : Dummies) (x : List ℕ) where
  mutual
    wrote' : (a : Act) → IsKernelAct a → Each (Known vars) (in_act a) → Each (KnownAt vars) (inner a) → act_writes handed (plain x) a ≡ true → has_name x vars ≡ true
    wrote' (assign (plain y) subs e) q k l h = known_variable vars x y k.0 h
    wrote' (assign (shadow y) subs e) q k l h = absurd cc
    wrote' (assign (helper r j) subs e) q k l h = absurd cc
    wrote' (choose c a b) q k l h =
        either (writes handed (plain x) a) (writes handed (plain x) b) (has_name x vars) h
        (wrote a q.0 (each_front (KnownAt vars) (statements a) (statements b) l)) (wrote b q.1 (each_behind (KnownAt vars) (statements a) (statements b) l))
    wrote' (loop (plain y) first last by body m) q k l h =
        either (name_eq x y) (writes handed (plain x) body) (has_name x vars) h
        (known_variable vars x y (each_behind (Known vars) (in_mark m) _ k).0) (wrote body q.1 l)
    wrote' (loop (shadow y) first last by body m) q k l h = wrote body q.1 l h
    wrote' (loop (helper r j) first last by body m) q k l h = wrote body q.1 l h
    wrote' (during c body) q k l h = wrote body q l h
    wrote' (call name args) q k l h = handed_known vars x (handed name) args k h
    wrote' (runtime r) q k l h = absurd q

    pub wrote : (c : Code) → IsKernelCode c → Each (KnownAt vars) (statements c) → writes handed (plain x) c ≡ true → has_name x vars ≡ true
    wrote stop q l h = absurd cc
    wrote (step line a rest) q l h =
        either (act_writes handed (plain x) a) (writes handed (plain x) rest) (has_name x vars) h
        (wrote' a q.0 l.0 (each_front (KnownAt vars) (inner a) (statements rest) l.1)) (wrote rest q.1 (each_behind (KnownAt vars) (inner a) (statements rest) l.1))

-- ---- extents aren't written

at_name : (P : List ℕ → Type 0) (ds : List (List ℕ)) → Each P ds → (d : List ℕ) → has_name d ds ≡ true → P d
at_name P [] e d h = absurd cc
at_name P (x ∷ ds) e d h = go (name_eq d x) refl h (at_name P ds e.1 d)
  where
    go : (b : Bool) → name_eq d x ≡ b → (b || has_name d ds) ≡ true → (has_name d ds ≡ true → P d) → P d
    go true q h ih = subst P (sym (name_same d x q)) e.0
    go false q h ih = ih h

second_false : (b c : Bool) → b ≡ true → (b && c) ≡ false → c ≡ false
second_false true c e f = f
second_false false c e f = absurd cc

-- whether a statement may write an extent
abbrev writes_extent : List Procedure → Procedure → At Act → Bool
writes_extent ps u s = list_any (λ e. is_extent e u.declarations && may_write (handed_back ps) (plain e) s.1) u.dummies

pub extents_spared : (ps : List Procedure) (u : Procedure) → written_extents (handed_back ps) u ≡ [] → (d : List ℕ) → has_name d u.dummies ≡ true → is_extent d u.declarations ≡ true → is_written ps u d ≡ false
extents_spared ps u h d among is =
    spares (handed_back ps) (plain d) u.body
    (each_more (λ s. faults_if (writes_extent ps u s) (fault 13 s.0) ≡ []) (Spared (handed_back ps) (plain d)) (λ s e. spared s (none_if (writes_extent ps u s) (fault 13 s.0) e)) (statements u.body)
    (none_each (λ s. faults_if (writes_extent ps u s) (fault 13 s.0)) (statements u.body) h))
  where
    spared : (s : At Act) → writes_extent ps u s ≡ false → Spared (handed_back ps) (plain d) s
    spared s e =
        second_false (is_extent d u.declarations) (may_write (handed_back ps) (plain d) s.1) is
        (at_name (λ e. (is_extent e u.declarations && may_write (handed_back ps) (plain e) s.1) ≡ false) u.dummies (any_none (λ e. is_extent e u.declarations && may_write (handed_back ps) (plain e) s.1) u.dummies e) d among)

-- ---- no variable has a name outside all texts

none_outside : (x : List ℕ) (vars : List (List ℕ)) → AreInside vars → has_name (0 ∷ x) vars ≡ false
none_outside x [] a = refl
none_outside x (y ∷ ys) a =
    both_false (name_eq (0 ∷ x) y) (has_name (0 ∷ x) ys)
    (not_true (name_eq (0 ∷ x) y) (λ e. let p : true ≡ false = ap begins_outside (name_same (0 ∷ x) y e) ∙ a.0 in cc)) (none_outside x ys a.1)

pub none_declared : (u : Procedure) → AreInside (variables u) → (x : List ℕ) → declared u.declarations (plain (0 ∷ x)) ≡ []
none_declared u a x = undeclared u (0 ∷ x) (none_outside x (variables u) a)

-- ---- calls in more statements

mutual
  wider' : (f g : ℕ → Bool) → ((i : ℕ) → f i ≡ true → g i ≡ true) → (n : List ℕ) (i : ℕ) (a : Act) → calls_act f n i a ≡ true → calls_act g n i a ≡ true
  wider' f g w n i (assign x subs e) h = absurd cc
  wider' f g w n i (choose c a b) h =
      either (calls_in f n (suc i) a) (calls_in f n (behind (suc i) a) b) (calls_act g n i (choose c a b)) h
      (λ e. or_left (calls_in g n (suc i) a) (calls_in g n (behind (suc i) a) b) (wider f g w n (suc i) a e)) (λ e. or_right (calls_in g n (suc i) a) (calls_in g n (behind (suc i) a) b) (wider f g w n (behind (suc i) a) b e))
  wider' f g w n i (loop x first last by body m) h = wider f g w n (suc i) body h
  wider' f g w n i (during c body) h = wider f g w n (suc i) body h
  wider' f g w n i (call other args) h = let p = and_true (f i) (name_eq n other) h in rw (w i p.0, p.1) refl
  wider' f g w n i (runtime r) h = absurd cc

  wider : (f g : ℕ → Bool) → ((i : ℕ) → f i ≡ true → g i ≡ true) → (n : List ℕ) (i : ℕ) (c : Code) → calls_in f n i c ≡ true → calls_in g n i c ≡ true
  wider f g w n i stop h = absurd cc
  wider f g w n i (step line a rest) h =
      either (calls_act f n i a) (calls_in f n (next i a) rest) (calls_in g n i (step line a rest)) h
      (λ e. or_left (calls_act g n i a) (calls_in g n (next i a) rest) (wider' f g w n i a e)) (λ e. or_right (calls_act g n i a) (calls_in g n (next i a) rest) (wider f g w n (next i a) rest e))

pub wider_some : (among : List ℕ → Bool) (f g : ℕ → Bool) → ((i : ℕ) → f i ≡ true → g i ≡ true) → (n : List ℕ) (i : ℕ) (us : List Procedure) → calls_some among f n i us ≡ true → calls_some among g n i us ≡ true
wider_some among f g w n i [] h = absurd cc
wider_some among f g w n i (u ∷ us) h =
    either (among u.name && calls_in f n i u.body) (calls_some among f n (behind i u.body) us) (calls_some among g n i (u ∷ us)) h
    (λ e. let p = and_true (among u.name) (calls_in f n i u.body) e in or_left (among u.name && calls_in g n i u.body) (calls_some among g n (behind i u.body) us) (rw (p.0, wider f g w n i u.body p.1) refl))
    (λ e. or_right (among u.name && calls_in g n i u.body) (calls_some among g n (behind i u.body) us) (wider_some among f g w n (behind i u.body) us e))

-- ---- which units take part

module _ (m : ProgramMarks) (ps : List Procedure) (head : Procedure) (name : List ℕ) (u : Procedure) (f : find_unit ps name ≡ Some u) where
  -- what a call of a unit that takes part names, in an adjointed statement
  named_part : (s : ℕ → Bool) → ((i : ℕ) → s i ≡ true → m.adjointed i ≡ true) → calls_some (takes_part m ps head) s name 0 ps ≡ true → takes_part m ps head name ≡ true
  named_part s w h =
      reached_last (name_eq head.name) m.adjointed ps name (found_there ps name u f).0
      (or_right (name_eq head.name name) (calls_some (takes_part m ps head) m.adjointed name 0 ps) (wider_some (takes_part m ps head) s m.adjointed w name 0 ps h))

  pub adjoint_part : has_adjoint m ps head name ≡ true → takes_part m ps head name ≡ true
  adjoint_part h =
      either (name_eq head.name name) (answers m ps head name) (takes_part m ps head name) h (roots_reached (name_eq head.name) m.adjointed ps name u f name)
      (named_part (λ i. m.adjointed i && not (m.split i)) (λ i e. (and_true (m.adjointed i) (not (m.split i)) e).0))

  pub pair_part : has_pair m ps head name ≡ true → takes_part m ps head name ≡ true
  pair_part h = named_part (λ i. m.adjointed i && m.split i) (λ i e. (and_true (m.adjointed i) (m.split i) e).0) h
