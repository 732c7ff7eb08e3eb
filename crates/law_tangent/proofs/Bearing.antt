-- What a scene holds of the dual run stays so along ways, and through loops and conditions.
use Rattle.std.proofs.Common.{◌≡◌, ◌<◌, ◌≤◌, ℕ, Bool, true, false, List, refl, sym, ap, ◌∙◌, subst, arith, if◌then◌else◌}
use Rattle.std.specs.Prelude.{ℤ, pos, Result, Ok, Err, Option, Some, None, ◌==◌, ◌&&◌}
use Rattle.adj_tree.specs.Code.{Var, plain, shadow, name_eq, Term, Test, Act, Code, step}
use Rattle.adj_tree.proofs.Names.{name_same}
use Rattle.adj_word.specs.Pairing.{put}
use Rattle.adj_word.proofs.Residues.{wrap-zero}
use Rattle.def_meaning.specs.Trap.{Trap}
use Rattle.def_meaning.specs.Store.{Shape, size_of, Store, set}
use Rattle.def_meaning.specs.Value.{Setting, value, holds}
use Rattle.def_meaning.specs.Read.{reads_term, reads_test}
use Rattle.def_meaning.specs.Scene.{Scene, Stand, stand, then_do, with_value}
use Rattle.def_meaning.specs.Run.{Calls, act, run, with_turn, after_loop}
use Rattle.law_meaning.specs.Follows.{Runs, Follows}
use Rattle.def_meaning.proofs.SeenValues.{mapped}
use Rattle.law_meaning.proofs.Following.{follows_then, follows_counted, follows_trap}
use Rattle.def_names.specs.Numbers.{Vars}
use Rattle.def_sweep.specs.Facts.{In}
use Rattle.law_sweep.specs.Pairs.{Key, key_eq, SamePlain, on_words, on_duals}
use Rattle.def_names.proofs.Variables.{not_true}
use Rattle.law_sweep.specs.Passing.{plainly}
use Rattle.law_sweep.specs.Kernel.{AllText}
use Rattle.def_sweep.specs.Callees.{nothing}
use Rattle.law_sweep.specs.Laws.{just}
use Rattle.law_tangent.specs.Bears.{SceneBears}
use Rattle.law_tangent.specs.Laws.{WayFlows}
use Rattle.law_tangent.proofs.Values.{value_shown, holds_shown, value_again, holds_again}
use Rattle.law_tangent.proofs.AssignmentsFollow.{set_pair, assigned_bears}

-- on a way on which nothing is cut
module _ (sh : Var → Shape) (on : Vars) (f : ℕ → Vars) (p q : ℕ) (way : WayFlows f nothing p q) where
  pub passed_bears : (d : Scene (ℤ × ℤ)) (s : Scene ℤ) → SceneBears sh on (f p) d s → SceneBears sh on (f q) d s
  passed_bears d s b = record {
    values = b.values;
    tangents = b.tangents;
    is = b.is;
    bears = record { plains = b.bears.plains; tangents = b.bears.tangents; words = b.bears.words; others = λ k i n. b.bears.others k i (not_true (f p (plain k.0)) (λ t. let z : true ≡ false = sym (way.varies (plain k.0) (rw t refl)) ∙ n in cc)); outside = b.bears.outside };
    opened = b.opened;
    tape = b.tape;
  }

-- the end of a loop changes nothing but what was told of it
pub told_bears : (sh : Var → Shape) (on v : Vars) (line m : ℕ) (o o' : Option ℕ) (d : Scene (ℤ × ℤ)) (s : Scene ℤ) → SceneBears sh on v d s → SceneBears sh on v (after_loop line m o d) (after_loop line m o' s)
told_bears sh on v line m None None d s b = b
told_bears sh on v line m None (Some n) d s b = record { values = b.values; tangents = b.tangents; is = b.is; bears = b.bears; opened = b.opened; tape = b.tape }
told_bears sh on v line m (Some n) None d s b = record { values = b.values; tangents = b.tangents; is = b.is; bears = b.bears; opened = b.opened; tape = b.tape }
told_bears sh on v line m (Some n) (Some n') d s b = record { values = b.values; tangents = b.tangents; is = b.is; bears = b.bears; opened = b.opened; tape = b.tape }

-- ---- values

module _ (sh : Var → Shape) (level : ℕ) (on v : Vars) (d : Scene (ℤ × ℤ)) (s : Scene ℤ) (b : SceneBears sh on v d s) (s1 : Store ℤ) (same : SamePlain s.store s1) where
  plains : SamePlain b.values s1
  plains = record { at = λ x i. same.at x i ∙ b.bears.plains.at x i }

  pub value_borne : (e : Term) → AllText (λ z. reads_term z e) → mapped (λ (a : ℤ × ℤ). a.0) (value (on_duals (plainly sh) level) e d.store) ≡ value (on_words sh level) e s1
  value_borne e t = ap (λ z. mapped (λ (a : ℤ × ℤ). a.0) (value (on_duals (plainly sh) level) e z)) b.is ∙ value_shown sh level b.values b.tangents e t ∙ sym (value_again sh level b.values s1 plains e t)

  pub holds_borne : (c : Test) → AllText (λ z. reads_test z c) → holds (on_words sh level) c s1 ≡ holds (on_duals (plainly sh) level) c d.store
  holds_borne c t = holds_again sh level b.values s1 plains c t ∙ sym (holds_shown sh level b.values b.tangents c t) ∙ ap (λ z. holds (on_duals (plainly sh) level) c z) (sym b.is)

-- a value in the dual run and the same word in the run of the tangent: what is done next with both
pub follows_shown : {V V' A B : Type 0} (h : V → V') (w : ℕ) (R : A → B → Type 0) (r : Result V Trap) (r' : Result V' Trap) (line : ℕ) (x x' : Stand) (f : V → Runs A) (g : V' → Runs B) → mapped h r ≡ r' → (k : ℕ) → ((v : V) → Follows R w 0 (f v) (g (h v)) k) → Follows R w 0 (λ j. with_value r line x (λ v. f v j)) (λ j. with_value r' line x' (λ v. g v j)) k
follows_shown h w R (Ok v) r' line x x' f g e k d = subst (λ z. Follows R w 0 (f v) (λ j. with_value z line x' (λ u. g u j)) k) e (d v)
follows_shown h w R (Err t) r' line x x' f g e k d = subst (λ z. Follows R w 0 (λ j. with_value (Err t) line x (λ u. f u j)) (λ j. with_value z line x' (λ u. g u j)) k) e (follows_trap w 0 R t t line x x' k)

-- ---- a DO's variable

module _ (sh : Var → Shape) (level : ℕ) (on before after : Vars) (x : List ℕ) (one : size_of (sh (plain x)) ≡ 1) (way : (v : Var) → In v before → just (plain x) v ≡ false → In v after) (d : Scene (ℤ × ℤ)) (s : Scene ℤ) (b : SceneBears sh on before d s) (s1 : Store ℤ) (same : SamePlain s.store s1) (h : (o : List ℕ) (j : ℕ) → on (plain o) ≡ true → s1 (shadow o) j ≡ (if name_eq o x && (j == 0) then pos 0 else s.store (shadow o) j)) (z : ℤ) where
  old : (k : Key) → k.1 < size_of (sh (plain k.0)) → after (plain k.0) ≡ false → key_eq k (x, 0) ≡ false → before (plain k.0) ≡ false
  old k i n e = not_true (before (plain k.0)) (λ t. go (name_eq k.0 x) refl t)
    where
      go : (m : Bool) → name_eq k.0 x ≡ m → before (plain k.0) ≡ true → ⊥
      go false m t = let r : true ≡ false = sym (way (plain k.0) t m) ∙ n in cc
      go true m t =
          let size : size_of (sh (plain k.0)) ≡ 1 = ap (λ o. size_of (sh (plain o))) (name_same k.0 x m) ∙ one in
          let first : k.1 ≡ 0 = omega (arith, i, size) in
          let there : key_eq k (x, 0) ≡ true = rw (m, first) refl in
          let r : true ≡ false = sym there ∙ e in cc

  -- it is set to a word, and its tangent is 0
  pub turn_bears : SceneBears sh on after (with_turn (on_duals (plainly sh) level) (plain x) z d) (with_turn (on_words sh level) (plain x) z (record s { store = s1 }))
  turn_bears = record {
    values = set b.values (plain x) 0 z;
    tangents = put key_eq b.tangents (x, 0) (pos 0);
    is = (let p : ℤ × ℤ = (z, pos 0) in ap (λ g. set g (plain x) 0 p) b.is) ∙ set_pair b.values b.tangents x 0 z (pos 0);
    bears = assigned_bears sh on before after b.values b.tangents s.store s1 b.bears x 0 (let e = one in omega (arith, e)) z (pos 0) same h wrap-zero (λ n. refl) old;
    opened = b.opened;
    tape = b.tape;
  }

-- ---- a statement with nothing before it

module _ {C D : Type 0} (qd : Calls C) (q : Calls D) (nd : Setting C) (nw : Setting D) (w : ℕ) (some : 1 ≤ w) (R Q : Scene C → Scene D → Type 0) (line : ℕ) (a a' : Act) (c c' : Code) (d : Scene C) (s : Scene D) where
  pub plain_follows : ((k : ℕ) → Follows R w 0 (act qd nd a line d) (act q nw a' line s) k) → ((d1 : Scene C) (s1 : Scene D) (k : ℕ) → R d1 s1 → Follows Q w 0 (run qd nd c d1) (run q nw c' s1) k) → (k : ℕ) → Follows Q w 0 (run qd nd (step line a c) d) (run q nw (step line a' c') s) k
  plain_follows acts rest k =
      follows_counted w 0 Q (stand nd d) (stand nw s) (λ j. then_do (act qd nd a line d j) (run qd nd c)) (λ j. then_do (act q nw a' line s j) (run q nw c')) k some
      (λ j e. follows_then w 0 0 R Q (act qd nd a line d) (act q nw a' line s) (run qd nd c) (run q nw c') j (acts j) (λ d1 s1 i le r. rest d1 s1 i r))
