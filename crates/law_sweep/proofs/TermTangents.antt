-- What the tangent of a term depends on: the variables at its differentiable occurrences.
use Rattle.std.proofs.Common.{◌≡◌, ◌<◌, ℕ, zero, suc, Bool, true, false, List, refl, sym, ap, ◌∙◌, if◌then◌else◌}
use Rattle.std.specs.Prelude.{ℤ, pos, ◌==◌, ◌||◌, ◌&&◌}
use Rattle.adj_tree.specs.Code.{Var, plain, shadow, helper, plus, minus, times, quot, modulo, greater, lesser, Term, lit, var, elem, neg, bin, pow, power_of, abs, Terms}
use Rattle.adj_tree.proofs.Names.{nat_refl, name_refl}
use Rattle.adj_word.specs.Word.{add, sub, mul, negated, at_least_zero}
use Rattle.adj_word.specs.Pairing.{put}
use Rattle.adj_word.proofs.Residues.{zero-mul, mul-zero, negated-zero, wrap-zero}
use Rattle.def_meaning.specs.Numbers.{power_tangent}
use Rattle.def_meaning.specs.Store.{Shape, size_of, Store, cell_of}
use Rattle.def_meaning.proofs.Cells.{size_positive, cell_below}
use Rattle.def_names.specs.Numbers.{Vars}
use Rattle.def_sweep.specs.Marks.{Marks, active_at}
use Rattle.def_names.specs.Numbering.{point_before, point_after}
use Rattle.def_sweep.specs.Facts.{In, whole, Facts}
use Rattle.law_sweep.specs.Pairs.{Key, key_eq, Words}
use Rattle.law_sweep.specs.Scenes.{masked}
use Rattle.def_names.proofs.Variables.{or_left, or_right, or_false}
use Rattle.law_sweep.proofs.KeyVariables.{key_same}
use Rattle.law_sweep.proofs.Values.{power_tangent-zero}
use Rattle.def_sweep.specs.Occurrences.{is_active_where, occurring}
use Rattle.law_sweep.specs.Kernel.{AreTreated}
use Rattle.law_sweep.specs.Laws.{AssignmentLaws}
use Rattle.law_sweep.proofs.Sweeps.{IsCell, Matches}
use Rattle.law_sweep.proofs.Transposed.{still_support, still_shadowed, still_equal}
use Rattle.law_sweep.proofs.Terms.{num, nums, tan, cell_or, HasCell, IsDefined}

-- tangents that are the same in the cells of a set
abbrev pub SameAt : (Var → Shape) → Vars → Words → Words → Type 0
SameAt sh a y z = (k : Key) → IsCell sh k → In (plain k.0) a → y k ≡ z k

pub cell_in_below : (sh : Shape) (is : List ℤ) → HasCell sh is → cell_or (cell_of sh is) < size_of sh
cell_in_below sh is h = cell_below sh is (cell_or (cell_of sh is)) h

module _ (sh : Var → Shape) (u : Store ℤ) (y z : Words) where
  pub tan_equal : (e : Term) → AreTreated e → IsDefined sh e u → SameAt sh (occurring e) y z → tan sh e u y ≡ tan sh e u z
  tan_equal (lit k) t f h = refl
  tan_equal (var (plain x)) t f h = h (x, 0) (size_positive (sh (plain x))) (name_refl x)
  tan_equal (var (shadow x)) t f h = refl
  tan_equal (var (helper r k)) t f h = refl
  tan_equal (elem (plain x) subs) t f h = h (x, cell_or (cell_of (sh (plain x)) (nums sh subs u))) (cell_in_below (sh (plain x)) (nums sh subs u) f.1) (name_refl x)
  tan_equal (elem (shadow x) subs) t f h = refl
  tan_equal (elem (helper r k) subs) t f h = refl
  tan_equal (neg a) t f h = ap negated (tan_equal a t f h)
  tan_equal (bin plus a b) t f h =
      λ i. add (tan_equal a t.0 f.1.0 (λ k c n. h k c (or_left _ (occurring b (plain k.0)) n)) i) (tan_equal b t.1 f.1.1 (λ k c n. h k c (or_right (occurring a (plain k.0)) _ n)) i)
  tan_equal (bin minus a b) t f h =
      λ i. sub (tan_equal a t.0 f.1.0 (λ k c n. h k c (or_left _ (occurring b (plain k.0)) n)) i) (tan_equal b t.1 f.1.1 (λ k c n. h k c (or_right (occurring a (plain k.0)) _ n)) i)
  tan_equal (bin times a b) t f h =
      λ i. add (mul (tan_equal a t.0 f.1.0 (λ k c n. h k c (or_left _ (occurring b (plain k.0)) n)) i) (num sh b u)) (mul (num sh a u) (tan_equal b t.1 f.1.1 (λ k c n. h k c (or_right (occurring a (plain k.0)) _ n)) i))
  tan_equal (bin quot a b) t f h = refl
  tan_equal (bin modulo a b) t f h = refl
  tan_equal (bin greater a b) t f h = absurd t
  tan_equal (bin lesser a b) t f h = absurd t
  tan_equal (pow a zero) t f h = refl
  tan_equal (pow a (suc k)) t f h = ap (λ t. power_tangent (num sh a u) t (suc k)) (tan_equal a t f h)
  tan_equal (power_of a b) t f h = ap (λ t. power_tangent (num sh a u) t (at_least_zero (num sh b u))) (tan_equal a t f.1.0 h)
  tan_equal (abs a) t f h = absurd t

-- a term that isn't active has no tangent where only active variables have one
pub tan_inactive : (sh : Var → Shape) (on : Vars) (e : Term) (s : Store ℤ) (d : Words) → AreTreated e → is_active_where on e ≡ false → tan sh e s (masked on d) ≡ pos 0
tan_inactive sh on (lit z) s d t h = refl
tan_inactive sh on (var (plain x)) s d t h = ap (λ b. if b then d (x, 0) else pos 0) h
tan_inactive sh on (var (shadow x)) s d t h = refl
tan_inactive sh on (var (helper r k)) s d t h = refl
tan_inactive sh on (elem (plain x) subs) s d t h = ap (λ b. if b then d (x, cell_or (cell_of (sh (plain x)) (nums sh subs s))) else pos 0) h
tan_inactive sh on (elem (shadow x) subs) s d t h = refl
tan_inactive sh on (elem (helper r k) subs) s d t h = refl
tan_inactive sh on (neg a) s d t h = ap negated (tan_inactive sh on a s d t h) ∙ negated-zero
tan_inactive sh on (bin plus a b) s d t h = let p = or_false (is_active_where on a) (is_active_where on b) h in (λ i. add (tan_inactive sh on a s d t.0 p.0 i) (tan_inactive sh on b s d t.1 p.1 i)) ∙ wrap-zero
tan_inactive sh on (bin minus a b) s d t h = let p = or_false (is_active_where on a) (is_active_where on b) h in (λ i. sub (tan_inactive sh on a s d t.0 p.0 i) (tan_inactive sh on b s d t.1 p.1 i)) ∙ wrap-zero
tan_inactive sh on (bin times a b) s d t h =
    let p = or_false (is_active_where on a) (is_active_where on b) h in
    (λ i. add (mul (tan_inactive sh on a s d t.0 p.0 i) (num sh b s)) (mul (num sh a s) (tan_inactive sh on b s d t.1 p.1 i))) ∙ (λ i. add (zero-mul (num sh b s) i) (mul-zero (num sh a s) i)) ∙ wrap-zero
tan_inactive sh on (bin quot a b) s d t h = refl
tan_inactive sh on (bin modulo a b) s d t h = refl
tan_inactive sh on (bin greater a b) s d t h = absurd t
tan_inactive sh on (bin lesser a b) s d t h = absurd t
tan_inactive sh on (pow a zero) s d t h = refl
tan_inactive sh on (pow a (suc k)) s d t h = ap (λ t. power_tangent (num sh a s) t (suc k)) (tan_inactive sh on a s d t h) ∙ power_tangent-zero (num sh a s) (suc k)
tan_inactive sh on (power_of a b) s d t h = ap (λ t. power_tangent (num sh a s) t (at_least_zero (num sh b s))) (tan_inactive sh on a s d t h) ∙ power_tangent-zero (num sh a s) (at_least_zero (num sh b s))
tan_inactive sh on (abs a) s d t h = absurd t

-- no variables
abbrev nowhere : Vars
nowhere x = false

neither : (a b : Bool) → a ≡ false → b ≡ false → (a || b) ≡ false
neither a b h n = rw (h, n) refl

inactive : (e : Term) → is_active_where nowhere e ≡ false
inactive (lit z) = refl
inactive (var x) = refl
inactive (elem x subs) = refl
inactive (neg a) = inactive a
inactive (bin plus a b) = neither _ _ (inactive a) (inactive b)
inactive (bin minus a b) = neither _ _ (inactive a) (inactive b)
inactive (bin times a b) = neither _ _ (inactive a) (inactive b)
inactive (bin quot a b) = refl
inactive (bin modulo a b) = refl
inactive (bin greater a b) = refl
inactive (bin lesser a b) = refl
inactive (pow a zero) = refl
inactive (pow a (suc k)) = inactive a
inactive (power_of a b) = inactive a
inactive (abs a) = refl

-- where these have no tangent the term has none
pub tan_none : (sh : Var → Shape) (u : Store ℤ) (y : Words) (e : Term) → AreTreated e → IsDefined sh e u → SameAt sh (occurring e) y (λ k. pos 0) → tan sh e u y ≡ pos 0
tan_none sh u y e t f h = tan_equal sh u y (λ k. pos 0) e t f h ∙ tan_inactive sh nowhere e u y t (inactive e)

-- ---- across an assignment to a cell of x

-- what it makes of tangents in the sweeps: nothing where it isn't adjointed
abbrev pub changed : Vars → Key → (Var → Shape) → Term → Store ℤ → Words → Words
changed on k sh e u z = put key_eq z k (tan sh e u (masked on z))

abbrev pub assigned_change : Marks → ℕ → Key → (Var → Shape) → Term → Store ℤ → Words → Words
assigned_change m i k sh e u z = if m.adjointed i then changed (active_at m i) k sh e u z else z

module _ (sh : Var → Shape) (w : Facts) (i : ℕ) (x : List ℕ) (subs : Terms) (e : Term) (laws : AssignmentLaws w i (plain x) subs e) (treated : AreTreated e) (u : Store ℤ) (defined : IsDefined sh e u) (c : ℕ)
    -- the cell is that of a scalar where there are no subscripts
    (scalar_cell : (k : Key) → IsCell sh k → whole (plain x) subs (plain k.0) ≡ true → k ≡ (x, c)) (in_x : c < size_of (sh (plain x))) (y z : Words) (h : Matches sh w.marks (point_before i) y z) (before_shadows : (v : Var) → In v (w.marks.varied (point_before i)) → In v (w.marks.useful (point_before i)) → In v w.marks.shadowed) where
  abbrev m : Marks
  m = w.marks

  abbrev on : Vars
  on = active_at m i

  abbrev p : ℕ
  p = point_before i

  abbrev r : ℕ
  r = point_after i

  abbrev at : Key
  at = (x, c)

  clash : {A : Type 0} (b : Bool) → b ≡ true → b ≡ false → A
  clash b h n = absurd (let q : true ≡ false = sym h ∙ n in cc)

  contrary : (a b : Bool) → (a ≡ true → b ≡ true) → b ≡ false → a ≡ false
  contrary true b h n = clash b (h refl) n
  contrary false b h n = refl

  -- another cell keeps what its variable has
  not_whole : (k : Key) → IsCell sh k → key_eq k at ≡ false → whole (plain x) subs (plain k.0) ≡ false
  not_whole k o n = go (whole (plain x) subs (plain k.0)) refl
    where
      go : (b : Bool) → whole (plain x) subs (plain k.0) ≡ b → b ≡ false
      go true e = clash (key_eq k at) (ap (λ j. key_eq j at) (scalar_cell k o e) ∙ rw (name_refl x) (nat_refl c)) n
      go false e = refl

  varies_other : (k : Key) → IsCell sh k → key_eq k at ≡ false → In (plain k.0) (m.varied p) → In (plain k.0) (m.varied r)
  varies_other k o n v = laws.tangents.varies (plain k.0) (rw (v, not_whole k o n) refl)

  serves_other : (k : Key) → IsCell sh k → key_eq k at ≡ false → In (plain k.0) (m.useful r) → In (plain k.0) (m.useful p)
  serves_other k o n v = laws.tangents.serves (plain k.0) (rw (v, not_whole k o n) refl)

  -- where the target isn't varied after it, no occurrence is varied before it
  unvaried : m.varied r (plain x) ≡ false → (v : List ℕ) → In (plain v) (occurring e) → m.varied p (plain v) ≡ false
  unvaried n v o = contrary _ _ (laws.varies_target (plain v) o) n

  tangent_none : m.varied r (plain x) ≡ false → tan sh e u y ≡ pos 0
  tangent_none n = tan_none sh u y e treated defined (λ k o a. h.support k o (unvaried n k.0 a))

  active_none : m.varied r (plain x) ≡ false → tan sh e u (masked on z) ≡ pos 0
  active_none n = tan_none sh u (masked on z) e treated defined (λ k o a. let idle : on (plain k.0) ≡ false = rw (unvaried n k.0 a) refl in ap (λ b. if b then z k else pos 0) idle)

  -- where the target is useful after it, each occurrence has one tangent
  tangents_equal : In (plain x) (m.useful r) → tan sh e u (masked on z) ≡ tan sh e u y
  tangents_equal s = tan_equal sh u (masked on z) y e treated defined (λ k o a. go k o (laws.serves_target (plain k.0) a s) (m.varied p (plain k.0)) refl)
    where
      go : (k : Key) → IsCell sh k → In (plain k.0) (m.useful p) → (b : Bool) → m.varied p (plain k.0) ≡ b → masked on z k ≡ y k
      go k o s true a =
          let act : on (plain k.0) ≡ true = rw (a, before_shadows (plain k.0) a s) refl in
          ap (λ b. if b then z k else pos 0) act ∙ h.equal k o a s
      go k o s false a =
          let idle : on (plain k.0) ≡ false = rw a refl in
          ap (λ b. if b then z k else pos 0) idle ∙ sym (h.support k o a)

  put_at : (f : Words) (v : ℤ) → put key_eq f at v at ≡ v
  put_at f v = ap (λ b. if b && (c == c) then v else f at) (name_refl x) ∙ ap (λ b. if b then v else f at) (nat_refl c)

  -- the target: varied and useful after it, it is adjointed
  target_equal : In (plain x) (m.varied r) → In (plain x) (m.useful r) → assigned_change m i at sh e u z at ≡ tan sh e u y
  target_equal v s =
      let done : m.adjointed i ≡ true = laws.adjoints ∙ rw (laws.tangents.shadows (plain x) v s, v, s) refl in
      ap (λ b. (if b then changed on at sh e u z else z) at) done ∙ put_at z (tan sh e u (masked on z)) ∙ tangents_equal s

  -- what isn't varied after it, or has no shadow: adjointed, it is set by tangents that are 0; else it was 0 before
  target_shadowed : (m.varied r (plain x) && m.shadowed (plain x)) ≡ false → assigned_change m i at sh e u z at ≡ pos 0
  target_shadowed n = go (m.adjointed i) refl (m.shadowed (plain x)) refl (m.varied r (plain x)) refl
    where
      and_none : (a b : Bool) → b ≡ false → (a && b) ≡ false
      and_none true b e = e
      and_none false b e = refl

      go : (a : Bool) → m.adjointed i ≡ a → (s : Bool) → m.shadowed (plain x) ≡ s → (v : Bool) → m.varied r (plain x) ≡ v → (if a then changed on at sh e u z else z) at ≡ pos 0
      go true a s es false ev = put_at z (tan sh e u (masked on z)) ∙ active_none ev
      go true a true es true ev = let q : true ≡ false = sym (rw (ev, es) refl) ∙ n in absurd (cc)
      go true a false es true ev = let q : true ≡ false = sym a ∙ laws.adjoints ∙ rw es refl in absurd (cc)
      go false a false es v ev = h.shadowed at in_x (and_none (m.varied p (plain x)) _ es)
      go false a true es true ev = let q : true ≡ false = sym (rw (ev, es) refl) ∙ n in absurd (cc)
      go false a true es false ev = before (m.varied p (plain x)) refl (whole (plain x) subs (plain x)) refl
        where
          -- a scalar would be adjointed; an array that is varied before is varied after
          before : (b : Bool) → m.varied p (plain x) ≡ b → (t : Bool) → whole (plain x) subs (plain x) ≡ t → z at ≡ pos 0
          before false eb t et = h.shadowed at in_x (rw eb refl)
          before true eb true et = let q : true ≡ false = sym (laws.adjoints ∙ rw (es, ev, et, eb) refl) ∙ a in absurd (cc)
          before true eb false et = clash (m.varied r (plain x)) (laws.tangents.varies (plain x) (rw (eb, et) refl)) ev

  pub matches_assign : Matches sh m r (put key_eq y at (tan sh e u y)) (assigned_change m i at sh e u z)
  matches_assign = record {
    support = λ k o n. support k o n (key_eq k at) refl;
    shadowed = λ k o n. shadowed k o n (key_eq k at) refl;
    equal = λ k o v s. equal k o v s (key_eq k at) refl;
  }
    where
      support : (k : Key) → IsCell sh k → m.varied r (plain k.0) ≡ false → (b : Bool) → key_eq k at ≡ b → (if b then tan sh e u y else y k) ≡ pos 0
      support k o n true is = tangent_none (ap (λ (j : Key). m.varied r (plain j.0)) (sym (key_same k at is)) ∙ n)
      support k o n false is = still_support sh m p r y z h k o (varies_other k o is) (serves_other k o is) n

      -- elsewhere than at the target nothing changes
      unchanged : (k : Key) → key_eq k at ≡ false → (a : Bool) → (if a then changed on at sh e u z else z) k ≡ z k
      unchanged k n true = ap (λ b. if b then tan sh e u (masked on z) else z k) n
      unchanged k n false = refl

      shadowed : (k : Key) → IsCell sh k → (m.varied r (plain k.0) && m.shadowed (plain k.0)) ≡ false → (b : Bool) → key_eq k at ≡ b → assigned_change m i at sh e u z k ≡ pos 0
      shadowed k o n true is = ap (assigned_change m i at sh e u z) (key_same k at is) ∙ target_shadowed (ap (λ (j : Key). m.varied r (plain j.0) && m.shadowed (plain j.0)) (sym (key_same k at is)) ∙ n)
      shadowed k o n false is = unchanged k is (m.adjointed i) ∙ still_shadowed sh m p r y z h k o (varies_other k o is) (serves_other k o is) n

      equal : (k : Key) → IsCell sh k → In (plain k.0) (m.varied r) → In (plain k.0) (m.useful r) → (b : Bool) → key_eq k at ≡ b → assigned_change m i at sh e u z k ≡ put key_eq y at (tan sh e u y) k
      equal k o v s true is =
          let j : k ≡ at = key_same k at is in
          ap (assigned_change m i at sh e u z) j
          ∙ target_equal (ap (λ (l : Key). m.varied r (plain l.0)) (sym j) ∙ v) (ap (λ (l : Key). m.useful r (plain l.0)) (sym j) ∙ s)
          ∙ sym (ap (λ b. if b then tan sh e u y else y k) is)
      equal k o v s false is =
          unchanged k is (m.adjointed i) ∙ still_equal sh m p r y z h k o (varies_other k o is) (serves_other k o is) v s ∙ sym (ap (λ b. if b then tan sh e u y else y k) is)
