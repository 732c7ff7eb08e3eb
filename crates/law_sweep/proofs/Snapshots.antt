-- Variables that are pushed are popped as they were, and nothing is told meanwhile; a group has always as many words.
use Rattle.std.proofs.Common.{◌≡◌, ℕ, zero, suc, ◌+◌, ◌<◌, Bool, true, false, List, [], ◌∷◌, ◌++◌, refl, sym, ap, ◌∙◌, subst, arith, append_assoc, if◌then◌else◌}
use Rattle.std.specs.Prelude.{length, ℤ, nat_lt, ◌==◌, ◌||◌}
use Rattle.std.proofs.lemmas.List.{length-append}
use Rattle.law_meaning.specs.Leads.{Leads}
use Rattle.adj_tree.specs.Code.{Var, plain, shadow, helper, name_eq, var_eq, none, runtime, push_word, pop_word, push_array, pop_array, Code, stop}
use Rattle.adj_tree.proofs.Names.{name_refl, name_same}
use Rattle.def_meaning.specs.Append.{◌+++◌, one}
use Rattle.def_meaning.specs.Store.{Shape, size_of, Store, set, cells_from}
use Rattle.def_meaning.specs.Scene.{Done}
use Rattle.def_meaning.specs.Run.{Calls}
use Rattle.law_meaning.proofs.Leadings.{leads_stop, leads_step, leads_append}
use Rattle.law_meaning.proofs.Tapes.{pushed_on, push_all_done, filled, pop_all_done}
use Rattle.def_names.specs.Numbers.{Vars}
use Rattle.def_meaning.specs.Apart.{has_name}
use Rattle.law_sweep.specs.Pairs.{on_words}
use Rattle.law_sweep.specs.Scenes.{Course, scene}
use Rattle.def_names.proofs.Variables.{or_false}
use Rattle.def_sweep.specs.Plan.{Plan}
use Rattle.def_sweep.specs.Rows.{push, pop, pushes, pops}
pub use Rattle.law_sweep.specs.Steps.{words_of}

-- what isn't an array has one cell
abbrev pub KnowsArrays : Plan → (Var → Shape) → Type 0
KnowsArrays p sh = (x : List ℕ) → p.arrays (plain x) ≡ false → size_of (sh (plain x)) ≡ 1

-- one of the names
abbrev pub is_one_of : List (List ℕ) → Vars
is_one_of xs (plain x) = has_name x xs
is_one_of xs v = false

length-pushed : (f : ℕ → ℤ) (j m : ℕ) (a : List ℤ) → length (pushed_on (cells_from f j m) a) ≡ m + length a
length-pushed f j zero a = omega arith
length-pushed f j (suc m) a = length-pushed f (suc j) m (f j ∷ a) ∙ (let e : m + suc (length a) ≡ suc m + length a = omega arith in e)

-- the store g' has the words of f in the cells of these, and else those of g
pub record Restored (sh : Var → Shape) (xs : List (List ℕ)) (f g g' : Store ℤ) : Type 0 where
  pub here : (x : List ℕ) (j : ℕ) → has_name x xs ≡ true → j < size_of (sh (plain x)) → g' (plain x) j ≡ f (plain x) j
  pub there : (v : Var) (j : ℕ) → is_one_of xs v ≡ false → g' v j ≡ g v j

module _ (q : Calls ℤ) (sh : Var → Shape) (level : ℕ) (p : Plan) (line : ℕ) where
  -- what is popped
  pub record Popped (xs : List (List ℕ)) (c : Code) (f g : Store ℤ) (trail : List ℤ) : Type 0 where
    pub after : Store ℤ
    pub runs : (base : Course) (t : List ℤ) → Leads q (on_words sh level) c (scene base g (trail ++ t)) (scene base after t)
    pub restored : Restored sh xs f g after

  -- these are pushed by one code, and popped by another
  pub record Pushed (xs : List (List ℕ)) (push pop : Code) (f : Store ℤ) : Type 0 where
    pub trail : List ℤ
    pub length_is : length trail ≡ words_of sh xs
    pub pushed : (base : Course) (t : List ℤ) → Leads q (on_words sh level) push (scene base f t) (scene base f (trail ++ t))
    pub popped : (g : Store ℤ) → Popped xs pop f g trail

  pub nothing_pushed : (f : Store ℤ) → Pushed [] stop stop f
  nothing_pushed f = record {
    trail = [];
    length_is = refl;
    pushed = λ base t. leads_stop q (on_words sh level) (scene base f t);
    popped = λ g. record { after = g; runs = λ base t. leads_stop q (on_words sh level) (scene base g t); restored = record { here = λ x j h l. cc; there = λ v j h. refl } };
  }

  pushed_on-append : (cs t : List ℤ) → pushed_on cs t ≡ pushed_on cs [] ++ t
  pushed_on-append cs t = go cs [] t
    where
      go : (cs a t : List ℤ) → pushed_on cs (a ++ t) ≡ pushed_on cs a ++ t
      go [] a t = refl
      go (c ∷ cs) a t = go cs (c ∷ a) t

  one_name : (x y : List ℕ) → has_name x (y ∷ []) ≡ true → x ≡ y
  one_name x y h = go (name_eq x y) refl h
    where
      go : (b : Bool) → name_eq x y ≡ b → (b || false) ≡ true → x ≡ y
      go true e h = name_same x y e
      go false e h = cc

  not_one : (v : Var) (x : List ℕ) → is_one_of (x ∷ []) v ≡ false → var_eq v (plain x) ≡ false
  not_one (plain y) x h = (or_false (name_eq y x) false h).0
  not_one (shadow y) x h = refl
  not_one (helper r k) x h = refl

  -- an array
  array_pushed : (x : List ℕ) (f : Store ℤ) → Pushed (x ∷ []) (one line (runtime (push_array (plain x)))) (one line (runtime (pop_array (plain x)))) f
  array_pushed x f =
      let n = on_words sh level in
      let m = size_of (sh (plain x)) in
      let cs = cells_from (f (plain x)) 0 m in
      record {
        trail = pushed_on cs [];
        length_is = length-pushed (f (plain x)) 0 m [] ∙ (let e : m + 0 ≡ m + 0 = refl in e);
        pushed = λ base t. (leads_step q n line (runtime (push_array (plain x))) stop (scene base f t) (scene base f (pushed_on cs [] ++ t)) (scene base f (pushed_on cs [] ++ t))
            (λ k. push_all_done n refl cs (scene base f t) k ∙ ap (λ (l : List ℤ). Done (scene base f l) k) (pushed_on-append cs t))
            (leads_stop q n (scene base f (pushed_on cs [] ++ t))));
        popped = λ g.
            let g1 = filled g (plain x) (f (plain x)) m in
            record {
              after = g1;
              runs = λ base t. (leads_step q n line (runtime (pop_array (plain x))) stop (scene base g (pushed_on cs [] ++ t)) (scene base g1 t) (scene base g1 t)
                  (λ k. pop_all_done n (plain x) (f (plain x)) m line (scene base g (pushed_on cs [] ++ t)) t k (sym (pushed_on-append cs t)))
                  (leads_stop q n (scene base g1 t)));
              restored = record {
                here = λ y j h l. within y j (one_name y x h) g l;
                there = λ v j h. rw (not_one v x h) refl;
              };
            };
      }
    where
      within : (y : List ℕ) (j : ℕ) → y ≡ x → (g : Store ℤ) → j < size_of (sh (plain y)) → filled g (plain x) (f (plain x)) (size_of (sh (plain x))) (plain y) j ≡ f (plain y) j
      within y j e g l =
          let same : name_eq y x ≡ true = ap (λ z. name_eq z x) e ∙ name_refl x in
          let lt : j < size_of (sh (plain x)) = subst (λ z. j < size_of (sh (plain z))) e l in
          let less : nat_lt j (size_of (sh (plain x))) ≡ true = grind arith in
          rw (same, less) (ap (λ z. f (plain z) j) (sym e))

  -- a scalar
  scalar_pushed : (x : List ℕ) (f : Store ℤ) → size_of (sh (plain x)) ≡ 1 → Pushed (x ∷ []) (one line (runtime (push_word (plain x) none))) (one line (runtime (pop_word (plain x) none))) f
  scalar_pushed x f is =
      let n = on_words sh level in
      let v = f (plain x) 0 in
      record {
        trail = v ∷ [];
        length_is = ap (λ z. z + 0) (sym is);
        pushed = λ base t. (leads_step q n line (runtime (push_word (plain x) none)) stop (scene base f t) (scene base f (v ∷ t)) (scene base f (v ∷ t)) (λ k. refl) (leads_stop q n (scene base f (v ∷ t))));
        popped = λ g.
            let g1 = set g (plain x) 0 v in
            record {
              after = g1;
              runs = λ base t. (leads_step q n line (runtime (pop_word (plain x) none)) stop (scene base g (v ∷ t)) (scene base g1 t) (scene base g1 t) (λ k. refl) (leads_stop q n (scene base g1 t)));
              restored = record {
                here = λ y j h l. within y j (one_name y x h) g l;
                there = λ w j h. rw (not_one w x h) refl;
              };
            };
      }
    where
      within : (y : List ℕ) (j : ℕ) → y ≡ x → (g : Store ℤ) → j < size_of (sh (plain y)) → set g (plain x) 0 (f (plain x) 0) (plain y) j ≡ f (plain y) j
      within y j e g l =
          let same : name_eq y x ≡ true = ap (λ z. name_eq z x) e ∙ name_refl x in
          let lt : j < 1 = subst (λ z. j < z) (ap (λ z. size_of (sh (plain z))) e ∙ is) l in
          let none_else : j ≡ 0 = omega arith in
          let first : (j == 0) ≡ true = grind arith in
          rw (same, first) (λ i. f (plain (sym e i)) (sym none_else i))

  variable_pushed : (x : List ℕ) (f : Store ℤ) → KnowsArrays p sh → Pushed (x ∷ []) (push p line x) (pop p line x) f
  variable_pushed x f known = go (p.arrays (plain x)) refl
    where
      go : (b : Bool) → p.arrays (plain x) ≡ b → Pushed (x ∷ []) (one line (runtime (if b then push_array (plain x) else push_word (plain x) none))) (one line (runtime (if b then pop_array (plain x) else pop_word (plain x) none))) f
      go true e = array_pushed x f
      go false e = scalar_pushed x f (known x e)

  -- variables in order, popped in the opposite order
  pub group_pushed : KnowsArrays p sh → (xs : List (List ℕ)) (f : Store ℤ) → Pushed xs (pushes p line xs) (pops p line xs) f
  group_pushed known [] f = nothing_pushed f
  group_pushed known (x ∷ xs) f =
      let n = on_words sh level in
      let a = variable_pushed x f known in
      let b = group_pushed known xs f in
      record {
        trail = b.trail ++ a.trail;
        length_is = length-append b.trail a.trail ∙ (λ i. b.length_is i + a.length_is i) ∙ (let e : words_of sh xs + words_of sh (x ∷ []) ≡ words_of sh (x ∷ xs) = omega arith in e);
        pushed = λ base t.
            let e : b.trail ++ (a.trail ++ t) ≡ (b.trail ++ a.trail) ++ t = sym (append_assoc b.trail a.trail t) in
            subst (λ (l : List ℤ). Leads q n (push p line x +++ pushes p line xs) (scene base f t) (scene base f l)) e
            (leads_append q n (push p line x) (pushes p line xs) (scene base f t) (scene base f (a.trail ++ t)) (scene base f (b.trail ++ (a.trail ++ t))) (a.pushed base t) (b.pushed base (a.trail ++ t)));
        popped = λ g.
            let c = b.popped g in
            let d = a.popped c.after in
            record {
              after = d.after;
              runs = λ base t.
                  let e : b.trail ++ (a.trail ++ t) ≡ (b.trail ++ a.trail) ++ t = sym (append_assoc b.trail a.trail t) in
                  subst (λ (l : List ℤ). Leads q n (pops p line xs +++ pop p line x) (scene base g l) (scene base d.after t)) e
                  (leads_append q n (pops p line xs) (pop p line x) (scene base g (b.trail ++ (a.trail ++ t))) (scene base c.after (a.trail ++ t)) (scene base d.after t) (c.runs base (a.trail ++ t)) (d.runs base t));
              restored = record {
                here = λ y j h l. here y j h l g c.after d.after d.restored c.restored;
                there = λ v j h. let o = apart v h in d.restored.there v j o.0 ∙ c.restored.there v j o.1;
              };
            };
      }
    where
      here : (y : List ℕ) (j : ℕ) → has_name y (x ∷ xs) ≡ true → j < size_of (sh (plain y)) → (g g1 g2 : Store ℤ) → Restored sh (x ∷ []) f g1 g2 → Restored sh xs f g g1 → g2 (plain y) j ≡ f (plain y) j
      here y j h l g g1 g2 last others = go (name_eq y x) refl h
        where
          go : (b : Bool) → name_eq y x ≡ b → (b || has_name y xs) ≡ true → g2 (plain y) j ≡ f (plain y) j
          go true e h = last.here y j (rw e refl) l
          go false e h = last.there (plain y) j (rw e refl) ∙ others.here y j h l

      apart : (v : Var) → is_one_of (x ∷ xs) v ≡ false → (is_one_of (x ∷ []) v ≡ false) × (is_one_of xs v ≡ false)
      apart (plain y) h = let o = or_false (name_eq y x) (has_name y xs) h in (rw o.0 refl, o.1)
      apart (shadow y) h = (refl, refl)
      apart (helper r k) h = (refl, refl)
