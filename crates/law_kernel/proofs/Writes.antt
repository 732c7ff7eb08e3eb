-- What the kernel's statements write of a unit's variables is what the source's do.
use Rattle.std.proofs.Common.{◌≡◌, ℕ, zero, suc, ◌+◌, ◌⊎◌, inl, inr, Bool, true, false, List, [], ◌∷◌, refl, sym, ap, ◌∙◌}
use Rattle.std.proofs.lemmas.Bool.{or_cases}
use Rattle.std.specs.Prelude.{ℤ, pos, ◌||◌, ◌&&◌, None, if◌then◌else◌}
use Rattle.adj_tree.specs.Code.{Var, var_eq, plus, minus, times, quot, modulo, greater, lesser, Term, lit, var, elem, neg, bin, pow, power_of, abs, Terms, none, more, is_less, Test, compare, assign, call, Code, stop, step}
use Rattle.def_meaning.specs.Append.{◌+++◌, one}
use Rattle.def_meaning.specs.Numbers.{words}
use Rattle.def_meaning.specs.Store.{scalar}
use Rattle.def_meaning.specs.Value.{Setting}
use Rattle.def_meaning.specs.Scene.{stand, Scene, More}
use Rattle.def_meaning.specs.Run.{Calls}
use Rattle.def_meaning.specs.LeastSet.{Dummies, IsWithin}
use Rattle.def_meaning.specs.Read.{reads_term}
use Rattle.def_meaning.specs.Written.{is_place_of, is_handed_back, act_writes, writes}
use Rattle.def_meaning.proofs.Booleans.{or_false, or_first, or_second, and_true}
use Rattle.def_meaning.proofs.Variables.{var_refl, var_same}
use Rattle.def_kernel.specs.Lowered.{locals_in, locals_in_all, length_of, first_flag, other_flags, picked, turned_up, reduced, before, set_local, mentions, locals_in_target, apart_from, before_target, lowered_assign, reduced_all, before_all, held, before_held, is_among, Passing, stays, put_back, by_value, passing, passing_name, passing_element, locals_passing, passed, before_passing, after_passing, all_passed, before_passing_all, after_passing_all, lowered_call}
use Rattle.law_kernel.specs.Apart.{AreLocals, TermInside, TermsInside}
use Rattle.def_kernel.specs.Calls.{AreHandedApart}
use Rattle.law_kernel.proofs.Changing.{not_local}
use Rattle.law_kernel.proofs.Targeting.{first_inside, rest_inside}
use Rattle.law_kernel.proofs.Sorts.{Sort, name, element, chosen, other, sort}
use Rattle.law_kernel.proofs.Actuals.{passed_inside}

-- either is enough
either : (a b : Bool) → a ≡ false → b ≡ false → (a || b) ≡ false
either a b e f = ap (λ z. z || b) e ∙ f

-- what two lists write
pub writes_append : (handed : Dummies) (x : Var) (c d : Code) → writes handed x (c +++ d) ≡ (writes handed x c || writes handed x d)
writes_append handed x stop d = refl
writes_append handed x (step line a c) d = ap (λ z. act_writes handed x a || z) (writes_append handed x c d) ∙ assoc (act_writes handed x a) (writes handed x c) (writes handed x d)
  where
    assoc : (a b c : Bool) → (a || (b || c)) ≡ ((a || b) || c)
    assoc true b c = refl
    assoc false b c = refl

module _ (inside : Var → Bool) (local : ℕ → Var) (apart : AreLocals inside local) (handed : Dummies) (x : Var) (hx : inside x ≡ true) where
  abbrev Leaves : Code → Type 0
  Leaves c = writes handed x c ≡ false

  -- lists that leave a variable alone, one after another
  leaves_both : (c d : Code) → Leaves c → Leaves d → Leaves (c +++ d)
  leaves_both c d h g = writes_append handed x c d ∙ either (writes handed x c) (writes handed x d) h g

  differs : (j : ℕ) → var_eq x (local j) ≡ false
  differs j = not_local inside local apart x j hx

  leaves_one : (line j : ℕ) (e : Term) → Leaves (one line (assign (local j) none e))
  leaves_one line j e = either (var_eq x (local j)) false (differs j) refl

  leaves_picked : (line : ℕ) (t : Test) (i : ℕ) (a b : Term) → Leaves (picked local line t i a b)
  leaves_picked line t i a b =
      either (var_eq x (local i)) _ (differs i) (either (var_eq x (local (suc i))) _ (differs (suc i))
      (either ((var_eq x (local i) || false) || false) false (either (var_eq x (local i) || false) false (either (var_eq x (local i)) false (differs i) refl) refl) refl))

  leaves_turned : (line i : ℕ) (a : Term) → Leaves (turned_up local line i a)
  leaves_turned line i a =
      either (var_eq x (local i)) _ (differs i)
      (either ((var_eq x (local i) || false) || false) false (either (var_eq x (local i) || false) false (either (var_eq x (local i)) false (differs i) refl) refl) refl)

  -- statements before set locals alone
  leaves_before : (line j : ℕ) (e : Term) → Leaves (before local line j e)
  leaves_before line j (lit z) = refl
  leaves_before line j (var y) = refl
  leaves_before line j (elem y subs) = refl
  leaves_before line j (neg a) = leaves_before line j a
  leaves_before line j (bin plus a b) = leaves_both (before local line j a) _ (leaves_before line j a) (leaves_before line (j + locals_in a) b)
  leaves_before line j (bin minus a b) = leaves_both (before local line j a) _ (leaves_before line j a) (leaves_before line (j + locals_in a) b)
  leaves_before line j (bin times a b) = leaves_both (before local line j a) _ (leaves_before line j a) (leaves_before line (j + locals_in a) b)
  leaves_before line j (bin quot a b) = refl
  leaves_before line j (bin modulo a b) = refl
  leaves_before line j (bin greater a b) = leaves_both (before local line j a) _ (leaves_before line j a) (leaves_both (before local line (j + locals_in a) b) _ (leaves_before line (j + locals_in a) b) (leaves_picked line (compare is_less (var (local (j + locals_in a + locals_in b))) (var (local (suc (j + locals_in a + locals_in b))))) (j + locals_in a + locals_in b) (reduced local j a) (reduced local (j + locals_in a) b)))
  leaves_before line j (bin lesser a b) = leaves_both (before local line j a) _ (leaves_before line j a) (leaves_both (before local line (j + locals_in a) b) _ (leaves_before line (j + locals_in a) b) (leaves_picked line (compare is_less (var (local (suc (j + locals_in a + locals_in b)))) (var (local (j + locals_in a + locals_in b)))) (j + locals_in a + locals_in b) (reduced local j a) (reduced local (j + locals_in a) b)))
  leaves_before line j (pow a zero) = refl
  leaves_before line j (pow a (suc k)) = leaves_before line j a
  leaves_before line j (power_of a b) = leaves_before line j a
  leaves_before line j (abs a) = leaves_both (before local line j a) _ (leaves_before line j a) (leaves_turned line (j + locals_in a) (reduced local j a))

  leaves_set : (line j m : ℕ) (e : Term) → Leaves (set_local local line j m e)
  leaves_set line j m e = leaves_both (before local line m e) _ (leaves_before line m e) (leaves_one line j (reduced local m e))

  leaves_target : (line : ℕ) (y : Var) (j m : ℕ) (es : Terms) → Leaves (before_target local line y j m es)
  leaves_target line y j m none = refl
  leaves_target line y j m (more e es) = go (reads_term y e) (leaves_target line y (suc j) (m + locals_in e) es) (leaves_target line y j m es)
    where
      go : (b : Bool) → Leaves (before_target local line y (suc j) (m + locals_in e) es) → Leaves (before_target local line y j m es) → Leaves (if b then set_local local line j m e +++ before_target local line y (suc j) (m + locals_in e) es else before_target local line y j m es)
      go true h g = leaves_both (set_local local line j m e) _ (leaves_set line j m e) h
      go false h g = g

  pub leaves_all : (line j : ℕ) (es : Terms) → Leaves (before_all local line j es)
  leaves_all line j none = refl
  leaves_all line j (more e es) = leaves_both (before local line j e) _ (leaves_before line j e) (leaves_all line (j + locals_in e) es)

  leaves_held : (line j : ℕ) (es : Terms) → Leaves (before_held local line j es)
  leaves_held line j none = refl
  leaves_held line j (more e es) = leaves_both (set_local local line j (suc j) e) _ (leaves_set line j (suc j) e) (leaves_held line (suc (j + locals_in e)) es)

  leaves_passing : (line j : ℕ) (p : Passing) → Leaves (before_passing local line j p)
  leaves_passing line j (stays y) = refl
  leaves_passing line j (put_back y subs) = leaves_both (before_held local line j subs) _ (leaves_held line j subs) (leaves_one line (j + (length_of subs + locals_in_all subs)) (elem y (held local j subs)))
  leaves_passing line j (by_value e) = leaves_one line j e

  pub leaves_passing_all : (line j : ℕ) (ws : List Bool) (earlier : List Var) (es : Terms) → Leaves (before_passing_all local line j ws earlier es)
  leaves_passing_all line j ws earlier none = refl
  leaves_passing_all line j ws earlier (more e es) =
      let p = passing (first_flag ws) earlier e in
      leaves_both (before_passing local line j p) _ (leaves_passing line j p) (leaves_passing_all line (j + locals_passing p) (other_flags ws) (passed local j p ∷ earlier) es)

  -- ---- an assignment

  -- the statements that an assignment becomes write its target alone
  pub assign_writes : (line : ℕ) (y : Var) (subs : Terms) (e : Term) → writes handed x (lowered_assign local line y subs e) ≡ var_eq x y
  assign_writes line y subs e =
      let m = mentions y subs in
      let k = m + locals_in_target y subs in
      let last = one line (assign y (apart_from local y 0 subs) (reduced local k e)) in
      writes_append handed x (before_target local line y 0 m subs) (before local line k e +++ last)
      ∙ ap (λ z. z || writes handed x (before local line k e +++ last)) (leaves_target line y 0 m subs)
      ∙ writes_append handed x (before local line k e) last
      ∙ ap (λ z. z || writes handed x last) (leaves_before line k e)
      ∙ or_nothing (var_eq x y)
    where
      or_nothing : (b : Bool) → (b || false) ≡ b
      or_nothing true = refl
      or_nothing false = refl

  -- ---- a call

  -- a name inside is the actual's own
  abbrev nowhere_calls : Calls ℤ
  nowhere_calls n z args line s k = More (stand n s)

  abbrev anywhere : Setting ℤ
  anywhere = record { numbers = words; shape = λ y. scalar; room = None; level = 0 }

  abbrev nothing : Scene ℤ
  nothing = record { store = λ y i. pos 0; tape = []; opened = 0; events = [] }

  own_name : (w : Bool) (earlier : List Var) (i j : ℕ) (e : Term) → var_eq x (passed local j (passing w earlier (reduced local i e))) ≡ true → e ≡ var x
  own_name w earlier i j e h =
      let same = var_same x (passed local j (passing w earlier (reduced local i e))) h in
      passed_inside nowhere_calls anywhere inside local apart (record { shows = λ z. refl }) (λ k. refl) nothing 0 w earlier i j e (ap inside (sym same) ∙ hx) ∙ ap var (sym same)

  -- an element that is put back is the actual's own, of a dummy that is written
  after_is : (line : ℕ) (w : Bool) (earlier : List Var) (i j : ℕ) (e : Term) → writes handed x (after_passing local line j (passing w earlier (reduced local i e))) ≡ true → (w ≡ true) × (is_place_of x e ≡ true)
  after_is line w earlier i j e h = go (sort ℤ local i e)
    where
      by_name : (b : Bool) (y : Var) → writes handed x (after_passing local line j (passing_name b y)) ≡ true → ⊥
      by_name true y g = cc
      by_name false y g = cc

      by_element : (b : Bool) (y : Var) (subs : Terms) → writes handed x (after_passing local line j (passing_element b y subs)) ≡ true → (b ≡ true) × (var_eq x y ≡ true)
      by_element true y subs g = (refl, only (var_eq x y) g)
        where
          only : (b : Bool) → (b || false) ≡ true → b ≡ true
          only true e = refl
          only false e = e
      by_element false y subs g = absurd cc

      go : Sort ℤ local i e → (w ≡ true) × (is_place_of x e ≡ true)
      go (name y f) = absurd (by_name (is_among y earlier) y (ap (λ z. writes handed x (after_passing local line j (passing w earlier (reduced local i z)))) (sym f) ∙ h))
      go (element y subs f) =
          let p = by_element w y subs (ap (λ z. writes handed x (after_passing local line j (passing w earlier (reduced local i z)))) (sym f) ∙ h) in
          (p.0, ap (is_place_of x) f ∙ p.1)
      go (chosen l l1 l2 f is) = absurd (by_name (is_among (local l) earlier) (local l) (ap (λ z. writes handed x (after_passing local line j (passing w earlier z))) (sym f) ∙ h))
      go (other f is) = absurd (let g : writes handed x (after_passing local line j (by_value (reduced local i e))) ≡ true = ap (λ p. writes handed x (after_passing local line j p)) (sym (f w earlier)) ∙ h in cc)

module _ (inside : Var → Bool) (local : ℕ → Var) (apart : AreLocals inside local) where
  -- ---- what a call in the kernel writes is handed back by the call of the source

  module _ (handed : Dummies) (x : Var) (hx : inside x ≡ true) where
    names_back : (es : Terms) (ws : List Bool) (earlier : List Var) (i j : ℕ) → is_handed_back x ws (all_passed local j ws earlier (reduced_all local i es)) ≡ true → is_handed_back x ws es ≡ true
    names_back none [] earlier i j h = cc
    names_back none (w ∷ ws) earlier i j h = cc
    names_back (more e es) [] earlier i j h = cc
    names_back (more e es) (w ∷ ws) earlier i j h =
        let p = passing w earlier (reduced local i e) in
        go (λ g. names_back es ws (passed local j p ∷ earlier) (i + locals_in e) (j + locals_passing p) g)
        (or_cases (w && var_eq x (passed local j p)) (is_handed_back x ws (all_passed local (j + locals_passing p) ws (passed local j p ∷ earlier) (reduced_all local (i + locals_in e) es))) h)
      where
        go : (is_handed_back x ws (all_passed local (j + locals_passing (passing w earlier (reduced local i e))) ws (passed local j (passing w earlier (reduced local i e)) ∷ earlier) (reduced_all local (i + locals_in e) es)) ≡ true → is_handed_back x ws es ≡ true) →
            ((w && var_eq x (passed local j (passing w earlier (reduced local i e)))) ≡ true) ⊎ (is_handed_back x ws (all_passed local (j + locals_passing (passing w earlier (reduced local i e))) ws (passed local j (passing w earlier (reduced local i e)) ∷ earlier) (reduced_all local (i + locals_in e) es)) ≡ true) → ((w && is_place_of x e) || is_handed_back x ws es) ≡ true
        go ih (inl g) =
            let p = and_true w (var_eq x (passed local j (passing w earlier (reduced local i e)))) g in
            or_first (w && is_place_of x e) (is_handed_back x ws es) ((λ k. p.0 k && is_place_of x (own_name inside local apart handed x hx w earlier i j e p.1 k)) ∙ var_refl x)
        go ih (inr g) = or_second (w && is_place_of x e) (is_handed_back x ws es) (ih g)

    after_back : (line : ℕ) (es : Terms) (ws : List Bool) (earlier : List Var) (i j : ℕ) → writes handed x (after_passing_all local line j ws earlier (reduced_all local i es)) ≡ true → is_handed_back x ws es ≡ true
    after_back line none ws earlier i j h = absurd cc
    after_back line (more e es) ws earlier i j h =
        let p = passing (first_flag ws) earlier (reduced local i e) in
        let rest = after_passing_all local line (j + locals_passing p) (other_flags ws) (passed local j p ∷ earlier) (reduced_all local (i + locals_in e) es) in
        go ws (λ g. after_is inside local apart handed x hx line (first_flag ws) earlier i j e g)
        (λ g. after_back line es (other_flags ws) (passed local j p ∷ earlier) (i + locals_in e) (j + locals_passing p) g)
        (or_cases (writes handed x (after_passing local line j p)) (writes handed x rest) (sym (writes_append handed x (after_passing local line j p) rest) ∙ h))
      where
        go : (ws : List Bool) {a b : Bool} → (a ≡ true → (first_flag ws ≡ true) × (is_place_of x e ≡ true)) → (b ≡ true → is_handed_back x (other_flags ws) es ≡ true) → (a ≡ true) ⊎ (b ≡ true) → is_handed_back x ws (more e es) ≡ true
        go [] f ih (inl g) = absurd (let q = (f g).0 in cc)
        go [] f ih (inr g) = ih g
        go (w ∷ ws) f ih (inl g) = or_first (w && is_place_of x e) (is_handed_back x ws es) ((λ k. (f g).0 k && is_place_of x e) ∙ (f g).1)
        go (w ∷ ws) f ih (inr g) = or_second (w && is_place_of x e) (is_handed_back x ws es) (ih g)

    -- what the statements of a CALL write the CALL hands back
    pub call_back : (line : ℕ) (unit : List ℕ) (args : Terms) → writes handed x (lowered_call local line (handed unit) unit args) ≡ true → is_handed_back x (handed unit) args ≡ true
    call_back line unit args h =
        let ws = handed unit in
        let j = locals_in_all args in
        let es = reduced_all local 0 args in
        let names = all_passed local j ws [] es in
        let after = after_passing_all local line j ws [] es in
        let second = before_passing_all local line j ws [] es +++ step line (call unit names) after in
        let e1 : writes handed x (before_all local line 0 args +++ second) ≡ writes handed x second = writes_append handed x (before_all local line 0 args) second ∙ ap (λ z. z || writes handed x second) (leaves_all inside local apart handed x hx line 0 args) in
        let e2 : writes handed x second ≡ (is_handed_back x ws names || writes handed x after) =
        writes_append handed x (before_passing_all local line j ws [] es) (step line (call unit names) after) ∙ ap (λ z. z || (is_handed_back x ws names || writes handed x after)) (leaves_passing_all inside local apart handed x hx line j ws [] es)
        in
        go (or_cases (is_handed_back x ws names) (writes handed x after) (sym (e1 ∙ e2) ∙ h))
      where
        go : (is_handed_back x (handed unit) (all_passed local (locals_in_all args) (handed unit) [] (reduced_all local 0 args)) ≡ true) ⊎ (writes handed x (after_passing_all local line (locals_in_all args) (handed unit) [] (reduced_all local 0 args)) ≡ true) → is_handed_back x (handed unit) args ≡ true
        go (inl g) = names_back args (handed unit) [] 0 (locals_in_all args) g
        go (inr g) = after_back line args (handed unit) [] 0 (locals_in_all args) g

  -- ---- and the other way, where it is known of fewer dummies that they are written

  -- what is known of the names that stand earlier
  abbrev Once : List Bool → List Var → Terms → Type 0
  Once ws earlier es = (y : Var) → inside y ≡ true → is_among y earlier ≡ true → is_handed_back y ws es ≡ false

  next_once : (handed : Dummies) (ws : List Bool) (earlier : List Var) (i j : ℕ) (e : Term) (es : Terms) → Once ws earlier (more e es) → ((y : Var) → is_place_of y e ≡ true → is_handed_back y (other_flags ws) es ≡ false) → Once (other_flags ws) (passed local j (passing (first_flag ws) earlier (reduced local i e)) ∷ earlier) es
  next_once handed ws earlier i j e es k a y hy g = go (or_cases (var_eq y (passed local j (passing (first_flag ws) earlier (reduced local i e)))) (is_among y earlier) g)
    where
      earlier_once : (ws : List Bool) → is_handed_back y ws (more e es) ≡ false → is_handed_back y (other_flags ws) es ≡ false
      earlier_once [] g = refl
      earlier_once (b ∷ ws) g = (or_false (b && is_place_of y e) (is_handed_back y ws es) g).1

      go : (var_eq y (passed local j (passing (first_flag ws) earlier (reduced local i e))) ≡ true) ⊎ (is_among y earlier ≡ true) → is_handed_back y (other_flags ws) es ≡ false
      go (inl l) = a y (ap (is_place_of y) (own_name inside local apart handed y hy (first_flag ws) earlier i j e l) ∙ var_refl y)
      go (inr l) = earlier_once ws (k y hy l)

  module _ (handed : Dummies) (x : Var) (hx : inside x ≡ true) where
    -- either the name is handed back, or the element is put back
    abbrev Written : ℕ → List Bool → List Bool → List Var → ℕ → Terms → Type 0
    Written line fs ws earlier j es = (is_handed_back x fs (all_passed local j ws earlier es) ≡ true) ⊎ (writes handed x (after_passing_all local line j ws earlier es) ≡ true)

    -- an actual of a dummy that is written
    head_written : (line : ℕ) (earlier : List Var) (i j : ℕ) (e : Term) (ws : List Bool) (es : Terms) → TermInside inside e → Once (true ∷ ws) earlier (more e es) → is_place_of x e ≡ true →
        (var_eq x (passed local j (passing true earlier (reduced local i e))) ≡ true) ⊎ (writes handed x (after_passing local line j (passing true earlier (reduced local i e))) ≡ true)
    head_written line earlier i j (lit z) ws es h k e = absurd cc
    head_written line earlier i j (var y) ws es h k e = inl (go (is_among y earlier) refl)
      where
        go : (b : Bool) → is_among y earlier ≡ b → var_eq x (passed local j (passing_name b y)) ≡ true
        go true a =
            let f = (or_false (var_eq y y) (is_handed_back y ws es) (k y (h y (var_refl y)) a)).0 in
            absurd (let z : true ≡ false = sym (var_refl y) ∙ f in cc)
        go false a = e
    head_written line earlier i j (elem y subs) ws es h k e = inr (or_first (var_eq x y) false e)
    head_written line earlier i j (neg a) ws es h k e = absurd cc
    head_written line earlier i j (bin op a b) ws es h k e = absurd cc
    head_written line earlier i j (pow a m) ws es h k e = absurd cc
    head_written line earlier i j (power_of a b) ws es h k e = absurd cc
    head_written line earlier i j (abs a) ws es h k e = absurd cc

    -- and the other way
    pub args_written : (line : ℕ) (es : Terms) (fs ws : List Bool) (earlier : List Var) (i j : ℕ) → IsWithin fs ws → TermsInside inside es → Once ws earlier es → AreHandedApart ws es → is_handed_back x fs es ≡ true → Written line fs ws earlier j (reduced_all local i es)
    args_written line none [] ws earlier i j l h k a e = absurd cc
    args_written line none (f ∷ fs) ws earlier i j l h k a e = absurd cc
    args_written line (more z es) [] ws earlier i j l h k a e = absurd cc
    args_written line (more z es) (f ∷ fs) [] earlier i j l h k a e = absurd l
    args_written line (more z es) (f ∷ fs) (w ∷ ws) earlier i j l h k a e =
        first_or_rest w (l.0) (λ w_is. head_written line earlier i j z ws es (first_inside inside z es h) (λ y hy g. ap (λ v. is_handed_back y (v ∷ ws) (more z es)) (sym w_is) ∙ k y hy g))
        (λ g. args_written line es fs ws (passed local j p ∷ earlier) (i + locals_in z) (j + locals_passing p) l.1 (rest_inside inside z es h) (next_once handed (w ∷ ws) earlier i j z es k a.0) a.1 g)
        (or_cases (f && is_place_of x z) (is_handed_back x fs es) e)
      where
        p : Passing
        p = passing w earlier (reduced local i z)

        names : Terms
        names = all_passed local (j + locals_passing (passing w earlier (reduced local i z))) ws (passed local j (passing w earlier (reduced local i z)) ∷ earlier) (reduced_all local (i + locals_in z) es)

        after : Code
        after = after_passing_all local line (j + locals_passing (passing w earlier (reduced local i z))) ws (passed local j (passing w earlier (reduced local i z)) ∷ earlier) (reduced_all local (i + locals_in z) es)

        first_or_rest : (v : Bool) → (f ≡ true → w ≡ true) → (w ≡ true → is_place_of x z ≡ true → (var_eq x (passed local j (passing true earlier (reduced local i z))) ≡ true) ⊎ (writes handed x (after_passing local line j (passing true earlier (reduced local i z))) ≡ true)) →
            (is_handed_back x fs es ≡ true → (is_handed_back x fs names ≡ true) ⊎ (writes handed x after ≡ true)) → ((f && is_place_of x z) ≡ true) ⊎ (is_handed_back x fs es ≡ true) →
            (((f && var_eq x (passed local j (passing w earlier (reduced local i z)))) || is_handed_back x fs names) ≡ true) ⊎ (writes handed x (after_passing local line j (passing w earlier (reduced local i z)) +++ after) ≡ true)
        first_or_rest v wf head ih (inl g) = go (head w_is both.1)
          where
            both : (f ≡ true) × (is_place_of x z ≡ true)
            both = and_true f (is_place_of x z) g

            w_is : w ≡ true
            w_is = wf both.0

            go : (var_eq x (passed local j (passing true earlier (reduced local i z))) ≡ true) ⊎ (writes handed x (after_passing local line j (passing true earlier (reduced local i z))) ≡ true) → (((f && var_eq x (passed local j (passing w earlier (reduced local i z)))) || is_handed_back x fs names) ≡ true) ⊎ (writes handed x (after_passing local line j (passing w earlier (reduced local i z)) +++ after) ≡ true)
            go (inl m) = inl (or_first (f && var_eq x (passed local j (passing w earlier (reduced local i z)))) (is_handed_back x fs names) ((λ q. both.0 q && var_eq x (passed local j (passing (w_is q) earlier (reduced local i z)))) ∙ m))
            go (inr m) = inr (writes_append handed x (after_passing local line j (passing w earlier (reduced local i z))) after ∙ or_first (writes handed x (after_passing local line j (passing w earlier (reduced local i z)))) (writes handed x after) ((λ q. writes handed x (after_passing local line j (passing (w_is q) earlier (reduced local i z)))) ∙ m))
        first_or_rest v wf head ih (inr g) = go (ih g)
          where
            go : (is_handed_back x fs names ≡ true) ⊎ (writes handed x after ≡ true) → (((f && var_eq x (passed local j (passing w earlier (reduced local i z)))) || is_handed_back x fs names) ≡ true) ⊎ (writes handed x (after_passing local line j (passing w earlier (reduced local i z)) +++ after) ≡ true)
            go (inl m) = inl (or_second (f && var_eq x (passed local j (passing w earlier (reduced local i z)))) (is_handed_back x fs names) m)
            go (inr m) = inr (writes_append handed x (after_passing local line j (passing w earlier (reduced local i z))) after ∙ or_second (writes handed x (after_passing local line j (passing w earlier (reduced local i z)))) (writes handed x after) m)
