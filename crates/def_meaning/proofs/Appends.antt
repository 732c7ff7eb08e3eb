-- Lists of statements one after another, and their runs.
use Rattle.std.proofs.Common.{◌≡◌, ℕ, zero, suc, refl, sym, ap, ◌∙◌}
use Rattle.adj_tree.specs.Code.{Code, stop, step}
use Rattle.def_meaning.specs.Append.{◌+++◌}
use Rattle.def_meaning.specs.Value.{Setting}
use Rattle.def_meaning.specs.Scene.{Scene, Stand, stand, Outcome, Done, Trapped, More, Full, then_do, counted}
use Rattle.def_meaning.specs.Run.{Calls, act, run}

-- lists may be grouped otherwise
pub append_assoc : (a b c : Code) → (a +++ b) +++ c ≡ a +++ (b +++ c)
append_assoc stop b c = refl
append_assoc (step line a rest) b c = ap (step line a) (append_assoc rest b c)

-- nothing comes after
pub append-stop : (a : Code) → a +++ stop ≡ a
append-stop stop = refl
append-stop (step line a rest) = ap (step line a) (append-stop rest)

-- going on may be grouped otherwise
pub then_assoc : {A B C : Type 0} (o : Outcome A) (f : A → ℕ → Outcome B) (g : B → ℕ → Outcome C) → then_do (then_do o f) g ≡ then_do o (λ a k. then_do (f a k) g)
then_assoc (Done a k) f g = refl
then_assoc (Trapped t line w) f g = refl
then_assoc (More w) f g = refl
then_assoc (Full w) f g = refl

-- where a statement isn't done, what would come after it isn't either
pub counted_then : {A B : Type 0} (w : Stand) (k : ℕ) (go : ℕ → Outcome A) (f : A → ℕ → Outcome B) → then_do (counted w k go) f ≡ counted w k (λ j. then_do (go j) f)
counted_then w zero go f = refl
counted_then w (suc k) go f = refl

-- a list is run part by part
pub run_append : {C : Type 0} (q : Calls C) (n : Setting C) (c d : Code) (s : Scene C) (k : ℕ) → run q n (c +++ d) s k ≡ then_do (run q n c s k) (run q n d)
run_append q n stop d s k = refl
run_append q n (step line a c) d s k =
    let ih = λ (x : Scene _) (j : ℕ). run_append q n c d x j in
    (λ i. counted (stand n s) k (λ j. then_do (act q n a line s j) (λ x m. ih x m i)))
    ∙ (λ i. counted (stand n s) k (λ j. sym (then_assoc (act q n a line s j) (run q n c) (run q n d)) i))
    ∙ sym (counted_then (stand n s) k (λ j. then_do (act q n a line s j) (run q n c)) (run q n d))
