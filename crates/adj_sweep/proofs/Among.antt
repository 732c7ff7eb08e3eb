-- Helpers with the numbers of a set.
use Rattle.std.proofs.Common.{◌≡◌, ℕ, zero, suc, ◌+◌, Bool, true, false, List, [], ◌∷◌, ◌++◌, refl, sym, ap, ◌∙◌, arith}
use Rattle.std.specs.Prelude.{◌||◌, Some, None, if◌then◌else◌}
use Rattle.adj_tree.specs.Code.{Role, Var, helper, work, temp, control, first, stride, count, turn, entry, entries, kind, lower, upper, slots, Act, assign, choose, loop, during, call, runtime, Code, stop, step}
use Rattle.def_names.specs.Numbers.{next, behind}
use Rattle.def_sweep.specs.Declared.{helpers_from}
use Rattle.def_sweep.specs.Plan.{Plan, Schedules, Step}
use Rattle.def_sweep.specs.Program.{is_do, is_loop, goes_back_with, any_step, has_slots, reverses_act_by, reverses_by, depth_used_with, helpers_among, all_reversal_helpers, helpers_used_with, forth_slots, helpers_forth}
use Rattle.adj_sweep.specs.declared.depths.Depths.{Depths}
use Rattle.adj_sweep.specs.declared.uses.Used.{Used}
use Rattle.adj_sweep.specs.Depths.{has_depth, AddsList}
use Rattle.adj_sweep.specs.Uses.{UsesList, reversal_helpers_of, helpers_of, forth_helpers_of}

-- one number or none, and then others
among_first : (f : ℕ → Bool) (r : Role) (k n : ℕ) (b : Bool) (others : List Var) → helpers_among f r (suc k) n ++ others ≡ helpers_among f r (suc k) (suc n) → (if b then helper r k ∷ helpers_among f r (suc k) n else helpers_among f r (suc k) n) ++ others ≡ (if b then helper r k ∷ helpers_among f r (suc k) (suc n) else helpers_among f r (suc k) (suc n))
among_first f r k n true others h = ap (λ z. helper r k ∷ z) h
among_first f r k n false others h = h

-- one number more, at the end
among_more : (f : ℕ → Bool) (r : Role) (k n : ℕ) → helpers_among f r k n ++ helpers_among f r (k + n) 1 ≡ helpers_among f r k (suc n)
among_more f r k zero =
    let e : k + 0 ≡ k = omega arith in
    ap (λ j. helpers_among f r j 1) e
among_more f r k (suc n) =
    let e : k + suc n ≡ suc k + n = omega arith in
    ap (λ j. helpers_among f r k (suc n) ++ helpers_among f r j 1) e ∙ among_first f r k n (f k) (helpers_among f r (suc k + n) 1) (among_more f r (suc k) n)

-- the same from 1 on
pub among_next : (f : ℕ → Bool) (r : Role) (n : ℕ) → helpers_among f r 1 n ++ helpers_among f r (n + 1) 1 ≡ helpers_among f r 1 (n + 1)
among_next f r n =
    let e : 1 + n ≡ n + 1 = omega arith in
    let e' : suc n ≡ n + 1 = omega arith in
    ap (λ m. helpers_among f r 1 n ++ helpers_among f r m 1) (sym e) ∙ among_more f r 1 n ∙ ap (helpers_among f r 1) e'

-- no helpers where no number is in the set
among_none : (r : Role) (k n : ℕ) → helpers_among (λ j. false) r k n ≡ []
among_none r k zero = refl
among_none r k (suc n) = among_none r (suc k) n

-- no loop is reversed where there are no schedules
mutual
  reverses_none_act : (sort : Step → Bool) (k : ℕ) (p : Plan) (i d : ℕ) (a : Act) → reverses_act_by None sort k p i d a ≡ false
  reverses_none_act sort k p i d (assign x subs e) = refl
  reverses_none_act sort k p i d (choose c a b) = (λ z. reverses_none sort k p (suc i) d a z || reverses_none sort k p (behind (suc i) a) d b z)
  reverses_none_act sort k p i d (loop x a b c body n) = reverses_none sort k p (suc i) (suc d) body
  reverses_none_act sort k p i d (during c body) = reverses_none sort k p (suc i) (suc d) body
  reverses_none_act sort k p i d (call name args) = refl
  reverses_none_act sort k p i d (runtime c) = refl

  reverses_none : (sort : Step → Bool) (k : ℕ) (p : Plan) (i d : ℕ) (c : Code) → reverses_by None sort k p i d c ≡ false
  reverses_none sort k p i d stop = refl
  reverses_none sort k p i d (step line a rest) = (λ z. reverses_none_act sort k p i d a z || reverses_none sort k p (next i a) d rest z)

-- the helpers of loops that are reversed, from their depths
reversal_known : (r : Schedules) (p : Plan) (i : ℕ) (c : Code) (n : ℕ) (flags others : List Bool) → has_depth flags ≡ (λ k. reverses_by r any_step k p i 0 c) → has_depth others ≡ (λ k. reverses_by r has_slots k p i 0 c) → n ≡ depth_used_with r p i 0 c → reversal_helpers_of n flags others ≡ all_reversal_helpers r p i c
reversal_known (Some reads) p i c n flags others e s h =
    λ z.
    helpers_among (e z) entry 1 (h z) ++ (helpers_among (e z) entries 1 (h z) ++ (helpers_among (e z) kind 1 (h z) ++ (helpers_among (e z) lower 1 (h z) ++ (helpers_among (e z) upper 1 (h z) ++ helpers_among (s z) slots 1 (h z)))))
reversal_known None p i c n flags others e s h =
    let f : has_depth flags ≡ (λ k. false) = e ∙ (λ z k. reverses_none any_step k p i 0 c z) in
    let t : has_depth others ≡ (λ k. false) = s ∙ (λ z k. reverses_none has_slots k p i 0 c z) in
    (λ z. helpers_among (f z) entry 1 n ++ (helpers_among (f z) entries 1 n ++ (helpers_among (f z) kind 1 n ++ (helpers_among (f z) lower 1 n ++ (helpers_among (f z) upper 1 n ++ helpers_among (t z) slots 1 n)))))
    ∙ (λ z. among_none entry 1 n z ++ (among_none entries 1 n z ++ (among_none kind 1 n z ++ (among_none lower 1 n z ++ (among_none upper 1 n z ++ among_none slots 1 n z)))))

-- the helpers of a body, from what it uses
pub helpers_known : (r : Schedules) (p : Plan) (i : ℕ) (c : Code) (u : Used) (old new : Depths) → UsesList r p 0 i c u → AddsList r p 0 i c old new → old.dos.items ≡ [] → old.loops.items ≡ [] → old.reversed.items ≡ [] → old.slots.items ≡ [] → helpers_of u new ≡ helpers_used_with r p i c
helpers_known r p i c u old new h adds ed el er es =
    let dos : has_depth new.dos.items ≡ (λ k. goes_back_with r is_do k p i 0 c) = λ z k. (adds.dos k ∙ ap (λ xs. has_depth xs k || goes_back_with r is_do k p i 0 c) ed) z in
    let loops : has_depth new.loops.items ≡ (λ k. goes_back_with r is_loop k p i 0 c) = λ z k. (adds.loops k ∙ ap (λ xs. has_depth xs k || goes_back_with r is_loop k p i 0 c) el) z in
    let reversed : has_depth new.reversed.items ≡ (λ k. reverses_by r any_step k p i 0 c) = λ z k. (adds.reversed k ∙ ap (λ xs. has_depth xs k || reverses_by r any_step k p i 0 c) er) z in
    let others : has_depth new.slots.items ≡ (λ k. reverses_by r has_slots k p i 0 c) = λ z k. (adds.slots k ∙ ap (λ xs. has_depth xs k || reverses_by r has_slots k p i 0 c) es) z in
    λ z.
    (if h.tells z then helper control 0 ∷ [] else [])
    ++ (helpers_among (loops z) count 1 (h.depth z) ++ (helpers_among (dos z) first 1 (h.depth z)
    ++ (helpers_among (dos z) stride 1 (h.depth z) ++ (helpers_among (loops z) turn 1 (h.depth z)
    ++ (reversal_known r p i c u.depth new.reversed.items new.slots.items reversed others h.depth z ++ (helpers_from work 1 (h.works z) ++ helpers_from temp 1 (h.temps z)))))))

-- the helpers of a forward unit, from what its body uses
slots_known : (r : Schedules) (p : Plan) (i : ℕ) (c : Code) (n : ℕ) (others : List Bool) → has_depth others ≡ (λ k. reverses_by r has_slots k p i 0 c) → n ≡ depth_used_with r p i 0 c → helpers_among (has_depth others) slots 1 n ≡ forth_slots r p i c
slots_known (Some reads) p i c n others s h = λ z. helpers_among (s z) slots 1 (h z)
slots_known None p i c n others s h =
    let t : has_depth others ≡ (λ k. false) = s ∙ (λ z k. reverses_none has_slots k p i 0 c z) in ap (λ f. helpers_among f slots 1 n) t ∙ among_none slots 1 n

pub forth_known : (r : Schedules) (p : Plan) (i : ℕ) (c : Code) (u : Used) (old new : Depths) → UsesList r p 0 i c u → AddsList r p 0 i c old new → old.dos.items ≡ [] → old.loops.items ≡ [] → old.slots.items ≡ [] → forth_helpers_of u new ≡ helpers_forth r p i c
forth_known r p i c u old new h adds ed el es =
    let dos : has_depth new.dos.items ≡ (λ k. goes_back_with r is_do k p i 0 c) = λ z k. (adds.dos k ∙ ap (λ xs. has_depth xs k || goes_back_with r is_do k p i 0 c) ed) z in
    let loops : has_depth new.loops.items ≡ (λ k. goes_back_with r is_loop k p i 0 c) = λ z k. (adds.loops k ∙ ap (λ xs. has_depth xs k || goes_back_with r is_loop k p i 0 c) el) z in
    let others : has_depth new.slots.items ≡ (λ k. reverses_by r has_slots k p i 0 c) = λ z k. (adds.slots k ∙ ap (λ xs. has_depth xs k || reverses_by r has_slots k p i 0 c) es) z in
    λ z.
    helpers_among (loops z) count 1 (h.depth z) ++ (helpers_among (dos z) first 1 (h.depth z)
    ++ (helpers_among (dos z) stride 1 (h.depth z) ++ slots_known r p i c u.depth new.slots.items others h.depth z))
