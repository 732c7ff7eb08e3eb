-- What runs tell of reversals goes together one after another, through calls, and around a reversal.
use Rattle.std.proofs.Common.{◌≡◌, ◌≤◌, ◌<◌, ℕ, zero, suc, ◌+◌, true, false, List, [], ◌∷◌, ◌++◌, refl, sym, ap, ◌∙◌, subst, arith, append_assoc}
use Rattle.std.specs.Prelude.{◌==◌, All, Option, Some, None, reverse}
use Rattle.std.proofs.lemmas.List.{append-nil, reverse-append}
use Rattle.std.proofs.lemmas.List.Elements.{All-nil, All-cons}
use Rattle.adj_tree.proofs.Names.{nat_refl}
use Rattle.def_meaning.specs.Event.{Event, Enter, Begin, End, Marked}
use Rattle.def_meaning.specs.Store.{Shape}
use Rattle.law_sweep.specs.Scenes.{Course}
use Rattle.def_sweep.specs.Reversals.{Called, Reversal, calls_after, ends_after, reversals_in, MarkedRun, StepUnits, LoopRun, with_run, runs_in, times, AreReversed, ReversedLines}
use Rattle.law_sweep.specs.Tells.{in_order, IsTold, IsToldBy, Tells, TellsCalls, Marks}

-- ---- lists of events

pub in_order-append : (b a later : List Event) → in_order (b ++ a) later ≡ in_order a (in_order b later)
in_order-append [] a later = refl
in_order-append (e ∷ b) a later = in_order-append b a (e ∷ later)

pub told_none : (level : ℕ) → IsTold level [] []
told_none level = record { all = λ later. refl; outer_calls = λ l i h later. refl; outer_ends = λ l i h later. refl }

pub told_append : (level : ℕ) (a b : List Event) (ra rb : List Reversal) → IsTold level a ra → IsTold level b rb → IsTold level (b ++ a) (ra ++ rb)
told_append level a b ra rb f g = record {
  all = λ later. ap reversals_in (in_order-append b a later) ∙ f.all (in_order b later) ∙ ap (λ z. ra ++ z) (g.all later) ∙ sym (append_assoc ra rb (reversals_in later));
  outer_calls = λ l i h later. ap (calls_after l i) (in_order-append b a later) ∙ f.outer_calls l i h (in_order b later) ∙ g.outer_calls l i h later;
  outer_ends = λ l i h later. ap (ends_after l i) (in_order-append b a later) ∙ f.outer_ends l i h (in_order b later) ∙ g.outer_ends l i h later;
}

pub told_by_none : (level : ℕ) → IsToldBy level [] [] []
told_by_none level = record { told_is = told_none level; own_calls = λ later. refl; own_ends = λ later. refl }

pub told_by_append : (level : ℕ) (a b : List Event) (ca cb : List Called) (ra rb : List Reversal) → IsToldBy level a ca ra → IsToldBy level b cb rb → IsToldBy level (b ++ a) (ca ++ cb) (ra ++ rb)
told_by_append level a b ca cb ra rb f g = record {
  told_is = told_append level a b ra rb f.told_is g.told_is;
  own_calls = λ later. ap (calls_after level 0) (in_order-append b a later) ∙ f.own_calls (in_order b later) ∙ ap (λ z. ca ++ z) (g.own_calls later) ∙ sym (append_assoc ca cb (calls_after level 0 later));
  own_ends = λ later. ap (ends_after level 0) (in_order-append b a later) ∙ f.own_ends (in_order b later) ∙ g.own_ends later;
}

-- ---- numbers of levels

other_level : (a b : ℕ) → a < b → (a == b) ≡ false
other_level a b h = grind arith

level_below : (a b : ℕ) → a < b → (b == a) ≡ false
level_below a b h = grind arith

-- ---- a call: the entry of the unit, and what its body tells

pub told_call : (level height : ℕ) (name : List ℕ) (shapes : List Shape) (body : List Event) (rs : List Reversal) → IsTold (suc level) body rs → IsToldBy level (body ++ (Enter name (suc level) height shapes ∷ [])) (record { unit = name; height = height; shapes = shapes } ∷ []) rs
told_call level height name shapes body rs f = record {
  told_is = record {
    all = λ later. ap reversals_in (in_order-append body (Enter name (suc level) height shapes ∷ []) later) ∙ f.all later;
    outer_calls = λ l i h later. ap (calls_after l i) (in_order-append body (Enter name (suc level) height shapes ∷ []) later) ∙ enter_calls l i h (in_order body later) ∙ f.outer_calls l i (omega arith) later;
    outer_ends = λ l i h later. ap (ends_after l i) (in_order-append body (Enter name (suc level) height shapes ∷ []) later) ∙ enter_ends l i (in_order body later) ∙ f.outer_ends l i (omega arith) later;
  };
  own_calls = λ later.
      ap (calls_after level 0) (in_order-append body (Enter name (suc level) height shapes ∷ []) later)
      ∙ rw (nat_refl (suc level)) (ap (λ z. record { unit = name; height = height; shapes = shapes } ∷ z) (f.outer_calls level 0 (omega arith) later));
  own_ends = λ later. ap (ends_after level 0) (in_order-append body (Enter name (suc level) height shapes ∷ []) later) ∙ f.outer_ends level 0 (omega arith) later;
}
  where
    enter_calls : (l i : ℕ) → l < level → (es : List Event) → calls_after l i (Enter name (suc level) height shapes ∷ es) ≡ calls_after l i es
    enter_calls l zero h es = let e : (suc level == suc l) ≡ false = level_below (suc l) (suc level) (omega arith) in rw e refl
    enter_calls l (suc i) h es = let e : (suc level == suc l) ≡ false = level_below (suc l) (suc level) (omega arith) in rw e refl

    enter_ends : (l i : ℕ) (es : List Event) → ends_after l i (Enter name (suc level) height shapes ∷ es) ≡ ends_after l i es
    enter_ends l zero es = refl
    enter_ends l (suc i) es = refl

-- ---- a marked loop that ends

pub told_marked : (level line turns snapshots : ℕ) → IsToldBy level (Marked line turns snapshots ∷ []) [] []
told_marked level line turns snapshots = record {
  told_is = record { all = λ later. refl; outer_calls = λ l i h later. marked_skipped l i later; outer_ends = λ l i h later. marked_ends l i later };
  own_calls = λ later. refl;
  own_ends = λ later. refl;
}
  where
    marked_skipped : (l i : ℕ) (later : List Event) → calls_after l i (Marked line turns snapshots ∷ later) ≡ calls_after l i later
    marked_skipped l zero later = refl
    marked_skipped l (suc i) later = refl

    marked_ends : (l i : ℕ) (later : List Event) → ends_after l i (Marked line turns snapshots ∷ later) ≡ ends_after l i later
    marked_ends l zero later = refl
    marked_ends l (suc i) later = refl

-- ---- a reversal: its begin, what is told within it, and its end

-- the reversal with these calls
abbrev pub reversal_of : ℕ → ℕ → ℕ → List Called → Reversal
reversal_of steps snapshots height calls = record { steps = steps; snapshots = snapshots; start = height; calls = calls; ended = true }

pub told_reversal : (level steps snapshots height : ℕ) (inner : List Event) (calls : List Called) (rs : List Reversal) → IsToldBy level inner calls rs → IsTold level (End level ∷ (inner ++ (Begin steps snapshots level height ∷ []))) (reversal_of steps snapshots height calls ∷ rs)
told_reversal level steps snapshots height inner calls rs f = record {
  all = λ later.
      let split = in_order-append inner (Begin steps snapshots level height ∷ []) (End level ∷ later) in
      let c : calls_after level 0 (in_order inner (End level ∷ later)) ≡ calls = f.own_calls (End level ∷ later) ∙ ap (λ z. calls ++ z) (ended_calls later) ∙ append-nil calls in
      let e : ends_after level 0 (in_order inner (End level ∷ later)) ≡ true = f.own_ends (End level ∷ later) ∙ ended_is later in
      ap reversals_in split ∙ (λ i. record { steps = steps; snapshots = snapshots; start = height; calls = c i; ended = e i } ∷ f.told_is.all (End level ∷ later) i);
  outer_calls = λ l i h later.
      ap (calls_after l i) (in_order-append inner (Begin steps snapshots level height ∷ []) (End level ∷ later))
      ∙ begin_calls l i h (in_order inner (End level ∷ later)) ∙ f.told_is.outer_calls l i h (End level ∷ later) ∙ end_calls l i h later;
  outer_ends = λ l i h later.
      ap (ends_after l i) (in_order-append inner (Begin steps snapshots level height ∷ []) (End level ∷ later))
      ∙ begin_ends l i h (in_order inner (End level ∷ later)) ∙ f.told_is.outer_ends l i h (End level ∷ later) ∙ end_ends l i h later;
}
  where
    ended_calls : (later : List Event) → calls_after level 0 (End level ∷ later) ≡ []
    ended_calls later = rw (nat_refl level) refl

    ended_is : (later : List Event) → ends_after level 0 (End level ∷ later) ≡ true
    ended_is later = rw (nat_refl level) refl

    begin_calls : (l i : ℕ) → l < level → (es : List Event) → calls_after l i (Begin steps snapshots level height ∷ es) ≡ calls_after l i es
    begin_calls l zero h es = rw (level_below l level h) refl
    begin_calls l (suc i) h es = rw (level_below l level h) refl

    begin_ends : (l i : ℕ) → l < level → (es : List Event) → ends_after l i (Begin steps snapshots level height ∷ es) ≡ ends_after l i es
    begin_ends l zero h es = rw (level_below l level h) refl
    begin_ends l (suc i) h es = rw (level_below l level h) refl

    end_calls : (l i : ℕ) → l < level → (later : List Event) → calls_after l i (End level ∷ later) ≡ calls_after l i later
    end_calls l zero h later = rw (level_below l level h) refl
    end_calls l (suc i) h later = rw (level_below l level h) refl

    end_ends : (l i : ℕ) → l < level → (later : List Event) → ends_after l i (End level ∷ later) ≡ ends_after l i later
    end_ends l zero h later = rw (level_below l level h) refl
    end_ends l (suc i) h later = rw (level_below l level h) refl

-- ---- from a kept to a later one

pub tells_none : (level : ℕ) (b : Course) → TellsCalls level b b [] []
tells_none level b = record { opened = refl; told = []; events = refl; is = told_by_none level }

pub tells_append : (level : ℕ) (a b c : Course) (ca cb : List Called) (ra rb : List Reversal) → TellsCalls level a b ca ra → TellsCalls level b c cb rb → TellsCalls level a c (ca ++ cb) (ra ++ rb)
tells_append level a b c ca cb ra rb f g = record {
  opened = g.opened ∙ f.opened;
  told = g.told ++ f.told;
  events = g.events ∙ ap (λ z. g.told ++ z) f.events ∙ sym (append_assoc g.told f.told a.events);
  is = told_by_append level f.told g.told ca cb ra rb f.is g.is;
}

-- where the unit's own calls don't matter
pub tells_of : (level : ℕ) (a b : Course) (calls : List Called) (rs : List Reversal) → TellsCalls level a b calls rs → Tells level a b rs
tells_of level a b calls rs f = record { opened = f.opened; told = f.told; events = f.events; is = f.is.told_is }

pub tells_then : (level : ℕ) (a b c : Course) (ra rb : List Reversal) → Tells level a b ra → Tells level b c rb → Tells level a c (ra ++ rb)
tells_then level a b c ra rb f g = record {
  opened = g.opened ∙ f.opened;
  told = g.told ++ f.told;
  events = g.events ∙ ap (λ z. g.told ++ z) f.events ∙ sym (append_assoc g.told f.told a.events);
  is = told_append level f.told g.told ra rb f.is g.is;
}

-- a reversal as a whole
pub tells_reversal : (level steps snapshots height : ℕ) (base later : Course) (calls : List Called) (rs : List Reversal) → TellsCalls level (record { opened = suc base.opened; events = Begin steps snapshots level height ∷ base.events }) later calls rs → Tells level base (record { opened = base.opened; events = End level ∷ later.events }) (reversal_of steps snapshots height calls ∷ rs)
tells_reversal level steps snapshots height base later calls rs f = record {
  opened = refl;
  told = End level ∷ (f.told ++ (Begin steps snapshots level height ∷ []));
  events = ap (λ z. End level ∷ z) (f.events ∙ sym (append_assoc f.told (Begin steps snapshots level height ∷ []) base.events));
  is = told_reversal level steps snapshots height f.told calls rs f.is;
}

-- the reversals of a whole run, which began with no events
pub all_told : (level : ℕ) (later : Course) (rs : List Reversal) → Tells level (record { opened = 0; events = [] }) later rs → reversals_in (in_order later.events []) ≡ rs
all_told level later rs f = ap (λ z. reversals_in (in_order z [])) (f.events ∙ append-nil f.told) ∙ f.is.all [] ∙ append-nil rs

-- ---- calls and reversals in lists

pub times-append : (name : List ℕ) (a b : List Called) → times name (a ++ b) ≡ times name a + times name b
times-append name [] b = omega arith
times-append name (c ∷ a) b = omega (arith, times-append name a b)

-- the call is of one kind, while the tape is as long as `low` at least and as `high` at most
abbrev pub IsBetween : (Called → Type 0) → ℕ → ℕ → Called → Type 0
IsBetween Kind low high c = Kind c × ((low ≤ c.height) × (c.height ≤ high))

abbrev pub AreBetween : (Called → Type 0) → ℕ → ℕ → List Called → Type 0
AreBetween Kind low high [] = Unit {0}
AreBetween Kind low high (c ∷ cs) = IsBetween Kind low high c × AreBetween Kind low high cs

pub between_append : (Kind : Called → Type 0) (low high : ℕ) (a b : List Called) → AreBetween Kind low high a → AreBetween Kind low high b → AreBetween Kind low high (a ++ b)
between_append Kind low high [] b f g = g
between_append Kind low high (c ∷ a) b f g = (f.0, between_append Kind low high a b f.1 g)

pub between_wider : (Kind : Called → Type 0) (low high low' high' : ℕ) (a : List Called) → low' ≤ low → high ≤ high' → AreBetween Kind low high a → AreBetween Kind low' high' a
between_wider Kind low high low' high' [] l h f = tt
between_wider Kind low high low' high' (c ∷ a) l h f = ((f.0.0, (omega (arith, f.0.1.0), omega (arith, f.0.1.1))), between_wider Kind low high low' high' a l h f.1)

-- so it is of each
pub between_all : (Kind : Called → Type 0) (low high : ℕ) (a : List Called) → AreBetween Kind low high a → All (IsBetween Kind low high) a
between_all Kind low high [] h = All-nil (IsBetween Kind low high)
between_all Kind low high (c ∷ a) h = All-cons (IsBetween Kind low high) c a h.0 (between_all Kind low high a h.1)

pub reversed_append : (la lb : List LoopRun) (ra rb : List Reversal) → AreReversed la ra → AreReversed lb rb → AreReversed (la ++ lb) (ra ++ rb)
reversed_append [] lb [] rb f g = g
reversed_append [] lb (r ∷ ra) rb f g = absurd f
reversed_append (l ∷ la) lb [] rb f g = absurd f
reversed_append (l ∷ la) lb (r ∷ ra) rb f g = (f.0, reversed_append la lb ra rb f.1 g)

-- ---- what the program tells

pub runs_in-append : (lines : ReversedLines) (b a : List Event) → runs_in lines (b ++ a) ≡ runs_in lines b ++ runs_in lines a
runs_in-append lines [] a = refl
runs_in-append lines (Enter name l h shapes ∷ b) a = runs_in-append lines b a
runs_in-append lines (Begin steps snapshots l h ∷ b) a = runs_in-append lines b a
runs_in-append lines (End l ∷ b) a = runs_in-append lines b a
runs_in-append lines (Marked line turns snapshots ∷ b) a = go (lines line) (runs_in-append lines b a)
  where
    here : MarkedRun
    here = record { line = line; turns = turns; snapshots = snapshots }

    go : (o : Option StepUnits) → runs_in lines (b ++ a) ≡ runs_in lines b ++ runs_in lines a → with_run o here (runs_in lines (b ++ a)) ≡ with_run o here (runs_in lines b) ++ runs_in lines a
    go (Some step) ih = ap (λ z. record { mark = here; step = step } ∷ z) ih
    go None ih = ih

-- nothing is told
pub tells_nothing : (level : ℕ) (b : Course) → Tells level b b []
tells_nothing level b = record { opened = refl; told = []; events = refl; is = told_none level }

pub marks_nothing : (lines : ReversedLines) (level : ℕ) (b : Course) → Marks lines level b b []
marks_nothing lines level b = record { opened = refl; told = []; events = refl; is = told_none level; loops_are = refl }

-- one after the other: the loops of the later one come first
pub marks_then : (lines : ReversedLines) (level : ℕ) (a b c : Course) (la lb : List LoopRun) → Marks lines level a b la → Marks lines level b c lb → Marks lines level a c (lb ++ la)
marks_then lines level a b c la lb f g = record {
  opened = g.opened ∙ f.opened;
  told = g.told ++ f.told;
  events = g.events ∙ ap (λ z. g.told ++ z) f.events ∙ sym (append_assoc g.told f.told a.events);
  is = told_append level f.told g.told [] [] f.is g.is;
  loops_are = runs_in-append lines g.told f.told ∙ (λ i. g.loops_are i ++ f.loops_are i);
}

-- the program begins no reversal
pub tells_of_marks : (lines : ReversedLines) (level : ℕ) (a b : Course) (loops : List LoopRun) → Marks lines level a b loops → Tells level a b []
tells_of_marks lines level a b loops f = record { opened = f.opened; told = f.told; events = f.events; is = f.is }

-- the end of a marked loop at a line that isn't in the set
pub marks_other : (lines : ReversedLines) (level line turns snapshots : ℕ) (a b : Course) (loops : List LoopRun) → lines line ≡ None → Marks lines level a b loops → Marks lines level a (record { opened = b.opened; events = Marked line turns snapshots ∷ b.events }) loops
marks_other lines level line turns snapshots a b loops other f = record {
  opened = f.opened;
  told = Marked line turns snapshots ∷ f.told;
  events = ap (λ z. Marked line turns snapshots ∷ z) f.events;
  is = told_append level f.told (Marked line turns snapshots ∷ []) [] [] f.is (told_marked level line turns snapshots).told_is;
  loops_are = ap (λ o. with_run o (record { line = line; turns = turns; snapshots = snapshots }) (runs_in lines f.told)) other ∙ f.loops_are;
}

-- the end of a marked loop at a line of the set
pub marks_own : (lines : ReversedLines) (level : ℕ) (run : LoopRun) (a b : Course) (loops : List LoopRun) → lines run.mark.line ≡ Some run.step → Marks lines level a b loops → Marks lines level a (record { opened = b.opened; events = Marked run.mark.line run.mark.turns run.mark.snapshots ∷ b.events }) (run ∷ loops)
marks_own lines level run a b loops own f = record {
  opened = f.opened;
  told = Marked run.mark.line run.mark.turns run.mark.snapshots ∷ f.told;
  events = ap (λ z. Marked run.mark.line run.mark.turns run.mark.snapshots ∷ z) f.events;
  is = told_append level f.told (Marked run.mark.line run.mark.turns run.mark.snapshots ∷ []) [] [] f.is (told_marked level run.mark.line run.mark.turns run.mark.snapshots).told_is;
  loops_are = ap (λ o. with_run o run.mark (runs_in lines f.told)) own ∙ ap (λ z. run ∷ z) f.loops_are;
}

-- and in a sweep
pub tells_marked : (level line turns snapshots : ℕ) (a b : Course) (rs : List Reversal) → Tells level a b rs → Tells level a (record { opened = b.opened; events = Marked line turns snapshots ∷ b.events }) rs
tells_marked level line turns snapshots a b rs f = record {
  opened = f.opened;
  told = Marked line turns snapshots ∷ f.told;
  events = ap (λ z. Marked line turns snapshots ∷ z) f.events;
  is = subst (λ z. IsTold level (Marked line turns snapshots ∷ f.told) z) (append-nil rs) (told_append level f.told (Marked line turns snapshots ∷ []) rs [] f.is (told_marked level line turns snapshots).told_is);
}

-- a call: the entry of the unit, and what its body tells
pub tells_called : (level height : ℕ) (name : List ℕ) (shapes : List Shape) (base later : Course) (rs : List Reversal) → Tells (suc level) (record { opened = 0; events = Enter name (suc level) height shapes ∷ base.events }) later rs → Tells level base (record { opened = base.opened; events = later.events }) rs
tells_called level height name shapes base later rs f = record {
  opened = refl;
  told = f.told ++ (Enter name (suc level) height shapes ∷ []);
  events = f.events ∙ sym (append_assoc f.told (Enter name (suc level) height shapes ∷ []) base.events);
  is = (told_call level height name shapes f.told rs f.is).told_is;
}

-- with the calls that the caller makes by it
pub tells_entered : (level height : ℕ) (name : List ℕ) (shapes : List Shape) (base later : Course) (rs : List Reversal) → Tells (suc level) (record { opened = 0; events = Enter name (suc level) height shapes ∷ base.events }) later rs → TellsCalls level base (record { opened = base.opened; events = later.events }) (record { unit = name; height = height; shapes = shapes } ∷ []) rs
tells_entered level height name shapes base later rs f = record {
  opened = refl;
  told = f.told ++ (Enter name (suc level) height shapes ∷ []);
  events = f.events ∙ sym (append_assoc f.told (Enter name (suc level) height shapes ∷ []) base.events);
  is = told_call level height name shapes f.told rs f.is;
}

pub marks_called : (lines : ReversedLines) (level height : ℕ) (name : List ℕ) (shapes : List Shape) (base later : Course) (loops : List LoopRun) → Marks lines (suc level) (record { opened = 0; events = Enter name (suc level) height shapes ∷ base.events }) later loops → Marks lines level base (record { opened = base.opened; events = later.events }) loops
marks_called lines level height name shapes base later loops f = record {
  opened = refl;
  told = f.told ++ (Enter name (suc level) height shapes ∷ []);
  events = f.events ∙ sym (append_assoc f.told (Enter name (suc level) height shapes ∷ []) base.events);
  is = (told_call level height name shapes f.told [] f.is).told_is;
  loops_are = runs_in-append lines f.told (Enter name (suc level) height shapes ∷ []) ∙ append-nil (runs_in lines f.told) ∙ f.loops_are;
}

-- events in order of time are those of a run turned round
pub in_order-reverse : (es later : List Event) → in_order es later ≡ reverse es ++ later
in_order-reverse [] later = refl
in_order-reverse (e ∷ es) later = in_order-reverse es (e ∷ later) ∙ sym (append_assoc (reverse es) (e ∷ []) later) ∙ ap (λ z. z ++ later) (sym (reverse-append (e ∷ []) es))
