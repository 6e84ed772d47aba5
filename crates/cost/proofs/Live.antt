-- A query under way, and what is known of its account: steps and rest are the cells entered and what was found there; the cells entered and those to go are the walk;
-- each object with at most one update during it was met in three cells only, and they are those in which it may be met later too.
-- From this the bound: what was found is at most six times the objects known.
use mathlib.Core.Path.{◌≡◌, refl, sym, ap, ◌∙◌}
use mathlib.Core.Logic.{◌⊎◌, inl, inr, ⊎_elim}
use mathlib.Core.Bool.{Bool, true}
use mathlib.Core.List.{List, [], ◌∷◌, ◌++◌}
use Prim.Native.Nat.{ℕ, suc, ◌+◌, ◌*◌, ◌<◌, ◌≤◌}
use native.Mathlib.Omega.{arith}
use lib.Dec.{T}
use lib.ListN.{length, length-append}
use Rattle.base.specs.Lists.{In, Once, more, empty}
use Rattle.regions.specs.Region.{proper, walk, cells_touched}
use Rattle.layout.proofs.Order.{Ascending, ends, climbs}
use Rattle.regions.proofs.Walk.{walk_ascending, walk-length}
use Rattle.grid.specs.Run.{Grid}
use Rattle.base.specs.Sums.{bit}
use Rattle.base.proofs.Sums.{bit_or}
use Rattle.cost.specs.Account.{Tally, tally_of, Found, Sweep, total, visits, Bounded}
use Rattle.cost.proofs.Count.{times, times_once, times_append, Meets, also, meets_more, OneOf3, Within, only, within_other, few_found}
use Rattle.cost.proofs.Lies.{May}
use Rattle.cost.proofs.Match.{shift}

-- the cells that object k has, had or may come to have are these
pub record Three (g : Grid) (s : Sweep) (oss : List (List ℕ)) (k : ℕ) : Type 0 where
  pub a : ℕ
  pub b : ℕ
  pub c : ℕ
  pub may : (x : ℕ) → May g k x → OneOf3 a b c x
  pub within : Within k a b c s.entered oss
  pub two : s.updates k ≡ 0 → c ≡ a

pub record Live (y : Tally) (ks : List ℕ) (g : Grid) (s : Sweep) : Type 0 where
  pub steps : s.steps ≡ y.count
  pub account : s.steps + y.rest ≡ length s.entered + total s.entered
  pub walk : visits s.entered ++ y.cells ≡ walk s.question
  pub proper : proper s.question ≡ true
  pub objects : s.objects ≡ ks
  pub oss : List (List ℕ)
  pub meets : Meets ks s.entered oss
  pub three : (k : ℕ) → s.updates k ≤ 1 → Three g s oss k

-- ---- the bound

ascending_once : (l : List ℕ) → Ascending l → Once l
ascending_once _ ends = empty
ascending_once _ (climbs {a = a} {l = l} h r) = more (λ i. let w = h a i in omega arith) (ascending_once l r)

visits-length : (fs : List Found) → length (visits fs) ≡ length fs
unfolding visits
visits-length [] = refl
visits-length (f ∷ fs) = length-append (visits fs) (f.cell ∷ []) ∙ omega (arith, visits-length fs)

module _ {y : Tally} {ks : List ℕ} {g : Grid} {s : Sweep} (L : Live y ks g s) where
  -- K is the cells entered and those to go
  cells_all : length s.entered + length y.cells ≡ cells_touched s.question
  cells_all =
      let n = length-append (visits s.entered) y.cells in
      let m : length (visits s.entered ++ y.cells) ≡ cells_touched s.question = ap length L.walk ∙ walk-length s.question L.proper in
      omega (arith, visits-length s.entered)

  -- no cell is entered twice
  once : (c : ℕ) → times c (visits s.entered) ≤ 1
  once c =
      let n = times_append c (visits s.entered) y.cells in
      let m : times c (visits s.entered ++ y.cells) ≤ 1 = rw L.walk (times_once c (walk s.question) (ascending_once _ (walk_ascending s.question L.proper))) in
      omega arith

  total_few : ((k : ℕ) → s.updates k ≤ 1) → total s.entered ≤ 6 * length s.objects
  total_few h = rw L.objects (few_found ks L.meets once (λ k. let w = L.three k (h k) in (w.a, w.b, w.c, w.within)))

  -- what it has had, and what it still has before it
  within_bound : ((k : ℕ) → s.updates k ≤ 1) → s.steps + y.rest + length y.cells ≤ cells_touched s.question + 6 * length s.objects
  within_bound h = omega (arith, total_few h, cells_all, L.account)

  -- one that has something before it has had less
  pub live_bounded : 0 < length y.cells + y.rest → ((k : ℕ) → s.updates k ≤ 1) → Bounded s
  live_bounded n h = (omega (arith, within_bound h), λ e. absurd (omega (arith, within_bound h)))

-- ---- finished

pub record Closed (s : Sweep) : Type 0 where
  pub found : s.finished ≡ true → s.steps ≡ cells_touched s.question + total s.entered
  pub each : s.finished ≡ true → visits s.entered ≡ walk s.question
  pub bounded : ((k : ℕ) → s.updates k ≤ 1) → Bounded s

append_none : (l : List ℕ) → l ++ [] ≡ l
append_none [] = refl
append_none (x ∷ l) = ap (λ (m : List ℕ). x ∷ m) (append_none l)

pub closes : {y : Tally} {ks : List ℕ} {g : Grid} {s : Sweep} → Live y ks g s → y.cells ≡ [] → y.rest ≡ 0 → s.finished ≡ true → Closed s
closes {y} {s = s} L c r f =
    let none : length y.cells ≡ 0 = ap length c in
    record {
      found = λ _. omega (arith, cells_all L, L.account);
      each = λ _. sym (append_none (visits s.entered)) ∙ ap (λ (l : List ℕ). visits s.entered ++ l) (sym c) ∙ L.walk;
      bounded = λ h. (omega (arith, within_bound L h), λ e. f);
    }

-- ---- a call that is no step of it: others may begin an update (of an object that passes the test `new`, to cell c₀), and more objects may be known

pub live_aside : {y : Tally} {ks ks' : List ℕ} {g g' : Grid} {s : Sweep} (s' : Sweep) (new : ℕ → Bool) (c₀ : ℕ) → Live y ks g s
    → s'.question ≡ s.question → s'.steps ≡ s.steps → s'.entered ≡ s.entered → s'.objects ≡ ks' → ((k : ℕ) → s'.updates k ≡ s.updates k + bit (new k))
    → ((k : ℕ) → In k ks → In k ks') → ((k x : ℕ) → May g' k x → May g k x ⊎ (T (new k) × (x ≡ c₀))) → Live y ks' g' s'
live_aside {y} {ks} {ks'} {g} {g'} {s} s' new c₀ L u n e o up wider may =
    record {
      steps = n ∙ L.steps;
      account = rw (n, e) L.account;
      walk = rw (u, e) L.walk;
      proper = rw u L.proper;
      objects = o;
      oss = L.oss;
      meets = rw e (meets_more wider L.meets);
      three = three;
    }
  where
    -- an object whose update begins had none before: its third cell is the reported one
    third : (k : ℕ) → T (new k) → s.updates k ≡ 0 → (x : ℕ) → (t : Three g s L.oss k) → OneOf3 t.a t.b t.c x → OneOf3 t.a t.b c₀ x
    third k w z x t o = ⊎_elim (λ i. inl i) (λ (j : (x ≡ t.b) ⊎ (x ≡ t.c)). ⊎_elim (λ i. inr (inl i)) (λ i. inl (i ∙ t.two z)) j) o

    three : (k : ℕ) → s'.updates k ≤ 1 → Three g' s' L.oss k
    three k h = bit_or (new k)
        (λ w one.
        let z : s.updates k ≡ 0 = omega (arith, up k) in
        let t = L.three k (omega arith) in
        record {
          a = t.a;
          b = t.b;
          c = c₀;
          may = λ x m. ⊎_elim (λ p. third k w z x t (t.may x p)) (λ (p : T (new k) × (x ≡ c₀)). inr (inr p.1)) (may k x m);
          within = rw e (within_other (λ x p. third k w z x t p) t.within);
          two = λ q. absurd (omega (arith, up k));
        })
        (λ w none.
        let t = L.three k (omega (arith, up k)) in
        record {
          a = t.a;
          b = t.b;
          c = t.c;
          may = λ x m. ⊎_elim (λ p. t.may x p) (λ (p : T (new k) × (x ≡ c₀)). absurd (w p.0)) (may k x m);
          within = rw e t.within;
          two = λ q. t.two (omega (arith, up k));
        })

-- ---- its own steps

module _ {y : Tally} {ks : List ℕ} {g g' : Grid} {s : Sweep} (s' : Sweep) (L : Live y ks g s) (u : s'.question ≡ s.question) (n : s'.steps ≡ suc s.steps) (o : s'.objects ≡ ks)
    (up : (k : ℕ) → s'.updates k ≡ s.updates k) (may : (k x : ℕ) → May g' k x → May g k x) where
  -- in the cell
  pub live_rest : (r : ℕ) → y.rest ≡ suc r → s'.entered ≡ s.entered → Live (tally_of y.cells r (suc y.count)) ks g' s'
  live_rest r z e =
      record {
        steps = omega (arith, L.steps);
        account = rw e (omega (arith, L.account));
        walk = rw (u, e) L.walk;
        proper = rw u L.proper;
        objects = o;
        oss = L.oss;
        meets = rw e L.meets;
        three = λ k h.
            let t = L.three k (omega (arith, up k)) in
            record { a = t.a; b = t.b; c = t.c; may = λ x m. t.may x (may k x m); within = rw e t.within; two = λ q. t.two (omega (arith, up k)) };
      }

  -- to the next one, where the objects os are found
  pub live_enter : (f : Found) (rest : List ℕ) (os : List ℕ) → y.rest ≡ 0 → y.cells ≡ f.cell ∷ rest → s'.entered ≡ f ∷ s.entered
      → f.buckets ≤ f.tuples → length os ≡ f.tuples → Once os → ((k : ℕ) → In k os → In k ks) → ((k : ℕ) → In k os → May g k f.cell) → Live (tally_of rest (f.buckets + f.tuples) (suc y.count)) ks g' s'
  unfolding total visits
  live_enter f rest os z cells e most long one known here =
      record {
        steps = omega (arith, L.steps);
        account = rw e (omega (arith, L.account));
        walk = rw (u, e) (sym (shift (visits s.entered) f.cell rest) ∙ ap (λ (l : List ℕ). visits s.entered ++ l) (sym cells) ∙ L.walk);
        proper = rw u L.proper;
        objects = o;
        oss = os ∷ L.oss;
        meets = rw e (also most long one known L.meets);
        three = λ k h.
            let t = L.three k (omega (arith, up k)) in
            record { a = t.a; b = t.b; c = t.c; may = λ x m. t.may x (may k x m); within = rw e (only (λ i. t.may f.cell (here k i)) t.within); two = λ q. t.two (omega (arith, up k)) };
      }
