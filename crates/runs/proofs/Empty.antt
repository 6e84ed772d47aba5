-- The empty grid has what every grid of a run has: no bucket is in a chain, no object is known, nobody is under way.
use mathlib.Core.Path.{◌≡◌, refl, ap}
use mathlib.Core.Bool.{Bool, true, false}
use Rattle.std.specs.Prelude.{None}
use Prim.Native.Nat.{ℕ, zero, suc, ◌+◌, ◌*◌, ◌<◌, ◌≤◌}
use native.Mathlib.Omega.{arith}
use lib.Dec.{T, ltb}
use lib.IntN.{ℤ, pos, nat_abs}
use lib.ListN.{get_or, replicate, length-replicate}
use Rattle.base.specs.Outcome.{pick}
use Rattle.base.specs.Table.{at}
use Rattle.base.proofs.Table.{clash}
use Rattle.layout.specs.Place.{nowhere}
use Rattle.index.specs.Index.{empty as emptyIndex}
use Rattle.index.proofs.Map.{sound_empty, lookup_empty}
use Rattle.index.proofs.Known.{known_empty}
use Rattle.pool.specs.Pool.{fresh}
use Rattle.pool.proofs.Laws.{fresh_sound, fresh_has}
use Rattle.slots.specs.Tuple.{Tuple}
use Rattle.stage.specs.declared.Stage.TheVariants.{Idle}
use Rattle.tables.specs.Tables.{empty_tables}
use Rattle.updates.specs.Update.{idle_updater, idle_updaters}
use Rattle.queries.specs.Query.{idle_query, idle_queries}
use Rattle.grid.specs.Run.{empty_grid}
use Rattle.machine.specs.Machine.{St}
use Rattle.base.specs.Sums.{sum_below, bit}
use Rattle.cells.proofs.Chains.{in_pool, Links, Full, Loose}
use Rattle.cells.proofs.Empty.{links_empty}
use Rattle.tuples.proofs.Inv.{Bounded, Inv, Ok, cel_held, stage_holds_own, mov_held, stands_in_lem}
use Rattle.tuples.proofs.Main.{nothing, sel_none, draws_16}
use Rattle.runs.proofs.Bucket.{store, store_has, has_store, sound_store}
use Rattle.runs.proofs.Every.{Good}
use Rattle.runs.proofs.Going.{QueryOk}
use Rattle.runs.proofs.View.{view, tup_f, known_f, lock_f, places_f, scanner_f, Coded, Shape}

-- a table of one number reads as that number everywhere, if it is the default too
pub all_same : {A : Type 0} (n i : ℕ) (a : A) → get_or (replicate n a) i a ≡ a
all_same zero i a = refl
all_same (suc n) zero a = refl
all_same (suc n) (suc i) a = all_same n i a

-- and is nowhere above it
all_most : (n i a most : ℕ) → a ≤ most → at (replicate n a) i ≤ most
all_most zero i a most h = omega arith
all_most (suc n) zero a most h = h
all_most (suc n) (suc i) a most h = all_most n i a most h

-- ---- what the machine sees of it

record Blank (d : St) : Type 0 where
  pub links : Links (λ _. in_pool) (λ _. 0) d.first d.next
  pub full : Full (λ _. in_pool) (λ _. 0) d.count
  pub loose : Loose (λ _. in_pool) d.next d.count
  pub bounded : Bounded d.first d.next d.count
  pub readers : (b : ℕ) → d.readers b ≡ 0
  pub cells : (c : ℕ) → d.cell_lock c ≡ 0
  pub times : (b i : ℕ) → nat_abs (d.tup b i).time ≡ 0
  pub known : (k : ℕ) → d.known k ≡ false
  pub size : d.size ≡ 0
  pub lock : (k : ℕ) → d.lock k ≡ 0
  pub ent : (k : ℕ) → d.ent k ≡ record { cur = None; prev = None }
  pub clock : d.clock ≡ 0
  pub lanes : (l : ℕ) → (d.lanes l).stage ≡ Idle
  pub queries : (q : ℕ) → (d.queries q).bucket ≡ None

tuple_blank : (b i : ℕ) (t : Bool) → nat_abs (pick {A = Tuple} t (record { oid = at (replicate 2048 0) (4 * b + i); x = at (replicate 2048 0) (4 * b + i); y = at (replicate 2048 0) (4 * b + i); tag = at (replicate 2048 0) (4 * b + i); time = get_or (replicate 2048 (pos 0)) (4 * b + i) (pos 0) }) (record { oid = 0; x = 0; y = 0; tag = 0; time = pos 0 })).time ≡ 0
unfolding pick
tuple_blank b i true = ap nat_abs (all_same 2048 (4 * b + i) (pos 0))
tuple_blank b i false = refl

blank : Blank (view empty_grid)
unfolding view empty_grid empty_tables idle_updaters idle_queries tup_f known_f lock_f places_f scanner_f
blank =
    record {
      links = links_empty.links;
      full = links_empty.full;
      loose = links_empty.loose;
      bounded = record {
        firsts = λ c. all_most 256 c 512 512 (omega arith);
        nexts = λ b. all_most 512 b 512 512 (omega arith);
        counts = λ b. all_most 512 b 0 4 (omega arith);
      };
      readers = λ b. all_same 512 b 0;
      cells = λ c. all_same 256 c 0;
      times = λ b i. tuple_blank b i (ltb i 4);
      known = λ k. rw (lookup_empty k);
      size = known_empty;
      lock = λ k. rw (lookup_empty k);
      ent = λ k. rw (lookup_empty k);
      clock = refl;
      lanes = λ l. rw (all_same 8 l idle_updater);
      queries = λ q. rw (all_same 4 q idle_query);
    }

-- ---- the invariant

whole : (b : ℕ) → (store.Has fresh b → b < 512) × (b < 512 → store.Has fresh b)
whole b = (λ h. fresh_sound.below b (store_has fresh b h), λ h. has_store fresh b (fresh_has b h))

blank_inv : (d : St) → Blank d → d.pool ≡ fresh → Inv store nothing d
unfolding Ok cel_held stage_holds_own mov_held stands_in_lem sum_below bit
blank_inv d B pool =
    record {
      links = B.links;
      full = B.full;
      stored = rw pool (record { held = record { has = λ b t. refl; all = λ b b< o. (whole b).1 b< }; below = λ b t. (whole b).0 t; fine = sound_store fresh fresh_sound });
      slots = record { back = λ κ k p e. absurd (sel_none κ p e); forth = λ b c h i o lt. clash (cc); apart = λ κ κ' k p e e'. absurd (sel_none κ p e) };
      fits = record {
        fit = λ k. record {
          curs = λ p e. clash (cc);
          news = λ p e. clash (cc);
          prevs = λ p e b. clash (cc);
          unflagged = λ p e b. clash (cc);
          far = λ p q e e'. clash (cc);
          pair = λ q e. clash (cc);
        };
      };
      free = record { free = λ k e. rw (B.ent k) };
      ok = λ l l<. rw (B.lanes l) tt;
      ranks = record { rank = λ _. 0; low = λ k t. absurd (rw (B.known k) at t); one = λ j k t. absurd (rw (B.known j) at t); most = omega (arith, B.size) };
      ticks = record { left = omega (arith, B.clock, draws_16 d.lanes) };
      young = record { range = λ b i. omega (arith, B.times b i); young = λ b i _. omega (arith, B.times b i); heard = λ b i h. absurd (omega (arith, B.times b i)) };
      loose = B.loose;
      bounded = B.bounded;
      reading = record { exact = λ b. rw (B.readers b, B.queries 0, B.queries 1, B.queries 2, B.queries 3); standing = λ q b q< e. let n = B.queries q in clash (cc) };
      placed = record { inside = λ b c h i o lt. clash (cc) };
      written = record { filled = λ l l< p e. let n = B.lanes l in clash (cc) };
      lanes = record { fine = λ l l< n. absurd (n (B.lanes l)) };
      cells = record { mine = λ l l< t. absurd (rw (B.lanes l) at t); his = λ c l e. absurd (omega (arith, B.cells c)) };
      objs = record { own = λ l l< t. absurd (rw (B.lanes l) at t); mov = λ l l< t. absurd (rw (B.lanes l) at t); his = λ k l e. absurd (omega (arith, B.lock k)) };
      filled = record { filled = λ b c h o. clash (cc) };
      back = record { lane = λ b l c h o. clash (cc) };
    }

empty_coded : Coded emptyIndex
unfolding emptyIndex
empty_coded = record {
  current = λ i. all_most 512 i nowhere 524288 (omega arith);
  previous = λ i. all_most 512 i nowhere 524288 (omega arith);
  lock = λ i. all_most 512 i 0 8 (omega arith);
}

empty_shape : Shape empty_grid
unfolding empty_grid empty_tables idle_updaters idle_queries
empty_shape =
    record {
      lengths =
          record {
            first = length-replicate {A = ℕ} 256 512;
            cells = length-replicate {A = ℕ} 256 0;
            count = length-replicate {A = ℕ} 512 0;
            next = length-replicate {A = ℕ} 512 512;
            readers = length-replicate {A = ℕ} 512 0;
            owners = length-replicate {A = ℕ} 2048 0;
            xs = length-replicate {A = ℕ} 2048 0;
            ys = length-replicate {A = ℕ} 2048 0;
            tags = length-replicate {A = ℕ} 2048 0;
            times = length-replicate {A = ℤ} 2048 (pos 0);
            oids = sound_empty.oid_length;
            locks = sound_empty.lock_length;
            current = sound_empty.current-length;
            previous = sound_empty.previous_length;
            pool = fresh_sound.sized;
            hits = length-replicate {A = ℕ} 1024 0;
            hitxs = length-replicate {A = ℕ} 1024 0;
            hitys = length-replicate {A = ℕ} 1024 0;
            hittags = length-replicate {A = ℕ} 1024 0;
          };
      updaters = length-replicate 8 idle_updater;
      queries = length-replicate 4 idle_query;
      index = sound_empty;
      coded = empty_coded;
    }

fresh_pool : (view empty_grid).pool ≡ fresh
unfolding view empty_grid empty_tables
fresh_pool = refl

-- THE EMPTY GRID is good.
pub empty_good : Good empty_grid
unfolding empty_grid empty_tables idle_queries QueryOk
empty_good =
    record {
      shape = empty_shape;
      ghost = nothing;
      inv = blank_inv (view empty_grid) blank fresh_pool;
      asks = λ q q<. rw (all_same 4 q idle_query) tt;
    }

-- no object is known
pub empty_unknown : (k : ℕ) → T ((view empty_grid).known k) → ⊥
empty_unknown k t = rw (blank.known k) at t
